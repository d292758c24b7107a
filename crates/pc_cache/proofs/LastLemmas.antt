-- The last of some blocks, to which lines are added, and the others.
use Rattle.std.proofs.Common.{◌≡◌, ℕ, zero, suc, ◌+◌, ◌<◌, ◌≤◌, ◌⊎◌, inl, inr, List, [], ◌∷◌, ◌++◌, Option, Some, length, get_or, set, slice_get, refl, sym, ap, ◌∙◌, subst, arith, All}
use Rattle.std.proofs.lemmas.List.Elements.{All-contains}
use Rattle.std.proofs.lemmas.List.Sums.{sum_by-cons}
use Rattle.std.proofs.lemmas.Option.{slice_get-get_or}
use Rattle.pc_log.specs.Lines.{LogLine, AxiomLine}
use Rattle.pc_log.specs.Sizes.{bytes_of}
use Rattle.pc_log.specs.Sparse.{bytes_there, line_at, AddsOnly, MayStand}
use Rattle.pc_log.proofs.SparseLemmas.{bytes_of_log_there}
use Rattle.pc_cache.specs.Patches.{PatchView, patch_bytes, AreOfLog}
use Rattle.pc_cache.specs.inside.Kept.{block_at, bytes_of_blocks}
use Rattle.pc_cache.specs.inside.Patched.{last_in, settled_in, ShareBlock}
use Rattle.pc_cache.proofs.BlockLemmas.{block_read, no_line}
use Rattle.pc_cache.proofs.SlotLemmas.{nothing_left}

pub all_bytes : (blocks : List (List (Option LogLine))) → settled_in blocks + bytes_there (last_in blocks) ≡ bytes_of_blocks blocks
all_bytes [] = refl
all_bytes (x ∷ []) = omega (arith, sum_by-cons bytes_there x [])
all_bytes (x ∷ y ∷ zs) = omega (arith, sum_by-cons bytes_there x (y ∷ zs), all_bytes (y ∷ zs))

pub last_is : (blocks : List (List (Option LogLine))) (b : ℕ) → b + 1 ≡ length blocks → block_at blocks b ≡ last_in blocks
last_is [] b at = absurd (omega (arith, at))
last_is (x ∷ []) zero at = refl
last_is (x ∷ []) (suc b) at = absurd (omega (arith, at))
last_is (x ∷ y ∷ zs) zero at = absurd (omega (arith, at))
last_is (x ∷ y ∷ zs) (suc b) at = last_is (y ∷ zs) b (omega (arith, at))

pub none_last : (blocks : List (List (Option LogLine))) → length blocks ≡ 0 → last_in blocks ≡ []
none_last blocks none = ap last_in (nothing_left blocks none)

-- the last block, as it is read
pub read_last : (blocks : List (List (Option LogLine))) (b : ℕ) (block : List (Option LogLine)) → b + 1 ≡ length blocks → block ≡ get_or blocks b block → block ≡ last_in blocks
read_last blocks b block at read = block_read blocks b block (omega (arith, at)) read ∙ last_is blocks b at

-- ---- an empty block more

pub last_push : (blocks : List (List (Option LogLine))) (x : List (Option LogLine)) → last_in (blocks ++ x ∷ []) ≡ x
last_push [] x = refl
last_push (y ∷ []) x = refl
last_push (y ∷ z ∷ zs) x = last_push (z ∷ zs) x

pub settled_push : (blocks : List (List (Option LogLine))) (x : List (Option LogLine)) → settled_in (blocks ++ x ∷ []) ≡ bytes_of_blocks blocks
settled_push [] x = refl
settled_push (y ∷ []) x = omega (arith, sum_by-cons bytes_there y [])
settled_push (y ∷ z ∷ zs) x = omega (arith, settled_push (z ∷ zs) x, sum_by-cons bytes_there y (z ∷ zs))

-- where nothing was put into the last one, all is settled
pub settled_all : (blocks : List (List (Option LogLine))) → last_in blocks ≡ [] → settled_in blocks ≡ bytes_of_blocks blocks
settled_all blocks none = let nothing : bytes_there (last_in blocks) ≡ 0 = ap bytes_there none in omega (arith, all_bytes blocks, nothing)

-- ---- lines that are added to the last block

last_set : (blocks : List (List (Option LogLine))) (b : ℕ) (x : List (Option LogLine)) → b + 1 ≡ length blocks → last_in (set blocks b x) ≡ x
last_set [] b x at = absurd (omega (arith, at))
last_set (y ∷ []) zero x at = refl
last_set (y ∷ []) (suc b) x at = absurd (omega (arith, at))
last_set (y ∷ z ∷ zs) zero x at = absurd (omega (arith, at))
last_set (y ∷ z ∷ []) (suc zero) x at = refl
last_set (y ∷ z ∷ []) (suc (suc b)) x at = absurd (omega (arith, at))
last_set (y ∷ z ∷ w ∷ ws) (suc zero) x at = absurd (omega (arith, at))
last_set (y ∷ z ∷ w ∷ ws) (suc (suc b)) x at = last_set (z ∷ w ∷ ws) (suc b) x (omega (arith, at))

settled_set : (blocks : List (List (Option LogLine))) (b : ℕ) (x : List (Option LogLine)) → b + 1 ≡ length blocks → settled_in (set blocks b x) ≡ settled_in blocks
settled_set [] b x at = absurd (omega (arith, at))
settled_set (y ∷ []) zero x at = refl
settled_set (y ∷ []) (suc b) x at = absurd (omega (arith, at))
settled_set (y ∷ z ∷ zs) zero x at = absurd (omega (arith, at))
settled_set (y ∷ z ∷ []) (suc zero) x at = refl
settled_set (y ∷ z ∷ []) (suc (suc b)) x at = absurd (omega (arith, at))
settled_set (y ∷ z ∷ w ∷ ws) (suc zero) x at = absurd (omega (arith, at))
settled_set (y ∷ z ∷ w ∷ ws) (suc (suc b)) x at = ap (λ (n : ℕ). bytes_there y + n) (settled_set (z ∷ w ∷ ws) (suc b) x (omega (arith, at)))

still_of_log : (log : List LogLine) (places : List ℕ) (old new : List (Option LogLine)) → All (λ p. p < length log) places → AddsOnly (line_at log) places old new → AreOfLog old log → AreOfLog new log
still_of_log log places old new within adds of i line at =
    elim (adds i line at) [
      | inl before ↦ of i line before
      | inr (has, is) ↦ slice_get-get_or log i (AxiomLine 0) (All-contains (λ (p : ℕ). p < length log) places i within has) ∙ ap Some (sym is)
    ]

pub share_put : (log : List LogLine) (places : List ℕ) (blocks : List (List (Option LogLine))) (b : ℕ) (read block : List (Option LogLine)) → b + 1 ≡ length blocks → read ≡ get_or blocks b read
    → All (λ p. p < length log) places → AddsOnly (line_at log) places read block → ShareBlock log blocks (set blocks b block)
share_put log places blocks b read block at is within adds of = (
  settled_set blocks b block at,
  subst (λ (ls : List (Option LogLine)). AreOfLog ls log) (sym (last_set blocks b block at))
      (still_of_log log places read block within adds (subst (λ (ls : List (Option LogLine)). AreOfLog ls log) (sym (read_last blocks b read at is)) of)),
)

-- ---- which block is taken

pub share_same : (log : List LogLine) (blocks : List (List (Option LogLine))) → ShareBlock log blocks blocks
share_same log blocks of = (refl, of)

pub share_trans : (log : List LogLine) (a b c : List (List (Option LogLine))) → ShareBlock log a b → ShareBlock log b c → ShareBlock log a c
share_trans log a b c one two of = ((two (one of).1).0 ∙ (one of).0, (two (one of).1).1)

may_stand_of : (log : List LogLine) (places : List ℕ) (lines : List (Option LogLine)) → All (λ p. p < length log) places → AreOfLog lines log → MayStand (line_at log) places lines
may_stand_of log places lines within of i has other at =
    some_line other (line_at log i) (sym (of i other at) ∙ slice_get-get_or log i (AxiomLine 0) (All-contains (λ (p : ℕ). p < length log) places i within has))
  where
    some_line : (x y : LogLine) → Some x ≡ Some y → x ≡ y
    some_line x y same = cc

nothing_of : (log : List LogLine) → AreOfLog [] log
nothing_of log i line at = absurd (no_line line at)

-- another block is begun where there is none, or other lines stand in the last one
pub share_begun : (log : List LogLine) (places : List ℕ) (blocks new : List (List (Option LogLine))) → All (λ p. p < length log) places → (blocks ≡ []) ⊎ ¬ MayStand (line_at log) places (last_in blocks)
    → new ≡ blocks ++ [] ∷ [] → ShareBlock log blocks new
share_begun log places blocks new within (inl none) begun of =
    let all : new ≡ [] ∷ [] = begun ∙ ap (λ (bs : List (List (Option LogLine))). bs ++ [] ∷ []) none in (
      ap settled_in all ∙ sym (ap settled_in none),
      subst (λ (ls : List (Option LogLine)). AreOfLog ls log) (sym (ap last_in all)) (nothing_of log),
    )
share_begun log places blocks new within (inr other) begun of = absurd (other (may_stand_of log places (last_in blocks) within of))

pub free_not : (log : List LogLine) (places : List ℕ) (blocks : List (List (Option LogLine))) (b : ℕ) (block : List (Option LogLine)) → b + 1 ≡ length blocks → block ≡ get_or blocks b block
    → ¬ MayStand (line_at log) places block → ¬ MayStand (line_at log) places (last_in blocks)
free_not log places blocks b block at read not = subst (λ (ls : List (Option LogLine)). ¬ MayStand (line_at log) places ls) (read_last blocks b block at read) not

-- ---- what lines of a log count for

pub few_of_log : (p : PatchView) (log : List LogLine) → AreOfLog p.last log → patch_bytes p ≤ p.settled + bytes_of log
few_of_log p log of = omega (arith, bytes_of_log_there p.last log of)
