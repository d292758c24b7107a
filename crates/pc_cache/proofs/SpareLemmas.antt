-- Where rows rest on all lines that are kept and on no other, none of these is to spare, and the others are.
use Rattle.std.proofs.Common.{◌≡◌, ℕ, zero, suc, ◌+◌, ◌<◌, inl, inr, ◌⊎◌, Bool, true, false, cond, ◌&&◌, eqb, eq-eqb, eqb-true, List, [], ◌∷◌, ◌++◌, Contains, Option, Some, None, length, refl, sym, ap, subst, ◌∙◌, arith}
use Rattle.pc_log.specs.Lines.{LogLine}
use Rattle.std.proofs.lemmas.List.Sums.{sum_by-cons}
use Rattle.pc_log.specs.Sparse.{bytes_or, bytes_there, line_there, IsThere}
use Rattle.pc_cache.specs.inside.Kept.{block_at, bytes_of_blocks, AreRowsIn, IsRowIn, KeepsBlocks}
use Rattle.pc_cache.specs.inside.Rested.{AreNeeded}
use Rattle.pc_cache.specs.inside.Spare.{is_place_among, is_rested_on, rests_on_place, spare_from, spare_in}
use Rattle.pc_cache.specs.declared.row.Row.{Row}
use Rattle.pc_cache.specs.declared.row.Slot.{Slot}

among : (i : ℕ) (places : List ℕ) → Contains places i → is_place_among i places ≡ true
among i [] (k, low, same) = absurd (omega (arith, low))
among i (p ∷ ps) (zero, low, same) = ap (λ (b : Bool). cond b true (is_place_among i ps)) (eq-eqb p i same)
among i (p ∷ ps) (suc k, low, same) = elim (eqb p i) as (λ b. cond b true (is_place_among i ps) ≡ true) [ true ↦ refl | false ↦ among i ps (k, omega (arith, low), same) ]

pub rests_there : (r : Row) (b i : ℕ) → b ≡ r.block → Contains r.places i → rests_on_place (Some r) b i ≡ true
rests_there r b i same has = ap (λ (t : Bool). t && is_place_among i r.places) (eq-eqb r.block b (omega (arith, same))) ∙ among i r.places has

pub rested_push : (slots : List Slot) (s : Slot) (b i : ℕ) → (is_rested_on slots b i ≡ true) ⊎ (rests_on_place s.row b i ≡ true) → is_rested_on (slots ++ s ∷ []) b i ≡ true
rested_push [] s b i (inl before) = absurd (cc before)
rested_push [] s b i (inr here) = ap (λ (t : Bool). cond t true false) here
rested_push (x ∷ xs) s b i (inl before) =
    elim (rests_on_place x.row b i) as (λ t. cond t true (is_rested_on xs b i) ≡ true → cond t true (is_rested_on (xs ++ s ∷ []) b i) ≡ true) [
      | true ↦ λ _. refl
      | false ↦ λ rest. rested_push xs s b i (inl rest)
    ] before
rested_push (x ∷ xs) s b i (inr here) =
    elim (rests_on_place x.row b i) as (λ t. cond t true (is_rested_on (xs ++ s ∷ []) b i) ≡ true) [ true ↦ refl | false ↦ rested_push xs s b i (inr here) ]

none_from : (slots : List Slot) (b i : ℕ) (lines : List (Option LogLine)) → ((k n : ℕ) (line : LogLine) → n ≡ i + k → line_there lines k ≡ Some line → is_rested_on slots b n ≡ true) → spare_from slots b i lines ≡ 0
none_from slots b i [] needed = refl
none_from slots b i (None ∷ ls) needed =
    elim (is_rested_on slots b i) as (λ t. cond t 0 0 + spare_from slots b (suc i) ls ≡ 0) [
      | true ↦ omega (arith, none_from slots b (suc i) ls (λ k n line at there. needed (suc k) n line (omega (arith, at)) there))
      | false ↦ omega (arith, none_from slots b (suc i) ls (λ k n line at there. needed (suc k) n line (omega (arith, at)) there))
    ]
none_from slots b i (Some line ∷ ls) needed =
    let first : cond (is_rested_on slots b i) 0 (bytes_or (Some line)) ≡ 0 = ap (λ (t : Bool). cond t 0 (bytes_or (Some line))) (needed 0 i line (omega arith) refl) in
    omega (arith, first, none_from slots b (suc i) ls (λ k n other at there. needed (suc k) n other (omega (arith, at)) there))

none_in : (slots : List Slot) (b : ℕ) (blocks : List (List (Option LogLine))) → ((c n i : ℕ) (line : LogLine) → n ≡ b + c → line_there (block_at blocks c) i ≡ Some line → is_rested_on slots n i ≡ true) → spare_in slots b blocks ≡ 0
none_in slots b [] needed = refl
none_in slots b (x ∷ xs) needed =
    omega (
      arith,
      none_from slots b 0 x (λ k n line at there. needed 0 b n line (omega arith) (ap (λ (m : ℕ). line_there x m) (omega (arith, at)) ∙ there)),
      none_in slots (suc b) xs (λ c n i line at there. needed (suc c) n i line (omega (arith, at)) there),
    )

pub none_spare : (kept : List (List (Option LogLine))) (slots : List Slot) → AreNeeded kept slots → spare_in slots 0 kept ≡ 0
none_spare kept slots needed =
    none_in slots 0 kept (λ c n i line at there. let same : n ≡ c = omega (arith, at) in needed n i line (ap (λ (m : ℕ). line_there (block_at kept m) i) same ∙ there))

-- ---- what is kept, and what is to spare

among_has : (i : ℕ) (places : List ℕ) → is_place_among i places ≡ true → Contains places i
among_has i [] is = absurd (cc is)
among_has i (p ∷ ps) is =
    elim (eqb p i) as (λ b. eqb p i ≡ b → cond b true (is_place_among i ps) ≡ true → Contains (p ∷ ps) i) [
      | true ↦ λ same rest. (0, omega arith, eqb-true p i same)
      | false ↦ λ differ rest. let later = among_has i ps rest in (suc later.0, omega (arith, later.1), later.2)
    ] refl is

both : (a b : Bool) → (a && b) ≡ true → (a ≡ true) × (b ≡ true)
both true b is = (refl, is)
both false b is = absurd (cc is)

row_has : (kept : List (List (Option LogLine))) (row : Option Row) (b i : ℕ) → IsRowIn kept row → rests_on_place row b i ≡ true → IsThere (block_at kept b) i
row_has kept None b i is rests = absurd (cc rests)
row_has kept (Some r) b i is rests =
    let told = both (eqb r.block b) (is_place_among i r.places) rests in
    subst (λ (n : ℕ). IsThere (block_at kept n) i) (eqb-true r.block b told.0) (is.1.there i (among_has i r.places told.1))

rows_have : (kept : List (List (Option LogLine))) (slots : List Slot) (b i : ℕ) → AreRowsIn kept slots → is_rested_on slots b i ≡ true → IsThere (block_at kept b) i
rows_have kept [] b i are rests = absurd (cc rests)
rows_have kept (s ∷ ss) b i are rests =
    elim (rests_on_place s.row b i) as (λ t. rests_on_place s.row b i ≡ t → cond t true (is_rested_on ss b i) ≡ true → IsThere (block_at kept b) i) [
      | true ↦ λ here rest. row_has kept s.row b i are.0 here
      | false ↦ λ other rest. rows_have kept ss b i are.1 rest
    ] refl rests

-- what stands there is kept where some row rests on it
abbrev IsKeptPart : List Slot → ℕ → ℕ → List (Option LogLine) → List (Option LogLine) → Type 0
IsKeptPart slots b i kept all = (k n : ℕ) → n ≡ i + k → line_there kept k ≡ cond (is_rested_on slots b n) (line_there all k) None

no_line : (line : LogLine) → None ≡ Some line → ⊥
no_line line same = cc

kept_part : (blocks kept : List (List (Option LogLine))) (slots : List Slot) → KeepsBlocks kept blocks → AreRowsIn kept slots → AreNeeded kept slots → (b : ℕ) → b < length kept → IsKeptPart slots b 0 (block_at kept b) (block_at blocks b)
kept_part blocks kept slots part are needed b low k n at =
    let same : n ≡ k = omega (arith, at) in
    here (line_there (block_at kept b) k) (is_rested_on slots b k) refl refl ∙ ap (λ (m : ℕ). cond (is_rested_on slots b m) (line_there (block_at blocks b) k) None) (sym same)
  where
    here : (o : Option LogLine) (t : Bool) → line_there (block_at kept b) k ≡ o → is_rested_on slots b k ≡ t → line_there (block_at kept b) k ≡ cond (is_rested_on slots b k) (line_there (block_at blocks b) k) None
    here (Some line) t there rests =
        there ∙ sym (part.1 b low k line there) ∙ ap (λ (u : Bool). cond u (line_there (block_at blocks b) k) None) (sym (needed b k line there))
    here None true there rests = let has = rows_have kept slots b k are rests in absurd (no_line has.0 (sym there ∙ has.1))
    here None false there rests = there ∙ ap (λ (u : Bool). cond u (line_there (block_at blocks b) k) None) (sym rests)

one_line : (t : Bool) (x y : Option LogLine) → x ≡ cond t y None → bytes_or x + cond t 0 (bytes_or y) ≡ bytes_or y
one_line true x y same = omega (arith, ap bytes_or same)
one_line false x y same = omega (arith, ap bytes_or same)

part_bytes : (slots : List Slot) (b i : ℕ) (kept all : List (Option LogLine)) → IsKeptPart slots b i kept all → bytes_there kept + spare_from slots b i all ≡ bytes_there all
part_bytes slots b i [] [] is = refl
part_bytes slots b i (x ∷ xs) [] is =
    omega (
      arith,
      sum_by-cons bytes_or x xs,
      one_line (is_rested_on slots b i) x None (is 0 i (omega arith)),
      part_bytes slots b (suc i) xs [] (λ k n at. is (suc k) n (omega (arith, at))),
    )
part_bytes slots b i [] (y ∷ ys) is =
    omega (
      arith,
      sum_by-cons bytes_or y ys,
      one_line (is_rested_on slots b i) None y (is 0 i (omega arith)),
      part_bytes slots b (suc i) [] ys (λ k n at. is (suc k) n (omega (arith, at))),
    )
part_bytes slots b i (x ∷ xs) (y ∷ ys) is =
    omega (
      arith,
      sum_by-cons bytes_or x xs,
      sum_by-cons bytes_or y ys,
      one_line (is_rested_on slots b i) x y (is 0 i (omega arith)),
      part_bytes slots b (suc i) xs ys (λ k n at. is (suc k) n (omega (arith, at))),
    )

all_parts : (slots : List Slot) (b : ℕ) (kept blocks : List (List (Option LogLine))) → length kept ≡ length blocks → ((c n : ℕ) → n ≡ b + c → c < length kept → IsKeptPart slots n 0 (block_at kept c) (block_at blocks c))
    → bytes_of_blocks kept + spare_in slots b blocks ≡ bytes_of_blocks blocks
all_parts slots b [] [] count is = refl
all_parts slots b [] (y ∷ ys) count is = absurd (omega (arith, count))
all_parts slots b (x ∷ xs) [] count is = absurd (omega (arith, count))
all_parts slots b (x ∷ xs) (y ∷ ys) count is =
    omega (
      arith,
      sum_by-cons bytes_there x xs,
      sum_by-cons bytes_there y ys,
      part_bytes slots b 0 x y (is 0 b (omega arith) (omega arith)),
      all_parts slots (suc b) xs ys (omega (arith, count)) (λ c n at low. is (suc c) n (omega (arith, at)) (omega (arith, low))),
    )

pub kept_bytes : (blocks kept : List (List (Option LogLine))) (slots : List Slot) → length kept ≡ length blocks → KeepsBlocks kept blocks → AreRowsIn kept slots → AreNeeded kept slots
    → bytes_of_blocks kept + spare_in slots 0 blocks ≡ bytes_of_blocks blocks
kept_bytes blocks kept slots count part are needed =
    all_parts slots 0 kept blocks count (λ c n at low.
    let same : n ≡ c = omega (arith, at) in
    subst (λ (m : ℕ). IsKeptPart slots m 0 (block_at kept c) (block_at blocks c)) (sym same) (kept_part blocks kept slots part are needed c low))
