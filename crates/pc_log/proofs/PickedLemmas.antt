-- Derivations among lines with gaps.
use Rattle.std.proofs.Common.{◌≡◌, ◌≢◌, ℕ, zero, suc, ◌+◌, ◌<◌, ◌≤◌, List, [], ◌∷◌, Option, Some, None, map, length, get_or, set, refl, sym, ap, ◌∙◌, subst, arith, AllPairs, Contains, Result, Ok, Err, IfOk, Vec}
use Rattle.std.specs.Option.{option_map}
use Rattle.std.proofs.lemmas.List.{length-map, get_or-set_other}
use Rattle.std.proofs.lemmas.List.Elements.{Contains-get_or}
use Rattle.std.proofs.lemmas.List.Sums.{sum_by-cons}
use Rattle.std.proofs.lemmas.Option.{slice_get-map, slice_get-get_or}
use Rattle.pc_log.specs.declared.log.StepId.{StepId}
use Rattle.pc_log.specs.Lines.{LogLine, AxiomLine, BlockLine, StepLine, hints_of}
use Rattle.pc_log.specs.Rests.{on_hint, HasHint}
use Rattle.pc_log.specs.Sizes.{bytes_of, line_bytes}
use Rattle.pc_log.specs.Sparse.{bytes_or, bytes_there, index_of, line_at, line_in, line_or, line_there, picked, picked_from, AreRested, IsPicked, IsThere, Keeps, LinesStand}
use Rattle.pc_log.specs.Trimmed.{moved, IsTrimmed}
use Rattle.pc_log.specs.inside.Reached.{new_place, renumbered}
use Rattle.pc_log.proofs.AppendLemmas.{map_agree, rises}
use Rattle.pc_log.proofs.SizeLemmas.{bytes-cons, bytes_of_moved}
use Rattle.pc_log.proofs.SparseLemmas.{line_in_is, no_line}
use Rattle.pc_log.proofs.TrimmedLemmas.{trimmed_by}

-- where two sources have the same lines at the places, the same is picked
pub picked_same : (one other : ℕ → LogLine) (places : List ℕ) → ((i : ℕ) → Contains places i → one i ≡ other i) → picked_from one places ≡ picked_from other places
picked_same one other places same =
    map_agree (λ i. moved (λ h. index_of h places) (one i)) (λ i. moved (λ h. index_of h places) (other i)) places
    (λ k d below. ap (moved (λ h. index_of h places)) (same (get_or places k d) (Contains-get_or places k d below)))

moved_agree : (f g : ℕ → ℕ) → ((n : ℕ) → f n ≡ g n) → (line : LogLine) → moved f line ≡ moved g line
moved_agree f g same (AxiomLine number) = refl
moved_agree f g same (BlockLine number clause) = refl
moved_agree f g same (StepLine clause hints learned) =
    let make : ℕ → StepId = λ n. record { 0 = n } in
    ap (λ (hs : List StepId). StepLine clause hs learned) (map_agree (λ (h : StepId). make (f h.0)) (λ (h : StepId). make (g h.0)) hints (λ k d below. ap make (same (get_or hints k d).0)))

picked_renumbered : (log : List LogLine) (places : List ℕ) → picked_from (line_at log) places ≡ renumbered log places 0
picked_renumbered log places =
    map_agree (λ i. moved (λ h. index_of h places) (line_at log i)) (λ i. moved (new_place places 0) (line_at log i)) places
    (λ k d below. moved_agree (λ h. index_of h places) (new_place places 0) (λ n. let e : index_of n places ≡ 0 + index_of n places = omega arith in e) (line_at log (get_or places k d)))

-- the lines that a log's line rests on, as they stand at their places
module _ (log : List LogLine) (last : ℕ) (places : List ℕ) (lines : List (Option LogLine)) (within : last < length log) (rested : AreRested log last places) (stand : LinesStand (line_at log) places lines) where
  line_is : (i : ℕ) → Contains places i → line_in lines i ≡ line_at log i
  line_is i has = line_in_is lines i (line_at log i) (stand i has)

  hint_of_log : (i h : ℕ) → i < length log → Contains (hints_of (line_at log i)) (record { 0 = h }) → HasHint log i h
  hint_of_log i h below has = (hints_of (line_at log i), slice_get-map hints_of log i ∙ ap (option_map hints_of) (slice_get-get_or log i (AxiomLine 0) below), has)

  pub picked_are : IsPicked lines places
  picked_are = record {
    there = λ i has. (line_at log i, stand i has);
    rise = rested.rise;
    closed = λ i h has hint.
        let found : HasHint log i h = hint_of_log i h (omega (arith, rested.up_to i has, within)) (subst (λ (l : LogLine). Contains (hints_of l) (record { 0 = h })) (line_is i has) hint) in
        (rested.exactly h).1 (on_hint i h ((rested.exactly i).0 has) found);
  }

  pub picked_trimmed : IsTrimmed log last [] (picked lines places)
  picked_trimmed = trimmed_by log last [] (picked lines places) places within rested (picked_same (line_in lines) (line_at log) places line_is ∙ picked_renumbered log places)

-- and stay, where lines are added
pub picked_stays : (old new : List (Option LogLine)) (places : List ℕ) → Keeps old new → IsPicked old places → IsPicked new places × (picked new places ≡ picked old places)
picked_stays old new places keeps is = (
  record {
    there = λ i has. let at = is.there i has in (at.0, keeps i at.0 at.1);
    rise = is.rise;
    closed = λ i h has hint. is.closed i h has (subst (λ (l : LogLine). Contains (hints_of l) (record { 0 = h })) (line_same i has) hint);
  },
  picked_same (line_in new) (line_in old) places line_same,
)
  where
    line_same : (i : ℕ) → Contains places i → line_in new i ≡ line_in old i
    line_same i has = let at = is.there i has in line_in_is new i at.0 (keeps i at.0 at.1) ∙ sym (line_in_is old i at.0 at.1)

pub picked_length : (source : ℕ → LogLine) (places : List ℕ) → length (picked_from source places) ≡ length places
picked_length source places = length-map places (λ i. moved (λ h. index_of h places) (source i))

-- what is picked of a list is picked of a part of it too that has these lines
pub picked_part : (whole part : List (Option LogLine)) (places : List ℕ) → LinesStand (line_in whole) places part → IsPicked whole places → IsPicked part places × (picked part places ≡ picked whole places)
picked_part whole part places stand is = (
  record {
    there = λ i has. (line_in whole i, stand i has);
    rise = is.rise;
    closed = λ i h has hint. is.closed i h has (subst (λ (l : LogLine). Contains (hints_of l) (record { 0 = h })) (same i has) hint);
  },
  picked_same (line_in part) (line_in whole) places same,
)
  where
    same : (i : ℕ) → Contains places i → line_in part i ≡ line_in whole i
    same i has = line_in_is part i (line_in whole i) (stand i has)

-- the lines that are picked count for what they count for where they stand
pub picked_bytes : (source : ℕ → LogLine) (places : List ℕ) → bytes_of (picked_from source places) ≡ bytes_of (map source places)
picked_bytes source places = all places
  where
    all : (ps : List ℕ) → bytes_of (map (λ i. moved (λ h. index_of h places) (source i)) ps) ≡ bytes_of (map source ps)
    all [] = refl
    all (p ∷ ps) =
        omega (
          arith,
          bytes-cons (moved (λ h. index_of h places) (source p)) (map (λ i. moved (λ h. index_of h places) (source i)) ps),
          bytes-cons (source p) (map source ps),
          bytes_of_moved (λ h. index_of h places) (source p),
          all ps,
        )

-- ---- lines that are picked stand among all, each once

gap_there : (lines : List (Option LogLine)) (i : ℕ) (line : LogLine) → line_there lines i ≡ Some line → bytes_there lines ≡ bytes_there (set lines i None) + line_bytes line
gap_there [] i line at = absurd (no_line line at)
gap_there (x ∷ xs) zero line at = omega (arith, sum_by-cons bytes_or x xs, sum_by-cons bytes_or None xs, ap bytes_or at)
gap_there (x ∷ xs) (suc i) line at = omega (arith, sum_by-cons bytes_or x xs, sum_by-cons bytes_or x (set xs i None), gap_there xs i line at)

gap_other : (lines : List (Option LogLine)) (i j : ℕ) → j ≢ i → line_there (set lines i None) j ≡ line_there lines j
gap_other lines i j other = get_or-set_other lines i j None None other

places_within : (places : List ℕ) (lines : List (Option LogLine)) → AllPairs (λ x y. x < y) places → ((i : ℕ) → Contains places i → IsThere lines i) → bytes_of (map (line_in lines) places) ≤ bytes_there lines
places_within [] lines rise there = omega arith
places_within (p ∷ ps) lines rise there =
    let here : IsThere lines p = there p (zero, omega arith, refl) in
    let apart : (k d : ℕ) → k < length ps → get_or ps k d ≢ p = λ k d low same. absurd (omega (arith, same, rise zero (suc k) d (omega arith) (omega (arith, low)))) in
    let rest = places_within ps (set lines p None) (λ i j d below low. rise (suc i) (suc j) d (omega (arith, below)) (omega (arith, low))) (λ i has.
    let was : IsThere lines i = there i (suc has.0, omega (arith, has.1), has.2) in
    (was.0, gap_other lines p i (λ same. apart has.0 i has.1 (has.2 ∙ same)) ∙ was.1)) in
    let same : map (line_in lines) ps ≡ map (line_in (set lines p None)) ps =
    map_agree (line_in lines) (line_in (set lines p None)) ps (λ k d low. ap line_or (sym (gap_other lines p (get_or ps k d) (apart k d low)))) in
    omega (arith, bytes-cons (line_in lines p) (map (line_in lines) ps), ap line_bytes (line_in_is lines p here.0 here.1), gap_there lines p here.0 here.1, rest, ap bytes_of same)

pub picked_within : (lines : List (Option LogLine)) (places : List ℕ) → IsPicked lines places → bytes_of (picked lines places) ≤ bytes_there lines
picked_within lines places is = omega (arith, picked_bytes (line_in lines) places, places_within places lines (rises places is.rise) is.there)

-- ---- places in fewer bytes

pub rested_by : {E A : Type 0} (log : List LogLine) (last : ℕ) (sorted numbers : List ℕ) (r : Result (Vec ℕ A) E) → numbers ≡ sorted → AreRested log last sorted → IfOk r (λ small. small.items ≡ numbers)
    → IfOk r (λ small. AreRested log last small.items)
rested_by log last sorted numbers (Ok small) same rested is = subst (AreRested log last) (sym (is ∙ same)) rested
rested_by log last sorted numbers (Err error) same rested is = is
