-- Lines at their places, one put after another.
use Rattle.std.proofs.Common.{◌≡◌, ◌≢◌, ℕ, zero, suc, ◌+◌, ◌<◌, ◌≤◌, List, [], ◌∷◌, ◌++◌, Option, Some, None, map, length, get_or, set, take, slice_get, refl, sym, ap, ◌∙◌, subst, arith, All, Contains, inl, inr, ⊎_elim}
use Rattle.std.proofs.Math.ListN.{replicate}
use Rattle.std.proofs.lemmas.Bool.{cases_eq}
use Rattle.std.proofs.lemmas.List.{length-map, length_push, map-append, map-set, map_more, take_all, take_more, get_or-map, get_or-set_same, get_or-set_other, get_or_past, get_or_push, get_or_append_left}
use Rattle.std.proofs.lemmas.List.Elements.{All-append, All-replicate, All-set, All-weaker, Contains-get_or, Contains-push_cases}
use Rattle.std.proofs.lemmas.List.Sums.{sum_by-cons, sum_by-append, sum_by_push}
use Rattle.std.proofs.lemmas.Option.{slice_get-get_or, get_or_from_slice_get}
use Rattle.pc_log.specs.declared.sparse.Spot.{Spot}
use Rattle.pc_log.specs.declared.sparse.Spot.TheVariants.{Gap, Axiom, Further}
use Rattle.pc_log.specs.Lines.{LogLine, AxiomLine}
use Rattle.pc_log.specs.Sizes.{bytes_of, line_bytes}
use Rattle.pc_log.specs.Sparse.{bytes_or, bytes_there, line_at, line_in, line_or, line_there, AddsOnly, CanStand, Keeps, LinesStand, MayStand}
use Rattle.pc_log.specs.inside.Spots.{spot_line, spotted, AddsSpot, AreSpots, IsSpot}
use Rattle.pc_log.proofs.AppendLemmas.{map_agree}

some_line : (x y : LogLine) → Some x ≡ Some y → x ≡ y
some_line x y same = cc

pub no_line : (x : LogLine) → None ≡ Some x → ⊥
no_line x same = cc

-- ---- one line more

pub there_set : (lines : List (Option LogLine)) (i : ℕ) (line : LogLine) → i < length lines → line_there (set lines i (Some line)) i ≡ Some line
there_set lines i line within = get_or-set_same lines i (Some line) None within

pub there_other : (lines : List (Option LogLine)) (i j : ℕ) (line : LogLine) → j ≢ i → line_there (set lines i (Some line)) j ≡ line_there lines j
there_other lines i j line other = get_or-set_other lines i j (Some line) None other

pub keeps_set : (lines : List (Option LogLine)) (i : ℕ) (line : LogLine) → line_there lines i ≡ None → Keeps lines (set lines i (Some line))
keeps_set lines i line gap j found at =
    ⊎_elim (λ (same : j ≡ i). absurd (no_line found (sym gap ∙ ap (line_there lines) (sym same) ∙ at))) (λ (other : j ≢ i). there_other lines i j line other ∙ at) (cases_eq j i)

pub bytes_set : (lines : List (Option LogLine)) (i : ℕ) (line : LogLine) → i < length lines → line_there lines i ≡ None → bytes_there (set lines i (Some line)) ≡ bytes_there lines + line_bytes line
bytes_set [] i line within gap = absurd (omega arith)
bytes_set (x ∷ xs) zero line within gap =
    let none : bytes_or x ≡ 0 = ap bytes_or gap in
    omega (arith, sum_by-cons bytes_or (Some line) xs, sum_by-cons bytes_or x xs, none)
bytes_set (x ∷ xs) (suc i) line within gap =
    omega (arith, sum_by-cons bytes_or x (set xs i (Some line)), sum_by-cons bytes_or x xs, bytes_set xs i line (omega arith) gap)

-- ---- gaps behind the lines

bytes_gaps : (n : ℕ) → bytes_there (replicate n None) ≡ 0
bytes_gaps zero = refl
bytes_gaps (suc n) = omega (arith, sum_by-cons bytes_or None (replicate n None), bytes_gaps n)

there_gaps : (n i : ℕ) → line_there (replicate n None) i ≡ None
there_gaps zero i = refl
there_gaps (suc n) zero = refl
there_gaps (suc n) (suc i) = there_gaps n i

there_wide : (lines : List (Option LogLine)) (n i : ℕ) → line_there (lines ++ replicate n None) i ≡ line_there lines i
there_wide [] n i = there_gaps n i
there_wide (x ∷ xs) n zero = refl
there_wide (x ∷ xs) n (suc i) = there_wide xs n i

gaps_are : (further : List LogLine) (n : ℕ) → spotted further (replicate n Gap) ≡ replicate n None
gaps_are further zero = refl
gaps_are further (suc n) = ap (λ (ls : List (Option LogLine)). None ∷ ls) (gaps_are further n)

spotted_wide : (further : List LogLine) (spots : List Spot) (n : ℕ) → spotted further (spots ++ replicate n Gap) ≡ spotted further spots ++ replicate n None
spotted_wide further spots n = map-append (spot_line further) spots (replicate n Gap) ∙ ap (λ ls. spotted further spots ++ ls) (gaps_are further n)

pub grown_by : (spots more : List Spot) (count n : ℕ) → more ≡ take count spots ++ replicate n Gap → length spots ≤ count → more ≡ spots ++ replicate n Gap
grown_by spots more count n grown few = grown ∙ ap (λ (ss : List Spot). ss ++ replicate n Gap) (take_all count spots few)

pub wide_there : (further : List LogLine) (spots more : List Spot) (n : ℕ) → more ≡ spots ++ replicate n Gap → (i : ℕ) → line_there (spotted further more) i ≡ line_there (spotted further spots) i
wide_there further spots more n grown i =
    ap (λ (ss : List Spot). line_there (spotted further ss) i) grown ∙ ap (λ ls. line_there ls i) (spotted_wide further spots n) ∙ there_wide (spotted further spots) n i

pub wide_bytes : (further : List LogLine) (spots more : List Spot) (n : ℕ) → more ≡ spots ++ replicate n Gap → bytes_there (spotted further more) ≡ bytes_there (spotted further spots)
wide_bytes further spots more n grown =
    let joined = sum_by-append bytes_or (spotted further spots) (replicate n None) in
    let gaps = bytes_gaps n in
    ap (λ (ss : List Spot). bytes_there (spotted further ss)) grown ∙ ap bytes_there (spotted_wide further spots n) ∙ omega (arith, joined, gaps)

pub wide_spots : (further : List LogLine) (spots more : List Spot) (n bytes : ℕ) → more ≡ spots ++ replicate n Gap → AreSpots further spots bytes → AreSpots further more bytes
wide_spots further spots more n bytes grown are = record {
  are = subst (All (IsSpot (length further))) (sym grown) (All-append (IsSpot (length further)) spots (replicate n Gap) are.are (All-replicate (IsSpot (length further)) n Gap tt));
  sized = are.sized ∙ sym (wide_bytes further spots more n grown);
}

-- ---- spots

pub spot_there : (further : List LogLine) (spots : List Spot) (i : ℕ) → i < length spots → line_there (spotted further spots) i ≡ spot_line further (get_or spots i Gap)
spot_there further spots i within = get_or-map (spot_line further) spots i Gap None within

pub spot_past : (further : List LogLine) (spots : List Spot) (i : ℕ) → length spots ≤ i → line_there (spotted further spots) i ≡ None
spot_past further spots i past = get_or_past (spotted further spots) i None (omega (arith, length-map spots (spot_line further)))

wider : (n m : ℕ) (spot : Spot) → n ≤ m → IsSpot n spot → IsSpot m spot
wider n m Gap few is = tt
wider n m (Axiom number) few is = tt
wider n m (Further number) few is = omega (arith, is, few)

same_spot : (old new : List LogLine) (spot : Spot) → ((n : ℕ) → n < length old → slice_get new n ≡ slice_get old n) → IsSpot (length old) spot → spot_line new spot ≡ spot_line old spot
same_spot old new Gap keeps is = refl
same_spot old new (Axiom number) keeps is = refl
same_spot old new (Further number) keeps is = keeps number is

same_spotted : (old new : List LogLine) (spots : List Spot) → ((n : ℕ) → n < length old → slice_get new n ≡ slice_get old n) → All (IsSpot (length old)) spots → spotted new spots ≡ spotted old spots
same_spotted old new spots keeps are = map_agree (spot_line new) (spot_line old) spots (λ k d below. same_spot old new (get_or spots k d) keeps (are k d below))

pub filled : (old new : List LogLine) (spots : List Spot) (place : ℕ) (line : LogLine) (spot : Spot) → All (IsSpot (length old)) spots → AddsSpot line old new spot
    → spotted new (set spots place spot) ≡ set (spotted old spots) place (Some line)
filled old new spots place line spot are added =
    map-set (spot_line new) spots place spot ∙ ap (λ (l : Option LogLine). set (spotted new spots) place l) added.stands
    ∙ ap (λ (ls : List (Option LogLine)). set ls place (Some line)) (same_spotted old new spots added.keeps are)

pub filled_spots : (old new : List LogLine) (spots : List Spot) (place : ℕ) (line : LogLine) (spot : Spot) (bytes total : ℕ) → AreSpots old spots bytes → AddsSpot line old new spot
    → place < length spots → line_there (spotted old spots) place ≡ None → total ≡ bytes + line_bytes line → AreSpots new (set spots place spot) total
filled_spots old new spots place line spot bytes total are added within gap is = record {
  are = All-set (IsSpot (length new)) spots place spot added.is (All-weaker (IsSpot (length old)) (IsSpot (length new)) (λ s one. wider (length old) (length new) s added.grows one) spots are.are);
  sized =
      let set_is = bytes_set (spotted old spots) place line (omega (arith, within, length-map spots (spot_line old))) gap in
      let same = ap bytes_there (filled old new spots place line spot are.are added) in
      omega (arith, is, are.sized, set_is, same);
}

pub adds_axiom : (number : ℕ) (old : List LogLine) → AddsSpot (AxiomLine number) old old (Axiom number)
adds_axiom number old = record { is = tt; stands = refl; keeps = λ n below. refl; grows = omega arith }

pub adds_further : (line : LogLine) (old new : List LogLine) (number : ℕ) → number ≡ length old → new ≡ old ++ line ∷ [] → AddsSpot line old new (Further number)
adds_further line old new number is grown =
    let count : length new ≡ length old + 1 = ap length grown ∙ length_push old line in
    record {
      is = omega (arith, is, count);
      stands = slice_get-get_or new number line (omega (arith, is, count)) ∙ ap Some (ap (λ ls. get_or ls number line) grown ∙ get_or_push old line line number (sym is));
      keeps = λ n below.
          slice_get-get_or new n line (omega (arith, below, count)) ∙ ap Some (ap (λ ls. get_or ls n line) grown ∙ get_or_append_left old (line ∷ []) line n below) ∙ sym (slice_get-get_or old n line below);
      grows = omega (arith, count);
    }

-- ---- many lines

-- the source's lines were put at the first so many of these places
pub record Taken (source : ℕ → LogLine) (places : List ℕ) (k : ℕ) (old new : List (Option LogLine)) : Type 0 where
  pub stand : LinesStand source (take k places) new
  pub free : MayStand source places new
  pub keeps : Keeps old new
  pub bytes : bytes_there new ≤ bytes_there old + bytes_of (map source (take k places))

pub taken_none : (source : ℕ → LogLine) (places : List ℕ) (old new : List (Option LogLine)) → MayStand source places old → ((i : ℕ) → line_there new i ≡ line_there old i) → bytes_there new ≡ bytes_there old
    → Taken source places 0 old new
taken_none source places old new free same bytes = record {
  stand = λ i has. absurd (omega (arith, has.1));
  free = λ i has other at. free i has other (sym (same i) ∙ at);
  keeps = λ i line at. same i ∙ at;
  bytes = omega (arith, bytes);
}

-- what one line more does
pub record PutAt (line : LogLine) (place : ℕ) (old new : List (Option LogLine)) : Type 0 where
  pub stands : line_there new place ≡ Some line
  pub others : (i : ℕ) → i ≢ place → line_there new i ≡ line_there old i
  pub keeps : Keeps old new
  pub bytes : bytes_there new ≤ bytes_there old + line_bytes line

-- which leaves the list a part of another one that has the line
pub part_more : (line : LogLine) (place : ℕ) (now new from : List (Option LogLine)) → line_there from place ≡ Some line → PutAt line place now new → Keeps now from → Keeps new from
part_more line place now new from there put part i found at =
    ⊎_elim
    (λ (same : i ≡ place).
    let is : found ≡ line = some_line found line (sym at ∙ ap (line_there new) same ∙ put.stands) in
    ap (line_there from) same ∙ there ∙ ap Some (sym is))
    (λ (apart : i ≢ place). part i found (sym (put.others i apart) ∙ at))
    (cases_eq i place)

pub taken_more : (source : ℕ → LogLine) (places : List ℕ) (k d : ℕ) (old now new : List (Option LogLine)) → Taken source places k old now → k < length places → PutAt (source (get_or places k d)) (get_or places k d) now new
    → Taken source places (k + 1) old new
taken_more source places k d old now new state low put =
    let place : ℕ = get_or places k d in
    let more : take (k + 1) places ≡ take k places ++ place ∷ [] = take_more places k d low in
    let size = ap bytes_of (map_more source places k d low) in
    let pushed = sum_by_push line_bytes (map source (take k places)) (source place) in
    record {
      stand = λ i has.
          ⊎_elim (λ (was : Contains (take k places) i). put.keeps i (source i) (state.stand i was))
          (λ (same : place ≡ i). subst (λ (n : ℕ). line_there new n ≡ Some (source n)) same put.stands)
          (Contains-push_cases (take k places) place i (subst (λ (ps : List ℕ). Contains ps i) more has));
      free = λ i has other at.
          ⊎_elim (λ (same : i ≡ place). some_line other (source i) (sym at ∙ subst (λ (n : ℕ). line_there new n ≡ Some (source n)) (sym same) put.stands))
          (λ (apart : i ≢ place). state.free i has other (sym (put.others i apart) ∙ at))
          (cases_eq i place);
      keeps = λ i line at. put.keeps i line (state.keeps i line at);
      bytes = omega (arith, state.bytes, put.bytes, size, pushed);
    }

-- nothing else was put
pub only_wide : (source : ℕ → LogLine) (places : List ℕ) (old new : List (Option LogLine)) → ((i : ℕ) → line_there new i ≡ line_there old i) → AddsOnly source places old new
only_wide source places old new same i line at = inl (sym (same i) ∙ at)

pub only_more : (source : ℕ → LogLine) (places : List ℕ) (k d : ℕ) (old now new : List (Option LogLine)) → AddsOnly source places old now → k < length places → PutAt (source (get_or places k d)) (get_or places k d) now new
    → AddsOnly source places old new
only_more source places k d old now new state low put i line at =
    let place : ℕ = get_or places k d in
    ⊎_elim
    (λ (same : i ≡ place).
    inr (subst (λ (n : ℕ). Contains places n) (sym same) (Contains-get_or places k d low), some_line line (source i) (sym at ∙ subst (λ (n : ℕ). line_there new n ≡ Some (source n)) (sym same) put.stands)))
    (λ (apart : i ≢ place). state i line (sym (put.others i apart) ∙ at))
    (cases_eq i place)

-- what stands at the places of a whole list
pub taken_all : (source : ℕ → LogLine) (places : List ℕ) (k : ℕ) (old new : List (Option LogLine)) → take k places ≡ places → Taken source places k old new
    → LinesStand source places new × (bytes_there new ≤ bytes_there old + bytes_of (map source places))
taken_all source places k old new all state = (
  subst (λ (ps : List ℕ). LinesStand source ps new) all state.stand,
  subst (λ (ps : List ℕ). bytes_there new ≤ bytes_there old + bytes_of (map source ps)) all state.bytes,
)

-- the line that is read of a log
pub line_of_log : (lines : List LogLine) (i : ℕ) (line : LogLine) → slice_get lines i ≡ Some line → line ≡ line_at lines i
line_of_log lines i line at = sym (get_or_from_slice_get lines i line (AxiomLine 0) at)

-- a line that is there stands within the list
pub within_lines : (lines : List (Option LogLine)) (i : ℕ) (line : LogLine) → line_there lines i ≡ Some line → i < length lines
within_lines [] i line at = absurd (no_line line at)
within_lines (x ∷ xs) zero line at = omega arith
within_lines (x ∷ xs) (suc i) line at = omega (arith, within_lines xs i line at)

pub line_in_is : (lines : List (Option LogLine)) (i : ℕ) (line : LogLine) → line_there lines i ≡ Some line → line_in lines i ≡ line
line_in_is lines i line at = ap line_or at

-- a part of a list counts for no more
pub bytes_of_part_there : (part whole : List (Option LogLine)) → Keeps part whole → bytes_there part ≤ bytes_there whole
bytes_of_part_there [] whole keeps = omega arith
bytes_of_part_there (x ∷ xs) [] keeps =
    let none : bytes_or x ≤ 0 = gap x (keeps 0) in
    omega (arith, sum_by-cons bytes_or x xs, none, bytes_of_part_there xs [] (λ i line at. keeps (suc i) line at))
  where
    gap : (o : Option LogLine) → ((line : LogLine) → o ≡ Some line → None ≡ Some line) → bytes_or o ≤ 0
    gap None all = omega arith
    gap (Some line) all = absurd (no_line line (all line refl))
bytes_of_part_there (x ∷ xs) (y ∷ ys) keeps =
    omega (arith, sum_by-cons bytes_or x xs, sum_by-cons bytes_or y ys, less x y (keeps 0), bytes_of_part_there xs ys (λ i line at. keeps (suc i) line at))
  where
    less : (o p : Option LogLine) → ((line : LogLine) → o ≡ Some line → p ≡ Some line) → bytes_or o ≤ bytes_or p
    less None p all = omega arith
    less (Some line) p all = let same : bytes_or p ≡ line_bytes line = ap bytes_or (all line refl) in omega (arith, same)

-- as do lines of a log at their places
pub bytes_of_log_there : (lines : List (Option LogLine)) (log : List LogLine) → ((i : ℕ) (line : LogLine) → line_there lines i ≡ Some line → slice_get log i ≡ Some line) → bytes_there lines ≤ bytes_of log
bytes_of_log_there [] log of = omega arith
bytes_of_log_there (x ∷ xs) [] of =
    let none : bytes_or x ≤ 0 = gap x (of 0) in
    omega (arith, sum_by-cons bytes_or x xs, none, bytes_of_log_there xs [] (λ i line at. of (suc i) line at))
  where
    gap : (o : Option LogLine) → ((line : LogLine) → o ≡ Some line → None ≡ Some line) → bytes_or o ≤ 0
    gap None all = omega arith
    gap (Some line) all = absurd (no_line line (all line refl))
bytes_of_log_there (x ∷ xs) (y ∷ ys) of =
    omega (arith, sum_by-cons bytes_or x xs, sum_by-cons line_bytes y ys, less x (of 0), bytes_of_log_there xs ys (λ i line at. of (suc i) line at))
  where
    less : (o : Option LogLine) → ((line : LogLine) → o ≡ Some line → Some y ≡ Some line) → bytes_or o ≤ line_bytes y
    less None all = omega arith
    less (Some line) all = let same : line_bytes y ≡ line_bytes line = ap line_bytes (some_line y line (all line refl)) in omega (arith, same)

-- ---- tested

pub may_stand_none : (source : ℕ → LogLine) (places : List ℕ) (lines : List (Option LogLine)) → MayStand source (take 0 places) lines
may_stand_none source places lines i has = absurd (omega (arith, has.1))

pub may_stand_more : (source : ℕ → LogLine) (places : List ℕ) (k d : ℕ) (lines : List (Option LogLine)) → k < length places → MayStand source (take k places) lines
    → CanStand (source (get_or places k d)) (get_or places k d) lines → MayStand source (take (k + 1) places) lines
may_stand_more source places k d lines low state can i has =
    let place : ℕ = get_or places k d in
    ⊎_elim (λ (was : Contains (take k places) i). state i was) (λ (same : place ≡ i). subst (λ (n : ℕ). CanStand (source n) n lines) same can)
    (Contains-push_cases (take k places) place i (subst (λ (ps : List ℕ). Contains ps i) (take_more places k d low) has))
