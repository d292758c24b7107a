-- The ways to choose one maximal set of each part, by their numbers.
use Rattle.std.proofs.Common.{◌≡◌, ℕ, zero, suc, ◌+◌, ◌*◌, ◌/◌, ◌%◌, ◌<◌, ◌≤◌, List, [], ◌∷◌, ◌++◌, Some, drop, get_or, length, map, slice_get, take, add-one, arith, ap, refl, sym, ◌∙◌, subst}
use Rattle.std.specs.Prelude.{min}
use Rattle.std.proofs.Math.Nat.{mul_assoc, mod-add-div'}
use Rattle.std.proofs.lemmas.List.{drop_more, length-map}
use Rattle.pc_sheet.specs.Sizes.{product}
use Rattle.pc_sheet.specs.declared.ids.CellId.{CellId}
use Rattle.pc_sheet.specs.declared.ids.ValueId.{ValueId}
use Rattle.pc_theory.proofs.Lists.{map_at}
use Rattle.pc_world_list.specs.Worlds.{WorldView}
use Rattle.pc_repairs.specs.inside.Joining.{all_laid, joined_by, laid_by_world, laid_over, many_sets}
use Rattle.pc_repairs.specs.declared.part_sets.PartSets.{PartSets}
use Rattle.pc_repairs.proofs.Laid.{laid_length}
use Rattle.pc_ask.specs.declared.narrowing.Choosing.{Choosing}
use Rattle.pc_ask.specs.inside.Choices.{tried_of}
use Rattle.pc_ask.specs.inside.Ways.{IsLaidFrom, most_tried}
use Rattle.pc_ask.proofs.Chosen.{joined_many}

-- ---- how many there are, cut off

-- cutting before a product and after it is cutting after it
cut_times : (a b : ℕ) → min (min a most_tried * b) most_tried ≡ min (a * b) most_tried
cut_times a zero = omega arith
cut_times a (suc b) = grind arith

ways_next : (parts : List PartSets) (k : ℕ) (d : PartSets) → k < length parts → product (map many_sets (take (suc k) parts)) ≡ product (map many_sets (take k parts)) * many_sets (get_or parts k d)
ways_next [] k d below = absurd (omega arith)
ways_next (p ∷ ps) zero d below = omega arith
ways_next (p ∷ ps) (suc k) d below =
    ap (λ n. many_sets p * n) (ways_next ps k d (omega (arith, below)))
    ∙ sym (mul_assoc (many_sets p) (product (map many_sets (take k ps))) (many_sets (get_or ps k d)))

ways_more : (parts : List PartSets) (k : ℕ) (d : PartSets) → k < length parts → product (map many_sets (take (k + 1) parts)) ≡ product (map many_sets (take k parts)) * many_sets (get_or parts k d)
ways_more parts k d below = rw add-one (ways_next parts k d below)

-- of the first so many parts
abbrev pub cut_ways : List PartSets → ℕ → ℕ
cut_ways parts k = min (product (map many_sets (take k parts))) most_tried

pub cut_more : (parts : List PartSets) (k : ℕ) (d : PartSets) (count next : ℕ) → k < length parts → count ≡ cut_ways parts k → next ≡ min (count * many_sets (get_or parts k d)) most_tried → next ≡ cut_ways parts (k + 1)
cut_more parts k d count next below so_far step =
    step
    ∙ (ap (λ n. min (n * many_sets (get_or parts k d)) most_tried) so_far
    ∙ (cut_times (product (map many_sets (take k parts))) (many_sets (get_or parts k d)) ∙ ap (λ n. min n most_tried) (sym (ways_more parts k d below))))

take_all : (parts : List PartSets) (k : ℕ) → length parts ≤ k → take k parts ≡ parts
take_all [] zero past = refl
take_all [] (suc k) past = refl
take_all (p ∷ ps) zero past = absurd (omega (arith, past))
take_all (p ∷ ps) (suc k) past = ap (λ ps. p ∷ ps) (take_all ps k (omega (arith, past)))

pub cut_all : (parts : List PartSets) (k count : ℕ) → length parts ≤ k → count ≡ cut_ways parts k → count ≡ min (product (map many_sets parts)) most_tried
cut_all parts k count past is = is ∙ ap (λ ps. min (product (map many_sets ps)) most_tried) (take_all parts k past)

-- ... as those that are gone over
pub tried_ways : (c : Choosing) → min (product (map many_sets c.parts.now)) most_tried ≡ tried_of c
tried_ways c = ap (λ n. min n most_tried) (sym (joined_many c.fitting.now c.parts.now))

-- ---- the way of a number

at_left : {X : Type 0} (xs ys : List X) (i : ℕ) (x : X) → slice_get xs i ≡ Some x → slice_get (xs ++ ys) i ≡ Some x
at_left [] ys i x at = absurd (cc)
at_left (z ∷ zs) ys zero x at = at
at_left (z ∷ zs) ys (suc i) x at = at_left zs ys i x at

at_right : {X : Type 0} (xs ys : List X) (i : ℕ) → slice_get (xs ++ ys) (length xs + i) ≡ slice_get ys i
at_right [] ys i = let same : 0 + i ≡ i = omega arith in ap (slice_get ys) same
at_right (x ∷ xs) ys i = let next : suc (length xs) + i ≡ suc (length xs + i) = omega arith in ap (slice_get (x ∷ xs ++ ys)) next ∙ at_right xs ys i

laid_at : (all : List (List ValueId)) (cells : List CellId) (ws : List WorldView) (d r : ℕ) (v : List ValueId) (none : WorldView) → d < length ws → slice_get all r ≡ Some v
    → slice_get (laid_by_world all cells ws) (d * length all + r) ≡ Some (laid_over v cells (get_or ws d none).shown)
laid_at all cells [] d r v none below at = absurd (omega (arith, below))
laid_at all cells (w ∷ ws) zero r v none below at =
    let place : 0 * length all + r ≡ r = omega arith in
    ap (slice_get (all_laid all cells w.shown ++ laid_by_world all cells ws)) place
    ∙ at_left (all_laid all cells w.shown) (laid_by_world all cells ws) r (laid_over v cells w.shown) (map_at (λ u. laid_over u cells w.shown) all r v at)
laid_at all cells (w ∷ ws) (suc d) r v none below at =
    ap (slice_get (all_laid all cells w.shown ++ laid_by_world all cells ws)) place
    ∙ (at_right (all_laid all cells w.shown) (laid_by_world all cells ws) (d * length all + r) ∙ laid_at all cells ws d r v none (omega (arith, below)) at)
  where
    place : suc d * length all + r ≡ length (all_laid all cells w.shown) + (d * length all + r)
    place = omega (arith, length-map all (λ (u : List ValueId). laid_over u cells w.shown))

-- where a product isn't nothing, none of its factors is
factor : (a b : ℕ) → 0 < a * b → (0 < a) × (0 < b)
factor zero b some = absurd (omega (arith, some))
factor (suc a) zero some = absurd (omega (arith, some))
factor (suc a) (suc b) some = (omega arith, omega arith)

pub some_sets : (parts : List PartSets) (k : ℕ) (d : PartSets) → 0 < product (map many_sets parts) → k < length parts → 0 < many_sets (get_or parts k d)
some_sets [] k d some below = absurd (omega (arith, below))
some_sets (p ∷ ps) zero d some below = (factor (many_sets p) (product (map many_sets ps)) some).0
some_sets (p ∷ ps) (suc k) d some below = some_sets ps k d (factor (many_sets p) (product (map many_sets ps)) some).1 (omega (arith, below))

-- nothing is laid out yet
pub none_laid : (fitting : List ValueId) (parts : List PartSets) (number left : ℕ) (values : List ValueId) → left ≡ length parts → values ≡ fitting → IsLaidFrom fitting parts number left number values
none_laid fitting parts number left values left_is is = subst (λ n. IsLaidFrom fitting parts number n number values) (sym left_is) (record {
  within = omega arith;
  long = ap length is;
  own = 0;
  low = subst (λ ps. 0 < product (map many_sets ps)) (sym (past parts)) (omega arith);
  is = subst (λ ps. number ≡ number * product (map many_sets ps) + 0) (sym (past parts)) (omega arith);
  laid = subst (λ ps. slice_get (joined_by fitting ps) 0 ≡ Some values) (sym (past parts)) (ap Some (sym is));
})
  where
    past : (ps : List PartSets) → drop (length ps) ps ≡ []
    past [] = refl
    past (p ∷ ps) = past ps

-- a number in parts
split_number : (number rest many ways own : ℕ) → number ≡ rest * ways + own → number ≡ rest / many * (many * ways) + (rest % many * ways + own)
split_number number rest many ways own is =
    let whole : rest % many + rest / many * many ≡ rest = mod-add-div' rest many in
    is
    ∙ (ap (λ n. n * ways + own) (sym whole)
    ∙ by (rest % many) (rest / many) (mul_assoc (rest / many) many ways))
  where
    by : (d q : ℕ) → q * many * ways ≡ q * (many * ways) → (d + q * many) * ways + own ≡ q * (many * ways) + (d * ways + own)
    by d q same = grind (arith, same)

below_product : (d many ways own : ℕ) → d < many → own < ways → d * ways + own < many * ways
below_product d many ways own less low = grind (arith, less, low)

module _ (fitting : List ValueId) (parts : List PartSets) (number left rest : ℕ) (values : List ValueId) (q : PartSets) where
  -- one part more
  pub laid_next : IsLaidFrom fitting parts number (left + 1) rest values → left < length parts → q ≡ get_or parts left q → (d : ℕ) → d ≡ rest % many_sets q → d < many_sets q
      → (laid : List ValueId) → laid ≡ laid_over values q.cells.now (get_or q.sets.now d (record { entries = []; shown = [] })).shown
      → IsLaidFrom fitting parts number left (rest / many_sets q) laid
  laid_next h below is d d_is less laid laid_is =
      let none : WorldView = record { entries = []; shown = [] } in
      let behind : List PartSets = drop (left + 1) parts in
      let ways : ℕ = product (map many_sets behind) in
      let parts_are : drop left parts ≡ q ∷ behind = drop_more parts left q below ∙ ap (λ (p : PartSets). p ∷ behind) (sym is) in
      let new : ℕ = d * ways + h.own in
      record {
        within = omega (arith, below);
        long = ap length laid_is ∙ (laid_length values q.cells.now (get_or q.sets.now d none).shown ∙ h.long);
        own = new;
        low = subst (λ ps. new < product (map many_sets ps)) (sym parts_are) (below_product d (many_sets q) ways h.own less h.low);
        is = subst (λ ps. number ≡ rest / many_sets q * product (map many_sets ps) + new) (sym parts_are)
            (subst (λ n. number ≡ rest / many_sets q * (many_sets q * ways) + (n * ways + h.own)) (sym d_is) (split_number number rest (many_sets q) ways h.own h.is));
        laid = subst (λ ps. slice_get (joined_by fitting ps) new ≡ Some laid) (sym parts_are)
            (subst (λ n. slice_get (laid_by_world (joined_by fitting behind) q.cells.now q.sets.now) (d * n + h.own) ≡ Some laid) (joined_many fitting behind)
            (laid_at (joined_by fitting behind) q.cells.now q.sets.now d h.own values none less h.laid ∙ ap Some (sym laid_is)));
      }

-- all is laid out
pub laid_all : (fitting : List ValueId) (parts : List PartSets) (number left rest : ℕ) (values : List ValueId) → IsLaidFrom fitting parts number left rest values → left ≤ 0 → number < product (map many_sets parts)
    → slice_get (joined_by fitting parts) number ≡ Some values
laid_all fitting parts number zero rest values h ended below =
    subst (λ n. slice_get (joined_by fitting parts) n ≡ Some values) (sym (whole rest (product (map many_sets parts)) h.is below)) h.laid
  where
    whole : (n ways : ℕ) → number ≡ n * ways + h.own → number < ways → number ≡ h.own
    whole zero ways is less = omega (arith, is)
    whole (suc n) ways is less = absurd (omega (arith, is, less))
laid_all fitting parts number (suc left) rest values h ended below = absurd (omega (arith, ended))
