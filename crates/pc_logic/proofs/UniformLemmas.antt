-- What looks up the same cells under all values of the variables weighs the same under them.
use Rattle.std.proofs.Common.{◌≡◌, ℕ, zero, suc, ◌+◌, ◌*◌, ◌<◌, ◌≤◌, List, [], ◌∷◌, ◌++◌, length, map, get_or, sum_by, slice_index_or, Option, Some, None, inl, inr, arith, ap, ◌∙◌, sym, refl}
use Rattle.std.proofs.Math.Nat.{mul-le-mul_right}
use Rattle.std.proofs.lemmas.Bool.{cases_lt}
use Rattle.std.proofs.lemmas.List.Sums.{sum_by-cons}
use Rattle.pc_name.specs.declared.sign.Sign.{Sign}
use Rattle.pc_sheet.specs.Cells.{values_below}
use Rattle.pc_sheet.specs.Entailment.{cell_sizes}
use Rattle.pc_sheet.specs.Nodes.{kind_of, bodies_of}
use Rattle.pc_sheet.specs.Readings.{Reading, known, ask, found_or_tried, leaves_from, read_of, read, read_all, read_rest, read_sum, atom_reading}
use Rattle.pc_sheet.specs.Reads.{value_in}
use Rattle.pc_sheet.specs.Sheet.{Universe, Item, variable, constant, number, cell, Items, no_items, item, Sum, Statement, compare, in_table, negation, all_of, some_of, implies, iff, for_all, exists, counts, Statements, no_statements, statement}
use Rattle.pc_sheet.specs.Sizes.{size_of}
use Rattle.pc_sheet.specs.Truth.{Scope, place_of, settled}
use Rattle.pc_sheet.specs.Views.{added_of, item_of, items_of, statement_of, statements_of}
use Rattle.pc_sheet.specs.Weight.{kind_weight, leaf_weight, node_weight, parts_weight}
use Rattle.pc_sheet.specs.declared.formula.Formula.{Formula}
use Rattle.pc_sheet.specs.declared.formula.Term.{Term}
use Rattle.pc_sheet.specs.declared.ids.Entry.{Entry}
use Rattle.pc_sheet.specs.declared.ids.SortId.{SortId}
use Rattle.pc_sheet.specs.declared.ids.ValueId.{ValueId}
use Rattle.pc_sheet.specs.declared.meaning.Meaning.{Meaning}
use Rattle.pc_sheet.specs.declared.meaning.Meaning.TheVariants.{Whole, Value}
use Rattle.pc_logic.specs.Cut.{cut}
use Rattle.pc_logic.specs.inside.Uniform.{IsConstantItem, AreConstant, IsFixed, AreFixed, AllFixed, IsFixedSum, IsUniform, AreUniform}
use Rattle.pc_logic.proofs.WeightLemmas.{sum_flat, sum_values}

-- ---- readings that look up the same cells

abbrev pub Alike : Reading → Reading → Type 0
Alike (known is) (known was) = Unit {0}
Alike (known is) (ask c next) = ⊥
Alike (ask c next) (known is) = ⊥
Alike (ask c next) (ask d then) = (c ≡ d) × ((v : ValueId) → Alike (next v) (then v))

module _ (sizes : List ℕ) where
  abbrev weighs : Reading → List Entry → ℕ
  weighs r reads = sum_by leaf_weight (leaves_from sizes r reads)

  abbrev weighs_at : Option ValueId → (ValueId → Reading) → List Entry → ℕ → ℕ
  weighs_at found next reads c =
      sum_by leaf_weight (found_or_tried found (λ v. leaves_from sizes (next v) reads) (λ v. leaves_from sizes (next v) (reads ++ read_of c v ∷ [])) (slice_index_or sizes c 0))

  step : (found : Option ValueId) (next then : ValueId → Reading) (reads : List Entry) (c : ℕ) → ((v : ValueId) (rs : List Entry) → weighs (next v) rs ≡ weighs (then v) rs) → weighs_at found next reads c ≡ weighs_at found then reads c
  step (Some v) next then reads c each = each v reads
  step None next then reads c each =
      let vs = values_below (slice_index_or sizes c 0) in
      sum_flat (λ v. leaves_from sizes (next v) (reads ++ read_of c v ∷ [])) vs ∙ (λ i. sum_by (λ v. each v (reads ++ read_of c v ∷ []) i) vs) ∙ sym (sum_flat (λ v. leaves_from sizes (then v) (reads ++ read_of c v ∷ [])) vs)

  pub alike_weigh : (r s : Reading) (reads : List Entry) → Alike r s → weighs r reads ≡ weighs s reads
  alike_weigh (known is) (known was) reads h = sum_by-cons leaf_weight (reads, is) [] ∙ sym (sum_by-cons leaf_weight (reads, was) [])
  alike_weigh (known is) (ask c next) reads h = absurd h
  alike_weigh (ask c next) (known is) reads h = absurd h
  alike_weigh (ask c next) (ask d then) reads h =
      step (value_in reads c) next then reads c (λ v rs. alike_weigh (next v) (then v) rs (h.1 v)) ∙ ap (λ k. weighs_at (value_in reads k) then reads k) h.0

-- ---- terms under two scopes

module _ (u : Universe) (scope other : Scope) where
  constants_alike : (xs : Items) (next then : List ValueId → Reading) → AreConstant xs → ((vs : List ValueId) → Alike (next vs) (then vs)) → Alike (read_all u scope xs next) (read_all u other xs then)
  constants_alike no_items next then h later = later []
  constants_alike (item (variable k) xs) next then h later = absurd h.0
  constants_alike (item (constant s v) xs) next then h later = constants_alike xs (λ vs. next (place_of (Value s v) ∷ vs)) (λ vs. then (place_of (Value s v) ∷ vs)) h.1 (λ vs. later (place_of (Value s v) ∷ vs))
  constants_alike (item (number z) xs) next then h later = constants_alike xs (λ vs. next (place_of (Whole z) ∷ vs)) (λ vs. then (place_of (Whole z) ∷ vs)) h.1 (λ vs. later (place_of (Whole z) ∷ vs))
  constants_alike (item (cell f ys) xs) next then h later = absurd h.0

  item_alike : (x : Item) (next then : Meaning → Reading) → IsFixed x → ((m n : Meaning) → Alike (next m) (then n)) → Alike (read u scope x next) (read u other x then)
  item_alike (variable k) next then h later = later _ _
  item_alike (constant s v) next then h later = later _ _
  item_alike (number z) next then h later = later _ _
  item_alike (cell f xs) next then h later = constants_alike xs _ _ h (λ vs. (refl, λ v. later _ _))

  items_alike : (xs : Items) (next then : List ValueId → Reading) → AreFixed xs → ((vs ws : List ValueId) → Alike (next vs) (then ws)) → Alike (read_all u scope xs next) (read_all u other xs then)
  items_alike no_items next then h later = later [] []
  items_alike (item x xs) next then h later = item_alike x _ _ h.0 (λ m n. items_alike xs (λ vs. next (place_of m ∷ vs)) (λ vs. then (place_of n ∷ vs)) h.1 (λ vs ws. later (place_of m ∷ vs) (place_of n ∷ ws)))

  rest_alike : (xs : List (Sign × Item)) (m n : Meaning) (next then : Meaning → Reading) → AllFixed xs → ((m n : Meaning) → Alike (next m) (then n)) → Alike (read_rest u scope m xs next) (read_rest u other n xs then)
  rest_alike [] m n next then h later = later m n
  rest_alike (x ∷ xs) m n next then h later = item_alike x.1 _ _ h.0 (λ y z. rest_alike xs _ _ next then h.1 later)

  sum_alike : (s : Sum) (next then : Meaning → Reading) → IsFixedSum s → ((m n : Meaning) → Alike (next m) (then n)) → Alike (read_sum u scope s next) (read_sum u other s then)
  sum_alike s next then h later = item_alike s.first _ _ h.0 (λ m n. rest_alike s.rest (settled u m) (settled u n) next then h.1 later)

-- ---- statements

mutual
  pub same_weight : (u : Universe) (s : Statement) (scope other : Scope) → IsUniform s → node_weight u scope s ≡ node_weight u other s
  same_weight u (compare left op right) scope other h =
      alike_weigh (cell_sizes u) (atom_reading u scope (compare left op right)) (atom_reading u other (compare left op right)) [] (sum_alike u scope other left _ _ h.0 (λ m n. sum_alike u scope other right _ _ h.1 (λ x y. tt)))
  same_weight u (in_table t xs) scope other h = alike_weigh (cell_sizes u) (atom_reading u scope (in_table t xs)) (atom_reading u other (in_table t xs)) [] (items_alike u scope other xs _ _ h (λ vs ws. tt))
  same_weight u (negation s) scope other h = ap (λ n. kind_weight (kind_of u (negation s)) + n) (same_weight u s scope other h)
  same_weight u (all_of ss) scope other h = ap (λ n. kind_weight (kind_of u (all_of ss)) + n) (same_parts u ss scope other h)
  same_weight u (some_of ss) scope other h = ap (λ n. kind_weight (kind_of u (some_of ss)) + n) (same_parts u ss scope other h)
  same_weight u (implies s t) scope other h = λ i. kind_weight (kind_of u (implies s t)) + (same_weight u s scope other h.0 i + same_weight u t scope other h.1 i)
  same_weight u (iff s t) scope other h = λ i. kind_weight (kind_of u (iff s t)) + (same_weight u s scope other h.0 i + same_weight u t scope other h.1 i)
  same_weight u (for_all name s body) scope other h =
      λ i. kind_weight (kind_of u (for_all name s body)) + sum_by (λ v. same_weight u body (scope ++ (s, v) ∷ []) (other ++ (s, v) ∷ []) h i) (values_below (size_of u s))
  same_weight u (exists name s body) scope other h =
      λ i. kind_weight (kind_of u (exists name s body)) + sum_by (λ v. same_weight u body (scope ++ (s, v) ∷ []) (other ++ (s, v) ∷ []) h i) (values_below (size_of u s))
  same_weight u (counts c name s body) scope other h =
      λ i. kind_weight (kind_of u (counts c name s body)) + sum_by (λ v. same_weight u body (scope ++ (s, v) ∷ []) (other ++ (s, v) ∷ []) h i) (values_below (bodies_of c (size_of u s)))

  pub same_parts : (u : Universe) (ss : Statements) (scope other : Scope) → AreUniform ss → parts_weight u scope ss ≡ parts_weight u other ss
  same_parts u no_statements scope other h = refl
  same_parts u (statement s ss) scope other h = λ i. same_weight u s scope other h.0 i + same_parts u ss scope other h.1 i

-- ---- many times the same

same_sum : (f : ValueId → ℕ) (w n : ℕ) → ((v : ValueId) → f v ≡ w) → sum_by f (values_below n) ≡ n * w
same_sum f w zero h = omega arith
same_sum f w (suc n) h =
    let next : suc n ≡ n + 1 = omega arith in
    let more : n * w + w ≡ (n + 1) * w = omega arith in
    ap (λ k. sum_by f (values_below k)) next ∙ sum_values f n ∙ (λ i. same_sum f w n h i + h (record { 0 = n }) i) ∙ more ∙ ap (λ k. k * w) (sym next)

cut_times : (start n w : ℕ) → cut (start + n * cut w) ≡ cut (start + n * w)
cut_times start zero w = omega arith
cut_times start (suc n) w =
    let few : suc n * cut w ≡ n * cut w + cut w = omega arith in
    let all : suc n * w ≡ n * w + w = omega arith in
    elim (cases_lt w 4000001) [
      | inl small ↦ (let same : cut w ≡ w = omega arith in ap (λ k. cut (start + suc n * k)) same)
      | inr large ↦ (let whole : cut w ≡ 4000001 = omega arith in omega (arith, few, all, whole))
    ]

pub times_small : (n w : ℕ) → n ≤ 256 → w ≤ 4000001 → n * w ≤ 2000000000
times_small n w l k = let most : n * w ≤ 256 * w = mul-le-mul_right w l in omega (arith, most)

-- the bodies under all values, where the first one is weighed
pub uniform_bodies : (u : Universe) (scope : Scope) (sort : SortId) (body : Statement) (first : ValueId) (start times each result : ℕ) → IsUniform body
    → times ≡ size_of u sort → each ≡ cut (0 + node_weight u (scope ++ (sort, first) ∷ []) body) → result ≡ cut (start + times * each)
    → result ≡ cut (start + sum_by (λ v. node_weight u (scope ++ (sort, v) ∷ []) body) (values_below (size_of u sort)))
uniform_bodies u scope sort body first start times each result h many one is =
    let w = node_weight u (scope ++ (sort, first) ∷ []) body in
    let alone : 0 + w ≡ w = omega arith in
    is ∙ (λ i. cut (start + many i * one i)) ∙ ap (λ n. cut (start + size_of u sort * cut n)) alone ∙ cut_times start (size_of u sort) w
    ∙ ap (λ n. cut (start + n)) (sym (same_sum (λ v. node_weight u (scope ++ (sort, v) ∷ []) body) w (size_of u sort) (λ v. same_weight u body (scope ++ (sort, v) ∷ []) (scope ++ (sort, first) ∷ []) h)))

-- ---- as the code has them

pub constant_from_each : (ts : List Term) → ((k : ℕ) (d : Term) → k < length ts → IsConstantItem (item_of (get_or ts k d))) → AreConstant (items_of (map item_of ts))
constant_from_each [] h = tt
constant_from_each (t ∷ ts) h = (h 0 t (omega arith), constant_from_each ts (λ k d l. h (suc k) d (omega arith)))

pub fixed_from_each : (ts : List Term) → ((k : ℕ) (d : Term) → k < length ts → IsFixed (item_of (get_or ts k d))) → AreFixed (items_of (map item_of ts))
fixed_from_each [] h = tt
fixed_from_each (t ∷ ts) h = (h 0 t (omega arith), fixed_from_each ts (λ k d l. h (suc k) d (omega arith)))

pub all_fixed_from_each : (xs : List (Sign × Term)) → ((k : ℕ) (d : Sign × Term) → k < length xs → IsFixed (item_of (get_or xs k d).1)) → AllFixed (map added_of xs)
all_fixed_from_each [] h = tt
all_fixed_from_each (x ∷ xs) h = (h 0 x (omega arith), all_fixed_from_each xs (λ k d l. h (suc k) d (omega arith)))

pub uniform_from_each : (fs : List Formula) → ((k : ℕ) (d : Formula) → k < length fs → IsUniform (statement_of (get_or fs k d))) → AreUniform (statements_of (map statement_of fs))
uniform_from_each [] h = tt
uniform_from_each (f ∷ fs) h = (h 0 f (omega arith), uniform_from_each fs (λ k d l. h (suc k) d (omega arith)))
