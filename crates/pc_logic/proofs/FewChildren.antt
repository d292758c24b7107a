-- No node of a well-formed sheet has many children.
use Rattle.std.proofs.Common.{◌≡◌, ℕ, zero, suc, ◌+◌, ◌-◌, ◌*◌, ◌/◌, ◌%◌, ◌<◌, ◌≤◌, Bool, true, false, cond, nat_lt, List, [], ◌∷◌, ◌++◌, All, slice_get, Option, None, Some, refl, subst, arith}
use Rattle.std.specs.Option.{option_map}
use Rattle.std.proofs.lemmas.Nat.{mul-le}
use Rattle.std.proofs.lemmas.Option.{get_or_from_slice_get, none-some, same_Some, slice_get_within}
use Rattle.pc_sheet.specs.Sheet.{Values, listed, range, Sort, Universe, Sheet, NamedStatement, Counting, no_more_than, no_fewer_than, of_first, Statement, Statements, no_statements, statement, compare, in_table, negation, all_of, some_of, implies, iff, for_all, exists, counts}
use Rattle.pc_sheet.specs.Truth.{Scope}
use Rattle.pc_sheet.specs.Sizes.{size_of, count_of, values_of_sort}
use Rattle.pc_sheet.specs.WellSorted.{Variables, IsBound, IsWellSorted, AreWellSorted, parts_in}
use Rattle.pc_sheet.specs.WellFormed.{AreWellFormedValues, IsWellFormedUniverse, IsWellFormedRule, IsWellFormed}
use Rattle.pc_sheet.specs.Nodes.{Node, bodies_of, threshold_of, part_at, one_of_two, counter_child, child, node_from, root_of, node_at, kind_of, kind_at, children_of}
use Rattle.pc_sheet.specs.declared.ids.SortId.{SortId}
use Rattle.pc_sheet.specs.declared.nodes.NodeKind.{NodeKind}

at_place : {X : Type 0} (P : X → Type 0) (xs : List X) (i : ℕ) (x : X) → All P xs → slice_get xs i ≡ Some x → P x
at_place P xs i x all is = subst P (get_or_from_slice_get xs i x x is) (all i x (slice_get_within xs i x is))

-- ---- sorts

few_values : (values : Values) → AreWellFormedValues values → count_of values ≤ 256
few_values (listed names) h = h.1
few_values (range low high) h = h.3

few_of_sort : (u : Universe) → IsWellFormedUniverse u → (s : SortId) → size_of u s ≤ 256
few_of_sort u h s = by (slice_get u.sorts s.0) refl
  where
    by : (o : Option Sort) → slice_get u.sorts s.0 ≡ o → count_of (values_of_sort o) ≤ 256
    by None is = omega arith
    by (Some sort) is = few_values sort.values (at_place (λ t. AreWellFormedValues t.values) u.sorts s.0 sort h.sorts is)

-- ---- statements

-- each conjunction and disjunction has few parts, and each count a low threshold
abbrev mutual
  HasFew : Statement → Type 0
  HasFew (compare left op right) = Unit {0}
  HasFew (in_table t xs) = Unit {0}
  HasFew (negation s) = HasFew s
  HasFew (all_of ss) = (parts_in ss < 4194304) × HaveFew ss
  HasFew (some_of ss) = (parts_in ss < 4194304) × HaveFew ss
  HasFew (implies s t) = HasFew s × HasFew t
  HasFew (iff s t) = HasFew s × HasFew t
  HasFew (for_all name s body) = HasFew body
  HasFew (exists name s body) = HasFew body
  HasFew (counts c name s body) = (threshold_of c ≤ 257) × HasFew body

  HaveFew : Statements → Type 0
  HaveFew no_statements = Unit {0}
  HaveFew (statement s ss) = HasFew s × HaveFew ss

low : (c : Counting) → IsBound c → threshold_of c ≤ 257
low (no_more_than k) h = omega arith
low (no_fewer_than k) h = omega arith
low (of_first m i j) h = omega arith

mutual
  few_of : (u : Universe) (vs : Variables) (s : Statement) → IsWellSorted u vs s → HasFew s
  few_of u vs (compare left op right) h = tt
  few_of u vs (in_table t xs) h = tt
  few_of u vs (negation s) h = few_of u vs s h
  few_of u vs (all_of ss) h = (h.0.1, all_few u vs ss h.1)
  few_of u vs (some_of ss) h = (h.0.1, all_few u vs ss h.1)
  few_of u vs (implies s t) h = (few_of u vs s h.0, few_of u vs t h.1)
  few_of u vs (iff s t) h = (few_of u vs s h.0, few_of u vs t h.1)
  few_of u vs (for_all name s body) h = few_of u (vs ++ (name, s) ∷ []) body h.1
  few_of u vs (exists name s body) h = few_of u (vs ++ (name, s) ∷ []) body h.1
  few_of u vs (counts c name s body) h = (low c h.0, few_of u (vs ++ (name, s) ∷ []) body h.2)

  all_few : (u : Universe) (vs : Variables) (ss : Statements) → AreWellSorted u vs ss → HaveFew ss
  all_few u vs no_statements h = tt
  all_few u vs (statement s ss) h = (few_of u vs s h.0, all_few u vs ss h.1)

-- ---- nodes

abbrev IfFew : Option Node → Type 0
IfFew None = Unit {0}
IfFew (Some n) = HasFew n.1

few_part : (scope : Scope) (ss : Statements) (k : ℕ) → HaveFew ss → IfFew (part_at scope ss k)
few_part scope no_statements k h = tt
few_part scope (statement s ss) zero h = h.0
few_part scope (statement s ss) (suc k) h = few_part scope ss k h.1

few_of_two : (scope : Scope) (s t : Statement) (k : ℕ) → HasFew s → HasFew t → IfFew (one_of_two scope s t k)
few_of_two scope s t zero h g = h
few_of_two scope s t (suc zero) h g = g
few_of_two scope s t (suc (suc k)) h g = tt

few_where : (is : Bool) (n : Node) (o : Option Node) → HasFew n.1 → IfFew o → IfFew (cond is (Some n) o)
few_where true n o h g = h
few_where false n o h g = g

few_counter : (m i j : ℕ) (name : List ℕ) (s : SortId) (body : Statement) → HasFew body → HasFew (counts (of_first m i j) name s body)
few_counter m i j name s body h = (omega arith, h)

few_child : (u : Universe) (n : Node) (k : ℕ) → HasFew n.1 → IfFew (child u n k)
few_child u (scope, compare left op right) k h = tt
few_child u (scope, in_table t xs) k h = tt
few_child u (scope, negation s) zero h = h
few_child u (scope, negation s) (suc k) h = tt
few_child u (scope, all_of ss) k h = few_part scope ss k h.1
few_child u (scope, some_of ss) k h = few_part scope ss k h.1
few_child u (scope, implies s t) k h = few_of_two scope s t k h.0 h.1
few_child u (scope, iff s t) k h = few_of_two scope s t k h.0 h.1
few_child u (scope, for_all name s body) k h = few_where (nat_lt k (size_of u s)) _ None h tt
few_child u (scope, exists name s body) k h = few_where (nat_lt k (size_of u s)) _ None h tt
few_child u (scope, counts c name s body) k h =
    let n = bodies_of c (size_of u s) in
    let m = threshold_of c in
    let counter : IfFew (counter_child scope n m name s body (k - n)) = few_where (nat_lt (k - n) (n * m)) _ None (few_counter m (suc ((k - n) / m)) (suc ((k - n) % m)) name s body h.1) tt in
    few_where (nat_lt k n) _ (counter_child scope n m name s body (k - n)) h.1 counter

few_from : (u : Universe) (o : Option Node) (path : List ℕ) → IfFew o → IfFew (node_from u o path)
few_from u None path h = tt
few_from u (Some n) [] h = h
few_from u (Some n) (k ∷ ks) h = few_from u (child u n k) ks (few_child u n k h)

few_rule : (sheet : Sheet) → IsWellFormed sheet → (rule : ℕ) → IfFew (root_of (slice_get sheet.rules rule))
few_rule sheet formed rule = by (slice_get sheet.rules rule) refl
  where
    by : (o : Option NamedStatement) → slice_get sheet.rules rule ≡ o → IfFew (root_of o)
    by None is = tt
    by (Some r) is = few_of sheet.universe [] r.states (at_place (IsWellFormedRule sheet.universe) sheet.rules rule r formed.rules.each is).sorted

-- ---- kinds

few_counted : (n m : ℕ) → n ≤ 256 → m ≤ 257 → n + n * m < 4294967296
few_counted n m h g = omega (arith, mul-le n m 256 257 h g)

few_of_kind : (u : Universe) → IsWellFormedUniverse u → (s : Statement) → HasFew s → children_of (kind_of u s) < 4294967296
few_of_kind u formed (compare left op right) h = omega arith
few_of_kind u formed (in_table t xs) h = omega arith
few_of_kind u formed (negation s) h = omega arith
few_of_kind u formed (all_of ss) h = let few = h.0 in omega arith
few_of_kind u formed (some_of ss) h = let few = h.0 in omega arith
few_of_kind u formed (implies s t) h = omega arith
few_of_kind u formed (iff s t) h = omega arith
few_of_kind u formed (for_all name s body) h = let few = few_of_sort u formed s in omega arith
few_of_kind u formed (exists name s body) h = let few = few_of_sort u formed s in omega arith
few_of_kind u formed (counts (no_more_than k) name s body) h = few_counted (size_of u s) (suc k) (few_of_sort u formed s) h.0
few_of_kind u formed (counts (no_fewer_than k) name s body) h = few_counted (size_of u s) k (few_of_sort u formed s) h.0
few_of_kind u formed (counts (of_first m i j) name s body) h = omega arith

pub few_children : (sheet : Sheet) → IsWellFormed sheet → (rule : ℕ) (steps : List ℕ) (kind : NodeKind) → kind_at sheet rule steps ≡ Some kind → children_of kind < 4294967296
few_children sheet formed rule steps kind is = by (node_at sheet rule steps) (few_from sheet.universe (root_of (slice_get sheet.rules rule)) steps (few_rule sheet formed rule)) is
  where
    by : (o : Option Node) → IfFew o → option_map (λ (n : Node). kind_of sheet.universe n.1) o ≡ Some kind → children_of kind < 4294967296
    by None h none = absurd (none-some kind none)
    by (Some n) h some =
        let same : kind_of sheet.universe n.1 ≡ kind = same_Some (kind_of sheet.universe n.1) kind some in
        subst (λ k. children_of k < 4294967296) same (few_of_kind sheet.universe formed.universe n.1 h)
