-- Variables and axioms are named by what the sheet has.
use Rattle.std.proofs.Common.{◌≡◌, ◌≢◌, ℕ, zero, suc, ◌+◌, ◌-◌, ◌*◌, ◌/◌, ◌%◌, ◌<◌, ◌≤◌, ◌⊎◌, inl, inr, ◌^◌, Bool, true, false, cond, nat_lt, List, [], ◌∷◌, ◌++◌, length, All, Option, None, Some, IsSome, slice_get, IsSomeAnd, refl, ap, sym, ◌∙◌, arith, zero-add, subst}
use Rattle.std.specs.List.{range_with_len}
use Rattle.std.proofs.lemmas.Bool.Decides.{Decides-ltb}
use Rattle.std.proofs.lemmas.Nat.{mul-le}
use Rattle.std.proofs.lemmas.List.{length-append}
use Rattle.std.proofs.lemmas.List.FromFn.{length-map-range_with_len}
use Rattle.std.proofs.lemmas.List.Elements.{All-nil, All-cons, All-append, All-map, All-weaker}
use Rattle.std.proofs.lemmas.Option.{slice_get_within}
use Rattle.pc_sheet.specs.Sheet.{Universe, Sheet, NamedStatement, Counting, no_more_than, no_fewer_than, of_first, Statement, Statements, no_statements, statement, compare, in_table, negation, all_of, some_of, implies, iff, for_all, exists, counts}
use Rattle.pc_sheet.specs.Truth.{Scope}
use Rattle.pc_sheet.specs.Sizes.{size_of}
use Rattle.pc_sheet.specs.Entailment.{cell_sizes}
use Rattle.pc_sheet.specs.Nodes.{Node, bodies_of, threshold_of, part_at, one_of_two, counter_child, counted_child, child, node_from, root_of, node_at, kind_of}
use Rattle.pc_sheet.specs.WellFormed.{IsWellFormed, IsWellFormedRule}
use Rattle.pc_sheet.specs.WellSorted.{Variables, parts_in, IsBound, IsWellSorted, AreWellSorted}
use Rattle.pc_sheet.specs.declared.ids.SortId.{SortId}
use Rattle.pc_sheet.specs.declared.ids.ValueId.{ValueId}
use Rattle.pc_sheet.specs.declared.nodes.NodeKind.{NodeKind}
use Rattle.pc_sheet.specs.declared.nodes.NodeKind.TheVariants.{Atom, Not, And, Or, Implies, Iff, ForAll, Exists, Count, Counter}
use Rattle.pc_sheet.proofs.Counters.{body_child, later_child, counter_there}
use Rattle.pc_accept.specs.Literals.{Symbol, pair, node, Literal, negative}
use Rattle.pc_accept.specs.Rows.{Part, IsAtRow, count_rows, counter_rows, rows_of_child, rows_below_kind, parent_of, last_of}
use Rattle.pc_accept.specs.Axioms.{Axiom, axiom_some, axiom_one, axiom_rule, axiom_node, axiom_atom, IsClauseOf, IsClauseOfKind, IsAtNumber, each_below, clauses_of_kind, child_of, signed_node, signed_child}
use Rattle.pc_accept.specs.Writable.{IsPathOf, IsSymbolOf, IsAxiomOf}
use Rattle.pc_ground.specs.Variables.{pair_at, pairs_from, counters_below, nodes_below, parts_below, nodes_from, variables}
use Rattle.pc_ground.specs.Ground.{GroundAxiom, axioms}
use Rattle.pc_ground.specs.Naming.{name_of}
use Rattle.pc_ground.specs.Laws.{ClausesAreOfAxioms}
use Rattle.pc_ground.proofs.Adding.{size_small}
use Rattle.pc_laws.proofs.ValueLists.{values_each}
use Rattle.pc_ground.proofs.Lists.{range_each}
use Rattle.pc_ground.proofs.Walking.{child_is, body_at}
use Rattle.pc_justify_laws.specs.Laws.{NamesAreOfTheirSheet}
use Rattle.pc_lemmas.proofs.Options.{same_some}

some_within : {X : Type 0} (xs : List X) (i : ℕ) (P : X → Type 0) → IsSomeAnd (slice_get xs i) P → i < length xs
some_within xs i P h = by (slice_get xs i) refl h
  where
    by : (o : Option _) → slice_get xs i ≡ o → IsSomeAnd o P → i < length xs
    by None at h = absurd h
    by (Some x) at h = slice_get_within xs i x at

module _ (sheet : Sheet) (formed : IsWellFormed sheet) where
  abbrev u : Universe
  u = sheet.universe

  -- ---- paths

  -- what no formula says
  abbrev IsCounter : Statement → Type 0
  IsCounter (compare left op right) = ⊥
  IsCounter (in_table t xs) = ⊥
  IsCounter (negation s) = ⊥
  IsCounter (all_of ss) = ⊥
  IsCounter (some_of ss) = ⊥
  IsCounter (implies s t) = ⊥
  IsCounter (iff s t) = ⊥
  IsCounter (for_all name s body) = ⊥
  IsCounter (exists name s body) = ⊥
  IsCounter (counts (no_more_than k) name s body) = ⊥
  IsCounter (counts (no_fewer_than k) name s body) = ⊥
  IsCounter (counts (of_first m i j) name s body) = Unit {0}

  -- a counter, or a subformula of a rule
  abbrev IsSorted : Node → Type 0
  IsSorted n = IsCounter n.1 ⊎ ((vs : Variables) × IsWellSorted u vs n.1)

  part_small : (scope : Scope) (ss : Statements) (vs : Variables) (k : ℕ) (m : Node) → AreWellSorted u vs ss → part_at scope ss k ≡ Some m → (k < parts_in ss) × IsSorted m
  part_small scope no_statements vs k m sorted is = absurd (cc)
  part_small scope (statement s ss) vs zero m sorted is = (omega arith, subst IsSorted (same_some is) (inr (vs, sorted.0)))
  part_small scope (statement s ss) vs (suc k) m sorted is = let rest = part_small scope ss vs k m sorted.1 is in (omega (arith, rest.0), rest.1)

  two_small : (scope : Scope) (s t : Statement) (vs : Variables) (k : ℕ) (m : Node) → IsWellSorted u vs s → IsWellSorted u vs t → one_of_two scope s t k ≡ Some m → (k < 2) × IsSorted m
  two_small scope s t vs zero m hs ht is = (omega arith, subst IsSorted (same_some is) (inr (vs, hs)))
  two_small scope s t vs (suc zero) m hs ht is = (omega arith, subst IsSorted (same_some is) (inr (vs, ht)))
  two_small scope s t vs (suc (suc k)) m hs ht is = absurd (cc)

  body_small : (n k : ℕ) (b : Bool) (body m : Node) → nat_lt k n ≡ b → IsSorted body → cond b (Some body) None ≡ Some m → (k < n) × IsSorted m
  body_small n k true body m is sorted at = ((Decides-ltb k n).0 is, subst IsSorted (same_some at) sorted)
  body_small n k false body m is sorted at = absurd (cc)

  counter_small : (scope : Scope) (n m : ℕ) (name : List ℕ) (s : SortId) (body : Statement) (q : ℕ) (x : Node)
      → counter_child scope n m name s body q ≡ Some x → (q < n * m) × IsSorted x
  counter_small scope n m name s body q x is =
      body_small (n * m) q (nat_lt q (n * m)) (scope, counts (of_first m (suc (q / m)) (suc (q % m))) name s body) x refl (inl tt) is

  counted_small : (scope : Scope) (n m : ℕ) (name : List ℕ) (s : SortId) (body : Statement) (k : ℕ) (x : Node) → n ≤ 256 → m ≤ 256
      → ((v : ValueId) → IsSorted (scope ++ (s, v) ∷ [], body)) → counted_child scope n m name s body k ≡ Some x → (k < 2 ^ 32) × IsSorted x
  counted_small scope n m name s body k x few low each = by (nat_lt k n) refl
    where
      by : (b : Bool) → nat_lt k n ≡ b → cond b (Some (scope ++ (s, record { 0 = k }) ∷ [], body)) (counter_child scope n m name s body (k - n)) ≡ Some x → (k < 2 ^ 32) × IsSorted x
      by true is at = let below = (Decides-ltb k n).0 is in (omega (arith, below, few), subst IsSorted (same_some at) (each (record { 0 = k })))
      by false is at =
          let rest = counter_small scope n m name s body (k - n) x at in
          (omega (arith, rest.0, few, mul-le n m 256 256 few low), rest.1)

  low_threshold : (c : Counting) → IsBound c → threshold_of c ≤ 256
  low_threshold (no_more_than k) h = omega (arith, h)
  low_threshold (no_fewer_than k) h = h.1
  low_threshold (of_first m i j) h = absurd h

  few_bodies : (c : Counting) (n : ℕ) → n ≤ 256 → bodies_of c n ≤ 256
  few_bodies (no_more_than k) n l = l
  few_bodies (no_fewer_than k) n l = l
  few_bodies (of_first m i j) n l = omega arith

  no_child : (n m : Node) (k : ℕ) → IsCounter n.1 → child u n k ≡ Some m → ⊥
  no_child (scope, compare left op right) m k h is = h
  no_child (scope, in_table t xs) m k h is = h
  no_child (scope, negation s) m k h is = h
  no_child (scope, all_of ss) m k h is = h
  no_child (scope, some_of ss) m k h is = h
  no_child (scope, implies s t) m k h is = h
  no_child (scope, iff s t) m k h is = h
  no_child (scope, for_all name s body) m k h is = h
  no_child (scope, exists name s body) m k h is = h
  no_child (scope, counts (no_more_than b) name s body) m k h is = h
  no_child (scope, counts (no_fewer_than b) name s body) m k h is = h
  no_child (scope, counts (of_first t i j) name s body) m k h is =
      let rest = counter_small scope 0 0 name s body (k - 0) m (sym (later_child scope 0 0 name s body k (omega arith)) ∙ is) in
      absurd (omega (arith, rest.0))

  sorted_child : (n m : Node) (k : ℕ) (vs : Variables) → IsWellSorted u vs n.1 → child u n k ≡ Some m → (k < 2 ^ 32) × IsSorted m
  sorted_child (scope, compare left op right) m k vs h is = absurd (cc)
  sorted_child (scope, in_table t xs) m k vs h is = absurd (cc)
  sorted_child (scope, negation s) m zero vs h is = (omega arith, subst IsSorted (same_some is) (inr (vs, h)))
  sorted_child (scope, negation s) m (suc k) vs h is = absurd (cc)
  sorted_child (scope, all_of ss) m k vs h is = let p = part_small scope ss vs k m h.1 is in (omega (arith, p.0, h.0.1), p.1)
  sorted_child (scope, some_of ss) m k vs h is = let p = part_small scope ss vs k m h.1 is in (omega (arith, p.0, h.0.1), p.1)
  sorted_child (scope, implies s t) m k vs h is = let p = two_small scope s t vs k m h.0 h.1 is in (omega (arith, p.0), p.1)
  sorted_child (scope, iff s t) m k vs h is = let p = two_small scope s t vs k m h.0 h.1 is in (omega (arith, p.0), p.1)
  sorted_child (scope, for_all name s body) m k vs h is =
      let p = body_small (size_of u s) k (nat_lt k (size_of u s)) (scope ++ (s, record { 0 = k }) ∷ [], body) m refl (inr (vs ++ (name, s) ∷ [], h.1)) is in
      (omega (arith, p.0, size_small u formed.universe s h.0.sort), p.1)
  sorted_child (scope, exists name s body) m k vs h is =
      let p = body_small (size_of u s) k (nat_lt k (size_of u s)) (scope ++ (s, record { 0 = k }) ∷ [], body) m refl (inr (vs ++ (name, s) ∷ [], h.1)) is in
      (omega (arith, p.0, size_small u formed.universe s h.0.sort), p.1)
  sorted_child (scope, counts c name s body) m k vs h is =
      counted_small scope (bodies_of c (size_of u s)) (threshold_of c) name s body k m (few_bodies c (size_of u s) (size_small u formed.universe s h.1.sort)) (low_threshold c h.0)
      (λ v. inr (vs ++ (name, s) ∷ [], h.2)) is

  child_small : (n m : Node) (k : ℕ) → IsSorted n → child u n k ≡ Some m → (k < 2 ^ 32) × IsSorted m
  child_small n m k (inl counter) is = absurd (no_child n m k counter is)
  child_small n m k (inr (vs, h)) is = sorted_child n m k vs h is

  abbrev IsSmall : ℕ → Type 0
  IsSmall k = k < 2 ^ 32

  path_small : (path : List ℕ) (n m : Node) → IsSorted n → node_from u (Some n) path ≡ Some m → All IsSmall path × IsSorted m
  path_small [] n m sorted is = (All-nil IsSmall, subst IsSorted (same_some is) sorted)
  path_small (k ∷ ks) n m sorted is = by (child u n k) refl is (λ x. path_small ks x m)
    where
      by : (o : Option Node) → child u n k ≡ o → node_from u o ks ≡ Some m → ((x : Node) → IsSorted x → node_from u (Some x) ks ≡ Some m → All IsSmall ks × IsSorted m) → All IsSmall (k ∷ ks) × IsSorted m
      by None at is further = absurd (cc)
      by (Some x) at is further =
          let here = child_small n x k sorted at in
          let rest = further x here.1 is in
          (All-cons IsSmall k ks here.0 rest.0, rest.1)

  at_small : (r : ℕ) (path : List ℕ) (m : Node) → node_at sheet r path ≡ Some m → All IsSmall path × IsSorted m
  at_small r path m is = by (slice_get sheet.rules r) refl is
    where
      by : (o : Option NamedStatement) → slice_get sheet.rules r ≡ o → node_from u (root_of o) path ≡ Some m → All IsSmall path × IsSorted m
      by None at is = absurd (cc)
      by (Some rule) at is =
          let sorted = (rule_at sheet.rules r rule formed.rules.each at).sorted in
          path_small path ([], rule.states) m (inr ([], sorted)) is
        where
          rule_at : (rules : List NamedStatement) (i : ℕ) (rule : NamedStatement) → All (IsWellFormedRule u) rules → slice_get rules i ≡ Some rule → IsWellFormedRule u rule
          rule_at [] i rule all at = absurd (cc)
          rule_at (x ∷ xs) zero rule all at = subst (IsWellFormedRule u) (same_some at) (all zero x (omega arith))
          rule_at (x ∷ xs) (suc i) rule all at = rule_at xs i rule (λ j d below. all (suc j) d (omega (arith, below))) at

  path_of : (r : ℕ) (path : List ℕ) (m : Node) → node_at sheet r path ≡ Some m → IsPathOf sheet r path
  path_of r path m is = record { leads = subst IsSome (sym is) refl; small = (at_small r path m is).0 }

  -- ---- variables

  abbrev IsOf : Symbol → Type 0
  IsOf x = IsSymbolOf sheet x

  counters_of : (r : ℕ) (path : List ℕ) (scope : Scope) (c : Counting) (name : List ℕ) (s : SortId) (body : Statement) → node_at sheet r path ≡ Some (scope, counts c name s body)
      → All IsOf (counters_below r path (bodies_of c (size_of u s)) (threshold_of c))
  counters_of r path scope c name s body at =
      let n = bodies_of c (size_of u s) in
      let m = threshold_of c in
      All-map IsOf (λ q. node r (path ++ (n + q) ∷ [])) (range_with_len 0 (n * m)) (range_each (λ q. IsOf (node r (path ++ (n + q) ∷ []))) 0 (n * m)
      (λ q z l.
      let there : n + q - n ≡ q = omega arith in
      path_of r (path ++ (n + q) ∷ []) (scope, counts (of_first m (suc (q / m)) (suc (q % m))) name s body)
      (child_is sheet r path (scope, counts c name s body) (n + q) at
      ∙ later_child scope n m name s body (n + q) (omega arith)
      ∙ ap (counter_child scope n m name s body) there
      ∙ counter_there scope n m name s body q (omega (arith, l)))))

  mutual
    nodes_of : (r : ℕ) (path : List ℕ) (scope : Scope) (s : Statement) → node_at sheet r path ≡ Some (scope, s) → All IsOf (nodes_below u r path s)
    nodes_of r path scope (compare left op right) at = All-cons IsOf (node r path) [] (path_of r path (scope, compare left op right) at) (All-nil IsOf)
    nodes_of r path scope (in_table t xs) at = All-cons IsOf (node r path) [] (path_of r path (scope, in_table t xs) at) (All-nil IsOf)
    nodes_of r path scope (negation s) at =
        All-cons IsOf (node r path) _ (path_of r path (scope, negation s) at) (nodes_of r (path ++ 0 ∷ []) scope s (child_is sheet r path (scope, negation s) 0 at))
    nodes_of r path scope (all_of ss) at =
        All-cons IsOf (node r path) _ (path_of r path (scope, all_of ss) at)
        (parts_of r path scope ss 0 (λ j n is. child_is sheet r path (scope, all_of ss) (0 + j) at ∙ ap (part_at scope ss) (zero-add j) ∙ is))
    nodes_of r path scope (some_of ss) at =
        All-cons IsOf (node r path) _ (path_of r path (scope, some_of ss) at)
        (parts_of r path scope ss 0 (λ j n is. child_is sheet r path (scope, some_of ss) (0 + j) at ∙ ap (part_at scope ss) (zero-add j) ∙ is))
    nodes_of r path scope (implies s t) at =
        All-cons IsOf (node r path) _ (path_of r path (scope, implies s t) at)
        (All-append IsOf (nodes_below u r (path ++ 0 ∷ []) s) _
        (nodes_of r (path ++ 0 ∷ []) scope s (child_is sheet r path (scope, implies s t) 0 at))
        (nodes_of r (path ++ 1 ∷ []) scope t (child_is sheet r path (scope, implies s t) 1 at)))
    nodes_of r path scope (iff s t) at =
        All-cons IsOf (node r path) _ (path_of r path (scope, iff s t) at)
        (All-append IsOf (nodes_below u r (path ++ 0 ∷ []) s) _
        (nodes_of r (path ++ 0 ∷ []) scope s (child_is sheet r path (scope, iff s t) 0 at))
        (nodes_of r (path ++ 1 ∷ []) scope t (child_is sheet r path (scope, iff s t) 1 at)))
    nodes_of r path scope (for_all name s body) at =
        All-cons IsOf (node r path) _ (path_of r path (scope, for_all name s body) at)
        (values_each IsOf (λ v. nodes_below u r (path ++ v.0 ∷ []) body) (size_of u s)
        (λ v l. nodes_of r (path ++ v.0 ∷ []) (scope ++ (s, v) ∷ []) body (child_is sheet r path (scope, for_all name s body) v.0 at ∙ body_at u scope s body v l)))
    nodes_of r path scope (exists name s body) at =
        All-cons IsOf (node r path) _ (path_of r path (scope, exists name s body) at)
        (values_each IsOf (λ v. nodes_below u r (path ++ v.0 ∷ []) body) (size_of u s)
        (λ v l. nodes_of r (path ++ v.0 ∷ []) (scope ++ (s, v) ∷ []) body (child_is sheet r path (scope, exists name s body) v.0 at ∙ body_at u scope s body v l)))
    nodes_of r path scope (counts c name s body) at =
        let n = bodies_of c (size_of u s) in
        let m = threshold_of c in
        All-cons IsOf (node r path) _ (path_of r path (scope, counts c name s body) at)
        (All-append IsOf _ (counters_below r path n m)
        (values_each IsOf (λ v. nodes_below u r (path ++ v.0 ∷ []) body) n
        (λ v l. nodes_of r (path ++ v.0 ∷ []) (scope ++ (s, v) ∷ []) body (child_is sheet r path (scope, counts c name s body) v.0 at ∙ body_child scope n m name s body v.0 l)))
        (counters_of r path scope c name s body at))

    parts_of : (r : ℕ) (path : List ℕ) (scope : Scope) (ss : Statements) (k : ℕ)
        → ((j : ℕ) (n : Node) → part_at scope ss j ≡ Some n → node_at sheet r (path ++ (k + j) ∷ []) ≡ Some n) → All IsOf (parts_below u r path k ss)
    parts_of r path scope no_statements k from = All-nil IsOf
    parts_of r path scope (statement s ss) k from =
        let here : k + 0 ≡ k = omega arith in
        let P : ℕ → Type 0 = λ j. node_at sheet r (path ++ j ∷ []) ≡ Some (scope, s) in
        All-append IsOf (nodes_below u r (path ++ k ∷ []) s) (parts_below u r path (k + 1) ss)
        (nodes_of r (path ++ k ∷ []) scope s (subst P here (from zero (scope, s) refl)))
        (parts_of r path scope ss (k + 1) (λ j n is.
        let Q : ℕ → Type 0 = λ i. node_at sheet r (path ++ i ∷ []) ≡ Some n in
        let there : k + suc j ≡ k + 1 + j = omega arith in
        subst Q there (from (suc j) n is)))

  rules_of : (rules : List NamedStatement) (r : ℕ) → ((j : ℕ) (rule : NamedStatement) → slice_get rules j ≡ Some rule → slice_get sheet.rules (r + j) ≡ Some rule)
      → All IsOf (nodes_from u r rules)
  rules_of [] r from = All-nil IsOf
  rules_of (rule ∷ rules) r from =
      let here : r + 0 ≡ r = omega arith in
      let P : ℕ → Type 0 = λ j. slice_get sheet.rules j ≡ Some rule in
      let at : slice_get sheet.rules r ≡ Some rule = subst P here (from zero rule refl) in
      All-append IsOf (nodes_below u r [] rule.states) (nodes_from u (r + 1) rules)
      (nodes_of r [] [] rule.states (ap (λ o. node_from u (root_of o) []) at))
      (rules_of rules (r + 1) (λ j other is.
      let Q : ℕ → Type 0 = λ i. slice_get sheet.rules i ≡ Some other in
      let there : r + suc j ≡ r + 1 + j = omega arith in
      subst Q there (from (suc j) other is)))

  cells_of : (ns : List ℕ) (c : ℕ) → ((j n : ℕ) → slice_get ns j ≡ Some n → slice_get (cell_sizes u) (c + j) ≡ Some n) → All IsOf (pairs_from c ns)
  cells_of [] c from = All-nil IsOf
  cells_of (n ∷ ns) c from =
      let P : ℕ → Type 0 = λ k. slice_get (cell_sizes u) k ≡ Some n in
      let here : c + 0 ≡ c = omega arith in
      let at : slice_get (cell_sizes u) c ≡ Some n = subst P here (from zero n refl) in
      All-append IsOf (each_below n (pair_at c)) (pairs_from (c + 1) ns)
      (All-map IsOf (pair_at c) (range_with_len 0 n) (range_each (λ v. IsOf (pair_at c v)) 0 n
      (λ v l m. let Q : Option ℕ → Type 0 = λ o. IsSomeAnd o (λ k. v < k) in subst Q (sym at) (omega (arith, m)))))
      (cells_of ns (c + 1) (λ j m is.
      let Q : ℕ → Type 0 = λ k. slice_get (cell_sizes u) k ≡ Some m in
      let there : c + suc j ≡ c + 1 + j = omega arith in
      subst Q there (from (suc j) m is)))

  pub variables_of : All IsOf (variables sheet)
  variables_of =
      All-append IsOf (pairs_from 0 (cell_sizes u)) (nodes_from u 0 sheet.rules)
      (cells_of (cell_sizes u) 0 (λ j n is. let P : ℕ → Type 0 = λ k. slice_get (cell_sizes u) k ≡ Some n in subst P (sym (zero-add j)) is))
      (rules_of sheet.rules 0 (λ j rule is. let P : ℕ → Type 0 = λ k. slice_get sheet.rules k ≡ Some rule in subst P (sym (zero-add j)) is))

  -- ---- axioms

  -- so few children that a number of one, or of one more, takes no more than 32 bits
  abbrev HasFew : NodeKind → Type 0
  HasFew Atom = Unit {0}
  HasFew Not = Unit {0}
  HasFew (And n) = n < 4194304
  HasFew (Or n) = n < 4194304
  HasFew Implies = Unit {0}
  HasFew Iff = Unit {0}
  HasFew (ForAll n) = n < 4194304
  HasFew (Exists n) = n < 4194304
  HasFew (Count at_most n m) = Unit {0}
  HasFew (Counter i j) = Unit {0}

  few_sorted : (s : Statement) (vs : Variables) → IsWellSorted u vs s → HasFew (kind_of u s)
  few_sorted (compare left op right) vs h = tt
  few_sorted (in_table t xs) vs h = tt
  few_sorted (negation s) vs h = tt
  few_sorted (all_of ss) vs h = h.0.1
  few_sorted (some_of ss) vs h = h.0.1
  few_sorted (implies s t) vs h = tt
  few_sorted (iff s t) vs h = tt
  few_sorted (for_all name s body) vs h = omega (arith, size_small u formed.universe s h.0.sort)
  few_sorted (exists name s body) vs h = omega (arith, size_small u formed.universe s h.0.sort)
  few_sorted (counts (no_more_than k) name s body) vs h = tt
  few_sorted (counts (no_fewer_than k) name s body) vs h = tt
  few_sorted (counts (of_first m i j) name s body) vs h = tt

  few_counter : (s : Statement) → IsCounter s → HasFew (kind_of u s)
  few_counter (compare left op right) h = absurd h
  few_counter (in_table t xs) h = absurd h
  few_counter (negation s) h = absurd h
  few_counter (all_of ss) h = absurd h
  few_counter (some_of ss) h = absurd h
  few_counter (implies s t) h = absurd h
  few_counter (iff s t) h = absurd h
  few_counter (for_all name s body) h = absurd h
  few_counter (exists name s body) h = absurd h
  few_counter (counts (no_more_than k) name s body) h = absurd h
  few_counter (counts (no_fewer_than k) name s body) h = absurd h
  few_counter (counts (of_first m i j) name s body) h = tt

  has_few : (n : Node) → IsSorted n → HasFew (kind_of u n.1)
  has_few n (inl counter) = few_counter n.1 counter
  has_few n (inr (vs, h)) = few_sorted n.1 vs h

  number_small : (clauses : List (List Literal)) (i : ℕ) (clause : List Literal) → length clauses < 2 ^ 32 → IsAtNumber clauses i clause → i < 2 ^ 32
  number_small clauses zero clause few h = absurd h
  number_small clauses (suc i) clause few h = omega (arith, slice_get_within clauses i clause h, few)

  row_small : (rows : List (List (Part Literal))) (i : ℕ) (clause : List Literal) → length rows ≤ 4 → IsAtRow rows i clause → i < 2 ^ 32
  row_small rows zero clause few h = absurd h
  row_small rows (suc i) clause few h = omega (arith, some_within rows i _ h, few)

  joined_small : (n i : ℕ) (f : ℕ → List Literal) (last clause : List Literal) → n < 4194304 → IsAtNumber (each_below n f ++ last ∷ []) i clause → i < 2 ^ 32
  joined_small n i f last clause few h =
      number_small (each_below n f ++ last ∷ []) i clause (omega (arith, length-append (each_below n f) (last ∷ []), length-map-range_with_len f 0 n, few)) h

  module _ (here : Bool → Literal) (child : ℕ → Bool → Literal) where
    rows_of_few : (n m k : ℕ) → length (rows_of_child here child n m k) ≤ 4
    rows_of_few n m k = by (nat_lt k n) (nat_lt (k - n) (n * m))
      where
        by : (b d : Bool) → length (cond b [] (cond d (counter_rows here child n m ((k - n) / m) ((k - n) % m)) [])) ≤ 4
        by true d = omega arith
        by false true = omega arith
        by false false = omega arith

    few_rows : (kind : NodeKind) (k : ℕ) → length (rows_below_kind here child kind k) ≤ 4
    few_rows Atom k = omega arith
    few_rows Not k = omega arith
    few_rows (And n) k = omega arith
    few_rows (Or n) k = omega arith
    few_rows Implies k = omega arith
    few_rows Iff k = omega arith
    few_rows (ForAll n) k = omega arith
    few_rows (Exists n) k = omega arith
    few_rows (Count at_most n m) k = rows_of_few n m k
    few_rows (Counter i j) k = omega arith

  clause_small : (r : ℕ) (path : List ℕ) (kind : NodeKind) (i : ℕ) (clause : List Literal) → HasFew kind → IsClauseOfKind sheet r path kind i clause → i < 2 ^ 32
  clause_small r path Atom i clause few h = number_small (clauses_of_kind (node r path) (child_of r path) Atom) i clause (omega arith) h
  clause_small r path Not i clause few h = number_small (clauses_of_kind (node r path) (child_of r path) Not) i clause (omega arith) h
  clause_small r path (And n) i clause few h = joined_small n i _ _ clause few h
  clause_small r path (Or n) i clause few h = joined_small n i _ _ clause few h
  clause_small r path Implies i clause few h = number_small (clauses_of_kind (node r path) (child_of r path) Implies) i clause (omega arith) h
  clause_small r path Iff i clause few h = number_small (clauses_of_kind (node r path) (child_of r path) Iff) i clause (omega arith) h
  clause_small r path (ForAll n) i clause few h = joined_small n i _ _ clause few h
  clause_small r path (Exists n) i clause few h = joined_small n i _ _ clause few h
  clause_small r path (Count at_most n m) i clause few h = row_small (count_rows (signed_node r path) (signed_child r path) n m at_most) i clause (omega arith) h
  clause_small r path (Counter j k) i clause few h = by (node_at sheet r (parent_of path)) h
    where
      by : (o : Option Node) → IsSomeAnd o (λ above. IsAtRow (rows_below_kind (signed_node r (parent_of path)) (signed_child r (parent_of path)) (kind_of u above.1) (last_of path)) i clause) → i < 2 ^ 32
      by None none = absurd none
      by (Some above) at = row_small _ i clause (few_rows (signed_node r (parent_of path)) (signed_child r (parent_of path)) (kind_of u above.1) (last_of path)) at

  axiom_of : (a : Axiom) (clause : List Literal) → IsClauseOf sheet a clause → IsAxiomOf sheet a
  axiom_of (axiom_some c) clause h = some_within (cell_sizes u) c.0 _ h
  axiom_of (axiom_one c v w) clause h = both (slice_get (cell_sizes u) c.0) refl h
    where
      both : (o : Option ℕ) → slice_get (cell_sizes u) c.0 ≡ o → IsSomeAnd o (λ n. (v.0 < n) × (w.0 < n) × (v ≢ w) × (clause ≡ negative (pair c v) ∷ negative (pair c w) ∷ [])) → IsAxiomOf sheet (axiom_one c v w)
      both None at h = absurd h
      both (Some n) at h =
          let P : ValueId → Option ℕ → Type 0 = λ x o. IsSomeAnd o (λ m. x.0 < m) in
          (subst (P v) (sym at) h.0, subst (P w) (sym at) h.1)
  axiom_of (axiom_rule r) clause h = some_within sheet.rules r _ h
  axiom_of (axiom_node r path i) clause h = by (node_at sheet r path) refl h
    where
      by : (o : Option Node) → node_at sheet r path ≡ o → IsSomeAnd o (λ n. IsClauseOfKind sheet r path (kind_of u n.1) i clause) → IsAxiomOf sheet (axiom_node r path i)
      by None at h = absurd h
      by (Some n) at h = (path_of r path n at, clause_small r path (kind_of u n.1) i clause (has_few n (at_small r path n at).1) h)
  axiom_of (axiom_atom r path reads) clause h = (path_of r path (h.scope, h.states) h.at, h.each)

pub names_are_of_their_sheet : ClausesAreOfAxioms → NamesAreOfTheirSheet
names_are_of_their_sheet of sheet formed = record {
  variables = variables_of sheet formed;
  axioms = All-map (IsAxiomOf sheet) name_of (axioms sheet) (All-weaker (λ (g : GroundAxiom). IsClauseOf sheet g.name g.clause) (λ g. IsAxiomOf sheet g.name) (λ g h. axiom_of sheet formed g.name g.clause h) (axioms sheet) (of sheet));
}
