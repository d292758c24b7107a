-- Each node among the variables is what its path leads to.
use Rattle.std.proofs.Common.{◌≡◌, ℕ, zero, suc, ◌+◌, ◌-◌, ◌*◌, ◌/◌, ◌%◌, ◌<◌, List, [], ◌∷◌, ◌++◌, All, Contains, Some, slice_get, arith, zero-add, ap, refl, sym, ◌∙◌, subst}
use Rattle.std.specs.List.{flat_map, range_with_len}
use Rattle.std.proofs.lemmas.List.Elements.{All-nil, All-cons, All-append, All-map, All-contains}
use Rattle.pc_sheet.specs.Sheet.{Sheet, NamedStatement, of_first, Statement, Statements, no_statements, statement, compare, in_table, negation, all_of, some_of, implies, iff, for_all, exists, counts}
use Rattle.pc_sheet.specs.Truth.{Scope}
use Rattle.pc_sheet.specs.Sizes.{size_of}
use Rattle.pc_sheet.specs.Cells.{values_below}
use Rattle.pc_sheet.specs.Entailment.{cell_sizes}
use Rattle.pc_sheet.specs.Nodes.{Node, part_at, bodies_of, threshold_of, counter_child, node_from, root_of, node_at}
use Rattle.pc_sheet.proofs.Counters.{body_child, later_child, counter_there}
use Rattle.pc_accept.specs.Literals.{Symbol, pair, node}
use Rattle.pc_accept.specs.Axioms.{each_below}
use Rattle.pc_laws.proofs.ValueLists.{values_each}
use Rattle.pc_lemmas.proofs.Elements.{all_from}
use Rattle.pc_ground.specs.Variables.{pair_at, pairs_from, counters_below, nodes_below, parts_below, nodes_from, variables}
use Rattle.pc_ground.proofs.Lists.{range_each, there_each}
use Rattle.pc_ground.proofs.Walking.{child_is, body_at}

module _ (sheet : Sheet) where
  -- a pair, or a node to which its path leads
  abbrev pub IsThere : Symbol → Type 0
  IsThere (pair c v) = Unit {0}
  IsThere (node r path) = (n : Node) × (node_at sheet r path ≡ Some n)

  abbrev AreThere : List Symbol → Type 0
  AreThere xs = All IsThere xs

  counters_there : (r : ℕ) (path : List ℕ) (n m : ℕ) → ((q : ℕ) → q < n * m → IsThere (node r (path ++ (n + q) ∷ []))) → AreThere (counters_below r path n m)
  counters_there r path n m each =
      All-map IsThere (λ q. node r (path ++ (n + q) ∷ [])) (range_with_len 0 (n * m)) (range_each (λ q. IsThere (node r (path ++ (n + q) ∷ []))) 0 (n * m) (λ q _ l. each q (omega (arith, l))))

  mutual
    nodes_there : (r : ℕ) (path : List ℕ) (scope : Scope) (s : Statement) → node_at sheet r path ≡ Some (scope, s) → AreThere (nodes_below sheet.universe r path s)
    nodes_there r path scope (compare left op right) at = All-cons IsThere (node r path) [] ((scope, compare left op right), at) (All-nil IsThere)
    nodes_there r path scope (in_table t xs) at = All-cons IsThere (node r path) [] ((scope, in_table t xs), at) (All-nil IsThere)
    nodes_there r path scope (negation s) at =
        All-cons IsThere (node r path) (nodes_below sheet.universe r (path ++ 0 ∷ []) s) ((scope, negation s), at) (nodes_there r (path ++ 0 ∷ []) scope s (child_is sheet r path (scope, negation s) 0 at))
    nodes_there r path scope (all_of ss) at =
        All-cons IsThere (node r path) (parts_below sheet.universe r path 0 ss) ((scope, all_of ss), at)
        (parts_there r path scope 0 ss (λ j n is. child_is sheet r path (scope, all_of ss) (0 + j) at ∙ ap (part_at scope ss) (zero-add j) ∙ is))
    nodes_there r path scope (some_of ss) at =
        All-cons IsThere (node r path) (parts_below sheet.universe r path 0 ss) ((scope, some_of ss), at)
        (parts_there r path scope 0 ss (λ j n is. child_is sheet r path (scope, some_of ss) (0 + j) at ∙ ap (part_at scope ss) (zero-add j) ∙ is))
    nodes_there r path scope (implies s t) at =
        let xs = nodes_below sheet.universe r (path ++ 0 ∷ []) s in
        let ys = nodes_below sheet.universe r (path ++ 1 ∷ []) t in
        All-cons IsThere (node r path) (xs ++ ys) ((scope, implies s t), at)
        (All-append IsThere xs ys (nodes_there r (path ++ 0 ∷ []) scope s (child_is sheet r path (scope, implies s t) 0 at)) (nodes_there r (path ++ 1 ∷ []) scope t (child_is sheet r path (scope, implies s t) 1 at)))
    nodes_there r path scope (iff s t) at =
        let xs = nodes_below sheet.universe r (path ++ 0 ∷ []) s in
        let ys = nodes_below sheet.universe r (path ++ 1 ∷ []) t in
        All-cons IsThere (node r path) (xs ++ ys) ((scope, iff s t), at)
        (All-append IsThere xs ys (nodes_there r (path ++ 0 ∷ []) scope s (child_is sheet r path (scope, iff s t) 0 at)) (nodes_there r (path ++ 1 ∷ []) scope t (child_is sheet r path (scope, iff s t) 1 at)))
    nodes_there r path scope (for_all name s body) at =
        let u = sheet.universe in
        All-cons IsThere (node r path) (flat_map (λ v. nodes_below u r (path ++ v.0 ∷ []) body) (values_below (size_of u s))) ((scope, for_all name s body), at)
        (values_each IsThere (λ v. nodes_below u r (path ++ v.0 ∷ []) body) (size_of u s)
        (λ v l. nodes_there r (path ++ v.0 ∷ []) (scope ++ (s, v) ∷ []) body (child_is sheet r path (scope, for_all name s body) v.0 at ∙ body_at u scope s body v l)))
    nodes_there r path scope (exists name s body) at =
        let u = sheet.universe in
        All-cons IsThere (node r path) (flat_map (λ v. nodes_below u r (path ++ v.0 ∷ []) body) (values_below (size_of u s))) ((scope, exists name s body), at)
        (values_each IsThere (λ v. nodes_below u r (path ++ v.0 ∷ []) body) (size_of u s)
        (λ v l. nodes_there r (path ++ v.0 ∷ []) (scope ++ (s, v) ∷ []) body (child_is sheet r path (scope, exists name s body) v.0 at ∙ body_at u scope s body v l)))
    nodes_there r path scope (counts c name s body) at =
        let u = sheet.universe in
        let n = bodies_of c (size_of u s) in
        let m = threshold_of c in
        let xs = flat_map (λ v. nodes_below u r (path ++ v.0 ∷ []) body) (values_below n) in
        let counter : (q : ℕ) → q < n * m → IsThere (node r (path ++ (n + q) ∷ [])) =
        λ q l.
        let here : n + q - n ≡ q = omega arith in (
          (scope, counts (of_first m (suc (q / m)) (suc (q % m))) name s body),
          child_is sheet r path (scope, counts c name s body) (n + q) at ∙ later_child scope n m name s body (n + q) (omega arith) ∙ ap (counter_child scope n m name s body) here ∙ counter_there scope n m name s body q l,
        ) in
        All-cons IsThere (node r path) (xs ++ counters_below r path n m) ((scope, counts c name s body), at)
        (All-append IsThere xs (counters_below r path n m)
        (values_each IsThere (λ v. nodes_below u r (path ++ v.0 ∷ []) body) n
        (λ v l. nodes_there r (path ++ v.0 ∷ []) (scope ++ (s, v) ∷ []) body (child_is sheet r path (scope, counts c name s body) v.0 at ∙ body_child scope n m name s body v.0 l)))
        (counters_there r path n m counter))

    parts_there : (r : ℕ) (path : List ℕ) (scope : Scope) (k : ℕ) (ss : Statements) → ((j : ℕ) (n : Node) → part_at scope ss j ≡ Some n → node_at sheet r (path ++ (k + j) ∷ []) ≡ Some n) → AreThere (parts_below sheet.universe r path k ss)
    parts_there r path scope k no_statements from = All-nil IsThere
    parts_there r path scope k (statement s ss) from =
        let here : k + 0 ≡ k = omega arith in
        let P : ℕ → Type 0 = λ j. node_at sheet r (path ++ j ∷ []) ≡ Some (scope, s) in
        All-append IsThere (nodes_below sheet.universe r (path ++ k ∷ []) s) (parts_below sheet.universe r path (k + 1) ss)
        (nodes_there r (path ++ k ∷ []) scope s (subst P here (from zero (scope, s) refl)))
        (parts_there r path scope (k + 1) ss (λ j n is.
        let Q : ℕ → Type 0 = λ i. node_at sheet r (path ++ i ∷ []) ≡ Some n in
        let there : k + suc j ≡ k + 1 + j = omega arith in
        subst Q there (from (suc j) n is)))

  rules_there : (rules : List NamedStatement) (r : ℕ) → ((j : ℕ) (rule : NamedStatement) → slice_get rules j ≡ Some rule → slice_get sheet.rules (r + j) ≡ Some rule) → AreThere (nodes_from sheet.universe r rules)
  rules_there [] r from = All-nil IsThere
  rules_there (rule ∷ rules) r from =
      let here : r + 0 ≡ r = omega arith in
      let P : ℕ → Type 0 = λ j. slice_get sheet.rules j ≡ Some rule in
      let at : slice_get sheet.rules r ≡ Some rule = subst P here (from zero rule refl) in
      All-append IsThere (nodes_below sheet.universe r [] rule.states) (nodes_from sheet.universe (r + 1) rules)
      (nodes_there r [] [] rule.states (ap (λ o. node_from sheet.universe (root_of o) []) at))
      (rules_there rules (r + 1) (λ j other is.
      let Q : ℕ → Type 0 = λ i. slice_get sheet.rules i ≡ Some other in
      let there : r + suc j ≡ r + 1 + j = omega arith in
      subst Q there (from (suc j) other is)))

  pairs_there : (c : ℕ) (ns : List ℕ) → AreThere (pairs_from c ns)
  pairs_there c [] = All-nil IsThere
  pairs_there c (n ∷ ns) =
      All-append IsThere (each_below n (pair_at c)) (pairs_from (c + 1) ns)
      (all_from IsThere (each_below n (pair_at c)) (λ x has. let v = there_each n (pair_at c) x has in subst IsThere v.2 tt)) (pairs_there (c + 1) ns)

pub variables_are_there : (sheet : Sheet) (x : Symbol) → Contains (variables sheet) x → IsThere sheet x
variables_are_there sheet x has =
    let xs = pairs_from 0 (cell_sizes sheet.universe) in
    let ys = nodes_from sheet.universe 0 sheet.rules in
    All-contains (IsThere sheet) (variables sheet) x
    (All-append (IsThere sheet) xs ys (pairs_there sheet 0 (cell_sizes sheet.universe)) (rules_there sheet sheet.rules 0 (λ j rule is. let P : ℕ → Type 0 = λ k. slice_get sheet.rules k ≡ Some rule in subst P (sym (zero-add j)) is))) has
