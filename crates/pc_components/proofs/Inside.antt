-- The axioms of a node that a path leads to are the sheet's, are named by paths on from it, and their pairs are of cells that it reads.
use Rattle.std.proofs.Common.{◌≡◌, ℕ, zero, suc, ◌+◌, ◌-◌, ◌*◌, ◌/◌, ◌%◌, ◌<◌, Bool, true, false, cond, nat_lt, List, [], ◌∷◌, ◌++◌, append-nil, append_assoc, All, Contains, Option, None, Some, slice_get, arith, ap, refl, sym, ◌∙◌, subst, zero-add}
use Rattle.std.specs.List.{flat_map, range_with_len}
use Rattle.std.proofs.lemmas.Bool.Decides.{Decides-ltb}
use Rattle.std.proofs.lemmas.List.Elements.{All-nil, All-cons, All-append, All-map, All-weaker, Contains-append_left, Contains-append_right}
use Rattle.pc_sheet.specs.Sheet.{Universe, Sheet, NamedStatement, Counting, no_more_than, no_fewer_than, of_first, Statement, Statements, no_statements, statement, compare, in_table, negation, all_of, some_of, implies, iff, for_all, exists, counts}
use Rattle.pc_sheet.specs.Truth.{Scope, asked_of}
use Rattle.pc_sheet.specs.Sizes.{size_of}
use Rattle.pc_sheet.specs.Cells.{values_below}
use Rattle.pc_sheet.specs.Nodes.{Node, part_at, one_of_two, bodies_of, threshold_of, counter_child, counted_child, child, node_from, root_of, node_at, kind_of, counter_number}
use Rattle.pc_sheet.specs.Reads.{number_of_cell}
use Rattle.pc_sheet.specs.Readings.{leaves_of}
use Rattle.pc_sheet.specs.declared.ids.SortId.{SortId}
use Rattle.pc_sheet.specs.declared.ids.ValueId.{ValueId}
use Rattle.pc_accept.specs.Literals.{Literal, node}
use Rattle.pc_accept.specs.Axioms.{Axiom, axiom_some, axiom_one, axiom_rule, axiom_node, axiom_atom, clauses_of_node, child_of, signed_node, signed_child}
use Rattle.pc_accept.specs.Rows.{Part, clause_of, rows_of_kind, counter_rows}
use Rattle.pc_parts.specs.Leaves.{cells_of_leaf, cells_of_atom, cells_under, cells_under_parts}
use Rattle.pc_lemmas.proofs.Elements.{contains_later, contains_map, contains_none, all_from, flat_there}
use Rattle.pc_laws.proofs.ValueLists.{values_each, value_there}
use Rattle.pc_ground.specs.Ground.{GroundAxiom, leaf_axiom, atom_axioms, numbered_axioms, own_axioms, row_axiom, row_axioms, count_axioms, counter_axioms, counters_axioms, node_axioms, parts_axioms, rule_axioms, rules_axioms, root_axiom, cells_axioms, axioms}
use Rattle.pc_ground.proofs.Lists.{range_flat_each}
use Rattle.pc_sheet.specs.Entailment.{cell_sizes}

within_of : {X : Type 0} (b : Bool) (x y : X) → cond b (Some x) None ≡ Some y → (b ≡ true) × (x ≡ y)
within_of {X = X} true x y h = (refl, let f : Option X → X = elim [ None ↦ x | Some z ↦ z ] in ap f h)
within_of false x y h = absurd (cc)

same_node : {x y : Node} → Some x ≡ Some y → x ≡ y
same_node {x} {y} e = let f : Option Node → Node = elim [ None ↦ x | Some z ↦ z ] in ap f e

-- ---- a child's axioms are among its node's

module _ (u : Universe) (r : ℕ) where
  -- the axioms of a node that a path leads to
  abbrev Of : List ℕ → Node → List GroundAxiom
  Of path n = node_axioms u r path n.0 n.1

  in_part : (path : List ℕ) (scope : Scope) (k : ℕ) (ss : Statements) (j : ℕ) (n : Node) (g : GroundAxiom) → part_at scope ss j ≡ Some n → Contains (Of (path ++ (k + j) ∷ []) n) g → Contains (parts_axioms u r path scope k ss) g
  in_part path scope k no_statements j n g is h = absurd (cc)
  in_part path scope k (statement s ss) zero n g is h =
      let here : k + 0 ≡ k = omega arith in
      Contains-append_left (node_axioms u r (path ++ k ∷ []) scope s) (parts_axioms u r path scope (k + 1) ss) g
      (subst (λ m. Contains (Of (path ++ k ∷ []) m) g) (sym (same_node is)) (subst (λ i. Contains (Of (path ++ i ∷ []) n) g) here h))
  in_part path scope k (statement s ss) (suc j) n g is h =
      let there : k + suc j ≡ k + 1 + j = omega arith in
      Contains-append_right (node_axioms u r (path ++ k ∷ []) scope s) (parts_axioms u r path scope (k + 1) ss) g
      (in_part path scope (k + 1) ss j n g is (subst (λ i. Contains (Of (path ++ i ∷ []) n) g) there h))

  in_either : (path : List ℕ) (scope : Scope) (s t : Statement) (k : ℕ) (n : Node) (g : GroundAxiom) → one_of_two scope s t k ≡ Some n → Contains (Of (path ++ k ∷ []) n) g
      → Contains (node_axioms u r (path ++ 0 ∷ []) scope s ++ node_axioms u r (path ++ 1 ∷ []) scope t) g
  in_either path scope s t zero n g is h =
      Contains-append_left (node_axioms u r (path ++ 0 ∷ []) scope s) (node_axioms u r (path ++ 1 ∷ []) scope t) g (subst (λ m. Contains (Of (path ++ 0 ∷ []) m) g) (sym (same_node is)) h)
  in_either path scope s t (suc zero) n g is h =
      Contains-append_right (node_axioms u r (path ++ 0 ∷ []) scope s) (node_axioms u r (path ++ 1 ∷ []) scope t) g (subst (λ m. Contains (Of (path ++ 1 ∷ []) m) g) (sym (same_node is)) h)
  in_either path scope s t (suc (suc k)) n g is h = absurd (cc)

  in_body : (path : List ℕ) (scope : Scope) (s : SortId) (body : Statement) (k : ℕ) (n : Node) (g : GroundAxiom)
      → cond (nat_lt k (size_of u s)) (Some (scope ++ (s, record { 0 = k }) ∷ [], body)) None ≡ Some n → Contains (Of (path ++ k ∷ []) n) g
      → Contains (flat_map (λ v. node_axioms u r (path ++ v.0 ∷ []) (scope ++ (s, v) ∷ []) body) (values_below (size_of u s))) g
  in_body path scope s body k n g is h =
      let v : ValueId = record { 0 = k } in
      let found = within_of (nat_lt k (size_of u s)) (scope ++ (s, v) ∷ [], body) n is in
      value_there (λ w. node_axioms u r (path ++ w.0 ∷ []) (scope ++ (s, w) ∷ []) body) (size_of u s) v g ((Decides-ltb k (size_of u s)).0 found.0)
      (subst (λ m. Contains (Of (path ++ k ∷ []) m) g) (sym found.1) h)

  -- of the children of a counting quantifier the bodies alone have axioms; those of a counter are its quantifier's
  in_counted : (path : List ℕ) (scope : Scope) (c : Counting) (name : List ℕ) (s : SortId) (body : Statement) (k : ℕ) (n : Node) (g : GroundAxiom)
      → counted_child scope (bodies_of c (size_of u s)) (threshold_of c) name s body k ≡ Some n → Contains (Of (path ++ k ∷ []) n) g
      → Contains (flat_map (λ v. node_axioms u r (path ++ v.0 ∷ []) (scope ++ (s, v) ∷ []) body) (values_below (bodies_of c (size_of u s)))) g
  in_counted path scope c name s body k n g is h = by (nat_lt k (bodies_of c (size_of u s))) refl is
    where
      by : (b : Bool) → nat_lt k (bodies_of c (size_of u s)) ≡ b
          → cond b (Some (scope ++ (s, record { 0 = k }) ∷ [], body)) (counter_child scope (bodies_of c (size_of u s)) (threshold_of c) name s body (k - bodies_of c (size_of u s))) ≡ Some n
          → Contains (flat_map (λ v. node_axioms u r (path ++ v.0 ∷ []) (scope ++ (s, v) ∷ []) body) (values_below (bodies_of c (size_of u s)))) g
      by true below is_body =
          let v : ValueId = record { 0 = k } in
          value_there (λ w. node_axioms u r (path ++ w.0 ∷ []) (scope ++ (s, w) ∷ []) body) (bodies_of c (size_of u s)) v g ((Decides-ltb k (bodies_of c (size_of u s))).0 below)
          (subst (λ m. Contains (Of (path ++ k ∷ []) m) g) (sym (same_node is_body)) h)
      by false below is_counter =
          let m = threshold_of c in
          let q = k - bodies_of c (size_of u s) in
          let found = within_of (nat_lt q (bodies_of c (size_of u s) * m)) (scope, counts (of_first m (suc (q / m)) (suc (q % m))) name s body) n is_counter in
          absurd (contains_none g (subst (λ x. Contains (Of (path ++ k ∷ []) x) g) (sym found.1) h))

  in_child : (path : List ℕ) (scope : Scope) (s : Statement) (k : ℕ) (n : Node) (g : GroundAxiom) → child u (scope, s) k ≡ Some n → Contains (Of (path ++ k ∷ []) n) g → Contains (node_axioms u r path scope s) g
  in_child path scope (compare left op right) k n g is h = absurd (cc)
  in_child path scope (in_table t xs) k n g is h = absurd (cc)
  in_child path scope (negation s) zero n g is h =
      Contains-append_right (own_axioms u r path (negation s)) (node_axioms u r (path ++ 0 ∷ []) scope s) g (subst (λ m. Contains (Of (path ++ 0 ∷ []) m) g) (sym (same_node is)) h)
  in_child path scope (negation s) (suc k) n g is h = absurd (cc)
  in_child path scope (all_of ss) k n g is h =
      Contains-append_right (own_axioms u r path (all_of ss)) (parts_axioms u r path scope 0 ss) g (in_part path scope 0 ss k n g is (subst (λ i. Contains (Of (path ++ i ∷ []) n) g) (sym (zero-add k)) h))
  in_child path scope (some_of ss) k n g is h =
      Contains-append_right (own_axioms u r path (some_of ss)) (parts_axioms u r path scope 0 ss) g (in_part path scope 0 ss k n g is (subst (λ i. Contains (Of (path ++ i ∷ []) n) g) (sym (zero-add k)) h))
  in_child path scope (implies s t) k n g is h =
      Contains-append_right (own_axioms u r path (implies s t)) (node_axioms u r (path ++ 0 ∷ []) scope s ++ node_axioms u r (path ++ 1 ∷ []) scope t) g (in_either path scope s t k n g is h)
  in_child path scope (iff s t) k n g is h =
      Contains-append_right (own_axioms u r path (iff s t)) (node_axioms u r (path ++ 0 ∷ []) scope s ++ node_axioms u r (path ++ 1 ∷ []) scope t) g (in_either path scope s t k n g is h)
  in_child path scope (for_all name s body) k n g is h =
      Contains-append_right (own_axioms u r path (for_all name s body)) (flat_map (λ v. node_axioms u r (path ++ v.0 ∷ []) (scope ++ (s, v) ∷ []) body) (values_below (size_of u s))) g (in_body path scope s body k n g is h)
  in_child path scope (exists name s body) k n g is h =
      Contains-append_right (own_axioms u r path (exists name s body)) (flat_map (λ v. node_axioms u r (path ++ v.0 ∷ []) (scope ++ (s, v) ∷ []) body) (values_below (size_of u s))) g (in_body path scope s body k n g is h)
  in_child path scope (counts c name s body) k n g is h =
      let bodies = flat_map (λ v. node_axioms u r (path ++ v.0 ∷ []) (scope ++ (s, v) ∷ []) body) (values_below (bodies_of c (size_of u s))) in
      let counters = counters_axioms r path (bodies_of c (size_of u s)) (threshold_of c) in
      Contains-append_right (count_axioms u r path (counts c name s body)) (bodies ++ counters) g (Contains-append_left bodies counters g (in_counted path scope c name s body k n g is h))

  -- and so are those of what a path leads to
  in_below : (steps path : List ℕ) (from n : Node) (g : GroundAxiom) → node_from u (Some from) steps ≡ Some n → Contains (Of (path ++ steps) n) g → Contains (Of path from) g
  in_below [] path from n g is h = subst (λ m. Contains (Of path m) g) (sym (same_node is)) (subst (λ xs. Contains (Of xs n) g) (append-nil path) h)
  in_below (k ∷ ks) path from n g is h = by (child u from k) refl (λ m e. in_below ks (path ++ k ∷ []) m n g e (subst (λ xs. Contains (Of xs n) g) (sym (append_assoc path (k ∷ []) ks)) h)) is
    where
      by : (o : Option Node) → child u from k ≡ o → ((m : Node) → node_from u (Some m) ks ≡ Some n → Contains (Of (path ++ k ∷ []) m) g) → node_from u o ks ≡ Some n → Contains (Of path from) g
      by None e f x = absurd (cc)
      by (Some m) e f x = in_child path from.0 from.1 k m g e (f m x)

-- ---- and are the sheet's

in_rule : (u : Universe) (r : ℕ) (rules : List NamedStatement) (j : ℕ) (rule : NamedStatement) → slice_get rules j ≡ Some rule → (g : GroundAxiom) → Contains (rule_axioms u (r + j) rule) g → Contains (rules_axioms u r rules) g
in_rule u r [] j rule is g h = absurd (cc)
in_rule u r (first ∷ rules) zero rule is g h =
    let same : first ≡ rule = cc in
    let here : r + 0 ≡ r = omega arith in
    Contains-append_left (rule_axioms u r first) (rules_axioms u (r + 1) rules) g (subst (λ (n : NamedStatement). Contains (rule_axioms u r n) g) (sym same) (subst (λ i. Contains (rule_axioms u i rule) g) here h))
in_rule u r (first ∷ rules) (suc j) rule is g h =
    let there : r + suc j ≡ r + 1 + j = omega arith in
    Contains-append_right (rule_axioms u r first) (rules_axioms u (r + 1) rules) g (in_rule u (r + 1) rules j rule is g (subst (λ i. Contains (rule_axioms u i rule) g) there h))

pub rule_there : (sheet : Sheet) (r : ℕ) (rule : NamedStatement) → slice_get sheet.rules r ≡ Some rule → (g : GroundAxiom) → Contains (rule_axioms sheet.universe r rule) g → Contains (axioms sheet) g
rule_there sheet r rule is g h =
    Contains-append_right (cells_axioms 0 (cell_sizes sheet.universe)) (rules_axioms sheet.universe 0 sheet.rules) g
    (in_rule sheet.universe 0 sheet.rules r rule is g (subst (λ i. Contains (rule_axioms sheet.universe i rule) g) (sym (zero-add r)) h))

-- the rule that a node is of
pub rule_of_node : (u : Universe) (o : Option NamedStatement) (path : List ℕ) (n : Node) → node_from u (root_of o) path ≡ Some n → (rule : NamedStatement) × (o ≡ Some rule) × (node_from u (Some ([], rule.states)) path ≡ Some n)
rule_of_node u None path n h = absurd (cc)
rule_of_node u (Some rule) path n h = (rule, refl, h)

pub node_there : (sheet : Sheet) (r : ℕ) (path : List ℕ) (n : Node) → node_at sheet r path ≡ Some n → (g : GroundAxiom) → Contains (node_axioms sheet.universe r path n.0 n.1) g → Contains (axioms sheet) g
node_there sheet r path n at g h =
    let rule = rule_of_node sheet.universe (slice_get sheet.rules r) path n at in
    rule_there sheet r rule.0 rule.1 g
    (contains_later (root_axiom r) (node_axioms sheet.universe r [] [] rule.0.states) g (in_below sheet.universe r path [] ([], rule.0.states) n g rule.2 h))

-- ---- names

-- of a node to which that path leads or which is under it, and reading these cells alone
abbrev pub IsInside : ℕ → List ℕ → List ℕ → Axiom → Type 0
IsInside r steps cells (axiom_some c) = ⊥
IsInside r steps cells (axiom_one c v w) = ⊥
IsInside r steps cells (axiom_rule q) = ⊥
IsInside r steps cells (axiom_node q path i) = (r ≡ q) × (rest : List ℕ) × (path ≡ steps ++ rest)
IsInside r steps cells (axiom_atom q path reads) = ((r ≡ q) × (rest : List ℕ) × (path ≡ steps ++ rest)) × All (λ e. Contains cells (number_of_cell e)) reads

further : (r : ℕ) (steps : List ℕ) (k : ℕ) (few more : List ℕ) → ((c : ℕ) → Contains few c → Contains more c) → (x : Axiom) → IsInside r (steps ++ k ∷ []) few x → IsInside r steps more x
further r steps k few more f (axiom_some c) h = h
further r steps k few more f (axiom_one c v w) h = h
further r steps k few more f (axiom_rule q) h = h
further r steps k few more f (axiom_node q path i) h = (h.0, k ∷ h.1, h.2 ∙ append_assoc steps (k ∷ []) h.1)
further r steps k few more f (axiom_atom q path reads) h =
    ((h.0.0, k ∷ h.0.1, h.0.2 ∙ append_assoc steps (k ∷ []) h.0.1), All-weaker (λ e. Contains few (number_of_cell e)) (λ e. Contains more (number_of_cell e)) (λ e c. f (number_of_cell e) c) reads h.1)

module _ (u : Universe) (r : ℕ) where
  abbrev AreInside : List ℕ → List ℕ → List GroundAxiom → Type 0
  AreInside steps cells gs = All (λ g. IsInside r steps cells g.name) gs

  from_child : (steps : List ℕ) (k : ℕ) (few more : List ℕ) (gs : List GroundAxiom) → ((c : ℕ) → Contains few c → Contains more c) → AreInside (steps ++ k ∷ []) few gs → AreInside steps more gs
  from_child steps k few more gs f h = All-weaker (λ g. IsInside r (steps ++ k ∷ []) few g.name) (λ g. IsInside r steps more g.name) (λ g i. further r steps k few more f g.name i) gs h

  wider_name : (steps few more : List ℕ) → ((c : ℕ) → Contains few c → Contains more c) → (x : Axiom) → IsInside r steps few x → IsInside r steps more x
  wider_name steps few more f (axiom_some c) h = h
  wider_name steps few more f (axiom_one c v w) h = h
  wider_name steps few more f (axiom_rule q) h = h
  wider_name steps few more f (axiom_node q path i) h = h
  wider_name steps few more f (axiom_atom q path reads) h = (h.0, All-weaker (λ e. Contains few (number_of_cell e)) (λ e. Contains more (number_of_cell e)) (λ e c. f (number_of_cell e) c) reads h.1)

  wider : (steps few more : List ℕ) (gs : List GroundAxiom) → ((c : ℕ) → Contains few c → Contains more c) → AreInside steps few gs → AreInside steps more gs
  wider steps few more gs f h = All-weaker (λ g. IsInside r steps few g.name) (λ g. IsInside r steps more g.name) (λ g i. wider_name steps few more f g.name i) gs h

  numbered_inside : (path cells : List ℕ) (i : ℕ) (cs : List (List Literal)) → AreInside path cells (numbered_axioms r path i cs)
  numbered_inside path cells i [] = All-nil (λ g. IsInside r path cells g.name)
  numbered_inside path cells i (c ∷ cs) =
      All-cons (λ g. IsInside r path cells g.name) (record { name = axiom_node r path i; clause = c }) (numbered_axioms r path (i + 1) cs) (refl, [], sym (append-nil path)) (numbered_inside path cells (i + 1) cs)

  own_inside : (path cells : List ℕ) (s : Statement) → AreInside path cells (own_axioms u r path s)
  own_inside path cells s = numbered_inside path cells 1 (clauses_of_node (node r path) (child_of r path) u s)

  rows_inside : (path cells : List ℕ) (i : ℕ) (rows : List (List (Part Literal))) → AreInside path cells (row_axioms r path i rows)
  rows_inside path cells i [] = All-nil (λ g. IsInside r path cells g.name)
  rows_inside path cells i (row ∷ rows) =
      All-append (λ g. IsInside r path cells g.name) (row_axiom r path i (clause_of row)) (row_axioms r path (i + 1) rows) (by (clause_of row)) (rows_inside path cells (i + 1) rows)
    where
      by : (o : Option (List Literal)) → AreInside path cells (row_axiom r path i o)
      by None = All-nil (λ g. IsInside r path cells g.name)
      by (Some c) = All-cons (λ g. IsInside r path cells g.name) (record { name = axiom_node r path i; clause = c }) [] (refl, [], sym (append-nil path)) (All-nil (λ g. IsInside r path cells g.name))

  counters_inside : (path cells : List ℕ) (n m : ℕ) → AreInside path cells (counters_axioms r path n m)
  counters_inside path cells n m =
      let P : GroundAxiom → Type 0 = λ g. IsInside r path cells g.name in
      range_flat_each P (λ i. flat_map (counter_axioms r path n m i) (range_with_len 0 m)) 0 n
      (λ i _ _. range_flat_each P (counter_axioms r path n m i) 0 m (λ j _ _. one i j))
    where
      one : (i j : ℕ) → AreInside path cells (counter_axioms r path n m i j)
      one i j =
          let q = counter_number n m (suc i) (suc j) in
          from_child path q cells cells (counter_axioms r path n m i j) (λ c h. h) (rows_inside (path ++ q ∷ []) cells 1 (counter_rows (signed_node r path) (signed_child r path) n m i j))

  -- the values that stand for the body are among those of which truth asks
  asked : (c : Counting) (n k : ℕ) → k < bodies_of c n → k < asked_of c n
  asked (no_more_than b) n k l = l
  asked (no_fewer_than b) n k l = l
  asked (of_first m i j) n k l = absurd (omega (arith, l))

  atom_inside : (path : List ℕ) (scope : Scope) (s : Statement) → AreInside path (cells_of_atom u scope s) (atom_axioms u r path scope s)
  atom_inside path scope s =
      let P : GroundAxiom → Type 0 = λ g. IsInside r path (cells_of_atom u scope s) g.name in
      All-map P (leaf_axiom r path) (leaves_of u scope s) (all_from (λ leaf. P (leaf_axiom r path leaf)) (leaves_of u scope s)
      (λ leaf there. (
        (refl, [], sym (append-nil path)),
        all_from (λ e. Contains (cells_of_atom u scope s) (number_of_cell e)) leaf.0 (λ e c. flat_there cells_of_leaf (leaves_of u scope s) leaf (number_of_cell e) there (contains_map number_of_cell leaf.0 e c)),
      )))

  mutual
    pub inside : (path : List ℕ) (scope : Scope) (s : Statement) → AreInside path (cells_under u scope s) (node_axioms u r path scope s)
    inside path scope (compare left op right) = atom_inside path scope (compare left op right)
    inside path scope (in_table t xs) = atom_inside path scope (in_table t xs)
    inside path scope (negation s) =
        All-append (λ g. IsInside r path (cells_under u scope s) g.name) (own_axioms u r path (negation s)) (node_axioms u r (path ++ 0 ∷ []) scope s) (own_inside path (cells_under u scope s) (negation s))
        (from_child path 0 (cells_under u scope s) (cells_under u scope s) (node_axioms u r (path ++ 0 ∷ []) scope s) (λ c h. h) (inside (path ++ 0 ∷ []) scope s))
    inside path scope (all_of ss) =
        All-append (λ g. IsInside r path (cells_under_parts u scope ss) g.name) (own_axioms u r path (all_of ss)) (parts_axioms u r path scope 0 ss) (own_inside path (cells_under_parts u scope ss) (all_of ss)) (parts_inside path scope 0 ss)
    inside path scope (some_of ss) =
        All-append (λ g. IsInside r path (cells_under_parts u scope ss) g.name) (own_axioms u r path (some_of ss)) (parts_axioms u r path scope 0 ss) (own_inside path (cells_under_parts u scope ss) (some_of ss)) (parts_inside path scope 0 ss)
    inside path scope (implies s t) =
        let xs = cells_under u scope s in
        let ys = cells_under u scope t in
        let P : GroundAxiom → Type 0 = λ g. IsInside r path (xs ++ ys) g.name in
        let gs = node_axioms u r (path ++ 0 ∷ []) scope s in
        let hs = node_axioms u r (path ++ 1 ∷ []) scope t in
        All-append P (own_axioms u r path (implies s t)) (gs ++ hs) (own_inside path (xs ++ ys) (implies s t))
        (All-append P gs hs (from_child path 0 xs (xs ++ ys) gs (λ c h. Contains-append_left xs ys c h) (inside (path ++ 0 ∷ []) scope s)) (from_child path 1 ys (xs ++ ys) hs (λ c h. Contains-append_right xs ys c h) (inside (path ++ 1 ∷ []) scope t)))
    inside path scope (iff s t) =
        let xs = cells_under u scope s in
        let ys = cells_under u scope t in
        let P : GroundAxiom → Type 0 = λ g. IsInside r path (xs ++ ys) g.name in
        let gs = node_axioms u r (path ++ 0 ∷ []) scope s in
        let hs = node_axioms u r (path ++ 1 ∷ []) scope t in
        All-append P (own_axioms u r path (iff s t)) (gs ++ hs) (own_inside path (xs ++ ys) (iff s t))
        (All-append P gs hs (from_child path 0 xs (xs ++ ys) gs (λ c h. Contains-append_left xs ys c h) (inside (path ++ 0 ∷ []) scope s)) (from_child path 1 ys (xs ++ ys) hs (λ c h. Contains-append_right xs ys c h) (inside (path ++ 1 ∷ []) scope t)))
    inside path scope (for_all name s body) =
        let f : ValueId → List ℕ = λ v. cells_under u (scope ++ (s, v) ∷ []) body in
        let cells = flat_map f (values_below (size_of u s)) in
        let P : GroundAxiom → Type 0 = λ g. IsInside r path cells g.name in
        let gs : ValueId → List GroundAxiom = λ v. node_axioms u r (path ++ v.0 ∷ []) (scope ++ (s, v) ∷ []) body in
        All-append P (own_axioms u r path (for_all name s body)) (flat_map gs (values_below (size_of u s))) (own_inside path cells (for_all name s body))
        (values_each P gs (size_of u s) (λ v l. from_child path v.0 (f v) cells (gs v) (λ c h. value_there f (size_of u s) v c l h) (inside (path ++ v.0 ∷ []) (scope ++ (s, v) ∷ []) body)))
    inside path scope (exists name s body) =
        let f : ValueId → List ℕ = λ v. cells_under u (scope ++ (s, v) ∷ []) body in
        let cells = flat_map f (values_below (size_of u s)) in
        let P : GroundAxiom → Type 0 = λ g. IsInside r path cells g.name in
        let gs : ValueId → List GroundAxiom = λ v. node_axioms u r (path ++ v.0 ∷ []) (scope ++ (s, v) ∷ []) body in
        All-append P (own_axioms u r path (exists name s body)) (flat_map gs (values_below (size_of u s))) (own_inside path cells (exists name s body))
        (values_each P gs (size_of u s) (λ v l. from_child path v.0 (f v) cells (gs v) (λ c h. value_there f (size_of u s) v c l h) (inside (path ++ v.0 ∷ []) (scope ++ (s, v) ∷ []) body)))
    inside path scope (counts c name s body) =
        let n = bodies_of c (size_of u s) in
        let f : ValueId → List ℕ = λ v. cells_under u (scope ++ (s, v) ∷ []) body in
        let cells = flat_map f (values_below (asked_of c (size_of u s))) in
        let P : GroundAxiom → Type 0 = λ g. IsInside r path cells g.name in
        let gs : ValueId → List GroundAxiom = λ v. node_axioms u r (path ++ v.0 ∷ []) (scope ++ (s, v) ∷ []) body in
        let counters = counters_axioms r path n (threshold_of c) in
        All-append P (count_axioms u r path (counts c name s body)) (flat_map gs (values_below n) ++ counters)
        (rows_inside path cells 1 (rows_of_kind (signed_node r path) (signed_child r path) (kind_of u (counts c name s body))))
        (All-append P (flat_map gs (values_below n)) counters
        (values_each P gs n (λ v l. from_child path v.0 (f v) cells (gs v) (λ d h. value_there f (asked_of c (size_of u s)) v d (asked c (size_of u s) v.0 l) h) (inside (path ++ v.0 ∷ []) (scope ++ (s, v) ∷ []) body)))
        (counters_inside path cells n (threshold_of c)))

    parts_inside : (path : List ℕ) (scope : Scope) (k : ℕ) (ss : Statements) → AreInside path (cells_under_parts u scope ss) (parts_axioms u r path scope k ss)
    parts_inside path scope k no_statements = All-nil (λ g. IsInside r path [] g.name)
    parts_inside path scope k (statement s ss) =
        let xs = cells_under u scope s in
        let ys = cells_under_parts u scope ss in
        let gs = node_axioms u r (path ++ k ∷ []) scope s in
        let hs = parts_axioms u r path scope (k + 1) ss in
        All-append (λ g. IsInside r path (xs ++ ys) g.name) gs hs
        (from_child path k xs (xs ++ ys) gs (λ c h. Contains-append_left xs ys c h) (inside (path ++ k ∷ []) scope s))
        (wider path ys (xs ++ ys) hs (λ c h. Contains-append_right xs ys c h) (parts_inside path scope (k + 1) ss))
