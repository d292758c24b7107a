-- The symbols of the clauses of nodes, and the axioms of a cell.
use Rattle.std.proofs.Common.{◌≡◌, ℕ, zero, suc, ◌+◌, ◌-◌, ◌*◌, ◌/◌, ◌%◌, ◌⊎◌, inl, inr, Bool, true, false, cond, nat_lt, List, [], ◌∷◌, ◌++◌, map, All, Contains, Some, slice_get, arith, ap, refl, sym, ◌∙◌, subst, zero-add}
use Rattle.std.specs.List.{range_with_len}
use Rattle.std.proofs.lemmas.List.Elements.{All-nil, All-cons, All-append, All-map, All-contains, Contains-append_left, Contains-append_right, Contains-push_cases}
use Rattle.pc_sheet.specs.WellSorted.{parts_in}
use Rattle.pc_sheet.specs.Sheet.{Universe, Sheet, no_more_than, no_fewer_than, of_first, Statement, compare, in_table, negation, all_of, some_of, implies, iff, for_all, exists, counts}
use Rattle.pc_sheet.specs.Truth.{Scope}
use Rattle.pc_sheet.specs.Sizes.{size_of}
use Rattle.pc_sheet.specs.Nodes.{Node, node_at, kind_of, counter_number}
use Rattle.pc_sheet.specs.Entailment.{cell_sizes}
use Rattle.pc_accept.specs.Literals.{Symbol, node, Literal, positive, negative}
use Rattle.pc_accept.specs.Axioms.{Axiom, axiom_some, axiom_one, axiom_rule, axiom_node, axiom_atom, each_below, clauses_of_node, child_of, signed_node, signed_child, IsAtNumber, IsClauseOfKind, IsClauseOf}
use Rattle.pc_accept.specs.Rows.{Part, IsAtRow, counter_part, count_rows, counter_rows, rows_of_counter, rows_of_child, rows_below_kind, parent_of, last_of}
use Rattle.pc_accept.proofs.AxiomsTrue.{numbered}
use Rattle.pc_lemmas.proofs.Elements.{contains_cases, contains_none, all_from}
use Rattle.pc_lemmas.proofs.Options.{some_and, same_some}
use Rattle.pc_ground.specs.Ground.{GroundAxiom, some_axiom, one_axiom, one_axioms, cell_axioms, cells_axioms, rules_axioms, axioms}
use Rattle.pc_ground.proofs.Lists.{there_each}
use Rattle.pc_ground.proofs.Rows.{PartIn, RowsIn, clause_in, parent_is}

-- ---- paths

-- a path's last step
abbrev pub EndsWith : List ℕ → Type 0
EndsWith steps = (path : List ℕ) × (k : ℕ) × (steps ≡ path ++ k ∷ [])

pub last_step : (k : ℕ) (ks : List ℕ) → EndsWith (k ∷ ks)
last_step k [] = ([], k, refl)
last_step k (j ∷ js) = let rest = last_step j js in (k ∷ rest.0, rest.1, ap (λ xs. k ∷ xs) rest.2)

pub none_or_last : (path : List ℕ) → (path ≡ []) ⊎ EndsWith path
none_or_last [] = inl refl
none_or_last (k ∷ ks) = inr (last_step k ks)

-- ---- a node's clauses

module _ (In : Symbol → Type 0) (p : Symbol) (c : ℕ → Symbol) (here : In p) (each : (k : ℕ) → In (c k)) where
  abbrev AreIn : List Literal → Type 0
  AreIn clause = (l : Literal) → Contains clause l → In l.what

  one_more : (l : Literal) (ls : List Literal) → In l.what → AreIn ls → AreIn (l ∷ ls)
  one_more l ls h k m there = elim (contains_cases l ls m there) [ inl same ↦ subst (λ x. In x.what) same h | inr later ↦ k m later ]

  none : AreIn []
  none l there = absurd (contains_none l there)

  two : (l m : Literal) → In l.what → In m.what → AreIn (l ∷ m ∷ [])
  two l m h k = one_more l (m ∷ []) h (one_more m [] k none)

  three : (l m n : Literal) → In l.what → In m.what → In n.what → AreIn (l ∷ m ∷ n ∷ [])
  three l m n h k i = one_more l (m ∷ n ∷ []) h (two m n k i)

  -- a clause for each child, and one of all
  joined : (f : ℕ → List Literal) (l : Literal) (g : ℕ → Literal) (n : ℕ) → ((k : ℕ) → AreIn (f k)) → In l.what → ((k : ℕ) → In (g k).what) → (clause : List Literal) → Contains (each_below n f ++ (l ∷ each_below n g) ∷ []) clause → AreIn clause
  joined f l g n fs h gs clause there = elim (Contains-push_cases (each_below n f) (l ∷ each_below n g) clause there) [
    | inl early ↦ let k = there_each n f clause early in subst AreIn k.2 (fs k.0)
    | inr last ↦ subst AreIn last (one_more l (each_below n g) h (λ m in_g. let k = there_each n g m in_g in subst (λ x. In x.what) k.2 (gs k.0)))
  ]

  first_in : (d : List Literal) (ds : List (List Literal)) → AreIn d → ((clause : List Literal) → Contains ds clause → AreIn clause) → (clause : List Literal) → Contains (d ∷ ds) clause → AreIn clause
  first_in d ds h k clause there = elim (contains_cases d ds clause there) [ inl same ↦ subst AreIn same h | inr later ↦ k clause later ]

  none_in : (clause : List Literal) → Contains [] clause → AreIn clause
  none_in clause there = absurd (contains_none clause there)

  pub node_symbols : (u : Universe) (s : Statement) (clause : List Literal) → Contains (clauses_of_node p c u s) clause → AreIn clause
  node_symbols u (compare left op right) = none_in
  node_symbols u (in_table t xs) = none_in
  node_symbols u (negation s) =
      first_in (negative p ∷ negative (c 0) ∷ []) ((positive p ∷ positive (c 0) ∷ []) ∷ []) (two (negative p) (negative (c 0)) here (each 0))
      (first_in (positive p ∷ positive (c 0) ∷ []) [] (two (positive p) (positive (c 0)) here (each 0)) none_in)
  node_symbols u (all_of ss) = joined (λ k. negative p ∷ positive (c k) ∷ []) (positive p) (λ k. negative (c k)) (parts_in ss) (λ k. two (negative p) (positive (c k)) here (each k)) here each
  node_symbols u (some_of ss) = joined (λ k. positive p ∷ negative (c k) ∷ []) (negative p) (λ k. positive (c k)) (parts_in ss) (λ k. two (positive p) (negative (c k)) here (each k)) here each
  node_symbols u (implies s t) =
      first_in (negative p ∷ negative (c 0) ∷ positive (c 1) ∷ []) ((positive p ∷ positive (c 0) ∷ []) ∷ (positive p ∷ negative (c 1) ∷ []) ∷ []) (three (negative p) (negative (c 0)) (positive (c 1)) here (each 0) (each 1))
      (first_in (positive p ∷ positive (c 0) ∷ []) ((positive p ∷ negative (c 1) ∷ []) ∷ []) (two (positive p) (positive (c 0)) here (each 0))
      (first_in (positive p ∷ negative (c 1) ∷ []) [] (two (positive p) (negative (c 1)) here (each 1)) none_in))
  node_symbols u (iff s t) =
      let d1 : List Literal = negative p ∷ negative (c 0) ∷ positive (c 1) ∷ [] in
      let d2 : List Literal = negative p ∷ positive (c 0) ∷ negative (c 1) ∷ [] in
      let d3 : List Literal = positive p ∷ positive (c 0) ∷ positive (c 1) ∷ [] in
      let d4 : List Literal = positive p ∷ negative (c 0) ∷ negative (c 1) ∷ [] in
      first_in d1 (d2 ∷ d3 ∷ d4 ∷ []) (three (negative p) (negative (c 0)) (positive (c 1)) here (each 0) (each 1))
      (first_in d2 (d3 ∷ d4 ∷ []) (three (negative p) (positive (c 0)) (negative (c 1)) here (each 0) (each 1))
      (first_in d3 (d4 ∷ []) (three (positive p) (positive (c 0)) (positive (c 1)) here (each 0) (each 1))
      (first_in d4 [] (three (positive p) (negative (c 0)) (negative (c 1)) here (each 0) (each 1)) none_in)))
  node_symbols u (for_all name s body) = joined (λ k. negative p ∷ positive (c k) ∷ []) (positive p) (λ k. negative (c k)) (size_of u s) (λ k. two (negative p) (positive (c k)) here (each k)) here each
  node_symbols u (exists name s body) = joined (λ k. positive p ∷ negative (c k) ∷ []) (negative p) (λ k. positive (c k)) (size_of u s) (λ k. two (positive p) (negative (c k)) here (each k)) here each
  node_symbols u (counts (no_more_than n) name s body) = none_in
  node_symbols u (counts (no_fewer_than n) name s body) = none_in
  node_symbols u (counts (of_first m i j) name s body) = none_in

-- ---- rows

-- a quantifier that has counters
abbrev pub HasCounters : Statement → Type 0
HasCounters (compare left op right) = ⊥
HasCounters (in_table t xs) = ⊥
HasCounters (negation s) = ⊥
HasCounters (all_of ss) = ⊥
HasCounters (some_of ss) = ⊥
HasCounters (implies s t) = ⊥
HasCounters (iff s t) = ⊥
HasCounters (for_all name s body) = ⊥
HasCounters (exists name s body) = ⊥
HasCounters (counts (no_more_than n) name s body) = Unit {0}
HasCounters (counts (no_fewer_than n) name s body) = Unit {0}
HasCounters (counts (of_first m i j) name s body) = ⊥

module _ (In : Symbol → Type 0) where
  at_row : (rows : List (List (Part Literal))) (i : ℕ) (clause : List Literal) → RowsIn In rows → IsAtRow rows i clause → (l : Literal) → Contains clause l → In l.what
  at_row rows zero clause h at l has = absurd at
  at_row [] (suc i) clause h at l has = absurd at
  at_row (row ∷ rows) (suc zero) clause h at l has = All-contains (λ (k : Literal). In k.what) clause l (clause_in In row clause h.0 at) has
  at_row (row ∷ rows) (suc (suc i)) clause h at l has = at_row rows (suc i) clause h.1 at l has

  module _ (r : ℕ) (path : List ℕ) (each : (k : ℕ) → In (child_of r path k)) (n m : ℕ) where
    part_in : (i j : ℕ) (b : Bool) → PartIn In (counter_part (signed_node r path) (signed_child r path) n m i j b)
    part_in i zero b = tt
    part_in zero (suc j) b = tt
    part_in (suc i) (suc j) b = each (counter_number n m (suc i) (suc j))

    count_in : In (node r path) → (at_most : Bool) → RowsIn In (count_rows (signed_node r path) (signed_child r path) n m at_most)
    count_in here true = ((here, (part_in n m false, tt)), ((here, (part_in n m true, tt)), tt))
    count_in here false = ((here, (part_in n m true, tt)), ((here, (part_in n m false, tt)), tt))

    counter_in : (i j : ℕ) → RowsIn In (counter_rows (signed_node r path) (signed_child r path) n m i j)
    counter_in i j = (
      (part_in (suc i) (suc j) false, (part_in i (suc j) true, (each i, tt))),
      (
        (part_in (suc i) (suc j) false, (part_in i (suc j) true, (part_in i j true, tt))),
        ((part_in (suc i) (suc j) true, (part_in i (suc j) false, tt)), ((part_in (suc i) (suc j) true, (part_in i j false, (each i, tt))), tt)),
      ),
    )

    child_in : (k : ℕ) → RowsIn In (rows_of_child (signed_node r path) (signed_child r path) n m k)
    child_in k = by (nat_lt k n)
      where
        of_counter : (q : ℕ) (b : Bool) → RowsIn In (cond b (counter_rows (signed_node r path) (signed_child r path) n m (q / m) (q % m)) [])
        of_counter q true = counter_in (q / m) (q % m)
        of_counter q false = tt

        by : (b : Bool) → RowsIn In (cond b [] (rows_of_counter (signed_node r path) (signed_child r path) n m (k - n)))
        by true = tt
        by false = of_counter (k - n) (nat_lt (k - n) (n * m))

  -- of the children of a node
  below_in : (u : Universe) (r : ℕ) (path : List ℕ) (s : Statement) → (HasCounters s → (k : ℕ) → In (child_of r path k)) → (q : ℕ) → RowsIn In (rows_below_kind (signed_node r path) (signed_child r path) (kind_of u s) q)
  below_in u r path (compare left op right) each q = tt
  below_in u r path (in_table t xs) each q = tt
  below_in u r path (negation s) each q = tt
  below_in u r path (all_of ss) each q = tt
  below_in u r path (some_of ss) each q = tt
  below_in u r path (implies s t) each q = tt
  below_in u r path (iff s t) each q = tt
  below_in u r path (for_all name s body) each q = tt
  below_in u r path (exists name s body) each q = tt
  below_in u r path (counts (no_more_than k) name s body) each q = child_in r path (each tt) (size_of u s) (suc k) q
  below_in u r path (counts (no_fewer_than k) name s body) each q = child_in r path (each tt) (size_of u s) k q
  below_in u r path (counts (of_first m i j) name s body) each q = tt

-- ---- an axiom's symbols

-- the node, its children, and, where it is a counter, the other children of the quantifier above it
module _ (In : Symbol → Type 0) (sheet : Sheet) (r : ℕ) (path : List ℕ) (here : In (node r path)) (each : (k : ℕ) → In (child_of r path k))
    (above : (up : List ℕ) (q : ℕ) → path ≡ up ++ q ∷ [] → (n : Node) → node_at sheet r up ≡ Some n → HasCounters n.1 → (k : ℕ) → In (child_of r up k)) where
  from_above : (up : List ℕ) (q : ℕ) → path ≡ up ++ q ∷ [] → (n : Node) → node_at sheet r (parent_of path) ≡ Some n → HasCounters n.1 → (k : ℕ) → In (child_of r (parent_of path) k)
  from_above up q is n at counted k =
      let same : parent_of path ≡ up = ap parent_of is ∙ parent_is up q in
      subst (λ xs. In (child_of r xs k)) (sym same) (above up q is n (sym (ap (node_at sheet r) same) ∙ at) counted k)

  -- a rule's root is no counter of another node
  from_none : path ≡ [] → (m n : Node) → node_at sheet r path ≡ Some m → (HasCounters m.1 → ⊥) → node_at sheet r (parent_of path) ≡ Some n → HasCounters n.1 → ⊥
  from_none is m n at none at_parent counted =
      let same : parent_of path ≡ path = ap parent_of is ∙ sym is in
      none (subst (λ (x : Node). HasCounters x.1) (same_some (sym at_parent ∙ ap (node_at sheet r) same ∙ at)) counted)

  by_number : (s : Statement) (i : ℕ) (clause : List Literal) → IsAtNumber (clauses_of_node (node r path) (child_of r path) sheet.universe s) i clause → (l : Literal) → Contains clause l → In l.what
  by_number s i clause h = node_symbols In (node r path) (child_of r path) here each sheet.universe s clause (numbered (clauses_of_node (node r path) (child_of r path) sheet.universe s) i clause h)

  by_statement : (scope : Scope) (s : Statement) → node_at sheet r path ≡ Some (scope, s) → (i : ℕ) (clause : List Literal) → IsClauseOfKind sheet r path (kind_of sheet.universe s) i clause → (l : Literal) → Contains clause l → In l.what
  by_statement scope (compare left op right) at i clause h = by_number (compare left op right) i clause h
  by_statement scope (in_table t xs) at i clause h = by_number (in_table t xs) i clause h
  by_statement scope (negation s) at i clause h = by_number (negation s) i clause h
  by_statement scope (all_of ss) at i clause h = by_number (all_of ss) i clause h
  by_statement scope (some_of ss) at i clause h = by_number (some_of ss) i clause h
  by_statement scope (implies s t) at i clause h = by_number (implies s t) i clause h
  by_statement scope (iff s t) at i clause h = by_number (iff s t) i clause h
  by_statement scope (for_all name s body) at i clause h = by_number (for_all name s body) i clause h
  by_statement scope (exists name s body) at i clause h = by_number (exists name s body) i clause h
  by_statement scope (counts (no_more_than k) name s body) at i clause h =
      at_row In (count_rows (signed_node r path) (signed_child r path) (size_of sheet.universe s) (suc k) true) i clause (count_in In r path each (size_of sheet.universe s) (suc k) here true) h
  by_statement scope (counts (no_fewer_than k) name s body) at i clause h =
      at_row In (count_rows (signed_node r path) (signed_child r path) (size_of sheet.universe s) k false) i clause (count_in In r path each (size_of sheet.universe s) k here false) h
  by_statement scope (counts (of_first m j k) name s body) at i clause h =
      let up = parent_of path in
      let n = some_and (node_at sheet r up) (λ n. IsAtRow (rows_below_kind (signed_node r up) (signed_child r up) (kind_of sheet.universe n.1) (last_of path)) i clause) h in
      let children : HasCounters n.0.1 → (k : ℕ) → In (child_of r up k) = elim (none_or_last path) [
        | inl none ↦ (λ counted. absurd (from_none none (scope, counts (of_first m j k) name s body) n.0 at (λ f. f) n.1 counted))
        | inr end ↦ from_above end.0 end.1 end.2 n.0 n.1
      ] in
      at_row In (rows_below_kind (signed_node r up) (signed_child r up) (kind_of sheet.universe n.0.1) (last_of path)) i clause (below_in In sheet.universe r up n.0.1 children (last_of path)) n.2

  pub axiom_symbols : (i : ℕ) (clause : List Literal) → IsClauseOf sheet (axiom_node r path i) clause → (l : Literal) → Contains clause l → In l.what
  axiom_symbols i clause h =
      let n = some_and (node_at sheet r path) (λ n. IsClauseOfKind sheet r path (kind_of sheet.universe n.1) i clause) h in
      by_statement n.0.0 n.0.1 n.1 i clause n.2

-- where each node of the rule is such
pub rule_symbols : (In : Symbol → Type 0) (sheet : Sheet) (r : ℕ) (path : List ℕ) → ((steps : List ℕ) → In (node r steps)) → (i : ℕ) (clause : List Literal) → IsClauseOf sheet (axiom_node r path i) clause → (l : Literal) → Contains clause l → In l.what
rule_symbols In sheet r path all = axiom_symbols In sheet r path (all path) (λ k. all (path ++ k ∷ [])) (λ up q is n at counted k. all (up ++ k ∷ []))

-- ---- a cell's axioms

abbrev pub IsOfCell : ℕ → Axiom → Type 0
IsOfCell c (axiom_some d) = d.0 ≡ c
IsOfCell c (axiom_one d v w) = d.0 ≡ c
IsOfCell c (axiom_rule r) = ⊥
IsOfCell c (axiom_node r path i) = ⊥
IsOfCell c (axiom_atom r path reads) = ⊥

ones_named : (c v n : ℕ) → All (λ g. IsOfCell c g.name) (one_axioms c v n)
ones_named c v zero = All-nil (λ g. IsOfCell c g.name)
ones_named c v (suc n) =
    let P : GroundAxiom → Type 0 = λ g. IsOfCell c g.name in
    All-append P (map (one_axiom c v) (range_with_len (v + 1) n)) (one_axioms c (v + 1) n)
    (All-map P (one_axiom c v) (range_with_len (v + 1) n) (all_from (λ w. P (one_axiom c v w)) (range_with_len (v + 1) n) (λ w there. refl))) (ones_named c (v + 1) n)

pub cell_named : (c n : ℕ) → All (λ g. IsOfCell c g.name) (cell_axioms c n)
cell_named c n = All-cons (λ g. IsOfCell c g.name) (some_axiom c n) (one_axioms c 0 n) refl (ones_named c 0 n)

cells_there : (ns : List ℕ) (c j n : ℕ) → slice_get ns j ≡ Some n → (g : GroundAxiom) → Contains (cell_axioms (c + j) n) g → Contains (cells_axioms c ns) g
cells_there [] c j n is g h = absurd (cc)
cells_there (m ∷ ns) c zero n is g h =
    let here : c + 0 ≡ c = omega arith in
    let same : n ≡ m = cc in
    Contains-append_left (cell_axioms c m) (cells_axioms (c + 1) ns) g (subst (λ k. Contains (cell_axioms c k) g) same (subst (λ i. Contains (cell_axioms i n) g) here h))
cells_there (m ∷ ns) c (suc j) n is g h =
    let there : c + suc j ≡ c + 1 + j = omega arith in
    Contains-append_right (cell_axioms c m) (cells_axioms (c + 1) ns) g (cells_there ns (c + 1) j n is g (subst (λ i. Contains (cell_axioms i n) g) there h))

pub cell_there : (sheet : Sheet) (c n : ℕ) → slice_get (cell_sizes sheet.universe) c ≡ Some n → (g : GroundAxiom) → Contains (cell_axioms c n) g → Contains (axioms sheet) g
cell_there sheet c n is g h =
    Contains-append_left (cells_axioms 0 (cell_sizes sheet.universe)) (rules_axioms sheet.universe 0 sheet.rules) g
    (cells_there (cell_sizes sheet.universe) 0 c n is g (subst (λ i. Contains (cell_axioms i n) g) (sym (zero-add c)) h))
