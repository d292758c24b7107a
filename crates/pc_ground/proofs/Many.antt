-- There are fewer clauses than the sheet weighs and has cells together, and their literals are of the sheet's variables.
use Rattle.std.proofs.Common.{◌≡◌, ℕ, zero, suc, ◌+◌, ◌*◌, ◌<◌, ◌≤◌, Option, None, Some, Bool, true, false, List, [], ◌∷◌, ◌++◌, map, length, sum_by, All, Contains, sym, subst, refl, arith, length-append}
use Rattle.std.specs.List.{flat_map, range_with_len}
use Rattle.std.proofs.lemmas.List.{length-map}
use Rattle.std.proofs.lemmas.List.Elements.{All-map, All-contains, All-contains_itself, All-weaker}
use Rattle.pc_sheet.specs.WellSorted.{parts_in}
use Rattle.pc_lemmas.proofs.Elements.{contains_map}
use Rattle.std.proofs.lemmas.List.FromFn.{length-map-range_with_len}
use Rattle.std.proofs.lemmas.List.Sums.{sum_by-cons, sum_by-append}
use Rattle.pc_lits.specs.declared.literal.Lit.{Lit}
use Rattle.pc_sheet.specs.Sheet.{Universe, Sheet, NamedStatement, Counting, no_more_than, no_fewer_than, of_first, Statement, Statements, no_statements, statement, compare, in_table, negation, all_of, some_of, implies, iff, for_all, exists, counts}
use Rattle.pc_sheet.specs.Truth.{Scope}
use Rattle.pc_sheet.specs.Sizes.{size_of}
use Rattle.pc_sheet.specs.Cells.{values_below}
use Rattle.pc_sheet.specs.Entailment.{cell_sizes}
use Rattle.pc_sheet.specs.Readings.{Leaf, leaves_of}
use Rattle.pc_sheet.specs.Weight.{weight}
use Rattle.pc_sheet.specs.declared.ids.ValueId.{ValueId}
use Rattle.pc_accept.specs.Literals.{Symbol, Literal, node}
use Rattle.pc_accept.specs.Axioms.{each_below, clauses_of_node, child_of, signed_node, signed_child}
use Rattle.std.specs.Option.{option_map}
use Rattle.pc_accept.specs.Rows.{Part, fixed, literal, clause_of, count_rows, counter_rows}
use Rattle.pc_sheet.specs.Nodes.{bodies_of, threshold_of, counter_number}
use Rattle.pc_sheet.specs.declared.ids.SortId.{SortId}
use Rattle.pc_ground.specs.Variables.{variables, variable_count, number}
use Rattle.pc_ground.specs.Ground.{GroundAxiom, some_axiom, one_axiom, one_axioms, cell_axioms, cells_axioms, leaf_axiom, numbered_axioms, own_axioms, row_axiom, row_axioms, count_axioms, counter_axioms, counters_axioms, node_axioms, parts_axioms, root_axiom, rule_axioms, rules_axioms, axioms, lit_of, clause_of_axiom, clauses}
use Rattle.pc_ground.proofs.Lists.{flat_push, range_each}
use Rattle.pc_ground.proofs.Numbers.{numbered_up}
use Rattle.pc_ground.proofs.Symbols.{symbols_are_variables}
use Rattle.pc_ground.proofs.Weighing.{literals_in, literals, axioms_weigh, leaf, own, all_own, some_own}

-- no more axioms than literals
abbrev Few : List GroundAxiom → Type 0
Few gs = length gs ≤ literals gs

two : (xs ys : List GroundAxiom) → Few xs → Few ys → Few (xs ++ ys)
two xs ys h g =
    let a = length-append xs ys in
    let b = sum_by-append literals_in xs ys in
    omega (arith, h, g, a, b)

each : {A : Type 0} (f : A → GroundAxiom) (xs : List A) → ((x : A) → 0 < literals_in (f x)) → Few (map f xs)
each f [] h = omega arith
each f (x ∷ xs) h =
    let here = h x in
    let rest = each f xs h in
    let all = sum_by-cons literals_in (f x) (map f xs) in
    omega (arith, here, rest, all)

values : (f : ValueId → List GroundAxiom) (n : ℕ) → ((v : ValueId) → Few (f v)) → Few (flat_map f (values_below n))
values f zero h = omega arith
values f (suc n) h =
    let last : ValueId = record { 0 = n } in
    subst Few (sym (flat_push f n)) (two (flat_map f (values_below n)) (f last) (values f n h) (h last))

-- ---- cells

ones : (c v n : ℕ) → Few (one_axioms c v n)
ones c v zero = omega arith
ones c v (suc n) = two (map (one_axiom c v) (range_with_len (v + 1) n)) (one_axioms c (v + 1) n) (each (one_axiom c v) (range_with_len (v + 1) n) (λ w. omega arith)) (ones c (v + 1) n)

cells : (ns : List ℕ) (c : ℕ) → length (cells_axioms c ns) ≤ literals (cells_axioms c ns) + length ns
cells [] c = omega arith
cells (n ∷ ns) c =
    let here = ones c 0 n in
    let own = sum_by-cons literals_in (some_axiom c n) (one_axioms c 0 n) in
    let rest = cells ns (c + 1) in
    let a = length-append (cell_axioms c n) (cells_axioms (c + 1) ns) in
    let b = sum_by-append literals_in (cell_axioms c n) (cells_axioms (c + 1) ns) in
    omega (arith, here, own, rest, a, b)

-- ---- rules

numbered : (r : ℕ) (path : List ℕ) (i : ℕ) (cs : List (List Literal)) → length (numbered_axioms r path i cs) ≡ length cs
numbered r path i [] = refl
numbered r path i (c ∷ cs) = let rest = numbered r path (i + 1) cs in omega (arith, rest)

joined : (f : ℕ → List Literal) (last : List Literal) (n : ℕ) → length (each_below n f ++ last ∷ []) ≡ n + 1
joined f last n =
    let a = length-append (each_below n f) (last ∷ []) in
    let b : length (each_below n f) ≡ n = length-map-range_with_len f 0 n in
    omega (arith, a, b)

module _ (u : Universe) (r : ℕ) where
  own_few : (path : List ℕ) (s : Statement) (n m : ℕ) → length (clauses_of_node (node r path) (child_of r path) u s) ≡ n → sum_by length (clauses_of_node (node r path) (child_of r path) u s) ≡ m → n ≤ m → Few (own_axioms u r path s)
  own_few path s n m many all l =
      let a = numbered r path 1 (clauses_of_node (node r path) (child_of r path) u s) in
      let b = own u r path s m all in
      omega (arith, many, l, a, b)

  leaves : (path : List ℕ) (xs : List Leaf) → Few (map (leaf_axiom r path) xs)
  leaves path xs = each (leaf_axiom r path) xs (λ x. let one = leaf u r path x in omega (arith, one))

  -- a row that begins with a literal
  row_few : (path : List ℕ) (i : ℕ) (l : Literal) (ps : List (Part Literal)) → Few (row_axiom r path i (clause_of (literal l ∷ ps)))
  row_few path i l ps = by (clause_of ps)
    where
      by : (o : Option (List Literal)) → Few (row_axiom r path i (option_map (λ ls. l ∷ ls) o))
      by None = omega arith
      by (Some ls) = omega arith

  -- each row begins with a literal
  abbrev Begins : List (Part Literal) → Type 0
  Begins [] = ⊥
  Begins (fixed b ∷ ps) = ⊥
  Begins (literal l ∷ ps) = Unit {0}

  abbrev Begin : List (List (Part Literal)) → Type 0
  Begin [] = Unit {0}
  Begin (row ∷ rows) = Begins row × Begin rows

  begins_few : (path : List ℕ) (i : ℕ) (row : List (Part Literal)) → Begins row → Few (row_axiom r path i (clause_of row))
  begins_few path i [] h = absurd h
  begins_few path i (fixed b ∷ ps) h = absurd h
  begins_few path i (literal l ∷ ps) h = row_few path i l ps

  rows_few : (path : List ℕ) (i : ℕ) (rows : List (List (Part Literal))) → Begin rows → Few (row_axioms r path i rows)
  rows_few path i [] h = omega arith
  rows_few path i (row ∷ rows) h = two (row_axiom r path i (clause_of row)) (row_axioms r path (i + 1) rows) (begins_few path i row h.0) (rows_few path (i + 1) rows h.1)

  count_few : (path : List ℕ) (c : Counting) (name : List ℕ) (s : SortId) (body : Statement) → Few (count_axioms u r path (counts c name s body))
  count_few path (no_more_than k) name s body = rows_few path 1 (count_rows (signed_node r path) (signed_child r path) (size_of u s) (suc k) true) (tt, (tt, tt))
  count_few path (no_fewer_than k) name s body = rows_few path 1 (count_rows (signed_node r path) (signed_child r path) (size_of u s) k false) (tt, (tt, tt))
  count_few path (of_first m i j) name s body = omega arith

  range_few : (f : ℕ → List GroundAxiom) (i n : ℕ) → ((k : ℕ) → Few (f k)) → Few (flat_map f (range_with_len i n))
  range_few f i zero h = omega arith
  range_few f i (suc n) h = two (f i) (flat_map f (range_with_len (i + 1) n)) (h i) (range_few f (i + 1) n h)

  counter_few : (path : List ℕ) (n m i j : ℕ) → Few (counter_axioms r path n m i j)
  counter_few path n m i j = rows_few (path ++ counter_number n m (suc i) (suc j) ∷ []) 1 (counter_rows (signed_node r path) (signed_child r path) n m i j) (tt, (tt, (tt, (tt, tt))))

  counters_few : (path : List ℕ) (n m : ℕ) → Few (counters_axioms r path n m)
  counters_few path n m = range_few (λ i. flat_map (counter_axioms r path n m i) (range_with_len 0 m)) 0 n (λ i. range_few (counter_axioms r path n m i) 0 m (λ j. counter_few path n m i j))

  mutual
    nodes : (path : List ℕ) (scope : Scope) (s : Statement) → Few (node_axioms u r path scope s)
    nodes path scope (compare left op right) = leaves path (leaves_of u scope (compare left op right))
    nodes path scope (in_table t xs) = leaves path (leaves_of u scope (in_table t xs))
    nodes path scope (negation s) = two (own_axioms u r path (negation s)) _ (own_few path (negation s) 2 4 refl refl (omega arith)) (nodes (path ++ 0 ∷ []) scope s)
    nodes path scope (all_of ss) =
        two (own_axioms u r path (all_of ss)) _
        (own_few path (all_of ss) (parts_in ss + 1) (3 * parts_in ss + 1) (joined _ _ (parts_in ss)) (all_own u r (node r path) (child_of r path) (parts_in ss)) (omega arith))
        (parts_few path scope 0 ss)
    nodes path scope (some_of ss) =
        two (own_axioms u r path (some_of ss)) _
        (own_few path (some_of ss) (parts_in ss + 1) (3 * parts_in ss + 1) (joined _ _ (parts_in ss)) (some_own u r (node r path) (child_of r path) (parts_in ss)) (omega arith))
        (parts_few path scope 0 ss)
    nodes path scope (implies s t) =
        two (own_axioms u r path (implies s t)) _ (own_few path (implies s t) 3 7 refl refl (omega arith))
        (two (node_axioms u r (path ++ 0 ∷ []) scope s) (node_axioms u r (path ++ 1 ∷ []) scope t) (nodes (path ++ 0 ∷ []) scope s) (nodes (path ++ 1 ∷ []) scope t))
    nodes path scope (iff s t) =
        two (own_axioms u r path (iff s t)) _ (own_few path (iff s t) 4 12 refl refl (omega arith))
        (two (node_axioms u r (path ++ 0 ∷ []) scope s) (node_axioms u r (path ++ 1 ∷ []) scope t) (nodes (path ++ 0 ∷ []) scope s) (nodes (path ++ 1 ∷ []) scope t))
    nodes path scope (for_all name s body) =
        two (own_axioms u r path (for_all name s body)) _
        (own_few path (for_all name s body) (size_of u s + 1) (3 * size_of u s + 1) (joined _ _ (size_of u s)) (all_own u r (node r path) (child_of r path) (size_of u s)) (omega arith))
        (values (λ v. node_axioms u r (path ++ v.0 ∷ []) (scope ++ (s, v) ∷ []) body) (size_of u s) (λ v. nodes (path ++ v.0 ∷ []) (scope ++ (s, v) ∷ []) body))
    nodes path scope (exists name s body) =
        two (own_axioms u r path (exists name s body)) _
        (own_few path (exists name s body) (size_of u s + 1) (3 * size_of u s + 1) (joined _ _ (size_of u s)) (some_own u r (node r path) (child_of r path) (size_of u s)) (omega arith))
        (values (λ v. node_axioms u r (path ++ v.0 ∷ []) (scope ++ (s, v) ∷ []) body) (size_of u s) (λ v. nodes (path ++ v.0 ∷ []) (scope ++ (s, v) ∷ []) body))
    nodes path scope (counts c name s body) =
        two (count_axioms u r path (counts c name s body)) _ (count_few path c name s body)
        (two (flat_map (λ v. node_axioms u r (path ++ v.0 ∷ []) (scope ++ (s, v) ∷ []) body) (values_below (bodies_of c (size_of u s)))) _
        (values (λ v. node_axioms u r (path ++ v.0 ∷ []) (scope ++ (s, v) ∷ []) body) (bodies_of c (size_of u s)) (λ v. nodes (path ++ v.0 ∷ []) (scope ++ (s, v) ∷ []) body))
        (counters_few path (bodies_of c (size_of u s)) (threshold_of c)))

    parts_few : (path : List ℕ) (scope : Scope) (k : ℕ) (ss : Statements) → Few (parts_axioms u r path scope k ss)
    parts_few path scope k no_statements = omega arith
    parts_few path scope k (statement s ss) = two (node_axioms u r (path ++ k ∷ []) scope s) _ (nodes (path ++ k ∷ []) scope s) (parts_few path scope (k + 1) ss)

rules : (u : Universe) (r : ℕ) (rs : List NamedStatement) → Few (rules_axioms u r rs)
rules u r [] = omega arith
rules u r (rule ∷ rs) =
    let inner = nodes u r [] [] rule.states in
    let root = sum_by-cons literals_in (root_axiom r) (node_axioms u r [] [] rule.states) in
    two (rule_axioms u r rule) (rules_axioms u (r + 1) rs) (omega (arith, inner, root)) (rules u (r + 1) rs)

pub clauses_few : (sheet : Sheet) → length (clauses sheet) ≤ weight sheet + length (cell_sizes sheet.universe)
clauses_few sheet =
    let xs = cells_axioms 0 (cell_sizes sheet.universe) in
    let ys = rules_axioms sheet.universe 0 sheet.rules in
    let first = cells (cell_sizes sheet.universe) 0 in
    let second = rules sheet.universe 0 sheet.rules in
    let a = length-append xs ys in
    let b = sum_by-append literals_in xs ys in
    let all = axioms_weigh sheet in
    let many = length-map (axioms sheet) (clause_of_axiom sheet) in
    omega (arith, first, second, a, b, all, many)

-- ---- the variables of the literals

-- a variable's number is below the count of variables
pub number_within : (sheet : Sheet) (x : Symbol) → Contains (variables sheet) x → number sheet x < variable_count sheet
number_within sheet x has =
    let n = variable_count sheet in
    let P : ℕ → Type 0 = λ k. k < n in
    All-contains P (range_with_len 0 n) (number sheet x) (range_each P 0 n (λ k l below. omega (arith, below)))
    (subst (λ ns. Contains ns (number sheet x)) (numbered_up sheet) (contains_map (number sheet) (variables sheet) x has))

abbrev pub AreOfVariables : ℕ → List Lit → Type 0
AreOfVariables n clause = All (λ l. l.variable.0 < n) clause

pub clauses_of_variables : (sheet : Sheet) → All (AreOfVariables (variable_count sheet)) (clauses sheet)
clauses_of_variables sheet =
    let n = variable_count sheet in
    let Is : Lit → Type 0 = λ l. l.variable.0 < n in
    All-map (AreOfVariables n) (clause_of_axiom sheet) (axioms sheet)
    (All-weaker (Contains (axioms sheet)) (λ g. AreOfVariables n (clause_of_axiom sheet g))
    (λ g there. All-map Is (lit_of sheet) g.clause (All-weaker (Contains g.clause) (λ l. Is (lit_of sheet l)) (λ l has. number_within sheet l.what (symbols_are_variables sheet g there l has)) g.clause (All-contains_itself g.clause)))
    (axioms sheet) (All-contains_itself (axioms sheet)))
