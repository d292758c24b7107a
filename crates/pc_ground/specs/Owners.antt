-- The groups that each axiom is of. The groups of a sheet are its cells, and then its pieces, in their order; an axiom is of groups that come one after another.
use Rattle.std.specs.Prelude.{ℕ, zero, suc, ◌+◌, ◌*◌, List, [], ◌∷◌, ◌++◌, length, map}
use Rattle.std.specs.List.{flat_map}
use Rattle.pc_sheet.specs.Sheet.{Universe, Sheet, NamedStatement, Statement, Statements, no_statements, statement, compare, in_table, negation, all_of, some_of, implies, iff, for_all, exists, counts}
use Rattle.pc_sheet.specs.Truth.{Scope}
use Rattle.pc_sheet.specs.Sizes.{size_of}
use Rattle.pc_sheet.specs.Cells.{values_below}
use Rattle.pc_sheet.specs.Entailment.{cell_sizes}
use Rattle.pc_sheet.specs.declared.ids.SortId.{SortId}
use Rattle.pc_sheet.specs.declared.ids.ValueId.{ValueId}
use Rattle.pc_ground.specs.declared.owners.Span.{Span}
use Rattle.pc_ground.specs.Ground.{GroundAxiom, cell_axioms, node_axioms}

-- so many groups, from the one of that number on
abbrev pub span : ℕ → ℕ → Span
span first count = record { first = first; count = count }

abbrev pub no_groups : ℕ → Span
no_groups first = span first 0

-- each of these axioms is of that group alone
abbrev pub of_one : ℕ → List GroundAxiom → List Span
of_one i gs = map (λ g. span i 1) gs

-- ---- cells

-- of these cells, the first of which has that number
abbrev pub cells_spans : ℕ → List ℕ → List Span
cells_spans c [] = []
cells_spans c (n ∷ ns) = of_one c (cell_axioms c n) ++ cells_spans (c + 1) ns

-- the same, counted: that many times, and once for each two of n values
abbrev pub times : ℕ → Span → List Span
times zero x = []
times (suc n) x = x ∷ times n x

abbrev pub ones : ℕ → Span → List Span
ones zero x = []
ones (suc n) x = times n x ++ ones n x

abbrev pub cells_times : ℕ → List ℕ → List Span
cells_times c [] = []
cells_times c (n ∷ ns) = (span c 1 ∷ ones n (span c 1)) ++ cells_times (c + 1) ns

-- ---- nodes

-- how many pieces are under a statement
abbrev mutual
  pub piece_count : Universe → Statement → ℕ
  piece_count u (compare left op right) = 1
  piece_count u (in_table t xs) = 1
  piece_count u (negation s) = 1
  piece_count u (all_of ss) = piece_count_of_parts u ss
  piece_count u (some_of ss) = 1
  piece_count u (implies s t) = 1
  piece_count u (iff s t) = 1
  piece_count u (for_all name s body) = size_of u s * piece_count u body
  piece_count u (exists name s body) = 1
  piece_count u (counts c name s body) = 1

  pub piece_count_of_parts : Universe → Statements → ℕ
  piece_count_of_parts u no_statements = 0
  piece_count_of_parts u (statement s ss) = piece_count u s + piece_count_of_parts u ss

abbrev pub piece_count_of_rules : Universe → List NamedStatement → ℕ
piece_count_of_rules u [] = 0
piece_count_of_rules u (rule ∷ rules) = piece_count u rule.states + piece_count_of_rules u rules

-- the pieces under each part, the first being j
abbrev pub spans_of_children : Universe → ℕ → Statements → List Span
spans_of_children u j no_statements = []
spans_of_children u j (statement s ss) = span j (piece_count u s) ∷ spans_of_children u (j + piece_count u s) ss

-- where the instances of c pieces each begin, the first being j
abbrev pub instance_at : ℕ → ℕ → ValueId → ℕ
instance_at j c v = j + v.0 * c

abbrev pub span_at : ℕ → ℕ → ValueId → Span
span_at j c v = span (instance_at j c v) c

-- of a node's axioms and those under it, its first piece being j: all those of a piece are of the piece; the clause of a joint node's child is of the pieces under that child, and its last clause of none
abbrev mutual
  pub spans : Universe → ℕ → ℕ → List ℕ → Scope → Statement → List Span
  spans u j r path scope (compare left op right) = of_one j (node_axioms u r path scope (compare left op right))
  spans u j r path scope (in_table t xs) = of_one j (node_axioms u r path scope (in_table t xs))
  spans u j r path scope (negation s) = of_one j (node_axioms u r path scope (negation s))
  spans u j r path scope (all_of ss) = (spans_of_children u j ss ++ no_groups j ∷ []) ++ spans_of_parts u j r path scope 0 ss
  spans u j r path scope (some_of ss) = of_one j (node_axioms u r path scope (some_of ss))
  spans u j r path scope (implies s t) = of_one j (node_axioms u r path scope (implies s t))
  spans u j r path scope (iff s t) = of_one j (node_axioms u r path scope (iff s t))
  spans u j r path scope (for_all name s body) =
      (map (span_at j (piece_count u body)) (values_below (size_of u s)) ++ no_groups j ∷ [])
      ++ flat_map (λ v. spans u (instance_at j (piece_count u body) v) r (path ++ v.0 ∷ []) (scope ++ (s, v) ∷ []) body) (values_below (size_of u s))
  spans u j r path scope (exists name s body) = of_one j (node_axioms u r path scope (exists name s body))
  spans u j r path scope (counts c name s body) = of_one j (node_axioms u r path scope (counts c name s body))

  -- of the parts from the one of that number on
  pub spans_of_parts : Universe → ℕ → ℕ → List ℕ → Scope → ℕ → Statements → List Span
  spans_of_parts u j r path scope k no_statements = []
  spans_of_parts u j r path scope k (statement s ss) = spans u j r (path ++ k ∷ []) scope s ++ spans_of_parts u (j + piece_count u s) r path scope (k + 1) ss

-- the instances of a joint quantifier's body
abbrev pub spans_of_values : Universe → ℕ → ℕ → List ℕ → Scope → SortId → Statement → ℕ → List Span
spans_of_values u j r path scope s body n = flat_map (λ v. spans u (instance_at j (piece_count u body) v) r (path ++ v.0 ∷ []) (scope ++ (s, v) ∷ []) body) (values_below n)

-- ---- rules

-- of these rules, of which the first has the number r and its first piece the number j
abbrev pub spans_of_rules : Universe → ℕ → ℕ → List NamedStatement → List Span
spans_of_rules u j r [] = []
spans_of_rules u j r (rule ∷ rules) = (span j (piece_count u rule.states) ∷ spans u j r [] [] rule.states) ++ spans_of_rules u (j + piece_count u rule.states) (r + 1) rules

-- of all axioms
abbrev pub owners_of : Sheet → List Span
owners_of sheet = cells_spans 0 (cell_sizes sheet.universe) ++ spans_of_rules sheet.universe (length (cell_sizes sheet.universe)) 0 sheet.rules
