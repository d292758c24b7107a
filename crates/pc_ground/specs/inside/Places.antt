-- What the walk makes at a place: clauses, the names of nodes and of axioms, the groups of axioms, and the cells that are read.
use Rattle.std.specs.Prelude.{ℕ, ◌+◌, ◌*◌, Bool, List, [], ◌∷◌, ◌++◌, map}
use Rattle.std.specs.List.{flat_map}
use Rattle.pc_sheet.specs.Sheet.{Universe, Statement, Statements}
use Rattle.pc_sheet.specs.Truth.{Scope}
use Rattle.pc_sheet.specs.Sizes.{size_of}
use Rattle.pc_sheet.specs.Cells.{values_below}
use Rattle.pc_sheet.specs.Readings.{Leaf, leaves_of}
use Rattle.pc_sheet.specs.declared.ids.SortId.{SortId}
use Rattle.pc_sheet.specs.declared.ids.ValueId.{ValueId}
use Rattle.pc_sheet.specs.declared.nodes.NodePath.{NodePath}
use Rattle.pc_sheet.specs.declared.nodes.NodeKind.TheVariants.{Count}
use Rattle.pc_accept.specs.Literals.{Symbol, node}
use Rattle.pc_axiom_names.specs.Listed.{NameLists}
use Rattle.pc_parts.specs.Leaves.{cells_under, cells_under_parts}
use Rattle.pc_ground.specs.declared.counting.Counting.{Counting}
use Rattle.pc_ground.specs.declared.grounding.Grounding.{Grounding}
use Rattle.pc_ground.specs.declared.grounding.Place.{Place}
use Rattle.pc_ground.specs.declared.grounding.Binder.{Binder}
use Rattle.pc_ground.specs.declared.grounding.Fork.{Fork}
use Rattle.pc_ground.specs.declared.owners.Span.{Span}
use Rattle.pc_ground.specs.ByNumber.{Clause, joined_clauses, roots, roots_of_values, node_clauses, parts_clauses, instances_clauses, count_clauses, counters_clauses}
use Rattle.pc_ground.specs.Ground.{GroundAxiom, node_axioms, parts_axioms, counters_axioms}
use Rattle.pc_ground.specs.Naming.{name_of, named, own_names, leaf_name}
use Rattle.pc_ground.specs.Owners.{piece_count, spans, spans_of_children, spans_of_parts, spans_of_values, span_at, no_groups}
use Rattle.pc_ground.specs.PieceCells.{piece_cells, piece_cells_of_parts}
use Rattle.pc_ground.specs.Variables.{count_nodes, nodes_below, parts_below, counters_below}

-- a node by itself, and so many axioms of it
abbrev pub own_named : NodePath → ℕ → NameLists → NameLists
own_named path k names = named names (node path.rule path.steps.items ∷ []) (own_names path.rule path.steps.items k)

-- an atom's node, and the axioms of these leaves
abbrev pub leaves_named : NodePath → List Leaf → NameLists → NameLists
leaves_named path leaves names = named names (node path.rule path.steps.items ∷ []) (map (leaf_name path.rule path.steps.items) leaves)

-- the counters of n values and the threshold m, and their axioms
abbrev pub counters_named : NodePath → ℕ → ℕ → NameLists → NameLists
counters_named path n m names = named names (counters_below path.rule path.steps.items n m) (map name_of (counters_axioms path.rule path.steps.items n m))

-- ---- a statement

-- where it stands: its rule, the path to it, the values of the variables around it, and the number of its node
pub record Spot : Type 0 where
  pub rule : ℕ
  pub path : List ℕ
  pub scope : Scope
  pub number : ℕ

abbrev pub spot : Place → Spot
spot at = record { rule = at.path.now.rule; path = at.path.now.steps.items; scope = at.scope.now; number = at.first }

-- the child of that number
abbrev pub child_spot : Place → ℕ → Spot
child_spot at k = record { rule = at.path.now.rule; path = at.path.now.steps.items ++ k ∷ []; scope = at.scope.now; number = at.first }

-- the body of a quantifier whose variable has that value
abbrev pub value_spot : Place → SortId × ValueId → Spot
value_spot at x = record { rule = at.path.now.rule; path = at.path.now.steps.items ++ x.1.0 ∷ []; scope = at.scope.now ++ x ∷ []; number = at.first }

abbrev pub leaves_at : Grounding → Place → Statement → List Leaf
leaves_at g at atom = leaves_of g.book.now.universe at.scope.now atom

module _ (g : Grounding) (at : Spot) (s : Statement) where
  abbrev pub clauses_at : List Clause
  clauses_at = node_clauses g.book.now.universe g.cells.now at.number at.scope s

  abbrev pub axioms_at : List GroundAxiom
  axioms_at = node_axioms g.book.now.universe at.rule at.path at.scope s

  abbrev pub names_at : NameLists → NameLists
  names_at names = named names (nodes_below g.book.now.universe at.rule at.path s) (map name_of axioms_at)

  abbrev pub cells_at : List ℕ
  cells_at = cells_under g.book.now.universe at.scope s

  -- its first piece having the number j
  abbrev pub spans_at : ℕ → List Span
  spans_at j = spans g.book.now.universe j at.rule at.path at.scope s

  abbrev pub reads_at : List (List ℕ)
  reads_at = piece_cells g.book.now.universe at.scope s

-- ---- two parts of the node that stands there

module _ (g : Grounding) (at : Fork) (s t : Statement) where
  abbrev pub clauses_of_two : List Clause
  clauses_of_two = node_clauses g.book.now.universe g.cells.now (at.place.first + 1) at.place.scope.now s ++ node_clauses g.book.now.universe g.cells.now at.second at.place.scope.now t

  abbrev pub nodes_of_two : List Symbol
  nodes_of_two = nodes_below g.book.now.universe at.place.path.now.rule (at.place.path.now.steps.items ++ 0 ∷ []) s ++ nodes_below g.book.now.universe at.place.path.now.rule (at.place.path.now.steps.items ++ 1 ∷ []) t

  abbrev pub axioms_of_two : List GroundAxiom
  axioms_of_two =
      node_axioms g.book.now.universe at.place.path.now.rule (at.place.path.now.steps.items ++ 0 ∷ []) at.place.scope.now s
      ++ node_axioms g.book.now.universe at.place.path.now.rule (at.place.path.now.steps.items ++ 1 ∷ []) at.place.scope.now t

  abbrev pub names_of_two : NameLists → NameLists
  names_of_two names = named names nodes_of_two (map name_of axioms_of_two)

  abbrev pub cells_of_two : List ℕ
  cells_of_two = cells_under g.book.now.universe at.place.scope.now s ++ cells_under g.book.now.universe at.place.scope.now t

-- ---- parts of a conjunction or disjunction that stands there

-- its own clauses: a conjunction's where `every`
abbrev pub own_joined : Universe → Place → Statements → Bool → List Clause
own_joined u at ss every = joined_clauses at.first every (roots u (at.first + 1) ss)

module _ (g : Grounding) (at : Place) (ss : Statements) where
  abbrev pub clauses_of_parts : List Clause
  clauses_of_parts = parts_clauses g.book.now.universe g.cells.now (at.first + 1) at.scope.now ss

  abbrev pub nodes_of_parts : List Symbol
  nodes_of_parts = parts_below g.book.now.universe at.path.now.rule at.path.now.steps.items 0 ss

  abbrev pub axioms_of_parts : List GroundAxiom
  axioms_of_parts = parts_axioms g.book.now.universe at.path.now.rule at.path.now.steps.items at.scope.now 0 ss

  abbrev pub names_of_parts : NameLists → NameLists
  names_of_parts names = named names nodes_of_parts (map name_of axioms_of_parts)

  abbrev pub cells_of_parts : List ℕ
  cells_of_parts = cells_under_parts g.book.now.universe at.scope.now ss

  abbrev pub owners_of_parts : ℕ → List Span
  owners_of_parts j = spans_of_parts g.book.now.universe j at.path.now.rule at.path.now.steps.items at.scope.now 0 ss

  abbrev pub reads_of_parts : List (List ℕ)
  reads_of_parts = piece_cells_of_parts g.book.now.universe at.scope.now ss

  -- with the node itself: a conjunction where `every`, of k parts
  abbrev pub clauses_joined : Bool → List Clause
  clauses_joined every = own_joined g.book.now.universe at ss every ++ clauses_of_parts

  abbrev pub names_joined : ℕ → NameLists → NameLists
  names_joined k names =
      named names (node at.path.now.rule at.path.now.steps.items ∷ nodes_of_parts)
      (own_names at.path.now.rule at.path.now.steps.items (k + 1) ++ map name_of axioms_of_parts)

  -- of a joint conjunction's own axioms
  abbrev pub owners_joined : ℕ → List Span
  owners_joined j = spans_of_children g.book.now.universe j ss ++ no_groups j ∷ []

  -- and then of those of its parts
  abbrev pub owners_of_joint : ℕ → List Span
  owners_of_joint j = owners_joined j ++ owners_of_parts j

-- ---- the body of a quantifier under each of its values

module _ (g : Grounding) (b : Binder) (body : Statement) where
  abbrev size : ℕ
  size = size_of g.book.now.universe b.sort

  abbrev pub clauses_of_values : List Clause
  clauses_of_values = instances_clauses g.book.now.universe g.cells.now (b.place.first + 1) b.place.scope.now b.sort body size

  abbrev pub nodes_of_values : List Symbol
  nodes_of_values = flat_map (λ v. nodes_below g.book.now.universe b.place.path.now.rule (b.place.path.now.steps.items ++ v.0 ∷ []) body) (values_below size)

  abbrev pub axioms_of_values : List GroundAxiom
  axioms_of_values = flat_map (λ v. node_axioms g.book.now.universe b.place.path.now.rule (b.place.path.now.steps.items ++ v.0 ∷ []) (b.place.scope.now ++ (b.sort, v) ∷ []) body) (values_below size)

  abbrev pub names_of_values : NameLists → NameLists
  names_of_values names = named names nodes_of_values (map name_of axioms_of_values)

  abbrev pub cells_of_values : List ℕ
  cells_of_values = flat_map (λ v. cells_under g.book.now.universe (b.place.scope.now ++ (b.sort, v) ∷ []) body) (values_below size)

  abbrev pub owners_of_values : ℕ → List Span
  owners_of_values j = spans_of_values g.book.now.universe j b.place.path.now.rule b.place.path.now.steps.items b.place.scope.now b.sort body size

  abbrev pub reads_of_values : List (List ℕ)
  reads_of_values = flat_map (λ v. piece_cells g.book.now.universe (b.place.scope.now ++ (b.sort, v) ∷ []) body) (values_below size)

  -- with the node itself: for all where `every`
  abbrev pub clauses_of_instances : Bool → List Clause
  clauses_of_instances every = joined_clauses b.place.first every (roots_of_values (b.place.first + 1) (count_nodes g.book.now.universe body) size) ++ clauses_of_values

  abbrev pub names_of_instances : NameLists → NameLists
  names_of_instances names =
      named names (node b.place.path.now.rule b.place.path.now.steps.items ∷ nodes_of_values)
      (own_names b.place.path.now.rule b.place.path.now.steps.items (size + 1) ++ map name_of axioms_of_values)

  -- of a joint quantifier
  abbrev pub owners_of_instances : ℕ → List Span
  owners_of_instances j = (map (span_at j (piece_count g.book.now.universe body)) (values_below size) ++ no_groups j ∷ []) ++ owners_of_values j

  -- with a counting quantifier itself and its counters
  abbrev pub clauses_counted : Counting → List Clause
  clauses_counted c =
      count_clauses b.place.first size (count_nodes g.book.now.universe body) (Count c.at_most size c.threshold)
      ++ (clauses_of_values ++ counters_clauses b.place.first size (count_nodes g.book.now.universe body) c.threshold)

  -- the number that follows those of all these nodes
  abbrev pub end_of_counted : Counting → ℕ
  end_of_counted c = b.place.first + 1 + (size * count_nodes g.book.now.universe body + size * c.threshold)

  abbrev pub names_counted : Counting → NameLists → NameLists
  names_counted c names =
      named names (node b.place.path.now.rule b.place.path.now.steps.items ∷ (nodes_of_values ++ counters_below b.place.path.now.rule b.place.path.now.steps.items size c.threshold))
      (own_names b.place.path.now.rule b.place.path.now.steps.items 2 ++ map name_of (axioms_of_values ++ counters_axioms b.place.path.now.rule b.place.path.now.steps.items size c.threshold))
