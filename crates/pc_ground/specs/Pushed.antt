-- A grounded book with one rule more, as its last, and without it again: all that this rule comes to stands behind what is there.
use Rattle.std.specs.Prelude.{◌≡◌, ℕ, ◌+◌, ◌≤◌, true, List, [], ◌∷◌, ◌++◌, length, map, take}
use Rattle.pc_lits.specs.declared.literal.Lit.{Lit}
use Rattle.pc_sheet.specs.Sheet.{Universe, Sheet, NamedStatement, with_rule}
use Rattle.pc_axiom_names.specs.Listed.{NameLists, first_names}
use Rattle.pc_ground.specs.Variables.{count_nodes, nodes_below}
use Rattle.pc_ground.specs.Ground.{rule_axioms}
use Rattle.pc_ground.specs.ByNumber.{Clause, lit, node_clauses}
use Rattle.pc_ground.specs.GroundView.{Grounded}
use Rattle.pc_ground.specs.Grounded.{grounded}
use Rattle.pc_ground.specs.Naming.{name_of, named}
use Rattle.pc_ground.specs.Owners.{piece_count, span, spans}
use Rattle.pc_ground.specs.PieceCells.{piece_cells}
use Rattle.pc_ground.specs.declared.owners.Span.{Span}
use Rattle.pc_ground.specs.declared.walk.Draft.{Draft}
use Rattle.pc_ground.specs.declared.push.GroundSize.{GroundSize}

-- the sheet has a last rule, and this is the ground of it without that rule
abbrev pub IsBeforeLast : Grounded → Sheet → Type 0
IsBeforeLast g sheet = (s : Sheet) × (r : NamedStatement) × (sheet ≡ with_rule s r) × (g ≡ grounded s)

-- so much there is of each
pub record IsSizeOf (g : Grounded) (size : GroundSize) : Type 0 where
  pub variables : size.variables ≡ g.variables
  pub symbols : size.symbols ≡ length g.names.variables
  pub axioms : size.axioms ≡ length g.names.axioms
  pub clauses : size.clauses ≡ length g.clauses
  pub owners : size.owners ≡ length g.owners
  pub reads : size.reads ≡ length g.reads

-- the first so many of each
abbrev pub cut_to : GroundSize → Grounded → Grounded
cut_to size g = record {
  clauses = take size.clauses g.clauses;
  sizes = g.sizes;
  variables = size.variables;
  names = first_names size.symbols size.axioms g.names;
  owners = take size.owners g.owners;
  reads = take size.reads g.reads;
}

-- ---- what a rule comes to, its number being r, its first node p and its first piece j

abbrev pub own_clauses : Universe → List ℕ → ℕ → NamedStatement → List Clause
own_clauses u sizes p rule = (lit p true ∷ []) ∷ node_clauses u sizes p [] rule.states

abbrev pub own_spans : Universe → ℕ → ℕ → NamedStatement → List Span
own_spans u j r rule = span j (piece_count u rule.states) ∷ spans u j r [] [] rule.states

-- these are added
abbrev pub with_more : Grounded → List Clause → ℕ → NameLists → List Span → List (List ℕ) → Grounded
with_more g clauses nodes names owners reads = record {
  clauses = g.clauses ++ clauses;
  sizes = g.sizes;
  variables = g.variables + nodes;
  names = named g.names names.variables names.axioms;
  owners = g.owners ++ owners;
  reads = g.reads ++ reads;
}

-- the ground with what its last rule comes to
abbrev pub grown : Grounded → Universe → ℕ → NamedStatement → Grounded
grown g u r rule = with_more g (own_clauses u g.sizes g.variables rule) (count_nodes u rule.states) (record { variables = nodes_below u r [] rule.states; axioms = map name_of (rule_axioms u r rule) })
    (own_spans u (length g.sizes + length g.reads) r rule) (piece_cells u [] rule.states)

-- this was made of the rule of that number behind the ground
pub record IsOwnOf (g : Grounded) (u : Universe) (r : ℕ) (rule : NamedStatement) (draft : Draft) : Type 0 where
  pub clauses : draft.nodes.clauses ≡ own_clauses u g.sizes g.variables rule
  pub names : draft.nodes.names ≡ record { variables = nodes_below u r [] rule.states; axioms = map name_of (rule_axioms u r rule) }
  pub owners : draft.owners.items ≡ own_spans u (length g.sizes + length g.reads) r rule
  pub reads : draft.reads ≡ piece_cells u [] rule.states
