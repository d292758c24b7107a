-- The implication graph that an analysis walks over.
use denote.Ref.{Bor}
use Rattle.std.specs.Prelude.{◌≡◌, ℕ, Bool, Option, None, Some, IsNone, List, [], All, Contains, slice_get}
use Rattle.pc_lits.specs.declared.literal.Lit.{Lit}
use Rattle.pc_lits.specs.declared.values.Values.{Values}
use Rattle.pc_propagate.specs.declared.trail.TrailEntry.{TrailEntry}
use Rattle.pc_propagate.specs.declared.clauses.ClauseRef.{ClauseRef}
use Rattle.pc_propagate.specs.Entries.{AreEntries}
use Rattle.pc_propagate.specs.Over.{IsOver}
use Rattle.pc_propagate.specs.Refs.{clauses_of_refs}
use Rattle.pc_propagate.specs.Quiet.{WasQuiet}
use Rattle.pc_analyze.specs.declared.graph.ImplicationGraph.{ImplicationGraph}
use Rattle.pc_analyze.specs.declared.graph.ConflictGraph.{ConflictGraph}
use Rattle.pc_analyze.specs.FirstPoint.{IsBannedAt}

abbrev pub entries_of : ImplicationGraph → List TrailEntry
entries_of g = g.trail.now.entries

-- the clauses that the references name
abbrev pub clauses_of : ImplicationGraph → List ClauseRef → List (List Lit)
clauses_of g refs = clauses_of_refs g.axioms.now g.more.now refs

abbrev pub AreAttached : ImplicationGraph → List ClauseRef → Type 0
AreAttached g refs = All (λ r. Contains g.trail.now.attached r) refs

-- no variable has two entries, and each reason is an attached clause whose other literals are false by earlier entries
pub record IsImplicationGraph (g : ImplicationGraph) : Type 0 where
  pub entries : AreEntries g.trail.now.variables g.trail.now.entries
  pub over : IsOver g.axioms.now g.more.now g.trail.now

abbrev pub trail_of : ConflictGraph → List TrailEntry
trail_of g = g.graph.trail.now.entries

-- the values by which literals are banned: where there are none, nothing is
abbrev pub values_in : Option (Bor Values) → List (Option Bool)
values_in None = []
values_in (Some values) = values.now

abbrev pub banned_of : ConflictGraph → List (Option Bool)
banned_of g = values_in g.banned

-- what the entry made false is banned
abbrev pub IsBannedIn : ConflictGraph → ℕ → Type 0
IsBannedIn g place = IsBannedAt (banned_of g) g.graph.trail.now.entries place

-- The graph is one, no decision made a banned literal false, and where one was made false at all, the trail was quiet at each decision.
pub record IsConflictGraph (g : ConflictGraph) : Type 0 where
  pub graph : IsImplicationGraph g.graph
  pub quiet : (place : ℕ) → IsBannedIn g place → WasQuiet g.graph.axioms.now g.graph.more.now g.graph.trail.now
  pub decided : (place : ℕ) (e : TrailEntry) → slice_get g.graph.trail.now.entries place ≡ Some e → IsNone e.reason → ¬ IsBannedIn g place
