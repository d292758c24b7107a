-- What is answered where a statement is asked.
use Rattle.std.specs.Prelude.{◌≡◌, ℕ, ◌-◌, ◌<◌, ◌≤◌, List, [], Option, Some, None, All, AllPairs, length, map, slice_get, Contains}
use Rattle.std.specs.List.{AllZip}
use Rattle.pc_lits.specs.declared.literal.Var.{Var}
use Rattle.pc_lits.specs.declared.tally.Tally.{Tally}
use Rattle.pc_log.specs.Lines.{LogLine}
use Rattle.pc_log.specs.declared.log.StepId.{StepId}
use Rattle.pc_sheet.specs.Sheet.{Universe, Sheet, Statement}
use Rattle.pc_sheet.specs.Entailment.{cell_sizes, Shows}
use Rattle.pc_sheet.specs.Limits.{most_weight}
use Rattle.pc_sheet.specs.Weight.{weight}
use Rattle.pc_sheet.specs.MaximalSets.{ListsExactly, IsMaximalSet}
use Rattle.pc_sheet.specs.Sizes.{product}
use Rattle.pc_sheet.specs.declared.ids.Entry.{Entry}
use Rattle.pc_parts.specs.Pieces.{Piece, piece, pieces, ReadsCell}
use Rattle.pc_parts.specs.Parts.{Part, IsFiltered}
use Rattle.pc_parts.specs.Components.{parts_of}
use Rattle.pc_parts.specs.PartSheets.{sheet_of}
use Rattle.pc_lits.specs.Clauses.{IsOverNegated}
use Rattle.pc_ground.specs.Ground.{clauses}
use Rattle.pc_ground.specs.Naming.{names_of}
use Rattle.pc_components.specs.Pairs.{entry_literal}
use Rattle.pc_components.specs.PartAxioms.{AreAxiomsOf, IsUsed}
use Rattle.pc_components.specs.View.{variable_number}
use Rattle.pc_solver.specs.InLog.{AreStepsOver, clause_on}
use Rattle.pc_solver.specs.Spending.{SpendsIn}
use Rattle.pc_world_list.specs.Chosen.{chosen_parts}
use Rattle.pc_accept.specs.Asked.{IsStatementImplied, IsLeastForStatement, asked}
use Rattle.pc_ask.specs.declared.answer.Answer.{Answer}
use Rattle.pc_ask.specs.declared.answer.AskStop.{AskStop}
use Rattle.pc_ask.specs.declared.answer.AskStop.TheVariants.{TooLarge, Spent, Memory}

-- ---- what a statement reads

-- under some assignment, truth looks the cell up in the statement
abbrev pub Reads : Universe → Statement → ℕ → Type 0
Reads u f c = ReadsCell u (piece 0 [] [] f) c

abbrev pub ReadsPart : Sheet → Statement → Part → Type 0
ReadsPart sheet f part = (c : ℕ) × Contains part.cells c × Reads sheet.universe f c

-- it is on a cell of a part that the statement reads
abbrev pub IsOnRead : Sheet → Statement → Entry → Type 0
IsOnRead sheet f e = (part : Part) × Contains (chosen_parts sheet) part × ReadsPart sheet f part × Contains part.cells e.cell.0

-- So many entries are on the cells of the parts that the statement reads, and so many sets are the product of these parts' numbers
-- of maximal sets. A part without entries has one maximal set.
pub record AreReadSizes (sheet : Sheet) (f : Statement) (entries sets : ℕ) : Type 0 where
  pub parts : List Part
  pub read : IsFiltered (ReadsPart sheet f) (chosen_parts sheet) parts
  pub lists : List (List (List Entry))
  pub exact : AllZip (λ part own. ListsExactly (List Entry) (IsMaximalSet (sheet_of sheet part)) own) parts lists
  pub sets_are : sets ≡ product (map length lists)
  pub on : List Entry
  pub on_read : IsFiltered (IsOnRead sheet f) sheet.entries on
  pub entries_are : entries ≡ length on

-- ---- the part that is searched

-- one of the parts of an asked sheet, with the last of its pieces, which is what is asked
pub record IsAskedPart (sheet : Sheet) (part : Part) : Type 0 where
  pub there : Contains (parts_of sheet) part
  pub last : Piece
  pub last_is : slice_get (pieces sheet) (length (pieces sheet) - 1) ≡ Some last
  pub has : Contains part.pieces last

-- an axiom of such a part names the variable
pub record IsOfAskedPart (sheet : Sheet) (v : Var) : Type 0 where
  pub part : Part
  pub asked_part : IsAskedPart sheet part
  pub axioms : List ℕ
  pub axioms_are : AreAxiomsOf sheet part axioms
  pub used : IsUsed (clauses sheet) axioms v.0

-- Only that part was searched, by at most so many calls: each step is over some of its variables, and at most so many literals as
-- there are of these were placed for each learned clause and each call.
pub record IsPartSearch (sheet : Sheet) (most : ℕ) (before after : Tally) (log : List LogLine) : Type 0 where
  pub own : List Var
  pub of_part : All (IsOfAskedPart sheet) own
  pub order : AllPairs (λ x y. x < y) (map variable_number own)
  pub steps : AreStepsOver own log
  pub spends : SpendsIn (length own) most before after [] log

-- ---- answers

-- the line stands, and its clause has only negated literals of the entries
pub record IsDeniedAt (sheet : Sheet) (set : List Entry) (log : List LogLine) (line : StepId) : Type 0 where
  pub stands : line.0 < length log
  pub over : IsOverNegated (map (entry_literal (cell_sizes sheet.universe)) set) (clause_on (clauses sheet) log line)

-- The least support, an assignment that fits and has it, the names of the asked sheet's variables and axioms, and a line that
-- derives from its clauses that some entry of the support doesn't stand.
pub record IsAnswer (sheet : Sheet) (f : Statement) (log : List LogLine) (answer : Answer) : Type 0 where
  pub least : IsLeastForStatement sheet answer.support.items f
  pub shown : Shows sheet answer.support.items answer.shown
  pub names : answer.names ≡ names_of (asked sheet f)
  pub denied : IsDeniedAt (asked sheet f) answer.support.items log answer.last

-- none exactly where the statement isn't implied
abbrev pub AskSays : Sheet → Statement → List LogLine → Option Answer → Type 0
AskSays sheet f log None = ¬ IsStatementImplied sheet f
AskSays sheet f log (Some answer) = IsAnswer sheet f log answer

-- why there is none, of an asked sheet
abbrev pub AskStops : Sheet → Tally → AskStop → Type 0
AskStops sheet tally TooLarge = most_weight < weight sheet
AskStops sheet tally Spent = (weight sheet ≤ most_weight) × (tally.placed ≡ tally.limit)
AskStops sheet tally Memory = weight sheet ≤ most_weight
