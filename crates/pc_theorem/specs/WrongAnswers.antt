-- Answers that no line may have, by what a page asks of them.
use Rattle.std.specs.Prelude.{◌≢◌, ℕ, List, [], codes, Any, Contains}
use Rattle.std.specs.Str.Lines.{lines}
use Rattle.pc_syntax.specs.Tree.{asks_show, asks_grid, asks_json, asks_dump, asks_repairs, asks_prove_repairs}
use Rattle.pc_syntax.specs.Command.{IsCommandReading, asks}
use Rattle.pc_sheet.specs.Sheet.{Sheet, Statement, NamedStatement}
use Rattle.pc_sheet.specs.Entailment.{IsImplied, IsLeastSupport}
use Rattle.pc_sheet.specs.MaximalSets.{IsMaximalSet}
use Rattle.pc_sheet.specs.WellFormed.{IsWellFormed}
use Rattle.pc_sheet.specs.declared.ids.Entry.{Entry}
use Rattle.pc_sheet.specs.declared.ids.Target.{Target}
use Rattle.pc_accept.specs.Asked.{asked, IsStatementImplied}
use Rattle.pc_sortcheck.specs.Declaring.{ReadsAs}
use Rattle.pc_writer.specs.SheetText.{ended}
use Rattle.pc_display.specs.Grid.{IsGrid}
use Rattle.pc_display.specs.Json.{IsJsonLine}
use Rattle.pc_refusals.specs.declared.refusal.Counts.{Counts}
use Rattle.pc_refusals.specs.declared.refusal.Refusal.TheVariants.{Inconsistent, Spent}
use Rattle.pc_transcript.specs.Answer.{Answer, silent, accepted, shown, refused}
use Rattle.pc_spreadsheet.specs.Refused.{IsContradiction}
use Rattle.pc_spreadsheet.specs.Tasks.{State, Task, shows, PageKind, why_page, whynot_page, ask_page, AsksNothing, IsTask, IsEdit}
use Rattle.pc_theorem.specs.Certificates.{IsUseLine, IsSetLine}
use Rattle.pc_theorem.specs.Sets.{IsTheListing}
use Rattle.pc_theorem.specs.Theorem.{Answers}

-- Replies of another kind than the line's.
pub record BrokenReplies : Type 0 where
  -- something is told where nothing is asked
  pub told_of_nothing : (state next : State) (line : List ℕ) (answer : Answer) → IsWellFormed state.sheet → AsksNothing line → answer ≢ silent → ¬ Answers state line answer next
  -- a page is told where an edit is asked for, or `ok` where a page is
  pub page_for_edit : (state next : State) (line text : List ℕ) (edit : Task) → IsWellFormed state.sheet → IsTask state line edit → IsEdit edit → ¬ Answers state line (shown text) next
  pub ok_for_page : (state next : State) (line : List ℕ) (kind : PageKind) → IsWellFormed state.sheet → IsTask state line (shows kind) → ¬ Answers state line accepted next
  -- a rule that leaves no assignment is refused without a certificate
  pub uncertified : (state next : State) (line : List ℕ) (r : NamedStatement) → IsWellFormed state.sheet → IsContradiction state line r → ¬ Answers state line (refused Inconsistent []) next
  -- a budget is told as spent where no search is needed
  pub spent_to_show : (state next : State) (line more : List ℕ) (counts : Counts) → IsCommandReading line (asks asks_show) → ¬ Answers state line (refused (Spent counts) more) next

-- Pages of another text than the sheet's.
pub record BrokenPages : Type 0 where
  pub other_grid : (state next : State) (line text grid : List ℕ) → IsCommandReading line (asks asks_grid) → IsGrid state.sheet grid → text ≢ grid → ¬ Answers state line (shown text) next
  pub other_json : (state next : State) (line text json : List ℕ) → IsCommandReading line (asks asks_json) → IsJsonLine state.sheet json → text ≢ json → ¬ Answers state line (shown text) next
  pub other_listing : (state next : State) (line text listing : List ℕ) → IsCommandReading line (asks asks_repairs) → IsTheListing state.sheet listing → text ≢ listing → ¬ Answers state line (shown text) next
  -- `dump` is answered by the text of another sheet
  pub other_dumped : (state next : State) (line text : List ℕ) (other : Sheet) → IsCommandReading line (asks asks_dump) → ReadsAs text other → other ≢ state.sheet → ¬ Answers state line (shown text) next

-- Certificates of what isn't so, or by other entries and sets.
pub record BrokenCertificates : Type 0 where
  -- a target that isn't implied is explained
  pub certified_wrongly : (state next : State) (line text : List ℕ) (t : Target) → IsWellFormed state.sheet → IsTask state line (shows (why_page t)) → ¬ IsImplied state.sheet t → text ≢ ended (codes "not implied") → ¬ Answers state line (shown text) next
  -- an entry is used that the least support lacks
  pub more_used : (state next : State) (line text : List ℕ) (t : Target) (s : List Entry) (e : Entry) → IsWellFormed state.sheet → IsTask state line (shows (why_page t)) → IsLeastSupport state.sheet s t → ¬ Contains s e
      → Any (λ said. IsUseLine state.sheet said e) (lines text) → ¬ Answers state line (shown text) next
  -- there is a maximal set, and the certificate of the maximal sets has none
  pub no_sets : (state next : State) (line text : List ℕ) (s : List Entry) → IsCommandReading line (asks asks_prove_repairs) → IsMaximalSet state.sheet s → ((said : List ℕ) → Contains (lines text) said → ¬ IsSetLine said) → ¬ Answers state line (shown text) next
  -- a target that isn't implied is told to be
  pub told_implied : (state next : State) (line : List ℕ) (t : Target) → IsWellFormed state.sheet → IsTask state line (shows (whynot_page t)) → ¬ IsImplied state.sheet t → ¬ Answers state line (shown (ended (codes "implied"))) next
  -- a formula that is implied is told not to be
  pub told_not_entailed : (state next : State) (line : List ℕ) (f : Statement) → IsWellFormed state.sheet → IsTask state line (shows (ask_page (asked state.sheet f))) → IsStatementImplied state.sheet f → ¬ Answers state line (shown (ended (codes "not implied"))) next
