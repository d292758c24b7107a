-- What a run with `demo N` is worth: its sheet is generated, and the first cell of each block is cleared as by a line of a session.
use Rattle.std.specs.Prelude.{◌≡◌, ℕ, zero, suc, ◌+◌, ◌*◌, ◌%◌, ◌<◌, ◌⊎◌, List, [], ◌∷◌, ◌++◌, codes}
use Rattle.pc_sheet.specs.Sheet.{Sheet}
use Rattle.pc_sheet.specs.declared.ids.Entry.{Entry}
use Rattle.pc_enough_laws.specs.Enough.{enough_for_all}
use Rattle.pc_gen.specs.Text.{generated_text}
use Rattle.pc_gen.specs.Sheet.{entry, generated_sheet}
use Rattle.pc_refusals.specs.Refusals.{sheet_refusal_text}
use Rattle.pc_refusals.specs.declared.refusal.Counts.{Counts}
use Rattle.pc_refusals.specs.declared.refusal.Refusal.TheVariants.{Spent}
use Rattle.pc_refusals.specs.declared.status.Status.{Status}
use Rattle.pc_refusals.specs.declared.status.Status.TheVariants.{Done, SheetRefused}
use Rattle.pc_refusals.specs.Events.{Outside}
use Rattle.pc_transcript.specs.Transcript.{Transcript, Legal, lines, status_of}
use Rattle.pc_words.specs.Words.{demonstrates, FitsWords}
use Rattle.pc_demo.specs.Demonstration.{told_in}
use Rattle.pc_demo.specs.Summing.{clear_lines, SumsUp}
use Rattle.pc_spreadsheet.specs.Judgement.{of_whole}
use Rattle.pc_spreadsheet.specs.Tasks.{State, Starts}
use Rattle.pc_theorem.specs.Theorem.{KnownRun, Answers, LacksMemory, IsTold, IsCutOff}

-- of each block, the entry of its third cell
abbrev pub third_entries : ℕ → List Entry
third_entries zero = []
third_entries (suc k) = third_entries k ++ entry (4 * k + 2) (suc k * suc k % 3) ∷ []

-- the sheet that so many blocks generate, but for the entries of their first cells
abbrev pub without_firsts : ℕ → Sheet
without_firsts blocks = record { universe = (generated_sheet blocks).universe; rules = (generated_sheet blocks).rules; entries = third_entries blocks }

-- SUMMED UP. So many blocks generate the sheet. First its numbers were printed: how many cells and entries it has, how many of the entries
-- clash with others, and how many values some consistent entries entail. Then lines that clear each block's first cell were answered as in a
-- session, and of the answers what isn't `ok` was printed; and at last the numbers of the sheet after them. Where nothing was refused, that
-- is the generated sheet but for the entries of the first cells.
pub record IsDemonstration (run : KnownRun) (budget blocks : ℕ) : Type 0 where
  pub start : State
  pub starts : Starts budget (generated_text blocks) start
  pub generated : start.sheet ≡ generated_sheet blocks
  pub transcript : Transcript
  pub end : State
  pub legal : Legal Answers start transcript end
  pub lines_are : lines transcript ≡ clear_lines blocks
  pub loaded : List ℕ
  pub sums : SumsUp (codes "loaded") start.sheet loaded
  pub cleared : List ℕ
  pub sums_after : SumsUp (codes "cleared") end.sheet cleared
  pub printed_are : run.printed ≡ loaded ++ (told_in transcript ++ cleared)
  pub status_is : run.status ≡ status_of transcript
  pub all_cleared : run.status ≡ Done → end.sheet ≡ without_firsts blocks

-- with `demo N`: that was done; or the budget is less than is enough for the sheet, all of it was placed, and this was told
pub data EndsDemonstration (run : KnownRun) (budget blocks : ℕ) : Type 0 where
  demonstrates_all : IsDemonstration run budget blocks → EndsDemonstration run budget blocks
  has_too_little : (counts : Counts) → run.status ≡ SheetRefused → budget < enough_for_all (generated_sheet blocks) → counts.placed ≡ budget → run.printed ≡ sheet_refusal_text (of_whole (Spent counts)) → EndsDemonstration run budget blocks

-- the same of the words, the status, and what was outside before and after
abbrev pub Demonstrates : List (List ℕ) → Status → Outside → Outside → Type 0
Demonstrates words status before after =
    (run : KnownRun) → IsTold words status before after run → ¬ IsCutOff run.status → (blocks budget : ℕ) → FitsWords run.words record { mode = demonstrates blocks; budget = budget } → EndsDemonstration run budget blocks ⊎ LacksMemory run
