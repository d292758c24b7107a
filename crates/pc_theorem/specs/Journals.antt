-- What a run over journals is worth: with `merge FILE` one with another, with `posts FILE` one as commands on a file's sheet. Who holds the same
-- posts sees one display: that is the law `readers_see_one_display` (`pc_afresh_laws`).
use Rattle.std.specs.Prelude.{◌≡◌, ◌⊎◌, ℕ, List, ◌++◌, codes, Some}
use Rattle.pc_port.specs.Shelf.{Files, file_named}
use Rattle.pc_collab.specs.Journal.{Post}
use Rattle.pc_collab.specs.Reading.{IsTextOf}
use Rattle.pc_collab.specs.Merge.{IsMerge}
use Rattle.pc_collab.specs.Text.{journal_text}
use Rattle.pc_refusals.specs.Refusals.{sheet_refusal_text}
use Rattle.pc_refusals.specs.declared.refusal.SheetRefusal.{SheetRefusal}
use Rattle.pc_refusals.specs.declared.status.Status.{Status}
use Rattle.pc_refusals.specs.declared.status.Status.TheVariants.{Done, SheetRefused}
use Rattle.pc_refusals.specs.Events.{Outside}
use Rattle.pc_journal.specs.PostLines.{lines_of_posts}
use Rattle.pc_words.specs.Words.{Mode, merges, posts, Request, FitsWords}
use Rattle.pc_spreadsheet.specs.Tasks.{State, Starts}
use Rattle.pc_theorem.specs.Theorem.{KnownRun, BeginsWith, RefusesSheet, IsSession, LacksMemory, IsTold, IsCutOff}

-- MERGED. The file and the input are journals, and the text of their merge was printed: the journal whose posts are those of either.
pub record IsMerged (files : Files) (file input printed : List ℕ) : Type 0 where
  pub bytes : List ℕ
  pub found : file_named file files ≡ Some bytes
  pub one : List Post
  pub other : List Post
  pub reads_one : IsTextOf bytes one
  pub reads_other : IsTextOf input other
  pub merged : List Post
  pub merge : IsMerge one other merged
  pub told : printed ≡ journal_text merged

-- the file is there, it and the input aren't journals that have a merge, and that is told
pub record HasNoMerge (files : Files) (file input printed : List ℕ) : Type 0 where
  pub bytes : List ℕ
  pub found : file_named file files ≡ Some bytes
  pub none : (one other merged : List Post) → IsTextOf bytes one → IsTextOf input other → ¬ IsMerge one other merged
  pub told : BeginsWith (codes "journal refused ") printed

-- with `merge FILE`
pub data EndsMerge (run : KnownRun) (file : List ℕ) : Type 0 where
  merges_both : run.status ≡ Done → IsMerged run.files file run.input run.printed → EndsMerge run file
  finds_no_merge : run.status ≡ SheetRefused → HasNoMerge run.files file run.input run.printed → EndsMerge run file

-- With `posts FILE` the command lines are the texts of the posts of the input's journal, with a line `show` at last: all were answered on the
-- file's sheet as in a session; or the sheet was refused; or it wasn't, the input is no journal, and that was told.
pub data EndsPosts (run : KnownRun) (budget : ℕ) (file : List ℕ) : Type 0 where
  posts_answered : (text : List ℕ) (journal : List Post) → file_named file run.files ≡ Some text → IsTextOf run.input journal → IsSession run budget text (lines_of_posts journal) → EndsPosts run budget file
  posts_no_sheet : (text : List ℕ) (why : SheetRefusal) (more : List ℕ) → run.status ≡ SheetRefused → file_named file run.files ≡ Some text → RefusesSheet budget text why more → run.printed ≡ sheet_refusal_text why ++ more → EndsPosts run budget file
  finds_no_journal : (text : List ℕ) (start : State) → run.status ≡ SheetRefused → file_named file run.files ≡ Some text → Starts budget text start → ((journal : List Post) → ¬ IsTextOf run.input journal) → BeginsWith (codes "journal refused ") run.printed → EndsPosts run budget file

-- what was asked for ends so
abbrev pub EndsJournals : KnownRun → ℕ → Mode → Type 0
EndsJournals run budget (merges file) = EndsMerge run file
EndsJournals run budget (posts file) = EndsPosts run budget file
EndsJournals run budget mode = Unit {0}

-- of the words, the status, and what was outside before and after
abbrev pub KeepsJournals : List (List ℕ) → Status → Outside → Outside → Type 0
KeepsJournals words status before after =
    (run : KnownRun) → IsTold words status before after run → ¬ IsCutOff run.status → (request : Request) → FitsWords run.words request → EndsJournals run request.budget request.mode ⊎ LacksMemory run
