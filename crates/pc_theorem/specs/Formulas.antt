-- What is printed for `ask`.
use Rattle.std.specs.Prelude.{◌≡◌, ℕ, List, [], length, codes}
use Rattle.pc_sheet.specs.Sheet.{Sheet, Statement}
use Rattle.pc_sheet.specs.declared.ids.Entry.{Entry}
use Rattle.pc_accept.specs.Accepts.{against}
use Rattle.pc_accept.specs.Asked.{IsStatementImplied, IsLeastForStatement, asked}
use Rattle.pc_writer.specs.SheetText.{ended}
use Rattle.pc_judge.specs.AcceptedText.{IsAcceptedText}
use Rattle.pc_theorem.specs.Certificates.{Claims}

-- ASKED. `not implied`, where no consistent entries entail the formula; or a certificate by its least support against the rule that denies it,
-- the last one of the sheet with that rule, for which `check` accepts it.
pub data AnswersFormula (sheet : Sheet) (f : Statement) (text : List ℕ) : Type 0 where
  not_entailed : ¬ IsStatementImplied sheet f → text ≡ ended (codes "not implied") → AnswersFormula sheet f text
  by_least : (uses : List Entry) → IsLeastForStatement sheet uses f → Claims (asked sheet f) text (against (length sheet.rules)) uses [] → IsAcceptedText (asked sheet f) text → AnswersFormula sheet f text
