-- What holds of formulas that entries support.
use Rattle.std.specs.Prelude.{◌≡◌, ◌↔◌, List, length}
use Rattle.pc_sheet.specs.Sheet.{Sheet, Statement}
use Rattle.pc_sheet.specs.Entailment.{IsSublist}
use Rattle.pc_sheet.specs.MaximalSets.{IsMaximalSet}
use Rattle.pc_sheet.specs.WellFormed.{AreDifferent}
use Rattle.pc_sheet.specs.declared.ids.Entry.{Entry}
use Rattle.pc_laws.specs.Laws.{IsDecided}
use Rattle.pc_accept.specs.Accepts.{Certificate, against, Accepts}
use Rattle.pc_accept.specs.Laws.{IsInOrder, AreAgainst}
use Rattle.pc_accept.specs.Asked.{EntailsStatement, SupportsStatement, IsStatementImplied, IsLeastForStatement, asked}

-- a statement is implied or not
abbrev pub StatementsAreDecided : Type 0
StatementsAreDecided = (sheet : Sheet) (f : Statement) → IsDecided (IsStatementImplied sheet f)

-- an implied statement has exactly one least support
abbrev pub StatementHasOneLeast : Type 0
StatementHasOneLeast = (sheet : Sheet) (f : Statement) → AreDifferent sheet.entries → IsStatementImplied sheet f
    → (s : List Entry) × IsLeastForStatement sheet s f × ((other : List Entry) → IsLeastForStatement sheet other f → other ≡ s)

-- a statement is implied exactly where some maximal set entails it
abbrev pub StatementIsByMaximalSet : Type 0
StatementIsByMaximalSet = (sheet : Sheet) (f : Statement) → AreDifferent sheet.entries
    → IsStatementImplied sheet f ↔ ((set : List Entry) × IsMaximalSet sheet set × EntailsStatement sheet set f)

-- entries are against the last rule of the asked sheet exactly where they support the statement in the sheet
abbrev pub AgainstIsSupport : Type 0
AgainstIsSupport = (sheet : Sheet) (f : Statement) (s : List Entry) → IsSublist sheet.entries s → AreAgainst (asked sheet f) (length sheet.rules) s ↔ SupportsStatement sheet s f

-- where the asked sheet accepts a certificate against its last rule, the used entries, in the sheet's order, support the statement
abbrev pub AcceptedAgainstIsSupport : Type 0
AcceptedAgainstIsSupport = (sheet : Sheet) (f : Statement) (c : Certificate) → c.claim ≡ against (length sheet.rules) → Accepts (asked sheet f) c
    → (s : List Entry) × IsInOrder sheet.entries c.uses s × SupportsStatement sheet s f
