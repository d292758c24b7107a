-- What questions and budgets are answered by.
use Rattle.std.proofs.Common.{◌≡◌, ℕ, Bool, refl, ap, subst, inl, None}
use Rattle.pc_syntax.specs.Tree.{Cell, Value, asks_why, asks_json, asks_budget}
use Rattle.pc_sheet.specs.Sheet.{Sheet}
use Rattle.pc_reason.specs.Targets.{IsTargetIn}
use Rattle.pc_elaborate.specs.declared.fault.SortFault.TheVariants as fault
use Rattle.pc_sheet.specs.declared.limits.Limited.TheVariants as limited
use Rattle.pc_session.specs.Views.{SessionView}
use Rattle.pc_transcript.specs.declared.machine.Reply.TheVariants.{Accepted, Refused}
use Rattle.pc_sheet.specs.declared.limits.Limited.TheVariants.{Budget}
use Rattle.pc_refusals.specs.declared.refusal.Refusal.TheVariants.{Limit}
use Rattle.pc_spreadsheet.specs.Refused.{IsRefusalOf, by_fault}
use Rattle.pc_spreadsheet.specs.Tasks.{State, IsBudget, budgets, budgeting, shows, why_page, showing_json, IsTaskOf}
use Rattle.pc_spreadsheet.specs.Allowed.{Notes}
use Rattle.pc_spreadsheet.specs.Commands.{Told, state_of, Explains, by_page, by_refusal, ShowsJson, by_text, for_memory, Obeys, judged}

abbrev pair_of : State → Notes → State × Notes
pair_of state notes = (state, notes)

-- a question in a session with the book
pub explained_in : (s : SessionView) (n : Notes) (book : Sheet) (c : Cell) (v : Value) (holds : Bool) (reply : Told) → book ≡ s.sheet → Explains book (asks_why c v holds) reply → Obeys (state_of s, n) (asks_why c v holds) reply (state_of s, n)
explained_in s n book c v holds reply is (by_page t task target) =
    (subst (λ (b : Sheet). IsTaskOf b (asks_why c v holds) (shows (why_page t))) is task, subst (λ (b : Sheet). IsTargetIn b.universe t) is target, refl)
explained_in s n book c v holds reply is (by_refusal why refused) = judged (subst (λ (b : Sheet). IsRefusalOf b (asks_why c v holds) why) is refused) refl refl

-- the display as JSON
pub shown_json : (s : SessionView) (n : Notes) (reply : Told) → ShowsJson s.sheet reply → Obeys (state_of s, n) asks_json reply (state_of s, n)
shown_json s n reply (by_text text is) = (showing_json, is, refl)
shown_json s n reply for_memory = (tt, refl)

-- a budget out of bounds
pub no_budget : (old : State × Notes) (n : ℕ) → ¬ IsBudget n → Obeys old (asks_budget n) (Refused (Limit Budget) None) old
no_budget old n out = judged (by_fault (fault.Limit limited.Budget) (inl (out, refl)) refl) refl refl

-- a budget within them
pub budgeted : (s s' : SessionView) (notes : Notes) (n : ℕ) → s' ≡ record s { budget = n } → IsBudget n → Obeys (state_of s, notes) (asks_budget n) Accepted (state_of s', notes)
budgeted s s' notes n same within = (budgets n, budgeting within, tt, ap (λ (v : SessionView). pair_of (state_of v) notes) same)
