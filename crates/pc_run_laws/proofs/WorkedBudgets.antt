-- The worked examples: by computing, and by the refusals that a line may be judged.
use Rattle.std.proofs.Common.{◌≡◌, ℕ, ◌<◌, ◌≤◌, List, inr, refl, subst, arith}
use Rattle.pc_laws.specs.Examples.{equal_cells}
use Rattle.pc_sheet.specs.Sheet.{Sheet}
use Rattle.pc_syntax.specs.Tree.{Asked}
use Rattle.pc_enough_laws.specs.Enough.{enough_for_all}
use Rattle.pc_refusals.specs.declared.refusal.Counts.{Counts}
use Rattle.pc_refusals.specs.declared.refusal.Refusal.{Refusal}
use Rattle.pc_refusals.specs.declared.refusal.Refusal.TheVariants.{Spent}
use Rattle.pc_load.specs.Refusals.{IsSortRefusal}
use Rattle.pc_transcript.specs.Answer.{refused}
use Rattle.pc_spreadsheet.specs.Judgement.{nothing, does, refuses, contradicts}
use Rattle.pc_spreadsheet.specs.Refused.{IsRefusalOf, by_fault, without_entry, without_that, of_old_name, of_no_rule, too_large, too_many_sets, too_many_for, of_rule_ask, too_large_asked, IsRefused, for_utf8, for_depth, for_syntax, for_asked}
use Rattle.pc_spreadsheet.specs.Tasks.{State, Task, enters, enters_beside, clears, removes, adds, drops, budgets, shows}
use Rattle.pc_run_laws.specs.Complete.{IsDone}
use Rattle.pc_run_laws.specs.Worked.{WorkedBudgets, NoVerdictIsSpent}

-- ---- numbers

at_most : (n m : ℕ) → n ≡ m → n ≤ m
at_most n m same = omega (arith, same)

not_below : (n m : ℕ) → n ≡ m → m < n → ⊥
not_below n m same less = absurd (omega (arith, same, less))

number_is : enough_for_all equal_cells ≡ 4375
number_is = refl

pub budgets_worked : WorkedBudgets
budgets_worked = record {
  number = number_is;
  enough = inr (at_most (enough_for_all equal_cells) 4375 number_is);
  not_too_little = λ little. not_below (enough_for_all equal_cells) 4375 number_is little.for_whole;
  blank = refl;
}

-- ---- no verdict is spent

not_done : (state : State) (task : Task) (why : Refusal) (more : List ℕ) → IsDone state task (refused why more) → ⊥
not_done state (enters e) why more h = absurd (cc)
not_done state (enters_beside e) why more h = absurd (cc)
not_done state (clears k) why more h = absurd (cc)
not_done state (removes e) why more h = absurd (cc)
not_done state (adds r) why more h = absurd (cc)
not_done state (drops place) why more h = absurd (cc)
not_done state (budgets n) why more h = absurd (cc)
not_done state (shows kind) why more (text, says, same) = absurd (cc)

never_of : (sheet : Sheet) (a : Asked) (why : Refusal) (counts : Counts) → why ≡ Spent counts → IsRefusalOf sheet a why → ⊥
never_of sheet a why counts same (by_fault e fault told) = subst (IsSortRefusal e) same told
never_of sheet a why counts same (without_entry k named none) = absurd (cc)
never_of sheet a why counts same (without_that e named none) = absurd (cc)
never_of sheet a why counts same (of_old_name r is stands) = absurd (cc)
never_of sheet a why counts same (of_no_rule none) = absurd (cc)
never_of sheet a why counts same (too_large r new heavy) = absurd (cc)
never_of sheet a why counts same (too_many_sets many) = absurd (cc)
never_of sheet a why counts same (too_many_for e named many) = absurd (cc)
never_of sheet a why counts same (of_rule_ask s is stands) = absurd (cc)
never_of sheet a why counts same (too_large_asked s new heavy) = absurd (cc)

never_refused : (state : State) (line : List ℕ) (why : Refusal) (counts : Counts) → why ≡ Spent counts → IsRefused state line why → ⊥
never_refused state line why counts same (for_utf8 reading) = absurd (cc)
never_refused state line why counts same (for_depth reading) = absurd (cc)
never_refused state line why counts same (for_syntax reading) = absurd (cc)
never_refused state line why counts same (for_asked a reading refusal) = never_of state.sheet a why counts same refusal

pub no_verdict_spent : NoVerdictIsSpent
no_verdict_spent state line nothing counts more is h = absurd (cc)
no_verdict_spent state line (does task) counts more is h = not_done state task (Spent counts) more h
no_verdict_spent state line (refuses why) counts more is h = let same : why ≡ Spent counts = cc in never_refused state line why counts same is
no_verdict_spent state line (contradicts r) counts more is (text, certificate, same) = absurd (cc)
