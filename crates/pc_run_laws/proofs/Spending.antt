-- A budget that is lawfully spent is too little; and so is that of each spent answer of a session's calls.
use Rattle.std.proofs.Common.{◌≡◌, ℕ, ◌+◌, ◌*◌, ◌^◌, ◌<◌, ◌≤◌, inl, inr, List, [], ◌∷◌, Option, None, Some, suc, length, arith, not, sym, ap, subst, ◌∙◌}
use Rattle.pc_syntax.specs.Tree.{Asked}
use Rattle.pc_sheet.specs.Cells.{CellsAreNumberedInOrder}
use Rattle.pc_sheet.specs.Sheet.{Sheet, Statement, with_rule}
use Rattle.pc_formula.specs.Tree as written
use Rattle.pc_accept.specs.Asked.{ask_name, denial, asked}
use Rattle.pc_lits.specs.declared.tally.Tally.{Tally}
use Rattle.pc_log.specs.Lines.{LogLine}
use Rattle.std.proofs.Math.Nat.{pow-suc}
use Rattle.std.proofs.lemmas.List.Elements.{All-cons, All-contains}
use Rattle.std.proofs.lemmas.List.Sums.{sum_by-cons}
use Rattle.pc_solver.specs.Spending.{marked}
use Rattle.pc_lemmas.proofs.Elements.{contains_first}
use Rattle.pc_theory.specs.WholeSpendings.{IsWholeLog, IsSpentWhole}
use Rattle.pc_sheet.specs.WellFormed.{IsWellFormed, IsEntryOf, is_of_cell}
use Rattle.pc_sheet.specs.declared.ids.CellId.{CellId}
use Rattle.pc_sheet.specs.declared.ids.Entry.{Entry}
use Rattle.pc_books.specs.Edits.{is_same_entry, entered_to, added_to, without_one, cleared, entered, also_entered, without_entry, without_cell, without_rule}
use Rattle.pc_books.proofs.BookLemmas.{with_entries}
use Rattle.pc_books.proofs.EditLemmas.{sheet_stays}
use Rattle.pc_books.proofs.EntryLemmas.{entries_stay, entries_beside, entries_kept}
use Rattle.pc_cert.proofs.ReadEntries.{is_an_entry}
use Rattle.pc_theory.specs.Spendings.{IsLawful}
use Rattle.pc_theory.specs.declared.spending.Spending.{Spending}
use Rattle.pc_enough_laws.specs.Enough.{enough_for_all}
use Rattle.pc_enough_laws.proofs.Summed.{spendings_of_less}
use Rattle.pc_enough_laws.proofs.Whole.{parts_need_no_more}
use Rattle.pc_enough_laws.proofs.OfWhole.{never_spent_whole, whole_learns_few}
use Rattle.pc_ground.specs.Variables.{variable_count}
use Rattle.pc_refusals.specs.declared.refusal.Counts.{Counts}
use Rattle.pc_session.specs.Answers.{HasPlaceFor}
use Rattle.pc_books.specs.RuleNames.{IsRuleAt}
use Rattle.pc_session.proofs.RuleEdits.{formed_with_rule}
use Rattle.pc_spreadsheet.specs.Allowed.{Notes, IsWholeSpent, IsAskSpent, NeedsAnswer, to_answer, NeedsSearch, to_enter, to_enter_beside, to_clear, to_remove, to_add, to_drop}
use Rattle.pc_spreadsheet.proofs.Rules.{formed_with}
use Rattle.pc_run_laws.specs.Enough.{IsEnough, IsEnoughToProve, IsEnoughToAsk, IsTooLittle, CallsSpendTooLittle}

-- ---- lawful spendings

less_than_whole : (sheet : Sheet) → IsWellFormed sheet → (touched : Option CellId) (budget : ℕ) → 1 ≤ budget → (s : Spending) → IsLawful sheet touched budget s → budget < enough_for_all sheet
less_than_whole sheet formed touched budget some s lawful =
    let less = spendings_of_less sheet formed touched budget some s lawful lawful.of_sheet.kept lawful.of_sheet.are in
    let whole = parts_need_no_more sheet formed touched lawful.of_sheet.kept lawful.of_sheet.are in
    omega (arith, less, whole)

pub too_little : (sheet : Sheet) → IsWellFormed sheet → (touched : Option CellId) (budget : ℕ) → 1 ≤ budget → (s : Spending) → IsLawful sheet touched budget s → IsTooLittle sheet touched budget
too_little sheet formed touched budget some s lawful = record {
  for_parts = λ kept are. spendings_of_less sheet formed touched budget some s lawful kept are;
  for_whole = less_than_whole sheet formed touched budget some s lawful;
}

not_enough : (sheet : Sheet) (touched : Option CellId) (budget : ℕ) → IsTooLittle sheet touched budget → IsEnough sheet touched budget → ⊥
not_enough sheet touched budget little (inl (kept, are, within)) = let less = little.for_parts kept are in absurd (omega (arith, less, within))
not_enough sheet touched budget little (inr within) = let less = little.for_whole in absurd (omega (arith, less, within))

pub not_spent : (sheet : Sheet) → IsWellFormed sheet → (touched : Option CellId) (budget : ℕ) → 1 ≤ budget → IsEnough sheet touched budget → (s : Spending) → IsLawful sheet touched budget s → ⊥
not_spent sheet formed touched budget some enough s lawful = not_enough sheet touched budget (too_little sheet formed touched budget some s lawful) enough

-- searches of the whole sheet
pub proof_not_spent : (sheet : Sheet) → IsWellFormed sheet → (budget : ℕ) → 1 ≤ budget → IsEnoughToProve sheet budget → (counts : Counts) (old new : Notes) → IsWholeSpent budget sheet counts old new → ⊥
proof_not_spent sheet formed budget some enough counts old new s =
    never_spent_whole sheet formed (length enough.0 + 1) s.logs s.tally (s.few_calls enough.0 enough.1) (subst (λ l. 1 ≤ l) (sym s.limited) some)
    (subst (λ l. variable_count sheet * (3 ^ (variable_count sheet + 1) + (length enough.0 + 1)) ≤ l) (sym s.limited) enough.2) s.spent

-- ---- a search of one log

-- thrice what is spent, with the log thrice
abbrev thrice : Tally → Tally
thrice t = record { placed = 3 * t.placed; learned = 3 * t.learned; calls = 3 * t.calls; limit = 3 * t.limit; within_limit = omega (arith, t.within_limit) }

triple_spent : (sheet : Sheet) (log : List LogLine) (t : Tally) → IsSpentWhole sheet (log ∷ []) t → IsSpentWhole sheet (log ∷ log ∷ log ∷ []) (thrice t)
triple_spent sheet log t spent =
    let v = variable_count sheet in
    let x = t.learned + t.calls in
    let once : IsWholeLog sheet log = All-contains (IsWholeLog sheet) (log ∷ []) log spent.spending.lawful (contains_first log []) in
    let wide : v * (3 * t.learned + 3 * t.calls) ≡ 3 * (v * x) = omega arith in
    record {
      spending = record {
        placed = omega (arith, wide, spent.spending.placed);
        few_logs = omega arith;
        learned = omega (arith, spent.spending.learned, sum_by-cons marked log [], sum_by-cons marked log (log ∷ []), sum_by-cons marked log (log ∷ log ∷ []));
        lawful = All-cons (IsWholeLog sheet) log (log ∷ log ∷ []) once (All-cons (IsWholeLog sheet) log (log ∷ []) once spent.spending.lawful);
      };
      all_placed = omega (arith, spent.all_placed);
    }

next_power : (v : ℕ) → 3 ^ (v + 1) ≡ 3 ^ v * 3
next_power v = let next : v + 1 ≡ suc v = omega arith in rw next (pow-suc 3 v)

-- with one log no more clauses are learned than three to the number of pairs and nodes
pub one_log_learns_few : (sheet : Sheet) (log : List LogLine) (t : Tally) → IsSpentWhole sheet (log ∷ []) t → t.learned ≤ 3 ^ variable_count sheet
one_log_learns_few sheet log t spent =
    let three = whole_learns_few sheet (log ∷ log ∷ log ∷ []) (thrice t) (triple_spent sheet log t spent).spending in
    omega (arith, three, next_power (variable_count sheet))

never_spent_once : (sheet : Sheet) → IsWellFormed sheet → (most : ℕ) (log : List LogLine) (t : Tally) → t.calls ≤ most → 1 ≤ t.limit → variable_count sheet * (3 ^ variable_count sheet + most) ≤ t.limit → ¬ IsSpentWhole sheet (log ∷ []) t
never_spent_once sheet formed most log t few some enough spent =
    let v = variable_count sheet in
    let x = 3 ^ v in
    let power = next_power v in
    let same : 3 ^ (v + 1) + 3 * most ≡ 3 * (x + most) = omega (arith, power) in
    let wide : v * (3 * (x + most)) ≡ 3 * (v * (x + most)) = omega arith in
    let all : v * (3 ^ (v + 1) + 3 * most) ≡ 3 * (v * (x + most)) = ap (λ n. v * n) same ∙ wide in
    never_spent_whole sheet formed (3 * most) (log ∷ log ∷ log ∷ []) (thrice t) (omega (arith, few)) (omega (arith, some)) (omega (arith, all, enough)) (triple_spent sheet log t spent)

-- the search that answers whether a formula is implied
pub ask_not_spent : (sheet : Sheet) (f : Statement) → IsWellFormed (asked sheet f) → (budget : ℕ) → 1 ≤ budget → IsEnoughToAsk sheet f budget → (counts : Counts) (old new : Notes) → IsAskSpent budget sheet f counts old new → ⊥
ask_not_spent sheet f formed budget some (entries, sets, sizes, enough) counts old new s =
    let v = variable_count (asked sheet f) in
    never_spent_once (asked sheet f) formed (sets * (entries + 2) + 1) s.log s.tally (s.few_calls entries sets sizes) (subst (λ l. 1 ≤ l) (sym s.limited) some)
    (subst (λ l. v * (3 ^ v + (sets * (entries + 2) + 1)) ≤ l) (sym s.limited) enough) s.spent

-- ---- the sheets that edits make

formed_entered : (sheet : Sheet) (e : Entry) → IsWellFormed sheet → IsEntryOf sheet.universe e → IsWellFormed (entered sheet e)
formed_entered sheet e formed is = with_entries sheet (entered_to sheet.entries e) formed (entries_stay sheet.universe sheet.entries e formed.entries is)

formed_also : (sheet : Sheet) (e : Entry) → IsWellFormed sheet → IsEntryOf sheet.universe e → HasPlaceFor sheet.entries e → IsWellFormed (also_entered sheet e)
formed_also sheet e formed is place = with_entries sheet (added_to sheet.entries e) formed (entries_beside sheet.universe sheet.entries e formed.entries is place)

formed_cleared : (sheet : Sheet) (c : CellId) → IsWellFormed sheet → IsWellFormed (without_cell sheet c)
formed_cleared sheet c formed = with_entries sheet (cleared sheet.entries c) formed (entries_kept sheet.universe (λ e. not (is_of_cell c e)) sheet.entries formed.entries)

formed_without : (sheet : Sheet) (e : Entry) → IsWellFormed sheet → IsWellFormed (without_entry sheet e)
formed_without sheet e formed = with_entries sheet (without_one e sheet.entries) formed (entries_kept sheet.universe (λ f. not (is_same_entry e f)) sheet.entries formed.entries)

formed_dropped : (sheet : Sheet) (name : List ℕ) (k : ℕ) → IsWellFormed sheet → IsRuleAt sheet.rules name k → IsWellFormed (without_rule sheet k)
formed_dropped sheet name k formed at = sheet_stays sheet k at.0 formed

-- a search's sheet is well formed
pub search_formed : CellsAreNumberedInOrder → (sheet : Sheet) (a : Asked) (cell : Option CellId) (made : Sheet) → IsWellFormed sheet → NeedsSearch sheet a cell made → IsWellFormed made
search_formed ordered sheet a cell made formed (to_enter {c = c} {v = v} e named alone) = formed_entered sheet e formed (is_an_entry sheet.universe ordered c v named.sort e named.cell named.value)
search_formed ordered sheet a cell made formed (to_enter_beside {c = c} {v = v} e named room) = formed_also sheet e formed room.range (inr room.room)
search_formed ordered sheet a cell made formed (to_clear k named has spare) = formed_cleared sheet k formed
search_formed ordered sheet a cell made formed (to_remove e named stands spare) = formed_without sheet e formed
search_formed ordered sheet a cell made formed (to_add {n = n} {f = f} r new light) = formed_with sheet n f r formed new
search_formed ordered sheet a cell made formed (to_drop {n = n} place at) = formed_dropped sheet n place formed at

-- the sheet in which a formula is asked is well formed
pub answer_formed : (sheet : Sheet) (a : Asked) (f : Statement) → IsWellFormed sheet → NeedsAnswer sheet a f → IsWellFormed (asked sheet f)
answer_formed sheet a f formed (to_answer {f = tree} s new light) = formed_with sheet ask_name (written.not tree) (denial s) formed new

-- ---- calls

pub calls_spend : CallsSpendTooLittle
calls_spend sheet budget formed some = record {
  load = λ book s cause. too_little sheet formed None budget some s cause.2;
  enter = λ e book s is cause. too_little (entered sheet e) (formed_entered sheet e formed is) (Some e.cell) budget some s cause.1;
  also = λ e book s is place cause. too_little (also_entered sheet e) (formed_also sheet e formed is place) (Some e.cell) budget some s cause.1;
  clear = λ c book s cause. too_little (without_cell sheet c) (formed_cleared sheet c formed) (Some c) budget some s cause.1;
  clear_one = λ e book s cause. too_little (without_entry sheet e) (formed_without sheet e formed) (Some e.cell) budget some s cause.1;
  add_rule = λ r book s is few cause. too_little (with_rule sheet r) (formed_with_rule sheet r formed is few cause.0) None budget some s cause.3;
  drop_rule = λ name book s cause. (cause.0, cause.1, too_little (without_rule sheet cause.0) (formed_dropped sheet name cause.0 formed cause.1) None budget some s cause.3);
}
