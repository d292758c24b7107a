-- What the edits of a session make of the commands that ask for them.
use Rattle.std.proofs.Common.{◌≡◌, ℕ, ◌≤◌, Bool, List, Option, None, Some, Result, Ok, Err, Contains, refl, sym, ap, ap₂, subst, inl, inr, ◌∙◌}
use Rattle.pc_syntax.specs.Tree.{Asked, Cell, Value, Formula, asks_enter, asks_also, asks_clear, asks_clear_one, asks_rule, asks_drop}
use Rattle.pc_sheet.specs.Sheet.{Sheet, NamedStatement, with_rule}
use Rattle.pc_sheet.specs.MaximalSets.{AreRulesConsistent}
use Rattle.pc_sheet.specs.Weight.{weight}
use Rattle.pc_sheet.specs.declared.ids.CellId.{CellId}
use Rattle.pc_sheet.specs.declared.ids.Entry.{Entry}
use Rattle.pc_sheet.specs.WellFormed.{is_of_cell, IsEntryOf}
use Rattle.pc_books.specs.Edits.{is_same_entry, entered, also_entered, without_entry, without_cell, without_rule, HasRoomFor}
use Rattle.pc_elaborate.specs.Elaboration.{IsEntryNamed, IsCellNamed}
use Rattle.pc_sortcheck.specs.DeclarationFaults.{HasRoomForEntry}
use Rattle.pc_justify_laws.specs.Edits.{HasNone}
use Rattle.pc_theory.specs.Spendings.{IsLawful}
use Rattle.pc_theory.specs.declared.spending.Spending.{Spending}
use Rattle.pc_session.specs.Views.{SessionView}
use Rattle.pc_session.specs.Answers.{AreSpare, StandsAlone}
use Rattle.pc_session.specs.Rules.{IsDropped, IsAddCause, IsDropCause}
use Rattle.pc_books.specs.RuleNames.{IsNewName, IsRuleAt}
use Rattle.pc_session.specs.Causes.{IsEntryCause, IsRemovalCause}
use Rattle.pc_session.specs.declared.refused.EditRefused.{EditRefused}
use Rattle.pc_session.specs.declared.refused.EditRefused.TheVariants as edit
use Rattle.pc_transcript.specs.declared.machine.Reply.TheVariants.{Accepted, Refused, Memory}
use Rattle.pc_refusals.specs.declared.refusal.Refusal.TheVariants.{TooLarge, Inconsistent, NoEntry, DuplicateRule, NoRule}
use Rattle.pc_spreadsheet.specs.Refused.{IsRefusalOf, without_entry as lacks_entry, without_that, of_old_name, of_no_rule, too_large, contradicting}
use Rattle.pc_spreadsheet.specs.Tasks.{State, IsLight, enters, enters_beside, clears, removes, adds, drops, IsRuleOf, IsNewRule, entering, entering_beside, clearing, removing, adding, dropping}
use Rattle.pc_spreadsheet.specs.Allowed.{Notes, NeedsSearch, to_enter, to_enter_beside, to_clear, to_remove, to_add, to_drop}
use Rattle.pc_spreadsheet.specs.Commands.{Told, state_of, IsSpentLawfully, TellsRefused, NotesSpent, noted, not_noted, MayWantMemory, Obeys, judged, contradicted, spent}
use Rattle.pc_spreadsheet.proofs.Places.{placed_or_new, has_or_lacks, lacks_none, stands_or_not, lacks_that}

-- ---- states

abbrev pair_of : State → Notes → State × Notes
pair_of state notes = (state, notes)

abbrev state_from : Sheet → ℕ → State
state_from sheet budget = record { sheet = sheet; budget = budget }

-- a refused edit leaves all but what derivations count for
abbrev IsAsBefore : SessionView → SessionView → Type 0
IsAsBefore s s' = s' ≡ record s { bytes = s'.bytes; spare = s'.spare }

same_pair : (s s' : SessionView) (n : Notes) → IsAsBefore s s' → pair_of (state_of s') n ≡ pair_of (state_of s) n
same_pair s s' n same = ap (λ (v : SessionView). pair_of (state_of v) n) same

-- the state after an edit of the sheet
edited_pair : (s s' : SessionView) (n : Notes) (sheet : Sheet) → s'.sheet ≡ sheet → s'.budget ≡ s.budget → pair_of (state_of s') n ≡ pair_of (state_from sheet s.budget) n
edited_pair s s' n sheet sheet_is budget_is = ap₂ (λ (t : Sheet) (b : ℕ). pair_of (state_from t b) n) sheet_is budget_is

-- ---- what is spent

-- an edit that needs a search may want memory
wants : (sheet : Sheet) {a : Asked} {cell : Option CellId} {made : Sheet} → NeedsSearch sheet a cell made → MayWantMemory sheet a
wants sheet (to_enter e named other) = (_, _, to_enter e named other)
wants sheet (to_enter_beside e named room) = (_, _, to_enter_beside e named room)
wants sheet (to_clear k named has used) = (_, _, to_clear k named has used)
wants sheet (to_remove e named stands used) = (_, _, to_remove e named stands used)
wants sheet (to_add r new light) = tt
wants sheet (to_drop place at) = (_, _, to_drop place at)

-- what was spent on the sheet that the edit would have made
spent_so : (s s' : SessionView) (n : Notes) (a : Asked) (cell : Option CellId) (made book : Sheet) (spending : Spending) (n' : Notes) (reply : Told) → NeedsSearch s.sheet a cell made → book ≡ made → IsLawful made cell s.budget spending → IsAsBefore s s'
    → NotesSpent book cell spending n n' reply → Obeys (pair_of (state_of s) n) a reply (pair_of (state_of s') n')
spent_so s s' n a cell made book spending n' reply needs is_made lawful same notes =
    by reply (subst (λ (b : Sheet). NotesSpent b cell spending n n' reply) is_made notes)
  where
    by : (told : Told) → NotesSpent made cell spending n n' told → Obeys (pair_of (state_of s) n) a told (pair_of (state_of s') n')
    by told (noted counts is now_noted) =
        spent counts record { cell = cell; made = made; needs = needs; spent = record { spending = spending; lawful = lawful; counts_are = is; noted = now_noted } } refl refl (ap state_of same)
    by told (not_noted none) = (wants s.sheet needs, ap₂ pair_of (ap state_of same) none)

-- with the limit that the spending itself names, on the book that is handed out
pub lawful_on : (book sheet : Sheet) (cell : Option CellId) (budget : ℕ) (spending : Spending) → book ≡ sheet → IsLawful sheet cell budget spending → IsLawful book cell spending.tally.limit spending
lawful_on book sheet cell budget spending is lawful = subst (λ (b : Sheet). IsLawful b cell spending.tally.limit spending) (sym is) (subst (λ (l : ℕ). IsLawful sheet cell l spending) (sym lawful.limited) lawful)

-- ---- refused edits

-- a refused edit is answered by the reply of its refusal, and nothing is noted
answered_by : (s s' : SessionView) (n n' : Notes) (a : Asked) (reply told : Told) → told ≡ reply → n' ≡ n → Obeys (pair_of (state_of s) n) a reply (pair_of (state_of s') n) → Obeys (pair_of (state_of s) n) a told (pair_of (state_of s') n')
answered_by s s' n n' a reply told is none does =
    subst (λ (r : Told). Obeys (pair_of (state_of s) n) a r (pair_of (state_of s') n')) (sym is) (subst (λ (m : Notes). Obeys (pair_of (state_of s) n) a reply (pair_of (state_of s') m)) (sym none) does)

abbrev refused_by : EditRefused → Result (Unit {0}) EditRefused
refused_by refused = Err refused

refusal_is : (x y : EditRefused) → refused_by x ≡ refused_by y → x ≡ y
refusal_is x y is = cc is

module _ (s s' : SessionView) (n : Notes) where
  -- ---- edits of entries

  -- that add an entry
  pub entry_told : (a : Asked) (made : Sheet) (cell : CellId) (refused : EditRefused) (n' : Notes) (told : Told) → TellsRefused refused (Some cell) n n' told → NeedsSearch s.sheet a (Some cell) made → IsEntryCause made cell s.budget refused → IsAsBefore s s'
      → Obeys (pair_of (state_of s) n) a told (pair_of (state_of s') n')
  entry_told a made cell edit.Memory n' told tells needs cause same = answered_by s s' n n' a Memory told tells.0 tells.1 (wants s.sheet needs, same_pair s s' n same)
  entry_told a made cell (edit.Spent book spending) n' told tells needs cause same = spent_so s s' n a (Some cell) made book spending n' told needs cause.0 cause.1 same tells
  entry_told a made cell edit.NoEntry n' told tells needs cause same = absurd cause
  entry_told a made cell edit.DuplicateRule n' told tells needs cause same = absurd cause
  entry_told a made cell edit.NoRule n' told tells needs cause same = absurd cause
  entry_told a made cell edit.TooLarge n' told tells needs cause same = absurd cause
  entry_told a made cell (edit.Inconsistent sheet) n' told tells needs cause same = absurd cause

  pub entry_lawful : (made : Sheet) (cell : CellId) (refused : EditRefused) → IsEntryCause made cell s.budget refused → IsSpentLawfully refused (Some cell)
  entry_lawful made cell edit.Memory cause = tt
  entry_lawful made cell (edit.Spent book spending) cause = lawful_on book made (Some cell) s.budget spending cause.0 cause.1
  entry_lawful made cell edit.NoEntry cause = absurd cause
  entry_lawful made cell edit.DuplicateRule cause = absurd cause
  entry_lawful made cell edit.NoRule cause = absurd cause
  entry_lawful made cell edit.TooLarge cause = absurd cause
  entry_lawful made cell (edit.Inconsistent sheet) cause = absurd cause

  -- that take entries away: there are none such, or the edit needs a search
  pub removal_told : (a : Asked) (gone : Entry → Bool) (made : Sheet) (cell : CellId) (refused : EditRefused) (n' : Notes) (told : Told) → TellsRefused refused (Some cell) n n' told → (HasNone gone s.sheet.entries → IsRefusalOf s.sheet a NoEntry) → ((refused ≡ edit.NoEntry → ⊥) → NeedsSearch s.sheet a (Some cell) made)
      → IsRemovalCause gone s.sheet.entries made cell s.budget refused → IsAsBefore s s' → Obeys (pair_of (state_of s) n) a told (pair_of (state_of s') n')
  removal_told a gone made cell edit.NoEntry n' told tells lacks needs cause same = answered_by s s' n n' a (Refused NoEntry None) told tells.0 tells.1 (judged (lacks cause) refl (same_pair s s' n same))
  removal_told a gone made cell edit.Memory n' told tells lacks needs cause same =
      answered_by s s' n n' a Memory told tells.0 tells.1 (wants s.sheet (needs (λ other. absurd (cc other))), same_pair s s' n same)
  removal_told a gone made cell (edit.Spent book spending) n' told tells lacks needs cause same =
      spent_so s s' n a (Some cell) made book spending n' told (needs (λ other. absurd (cc other))) cause.0 cause.1 same tells
  removal_told a gone made cell edit.DuplicateRule n' told tells lacks needs cause same = absurd cause
  removal_told a gone made cell edit.NoRule n' told tells lacks needs cause same = absurd cause
  removal_told a gone made cell edit.TooLarge n' told tells lacks needs cause same = absurd cause
  removal_told a gone made cell (edit.Inconsistent sheet) n' told tells lacks needs cause same = absurd cause

  pub removal_lawful : (gone : Entry → Bool) (made : Sheet) (cell : CellId) (refused : EditRefused) → IsRemovalCause gone s.sheet.entries made cell s.budget refused → IsSpentLawfully refused (Some cell)
  removal_lawful gone made cell edit.NoEntry cause = tt
  removal_lawful gone made cell edit.Memory cause = tt
  removal_lawful gone made cell (edit.Spent book spending) cause = lawful_on book made (Some cell) s.budget spending cause.0 cause.1
  removal_lawful gone made cell edit.DuplicateRule cause = absurd cause
  removal_lawful gone made cell edit.NoRule cause = absurd cause
  removal_lawful gone made cell edit.TooLarge cause = absurd cause
  removal_lawful gone made cell (edit.Inconsistent sheet) cause = absurd cause

  -- ---- entering

  pub entered_so : (e : Entry) (c : Cell) (v : Value) → IsEntryNamed s.sheet.universe c v e → s'.sheet ≡ entered s.sheet e → s'.budget ≡ s.budget → Obeys (pair_of (state_of s) n) (asks_enter c v) Accepted (pair_of (state_of s') n)
  entered_so e c v named sheet_is budget_is = (enters e, entering e named, tt, edited_pair s s' n (entered s.sheet e) sheet_is budget_is)

  -- what is refused doesn't stand alone
  pub entering_needs : (e : Entry) (c : Cell) (v : Value) (result : Result (Unit {0}) EditRefused) (refused : EditRefused) (new : SessionView) → IsEntryNamed s.sheet.universe c v e → result ≡ Err refused → (StandsAlone s.sheet.entries e → (result ≡ Ok tt) × (s' ≡ new)) → NeedsSearch s.sheet (asks_enter c v) (Some e.cell) (entered s.sheet e)
  entering_needs e c v result refused new named err standing = to_enter e named (λ alone. absurd (cc (sym err ∙ (standing alone).0)))

  -- ---- entering beside others

  pub entered_beside_so : (e : Entry) (c : Cell) (v : Value) → IsEntryNamed s.sheet.universe c v e → HasRoomForEntry s.sheet e → s'.sheet ≡ also_entered s.sheet e → s'.budget ≡ s.budget → Obeys (pair_of (state_of s) n) (asks_also c v) Accepted (pair_of (state_of s') n)
  entered_beside_so e c v named room sheet_is budget_is = (enters_beside e, entering_beside e named room, tt, edited_pair s s' n (also_entered s.sheet e) sheet_is budget_is)

  -- what is refused doesn't stand, so that its cell may have one more
  pub room_beside : (e : Entry) (result : Result (Unit {0}) EditRefused) (refused : EditRefused) (new : SessionView) → IsEntryOf s.sheet.universe e → HasRoomForEntry s.sheet e → result ≡ Err refused → (Contains s.sheet.entries e → (result ≡ Ok tt) × (s' ≡ new)) → HasRoomFor s.sheet e
  room_beside e result refused new range room err standing =
      let new_entry : ¬ Contains s.sheet.entries e = λ there. absurd (cc (sym err ∙ (standing there).0)) in
      elim room [
        | inl there ↦ absurd (new_entry there)
        | inr few ↦ record { range = range; new = new_entry; room = few }
      ]

  -- ---- clearing

  pub cleared_so : (k : CellId) (c : Cell) (result : Result (Unit {0}) EditRefused) → IsCellNamed s.sheet.universe c k → (HasNone (is_of_cell k) s.sheet.entries → result ≡ Err edit.NoEntry) → result ≡ Ok tt → s'.sheet ≡ without_cell s.sheet k → s'.budget ≡ s.budget
      → Obeys (pair_of (state_of s) n) (asks_clear c) Accepted (pair_of (state_of s') n)
  cleared_so k c result named no_entry ok sheet_is budget_is = elim (has_or_lacks s.sheet.entries k) [
    | inl has ↦ (clears k, clearing k named has, tt, edited_pair s s' n (without_cell s.sheet k) sheet_is budget_is)
    | inr lacks ↦ absurd (cc (sym ok ∙ no_entry lacks))
  ]

  pub clearing_lacks : (k : CellId) (c : Cell) → IsCellNamed s.sheet.universe c k → HasNone (is_of_cell k) s.sheet.entries → IsRefusalOf s.sheet (asks_clear c) NoEntry
  clearing_lacks k c named lacks = lacks_entry k named (lacks_none s.sheet k lacks)

  pub clearing_needs : (k : CellId) (c : Cell) (result : Result (Unit {0}) EditRefused) (refused : EditRefused) → IsCellNamed s.sheet.universe c k → result ≡ Err refused → (HasNone (is_of_cell k) s.sheet.entries → result ≡ Err edit.NoEntry)
      → ((f : Entry) → Contains s.sheet.entries f → f.cell ≡ k → AreSpare s.sheet (is_of_cell k) → result ≡ Ok tt) → (refused ≡ edit.NoEntry → ⊥) → NeedsSearch s.sheet (asks_clear c) (Some k) (without_cell s.sheet k)
  clearing_needs k c result refused named err no_entry spare other = elim (has_or_lacks s.sheet.entries k) [
    | inl has ↦ to_clear k named has (λ unneeded. absurd (cc (sym err ∙ spare has.1 (has.0, has.2, has.3) has.4 unneeded)))
    | inr lacks ↦ absurd (other (refusal_is refused edit.NoEntry (sym err ∙ no_entry lacks)))
  ]

  -- ---- removing one entry

  pub removed_so : (e : Entry) (c : Cell) (v : Value) (result : Result (Unit {0}) EditRefused) → IsEntryNamed s.sheet.universe c v e → (¬ Contains s.sheet.entries e → result ≡ Err edit.NoEntry) → result ≡ Ok tt → s'.sheet ≡ without_entry s.sheet e → s'.budget ≡ s.budget
      → Obeys (pair_of (state_of s) n) (asks_clear_one c v) Accepted (pair_of (state_of s') n)
  removed_so e c v result named no_entry ok sheet_is budget_is = elim (stands_or_not s.sheet.entries e) [
    | inl there ↦ (removes e, removing e named there, tt, edited_pair s s' n (without_entry s.sheet e) sheet_is budget_is)
    | inr lacks ↦ absurd (cc (sym ok ∙ no_entry lacks))
  ]

  pub removing_lacks : (e : Entry) (c : Cell) (v : Value) → IsEntryNamed s.sheet.universe c v e → HasNone (is_same_entry e) s.sheet.entries → IsRefusalOf s.sheet (asks_clear_one c v) NoEntry
  removing_lacks e c v named lacks = without_that e named (lacks_that s.sheet.entries e lacks)

  pub removing_needs : (e : Entry) (c : Cell) (v : Value) (result : Result (Unit {0}) EditRefused) (refused : EditRefused) → IsEntryNamed s.sheet.universe c v e → result ≡ Err refused → (¬ Contains s.sheet.entries e → result ≡ Err edit.NoEntry)
      → (Contains s.sheet.entries e → AreSpare s.sheet (is_same_entry e) → result ≡ Ok tt) → (refused ≡ edit.NoEntry → ⊥) → NeedsSearch s.sheet (asks_clear_one c v) (Some e.cell) (without_entry s.sheet e)
  removing_needs e c v result refused named err no_entry spare other = elim (stands_or_not s.sheet.entries e) [
    | inl there ↦ to_remove e named there (λ unneeded. absurd (cc (sym err ∙ spare there unneeded)))
    | inr lacks ↦ absurd (other (refusal_is refused edit.NoEntry (sym err ∙ no_entry lacks)))
  ]

  -- ---- adding a rule

  pub added_so : (m : List ℕ) (f : Formula) (r : NamedStatement) (result : Result (Unit {0}) EditRefused) → IsRuleOf s.sheet m f r → (¬ IsNewName s.sheet.rules r.name → result ≡ Err edit.DuplicateRule) → result ≡ Ok tt → weight s'.sheet ≤ 4000000 → AreRulesConsistent s'.sheet → s'.sheet ≡ with_rule s.sheet r → s'.budget ≡ s.budget
      → Obeys (pair_of (state_of s) n) (asks_rule m f) Accepted (pair_of (state_of s') n)
  added_so m f r result is duplicate ok light consistent sheet_is budget_is =
      let stable : IsNewName s.sheet.rules r.name = λ k. λ d. λ lt. λ same. cc (sym ok ∙ duplicate (λ new. new k d lt same)) in
      (adds r, adding r (is, subst (IsNewName s.sheet.rules) is.name stable) (subst IsLight sheet_is light) (subst AreRulesConsistent sheet_is consistent), tt, edited_pair s s' n (with_rule s.sheet r) sheet_is budget_is)

  pub adding_told : (m : List ℕ) (f : Formula) (r : NamedStatement) (refused : EditRefused) (n' : Notes) (told : Told) → TellsRefused refused None n n' told → IsRuleOf s.sheet m f r → IsAddCause s.sheet r s.budget refused → IsAsBefore s s'
      → Obeys (pair_of (state_of s) n) (asks_rule m f) told (pair_of (state_of s') n')
  adding_told m f r edit.DuplicateRule n' told tells of cause same =
      answered_by s s' n n' (asks_rule m f) (Refused DuplicateRule None) told tells.0 tells.1 (judged (of_old_name r of (subst (λ (name : List ℕ). ¬ IsNewName s.sheet.rules name) of.name cause)) refl (same_pair s s' n same))
  adding_told m f r edit.TooLarge n' told tells of cause same =
      answered_by s s' n n' (asks_rule m f) (Refused TooLarge None) told tells.0 tells.1
      (judged (too_large r (of, subst (IsNewName s.sheet.rules) of.name cause.0) cause.1) refl (same_pair s s' n same))
  adding_told m f r (edit.Inconsistent sheet) n' told tells of cause same =
      answered_by s s' n n' (asks_rule m f) (Refused Inconsistent (Some sheet)) told tells.0 tells.1
      (contradicted r (contradicting r (of, subst (IsNewName s.sheet.rules) of.name cause.0) cause.1 cause.3) refl (ap (λ (t : Sheet). Some t) cause.2) (same_pair s s' n same))
  adding_told m f r edit.Memory n' told tells of cause same = answered_by s s' n n' (asks_rule m f) Memory told tells.0 tells.1 (tt, same_pair s s' n same)
  adding_told m f r (edit.Spent book spending) n' told tells of cause same =
      spent_so s s' n (asks_rule m f) None (with_rule s.sheet r) book spending n' told (to_add r (of, subst (IsNewName s.sheet.rules) of.name cause.0) cause.1) cause.2 cause.3 same tells
  adding_told m f r edit.NoEntry n' told tells of cause same = absurd cause
  adding_told m f r edit.NoRule n' told tells of cause same = absurd cause

  pub adding_lawful : (r : NamedStatement) (refused : EditRefused) → IsAddCause s.sheet r s.budget refused → IsSpentLawfully refused None
  adding_lawful r edit.DuplicateRule cause = tt
  adding_lawful r edit.TooLarge cause = tt
  adding_lawful r (edit.Inconsistent sheet) cause = tt
  adding_lawful r edit.Memory cause = tt
  adding_lawful r (edit.Spent book spending) cause = lawful_on book (with_rule s.sheet r) None s.budget spending cause.2 cause.3
  adding_lawful r edit.NoEntry cause = absurd cause
  adding_lawful r edit.NoRule cause = absurd cause

  -- ---- dropping a rule

  pub dropped_so : (m : List ℕ) → IsDropped s.sheet m s'.sheet → s'.budget ≡ s.budget → Obeys (pair_of (state_of s) n) (asks_drop m) Accepted (pair_of (state_of s') n)
  dropped_so m dropped budget_is = (drops dropped.0, dropping dropped.0 dropped.1, tt, edited_pair s s' n (without_rule s.sheet dropped.0) dropped.2 budget_is)

  -- a refusal that isn't for want of the rule
  dropping_wants : (m : List ℕ) (result : Result (Unit {0}) EditRefused) (refused : EditRefused) → result ≡ Err refused → (IsNewName s.sheet.rules m → result ≡ Err edit.NoRule) → (refused ≡ edit.NoRule → ⊥) → MayWantMemory s.sheet (asks_drop m)
  dropping_wants m result refused err no_rule other = elim (placed_or_new s.sheet.rules m) [
    | inl at ↦ wants s.sheet (to_drop at.0 at.1)
    | inr new ↦ absurd (other (refusal_is refused edit.NoRule (sym err ∙ no_rule new)))
  ]

  pub dropping_told : (m : List ℕ) (result : Result (Unit {0}) EditRefused) (refused : EditRefused) (n' : Notes) (told : Told) → TellsRefused refused None n n' told → result ≡ Err refused → (IsNewName s.sheet.rules m → result ≡ Err edit.NoRule) → IsDropCause s.sheet m s.budget refused → IsAsBefore s s' → Obeys (pair_of (state_of s) n) (asks_drop m) told (pair_of (state_of s') n')
  dropping_told m result edit.NoRule n' told tells err no_rule cause same = answered_by s s' n n' (asks_drop m) (Refused NoRule None) told tells.0 tells.1 (judged (of_no_rule cause) refl (same_pair s s' n same))
  dropping_told m result edit.Memory n' told tells err no_rule cause same =
      answered_by s s' n n' (asks_drop m) Memory told tells.0 tells.1 (dropping_wants m result edit.Memory err no_rule (λ other. absurd (cc other)), same_pair s s' n same)
  dropping_told m result (edit.Spent book spending) n' told tells err no_rule cause same =
      spent_so s s' n (asks_drop m) None (without_rule s.sheet cause.0) book spending n' told (to_drop cause.0 cause.1) cause.2 cause.3 same tells
  dropping_told m result edit.NoEntry n' told tells err no_rule cause same = absurd cause
  dropping_told m result edit.DuplicateRule n' told tells err no_rule cause same = absurd cause
  dropping_told m result edit.TooLarge n' told tells err no_rule cause same = absurd cause
  dropping_told m result (edit.Inconsistent sheet) n' told tells err no_rule cause same = absurd cause

  pub dropping_lawful : (m : List ℕ) (refused : EditRefused) → IsDropCause s.sheet m s.budget refused → IsSpentLawfully refused None
  dropping_lawful m edit.NoRule cause = tt
  dropping_lawful m edit.Memory cause = tt
  dropping_lawful m (edit.Spent book spending) cause = lawful_on book (without_rule s.sheet cause.0) None s.budget spending cause.2 cause.3
  dropping_lawful m edit.NoEntry cause = absurd cause
  dropping_lawful m edit.DuplicateRule cause = absurd cause
  dropping_lawful m edit.TooLarge cause = absurd cause
  dropping_lawful m (edit.Inconsistent sheet) cause = absurd cause
