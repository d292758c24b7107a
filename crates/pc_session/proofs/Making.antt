-- What the search of the part of a cell makes of an edit of the cell's entries.
use Rattle.std.proofs.Common.{◌≡◌, ℕ, ◌+◌, ◌≤◌, arith, sum_by, ◌∷◌, inl, inr, Bool, false, List, [], ◌++◌, map, Contains, Option, None, Some, ap, refl, sym, ◌∙◌, subst}
use Rattle.std.specs.List.{AllZip}
use Rattle.std.proofs.lemmas.List.Sums.{sum_by-cons}
use Rattle.pc_lits.specs.declared.tally.Tally.{Tally}
use Rattle.pc_sheet.specs.Sheet.{Sheet}
use Rattle.pc_sheet.specs.Entailment.{cell_sizes}
use Rattle.pc_sheet.specs.declared.ids.CellId.{CellId}
use Rattle.pc_sheet.specs.declared.ids.Entry.{Entry}
use Rattle.pc_sheet.specs.declared.ids.Target.{Target}
use Rattle.pc_parts.specs.Parts.{Part}
use Rattle.pc_components.specs.View.{Kept, number_of, AreComponentsOf}
use Rattle.pc_cache.specs.Rows.{TargetRow}
use Rattle.pc_cache.specs.Patches.{PatchView, patch_bytes}
use Rattle.pc_world_list.specs.Worlds.{WorldView}
use Rattle.pc_search.specs.Found.{Finds, IsFound}
use Rattle.pc_search.specs.Parts.{AreWorldsOf}
use Rattle.pc_theory.specs.KeptBytes.{part_bytes, spent_bytes}
use Rattle.pc_theory.specs.Targets.{AreAsked}
use Rattle.pc_theory.specs.Theories.{rules_alone, TheoryView, IsTheory, IsPartNumbered}
use Rattle.pc_theory.specs.Spendings.{IsLawful, IsSpendingOf, IsSpentOn, LearnsWithin}
use Rattle.pc_theory.specs.Edits.{IsSpentAlone}
use Rattle.pc_solver.specs.Spending.{StopSays}
use Rattle.pc_solver.specs.declared.stop.Stop.{Stop}
use Rattle.pc_solver.specs.declared.stop.Stop.TheVariants as stop
use Rattle.pc_session.specs.Causes.{IsEntryCause, IsRemovalCause}
use Rattle.pc_session.specs.inside.Changes.{adds_one, made_of, as_list, IsAskedFor, IsFoundOf}
use Rattle.pc_session.specs.inside.Edits.{AreChanges, IsMade}
use Rattle.pc_session.specs.inside.Refusals.{IsStopTold}
use Rattle.pc_session.specs.inside.States.{IsState}
use Rattle.pc_session.specs.inside.Taken.{takes}
use Rattle.pc_session.specs.declared.change.Change.{Change}
use Rattle.pc_session.specs.declared.edit.Edit.{Edit}
use Rattle.pc_session.specs.declared.refused.EditRefused.{EditRefused}
use Rattle.pc_session.specs.declared.refused.EditRefused.TheVariants as edit
use Rattle.pc_session.specs.declared.searching.Asked.{Asked}
use Rattle.pc_session.specs.declared.state.State.{State}
use Rattle.pc_theory.specs.declared.spending.PartSpending.{PartSpending}
use Rattle.pc_theory.specs.declared.spending.Spending.{Spending}
use Rattle.pc_session.proofs.Asking.{asked, stale, apart}
use Rattle.pc_session.proofs.Changing.{are_changes}

-- ---- what a search of the edited book finds

module _ (sheet : Sheet) (theory : TheoryView) (c : CellId) (known : IsTheory (rules_alone sheet) theory) (i : ℕ) (p : Part) (numbered : IsPartNumbered (rules_alone sheet) i p) (has : Contains p.cells c.0)
    (place : PartSpending) (s : Spending) (limit : ℕ) (gives : (other : Sheet) (touched : Option CellId) (kept : Kept) → AreComponentsOf (rules_alone other) kept → IsSpentOn other touched kept place → IsSpendingOf other touched s)
    (alone : IsSpentAlone sheet theory.components i place) (is_tally : s.tally ≡ place.tally) (limited : place.tally.limit ≡ limit) where
  spends : IsSpendingOf sheet (Some c) s
  spends = gives sheet (Some c) theory.components known.components (alone (Some c) p numbered has).0

  limit_is : s.tally.limit ≡ limit
  limit_is = let of : Tally → ℕ = λ t. t.limit in ap of is_tally ∙ limited

  pub lawful : place.tally.placed ≡ place.tally.limit → IsLawful sheet (Some c) limit s
  lawful reached = record {
    of_sheet = spends;
    limited = limit_is;
    all_placed = let of : Tally → ℕ = λ t. t.placed in ap of is_tally ∙ (reached ∙ limited);
  }

  pub found_of : (ws : List WorldView) → ((q : Part) → IsPartNumbered (rules_alone sheet) i q → AreWorldsOf sheet q ws) → (lent targets : List Target) → lent ≡ targets → (before : List TargetRow) (changes : PatchView) → before ≡ [] → Finds sheet (place.tally.learned + place.tally.calls) lent before changes.rows
      → IsFoundOf sheet c i targets limit (record { part = i; worlds = ws; patch = changes; spending = s })
  found_of ws worlds lent targets are before changes blank found = record {
    part = refl;
    worlds = worlds;
    each =
        let same : changes.rows ≡ found.rows = found.added ∙ ap (λ xs. xs ++ found.rows) blank in
        let most : place.tally.learned + place.tally.calls ≡ s.tally.learned + s.tally.calls = (let of : Tally → ℕ = λ t. t.learned + t.calls in ap of (sym is_tally)) in
        subst (λ n. AllZip (IsFound sheet n) targets changes.rows) most
        (subst (λ xs. AllZip (IsFound sheet (place.tally.learned + place.tally.calls)) xs changes.rows) are (subst (AllZip (IsFound sheet (place.tally.learned + place.tally.calls)) lent) (sym same) found.each));
    spends = spends;
    spare = subst LearnsWithin (sym is_tally) (alone (Some c) p numbered has).1;
    limited = limit_is;
  }

-- what a search of one part put, by what was spent on it alone
pub bytes_of_one : (kept : Kept) (place : PartSpending) (s : Spending) (before after : PatchView) → s.parts.items ≡ place ∷ [] → before ≡ record { rows = []; settled = 0; last = [] } → patch_bytes after ≤ patch_bytes before + part_bytes kept place
    → patch_bytes after ≤ spent_bytes kept s
bytes_of_one kept place s before after is blank few =
    let none : patch_bytes before ≡ 0 = ap patch_bytes blank in
    let all : spent_bytes kept s ≡ part_bytes kept place + 0 = ap (sum_by (part_bytes kept)) is ∙ sum_by-cons (part_bytes kept) place [] in
    added_alone (patch_bytes before) (patch_bytes after) (part_bytes kept place) (spent_bytes kept s) none all few
  where
    added_alone : (before after part all : ℕ) → before ≡ 0 → all ≡ part + 0 → after ≤ before + part → after ≤ all
    added_alone before after part all none is few = omega (arith, none, is, few)

-- ---- what that is for the sheet before the edit

none_more : (o : Option Entry) → adds_one o ≡ false → as_list o ≡ []
none_more None none = refl
none_more (Some e) none = absurd (cc)

module _ (old : State) (change : Change) (a : Asked) (is : IsAskedFor old change a) (state : IsState old) (new : Sheet) (is_new : new ≡ made_of old.book change) where
  -- what holds of the rules of the sheet holds of those of the edited one
  pub known_new : IsTheory (rules_alone new) old.theory
  known_new = subst (λ s. IsTheory (rules_alone s) old.theory) (sym is_new) state.known

  pub numbered_new : (p : Part) → IsPartNumbered (rules_alone old.book) a.part p → IsPartNumbered (rules_alone new) a.part p
  numbered_new p at = subst (λ x. IsPartNumbered (rules_alone x) a.part p) (sym is_new) at

  pub numbered_old : (p : Part) → IsPartNumbered (rules_alone new) a.part p → IsPartNumbered (rules_alone old.book) a.part p
  numbered_old p at = subst (λ x. IsPartNumbered (rules_alone x) a.part p) is_new at

  pub asked_new : AreAsked (cell_sizes new.universe) old.theory.components a.part a.targets.items
  asked_new = asked old.book old.theory old.cache.rows state.known (takes change.taken) (adds_one change.added) (as_list change.added) (none_more change.added) a.part is.cells is.at a.targets.items is.targets new is_new

  pub made : (limit : ℕ) (found : Edit) → IsFoundOf new change.cell a.part a.targets.items limit found → IsMade old.book old.cache.rows change.cell (takes change.taken) (as_list change.added) limit found
  made limit found h = record {
    part = is.part;
    numbered = subst (λ i. IsPartNumbered (rules_alone old.book) i is.part) (sym h.part) is.numbered;
    has = is.has;
    worlds_of = subst (λ x. AreWorldsOf x is.part found.worlds) is_new (h.worlds is.part (numbered_new is.part is.numbered));
    changes_are =
        subst (λ ns. AreChanges old.book old.cache.rows gone added ns found.patch.rows most) (sym is.are)
        (are_changes old.book old.cache.rows gone added (map number_of is.cells) a.targets.items found.patch.rows most
        (stale old.book old.theory old.cache.rows state.known gone (adds_one change.added) added (none_more change.added) a.part is.cells is.at a.targets.items is.targets)
        (apart old.book old.theory old.cache.rows state.known gone (adds_one change.added) added (none_more change.added) a.part is.cells is.at a.targets.items is.targets)
        (subst (λ x. AllZip (IsFound x most) a.targets.items found.patch.rows) is_new h.each));
    spends = subst (λ x. IsSpendingOf x (Some change.cell) found.spending) is_new h.spends;
    spare = h.spare;
    limited = h.limited;
  }
    where
      gone : Entry → Bool
      gone = takes change.taken

      added : List Entry
      added = as_list change.added

      most : ℕ
      most = found.spending.tally.learned + found.spending.tally.calls

-- ---- causes of refusals

pub entry_refused : (sheet : Sheet) (c : CellId) (limit : ℕ) (ended : Stop) (tally : Tally) (s : Spending) (refused : EditRefused) → IsStopTold ended sheet s refused → StopSays tally ended
    → (tally.placed ≡ tally.limit → IsLawful sheet (Some c) limit s) → IsEntryCause sheet c limit refused
entry_refused sheet c limit stop.Spent tally s refused told says law = elim told [
  | inl spent ↦ subst (IsEntryCause sheet c limit) (sym spent) (refl, law says)
  | inr memory ↦ subst (IsEntryCause sheet c limit) (sym memory) tt
]
entry_refused sheet c limit stop.Memory tally s refused told says law = subst (IsEntryCause sheet c limit) (sym told) tt

-- a refusal of the edit that takes entries away is one of taking them away
pub removal_refused : (gone : Entry → Bool) (es : List Entry) (sheet : Sheet) (c : CellId) (limit : ℕ) (refused : EditRefused) → IsEntryCause sheet c limit refused → IsRemovalCause gone es sheet c limit refused
removal_refused gone es sheet c limit edit.NoEntry h = absurd h
removal_refused gone es sheet c limit edit.DuplicateRule h = h
removal_refused gone es sheet c limit edit.NoRule h = h
removal_refused gone es sheet c limit edit.TooLarge h = h
removal_refused gone es sheet c limit (edit.Inconsistent refutation) h = h
removal_refused gone es sheet c limit (edit.Spent book spending) h = h
removal_refused gone es sheet c limit edit.Memory h = h
