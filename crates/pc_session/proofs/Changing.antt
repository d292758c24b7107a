-- The targets that an edit searches again are enough, and what their search changes.
use Rattle.std.proofs.Common.{◌≡◌, ℕ, ◌≤◌, inl, inr, Bool, false, List, [], map, filter, Contains, Option, None, Some, IfSome, slice_get, ap, sym, ◌∙◌, subst}
use Rattle.std.specs.List.{AllZip}
use Rattle.std.proofs.lemmas.Bool.{cases_Bool}
use Rattle.pc_sheet.specs.Sheet.{Sheet}
use Rattle.pc_sheet.specs.Entailment.{cell_sizes}
use Rattle.pc_sheet.specs.declared.ids.CellId.{CellId}
use Rattle.pc_sheet.specs.declared.ids.Entry.{Entry}
use Rattle.pc_sheet.specs.declared.ids.Target.{Target}
use Rattle.pc_components.specs.View.{Kept, number_of, AreComponentsOf}
use Rattle.pc_reason.specs.Reasons.{Justification}
use Rattle.pc_justify_laws.specs.Edits.{edited, MayStay}
use Rattle.pc_cache.specs.Rows.{TargetRow, row_of}
use Rattle.pc_search.specs.Found.{steps_in, IsFound}
use Rattle.pc_theory.specs.Targets.{targets_on, AreAsked}
use Rattle.pc_theory.specs.Theories.{rules_alone}
use Rattle.pc_lemmas.proofs.Elements.{all_from, contains_map, contains_mapped, kept, kept_is}
use Rattle.pc_theory.proofs.Lists.{among, few_filtered}
use Rattle.pc_theory.proofs.OnCells.{target_on, on_target}
use Rattle.pc_theory.proofs.Changes.{comes, change_of}
use Rattle.pc_session.specs.inside.Stale.{is_stale, stale_on}
use Rattle.pc_session.specs.inside.Staleness.{IsStale}
use Rattle.pc_session.specs.inside.Edits.{after, AreChanges}
use Rattle.pc_session.proofs.Apart.{AreApart, apart_filter, cells_apart}
use Rattle.pc_session.proofs.Bytes.{apart_on, few_bytes}
use Rattle.pc_session.proofs.TakenEntries.{none_of, some_not_none}

-- ---- what is asked

pub stale_asked : (rows : List TargetRow) (gone : Entry → Bool) (added : Bool) (sizes : List ℕ) (kept : Kept) (part : ℕ) (cells : List CellId) (ts : List Target) → slice_get kept.cells part ≡ Some cells
    → ts ≡ stale_on rows gone added sizes cells → AreAsked sizes kept part ts
stale_asked rows gone added sizes kept part cells ts at are =
    let test : Target → Bool = λ t. is_stale gone added (row_of rows t) in
    subst (AreAsked sizes kept part) (sym are)
    (record { cells = cells; at = at; on = all_from (Contains (targets_on sizes cells)) (filter test (targets_on sizes cells)) (λ t has. (kept_is test (targets_on sizes cells) t has).0); few = few_filtered test (targets_on sizes cells) })

-- no target is asked for twice
pub stale_apart : (rows : List TargetRow) (gone : Entry → Bool) (added : Bool) (sheet : Sheet) (kept : Kept) → AreComponentsOf (rules_alone sheet) kept → (part : ℕ) (cells : List CellId) → slice_get kept.cells part ≡ Some cells
    → AreApart (stale_on rows gone added (cell_sizes sheet.universe) cells)
stale_apart rows gone added sheet kept are part cells at =
    apart_filter (λ t. is_stale gone added (row_of rows t)) (targets_on (cell_sizes sheet.universe) cells) (apart_on (cell_sizes sheet.universe) cells (cells_apart sheet kept are part cells at))

-- ---- they are enough

module _ (sheet : Sheet) (rows : List TargetRow) (gone : Entry → Bool) (cells : List CellId) (adds : Bool) (more : List Entry) (none_more : adds ≡ false → more ≡ []) where
  abbrev all : List Target
  all = targets_on (cell_sizes sheet.universe) cells

  abbrev stale : List Target
  stale = stale_on rows gone adds (cell_sizes sheet.universe) cells

  cell_there : (t : Target) → Contains (map number_of cells) t.cell.0 → Contains cells t.cell
  cell_there t on = let from = contains_mapped number_of cells t.cell.0 on in let make : ℕ → CellId = λ n. record { 0 = n } in subst (Contains cells) (ap make from.2) from.1

  stays : (t : Target) (o : Option Justification) → is_stale gone adds o ≡ false → MayStay (map number_of cells) gone more t o
  stays t None fresh = inl (none_more fresh)
  stays t (Some j) fresh = inl (none_of gone j.support fresh)

  off : (t : Target) → ¬ Contains (map number_of cells) t.cell.0 → (o : Option Justification) → MayStay (map number_of cells) gone more t o
  off t outside None = inr outside
  off t outside (Some j) = inr outside

  pub stale_right : IsStale sheet rows gone more (map number_of cells) stale
  stale_right = record {
    covers = λ t is none. elim (among (map number_of cells) t.cell.0) [
      | inl on ↦ elim (cases_Bool (is_stale gone adds (row_of rows t))) [
        | inl again ↦ absurd (none (kept (λ u. is_stale gone adds (row_of rows u)) all t (target_on sheet.universe cells t (cell_there t on) is) again))
        | inr fresh ↦ stays t (row_of rows t) fresh
      ]
      | inr outside ↦ off t outside (row_of rows t)
    ];
    on = λ t there.
        let from = kept_is (λ u. is_stale gone adds (row_of rows u)) all t there in
        let r = on_target sheet.universe cells t from.0 in
        (contains_map number_of cells t.cell r.0, r.1);
    only = λ t j there row.
        let from = kept_is (λ u. is_stale gone adds (row_of rows u)) all t there in
        some_not_none gone j.support (sym (ap (is_stale gone adds) row) ∙ from.1);
  }

-- ---- what is found of them

pub are_changes : (sheet : Sheet) (rows : List TargetRow) (gone : Entry → Bool) (added : List Entry) (cells : List ℕ) (ts : List Target) (changes : List TargetRow) (most : ℕ)
    → IsStale sheet rows gone added cells ts → AreApart ts → AllZip (IsFound (edited sheet gone added) most) ts changes → AreChanges sheet rows gone added cells changes most
are_changes sheet rows gone added cells ts changes most stale apart found =
    let new = edited sheet gone added in
    record {
      each = λ t is. elim (comes new most ts changes found t (row_of rows t)) [ inl there ↦ inl there.1.0 | inr none ↦ inr (none.1, stale.covers t is none.0) ];
      stays = λ t j is lacks. elim (comes new most ts changes found t (row_of rows t)) [ inl there ↦ absurd (stale.only t j there.0 is lacks) | inr none ↦ none.1 ∙ is ];
      others = λ t off. elim (comes new most ts changes found t (row_of rows t)) [ inl there ↦ absurd (off (stale.on t there.0).0) | inr none ↦ none.1 ];
      steps = λ t j is. elim (comes new most ts changes found t (row_of rows t)) [
        | inl there ↦ inr (few (after rows changes t) j is there.1.1)
        | inr none ↦ inl (sym none.1 ∙ is)
      ];
      targets = λ r has. (stale.on r.target (change_of new most ts changes found r has)).1;
      bytes = λ all are. few_bytes new most ts changes rows all found apart are;
    }
  where
    few : (o : Option Justification) (j : Justification) → o ≡ Some j → IfSome o (λ x. steps_in x.lines ≤ most) → steps_in j.lines ≤ most
    few o j is h = subst (λ x. IfSome x (λ y. steps_in y.lines ≤ most)) is h
