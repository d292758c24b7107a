-- Whether some reason rests on an entry that is taken away.
use Rattle.std.proofs.Common.{◌≡◌, ℕ, ◌<◌, ◌↔◌, inl, inr, Bool, true, false, cond, List, [], ◌∷◌, map, length, Contains, IsTrue, Option, None, Some, refl, ap, sym, ◌∙◌, subst}
use Rattle.std.specs.List.{list_any}
use Rattle.std.proofs.lemmas.Bool.{false≢true}
use Rattle.pc_sheet.specs.Sheet.{Sheet}
use Rattle.pc_sheet.specs.Entailment.{cell_sizes}
use Rattle.pc_sheet.specs.WellFormed.{IsWellFormed, IsEntryOf}
use Rattle.pc_sheet.specs.declared.ids.CellId.{CellId}
use Rattle.pc_sheet.specs.declared.ids.Entry.{Entry}
use Rattle.pc_sheet.specs.declared.ids.Target.{Target}
use Rattle.pc_parts.specs.Parts.{Part}
use Rattle.pc_parts.specs.Components.{parts_of}
use Rattle.pc_components.specs.View.{number_of}
use Rattle.pc_reason.specs.Reasons.{Justification}
use Rattle.pc_reason.specs.Targets.{IsTargetIn}
use Rattle.pc_justify_laws.specs.Reasons.{IsRowFor, IsJustifying}
use Rattle.pc_justify_laws.specs.Edits.{IsTakenOf, MayStay}
use Rattle.pc_justify_laws.specs.EditLaws.{OtherPartsStay}
use Rattle.pc_cache.specs.Rows.{TargetRow, HasRowOf, row_of}
use Rattle.pc_theory.specs.Targets.{targets_on}
use Rattle.pc_theory.specs.Theories.{rules_alone, TheoryView, IsTheory, IsPartNumbered}
use Rattle.pc_lemmas.proofs.Elements.{contains_mapped}
use Rattle.pc_theory.proofs.Lists.{all_in, among, at_contained}
use Rattle.pc_theory.proofs.OfRules.{division_here, base_here, consistent_by}
use Rattle.pc_theory.proofs.OnCells.{target_on}
use Rattle.pc_theory.proofs.OwnParts.{cell_of}
use Rattle.pc_theory.proofs.Changes.{compared}
use Rattle.pc_session.specs.Answers.{AreSpare, AreUnused}
use Rattle.pc_session.specs.inside.Sessions.{HavePlaces}
use Rattle.pc_session.specs.inside.Stale.{is_stale}
use Rattle.pc_session.proofs.TakenEntries.{formed_left, found_some, none_of, some_not_none}

-- ---- cells of entries

-- a cell of which some entry is taken away is one of the book's
pub taken_cell : (sheet : Sheet) (c : CellId) (gone : Entry → Bool) → IsWellFormed sheet → IsTakenOf c gone → list_any gone sheet.entries ≡ true → c.0 < length (cell_sizes sheet.universe)
taken_cell sheet c gone formed of_cell some =
    let from = found_some gone sheet.entries some in
    subst (λ (d : CellId). d.0 < length (cell_sizes sheet.universe)) (of_cell from.0 from.2) (cell_of sheet.universe from.0 (all_in (IsEntryOf sheet.universe) sheet.entries from.0 formed.entries.each from.1))

-- ---- reasons

row_has : (rows : List TargetRow) (t : Target) (j : Justification) → row_of rows t ≡ Some j → HasRowOf rows t
row_has [] t j row = absurd (cc)
row_has (r ∷ rs) t j row = elim (compared r.target t) [
  | inl is ↦ inl is
  | inr other ↦ inr (row_has rs t j (sym (ap (λ b. cond b r.row (row_of rs t)) other) ∙ row))
]

pub used_right : (gone : Entry → Bool) (rows : List TargetRow) (t : Target) → is_stale gone false (row_of rows t) ≡ true → ¬ AreUnused gone rows
used_right gone rows t is unused = by (row_of rows t) refl is
  where
    by : (o : Option Justification) → row_of rows t ≡ o → is_stale gone false o ≡ true → ⊥
    by None row is = false≢true is
    by (Some j) row is = some_not_none gone j.support is (unused t j row)

not_true : (b : Bool) → (b ≡ true → ⊥) → b ≡ false
not_true true none = absurd (none refl)
not_true false none = refl

module _ (others : OtherPartsStay) (sheet : Sheet) (theory : TheoryView) (rows : List TargetRow) (formed : IsWellFormed sheet) (known : IsTheory (rules_alone sheet) theory) (reasons : IsJustifying sheet (row_of rows)) (places : HavePlaces sheet rows)
    (c : CellId) (gone : Entry → Bool) (of_cell : IsTakenOf c gone) (i : ℕ) (p : Part) (cells : List CellId) (numbered : IsPartNumbered (rules_alone sheet) i p) (has : Contains p.cells c.0) (are : p.cells ≡ map number_of cells) where
  pub unused_right : ((t : Target) → Contains (targets_on (cell_sizes sheet.universe) cells) t → is_stale gone false (row_of rows t) ≡ true → ⊥) → AreUnused gone rows
  unused_right none t j row =
      let is : IsTargetIn sheet.universe t = (places t).0 (row_has rows t j row) in
      elim (among p.cells t.cell.0) [
        | inl on ↦
            let from = contains_mapped number_of cells t.cell.0 (subst (λ cs. Contains cs t.cell.0) are on) in
            let there : Contains cells t.cell = (let make : ℕ → CellId = λ n. record { 0 = n } in subst (Contains cells) (ap make from.2) from.1) in
            none_of gone j.support (not_true (list_any gone j.support) (λ uses. none t (target_on sheet.universe cells t there is) (ap (is_stale gone false) row ∙ uses)))
        | inr off ↦
            let stay = others sheet (parts_of sheet) p c gone [] t (division_here sheet known.division) (consistent_by sheet theory.base (base_here sheet theory.base known.base)) formed
            (formed_left gone sheet formed) (record { takes = of_cell; adds = inl refl }) (at_contained (parts_of (rules_alone sheet)) i p numbered) has is off in
            stay.1 j (subst (IsRowFor sheet t) row (reasons t is))
      ]

-- no reason rests on entries that are in no least support
pub spare_unused : (sheet : Sheet) (rows : List TargetRow) (gone : Entry → Bool) → HavePlaces sheet rows → IsJustifying sheet (row_of rows) → AreSpare sheet gone → AreUnused gone rows
spare_unused sheet rows gone places reasons spare t j row =
    let is : IsTargetIn sheet.universe t = (places t).0 (row_has rows t j row) in
    spare t j.support is (subst (IsRowFor sheet t) row (reasons t is)).least

-- what is told where some target's reason rests on an entry that is taken away, and only there
pub told : (used : Bool) (gone : Entry → Bool) (rows : List TargetRow) → (IsTrue used → ¬ AreUnused gone rows) → ((IsTrue used → ⊥) → AreUnused gone rows) → IsTrue used ↔ ¬ AreUnused gone rows
told true gone rows some none = (some, λ _. refl)
told false gone rows some none = (some, λ not_unused. absurd (not_unused (none false≢true)))

-- all that is known stays where no reason rests on them
pub unused_stays : (rows : List TargetRow) (gone : Entry → Bool) (cells : List ℕ) → AreUnused gone rows → (t : Target) → MayStay cells gone [] t (row_of rows t)
unused_stays rows gone cells unused t = by (row_of rows t) refl
  where
    by : (o : Option Justification) → row_of rows t ≡ o → MayStay cells gone [] t o
    by None row = inl refl
    by (Some j) row = inl (unused t j row)
