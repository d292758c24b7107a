-- An edit of a cell's entry leaves the other parts' sheets, and so what they imply, as they are.
use Rattle.std.proofs.Common.{◌≡◌, ℕ, ◌<◌, inl, inr, Bool, true, false, cond, not, List, [], ◌∷◌, ◌++◌, filter, Contains, ap, refl, sym, ◌∙◌, subst}
use Rattle.std.proofs.lemmas.Bool.{cases_Bool}
use Rattle.std.proofs.lemmas.List.{append-nil}
use Rattle.std.proofs.lemmas.List.Elements.{filter-append, filter_passes, All-contains}
use Rattle.pc_sheet.specs.Sheet.{Sheet}
use Rattle.pc_sheet.specs.Entailment.{cell_sizes, IsImplied, IsLeastSupport}
use Rattle.pc_sheet.specs.MaximalSets.{AreRulesConsistent}
use Rattle.pc_sheet.specs.WellFormed.{IsWellFormed}
use Rattle.pc_sheet.specs.declared.ids.CellId.{CellId}
use Rattle.pc_sheet.specs.declared.ids.Entry.{Entry}
use Rattle.pc_sheet.specs.declared.ids.Target.{Target}
use Rattle.pc_laws.proofs.Contained.{sub_contained}
use Rattle.pc_parts.specs.Parts.{Part, IsDivision}
use Rattle.pc_parts.specs.PartSheets.{is_on, entries_on, sheet_of}
use Rattle.pc_parts.proofs.Consistent.{place_below}
use Rattle.pc_parts.proofs.Divided.{same_part}
use Rattle.pc_lemmas.proofs.Elements.{all_from}
use Rattle.pc_parts.proofs.Joining.{among_contains}
use Rattle.pc_parts.proofs.LawsHold.{answers_are_of_parts}
use Rattle.pc_justify_laws.specs.Edits.{HasNone, IsTakenOf, IsAdded, IsEditOf, edited}
use Rattle.pc_justify_laws.specs.EditLaws.{OtherPartsStay}

-- ---- entries on cells among which the edited one isn't

module _ (cells : List ℕ) (c : CellId) (outside : ¬ Contains cells c.0) where
  -- an entry of the cell isn't on these cells
  off : (e : Entry) → e.cell ≡ c → is_on cells e ≡ false
  off e is = elim (cases_Bool (is_on cells e)) [
    | inl on ↦ absurd (outside (subst (λ (d : CellId). Contains cells d.0) is (among_contains cells e.cell.0 on)))
    | inr lacks ↦ lacks
  ]

  same_without : (gone : Entry → Bool) → IsTakenOf c gone → (es : List Entry) → entries_on cells (filter (λ e. not (gone e)) es) ≡ entries_on cells es
  same_without gone of_cell [] = refl
  same_without gone of_cell (e ∷ es) = by (gone e) refl (same_without gone of_cell es)
    where
      by : (b : Bool) → gone e ≡ b → entries_on cells (filter (λ x. not (gone x)) es) ≡ entries_on cells es → entries_on cells (cond (not b) (e ∷ filter (λ x. not (gone x)) es) (filter (λ x. not (gone x)) es)) ≡ entries_on cells (e ∷ es)
      by true is rest = rest ∙ sym (ap (λ t. cond t (e ∷ entries_on cells es) (entries_on cells es)) (off e (of_cell e is)))
      by false is rest = ap (λ rs. cond (is_on cells e) (e ∷ rs) rs) rest

  none_added : (added : List Entry) → IsAdded c added → entries_on cells added ≡ []
  none_added added (inl none) = ap (entries_on cells) none
  none_added added (inr (e, is, of_cell)) = ap (entries_on cells) is ∙ ap (λ t. cond t (e ∷ []) []) (off e of_cell)

  pub same_entries : (gone : Entry → Bool) (es added : List Entry) → IsEditOf c gone added → entries_on cells (filter (λ e. not (gone e)) es ++ added) ≡ entries_on cells es
  same_entries gone es added edit =
      filter-append (is_on cells) (filter (λ e. not (gone e)) es) added
      ∙ (ap (λ more. entries_on cells (filter (λ e. not (gone e)) es) ++ more) (none_added added edit.adds) ∙ (append-nil (entries_on cells (filter (λ e. not (gone e)) es)) ∙ same_without gone edit.takes es))

-- ---- the parts of a sheet are those of each sheet with the same rules

pub division_there : (sheet : Sheet) (parts : List Part) (xs : List Entry) → IsDivision sheet parts → IsDivision (record sheet { entries = xs }) parts
division_there sheet parts xs d = record { every_cell = d.every_cell; apart = d.apart; every_piece = d.every_piece; pieces = d.pieces; reads = d.reads }

-- ---- a target of another part

module _ (sheet : Sheet) (parts : List Part) (part q : Part) (c : CellId) (t : Target) (division : IsDivision sheet parts) (rules : AreRulesConsistent sheet)
    (in_parts : Contains parts part) (q_in_parts : Contains parts q) (on_part : Contains part.cells c.0) (off_part : ¬ Contains part.cells t.cell.0) (on_q : Contains q.cells t.cell.0) where
  -- the edited cell isn't in its part
  outside : ¬ Contains q.cells c.0
  outside on = off_part (let P : Part → Type 0 = λ x. Contains x.cells t.cell.0 in subst P (sym (same_part parts division.apart part q in_parts q_in_parts c.0 on_part on)) on_q)

  implied_there : (xs : List Entry) → IsWellFormed (record sheet { entries = xs }) → IsImplied (record sheet { entries = xs }) t → IsImplied (sheet_of (record sheet { entries = xs }) q) t
  implied_there xs formed = ((answers_are_of_parts (record sheet { entries = xs }) parts (division_there sheet parts xs division) rules formed.entries).implied q q_in_parts t on_q).0

  none_there : (gone : Entry → Bool) (added : List Entry) → IsEditOf c gone added → IsWellFormed sheet → IsWellFormed (edited sheet gone added) → ¬ IsImplied sheet t → ¬ IsImplied (edited sheet gone added) t
  none_there gone added edit formed formed_after none implied =
      let there = implied_there (filter (λ e. not (gone e)) sheet.entries ++ added) formed_after implied in
      let P : List Entry → Type 0 = λ es. IsImplied (record (sheet_of sheet q) { entries = es }) t in
      let here = subst P (same_entries q.cells c outside gone sheet.entries added edit) there in
      none (((answers_are_of_parts sheet parts division rules formed.entries).implied q q_in_parts t on_q).1 here)

  support_lacks : (gone : Entry → Bool) → IsTakenOf c gone → IsWellFormed sheet → (s : List Entry) → IsLeastSupport sheet s t → HasNone gone s
  support_lacks gone of_cell formed s least =
      let own = ((answers_are_of_parts sheet parts division rules formed.entries).least q q_in_parts t on_q s).0 least in
      all_from (λ e. gone e ≡ false) s (λ e in_s. elim (cases_Bool (gone e)) [
        | inl is ↦
            let on = All-contains (λ f. is_on q.cells f ≡ true) (entries_on q.cells sheet.entries) e (filter_passes (is_on q.cells) sheet.entries) (sub_contained (entries_on q.cells sheet.entries) s own.supports.among e in_s) in
            absurd (outside (subst (λ (d : CellId). Contains q.cells d.0) (of_cell e is) (among_contains q.cells e.cell.0 on)))
        | inr lacks ↦ lacks
      ])

pub other_parts_stay : OtherPartsStay
other_parts_stay sheet parts part c gone added t division rules formed formed_after edit in_parts on_part is_target off_part =
    let found = division.every_cell t.cell.0 (place_below (cell_sizes sheet.universe) t.cell.0 (λ n. t.value.0 < n) is_target) in (
      none_there sheet parts part found.0 c t division rules in_parts found.1 on_part off_part found.2 gone added edit formed formed_after,
      λ r is. support_lacks sheet parts part found.0 c t division rules in_parts found.1 on_part off_part found.2 gone edit.takes formed r.support is.least,
    )
