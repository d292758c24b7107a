-- An edit that is put in place leaves a session.
use Rattle.std.proofs.Common.{◌≡◌, ◌≢◌, ℕ, ◌+◌, ◌<◌, inl, inr, Bool, List, [], ◌∷◌, map, length, set, get_or, Contains, Some, slice_get, refl, arith, ap, sym, ◌∙◌, subst}
use Rattle.std.specs.List.{AllZip}
use Rattle.pc_sheet.specs.Sheet.{Sheet}
use Rattle.pc_sheet.specs.MaximalSets.{AreRulesConsistent}
use Rattle.pc_sheet.specs.WellFormed.{IsWellFormed}
use Rattle.pc_sheet.specs.declared.ids.CellId.{CellId}
use Rattle.pc_sheet.specs.declared.ids.Entry.{Entry}
use Rattle.pc_sheet.specs.declared.ids.Target.{Target}
use Rattle.pc_parts.specs.Parts.{Part}
use Rattle.pc_parts.specs.PartSheets.{sheet_of}
use Rattle.pc_parts.specs.Components.{parts_of}
use Rattle.pc_components.specs.View.{number_of}
use Rattle.pc_justify_laws.specs.Reasons.{IsRowFor, IsJustifying}
use Rattle.pc_justify_laws.specs.Edits.{IsEditOf, edited}
use Rattle.pc_justify_laws.specs.EditLaws.{EditedReasonsAreRight}
use Rattle.pc_justify_laws.proofs.OtherParts.{same_entries}
use Rattle.pc_cache.specs.Rows.{TargetRow, HasRowOf, HaveTargets, row_of, target_of}
use Rattle.pc_world_list.specs.Worlds.{WorldView, AreExact}
use Rattle.pc_search.specs.Parts.{AreWorldsOf}
use Rattle.pc_theory.specs.Theories.{rules_alone, TheoryView, IsTheory, IsPartNumbered}
use Rattle.pc_theory.specs.Spendings.{IsSpendingOf}
use Rattle.pc_lemmas.proofs.Elements.{contains_first, contains_later, contains_map, contains_mapped}
use Rattle.pc_lemmas.proofs.Options.{same_some}
use Rattle.pc_theory.proofs.Lists.{at_contained, place_of, zip_at, zip_from, zip_length}
use Rattle.pc_session.proofs.Places.{get_at, get_set_other, get_set_same, set_length}
use Rattle.pc_theory.proofs.OfRules.{division_here, base_here, consistent_by}
use Rattle.pc_theory.proofs.OfWhole.{all_searched}
use Rattle.pc_theory.proofs.OwnParts.{apart_at as parts_apart}
use Rattle.pc_theory.proofs.Parted.{as_many, part_is, part_there, number_within}
use Rattle.std.proofs.lemmas.Bool.{cases_eq}
use Rattle.pc_session.specs.Views.{counts_of, IsTallyOf}
use Rattle.pc_session.specs.inside.Sessions.{HavePlaces, IsSession}
use Rattle.pc_session.specs.inside.Edits.{after, AreChanges, IsMade}
use Rattle.pc_session.specs.Answers.{Steps, Stay, OthersStay}
use Rattle.pc_session.specs.declared.edit.Edit.{Edit}

-- ---- parts

-- parts at different places are apart
pub apart_at : (sheet : Sheet) (theory : TheoryView) → IsTheory (rules_alone sheet) theory → (i j : ℕ) (p q : Part) → IsPartNumbered (rules_alone sheet) i p → IsPartNumbered (rules_alone sheet) j q → i ≢ j → (c : ℕ) → Contains p.cells c → ¬ Contains q.cells c
apart_at sheet theory known = parts_apart (parts_of (rules_alone sheet)) known.division.apart

-- the worlds of a part without the cell stay
worlds_stay : (sheet : Sheet) (c : CellId) (gone : Entry → Bool) (added : List Entry) (p : Part) (ws : List WorldView) → IsEditOf c gone added → ¬ Contains p.cells c.0 → AreWorldsOf sheet p ws → AreWorldsOf (edited sheet gone added) p ws
worlds_stay sheet c gone added p ws is_edit off h =
    let P : List Entry → Type 0 = λ es. AreExact (record (sheet_of sheet p) { entries = es }) ws in
    record { exact = subst P (sym (same_entries p.cells c off gone sheet.entries added is_edit)) h.exact; fit = h.fit }

-- ---- the changes have places

pub have_targets : (rows changes : List TargetRow) → ((r : TargetRow) → Contains changes r → HasRowOf rows r.target) → HaveTargets rows changes
have_targets rows [] h = tt
have_targets rows (r ∷ rs) h = (h r (contains_first r rs), have_targets rows rs (λ s has. h s (contains_later r rs s has)))

first_same : {x y : Target} {xs ys : List Target} → x ∷ xs ≡ y ∷ ys → x ≡ y
first_same is = cc

rest_same : {x y : Target} {xs ys : List Target} → x ∷ xs ≡ y ∷ ys → xs ≡ ys
rest_same is = cc

none_same : {x : Target} {xs : List Target} → [] ≡ x ∷ xs → ⊥
none_same is = cc

same_targets : (old new : List TargetRow) (t : Target) → map target_of new ≡ map target_of old → HasRowOf old t → HasRowOf new t
same_targets [] new t same h = absurd h
same_targets (r ∷ rs) [] t same h = absurd (none_same same)
same_targets (r ∷ rs) (s ∷ ss) t same h = elim h [ inl here ↦ inl (first_same same ∙ here) | inr later ↦ inr (same_targets rs ss t (rest_same same) later) ]

pub places_stay : (sheet : Sheet) (old new : List TargetRow) → map target_of new ≡ map target_of old → HavePlaces sheet old → HavePlaces sheet new
places_stay sheet old new same places t = (λ h. (places t).0 (same_targets new old t (sym same) h), λ is. same_targets old new t same ((places t).1 is))

-- ---- the session

module _ (sheet : Sheet) (theory : TheoryView) (worlds : List (List WorldView)) (rows : List TargetRow) (session : IsSession sheet theory worlds rows) (formed : IsWellFormed sheet) where
  pub consistent : AreRulesConsistent sheet
  consistent = consistent_by sheet theory.base (base_here sheet theory.base session.known.base)

  -- there are worlds for each part
  pub as_many_worlds : length worlds ≡ length theory.components.cells
  as_many_worlds = omega (arith, zip_length (AreWorldsOf sheet) (parts_of (rules_alone sheet)) worlds session.worlds_of, as_many sheet theory.components (all_searched (rules_alone sheet) theory.components session.known.components))

  pub world_at : (i : ℕ) (p : Part) (d : List WorldView) → i < length worlds → IsPartNumbered (rules_alone sheet) i p → AreWorldsOf sheet p (get_or worlds i d)
  world_at i p d below at = zip_at (AreWorldsOf sheet) (parts_of (rules_alone sheet)) worlds i p (get_or worlds i d) session.worlds_of at (get_at worlds i d below)

  pub index_within : (i : ℕ) → i < length theory.components.cells → i < length worlds
  index_within i below = omega (arith, as_many_worlds, below)

  module _ (c : CellId) (gone : Entry → Bool) (added : List Entry) (is_edit : IsEditOf c gone added) (number : ℕ) (part : Part) (numbered : IsPartNumbered (rules_alone sheet) number part) (on_part : Contains part.cells c.0)
      (ws : List WorldView) (worlds_of : AreWorldsOf (edited sheet gone added) part ws) (changes : List TargetRow) (most : ℕ) (changes_are : AreChanges sheet rows gone added part.cells changes most) where
    abbrev new : Sheet
    new = edited sheet gone added

    pub number_in : number < length worlds
    number_in = omega (arith, as_many_worlds, number_within sheet theory.components (all_searched (rules_alone sheet) theory.components session.known.components) number part numbered)

    worlds_after : AllZip (AreWorldsOf new) (parts_of (rules_alone new)) (set worlds number ws)
    worlds_after =
        zip_from (AreWorldsOf new) [] (parts_of (rules_alone new)) (set worlds number ws) (omega (arith, set_length worlds number ws, zip_length (AreWorldsOf sheet) (parts_of (rules_alone sheet)) worlds session.worlds_of))
        (λ j p below at. elim (cases_eq j number) [
          | inl is ↦
              let same : part ≡ p = same_some (sym numbered ∙ (ap (slice_get (parts_of (rules_alone sheet))) (sym is) ∙ at)) in
              let here : get_or (set worlds number ws) j [] ≡ ws = ap (λ k. get_or (set worlds number ws) k []) is ∙ get_set_same worlds number ws [] number_in in
              subst (AreWorldsOf new p) (sym here) (subst (λ q. AreWorldsOf new q ws) same worlds_of)
          | inr other ↦
              let off = apart_at sheet theory session.known number j part p numbered at (λ is. other (sym is)) c.0 on_part in
              subst (AreWorldsOf new p) (sym (get_set_other worlds number j ws [] other))
              (worlds_stay sheet c gone added p (get_or worlds j []) is_edit off (world_at j p [] (omega (arith, below, set_length worlds number ws)) at))
        ])

    reasons_after : EditedReasonsAreRight → IsWellFormed new → IsJustifying new (after rows changes)
    reasons_after law formed_after =
        law sheet (parts_of sheet) part c gone added (row_of rows) (after rows changes) (division_here sheet session.known.division) consistent formed formed_after is_edit
        (at_contained (parts_of (rules_alone sheet)) number part numbered) on_part session.reasons changes_are.each

    pub placed_session : EditedReasonsAreRight → IsWellFormed new → (rows_after : List TargetRow) → map target_of rows_after ≡ map target_of rows → ((t : Target) → row_of rows_after t ≡ after rows changes t)
        → IsSession new theory (set worlds number ws) rows_after
    placed_session law formed_after rows_after targets rows_are = record {
      light = session.light;
      known = known_after;
      worlds_of = worlds_after;
      places = places_stay sheet rows rows_after targets session.places;
      reasons = λ t is. subst (IsRowFor new t) (sym (rows_are t)) (reasons_after law formed_after t is);
    }
      where
        known_after : IsTheory (rules_alone new) theory
        known_after = session.known

    -- ---- what stays

    module _ (rows_after : List TargetRow) (rows_are : (t : Target) → row_of rows_after t ≡ after rows changes t) where
      pub rows_stay : Stay gone rows rows_after
      rows_stay t j row lacks = rows_are t ∙ changes_are.stays t j row lacks

      pub others_stay : OthersStay c theory.components rows rows_after
      others_stay cells t listed has off =
          let p = place_of theory.components.cells cells listed in
          let are = part_is sheet theory.components (all_searched (rules_alone sheet) theory.components session.known.components) in
          rows_are t ∙ changes_are.others t (by p.0 p.1)
        where
          make : ℕ → CellId
          make n = record { 0 = n }

          by : (i : ℕ) → slice_get theory.components.cells i ≡ Some cells → ¬ Contains part.cells t.cell.0
          by i at on = elim (cases_eq i number) [
            | inl is ↦
                let same = part_is sheet theory.components (all_searched (rules_alone sheet) theory.components session.known.components) i cells at part (ap (slice_get (parts_of (rules_alone sheet))) is ∙ numbered) in
                let from = contains_mapped number_of cells t.cell.0 (subst (λ cs. Contains cs t.cell.0) same on) in
                off (subst (Contains cells) (let e : from.0 ≡ t.cell = (let make : ℕ → CellId = λ n. record { 0 = n } in ap make from.2) in e) from.1)
            | inr other ↦
                let there = part_there_of i at in
                apart_at sheet theory session.known i number there.0 part there.1 numbered other c.0
                (subst (λ cs. Contains cs c.0) (sym there.2) (contains_map number_of cells c has)) on_part
          ]
            where
              part_there_of : (i : ℕ) → slice_get theory.components.cells i ≡ Some cells → (p : Part) × IsPartNumbered (rules_alone sheet) i p × (p.cells ≡ map number_of cells)
              part_there_of i at = part_there sheet theory.components (all_searched (rules_alone sheet) theory.components session.known.components) i cells at

-- the edit has been put in place
pub done : EditedReasonsAreRight → (sheet : Sheet) (theory : TheoryView) (worlds : List (List WorldView)) (rows : List TargetRow) (session : IsSession sheet theory worlds rows) (formed : IsWellFormed sheet)
    (c : CellId) (gone : Entry → Bool) (added : List Entry) (limit : ℕ) (edit : Edit) → IsEditOf c gone added → (book : Sheet) → book ≡ edited sheet gone added → IsWellFormed book → IsMade sheet rows c gone added limit edit
    → (rows_after : List TargetRow) → map target_of rows_after ≡ map target_of rows → ((t : Target) → row_of rows_after t ≡ after rows edit.patch.rows t)
    → IsSession book theory (set worlds edit.part edit.worlds) rows_after × IsTallyOf book (Some c) limit (counts_of edit.spending.tally)
    × Stay gone rows rows_after × OthersStay c theory.components rows rows_after × Steps rows rows_after (counts_of edit.spending.tally)
done law sheet theory worlds rows session formed c gone added limit edit is_edit book is_book formed_after made rows_after targets rows_are = (
  subst (λ b. IsSession b theory (set worlds edit.part edit.worlds) rows_after) (sym is_book)
      (placed_session sheet theory worlds rows session formed c gone added is_edit edit.part made.part made.numbered made.has edit.worlds made.worlds_of edit.patch.rows (edit.spending.tally.learned + edit.spending.tally.calls) made.changes_are law
      (subst IsWellFormed is_book formed_after) rows_after targets rows_are),
  (edit.spending, subst (λ b. IsSpendingOf b (Some c) edit.spending) (sym is_book) made.spends, made.limited, made.spare, refl),
  rows_stay sheet theory worlds rows session formed c gone added is_edit edit.part made.part made.numbered made.has edit.worlds made.worlds_of edit.patch.rows (edit.spending.tally.learned + edit.spending.tally.calls) made.changes_are rows_after rows_are,
  others_stay sheet theory worlds rows session formed c gone added is_edit edit.part made.part made.numbered made.has edit.worlds made.worlds_of edit.patch.rows (edit.spending.tally.learned + edit.spending.tally.calls) made.changes_are rows_after rows_are,
  λ t j row. made.changes_are.steps t j (sym (rows_are t) ∙ row),
)

-- where the edit may be put in place: its part has worlds, and its changes have places
pub part_within : (sheet : Sheet) (theory : TheoryView) (worlds : List (List WorldView)) (rows : List TargetRow) (session : IsSession sheet theory worlds rows) (formed : IsWellFormed sheet)
    (c : CellId) (gone : Entry → Bool) (added : List Entry) (limit : ℕ) (edit : Edit) → IsEditOf c gone added → IsMade sheet rows c gone added limit edit → edit.part < length worlds
part_within sheet theory worlds rows session formed c gone added limit edit is_edit made =
    number_in sheet theory worlds rows session formed c gone added is_edit edit.part made.part made.numbered made.has edit.worlds made.worlds_of edit.patch.rows (edit.spending.tally.learned + edit.spending.tally.calls) made.changes_are

pub changes_placed : (sheet : Sheet) (rows : List TargetRow) → HavePlaces sheet rows → (c : CellId) (gone : Entry → Bool) (added : List Entry) (limit : ℕ) (edit : Edit) → IsMade sheet rows c gone added limit edit → HaveTargets rows edit.patch.rows
changes_placed sheet rows places c gone added limit edit made = have_targets rows edit.patch.rows (λ r has. (places r.target).1 (made.changes_are.targets r has))
