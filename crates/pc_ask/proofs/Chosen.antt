-- Assignments that are joined of some parts' own: they fit, and what can stand together on these parts is had by one of them.
use Rattle.std.proofs.Common.{◌≡◌, ◌≢◌, ℕ, ◌*◌, ◌<◌, ◌⊎◌, inl, inr, List, [], ◌∷◌, length, map, slice_get, AllPairs, Contains, arith, ap, refl, sym, ◌∙◌, subst, length-append, suc-mul, zero-mul}
use Rattle.std.specs.List.{AllZip}
use Rattle.std.proofs.lemmas.Bool.{cases_Bool, false≢true}
use Rattle.std.proofs.lemmas.List.{length-map}
use Rattle.std.proofs.lemmas.List.Elements.{All-contains, Contains-append_left, Contains-append_right, Contains-append_cases}
use Rattle.std.proofs.lemmas.List.Kept.{AllPairs-filter}
use Rattle.pc_sheet.specs.Sheet.{Sheet}
use Rattle.pc_sheet.specs.Entailment.{cell_sizes, IsAssignment, Fits, Shows, HasEntry, IsConsistent, IsSublist}
use Rattle.pc_sheet.specs.Sizes.{product}
use Rattle.pc_sheet.specs.WellFormed.{IsWellFormed, AreDifferent}
use Rattle.pc_sheet.specs.declared.ids.CellId.{CellId}
use Rattle.pc_sheet.specs.declared.ids.ValueId.{ValueId}
use Rattle.pc_sheet.specs.declared.ids.Entry.{Entry}
use Rattle.pc_lemmas.proofs.Elements.{contains_first, contains_later, contains_cases, contains_none, contains_mapped, contains_map, kept}
use Rattle.pc_laws.proofs.Contained.{sub_filtered}
use Rattle.pc_laws.proofs.Maximal.{in_maximal}
use Rattle.pc_parts.specs.Laws.{AreDivided}
use Rattle.pc_parts.specs.Parts.{Part, AreApart, IsDivision}
use Rattle.pc_parts.specs.Components.{parts_of}
use Rattle.pc_parts.specs.PartSheets.{is_among, is_on, entries_on, sheet_of}
use Rattle.pc_parts.proofs.Consistent.{consistent_part, has_entry_still}
use Rattle.pc_parts.proofs.Divided.{apart_first, apart_rest, same_part}
use Rattle.pc_parts.proofs.Dividing.{parts_are_a_division}
use Rattle.pc_parts.proofs.PartsCells.{parts_are_of_its_cells}
use Rattle.pc_parts.proofs.Found.{parts_are_found}
use Rattle.pc_parts.proofs.Joining.{among_contains, contains_among}
use Rattle.pc_parts.proofs.LawsHold.{divisions_divide}
use Rattle.pc_world_list.specs.Worlds.{WorldView, set_of}
use Rattle.pc_world_list.specs.Choices.{cell_number}
use Rattle.pc_reason.specs.Fitting.{IsFitting}
use Rattle.pc_repairs.specs.inside.Joining.{IsPartSets, all_laid, joined_by, laid_by_world, laid_over, many_sets}
use Rattle.pc_repairs.specs.declared.part_sets.PartSets.{PartSets}
use Rattle.pc_repairs.proofs.Laid.{laid_here, laid_there, laid_within}

-- ---- how many there are

laid_many : (all : List (List ValueId)) (cells : List CellId) (ws : List WorldView) → length (laid_by_world all cells ws) ≡ length ws * length all
laid_many all cells [] = sym (zero-mul (length all))
laid_many all cells (w ∷ ws) =
    omega (arith, length-append (all_laid all cells w.shown) (laid_by_world all cells ws), length-map all (λ (values : List ValueId). laid_over values cells w.shown), laid_many all cells ws, suc-mul (length ws) (length all))

pub joined_many : (fitting : List ValueId) (qs : List PartSets) → length (joined_by fitting qs) ≡ product (map many_sets qs)
joined_many fitting [] = refl
joined_many fitting (q ∷ qs) = laid_many (joined_by fitting qs) q.cells.now q.sets.now ∙ ap (λ n. length q.sets.now * n) (joined_many fitting qs)

-- ---- one of them

laid_back : (all : List (List ValueId)) (cells : List CellId) (ws : List WorldView) (a : List ValueId) → Contains (laid_by_world all cells ws) a
    → (w : WorldView) × Contains ws w × (v : List ValueId) × Contains all v × (laid_over v cells w.shown ≡ a)
laid_back all cells [] a c = absurd (contains_none a c)
laid_back all cells (w ∷ ws) a c = elim (Contains-append_cases (all_laid all cells w.shown) (laid_by_world all cells ws) a c) [
  | inl here ↦ let m = contains_mapped (λ (v : List ValueId). laid_over v cells w.shown) all a here in (w, contains_first w ws, m.0, m.1, m.2)
  | inr later ↦ let r = laid_back all cells ws a later in (r.0, contains_later w ws r.0 r.1, r.2, r.3, r.4)
]

laid_made : (all : List (List ValueId)) (cells : List CellId) (ws : List WorldView) (w : WorldView) (v : List ValueId) → Contains ws w → Contains all v → Contains (laid_by_world all cells ws) (laid_over v cells w.shown)
laid_made all cells [] w v there among = absurd (contains_none w there)
laid_made all cells (x ∷ ws) w v there among = elim (contains_cases x ws w there) [
  | inl is ↦ Contains-append_left (all_laid all cells x.shown) (laid_by_world all cells ws) (laid_over v cells w.shown)
      (subst (λ (y : WorldView). Contains (all_laid all cells x.shown) (laid_over v cells y.shown)) is (contains_map (λ (values : List ValueId). laid_over values cells x.shown) all v among))
  | inr later ↦ Contains-append_right (all_laid all cells x.shown) (laid_by_world all cells ws) (laid_over v cells w.shown) (laid_made all cells ws w v later among)
]

-- two lists of cells have a cell in common, or none
pub shared : (cells others : List ℕ) → ((c : ℕ) × Contains cells c × Contains others c) ⊎ ((c : ℕ) → Contains cells c → ¬ Contains others c)
shared [] others = inr (λ c h. absurd (contains_none c h))
shared (d ∷ ds) others = elim (cases_Bool (is_among others d)) [
  | inl is ↦ inl (d, contains_first d ds, among_contains others d is)
  | inr lacks ↦ elim (shared ds others) [
    | inl found ↦ inl (found.0, contains_later d ds found.0 found.1, found.2)
    | inr none ↦ inr (λ c h both. elim (contains_cases d ds c h) [
      | inl same ↦ false≢true (sym lacks ∙ contains_among others d (subst (Contains others) (sym same) both))
      | inr later ↦ none c later both
    ])
  ]
]

module _ (sheet : Sheet) (formed : IsWellFormed sheet) (fitting : List ValueId) (fit : IsFitting sheet fitting) where
  abbrev parts : List Part
  parts = parts_of sheet

  abbrev sizes : List ℕ
  sizes = cell_sizes sheet.universe

  pub division_is : IsDivision sheet (parts_of sheet)
  division_is = parts_are_a_division sheet (parts_of sheet) formed (parts_are_found sheet formed)

  pub divided_is : AreDivided sheet (parts_of sheet)
  divided_is = divisions_divide sheet (parts_of sheet) division_is

  within : (p : Part) → Contains parts p → (x : ℕ) → Contains p.cells x → x < length sizes
  within p there x on = parts_are_of_its_cells sheet parts formed (parts_are_found sheet formed) p there x on

  -- ---- one part more

  module _ (p : Part) (there : Contains parts p) (q : PartSets) (are : IsPartSets sheet p q) (w : WorldView) (has : Contains q.sets.now w) where
    own : Shows (sheet_of sheet p) w.entries w.shown
    own = All-contains (λ v. Shows (sheet_of sheet p) v.entries v.shown) q.sets.now w are.exact.shown has

    on_cells : (x : ℕ) → Contains p.cells x → Contains (map cell_number q.cells.now) x
    on_cells x on = subst (λ ns. Contains ns x) (sym are.cells_are) on

    off_cells : (x : ℕ) → ¬ Contains p.cells x → ¬ Contains (map cell_number q.cells.now) x
    off_cells x off on = off (subst (λ ns. Contains ns x) are.cells_are on)

    over_within : (v : List ValueId) → IsAssignment sheet.universe v → IsAssignment sheet.universe (laid_over v q.cells.now w.shown)
    over_within v assigns = laid_within sizes v q.cells.now w.shown assigns own.assigns

    over_here : (v : List ValueId) → IsAssignment sheet.universe v → (x : ℕ) → Contains p.cells x → slice_get (laid_over v q.cells.now w.shown) x ≡ slice_get w.shown x
    over_here v assigns x on = laid_here sizes v q.cells.now w.shown x assigns own.assigns (within p there x on) (on_cells x on)

    over_there : (v : List ValueId) (x : ℕ) → ¬ Contains p.cells x → slice_get (laid_over v q.cells.now w.shown) x ≡ slice_get v x
    over_there v x off = laid_there v q.cells.now w.shown x (off_cells x off)

    over_fits : (v : List ValueId) → IsAssignment sheet.universe v → Fits sheet v → Fits sheet (laid_over v q.cells.now w.shown)
    over_fits v assigns fits =
        let new : List ValueId = laid_over v q.cells.now w.shown in
        (divided_is.fits new).1 (λ r r_there. elim (shared r.cells p.cells) [
          | inl both ↦
              let same : p ≡ r = same_part parts division_is.apart p r there r_there both.0 both.2 both.1 in
              subst (λ (s : Part). Fits (sheet_of sheet s) new) same (divided_is.own p there w.shown new own.assigns (λ x on. sym (over_here v assigns x on)) own.fits)
          | inr none ↦ divided_is.own r r_there v new assigns (λ x on. sym (over_there v x (none x on))) ((divided_is.fits v).0 fits r r_there)
        ])

  -- ---- some parts

  pub joined_fit : (ps : List Part) (qs : List PartSets) → ((p : Part) → Contains ps p → Contains parts p) → AllZip (IsPartSets sheet) ps qs
      → (a : List ValueId) → Contains (joined_by fitting qs) a → IsAssignment sheet.universe a × Fits sheet a
  joined_fit [] [] there z a c = elim (contains_cases fitting [] a c) [
    | inl is ↦ subst (λ b. IsAssignment sheet.universe b × Fits sheet b) is (fit.assigns, fit.fits)
    | inr none ↦ absurd (contains_none a none)
  ]
  joined_fit [] (q ∷ qs) there z a c = absurd z
  joined_fit (p ∷ ps) [] there z a c = absurd z
  joined_fit (p ∷ ps) (q ∷ qs) there z a c =
      let back = laid_back (joined_by fitting qs) q.cells.now q.sets.now a c in
      let rest = joined_fit ps qs (λ r h. there r (contains_later p ps r h)) z.1 back.2 back.3 in
      let here = there p (contains_first p ps) in
      subst (λ b. IsAssignment sheet.universe b × Fits sheet b) back.4
      (over_within p here q z.0 back.0 back.1 back.2 rest.0, over_fits p here q z.0 back.0 back.1 back.2 rest.0 rest.1)

  module _ (t : List Entry) (sub : IsSublist sheet.entries t) (consistent : IsConsistent sheet t) where
    abbrev Has : List Part → List ValueId → Type 0
    Has ps a = (p : Part) → Contains ps p → (e : Entry) → Contains t e → Contains p.cells e.cell.0 → HasEntry a e

    -- a world of the part that has what the entries have there
    own_world : (p : Part) → Contains parts p → (q : PartSets) → IsPartSets sheet p q → (w : WorldView) × Contains q.sets.now w × ((e : Entry) → Contains t e → Contains p.cells e.cell.0 → HasEntry w.shown e)
    own_world p there q are =
        let on : List Entry = entries_on p.cells t in
        let distinct : AreDifferent (sheet_of sheet p).entries = AllPairs-filter (λ (x y : Entry). x ≢ y) (is_on p.cells) sheet.entries formed.entries.distinct in
        let m = in_maximal (sheet_of sheet p) on distinct (sub_filtered (is_on p.cells) sheet.entries t sub) (consistent_part sheet parts division_is p there t consistent) in
        let w = contains_mapped set_of q.sets.now m.0 ((are.exact.sets.exact m.0).1 m.1) in
        let shows = own p there q are w.0 w.1 in (
          w.0,
          w.1,
          λ e among on_part. All-contains (HasEntry w.0.shown) w.0.entries e shows.has
              (subst (λ s. Contains s e) (sym w.2) (m.2 e (kept (is_on p.cells) t e among (contains_among p.cells e.cell.0 on_part)))),
        )

    pub joined_has : (ps : List Part) (qs : List PartSets) → ((p : Part) → Contains ps p → Contains parts p) → AllPairs AreApart ps → AllZip (IsPartSets sheet) ps qs
        → (a : List ValueId) × Contains (joined_by fitting qs) a × Has ps a
    joined_has [] [] there apart z = (fitting, contains_first fitting [], λ p c. absurd (contains_none p c))
    joined_has [] (q ∷ qs) there apart z = absurd z
    joined_has (p ∷ ps) [] there apart z = absurd z
    joined_has (p ∷ ps) (q ∷ qs) there apart z =
        let later = λ (r : Part) (h : Contains ps r). there r (contains_later p ps r h) in
        let rest = joined_has ps qs later (apart_rest p ps apart) z.1 in
        let v : List ValueId = rest.0 in
        let assigns = (joined_fit ps qs later z.1 v rest.1).0 in
        let here = there p (contains_first p ps) in
        let w = own_world p here q z.0 in (
          laid_over v q.cells.now w.0.shown,
          laid_made (joined_by fitting qs) q.cells.now q.sets.now w.0 v w.1 rest.1,
          λ r c e among on. elim (contains_cases p ps r c) [
            | inl is ↦
                let on_p : Contains p.cells e.cell.0 = subst (λ (s : Part). Contains s.cells e.cell.0) (sym is) on in
                has_entry_still w.0.shown (laid_over v q.cells.now w.0.shown) e (sym (over_here p here q z.0 w.0 w.1 v assigns e.cell.0 on_p)) (w.2 e among on_p)
            | inr behind ↦
                has_entry_still v (laid_over v q.cells.now w.0.shown) e (sym (over_there p here q z.0 w.0 w.1 v e.cell.0 (λ h. apart_first p ps apart r behind e.cell.0 h on))) (rest.2 r behind e among on)
          ],
        )
