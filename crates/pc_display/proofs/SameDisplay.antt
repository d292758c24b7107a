-- Two reasonings of a sheet give the same displays, since least supports are unique.
use Rattle.std.proofs.Common.{◌≡◌, ℕ, zero, suc, ◌<◌, Bool, true, ◌||◌, List, [], ◌∷◌, ◌++◌, codes, length, map, Option, None, Some, is_some, All, arith, refl, sym, ◌∙◌, ap, ap₂, inl, inr}
use Rattle.std.specs.List.{flat_map, list_any}
use Rattle.std.proofs.lemmas.List.{map-append}
use Rattle.std.proofs.lemmas.List.Elements.{All-head, All-tail}
use Rattle.std.proofs.lemmas.List.Concat.{flat_map-append}
use Rattle.serde_json.specs.Data.{Data}
use Rattle.serde_json.specs.Written.{compact_text}
use Rattle.pc_laws.proofs.Assignments.{implication_decided}
use Rattle.pc_laws.proofs.Least.{one_least}
use Rattle.pc_sheet.proofs.CellsListed.{cells_are_numbered}
use Rattle.pc_sheet.specs.Sheet.{Sheet}
use Rattle.pc_sheet.specs.Sizes.{size_of}
use Rattle.pc_sheet.specs.Cells.{cells, values_below}
use Rattle.pc_sheet.specs.Entailment.{cell_sizes, opposite_of}
use Rattle.pc_sheet.specs.WellFormed.{entries_of, IsWellFormed, IsEntryOf}
use Rattle.pc_sheet.specs.declared.ids.CellId.{CellId}
use Rattle.pc_sheet.specs.declared.ids.ValueId.{ValueId}
use Rattle.pc_sheet.specs.declared.ids.Entry.{Entry}
use Rattle.pc_sheet.specs.declared.ids.Target.{Target}
use Rattle.pc_writer.specs.Spelling.{cell_text, sort_of}
use Rattle.pc_reason.specs.Targets.{IsTargetIn}
use Rattle.pc_display.specs.OneDisplay.{HasOneText, SheetHasOneDisplay}
use Rattle.pc_display.specs.Supports.{IsSupportFor, IsReasoning, Reasoning}
use Rattle.pc_display.specs.Show.{are_several, cell_lines, cells_below, conflict_line, conflict_of, have_conflict, head_line, listed_texts, reason_of, value_line, show_text}
use Rattle.pc_writer.specs.SheetText.{ended}
use Rattle.pc_display.specs.Grid.{conflict_column, entry_column, grid_line, grid_text, implied_text, padded, widest}
use Rattle.pc_display.specs.Json.{array_of, cell_data, conflict_data, entered_data, implied_data, json_text, object_data, one_or_all, sheet_data}
use Rattle.pc_display.proofs.SheetLemmas.{is_target, own_are_entries, same_reason}

-- ---- the same of each entry

module _ (P : Entry → Type 0) where
  same_any : (f g : Entry → Bool) → ((e : Entry) → P e → f e ≡ g e) → (es : List Entry) → All P es → list_any f es ≡ list_any g es
  same_any f g same [] each = refl
  same_any f g same (e ∷ es) each = ap₂ (λ a b. a || b) (same e (All-head P e es each)) (same_any f g same es (All-tail P e es each))

  same_map : {A : Type 0} (f g : Entry → A) → ((e : Entry) → P e → f e ≡ g e) → (es : List Entry) → All P es → map f es ≡ map g es
  same_map f g same [] each = refl
  same_map f g same (e ∷ es) each = ap₂ (λ x xs. x ∷ xs) (same e (All-head P e es each)) (same_map f g same es (All-tail P e es each))

  same_flat_map : {A : Type 0} (f g : Entry → List A) → ((e : Entry) → P e → f e ≡ g e) → (es : List Entry) → All P es → flat_map f es ≡ flat_map g es
  same_flat_map f g same [] each = refl
  same_flat_map f g same (e ∷ es) each = ap₂ (λ xs ys. xs ++ ys) (same e (All-head P e es each)) (same_flat_map f g same es (All-tail P e es each))

-- ---- the same lists one after another

module _ {X A : Type 0} (below : ℕ → List X) (item : ℕ → X) (none : below zero ≡ []) (more : (n : ℕ) → below (suc n) ≡ below n ++ item n ∷ []) where
  same_lists : (f g : X → List A) (n : ℕ) → ((i : ℕ) → i < n → f (item i) ≡ g (item i)) → flat_map f (below n) ≡ flat_map g (below n)
  same_lists f g zero same = ap (flat_map f) none ∙ sym (ap (flat_map g) none)
  same_lists f g (suc n) same =
      ap (flat_map f) (more n) ∙ flat_map-append f (below n) (item n ∷ [])
      ∙ ap₂ (λ xs ys. xs ++ (ys ++ [])) (same_lists f g n (λ i lt. same i (omega arith))) (same n (omega arith))
      ∙ sym (ap (flat_map g) (more n) ∙ flat_map-append g (below n) (item n ∷ []))

  same_items : (f g : X → A) (n : ℕ) → ((i : ℕ) → i < n → f (item i) ≡ g (item i)) → map f (below n) ≡ map g (below n)
  same_items f g zero same = ap (map f) none ∙ sym (ap (map g) none)
  same_items f g (suc n) same =
      ap (map f) (more n) ∙ map-append f (below n) (item n ∷ [])
      ∙ ap₂ (λ xs y. xs ++ y ∷ []) (same_items f g n (λ i lt. same i (omega arith))) (same n (omega arith))
      ∙ sym (ap (map g) (more n) ∙ map-append g (below n) (item n ∷ []))

module _ (sheet : Sheet) (formed : IsWellFormed sheet) (one other : Reasoning) (is : IsReasoning sheet one) (so : IsReasoning sheet other) where
  same_at : (t : Target) → IsTargetIn sheet.universe t → one t ≡ other t
  same_at t target = same_reason sheet t (one t) (other t) (is t target) (so t target)

  same_conflict : (e : Entry) → IsEntryOf sheet.universe e → conflict_of one e ≡ conflict_of other e
  same_conflict e fit = same_at (opposite_of e) fit

  same_clashes : (es : List Entry) → All (IsEntryOf sheet.universe) es → have_conflict one es ≡ have_conflict other es
  same_clashes es each = same_any (IsEntryOf sheet.universe) (λ e. is_some (conflict_of one e)) (λ e. is_some (conflict_of other e)) (λ e fit. ap is_some (same_conflict e fit)) es each

  -- what a cell's values give by their reasons
  same_values : {A : Type 0} (list : ValueId → Option (List Entry) → List A) (c : CellId) → c.0 < length (cell_sizes sheet.universe)
      → flat_map (λ v. list v (reason_of one c v)) (values_below (size_of sheet.universe (sort_of sheet.universe c)))
      ≡ flat_map (λ v. list v (reason_of other c v)) (values_below (size_of sheet.universe (sort_of sheet.universe c)))
  same_values list c within =
      let u = sheet.universe in
      same_lists values_below (λ n. record { 0 = n }) refl (λ n. refl) (λ v. list v (reason_of one c v)) (λ v. list v (reason_of other c v)) (size_of u (sort_of u c))
      (λ i lt. ap (list (record { 0 = i })) (same_at (record { cell = c; value = record { 0 = i }; holds = true }) (is_target u c within (record { 0 = i }) true lt)))

  cell_within : (i : ℕ) → i < length (cells sheet.universe) → i < length (cell_sizes sheet.universe)
  cell_within i lt = omega (arith, lt, (cells_are_numbered sheet.universe).count)

  -- ---- line by line

  same_lines : (c : CellId) → c.0 < length (cell_sizes sheet.universe) → cell_lines sheet one c ≡ cell_lines sheet other c
  same_lines c within =
      let u = sheet.universe in
      let s = sort_of u c in
      let es = entries_of c sheet.entries in
      let each = own_are_entries u sheet.entries formed.entries.each c in
      let line : Reasoning → Entry → List ℕ = λ reason e. conflict_line u s (are_several es) e.value (conflict_of reason e) in
      ap₂ (λ xs ys. xs ++ ys) (ap (head_line u c es) (same_clashes es each))
      (ap₂ (λ xs ys. xs ++ ys) (same_values (value_line u s) c within)
      (same_flat_map (IsEntryOf u) (line one) (line other) (λ e fit. ap (conflict_line u s (are_several es) e.value) (same_conflict e fit)) es each))

  same_shown : show_text sheet one ≡ show_text sheet other
  same_shown =
      same_lists cells_below (λ n. record { 0 = n }) refl (λ n. refl) (cell_lines sheet one) (cell_lines sheet other) (length (cells sheet.universe))
      (λ i lt. same_lines (record { 0 = i }) (cell_within i lt))

  -- ---- as a table

  same_line : (cell_width entry_width : ℕ) (c : CellId) → c.0 < length (cell_sizes sheet.universe) → grid_line sheet one cell_width entry_width c ≡ grid_line sheet other cell_width entry_width c
  same_line cell_width entry_width c within =
      let u = sheet.universe in
      let es = entries_of c sheet.entries in
      let line : Bool → List (List ℕ) → List ℕ = λ clashes texts. ended (
      padded cell_width (cell_text u c) ++ (codes "  " ++ (padded entry_width (entry_column sheet c) ++ (codes "  " ++ (conflict_column clashes ++ (codes "  " ++ listed_texts texts)))))
      ) in
      ap₂ line (same_clashes es (own_are_entries u sheet.entries formed.entries.each c)) (same_values (implied_text u (sort_of u c)) c within)

  same_grid : grid_text sheet one ≡ grid_text sheet other
  same_grid =
      let all = cells_below (length (cells sheet.universe)) in
      let cell_width = widest (map (cell_text sheet.universe) all) in
      let entry_width = widest (map (entry_column sheet) all) in
      same_lists cells_below (λ n. record { 0 = n }) refl (λ n. refl) (grid_line sheet one cell_width entry_width) (grid_line sheet other cell_width entry_width) (length (cells sheet.universe))
      (λ i lt. same_line cell_width entry_width (record { 0 = i }) (cell_within i lt))

  -- ---- as JSON

  same_object : (c : CellId) → c.0 < length (cell_sizes sheet.universe) → cell_data sheet one c ≡ cell_data sheet other c
  same_object c within =
      let u = sheet.universe in
      let es = entries_of c sheet.entries in
      let clash : Reasoning → Entry → Data = λ reason e. conflict_data u (conflict_of reason e) in
      let whole : List Data → List Data → Data = λ conflicts implied. object_data (cell_text u c) (one_or_all conflicts) (entered_data u (sort_of u c) es) (array_of implied) in
      ap₂ whole (same_map (IsEntryOf u) (clash one) (clash other) (λ e fit. ap (conflict_data u) (same_conflict e fit)) es (own_are_entries u sheet.entries formed.entries.each c)) (same_values (implied_data u (sort_of u c)) c within)

  same_data : sheet_data sheet one ≡ sheet_data sheet other
  same_data =
      ap array_of
      (same_items cells_below (λ n. record { 0 = n }) refl (λ n. refl) (cell_data sheet one) (cell_data sheet other) (length (cells sheet.universe))
      (λ i lt. same_object (record { 0 = i }) (cell_within i lt)))

-- ---- a sheet has reasons

module _ (sheet : Sheet) (formed : IsWellFormed sheet) where
  reason_for : (t : Target) → (found : Option (List Entry)) × IsSupportFor sheet t found
  reason_for t =
      elim (implication_decided sheet t) [
        | inl implied ↦ let one = one_least sheet t formed.entries.distinct implied in (Some one.0, one.1)
        | inr not ↦ (None, not)
      ]

  chosen_is : IsReasoning sheet (λ t. (reason_for t).0)
  chosen_is t target = (reason_for t).1

-- a text that is the same by all reasonings
module _ (text : Sheet → Reasoning → List ℕ) (same : (sheet : Sheet) → IsWellFormed sheet → (one other : Reasoning) → IsReasoning sheet one → IsReasoning sheet other → text sheet one ≡ text sheet other) where
  one_text : HasOneText (λ sheet found. (reason : Reasoning) × IsReasoning sheet reason × (found ≡ text sheet reason))
  one_text sheet formed =
      let reason : Reasoning = λ t. (reason_for sheet formed t).0 in (
        text sheet reason,
        (reason, chosen_is sheet formed, refl),
        λ other shown. shown.2 ∙ same sheet formed shown.0 reason shown.1 (chosen_is sheet formed),
      )

pub one_display : SheetHasOneDisplay
one_display = record {
  shown = one_text show_text same_shown;
  grid = one_text grid_text same_grid;
  json = one_text json_text (λ sheet formed one other is so. ap compact_text (same_data sheet formed one other is so));
}
