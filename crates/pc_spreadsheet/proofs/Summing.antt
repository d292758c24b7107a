-- What the numbers of a sheet count.
use Rattle.std.proofs.Common.{◌≡◌, ℕ, suc, ◌+◌, ◌<◌, List, [], ◌∷◌, ◌++◌, length, map, take, get_or, All, arith, refl, sym, ◌∙◌, ap, subst}
use Rattle.std.specs.List.{flat_map}
use Rattle.std.proofs.lemmas.List.{map_push}
use Rattle.std.proofs.Math.Seq.{take-suc}
use Rattle.pc_sheet.specs.Sheet.{Sheet}
use Rattle.pc_sheet.specs.Cells.{cells, values_below}
use Rattle.pc_sheet.specs.WellFormed.{IsWellFormed, IsEntryOf}
use Rattle.pc_sheet.specs.Entailment.{IsImplied}
use Rattle.pc_sheet.specs.declared.ids.CellId.{CellId}
use Rattle.pc_sheet.specs.declared.ids.ValueId.{ValueId}
use Rattle.pc_sheet.specs.declared.ids.Entry.{Entry}
use Rattle.pc_sheet.specs.declared.ids.Target.{Target}
use Rattle.pc_display.specs.Show.{cells_below}
use Rattle.pc_display.proofs.Below.{one_more}
use Rattle.pc_spreadsheet.specs.Summary.{IsCount, none_left, HasConflict, that_has, values_of, pairs_of}
use Rattle.pc_spreadsheet.specs.declared.summary.Summary.{Summary}
use Rattle.pc_spreadsheet.specs.Laws.{SheetsHaveOneSummary}
use Rattle.pc_spreadsheet.proofs.Counting.{one_count, count_append}

-- ---- the numbers are the sheet's

abbrev summary_from : ℕ → ℕ → ℕ → ℕ → Summary
summary_from cells entries conflicts implied = record { cells = cells; entries = entries; conflicts = conflicts; implied = implied }

pub one_summary : SheetsHaveOneSummary
one_summary sheet x y is other =
    ap (λ (n : ℕ). summary_from n x.entries x.conflicts x.implied) (is.cells_are ∙ sym other.cells_are)
    ∙ ap (λ (n : ℕ). summary_from y.cells n x.conflicts x.implied) (is.entries_are ∙ sym other.entries_are)
    ∙ ap (λ (n : ℕ). summary_from y.cells y.entries n x.implied) (one_count (HasConflict sheet) sheet.entries x.conflicts y.conflicts is.conflicts_are other.conflicts_are)
    ∙ ap (λ (n : ℕ). summary_from y.cells y.entries y.conflicts n) (one_count (IsImplied sheet) (pairs_of sheet.universe) x.implied y.implied is.implied_are other.implied_are)

-- ---- entries

abbrev pub no_entry : Entry
no_entry = record { cell = record { 0 = 0 }; value = record { 0 = 0 } }

-- the book's entries are the sheet's, and so are their cells and values
pub entries_are : (sheet book : Sheet) (es : List Entry) → es ≡ book.entries → book ≡ sheet → es ≡ sheet.entries
entries_are sheet book es are same = are ∙ ap (λ (s : Sheet). s.entries) same

pub entries_fit : (sheet book : Sheet) (es : List Entry) → es ≡ book.entries → book ≡ sheet → IsWellFormed book → All (IsEntryOf sheet.universe) es
entries_fit sheet book es are same formed = subst (All (IsEntryOf sheet.universe)) (sym (entries_are sheet book es are same)) (subst IsWellFormed same formed).entries.each

-- an entry more
pub next_entry : (sheet : Sheet) (es : List Entry) (i m n : ℕ) (e d : Entry) → i < length es → get_or es i d ≡ e → IsCount (HasConflict sheet) (take i es) m → IsCount (HasConflict sheet) (e ∷ []) n → IsCount (HasConflict sheet) (take (i + 1) es) (m + n)
next_entry sheet es i m n e d lt is before more =
    let same : i + 1 ≡ suc i = omega arith in
    let list : take i es ++ e ∷ [] ≡ take (i + 1) es = ap (λ (x : Entry). take i es ++ x ∷ []) (sym is) ∙ sym (take-suc es i d lt) ∙ ap (λ (k : ℕ). take k es) (sym same) in
    subst (λ (xs : List Entry). IsCount (HasConflict sheet) xs (m + n)) list (count_append (HasConflict sheet) (take i es) (e ∷ []) m n before more)

-- ---- values

pub no_values : (sheet : Sheet) (c : CellId) → IsCount (IsImplied sheet) (map (that_has c) (values_below 0)) 0
no_values sheet c = none_left

-- a value more
pub next_value : (sheet : Sheet) (c : CellId) (i m n : ℕ) → IsCount (IsImplied sheet) (map (that_has c) (values_below i)) m → IsCount (IsImplied sheet) (that_has c (record { 0 = i }) ∷ []) n → IsCount (IsImplied sheet) (map (that_has c) (values_below (i + 1))) (m + n)
next_value sheet c i m n before more =
    let v : ValueId = record { 0 = i } in
    let same : i + 1 ≡ suc i = omega arith in
    let list : map (that_has c) (values_below i) ++ that_has c v ∷ [] ≡ map (that_has c) (values_below (i + 1)) = sym (map_push (that_has c) (values_below i) v) ∙ ap (λ (k : ℕ). map (that_has c) (values_below k)) (sym same) in
    subst (λ (ts : List Target). IsCount (IsImplied sheet) ts (m + n)) list (count_append (IsImplied sheet) (map (that_has c) (values_below i)) (that_has c v ∷ []) m n before more)

-- ---- cells

-- the values of a cell more
pub next_cell : (sheet : Sheet) (i m n : ℕ) → IsCount (IsImplied sheet) (flat_map (values_of sheet.universe) (cells_below i)) m → IsCount (IsImplied sheet) (values_of sheet.universe (record { 0 = i })) n → IsCount (IsImplied sheet) (flat_map (values_of sheet.universe) (cells_below (i + 1))) (m + n)
next_cell sheet i m n before more =
    let same : i + 1 ≡ suc i = omega arith in
    let list = sym (one_more cells_below (λ k. record { 0 = k }) (λ k. refl) (values_of sheet.universe) i) ∙ ap (λ (k : ℕ). flat_map (values_of sheet.universe) (cells_below k)) (sym same) in
    subst (λ (ts : List Target). IsCount (IsImplied sheet) ts (m + n)) list (count_append (IsImplied sheet) (flat_map (values_of sheet.universe) (cells_below i)) (values_of sheet.universe (record { 0 = i })) m n before more)
