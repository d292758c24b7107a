-- What is built for a display has no number and nests a few levels deep, so its text is exact and reads back.
use Rattle.std.proofs.Common.{◌≡◌, ℕ, ◌+◌, ◌≤◌, ◌||◌, false, List, [], ◌∷◌, ◌++◌, length, map, Option, None, Some, arith, refl, ap₂}
use Rattle.std.specs.List.{flat_map}
use Rattle.serde_json.specs.Data.{Data, null, string, depth, items_depth}
use Rattle.serde_json.specs.View.{items_of}
use Rattle.serde_json.specs.Written.{has_float, items_have_float}
use Rattle.pc_sheet.specs.Sheet.{Universe, Sheet}
use Rattle.pc_sheet.specs.Sizes.{size_of}
use Rattle.pc_sheet.specs.Cells.{cells, values_below}
use Rattle.pc_sheet.specs.WellFormed.{entries_of}
use Rattle.pc_sheet.specs.declared.ids.SortId.{SortId}
use Rattle.pc_sheet.specs.declared.ids.CellId.{CellId}
use Rattle.pc_sheet.specs.declared.ids.ValueId.{ValueId}
use Rattle.pc_sheet.specs.declared.ids.Entry.{Entry}
use Rattle.pc_writer.specs.Spelling.{sort_of, value_text}
use Rattle.pc_display.specs.Supports.{Reasoning}
use Rattle.pc_display.specs.Show.{cells_below, conflict_of, reason_of}
use Rattle.pc_display.specs.Json.{all_implied_data, array_of, cell_data, conflict_data, conflicts_data, entered_data, entries_data, entry_data, implied_data, one_or_all, sheet_data, value_data}

-- without a number that has a fraction, and at most so many levels deep
pub record IsPlain (most : ℕ) (d : Data) : Type 0 where
  pub float : has_float d ≡ false
  pub deep : depth d ≤ most

abbrev ArePlain : ℕ → List Data → Type 0
ArePlain most [] = Unit {0}
ArePlain most (d ∷ ds) = IsPlain most d × ArePlain most ds

deeper : (m n : ℕ) (d : Data) → m ≤ n → IsPlain m d → IsPlain n d
deeper m n d le plain = record { float = plain.float; deep = omega (arith, le, plain.deep) }

items_plain : (n : ℕ) (ds : List Data) → ArePlain n ds → (items_have_float (items_of ds) ≡ false) × (items_depth (items_of ds) ≤ n)
items_plain n [] each = (refl, omega arith)
items_plain n (d ∷ ds) each =
    let rest = items_plain n ds each.1 in
    (ap₂ (λ a b. a || b) each.0.float rest.0, omega (arith, each.0.deep, rest.1))

array_plain : (n : ℕ) (ds : List Data) → ArePlain n ds → IsPlain (n + 1) (array_of ds)
array_plain n ds each = let inner = items_plain n ds each in record { float = inner.0; deep = omega (arith, inner.1) }

null_plain : IsPlain 0 null
null_plain = record { float = refl; deep = omega arith }

one_or_all_plain : (n : ℕ) (ds : List Data) → ArePlain n ds → IsPlain (n + 1) (one_or_all ds)
one_or_all_plain n [] each = deeper 0 (n + 1) null (omega arith) null_plain
one_or_all_plain n (d ∷ []) each = deeper n (n + 1) d (omega arith) each.0
one_or_all_plain n (d ∷ e ∷ ds) each = array_plain n (d ∷ e ∷ ds) each

append_plain : (n : ℕ) (ds es : List Data) → ArePlain n ds → ArePlain n es → ArePlain n (ds ++ es)
append_plain n [] es each more = more
append_plain n (d ∷ ds) es each more = (each.0, append_plain n ds es each.1 more)

module _ {X : Type 0} (n : ℕ) where
  map_plain : (f : X → Data) → ((x : X) → IsPlain n (f x)) → (xs : List X) → ArePlain n (map f xs)
  map_plain f plain [] = tt
  map_plain f plain (x ∷ xs) = (plain x, map_plain f plain xs)

  flat_plain : (f : X → List Data) → ((x : X) → ArePlain n (f x)) → (xs : List X) → ArePlain n (flat_map f xs)
  flat_plain f plain [] = tt
  flat_plain f plain (x ∷ xs) = append_plain n (f x) (flat_map f xs) (plain x) (flat_plain f plain xs)

string_plain : (text : List ℕ) → IsPlain 0 (string text)
string_plain text = record { float = refl; deep = omega arith }

module _ (u : Universe) where
  entries_plain : (es : List Entry) → IsPlain 1 (entries_data u es)
  entries_plain es = array_plain 0 (map (entry_data u) es) (map_plain 0 (entry_data u) (λ e. record { float = refl; deep = omega arith }) es)

  conflict_plain : (found : Option (List Entry)) → IsPlain 1 (conflict_data u found)
  conflict_plain None = deeper 0 1 null (omega arith) null_plain
  conflict_plain (Some support) = entries_plain support

  conflicts_plain : (reason : Reasoning) (es : List Entry) → IsPlain 2 (conflicts_data u reason es)
  conflicts_plain reason es =
      let clash : Entry → Data = λ e. conflict_data u (conflict_of reason e) in
      one_or_all_plain 1 (map clash es) (map_plain 1 clash (λ e. conflict_plain (conflict_of reason e)) es)

  entered_plain : (s : SortId) (es : List Entry) → IsPlain 1 (entered_data u s es)
  entered_plain s es = one_or_all_plain 0 (map (value_data u s) es) (map_plain 0 (value_data u s) (λ e. string_plain (value_text u s e.value)) es)

  implied_plain : (s : SortId) (v : ValueId) (found : Option (List Entry)) → ArePlain 2 (implied_data u s v found)
  implied_plain s v None = tt
  implied_plain s v (Some support) =
      let because = entries_plain support in
      (record { float = ap₂ (λ a b. a || b) because.float refl; deep = omega (arith, because.deep) }, tt)

cell_plain : (sheet : Sheet) (reason : Reasoning) (c : CellId) → IsPlain 4 (cell_data sheet reason c)
cell_plain sheet reason c =
    let u = sheet.universe in
    let es = entries_of c sheet.entries in
    let conflict = conflicts_plain u reason es in
    let entered = entered_plain u (sort_of u c) es in
    let implied = array_plain 2 (all_implied_data u reason c) (flat_plain 2 (λ v. implied_data u (sort_of u c) v (reason_of reason c v)) (λ v. implied_plain u (sort_of u c) v (reason_of reason c v)) (values_below (size_of u (sort_of u c)))) in
    record {
      float = ap₂ (λ a b. a || b) conflict.float (ap₂ (λ a b. a || b) entered.float (ap₂ (λ a b. a || b) implied.float refl));
      deep = omega (arith, conflict.deep, entered.deep, implied.deep);
    }

pub sheet_plain : (sheet : Sheet) (reason : Reasoning) → IsPlain 5 (sheet_data sheet reason)
sheet_plain sheet reason =
    let all = cells_below (length (cells sheet.universe)) in
    array_plain 4 (map (cell_data sheet reason) all) (map_plain 4 (cell_data sheet reason) (cell_plain sheet reason) all)
