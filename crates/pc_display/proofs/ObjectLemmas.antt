-- What is built for a cell is the data of its display.
use Rattle.std.proofs.Common.{◌≡◌, ℕ, ◌<◌, ◌≤◌, List, [], ◌∷◌, ◌++◌, length, map, Option, Some, arith, refl, sym, ◌∙◌, ap}
use Rattle.std.proofs.lemmas.List.{length-append, map-append}
use Rattle.serde_json.specs.Data.{Data, null}
use Rattle.serde_json.specs.View.{view}
use Rattle.serde_json.specs.declared.value.Value.{Value}
use Rattle.pc_sheet.specs.Sheet.{Sheet}
use Rattle.pc_sheet.specs.WellFormed.{entries_of}
use Rattle.pc_sheet.specs.declared.ids.SortId.{SortId}
use Rattle.pc_sheet.specs.declared.ids.CellId.{CellId}
use Rattle.pc_sheet.specs.declared.ids.ValueId.{ValueId}
use Rattle.pc_sheet.specs.declared.ids.Entry.{Entry}
use Rattle.pc_writer.specs.Spelling.{cell_text, sort_of, value_text}
use Rattle.pc_display.specs.Supports.{Reasoning}
use Rattle.pc_display.specs.Json.{all_implied_data, array_of, cell_data, conflicts_data, entered_data, entries_data, implied_data, object_data, one_or_all, reasoned_data}

-- a value with its support, as the book spells them
pub implied_is : (sheet book : Sheet) → book ≡ sheet → (c : CellId) (v : ValueId) (s : SortId) → s ≡ sort_of book.universe c → (support : List Entry) (found : Option (List Entry)) → Some support ≡ found
    → reasoned_data (entries_data book.universe support) (value_text book.universe s v) ∷ [] ≡ implied_data sheet.universe (sort_of sheet.universe c) v found
implied_is sheet book same c v s sort support found is =
    let own = sort ∙ ap (λ b. sort_of b.universe c) same in
    ap (λ b. reasoned_data (entries_data b.universe support) (value_text b.universe s v) ∷ []) same
    ∙ ap (λ t. reasoned_data (entries_data sheet.universe support) (value_text sheet.universe t v) ∷ []) own
    ∙ ap (implied_data sheet.universe (sort_of sheet.universe c) v) is

-- one more value of a list
pub pushed : (old new : List Value) (x : Value) (d : Data) (ds : List Data) → new ≡ old ++ x ∷ [] → view x ≡ d → d ∷ [] ≡ ds → map view new ≡ map view old ++ ds
pushed old new x d ds more is single = ap (map view) more ∙ map-append view old (x ∷ []) ∙ ap (λ e. map view old ++ e ∷ []) is ∙ ap (λ es. map view old ++ es) single

pub object_is : (sheet : Sheet) (reason : Reasoning) (c : CellId) (cell : List ℕ) (conflict entry implied : Data)
    → cell ≡ cell_text sheet.universe c
    → conflict ≡ conflicts_data sheet.universe reason (entries_of c sheet.entries)
    → entry ≡ entered_data sheet.universe (sort_of sheet.universe c) (entries_of c sheet.entries)
    → implied ≡ array_of (all_implied_data sheet.universe reason c)
    → object_data cell conflict entry implied ≡ cell_data sheet reason c
object_is sheet reason c cell conflict entry implied name clash entered values =
    let u = sheet.universe in
    let own = conflicts_data u reason (entries_of c sheet.entries) in
    let value = entered_data u (sort_of u c) (entries_of c sheet.entries) in
    ap (λ x. object_data x conflict entry implied) name
    ∙ ap (λ x. object_data (cell_text u c) x entry implied) clash
    ∙ ap (λ x. object_data (cell_text u c) own x implied) entered
    ∙ ap (λ x. object_data (cell_text u c) own value x) values

-- several are an array
pub several_are : (ds : List Data) → 1 < length ds → array_of ds ≡ one_or_all ds
several_are [] many = absurd (omega (arith, many))
several_are (d ∷ []) many = absurd (omega (arith, many))
several_are (d ∷ e ∷ ds) many = refl

-- one is the last of them
pub one_is : (values rest : List Value) (x : Value) → length values ≤ 1 → values ≡ rest ++ x ∷ [] → view x ≡ one_or_all (map view values)
one_is values [] x few is = sym (ap (λ xs. one_or_all (map view xs)) is)
one_is values (y ∷ rest) x few is = absurd (omega (arith, few, ap length is, length-append rest (x ∷ [])))

-- there is none
pub none_is : (values : List Value) → length values ≡ 0 → null ≡ one_or_all (map view values)
none_is [] none = refl
none_is (x ∷ values) none = absurd (omega (arith, none))
