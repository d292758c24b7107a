-- The texts of what a well-formed universe declares are UTF-8, and short enough to be measured.
use Rattle.std.proofs.Common.{◌≡◌, ℕ, ◌<◌, ◌≤◌, List, [], ◌∷◌, ◌++◌, codes, length, map, Some, slice_get, unwrap_or, arith, refl, sym, subst, pos, ◌+ℤ◌}
use Rattle.std.specs.List.{flat_map}
use Rattle.std.specs.Str.{IsUtf8}
use Rattle.std.proofs.Math.Utf8.{encode}
use Rattle.std.proofs.lemmas.Fmt.{IsAscii-signed}
use Rattle.std.proofs.lemmas.List.Elements.{All-get_or, All-head, All-tail}
use Rattle.std.proofs.lemmas.Option.{slice_get-get_or}
use Rattle.std.proofs.lemmas.Str.{IsUtf8-append, IsUtf8-nil, IsUtf8-from_ascii}
use Rattle.pc_name.specs.Names.{IsName}
use Rattle.pc_sheet.specs.Sheet.{Universe, Values, listed, range, Family}
use Rattle.pc_sheet.specs.Sizes.{argument_sorts, size_of, values_at}
use Rattle.pc_sheet.specs.Entailment.{AreWithin, cell_sizes}
use Rattle.pc_sheet.specs.WellFormed.{IsEntryOf, IsWellFormedFamily, IsWellFormedUniverse}
use Rattle.pc_sheet.specs.WellSorted.{names_of_values}
use Rattle.pc_sheet.specs.declared.ids.SortId.{SortId}
use Rattle.pc_sheet.specs.declared.ids.CellId.{CellId}
use Rattle.pc_sheet.specs.declared.ids.FamilyId.{FamilyId}
use Rattle.pc_sheet.specs.declared.ids.ValueId.{ValueId}
use Rattle.pc_sheet.specs.declared.ids.Entry.{Entry}
use Rattle.pc_writer.specs.Spelling.{application_of, arguments_text, cell_text, entry_text, family_of, joined, name_of, sort_of, text_among, value_text, value_texts}
use Rattle.pc_writer.proofs.CellLemmas.{arguments_within, entered_cell, entered_value, family_within}
use Rattle.pc_canonical_laws.proofs.Named.{IsSpelledValue}
use Rattle.pc_canonical_laws.proofs.Scalars.{name_utf8}
use Rattle.pc_canonical_laws.proofs.Spelled.{family_named, value_spelled}
use Rattle.pc_display.specs.Show.{entered_texts}
use Rattle.pc_display.specs.inside.Entered.{HaveValuesOf}

-- ---- lists of texts

abbrev pub AreUtf8 : List (List ℕ) → Type 0
AreUtf8 [] = Unit {0}
AreUtf8 (text ∷ texts) = IsUtf8 text × AreUtf8 texts

comma_utf8 : IsUtf8 (codes ", ")
unfolding encode
comma_utf8 = (codes ", ", (refl, refl))

equals_utf8 : IsUtf8 (codes " = ")
unfolding encode
equals_utf8 = (codes " = ", (refl, refl))

open_utf8 : IsUtf8 (codes "(")
unfolding encode
open_utf8 = (codes "(", (refl, refl))

close_utf8 : IsUtf8 (codes ")")
unfolding encode
close_utf8 = (codes ")", (refl, refl))

behind_utf8 : (texts : List (List ℕ)) → AreUtf8 texts → IsUtf8 (flat_map (λ other. codes ", " ++ other) texts)
behind_utf8 [] each = IsUtf8-nil
behind_utf8 (text ∷ texts) each =
    IsUtf8-append (codes ", " ++ text) (flat_map (λ other. codes ", " ++ other) texts) (IsUtf8-append (codes ", ") text comma_utf8 each.0) (behind_utf8 texts each.1)

pub joined_utf8 : (texts : List (List ℕ)) → AreUtf8 texts → IsUtf8 (joined (codes ", ") texts)
joined_utf8 [] each = IsUtf8-nil
joined_utf8 (text ∷ texts) each = IsUtf8-append text (flat_map (λ other. codes ", " ++ other) texts) each.0 (behind_utf8 texts each.1)

module _ (u : Universe) (formed : IsWellFormedUniverse u) where
  -- ---- values and names

  among_utf8 : (v : Values) (k : ValueId) → IsSpelledValue v k → IsUtf8 (text_among v k)
  among_utf8 (listed names) k named = name_utf8 (text_among (listed names) k) named.characters
  among_utf8 (range low high) k short = IsUtf8-from_ascii (text_among (range low high) k) (IsAscii-signed (low +ℤ pos k.0) (omega (arith, short)))

  short_among : (vs : Values) (k : ValueId) (text : List ℕ) → IsSpelledValue vs k → slice_get (names_of_values vs) k.0 ≡ Some text → length text ≤ 4194304
  short_among (listed names) k text named is = subst (λ found. length (unwrap_or found []) ≤ 4194304) is named.within
  short_among (range low high) k text short is = absurd (cc)

  pub short_name : (s : SortId) (v : ValueId) (text : List ℕ) → v.0 < size_of u s → slice_get (names_of_values (values_at u s)) v.0 ≡ Some text → length text ≤ 4194304
  short_name s v text below is = short_among (values_at u s) v text (value_spelled u formed s v below) is

  pub value_utf8 : (s : SortId) (v : ValueId) → v.0 < size_of u s → IsUtf8 (value_text u s v)
  value_utf8 s v below = among_utf8 (values_at u s) v (value_spelled u formed s v below)

  pub values_utf8 : (ss : List SortId) (vs : List ValueId) → AreWithin (map (size_of u) ss) vs → AreUtf8 (value_texts u ss vs)
  values_utf8 [] vs within = tt
  values_utf8 (s ∷ ss) [] within = tt
  values_utf8 (s ∷ ss) (v ∷ vs) within = (value_utf8 s v within.0, values_utf8 ss vs within.1)

  pub entered_utf8 : (s : SortId) (es : List Entry) → HaveValuesOf u s es → AreUtf8 (entered_texts u s es)
  entered_utf8 s [] each = tt
  entered_utf8 s (e ∷ es) each = (value_utf8 s e.value (All-head (λ f. f.value.0 < size_of u s) e es each), entered_utf8 s es (All-tail (λ f. f.value.0 < size_of u s) e es each))

  pub family_is_named : (f : FamilyId) → f.0 < length u.families → IsName (name_of (slice_get u.families f.0))
  family_is_named f below = subst (λ found. IsName (name_of found)) (sym (slice_get-get_or u.families f.0 (record { name = []; sorts = []; result_sort = record { 0 = 0 } }) below)) (family_named u formed f below)

  pub cell_named : (c : CellId) → c.0 < length (cell_sizes u) → IsName (name_of (family_of u c))
  cell_named c within = family_is_named (application_of u c).family (family_within u c within)

  pub cell_name_utf8 : (c : CellId) → c.0 < length (cell_sizes u) → IsUtf8 (name_of (family_of u c))
  cell_name_utf8 c within = name_utf8 (name_of (family_of u c)) (cell_named c within).characters

  pub few_arguments : (c : CellId) → c.0 < length (cell_sizes u) → length (argument_sorts (family_of u c)) ≤ 4
  few_arguments c within =
      let f = (application_of u c).family in
      let below = family_within u c within in
      let none : Family = record { name = []; sorts = []; result_sort = record { 0 = 0 } } in
      subst (λ found. length (argument_sorts found) ≤ 4) (sym (slice_get-get_or u.families f.0 none below)) (All-get_or (IsWellFormedFamily u) u.families f.0 none below formed.families).arity

  -- what stands between the parentheses of a cell
  pub cell_values_utf8 : (c : CellId) → c.0 < length (cell_sizes u) → (ss : List SortId) → ss ≡ argument_sorts (family_of u c) → AreUtf8 (value_texts u ss (application_of u c).arguments)
  cell_values_utf8 c within ss same = values_utf8 ss (application_of u c).arguments (subst (λ ts. AreWithin (map (size_of u) ts) (application_of u c).arguments) (sym same) (arguments_within u c within))

  -- ---- cells and entries

  arguments_utf8 : (ss : List SortId) (vs : List ValueId) → AreWithin (map (size_of u) ss) vs → IsUtf8 (arguments_text u ss vs)
  arguments_utf8 [] vs within = IsUtf8-nil
  arguments_utf8 (s ∷ ss) vs within =
      let list = joined (codes ", ") (value_texts u (s ∷ ss) vs) in
      IsUtf8-append (codes "(") (list ++ codes ")") open_utf8 (IsUtf8-append list (codes ")") (joined_utf8 (value_texts u (s ∷ ss) vs) (values_utf8 (s ∷ ss) vs within)) close_utf8)

  pub cell_utf8 : (c : CellId) → c.0 < length (cell_sizes u) → IsUtf8 (cell_text u c)
  cell_utf8 c within =
      let ss = argument_sorts (family_of u c) in
      let vs = (application_of u c).arguments in
      IsUtf8-append (name_of (family_of u c)) (arguments_text u ss vs) (cell_name_utf8 c within) (arguments_utf8 ss vs (arguments_within u c within))

  pub entry_utf8 : (e : Entry) → IsEntryOf u e → IsUtf8 (entry_text u e)
  entry_utf8 e entered =
      let value = value_text u (sort_of u e.cell) e.value in
      IsUtf8-append (cell_text u e.cell) (codes " = " ++ value) (cell_utf8 e.cell (entered_cell u e entered))
      (IsUtf8-append (codes " = ") value equals_utf8 (value_utf8 (sort_of u e.cell) e.value (entered_value u e entered (sort_of u e.cell) refl)))
