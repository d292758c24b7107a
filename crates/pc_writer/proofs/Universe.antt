-- What a well-formed universe declares, by number.
use Rattle.std.proofs.Common.{◌≡◌, ℕ, ◌<◌, ◌≤◌, [], length, None, Some, slice_get, refl, ap, subst, sym, ◌∙◌, ℤ}
use Rattle.std.specs.List.{flat_map}
use Rattle.std.proofs.lemmas.Option.{slice_get-get_or, unwrap_or-slice_get}
use Rattle.std.proofs.lemmas.List.Elements.{All-get_or}
use Rattle.pc_sheet.proofs.Cells.{some_same}
use Rattle.pc_sheet.specs.Sheet.{Universe, Values, listed, range}
use Rattle.pc_sheet.specs.Sizes.{count_of, size_of, values_of_sort, values_at}
use Rattle.pc_sheet.specs.WellFormed.{AreWellFormedValues, IsWellFormedUniverse, IsWellFormedTable, IsWellFormedFamily}
use Rattle.pc_sheet.specs.WellSorted.{names_of_values}
use Rattle.pc_sheet.specs.declared.ids.SortId.{SortId}
use Rattle.pc_sheet.specs.declared.ids.TableId.{TableId}
use Rattle.pc_sheet.specs.declared.ids.FamilyId.{FamilyId}
use Rattle.pc_books.specs.Named.{bounds_of}
use Rattle.pc_writer.specs.Spelling.{text_among}
use Rattle.pc_writer.specs.FormulaText.{sort_at, table_at, family_at}
use Rattle.pc_writer.specs.SheetText.{spaced, values_text}

-- ---- values

pub values_declared : (u : Universe) (s : SortId) → s.0 < length u.sorts → values_at u s ≡ (sort_at u s).values
values_declared u s below = ap values_of_sort (slice_get-get_or u.sorts s.0 (record { name = []; values = listed [] }) below)

few_values : (v : Values) → AreWellFormedValues v → count_of v ≤ 256
few_values (listed names) formed = formed.1
few_values (range low high) formed = formed.3

pub size_within : (u : Universe) (s : SortId) → IsWellFormedUniverse u → s.0 < length u.sorts → size_of u s ≤ 256
size_within u s formed below =
    let at : AreWellFormedValues (sort_at u s).values = All-get_or (λ sort. AreWellFormedValues sort.values) u.sorts s.0 (record { name = []; values = listed [] }) below formed.sorts in
    subst (λ v. count_of v ≤ 256) (sym (values_declared u s below)) (few_values (sort_at u s).values at)

pub is_range : (v : Values) (low high : ℤ) → bounds_of v ≡ Some (low, high) → v ≡ range low high
is_range (listed names) low high is = absurd (cc)
is_range (range l h) low high is = ap (λ bounds. range bounds.0 bounds.1) (some_same is)

pub is_listed : (v : Values) → bounds_of v ≡ None → values_text v ≡ flat_map spaced (names_of_values v)
is_listed (listed names) is = refl
is_listed (range low high) is = absurd (cc)

pub name_at : (v : Values) (i : ℕ) → bounds_of v ≡ None → i < count_of v → slice_get (names_of_values v) i ≡ Some (text_among v (record { 0 = i }))
name_at (listed names) i is below = slice_get-get_or names i [] below ∙ ap Some (sym (unwrap_or-slice_get names i []))
name_at (range low high) i is below = absurd (cc)

pub length-names : (v : Values) → bounds_of v ≡ None → length (names_of_values v) ≡ count_of v
length-names (listed names) is = refl
length-names (range low high) is = absurd (cc)

-- ---- tables and families

pub table_formed : (u : Universe) (t : TableId) → IsWellFormedUniverse u → t.0 < length u.tables → IsWellFormedTable u (table_at u t)
table_formed u t formed below = All-get_or (IsWellFormedTable u) u.tables t.0 (record { name = []; sorts = []; rows = [] }) below formed.tables

pub family_formed : (u : Universe) (f : FamilyId) → IsWellFormedUniverse u → f.0 < length u.families → IsWellFormedFamily u (family_at u f)
family_formed u f formed below = All-get_or (IsWellFormedFamily u) u.families f.0 (record { name = []; sorts = []; result_sort = record { 0 = 0 } }) below formed.families
