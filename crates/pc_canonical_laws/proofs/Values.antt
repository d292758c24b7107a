-- What is written for a value stands for it.
use Rattle.std.proofs.Common.{◌<◌, List, [], ◌∷◌, map, Some, refl, sym, ap, ◌∙◌}
use Rattle.std.proofs.lemmas.Option.{slice_get-get_or, unwrap_or-slice_get}
use Rattle.pc_sheet.specs.Sheet.{Values, listed, range, Table, Family, Universe}
use Rattle.pc_sheet.specs.Sizes.{count_of, size_of, values_at}
use Rattle.pc_sheet.specs.Entailment.{AreWithin}
use Rattle.pc_sheet.specs.declared.ids.SortId.{SortId}
use Rattle.pc_sheet.specs.declared.ids.ValueId.{ValueId}
use Rattle.pc_elaborate.specs.Elaboration.{IsValueAmong, StandsForValue, AreValuesOf}
use Rattle.pc_canonical_laws.specs.Declarations.{value_among, written_value, written_values}

-- the sorts of a universe with other tables and families
abbrev pub with_parts : Universe → List Table → List Family → Universe
with_parts u ts fs = record { sorts = u.sorts; tables = ts; families = fs }

value_among_stands : (values : Values) (v : ValueId) → v.0 < count_of values → IsValueAmong values (value_among values v) v
value_among_stands (listed names) v below = slice_get-get_or names v.0 [] below ∙ ap Some (sym (unwrap_or-slice_get names v.0 []))
value_among_stands (range low high) v below = (refl, below)

pub value_stands : (u : Universe) (s : SortId) (v : ValueId) → v.0 < size_of u s → StandsForValue u s (written_value u s v) v
value_stands u s v below = value_among_stands (values_at u s) v below

pub values_stand : (u : Universe) (ts : List Table) (fs : List Family) (ss : List SortId) (vs : List ValueId) → AreWithin (map (size_of u) ss) vs → AreValuesOf (with_parts u ts fs) ss (written_values u ss vs) vs
values_stand u ts fs [] [] within = tt
values_stand u ts fs [] (v ∷ vs) within = absurd within
values_stand u ts fs (s ∷ ss) [] within = absurd within
values_stand u ts fs (s ∷ ss) (v ∷ vs) within = (value_stands u s v within.0, values_stand u ts fs ss vs within.1)
