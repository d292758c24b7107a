-- Rows of targets, computed.
use Rattle.std.proofs.Common.{inl, inr, Bool, refl, sym, ap}
use Rattle.std.proofs.lemmas.Bool.{false≢true}
use Rattle.pc_sheet.specs.declared.ids.Target.{Target}
use Rattle.pc_worked_laws.specs.Rows.{WorkedRows}

abbrev holds : Target → Bool
holds t = t.holds

pub rows : WorkedRows
rows = record {
  put_twice = refl;
  put_and_removed = refl;
  removed_and_put = refl;
  another = refl;
  unchanged = refl;
  looked_up = refl;
  no_row = refl;
  is_lacking = refl;
  isnt_lacking = refl;
  rests_on = refl;
  rests_on_another = refl;
  in_order = refl;
  twice_isnt_distinct = λ h. h.0 (inl refl);
  no_place = λ h. elim h.0 [ inl same ↦ false≢true (sym (ap holds same)) | inr none ↦ none ];
}
