-- Whether two assignments are the same.
use Rattle.std.proofs.Common.{◌≡◌, ℕ, ap}
use Rattle.std.specs.Prelude.{◌==◌, Decides}
use Rattle.std.proofs.lemmas.Bool.Decides.{Decides-eqb}
use Rattle.pc_sheet.specs.declared.ids.ValueId.{ValueId}

pub value_decides : (v w : ValueId) → Decides (v.0 == w.0) (v ≡ w)
value_decides v w =
    (λ e. ap (λ (n : ℕ). let x : ValueId = record { 0 = n } in x) ((Decides-eqb v.0 w.0).0 e), λ same. (Decides-eqb v.0 w.0).1 (ap (λ (x : ValueId). x.0) same))
