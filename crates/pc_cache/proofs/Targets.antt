-- Whether two targets are the same.
use Rattle.std.proofs.Common.{◌≡◌, ℕ, Bool, true, false, ◌&&◌, refl, ap, ◌∙◌}
use Rattle.std.specs.Prelude.{◌==◌}
use Rattle.std.specs.Cmp.{unsigned_Decides, booleans_Decides}
use Rattle.std.specs.Bool.{beq}
use Rattle.pc_sheet.specs.declared.ids.Target.{Target}
use Rattle.pc_cache.specs.Rows.{is_same_target}

and_both : (a b : Bool) → (a && b) ≡ true → (a ≡ true) × (b ≡ true)
and_both true b e = (refl, e)
and_both false b e = absurd (cc e)

pub same_target : (s t : Target) → is_same_target s t ≡ true → s ≡ t
same_target s t e =
    let one = and_both (s.cell.0 == t.cell.0) ((s.value.0 == t.value.0) && beq s.holds t.holds) e in
    let two = and_both (s.value.0 == t.value.0) (beq s.holds t.holds) one.1 in
    let cell = (unsigned_Decides s.cell.0 t.cell.0).0 one.0 in
    let value = (unsigned_Decides s.value.0 t.value.0).0 two.0 in
    let holds = (booleans_Decides s.holds t.holds).0 two.1 in
    ap (λ (n : ℕ). let r : Target = record { cell = record { 0 = n }; value = s.value; holds = s.holds } in r) cell
    ∙ ap (λ (n : ℕ). let r : Target = record { cell = t.cell; value = record { 0 = n }; holds = s.holds } in r) value
    ∙ ap (λ (b : Bool). let r : Target = record { cell = t.cell; value = t.value; holds = b } in r) holds

pub itself : (t : Target) → is_same_target t t ≡ true
itself t =
    ap (λ (b : Bool). b && ((t.value.0 == t.value.0) && beq t.holds t.holds)) ((unsigned_Decides t.cell.0 t.cell.0).1 refl)
    ∙ ap (λ (b : Bool). b && beq t.holds t.holds) ((unsigned_Decides t.value.0 t.value.0).1 refl)
    ∙ (booleans_Decides t.holds t.holds).1 refl

pub same_by : (s t : Target) → s ≡ t → is_same_target s t ≡ true
same_by s t e = ap (λ (r : Target). is_same_target r t) e ∙ itself t

pub different_by : (s t : Target) → ¬ (s ≡ t) → is_same_target s t ≡ false
different_by s t differ =
    elim (is_same_target s t) as (λ b. is_same_target s t ≡ b → b ≡ false) [ true ↦ λ e. absurd (differ (same_target s t e)) | false ↦ λ e. refl ] refl
