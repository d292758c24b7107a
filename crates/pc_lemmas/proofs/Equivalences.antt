-- What is equivalent.
use Rattle.std.proofs.Common.{◌≡◌, ◌⊎◌, ◌↔◌, inl, inr, sym, subst}

pub along : {X : Type 0} (P : X → Type 0) (x y : X) → x ≡ y → P x ↔ P y
along P x y e = (subst P e, subst P (sym e))

pub either : {P Q R S : Type 0} → P ↔ R → Q ↔ S → (P ⊎ Q) ↔ (R ⊎ S)
either i j = (λ f. elim f [ inl p ↦ inl (i.0 p) | inr q ↦ inr (j.0 q) ], λ f. elim f [ inl p ↦ inl (i.1 p) | inr q ↦ inr (j.1 q) ])
