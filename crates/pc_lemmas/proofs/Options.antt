-- What an option has.
use Rattle.std.proofs.Common.{◌≡◌, Option, None, Some, IsSomeAnd, refl, sym, subst}

pub some_and : {X : Type 0} (o : Option X) (P : X → Type 0) → IsSomeAnd o P → (x : X) × (o ≡ Some x) × P x
some_and None P h = absurd h
some_and (Some x) P h = (x, refl, h)

pub and_some : {X : Type 0} (o : Option X) (P : X → Type 0) (x : X) → o ≡ Some x → P x → IsSomeAnd o P
and_some o P x is h = subst (λ o. IsSomeAnd o P) (sym is) h

pub same_some : {X : Type 0} {x y : X} → Some x ≡ Some y → x ≡ y
same_some is = cc
