-- What is named through what is found.
use Rattle.std.proofs.Common.{◌≡◌, ◌↔◌, Bool, true, Option, Some, None, refl, sym, ◌∙◌, ap, subst}
use Rattle.std.specs.Option.{option_map}
use Rattle.pc_formula.specs.Tree.{Cell}
use Rattle.pc_sheet.specs.Sheet.{Universe, Sheet}
use Rattle.pc_sheet.specs.declared.ids.CellId.{CellId}
use Rattle.pc_accept.specs.Accepts.{Claim, implied, inconsistent, repairs, unimplied, against}
use Rattle.pc_accept.specs.Axioms.{Axiom, axiom_some, axiom_one, axiom_rule, axiom_node, axiom_atom}
use Rattle.pc_elaborate.specs.Elaboration.{IsCellNamed}
use Rattle.pc_sheet.specs.declared.ids.Entry.{Entry}
use Rattle.pc_sheet.specs.declared.ids.Target.{Target}
use Rattle.pc_cert.specs.Written.{WrittenPart, written_some}
use Rattle.pc_cert.specs.Claims.{WrittenPair, written_implied, written_unimplied, IsPairNamed, IsTargetNamed, IsClaimNamed}
use Rattle.pc_cert.specs.Meaning.{IsAxiomNamed}

same_some : {A : Type 0} (a b : A) → Some a ≡ Some b → a ≡ b
same_some a b e = cc

pub none_some : {A : Type 0} (b : A) → None ≡ Some b → ⊥
none_some b e = absurd (cc)

-- f's images of what is P are exactly what is Q
module _ {X Y : Type 0} (f : X → Y) (P : X → Type 0) (Q : Y → Type 0) (to : (x : X) → P x → Q (f x)) (back : (y : Y) → Q y → (x : X) × (f x ≡ y) × P x) where
  pub image : (o : Option X) → ((x : X) → (o ≡ Some x) ↔ P x) → (y : Y) → (option_map f o ≡ Some y) ↔ Q y
  image None exact y = (λ e. absurd (none_some y e), λ q. let r = back y q in absurd (none_some r.0 ((exact r.0).1 r.2)))
  image (Some x) exact y = (
    λ e. subst Q (same_some (f x) y e) (to x ((exact x).0 refl)),
    λ q. let r = back y q in ap Some (ap f (same_some x r.0 ((exact r.0).1 r.2)) ∙ r.1),
  )

module _ (sheet : Sheet) where
  abbrev IsAxiom : WrittenPart → Axiom → Type 0
  IsAxiom p a = IsAxiomNamed sheet p a

  of_some : (c : Cell) (a : Axiom) → IsAxiom (written_some c) a → (x : CellId) × (axiom_some x ≡ a) × IsCellNamed sheet.universe c x
  of_some c (axiom_some x) q = (x, refl, q)
  of_some c (axiom_one x v w) q = absurd q
  of_some c (axiom_rule r) q = absurd q
  of_some c (axiom_node r s i) q = absurd q
  of_some c (axiom_atom r s es) q = absurd q

  pub some_is : (c : Cell) (o : Option CellId) → ((x : CellId) → (o ≡ Some x) ↔ IsCellNamed sheet.universe c x) → (a : Axiom) → (option_map axiom_some o ≡ Some a) ↔ IsAxiom (written_some c) a
  some_is c o exact = image axiom_some (IsCellNamed sheet.universe c) (IsAxiom (written_some c)) (λ x p. p) (of_some c) o exact

module _ (u : Universe) (p : WrittenPair) (holds : Bool) where
  abbrev target : Entry → Target
  target e = record { cell = e.cell; value = e.value; holds = holds }

  of_target : (t : Target) → IsTargetNamed u p holds t → (e : Entry) × (target e ≡ t) × IsPairNamed u p e
  of_target t q = (record { cell = t.cell; value = t.value }, ap (λ b. record { cell = t.cell; value = t.value; holds = b }) (sym q.1), q.0)

  pub target_is : (o : Option Entry) → ((e : Entry) → (o ≡ Some e) ↔ IsPairNamed u p e) → (t : Target) → (option_map target o ≡ Some t) ↔ IsTargetNamed u p holds t
  target_is = image target (IsPairNamed u p) (IsTargetNamed u p holds) (λ e q. (q, refl)) of_target

module _ (sheet : Sheet) (p : WrittenPair) where
  of_implied : (holds : Bool) (c : Claim) → IsClaimNamed sheet (written_implied p holds) c → (t : Target) × (implied t ≡ c) × IsTargetNamed sheet.universe p holds t
  of_implied holds (implied t) q = (t, refl, q)
  of_implied holds inconsistent q = absurd q
  of_implied holds repairs q = absurd q
  of_implied holds (unimplied t) q = absurd q
  of_implied holds (against r) q = absurd q

  pub implied_is : (holds : Bool) (o : Option Target) → ((t : Target) → (o ≡ Some t) ↔ IsTargetNamed sheet.universe p holds t) → (c : Claim) → (option_map implied o ≡ Some c) ↔ IsClaimNamed sheet (written_implied p holds) c
  implied_is holds = image implied (IsTargetNamed sheet.universe p holds) (IsClaimNamed sheet (written_implied p holds)) (λ t q. q) (of_implied holds)

  of_unimplied : (c : Claim) → IsClaimNamed sheet (written_unimplied p) c → (t : Target) × (unimplied t ≡ c) × IsTargetNamed sheet.universe p true t
  of_unimplied (implied t) q = absurd q
  of_unimplied inconsistent q = absurd q
  of_unimplied repairs q = absurd q
  of_unimplied (unimplied t) q = (t, refl, q)
  of_unimplied (against r) q = absurd q

  pub unimplied_is : (o : Option Target) → ((t : Target) → (o ≡ Some t) ↔ IsTargetNamed sheet.universe p true t) → (c : Claim) → (option_map unimplied o ≡ Some c) ↔ IsClaimNamed sheet (written_unimplied p) c
  unimplied_is = image unimplied (IsTargetNamed sheet.universe p true) (IsClaimNamed sheet (written_unimplied p)) (λ t q. q) of_unimplied
