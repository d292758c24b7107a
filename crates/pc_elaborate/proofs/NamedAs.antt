-- What a look-up of a name tells of the thing that is asked for.
use Rattle.std.proofs.Common.{◌≡◌, ◌↔◌, ℕ, List, Option, None, Some, IsNone, Contains, ap, ap₂, ◌∙◌, subst, refl, inl, inr}
use Rattle.pc_formula.specs.Tree.{name_value}
use Rattle.pc_sheet.specs.Sheet.{Universe}
use Rattle.pc_sheet.specs.WellSorted.{declared_names}
use Rattle.pc_sheet.specs.declared.ids.SortId.{SortId}
use Rattle.pc_sheet.specs.declared.ids.ValueId.{ValueId}
use Rattle.pc_books.specs.Named.{IsNameOf}
use Rattle.pc_books.specs.declared.names.Named.{Named}
use Rattle.pc_books.specs.declared.names.Named.TheVariants as named
use Rattle.pc_books.proofs.NamesLemmas.{name_is_declared}
use Rattle.pc_elaborate.specs.declared.fault.SortFault.{SortFault}
use Rattle.pc_elaborate.specs.declared.fault.SortFault.TheVariants.{UnknownName, WrongSort, Memory}
use Rattle.pc_elaborate.specs.Elaboration.{StandsForValue}
use Rattle.pc_elaborate.specs.FormulaFaults.{IsNameFault}
use Rattle.pc_elaborate.specs.Outcome.{IsOtherName}
use Rattle.pc_elaborate.proofs.Values.{value_named, value_is_named}

some_pair : {A B : Type 0} (a c : A) (b d : B) → ◌≡◌ {A = Option (A × B)} (Some (a, b)) (Some (c, d)) → (a ≡ c) × (b ≡ d)
some_pair {A} {B} a c b d h = let e : ◌≡◌ {A = A × B} (a, b) (c, d) = cc in (ap (λ p. p.0) e, ap (λ p. p.1) e)

module _ (u : Universe) (n m : List ℕ) (same : m ≡ n) (o : Option Named) (told : (k : Named) → (o ≡ Some k) ↔ IsNameOf u m k) where
  exact : (k : Named) → (o ≡ Some k) ↔ IsNameOf u n k
  exact k = subst (λ t. (o ≡ Some k) ↔ IsNameOf u t k) same (told k)

  pub kind_some : {A : Type 0} (K : A → Named) (x : A) → ((y : A) → K x ≡ K y → x ≡ y) → o ≡ Some (K x) → (y : A) → (Some x ≡ Some y) ↔ IsNameOf u n (K y)
  kind_some {A} K x injective is y = (
    (λ e. let back : x ≡ y = cc in (exact (K y)).0 (is ∙ ap (λ z. Some (K z)) back)),
    (λ h. let e = (exact (K y)).1 h in let k : K x ≡ K y = cc in ap Some (injective y k)),
  )

  pub kind_none : {A : Type 0} (K : A → Named) → ((y : A) → o ≡ Some (K y) → ⊥) → (y : A) → (◌≡◌ {A = Option A} None (Some y)) ↔ IsNameOf u n (K y)
  kind_none K other y = ((λ e. absurd (cc)), (λ h. absurd (other y ((exact (K y)).1 h))))

  pub value_some : (t : SortId) (w : ValueId) → o ≡ Some (named.Value t w) → (s : SortId) (v : ValueId) → (◌≡◌ {A = Option (SortId × ValueId)} (Some (t, w)) (Some (s, v))) ↔ StandsForValue u s (name_value n) v
  value_some t w is s v = (
    (λ e. let p = some_pair t s w v e in value_named u s n v ((exact (named.Value s v)).0 (is ∙ ap₂ (λ (a : SortId) (b : ValueId). Some (named.Value a b)) p.0 p.1))),
    (λ h. let e = (exact (named.Value s v)).1 (value_is_named u s n v h) in cc),
  )

  pub value_none : ((s : SortId) (v : ValueId) → o ≡ Some (named.Value s v) → ⊥) → (s : SortId) (v : ValueId) → (◌≡◌ {A = Option (SortId × ValueId)} None (Some (s, v))) ↔ StandsForValue u s (name_value n) v
  value_none other s v = ((λ e. absurd (cc)), (λ h. absurd (other s v ((exact (named.Value s v)).1 (value_is_named u s n v h)))))

  pub other_name : (k : Named) → o ≡ Some k → IsOtherName u n WrongSort
  other_name k is = inr (name_is_declared u n k ((exact k).0 is), refl)

  pub no_name : (IsNone o ↔ ¬ Contains (declared_names u) m) → IsNone o → IsOtherName u n UnknownName
  no_name undeclared none = inl (subst (λ t. ¬ Contains (declared_names u) t) same (undeclared.0 none), refl)

-- the faults of a name that stands for something else
pub other_fault : (u : Universe) (n : List ℕ) (Kind : Type 0) → ¬ Kind → (e : SortFault) → IsOtherName u n e → IsNameFault u n Kind e
other_fault u n Kind lacks e (inl h) = inl h
other_fault u n Kind lacks e (inr h) = inr (h.0, inl (lacks, h.1))

pub no_memory : (u : Universe) (n : List ℕ) (Kind : Type 0) → ¬ IsNameFault u n Kind Memory
no_memory u n Kind (inl h) = absurd (let e = h.1 in cc)
no_memory u n Kind (inr h) = elim h.1 [ inl k ↦ absurd (let e = k.1 in cc) | inr k ↦ k.1 ]
