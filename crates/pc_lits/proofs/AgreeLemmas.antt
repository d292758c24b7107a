-- A partial assignment beside the list of the literals that it makes false.
use Rattle.std.proofs.Common.{◌≡◌, ◌≢◌, ℕ, Bool, true, false, not, List, [], ◌∷◌, ◌++◌, Option, Some, None, get_or, set, replicate, refl, sym, ap, ◌∙◌, subst, arith, Contains, inl, inr, ◌⊎◌, ⊎_elim, ◌↔◌}
use Rattle.std.proofs.lemmas.List.{get_or-set_same, get_or-set_other, length-set, get_or-replicate, length-replicate}
use Rattle.std.proofs.Math.Bool.{not-not}
use Rattle.std.proofs.lemmas.List.Elements.{Contains-push, Contains-push_cases, Contains-append_left}
use Rattle.std.proofs.lemmas.Bool.{cases_eq, true≢false, false≢true}
use Rattle.pc_lits.specs.declared.literal.Lit.{Lit}
use Rattle.pc_lits.specs.Literals.{negated}
use Rattle.pc_lits.proofs.LitLemmas.{same_parts}
use Rattle.pc_lits.specs.Values.{MakesFalse, IsInRange, value_of, Agrees}

same_or_not : (a b : Bool) → (a ≡ b) ⊎ (a ≡ not b)
same_or_not true true = inl refl
same_or_not true false = inr refl
same_or_not false true = inr refl
same_or_not false false = inl refl

pub never_not : (a : Bool) → a ≡ not a → ⊥
never_not true h = true≢false h
never_not false h = false≢true h

not_cancel : (a b : Bool) → not a ≡ not b → a ≡ b
not_cancel true true h = refl
not_cancel true false h = sym h
not_cancel false true h = sym h
not_cancel false false h = refl

pub some_cancel : {X : Type 0} (x y : X) → Some x ≡ Some y → x ≡ y
some_cancel x y h = cc

pub Agrees-none : (n : ℕ) → Agrees (replicate n None) []
Agrees-none n l within = (λ is. absurd (no_value is), λ has. absurd (omega (arith, has.1)))
  where
    no_value : MakesFalse (replicate n None) l → ⊥
    no_value is = let blank : value_of (replicate n None) l ≡ None = get_or-replicate n l.variable.0 None None (omega (arith, length-replicate {A = Option Bool} n None)) in cc

-- one more literal becomes false, which isn't true
pub Agrees-set : (values : List (Option Bool)) (falses : List Lit) (x : Lit) → Agrees values falses → IsInRange values x → value_of values x ≢ Some x.sign
    → Agrees (set values x.variable.0 (Some (not x.sign))) (falses ++ x ∷ [])
Agrees-set values falses x agrees in_range open_one l within =
    let old_range : IsInRange values l = omega (arith, length-set values x.variable.0 (Some (not x.sign))) in
    ⊎_elim
    (λ same_variable. at_same values falses x agrees in_range open_one l old_range same_variable)
    (λ other. at_other values falses x agrees l old_range other)
    (cases_eq l.variable.0 x.variable.0)
  where
    at_other : (values : List (Option Bool)) (falses : List Lit) (x : Lit) → Agrees values falses → (l : Lit) → IsInRange values l → l.variable.0 ≢ x.variable.0
        → MakesFalse (set values x.variable.0 (Some (not x.sign))) l ↔ Contains (falses ++ x ∷ []) l
    at_other values falses x agrees l within other =
        let kept : value_of (set values x.variable.0 (Some (not x.sign))) l ≡ value_of values l = get_or-set_other values x.variable.0 l.variable.0 (Some (not x.sign)) None other in (
          λ is. Contains-append_left falses (x ∷ []) l ((agrees l within).0 (sym kept ∙ is)),
          λ has. kept ∙ ⊎_elim ((agrees l within).1) (λ same. absurd (other (ap (λ (m : Lit). m.variable.0) (sym same)))) (Contains-push_cases falses x l has),
        )

    at_same : (values : List (Option Bool)) (falses : List Lit) (x : Lit) → Agrees values falses → IsInRange values x → value_of values x ≢ Some x.sign
        → (l : Lit) → IsInRange values l → l.variable.0 ≡ x.variable.0
        → MakesFalse (set values x.variable.0 (Some (not x.sign))) l ↔ Contains (falses ++ x ∷ []) l
    at_same values falses x agrees in_range open_one l within same_variable =
        let now : value_of (set values x.variable.0 (Some (not x.sign))) l ≡ Some (not x.sign) =
        rw same_variable (get_or-set_same values x.variable.0 (Some (not x.sign)) None in_range) in
        let was : value_of values l ≡ value_of values x = ap (λ n. get_or values n None) same_variable in
        ⊎_elim
        (λ same_sign.
        let same : l ≡ x = same_parts l x same_variable same_sign in
        (λ _. rw same (Contains-push falses x), λ _. now ∙ ap (λ b. Some (not b)) (sym same_sign)))
        (λ turned. (
          λ is. absurd (never_not x.sign (not_cancel _ _ (some_cancel _ _ (sym now ∙ is)) ∙ turned)),
          λ has. ⊎_elim
              (λ before. absurd (open_one (sym was ∙ (agrees l within).1 before ∙ ap (λ b. Some (not b)) turned ∙ ap Some (not-not x.sign))))
              (λ same. absurd (never_not x.sign (ap (λ (m : Lit). m.sign) same ∙ turned)))
              (Contains-push_cases falses x l has),
        ))
        (same_or_not l.sign x.sign)

-- the last literal becomes true
pub Agrees-last : (values : List (Option Bool)) (falses : List Lit) (l : Lit) → Agrees values falses → IsInRange values l → (MakesFalse values l → ⊥)
    → Agrees (set values l.variable.0 (Some l.sign)) (falses ++ negated l ∷ [])
Agrees-last values falses l agrees within open_one =
    subst (λ (b : Bool). Agrees (set values l.variable.0 (Some b)) (falses ++ negated l ∷ [])) (not-not l.sign)
    (Agrees-set values falses (negated l) agrees within open_one)

value_cases : (value : Option Bool) (s : Bool) → (value ≡ None) ⊎ ((value ≡ Some s) ⊎ (value ≡ Some (not s)))
value_cases None s = inl refl
value_cases (Some true) true = inr (inl refl)
value_cases (Some true) false = inr (inr refl)
value_cases (Some false) true = inr (inr refl)
value_cases (Some false) false = inr (inl refl)

-- a literal that is neither false nor true has no value
pub no_value-from_unset : (values : List (Option Bool)) (falses : List Lit) (l : Lit) → Agrees values falses → IsInRange values l
    → (Contains falses l → ⊥) → (Contains falses (negated l) → ⊥) → value_of values l ≡ None
no_value-from_unset values falses l agrees within not_false not_true =
    ⊎_elim (λ none. none)
    (λ some. ⊎_elim
    (λ is_true. absurd (not_true ((agrees (negated l) within).0 (is_true ∙ ap Some (sym (not-not l.sign))))))
    (λ is_false. absurd (not_false ((agrees l within).0 is_false)))
    some)
    (value_cases (value_of values l) l.sign)

pub unset_from_no_value : (values : List (Option Bool)) (falses : List Lit) (l : Lit) → Agrees values falses → IsInRange values l
    → value_of values l ≡ None → (Contains falses l → ⊥) × (Contains falses (negated l) → ⊥)
unset_from_no_value values falses l agrees within none =
    (λ has. let is = (agrees l within).1 has in cc, λ has. let is = (agrees (negated l) within).1 has in cc)

-- a literal that isn't false is true where it has a value
pub true_from_value : (values : List (Option Bool)) (falses : List Lit) (l : Lit) (b : Bool) → Agrees values falses → IsInRange values l
    → value_of values l ≡ Some b → (Contains falses l → ⊥) → Contains falses (negated l)
true_from_value values falses l b agrees within is not_false =
    ⊎_elim (λ same. (agrees (negated l) within).0 (is ∙ ap Some (same ∙ sym (not-not l.sign))))
    (λ turned. absurd (not_false ((agrees l within).0 (is ∙ ap Some turned))))
    (same_or_not b l.sign)

-- a variable's value is taken back, of which the other false literals know nothing
pub Agrees-forget : (values : List (Option Bool)) (falses : List Lit) (x : Lit) → Agrees values (falses ++ x ∷ []) → IsInRange values x
    → ((m : Lit) → Contains falses m → m.variable.0 ≢ x.variable.0) → Agrees (set values x.variable.0 None) falses
Agrees-forget values falses x agrees in_range apart l within =
    let old_range : IsInRange values l = omega (arith, length-set {A = Option Bool} values x.variable.0 None) in
    ⊎_elim
    (λ same.
    let now : value_of (set values x.variable.0 None) l ≡ None = rw same (get_or-set_same {A = Option Bool} values x.variable.0 None None in_range) in
    (λ is. absurd (none_some _ (sym now ∙ is)), λ has. absurd (apart l has same)))
    (λ other.
    let kept : value_of (set values x.variable.0 None) l ≡ value_of values l = get_or-set_other {A = Option Bool} values x.variable.0 l.variable.0 None None other in (
      λ is. ⊎_elim (λ before. before) (λ same. absurd (other (ap (λ (m : Lit). m.variable.0) (sym same))))
          (Contains-push_cases falses x l ((agrees l old_range).0 (sym kept ∙ is))),
      λ has. kept ∙ (agrees l old_range).1 (Contains-append_left falses (x ∷ []) l has),
    ))
    (cases_eq l.variable.0 x.variable.0)
  where
    none_some : (b : Bool) → None ≡ Some b → ⊥
    none_some b h = cc
