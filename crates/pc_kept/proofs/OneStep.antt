-- One step of unit propagation, and of naming.
use Rattle.std.proofs.Common.{◌≡◌, ℕ, ◌<◌, arith, inl, inr, Bool, true, List, [], ◌∷◌, Option, None, Some, slice_index_or, slice_set, length, replicate, All, Contains, ap, sym, ◌∙◌, subst}
use Rattle.std.proofs.lemmas.Bool.{cases_eq, cases_lt}
use Rattle.std.proofs.lemmas.List.{get_or-set_same, get_or-set_other, get_or-replicate, get_or_past, length-replicate}
use Rattle.pc_lits.specs.declared.literal.Lit.{Lit}
use Rattle.pc_lits.specs.declared.scan.Left.TheVariants.{Last}
use Rattle.pc_lits.specs.Literals.{negated}
use Rattle.pc_lits.specs.Scan.{IsScanned}
use Rattle.pc_lits.specs.Values.{value_of, MakesTrue}
use Rattle.pc_lits.proofs.LitLemmas.{same_parts}
use Rattle.pc_lits.proofs.AgreeLemmas.{some_cancel}
use Rattle.pc_lemmas.proofs.Elements.{contains_first, contains_later}
use Rattle.pc_kept.specs.Kept.{IsAmong}
use Rattle.pc_kept.specs.inside.Checks.{AreRight, IsNamed, IsRoom}

pub forced_more : (store : List (List Lit)) (kept : List ℕ) (clause : List Lit) (values : List (Option Bool)) (l : Lit) → IsAmong store kept clause → IsScanned values clause (Last l) → l.variable.0 < length values
    → AreRight store kept values → AreRight store kept (slice_set values l.variable.0 (Some l.sign))
forced_more store kept clause values l among scanned within (trues, are, right) =
    (l ∷ trues, ((clause, among, scanned.0, λ m has other. right (negated m) (scanned.2 m has other)), are), holds)
  where
    holds : (m : Lit) → MakesTrue (slice_set values l.variable.0 (Some l.sign)) m → Contains (l ∷ trues) m
    holds m is = elim (cases_eq l.variable.0 m.variable.0) [
      | inl same ↦
          let here : slice_index_or (slice_set values l.variable.0 (Some l.sign)) l.variable.0 None ≡ Some l.sign = get_or-set_same values l.variable.0 (Some l.sign) None within in
          let there : slice_index_or (slice_set values l.variable.0 (Some l.sign)) l.variable.0 None ≡ Some m.sign = ap (λ n. slice_index_or (slice_set values l.variable.0 (Some l.sign)) n None) same ∙ is in
          subst (Contains (l ∷ trues)) (same_parts l m same (some_cancel l.sign m.sign (sym here ∙ there))) (contains_first l trues)
      | inr other ↦
          let kept_one : value_of (slice_set values l.variable.0 (Some l.sign)) m ≡ value_of values m = get_or-set_other values l.variable.0 m.variable.0 (Some l.sign) None (λ e. other (sym e)) in
          contains_later l trues m (right m (sym kept_one ∙ is))
    ]

none_some : (b : Bool) → None ≡ Some b → ⊥
none_some b e = absurd (cc)

pub none_right : (store : List (List Lit)) (kept : List ℕ) (n : ℕ) → AreRight store kept (replicate n None)
none_right store kept n = ([], tt, λ l is. absurd (blank l is))
  where
    blank : (l : Lit) → MakesTrue (replicate n None) l → ⊥
    blank l is = elim (cases_lt l.variable.0 n) [
      | inl low ↦ let e : value_of (replicate n None) l ≡ None = get_or-replicate n l.variable.0 None None low in none_some l.sign (sym e ∙ is)
      | inr high ↦ let e : value_of (replicate n None) l ≡ None = get_or_past (replicate n None) l.variable.0 None (omega (arith, high, length-replicate {A = Option Bool} n None)) in none_some l.sign (sym e ∙ is)
    ]

pub named_here : (named : List (Option Bool)) (x : ℕ) → x < length named → IsNamed (slice_set named x (Some true)) x
named_here named x within = get_or-set_same named x (Some true) None within

pub named_more : (named : List (Option Bool)) (x y : ℕ) → x < length named → IsNamed named y → IsNamed (slice_set named x (Some true)) y
named_more named x y within is = elim (cases_eq x y) [
  | inl same ↦ subst (IsNamed (slice_set named x (Some true))) same (named_here named x within)
  | inr other ↦ get_or-set_other named x y (Some true) None (λ e. other (sym e)) ∙ is
]

pub same_of : {X : Type 0} {x y : X} → Some x ≡ Some y → x ≡ y
same_of {x} {y} e = some_cancel x y e

pub room_same : (values others : List (Option Bool)) (store : List (List Lit)) → length values ≡ length others → IsRoom values store → IsRoom others store
room_same values others store same = subst (λ n. All (All (λ l. l.variable.0 < n)) store) same
