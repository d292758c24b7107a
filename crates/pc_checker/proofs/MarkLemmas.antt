-- Literals of one sign that are marked by truth values.
use Rattle.std.proofs.Common.{◌≡◌, ◌≢◌, ℕ, ◌+◌, ◌<◌, ◌↔◌, ⊎_elim, Bool, true, false, IsTrue, List, [], ◌∷◌, ◌++◌, take, length, get_or, set, All, Contains, Option, None, Some, refl, sym, ap, ◌∙◌, subst, arith}
use Rattle.std.proofs.Math.Bool.{beq}
use Rattle.std.proofs.lemmas.Bool.{cases_eq, false≢true, true≢false}
use Rattle.std.proofs.lemmas.List.{take_more, length-set, get_or-set_same, get_or-set_other}
use Rattle.std.proofs.lemmas.List.Elements.{Contains-push, Contains-push_cases, Contains-append_left}
use Rattle.pc_lits.specs.declared.literal.Lit.{Lit}
use Rattle.pc_lits.proofs.LitLemmas.{same_parts}
use Rattle.pc_lits.specs.Values.{IsInRange, value_of}
use Rattle.pc_checker.specs.inside.Parts.{IsAmongOf, AreMarked}

pub same_sign : (a b : Bool) → beq a b ≡ true → a ≡ b
same_sign true true h = refl
same_sign true false h = sym h
same_sign false true h = h
same_sign false false h = refl

pub other_sign : (a b : Bool) → beq a b ≡ false → a ≢ b
other_sign true true h = λ same. true≢false h
other_sign true false h = λ same. true≢false same
other_sign false true h = λ same. false≢true same
other_sign false false h = λ same. true≢false h

-- one literal more of that sign
pub marked_push : (sign : Bool) (lits : List Lit) (x : Lit) (values : List (Option Bool)) → IsInRange values x → x.sign ≡ sign → AreMarked sign lits values
    → AreMarked sign (lits ++ x ∷ []) (set values x.variable.0 (Some x.sign))
marked_push sign lits x values room is_of marked l within of =
    let before : IsInRange values l = omega (arith, length-set values x.variable.0 (Some x.sign)) in
    ⊎_elim
    (λ same_variable.
    let now : value_of (set values x.variable.0 (Some x.sign)) l ≡ Some x.sign = rw same_variable (get_or-set_same values x.variable.0 (Some x.sign) None room) in
    let same : l ≡ x = same_parts l x same_variable (of ∙ sym is_of) in
    (λ _. rw same (Contains-push lits x), λ _. now ∙ ap Some (is_of ∙ sym of)))
    (λ other.
    let kept : value_of (set values x.variable.0 (Some x.sign)) l ≡ value_of values l = get_or-set_other values x.variable.0 l.variable.0 (Some x.sign) None other in (
      λ is. Contains-append_left lits (x ∷ []) l ((marked l before of).0 (sym kept ∙ is)),
      λ has. kept ∙ ⊎_elim ((marked l before of).1) (λ same. absurd (other (ap (λ (m : Lit). m.variable.0) (sym same)))) (Contains-push_cases lits x l has),
    ))
    (cases_eq l.variable.0 x.variable.0)

-- a literal of the other sign is none of those that are asked for
pub marked_skip : (sign : Bool) (lits : List Lit) (x : Lit) (values : List (Option Bool)) → x.sign ≢ sign → AreMarked sign lits values → AreMarked sign (lits ++ x ∷ []) values
marked_skip sign lits x values other marked l within of = (
  λ is. Contains-append_left lits (x ∷ []) l ((marked l within of).0 is),
  λ has. ⊎_elim ((marked l within of).1) (λ same. absurd (other (ap (λ (m : Lit). m.sign) same ∙ of))) (Contains-push_cases lits x l has),
)

pub marked_more : (sign : Bool) (lits : List Lit) (i : ℕ) (d : Lit) (values : List (Option Bool)) → i < length lits → IsInRange values (get_or lits i d) → (get_or lits i d).sign ≡ sign
    → AreMarked sign (take i lits) values → AreMarked sign (take (i + 1) lits) (set values (get_or lits i d).variable.0 (Some (get_or lits i d).sign))
marked_more sign lits i d values within room is_of marked =
    let x = get_or lits i d in
    subst (λ (ls : List Lit). AreMarked sign ls (set values x.variable.0 (Some x.sign))) (sym (take_more lits i d within)) (marked_push sign (take i lits) x values room is_of marked)

pub marked_past : (sign : Bool) (lits : List Lit) (i : ℕ) (d : Lit) (values : List (Option Bool)) → i < length lits → (get_or lits i d).sign ≢ sign
    → AreMarked sign (take i lits) values → AreMarked sign (take (i + 1) lits) values
marked_past sign lits i d values within other marked =
    let x = get_or lits i d in
    subst (λ (ls : List Lit). AreMarked sign ls values) (sym (take_more lits i d within)) (marked_skip sign (take i lits) x values other marked)

-- literals are among these where those of each sign are
pub among_both : (lits clause : List Lit) → All (IsAmongOf true lits) clause → All (IsAmongOf false lits) clause → All (Contains lits) clause
among_both lits clause positives negatives k d within = by_sign (get_or clause k d) (positives k d within) (negatives k d within)
  where
    by_sign_of : (l : Lit) (b : Bool) → l.sign ≡ b → IsAmongOf true lits l → IsAmongOf false lits l → Contains lits l
    by_sign_of l true is positive negative = positive is
    by_sign_of l false is positive negative = negative is

    by_sign : (l : Lit) → IsAmongOf true lits l → IsAmongOf false lits l → Contains lits l
    by_sign l positive negative = by_sign_of l l.sign refl positive negative

pub among_of : (sign : Bool) (lits clause : List Lit) → All (Contains lits) clause → All (IsAmongOf sign lits) clause
among_of sign lits clause all k d within = λ of. all k d within

-- a list with an element that fails
pub one_is_not : {X : Type 0} (P : X → Type 0) (xs : List X) (i : ℕ) (d : X) → i < length xs → ¬ P (get_or xs i d) → IsTrue false ↔ All P xs
one_is_not P xs i d within fails = (λ none. absurd (false≢true none), λ all. absurd (fails (all i d within)))
