-- What is left of a clause, one literal further.
use Rattle.std.proofs.Common.{◌≡◌, ◌≢◌, ℕ, ◌+◌, ◌<◌, ◌≤◌, Bool, List, [], ◌∷◌, ◌++◌, Option, length, get_or, take, drop, sym, ◌∙◌, subst, arith, Contains, ⊎_elim}
use Rattle.std.proofs.lemmas.List.{take_more, take_all, take-append-drop}
use Rattle.std.proofs.lemmas.List.Elements.{Contains-push, Contains-push_cases, Contains-append_left}
use Rattle.pc_lits.specs.declared.literal.Lit.{Lit}
use Rattle.pc_lits.specs.declared.scan.Left.{Left}
use Rattle.pc_lits.specs.declared.scan.Left.TheVariants.{Nothing, Last, More}
use Rattle.pc_lits.specs.Values.{MakesFalse}
use Rattle.pc_lits.specs.Scan.{IsScanned}

not_contained : {X : Type 0} (x : X) → Contains [] x → ⊥
not_contained x h = omega (arith, h.1)

pub IsScanned-none : (values : List (Option Bool)) → IsScanned values [] Nothing
IsScanned-none values m h = absurd (not_contained m h)

still_more : (values : List (Option Bool)) (xs ys : List Lit) → IsScanned values xs More → IsScanned values (xs ++ ys) More
still_more values xs ys h =
    (h.0, h.1, h.2, Contains-append_left xs ys h.0 h.3, Contains-append_left xs ys h.1 h.4, h.5, h.6)

push_false : (values : List (Option Bool)) (xs : List Lit) (x : Lit) (left : Left) → IsScanned values xs left → MakesFalse values x → IsScanned values (xs ++ x ∷ []) left
push_false values xs x Nothing h is_false = λ m has.
    ⊎_elim (h m) (λ same. subst (MakesFalse values) same is_false) (Contains-push_cases xs x m has)
push_false values xs x (Last l) h is_false =
    (Contains-append_left xs (x ∷ []) l h.0, h.1, λ m has other. ⊎_elim (λ before. h.2 m before other) (λ same. subst (MakesFalse values) same is_false) (Contains-push_cases xs x m has))
push_false values xs x More h is_false = still_more values xs (x ∷ []) h

push_first : (values : List (Option Bool)) (xs : List Lit) (x : Lit) → IsScanned values xs Nothing → (MakesFalse values x → ⊥) → IsScanned values (xs ++ x ∷ []) (Last x)
push_first values xs x h open_one =
    (Contains-push xs x, open_one, λ m has other. ⊎_elim (h m) (λ same. absurd (other (sym same))) (Contains-push_cases xs x m has))

push_again : (values : List (Option Bool)) (xs : List Lit) (l x : Lit) → IsScanned values xs (Last l) → l ≡ x → IsScanned values (xs ++ x ∷ []) (Last l)
push_again values xs l x h again =
    (Contains-append_left xs (x ∷ []) l h.0, h.1, λ m has other. ⊎_elim (λ before. h.2 m before other) (λ same. absurd (other (sym same ∙ sym again))) (Contains-push_cases xs x m has))

push_second : (values : List (Option Bool)) (xs : List Lit) (l x : Lit) → IsScanned values xs (Last l) → l ≢ x → (MakesFalse values x → ⊥) → IsScanned values (xs ++ x ∷ []) More
push_second values xs l x h other open_one =
    (l, x, other, Contains-append_left xs (x ∷ []) l h.0, Contains-push xs x, h.1, open_one)

-- the same, at the literal that a loop has come to
pub more_false : (values : List (Option Bool)) (clause : List Lit) (i : ℕ) (d : Lit) (before after : Left) → i < length clause
    → IsScanned values (take i clause) before → after ≡ before → MakesFalse values (get_or clause i d) → IsScanned values (take (i + 1) clause) after
more_false values clause i d before after within left same is_false =
    rw (same, take_more clause i d within) (push_false values (take i clause) (get_or clause i d) before left is_false)

pub more_first : (values : List (Option Bool)) (clause : List Lit) (i : ℕ) (d : Lit) (before after : Left) → i < length clause
    → IsScanned values (take i clause) before → before ≡ Nothing → after ≡ Last (get_or clause i d) → (MakesFalse values (get_or clause i d) → ⊥)
    → IsScanned values (take (i + 1) clause) after
more_first values clause i d before after within left is_nothing is_last open_one =
    rw (is_last, take_more clause i d within) (push_first values (take i clause) (get_or clause i d) (rw is_nothing at left) open_one)

pub more_again : (values : List (Option Bool)) (clause : List Lit) (i : ℕ) (d l : Lit) (before after : Left) → i < length clause
    → IsScanned values (take i clause) before → before ≡ Last l → after ≡ Last l → l ≡ get_or clause i d → IsScanned values (take (i + 1) clause) after
more_again values clause i d l before after within left was_last is_last again =
    rw (is_last, take_more clause i d within) (push_again values (take i clause) l (get_or clause i d) (rw was_last at left) again)

pub more_second : (values : List (Option Bool)) (clause : List Lit) (i : ℕ) (d l : Lit) (before : Left) → i < length clause
    → IsScanned values (take i clause) before → before ≡ Last l → l ≢ get_or clause i d → (MakesFalse values (get_or clause i d) → ⊥)
    → IsScanned values clause More
more_second values clause i d l before within left was_last other open_one =
    let here : IsScanned values (take (i + 1) clause) More =
    rw (take_more clause i d within) (push_second values (take i clause) l (get_or clause i d) (rw was_last at left) other open_one) in
    subst (λ (c : List Lit). IsScanned values c More) (take-append-drop (i + 1) clause) (still_more values (take (i + 1) clause) (drop (i + 1) clause) here)

pub more_still : (values : List (Option Bool)) (clause : List Lit) (i : ℕ) (d : Lit) (before after : Left) → i < length clause
    → IsScanned values (take i clause) before → before ≡ More → after ≡ before → IsScanned values (take (i + 1) clause) after
more_still values clause i d before after within left was_more same =
    rw (same, was_more, take_more clause i d within) (still_more values (take i clause) (get_or clause i d ∷ []) (rw was_more at left))

pub all_seen : (values : List (Option Bool)) (clause : List Lit) (i : ℕ) (left : Left) → length clause ≤ i → IsScanned values (take i clause) left → IsScanned values clause left
all_seen values clause i left end h = subst (λ (c : List Lit). IsScanned values c left) (take_all i clause end) h
