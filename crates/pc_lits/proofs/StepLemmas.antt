-- One hint further in a refutation.
use Rattle.std.proofs.Common.{◌≡◌, ◌≢◌, ℕ, ◌+◌, ◌<◌, Bool, true, not, List, [], ◌∷◌, ◌++◌, Option, Some, length, get_or, set, take, drop, All, refl, sym, ap, ◌∙◌, subst, arith, Contains, ⊎_elim, ◌↔◌, eqb, slice_get}
use Rattle.std.proofs.lemmas.Option.{get_or_from_slice_get, slice_get_within}
use Rattle.std.proofs.lemmas.Bool.{cases_Bool, eqb-true, eqb-false}
use Rattle.std.proofs.lemmas.List.{take_more, take-append-drop, drop_more, drop_all, length-drop}
use Rattle.std.proofs.Math.Bool.{not-not}
use Rattle.std.proofs.lemmas.List.Elements.{All-contains, Contains-append_left, Contains-get_or}
use Rattle.pc_lits.specs.declared.literal.Lit.{Lit}
use Rattle.pc_lits.specs.Literals.{negated}
use Rattle.pc_lits.specs.Steps.{IsTautology, Refutes}
use Rattle.pc_lits.proofs.LitLemmas.{same_lit, lit_from_same, other_lit}
use Rattle.pc_lits.specs.declared.scan.Left.TheVariants.{Nothing, Last, More}
use Rattle.pc_lits.specs.Values.{MakesFalse, IsInRange, value_of, Agrees}
use Rattle.pc_lits.specs.Scan.{IsScanned}
use Rattle.pc_lits.proofs.AgreeLemmas.{Agrees-set, never_not, some_cancel}

-- the literals of the hint have values or may get them
abbrev pub InRange : List (Option Bool) → List Lit → Type 0
InRange values hint = (m : Lit) → Contains hint m → IsInRange values m

pub closed_last : (values : List (Option Bool)) (falses hint : List Lit) → Agrees values falses → InRange values hint → IsScanned values hint Nothing → Refutes negated falses (hint ∷ [])
closed_last values falses hint agrees within left m has = (agrees m (within m has)).0 (left m has)

pub closed_early : (values : List (Option Bool)) (falses hint : List Lit) (rest : List (List Lit)) → Agrees values falses → InRange values hint → IsScanned values hint Nothing
    → rest ≢ [] → Refutes negated falses (hint ∷ rest) → ⊥
closed_early values falses hint [] agrees within left more h = more refl
closed_early values falses hint (next ∷ rest) agrees within left more h =
    h.1.1 ((agrees h.0 (within h.0 h.1.0)).0 (left h.0 h.1.0))

pub open_more : (values : List (Option Bool)) (falses hint : List Lit) (rest : List (List Lit)) → Agrees values falses → InRange values hint → IsScanned values hint More
    → Refutes negated falses (hint ∷ rest) → ⊥
open_more values falses hint [] agrees within left h = left.5 ((agrees left.0 (within left.0 left.3)).1 (h left.0 left.3))
open_more values falses hint (next ∷ rest) agrees within left h =
    let l = left.0 in
    let m = left.1 in
    let false_if_other : (x : Lit) → Contains hint x → x ≢ h.0 → MakesFalse values x = λ x has other. (agrees x (within x has)).1 (h.1.2 x has other) in
    ⊎_elim
    (λ yes. let same = lit_from_same l h.0 yes in left.6 (false_if_other m left.4 (λ also. left.2 (same ∙ sym also))))
    (λ no. left.5 (false_if_other l left.3 (other_lit l h.0 no)))
    (cases_Bool (same_lit l h.0))

-- the only literal that isn't false is the one that the hint makes true
pub open_last : (values : List (Option Bool)) (falses hint : List Lit) (rest : List (List Lit)) (l : Lit) → Agrees values falses → InRange values hint → IsScanned values hint (Last l)
    → Refutes negated falses (hint ∷ rest) ↔ Refutes negated (falses ++ negated l ∷ []) rest
open_last values falses hint [] l agrees within left =
    (λ h. left.1 ((agrees l (within l left.0)).1 (h l left.0)), λ h. absurd h)
open_last values falses hint (next ∷ rest) l agrees within left = (
  λ h.
      ⊎_elim
      (λ yes. subst (λ (x : Lit). Refutes negated (falses ++ negated x ∷ []) (next ∷ rest)) (sym (lit_from_same l h.0 yes)) h.2)
      (λ no. absurd (left.1 ((agrees l (within l left.0)).1 (h.1.2 l left.0 (other_lit l h.0 no)))))
      (cases_Bool (same_lit l h.0)),
  λ h. (l, (left.0, λ has. left.1 ((agrees l (within l left.0)).1 has), λ m has other. (agrees m (within m has)).0 (left.2 m has other)), h),
)

-- values that make each literal of a clause false show that it is no tautology
pub no_tautology : (values : List (Option Bool)) (clause : List Lit) → Agrees values clause → InRange values clause → IsTautology negated clause → ⊥
no_tautology values clause agrees within h =
    never_not _ (some_cancel _ _ (sym ((agrees h.0 (within h.0 h.1)).1 h.1) ∙ (agrees (negated h.0) (within (negated h.0) h.2)).1 h.2))

-- a literal that is true beside the clause's earlier literals is another's negation
pub found_tautology : (values : List (Option Bool)) (clause before : List Lit) (x : Lit) → Agrees values before → IsInRange values x → value_of values x ≡ Some x.sign
    → Contains clause x → ((m : Lit) → Contains before m → Contains clause m) → IsTautology negated clause
found_tautology values clause before x agrees within is_true has earlier =
    (x, has, earlier (negated x) ((agrees (negated x) within).0 (is_true ∙ ap Some (sym (not-not x.sign)))))

Contains-from_take : {X : Type 0} (xs : List X) (i : ℕ) (x : X) → Contains (take i xs) x → Contains xs x
Contains-from_take {X} xs i x h = subst (λ (ys : List X). Contains ys x) (take-append-drop i xs) (Contains-append_left (take i xs) (drop i xs) x h)

pub deny_more : (values : List (Option Bool)) (clause : List Lit) (i : ℕ) (d : Lit) → i < length clause → Agrees values (take i clause) → IsInRange values (get_or clause i d)
    → (value_of values (get_or clause i d) ≡ Some (get_or clause i d).sign → ⊥)
    → Agrees (set values (get_or clause i d).variable.0 (Some (not (get_or clause i d).sign))) (take (i + 1) clause)
deny_more values clause i d within agrees in_range open_one =
    rw (take_more clause i d within) (Agrees-set values (take i clause) (get_or clause i d) agrees in_range open_one)

pub found_at : (values : List (Option Bool)) (clause : List Lit) (i : ℕ) (d : Lit) → i < length clause → Agrees values (take i clause) → IsInRange values (get_or clause i d)
    → value_of values (get_or clause i d) ≡ Some (get_or clause i d).sign → IsTautology negated clause
found_at values clause i d within agrees in_range is_true =
    found_tautology values clause (take i clause) (get_or clause i d) agrees in_range is_true (Contains-get_or clause i d within) (λ m has. Contains-from_take clause i m has)

pub hints_more : (hints : List (List Lit)) (place : ℕ) (clause : List Lit) → slice_get hints place ≡ Some clause
    → drop place hints ≡ clause ∷ drop (place + 1) hints
hints_more hints place clause at =
    drop_more hints place [] (slice_get_within hints place clause at)
    ∙ ap (λ (x : List Lit). x ∷ drop (place + 1) hints) (get_or_from_slice_get hints place clause [] at)

-- the answer where no literal of the hint is left
pub nothing_left : (values : List (Option Bool)) (falses hint : List Lit) (hints : List (List Lit)) (place count : ℕ) → count ≡ length hints
    → slice_get hints place ≡ Some hint → Agrees values falses → InRange values hint → IsScanned values hint Nothing
    → (eqb (place + 1) count ≡ true) ↔ Refutes negated falses (drop place hints)
nothing_left values falses hint hints place count all at agrees in_range left =
    let more = hints_more hints place hint at in
    let within : place < length hints = slice_get_within hints place hint at in
    let rest = drop (place + 1) hints in (
      λ yes.
          let ends : drop (place + 1) hints ≡ [] = drop_all (place + 1) hints (omega (arith, eqb-true _ _ yes)) in
          rw (more, ends) (closed_last values falses hint agrees in_range left),
      λ h. ⊎_elim (λ yes. yes)
          (λ no. absurd (closed_early values falses hint rest agrees in_range left
          (λ none. eqb-false _ _ no (omega (arith, ap length none, length-drop (place + 1) hints)))
          (rw more at h)))
          (cases_Bool (eqb (place + 1) count)),
    )

-- lines are in range still after values were written
pub line_in_range : (values start : List (Option Bool)) (lines : List (List Lit)) (h : ℕ) (hint : List Lit) → length values ≡ length start
    → All (λ line. All (IsInRange start) line) lines → slice_get lines h ≡ Some hint → InRange values hint
line_in_range values start lines h hint same in_range at m has =
    let within : h < length lines = slice_get_within lines h hint at in
    let line : All (IsInRange start) hint =
    subst (λ (line : List Lit). All (IsInRange start) line) (get_or_from_slice_get lines h hint [] at) (in_range h [] within) in
    omega (arith, All-contains (IsInRange start) hint m line has)
