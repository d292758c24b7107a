-- Clauses that have the same literals pass the same tests.
use Rattle.std.proofs.Common.{◌≡◌, ℕ, ◌-◌, ◌<◌, inl, inr, Bool, List, [], ◌∷◌, ◌++◌, length, get_or, All, Contains, Option, None, Some, refl, subst}
use Rattle.std.proofs.lemmas.List.Elements.{All-contains, Contains-push, Contains-push_cases, Contains-append_left}
use Rattle.pc_lemmas.proofs.Elements.{all_from}
use Rattle.pc_lits.specs.declared.literal.Lit.{Lit}
use Rattle.pc_lits.specs.Literals.{negated}
use Rattle.pc_lits.specs.Hints.{clauses_at}
use Rattle.pc_lits.specs.Steps.{IsTautology, IsLastOpen, Refutes, IsGoodStep}
use Rattle.pc_cert.specs.declared.cert.CertPart.{CertPart}
use Rattle.pc_cert.specs.declared.cert.CertPart.TheVariants.{Axiom, Step, Block}
use Rattle.pc_cert.specs.declared.cert.CertLine.{CertLine}
use Rattle.pc_checker.specs.LineClauses.{HasSame}
use Rattle.pc_checker.specs.inside.Parts.{places_meant, IsGoodPart, AreGoodBelow, IsFirstBad, EndsAmong}

pub same_itself : (c : List Lit) → HasSame c c
same_itself c m = (λ h. h, λ h. h)

pub same_back : (c d : List Lit) → HasSame c d → HasSame d c
same_back c d same m = ((same m).1, (same m).0)

-- what all of the one are, all of the other are
pub all_same : (P : Lit → Type 0) (c d : List Lit) → HasSame c d → All P c → All P d
all_same P c d same all = all_from P d (λ m has. All-contains P c m all ((same m).1 has))

-- the same of clauses that stand at the same places
abbrev pub AreSame : List (List Lit) → List (List Lit) → Type 0
AreSame cs ds = (p : ℕ) → HasSame (get_or cs p []) (get_or ds p [])

pub are_same_back : (cs ds : List (List Lit)) → AreSame cs ds → AreSame ds cs
are_same_back cs ds same p = same_back (get_or cs p []) (get_or ds p []) (same p)

-- ---- good steps

tautology_same : (c d : List Lit) → HasSame c d → IsTautology negated c → IsTautology negated d
tautology_same c d same h = (h.0, (same h.0).0 h.1, (same (negated h.0)).0 h.2)

last_same : (fs gs c d : List Lit) (l : Lit) → HasSame fs gs → HasSame c d → IsLastOpen negated fs c l → IsLastOpen negated gs d l
last_same fs gs c d l falses same h = (
  (same l).0 h.0,
  λ bad. h.1 ((falses l).1 bad),
  λ m has other. (falses m).0 (h.2 m ((same m).1 has) other),
)

push_same : (fs gs : List Lit) (l : Lit) → HasSame fs gs → (m : Lit) → Contains (fs ++ l ∷ []) m → Contains (gs ++ l ∷ []) m
push_same fs gs l same m h = elim (Contains-push_cases fs l m h) [
  | inl old ↦ Contains-append_left gs (l ∷ []) m ((same m).0 old)
  | inr is ↦ subst (Contains (gs ++ l ∷ [])) is (Contains-push gs l)
]

pushes_same : (fs gs : List Lit) (l : Lit) → HasSame fs gs → HasSame (fs ++ l ∷ []) (gs ++ l ∷ [])
pushes_same fs gs l same m = (push_same fs gs l same m, push_same gs fs l (same_back fs gs same) m)

refutes_same : (cs ds : List (List Lit)) (places : List ℕ) (fs gs : List Lit) → AreSame cs ds → HasSame fs gs → Refutes negated fs (clauses_at cs places) → Refutes negated gs (clauses_at ds places)
refutes_same cs ds [] fs gs same falses h = h
refutes_same cs ds (p ∷ []) fs gs same falses h = λ m has. (falses m).0 (h m ((same p m).1 has))
refutes_same cs ds (p ∷ q ∷ places) fs gs same falses h = (
  h.0,
  last_same fs gs (get_or cs p []) (get_or ds p []) h.0 falses (same p) h.1,
  refutes_same cs ds (q ∷ places) (fs ++ negated h.0 ∷ []) (gs ++ negated h.0 ∷ []) same (pushes_same fs gs (negated h.0) falses) h.2,
)

no_hints : (cs ds : List (List Lit)) (places : List ℕ) → clauses_at cs places ≡ [] → clauses_at ds places ≡ []
no_hints cs ds [] h = refl
no_hints cs ds (p ∷ places) h = absurd (cc h)

step_same : (cs ds : List (List Lit)) (places : List ℕ) (c d : List Lit) → AreSame cs ds → HasSame c d → IsGoodStep negated c (clauses_at cs places) → IsGoodStep negated d (clauses_at ds places)
step_same cs ds places c d same here h = elim h [
  | inl a ↦ inl (tautology_same c d here a.0, no_hints cs ds places a.1)
  | inr b ↦ inr (λ is. b.0 (tautology_same d c (same_back c d here) is), refutes_same cs ds places c d same here b.1)
]

-- ---- lines

module _ (cs ds : List (List Lit)) (same : AreSame cs ds) where
  pub part_same : (axioms : List Bool) (i : ℕ) (part : CertPart) → IsGoodPart cs axioms i part → IsGoodPart ds axioms i part
  part_same axioms i (Axiom a) h = h
  part_same axioms i (Step c hints) h = (h.0, step_same cs ds (places_meant i hints.items) (get_or cs i []) (get_or ds i []) same (same i) h.1)
  part_same axioms i (Block j) h = h

  pub good_same : (axioms : List Bool) (lines : List CertLine) (n : ℕ) → AreGoodBelow cs axioms lines n → AreGoodBelow ds axioms lines n
  good_same axioms lines n h i d less = part_same axioms i (get_or lines i d).part (h i d less)

  pub ends_same : (allowed : List Lit) → length cs ≡ length ds → EndsAmong cs allowed → EndsAmong ds allowed
  ends_same allowed count h =
      let last : HasSame (get_or cs (length cs - 1) []) (get_or ds (length ds - 1) []) = subst (λ n. HasSame (get_or cs (length cs - 1) []) (get_or ds (n - 1) [])) count (same (length cs - 1)) in
      (subst (λ n. 0 < n) count h.0, all_same (Contains allowed) (get_or cs (length cs - 1) []) (get_or ds (length ds - 1) []) last h.1)

pub first_bad_same : (cs ds : List (List Lit)) → AreSame cs ds → (axioms : List Bool) (lines : List CertLine) (o : Option ℕ) → IsFirstBad cs axioms lines o → IsFirstBad ds axioms lines o
first_bad_same cs ds same axioms lines None h = good_same cs ds same axioms lines (length lines) h
first_bad_same cs ds same axioms lines (Some k) h = (
  h.0,
  good_same cs ds same axioms lines k h.1,
  λ d good. h.2 d (part_same ds cs (are_same_back cs ds same) axioms k (get_or lines k d).part good),
)
