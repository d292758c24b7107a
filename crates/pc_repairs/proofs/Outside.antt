-- The entries outside a set are those that a walk leaves.
use Rattle.std.proofs.Common.{◌≡◌, ◌==◌, ◌||◌, ◌+◌, ◌<◌, ◌≤◌, ℕ, inl, inr, true, false, not, cond, List, [], ◌∷◌, ◌++◌, map, length, get_or, drop, Contains, append-nil, append_assoc, ap, refl, sym, ◌∙◌, subst, eqb-true, eq-eqb}
use Rattle.std.proofs.lemmas.List.{at_drop_more, drop_all, drop-drop}
use Rattle.std.proofs.lemmas.Bool.{cases_Bool, false≢true, and_from, and_parts}
use Rattle.pc_lemmas.proofs.Elements.{contains_first, contains_later}
use Rattle.pc_lits.specs.declared.literal.Lit.{Lit}
use Rattle.pc_laws.proofs.Contained.{sub_contained, distinct_rest, distinct_first}
use Rattle.pc_sheet.specs.Entailment.{IsSublist}
use Rattle.pc_sheet.specs.WellFormed.{AreDifferent}
use Rattle.pc_sheet.specs.declared.ids.Entry.{Entry}
use Rattle.pc_accept.specs.Sets.{is_entry, is_in, those_outside}
use Rattle.pc_accept.proofs.SetsSound.{in_contains, contains_in}
use Rattle.pc_repairs.specs.inside.Walks.{starts_with, outside_by}

entry_is : (e f : Entry) → is_entry e f ≡ true → e ≡ f
entry_is e f h =
    let both = and_parts (e.cell.0 == f.cell.0) (e.value.0 == f.value.0) h in
    let make : ℕ → ℕ → Entry = λ c v. record { cell = record { 0 = c }; value = record { 0 = v } } in
    ap (λ c. make c e.value.0) (eqb-true e.cell.0 f.cell.0 both.0) ∙ ap (make f.cell.0) (eqb-true e.value.0 f.value.0 both.1)

is_itself : (e : Entry) → is_entry e e ≡ true
is_itself e = and_from (e.cell.0 == e.cell.0) (e.value.0 == e.value.0) (eq-eqb e.cell.0 e.cell.0 refl) (eq-eqb e.value.0 e.value.0 refl)

-- a set without the entry doesn't begin with it
other_start : (set : List Entry) (e : Entry) → ¬ Contains set e → starts_with set e ≡ false
other_start [] e none = refl
other_start (f ∷ fs) e none = elim (cases_Bool (is_entry f e)) [
  | inl is ↦ absurd (none (subst (Contains (f ∷ fs)) (entry_is f e is) (contains_first f fs)))
  | inr other ↦ other
]

pub not_in : (set : List Entry) (e : Entry) → ¬ Contains set e → is_in set e ≡ false
not_in set e none = elim (cases_Bool (is_in set e)) [ inl is ↦ absurd (none (in_contains set e is)) | inr other ↦ other ]

-- an entry that the others aren't changes nothing for them
outside_more : (f : Entry) (set es : List Entry) → ¬ Contains es f → those_outside es (f ∷ set) ≡ those_outside es set
outside_more f set [] none = refl
outside_more f set (e ∷ es) none =
    let other : is_entry e f ≡ false = elim (cases_Bool (is_entry e f)) [ inl is ↦ absurd (none (subst (Contains (e ∷ es)) (entry_is e f is) (contains_first e es))) | inr differs ↦ differs ] in
    let rest = outside_more f set es (λ c. none (contains_later e es f c)) in
    let same : is_in (f ∷ set) e ≡ is_in set e = ap (λ b. b || is_in set e) other in
    ap (λ b. cond (not b) (e ∷ those_outside es (f ∷ set)) (those_outside es (f ∷ set))) same
    ∙ ap (λ xs. cond (not (is_in set e)) (e ∷ xs) xs) rest

pub outside_is : (es set : List Entry) → AreDifferent es → IsSublist es set → outside_by es set ≡ those_outside es set
outside_is [] set distinct among = refl
outside_is (e ∷ es) set distinct (inl among) =
    let none : ¬ Contains set e = λ c. distinct_first e es distinct (sub_contained es set among e c) in
    ap (λ b. cond b (outside_by es (drop 1 set)) (e ∷ outside_by es set)) (other_start set e none)
    ∙ ap (λ xs. e ∷ xs) (outside_is es set (distinct_rest e es distinct) among)
    ∙ sym (ap (λ b. cond (not b) (e ∷ those_outside es set) (those_outside es set)) (not_in set e none))
outside_is (e ∷ es) set distinct (inr (rest, is, among)) =
    subst (λ s. outside_by (e ∷ es) s ≡ those_outside (e ∷ es) s) (sym is)
    (ap (λ b. cond b (outside_by es rest) (e ∷ outside_by es (e ∷ rest))) (is_itself e)
    ∙ outside_is es rest (distinct_rest e es distinct) among
    ∙ sym (outside_more e rest es (distinct_first e es distinct))
    ∙ sym (ap (λ b. cond (not b) (e ∷ those_outside es (e ∷ rest)) (those_outside es (e ∷ rest))) (contains_in (e ∷ rest) e (contains_first e rest))))

-- ---- one step of the walk

step : (es set : List Entry) (i next : ℕ) (d : Entry) → i < length es → outside_by (drop i es) (drop next set)
    ≡ cond (starts_with (drop next set) (get_or es i d)) (outside_by (drop (i + 1) es) (drop (next + 1) set)) (get_or es i d ∷ outside_by (drop (i + 1) es) (drop next set))
step es set i next d low =
    let e = get_or es i d in
    let later = drop (i + 1) es in
    at_drop_more (λ xs. outside_by xs (drop next set)) es i d low
    ∙ ap (λ s. cond (starts_with (drop next set) e) (outside_by later s) (e ∷ outside_by later (drop next set))) (drop-drop 1 next set)

module _ (f : Entry → Lit) (es set : List Entry) (lits all : List Lit) where
  pub outside_taken : (i next : ℕ) (d : Entry) → i < length es → starts_with (drop next set) (get_or es i d) ≡ true → lits ++ map f (outside_by (drop i es) (drop next set)) ≡ all
      → lits ++ map f (outside_by (drop (i + 1) es) (drop (next + 1) set)) ≡ all
  outside_taken i next d low is was =
      let e = get_or es i d in
      let later = drop (i + 1) es in
      let chosen = ap (λ b. cond b (outside_by later (drop (next + 1) set)) (e ∷ outside_by later (drop next set))) is in
      ap (λ xs. lits ++ map f xs) (sym (step es set i next d low ∙ chosen)) ∙ was

  pub outside_left : (i next : ℕ) (d : Entry) (new : List Lit) → i < length es → starts_with (drop next set) (get_or es i d) ≡ false → new ≡ lits ++ f (get_or es i d) ∷ []
      → lits ++ map f (outside_by (drop i es) (drop next set)) ≡ all → new ++ map f (outside_by (drop (i + 1) es) (drop next set)) ≡ all
  outside_left i next d new low is pushed was =
      let e = get_or es i d in
      let later = drop (i + 1) es in
      let chosen = ap (λ b. cond b (outside_by later (drop (next + 1) set)) (e ∷ outside_by later (drop next set))) is in
      ap (λ xs. xs ++ map f (outside_by later (drop next set))) pushed ∙ append_assoc lits (f e ∷ []) (map f (outside_by later (drop next set)))
      ∙ ap (λ xs. lits ++ map f xs) (sym (step es set i next d low ∙ chosen)) ∙ was

  pub outside_done : (i next : ℕ) → length es ≤ i → lits ++ map f (outside_by (drop i es) (drop next set)) ≡ all → lits ≡ all
  outside_done i next past was = sym (append-nil lits) ∙ ap (λ xs. lits ++ map f (outside_by xs (drop next set))) (sym (drop_all i es past)) ∙ was
