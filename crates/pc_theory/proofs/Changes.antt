-- What changes make of the rows.
use Rattle.std.proofs.Common.{◌≡◌, ◌≢◌, ℕ, ◌⊎◌, inl, inr, Bool, true, false, cond, eqb, ◌&&◌, eq-eqb, List, [], ◌∷◌, ◌++◌, Contains, Option, IfSome, arith, ap, refl, sym, ◌∙◌, subst, ◌≤◌}
use Rattle.std.specs.Bool.{beq}
use Rattle.std.specs.List.{AllZip}
use Rattle.std.proofs.lemmas.Bool.{cases_eq, eqb-true}
use Rattle.pc_lemmas.proofs.Elements.{contains_cases, contains_first, contains_later, contains_none}
use Rattle.pc_sheet.specs.Sheet.{Sheet}
use Rattle.pc_sheet.specs.declared.ids.Target.{Target}
use Rattle.pc_reason.specs.Reasons.{Justification}
use Rattle.pc_justify_laws.specs.Reasons.{IsRowFor}
use Rattle.pc_cache.specs.Rows.{TargetRow, is_same_target, row_after}
use Rattle.pc_search.specs.Found.{steps_in, IsFound}

differ : (a b : ℕ) → a ≢ b → eqb a b ≡ false
differ a b h = by (eqb a b) refl
  where
    by : (t : Bool) → eqb a b ≡ t → t ≡ false
    by false e = refl
    by true e = absurd (h (omega (arith, eqb-true, e)))

-- ---- the same target

same_bool : (a b : Bool) → (a ≡ b) ⊎ (beq a b ≡ false)
same_bool true true = inl refl
same_bool true false = inr refl
same_bool false true = inr refl
same_bool false false = inl refl

and_false : (b : Bool) → (b && false) ≡ false
and_false true = refl
and_false false = refl

same_test : (t : Target) → is_same_target t t ≡ true
same_test t = ap (λ b. b && (eqb t.value.0 t.value.0 && beq t.holds t.holds)) (eq-eqb t.cell.0 t.cell.0 refl) ∙ ap (λ b. b && beq t.holds t.holds) (eq-eqb t.value.0 t.value.0 refl) ∙ itself t.holds
  where
    itself : (b : Bool) → beq b b ≡ true
    itself true = refl
    itself false = refl

same_parts : (s t : Target) → s.cell.0 ≡ t.cell.0 → s.value.0 ≡ t.value.0 → s.holds ≡ t.holds → s ≡ t
same_parts s t cells values holds =
    let make : ℕ → ℕ → Bool → Target = λ c v b. record { cell = record { 0 = c }; value = record { 0 = v }; holds = b } in
    ap (λ c. make c s.value.0 s.holds) cells ∙ (ap (λ v. make t.cell.0 v s.holds) values ∙ ap (make t.cell.0 t.value.0) holds)

-- the two are the same, or the test fails
pub compared : (s t : Target) → (s ≡ t) ⊎ (is_same_target s t ≡ false)
compared s t = elim (cases_eq s.cell.0 t.cell.0) [
  | inl cells ↦ elim (cases_eq s.value.0 t.value.0) [
    | inl values ↦ elim (same_bool s.holds t.holds) [
      | inl holds ↦ inl (same_parts s t cells values holds)
      | inr not_holds ↦ inr (ap (λ b. eqb s.cell.0 t.cell.0 && (eqb s.value.0 t.value.0 && b)) not_holds ∙ (ap (λ b. eqb s.cell.0 t.cell.0 && b) (and_false (eqb s.value.0 t.value.0)) ∙ and_false (eqb s.cell.0 t.cell.0)))
    ]
    | inr other ↦ inr (ap (λ b. eqb s.cell.0 t.cell.0 && (b && beq s.holds t.holds)) (differ s.value.0 t.value.0 other) ∙ and_false (eqb s.cell.0 t.cell.0))
  ]
  | inr other ↦ inr (ap (λ b. b && (eqb s.value.0 t.value.0 && beq s.holds t.holds)) (differ s.cell.0 t.cell.0 other))
]

-- ---- changes

pub after_more : (cs ds : List TargetRow) (t : Target) (before : Option Justification) → row_after (cs ++ ds) t before ≡ row_after ds t (row_after cs t before)
after_more [] ds t before = refl
after_more (c ∷ cs) ds t before = after_more cs ds t (cond (is_same_target c.target t) c.row before)

module _ (sheet : Sheet) (most : ℕ) where
  -- what is right of a target, in few steps
  abbrev pub Right : Target → Option Justification → Type 0
  Right t o = IsRowFor sheet t o × IfSome o (λ j. steps_in j.lines ≤ most)

  -- a target of the list has got what is right, and any other has what it had
  abbrev pub Comes : List Target → Target → Option Justification → Option Justification → Type 0
  Comes ts t before now = (Contains ts t × Right t now) ⊎ ((¬ Contains ts t) × (now ≡ before))

  first_or_later : (s : Target) (ts : List Target) (t : Target) (now to : Option Justification) → s ≡ t → Right t to → Comes ts t to now → Comes (s ∷ ts) t to now
  first_or_later s ts t now to is right (inl there) = inl (contains_later s ts t there.0, there.1)
  first_or_later s ts t now to is right (inr none) = inl (subst (Contains (s ∷ ts)) is (contains_first s ts), subst (Right t) (sym none.1) right)

  later_alone : (s : Target) (ts : List Target) (t : Target) (now before : Option Justification) → s ≢ t → Comes ts t before now → Comes (s ∷ ts) t before now
  later_alone s ts t now before other (inl there) = inl (contains_later s ts t there.0, there.1)
  later_alone s ts t now before other (inr none) = inr (λ there. elim (contains_cases s ts t there) [ inl is ↦ other is | inr later ↦ none.0 later ], none.1)

  right_at : (s t : Target) (c : TargetRow) → s ≡ t → IsFound sheet most s c → Right t c.row
  right_at s t c is f = subst (λ x. Right x c.row) is (f.right, f.few_steps)

  pub comes : (ts : List Target) (changes : List TargetRow) → AllZip (IsFound sheet most) ts changes → (t : Target) (before : Option Justification) → Comes ts t before (row_after changes t before)
  comes [] [] h t before = inr (λ there. contains_none t there, refl)
  comes [] (c ∷ cs) h t before = absurd h
  comes (s ∷ ts) [] h t before = absurd h
  comes (s ∷ ts) (c ∷ cs) h t before = elim (compared c.target t) [
    | inl same ↦
        let test : is_same_target c.target t ≡ true = ap (λ x. is_same_target x t) same ∙ same_test t in
        let is : s ≡ t = sym h.0.target ∙ same in
        weaker (subst (λ b. Comes (s ∷ ts) t c.row (row_after cs t (cond b c.row before))) (sym test) (first_or_later s ts t (row_after cs t c.row) c.row is (right_at s t c is h.0) (comes ts cs h.1 t c.row))) is
    | inr other ↦
        subst (λ b. Comes (s ∷ ts) t before (row_after cs t (cond b c.row before))) (sym other)
        (later_alone s ts t (row_after cs t before) before (λ is. differs (ap (λ x. is_same_target x t) (h.0.target ∙ is) ∙ same_test t) other) (comes ts cs h.1 t before))
  ]
    where
      differs : {b : Bool} → b ≡ true → b ≡ false → ⊥
      differs holds fails = cc

      weaker : Comes (s ∷ ts) t c.row (row_after (c ∷ cs) t before) → s ≡ t → Comes (s ∷ ts) t before (row_after (c ∷ cs) t before)
      weaker (inl there) is = inl there
      weaker (inr none) is = absurd (none.0 (subst (Contains (s ∷ ts)) is (contains_first s ts)))

  -- the changes are of the targets alone
  pub change_of : (ts : List Target) (changes : List TargetRow) → AllZip (IsFound sheet most) ts changes → (r : TargetRow) → Contains changes r → Contains ts r.target
  change_of [] [] h r has = absurd (contains_none r has)
  change_of [] (c ∷ cs) h r has = absurd h
  change_of (s ∷ ts) [] h r has = absurd h
  change_of (s ∷ ts) (c ∷ cs) h r has = elim (contains_cases c cs r has) [
    | inl is ↦ subst (Contains (s ∷ ts)) (sym h.0.target ∙ (let of : TargetRow → Target = λ x. x.target in ap of is)) (contains_first s ts)
    | inr later ↦ contains_later s ts r.target (change_of ts cs h.1 r later)
  ]
