-- A certificate has one verdict at most.
use Rattle.std.proofs.Common.{◌≡◌, ℕ, ◌+◌, ◌<◌, ◌⊎◌, inl, inr, Option, None, Some, List, [], ◌∷◌, ◌++◌, map, take, length, get_or, All, AllPairs, refl, ap, sym, ◌∙◌, subst, zero-add, arith}
use Rattle.std.proofs.lemmas.Bool.{cases_order}
use Rattle.std.proofs.lemmas.List.{length-map, length-append, length-take-le, get_or-map, get_or_at, get_or-take, get_or_append_left}
use Rattle.pc_sheet.specs.Sheet.{Sheet}
use Rattle.pc_sheet.specs.Entailment.{cell_sizes}
use Rattle.pc_sheet.specs.declared.ids.Entry.{Entry}
use Rattle.pc_sheet.specs.declared.ids.ValueId.{ValueId}
use Rattle.pc_accept.specs.Literals.{Literal}
use Rattle.pc_accept.specs.Accepts as accepts
use Rattle.pc_accept.specs.Accepts.{Claim, implied, inconsistent, repairs, unimplied, against, IsLineClauseBeside, AreLineClausesBeside, EndsWithin, DerivesBeside, BarsTarget, BarsNothing, AreInCellOrder, value_of_entry}
use Rattle.pc_accept.proofs.Determined.{one_derivation}
use Rattle.pc_cert.specs.Written.{CertificatePart}
use Rattle.pc_cert.specs.Text.{SetReading, CertificateReading, entry_said, line_of, lines_from}
use Rattle.pc_checker.specs.declared.verdict.Verdict.{Verdict}
use Rattle.pc_checker.specs.declared.verdict.Verdict.TheVariants.{UseNotEntered, BadValues, UseNotHeld, RuleBroken, HasValue, SetInSet, BadAxiom, BadStep, WrongEnd, Accepted}
use Rattle.pc_checker.specs.Laws.{VerdictsAreOne}
use Rattle.pc_checker.specs.Verdicts.{Numbered, IsFirstWithout, IsFirstAstray, IsFaultOfValues, AreValues, values_in, FitsBut, IsFirstBroken, Stands, IsFault, SetStands, IsSetFault, AreApart, IsFirstInSet, IsFaultOfSets, SetsStand, ClaimStands, IsFaultOfClaim, blocks_in, IsFirstAtFault, allowed_in, EndsWrong, fault_of, IsFaultOfPart, IsVerdict}
use Rattle.pc_checker.proofs.ListLemmas.{in_middle, two_cuts}
use Rattle.pc_checker.proofs.ClaimLemmas.{each_fits, within_length}
use Rattle.pc_checker.proofs.Derivations.{length-lines_from, line_at, same_line}

module _ {X : Type 0} (P : X → Type 0) (xs : List X) where
  not_all : (x : X) → IsFirstWithout P xs x → All P xs → ⊥
  not_all x h all = h.fails (in_middle P h.before h.after x (subst (All P) h.are all))

  one_first : (x y : X) → IsFirstWithout P xs x → IsFirstWithout P xs y → x ≡ y
  one_first x y h g = elim (two_cuts h.before h.after g.before g.after x y (sym h.are ∙ g.are)) [
    | inl e ↦ e.0
    | inr (inl e) ↦ absurd (h.fails (in_middle P h.before e.0 x (subst (All P) e.1 g.so)))
    | inr (inr e) ↦ absurd (g.fails (in_middle P g.before e.0 y (subst (All P) e.1 h.so)))
  ]

-- ---- values

in_turn : (before after : List (Numbered Entry)) (x : Numbered Entry) → AreInCellOrder (map entry_said (before ++ x ∷ after)) → x.1.cell.0 ≡ length before
in_turn before after x order =
    let all = before ++ x ∷ after in
    let count = length-append before (x ∷ after) in
    let within : length before < length all = omega arith in
    let cell : Entry → ℕ = λ e. e.cell.0 in
    let here : get_or (map entry_said all) (length before) x.1 ≡ x.1 = get_or-map entry_said all (length before) x x.1 within ∙ ap entry_said (get_or_at before x after x (length before) refl) in
    ap cell (sym here) ∙ order.cells (length before) x.1 (omega (arith, length-map all entry_said))

module _ (sheet : Sheet) (values : List (Numbered Entry)) (after : ℕ) where
  astray_ordered : (x : Numbered Entry) → IsFirstAstray values x → AreInCellOrder (map entry_said values) → ⊥
  astray_ordered x h order = h.astray (in_turn h.before h.after x (subst (λ (vs : List (Numbered Entry)). AreInCellOrder (map entry_said vs)) h.are order))

  not_values : (line : ℕ) → IsFaultOfValues sheet values after line → AreValues sheet values → ⊥
  not_values line h are = elim h [
    | inl a ↦ astray_ordered a.0 a.1 are.0
    | inr m ↦ omega (arith, m.0.fewer, within_length (cell_sizes sheet.universe) (map value_of_entry (map entry_said values)) are.1, length-map (map entry_said values) value_of_entry, length-map values entry_said)
  ]

  one_astray : (x y : Numbered Entry) → IsFirstAstray values x → IsFirstAstray values y → x ≡ y
  one_astray x y h g = elim (two_cuts h.before h.after g.before g.after x y (sym h.are ∙ g.are)) [
    | inl e ↦ e.0
    | inr (inl e) ↦ absurd (h.astray (in_turn h.before e.0 x (subst (λ (vs : List (Numbered Entry)). AreInCellOrder (map entry_said vs)) e.1 g.in_order)))
    | inr (inr e) ↦ absurd (g.astray (in_turn g.before e.0 y (subst (λ (vs : List (Numbered Entry)). AreInCellOrder (map entry_said vs)) e.1 h.in_order)))
  ]

  one_fault : (a b : ℕ) → IsFaultOfValues sheet values after a → IsFaultOfValues sheet values after b → a ≡ b
  one_fault a b h g = elim h [
    | inl x ↦ elim g [
      | inl y ↦ let number : Numbered Entry → ℕ = λ e. e.0 in x.2 ∙ ap number (one_astray x.0 y.0 x.1 y.1) ∙ sym y.2
      | inr m ↦ absurd (astray_ordered x.0 x.1 m.0.in_order)
    ]
    | inr m ↦ elim g [ inl y ↦ absurd (astray_ordered y.0 y.1 m.0.in_order) | inr n ↦ m.1 ∙ sym n.1 ]
  ]

-- ---- rules

one_broken : (sheet : Sheet) (left_out : Option ℕ) (a : List ValueId) (i j : ℕ) → IsFirstBroken sheet left_out a i → IsFirstBroken sheet left_out a j → i ≡ j
one_broken sheet left_out a i j h g = elim (cases_order i j) [ inl same ↦ same | inr (inl less) ↦ absurd (h.broken (g.before i less h.tested)) | inr (inr more) ↦ absurd (g.broken (h.before j more g.tested)) ]

broken_fits : (sheet : Sheet) (left_out : Option ℕ) (a : List ValueId) (k : ℕ) → IsFirstBroken sheet left_out a k → FitsBut sheet left_out a → ⊥
broken_fits sheet None a k h fits = h.broken (each_fits sheet a fits k h.within)
broken_fits sheet (Some r) a k h fits = h.broken (fits k h.within (λ same. h.tested (ap Some (sym same))))

-- ---- lines

module _ (sheet : Sheet) (blocks : List (List Literal)) (before after : List (Numbered CertificatePart)) (x : Numbered CertificatePart) (cs ds : List (List Literal)) (short : AreLineClausesBeside sheet blocks (lines_from 0 before) cs) (long : AreLineClausesBeside sheet blocks (lines_from 0 (before ++ x ∷ after)) ds) where
  abbrev n : ℕ
  n = length before

  abbrev all : List (Numbered CertificatePart)
  all = before ++ x ∷ after

  counts : (length ds ≡ length all) × (n < length all)
  counts = (long.count ∙ length-lines_from 0 all, omega (arith, length-append before (x ∷ after)))

  front : AreLineClausesBeside sheet blocks (lines_from 0 before) (take n ds)
  front =
      let c = counts in
      let count : length (take n ds) ≡ n = length-take-le n ds (omega (arith, c.0, c.1)) in
      record {
        count = count ∙ sym (length-lines_from 0 before);
        each = λ i e l.
            let lower : i < n = omega (arith, length-lines_from 0 before) in
            let line : Numbered CertificatePart → accepts.Line = λ p. line_of (0 + i) p.1 in
            let same : get_or (lines_from 0 before) i e ≡ get_or (lines_from 0 all) i e =
            line_at 0 before i x e lower ∙ ap line (sym (get_or_append_left before (x ∷ after) x i lower)) ∙ sym (line_at 0 all i x e (omega (arith, c.1)))
            in
            let big = long.each i e (omega (arith, length-lines_from 0 all, c.1)) in
            subst (λ k. IsLineClauseBeside sheet blocks (take n ds) i (get_or (lines_from 0 before) i e) k) (sym (get_or-take n ds i [] lower))
            (same_line sheet blocks ds (take n ds) i (get_or (lines_from 0 before) i e) (get_or ds i []) (λ j less. sym (get_or-take n ds j [] (omega arith)))
            (subst (λ k. IsLineClauseBeside sheet blocks ds i k (get_or ds i [])) (sym same) big));
      }

  -- the line in the middle has a clause after those of the lines before
  middle : IsLineClauseBeside sheet blocks cs n (line_of n x.1) (get_or ds n [])
  middle =
      let c = counts in
      let none : accepts.Line = accepts.derived [] [] in
      let at : ℕ → accepts.Line = λ m. line_of m (get_or all n x).1 in
      let line : Numbered CertificatePart → accepts.Line = λ p. line_of n p.1 in
      let same : get_or (lines_from 0 all) n none ≡ line_of n x.1 = line_at 0 all n x none c.1 ∙ ap at (zero-add n) ∙ ap line (get_or_at before x after x n refl) in
      let is = subst (λ k. IsLineClauseBeside sheet blocks ds n k (get_or ds n [])) same (long.each n none (omega (arith, length-lines_from 0 all, c.1))) in
      let equal : cs ≡ take n ds = one_derivation sheet blocks (lines_from 0 before) cs (take n ds) short front in
      same_line sheet blocks ds cs n (line_of n x.1) (get_or ds n []) (λ j less. sym (ap (λ ks. get_or ks j []) equal ∙ get_or-take n ds j [] less)) is

module _ (sheet : Sheet) (blocks : List (List Literal)) (ps : List (Numbered CertificatePart)) where
  not_derived : (x : Numbered CertificatePart) (ds : List (List Literal)) → IsFirstAtFault sheet blocks ps x → AreLineClausesBeside sheet blocks (lines_from 0 ps) ds → ⊥
  not_derived x ds h d = h.fault _ (middle sheet blocks h.before h.after x h.clauses ds h.derivation (subst (λ (qs : List (Numbered CertificatePart)). AreLineClausesBeside sheet blocks (lines_from 0 qs) ds) h.are d))

  one_at_fault : (x y : Numbered CertificatePart) → IsFirstAtFault sheet blocks ps x → IsFirstAtFault sheet blocks ps y → x ≡ y
  one_at_fault x y h g = elim (two_cuts h.before h.after g.before g.after x y (sym h.are ∙ g.are)) [
    | inl e ↦ e.0
    | inr (inl e) ↦ absurd (h.fault _ (middle sheet blocks h.before e.0 x h.clauses g.clauses h.derivation (subst (λ (qs : List (Numbered CertificatePart)). AreLineClausesBeside sheet blocks (lines_from 0 qs) g.clauses) e.1 g.derivation)))
    | inr (inr e) ↦ absurd (g.fault _ (middle sheet blocks g.before e.0 y g.clauses h.clauses g.derivation (subst (λ (qs : List (Numbered CertificatePart)). AreLineClausesBeside sheet blocks (lines_from 0 qs) h.clauses) e.1 h.derivation)))
  ]

-- ---- used entries and an assignment

module _ (sheet : Sheet) (left_out : Option ℕ) (uses values : List (Numbered Entry)) (after : ℕ) where
  abbrev F : Verdict → Type 0
  F = IsFault sheet left_out uses values after

  number : {X : Type 0} → Numbered X → ℕ
  number x = x.0

  pub fault_stands : (v : Verdict) → F v → Stands sheet left_out uses values → ⊥
  fault_stands (UseNotEntered a) h s = not_all _ uses h.0 h.1 s.entered
  fault_stands (BadValues a) h s = not_values sheet values after a h.1 s.assigns
  fault_stands (UseNotHeld a) h s = not_all _ uses h.2.0 h.2.1 s.held
  fault_stands (RuleBroken a) h s = broken_fits sheet left_out (values_in values) a h.3 s.fits
  fault_stands (HasValue a) h s = h
  fault_stands (SetInSet a) h s = h
  fault_stands (BadAxiom a) h s = h
  fault_stands (BadStep a) h s = h
  fault_stands WrongEnd h s = h
  fault_stands Accepted h s = h

  first : (a : ℕ) (w : Verdict) → F (UseNotEntered a) → F w → UseNotEntered a ≡ w
  unfolding number
  first a (UseNotEntered b) h g = ap UseNotEntered (h.2 ∙ ap number (one_first _ uses h.0 g.0 h.1 g.1) ∙ sym g.2)
  first a (BadValues b) h g = absurd (not_all _ uses h.0 h.1 g.0)
  first a (UseNotHeld b) h g = absurd (not_all _ uses h.0 h.1 g.0)
  first a (RuleBroken b) h g = absurd (not_all _ uses h.0 h.1 g.0)
  first a (HasValue b) h g = absurd g
  first a (SetInSet b) h g = absurd g
  first a (BadAxiom b) h g = absurd g
  first a (BadStep b) h g = absurd g
  first a WrongEnd h g = absurd g
  first a Accepted h g = absurd g

  second : (a : ℕ) (w : Verdict) → F (BadValues a) → F w → BadValues a ≡ w
  second a (UseNotEntered b) h g = sym (first b (BadValues a) g h)
  second a (BadValues b) h g = ap BadValues (one_fault sheet values after a b h.1 g.1)
  second a (UseNotHeld b) h g = absurd (not_values sheet values after a h.1 g.1)
  second a (RuleBroken b) h g = absurd (not_values sheet values after a h.1 g.1)
  second a (HasValue b) h g = absurd g
  second a (SetInSet b) h g = absurd g
  second a (BadAxiom b) h g = absurd g
  second a (BadStep b) h g = absurd g
  second a WrongEnd h g = absurd g
  second a Accepted h g = absurd g

  third : (a : ℕ) (w : Verdict) → F (UseNotHeld a) → F w → UseNotHeld a ≡ w
  unfolding number
  third a (UseNotEntered b) h g = sym (first b (UseNotHeld a) g h)
  third a (BadValues b) h g = sym (second b (UseNotHeld a) g h)
  third a (UseNotHeld b) h g = ap UseNotHeld (h.2.2 ∙ ap number (one_first _ uses h.2.0 g.2.0 h.2.1 g.2.1) ∙ sym g.2.2)
  third a (RuleBroken b) h g = absurd (not_all _ uses h.2.0 h.2.1 g.2)
  third a (HasValue b) h g = absurd g
  third a (SetInSet b) h g = absurd g
  third a (BadAxiom b) h g = absurd g
  third a (BadStep b) h g = absurd g
  third a WrongEnd h g = absurd g
  third a Accepted h g = absurd g

  one_of_four : (v w : Verdict) → F v → F w → v ≡ w
  one_of_four (UseNotEntered a) w h g = first a w h g
  one_of_four (BadValues a) w h g = second a w h g
  one_of_four (UseNotHeld a) w h g = third a w h g
  one_of_four (RuleBroken a) (UseNotEntered b) h g = sym (first b (RuleBroken a) g h)
  one_of_four (RuleBroken a) (BadValues b) h g = sym (second b (RuleBroken a) g h)
  one_of_four (RuleBroken a) (UseNotHeld b) h g = sym (third b (RuleBroken a) g h)
  one_of_four (RuleBroken a) (RuleBroken b) h g = ap RuleBroken (one_broken sheet left_out (values_in values) a b h.3 g.3)
  one_of_four (RuleBroken a) (HasValue b) h g = absurd g
  one_of_four (RuleBroken a) (SetInSet b) h g = absurd g
  one_of_four (RuleBroken a) (BadAxiom b) h g = absurd g
  one_of_four (RuleBroken a) (BadStep b) h g = absurd g
  one_of_four (RuleBroken a) WrongEnd h g = absurd g
  one_of_four (RuleBroken a) Accepted h g = absurd g
  one_of_four (HasValue a) w h g = absurd h
  one_of_four (SetInSet a) w h g = absurd h
  one_of_four (BadAxiom a) w h g = absurd h
  one_of_four (BadStep a) w h g = absurd h
  one_of_four WrongEnd w h g = absurd h
  one_of_four Accepted w h g = absurd h

-- ---- sets

module _ (sheet : Sheet) (IsBarred : List ValueId → Type 0) (s : SetReading) where
  abbrev SF : Verdict → Type 0
  SF = IsSetFault sheet IsBarred s

  abbrev IsOne : Verdict → Verdict → Type 0
  IsOne v w = IsFault sheet None s.uses s.values s.after v → SF w → v ≡ w

  of_four : (v w : Verdict) → IsOne v w
  of_four v (HasValue b) h g = absurd (fault_stands sheet None s.uses s.values s.after v h g.0)
  of_four v (UseNotEntered b) h g = one_of_four sheet None s.uses s.values s.after v (UseNotEntered b) h g
  of_four v (BadValues b) h g = one_of_four sheet None s.uses s.values s.after v (BadValues b) h g
  of_four v (UseNotHeld b) h g = one_of_four sheet None s.uses s.values s.after v (UseNotHeld b) h g
  of_four v (RuleBroken b) h g = one_of_four sheet None s.uses s.values s.after v (RuleBroken b) h g
  of_four v (SetInSet b) h g = absurd g
  of_four v (BadAxiom b) h g = absurd g
  of_four v (BadStep b) h g = absurd g
  of_four v WrongEnd h g = absurd g
  of_four v Accepted h g = absurd g

  one_of_set : (v w : Verdict) → SF v → SF w → v ≡ w
  one_of_set (UseNotEntered a) w h g = of_four (UseNotEntered a) w h g
  one_of_set (BadValues a) w h g = of_four (BadValues a) w h g
  one_of_set (UseNotHeld a) w h g = of_four (UseNotHeld a) w h g
  one_of_set (RuleBroken a) w h g = of_four (RuleBroken a) w h g
  one_of_set (HasValue a) (HasValue b) h g = ap HasValue (h.2 ∙ sym g.2)
  one_of_set (HasValue a) (UseNotEntered b) h g = sym (of_four (UseNotEntered b) (HasValue a) g h)
  one_of_set (HasValue a) (BadValues b) h g = sym (of_four (BadValues b) (HasValue a) g h)
  one_of_set (HasValue a) (UseNotHeld b) h g = sym (of_four (UseNotHeld b) (HasValue a) g h)
  one_of_set (HasValue a) (RuleBroken b) h g = sym (of_four (RuleBroken b) (HasValue a) g h)
  one_of_set (HasValue a) (SetInSet b) h g = absurd g
  one_of_set (HasValue a) (BadAxiom b) h g = absurd g
  one_of_set (HasValue a) (BadStep b) h g = absurd g
  one_of_set (HasValue a) WrongEnd h g = absurd g
  one_of_set (HasValue a) Accepted h g = absurd g
  one_of_set (SetInSet a) w h g = absurd h
  one_of_set (BadAxiom a) w h g = absurd h
  one_of_set (BadStep a) w h g = absurd h
  one_of_set WrongEnd w h g = absurd h
  one_of_set Accepted w h g = absurd h

-- pairs before the last element, and with it
pairs_front : {X : Type 0} (P : X → X → Type 0) (before after : List X) (x : X) → AllPairs P (before ++ x ∷ after) → All (λ y. P y x) before
pairs_front P before after x h k d l =
    let count = length-append before (x ∷ after) in
    let both = h k (length before) d l (omega arith) in
    subst (λ y. P y x) (get_or_append_left before (x ∷ after) d k l) (subst (P (get_or (before ++ x ∷ after) k d)) (get_or_at before x after d (length before) refl) both)

module _ (sets : List SetReading) where
  not_apart : (s : SetReading) → IsFirstInSet sets s → AllPairs AreApart sets → ⊥
  not_apart s h all = h.within (pairs_front AreApart h.before h.after s (subst (AllPairs AreApart) h.are all))

  one_in_set : (s t : SetReading) → IsFirstInSet sets s → IsFirstInSet sets t → s ≡ t
  one_in_set s t h g = elim (two_cuts h.before h.after g.before g.after s t (sym h.are ∙ g.are)) [
    | inl e ↦ e.0
    | inr (inl e) ↦ absurd (h.within (pairs_front AreApart h.before e.0 s (subst (AllPairs AreApart) e.1 g.apart)))
    | inr (inr e) ↦ absurd (g.within (pairs_front AreApart g.before e.0 t (subst (AllPairs AreApart) e.1 h.apart)))
  ]

module _ (sheet : Sheet) (IsBarred : List ValueId → Type 0) (sets : List SetReading) where
  abbrev SV : Verdict → Type 0
  SV = IsFaultOfSets sheet IsBarred sets

  abbrev OfOne : Verdict → Type 0
  OfOne v = (s : SetReading) × IsFirstWithout (SetStands sheet IsBarred) sets s × IsSetFault sheet IsBarred s v

  same_set : (v w : Verdict) → OfOne v → OfOne w → v ≡ w
  same_set v w h g =
      let same = one_first (SetStands sheet IsBarred) sets h.0 g.0 h.1 g.1 in
      one_of_set sheet IsBarred g.0 v w (subst (λ s. IsSetFault sheet IsBarred s v) same h.2) g.2

  -- a verdict on one set, or on the sets among one another
  of_one_or_all : (v : Verdict) → SV v → OfOne v ⊎ ((a : ℕ) × (v ≡ SetInSet a) × SV (SetInSet a))
  of_one_or_all (SetInSet a) h = inr (a, refl, h)
  of_one_or_all (UseNotEntered a) h = inl h
  of_one_or_all (BadValues a) h = inl h
  of_one_or_all (UseNotHeld a) h = inl h
  of_one_or_all (RuleBroken a) h = inl h
  of_one_or_all (HasValue a) h = inl h
  of_one_or_all (BadAxiom a) h = inl h
  of_one_or_all (BadStep a) h = inl h
  of_one_or_all WrongEnd h = inl h
  of_one_or_all Accepted h = inl h

  one_of_sets : (v w : Verdict) → SV v → SV w → v ≡ w
  one_of_sets v w h g = elim (of_one_or_all v h) [
    | inl x ↦ elim (of_one_or_all w g) [ inl y ↦ same_set v w x y | inr y ↦ absurd (not_all (SetStands sheet IsBarred) sets x.0 x.1 y.2.0) ]
    | inr x ↦ elim (of_one_or_all w g) [
      | inl y ↦ absurd (not_all (SetStands sheet IsBarred) sets y.0 y.1 x.2.0)
      | inr y ↦ let line : SetReading → ℕ = λ s. s.line in x.1 ∙ ap SetInSet (x.2.1.2 ∙ ap line (one_in_set sets x.2.1.0 y.2.1.0 x.2.1.1 y.2.1.1) ∙ sym y.2.1.2) ∙ sym y.1
    ]
  ]

  sets_stand : (v : Verdict) → SV v → SetsStand sheet IsBarred sets → ⊥
  sets_stand v h s = elim (of_one_or_all v h) [
    | inl x ↦ not_all (SetStands sheet IsBarred) sets x.0 x.1 s.each
    | inr x ↦ not_apart sets x.2.1.0 x.2.1.1 s.apart
  ]

-- ---- the claim

module _ (sheet : Sheet) (r : CertificateReading) where
  one_of_claim : (claim : Claim) (v w : Verdict) → IsFaultOfClaim sheet r claim v → IsFaultOfClaim sheet r claim w → v ≡ w
  one_of_claim (implied t) v w h g = one_of_four sheet None r.uses r.values r.after v w h g
  one_of_claim inconsistent v w h g = absurd h
  one_of_claim repairs v w h g = one_of_sets sheet BarsNothing r.sets v w h g
  one_of_claim (unimplied t) v w h g = one_of_sets sheet (BarsTarget t) r.sets v w h g
  one_of_claim (against k) v w h g = one_of_four sheet (Some k) r.uses r.values r.after v w h g

  claim_stands_not : (claim : Claim) (v : Verdict) → IsFaultOfClaim sheet r claim v → ClaimStands sheet r claim → ⊥
  claim_stands_not (implied t) v h s = fault_stands sheet None r.uses r.values r.after v h s
  claim_stands_not inconsistent v h s = h
  claim_stands_not repairs v h s = sets_stand sheet BarsNothing r.sets v h s
  claim_stands_not (unimplied t) v h s = sets_stand sheet (BarsTarget t) r.sets v h s
  claim_stands_not (against k) v h s = fault_stands sheet (Some k) r.uses r.values r.after v h s

-- ---- verdicts

-- what a verdict rests on: the claim, a part of the derivation, its end, or nothing
data Kind (sheet : Sheet) (r : CertificateReading) (v : Verdict) : Type 0 where
  of_claim : IsFaultOfClaim sheet r r.claim v → Kind sheet r v
  of_part : ClaimStands sheet r r.claim → IsFaultOfPart sheet r v → Kind sheet r v
  of_end : v ≡ WrongEnd → ClaimStands sheet r r.claim → EndsWrong sheet r → Kind sheet r v
  of_nothing : v ≡ Accepted → ClaimStands sheet r r.claim → DerivesBeside sheet (blocks_in sheet r) (lines_from 0 r.parts) (allowed_in r) → Kind sheet r v

module _ (sheet : Sheet) (r : CertificateReading) where
  kind : (v : Verdict) → IsVerdict sheet r v → Kind sheet r v
  kind (UseNotEntered a) h = of_claim h
  kind (BadValues a) h = of_claim h
  kind (UseNotHeld a) h = of_claim h
  kind (RuleBroken a) h = of_claim h
  kind (HasValue a) h = of_claim h
  kind (SetInSet a) h = of_claim h
  kind (BadAxiom a) h = of_part h.0 h.1
  kind (BadStep a) h = of_part h.0 h.1
  kind WrongEnd h = of_end refl h.0 h.1
  kind Accepted h = of_nothing refl h.0 h.1

  abbrev bs : List (List Literal)
  bs = blocks_in sheet r

  one : (v w : Verdict) → Kind sheet r v → Kind sheet r w → v ≡ w
  one v w (of_claim h) (of_claim g) = one_of_claim sheet r r.claim v w h g
  one v w (of_claim h) (of_part s g) = absurd (claim_stands_not sheet r r.claim v h s)
  one v w (of_claim h) (of_end e s g) = absurd (claim_stands_not sheet r r.claim v h s)
  one v w (of_claim h) (of_nothing e s g) = absurd (claim_stands_not sheet r r.claim v h s)
  one v w (of_part s h) (of_claim g) = absurd (claim_stands_not sheet r r.claim w g s)
  one v w (of_part s h) (of_part z g) = h.2 ∙ ap fault_of (one_at_fault sheet bs r.parts h.0 g.0 h.1 g.1) ∙ sym g.2
  one v w (of_part s h) (of_end e z g) = absurd (not_derived sheet bs r.parts h.0 g.clauses h.1 g.derivation)
  one v w (of_part s h) (of_nothing e z g) = absurd (not_derived sheet bs r.parts h.0 g.clauses h.1 g.derivation)
  one v w (of_end e s h) (of_claim g) = absurd (claim_stands_not sheet r r.claim w g s)
  one v w (of_end e s h) (of_part z g) = absurd (not_derived sheet bs r.parts g.0 h.clauses g.1 h.derivation)
  one v w (of_end e s h) (of_end d z g) = e ∙ sym d
  one v w (of_end e s h) (of_nothing d z g) = absurd (ends_not h g)
    where
      ends_not : EndsWrong sheet r → DerivesBeside sheet bs (lines_from 0 r.parts) (allowed_in r) → ⊥
      ends_not h g = h.elsewhere (subst (λ cs. EndsWithin cs (allowed_in r)) (one_derivation sheet bs (lines_from 0 r.parts) g.clauses h.clauses g.derivation h.derivation) g.ends)
  one v w (of_nothing e s h) (of_claim g) = absurd (claim_stands_not sheet r r.claim w g s)
  one v w (of_nothing e s h) (of_part z g) = absurd (not_derived sheet bs r.parts g.0 h.clauses g.1 h.derivation)
  one v w (of_nothing e s h) (of_end d z g) = absurd (ends_not g h)
    where
      ends_not : EndsWrong sheet r → DerivesBeside sheet bs (lines_from 0 r.parts) (allowed_in r) → ⊥
      ends_not h g = h.elsewhere (subst (λ cs. EndsWithin cs (allowed_in r)) (one_derivation sheet bs (lines_from 0 r.parts) g.clauses h.clauses g.derivation h.derivation) g.ends)
  one v w (of_nothing e s h) (of_nothing d z g) = e ∙ sym d

pub verdicts_are_one : VerdictsAreOne
verdicts_are_one sheet r v w h g = one sheet r v w (kind sheet r v h) (kind sheet r w g)
