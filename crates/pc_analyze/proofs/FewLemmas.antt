-- How many literals and hints a good step has.
use Rattle.std.proofs.Common.{◌≡◌, ◌≢◌, ◌⊎◌, ℕ, zero, suc, ◌+◌, ◌-◌, ◌*◌, ◌<◌, ◌≤◌, inl, inr, ⊎_elim, Bool, true, false, not, List, [], ◌∷◌, ◌++◌, length, map, get_or, Contains, All, arith, ap, refl, sym, ◌∙◌, subst}
use Rattle.std.specs.Prelude.{AllPairs}
use Rattle.std.specs.List.{remove}
use Rattle.std.proofs.lemmas.Bool.{cases_lt}
use Rattle.std.proofs.lemmas.List.{get_or_default, length-map, length-append, length_push, get_or-map}
use Rattle.std.proofs.lemmas.List.Edits.{length-remove, get_or-remove_below, get_or-remove_above}
use Rattle.std.proofs.lemmas.List.Elements.{All-contains, All-head, All-tail, All-push, Contains-append_left, Contains-append_right, Contains-get_or}
use Rattle.std.proofs.lemmas.List.Quantifiers.{all_pairs_push}
use Rattle.pc_lemmas.proofs.Elements.{contains_map, contains_mapped}
use Rattle.pc_lits.specs.declared.literal.Var.{Var}
use Rattle.pc_lits.specs.declared.literal.Lit.{Lit}
use Rattle.pc_lits.specs.Literals.{negated}
use Rattle.pc_lits.specs.Steps.{IsTautology, Refutes}
use Rattle.pc_lits.proofs.LitLemmas.{same_parts}
use Rattle.pc_analyze.specs.Learning.{AreNeeded, IsOverVariables}
use Rattle.pc_analyze.specs.Laws.{NeededHintsAreFew}

-- ---- a list of different elements is no longer than a list that has them all

module _ {X : Type 0} where
  -- another element stays
  stays : (ys : List X) (k : ℕ) (x y : X) → k < length ys → get_or ys k x ≡ x → y ≢ x → Contains ys y → Contains (remove ys k) y
  stays ys k x y low at other (j, l, is) =
      let many = length-remove ys k low in
      elim (cases_lt j k) [
        | inl below ↦ (j, omega (arith, many, below, low), get_or-remove_below ys k y j below low ∙ is)
        | inr above ↦
            let differs : j ≢ k = λ same. other (sym is ∙ ap (λ n. get_or ys n y) same ∙ get_or_default ys k y x low ∙ at) in
            let back : j - 1 + 1 ≡ j = omega (arith, above, differs) in
            (j - 1, omega (arith, many, l, above, differs), get_or-remove_above ys k y (j - 1) (omega (arith, above, differs)) low ∙ ap (λ n. get_or ys n y) back ∙ is)
      ]

  fewer : (xs ys : List X) → AllPairs (λ x y. x ≢ y) xs → ((x : X) → Contains xs x → Contains ys x) → length xs ≤ length ys
  fewer [] ys different within = omega arith
  fewer (x ∷ xs) ys different within =
      let here = within x (zero, omega arith, refl) in
      let many = length-remove ys here.0 here.1 in
      let rest = fewer xs (remove ys here.0) (λ i j d below low. different (suc i) (suc j) d (omega arith) (omega arith))
      (λ y c. stays ys here.0 x y here.1 here.2 (λ is. different zero (suc c.0) x (omega arith) (omega (arith, c.1)) (sym is ∙ sym c.2 ∙ get_or_default xs c.0 y x c.1))
      (within y (suc c.0, omega (arith, c.1), c.2))) in
      omega (arith, rest, many)

-- ---- literals of different variables

abbrev variable_of : Lit → Var
variable_of l = l.variable

abbrev AreApart : Lit → Lit → Type 0
AreApart l m = l.variable ≢ m.variable

-- two literals of one variable are the same, or each other's negation
same_or_negated : (l m : Lit) → l.variable ≡ m.variable → (l ≡ m) ⊎ (negated l ≡ m)
same_or_negated l m is = signs l.sign m.sign refl refl
  where
    numbers : l.variable.0 ≡ m.variable.0
    numbers = ap (λ (v : Var). v.0) is

    signs : (a b : Bool) → l.sign ≡ a → m.sign ≡ b → (l ≡ m) ⊎ (negated l ≡ m)
    signs true true one two = inl (same_parts l m numbers (one ∙ sym two))
    signs false false one two = inl (same_parts l m numbers (one ∙ sym two))
    signs true false one two = inr (same_parts (negated l) m numbers (ap not one ∙ sym two))
    signs false true one two = inr (same_parts (negated l) m numbers (ap not one ∙ sym two))

module _ (own : List Var) where
  -- there are no more of them than variables
  apart_few : (lits : List Lit) → AllPairs AreApart lits → IsOverVariables own lits → length lits ≤ length own
  apart_few lits apart over =
      omega (arith, length-map lits variable_of, fewer (map variable_of lits) own different within)
    where
      different : AllPairs (λ x y. x ≢ y) (map variable_of lits)
      different i j d before below same =
          let low : j < length lits = omega (arith, below, length-map lits variable_of) in
          let e : Lit = record { variable = d; sign = true } in
          apart i j e before low (sym (get_or-map variable_of lits i e d (omega (arith, before, low))) ∙ same ∙ get_or-map variable_of lits j e d low)

      within : (v : Var) → Contains (map variable_of lits) v → Contains own v
      within v has =
          let found = contains_mapped variable_of lits v has in
          subst (Contains own) found.2 (All-contains (λ (l : Lit). Contains own l.variable) lits found.0 over found.1)

  -- with each hint but the last one literal more is false, of another variable
  pub hints_few : (falses : List Lit) (hints : List (List Lit)) → AllPairs AreApart falses → IsOverVariables own falses → All (IsOverVariables own) hints → Refutes negated falses hints → AreNeeded falses hints
      → length falses + length hints ≤ length own + 1
  hints_few falses [] apart over overs refuted needed = absurd refuted
  hints_few falses (hint ∷ []) apart over overs refuted needed = omega (arith, apart_few falses apart over)
  hints_few falses (hint ∷ next ∷ hints) apart over overs (l, last, rest) needed =
      let need = needed l last in
      let here : Contains own l.variable = All-contains (λ (m : Lit). Contains own m.variable) hint l (All-head (IsOverVariables own) hint (next ∷ hints) overs) last.0 in
      let other : (k : ℕ) (d : Lit) → k < length falses → AreApart (get_or falses k d) (negated l) = λ k d below same.
      ⊎_elim
      (λ equal. need.0 (subst (Contains falses) equal (Contains-get_or falses k d below)))
      (λ turned. last.1 (subst (Contains falses) (twice (get_or falses k d) l turned) (Contains-get_or falses k d below)))
      (same_or_negated (get_or falses k d) (negated l) same) in
      let fewer_still = hints_few (falses ++ negated l ∷ []) (next ∷ hints) (all_pairs_push AreApart falses (negated l) apart other) (All-push (λ (m : Lit). Contains own m.variable) falses (negated l) over here) (All-tail (IsOverVariables own) hint (next ∷ hints) overs) rest need.2 in
      omega (arith, fewer_still, length_push falses (negated l))
    where
      twice : (x y : Lit) → negated x ≡ negated y → x ≡ y
      twice x y is = same_parts x y (ap (λ (m : Lit). m.variable.0) is) (sign_back x.sign y.sign (ap (λ (m : Lit). m.sign) is))
        where
          sign_back : (a b : Bool) → not a ≡ not b → a ≡ b
          sign_back true true e = refl
          sign_back false false e = refl
          sign_back true false e = cc
          sign_back false true e = cc

  -- literals that are different are at most two for each variable
  literals_few : (lits : List Lit) → AllPairs (λ l m. l ≢ m) lits → IsOverVariables own lits → length lits ≤ 2 * length own
  literals_few lits different over =
      omega (arith, fewer lits (map plain own ++ map turned own) different within, length-append (map plain own) (map turned own), length-map own plain, length-map own turned)
    where
      plain : Var → Lit
      plain v = record { variable = v; sign = true }

      turned : Var → Lit
      turned v = record { variable = v; sign = false }

      by_sign : (l : Lit) (b : Bool) → l.sign ≡ b → Contains own l.variable → Contains (map plain own ++ map turned own) l
      by_sign l true is has = subst (Contains (map plain own ++ map turned own)) (same_parts (plain l.variable) l refl (sym is)) (Contains-append_left (map plain own) (map turned own) (plain l.variable) (contains_map plain own l.variable has))
      by_sign l false is has = subst (Contains (map plain own ++ map turned own)) (same_parts (turned l.variable) l refl (sym is)) (Contains-append_right (map plain own) (map turned own) (turned l.variable) (contains_map turned own l.variable has))

      within : (l : Lit) → Contains lits l → Contains (map plain own ++ map turned own) l
      within l has = by_sign l l.sign refl (All-contains (λ (m : Lit). Contains own m.variable) lits l over has)

-- different literals without a literal and its negation have different variables
clause_apart : (clause : List Lit) → AllPairs (λ l m. l ≢ m) clause → (IsTautology negated clause → ⊥) → AllPairs AreApart clause
clause_apart clause different plain i j d before below same =
    let l = get_or clause i d in
    let m = get_or clause j d in
    ⊎_elim
    (λ equal. different i j d before below equal)
    (λ turned. plain (l, Contains-get_or clause i d (omega (arith, before, below)), subst (Contains clause) (sym turned) (Contains-get_or clause j d below)))
    (same_or_negated l m same)

pub needed_hints_are_few : NeededHintsAreFew
needed_hints_are_few own clause hints different over overs good needed =
    ⊎_elim
    (λ tautology. omega (arith, literals_few own clause different over, ap length tautology.1))
    (λ other. omega (arith, hints_few own clause hints (clause_apart clause different other.0) over overs other.1 needed))
    good
