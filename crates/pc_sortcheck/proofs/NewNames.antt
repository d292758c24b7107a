-- New names: those that a declaration puts between or behind the others.
use Rattle.std.proofs.Common.{◌≡◌, ◌≢◌, ℕ, ◌+◌, ◌-◌, ◌<◌, List, ◌++◌, length, get_or, All, AllPairs, Contains, arith, ◌∙◌, sym, subst, refl, inl, inr}
use Rattle.std.proofs.lemmas.Bool.{cases_lt}
use Rattle.std.proofs.lemmas.List.{length-append, get_or_append_left, get_or-append-add, get_or-append_right, get_or_default}
use Rattle.std.proofs.lemmas.List.Elements.{All-append, Contains-append_left, Contains-append_right, Contains-append_cases, Contains-get_or, All-contains}
use Rattle.std.proofs.lemmas.List.Kept.{AllPairs-cons}
use Rattle.pc_sheet.specs.Sheet.{Universe}
use Rattle.pc_sheet.specs.WellFormed.{AreDifferent}
use Rattle.pc_books.proofs.EntryLemmas.{pairs_head, pairs_tail}
use Rattle.pc_sortcheck.specs.DeclarationFaults.{IsNew, AreNewValues}

-- ---- pairs of lists end to end

module _ {X : Type 0} (R : X → X → Type 0) (xs ys : List X) where
  pub pairs_left : AllPairs R (xs ++ ys) → AllPairs R xs
  pairs_left h i j d order l =
      let li : i < length xs = omega arith in
      let g = h i j d order (omega (arith, length-append xs ys)) in
      subst (λ x. R x (get_or xs j d)) (get_or_append_left xs ys d i li) (subst (λ y. R (get_or (xs ++ ys) i d) y) (get_or_append_left xs ys d j l) g)

  pub pairs_right : AllPairs R (xs ++ ys) → AllPairs R ys
  pairs_right h i j d order l =
      let g = h (length xs + i) (length xs + j) d (omega arith) (omega (arith, length-append xs ys)) in
      subst (λ x. R x (get_or ys j d)) (get_or-append-add xs ys i d) (subst (λ y. R (get_or (xs ++ ys) (length xs + i) d) y) (get_or-append-add xs ys j d) g)

  pub pairs_cross : AllPairs R (xs ++ ys) → (x y : X) → Contains xs x → Contains ys y → R x y
  pairs_cross h x y (i, li, ei) (j, lj, ej) =
      let g = h i (length xs + j) x (omega arith) (omega (arith, length-append xs ys)) in
      let first : get_or (xs ++ ys) i x ≡ x = get_or_append_left xs ys x i li ∙ ei in
      let second : get_or (xs ++ ys) (length xs + j) x ≡ y = get_or-append-add xs ys j x ∙ get_or_default ys j x y lj ∙ ej in
      subst (λ a. R a y) first (subst (λ b. R (get_or (xs ++ ys) i x) b) second g)

  pairs_append : AllPairs R xs → AllPairs R ys → ((x y : X) → Contains xs x → Contains ys y → R x y) → AllPairs R (xs ++ ys)
  pairs_append hx hy cross i j d order l =
      elim (cases_lt j (length xs)) [
        | inl jl ↦
            let il : i < length xs = omega arith in
            subst (λ x. R x (get_or (xs ++ ys) j d)) (sym (get_or_append_left xs ys d i il)) (subst (λ y. R (get_or xs i d) y) (sym (get_or_append_left xs ys d j jl)) (hx i j d order jl))
        | inr jr ↦ elim (cases_lt i (length xs)) [
          | inl il ↦
              let jn : j - length xs < length ys = omega (arith, length-append xs ys) in
              let second = get_or-append_right xs ys (length xs) j d refl jr in
              subst (λ x. R x (get_or (xs ++ ys) j d)) (sym (get_or_append_left xs ys d i il))
              (subst (λ y. R (get_or xs i d) y) (sym second) (cross (get_or xs i d) (get_or ys (j - length xs) d) (Contains-get_or xs i d il) (Contains-get_or ys (j - length xs) d jn)))
          | inr ir ↦
              let jn : j - length xs < length ys = omega (arith, length-append xs ys) in
              let first = get_or-append_right xs ys (length xs) i d refl ir in
              let second = get_or-append_right xs ys (length xs) j d refl jr in
              subst (λ x. R x (get_or (xs ++ ys) j d)) (sym first) (subst (λ y. R (get_or ys (i - length xs) d) y) (sym second) (hy (i - length xs) (j - length xs) d (omega arith) jn))
        ]
      ]

-- ---- names put into the middle of different ones

abbrev pub Names : Type 0
Names = List (List ℕ)

module _ (front middle back : Names) where
  pub inserted_different : AreDifferent (front ++ back) → AreDifferent middle → All (λ m. ¬ Contains (front ++ back) m) middle → AreDifferent ((front ++ middle) ++ back)
  inserted_different old more fresh =
      let fronts = pairs_append (λ x y. x ≢ y) front middle (pairs_left (λ x y. x ≢ y) front back old) more
      (λ x y hx hy same. All-contains (λ m. ¬ Contains (front ++ back) m) middle y fresh hy (Contains-append_left front back y (subst (Contains front) same hx))) in
      pairs_append (λ x y. x ≢ y) (front ++ middle) back fronts (pairs_right (λ x y. x ≢ y) front back old)
      (λ x y hx hy same. elim (Contains-append_cases front middle x hx) [
        | inl a ↦ pairs_cross (λ x y. x ≢ y) front back old x y a hy same
        | inr b ↦ All-contains (λ m. ¬ Contains (front ++ back) m) middle x fresh b (Contains-append_right front back x (subst (Contains back) (sym same) hy))
      ])

  pub inserted_fresh : AreDifferent ((front ++ middle) ++ back) → (m : List ℕ) → Contains middle m → ¬ Contains (front ++ back) m
  inserted_fresh h m hm k =
      let fronts = pairs_left (λ x y. x ≢ y) (front ++ middle) back h in
      elim (Contains-append_cases front back m k) [
        | inl a ↦ pairs_cross (λ x y. x ≢ y) front middle fronts m m a hm refl
        | inr b ↦ pairs_cross (λ x y. x ≢ y) (front ++ middle) back h m m (Contains-append_right front middle m hm) b refl
      ]

  pub inserted_alone : AreDifferent ((front ++ middle) ++ back) → AreDifferent middle
  inserted_alone h = pairs_right (λ x y. x ≢ y) front middle (pairs_left (λ x y. x ≢ y) (front ++ middle) back h)

  pub inserted_all : (P : List ℕ → Type 0) → All P (front ++ back) → All P middle → All P ((front ++ middle) ++ back)
  inserted_all P h k =
      All-append P (front ++ middle) back
      (All-append P front middle (λ i d l. subst P (get_or_append_left front back d i l) (h i d (omega (arith, length-append front back)))) k)
      (λ i d l. subst P (get_or-append-add front back i d) (h (length front + i) d (omega (arith, length-append front back))))

-- ---- the names of a sort's values

apart_all : (n : List ℕ) (ns : Names) → ¬ Contains ns n → All (λ y. n ≢ y) ns
apart_all n ns h k d l same = h (subst (Contains ns) (sym same) (Contains-get_or ns k d l))

pub new_values : (u : Universe) (n : List ℕ) (values : Names) → All (IsNew u) values → ¬ Contains values n → AreDifferent values → AreNewValues u n values
new_values u n values fresh apart different = (AllPairs-cons (λ x y. x ≢ y) n values (apart_all n values apart) different, λ v h. All-contains (IsNew u) values v fresh h)

pub each_new : (u : Universe) (n : List ℕ) (values : Names) → AreNewValues u n values → All (IsNew u) values
each_new u n values h k d l = h.1 (get_or values k d) (Contains-get_or values k d l)

pub sort_apart : (u : Universe) (n : List ℕ) (values : Names) → AreNewValues u n values → ¬ Contains values n
sort_apart u n values h k = All-contains (λ y. n ≢ y) values n (pairs_head (λ x y. x ≢ y) n values h.0) k refl

pub values_different : (u : Universe) (n : List ℕ) (values : Names) → AreNewValues u n values → AreDifferent values
values_different u n values h = pairs_tail (λ x y. x ≢ y) n values h.0
