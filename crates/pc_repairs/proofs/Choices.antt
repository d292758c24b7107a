-- All ways to choose one element of each of some lists, in a form that unfolds.
use Rattle.std.proofs.Common.{◌≡◌, ◌≢◌, ℕ, zero, suc, ◌*◌, ◌<◌, inl, inr, List, [], ◌∷◌, ◌++◌, length, get_or, map, AllPairs, Contains, arith, ap, refl, sym, ◌∙◌, subst, length-append}
use Rattle.std.specs.List.{AllZip}
use Rattle.std.proofs.lemmas.List.{length-map, get_or-map}
use Rattle.std.proofs.lemmas.List.Elements.{Contains-get_or, Contains-append_left, Contains-append_right, Contains-append_cases}
use Rattle.pc_sheet.specs.Sizes.{product}
use Rattle.pc_lemmas.proofs.Elements.{contains_first, contains_later, contains_cases, contains_none, contains_map, contains_mapped}
use Rattle.pc_laws.proofs.Counting.{pairs_append}

module _ {X : Type 0} where
  -- each of the elements before each of the lists
  abbrev pub heads : List X → List (List X) → List (List X)
  heads [] tails = []
  heads (x ∷ xs) tails = map (λ t. x ∷ t) tails ++ heads xs tails

  abbrev pub choices : List (List X) → List (List X)
  choices [] = [] ∷ []
  choices (l ∷ ls) = heads l (choices ls)

  length-heads : (xs : List X) (tails : List (List X)) → length (heads xs tails) ≡ length xs * length tails
  length-heads [] tails = omega arith
  length-heads (x ∷ xs) tails =
      let first : List (List X) = map (λ t. x ∷ t) tails in
      omega (arith, length-append first (heads xs tails), length-map tails (λ t. x ∷ t), length-heads xs tails)

  pub length-choices : (ls : List (List X)) → length (choices ls) ≡ product (map length ls)
  length-choices [] = refl
  length-choices (l ∷ ls) = length-heads l (choices ls) ∙ ap (λ n. length l * n) (length-choices ls)

  heads_has : (xs : List X) (tails : List (List X)) (a : List X) → Contains (heads xs tails) a → (x : X) × Contains xs x × ((t : List X) × Contains tails t × (x ∷ t ≡ a))
  heads_has [] tails a c = absurd (contains_none a c)
  heads_has (x ∷ xs) tails a c = elim (Contains-append_cases (map (λ t. x ∷ t) tails) (heads xs tails) a c) [
    | inl here ↦ (x, contains_first x xs, contains_mapped (λ t. x ∷ t) tails a here)
    | inr later ↦ let rest = heads_has xs tails a later in (rest.0, contains_later x xs rest.0 rest.1, rest.2)
  ]

  heads_from : (xs : List X) (tails : List (List X)) (x : X) (t : List X) → Contains xs x → Contains tails t → Contains (heads xs tails) (x ∷ t)
  heads_from [] tails x t c k = absurd (contains_none x c)
  heads_from (y ∷ ys) tails x t c k = elim (contains_cases y ys x c) [
    | inl same ↦ Contains-append_left (map (λ s. y ∷ s) tails) (heads ys tails) (x ∷ t) (subst (λ z. Contains (map (λ s. y ∷ s) tails) (z ∷ t)) same (contains_map (λ s. y ∷ s) tails t k))
    | inr later ↦ Contains-append_right (map (λ s. y ∷ s) tails) (heads ys tails) (x ∷ t) (heads_from ys tails x t later k)
  ]

  abbrev pub IsChoice : List (List X) → List X → Type 0
  IsChoice ls c = AllZip (λ l x. Contains l x) ls c

  pub from_choice : (ls : List (List X)) (c : List X) → IsChoice ls c → Contains (choices ls) c
  from_choice [] [] h = contains_first [] []
  from_choice [] (x ∷ xs) h = absurd h
  from_choice (l ∷ ls) [] h = absurd h
  from_choice (l ∷ ls) (x ∷ xs) h = heads_from l (choices ls) x xs h.0 (from_choice ls xs h.1)

  pub choice_from : (ls : List (List X)) (c : List X) → Contains (choices ls) c → IsChoice ls c
  choice_from [] c has = elim (contains_cases [] [] c has) [ inl is ↦ subst (IsChoice []) is tt | inr later ↦ absurd (contains_none c later) ]
  choice_from (l ∷ ls) c has = let h = heads_has l (choices ls) c has in subst (IsChoice (l ∷ ls)) h.2.2 (h.1, choice_from ls h.2.0 h.2.1)

  abbrev head_or : X → List X → X
  head_or d [] = d
  head_or d (x ∷ xs) = x

  abbrev tail_of : List X → List X
  tail_of [] = []
  tail_of (x ∷ xs) = xs

  same_first : (x y : X) (s t : List X) → x ∷ s ≡ y ∷ t → x ≡ y
  same_first x y s t is = ap (head_or x) is

  same_rest : (x y : X) (s t : List X) → x ∷ s ≡ y ∷ t → s ≡ t
  same_rest x y s t is = ap tail_of is

  mapped_differ : (x : X) (tails : List (List X)) → AllPairs (λ s t. s ≢ t) tails → AllPairs (λ s t. s ≢ t) (map (λ t. x ∷ t) tails)
  mapped_differ x tails h i j d below within =
      let count = length-map tails (λ t. x ∷ t) in
      let high : j < length tails = omega (arith, within, count) in
      λ same. h i j [] below high (same_rest x x (get_or tails i []) (get_or tails j []) (sym (get_or-map (λ t. x ∷ t) tails i [] d (omega (arith, below, high))) ∙ same ∙ get_or-map (λ t. x ∷ t) tails j [] d high))

  rest_pairs : (x : X) (xs : List X) → AllPairs (λ y z. y ≢ z) (x ∷ xs) → AllPairs (λ y z. y ≢ z) xs
  rest_pairs x xs h i j d below within = h (suc i) (suc j) d (omega arith) (omega arith)

  first_other : (x : X) (xs : List X) → AllPairs (λ y z. y ≢ z) (x ∷ xs) → (y : X) → Contains xs y → x ≢ y
  first_other x xs h y c = subst (λ z. x ≢ z) c.2 (h zero (suc c.0) y (omega arith) (omega (arith, c.1)))

  heads_differ : (xs : List X) (tails : List (List X)) → AllPairs (λ y z. y ≢ z) xs → AllPairs (λ s t. s ≢ t) tails → AllPairs (λ s t. s ≢ t) (heads xs tails)
  heads_differ [] tails h k = λ i j d below within. absurd (omega (arith, within))
  heads_differ (x ∷ xs) tails h k =
      pairs_append (λ s t. s ≢ t) (map (λ t. x ∷ t) tails) (heads xs tails) (mapped_differ x tails k) (heads_differ xs tails (rest_pairs x xs h) k)
      (λ i d l j e m same.
      let first = contains_mapped (λ t. x ∷ t) tails (get_or (map (λ t. x ∷ t) tails) i d) (Contains-get_or (map (λ t. x ∷ t) tails) i d l) in
      let second = heads_has xs tails (get_or (heads xs tails) j e) (Contains-get_or (heads xs tails) j e m) in
      first_other x xs h second.0 second.1 (same_first x second.0 first.0 second.2.0 (first.2 ∙ same ∙ sym second.2.2)))

  pub choices_differ : (ls : List (List X)) → ((l : List X) → Contains ls l → AllPairs (λ y z. y ≢ z) l) → AllPairs (λ s t. s ≢ t) (choices ls)
  choices_differ [] h = λ i j d below within. absurd (omega (arith, below, within))
  choices_differ (l ∷ ls) h = heads_differ l (choices ls) (h l (contains_first l ls)) (choices_differ ls (λ m c. h m (contains_later l ls m c)))
