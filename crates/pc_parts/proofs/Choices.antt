-- All ways to choose one element of each of some lists, and how many there are.
use Rattle.std.proofs.Common.{◌≡◌, ◌≢◌, ℕ, zero, suc, ◌*◌, ◌<◌, inl, inr, List, [], ◌∷◌, ◌++◌, length, get_or, map, AllPairs, Contains, arith, ap, refl, sym, ◌∙◌, subst, length-append}
use Rattle.std.specs.List.{AllZip}
use Rattle.std.proofs.lemmas.List.{length-map, get_or-map}
use Rattle.std.proofs.lemmas.List.Elements.{Contains-get_or, Contains-append_left, Contains-append_right, Contains-append_cases}
use Rattle.pc_sheet.specs.Sizes.{product}
use Rattle.pc_lemmas.proofs.Elements.{contains_first, contains_later, contains_cases, contains_none, contains_map, contains_mapped}
use Rattle.pc_laws.proofs.Counting.{pairs_append}

-- ---- two and three lists, element by element

pub zip_length : {X Y : Type 0} (R : X → Y → Type 0) (xs : List X) (ys : List Y) → AllZip R xs ys → length xs ≡ length ys
zip_length R [] [] h = refl
zip_length R [] (y ∷ ys) h = absurd h
zip_length R (x ∷ xs) [] h = absurd h
zip_length R (x ∷ xs) (y ∷ ys) h = ap suc (zip_length R xs ys h.1)

zip_at : {X Y : Type 0} (R : X → Y → Type 0) (xs : List X) (ys : List Y) (i : ℕ) (d : X) (e : Y) → AllZip R xs ys → i < length xs → R (get_or xs i d) (get_or ys i e)
zip_at R [] ys i d e h l = absurd (omega (arith, l))
zip_at R (x ∷ xs) [] i d e h l = absurd h
zip_at R (x ∷ xs) (y ∷ ys) zero d e h l = h.0
zip_at R (x ∷ xs) (y ∷ ys) (suc i) d e h l = zip_at R xs ys i d e h.1 (omega (arith, l))

pub zip_from : {X Y : Type 0} (R : X → Y → Type 0) (xs : List X) (ys : List Y) → AllZip R xs ys → (y : Y) → Contains ys y → (x : X) × Contains xs x × R x y
zip_from R [] [] h y c = absurd (contains_none y c)
zip_from R [] (z ∷ zs) h y c = absurd h
zip_from R (x ∷ xs) [] h y c = absurd h
zip_from R (x ∷ xs) (z ∷ zs) h y c = elim (contains_cases z zs y c) [
  | inl same ↦ (x, contains_first x xs, subst (R x) same h.0)
  | inr later ↦ let rest = zip_from R xs zs h.1 y later in (rest.0, contains_later x xs rest.0 rest.1, rest.2)
]

pub zip_to : {X Y : Type 0} (R : X → Y → Type 0) (xs : List X) (ys : List Y) → AllZip R xs ys → (x : X) → Contains xs x → (y : Y) × Contains ys y × R x y
zip_to R [] [] h x c = absurd (contains_none x c)
zip_to R [] (z ∷ zs) h x c = absurd h
zip_to R (w ∷ ws) [] h x c = absurd h
zip_to {Y = Y} R (w ∷ ws) (z ∷ zs) h x c = elim (contains_cases w ws x c) [
  | inl same ↦ (z, contains_first z zs, subst (λ v. R v z) same h.0)
  | inr later ↦ let rest = zip_to R ws zs h.1 x later in (rest.0, contains_later z zs rest.0 rest.1, rest.2)
]

module _ {P L C : Type 0} (A : P → L → Type 0) (B : L → C → Type 0) (T : P → C → Type 0) where
  pub zip_along : ((p : P) (l : L) (c : C) → A p l → B l c → T p c) → (ps : List P) (ls : List L) (cs : List C) → AllZip A ps ls → AllZip B ls cs → AllZip T ps cs
  zip_along f [] [] [] h k = tt
  zip_along f [] [] (c ∷ cs) h k = absurd k
  zip_along f [] (l ∷ ls) cs h k = absurd h
  zip_along f (p ∷ ps) [] cs h k = absurd h
  zip_along f (p ∷ ps) (l ∷ ls) [] h k = absurd k
  zip_along f (p ∷ ps) (l ∷ ls) (c ∷ cs) h k = (f p l c h.0 k.0, zip_along f ps ls cs h.1 k.1)

  pub zip_across : ((p : P) (l : L) (c : C) → A p l → T p c → B l c) → (ps : List P) (ls : List L) (cs : List C) → AllZip A ps ls → AllZip T ps cs → AllZip B ls cs
  zip_across f [] [] [] h k = tt
  zip_across f [] [] (c ∷ cs) h k = absurd k
  zip_across f [] (l ∷ ls) cs h k = absurd h
  zip_across f (p ∷ ps) [] cs h k = absurd h
  zip_across f (p ∷ ps) (l ∷ ls) [] h k = absurd k
  zip_across f (p ∷ ps) (l ∷ ls) (c ∷ cs) h k = (f p l c h.0 k.0, zip_across f ps ls cs h.1 k.1)

-- different elements stand beside different ones, where one element has one beside it at most
pub zip_differ : {X Y : Type 0} (R : X → Y → Type 0) (xs : List X) (ys : List Y) → AllZip R xs ys → ((x z : X) (y : Y) → Contains xs x → Contains xs z → R x y → R z y → x ≡ z) → AllPairs (λ x z. x ≢ z) xs → AllPairs (λ x z. x ≢ z) ys
zip_differ {X} {Y} R xs ys h one differ i j e below within =
    let many = zip_length R xs ys h in
    let high : j < length xs = omega (arith, within, many) in
    let d = zip_from R xs ys h (get_or ys j e) (Contains-get_or ys j e within) in
    let low : i < length xs = omega (arith, below, high) in
    λ same. differ i j d.0 below high
    (one (get_or xs i d.0) (get_or xs j d.0) (get_or ys j e) (Contains-get_or xs i d.0 low) (Contains-get_or xs j d.0 high) (subst (R (get_or xs i d.0)) same (zip_at R xs ys i d.0 e h low)) (zip_at R xs ys j d.0 e h high))

-- ---- choices

module _ {X : Type 0} where
  -- each of the elements before each of the lists
  pub heads : List X → List (List X) → List (List X)
  heads [] tails = []
  heads (x ∷ xs) tails = map (λ t. x ∷ t) tails ++ heads xs tails

  pub choices : List (List X) → List (List X)
  choices [] = [] ∷ []
  choices (l ∷ ls) = heads l (choices ls)

  length-heads : (xs : List X) (tails : List (List X)) → length (heads xs tails) ≡ length xs * length tails
  unfolding heads
  length-heads [] tails = omega arith
  length-heads (x ∷ xs) tails =
      let first : List (List X) = map (λ t. x ∷ t) tails in
      omega (arith, length-append first (heads xs tails), length-map tails (λ t. x ∷ t), length-heads xs tails)

  pub length-choices : (ls : List (List X)) → length (choices ls) ≡ product (map length ls)
  unfolding choices
  length-choices [] = refl
  length-choices (l ∷ ls) = length-heads l (choices ls) ∙ ap (λ n. length l * n) (length-choices ls)

  heads_has : (xs : List X) (tails : List (List X)) (a : List X) → Contains (heads xs tails) a → (x : X) × Contains xs x × ((t : List X) × Contains tails t × (x ∷ t ≡ a))
  unfolding heads
  heads_has [] tails a c = absurd (contains_none a c)
  heads_has (x ∷ xs) tails a c = elim (Contains-append_cases (map (λ t. x ∷ t) tails) (heads xs tails) a c) [
    | inl here ↦ (x, contains_first x xs, contains_mapped (λ t. x ∷ t) tails a here)
    | inr later ↦ let rest = heads_has xs tails a later in (rest.0, contains_later x xs rest.0 rest.1, rest.2)
  ]

  heads_from : (xs : List X) (tails : List (List X)) (x : X) (t : List X) → Contains xs x → Contains tails t → Contains (heads xs tails) (x ∷ t)
  unfolding heads
  heads_from [] tails x t c k = absurd (contains_none x c)
  heads_from (y ∷ ys) tails x t c k = elim (contains_cases y ys x c) [
    | inl same ↦ Contains-append_left (map (λ s. y ∷ s) tails) (heads ys tails) (x ∷ t) (subst (λ z. Contains (map (λ s. y ∷ s) tails) (z ∷ t)) same (contains_map (λ s. y ∷ s) tails t k))
    | inr later ↦ Contains-append_right (map (λ s. y ∷ s) tails) (heads ys tails) (x ∷ t) (heads_from ys tails x t later k)
  ]

  abbrev pub IsChoice : List (List X) → List X → Type 0
  IsChoice ls c = AllZip (λ l x. Contains l x) ls c

  pub from_choice : (ls : List (List X)) (c : List X) → IsChoice ls c → Contains (choices ls) c
  unfolding choices
  from_choice [] [] h = contains_first [] []
  from_choice [] (x ∷ xs) h = absurd h
  from_choice (l ∷ ls) [] h = absurd h
  from_choice (l ∷ ls) (x ∷ xs) h = heads_from l (choices ls) x xs h.0 (from_choice ls xs h.1)

  pub choice_from : (ls : List (List X)) (c : List X) → Contains (choices ls) c → IsChoice ls c
  unfolding choices
  choice_from [] c has = elim (contains_cases [] [] c has) [ inl is ↦ subst (IsChoice []) is tt | inr later ↦ absurd (contains_none c later) ]
  choice_from (l ∷ ls) c has = let h = heads_has l (choices ls) c has in subst (IsChoice (l ∷ ls)) h.2.2 (h.1, choice_from ls h.2.0 h.2.1)

  head_or : X → List X → X
  head_or d [] = d
  head_or d (x ∷ xs) = x

  tail_of : List X → List X
  tail_of [] = []
  tail_of (x ∷ xs) = xs

  same_first : (x y : X) (s t : List X) → x ∷ s ≡ y ∷ t → x ≡ y
  unfolding head_or
  same_first x y s t is = ap (head_or x) is

  same_rest : (x y : X) (s t : List X) → x ∷ s ≡ y ∷ t → s ≡ t
  unfolding tail_of
  same_rest x y s t is = ap tail_of is

  mapped_differ : (x : X) (tails : List (List X)) → AllPairs (λ s t. s ≢ t) tails → AllPairs (λ s t. s ≢ t) (map (λ t. x ∷ t) tails)
  mapped_differ x tails h i j d below within =
      let count = length-map tails (λ t. x ∷ t) in
      let high : j < length tails = omega (arith, within, count) in
      λ same. h i j [] below high (same_rest x x (get_or tails i []) (get_or tails j []) (sym (get_or-map (λ t. x ∷ t) tails i [] d (omega (arith, below, high))) ∙ same ∙ get_or-map (λ t. x ∷ t) tails j [] d high))

  rest_pairs : (x : X) (xs : List X) → AllPairs (λ y z. y ≢ z) (x ∷ xs) → AllPairs (λ y z. y ≢ z) xs
  rest_pairs x xs h i j d below within = h (suc i) (suc j) d (omega arith) (omega arith)

  first_other : (x : X) (xs : List X) → AllPairs (λ y z. y ≢ z) (x ∷ xs) → (y : X) → Contains xs y → x ≢ y
  first_other x xs h y c = subst (λ z. x ≢ z) c.2 (h zero (suc c.0) y (omega arith) (omega (arith, c.1)))

  heads_differ : (xs : List X) (tails : List (List X)) → AllPairs (λ y z. y ≢ z) xs → AllPairs (λ s t. s ≢ t) tails → AllPairs (λ s t. s ≢ t) (heads xs tails)
  unfolding heads
  heads_differ [] tails h k = λ i j d below within. absurd (omega (arith, within))
  heads_differ (x ∷ xs) tails h k =
      pairs_append (λ s t. s ≢ t) (map (λ t. x ∷ t) tails) (heads xs tails) (mapped_differ x tails k) (heads_differ xs tails (rest_pairs x xs h) k)
      (λ i d l j e m same.
      let first = contains_mapped (λ t. x ∷ t) tails (get_or (map (λ t. x ∷ t) tails) i d) (Contains-get_or (map (λ t. x ∷ t) tails) i d l) in
      let second = heads_has xs tails (get_or (heads xs tails) j e) (Contains-get_or (heads xs tails) j e m) in
      first_other x xs h second.0 second.1 (same_first x second.0 first.0 second.2.0 (first.2 ∙ same ∙ sym second.2.2)))

  pub choices_differ : (ls : List (List X)) → ((l : List X) → Contains ls l → AllPairs (λ y z. y ≢ z) l) → AllPairs (λ s t. s ≢ t) (choices ls)
  unfolding choices
  choices_differ [] h = λ i j d below within. absurd (omega (arith, below, within))
  choices_differ (l ∷ ls) h = heads_differ l (choices ls) (h l (contains_first l ls)) (choices_differ ls (λ m c. h m (contains_later l ls m c)))
