-- Rising places as the bits of words.
use Rattle.std.proofs.Common.{◌≡◌, ◌≢◌, ℕ, zero, suc, ◌+◌, ◌*◌, ◌/◌, ◌%◌, ◌^◌, ◌<◌, ◌≤◌, ◌↔◌, ◌⊎◌, inl, inr, ⊎_elim, Bool, true, false, eqb, List, [], ◌∷◌, ◌++◌, length, get_or, set, take, refl, sym, ap, ◌∙◌, subst, arith, add-one, eq-eqb, eqb-true, Contains}
use Rattle.std.proofs.Math.ListN.{replicate}
use Rattle.std.specs.Prelude.{bit_and, cond, AllPairs}
use Rattle.std.specs.Int.{bit_at}
use Rattle.std.specs.List.Sorted.{IsStrictlyIncreasing}
use Rattle.std.proofs.lemmas.Bool.{cases_lt, cases_eq}
use Rattle.std.proofs.lemmas.List.{append-nil, get_or_append_left, get_or_default, get_or_push, get_or_past, get_or-set_same, get_or-set_other, length-append, length_push, take_all, take_more}
use Rattle.std.proofs.lemmas.List.Elements.{Contains-append_cases, Contains-append_left, Contains-append_right, Contains-get_or, Contains-push, Contains-push_cases}
use Rattle.std.proofs.lemmas.Nat.Bits.{bit_at-zero, shr_and_one}
use Rattle.pc_log.specs.Sparse.{index_of}
use Rattle.pc_log.specs.inside.Bits.{bit, places_below, places_in, AreRanks, AreRanked}
use Rattle.pc_log.proofs.AppendLemmas.{index_is, rises}

false_true : false ≡ true → ⊥
false_true e = (cc)

-- ---- one bit

pub bit_tests : (words : List ℕ) (place word : ℕ) → word ≡ get_or words (place / 64) 0 → eqb (bit_and (word / 2 ^ (place % 64)) 1) 1 ≡ bit words place
unfolding bit
bit_tests words place word is = ap (λ n. eqb n 1) (shr_and_one word (place % 64)) ∙ ap (λ w. eqb (bit_at w (place % 64)) 1) is

-- where the words at a place are the same, so is the bit
same_bit : (words others : List ℕ) (place : ℕ) → get_or words (place / 64) 0 ≡ get_or others (place / 64) 0 → bit words place ≡ bit others place
unfolding bit
same_bit words others place is = ap (λ w. eqb (bit_at w (place % 64)) 1) is

no_bit_past : (words : List ℕ) (place : ℕ) → length words ≤ place / 64 → bit words place ≡ true → ⊥
unfolding bit
no_bit_past words place past h =
    let one : bit_at (get_or words (place / 64) 0) (place % 64) ≡ 1 = eqb-true _ 1 h in
    let none = ap (λ w. bit_at w (place % 64)) (get_or_past words (place / 64) 0 past) ∙ bit_at-zero (place % 64) in
    omega (arith, one, none)

pub bit_within : (words : List ℕ) (place : ℕ) → bit words place ≡ true → place < 64 * length words
bit_within words place has = elim (cases_lt place (64 * length words)) [
  | inl below ↦ below
  | inr past ↦ absurd (no_bit_past words place (omega (arith, past)) has)
]

pub put_here : (words new : List ℕ) (place word : ℕ) → place / 64 < length words → new ≡ set words (place / 64) word → bit_at word (place % 64) ≡ 1 → bit new place ≡ true
unfolding bit
put_here words new place word within is h =
    ap (λ w. eqb (bit_at w (place % 64)) 1) (ap (λ ws. get_or ws (place / 64) 0) is ∙ get_or-set_same words (place / 64) word 0 within) ∙ eq-eqb _ 1 h

pub put_others : (words new : List ℕ) (place word : ℕ) → place / 64 < length words → new ≡ set words (place / 64) word
    → ((i : ℕ) → i ≢ place % 64 → bit_at word i ≡ bit_at (get_or words (place / 64) 0) i) → (other : ℕ) → other ≢ place → bit new other ≡ bit words other
unfolding bit
put_others words new place word within is keeps other differs = elim (cases_eq (other / 64) (place / 64)) [
  | inl same ↦
      let apart : other % 64 ≢ place % 64 = λ e. differs (omega arith) in
      let here : get_or new (other / 64) 0 ≡ word = ap (λ ws. get_or ws (other / 64) 0) is ∙ ap (λ k. get_or (set words (place / 64) word) k 0) same ∙ get_or-set_same words (place / 64) word 0 within in
      ap (λ w. eqb (bit_at w (other % 64)) 1) here ∙ ap (λ b. eqb b 1) (keeps (other % 64) apart) ∙ ap (λ k. eqb (bit_at (get_or words k 0) (other % 64)) 1) (sym same)
  | inr apart ↦ ap (λ w. eqb (bit_at w (other % 64)) 1) (ap (λ ws. get_or ws (other / 64) 0) is ∙ get_or-set_other words (place / 64) (other / 64) word 0 apart)
]

-- ---- words of no bits are added

zeros : (n i z : ℕ) → get_or (replicate n z) i z ≡ z
zeros zero i z = refl
zeros (suc n) zero z = refl
zeros (suc n) (suc i) z = zeros n i z

zeros_past : (words : List ℕ) (n i z : ℕ) → get_or (words ++ replicate n z) i z ≡ get_or words i z
zeros_past [] n i z = zeros n i z
zeros_past (w ∷ ws) n zero z = refl
zeros_past (w ∷ ws) n (suc i) z = zeros_past ws n i z

pub room_bits : (words new : List ℕ) (count n : ℕ) → new ≡ take count words ++ replicate n 0 → length words ≤ count → (place : ℕ) → bit new place ≡ bit words place
room_bits words new count n is few place =
    same_bit new words place (ap (λ (ws : List ℕ). get_or ws (place / 64) 0) (is ∙ ap (λ (ws : List ℕ). ws ++ replicate n 0) (take_all count words few)) ∙ zeros_past words n (place / 64) 0)

-- ---- one place more

pub below_more : (words : List ℕ) (n : ℕ) → places_below words (n + 1) ≡ places_below words n ++ cond (bit words n) (n ∷ []) []
unfolding places_below
below_more words n = rw add-one refl

pub count_more : (words : List ℕ) (n : ℕ) → length (places_below words (n + 1)) ≡ length (places_below words n) + cond (bit words n) 1 0
count_more words n = ap (λ (ps : List ℕ). length ps) (below_more words n) ∙ size (bit words n)
  where
    size : (b : Bool) → length (places_below words n ++ cond b (n ∷ []) []) ≡ length (places_below words n) + cond b 1 0
    size true = length_push (places_below words n) n
    size false = length-append (places_below words n) []

pub none_below : (words : List ℕ) → places_below words 0 ≡ []
unfolding places_below
none_below words = refl

small_one : (xs : List ℕ) (b : Bool) (n : ℕ) → length xs ≤ n → length (xs ++ cond b (n ∷ []) []) ≤ suc n
small_one xs true n few = omega (arith, length_push xs n, few)
small_one xs false n few = omega (arith, length-append xs [], few)

pub count_small : (words : List ℕ) (n : ℕ) → length (places_below words n) ≤ n
unfolding places_below
count_small words zero = omega arith
count_small words (suc n) = small_one (places_below words n) (bit words n) n (count_small words n)

pub count_first : (words : List ℕ) → 0 ≡ length (places_below words (64 * 0))
unfolding places_below
count_first words = refl

-- ---- which places these are

one_there : (b : Bool) (n p : ℕ) → b ≡ true → n ≡ p → Contains (cond b (n ∷ []) []) p
one_there true n p has same = (0, omega arith, same)
one_there false n p has same = absurd (false_true has)

one_at : (n p k : ℕ) → k < length (n ∷ []) → get_or (n ∷ []) k p ≡ p → n ≡ p
one_at n p zero low is = is
one_at n p (suc k) low is = absurd (omega (arith, low))

one_is : (b : Bool) (n p : ℕ) → Contains (cond b (n ∷ []) []) p → (b ≡ true) × (n ≡ p)
one_is true n p has = (refl, one_at n p has.0 has.1 has.2)
one_is false n p has = absurd (omega (arith, has.1))

pub in_below : (words : List ℕ) (n p : ℕ) → p < n → bit words p ≡ true → Contains (places_below words n) p
unfolding places_below
in_below words zero p below has = absurd (omega (arith, below))
in_below words (suc n) p below has = elim (cases_eq p n) [
  | inl same ↦ Contains-append_right (places_below words n) (cond (bit words n) (n ∷ []) []) p (one_there (bit words n) n p (ap (bit words) (sym same) ∙ has) (sym same))
  | inr apart ↦ Contains-append_left (places_below words n) (cond (bit words n) (n ∷ []) []) p (in_below words n p (omega (arith, below, apart)) has)
]

pub below_has : (words : List ℕ) (n p : ℕ) → Contains (places_below words n) p → (p < n) × (bit words p ≡ true)
unfolding places_below
below_has words zero p has = absurd (omega (arith, has.1))
below_has words (suc n) p has =
    ⊎_elim (λ (was : Contains (places_below words n) p). let b = below_has words n p was in (omega (arith, b.0), b.1))
    (λ (now : Contains (cond (bit words n) (n ∷ []) []) p). let one = one_is (bit words n) n p now in (omega (arith, one.1), ap (bit words) (sym one.1) ∙ one.0))
    (Contains-append_cases (places_below words n) (cond (bit words n) (n ∷ []) []) p has)

-- ---- they rise

rise_one : (xs : List ℕ) (b : Bool) (x : ℕ) → AllPairs (λ x y. x < y) xs → ((y : ℕ) → Contains xs y → y < x) → AllPairs (λ x y. x < y) (xs ++ cond b (x ∷ []) [])
rise_one xs false x rise last = subst (AllPairs (λ x y. x < y)) (sym (append-nil xs)) rise
rise_one xs true x rise last = λ i j d earlier within. elim (cases_lt j (length xs)) [
  | inl low ↦
      let first = get_or_append_left xs (x ∷ []) d i (omega (arith, earlier, low)) in
      let second = get_or_append_left xs (x ∷ []) d j low in
      let less : get_or xs i d < get_or xs j d = rise i j d earlier low in
      omega (arith, first, second, less)
  | inr past ↦
      let end : length xs ≡ j = omega (arith, past, within, length_push xs x) in
      let first = get_or_append_left xs (x ∷ []) d i (omega (arith, earlier, end)) in
      let second = get_or_push xs x d j end in
      let less = last (get_or xs i d) (Contains-get_or xs i d (omega (arith, earlier, end))) in
      omega (arith, first, second, less)
]

pub below_rise : (words : List ℕ) (n : ℕ) → AllPairs (λ x y. x < y) (places_below words n)
unfolding places_below
below_rise words zero = λ i j d earlier within. absurd (omega (arith, within))
below_rise words (suc n) = rise_one (places_below words n) (bit words n) n (below_rise words n) (λ y has. (below_has words n y has).0)

-- ---- rising lists of the same places are the same

least_at : (x : ℕ) (xs : List ℕ) (p k : ℕ) → AllPairs (λ x y. x < y) (x ∷ xs) → k < length (x ∷ xs) → get_or (x ∷ xs) k p ≡ p → x ≤ p
least_at x xs p zero rise low is = omega (arith, is)
least_at x xs p (suc k) rise low is =
    let below : x < get_or xs k p = rise zero (suc k) p (omega arith) low in
    let there : get_or xs k p ≡ p = is in
    omega (arith, there, below)

in_tail : (x : ℕ) (xs : List ℕ) (p : ℕ) → AllPairs (λ x y. x < y) (x ∷ xs) → Contains xs p → x < p
in_tail x xs p rise has =
    let below : x < get_or xs has.0 p = rise zero (suc has.0) p (omega arith) (omega (arith, has.1)) in
    omega (arith, has.2, below)

from_cons_at : (y : ℕ) (ys : List ℕ) (p k : ℕ) → k < length (y ∷ ys) → get_or (y ∷ ys) k p ≡ p → (y ≡ p) ⊎ Contains ys p
from_cons_at y ys p zero low is = inl is
from_cons_at y ys p (suc k) low is = inr (k, omega (arith, low), is)

tail_has : (x y : ℕ) (xs ys : List ℕ) (p : ℕ) → AllPairs (λ x y. x < y) (x ∷ xs) → x ≡ y → (Contains (x ∷ xs) p → Contains (y ∷ ys) p) → Contains xs p → Contains ys p
tail_has x y xs ys p rise heads sub has =
    let there = sub (suc has.0, omega (arith, has.1), has.2) in
    ⊎_elim (λ (is : y ≡ p). absurd (omega (arith, is, heads, in_tail x xs p rise has))) (λ (more : Contains ys p). more) (from_cons_at y ys p there.0 there.1 there.2)

tail_rise : (x : ℕ) (xs : List ℕ) → AllPairs (λ x y. x < y) (x ∷ xs) → AllPairs (λ x y. x < y) xs
tail_rise x xs rise = λ i j d earlier within. rise (suc i) (suc j) d (omega (arith, earlier)) (omega (arith, within))

pub same_rising : (xs ys : List ℕ) → AllPairs (λ x y. x < y) xs → AllPairs (λ x y. x < y) ys → ((p : ℕ) → Contains xs p ↔ Contains ys p) → xs ≡ ys
same_rising [] [] rise rise' same = refl
same_rising [] (y ∷ ys) rise rise' same = absurd (let has = (same y).1 (0, omega arith, refl) in omega (arith, has.1))
same_rising (x ∷ xs) [] rise rise' same = absurd (let has = (same x).0 (0, omega arith, refl) in omega (arith, has.1))
same_rising (x ∷ xs) (y ∷ ys) rise rise' same =
    let at_y = (same y).1 (0, omega arith, refl) in
    let at_x = (same x).0 (0, omega arith, refl) in
    let heads : x ≡ y = omega (arith, least_at x xs y at_y.0 rise at_y.1 at_y.2, least_at y ys x at_x.0 rise' at_x.1 at_x.2) in
    ap (λ (h : ℕ). h ∷ xs) heads
    ∙ ap (λ (t : List ℕ). y ∷ t) (same_rising xs ys (tail_rise x xs rise) (tail_rise y ys rise')
    (λ p. (tail_has x y xs ys p rise heads (same p).0, tail_has y x ys xs p rise' (sym heads) (same p).1)))

-- ---- words of places

pub bits_none : (places words : List ℕ) → words ≡ [] → (p : ℕ) → (bit words p ≡ true) ↔ Contains (take 0 places) p
bits_none places words none p = (
  λ has. absurd (no_bit_past words p (omega (arith, ap (λ (ws : List ℕ). length ws) none)) has),
  λ has. absurd (omega (arith, has.1)),
)

pub bits_more : (places : List ℕ) (k d : ℕ) (words new : List ℕ) → k < length places → ((p : ℕ) → (bit words p ≡ true) ↔ Contains (take k places) p) → bit new (get_or places k d) ≡ true
    → ((other : ℕ) → other ≢ get_or places k d → bit new other ≡ bit words other) → (p : ℕ) → (bit new p ≡ true) ↔ Contains (take (k + 1) places) p
bits_more places k d words new low are here others p =
    let place : ℕ = get_or places k d in
    let more = take_more places k d low in
    elim (cases_eq p place) [
      | inl same ↦ (
        λ has. subst (λ (ps : List ℕ). Contains ps p) (sym more) (subst (λ (n : ℕ). Contains (take k places ++ place ∷ []) n) (sym same) (Contains-push (take k places) place)),
        λ has. ap (bit new) same ∙ here,
      )
      | inr apart ↦ (
        λ has. subst (λ (ps : List ℕ). Contains ps p) (sym more) (Contains-append_left (take k places) (place ∷ []) p ((are p).0 (sym (others p apart) ∙ has))),
        λ has. others p apart ∙ (are p).1 (⊎_elim (λ (was : Contains (take k places) p). was) (λ (now : place ≡ p). absurd (apart (sym now)))
            (Contains-push_cases (take k places) place p (subst (λ (ps : List ℕ). Contains ps p) more has))),
      )
    ]

pub of_bits : (words places : List ℕ) → IsStrictlyIncreasing places → ((p : ℕ) → (bit words p ≡ true) ↔ Contains places p) → places_in words ≡ places
of_bits words places rise are =
    same_rising (places_in words) places (below_rise words (64 * length words)) (rises places rise) (λ p. (
      λ has. (are p).0 (below_has words (64 * length words) p has).1,
      λ has. let there = (are p).1 has in in_below words (64 * length words) p (bit_within words p there) there,
    ))

-- ---- ranks

pub ranks_first : (words ranks : List ℕ) → ranks ≡ 0 ∷ [] → AreRanks words ranks 0
ranks_first words ranks is = record {
  size = ap (λ (rs : List ℕ). length rs) is;
  each = λ at low.
      let first : at ≡ 0 = omega (arith, low) in
      ap (λ (rs : List ℕ). get_or rs at 0) is ∙ ap (λ (n : ℕ). get_or (0 ∷ []) n 0) first ∙ sym (ap (λ (n : ℕ). length (places_below words n)) (let e : 64 * at ≡ 0 = omega (arith, first) in e) ∙ ap (λ (ps : List ℕ). length ps) (none_below words));
}

pub ranks_more : (words ranks : List ℕ) (at small : ℕ) → AreRanks words ranks at → small ≡ length (places_below words (64 * at + 64)) → AreRanks words (ranks ++ small ∷ []) (at + 1)
ranks_more words ranks at small are is = record {
  size = omega (arith, length_push ranks small, are.size);
  each = λ i low. elim (cases_lt i (at + 1)) [
    | inl before ↦ get_or_append_left ranks (small ∷ []) 0 i (omega (arith, are.size, before)) ∙ are.each i (omega (arith, before))
    | inr last ↦
        let same : i ≡ at + 1 = omega (arith, last, low) in
        get_or_push ranks small 0 i (omega (arith, are.size, same)) ∙ is ∙ ap (λ (n : ℕ). length (places_below words n)) (let e : 64 * at + 64 ≡ 64 * i = omega (arith, same) in e)
  ];
}

pub count_next : (words : List ℕ) (at count : ℕ) → count ≡ length (places_below words (64 * at + 64)) → count ≡ length (places_below words (64 * (at + 1)))
count_next words at count is = is ∙ ap (λ (n : ℕ). length (places_below words n)) (let e : 64 * at + 64 ≡ 64 * (at + 1) = omega arith in e)

pub rank_here : (words ranks : List ℕ) (at rank : ℕ) → AreRanked words ranks → at ≤ length words → rank ≡ get_or ranks at rank → rank ≡ length (places_below words (64 * at))
rank_here words ranks at rank are low read = read ∙ get_or_default ranks at rank 0 (omega (arith, are.ranks_are.size, low)) ∙ are.ranks_are.each at low

kept_at : (xs : List ℕ) (b : Bool) (n k p : ℕ) → k < length xs → get_or xs k p ≡ p → (k < length (xs ++ cond b (n ∷ []) [])) × (get_or (xs ++ cond b (n ∷ []) []) k p ≡ p)
kept_at xs b n k p low is = (omega (arith, low, length-append xs (cond b (n ∷ []) [])), get_or_append_left xs (cond b (n ∷ []) []) p k low ∙ is)

last_at : (xs : List ℕ) (b : Bool) (n : ℕ) → b ≡ true → (length xs < length (xs ++ cond b (n ∷ []) [])) × (get_or (xs ++ cond b (n ∷ []) []) (length xs) n ≡ n)
last_at xs true n has = (omega (arith, length_push xs n), get_or_push xs n n (length xs) refl)
last_at xs false n has = absurd (false_true has)

-- a place stands behind those below it
pub stands_below : (words : List ℕ) (n p : ℕ) → p < n → bit words p ≡ true
    → (length (places_below words p) < length (places_below words n)) × (get_or (places_below words n) (length (places_below words p)) p ≡ p)
unfolding places_below
stands_below words zero p below has = absurd (omega (arith, below))
stands_below words (suc n) p below has = elim (cases_eq p n) [
  | inl same ↦
      let all : List ℕ = places_below words n ++ cond (bit words n) (n ∷ []) [] in
      subst (λ (q : ℕ). (length (places_below words q) < length all) × (get_or all (length (places_below words q)) q ≡ q)) (sym same) (last_at (places_below words n) (bit words n) n (ap (bit words) (sym same) ∙ has))
  | inr apart ↦
      let was = stands_below words n p (omega (arith, below, apart)) has in
      kept_at (places_below words n) (bit words n) n (length (places_below words p)) p was.0 was.1
]

module _ (words places : List ℕ) (p : ℕ) (view : places_in words ≡ places) (has : Contains places p) where
  pub place_bit : bit words p ≡ true
  place_bit = (below_has words (64 * length words) p (subst (λ (ps : List ℕ). Contains ps p) (sym view) has)).1

  pub place_within : p / 64 < length words
  place_within = let below = bit_within words p place_bit in omega (arith, below)

  stands : (length (places_below words p) < length (places_in words)) × (get_or (places_in words) (length (places_below words p)) p ≡ p)
  stands = stands_below words (64 * length words) p (bit_within words p place_bit) place_bit

  pub number_is : length (places_below words p) ≡ index_of p places
  number_is = sym (ap (index_of p) (sym view) ∙ index_is (places_in words) p (below_rise words (64 * length words)) (length (places_below words p), stands.0, stands.1))

  pub number_within : length (places_below words p) < length places
  number_within = let size = ap (λ (ps : List ℕ). length ps) view in let low = stands.0 in omega (arith, size, low)

-- ---- the next place

pub next_is : (words places : List ℕ) (index from next : ℕ) → places_in words ≡ places → index < length places → from ≤ get_or places index 0 → ((i : ℕ) → i < index → get_or places i 0 < from)
    → bit words next ≡ true → from ≤ next → ((p : ℕ) → from ≤ p → bit words p ≡ true → next ≤ p) → next ≡ get_or places index 0
next_is words places index from next view low later earlier has after first =
    let rise : AllPairs (λ x y. x < y) places = subst (AllPairs (λ x y. x < y)) view (below_rise words (64 * length words)) in
    let there : Contains places next = subst (λ (ps : List ℕ). Contains ps next) view (in_below words (64 * length words) next (bit_within words next has) has) in
    let is : get_or places there.0 0 ≡ next = get_or_default places there.0 0 next there.1 ∙ there.2 in
    let target : ℕ = get_or places index 0 in
    let most : next ≤ target = first target later (place_bit words places target view (Contains-get_or places index 0 low)) in
    elim (cases_lt there.0 index) [
      | inl before ↦ absurd (omega (arith, earlier there.0 before, is, after))
      | inr not_before ↦ elim (cases_lt index there.0) [
        | inl behind ↦ absurd (omega (arith, rise index there.0 0 behind there.1, is, most))
        | inr not_behind ↦
            let same : there.0 ≡ index = omega (arith, not_before, not_behind) in
            sym is ∙ ap (λ (n : ℕ). get_or places n 0) same
      ]
    ]

-- some place from `from` on has a bit, but none before the end
pub some_before_end : (words : List ℕ) (from end : ℕ) → (place : ℕ) × (from ≤ place) × (bit words place ≡ true) → ((p : ℕ) → from ≤ p → p < end → bit words p ≡ true → ⊥) → 64 * length words ≤ end → ⊥
some_before_end words from end some none past = none some.0 some.1 (omega (arith, bit_within words some.0 some.2, past)) some.2

pub first_from : (words : List ℕ) (from place : ℕ) → ((p : ℕ) → from ≤ p → p < place → bit words p ≡ true → ⊥) → (p : ℕ) → from ≤ p → bit words p ≡ true → place ≤ p
first_from words from place none p after has = elim (cases_lt p place) [
  | inl before ↦ absurd (none p after before has)
  | inr behind ↦ behind
]
