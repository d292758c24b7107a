-- Sets of places as words.
use Rattle.std.proofs.Common.{◌≡◌, ◌≢◌, ℕ, zero, suc, ◌+◌, ◌-◌, ◌*◌, ◌/◌, ◌%◌, ◌^◌, ◌<◌, ◌≤◌, ◌↔◌, inl, inr, Bool, true, false, eqb, List, [], ◌∷◌, ◌++◌, length, get_or, set, refl, sym, ap, ◌∙◌, subst, arith, add-one, eq-eqb, eqb-true, w64}
use Rattle.std.proofs.lemmas.Bool.{cases_lt, cases_eq}
use Rattle.std.proofs.lemmas.List.{ext_get_or, get_or_append_left, get_or_push, get_or_past, get_or-set_same, get_or-set_other, length-set, length_push}
use Rattle.std.proofs.lemmas.Nat.{shr-shr}
use Rattle.std.proofs.lemmas.Nat.Bits.{bit_at_and, bit_at_not, bit_at_above, bit_at-zero, bit_at-lt, same_from_bits, shr_and_one}
use Rattle.std.specs.Prelude.{bit_and}
use Rattle.std.specs.Int.{bit_at, bit_not}
use Rattle.pc_support.specs.Seen.{HasPlace}
use Rattle.pc_support.specs.inside.Places.{HasBoth, IsWithinFrom}
use Rattle.pc_support.specs.inside.Words.{bit, flags, AreWords}

-- ---- one bit

pub bit_tests : (words : List ℕ) (place word : ℕ) → word ≡ get_or words (place / 64) 0 → eqb (bit_and (word / 2 ^ (place % 64)) 1) 1 ≡ bit words place
unfolding bit
bit_tests words place word is = ap (λ n. eqb n 1) (shr_and_one word (place % 64)) ∙ ap (λ w. eqb (bit_at w (place % 64)) 1) is

pub bit_one : (words : List ℕ) (place : ℕ) → bit words place ≡ true → bit_at (get_or words (place / 64) 0) (place % 64) ≡ 1
unfolding bit
bit_one words place h = eqb-true _ 1 h

pub one_bit : (words : List ℕ) (place : ℕ) → bit_at (get_or words (place / 64) 0) (place % 64) ≡ 1 → bit words place ≡ true
unfolding bit
one_bit words place h = eq-eqb _ 1 h

-- where the words at a place are the same, so is the bit
pub same_bit : (words others : List ℕ) (place : ℕ) → get_or words (place / 64) 0 ≡ get_or others (place / 64) 0 → bit words place ≡ bit others place
unfolding bit
same_bit words others place is = ap (λ w. eqb (bit_at w (place % 64)) 1) is

-- a place by its word and its bit
word_there : (at i : ℕ) → i < 64 → (64 * at + i) / 64 ≡ at
word_there at i small = omega arith

bit_there : (at i : ℕ) → i < 64 → (64 * at + i) % 64 ≡ i
bit_there at i small = omega arith

pub bit_of : (words : List ℕ) (at i : ℕ) → i < 64 → bit words (64 * at + i) ≡ true → bit_at (get_or words at 0) i ≡ 1
bit_of words at i small h =
    subst (λ k. bit_at (get_or words k 0) i ≡ 1) (word_there at i small)
    (subst (λ j. bit_at (get_or words ((64 * at + i) / 64) 0) j ≡ 1) (bit_there at i small) (bit_one words (64 * at + i) h))

pub of_bit : (words : List ℕ) (at i : ℕ) → i < 64 → bit_at (get_or words at 0) i ≡ 1 → bit words (64 * at + i) ≡ true
of_bit words at i small h =
    one_bit words (64 * at + i)
    (subst (λ j. bit_at (get_or words ((64 * at + i) / 64) 0) j ≡ 1) (sym (bit_there at i small))
    (subst (λ k. bit_at (get_or words k 0) i ≡ 1) (sym (word_there at i small)) h))

-- ---- a bit is put

pub put_here : (words new : List ℕ) (place word : ℕ) (has : Bool) → place / 64 < length words → new ≡ set words (place / 64) word → eqb (bit_at word (place % 64)) 1 ≡ has → bit new place ≡ has
unfolding bit
put_here words new place word has within is h =
    ap (λ w. eqb (bit_at w (place % 64)) 1) (ap (λ ws. get_or ws (place / 64) 0) is ∙ get_or-set_same words (place / 64) word 0 within) ∙ h

pub put_others : (words new : List ℕ) (place word : ℕ) → place / 64 < length words → new ≡ set words (place / 64) word
    → ((i : ℕ) → i < 64 → i ≢ place % 64 → bit_at word i ≡ bit_at (get_or words (place / 64) 0) i) → (other : ℕ) → other ≢ place → bit new other ≡ bit words other
unfolding bit
put_others words new place word within is keeps other differs = elim (cases_eq (other / 64) (place / 64)) [
  | inl same ↦
      let apart : other % 64 ≢ place % 64 = λ e. differs (omega arith) in
      let here : get_or new (other / 64) 0 ≡ word = ap (λ ws. get_or ws (other / 64) 0) is ∙ ap (λ k. get_or (set words (place / 64) word) k 0) same ∙ get_or-set_same words (place / 64) word 0 within in
      ap (λ w. eqb (bit_at w (other % 64)) 1) here ∙ ap (λ b. eqb b 1) (keeps (other % 64) (omega arith) apart) ∙ ap (λ k. eqb (bit_at (get_or words k 0) (other % 64)) 1) (sym same)
  | inr apart ↦ ap (λ w. eqb (bit_at w (other % 64)) 1) (ap (λ ws. get_or ws (other / 64) 0) is ∙ get_or-set_other words (place / 64) (other / 64) word 0 apart)
]

-- ---- one word within another

bit_of_rest : (n first i : ℕ) → first ≤ i → bit_at (n / 2 ^ first) (i - first) ≡ bit_at n i
bit_of_rest n first i from =
    ap (λ x. x % 2) (shr-shr n first (i - first)) ∙ ap (λ j. bit_at n j) (let e : first + (i - first) ≡ i = omega arith in e)

pub covers_by : (part word first : ℕ) → part < 2 ^ 64 → word < 2 ^ 64
    → (eqb (bit_and part (bit_not w64 word) / 2 ^ first) 0 ≡ true) ↔ ((i : ℕ) → first ≤ i → i < 64 → bit_at part i ≡ 1 → bit_at word i ≡ 1)
covers_by part word first small small' = (
  λ none i from below has.
      let rest = bit_of_rest (bit_and part (bit_not w64 word)) first i from in
      let zero_there : bit_at (bit_and part (bit_not w64 word) / 2 ^ first) (i - first) ≡ 0 = ap (λ n. bit_at n (i - first)) (eqb-true _ 0 none) ∙ bit_at-zero (i - first) in
      let both = bit_at_and part (bit_not w64 word) i in
      let isnt = bit_at_not w64 word i small' below in
      let two = bit_at-lt word i in
      omega (arith, rest, zero_there, both, isnt, two, has),
  λ all. eq-eqb _ 0 (same_from_bits (bit_and part (bit_not w64 word) / 2 ^ first) 0 (λ j.
      let rest : bit_at (bit_and part (bit_not w64 word) / 2 ^ first) j ≡ bit_at (bit_and part (bit_not w64 word)) (first + j) = ap (λ x. x % 2) (shr-shr (bit_and part (bit_not w64 word)) first j) in
      rest ∙ none_there (first + j) (omega arith) all ∙ sym (bit_at-zero j))),
)
  where
    none_there : (i : ℕ) → first ≤ i → ((k : ℕ) → first ≤ k → k < 64 → bit_at part k ≡ 1 → bit_at word k ≡ 1) → bit_at (bit_and part (bit_not w64 word)) i ≡ 0
    none_there i from all = elim (cases_lt i 64) [
      | inl below ↦ elim (cases_eq (bit_at part i) 1) [
        | inl has ↦
            let both = bit_at_and part (bit_not w64 word) i in
            let isnt = bit_at_not w64 word i small' below in
            let there = all i from below has in
            omega (arith, both, isnt, there)
        | inr lacks ↦
            let both = bit_at_and part (bit_not w64 word) i in
            let two = bit_at-lt part i in
            let none : bit_at part i ≡ 0 = omega (arith, two, lacks) in
            omega (arith, both, none)
      ]
      | inr above ↦
          let both = bit_at_and part (bit_not w64 word) i in
          let none = bit_at_above part 64 i small above in
          omega (arith, both, none)
    ]

-- ---- sets of bits

-- in this word
abbrev pub IsWordWithin : List ℕ → List ℕ → ℕ → ℕ → Type 0
IsWordWithin part words at first = (i : ℕ) → first ≤ i → i < 64 → bit_at (get_or part at 0) i ≡ 1 → bit_at (get_or words at 0) i ≡ 1

abbrev pub AreBitsWithin : List ℕ → List ℕ → ℕ → Type 0
AreBitsWithin part words from = (place : ℕ) → from ≤ place → bit part place ≡ true → bit words place ≡ true

no_bit_past : (part : List ℕ) (place : ℕ) → length part ≤ place / 64 → bit part place ≡ true → ⊥
no_bit_past part place past h =
    let one = bit_one part place h in
    let none = ap (λ w. bit_at w (place % 64)) (get_or_past part (place / 64) 0 past) ∙ bit_at-zero (place % 64) in
    omega (arith, one, none)

pub all_within : (part words : List ℕ) (from : ℕ) → IsWordWithin part words (from / 64) (from % 64)
    → ((at : ℕ) → from / 64 < at → at < length part → IsWordWithin part words at 0) → AreBitsWithin part words from
all_within part words from here later place at_least h = elim (cases_lt (place / 64) (length part)) [
  | inr past ↦ absurd (no_bit_past part place past h)
  | inl there ↦ elim (cases_eq (place / 64) (from / 64)) [
    | inl same ↦ one_bit words place (subst (λ k. bit_at (get_or words k 0) (place % 64) ≡ 1) (sym same)
        (here (place % 64) (omega arith) (omega arith) (subst (λ k. bit_at (get_or part k 0) (place % 64) ≡ 1) same (bit_one part place h))))
    | inr apart ↦ one_bit words place (later (place / 64) (omega arith) there (place % 64) (omega arith) (omega arith) (bit_one part place h))
  ]
]

pub word_within : (part words : List ℕ) (from at first : ℕ) → from ≤ 64 * at + first → AreBitsWithin part words from → IsWordWithin part words at first
word_within part words from at first after all i from_first small h = bit_of words at i small (all (64 * at + i) (omega arith) (of_bit part at i small h))

pub in_both : (words some others : List ℕ) → length words ≡ length some → ((at : ℕ) → at < length some → get_or words at 0 ≡ bit_and (get_or some at 0) (get_or others at 0))
    → (place : ℕ) → (bit words place ≡ true) ↔ (bit some place ≡ true) × (bit others place ≡ true)
in_both words some others size each place = elim (cases_lt (place / 64) (length some)) [
  | inr past ↦ (λ h. absurd (no_bit_past words place (omega arith) h), λ h. absurd (no_bit_past some place past h.0))
  | inl there ↦
      let is = ap (λ w. bit_at w (place % 64)) (each (place / 64) there) ∙ bit_at_and (get_or some (place / 64) 0) (get_or others (place / 64) 0) (place % 64) in
      let two = bit_at-lt (get_or some (place / 64) 0) (place % 64) in
      let two' = bit_at-lt (get_or others (place / 64) 0) (place % 64) in (
        λ h. let one = bit_one words place h in (one_bit some place (omega (arith, is, one, two, two')), one_bit others place (omega (arith, is, one, two, two'))),
        λ h. let a = bit_one some place h.0 in let b = bit_one others place h.1 in one_bit words place (omega (arith, is, a, b)),
      )
]

-- a word of no bits is added
pub room_same : (words new : List ℕ) → new ≡ words ++ 0 ∷ [] → (place : ℕ) → bit new place ≡ bit words place
room_same words new is place = same_bit new words place (ap (λ ws. get_or ws (place / 64) 0) is ∙ elim (cases_lt (place / 64) (length words)) [
  | inl there ↦ get_or_append_left words (0 ∷ []) 0 (place / 64) there
  | inr past ↦ elim (cases_eq (length words) (place / 64)) [
    | inl same ↦ get_or_push words 0 0 (place / 64) same ∙ sym (get_or_past words (place / 64) 0 past)
    | inr apart ↦ get_or_past (words ++ 0 ∷ []) (place / 64) 0 (let l = length_push words 0 in omega (arith, l)) ∙ sym (get_or_past words (place / 64) 0 past)
  ]
])

-- ---- truth values

pub flags_size : (n : ℕ) (words : List ℕ) → length (flags n words) ≡ n
unfolding flags
flags_size zero words = refl
flags_size (suc n) words = let l = length_push (flags n words) (bit words n) in let k = flags_size n words in omega (arith, l, k)

pub flags_at : (n : ℕ) (words : List ℕ) (place : ℕ) (d : Bool) → place < n → get_or (flags n words) place d ≡ bit words place
unfolding flags
flags_at zero words place d below = absurd (omega arith)
flags_at (suc n) words place d below = elim (cases_eq place n) [
  | inl same ↦ get_or_push (flags n words) (bit words n) d place (flags_size n words ∙ sym same) ∙ ap (bit words) (sym same)
  | inr apart ↦ let size = flags_size n words in get_or_append_left (flags n words) (bit words n ∷ []) d place (omega arith) ∙ flags_at n words place d (omega arith)
]

pub flags_same : (n : ℕ) (words others : List ℕ) → ((place : ℕ) → place < n → bit words place ≡ bit others place) → flags n words ≡ flags n others
flags_same n words others same =
    ext_get_or false (flags n words) (flags n others) (flags_size n words ∙ sym (flags_size n others))
    (λ place below. let size = flags_size n words in flags_at n words place false (omega arith) ∙ same place (omega arith) ∙ sym (flags_at n others place false (omega arith)))

pub has_flag : (n : ℕ) (words : List ℕ) → AreWords n words → (place : ℕ) → HasPlace (flags n words) place ↔ (bit words place ≡ true)
has_flag n words are place = elim (cases_lt place n) [
  | inl below ↦ let is = flags_at n words place false below in (λ h. sym is ∙ h, λ h. is ∙ h)
  | inr past ↦ (
    λ h. absurd (false_true (sym (get_or_past (flags n words) place false (let size = flags_size n words in omega (arith, size))) ∙ h)),
    λ h. let below = are.ends place h in absurd (omega arith),
  )
]
  where
    false_true : false ≡ true → ⊥
    false_true e = (cc)

pub truth_same : (b c : Bool) → (b ≡ true ↔ c ≡ true) → b ≡ c
truth_same true true h = refl
truth_same true false h = sym (h.0 refl)
truth_same false true h = h.1 refl
truth_same false false h = refl

pub flags_within : (n m : ℕ) (part words : List ℕ) (from : ℕ) → AreWords n part → AreWords m words → AreBitsWithin part words from ↔ IsWithinFrom from (flags n part) (flags m words)
flags_within n m part words from are are' = (
  λ all place at_least h. (has_flag m words are' place).1 (all place at_least ((has_flag n part are place).0 h)),
  λ all place at_least h. (has_flag m words are' place).0 (all place at_least ((has_flag n part are place).1 h)),
)

pub flags_push : (n : ℕ) (words room new : List ℕ) (has : Bool) → AreWords n words → ((place : ℕ) → bit room place ≡ bit words place) → bit new n ≡ has → ((place : ℕ) → place ≢ n → bit new place ≡ bit room place)
    → flags (n + 1) new ≡ flags n words ++ has ∷ []
unfolding flags
flags_push n words room new has are same here others =
    rw add-one (ap (λ fs. fs ++ bit new n ∷ []) (flags_same n new words (λ place below. others place (λ e. omega arith) ∙ same place)) ∙ ap (λ b. flags n words ++ b ∷ []) here)

pub words_push : (n : ℕ) (words room new : List ℕ) → AreWords n words → ((place : ℕ) → bit room place ≡ bit words place) → ((place : ℕ) → place ≢ n → bit new place ≡ bit room place)
    → n / 64 < length room → length new ≡ length room → AreWords (n + 1) new
words_push n words room new are same others room_for size = record {
  enough = omega arith;
  ends = λ place h. elim (cases_eq place n) [
    | inl is ↦ omega arith
    | inr apart ↦ let below = are.ends place (sym (others place apart ∙ same place) ∙ h) in omega arith
  ];
}

pub words_room : (n : ℕ) (words room : List ℕ) → AreWords n words → length words ≤ length room → ((place : ℕ) → bit room place ≡ bit words place) → AreWords n room
words_room n words room are more same = record {
  enough = let e = are.enough in omega (arith, e, more);
  ends = λ place h. are.ends place (sym (same place) ∙ h);
}

pub flags_put : (n : ℕ) (words new : List ℕ) (at : ℕ) (has : Bool) → at < n → bit new at ≡ has → ((place : ℕ) → place ≢ at → bit new place ≡ bit words place) → flags n new ≡ set (flags n words) at has
flags_put n words new at has below here others =
    let size = flags_size n words in
    ext_get_or false (flags n new) (set (flags n words) at has) (flags_size n new ∙ sym (length-set (flags n words) at has ∙ size))
    (λ place within.
    let inside : place < n = let s = flags_size n new in omega (arith, s, within) in
    flags_at n new place false inside ∙ elim (cases_eq place at) [
      | inl same ↦ ap (bit new) same ∙ here ∙ sym (ap (λ k. get_or (set (flags n words) at has) k false) same ∙ get_or-set_same (flags n words) at has false (omega arith))
      | inr apart ↦ others place apart ∙ sym (get_or-set_other (flags n words) at place has false apart ∙ flags_at n words place false inside)
    ])

pub words_put : (n : ℕ) (words new : List ℕ) (at : ℕ) → at < n → AreWords n words → length new ≡ length words → ((place : ℕ) → place ≢ at → bit new place ≡ bit words place) → AreWords n new
words_put n words new at below are size others = record {
  enough = let e = are.enough in omega (arith, e, size);
  ends = λ place h. elim (cases_eq place at) [
    | inl same ↦ omega arith
    | inr apart ↦ are.ends place (sym (others place apart) ∙ h)
  ];
}

pub words_both : (n : ℕ) (words some others : List ℕ) → AreWords n some → length words ≡ length some → ((place : ℕ) → (bit words place ≡ true) ↔ (bit some place ≡ true) × (bit others place ≡ true)) → AreWords n words
words_both n words some others are size both = record {
  enough = let e = are.enough in omega (arith, e, size);
  ends = λ place h. are.ends place ((both place).0 h).0;
}

pub flags_both : (n m : ℕ) (words some others : List ℕ) → AreWords n words → AreWords n some → AreWords m others → ((place : ℕ) → (bit words place ≡ true) ↔ (bit some place ≡ true) × (bit others place ≡ true))
    → (place : ℕ) → HasPlace (flags n words) place ↔ HasBoth (flags n some) (flags m others) place
flags_both n m words some others are are' are'' both place = (
  λ h. let b = (both place).0 ((has_flag n words are place).0 h) in ((has_flag n some are' place).1 b.0, (has_flag m others are'' place).1 b.1),
  λ h. (has_flag n words are place).1 ((both place).1 ((has_flag n some are' place).0 h.0, (has_flag m others are'' place).0 h.1)),
)

pub all_more : (set : List Bool) (n : ℕ) → length set ≡ n → ((place : ℕ) → place < n → HasPlace set place) → (place : ℕ) → place < n + 1 → HasPlace (set ++ true ∷ []) place
all_more set n size each place below = elim (cases_eq place n) [
  | inl same ↦ get_or_push set true false place (size ∙ sym same)
  | inr apart ↦ get_or_append_left set (true ∷ []) false place (omega arith) ∙ each place (omega arith)
]

-- ---- what the functions read

pub not_true : false ≡ true → ⊥
not_true e = (cc)

-- a test that says no
pub refused : (P : Type 0) (b : Bool) → b ≡ false → (P → b ≡ true) → (false ≡ true → P) × (P → false ≡ true)
refused P b is f = (λ e. absurd (not_true e), λ p. sym is ∙ f p)

pub word_here : (part words : List ℕ) (at first w w' : ℕ) → w ≡ get_or part at 0 → w' ≡ get_or words at 0 → ((i : ℕ) → first ≤ i → i < 64 → bit_at w i ≡ 1 → bit_at w' i ≡ 1) → IsWordWithin part words at first
word_here part words at first w w' is is' h i from small has = sym (ap (λ (x : ℕ). bit_at x i) is') ∙ h i from small (ap (λ (x : ℕ). bit_at x i) is ∙ has)

pub word_read : (part words : List ℕ) (from at first w w' : ℕ) → from ≤ 64 * at + first → w ≡ get_or part at 0 → w' ≡ get_or words at 0 → AreBitsWithin part words from
    → (i : ℕ) → first ≤ i → i < 64 → bit_at w i ≡ 1 → bit_at w' i ≡ 1
word_read part words from at first w w' after is is' all i from_first small has =
    ap (λ (x : ℕ). bit_at x i) is' ∙ word_within part words from at first after all i from_first small (sym (ap (λ (x : ℕ). bit_at x i) is) ∙ has)

pub words_none : (words : List ℕ) → words ≡ [] → AreWords 0 words
words_none words none = record {
  enough = omega arith;
  ends = λ place h. absurd (no_bit_past words place (let e : length words ≡ 0 = ap length none in omega (arith, e)) h);
}

pub flags_none : (words : List ℕ) → flags 0 words ≡ []
unfolding flags
flags_none words = refl

pub below_view : (n : ℕ) (words : List ℕ) (now : List Bool) (place : ℕ) → flags n words ≡ now → place < length now → place < n
below_view n words now place view h = let s = flags_size n words in let l = ap length view in omega (arith, s, l, h)

pub room_view : (n : ℕ) (words : List ℕ) (now : List Bool) (place : ℕ) → AreWords n words → flags n words ≡ now → place < length now → place / 64 < length words
room_view n words now place are view h = let e = are.enough in let b = below_view n words now place view h in omega (arith, e, b)

pub has_view : (n : ℕ) (words read : List ℕ) (now : List Bool) (place : ℕ) (b : Bool) → AreWords n words → flags n words ≡ now → read ≡ words → b ≡ bit read place → (b ≡ true) ↔ HasPlace now place
has_view n words read now place b are view same is =
    let f = has_flag n words are place in
    let e : b ≡ bit words place = is ∙ ap (λ ws. bit ws place) same in
    subst (λ fs. (b ≡ true) ↔ HasPlace fs place) view (λ h. f.1 (sym e ∙ h), λ h. e ∙ f.0 h)

pub within_view : (n m : ℕ) (part words read read' : List ℕ) (now now' : List Bool) (from : ℕ) (b : Bool) → AreWords n part → AreWords m words → flags n part ≡ now → flags m words ≡ now' → read ≡ part → read' ≡ words
    → ((b ≡ true) ↔ AreBitsWithin read read' from) → (b ≡ true) ↔ IsWithinFrom from now now'
within_view n m part words read read' now now' from b are are' view view' same same' h =
    let w = flags_within n m part words from are are' in
    let k : (b ≡ true) ↔ AreBitsWithin part words from = subst (λ ws. (b ≡ true) ↔ AreBitsWithin part ws from) same' (subst (λ ps. (b ≡ true) ↔ AreBitsWithin ps read' from) same h) in
    subst (λ gs. (b ≡ true) ↔ IsWithinFrom from now gs) view' (subst (λ fs. (b ≡ true) ↔ IsWithinFrom from fs (flags m words)) view (λ e. w.0 (k.0 e), λ all. k.1 (w.1 all)))

abbrev pub AreInBoth : List ℕ → List ℕ → List ℕ → Type 0
AreInBoth words some others = (place : ℕ) → (bit words place ≡ true) ↔ (bit some place ≡ true) × (bit others place ≡ true)

pub both_read : (words some others read read' : List ℕ) → read ≡ some → read' ≡ others → AreInBoth words read read' → AreInBoth words some others
both_read words some others read read' same same' h = subst (λ os. AreInBoth words some os) same' (subst (λ ss. AreInBoth words ss read') same h)

pub both_view : (n m : ℕ) (words some others : List ℕ) (now now' : List Bool) → AreWords n some → AreWords m others → flags n some ≡ now → flags m others ≡ now' → length words ≡ length some → AreInBoth words some others
    → (place : ℕ) → HasPlace (flags n words) place ↔ HasBoth now now' place
both_view n m words some others now now' are are' view view' size both place =
    subst (λ gs. HasPlace (flags n words) place ↔ HasBoth now gs place) view' (subst (λ fs. HasPlace (flags n words) place ↔ HasBoth fs (flags m others) place) view
    (flags_both n m words some others (words_both n words some others are size both) are are' both place))
