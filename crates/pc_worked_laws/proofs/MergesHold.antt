-- Small journals, their merges and their differences.
use Rattle.std.proofs.Common.{◌≡◌, ◌≢◌, ℕ, ◌<◌, ◌≤◌, ◌+◌, ◌⊎◌, ◌↔◌, inl, inr, List, [], ◌∷◌, length, get_or, codes, Contains, arith, ap, refl, sym, ◌∙◌, subst}
use Rattle.std.proofs.lemmas.List.Elements.{All-nil, All-cons, All-contains}
use Rattle.std.proofs.lemmas.List.Kept.{AllPairs-cons}
use Rattle.pc_collab.specs.Journal.{Post, IsOneLine, IsPost, IsPostBefore, PostsRise, posts_by, AreNumberedByAuthor, IsJournal}
use Rattle.pc_collab.specs.Merge.{AreNamesakes, NamesakesAgree, IsMerge, DifferAt, DifferFirstAt}
use Rattle.pc_collab.proofs.Numbered.{numbered_push}
use Rattle.pc_collab.proofs.Orders.{first_of_pairs, later_pairs}
use Rattle.pc_lemmas.proofs.Elements.{contains_first, contains_later, contains_cases, contains_none}
use Rattle.pc_worked_laws.specs.Merges.{post, shared, begun, went_on, ours, theirs, together, older, newer, both_of, WorkedJournals, WorkedMerges, WorkedDifferences}

-- ---- lists of one, two or three posts

one_of : (x p : Post) → Contains (x ∷ []) p → x ≡ p
one_of x p has = elim (contains_cases x [] p has) [ inl is ↦ is | inr none ↦ absurd (contains_none p none) ]

two_of : (x y p : Post) → Contains (x ∷ y ∷ []) p → (x ≡ p) ⊎ (y ≡ p)
two_of x y p has = elim (contains_cases x (y ∷ []) p has) [ inl is ↦ inl is | inr later ↦ inr (one_of y p later) ]

second_there : (x y : Post) → Contains (x ∷ y ∷ []) y
second_there x y = contains_later x (y ∷ []) y (contains_first y [])

no_pairs : PostsRise []
no_pairs i j d below within = absurd (omega (arith, below, within))

alone : (x : Post) → PostsRise (x ∷ [])
alone x = AllPairs-cons IsPostBefore x [] (All-nil (IsPostBefore x)) no_pairs

in_order : (x y : Post) → IsPostBefore x y → PostsRise (x ∷ y ∷ [])
in_order x y before = AllPairs-cons IsPostBefore x (y ∷ []) (All-cons (IsPostBefore x) y [] before (All-nil (IsPostBefore x))) (alone y)

all_in_order : (x y z : Post) → IsPostBefore x y → IsPostBefore x z → IsPostBefore y z → PostsRise (x ∷ y ∷ z ∷ [])
all_in_order x y z first second third =
    AllPairs-cons IsPostBefore x (y ∷ z ∷ []) (All-cons (IsPostBefore x) y (z ∷ []) first (All-cons (IsPostBefore x) z [] second (All-nil (IsPostBefore x)))) (in_order y z third)

-- ---- journals

one_line : (b : ℕ) → b ≢ 10 → b ≢ 13 → IsOneLine (b ∷ [])
one_line b feed return = All-cons (λ c. (c ≢ 10) × (c ≢ 13)) b [] (feed, return) (All-nil (λ c. (c ≢ 10) × (c ≢ 13)))

pub empty_line : IsOneLine []
empty_line = All-nil (λ c. (c ≢ 10) × (c ≢ 13))

numbers_differ : (m n : ℕ) → m < n → m ≢ n
numbers_differ m n less is = omega (arith, less, is)

-- a post of low numbers and a text of one byte, or of none
pub short_post : (p : Post) → 1 ≤ p.author → p.author ≤ 2 → 1 ≤ p.number → p.number ≤ 3 → 1 ≤ p.stamp → p.stamp ≤ 3 → length p.text ≤ 1 → IsOneLine p.text → IsPost p
short_post p a b c d e f g h = record {
  author = (a, omega (arith, b));
  number = (c, omega (arith, d));
  stamp = (e, omega (arith, f));
  short = omega (arith, g);
  one_line = h;
}

pub letter_past : (b : ℕ) → 13 < b → IsOneLine (b ∷ [])
letter_past b more = one_line b (λ is. omega (arith, more, is)) (λ is. omega (arith, more, is))

shared_post : IsPost shared
shared_post = short_post shared (omega arith) (omega arith) (omega arith) (omega arith) (omega arith) (omega arith) (omega arith) (letter_past 97 (omega arith))

begun_post : IsPost begun
begun_post = short_post begun (omega arith) (omega arith) (omega arith) (omega arith) (omega arith) (omega arith) (omega arith) (letter_past 98 (omega arith))

went_on_post : IsPost went_on
went_on_post = short_post went_on (omega arith) (omega arith) (omega arith) (omega arith) (omega arith) (omega arith) (omega arith) (letter_past 99 (omega arith))

blank_post : (author number stamp : ℕ) → 1 ≤ author → author ≤ 2 → 1 ≤ number → number ≤ 2 → 1 ≤ stamp → stamp ≤ 3 → IsPost (post author number stamp [])
blank_post author number stamp a b c d e f = short_post (post author number stamp []) a b c (omega (arith, d)) e f (omega arith) empty_line

numbered_none : AreNumberedByAuthor []
numbered_none author = refl

pub no_posts : IsJournal []
no_posts = record { each = All-nil IsPost; rise = no_pairs; numbered = numbered_none }

pub one_post : (p : Post) → IsPost p → p.number ≡ 1 → IsJournal (p ∷ [])
one_post p is first = record {
  each = All-cons IsPost p [] is (All-nil IsPost);
  rise = alone p;
  numbered = numbered_push [] p numbered_none first;
}

one_more : (p q : Post) → IsJournal (p ∷ []) → IsPost q → IsPostBefore p q → q.number ≡ length (posts_by q.author (p ∷ [])) + 1 → IsJournal (p ∷ q ∷ [])
one_more p q first is before next = record {
  each = All-cons IsPost p (q ∷ []) (All-contains IsPost (p ∷ []) p first.each (contains_first p [])) (All-cons IsPost q [] is (All-nil IsPost));
  rise = in_order p q before;
  numbered = numbered_push (p ∷ []) q first.numbered next;
}

shared_alone : IsJournal (shared ∷ [])
shared_alone = one_post shared shared_post refl

is_ours : IsJournal ours
is_ours = one_more shared went_on shared_alone went_on_post (inl (omega arith)) refl

is_theirs : IsJournal theirs
is_theirs = one_more shared begun shared_alone begun_post (inl (omega arith)) refl

pub is_together : IsJournal together
is_together = record {
  each = All-cons IsPost shared (begun ∷ went_on ∷ []) shared_post (All-cons IsPost begun (went_on ∷ []) begun_post (All-cons IsPost went_on [] went_on_post (All-nil IsPost)));
  rise = all_in_order shared begun went_on (inl (omega arith)) (inl (omega arith)) (inl (omega arith));
  numbered = numbered_push theirs went_on is_theirs.numbered refl;
}

-- where the first of an author's posts hasn't the number 1
abbrev pub head_or : List ℕ → ℕ
head_or ns = get_or ns 0 0

pub not_in_order : (x y : Post) (rest : List Post) → ¬ IsPostBefore x y → ¬ PostsRise (x ∷ y ∷ rest)
not_in_order x y rest fails rise = fails (first_of_pairs IsPostBefore x (y ∷ rest) rise y (contains_first y rest))

pub worked_journals : WorkedJournals
worked_journals = record {
  none = no_posts;
  first = is_ours;
  second = is_theirs;
  both = is_together;
  without_first = λ h. let one : 2 ≡ 1 = ap head_or (h.numbered 1) in absurd (omega (arith, one));
  numbers_fall = λ h. let one : 2 ≡ 1 = ap head_or (h.numbered 1) in absurd (omega (arith, one));
  stamps_fall = λ h. not_in_order begun shared [] (λ before. falls before) h.rise;
  at_one_stamp = one_more (post 1 1 1 []) (post 2 1 1 []) (one_post (post 1 1 1 []) (blank_post 1 1 1 (omega arith) (omega arith) (omega arith) (omega arith) (omega arith) (omega arith)) refl) (blank_post 2 1 1 (omega arith) (omega arith) (omega arith) (omega arith) (omega arith) (omega arith)) (inr (refl, omega arith)) refl;
  at_one_stamp_turned = λ h. not_in_order (post 2 1 1 []) (post 1 1 1 []) [] turned h.rise;
  twice_at_once = λ h. not_in_order (post 1 1 1 []) (post 1 2 1 []) [] alike h.rise;
  highest = record { author = (omega arith, omega arith); number = (omega arith, omega arith); stamp = (omega arith, omega arith); short = omega arith; one_line = empty_line };
  author_past = λ h. let past = h.author.1 in absurd (omega (arith, past));
  number_past = λ h. let past = h.number.1 in absurd (omega (arith, past));
  stamp_past = λ h. let past = h.stamp.1 in absurd (omega (arith, past));
  no_author_zero = λ h. let none = h.author.0 in absurd (omega (arith, none));
}
  where
    falls : ¬ IsPostBefore begun shared
    falls (inl less) = omega (arith, less)
    falls (inr same) = let stamps = same.0 in omega (arith, stamps)

    turned : ¬ IsPostBefore (post 2 1 1 []) (post 1 1 1 [])
    turned (inl less) = omega (arith, less)
    turned (inr same) = let authors = same.1 in omega (arith, authors)

    alike : ¬ IsPostBefore (post 1 1 1 []) (post 1 2 1 [])
    alike (inl less) = omega (arith, less)
    alike (inr same) = let authors = same.1 in omega (arith, authors)

-- ---- merges

abbrev number_of : Post → ℕ
number_of p = p.number

abbrev author_of : Post → ℕ
author_of p = p.author

abbrev stamp_of : Post → ℕ
stamp_of p = p.stamp

-- posts of different authors, and of different numbers, are no namesakes
by_authors : (p q : Post) (m n : ℕ) → p.author ≡ m → q.author ≡ n → m ≢ n → ¬ AreNamesakes p q
by_authors p q m n is also other same = other (sym is ∙ same.author ∙ also)

by_numbers : (p q : Post) (m n : ℕ) → p.number ≡ m → q.number ≡ n → m ≢ n → ¬ AreNamesakes p q
by_numbers p q m n is also other same = other (sym is ∙ same.number ∙ also)

one_not_two : (m n : ℕ) → m ≡ 1 → n ≡ 2 → m ≢ n
one_not_two m n is also same = omega (arith, is, also, same)

they_agree : NamesakesAgree ours theirs
they_agree p q has has_q same = elim (two_of shared went_on p has) [
  | inl is ↦ elim (two_of shared begun q has_q) [
    | inl also ↦ sym is ∙ also
    | inr also ↦ absurd (by_authors p q 1 2 (sym (ap author_of is)) (sym (ap author_of also)) (λ e. omega (arith, e)) same)
  ]
  | inr is ↦ elim (two_of shared begun q has_q) [
    | inl also ↦ absurd (by_numbers p q 2 1 (sym (ap number_of is)) (sym (ap number_of also)) (λ e. omega (arith, e)) same)
    | inr also ↦ absurd (by_authors p q 1 2 (sym (ap author_of is)) (sym (ap author_of also)) (λ e. omega (arith, e)) same)
  ]
]

of_either : (p : Post) → Contains together p ↔ (Contains ours p ⊎ Contains theirs p)
of_either p = (
  λ has. elim (contains_cases shared (begun ∷ went_on ∷ []) p has) [
    | inl is ↦ inl (subst (Contains ours) is (contains_first shared (went_on ∷ [])))
    | inr later ↦ elim (two_of begun went_on p later) [
      | inl is ↦ inr (subst (Contains theirs) is (second_there shared begun))
      | inr is ↦ inl (subst (Contains ours) is (second_there shared went_on))
    ]
  ],
  λ has. elim has [
    | inl first ↦ elim (two_of shared went_on p first) [
      | inl is ↦ subst (Contains together) is (contains_first shared (begun ∷ went_on ∷ []))
      | inr is ↦ subst (Contains together) is (contains_later shared (begun ∷ went_on ∷ []) went_on (second_there begun went_on))
    ]
    | inr second ↦ elim (two_of shared begun p second) [
      | inl is ↦ subst (Contains together) is (contains_first shared (begun ∷ went_on ∷ []))
      | inr is ↦ subst (Contains together) is (contains_later shared (begun ∷ went_on ∷ []) begun (contains_first begun (went_on ∷ [])))
    ]
  ],
)

turned_about : {P Q : Type 0} → P ⊎ Q → Q ⊎ P
turned_about (inl p) = inr p
turned_about (inr q) = inl q

the_merge : IsMerge ours theirs together
the_merge = record { journal = is_together; posts = of_either }

not_ours : ¬ Contains ours begun
not_ours has = elim (two_of shared went_on begun has) [
  | inl is ↦ let authors : 1 ≡ 2 = ap author_of is in absurd (omega (arith, authors))
  | inr is ↦ let authors : 1 ≡ 2 = ap author_of is in absurd (omega (arith, authors))
]

pub worked_merges : WorkedMerges
worked_merges = record {
  agree = they_agree;
  merge = the_merge;
  turned = record { journal = is_together; posts = λ p. (λ has. turned_about ((of_either p).0 has), λ has. (of_either p).1 (turned_about has)) };
  in_turn = λ m. behind m.journal.rise;
  shared_twice = λ m. not_in_order shared shared (begun ∷ went_on ∷ []) itself m.journal.rise;
  lost = λ m. not_ours ((m.posts begun).1 (inr (second_there shared begun)));
  gained = λ m. elim ((m.posts begun).0 (contains_later shared (begun ∷ went_on ∷ []) begun (contains_first begun (went_on ∷ [])))) [ inl has ↦ not_ours has | inr has ↦ not_ours has ];
  with_none = record { journal = is_ours; posts = λ p. (λ has. inr has, λ has. elim has [ inl none ↦ absurd (contains_none p none) | inr is ↦ is ]) };
  of_itself = record { journal = is_ours; posts = λ p. (λ has. inl has, λ has. elim has [ inl is ↦ is | inr is ↦ is ]) };
}
  where
    itself : ¬ IsPostBefore shared shared
    itself (inl less) = omega (arith, less)
    itself (inr same) = let authors = same.1 in omega (arith, authors)

    earlier : ¬ IsPostBefore went_on begun
    earlier (inl less) = omega (arith, less)
    earlier (inr same) = let stamps = same.0 in omega (arith, stamps)

    later_rise : PostsRise (shared ∷ went_on ∷ begun ∷ []) → IsPostBefore went_on begun
    later_rise rise = first_of_pairs IsPostBefore went_on (begun ∷ []) (later_pairs IsPostBefore shared (went_on ∷ begun ∷ []) rise) begun (contains_first begun [])

    behind : ¬ PostsRise (shared ∷ went_on ∷ begun ∷ [])
    behind rise = earlier (later_rise rise)

-- ---- differences

abbrev text_of : Post → ℕ
text_of p = get_or p.text 0 0

texts_differ : older (codes "a") ≢ older (codes "b")
texts_differ is = let texts : 97 ≡ 98 = ap text_of is in omega (arith, texts)

newer_texts_differ : newer (codes "a") ≢ newer (codes "b")
newer_texts_differ is = let texts : 97 ≡ 98 = ap text_of is in omega (arith, texts)

abbrev differ_newer : DifferAt (both_of (codes "a")) (both_of (codes "b")) 1 1
differ_newer = record {
  one = newer (codes "a");
  other = newer (codes "b");
  in_first = second_there (older (codes "a")) (newer (codes "a"));
  in_second = second_there (older (codes "b")) (newer (codes "b"));
  author_is = refl;
  number_is = refl;
  namesakes = record { author = refl; number = refl };
  differ = newer_texts_differ;
}

-- each difference is of author 2, or of author 1 and number 1
where_differ : (x n : ℕ) → DifferAt (both_of (codes "a")) (both_of (codes "b")) x n → (1 < x) ⊎ ((1 ≡ x) × (1 ≤ n))
where_differ x n d = elim (two_of (older (codes "a")) (newer (codes "a")) d.one d.in_first) [
  | inl is ↦ let author : 2 ≡ x = ap author_of is ∙ d.author_is in inl (omega (arith, author))
  | inr is ↦ let author : 1 ≡ x = ap author_of is ∙ d.author_is in let number : 1 ≡ n = ap number_of is ∙ d.number_is in inr (author, omega (arith, number))
]

first_difference : DifferFirstAt (both_of (codes "a")) (both_of (codes "b")) 1 1
first_difference = record { differ = differ_newer; first = where_differ }

not_second : ¬ DifferFirstAt (both_of (codes "a")) (both_of (codes "b")) 2 1
not_second h = elim (h.first 1 1 differ_newer) [
  | inl less ↦ absurd (omega (arith, less))
  | inr same ↦ let authors : 2 ≡ 1 = same.0 in absurd (omega (arith, authors))
]

they_disagree : ¬ NamesakesAgree (both_of (codes "a")) (both_of (codes "b"))
they_disagree agree = newer_texts_differ (agree (newer (codes "a")) (newer (codes "b")) differ_newer.in_first differ_newer.in_second differ_newer.namesakes)

pub worked_differences : WorkedDifferences
worked_differences = record {
  another_text = λ agree. texts_differ (agree (older (codes "a")) (older (codes "b")) (contains_first (older (codes "a")) []) (contains_first (older (codes "b")) []) (record { author = refl; number = refl }));
  another_stamp = λ agree. stamps (agree (post 1 1 1 []) (post 1 1 2 []) (contains_first (post 1 1 1 []) []) (contains_first (post 1 1 2 []) []) (record { author = refl; number = refl }));
  another_author = λ p q has has_q same. absurd (by_authors p q 1 2 (sym (ap author_of (one_of (post 1 1 1 []) p has))) (sym (ap author_of (one_of (post 2 1 1 []) q has_q))) (λ e. omega (arith, e)) same);
  another_number = numbers;
  first_author = first_difference;
  first_place = not_second;
  told = first_difference;
  not_told = not_second;
  no_merge = λ merged gives. they_disagree gives.0;
  merged = (they_agree, the_merge);
  no_fault = λ author number gives. let d = gives.differ in d.differ (they_agree d.one d.other d.in_first d.in_second d.namesakes);
}
  where
    stamps : post 1 1 1 [] ≢ post 1 1 2 []
    stamps is = let two : 1 ≡ 2 = ap stamp_of is in omega (arith, two)

    numbers : NamesakesAgree (post 1 1 1 [] ∷ []) (post 1 1 1 [] ∷ post 1 2 2 [] ∷ [])
    numbers p q has has_q same = elim (two_of (post 1 1 1 []) (post 1 2 2 []) q has_q) [
      | inl also ↦ sym (one_of (post 1 1 1 []) p has) ∙ also
      | inr also ↦ absurd (by_numbers p q 1 2 (sym (ap number_of (one_of (post 1 1 1 []) p has))) (sym (ap number_of also)) (λ e. omega (arith, e)) same)
    ]
