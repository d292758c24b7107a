-- Texts of journals and their first faults, computed.
use Rattle.std.proofs.Common.{◌≡◌, ◌≢◌, ℕ, ◌+◌, ◌<◌, ◌≤◌, inl, inr, false, List, [], ◌∷◌, ◌++◌, length, get_or, codes, decimal, Contains, arith, ap, refl, sym, ◌∙◌, subst}
use Rattle.std.proofs.lemmas.Fmt.{decimal_digit}
use Rattle.std.proofs.lemmas.List.Elements.{Contains-append_right}
use Rattle.pc_collab.specs.Journal.{Post, IsPost, IsPostBefore, IsJournal, AreNumberedByAuthor}
use Rattle.pc_collab.specs.Text.{post_line, journal_text}
use Rattle.pc_collab.specs.Reading.{IsLineOfPost, IsFirstFaultOfJournal, IsLineAtFault, LineFault, bad_line, gap, out_of_order, first_line}
use Rattle.pc_collab.proofs.Numbered.{numbered_push}
use Rattle.pc_collab.proofs.Readings.{alone, sound, one_fault}
use Rattle.pc_worked_laws.specs.Merges.{post, together}
use Rattle.pc_worked_laws.specs.JournalTexts.{three_lines, gap_and_older, WorkedTexts, WorkedFaults}
use Rattle.pc_worked_laws.proofs.Numbers.{has_number, not_there}
use Rattle.pc_worked_laws.proofs.MergesHold.{head_or, is_together, one_post, short_post, empty_line, letter_past, not_in_order, no_posts}

-- ---- posts

low_post : (author number stamp letter : ℕ) → 1 ≤ author → author ≤ 2 → 1 ≤ number → number ≤ 3 → 1 ≤ stamp → stamp ≤ 3 → 13 < letter → IsPost (post author number stamp (letter ∷ []))
low_post author number stamp letter a b c d e f g = short_post (post author number stamp (letter ∷ [])) a b c d e f (omega arith) (letter_past letter g)

-- author 1's first post, by its stamp
abbrev begun_at : ℕ → Post
begun_at stamp = post 1 1 stamp (codes "a")

begun_post : (stamp : ℕ) → 1 ≤ stamp → stamp ≤ 3 → IsPost (begun_at stamp)
begun_post stamp a b = low_post 1 1 stamp 97 (omega arith) (omega arith) (omega arith) (omega arith) a b (omega arith)

begun_journal : (stamp : ℕ) → 1 ≤ stamp → stamp ≤ 3 → IsJournal (begun_at stamp ∷ [])
begun_journal stamp a b = one_post (begun_at stamp) (begun_post stamp a b) refl

-- ---- lines that are none of a post

feed_there : (p : Post) → Contains (post_line p) 10
feed_there p =
    Contains-append_right (codes "post ") _ 10 (Contains-append_right (decimal p.author) _ 10 (Contains-append_right (codes " ") _ 10 (Contains-append_right (decimal p.number) _ 10
    (Contains-append_right (codes " ") _ 10 (Contains-append_right (decimal p.stamp) _ 10 (Contains-append_right (codes " : ") _ 10 (Contains-append_right p.text (codes "\n") 10 (0, omega arith, refl))))))))

-- what has no line feed
no_feed : (line : List ℕ) → has_number line 10 ≡ false → (p : Post) → ¬ IsLineOfPost line p
no_feed line none p is = not_there line 10 none (subst (λ bytes. Contains bytes 10) (sym is.text) (feed_there p))

-- what begins with another word
other_word : (line : List ℕ) (n : ℕ) → get_or line 1 0 ≡ n → n ≢ 111 → (p : Post) → ¬ IsLineOfPost line p
other_word line n second other p is = other (sym second ∙ ap (λ bytes. get_or bytes 1 0) is.text)

-- ---- texts

-- the line of a post with one digit each, by its bytes
abbrev bytes_of : ℕ → ℕ → ℕ → List ℕ → List ℕ
bytes_of author number stamp text = codes "post " ++ (48 + author) ∷ 32 ∷ (48 + number) ∷ 32 ∷ (48 + stamp) ∷ 32 ∷ 58 ∷ 32 ∷ (text ++ 10 ∷ [])

written : (author number stamp : ℕ) (text : List ℕ) → author < 10 → number < 10 → stamp < 10 → bytes_of author number stamp text ≡ post_line (post author number stamp text)
written author number stamp text a n s =
    let whole : List ℕ → List ℕ → List ℕ → List ℕ = λ x y z. codes "post " ++ (x ++ (codes " " ++ (y ++ (codes " " ++ (z ++ (codes " : " ++ (text ++ codes "\n"))))))) in
    sym (ap (λ x. whole x (decimal number) (decimal stamp)) (decimal_digit author a) ∙ ap (λ y. whole ((48 + author) ∷ []) y (decimal stamp)) (decimal_digit number n)
    ∙ ap (whole ((48 + author) ∷ []) ((48 + number) ∷ [])) (decimal_digit stamp s))

three_written : three_lines ≡ journal_text together
three_written =
    ap (λ l. l ++ (bytes_of 2 1 2 (codes "b") ++ (bytes_of 1 2 3 (codes "c") ++ []))) (written 1 1 1 (codes "a") (omega arith) (omega arith) (omega arith))
    ∙ ap (λ l. post_line (post 1 1 1 (codes "a")) ++ (l ++ (bytes_of 1 2 3 (codes "c") ++ []))) (written 2 1 2 (codes "b") (omega arith) (omega arith) (omega arith))
    ∙ ap (λ l. post_line (post 1 1 1 (codes "a")) ++ (post_line (post 2 1 2 (codes "b")) ++ (l ++ []))) (written 1 2 3 (codes "c") (omega arith) (omega arith) (omega arith))

blank_written : codes "post 1 1 1 : \n" ≡ journal_text (post 1 1 1 [] ∷ [])
blank_written = ap (λ l. l ++ []) (written 1 1 1 [] (omega arith) (omega arith) (omega arith))

one_line : (p : Post) → IsPost p → (line : List ℕ) → line ≡ post_line p → IsLineOfPost line p
one_line p is line text = record { post = is; text = text }

pub worked_texts : WorkedTexts
worked_texts = record {
  nothing = record { journal = no_posts; text = refl };
  three = record { journal = is_together; text = three_written };
  alone = λ posts is. alone three_lines posts together is (record { journal = is_together; text = three_written });
  no_fault = λ line fault. sound three_lines together line fault (record { journal = is_together; text = three_written });
  blank = record { journal = one_post (post 1 1 1 []) (short_post (post 1 1 1 []) (omega arith) (omega arith) (omega arith) (omega arith) (omega arith) (omega arith) (omega arith) empty_line) refl; text = blank_written };
}

-- ---- faults

abbrev numbers_or : List ℕ → ℕ
numbers_or ns = get_or ns 1 0

-- a line behind the first post, at fault
behind : (stamp : ℕ) → 1 ≤ stamp → stamp ≤ 3 → (rest bytes : List ℕ) (fault : LineFault) → 0 < length rest → bytes ≡ (bytes_of 1 1 stamp (codes "a") ++ []) ++ rest
    → IsLineAtFault fault (begun_at stamp ∷ []) (first_line rest) → IsFirstFaultOfJournal bytes 2 fault
behind stamp a b rest bytes fault more text at = record {
  posts = begun_at stamp ∷ [];
  journal = begun_journal stamp a b;
  rest = rest;
  more = more;
  text = text ∙ ap (λ l. (l ++ []) ++ rest) (written 1 1 stamp (codes "a") (omega arith) (omega arith) (omega (arith, b)));
  line_is = refl;
  at_fault = at;
}

first : (bytes : List ℕ) (fault : LineFault) → 0 < length bytes → IsLineAtFault fault [] (first_line bytes) → IsFirstFaultOfJournal bytes 1 fault
first bytes fault more at = record { posts = []; journal = no_posts; rest = bytes; more = more; text = refl; line_is = refl; at_fault = at }

-- the next number isn't 2
gap_behind : (stamp number next : ℕ) → number ≢ 2 → ¬ AreNumberedByAuthor (begun_at stamp ∷ post 1 number next (codes "b") ∷ [])
gap_behind stamp number next other are = let second : number ≡ 2 = ap numbers_or (are 1) in other second

gap_line : (stamp number next : ℕ) → 1 ≤ number → number ≤ 3 → 1 ≤ next → next ≤ 3 → number ≢ 2 → IsLineAtFault gap (begun_at stamp ∷ []) (bytes_of 1 number next (codes "b"))
gap_line stamp number next a b c d other = record {
  post = post 1 number next (codes "b");
  is = one_line (post 1 number next (codes "b")) (low_post 1 number next 98 (omega arith) (omega arith) a b c d (omega arith)) (bytes_of 1 number next (codes "b")) (written 1 number next (codes "b") (omega arith) (omega (arith, b)) (omega (arith, d)));
  gap = gap_behind stamp number next other;
}

late : ¬ AreNumberedByAuthor (post 1 2 1 (codes "a") ∷ [])
late are = let one : 2 ≡ 1 = ap head_or (are 1) in omega (arith, one)

falls : ¬ IsPostBefore (begun_at 2) (post 2 1 1 (codes "b"))
falls (inl less) = omega (arith, less)
falls (inr same) = let stamps = same.0 in omega (arith, stamps)

alike : ¬ IsPostBefore (begun_at 1) (post 1 2 1 (codes "b"))
alike (inl less) = omega (arith, less)
alike (inr same) = let authors = same.1 in omega (arith, authors)

older_line : IsLineAtFault out_of_order (begun_at 2 ∷ []) (codes "post 2 1 1 : b\n")
older_line = record {
  post = post 2 1 1 (codes "b");
  is = one_line (post 2 1 1 (codes "b")) (low_post 2 1 1 98 (omega arith) (omega arith) (omega arith) (omega arith) (omega arith) (omega arith) (omega arith)) (codes "post 2 1 1 : b\n") (written 2 1 1 (codes "b") (omega arith) (omega arith) (omega arith));
  numbered = numbered_push (begun_at 2 ∷ []) (post 2 1 1 (codes "b")) (begun_journal 2 (omega arith) (omega arith)).numbered refl;
  falls = not_in_order (begun_at 2) (post 2 1 1 (codes "b")) [] falls;
}

as_old_line : IsLineAtFault out_of_order (begun_at 1 ∷ []) (codes "post 1 2 1 : b\n")
as_old_line = record {
  post = post 1 2 1 (codes "b");
  is = one_line (post 1 2 1 (codes "b")) (low_post 1 2 1 98 (omega arith) (omega arith) (omega arith) (omega arith) (omega arith) (omega arith) (omega arith)) (codes "post 1 2 1 : b\n") (written 1 2 1 (codes "b") (omega arith) (omega arith) (omega arith));
  numbered = numbered_push (begun_at 1 ∷ []) (post 1 2 1 (codes "b")) (begun_journal 1 (omega arith) (omega arith)).numbered refl;
  falls = not_in_order (begun_at 1) (post 1 2 1 (codes "b")) [] alike;
}

gap_first : IsFirstFaultOfJournal gap_and_older 2 gap
gap_first = behind 2 (omega arith) (omega arith) (codes "post 1 3 1 : b\n") gap_and_older gap (omega arith) refl (gap_line 2 3 1 (omega arith) (omega arith) (omega arith) (omega arith) (λ is. omega (arith, is)))

not_order : ¬ IsFirstFaultOfJournal gap_and_older 2 out_of_order
not_order h = other (one_fault gap_and_older 2 2 gap out_of_order gap_first h).1
  where
    other : gap ≡ out_of_order → ⊥
    other is = cc

pub worked_faults : WorkedFaults
worked_faults = record {
  unended = first (codes "post 1 1 1 : a") bad_line (omega arith) (no_feed (codes "post 1 1 1 : a") refl);
  unended_later = behind 1 (omega arith) (omega arith) (codes "post 2 1 2 : b") (codes "post 1 1 1 : a\npost 2 1 2 : b") bad_line (omega arith) refl (no_feed (codes "post 2 1 2 : b") refl);
  first_of_two = first (codes "past 1 1 1 : a\npost 1 3 2 : b\n") bad_line (omega arith) (other_word (codes "past 1 1 1 : a\n") 97 refl (λ is. omega (arith, is)));
  begins_late = first (codes "post 1 2 1 : a\n") gap (omega arith) (record {
    post = post 1 2 1 (codes "a");
    is = one_line (post 1 2 1 (codes "a")) (low_post 1 2 1 97 (omega arith) (omega arith) (omega arith) (omega arith) (omega arith) (omega arith) (omega arith)) (codes "post 1 2 1 : a\n") (written 1 2 1 (codes "a") (omega arith) (omega arith) (omega arith));
    gap = late;
  });
  leaves_out = behind 1 (omega arith) (omega arith) (codes "post 1 3 2 : b\n") (codes "post 1 1 1 : a\npost 1 3 2 : b\n") gap (omega arith) refl (gap_line 1 3 2 (omega arith) (omega arith) (omega arith) (omega arith) (λ is. omega (arith, is)));
  again = behind 1 (omega arith) (omega arith) (codes "post 1 1 2 : b\n") (codes "post 1 1 1 : a\npost 1 1 2 : b\n") gap (omega arith) refl (gap_line 1 1 2 (omega arith) (omega arith) (omega arith) (omega arith) (λ is. omega (arith, is)));
  older = behind 2 (omega arith) (omega arith) (codes "post 2 1 1 : b\n") (codes "post 1 1 2 : a\npost 2 1 1 : b\n") out_of_order (omega arith) refl older_line;
  as_old = behind 1 (omega arith) (omega arith) (codes "post 1 2 1 : b\n") (codes "post 1 1 1 : a\npost 1 2 1 : b\n") out_of_order (omega arith) refl as_old_line;
  gap_first = gap_first;
  not_order = not_order;
  told = gap_first;
  not_told = not_order;
  no_journal = λ posts is. sound gap_and_older posts 2 gap is gap_first;
}
