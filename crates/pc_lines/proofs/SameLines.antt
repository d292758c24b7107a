-- The texts of the lines of some bytes are the lines between their line feeds.
use Rattle.std.proofs.Common.{◌≡◌, ◌≢◌, ◌==◌, ℕ, ◌<◌, Bool, true, false, if◌then◌else◌, List, [], ◌∷◌, ◌++◌, length, map, refl, sym, ◌∙◌, ap, ap₂, subst, arith, inl, inr}
use Rattle.std.specs.List.{slice_split, onto_first, AllByRecursion}
use Rattle.std.specs.Str.Lines.{lines, lines_of_parts, strip_carriage_return}
use Rattle.std.proofs.lemmas.Bool.{ne_eqb, cases_eq}
use Rattle.std.proofs.lemmas.List.{append-nil}
use Rattle.std.proofs.lemmas.List.Elements.{All-cons, All-nil}
use Rattle.std.proofs.lemmas.List.Splits.{length-slice_split, slice_split-cons_no}
use Rattle.pc_lines.specs.Lines.{lines_of, line_text_of, HasNoEnd}
use Rattle.pc_lines.proofs.Ends.{text_of-open, text_of-feed}
use Rattle.pc_lines.proofs.TextLines.{is_feed}

-- ---- lines with their ends, from the parts between line feeds

abbrev ended : List (List ℕ) → List (List ℕ)
ended [] = []
ended (x ∷ []) = if length x == 0 then [] else x ∷ []
ended (x ∷ y ∷ more) = (x ++ 10 ∷ []) ∷ ended (y ∷ more)

last_ended : (b : ℕ) (x : List ℕ) → ended ((b ∷ x) ∷ []) ≡ (b ∷ x) ∷ []
last_ended b x = let some : (length (b ∷ x) == 0) ≡ false = ne_eqb (length (b ∷ x)) 0 (λ z. omega (arith, z)) in ap (λ (t : Bool). if t then [] else (b ∷ x) ∷ []) some

more_ended : (x : List ℕ) (parts : List (List ℕ)) → 0 < length parts → ended (x ∷ parts) ≡ (x ++ 10 ∷ []) ∷ ended parts
more_ended x [] some = absurd (omega (arith, some))
more_ended x (y ∷ more) some = refl

front_ended : (b : ℕ) (parts : List (List ℕ)) → ended (onto_first b parts) ≡ onto_first b (ended parts)
front_ended b [] = last_ended b []
front_ended b ([] ∷ []) = last_ended b []
front_ended b ((c ∷ x) ∷ []) = last_ended b (c ∷ x) ∙ ap (onto_first b) (sym (last_ended c x))
front_ended b (x ∷ y ∷ more) = refl

some_parts : (bs : List ℕ) → 0 < length (slice_split is_feed bs)
some_parts bs = omega (arith, length-slice_split is_feed bs)

feed_first : (b : ℕ) (bs : List ℕ) → b ≡ 10 → lines_of bs ≡ ended (slice_split is_feed bs) → lines_of (b ∷ bs) ≡ ended (slice_split is_feed (b ∷ bs))
feed_first b bs is rest =
    subst (λ (c : ℕ). lines_of (c ∷ bs) ≡ ended (slice_split is_feed (c ∷ bs))) (sym is)
    (ap (λ (ls : List (List ℕ)). (10 ∷ []) ∷ ls) rest ∙ sym (more_ended [] (slice_split is_feed bs) (some_parts bs)))

other_first : (b : ℕ) (bs : List ℕ) → b ≢ 10 → lines_of bs ≡ ended (slice_split is_feed bs) → lines_of (b ∷ bs) ≡ ended (slice_split is_feed (b ∷ bs))
other_first b bs ne rest =
    let other : is_feed b ≡ false = ne_eqb b 10 ne in
    ap (λ (t : Bool). if t then (b ∷ []) ∷ lines_of bs else onto_first b (lines_of bs)) other
    ∙ ap (onto_first b) rest
    ∙ sym (ap ended (slice_split-cons_no is_feed b bs other) ∙ front_ended b (slice_split is_feed bs))

lines_ended : (bs : List ℕ) → lines_of bs ≡ ended (slice_split is_feed bs)
lines_ended [] = refl
lines_ended (b ∷ bs) = elim (cases_eq b 10) [
  | inl is ↦ feed_first b bs is (lines_ended bs)
  | inr ne ↦ other_first b bs ne (lines_ended bs)
]

-- ---- no part has a line feed

AreOpen : List (List ℕ) → Type 0
AreOpen parts = AllByRecursion HasNoEnd parts

front_open : (b : ℕ) (parts : List (List ℕ)) → b ≢ 10 → AreOpen parts → AreOpen (onto_first b parts)
unfolding AreOpen
front_open b [] ne open_parts = (All-cons (λ c. c ≢ 10) b [] ne (All-nil (λ c. c ≢ 10)), tt)
front_open b (x ∷ parts) ne open_parts = (All-cons (λ c. c ≢ 10) b x ne open_parts.0, open_parts.1)

parts_open : (bs : List ℕ) → AreOpen (slice_split is_feed bs)
unfolding AreOpen
parts_open [] = (All-nil (λ c. c ≢ 10), tt)
parts_open (b ∷ bs) = elim (cases_eq b 10) [
  | inl is ↦ subst (λ (c : ℕ). AreOpen (slice_split is_feed (c ∷ bs))) (sym is) (All-nil (λ c. c ≢ 10), parts_open bs)
  | inr ne ↦ subst AreOpen (sym (slice_split-cons_no is_feed b bs (ne_eqb b 10 ne))) (front_open b (slice_split is_feed bs) ne (parts_open bs))
]

-- ---- their texts

text_ended : (x : List ℕ) → HasNoEnd x → line_text_of (x ++ 10 ∷ []) ≡ strip_carriage_return x
text_ended x none = ap line_text_of (sym (append-nil (x ++ 10 ∷ []))) ∙ text_of-feed x [] none

texts : (parts : List (List ℕ)) → AreOpen parts → map line_text_of (ended parts) ≡ lines_of_parts parts
unfolding AreOpen
texts [] none = refl
texts (x ∷ []) none = go (length x == 0)
  where
    go : (t : Bool) → map line_text_of (if t then [] else x ∷ []) ≡ (if t then [] else x ∷ [])
    go true = refl
    go false = ap (λ (l : List ℕ). l ∷ []) (text_of-open x none.0)
texts (x ∷ y ∷ more) none = ap₂ (λ (l : List ℕ) (ls : List (List ℕ)). l ∷ ls) (text_ended x none.0) (texts (y ∷ more) none.1)

pub same_lines : (text : List ℕ) → map line_text_of (lines_of text) ≡ lines text
same_lines text = ap (map line_text_of) (lines_ended text) ∙ texts (slice_split is_feed text) (parts_open text)
