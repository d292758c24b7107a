-- A line has one form at most.
use Rattle.std.proofs.Common.{◌≡◌, ℕ, ◌≤◌, Bool, true, false, List, [], ◌∷◌, refl, sym, ◌∙◌, ap, ap₂, subst, arith, if◌then◌else◌}
use Rattle.std.specs.Prelude.{codes, bytes_eq}
use Rattle.std.specs.Char.{digit_value}
use Rattle.std.proofs.lemmas.Slice.Eq.{bytes_eq-Decides}
use Rattle.pc_token.specs.declared.token.Kind.TheVariants.{Equal}
use Rattle.pc_formula.specs.Word.{Word, name}
use Rattle.pc_formula.specs.Equation.{equality}
use Rattle.pc_cert.specs.Written.{nothing, heading, claims, begins, uses, assigns, derives, ends, WrittenLine}
use Rattle.pc_cert.specs.Claims.{WrittenPair, WrittenClaim, written_implied, written_inconsistent, written_repairs, written_unimplied, written_against, IsWholePair, IsWordPair, IsClaim, IsDenial, SpellsPair, IsClaimForm}
use Rattle.pc_cert.specs.Texts.{IsNumberText}
use Rattle.pc_cert.specs.Words.{texts_of, SpellsThis}
use Rattle.pc_cert.specs.Line.{IsCertificateForm, IsCertificateLine}
use Rattle.pc_cert.proofs.TestsDiffer.{heads, tails, differ}
use Rattle.pc_cert.proofs.ReadTexts.{IsUnambiguous, pair_once, spelled_once, spelled_apart}
use Rattle.pc_cert.proofs.ReadParts.{derivation_once}
use Rattle.pc_cert.proofs.Signs.{AreClear, no_claim, no_denial, claim_and_word_clear, claim_against_clear, no_denial_words}

-- ---- the first text of a form

data Start : Type 0 where
  by_nothing : Start
  by_certificate : Start
  by_claim : Start
  by_set : Start
  by_use : Start
  by_value : Start
  by_end : Start
  by_number : Start

-- by the tests against the words
abbrev chosen : Bool → Bool → Bool → Bool → Bool → Bool → Start
chosen certificate claim set use_word value end_word =
    if certificate then by_certificate
    else (if claim then by_claim
    else (if set then by_set
    else (if use_word then by_use
    else (if value then by_value
    else (if end_word then by_end else by_number)))))

abbrev start_of_text : List ℕ → Start
start_of_text t = chosen (bytes_eq t (codes "certificate")) (bytes_eq t (codes "claim")) (bytes_eq t (codes "set")) (bytes_eq t (codes "use")) (bytes_eq t (codes "value")) (bytes_eq t (codes "end"))

abbrev start_of_texts : List (List ℕ) → Start
start_of_texts [] = by_nothing
start_of_texts (t ∷ ts) = start_of_text t

abbrev start_of : WrittenLine → Start
start_of nothing = by_nothing
start_of heading = by_certificate
start_of (claims c) = by_claim
start_of begins = by_set
start_of (uses p) = by_use
start_of (assigns p) = by_value
start_of (derives n part) = by_number
start_of ends = by_end

-- ---- a number is none of the words

not_true : (b : Bool) → (b ≡ true → ⊥) → b ≡ false
not_true true never = absurd (never refl)
not_true false never = refl

no_digit : (c : ℕ) (cs : List ℕ) (n : ℕ) → 10 ≤ digit_value c → IsNumberText (c ∷ cs) n → ⊥
no_digit c cs n large is = omega (arith, large, is.digits.1.0)

number_no_word : (text : List ℕ) (n : ℕ) (c : ℕ) (cs : List ℕ) → 10 ≤ digit_value c → IsNumberText text n → bytes_eq text (c ∷ cs) ≡ false
number_no_word text n c cs large is =
    not_true (bytes_eq text (c ∷ cs)) (λ e. no_digit c cs n large (subst (λ t. IsNumberText t n) ((bytes_eq-Decides text (c ∷ cs)).0 e) is))

chosen_none : (a b c d e f : Bool) → a ≡ false → b ≡ false → c ≡ false → d ≡ false → e ≡ false → f ≡ false → chosen a b c d e f ≡ by_number
chosen_none a b c d e f p q r s t u =
    ap (λ x. chosen x b c d e f) p ∙ ap (λ x. chosen false x c d e f) q ∙ ap (λ x. chosen false false x d e f) r ∙ ap (λ x. chosen false false false x e f) s
    ∙ ap (λ x. chosen false false false false x f) t ∙ ap (λ x. chosen false false false false false x) u

number_starts : (text : List ℕ) (n : ℕ) → IsNumberText text n → start_of_text text ≡ by_number
number_starts text n is =
    chosen_none (bytes_eq text (codes "certificate")) (bytes_eq text (codes "claim")) (bytes_eq text (codes "set")) (bytes_eq text (codes "use")) (bytes_eq text (codes "value")) (bytes_eq text (codes "end"))
    (number_no_word text n 99 (codes "ertificate") (omega arith) is)
    (number_no_word text n 99 (codes "laim") (omega arith) is)
    (number_no_word text n 115 (codes "et") (omega arith) is)
    (number_no_word text n 117 (codes "se") (omega arith) is)
    (number_no_word text n 118 (codes "alue") (omega arith) is)
    (number_no_word text n 101 (codes "nd") (omega arith) is)

claim_starts : (line : List ℕ) (texts : List (List ℕ)) (c : WrittenClaim) → IsClaimForm line texts c → start_of_texts texts ≡ by_claim
claim_starts line texts (written_implied p holds) is = ap start_of_texts is.0.is
claim_starts line texts written_inconsistent is = ap start_of_texts is
claim_starts line texts written_repairs is = ap start_of_texts is
claim_starts line texts (written_unimplied p) is = ap start_of_texts is.0.is
claim_starts line texts (written_against n) is = ap start_of_texts is.0

form_starts : (line : List ℕ) (texts : List (List ℕ)) (f : WrittenLine) → IsCertificateForm line texts f → start_of_texts texts ≡ start_of f
form_starts line texts nothing is = ap start_of_texts is
form_starts line texts heading is = ap start_of_texts is.are
form_starts line texts (claims c) is = claim_starts line texts c is
form_starts line texts begins is = ap start_of_texts is
form_starts line texts (uses p) is = ap start_of_texts is.0.is
form_starts line texts (assigns p) is = ap start_of_texts is.0.is
form_starts line texts (derives n part) is = ap start_of_texts is.are ∙ number_starts is.number n is.counts
form_starts line texts ends is = ap start_of_texts is

-- ---- a word, and then a cell, a sign and a value

abbrev claimed : WrittenPair → Bool → WrittenPair × Bool
claimed p holds = (p, holds)

-- ---- claims

-- a claim of words and names alone has no sign in its line
data HasNoSign (line : List ℕ) : Type 0 where
  no_sign : (texts : List (List ℕ)) → texts_of line ≡ texts → AreClear texts → HasNoSign line

target_with : (line : List ℕ) (p : WrittenPair) (g : Bool) → SpellsThis IsClaim line (p, g) → HasNoSign line → ⊥
target_with line p g a (no_sign texts are clear) = no_claim line texts are clear p g a

denial_with : (line : List ℕ) (p : WrittenPair) → SpellsThis IsDenial line p → HasNoSign line → ⊥
denial_with line p a (no_sign texts are clear) = no_denial line texts are clear p a

inconsistent_clear : (line : List ℕ) → IsClaimForm line (texts_of line) written_inconsistent → HasNoSign line
inconsistent_clear line is = no_sign (codes "claim" ∷ codes "inconsistent" ∷ []) is (claim_and_word_clear (codes "inconsistent") refl)

repairs_clear : (line : List ℕ) → IsClaimForm line (texts_of line) written_repairs → HasNoSign line
repairs_clear line is = no_sign (codes "claim" ∷ codes "repairs" ∷ []) is (claim_and_word_clear (codes "repairs") refl)

against_clear : (line : List ℕ) (n : List ℕ) → IsClaimForm line (texts_of line) (written_against n) → HasNoSign line
against_clear line n is = no_sign (codes "claim" ∷ codes "against" ∷ n ∷ []) is.0 (claim_against_clear n is.1)

-- texts that differ in the second one
two_words : (v w : List ℕ) (xs ys : List (List ℕ)) (texts : List (List ℕ)) → bytes_eq v w ≡ false → texts ≡ codes "claim" ∷ v ∷ xs → texts ≡ codes "claim" ∷ w ∷ ys → ⊥
two_words v w xs ys texts other a b = differ v w other (heads v w xs ys (tails (codes "claim") (codes "claim") (v ∷ xs) (w ∷ ys) (sym a ∙ b)))

module _ (laws : IsUnambiguous) where
  word_pair_once : (word : List ℕ) (ws : List Word) (p q : WrittenPair) → IsWordPair word Equal ws p → IsWordPair word Equal ws q → p ≡ q
  word_pair_once word ws p q a b =
      let rest = tails (name word) (name word) a.rest b.rest (sym a.are ∙ b.are) in
      (pair_once laws true true b.rest p q (subst (λ r. IsWholePair Equal r p) rest a.pair) b.pair).1

  claim_once : (ws : List Word) (p q : WrittenPair × Bool) → IsClaim ws p → IsClaim ws q → p ≡ q
  claim_once ws p q a b =
      let rest = tails (name (codes "claim")) (name (codes "claim")) a.rest b.rest (sym a.are ∙ b.are) in
      let both = pair_once laws p.1 q.1 b.rest p.0 q.0 (subst (λ r. IsWholePair (equality p.1) r p.0) rest a.pair) b.pair in
      ap₂ claimed both.1 both.0

  spells_once : (line word : List ℕ) (p q : WrittenPair) → SpellsPair line word p → SpellsPair line word q → p ≡ q
  spells_once line word p q a b = spelled_once laws (IsWordPair word Equal) (word_pair_once word) line p q a b

  -- ---- lines

  target_once : (line : List ℕ) (p q : WrittenPair) (g h : Bool) → SpellsThis IsClaim line (p, g) → SpellsThis IsClaim line (q, h) → written_implied p g ≡ written_implied q h
  target_once line p q g h a b =
      let same = spelled_once laws IsClaim claim_once line (p, g) (q, h) a b in
      ap₂ written_implied (ap (λ r. r.0) same) (ap (λ r. r.1) same)

  denial_once : (ws : List Word) (p q : WrittenPair) → IsDenial ws p → IsDenial ws q → p ≡ q
  denial_once ws p q a b =
      let behind = tails (name (codes "claim")) (name (codes "claim")) (name (codes "not") ∷ a.rest) (name (codes "not") ∷ b.rest) (sym a.are ∙ b.are) in
      let rest = tails (name (codes "not")) (name (codes "not")) a.rest b.rest behind in
      (pair_once laws true true b.rest p q (subst (λ r. IsWholePair Equal r p) rest a.pair) b.pair).1

  apart : (line : List ℕ) (p q : WrittenPair) (g : Bool) → SpellsThis IsClaim line (p, g) → SpellsThis IsDenial line q → ⊥
  apart line p q g a b = spelled_apart laws IsClaim IsDenial no_denial_words line (p, g) q a b

  claim_form_once : (line : List ℕ) (c d : WrittenClaim) → IsClaimForm line (texts_of line) c → IsClaimForm line (texts_of line) d → c ≡ d
  claim_form_once line (written_implied p g) (written_implied q h) a b = target_once line p q g h a.1 b.1
  claim_form_once line (written_implied p g) written_inconsistent a b = absurd (target_with line p g a.1 (inconsistent_clear line b))
  claim_form_once line (written_implied p g) written_repairs a b = absurd (target_with line p g a.1 (repairs_clear line b))
  claim_form_once line (written_implied p g) (written_unimplied q) a b = absurd (apart line p q g a.1 b.1)
  claim_form_once line (written_implied p g) (written_against n) a b = absurd (target_with line p g a.1 (against_clear line n b))
  claim_form_once line written_inconsistent (written_implied q h) a b = absurd (target_with line q h b.1 (inconsistent_clear line a))
  claim_form_once line written_inconsistent written_inconsistent a b = refl
  claim_form_once line written_inconsistent written_repairs a b = absurd (two_words (codes "inconsistent") (codes "repairs") [] [] (texts_of line) refl a b)
  claim_form_once line written_inconsistent (written_unimplied q) a b = absurd (denial_with line q b.1 (inconsistent_clear line a))
  claim_form_once line written_inconsistent (written_against n) a b = absurd (two_words (codes "inconsistent") (codes "against") [] (n ∷ []) (texts_of line) refl a b.0)
  claim_form_once line written_repairs (written_implied q h) a b = absurd (target_with line q h b.1 (repairs_clear line a))
  claim_form_once line written_repairs written_inconsistent a b = absurd (two_words (codes "repairs") (codes "inconsistent") [] [] (texts_of line) refl a b)
  claim_form_once line written_repairs written_repairs a b = refl
  claim_form_once line written_repairs (written_unimplied q) a b = absurd (denial_with line q b.1 (repairs_clear line a))
  claim_form_once line written_repairs (written_against n) a b = absurd (two_words (codes "repairs") (codes "against") [] (n ∷ []) (texts_of line) refl a b.0)
  claim_form_once line (written_unimplied p) (written_implied q h) a b = absurd (apart line q p h b.1 a.1)
  claim_form_once line (written_unimplied p) written_inconsistent a b = absurd (denial_with line p a.1 (inconsistent_clear line b))
  claim_form_once line (written_unimplied p) written_repairs a b = absurd (denial_with line p a.1 (repairs_clear line b))
  claim_form_once line (written_unimplied p) (written_unimplied q) a b = ap written_unimplied (spelled_once laws IsDenial denial_once line p q a.1 b.1)
  claim_form_once line (written_unimplied p) (written_against n) a b = absurd (denial_with line p a.1 (against_clear line n b))
  claim_form_once line (written_against n) (written_implied q h) a b = absurd (target_with line q h b.1 (against_clear line n a))
  claim_form_once line (written_against n) written_inconsistent a b = absurd (two_words (codes "against") (codes "inconsistent") (n ∷ []) [] (texts_of line) refl a.0 b)
  claim_form_once line (written_against n) written_repairs a b = absurd (two_words (codes "against") (codes "repairs") (n ∷ []) [] (texts_of line) refl a.0 b)
  claim_form_once line (written_against n) (written_unimplied q) a b = absurd (denial_with line q b.1 (against_clear line n a))
  claim_form_once line (written_against n) (written_against m) a b =
      let behind = tails (codes "claim") (codes "claim") (codes "against" ∷ n ∷ []) (codes "against" ∷ m ∷ []) (sym a.0 ∙ b.0) in
      ap written_against (heads n m [] [] (tails (codes "against") (codes "against") (n ∷ []) (m ∷ []) behind))

  form_once : (line : List ℕ) (f g : WrittenLine) → start_of f ≡ start_of g → IsCertificateLine line f → IsCertificateLine line g → f ≡ g
  form_once line nothing nothing e a b = refl
  form_once line heading heading e a b = refl
  form_once line (claims c) (claims d) e a b = ap (λ x. claims x) (claim_form_once line c d a b)
  form_once line begins begins e a b = refl
  form_once line (uses p) (uses q) e a b = ap (λ r. uses r) (spells_once line (codes "use") p q a.1 b.1)
  form_once line (assigns p) (assigns q) e a b = ap (λ r. assigns r) (spells_once line (codes "value") p q a.1 b.1)
  form_once line (derives m p) (derives n q) e a b = let same = derivation_once laws (texts_of line) m n p q a b in ap₂ (λ k r. derives k r) same.0 same.1
  form_once line ends ends e a b = refl
  form_once line f g e a b = absurd (cc)

  pub line_once : (line : List ℕ) (f g : WrittenLine) → IsCertificateLine line f → IsCertificateLine line g → f ≡ g
  line_once line f g a b = form_once line f g (sym (form_starts line (texts_of line) f a) ∙ form_starts line (texts_of line) g b) a b
