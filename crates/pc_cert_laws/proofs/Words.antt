-- A line is cut at its blanks.
use Rattle.std.proofs.Common.{◌≡◌, ℕ, ◌<◌, true, List, [], ◌∷◌, ◌++◌, length, map, arith, refl, ◌∙◌, ap, cond}
use Rattle.std.proofs.lemmas.Bool.Decides.{nat_tests}
use Rattle.std.proofs.lemmas.List.{append_assoc, append-nil}
use Rattle.std.proofs.lemmas.List.Splits.{slice_split_none, slice_split_at}
use Rattle.std.specs.Prelude.{nat_lt, filter}
use Rattle.std.specs.List.{slice_split, flat_map, AllByRecursion}
use Rattle.pc_token.specs.Token.{is_blank}
use Rattle.pc_cert.specs.Words.{texts_of}
use Rattle.pc_cert_text.specs.CertificateText.{behind_blank}
use Rattle.pc_canonical_laws.proofs.Unbroken.{is_line_end}
use Rattle.pc_cert_laws.proofs.Marks.{IsFree, IsWordText, free_each, free_join}

is_some : (n : ℕ) → 0 < n → nat_lt 0 n ≡ true
is_some n some = grind (arith, nat_tests)

kept : (word : List ℕ) (others : List (List ℕ)) → 0 < length word → filter (λ text. nat_lt 0 (length text)) (word ∷ others) ≡ word ∷ filter (λ text. nat_lt 0 (length text)) others
kept word others some = ap (λ b. cond b (word ∷ filter (λ text. nat_lt 0 (length text)) others) (filter (λ text. nat_lt 0 (length text)) others)) (is_some (length word) some)

-- a word before a blank
pub texts_more : (word rest : List ℕ) → IsWordText word → texts_of (word ++ 32 ∷ rest) ≡ word ∷ texts_of rest
texts_more word rest is =
    ap (filter (λ text. nat_lt 0 (length text))) (slice_split_at is_blank word 32 rest (free_each is_blank word is.solid) refl) ∙ kept word (slice_split is_blank rest) is.some

-- the last word
pub texts_last : (word : List ℕ) → IsWordText word → texts_of word ≡ word ∷ []
texts_last word is = ap (filter (λ text. nat_lt 0 (length text))) (slice_split_none is_blank word (free_each is_blank word is.solid)) ∙ kept word [] is.some

module _ {A : Type 0} (f : A → List ℕ) where
  -- each element's text is a word
  abbrev pub AreWordTexts : List A → Type 0
  AreWordTexts xs = AllByRecursion (λ x. IsWordText (f x)) xs

  -- further words, each behind a blank, up to the line's end
  pub texts_behind : (xs : List A) (word : List ℕ) → IsWordText word → AreWordTexts xs → texts_of (word ++ flat_map (λ x. behind_blank (f x)) xs) ≡ word ∷ map f xs
  texts_behind [] word is each = ap texts_of (append-nil word) ∙ texts_last word is
  texts_behind (x ∷ xs) word is each = texts_more word (f x ++ flat_map (λ y. behind_blank (f y)) xs) is ∙ ap (λ ts. word ∷ ts) (texts_behind xs (f x) each.0 each.1)

  -- up to a further blank
  pub texts_between : (xs : List A) (word more : List ℕ) → IsWordText word → AreWordTexts xs → texts_of (word ++ (flat_map (λ x. behind_blank (f x)) xs ++ 32 ∷ more)) ≡ word ∷ (map f xs ++ texts_of more)
  texts_between [] word more is each = texts_more word more is
  texts_between (x ∷ xs) word more is each =
      let others = flat_map (λ y. behind_blank (f y)) xs in
      ap (λ t. texts_of (word ++ 32 ∷ t)) (append_assoc (f x) others (32 ∷ more))
      ∙ texts_more word (f x ++ (others ++ 32 ∷ more)) is
      ∙ ap (λ ts. word ∷ ts) (texts_between xs (f x) more each.0 each.1)

  -- no line end among them
  pub whole_behind : (xs : List A) → AreWordTexts xs → IsFree is_line_end (flat_map (λ x. behind_blank (f x)) xs)
  whole_behind [] each = refl
  whole_behind (x ∷ xs) each = free_join is_line_end (f x) (flat_map (λ y. behind_blank (f y)) xs) each.0.whole (whole_behind xs each.1)
