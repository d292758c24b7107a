-- A parenthesis, a comma or a space parts a text: its columns are those of what stands before it and behind it, and one more.
use Rattle.std.proofs.Common.{◌≡◌, ◌⊎◌, inl, inr, ℕ, zero, suc, ◌+◌, Bool, true, false, List, [], ◌∷◌, ◌++◌, length, replicate, refl, sym, ap, ◌∙◌, subst, arith, append-nil}
use Rattle.std.specs.Int.{is_in_range}
use Rattle.std.specs.List.{list_all}
use Rattle.std.specs.Str.{IsUtf8, chars}
use Rattle.std.proofs.lemmas.List.{length-replicate}
use Rattle.std.proofs.lemmas.Str.{chars-append}
use Rattle.unicode_width.specs.Width.{plain, Reading, step, read_before, str_width}
use Rattle.unicode_width.specs.declared.state.State.{State}
use Rattle.unicode_width.specs.declared.state.After.{After}
use Rattle.unicode_width.proofs.Computing.{unicode_width}
use Rattle.unicode_width.proofs.Rules.{is_simple, str_width-append_simple, str_width-printable}
use Rattle.unicode_width.proofs.WidthLemmas.{read_before-printable}
use Rattle.pc_display.specs.Grid.{columns}

abbrev pub IsSign : ℕ → Type 0
IsSign c = (c ≡ 40) ⊎ ((c ≡ 41) ⊎ ((c ≡ 44) ⊎ (c ≡ 32)))

-- ---- characters

-- what stands behind the character has no part in the width of what stands before it
abbrev Parts : ℕ → Type 0
Parts c = (width : ℕ) (state : State) → step false c (width, state) ≡ (width + 1, plain)

module _ (c : ℕ) (width : ℕ) (after : After) (text quote : Bool) where
  parts_by : (emoji : Bool) → (emoji ≡ true → step false c (width, record { after = after; emoji = true; text = text; quote = quote }) ≡ (width + 1, plain)) → (emoji ≡ false → step false c (width, record { after = after; emoji = false; text = text; quote = quote }) ≡ (width + 1, plain)) → step false c (width, record { after = after; emoji = emoji; text = text; quote = quote }) ≡ (width + 1, plain)
  parts_by true one other = one refl
  parts_by false one other = other refl

open_parts : Parts 40
unfolding unicode_width
open_parts width s = parts_by 40 width s.after s.text s.quote s.emoji (λ is. refl) (λ is. refl)

close_parts : Parts 41
unfolding unicode_width
close_parts width s = parts_by 41 width s.after s.text s.quote s.emoji (λ is. refl) (λ is. refl)

comma_parts : Parts 44
unfolding unicode_width
comma_parts width s = parts_by 44 width s.after s.text s.quote s.emoji (λ is. refl) (λ is. refl)

space_parts : Parts 32
unfolding unicode_width
space_parts width s = parts_by 32 width s.after s.text s.quote s.emoji (λ is. refl) (λ is. refl)

read_before-append : (xs ys : List ℕ) (r : Reading) → read_before false (xs ++ ys) r ≡ read_before false xs (read_before false ys r)
read_before-append [] ys r = refl
read_before-append (x ∷ xs) ys r = ap (step false x) (read_before-append xs ys r)

-- so many letters
letters_simple : (n : ℕ) → list_all is_simple (replicate n 97) ≡ true
letters_simple zero = refl
letters_simple (suc n) = letters_simple n

letters_printable : (n : ℕ) → list_all (is_in_range 0x20 0x7E) (replicate n 97) ≡ true
letters_printable zero = refl
letters_printable (suc n) = letters_printable n

letters_read : (n : ℕ) → read_before false (replicate n 97) (0, plain) ≡ (n, plain)
letters_read n =
    let many : 0 + length (replicate n 97) ≡ n = omega (arith, length-replicate {A = ℕ} n 97) in
    ap (λ cs. read_before false cs (0, plain)) (sym (append-nil (replicate n 97)))
    ∙ sym (read_before-printable false (replicate n 97) [] 0 (letters_printable n) refl)
    ∙ ap (λ k. (k, plain)) many

-- what is read before a text that leaves so many columns and no state adds its width to them
read_on : (xs : List ℕ) (n : ℕ) → (read_before false xs (n, plain)).0 ≡ str_width false xs + n
unfolding str_width
read_on xs n =
    ap (λ r. (read_before false xs r).0) (sym (letters_read n))
    ∙ ap (λ r. r.0) (sym (read_before-append xs (replicate n 97) (0, plain)))
    ∙ str_width-append_simple false xs (replicate n 97) (letters_simple n)
    ∙ ap (λ k. str_width false xs + k) (str_width-printable false (replicate n 97) (letters_printable n) ∙ length-replicate n 97)

width_at : (c : ℕ) → Parts c → (xs ys : List ℕ) → str_width false (xs ++ c ∷ ys) ≡ str_width false xs + (1 + str_width false ys)
unfolding str_width
width_at c parts xs ys =
    let r = read_before false ys (0, plain) in
    let more : r.0 + 1 ≡ 1 + r.0 = omega arith in
    ap (λ q. q.0) (read_before-append xs (c ∷ ys) (0, plain))
    ∙ ap (λ q. (read_before false xs q).0) (parts r.0 r.1)
    ∙ read_on xs (r.0 + 1)
    ∙ ap (λ k. str_width false xs + k) more

-- ---- texts

sign_parts : (c : ℕ) → IsSign c → Parts c
sign_parts c (inl is) = subst Parts (sym is) open_parts
sign_parts c (inr (inl is)) = subst Parts (sym is) close_parts
sign_parts c (inr (inr (inl is))) = subst Parts (sym is) comma_parts
sign_parts c (inr (inr (inr is))) = subst Parts (sym is) space_parts

open_chars : (ys : List ℕ) → chars (40 ∷ ys) ≡ 40 ∷ chars ys
unfolding chars
open_chars [] = refl
open_chars (y ∷ ys) = refl

close_chars : (ys : List ℕ) → chars (41 ∷ ys) ≡ 41 ∷ chars ys
unfolding chars
close_chars [] = refl
close_chars (y ∷ ys) = refl

comma_chars : (ys : List ℕ) → chars (44 ∷ ys) ≡ 44 ∷ chars ys
unfolding chars
comma_chars [] = refl
comma_chars (y ∷ ys) = refl

space_chars : (ys : List ℕ) → chars (32 ∷ ys) ≡ 32 ∷ chars ys
unfolding chars
space_chars [] = refl
space_chars (y ∷ ys) = refl

abbrev StandsAlone : List ℕ → ℕ → Type 0
StandsAlone ys c = chars (c ∷ ys) ≡ c ∷ chars ys

sign_chars : (c : ℕ) (ys : List ℕ) → IsSign c → StandsAlone ys c
sign_chars c ys (inl is) = subst (StandsAlone ys) (sym is) (open_chars ys)
sign_chars c ys (inr (inl is)) = subst (StandsAlone ys) (sym is) (close_chars ys)
sign_chars c ys (inr (inr (inl is))) = subst (StandsAlone ys) (sym is) (comma_chars ys)
sign_chars c ys (inr (inr (inr is))) = subst (StandsAlone ys) (sym is) (space_chars ys)

-- at an opening or closing parenthesis, a comma or a space
pub columns_at : (c : ℕ) (xs ys : List ℕ) → IsSign c → IsUtf8 xs → columns (xs ++ c ∷ ys) ≡ columns xs + (1 + columns ys)
columns_at c xs ys is utf8 =
    ap (str_width false) (chars-append xs (c ∷ ys) utf8 ∙ ap (λ cs. chars xs ++ cs) (sign_chars c ys is))
    ∙ width_at c (sign_parts c is) (chars xs) (chars ys)
