-- What stands at a place, and a line that is read from left to right.
use Rattle.std.proofs.Common.{◌≡◌, ℕ, zero, suc, ◌+◌, ◌-◌, ◌<◌, ◌≤◌, Bool, true, false, ◌&&◌, List, [], ◌∷◌, ◌++◌, length, get_or, drop, arith, refl, ◌∙◌, ap, subst, ⊎_elim}
use Rattle.std.proofs.lemmas.Bool.Decides.{nat_tests}
use Rattle.std.proofs.lemmas.List.{append_assoc, get_or_past}
use Rattle.std.proofs.lemmas.Str.{IsCharBoundary-after_ascii, IsCharBoundary-start}
use Rattle.std.proofs.str.Laws.{order}
use Rattle.std.specs.Prelude.{encode_utf8, nat_lt}
use Rattle.std.specs.Char.{is_ascii_digit}
use Rattle.std.specs.List.{list_all, AllByRecursion}
use Rattle.std.specs.Str.{encode_utf8_all, IsUtf8, IsCharBoundary}
use Rattle.pc_token.specs.declared.token.Kind.{Kind}
use Rattle.pc_token.specs.declared.token.Kind.TheVariants.{Name, Number}
use Rattle.pc_token.specs.declared.token.Token.{Token}
use Rattle.pc_token.specs.Token.{is_blank, AreBlank, sign_text, HasTextAt, IsSignAt, StartsNoSign, StartsNoName, IsDigitRun, IsOfKind, IsTokenOf, ReadsTokens}
use Rattle.pc_token.proofs.Names.{slice_split}

-- a byte that isn't 0 stands within the line
within_line : (line : List ℕ) (at : ℕ) → 0 < get_or line at 0 → at < length line
within_line line at here = grind (arith, get_or_past)

-- where an ASCII byte ends
record EndsAt (line : List ℕ) (end : ℕ) : Type 0 where
  within : end ≤ length line
  boundary : IsCharBoundary line end

after_ascii : (line : List ℕ) (at : ℕ) → IsUtf8 line → 0 < get_or line at 0 → get_or line at 0 < 128 → EndsAt line (at + 1)
after_ascii line at utf8 here ascii =
    let within = within_line line at here in
    record { within = omega (arith, within); boundary = IsCharBoundary-after_ascii line at utf8 within ascii }

is_ascii_text : List ℕ → Bool
is_ascii_text text = list_all (λ b. nat_lt 0 b && nat_lt b 128) text

-- a text of ASCII ends where it ends
after_text : (line : List ℕ) (at : ℕ) (text : List ℕ) → IsUtf8 line → 0 < length text → is_ascii_text text ≡ true → HasTextAt line at text → EndsAt line (at + length text)
unfolding is_ascii_text
after_text line at [] utf8 nonempty ascii stands = absurd (omega arith)
after_text line at (x ∷ []) utf8 nonempty ascii stands = after_ascii line at utf8 (grind (arith, nat_tests)) (grind (arith, nat_tests))
after_text line at (x ∷ y ∷ text) utf8 nonempty ascii stands =
    let rest : is_ascii_text (y ∷ text) ≡ true = grind (arith, nat_tests) in
    let there : (at + 1) + length (y ∷ text) ≡ at + length (x ∷ y ∷ text) = omega arith in
    subst (EndsAt line) there (after_text line (at + 1) (y ∷ text) utf8 (omega arith) rest stands.1)

sign_is_ascii : (k : Kind) → is_ascii_text (sign_text k) ≡ true
unfolding is_ascii_text
sign_is_ascii Name = refl
sign_is_ascii k = refl

module _ (line : List ℕ) where
  -- the kind of a sign is a sign
  of_sign : (k : Kind) (at end : ℕ) → IsSignAt line at k → end ≡ at + length (sign_text k) → IsOfKind k line at end
  of_sign Name at end sign is = absurd (omega (arith, sign.sign))
  of_sign Number at end sign is = absurd (omega (arith, sign.sign))
  of_sign k at end sign is = (sign, is)

module _ (line : List ℕ) (at : ℕ) (utf8 : IsUtf8 line) (here : IsCharBoundary line at) where
  -- a blank is one byte
  pub after_blank : is_blank (get_or line at 0) ≡ true → IsCharBoundary line (at + 1)
  after_blank blank = (after_ascii line at utf8 (grind (arith, nat_tests)) (grind (arith, nat_tests))).boundary

  -- the digits are a number
  pub is_number : (end : ℕ) → IsDigitRun line at end → at < end → end ≤ at + 18 → end ≤ length line → IsTokenOf line (record { kind = Number; start = at; end = end })
  is_number end run after short within =
      let last : is_ascii_digit (get_or line (end - 1) 0) ≡ true = run.digits (end - 1) (omega arith) (omega arith) in
      let there : (end - 1) + 1 ≡ end = omega arith in
      record {
        nonempty = after;
        within = within;
        start_boundary = here;
        end_boundary = subst (IsCharBoundary line) there (after_ascii line (end - 1) utf8 (grind (arith, nat_tests)) (grind (arith, nat_tests))).boundary;
        kind = (run, short);
      }

  -- the longest sign is a token
  pub is_sign : (k : Kind) → IsSignAt line at k → IsTokenOf line (record { kind = k; start = at; end = at + length (sign_text k) })
  is_sign k sign =
      let ends = after_text line at (sign_text k) utf8 sign.sign (sign_is_ascii k) sign.stands in
      record {
        nonempty = omega (arith, sign.sign);
        within = ends.within;
        start_boundary = here;
        end_boundary = ends.boundary;
        kind = of_sign line k at (at + length (sign_text k)) sign refl;
      }

-- no token starts where no digit, sign or name does
no_token_of : (line : List ℕ) (at end : ℕ) (k : Kind) → is_ascii_digit (get_or line at 0) ≡ false → StartsNoSign line at → StartsNoName line at → at < end → IsOfKind k line at end → ⊥
no_token_of line at end Name no_digit no_sign no_name after is =
    let name = is.name in
    let starts = no_name name.0 (encode_utf8_all name.1 ++ drop end line) (slice_split line at end (omega arith) ∙ ap (λ l. l ++ drop end line) name.2 ∙ append_assoc (encode_utf8 name.0) (encode_utf8_all name.1) (drop end line)) in
    let starts_too = name.3 in
    cc
no_token_of line at end Number no_digit no_sign no_name after is =
    let digit = is.0.digits at (omega arith) after in
    cc
no_token_of line at end k no_digit no_sign no_name after is = no_sign k is.0.sign is.0.stands

pub no_token : (line : List ℕ) (at : ℕ) → is_ascii_digit (get_or line at 0) ≡ false → StartsNoSign line at → StartsNoName line at → (t : Token) → t.start ≡ at → IsTokenOf line t → ⊥
no_token line at no_digit no_sign no_name t there is =
    no_token_of line at t.end t.kind no_digit no_sign no_name (omega (arith, is.nonempty)) (subst (λ n. IsOfKind t.kind line n t.end) there is.kind)

blank_more : (line : List ℕ) (from to : ℕ) → AreBlank line from to → is_blank (get_or line to 0) ≡ true → AreBlank line from (to + 1)
blank_more line from to blanks blank i after before =
    ⊎_elim (λ earlier. blanks i after earlier) (λ last. let there : i ≡ to = omega arith in ap (λ k. is_blank (get_or line k 0)) there ∙ blank) (order i to)

-- the blank at the end joins what is read
pub ReadsTokens-blank : (line : List ℕ) (from : ℕ) (ts : List Token) (to : ℕ) → ReadsTokens line from ts to → is_blank (get_or line to 0) ≡ true → ReadsTokens line from ts (to + 1)
ReadsTokens-blank line from [] to read blank = (omega (arith, read.0), blank_more line from to read.1 blank)
ReadsTokens-blank line from (t ∷ ts) to read blank = (read.0, read.1, read.2, ReadsTokens-blank line t.end ts to read.3 blank)

-- the token at the end joins what is read
pub ReadsTokens-push : (line : List ℕ) (from : ℕ) (ts : List Token) (t : Token) → ReadsTokens line from ts t.start → IsTokenOf line t → ReadsTokens line from (ts ++ t ∷ []) t.end
ReadsTokens-push line from [] t read is = (read.0, read.1, is, (omega arith, λ i after before. absurd (omega arith)))
ReadsTokens-push line from (u ∷ ts) t read is = (read.0, read.1, read.2, ReadsTokens-push line u.end ts t read.3 is)

-- each token that is read is a token of the line
pub ReadsTokens-each : (line : List ℕ) (from : ℕ) (ts : List Token) (to : ℕ) → ReadsTokens line from ts to → AllByRecursion (IsTokenOf line) ts
ReadsTokens-each line from [] to read = tt
ReadsTokens-each line from (t ∷ ts) to read = (read.2, ReadsTokens-each line t.end ts to read.3)

-- a run of blanks at the start of a line ends at a character
pub run_ends : (line : List ℕ) (end : ℕ) → IsUtf8 line → AreBlank line 0 end → IsCharBoundary line end
run_ends line zero utf8 blanks = IsCharBoundary-start line utf8
run_ends line (suc n) utf8 blanks =
    let last : is_blank (get_or line n 0) ≡ true = blanks n (omega arith) (omega arith) in
    let there : n + 1 ≡ suc n = omega arith in
    subst (IsCharBoundary line) there (after_ascii line n utf8 (grind (arith, nat_tests)) (grind (arith, nat_tests))).boundary
