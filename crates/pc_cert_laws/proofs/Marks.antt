-- Names and numbers have none of the bytes that part the words of a certificate's lines.
use Rattle.std.proofs.Common.{◌≡◌, ℕ, suc, ◌<◌, ◌≤◌, ◌^◌, Bool, true, false, ◌||◌, List, [], ◌∷◌, ◌++◌, length, get_or, All, arith, refl, sym, ◌∙◌, ap₂, subst, ⊎_elim, ℤ, pos, negsuc}
use Rattle.std.proofs.str.Laws.{order}
use Rattle.std.proofs.lemmas.Bool.Decides.{nat_tests}
use Rattle.std.proofs.lemmas.Fmt.{decimal_is_IsNumeral_wide, length-decimal-le_wide}
use Rattle.std.proofs.lemmas.List.Elements.{All-nil, All-cons}
use Rattle.std.proofs.lemmas.List.Folds.{list_any-append}
use Rattle.std.proofs.lemmas.Str.{NoCharPasses-byte}
use Rattle.std.proofs.lemmas.Str.Parse.{digit_at}
use Rattle.std.specs.Prelude.{◌==◌}
use Rattle.std.specs.Fmt.{decimal, signed_decimal}
use Rattle.std.specs.List.{list_any, AllByRecursion}
use Rattle.std.specs.Str.{NoCharPasses, NonePass}
use Rattle.unicode_ident.proofs.IdentLemmas.{is_xid_continue-ascii}
use Rattle.pc_name.specs.Names.{continues_name, HasNameCharacters}
use Rattle.pc_token.specs.Token.{is_blank}
use Rattle.pc_cert.specs.Texts.{IsNumberText}
use Rattle.pc_canonical_laws.proofs.Named.{IsShort}
use Rattle.pc_canonical_laws.proofs.Scalars.{starts_continue}
use Rattle.pc_canonical_laws.proofs.Unbroken.{is_line_end}

-- no byte of the text passes
abbrev pub IsFree : (ℕ → Bool) → List ℕ → Type 0
IsFree test text = list_any test text ≡ false

pub neither : (a b : Bool) → (a || b) ≡ false → (a ≡ false) × (b ≡ false)
neither true b is = absurd (cc)
neither false b is = (refl, is)

pub none : (a b : Bool) → a ≡ false → b ≡ false → (a || b) ≡ false
none a b x y = ap₂ (λ c d. c || d) x y

pub not_this : (b k : ℕ) → (b ≡ k → ⊥) → (b == k) ≡ false
not_this b k differs = go (b == k) refl
  where
    same : (b == k) ≡ true → b ≡ k
    same is = grind (arith, nat_tests)

    go : (x : Bool) → (b == k) ≡ x → (b == k) ≡ false
    go true is = absurd (differs (same is))
    go false is = is

module _ (test : ℕ → Bool) where
  pub free_join : (xs ys : List ℕ) → IsFree test xs → IsFree test ys → IsFree test (xs ++ ys)
  free_join xs ys a b = list_any-append test xs ys ∙ none (list_any test xs) (list_any test ys) a b

  pub free_each : (xs : List ℕ) → IsFree test xs → All (λ x. test x ≡ false) xs
  free_each [] is = All-nil (λ x. test x ≡ false)
  free_each (x ∷ xs) is = let both = neither (test x) (list_any test xs) is in All-cons (λ x. test x ≡ false) x xs both.0 (free_each xs both.1)

  pub free_by_place : (bs : List ℕ) → ((i : ℕ) → i < length bs → test (get_or bs i 0) ≡ false) → IsFree test bs
  free_by_place [] each = refl
  free_by_place (b ∷ bs) each = none (test b) (list_any test bs) (each 0 (omega arith)) (free_by_place bs (λ i below. each (suc i) (omega arith)))

  pub free_weaker : (other : ℕ → Bool) → ((b : ℕ) → other b ≡ false → test b ≡ false) → (bs : List ℕ) → IsFree other bs → IsFree test bs
  free_weaker other weaker [] is = refl
  free_weaker other weaker (b ∷ bs) is = let both = neither (other b) (list_any other bs) is in none (test b) (list_any test bs) (weaker b both.0) (free_weaker other weaker bs both.1)

  module _ (no_name : (c : ℕ) → continues_name c ≡ true → test c ≡ false) (beyond : (b : ℕ) → 128 ≤ b → test b ≡ false) where
    none_pass : (cs : List ℕ) → AllByRecursion (λ d. continues_name d ≡ true) cs → NonePass test cs
    none_pass [] each = tt
    none_pass (c ∷ cs) each = (no_name c each.0, none_pass cs each.1)

    passes_none : (text : List ℕ) → HasNameCharacters text → NoCharPasses test text
    passes_none text (c, cs, is, starts, each) = (c ∷ cs, sym is, (no_name c (starts_continue c starts), none_pass cs each))

    pub free_name : (text : List ℕ) → HasNameCharacters text → IsFree test text
    free_name text is =
        free_by_place text (λ i below. ⊎_elim (λ ascii. NoCharPasses-byte test text i (passes_none text is) below ascii) (λ high. beyond (get_or text i 0) high) (order (get_or text i 0) 128))

-- ---- marks: blanks, line ends, and the bytes of `/`, `:`, `@` and `~`

abbrev pub is_mark : ℕ → Bool
is_mark b = is_blank b || (is_line_end b || ((b == 47) || ((b == 58) || ((b == 64) || (b == 126)))))

-- it has no mark
abbrev pub IsPlain : List ℕ → Type 0
IsPlain text = IsFree is_mark text

record IsOther (b : ℕ) : Type 0 where
  space : b ≡ 32 → ⊥
  tab : b ≡ 9 → ⊥
  lf : b ≡ 10 → ⊥
  cr : b ≡ 13 → ⊥
  slash : b ≡ 47 → ⊥
  colon : b ≡ 58 → ⊥
  at : b ≡ 64 → ⊥
  tilde : b ≡ 126 → ⊥

no_mark : (b : ℕ) → IsOther b → is_mark b ≡ false
no_mark b is =
    none (is_blank b) (is_line_end b || ((b == 47) || ((b == 58) || ((b == 64) || (b == 126))))) (none (b == 32) (b == 9) (not_this b 32 is.space) (not_this b 9 is.tab))
    (none (is_line_end b) ((b == 47) || ((b == 58) || ((b == 64) || (b == 126)))) (none (b == 10) (b == 13) (not_this b 10 is.lf) (not_this b 13 is.cr))
    (none (b == 47) ((b == 58) || ((b == 64) || (b == 126))) (not_this b 47 is.slash)
    (none (b == 58) ((b == 64) || (b == 126)) (not_this b 58 is.colon) (none (b == 64) (b == 126) (not_this b 64 is.at) (not_this b 126 is.tilde)))))

continues_no_mark : (c : ℕ) → continues_name c ≡ true → is_mark c ≡ false
continues_no_mark c continues = no_mark c (record {
  space = other 32 (is_xid_continue-ascii 32 (omega arith));
  tab = other 9 (is_xid_continue-ascii 9 (omega arith));
  lf = other 10 (is_xid_continue-ascii 10 (omega arith));
  cr = other 13 (is_xid_continue-ascii 13 (omega arith));
  slash = other 47 (is_xid_continue-ascii 47 (omega arith));
  colon = other 58 (is_xid_continue-ascii 58 (omega arith));
  at = other 64 (is_xid_continue-ascii 64 (omega arith));
  tilde = other 126 (is_xid_continue-ascii 126 (omega arith));
})
  where
    other : (d : ℕ) → continues_name d ≡ false → c ≡ d → ⊥
    other d fails same = let there : continues_name d ≡ true = subst (λ e. continues_name e ≡ true) same continues in cc

beyond_no_mark : (b : ℕ) → 128 ≤ b → is_mark b ≡ false
beyond_no_mark b high = no_mark b (record {
  space = λ e. absurd (omega (arith, high, e));
  tab = λ e. absurd (omega (arith, high, e));
  lf = λ e. absurd (omega (arith, high, e));
  cr = λ e. absurd (omega (arith, high, e));
  slash = λ e. absurd (omega (arith, high, e));
  colon = λ e. absurd (omega (arith, high, e));
  at = λ e. absurd (omega (arith, high, e));
  tilde = λ e. absurd (omega (arith, high, e));
})

digit_no_mark : (b : ℕ) → 48 ≤ b → b ≤ 57 → is_mark b ≡ false
digit_no_mark b low high = no_mark b (record {
  space = λ e. absurd (omega (arith, low, e));
  tab = λ e. absurd (omega (arith, low, e));
  lf = λ e. absurd (omega (arith, low, e));
  cr = λ e. absurd (omega (arith, low, e));
  slash = λ e. absurd (omega (arith, low, e));
  colon = λ e. absurd (omega (arith, high, e));
  at = λ e. absurd (omega (arith, high, e));
  tilde = λ e. absurd (omega (arith, high, e));
})

-- ---- what has none

pub name_plain : (text : List ℕ) → HasNameCharacters text → IsPlain text
name_plain text is = free_name is_mark continues_no_mark beyond_no_mark text is

pub number_plain : (n : ℕ) → n < 10 ^ 18 → IsPlain (decimal n)
number_plain n short =
    let numeral = (decimal_is_IsNumeral_wide n (omega arith)).0 in
    free_by_place is_mark (decimal n) (λ i below. let within = digit_at (decimal n) i numeral.1 below in digit_no_mark (get_or (decimal n) i 0) (omega (arith, within)) (omega (arith, within)))

pub number_some : (n : ℕ) → n < 10 ^ 18 → 0 < length (decimal n)
number_some n short = (decimal_is_IsNumeral_wide n (omega arith)).0.0

pub integer_plain : (z : ℤ) → IsShort z → IsPlain (signed_decimal z)
integer_plain (pos n) short = number_plain n (omega (arith, short))
integer_plain (negsuc n) short = number_plain (suc n) (omega (arith, short))

pub integer_some : (z : ℤ) → IsShort z → 0 < length (signed_decimal z)
integer_some (pos n) short = number_some n (omega (arith, short))
integer_some (negsuc n) short = omega arith

pub number_text_is : (n : ℕ) → n < 10 ^ 18 → IsNumberText (decimal n) n
number_text_is n short =
    let is = decimal_is_IsNumeral_wide n (omega arith) in
    record { digits = is.0; short = length-decimal-le_wide 18 n (omega arith) short (omega arith); value = sym is.1 }

-- ---- one test at a time

module _ (text : List ℕ) (is : IsPlain text) where
  pub blanks_free : IsFree is_blank text
  blanks_free = free_weaker is_blank is_mark (λ b e. (neither (is_blank b) (is_line_end b || ((b == 47) || ((b == 58) || ((b == 64) || (b == 126))))) e).0) text is

  pub ends_free : IsFree is_line_end text
  ends_free = free_weaker is_line_end is_mark (λ b e. (neither (is_line_end b) ((b == 47) || ((b == 58) || ((b == 64) || (b == 126)))) (neither (is_blank b) (is_line_end b || ((b == 47) || ((b == 58) || ((b == 64) || (b == 126))))) e).1).0) text is

  pub slashes_free : IsFree (λ b. b == 47) text
  slashes_free = free_weaker (λ b. b == 47) is_mark (λ b e. (neither (b == 47) ((b == 58) || ((b == 64) || (b == 126))) (neither (is_line_end b) ((b == 47) || ((b == 58) || ((b == 64) || (b == 126)))) (neither (is_blank b) (is_line_end b || ((b == 47) || ((b == 58) || ((b == 64) || (b == 126))))) e).1).1).0) text is

-- a text between blanks
pub record IsWordText (text : List ℕ) : Type 0 where
  pub solid : IsFree is_blank text
  pub whole : IsFree is_line_end text
  pub some : 0 < length text

pub plain_word : (text : List ℕ) → IsPlain text → 0 < length text → IsWordText text
plain_word text is some = record { solid = blanks_free text is; whole = ends_free text is; some = some }
