-- Words of small letters are names.
use Rattle.std.proofs.Common.{◌≡◌, ℕ, ◌≤◌, ◌<◌, Bool, true, false, ◌&&◌, ◌||◌, ◌==◌, nat_le, List, [], ◌∷◌, ◌++◌, length, arith, refl, sym, ap, ◌∙◌}
use Rattle.std.proofs.lemmas.Bool.Decides.{nat_tests}
use Rattle.std.proofs.lemmas.Str.{encode_ascii}
use Rattle.std.specs.Prelude.{encode_utf8}
use Rattle.std.specs.Char.{is_ascii_lowercase}
use Rattle.std.specs.Int.{is_in_range}
use Rattle.std.specs.List.{AllByRecursion}
use Rattle.std.specs.Str.{encode_utf8_all}
use Rattle.unicode_ident.proofs.IdentLemmas.{is_xid_start-ascii, is_xid_continue-ascii}
use Rattle.pc_name.specs.Names.{IsName, HasNameCharacters, starts_name, continues_name, is_reserved, most_name_bytes}

pub both : (b c : Bool) → (b && c) ≡ true → (b ≡ true) × (c ≡ true)
both true true h = (refl, refl)
both true false h = absurd (cc)
both false c h = absurd (cc)

or_true : (a : Bool) → (a || true) ≡ true
or_true true = refl
or_true false = refl

abbrev pub all_letters : List ℕ → Bool
all_letters [] = true
all_letters (c ∷ cs) = is_ascii_lowercase c && all_letters cs

small : (c : ℕ) → is_ascii_lowercase c ≡ true → c < 128
small c is = grind (arith, nat_tests)

continues : (c : ℕ) → is_ascii_lowercase c ≡ true → continues_name c ≡ true
continues c is =
    is_xid_continue-ascii c (small c is)
    ∙ ap (λ x. ((is_in_range 48 57 c || is_in_range 65 90 c) || x) || (c == 95)) is
    ∙ ap (λ x. x || (c == 95)) (or_true (is_in_range 48 57 c || is_in_range 65 90 c))

starts : (c : ℕ) → is_ascii_lowercase c ≡ true → starts_name c ≡ true
starts c is =
    ap (λ x. (c == 95) || x) (is_xid_start-ascii c (small c is) ∙ ap (λ x. is_in_range 65 90 c || x) is ∙ or_true (is_in_range 65 90 c)) ∙ or_true (c == 95)

letters : (cs : List ℕ) → all_letters cs ≡ true → (encode_utf8_all cs ≡ cs) × AllByRecursion (λ d. continues_name d ≡ true) cs
letters [] all = (refl, tt)
letters (c ∷ cs) all =
    let each = both (is_ascii_lowercase c) (all_letters cs) all in
    let rest = letters cs each.1 in
    (ap (λ l. encode_utf8 c ++ l) rest.0 ∙ ap (λ l. l ++ cs) (encode_ascii c (small c each.0)), (continues c each.0, rest.1))

characters : (c : ℕ) (cs : List ℕ) → all_letters (c ∷ cs) ≡ true → HasNameCharacters (c ∷ cs)
characters c cs all =
    let each = both (is_ascii_lowercase c) (all_letters cs) all in
    let rest = letters cs each.1 in
    (c, cs, sym (ap (λ l. encode_utf8 c ++ l) rest.0 ∙ ap (λ l. l ++ cs) (encode_ascii c (small c each.0))), starts c each.0, rest.1)

within : (n : ℕ) → nat_le n most_name_bytes ≡ true → n ≤ most_name_bytes
within n h = grind (arith, nat_tests)

pub small_name : (c : ℕ) (cs : List ℕ) → all_letters (c ∷ cs) ≡ true → is_reserved (c ∷ cs) ≡ false → nat_le (length (c ∷ cs)) most_name_bytes ≡ true → IsName (c ∷ cs)
small_name c cs all free few = record { characters = characters c cs all; not_reserved = free; within = within (length (c ∷ cs)) few }
