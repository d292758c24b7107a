-- The characters of a text are one list.
use Rattle.std.proofs.Common.{◌≡◌, ℕ, true, false, List, [], ◌∷◌, ◌++◌, length, arith, refl, sym, ◌∙◌, ap}
use Rattle.std.proofs.lemmas.List.{length-append}
use Rattle.std.proofs.lemmas.Str.{encode_same, length-encode, len_utf8_bounds}
use Rattle.std.specs.Prelude.{encode_utf8}
use Rattle.std.specs.Str.{encode_utf8_all}
use Rattle.std.specs.List.{AllByRecursion}
use Rattle.pc_name.specs.Names.{starts_name, continues_name, AllContinue, HasNameCharacters}

-- an empty text has no first character
pub empty_has_none : (c : ℕ) (more : List ℕ) → [] ≡ encode_utf8 c ++ more → ⊥
empty_has_none c more is = absurd (omega (arith, ap length is, length-append (encode_utf8 c) more, length-encode c, len_utf8_bounds c))

pub all_of_empty : (text : List ℕ) → text ≡ [] → AllContinue text
all_of_empty text is = ([], is, tt)

-- the first character is taken off, or put back
pub all_of_rest : (text rest : List ℕ) (c : ℕ) → text ≡ encode_utf8 c ++ rest → AllContinue text → (continues_name c ≡ true) × AllContinue rest
all_of_rest text rest c is all = go all.0 all.1 all.2
  where
    go : (cs : List ℕ) → text ≡ encode_utf8_all cs → AllByRecursion (λ d. continues_name d ≡ true) cs → (continues_name c ≡ true) × AllContinue rest
    go [] same each = absurd (empty_has_none c rest (sym same ∙ is))
    go (d ∷ ds) same each =
        let one = encode_same c d rest (encode_utf8_all ds) (sym is ∙ same) in
        (ap continues_name one.0 ∙ each.0, (ds, one.1, each.1))

pub all_of_more : (text rest : List ℕ) (c : ℕ) → text ≡ encode_utf8 c ++ rest → continues_name c ≡ true → AllContinue rest → AllContinue text
all_of_more text rest c is continues all = (c ∷ all.0, is ∙ ap (λ l. encode_utf8 c ++ l) all.1, (continues, all.2))

-- a text has a name's characters where its first one starts a name and the others continue it
pub has_characters : (text rest : List ℕ) (c : ℕ) → text ≡ encode_utf8 c ++ rest → starts_name c ≡ true → AllContinue rest → HasNameCharacters text
has_characters text rest c is starts all = (c, all.0, is ∙ ap (λ l. encode_utf8 c ++ l) all.1, starts, all.2)

pub first_starts : (text rest : List ℕ) (c : ℕ) → text ≡ encode_utf8 c ++ rest → HasNameCharacters text → (starts_name c ≡ true) × AllContinue rest
first_starts text rest c is has =
    let one = encode_same c has.0 rest (encode_utf8_all has.1) (sym is ∙ has.2) in
    (ap starts_name one.0 ∙ has.3, (has.1, one.1, has.4))

pub false_is_true : false ≡ true → ⊥
false_is_true e = absurd (cc)

pub empty_of_length : (text : List ℕ) → length text ≡ 0 → text ≡ []
empty_of_length [] none = refl
empty_of_length (c ∷ cs) none = absurd (omega (arith, none))
