-- A line of one name is neither blank nor a comment.
use Rattle.std.proofs.Common.{◌≡◌, ℕ, ◌+◌, ◌<◌, ◌||◌, ◌==◌, None, List, [], ◌∷◌, ◌⊎◌, length, get_or, drop, arith, sym, ◌∙◌, ap, ⊎_elim}
use Rattle.std.proofs.lemmas.List.{get_or_past, length-drop, get_or-drop}
use Rattle.std.proofs.lemmas.Str.{char_from_byte}
use Rattle.std.specs.Char.{is_ascii_digit}
use Rattle.unicode_ident.proofs.IdentLemmas.{is_xid_start-ascii}
use Rattle.pc_name.specs.Names.{starts_name}
use Rattle.pc_token.specs.Piece.{sign_of}
use Rattle.pc_token.specs.Token.{is_blank, StartsNoToken, StartsNoName, StartsNoSign, HasBadCharacter, split, bad_character}
use Rattle.pc_token.specs.Line.{IsBlankLine, IsComment, IsOneName}
use Rattle.pc_token.proofs.Once.{one_reading}
use Rattle.pc_token.proofs.Reading.{no_token}
use Rattle.pc_token.proofs.Signs.{picked_is_longest}

-- ---- no token starts with a semicolon

module _ (line : List ℕ) (at : ℕ) (is : get_or line at 0 ≡ 59) where
  no_name : StartsNoName line at
  no_name c more text =
      let inside : at < length line = grind (arith, get_or_past) in
      let byte : get_or (drop at line) 0 0 ≡ 59 = get_or-drop at line 0 0 ∙ ap (λ i. get_or line i 0) (let e : at + 0 ≡ at = omega arith in e) ∙ is in
      let first : c ≡ 59 = char_from_byte (drop at line) more c text (omega (arith, byte)) (omega (arith, length-drop at line)) ∙ byte in
      ap starts_name first ∙ ap (λ b. (59 == 95) || b) (is_xid_start-ascii 59 (omega arith))

  no_sign : StartsNoSign line at
  no_sign = picked_is_longest line at None (sym (ap (λ b. sign_of b (get_or line (at + 1) 0) (get_or line (at + 2) 0)) is))

  starts_none : StartsNoToken line at
  starts_none = record {
    within = grind (arith, get_or_past);
    no_blank = ap is_blank is;
    no_digit = ap is_ascii_digit is;
    no_token = no_token line at (ap is_ascii_digit is) no_sign no_name;
  }

-- ---- lines

blank : (line n : List ℕ) → IsOneName line n → IsBlankLine line → ⊥
blank line n one all =
    let same : split (one.0 ∷ []) ≡ split [] = one_reading line (split (one.0 ∷ [])) (split []) one.1 (omega arith, all) in
    cc

comment : (line n : List ℕ) → IsOneName line n → IsComment line → ⊥
comment line n one c =
    let bad : HasBadCharacter line c.0 = ([], (omega arith, c.1), starts_none line c.0 c.2) in
    let same : split (one.0 ∷ []) ≡ bad_character c.0 = one_reading line (split (one.0 ∷ [])) (bad_character c.0) one.1 bad in
    cc

pub lone_something : (line n : List ℕ) → IsOneName line n → IsBlankLine line ⊎ IsComment line → ⊥
lone_something line n one empty = ⊎_elim (λ b. blank line n one b) (λ c. comment line n one c) empty
