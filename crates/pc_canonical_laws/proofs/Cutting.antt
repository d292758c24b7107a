-- The canonical text of a statement is cut into its words.
use Rattle.std.proofs.Common.{◌≡◌, ◌≢◌, ℕ, suc, ◌<◌, ◌≤◌, ◌^◌, ℤ, pos, negsuc, ◌+ℤ◌, Bool, false, List, [], ◌∷◌, ◌++◌, length, get_or, cond, arith, refl, sym, ◌∙◌, ap, subst, codes, slice_get}
use Rattle.std.proofs.lemmas.List.{append_assoc, length-append, get_or_append_left}
use Rattle.std.proofs.lemmas.Str.{char_from_byte, length-encode, len_utf8_bounds, IsUtf8-from_ascii}
use Rattle.std.proofs.lemmas.Str.Parse.{digit_at}
use Rattle.std.proofs.lemmas.Fmt.{decimal_is_IsNumeral_wide, length-decimal-le_wide, IsAscii-from_digits}
use Rattle.std.proofs.lemmas.Bool.Decides.{nat_tests}
use Rattle.std.specs.Prelude.{encode_utf8, unwrap_or}
use Rattle.std.specs.List.{flat_map}
use Rattle.std.specs.Char.{is_ascii_digit}
use Rattle.std.specs.Fmt.{decimal, signed_decimal}
use Rattle.std.specs.Str.{encode_utf8_all}
use Rattle.unicode_ident.proofs.IdentLemmas.{is_xid_start-ascii, is_xid_continue-ascii}
use Rattle.pc_name.specs.Names.{starts_name, continues_name, is_reserved, HasNameCharacters, IsName}
use Rattle.pc_name.specs.declared.sign.Sign.{Sign}
use Rattle.pc_name.specs.declared.sign.Sign.TheVariants as signs
use Rattle.pc_sheet.specs.Sheet.{Universe, Values, listed, range, Item, Items, no_items, item, variable, constant, number, cell, Sum}
use Rattle.pc_sheet.specs.Sizes.{values_at}
use Rattle.pc_sheet.specs.WellSorted.{Variables}
use Rattle.pc_sheet.specs.declared.ids.ValueId.{ValueId}
use Rattle.pc_token.specs.declared.token.Kind.TheVariants.{Name, Number}
use Rattle.pc_token.specs.Token.{StopsName}
use Rattle.pc_formula.specs.Word as word
use Rattle.pc_formula.specs.Word.{Word}
use Rattle.pc_writer.specs.Spelling.{text_among}
use Rattle.pc_writer.specs.FormulaText.{family_at, variable_at, in_parentheses, item_text, item_texts, sign_text, added_text, sum_text}
use Rattle.pc_canonical_laws.proofs.Cuts.{Cuts, piece, IsDigits}
use Rattle.pc_canonical_laws.proofs.Named.{IsShort, IsSpelledValue, IsSpelledItem, AreSpelledItems, AreSpelledParts, IsSpelledSum}
use Rattle.pc_canonical_laws.proofs.Scalars.{name_utf8}
use Rattle.pc_canonical_laws.proofs.Signs.{cut_open, cut_close, cut_comma, cut_minus, cut_added}
use Rattle.pc_canonical_laws.proofs.Words.{integer_words, value_words, item_words, argument_words, more_words, rest_words, sum_words}

-- ---- what may stand behind a name or a number

pub data Ends : List ℕ → Type 0 where
  nothing : Ends []
  space : {rest : List ℕ} → Ends (32 ∷ rest)
  opened : {rest : List ℕ} → Ends (40 ∷ rest)
  closed : {rest : List ℕ} → Ends (41 ∷ rest)
  comma : {rest : List ℕ} → Ends (44 ∷ rest)
  colon : {rest : List ℕ} → Ends (58 ∷ rest)
  equal_sign : {rest : List ℕ} → Ends (61 ∷ rest)

stops_at : (b : ℕ) (rest : List ℕ) → b < 128 → continues_name b ≡ false → StopsName (b ∷ rest)
stops_at b rest ascii fails c tail text = ap continues_name (char_from_byte (b ∷ rest) tail c text ascii (omega arith)) ∙ fails

pub ends_stop : (more : List ℕ) → Ends more → StopsName more
ends_stop more nothing = λ c tail text. absurd (omega (arith, ap length text, length-append (encode_utf8 c) tail, length-encode c, len_utf8_bounds c))
ends_stop more (space {rest = rest}) = stops_at 32 rest (omega arith) (is_xid_continue-ascii 32 (omega arith))
ends_stop more (opened {rest = rest}) = stops_at 40 rest (omega arith) (is_xid_continue-ascii 40 (omega arith))
ends_stop more (closed {rest = rest}) = stops_at 41 rest (omega arith) (is_xid_continue-ascii 41 (omega arith))
ends_stop more (comma {rest = rest}) = stops_at 44 rest (omega arith) (is_xid_continue-ascii 44 (omega arith))
ends_stop more (colon {rest = rest}) = stops_at 58 rest (omega arith) (is_xid_continue-ascii 58 (omega arith))
ends_stop more (equal_sign {rest = rest}) = stops_at 61 rest (omega arith) (is_xid_continue-ascii 61 (omega arith))

no_digit : (more : List ℕ) → Ends more → is_ascii_digit (get_or more 0 0) ≡ false
no_digit more nothing = refl
no_digit more space = refl
no_digit more opened = refl
no_digit more closed = refl
no_digit more comma = refl
no_digit more colon = refl
no_digit more equal_sign = refl

-- ---- names

pub name_nonempty : (text : List ℕ) → HasNameCharacters text → 0 < length text
name_nonempty text is = omega (arith, ap length is.2, length-append (encode_utf8 is.0) (encode_utf8_all is.1), length-encode is.0, len_utf8_bounds is.0)

-- no name begins with `=`
pub name_head : (text more : List ℕ) → IsName text → get_or (text ++ more) 0 0 ≢ 61
name_head text more named equal =
    let is = named.characters in
    let whole : text ++ more ≡ encode_utf8 is.0 ++ (encode_utf8_all is.1 ++ more) = ap (λ l. l ++ more) is.2 ∙ append_assoc (encode_utf8 is.0) (encode_utf8_all is.1) more in
    let first : is.0 ≡ 61 = char_from_byte (text ++ more) _ is.0 whole (omega arith) (omega (arith, length-append text more, name_nonempty text is)) ∙ equal in
    let starts = ap starts_name (sym first) ∙ is.3 in
    let starts_not = is_xid_start-ascii 61 (omega arith) in
    cc

choose : (b : Bool) (v w : Word) → b ≡ false → cond b v w ≡ w
choose b v w is = ap (λ c. cond c v w) is

pub cut_name : (text more : List ℕ) (ws : List Word) → IsName text → Ends more → Cuts more ws → Cuts (text ++ more) (word.name text ∷ ws)
cut_name text more ws named ends cuts =
    subst (λ w. Cuts (text ++ more) (w ∷ ws)) (choose (is_reserved text) (word.reserved text) (word.name text) named.not_reserved)
    (piece Name text (name_nonempty text named.characters) (name_utf8 text named.characters) (named.characters, ends_stop more ends) cuts)

-- ---- numbers

digits_are : (n : ℕ) (more : List ℕ) → n < 10 ^ 18 → Ends more → IsDigits (decimal n) more
digits_are n more short ends =
    let numeral = (decimal_is_IsNumeral_wide n (omega arith)).0 in
    record {
      digits = λ i below. let within = digit_at (decimal n) i numeral.1 below in grind (arith, nat_tests);
      longest = no_digit more ends;
      within = length-decimal-le_wide 18 n (omega arith) short (omega arith);
    }

pub cut_digits : (n : ℕ) (more : List ℕ) (ws : List Word) → n < 10 ^ 18 → Ends more → Cuts more ws → Cuts (decimal n ++ more) (word.number (decimal n) ∷ ws)
cut_digits n more ws short ends cuts =
    let numeral = (decimal_is_IsNumeral_wide n (omega arith)).0 in
    piece Number (decimal n) numeral.0 (IsUtf8-from_ascii (decimal n) (IsAscii-from_digits (decimal n) numeral.1)) (digits_are n more short ends) cuts

-- the first byte of digits is one
digits_head : (n : ℕ) (more : List ℕ) → n < 10 ^ 18 → (48 ≤ get_or (decimal n ++ more) 0 0) × (get_or (decimal n ++ more) 0 0 ≤ 57)
digits_head n more short =
    let numeral = (decimal_is_IsNumeral_wide n (omega arith)).0 in
    let within = digit_at (decimal n) 0 numeral.1 numeral.0 in
    let same = get_or_append_left (decimal n) more 0 0 numeral.0 in
    (omega (arith, within, same), omega (arith, within, same))

pub cut_integer : (z : ℤ) (more : List ℕ) (ws : List Word) → IsShort z → Ends more → Cuts more ws → Cuts (signed_decimal z ++ more) (integer_words z ws)
cut_integer (pos n) more ws short ends cuts = cut_digits n more ws (omega (arith, short)) ends cuts
cut_integer (negsuc n) more ws short ends cuts = cut_minus (cut_digits (suc n) more ws (omega (arith, short)) ends cuts) (λ arrow. let head = digits_head (suc n) more (omega (arith, short)) in absurd (omega (arith, head, arrow)))

integer_head : (z : ℤ) (more : List ℕ) → IsShort z → get_or (signed_decimal z ++ more) 0 0 ≢ 61
integer_head (pos n) more short equal = let head = digits_head n more (omega (arith, short)) in absurd (omega (arith, head, equal))
integer_head (negsuc n) more short equal = absurd (omega (arith, equal))

-- ---- values and items

cut_value : (v : Values) (k : ValueId) (more : List ℕ) (ws : List Word) → IsSpelledValue v k → Ends more → Cuts more ws → Cuts (text_among v k ++ more) (value_words v k ws)
cut_value (listed names) k more ws spelled ends cuts = cut_name (unwrap_or (slice_get names k.0) []) more ws spelled ends cuts
cut_value (range low high) k more ws spelled ends cuts = cut_integer (low +ℤ pos k.0) more ws spelled ends cuts

value_head : (v : Values) (k : ValueId) (more : List ℕ) → IsSpelledValue v k → get_or (text_among v k ++ more) 0 0 ≢ 61
value_head (listed names) k more spelled = name_head (unwrap_or (slice_get names k.0) []) more spelled
value_head (range low high) k more spelled = integer_head (low +ℤ pos k.0) more spelled

module _ (u : Universe) (vs : Variables) where
  -- the text of further arguments, up to the parenthesis that closes them
  more_text : Items → List ℕ
  more_text xs = flat_map (λ other. codes ", " ++ other) (item_texts u vs xs)

  ends_more : (xs : Items) (more : List ℕ) → Ends (more_text xs ++ 41 ∷ more)
  unfolding more_text
  ends_more no_items more = closed
  ends_more (item x xs) more = comma

  pub ends_arguments : (xs : Items) (more : List ℕ) → Ends more → Ends (in_parentheses (item_texts u vs xs) ++ more)
  ends_arguments no_items more ends = ends
  ends_arguments (item x xs) more ends = opened

  mutual
    unfolding more_text

    pub cut_item : (x : Item) (more : List ℕ) (ws : List Word) → IsSpelledItem u vs x → Ends more → Cuts more ws → Cuts (item_text u vs x ++ more) (item_words u vs x ws)
    cut_item (variable k) more ws spelled ends cuts = cut_name (variable_at vs k) more ws spelled ends cuts
    cut_item (constant s v) more ws spelled ends cuts = cut_value (values_at u s) v more ws spelled ends cuts
    cut_item (number z) more ws spelled ends cuts = cut_integer z more ws spelled ends cuts
    cut_item (cell f xs) more ws spelled ends cuts =
        let name = (family_at u f).name in
        let arguments = in_parentheses (item_texts u vs xs) in
        subst (λ t. Cuts t (item_words u vs (cell f xs) ws)) (sym (append_assoc name arguments more))
        (cut_name name (arguments ++ more) (argument_words u vs xs ws) spelled.0 (ends_arguments xs more ends) (cut_arguments xs more ws spelled.1 cuts))

    pub cut_arguments : (xs : Items) (more : List ℕ) (ws : List Word) → AreSpelledItems u vs xs → Cuts more ws → Cuts (in_parentheses (item_texts u vs xs) ++ more) (argument_words u vs xs ws)
    cut_arguments no_items more ws spelled cuts = cuts
    cut_arguments (item x xs) more ws spelled cuts =
        let first = item_text u vs x in
        let others = more_text xs in
        let same : first ++ (others ++ 41 ∷ more) ≡ ((first ++ others) ++ codes ")") ++ more = sym (append_assoc (first ++ others) (codes ")") more ∙ append_assoc first others (41 ∷ more)) in
        cut_open (subst (λ t. Cuts t (item_words u vs x (more_words u vs xs ws))) same
        (cut_item x (others ++ 41 ∷ more) (more_words u vs xs ws) spelled.0 (ends_more xs more) (cut_more xs more ws spelled.1 cuts)))

    cut_more : (xs : Items) (more : List ℕ) (ws : List Word) → AreSpelledItems u vs xs → Cuts more ws → Cuts (more_text xs ++ 41 ∷ more) (more_words u vs xs ws)
    cut_more no_items more ws spelled cuts = cut_close cuts
    cut_more (item x xs) more ws spelled cuts =
        let first = item_text u vs x in
        let others = more_text xs in
        let cut = cut_item x (others ++ 41 ∷ more) (more_words u vs xs ws) spelled.0 (ends_more xs more) (cut_more xs more ws spelled.1 cuts) in
        subst (λ t. Cuts t (more_words u vs (item x xs) ws)) (ap (λ t. codes ", " ++ t) (sym (append_assoc first others (41 ∷ more)))) (cut_comma cut)

  pub item_head : (x : Item) (more : List ℕ) → IsSpelledItem u vs x → get_or (item_text u vs x ++ more) 0 0 ≢ 61
  item_head (variable k) more spelled = name_head (variable_at vs k) more spelled
  item_head (constant s v) more spelled = value_head (values_at u s) v more spelled
  item_head (number z) more spelled = integer_head z more spelled
  item_head (cell f xs) more spelled =
      subst (λ t. get_or t 0 0 ≢ 61) (sym (append_assoc (family_at u f).name (in_parentheses (item_texts u vs xs)) more)) (name_head (family_at u f).name (in_parentheses (item_texts u vs xs) ++ more) spelled.0)

  -- ---- sums

  added_texts : List (Sign × Item) → List ℕ
  added_texts xs = flat_map (added_text u vs) xs

  sign_ends : (s : Sign) (one others more : List ℕ) → Ends (((sign_text s ++ one) ++ others) ++ more)
  sign_ends signs.Plus one others more = space
  sign_ends signs.Minus one others more = space

  ends_added : (xs : List (Sign × Item)) (more : List ℕ) → Ends more → Ends (added_texts xs ++ more)
  unfolding added_texts
  ends_added [] more ends = ends
  ends_added (x ∷ xs) more ends = sign_ends x.0 (item_text u vs x.1) (added_texts xs) more

  cut_added_texts : (xs : List (Sign × Item)) (more : List ℕ) (ws : List Word) → AreSpelledParts u vs xs → Ends more → Cuts more ws → Cuts (added_texts xs ++ more) (rest_words u vs xs ws)
  unfolding added_texts
  cut_added_texts [] more ws spelled ends cuts = cuts
  cut_added_texts (x ∷ xs) more ws spelled ends cuts =
      let one = item_text u vs x.1 in
      let others = added_texts xs in
      let cut = cut_item x.1 (others ++ more) (rest_words u vs xs ws) spelled.0 (ends_added xs more ends) (cut_added_texts xs more ws spelled.1 ends cuts) in
      let same : sign_text x.0 ++ (one ++ (others ++ more)) ≡ ((sign_text x.0 ++ one) ++ others) ++ more = simp append_assoc in
      subst (λ t. Cuts t (rest_words u vs (x ∷ xs) ws)) same (cut_added cut x.0)

  pub cut_sum : (s : Sum) (more : List ℕ) (ws : List Word) → IsSpelledSum u vs s → Ends more → Cuts more ws → Cuts (sum_text u vs s ++ more) (sum_words u vs s ws)
  unfolding added_texts
  cut_sum s more ws spelled ends cuts =
      subst (λ t. Cuts t (sum_words u vs s ws)) (sym (append_assoc (item_text u vs s.first) (added_texts s.rest) more))
      (cut_item s.first (added_texts s.rest ++ more) (rest_words u vs s.rest ws) spelled.0 (ends_added s.rest more ends) (cut_added_texts s.rest more ws spelled.1 ends cuts))

  pub sum_head : (s : Sum) (more : List ℕ) → IsSpelledSum u vs s → get_or (sum_text u vs s ++ more) 0 0 ≢ 61
  unfolding added_texts
  sum_head s more spelled = subst (λ t. get_or t 0 0 ≢ 61) (sym (append_assoc (item_text u vs s.first) (added_texts s.rest) more)) (item_head s.first (added_texts s.rest ++ more) spelled.0)
