-- Paths and literals are spelled as they are written.
use Rattle.std.proofs.Common.{◌≡◌, ◌≢◌, ℕ, ◌<◌, ◌^◌, Bool, true, false, not, List, [], ◌∷◌, ◌++◌, length, get_or, map, All, codes, arith, refl, sym, ◌∙◌, ap, subst, if◌then◌else◌, drop}
use Rattle.std.proofs.lemmas.List.{append-nil}
use Rattle.std.proofs.lemmas.List.Elements.{All-head, All-tail}
use Rattle.std.proofs.lemmas.List.Splits.{slice_split_none, slice_split_at}
use Rattle.std.specs.Prelude.{◌==◌, ◌||◌}
use Rattle.std.specs.List.{flat_map, slice_split, list_any}
use Rattle.pc_name.specs.Names.{IsName}
use Rattle.pc_sheet.specs.Sheet.{Sheet}
use Rattle.pc_sheet.specs.WellFormed.{IsWellFormed, IsWellFormedRule}
use Rattle.pc_sheet.specs.declared.ids.Entry.{Entry}
use Rattle.pc_token.specs.Token.{is_blank}
use Rattle.pc_accept.specs.Literals.{Symbol, pair, node, Literal}
use Rattle.pc_accept.specs.Writable.{IsPathOf, IsSymbolOf}
use Rattle.pc_cert.specs.Written.{WrittenPath, WrittenSymbol, written_pair, written_node, WrittenLiteral}
use Rattle.pc_cert.specs.Texts.{AreAll, IsNumberText, IsPathText, IsSymbolText, IsLiteralText, starts_with_byte, is_negated}
use Rattle.pc_cert.specs.Words.{IsNameText}
use Rattle.pc_cert.specs.Meaning.{IsNodeNamed, IsSymbolNamed, IsLiteralNamed}
use Rattle.pc_canonical_laws.proofs.Cutting.{name_nonempty}
use Rattle.pc_canonical_laws.proofs.Scalars.{name_utf8}
use Rattle.pc_canonical_laws.proofs.Unbroken.{is_line_end}
use Rattle.pc_cert_text.specs.CertificateText.{number_text, name_of_found_rule, name_of_rule_at, path_text, symbol_text, claim_sign_text, literal_text}
use Rattle.pc_cert_laws.proofs.Marks.{IsFree, IsPlain, is_mark, free_join, free_each, neither, name_plain, number_plain, number_text_is, IsWordText, plain_word, none, blanks_free, ends_free, slashes_free}
use Rattle.pc_cert_laws.proofs.Spelled.{pair_of, read_text_is, read_plain, read_word}
use Rattle.pc_canonical_laws.proofs.Entries.{entry_stands}
use Rattle.pc_lemmas.proofs.Elements.{element_at}
use Rattle.pc_cert_laws.proofs.Standing.{rule_stands}
use Rattle.pc_cert_text.proofs.LineLemmas.{all_at}
use Rattle.pc_cert_text.proofs.TextLemmas.{rule_there}

-- ---- numbers behind slashes

abbrev step_text : ℕ → List ℕ
step_text k = codes "/" ++ number_text k

abbrev AreSmall : List ℕ → Type 0
AreSmall steps = All (λ k. k < 2 ^ 32) steps

small_first : (k : ℕ) (ks : List ℕ) → AreSmall (k ∷ ks) → k < 10 ^ 18
small_first k ks small = let first = All-head (λ (j : ℕ). j < 2 ^ 32) k ks small in omega (arith, first)

small_rest : (k : ℕ) (ks : List ℕ) → AreSmall (k ∷ ks) → AreSmall ks
small_rest k ks small = All-tail (λ (j : ℕ). j < 2 ^ 32) k ks small

pieces_are : (steps : List ℕ) (first : List ℕ) → IsFree (λ b. b == 47) first → AreSmall steps → slice_split (λ b. b == 47) (first ++ flat_map step_text steps) ≡ first ∷ map number_text steps
pieces_are [] first free small = ap (slice_split (λ b. b == 47)) (append-nil first) ∙ slice_split_none (λ b. b == 47) first (free_each (λ b. b == 47) first free)
pieces_are (k ∷ ks) first free small =
    slice_split_at (λ b. b == 47) first 47 (number_text k ++ flat_map step_text ks) (free_each (λ b. b == 47) first free) refl
    ∙ ap (λ ts. first ∷ ts) (pieces_are ks (number_text k) (slashes_free (number_text k) (number_plain k (small_first k ks small))) (small_rest k ks small))

numbers_are : (steps : List ℕ) → AreSmall steps → AreAll IsNumberText (map number_text steps) steps
numbers_are [] small = tt
numbers_are (k ∷ ks) small = (number_text_is k (small_first k ks small), numbers_are ks (small_rest k ks small))

steps_free : (test : ℕ → Bool) → test 47 ≡ false → ((text : List ℕ) → IsPlain text → IsFree test text) → (steps : List ℕ) → AreSmall steps → IsFree test (flat_map step_text steps)
steps_free test slash plain [] small = refl
steps_free test slash plain (k ∷ ks) small =
    free_join test (step_text k) (flat_map step_text ks)
    (free_join test (codes "/") (number_text k) (none (test 47) false slash refl) (plain (number_text k) (number_plain k (small_first k ks small)))) (steps_free test slash plain ks (small_rest k ks small))

-- ---- first bytes

first_plain : (b : ℕ) (text : List ℕ) → ((c : ℕ) → is_mark c ≡ false → (c == b) ≡ false) → IsPlain text → starts_with_byte b text ≡ false
first_plain b [] weaker is = refl
first_plain b (c ∷ text) weaker is = weaker c (neither (is_mark c) (list_any is_mark text) is).0

abbrev from_colon : ℕ → Bool
from_colon c = (c == 58) || ((c == 64) || (c == 126))

last_marks : (c : ℕ) → is_mark c ≡ false → from_colon c ≡ false
last_marks c is = (neither (c == 47) (from_colon c) (neither (is_line_end c) ((c == 47) || from_colon c) (neither (is_blank c) (is_line_end c || ((c == 47) || from_colon c)) is).1).1).1

no_at : (c : ℕ) → is_mark c ≡ false → (c == 64) ≡ false
no_at c is = (neither (c == 64) (c == 126) (neither (c == 58) ((c == 64) || (c == 126)) (last_marks c is)).1).0

no_tilde : (c : ℕ) → is_mark c ≡ false → (c == 126) ≡ false
no_tilde c is = (neither (c == 64) (c == 126) (neither (c == 58) ((c == 64) || (c == 126)) (last_marks c is)).1).1

no_colon : (text : List ℕ) → IsPlain text → text ≢ codes ":"
no_colon text is same = let there : list_any is_mark text ≡ true = ap (list_any is_mark) same in cc

module _ (sheet : Sheet) (formed : IsWellFormed sheet) where
  -- ---- rules

  pub rule_named : (r : ℕ) → r < length sheet.rules → IsName (name_of_rule_at sheet r)
  rule_named r below =
      let at = element_at sheet.rules r below in
      subst (λ found. IsName (name_of_found_rule found)) (sym at.1) (all_at (IsWellFormedRule sheet.universe) sheet.rules r at.0 formed.rules.each at.1).named

  pub name_text_is : (r : ℕ) → r < length sheet.rules → IsNameText (name_of_rule_at sheet r)
  name_text_is r below = let named = rule_named r below in record { utf8 = name_utf8 (name_of_rule_at sheet r) named.characters; name = named }

  pub name_word : (r : ℕ) → r < length sheet.rules → IsWordText (name_of_rule_at sheet r)
  name_word r below = let named = rule_named r below in plain_word (name_of_rule_at sheet r) (name_plain (name_of_rule_at sheet r) named.characters) (name_nonempty (name_of_rule_at sheet r) named.characters)

  -- ---- paths

  abbrev pub written_path : ℕ → List ℕ → WrittenPath
  written_path r steps = record { rule = name_of_rule_at sheet r; steps = steps }

  module _ (r : ℕ) (steps : List ℕ) (is : IsPathOf sheet r steps) where
    path_plain : IsPlain (name_of_rule_at sheet r)
    path_plain = name_plain (name_of_rule_at sheet r) (rule_named r (rule_there sheet r steps is)).characters

    pub path_text_is : IsPathText (path_text sheet r steps) (written_path r steps)
    path_text_is = record {
      numbers = map number_text steps;
      pieces = pieces_are steps (codes "@" ++ name_of_rule_at sheet r) (slashes_free (name_of_rule_at sheet r) path_plain) is.small;
      name = name_text_is r (rule_there sheet r steps is);
      steps = numbers_are steps is.small;
    }

    pub path_word : IsWordText (path_text sheet r steps)
    path_word = record {
      solid = free_join is_blank (name_of_rule_at sheet r) (flat_map step_text steps) (blanks_free (name_of_rule_at sheet r) path_plain) (steps_free is_blank refl blanks_free steps is.small);
      whole = free_join is_line_end (name_of_rule_at sheet r) (flat_map step_text steps) (ends_free (name_of_rule_at sheet r) path_plain) (steps_free is_line_end refl ends_free steps is.small);
      some = omega arith;
    }

    pub node_stands : IsNodeNamed sheet (written_path r steps) r steps
    node_stands = record { named = rule_stands sheet r (rule_there sheet r steps is); same = refl; leads = is.leads }

  -- ---- literals

  abbrev pub written_symbol : Symbol → WrittenSymbol
  written_symbol (pair c v) = written_pair (pair_of sheet.universe (record { cell = c; value = v }))
  written_symbol (node r steps) = written_node (written_path r steps)

  abbrev pub written_literal : Literal → WrittenLiteral
  written_literal l = record { what = written_symbol l.what; sign = l.sign }

  record IsSpelledSymbol (text : List ℕ) (w : WrittenSymbol) : Type 0 where
    pub is : IsSymbolText text w
    pub word : IsWordText text
    pub positive : is_negated text ≡ false
    pub other : text ≢ codes ":"

  symbol_spelled : (s : Symbol) → IsSymbolOf sheet s → IsSpelledSymbol (symbol_text sheet s) (written_symbol s)
  symbol_spelled (pair c v) is =
      let u = sheet.universe in
      let e : Entry = record { cell = c; value = v } in
      let plain = read_plain u formed.universe e is in
      record {
        is = (first_plain 64 (symbol_text sheet (pair c v)) no_at plain, read_text_is u formed.universe e is);
        word = read_word u formed.universe e is;
        positive = first_plain 126 (symbol_text sheet (pair c v)) no_tilde plain;
        other = no_colon (symbol_text sheet (pair c v)) plain;
      }
  symbol_spelled (node r steps) is = record { is = path_text_is r steps is; word = path_word r steps is; positive = refl; other = λ same. let heads : 64 ≡ 58 = ap (λ t. get_or t 0 0) same in absurd (omega (arith, heads)) }

  pub record IsSpelledLiteral (text : List ℕ) (w : WrittenLiteral) : Type 0 where
    pub is : IsLiteralText text w
    pub word : IsWordText text
    pub other : text ≢ codes ":"

  literal_from : (s : Symbol) (sign : Bool) → IsSymbolOf sheet s → IsSpelledLiteral (claim_sign_text sign ++ symbol_text sheet s) (record { what = written_symbol s; sign = sign })
  literal_from s true of =
      let spelled = symbol_spelled s of in
      let text = symbol_text sheet s in
      record {
        is = record { sign = sym (ap not spelled.positive); what = subst (λ t. IsSymbolText t (written_symbol s)) (sym (ap (λ b. if b then drop 1 text else text) spelled.positive)) spelled.is };
        word = spelled.word;
        other = spelled.other;
      }
  literal_from s false of =
      let spelled = symbol_spelled s of in
      record {
        is = record { sign = refl; what = spelled.is };
        word = record { solid = spelled.word.solid; whole = spelled.word.whole; some = omega arith };
        other = λ same. let heads : 126 ≡ 58 = ap (λ t. get_or t 0 0) same in absurd (omega (arith, heads));
      }

  pub literal_spelled : (l : Literal) → IsSymbolOf sheet l.what → IsSpelledLiteral (literal_text sheet l) (written_literal l)
  literal_spelled l of = literal_from l.what l.sign of

  symbol_stands : (s : Symbol) → IsSymbolOf sheet s → IsSymbolNamed sheet (written_symbol s) s
  symbol_stands (pair c v) is = entry_stands sheet.universe (record { cell = c; value = v }) is
  symbol_stands (node r steps) is = node_stands r steps is

  pub literal_stands : (l : Literal) → IsSymbolOf sheet l.what → IsLiteralNamed sheet (written_literal l) l
  literal_stands l of = record { what = symbol_stands l.what of; sign = refl }
