-- Cells, values and reads without blanks, and entries, are spelled as they are written.
use Rattle.std.proofs.Common.{◌≡◌, ℕ, ◌<◌, pos, ◌+ℤ◌, List, [], ◌∷◌, ◌++◌, length, map, codes, slice_get, arith, refl, sym, subst}
use Rattle.std.proofs.lemmas.List.{append_assoc}
use Rattle.std.specs.Prelude.{unwrap_or}
use Rattle.std.specs.List.{flat_map}
use Rattle.pc_name.specs.Names.{IsName}
use Rattle.pc_sheet.specs.Sheet.{Values, listed, range, Universe}
use Rattle.pc_sheet.specs.Sizes.{size_of, values_at, argument_sorts}
use Rattle.pc_sheet.specs.Entailment.{AreWithin, cell_sizes}
use Rattle.pc_sheet.specs.WellFormed.{IsWellFormedUniverse, IsEntryOf}
use Rattle.pc_sheet.specs.declared.ids.SortId.{SortId}
use Rattle.pc_sheet.specs.declared.ids.CellId.{CellId}
use Rattle.pc_sheet.specs.declared.ids.ValueId.{ValueId}
use Rattle.pc_sheet.specs.declared.ids.Entry.{Entry}
use Rattle.pc_token.specs.declared.token.Kind.{Kind}
use Rattle.pc_token.specs.declared.token.Kind.TheVariants.{Equal}
use Rattle.pc_formula.specs.Word.{Word, name, sign, HasShortNames}
use Rattle.pc_formula.specs.Value.{DerivesValue, DerivesCell, a_cell}
use Rattle.pc_writer.specs.Spelling.{text_among, value_text, value_texts, application_of, family_of, name_of, sort_of, cell_text, arguments_text, separated_arguments}
use Rattle.pc_writer.proofs.CellLemmas.{family_within, arguments_within, entered_cell, entered_value}
use Rattle.pc_canonical_laws.specs.Declarations.{written_value, written_values, written_cell}
use Rattle.pc_canonical_laws.proofs.Cuts.{Cuts, done, cuts_utf8}
use Rattle.pc_canonical_laws.proofs.Cutting.{Ends, nothing, equal_sign, cut_name, name_nonempty}
use Rattle.pc_canonical_laws.proofs.Lines.{has_words, cuts_to_end, spell_values, family_name}
use Rattle.pc_canonical_laws.proofs.Named.{IsSpelledValue}
use Rattle.pc_canonical_laws.proofs.Signs.{cut_equal}
use Rattle.pc_canonical_laws.proofs.Spelled.{value_spelled}
use Rattle.pc_canonical_laws.proofs.SpelledLists.{Spells, spell_value, Separates, comma_blank, comma_alone, separated, spell_separated, ends_separated}
use Rattle.pc_cert.specs.Claims.{WrittenPair, IsWholePair}
use Rattle.pc_cert.specs.Texts.{IsCellText, IsValueText, IsReadText}
use Rattle.pc_cert.specs.Words.{SpellsThis}
use Rattle.pc_cert.specs.Words as words
use Rattle.pc_cert_text.specs.CertificateText.{tight_cell_text, read_text}
use Rattle.pc_cert_laws.proofs.Marks.{IsPlain, is_mark, free_join, name_plain, integer_plain, integer_some, IsWordText, plain_word}

-- a text that is cut into words with short names is spelled
pub spelled_words : (text : List ℕ) (ws : List Word) → Cuts text ws → HasShortNames ws → words.SpellsWords text ws
spelled_words text ws cuts short = record { utf8 = cuts_utf8 text ws cuts; has = has_words text ws cuts; short = short }

-- a thing that is the whole text
whole_text : {A : Type 0} (X : List Word → A → List Word → Type 0) (text : List ℕ) (a : A) (deep : ℕ) → Spells X text a deep → SpellsThis (λ ws b. X ws b []) text a
whole_text X text a deep spelled = record {
  words = spelled.words [];
  spells = spelled_words text (spelled.words []) (cuts_to_end text (spelled.words []) (spelled.cuts [] [] nothing done)) (spelled.short [] tt);
  is = spelled.derives [];
}

-- ---- plain texts

spelled_plain : (v : Values) (k : ValueId) → IsSpelledValue v k → IsPlain (text_among v k)
spelled_plain (listed names) k spelled = name_plain (unwrap_or (slice_get names k.0) []) spelled.characters
spelled_plain (range low high) k spelled = integer_plain (low +ℤ pos k.0) spelled

spelled_some : (v : Values) (k : ValueId) → IsSpelledValue v k → 0 < length (text_among v k)
spelled_some (listed names) k spelled = name_nonempty (unwrap_or (slice_get names k.0) []) spelled.characters
spelled_some (range low high) k spelled = integer_some (low +ℤ pos k.0) spelled

some_joined : (xs ys : List ℕ) → 0 < length xs → 0 < length (xs ++ ys)
some_joined [] ys some = absurd (omega (arith, some))
some_joined (x ∷ xs) ys some = omega arith

abbrev pub pair_of : Universe → Entry → WrittenPair
pair_of u e = record { cell = written_cell u e.cell; value = written_value u (sort_of u e.cell) e.value }

module _ (u : Universe) (formed : IsWellFormedUniverse u) where
  -- ---- values

  module _ (s : SortId) (v : ValueId) (below : v.0 < size_of u s) where
    spelled_here : Spells DerivesValue (value_text u s v) (written_value u s v) 0
    spelled_here = spell_value (values_at u s) v (value_spelled u formed s v below)

    pub value_text_is : IsValueText (value_text u s v) (written_value u s v)
    unfolding spelled_here
    value_text_is = whole_text DerivesValue (value_text u s v) (written_value u s v) 0 spelled_here

    pub value_plain : IsPlain (value_text u s v)
    value_plain = spelled_plain (values_at u s) v (value_spelled u formed s v below)

    pub value_some : 0 < length (value_text u s v)
    value_some = spelled_some (values_at u s) v (value_spelled u formed s v below)

  -- ---- cells

  values_plain : (ss : List SortId) (vs : List ValueId) → AreWithin (map (size_of u) ss) vs → IsPlain (flat_map (λ t. codes "," ++ t) (value_texts u ss vs))
  values_plain [] vs within = refl
  values_plain (s ∷ ss) [] within = absurd within
  values_plain (s ∷ ss) (v ∷ vs) within = free_join is_mark (value_text u s v) (flat_map (λ t. codes "," ++ t) (value_texts u ss vs)) (value_plain s v within.0) (values_plain ss vs within.1)

  tight_plain : (ss : List SortId) (vs : List ValueId) → AreWithin (map (size_of u) ss) vs → IsPlain (separated_arguments (codes ",") u ss vs)
  tight_plain [] vs within = refl
  tight_plain (s ∷ ss) [] within = absurd within
  tight_plain (s ∷ ss) (v ∷ vs) within =
      let others = flat_map (λ t. codes "," ++ t) (value_texts u ss vs) in
      free_join is_mark (value_text u s v ++ others) (codes ")") (free_join is_mark (value_text u s v) others (value_plain s v within.0) (values_plain ss vs within.1)) refl

  tight_are : (ss : List SortId) (vs : List ValueId) → AreWithin (map (size_of u) ss) vs → separated (codes ",") (value_texts u ss vs) ≡ separated_arguments (codes ",") u ss vs
  tight_are [] vs within = refl
  tight_are (s ∷ ss) [] within = absurd within
  tight_are (s ∷ ss) (v ∷ vs) within = refl

  spaced_are : (ss : List SortId) (vs : List ValueId) → AreWithin (map (size_of u) ss) vs → separated (codes ", ") (value_texts u ss vs) ≡ arguments_text u ss vs
  spaced_are [] vs within = refl
  spaced_are (s ∷ ss) [] within = absurd within
  spaced_are (s ∷ ss) (v ∷ vs) within = refl

  module _ (c : CellId) (within : c.0 < length (cell_sizes u)) where
    own : List ℕ
    own = name_of (family_of u c)

    own_named : IsName own
    unfolding own
    own_named = family_name u formed c (family_within u c within)

    spell_cell : (separator : List ℕ) → Separates separator → Spells DerivesCell (own ++ separated separator (value_texts u (argument_sorts (family_of u c)) (application_of u c).arguments)) (written_cell u c) 1
    unfolding own
    spell_cell separator separates =
        let ss = argument_sorts (family_of u c) in
        let vs = (application_of u c).arguments in
        let texts = value_texts u ss vs in
        let inner = spell_separated DerivesValue separator separates texts (written_values u ss vs) (spell_values u formed ss vs (arguments_within u c within)) in
        record {
          words = λ ws. name own ∷ inner.words ws;
          cuts = λ more ws ends cuts.
              subst (λ t. Cuts t (name own ∷ inner.words ws)) (sym (append_assoc own (separated separator texts) more))
              (cut_name own (separated separator texts ++ more) (inner.words ws) own_named (ends_separated separator texts more ends) (inner.cuts more ws ends cuts));
          derives = λ rest. a_cell own (inner.derives rest);
          shallow = λ rest. inner.shallow rest;
          short = λ rest few. (own_named.within, inner.short rest few);
        }

    spell_tight : Spells DerivesCell (tight_cell_text u c) (written_cell u c) 1
    unfolding own
    spell_tight = subst (λ t. Spells DerivesCell (own ++ t) (written_cell u c) 1) (tight_are (argument_sorts (family_of u c)) (application_of u c).arguments (arguments_within u c within)) (spell_cell (codes ",") comma_alone)

    spell_spaced : Spells DerivesCell (cell_text u c) (written_cell u c) 1
    unfolding own
    spell_spaced = subst (λ t. Spells DerivesCell (own ++ t) (written_cell u c) 1) (spaced_are (argument_sorts (family_of u c)) (application_of u c).arguments (arguments_within u c within)) (spell_cell (codes ", ") comma_blank)

    pub cell_text_is : IsCellText (tight_cell_text u c) (written_cell u c)
    cell_text_is = whole_text DerivesCell (tight_cell_text u c) (written_cell u c) 1 spell_tight

    pub cell_plain : IsPlain (tight_cell_text u c)
    unfolding own
    cell_plain = free_join is_mark own (separated_arguments (codes ",") u (argument_sorts (family_of u c)) (application_of u c).arguments) (name_plain own own_named.characters) (tight_plain (argument_sorts (family_of u c)) (application_of u c).arguments (arguments_within u c within))

    pub cell_some : 0 < length (tight_cell_text u c)
    unfolding own
    cell_some = some_joined own (separated_arguments (codes ",") u (argument_sorts (family_of u c)) (application_of u c).arguments) (name_nonempty own own_named.characters)

  -- ---- reads and entries

  module _ (e : Entry) (entered : IsEntryOf u e) where
    value_here : Spells DerivesValue (value_text u (sort_of u e.cell) e.value) (written_value u (sort_of u e.cell) e.value) 0
    value_here = spelled_here (sort_of u e.cell) e.value (entered_value u e entered (sort_of u e.cell) refl)

    pub read_text_is : IsReadText (read_text u e) (pair_of u e)
    read_text_is =
        let cell = spell_tight e.cell (entered_cell u e entered) in
        let value_part = value_text u (sort_of u e.cell) e.value in
        let behind = sign Equal ∷ value_here.words [] in
        let last = cuts_to_end value_part (value_here.words []) (value_here.cuts [] [] nothing done) in
        record {
          words = cell.words behind;
          spells = spelled_words (read_text u e) (cell.words behind) (cell.cuts (codes "=" ++ value_part) behind equal_sign (cut_equal last)) (cell.short behind (tt, value_here.short [] tt));
          is = record { rest = value_here.words []; cell = cell.derives behind; value = value_here.derives [] };
        }

    pub read_plain : IsPlain (read_text u e)
    read_plain =
        free_join is_mark (tight_cell_text u e.cell) (codes "=" ++ value_text u (sort_of u e.cell) e.value) (cell_plain e.cell (entered_cell u e entered))
        (value_plain (sort_of u e.cell) e.value (entered_value u e entered (sort_of u e.cell) refl))

    pub read_some : 0 < length (read_text u e)
    read_some = some_joined (tight_cell_text u e.cell) (codes "=" ++ value_text u (sort_of u e.cell) e.value) (cell_some e.cell (entered_cell u e entered))

    pub read_word : IsWordText (read_text u e)
    read_word = plain_word (read_text u e) read_plain read_some

    -- a cell, a sign between blanks, and a value, at the end of a line
    pub record SpellsEntry (k : Kind) (text : List ℕ) : Type 0 where
      pub words : List Word
      pub cuts : Cuts text words
      pub short : HasShortNames words
      pub is : IsWholePair k words (pair_of u e)

    pub spell_entry : (k : Kind) (middle : List ℕ) → ((more : List ℕ) (ws : List Word) → Cuts more ws → Cuts (middle ++ more) (sign k ∷ ws)) → ((more : List ℕ) → Ends (middle ++ more))
        → SpellsEntry k (cell_text u e.cell ++ (middle ++ value_text u (sort_of u e.cell) e.value))
    spell_entry k middle cut ends =
        let cell = spell_spaced e.cell (entered_cell u e entered) in
        let value_part = value_text u (sort_of u e.cell) e.value in
        let behind = sign k ∷ value_here.words [] in
        let last = cuts_to_end value_part (value_here.words []) (value_here.cuts [] [] nothing done) in
        record {
          words = cell.words behind;
          cuts = cell.cuts (middle ++ value_part) behind (ends value_part) (cut value_part (value_here.words []) last);
          short = cell.short behind (tt, value_here.short [] tt);
          is = record { rest = value_here.words []; cell = cell.derives behind; value = value_here.derives [] };
        }
