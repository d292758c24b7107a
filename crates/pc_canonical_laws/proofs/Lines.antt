-- The lines of a canonical text read back, each as its declaration.
use Rattle.std.proofs.Common.{◌≡◌, ◌≢◌, ℕ, zero, suc, ◌<◌, ◌≤◌, ◌^◌, ℤ, Bool, true, false, cond, List, [], ◌∷◌, ◌++◌, length, map, codes, All, Contains, arith, refl, ap, subst, sym, ◌∙◌, ⊎_elim}
use Rattle.std.proofs.lemmas.List.{append-nil, append_assoc, length-map}
use Rattle.std.proofs.lemmas.List.Elements.{All-head, All-tail}
use Rattle.std.proofs.lemmas.Fmt.{decimal_digit}
use Rattle.std.proofs.lemmas.Option.{slice_get-get_or}
use Rattle.std.proofs.lemmas.Str.{IsUtf8-nil}
use Rattle.std.specs.Prelude.{slice_index}
use Rattle.std.specs.Fmt.{decimal, signed_decimal}
use Rattle.std.specs.List.{flat_map}
use Rattle.pc_name.specs.Names.{is_reserved, most_name_bytes, IsName}
use Rattle.pc_name.specs.declared.sign.Op.TheVariants.{Eq}
use Rattle.pc_sheet.specs.Sheet.{Universe, NamedStatement, Values, listed, range, Table, Family, Sheet}
use Rattle.pc_sheet.specs.Sizes.{size_of, values_at, argument_sorts}
use Rattle.pc_sheet.specs.Entailment.{AreWithin}
use Rattle.pc_sheet.specs.WellFormed.{AreWellFormedValues, IsDeclaredSort, IsWellFormedUniverse, IsWellFormedTable, IsWellFormedFamily, IsWellFormedRule, IsEntryOf}
use Rattle.pc_sheet.specs.WellSorted.{names_of_values}
use Rattle.pc_sheet.specs.declared.ids.SortId.{SortId}
use Rattle.pc_sheet.specs.declared.ids.CellId.{CellId}
use Rattle.pc_sheet.specs.declared.ids.ValueId.{ValueId}
use Rattle.pc_sheet.specs.declared.ids.Entry.{Entry}
use Rattle.pc_token.specs.declared.token.Token.{Token}
use Rattle.pc_token.specs.Token.{is_blank, IsTokenOf}
use Rattle.pc_token.specs.declared.token.Kind.TheVariants.{Name, Equal, Colon, Range}
use Rattle.pc_formula.specs.Word.{Word, name, number, sign, HasWords}
use Rattle.pc_formula.specs.Value.{DerivesName, DerivesNumber, DerivesValue, a_cell}
use Rattle.pc_formula.specs.Tree.{Cell, Value}
use Rattle.pc_formula.specs.Equation.{IsEquation}
use Rattle.pc_syntax.specs.Tree.{Declared, list_sort, range_sort}
use Rattle.pc_syntax.specs.Spelling.{IsNothing}
use Rattle.pc_syntax.specs.Line.{LineForm, IsLine, IsForm, spelled_line, begin_line, declares, heading, begins, keyword, StandsBehind}
use Rattle.pc_writer.specs.Spelling.{value_texts, application_of, family_of, name_of, arguments_text, sort_of, value_text, entry_text}
use Rattle.pc_writer.specs.FormulaText.{in_parentheses, parenthesized, sort_name, statement_text}
use Rattle.pc_writer.specs.SheetText.{spaced, values_text, table_line, row_line, family_line, rule_line, enter_line, also_line, is_later, entry_line, needs_second, version, heading_line}
use Rattle.pc_writer.proofs.CellLemmas.{family_within, arguments_within, entered_cell, entered_value}
use Rattle.pc_canonical_laws.specs.Declarations.{written_values, values_declaration, table_declaration, row_declaration, family_declaration, rule_declaration, written_cell, written_value, also_declaration, enter_declaration, entry_declaration}
use Rattle.pc_canonical_laws.specs.ReadBack.{AreVariablesNamed}
use Rattle.pc_canonical_laws.proofs.Counting.{levels, levels_are, integer_levels, nests_as_counted}
use Rattle.pc_canonical_laws.proofs.Cuts.{Cuts, done, blank, cuts_utf8, splits_from_cuts, is_ascii_text, ascii_utf8, token_here}
use Rattle.pc_canonical_laws.proofs.Cutting.{Ends, nothing, space, opened, ends_stop, cut_name, cut_integer, cut_digits}
use Rattle.pc_canonical_laws.proofs.CuttingStatements.{CutsAs, all_letters, letters, cut_statement}
use Rattle.pc_canonical_laws.proofs.Deriving.{derive_whole, derive_integer, derive_number}
use Rattle.pc_canonical_laws.proofs.Signs.{cut_spaced_colon, cut_range, cut_op}
use Rattle.pc_canonical_laws.proofs.Spelled.{spelled_statement, family_named, sort_named, short_small, value_spelled}
use Rattle.pc_canonical_laws.proofs.SpelledLists.{SpellAll, spell_name, spell_value, spell_enclosed, spell_arguments, ends_parentheses, some_parentheses}
use Rattle.pc_canonical_laws.proofs.Unbroken.{IsUnbroken, cuts_unbroken}
use Rattle.pc_canonical_laws.proofs.Words.{statement_words, integer_words}

-- the line is one line and has the form
pub record ReadsAsLine (line : List ℕ) (form : LineForm) : Type 0 where
  pub is : IsLine line form
  pub whole : IsUnbroken line

-- ---- what all lines share

-- no name at all is every name
none_named : AreVariablesNamed []
none_named k below = absurd (omega (arith, below))

-- a line that begins with neither a blank nor a semicolon says something
says_something : (b : ℕ) (rest : List ℕ) → is_blank b ≡ false → b ≢ 59 → IsNothing (b ∷ rest) → ⊥
says_something b rest filled other none = ⊎_elim (λ blanks. clash (blanks 0 (omega arith) (omega arith))) (λ comment. remark comment.0 comment.1 comment.2) none.empty
  where
    clash : is_blank b ≡ true → ⊥
    clash seen = absurd (cc)

    remark : (at : ℕ) → ((i : ℕ) → 0 ≤ i → i < at → is_blank (slice_index (b ∷ rest) i) ≡ true) → slice_index (b ∷ rest) at ≡ 59 → ⊥
    remark zero blanks here = other here
    remark (suc at) blanks here = clash (blanks 0 (omega arith) (omega arith))

-- a text that is cut into words is split into them
pub has_words : (text : List ℕ) (ws : List Word) → Cuts text ws → HasWords text ws
has_words text ws cuts =
    let found = splits_from_cuts text ws cuts in
    record { tokens = found.0; splits = found.1; words = sym found.2 }

-- a word that may start a line
record StartsLine (b : ℕ) (bs : List ℕ) : Type 0 where
  pub named : IsName (b ∷ bs)
  pub filled : is_blank b ≡ false
  pub other : b ≢ 59

-- a word of small letters that is no reserved one
starts_line : (b : ℕ) (bs : List ℕ) → all_letters (b ∷ bs) ≡ true → is_reserved (b ∷ bs) ≡ false → length (b ∷ bs) ≤ most_name_bytes → is_blank b ≡ false → b ≢ 59 → StartsLine b bs
starts_line b bs small free short filled other = record { named = record { characters = letters b bs small; not_reserved = free; within = short }; filled = filled; other = other }

-- the words that start a line of several words

table_starts : StartsLine 116 (97 ∷ 98 ∷ 108 ∷ 101 ∷ [])
unfolding all_letters
table_starts = starts_line _ _ refl refl (omega arith) refl (omega arith)

row_starts : StartsLine 114 (111 ∷ 119 ∷ [])
unfolding all_letters
row_starts = starts_line _ _ refl refl (omega arith) refl (omega arith)

cell_starts : StartsLine 99 (101 ∷ 108 ∷ 108 ∷ [])
unfolding all_letters
cell_starts = starts_line _ _ refl refl (omega arith) refl (omega arith)

enter_starts : StartsLine 101 (110 ∷ 116 ∷ 101 ∷ 114 ∷ [])
unfolding all_letters
enter_starts = starts_line _ _ refl refl (omega arith) refl (omega arith)

also_starts : StartsLine 97 (108 ∷ 115 ∷ 111 ∷ [])
unfolding all_letters
also_starts = starts_line _ _ refl refl (omega arith) refl (omega arith)

sheet_starts : StartsLine 115 (104 ∷ 101 ∷ 101 ∷ 116 ∷ [])
unfolding all_letters
sheet_starts = starts_line _ _ refl refl (omega arith) refl (omega arith)

rule_starts : StartsLine 114 (117 ∷ 108 ∷ 101 ∷ [])
unfolding all_letters
rule_starts = starts_line _ _ refl refl (omega arith) refl (omega arith)

sort_starts : StartsLine 115 (111 ∷ 114 ∷ 116 ∷ [])
unfolding all_letters
sort_starts = starts_line _ _ refl refl (omega arith) refl (omega arith)

-- a line of that word and what is cut into further words has the form of these
line_from_words : (b : ℕ) (bs : List ℕ) → StartsLine b bs → (form : LineForm) (rest : List ℕ) (ws : List Word) → Cuts rest ws → levels ws ≤ 128 → IsForm (name (b ∷ bs) ∷ ws) form → ReadsAsLine ((b ∷ bs) ++ 32 ∷ rest) form
line_from_words b bs starts form rest ws cuts shallow is =
    let line = (b ∷ bs) ++ 32 ∷ rest in
    let all = name (b ∷ bs) ∷ ws in
    let whole : Cuts line all = cut_name (b ∷ bs) (32 ∷ rest) ws starts.named space (blank cuts) in
    record {
      is = spelled_line all
          (record {
            split = record { utf8 = cuts_utf8 line all whole; something = says_something b (bs ++ 32 ∷ rest) starts.filled starts.other; has = has_words line all whole };
            within = omega (arith, shallow, levels_are all);
          })
          is;
      whole = cuts_unbroken line all whole;
    }

-- a declaration's line
declaration_from_words : (b : ℕ) (bs : List ℕ) → StartsLine b bs → (d : Declared) → keyword d ≡ b ∷ bs → (rest : List ℕ) (ws : List Word) → Cuts rest ws → levels ws ≤ 128 → StandsBehind d ws → ReadsAsLine ((b ∷ bs) ++ 32 ∷ rest) (declares d)
declaration_from_words b bs starts d word rest ws cuts shallow follows =
    line_from_words b bs starts (declares d) rest ws cuts shallow (record { rest = ws; words = ap (λ start. name start ∷ ws) (sym word); follows = follows })

-- to the text's end
pub cuts_to_end : (text : List ℕ) (ws : List Word) → Cuts (text ++ []) ws → Cuts text ws
cuts_to_end text ws cuts = subst (λ t. Cuts t ws) (append-nil text) cuts

-- ---- the first line and the last one

-- a version of one digit
version_reads_back : (n : ℕ) (text : List ℕ) → decimal n ≡ text → n < 10 ^ 18 → ReadsAsLine (codes "sheet " ++ text) (heading n)
version_reads_back n text written short =
    let cuts = cuts_to_end (decimal n) (number (decimal n) ∷ []) (cut_digits n [] [] short nothing done) in
    line_from_words _ _ sheet_starts (heading n) text (number text ∷ []) (subst (λ l. Cuts l (number l ∷ [])) written cuts) (omega arith)
    (record { rest = number text ∷ []; words = refl; number = subst (λ l. DerivesNumber (number l ∷ []) n []) written (derive_number n [] short) })

pub heading_reads_back : (s : Sheet) → ReadsAsLine (heading_line s) (heading (version s))
heading_reads_back s = by (needs_second s)
  where
    by : (b : Bool) → ReadsAsLine (cond b (codes "sheet 2") (codes "sheet 1")) (heading (cond b 2 1))
    by true = version_reads_back 2 (codes "2") (decimal_digit 2 (omega arith)) (omega arith)
    by false = version_reads_back 1 (codes "1") (decimal_digit 1 (omega arith)) (omega arith)

pub begin_reads_back : ReadsAsLine (codes "begin") begins
unfolding is_ascii_text all_letters
begin_reads_back =
    let utf8 = ascii_utf8 (codes "begin") refl in
    let named = letters 98 (101 ∷ 103 ∷ 105 ∷ 110 ∷ []) refl in
    let t : Token = record { kind = Name; start = 0; end = 5 } in
    let token : IsTokenOf (codes "begin") t = token_here [] (codes "begin") [] Name (omega arith) utf8 IsUtf8-nil (named, ends_stop [] nothing) in
    record {
      is = begin_line (record {
        utf8 = utf8;
        name = (t, (omega arith, (λ i after before. absurd (omega arith)), token, (omega arith, λ i after before. absurd (omega (arith, after, before)))), refl, refl);
      });
      whole = refl;
    }

-- ---- rules

pub rule_reads_back : (u : Universe) (r : NamedStatement) → IsWellFormedUniverse u → IsWellFormedRule u r → ReadsAsLine (rule_line u r) (declares (rule_declaration u r))
unfolding CutsAs
rule_reads_back u r formed well =
    let spelled = spelled_statement u formed [] none_named r.states well.sorted in
    let text = statement_text u [] r.states in
    let words = statement_words u [] r.states [] in
    let cuts : Cuts text words = cuts_to_end text words (cut_statement u [] r.states spelled [] [] nothing done) in
    let behind : Cuts (r.name ++ (codes " : " ++ text)) (name r.name ∷ sign Colon ∷ words) = cut_name r.name _ _ well.named space (cut_spaced_colon cuts) in
    declaration_from_words _ _ rule_starts (rule_declaration u r) refl _ _ behind (omega (arith, levels_are words, nests_as_counted u [] r.states spelled, well.nesting))
    (record { rest = words; words = refl; formula = derive_whole u [] r.states spelled })

-- ---- sorts

ends_names : (names : List (List ℕ)) → Ends (flat_map spaced names)
ends_names [] = nothing
ends_names (n ∷ names) = space

cut_names : (names : List (List ℕ)) → ((n : List ℕ) → Contains names n → IsName n) → Cuts (flat_map spaced names) (map name names)
cut_names [] named = done
cut_names (n ∷ names) named =
    blank (cut_name n _ _ (named n (0, omega arith, refl)) (ends_names names) (cut_names names (λ m there. named m (suc there.0, omega (arith, there.1), there.2))))

names_shallow : (names : List (List ℕ)) → levels (map name names) ≡ 0
names_shallow [] = refl
names_shallow (n ∷ names) = names_shallow names

bounds_shallow : (low high : ℤ) → levels (integer_words low (sign Range ∷ integer_words high [])) ≡ 0
bounds_shallow low high = integer_levels low (sign Range ∷ integer_words high []) ∙ integer_levels high []

pub values_read_back : (n : List ℕ) (v : Values) → IsName n → AreWellFormedValues v → ((m : List ℕ) → Contains (names_of_values v) m → IsName m) → ReadsAsLine (codes "sort " ++ (n ++ (codes " =" ++ values_text v))) (declares (values_declaration n v))
values_read_back n (listed []) named well each = absurd (omega (arith, well.0))
values_read_back n (listed (first ∷ names)) named well each =
    let cuts = cut_name first _ _ (each first (0, omega arith, refl)) (ends_names names) (cut_names names (λ m there. each m (suc there.0, omega (arith, there.1), there.2))) in
    let behind : Cuts (n ++ (codes " =" ++ values_text (listed (first ∷ names)))) (name n ∷ sign Equal ∷ map name (first ∷ names)) = cut_name n _ _ named space (cut_op cuts Eq) in
    declaration_from_words _ _ sort_starts (list_sort n (first ∷ names)) refl _ _ behind (omega (arith, names_shallow names)) refl
values_read_back n (range low high) named well each =
    let short_low = short_small low well.0 in
    let short_high = short_small high well.1 in
    let last = cuts_to_end (signed_decimal high) (integer_words high []) (cut_integer high [] [] short_high nothing done) in
    let cuts = cut_integer low _ _ short_low space (cut_range last) in
    let words = integer_words low (sign Range ∷ integer_words high []) in
    let behind : Cuts (n ++ (codes " =" ++ values_text (range low high))) (name n ∷ sign Equal ∷ words) = cut_name n _ _ named space (cut_op cuts Eq) in
    declaration_from_words _ _ sort_starts (range_sort n low high) refl _ _ behind (omega (arith, bounds_shallow low high))
    (record { rest = words; words = refl; bounds = record { rest = integer_words high []; first = derive_integer low _ short_low; second = derive_integer high [] short_high } })

-- ---- lists of names and of values

module _ (u : Universe) (formed : IsWellFormedUniverse u) where
  spell_sorts : (ss : List SortId) → All (IsDeclaredSort u) ss → SpellAll DerivesName (map (sort_name u) ss) (map (sort_name u) ss)
  spell_sorts [] declared = tt
  spell_sorts (s ∷ ss) declared = (spell_name (sort_name u s) (sort_named u formed s (All-head (IsDeclaredSort u) s ss declared)), spell_sorts ss (All-tail (IsDeclaredSort u) s ss declared))

  pub spell_values : (ss : List SortId) (vs : List ValueId) → AreWithin (map (size_of u) ss) vs → SpellAll DerivesValue (value_texts u ss vs) (written_values u ss vs)
  spell_values [] vs within = tt
  spell_values (s ∷ ss) [] within = absurd within
  spell_values (s ∷ ss) (v ∷ vs) within = (spell_value (values_at u s) v (value_spelled u formed s v within.0), spell_values ss vs within.1)

  some_values : (ss : List SortId) (vs : List ValueId) → AreWithin (map (size_of u) ss) vs → 1 ≤ length ss → 1 ≤ length (value_texts u ss vs)
  some_values [] vs within some = absurd (omega (arith, some))
  some_values (s ∷ ss) [] within some = absurd within
  some_values (s ∷ ss) (v ∷ vs) within some = omega arith

  arguments_are : (ss : List SortId) (vs : List ValueId) → AreWithin (map (size_of u) ss) vs → arguments_text u ss vs ≡ in_parentheses (value_texts u ss vs)
  arguments_are [] vs within = refl
  arguments_are (s ∷ ss) [] within = absurd within
  arguments_are (s ∷ ss) (v ∷ vs) within = refl

  -- ---- tables and rows

  pub table_reads_back : (t : Table) → IsName t.name → IsWellFormedTable u t → ReadsAsLine (table_line u t) (declares (table_declaration u t))
  table_reads_back t named well =
      let names = map (sort_name u) t.sorts in
      let many = length-map t.sorts (sort_name u) in
      let some : 1 ≤ length names = omega (arith, many, well.some_argument) in
      let spelled = spell_enclosed DerivesName names names some (spell_sorts t.sorts well.sorts) in
      let text = parenthesized names in
      let cuts = cuts_to_end text (spelled.words []) (spelled.cuts [] [] nothing done) in
      let behind : Cuts (t.name ++ text) (name t.name ∷ spelled.words []) = cut_name t.name text _ named opened cuts in
      let read = declaration_from_words _ _ table_starts (table_declaration u t) refl _ _ behind (omega (arith, spelled.shallow [])) (record { rest = spelled.words []; words = refl; listed = spelled.derives [] }) in
      subst (λ l. ReadsAsLine (codes "table " ++ (t.name ++ l)) (declares (table_declaration u t))) (sym (some_parentheses names some)) read

  pub row_reads_back : (t : Table) (vs : List ValueId) → IsName t.name → 1 ≤ length t.sorts → AreWithin (map (size_of u) t.sorts) vs → ReadsAsLine (row_line u t vs) (declares (row_declaration u t vs))
  row_reads_back t vs named some within =
      let spelled = spell_enclosed DerivesValue (value_texts u t.sorts vs) (written_values u t.sorts vs) (some_values t.sorts vs within some) (spell_values t.sorts vs within) in
      let text = parenthesized (value_texts u t.sorts vs) in
      let cuts = cuts_to_end text (spelled.words []) (spelled.cuts [] [] nothing done) in
      let behind : Cuts (t.name ++ text) (name t.name ∷ spelled.words []) = cut_name t.name text _ named opened cuts in
      declaration_from_words _ _ row_starts (row_declaration u t vs) refl _ _ behind (omega (arith, spelled.shallow [])) (record { rest = spelled.words []; words = refl; listed = spelled.derives [] })

  -- ---- families

  pub family_reads_back : (f : Family) → IsName f.name → IsWellFormedFamily u f → ReadsAsLine (family_line u f) (declares (family_declaration u f))
  family_reads_back f named well =
      let names = map (sort_name u) f.sorts in
      let result = sort_name u f.result_sort in
      let spelled = spell_arguments DerivesName names names (spell_sorts f.sorts well.sorts) in
      let last = cuts_to_end result (name result ∷ []) (cut_name result [] [] (sort_named u formed f.result_sort well.result_sort) nothing done) in
      let end = sign Colon ∷ name result ∷ [] in
      let cuts = spelled.cuts (codes " : " ++ result) end space (cut_spaced_colon last) in
      let behind : Cuts (f.name ++ (in_parentheses names ++ (codes " : " ++ result))) (name f.name ∷ spelled.words end) = cut_name f.name _ _ named (ends_parentheses names (codes " : " ++ result) space) cuts in
      declaration_from_words _ _ cell_starts (family_declaration u f) refl _ _ behind (omega (arith, spelled.shallow end)) (record { rest = spelled.words end; words = refl; arguments = spelled.derives end })

  -- ---- entries

  pub family_name : (c : CellId) → (application_of u c).family.0 < length u.families → IsName (name_of (family_of u c))
  family_name c below =
      let f = (application_of u c).family in
      subst (λ found. IsName (name_of found)) (sym (slice_get-get_or u.families f.0 (record { name = []; sorts = []; result_sort = record { 0 = 0 } }) below)) (family_named u formed f below)

  -- the words of an entry
  record SpellsEntry (text : List ℕ) (c : Cell) (v : Value) : Type 0 where
    words : List Word
    cuts : Cuts text words
    shallow : levels words ≤ 128
    is : IsEquation words Equal c v

  entry_spelled : (e : Entry) → IsEntryOf u e → SpellsEntry (entry_text u e) (written_cell u e.cell) (written_value u (sort_of u e.cell) e.value)
  entry_spelled e entered =
      let within = entered_cell u e entered in
      let own = name_of (family_of u e.cell) in
      let ss = argument_sorts (family_of u e.cell) in
      let vs = (application_of u e.cell).arguments in
      let fit = arguments_within u e.cell within in
      let texts = value_texts u ss vs in
      let spelled = spell_arguments DerivesValue texts (written_values u ss vs) (spell_values ss vs fit) in
      let s = sort_of u e.cell in
      let value = spell_value (values_at u s) e.value (value_spelled u formed s e.value (entered_value u e entered s refl)) in
      let value_part = value_text u s e.value in
      let last = cuts_to_end value_part (value.words []) (value.cuts [] [] nothing done) in
      let end = sign Equal ∷ value.words [] in
      let cuts = spelled.cuts (codes " = " ++ value_part) end space (cut_op last Eq) in
      let named = family_name e.cell (family_within u e.cell within) in
      let behind : Cuts (own ++ (in_parentheses texts ++ (codes " = " ++ value_part))) (name own ∷ spelled.words end) = cut_name own _ _ named (ends_parentheses texts (codes " = " ++ value_part) space) cuts in
      let same = ap (λ l. own ++ (l ++ (codes " = " ++ value_part))) (sym (arguments_are ss vs fit)) ∙ sym (append_assoc own (arguments_text u ss vs) (codes " = " ++ value_part)) in
      record {
        words = name own ∷ spelled.words end;
        cuts = subst (λ l. Cuts l (name own ∷ spelled.words end)) same behind;
        shallow = omega (arith, spelled.shallow end, value.shallow []);
        is = record { rest = value.words []; cell = a_cell own (spelled.derives end); value = value.derives [] };
      }

  enter_reads_back : (e : Entry) → IsEntryOf u e → ReadsAsLine (enter_line u e) (declares (enter_declaration u e))
  enter_reads_back e entered =
      let spelled = entry_spelled e entered in
      declaration_from_words _ _ enter_starts (enter_declaration u e) refl (entry_text u e) spelled.words spelled.cuts spelled.shallow spelled.is

  also_reads_back : (e : Entry) → IsEntryOf u e → ReadsAsLine (also_line u e) (declares (also_declaration u e))
  also_reads_back e entered =
      let spelled = entry_spelled e entered in
      declaration_from_words _ _ also_starts (also_declaration u e) refl (entry_text u e) spelled.words spelled.cuts spelled.shallow spelled.is

  pub entry_reads_back : (older : List Entry) (e : Entry) → IsEntryOf u e → ReadsAsLine (entry_line u older e) (declares (entry_declaration u older e))
  entry_reads_back older e entered = by (is_later older e)
    where
      by : (b : Bool) → ReadsAsLine (cond b (also_line u e) (enter_line u e)) (declares (cond b (also_declaration u e) (enter_declaration u e)))
      by true = also_reads_back e entered
      by false = enter_reads_back e entered
