-- The lines of a derivation are read as what they are written from.
use Rattle.std.proofs.Common.{◌≡◌, ◌≢◌, ℕ, ◌+◌, ◌<◌, ◌^◌, List, [], ◌∷◌, ◌++◌, length, map, All, codes, arith, refl, ◌∙◌, ap}
use Rattle.std.proofs.lemmas.List.Elements.{All-head, All-tail}
use Rattle.std.specs.List.{flat_map, AllByRecursion}
use Rattle.pc_sheet.specs.Sheet.{Sheet}
use Rattle.pc_sheet.specs.Entailment.{cell_sizes}
use Rattle.pc_sheet.specs.WellFormed.{IsWellFormed, IsEntryOf}
use Rattle.pc_sheet.specs.declared.ids.CellId.{CellId}
use Rattle.pc_sheet.specs.declared.ids.ValueId.{ValueId}
use Rattle.pc_sheet.specs.declared.ids.Entry.{Entry}
use Rattle.pc_accept.specs.Literals.{Literal}
use Rattle.pc_accept.specs.Axioms.{Axiom, axiom_some, axiom_one, axiom_rule, axiom_node, axiom_atom}
use Rattle.pc_accept.specs.Accepts.{Line}
use Rattle.pc_accept.specs.Accepts as accepts
use Rattle.pc_accept.specs.Writable.{IsPathOf, IsSymbolOf, IsAxiomOf, IsLineBeside}
use Rattle.pc_writer.specs.Spelling.{value_text, sort_of}
use Rattle.pc_writer.proofs.CellLemmas.{entered_cell, entered_value}
use Rattle.pc_canonical_laws.specs.Declarations.{written_value, written_cell}
use Rattle.pc_canonical_laws.proofs.Unbroken.{is_line_end}
use Rattle.pc_cert.specs.Written.{WrittenPart, written_some, written_one, written_rule, written_node_clause, written_atom, written_step, written_block, CertificatePart, taken, blocked}
use Rattle.pc_cert.specs.Texts.{AreAll, IsReadText, IsNumberText, IsLiteralText}
use Rattle.pc_cert.specs.Words.{texts_of}
use Rattle.pc_cert.specs.Line.{FollowsPart, part_word}
use Rattle.pc_cert.specs.Meaning.{AreNamedEach, IsLiteralNamed, IsPartNamed}
use Rattle.pc_cert.specs.Claims.{IsPairNamed}
use Rattle.pc_cert_text.specs.CertificateText.{number_text, tight_cell_text, read_text, name_of_rule_at, path_text, literal_text, behind_blank, axiom_text, derivation_line_text}
use Rattle.pc_cert_laws.specs.Said.{part_of}
use Rattle.pc_cert_laws.proofs.Marks.{IsFree, free_join, number_plain, number_some, number_text_is, IsWordText, plain_word}
use Rattle.pc_cert_laws.proofs.Words.{texts_more, texts_last, texts_behind, texts_between, AreWordTexts, whole_behind}
use Rattle.pc_canonical_laws.proofs.Entries.{cell_stands, entry_stands}
use Rattle.pc_canonical_laws.proofs.Values.{value_stands}
use Rattle.pc_cert_laws.proofs.Standing.{rule_stands}
use Rattle.pc_cert_laws.proofs.Spelled.{pair_of, value_text_is, value_plain, value_some, cell_text_is, cell_plain, cell_some, read_text_is, read_word}
use Rattle.pc_cert_laws.proofs.Paths.{name_text_is, name_word, written_path, path_text_is, path_word, node_stands, written_literal, literal_spelled, literal_stands}

-- the text, behind a line's number and so many sets, is a part that is written so and stands for this
pub record ReadsAsPart (sheet : Sheet) (sets : ℕ) (text : List ℕ) (p : CertificatePart) : Type 0 where
  pub written : WrittenPart
  pub more : List (List ℕ)
  pub are : texts_of text ≡ part_word written ∷ more
  pub follows : FollowsPart written more
  pub named : IsPartNamed sheet sets written p
  pub whole : IsFree is_line_end text

pub number_word : (n : ℕ) → n < 10 ^ 18 → IsWordText (number_text n)
number_word n short = plain_word (number_text n) (number_plain n short) (number_some n short)

module _ (sheet : Sheet) (formed : IsWellFormed sheet) where
  -- ---- lists

  reads_are : (es : List Entry) → All (IsEntryOf sheet.universe) es → AreAll IsReadText (map (read_text sheet.universe) es) (map (pair_of sheet.universe) es)
  reads_are [] all = tt
  reads_are (e ∷ es) all = (read_text_is sheet.universe formed.universe e (All-head (IsEntryOf sheet.universe) e es all), reads_are es (All-tail (IsEntryOf sheet.universe) e es all))

  reads_words : (es : List Entry) → All (IsEntryOf sheet.universe) es → AreWordTexts (read_text sheet.universe) es
  reads_words [] all = tt
  reads_words (e ∷ es) all = (read_word sheet.universe formed.universe e (All-head (IsEntryOf sheet.universe) e es all), reads_words es (All-tail (IsEntryOf sheet.universe) e es all))

  reads_stand : (es : List Entry) → All (IsEntryOf sheet.universe) es → AreNamedEach (IsPairNamed sheet.universe) (map (pair_of sheet.universe) es) es
  reads_stand [] all = tt
  reads_stand (e ∷ es) all = (entry_stands sheet.universe e (All-head (IsEntryOf sheet.universe) e es all), reads_stand es (All-tail (IsEntryOf sheet.universe) e es all))

  abbrev AreOfSheet : List Literal → Type 0
  AreOfSheet ls = All (λ l. IsSymbolOf sheet l.what) ls

  own : (l : Literal) (ls : List Literal) → AreOfSheet (l ∷ ls) → IsSymbolOf sheet l.what
  own l ls all = All-head (λ (m : Literal). IsSymbolOf sheet m.what) l ls all

  others : (l : Literal) (ls : List Literal) → AreOfSheet (l ∷ ls) → AreOfSheet ls
  others l ls all = All-tail (λ (m : Literal). IsSymbolOf sheet m.what) l ls all

  literals_are : (ls : List Literal) → AreOfSheet ls → AreAll IsLiteralText (map (literal_text sheet) ls) (map (written_literal sheet formed) ls)
  literals_are [] all = tt
  literals_are (l ∷ ls) all = ((literal_spelled sheet formed l (own l ls all)).is, literals_are ls (others l ls all))

  literals_words : (ls : List Literal) → AreOfSheet ls → AreWordTexts (literal_text sheet) ls
  literals_words [] all = tt
  literals_words (l ∷ ls) all = ((literal_spelled sheet formed l (own l ls all)).word, literals_words ls (others l ls all))

  literals_other : (ls : List Literal) → AreOfSheet ls → AllByRecursion (λ text. text ≢ codes ":") (map (literal_text sheet) ls)
  literals_other [] all = tt
  literals_other (l ∷ ls) all = ((literal_spelled sheet formed l (own l ls all)).other, literals_other ls (others l ls all))

  literals_stand : (ls : List Literal) → AreOfSheet ls → AreNamedEach (IsLiteralNamed sheet) (map (written_literal sheet formed) ls) ls
  literals_stand [] all = tt
  literals_stand (l ∷ ls) all = (literal_stands sheet formed l (own l ls all), literals_stand ls (others l ls all))

  abbrev hint_number : ℕ → List ℕ
  hint_number h = number_text (h + 1)

  module _ (place : ℕ) (few : place < 10 ^ 18) where
    hint_short : (h : ℕ) (hs : List ℕ) → All (λ k. k < place) (h ∷ hs) → h + 1 < 10 ^ 18
    hint_short h hs all = let first = All-head (λ (k : ℕ). k < place) h hs all in omega (arith, first, few)

    hint_rest : (h : ℕ) (hs : List ℕ) → All (λ k. k < place) (h ∷ hs) → All (λ k. k < place) hs
    hint_rest h hs all = All-tail (λ (k : ℕ). k < place) h hs all

    hints_are : (hs : List ℕ) → All (λ k. k < place) hs → AreAll IsNumberText (map hint_number hs) (map (λ h. h + 1) hs)
    hints_are [] all = tt
    hints_are (h ∷ hs) all = (number_text_is (h + 1) (hint_short h hs all), hints_are hs (hint_rest h hs all))

    hints_words : (hs : List ℕ) → All (λ k. k < place) hs → AreWordTexts hint_number hs
    hints_words [] all = tt
    hints_words (h ∷ hs) all = (number_word (h + 1) (hint_short h hs all), hints_words hs (hint_rest h hs all))

  -- ---- behind so many sets

  module _ (sets : ℕ) where
    -- ---- axioms

    some_reads : (c : CellId) → c.0 < length (cell_sizes sheet.universe) → ReadsAsPart sheet sets (axiom_text sheet (axiom_some c)) (taken (axiom_some c))
    some_reads c within =
        let u = sheet.universe in
        let cell = tight_cell_text u c in
        let cell_word = plain_word cell (cell_plain u formed.universe c within) (cell_some u formed.universe c within) in
        record {
          written = written_some (written_cell u c);
          more = cell ∷ [];
          are = texts_more (codes "some") cell (record { solid = refl; whole = refl; some = omega arith }) ∙ ap (λ ts. codes "some" ∷ ts) (texts_last cell cell_word);
          follows = record { cell = cell; are = refl; is_cell = cell_text_is u formed.universe c within };
          named = (sort_of u c, cell_stands u c within);
          whole = cell_word.whole;
        }

    one_reads : (c : CellId) (v w : ValueId) → IsEntryOf sheet.universe (record { cell = c; value = v }) → IsEntryOf sheet.universe (record { cell = c; value = w }) → ReadsAsPart sheet sets (axiom_text sheet (axiom_one c v w)) (taken (axiom_one c v w))
    one_reads c v w first second =
        let u = sheet.universe in
        let s = sort_of u c in
        let e : Entry = record { cell = c; value = v } in
        let f : Entry = record { cell = c; value = w } in
        let within = entered_cell u e first in
        let first_below = entered_value u e first s refl in
        let second_below = entered_value u f second s refl in
        let cell = tight_cell_text u c in
        let one = value_text u s v in
        let two = value_text u s w in
        let cell_word = plain_word cell (cell_plain u formed.universe c within) (cell_some u formed.universe c within) in
        let one_word = plain_word one (value_plain u formed.universe s v first_below) (value_some u formed.universe s v first_below) in
        let two_word = plain_word two (value_plain u formed.universe s w second_below) (value_some u formed.universe s w second_below) in
        record {
          written = written_one (written_cell u c) (written_value u s v) (written_value u s w);
          more = cell ∷ one ∷ two ∷ [];
          are =
              texts_more (codes "one") (cell ++ 32 ∷ (one ++ 32 ∷ two)) (record { solid = refl; whole = refl; some = omega arith })
              ∙ ap (λ ts. codes "one" ∷ ts) (texts_more cell (one ++ 32 ∷ two) cell_word ∙ ap (λ ts. cell ∷ ts) (texts_more one two one_word ∙ ap (λ ts. one ∷ ts) (texts_last two two_word)));
          follows = record {
            cell = cell;
            first = one;
            second = two;
            are = refl;
            is_cell = cell_text_is u formed.universe c within;
            is_first = value_text_is u formed.universe s v first_below;
            is_second = value_text_is u formed.universe s w second_below;
          };
          named = record { sort = s; cell = cell_stands u c within; first_value = value_stands u s v first_below; second_value = value_stands u s w second_below };
          whole = free_join is_line_end cell (32 ∷ (one ++ 32 ∷ two)) cell_word.whole (free_join is_line_end one (32 ∷ two) one_word.whole two_word.whole);
        }

    rule_reads : (r : ℕ) → r < length sheet.rules → ReadsAsPart sheet sets (axiom_text sheet (axiom_rule r)) (taken (axiom_rule r))
    rule_reads r below =
        let name = name_of_rule_at sheet r in
        let own_word = name_word sheet formed r below in
        record {
          written = written_rule name;
          more = name ∷ [];
          are = texts_more (codes "rule") name (record { solid = refl; whole = refl; some = omega arith }) ∙ ap (λ ts. codes "rule" ∷ ts) (texts_last name own_word);
          follows = (refl, name_text_is sheet formed r below);
          named = rule_stands sheet r below;
          whole = own_word.whole;
        }

    node_reads : (r : ℕ) (steps : List ℕ) (i : ℕ) → IsPathOf sheet r steps → i < 2 ^ 32 → ReadsAsPart sheet sets (axiom_text sheet (axiom_node r steps i)) (taken (axiom_node r steps i))
    node_reads r steps i is small =
        let path = path_text sheet r steps in
        let own_word = path_word sheet formed r steps is in
        let count = number_word i (omega (arith, small)) in
        record {
          written = written_node_clause (written_path sheet formed r steps) i;
          more = path ∷ number_text i ∷ [];
          are =
              texts_more (codes "node") (path ++ 32 ∷ number_text i) (record { solid = refl; whole = refl; some = omega arith })
              ∙ ap (λ ts. codes "node" ∷ ts) (texts_more path (number_text i) own_word ∙ ap (λ ts. path ∷ ts) (texts_last (number_text i) count));
          follows = record { path = path; number = number_text i; are = refl; is_path = path_text_is sheet formed r steps is; is_number = number_text_is i (omega (arith, small)); within = omega (arith, small) };
          named = (node_stands sheet formed r steps is, refl);
          whole = free_join is_line_end path (32 ∷ number_text i) own_word.whole count.whole;
        }

    atom_reads : (r : ℕ) (steps : List ℕ) (es : List Entry) → IsPathOf sheet r steps → All (IsEntryOf sheet.universe) es → ReadsAsPart sheet sets (axiom_text sheet (axiom_atom r steps es)) (taken (axiom_atom r steps es))
    atom_reads r steps es is all =
        let u = sheet.universe in
        let path = path_text sheet r steps in
        let own_word = path_word sheet formed r steps is in
        let reads = flat_map (λ e. behind_blank (read_text u e)) es in
        record {
          written = written_atom (written_path sheet formed r steps) (map (pair_of u) es);
          more = path ∷ map (read_text u) es;
          are =
              texts_more (codes "atom") (path ++ reads) (record { solid = refl; whole = refl; some = omega arith })
              ∙ ap (λ ts. codes "atom" ∷ ts) (texts_behind (read_text u) es path own_word (reads_words es all));
          follows = record { path = path; others = map (read_text u) es; are = refl; is_path = path_text_is sheet formed r steps is; are_reads = reads_are es all };
          named = (node_stands sheet formed r steps is, reads_stand es all);
          whole = free_join is_line_end path reads own_word.whole (whole_behind (read_text u) es (reads_words es all));
        }

    axiom_reads : (a : Axiom) → IsAxiomOf sheet a → ReadsAsPart sheet sets (axiom_text sheet a) (taken a)
    axiom_reads (axiom_some c) is = some_reads c is
    axiom_reads (axiom_one c v w) is = one_reads c v w is.0 is.1
    axiom_reads (axiom_rule r) is = rule_reads r is
    axiom_reads (axiom_node r steps i) is = node_reads r steps i is.0 is.1
    axiom_reads (axiom_atom r steps es) is = atom_reads r steps es is.0 is.1

    -- ---- steps

    step_reads : (place : ℕ) → place < 10 ^ 18 → (ls : List Literal) (hs : List ℕ) → AreOfSheet ls → All (λ h. h < place) hs → ReadsAsPart sheet sets (derivation_line_text sheet (accepts.derived ls hs)) (part_of (accepts.derived ls hs))
    step_reads place few ls hs clause hints =
        let literals = flat_map (λ l. behind_blank (literal_text sheet l)) ls in
        let numbers = flat_map (λ h. behind_blank (hint_number h)) hs in
        record {
          written = written_step (map (written_literal sheet formed) ls) (map (λ h. h + 1) hs);
          more = map (literal_text sheet) ls ++ codes ":" ∷ map hint_number hs;
          are =
              texts_between (literal_text sheet) ls (codes "step") (codes ":" ++ numbers) (record { solid = refl; whole = refl; some = omega arith }) (literals_words ls clause)
              ∙ ap (λ ts. codes "step" ∷ (map (literal_text sheet) ls ++ ts)) (texts_behind hint_number hs (codes ":") (record { solid = refl; whole = refl; some = omega arith }) (hints_words place few hs hints));
          follows = record {
            literals = map (literal_text sheet) ls;
            hints = map hint_number hs;
            parted = refl;
            first = literals_other ls clause;
            clause = literals_are ls clause;
            lines = hints_are place few hs hints;
          };
          named = (literals_stand ls clause, refl);
          whole = free_join is_line_end literals (codes " :" ++ numbers) (whole_behind (literal_text sheet) ls (literals_words ls clause)) (whole_behind hint_number hs (hints_words place few hs hints));
        }

    -- ---- the clauses of sets

    block_reads : (j : ℕ) → j < sets → sets < 10 ^ 18 → ReadsAsPart sheet sets (derivation_line_text sheet (accepts.blocked j)) (blocked j)
    block_reads j below few =
        let number = number_text (j + 1) in
        let own_word = number_word (j + 1) (omega (arith, below, few)) in
        record {
          written = written_block (j + 1);
          more = number ∷ [];
          are = texts_more (codes "block") number (record { solid = refl; whole = refl; some = omega arith }) ∙ ap (λ ts. codes "block" ∷ ts) (texts_last number own_word);
          follows = record { number = number; are = refl; is_number = number_text_is (j + 1) (omega (arith, below, few)) };
          named = (refl, below);
          whole = own_word.whole;
        }

    pub line_reads : (place : ℕ) (l : Line) → place < 10 ^ 18 → sets < 10 ^ 18 → IsLineBeside sheet sets place l → ReadsAsPart sheet sets (derivation_line_text sheet l) (part_of l)
    line_reads place (accepts.taken a) few few_sets of = axiom_reads a of
    line_reads place (accepts.derived clause hints) few few_sets of = step_reads place few clause hints of.0 of.1
    line_reads place (accepts.blocked j) few few_sets of = block_reads j of few_sets
