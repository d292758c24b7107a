-- The canonical text of a statement is cut into its words.
use Rattle.std.proofs.Common.{◌≡◌, ◌≢◌, ℕ, ◌<◌, Bool, true, false, ◌&&◌, ◌||◌, List, [], ◌∷◌, ◌++◌, get_or, cond, arith, refl, sym, ◌∙◌, ap, subst, codes}
use Rattle.std.proofs.lemmas.List.{append_assoc}
use Rattle.std.proofs.lemmas.Str.{encode_ascii}
use Rattle.std.proofs.lemmas.Bool.Decides.{nat_tests}
use Rattle.std.specs.Prelude.{encode_utf8, nat_lt, ◌==◌}
use Rattle.std.specs.List.{flat_map, list_all, AllByRecursion}
use Rattle.std.specs.Char.{is_ascii_lowercase}
use Rattle.std.specs.Fmt.{decimal}
use Rattle.std.specs.Int.{is_in_range}
use Rattle.std.specs.Str.{encode_utf8_all}
use Rattle.unicode_ident.proofs.IdentLemmas.{is_xid_start-ascii, is_xid_continue-ascii}
use Rattle.pc_name.specs.Names.{starts_name, continues_name, HasNameCharacters, IsName}
use Rattle.pc_sheet.specs.Sheet.{Universe, Counting, Statement, Statements, no_statements, statement, compare, in_table, negation, all_of, some_of, implies, iff, for_all, exists, counts}
use Rattle.pc_sheet.specs.Nesting.{tightness}
use Rattle.pc_sheet.specs.WellSorted.{Variables}
use Rattle.pc_sheet.specs.declared.ids.SortId.{SortId}
use Rattle.pc_name.specs.declared.sign.Op.{Op}
use Rattle.pc_name.specs.declared.sign.Op.TheVariants.{Eq, Ne, Lt, Le, Gt, Ge}
use Rattle.pc_token.specs.declared.token.Kind.TheVariants.{Name, Open, Close, Colon, Dot}
use Rattle.pc_formula.specs.Word as word
use Rattle.pc_formula.specs.Word.{Word}
use Rattle.pc_formula.specs.Quantifier as quantifier
use Rattle.pc_formula.specs.Grammar.{Joint, by_or, by_and, joint_sign}
use Rattle.pc_writer.specs.Spelling.{joined}
use Rattle.pc_writer.specs.FormulaText.{bound_of, count_text, count_word, is_at_most, table_at, sort_name, in_parentheses, item_texts, op_text, sum_text, enclosed, quantifier_text, statement_text, part_text, part_texts}
use Rattle.pc_canonical_laws.proofs.Cuts.{Cuts, blank, piece, is_ascii_text, ascii_utf8}
use Rattle.pc_canonical_laws.proofs.Cutting.{Ends, space, closed, colon, ends_stop, name_head, cut_name, cut_digits, cut_arguments, ends_arguments, cut_sum, sum_head}
use Rattle.pc_canonical_laws.proofs.Named.{IsSpelledStatement, AreSpelledStatements}
use Rattle.pc_canonical_laws.proofs.Signs.{cut_op, cut_and, cut_or, cut_arrow, cut_double, cut_dot, cut_open, cut_close, cut_colon, cut_not}
use Rattle.pc_canonical_laws.proofs.Words.{enclosed_words, statement_words, part_words, goes_on_words}

-- ---- the words of quantifiers

-- a text of small letters has the characters of a name
unfoldable pub all_letters : List ℕ → Bool
all_letters bs = list_all is_ascii_lowercase bs

both : (a b : Bool) → (a && b) ≡ true → (a ≡ true) × (b ≡ true)
both true b is = (refl, is)
both false b is = absurd (cc)

or_true : (a : Bool) → (a || true) ≡ true
or_true true = refl
or_true false = refl

small_letter : (b : ℕ) → is_ascii_lowercase b ≡ true → b < 128
small_letter b is = grind (arith, nat_tests)

letter_continues : (b : ℕ) → is_ascii_lowercase b ≡ true → continues_name b ≡ true
letter_continues b is =
    is_xid_continue-ascii b (small_letter b is)
    ∙ ap (λ x. ((is_in_range 48 57 b || is_in_range 65 90 b) || x) || (b == 95)) is
    ∙ ap (λ x. x || (b == 95)) (or_true (is_in_range 48 57 b || is_in_range 65 90 b))

letter_starts : (b : ℕ) → is_ascii_lowercase b ≡ true → starts_name b ≡ true
letter_starts b is =
    ap (λ x. (b == 95) || x) (is_xid_start-ascii b (small_letter b is) ∙ ap (λ x. is_in_range 65 90 b || x) is ∙ or_true (is_in_range 65 90 b)) ∙ or_true (b == 95)

letters_continue : (bs : List ℕ) → all_letters bs ≡ true → (encode_utf8_all bs ≡ bs) × AllByRecursion (λ d. continues_name d ≡ true) bs
unfolding all_letters
letters_continue [] all = (refl, tt)
letters_continue (b ∷ bs) all =
    let each = both (is_ascii_lowercase b) (list_all is_ascii_lowercase bs) all in
    let rest = letters_continue bs each.1 in
    (ap (λ l. encode_utf8 b ++ l) rest.0 ∙ ap (λ l. l ++ bs) (encode_ascii b (small_letter b each.0)), (letter_continues b each.0, rest.1))

pub letters : (b : ℕ) (bs : List ℕ) → all_letters (b ∷ bs) ≡ true → HasNameCharacters (b ∷ bs)
unfolding all_letters
letters b bs all =
    let each = both (is_ascii_lowercase b) (list_all is_ascii_lowercase bs) all in
    let rest = letters_continue bs each.1 in
    (b, bs, sym (ap (λ l. encode_utf8 b ++ l) rest.0 ∙ ap (λ l. l ++ bs) (encode_ascii b (small_letter b each.0))), letter_starts b each.0, rest.1)

module _ (more : List ℕ) (ws : List Word) (cuts : Cuts more ws) where
  cut_forall : Cuts (codes "forall " ++ more) (word.reserved (codes "forall") ∷ ws)
  unfolding is_ascii_text all_letters
  cut_forall = piece Name (codes "forall") (omega arith) (ascii_utf8 (codes "forall") refl) (letters _ _ refl, ends_stop (32 ∷ more) space) (blank cuts)

  cut_exists : Cuts (codes "exists " ++ more) (word.reserved (codes "exists") ∷ ws)
  unfolding is_ascii_text all_letters
  cut_exists = piece Name (codes "exists") (omega arith) (ascii_utf8 (codes "exists") refl) (letters _ _ refl, ends_stop (32 ∷ more) space) (blank cuts)

  cut_count : (m : Bool) → Cuts (count_word m ++ more) (word.reserved (quantifier.count_word m) ∷ ws)
  unfolding is_ascii_text all_letters
  cut_count true = piece Name (codes "atmost") (omega arith) (ascii_utf8 (codes "atmost") refl) (letters _ _ refl, ends_stop (32 ∷ more) space) (blank cuts)
  cut_count false = piece Name (codes "atleast") (omega arith) (ascii_utf8 (codes "atleast") refl) (letters _ _ refl, ends_stop (32 ∷ more) space) (blank cuts)

-- ---- a part, in parentheses or not

-- the words are cut from the text, whatever may stand behind it
unfoldable pub CutsAs : List ℕ → (List Word → List Word) → Type 0
CutsAs text words = (more : List ℕ) (ws : List Word) → Ends more → Cuts more ws → Cuts (text ++ more) (words ws)

cut_enclosed : (asked : ℕ) (s : Statement) (text : List ℕ) (words : List Word → List Word) → CutsAs text words → CutsAs (enclosed asked s text) (enclosed_words asked s words)
unfolding CutsAs
cut_enclosed asked s text words own more ws ends cuts = go (nat_lt (tightness s) asked)
  where
    go : (b : Bool) → Cuts (cond b (codes "(" ++ (text ++ codes ")")) text ++ more) (cond b (word.sign Open ∷ words (word.sign Close ∷ ws)) (words ws))
    go true = cut_open (subst (λ t. Cuts t (words (word.sign Close ∷ ws))) (sym (append_assoc text (codes ")") more)) (own (41 ∷ more) (word.sign Close ∷ ws) closed (cut_close cuts)))
    go false = own more ws ends cuts

-- one text, a sign between blanks, and another text
two_parts : (first separator second more : List ℕ) → (first ++ (separator ++ second)) ++ more ≡ first ++ (separator ++ (second ++ more))
two_parts first separator second more = append_assoc first (separator ++ second) more ∙ ap (λ t. first ++ t) (append_assoc separator second more)

separator : Joint → List ℕ
separator by_and = codes " & "
separator by_or = codes " | "

cut_separator : (j : Joint) {more : List ℕ} {ws : List Word} → Cuts more ws → Cuts (separator j ++ more) (word.sign (joint_sign j) ∷ ws)
unfolding separator
cut_separator by_and cuts = cut_and cuts
cut_separator by_or cuts = cut_or cuts

separator_ends : (j : Joint) (this others more : List ℕ) → Ends (((separator j ++ this) ++ others) ++ more)
unfolding separator
separator_ends by_and this others more = space
separator_ends by_or this others more = space

op_ends : (op : Op) (more : List ℕ) → Ends (op_text op ++ more)
op_ends Eq more = space
op_ends Ne more = space
op_ends Lt more = space
op_ends Le more = space
op_ends Gt more = space
op_ends Ge more = space

module _ (u : Universe) where
  -- the text of further parts
  further : Variables → Joint → ℕ → Statements → List ℕ
  further vs j asked ss = flat_map (λ other. separator j ++ other) (part_texts u vs asked ss)

  part_head : (vs : Variables) (s : Statement) (more : List ℕ) → IsSpelledStatement u vs s → get_or (part_text u vs 5 s ++ more) 0 0 ≢ 61
  part_head vs (compare left op right) more spelled equal =
      absurd ((subst (λ t. get_or t 0 0 ≢ 61) (sym (append_assoc (sum_text u vs left) (op_text op ++ sum_text u vs right) more)) (sum_head u vs left ((op_text op ++ sum_text u vs right) ++ more) spelled.0)) equal)
  part_head vs (in_table t xs) more spelled equal =
      absurd ((subst (λ l. get_or l 0 0 ≢ 61) (sym (append_assoc (table_at u t).name (in_parentheses (item_texts u vs xs)) more)) (name_head (table_at u t).name (in_parentheses (item_texts u vs xs) ++ more) spelled.0)) equal)
  part_head vs (negation s) more spelled equal = absurd (omega (arith, equal))
  part_head vs (all_of ss) more spelled equal = absurd (omega (arith, equal))
  part_head vs (some_of ss) more spelled equal = absurd (omega (arith, equal))
  part_head vs (implies s t) more spelled equal = absurd (omega (arith, equal))
  part_head vs (iff s t) more spelled equal = absurd (omega (arith, equal))
  part_head vs (for_all n s body) more spelled equal = absurd (omega (arith, equal))
  part_head vs (exists n s body) more spelled equal = absurd (omega (arith, equal))
  part_head vs (counts c n s body) more spelled equal = absurd (omega (arith, equal))

  -- what stands before a quantifier's body, behind its word
  cut_binding : (n : List ℕ) (s : SortId) (more : List ℕ) (ws : List Word) → IsName n → IsName (sort_name u s) → Cuts more ws
      → Cuts (n ++ (codes ":" ++ (sort_name u s ++ (codes " . " ++ more)))) (word.name n ∷ word.sign Colon ∷ word.name (sort_name u s) ∷ word.sign Dot ∷ ws)
  cut_binding n s more ws named sorted cuts = cut_name n _ _ named colon (cut_colon (cut_name (sort_name u s) _ _ sorted space (cut_dot cuts)))

  binding_text : (quantifier n : List ℕ) (s : SortId) (body more : List ℕ) → (quantifier_text u quantifier n s ++ body) ++ more ≡ quantifier ++ (n ++ (codes ":" ++ (sort_name u s ++ (codes " . " ++ (body ++ more)))))
  binding_text quantifier n s body more = simp append_assoc

  counting_text : (c : Counting) (n : List ℕ) (s : SortId) (body more : List ℕ)
      → (count_text u c n s ++ body) ++ more ≡ count_word (is_at_most c) ++ (decimal (bound_of c) ++ (32 ∷ (n ++ (codes ":" ++ (sort_name u s ++ (codes " . " ++ (body ++ more)))))))
  counting_text c n s body more = simp append_assoc

  ends_further : (vs : Variables) (j : Joint) (asked : ℕ) (ss : Statements) (more : List ℕ) → Ends more → Ends (further vs j asked ss ++ more)
  unfolding further
  ends_further vs j asked no_statements more ends = ends
  ends_further vs j asked (statement s ss) more ends = separator_ends j (part_text u vs asked s) (further vs j asked ss) more

  mutual
    unfolding CutsAs further separator

    pub cut_statement : (vs : Variables) (s : Statement) → IsSpelledStatement u vs s → CutsAs (statement_text u vs s) (statement_words u vs s)
    cut_statement vs (compare left op right) spelled more ws ends cuts =
        subst (λ t. Cuts t (statement_words u vs (compare left op right) ws)) (sym (two_parts (sum_text u vs left) (op_text op) (sum_text u vs right) more))
        (cut_sum u vs left _ _ spelled.0 (op_ends op _) (cut_op (cut_sum u vs right more ws spelled.1 ends cuts) op))
    cut_statement vs (in_table t xs) spelled more ws ends cuts =
        subst (λ l. Cuts l (statement_words u vs (in_table t xs) ws)) (sym (append_assoc (table_at u t).name (in_parentheses (item_texts u vs xs)) more))
        (cut_name (table_at u t).name _ _ spelled.0 (ends_arguments u vs xs more ends) (cut_arguments u vs xs more ws spelled.2 cuts))
    cut_statement vs (negation s) spelled more ws ends cuts =
        cut_not (cut_enclosed 5 s (statement_text u vs s) (statement_words u vs s) (cut_statement vs s spelled) more ws ends cuts) (part_head vs s more spelled)
    cut_statement vs (all_of ss) spelled more ws ends cuts = cut_parts vs by_and 5 ss spelled.1 more ws ends cuts
    cut_statement vs (some_of ss) spelled more ws ends cuts = cut_parts vs by_or 4 ss spelled.1 more ws ends cuts
    cut_statement vs (implies s t) spelled more ws ends cuts =
        let right = cut_enclosed 2 t (statement_text u vs t) (statement_words u vs t) (cut_statement vs t spelled.1) more ws ends cuts in
        subst (λ l. Cuts l (statement_words u vs (implies s t) ws)) (sym (two_parts (part_text u vs 3 s) (codes " -> ") (part_text u vs 2 t) more))
        (cut_enclosed 3 s (statement_text u vs s) (statement_words u vs s) (cut_statement vs s spelled.0) _ _ space (cut_arrow right))
    cut_statement vs (iff s t) spelled more ws ends cuts =
        let right = cut_enclosed 2 t (statement_text u vs t) (statement_words u vs t) (cut_statement vs t spelled.1) more ws ends cuts in
        subst (λ l. Cuts l (statement_words u vs (iff s t) ws)) (sym (two_parts (part_text u vs 2 s) (codes " <-> ") (part_text u vs 2 t) more))
        (cut_enclosed 2 s (statement_text u vs s) (statement_words u vs s) (cut_statement vs s spelled.0) _ _ space (cut_double right))
    cut_statement vs (for_all n s body) spelled more ws ends cuts =
        subst (λ t. Cuts t (statement_words u vs (for_all n s body) ws)) (sym (binding_text (codes "forall ") n s (statement_text u (vs ++ (n, s) ∷ []) body) more))
        (cut_forall _ _ (cut_binding n s _ _ spelled.0 spelled.1 (cut_statement (vs ++ (n, s) ∷ []) body spelled.2 more ws ends cuts)))
    cut_statement vs (exists n s body) spelled more ws ends cuts =
        subst (λ t. Cuts t (statement_words u vs (exists n s body) ws)) (sym (binding_text (codes "exists ") n s (statement_text u (vs ++ (n, s) ∷ []) body) more))
        (cut_exists _ _ (cut_binding n s _ _ spelled.0 spelled.1 (cut_statement (vs ++ (n, s) ∷ []) body spelled.2 more ws ends cuts)))
    cut_statement vs (counts c n s body) spelled more ws ends cuts =
        let binding = cut_binding n s _ _ spelled.1 spelled.2 (cut_statement (vs ++ (n, s) ∷ []) body spelled.3 more ws ends cuts) in
        let bound = cut_digits (bound_of c) _ _ (omega (arith, spelled.0)) space (blank binding) in
        subst (λ t. Cuts t (statement_words u vs (counts c n s body) ws)) (sym (counting_text c n s (statement_text u (vs ++ (n, s) ∷ []) body) more)) (cut_count _ _ bound (is_at_most c))

    cut_parts : (vs : Variables) (j : Joint) (asked : ℕ) (ss : Statements) → AreSpelledStatements u vs ss → CutsAs (joined (separator j) (part_texts u vs asked ss)) (part_words u vs j asked ss)
    cut_parts vs j asked no_statements spelled more ws ends cuts = cuts
    cut_parts vs j asked (statement s ss) spelled more ws ends cuts =
        subst (λ t. Cuts t (part_words u vs j asked (statement s ss) ws)) (sym (append_assoc (part_text u vs asked s) (further vs j asked ss) more))
        (cut_enclosed asked s (statement_text u vs s) (statement_words u vs s) (cut_statement vs s spelled.0) _ _ (ends_further vs j asked ss more ends) (cut_further vs j asked ss spelled.1 more ws ends cuts))

    cut_further : (vs : Variables) (j : Joint) (asked : ℕ) (ss : Statements) → AreSpelledStatements u vs ss → CutsAs (further vs j asked ss) (goes_on_words u vs j asked ss)
    cut_further vs j asked no_statements spelled more ws ends cuts = cuts
    cut_further vs j asked (statement s ss) spelled more ws ends cuts =
        let this = part_text u vs asked s in
        let others = further vs j asked ss in
        let cut = cut_enclosed asked s (statement_text u vs s) (statement_words u vs s) (cut_statement vs s spelled.0) (others ++ more) (goes_on_words u vs j asked ss ws) (ends_further vs j asked ss more ends) (cut_further vs j asked ss spelled.1 more ws ends cuts) in
        subst (λ t. Cuts t (goes_on_words u vs j asked (statement s ss) ws)) (sym (append_assoc (separator j ++ this) others more ∙ append_assoc (separator j) this (others ++ more))) (cut_separator j cut)
