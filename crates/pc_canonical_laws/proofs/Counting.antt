-- At how many words of its canonical text a statement goes a level down.
use Rattle.std.proofs.Common.{◌≡◌, ℕ, ◌+◌, ℤ, pos, negsuc, ◌+ℤ◌, Bool, true, false, List, [], ◌∷◌, ◌++◌, cond, refl, sym, ◌∙◌, arith}
use Rattle.std.specs.Prelude.{nat_lt, sum_by}
use Rattle.std.proofs.lemmas.List.Recursion.{is_count_by}
use Rattle.std.proofs.lemmas.List.Sums.{sum_by-cons}
use Rattle.pc_name.specs.declared.sign.Op.{Op}
use Rattle.pc_name.specs.declared.sign.Op.TheVariants.{Eq, Ne, Lt, Le, Gt, Ge}
use Rattle.pc_name.specs.declared.sign.Sign.{Sign}
use Rattle.pc_name.specs.declared.sign.Sign.TheVariants as signs
use Rattle.pc_sheet.specs.Sheet.{Universe, Values, listed, range, Item, Items, no_items, item, variable, constant, number, cell, Sum, Statement, Statements, no_statements, statement, compare, in_table, negation, all_of, some_of, implies, iff, for_all, exists, counts}
use Rattle.pc_sheet.specs.Nesting.{nesting_of_item, nesting_of_items, nesting_of_added, nesting_of_sum, tightness, parentheses, nesting_of, nesting_of_parts}
use Rattle.pc_sheet.specs.Sizes.{values_at}
use Rattle.pc_sheet.specs.WellSorted.{Variables}
use Rattle.pc_sheet.specs.declared.ids.ValueId.{ValueId}
use Rattle.pc_formula.specs.Word.{Word, sign, nests, nesting}
use Rattle.pc_formula.specs.Sign.{op_sign, added_sign}
use Rattle.pc_formula.specs.Grammar.{Joint, by_or, by_and, joint_sign}
use Rattle.pc_token.specs.declared.token.Kind.TheVariants.{Arrow, DoubleArrow, Open, Close}
use Rattle.pc_canonical_laws.proofs.Named.{IsSpelledStatement, AreSpelledStatements}
use Rattle.pc_canonical_laws.proofs.Words.{integer_words, value_words, item_words, more_words, rest_words, sum_words, enclosed_words, statement_words, part_words, goes_on_words}

-- the same count, word by word
abbrev pub levels : List Word → ℕ
levels [] = 0
levels (w ∷ ws) = cond (nests w) (1 + levels ws) (levels ws)

pub levels_are : (ws : List Word) → nesting ws ≡ levels ws
levels_are ws = sym (is_count_by levels nests refl (λ w more. refl) ws)

pub integer_levels : (z : ℤ) (rest : List Word) → levels (integer_words z rest) ≡ levels rest
integer_levels (pos n) rest = refl
integer_levels (negsuc n) rest = refl

value_levels : (v : Values) (k : ValueId) (rest : List Word) → levels (value_words v k rest) ≡ levels rest
value_levels (listed names) k rest = refl
value_levels (range low high) k rest = integer_levels (low +ℤ pos k.0) rest

module _ (u : Universe) (vs : Variables) where
  mutual
    item_levels : (x : Item) (rest : List Word) → levels (item_words u vs x rest) ≡ nesting_of_item x + levels rest
    item_levels (variable k) rest = omega arith
    item_levels (constant s v) rest = omega (arith, value_levels (values_at u s) v rest)
    item_levels (number z) rest = omega (arith, integer_levels z rest)
    item_levels (cell f no_items) rest = omega arith
    item_levels (cell f (item x xs)) rest = omega (arith, item_levels x (more_words u vs xs rest), more_levels xs rest)

    more_levels : (xs : Items) (rest : List Word) → levels (more_words u vs xs rest) ≡ nesting_of_items xs + levels rest
    more_levels no_items rest = omega arith
    more_levels (item x xs) rest = omega (arith, item_levels x (more_words u vs xs rest), more_levels xs rest)

  added_level : (s : Sign) (ws : List Word) → levels (sign (added_sign s) ∷ ws) ≡ levels ws
  added_level signs.Plus ws = refl
  added_level signs.Minus ws = refl

  rest_levels : (xs : List (Sign × Item)) (rest : List Word) → levels (rest_words u vs xs rest) ≡ sum_by nesting_of_added xs + levels rest
  rest_levels [] rest = omega arith
  rest_levels (x ∷ xs) rest = omega (arith, sum_by-cons nesting_of_added x xs, added_level x.0 (item_words u vs x.1 (rest_words u vs xs rest)), item_levels x.1 (rest_words u vs xs rest), rest_levels xs rest)

  sum_levels : (s : Sum) (rest : List Word) → levels (sum_words u vs s rest) ≡ nesting_of_sum s + levels rest
  sum_levels s rest = omega (arith, item_levels s.first (rest_words u vs s.rest rest), rest_levels s.rest rest)

op_level : (op : Op) (ws : List Word) → levels (sign (op_sign op) ∷ ws) ≡ levels ws
op_level Eq ws = refl
op_level Ne ws = refl
op_level Lt ws = refl
op_level Le ws = refl
op_level Gt ws = refl
op_level Ge ws = refl

joint_level : (j : Joint) (ws : List Word) → levels (sign (joint_sign j) ∷ ws) ≡ levels ws
joint_level by_or ws = refl
joint_level by_and ws = refl

enclosed_levels : (asked : ℕ) (s : Statement) (n : ℕ) (words : List Word → List Word) (rest : List Word) → ((more : List Word) → levels (words more) ≡ n + levels more) → levels (enclosed_words asked s words rest) ≡ parentheses asked s + n + levels rest
enclosed_levels asked s n words rest own = go (nat_lt (tightness s) asked)
  where
    go : (b : Bool) → levels (cond b (sign Open ∷ words (sign Close ∷ rest)) (words rest)) ≡ cond b 1 0 + n + levels rest
    go true = omega (arith, own (sign Close ∷ rest))
    go false = omega (arith, own rest)

module _ (u : Universe) where
  mutual
    statement_levels : (vs : Variables) (s : Statement) → IsSpelledStatement u vs s → (rest : List Word) → levels (statement_words u vs s rest) ≡ nesting_of s + levels rest
    statement_levels vs (compare left op right) spelled rest =
        omega (arith, sum_levels u vs left (sign (op_sign op) ∷ sum_words u vs right rest), op_level op (sum_words u vs right rest), sum_levels u vs right rest)
    statement_levels vs (in_table t no_items) spelled rest = absurd spelled.1
    statement_levels vs (in_table t (item x xs)) spelled rest = omega (arith, item_levels u vs x (more_words u vs xs rest), more_levels u vs xs rest)
    statement_levels vs (negation s) spelled rest = omega (arith, enclosed_levels 5 s (nesting_of s) (statement_words u vs s) rest (statement_levels vs s spelled))
    statement_levels vs (all_of ss) spelled rest = part_levels vs ss spelled.1 by_and 5 rest
    statement_levels vs (some_of ss) spelled rest = part_levels vs ss spelled.1 by_or 4 rest
    statement_levels vs (implies s t) spelled rest =
        omega (arith, enclosed_levels 3 s (nesting_of s) (statement_words u vs s) (sign Arrow ∷ enclosed_words 2 t (statement_words u vs t) rest) (statement_levels vs s spelled.0), enclosed_levels 2 t (nesting_of t) (statement_words u vs t) rest (statement_levels vs t spelled.1))
    statement_levels vs (iff s t) spelled rest =
        omega (arith, enclosed_levels 2 s (nesting_of s) (statement_words u vs s) (sign DoubleArrow ∷ enclosed_words 2 t (statement_words u vs t) rest) (statement_levels vs s spelled.0), enclosed_levels 2 t (nesting_of t) (statement_words u vs t) rest (statement_levels vs t spelled.1))
    statement_levels vs (for_all n s body) spelled rest = omega (arith, statement_levels (vs ++ (n, s) ∷ []) body spelled.2 rest)
    statement_levels vs (exists n s body) spelled rest = omega (arith, statement_levels (vs ++ (n, s) ∷ []) body spelled.2 rest)
    statement_levels vs (counts c n s body) spelled rest = omega (arith, statement_levels (vs ++ (n, s) ∷ []) body spelled.3 rest)

    part_levels : (vs : Variables) (ss : Statements) → AreSpelledStatements u vs ss → (j : Joint) (asked : ℕ) (rest : List Word) → levels (part_words u vs j asked ss rest) ≡ nesting_of_parts asked ss + levels rest
    part_levels vs no_statements spelled j asked rest = omega arith
    part_levels vs (statement s ss) spelled j asked rest =
        omega (arith, enclosed_levels asked s (nesting_of s) (statement_words u vs s) (goes_on_words u vs j asked ss rest) (statement_levels vs s spelled.0), further_levels vs ss spelled.1 j asked rest)

    further_levels : (vs : Variables) (ss : Statements) → AreSpelledStatements u vs ss → (j : Joint) (asked : ℕ) (rest : List Word) → levels (goes_on_words u vs j asked ss rest) ≡ nesting_of_parts asked ss + levels rest
    further_levels vs no_statements spelled j asked rest = omega arith
    further_levels vs (statement s ss) spelled j asked rest =
        omega (arith, joint_level j (enclosed_words asked s (statement_words u vs s) (goes_on_words u vs j asked ss rest)), enclosed_levels asked s (nesting_of s) (statement_words u vs s) (goes_on_words u vs j asked ss rest) (statement_levels vs s spelled.0), further_levels vs ss spelled.1 j asked rest)

  -- the words go down as often as the statement counts
  pub nests_as_counted : (vs : Variables) (s : Statement) → IsSpelledStatement u vs s → nesting (statement_words u vs s []) ≡ nesting_of s
  nests_as_counted vs s spelled = levels_are (statement_words u vs s []) ∙ (let count = statement_levels vs s spelled [] in omega (arith, count))
