-- A formula nests no deeper than the words that it is read from.
use Rattle.std.proofs.Common.{◌≡◌, ℕ, ◌+◌, ◌≤◌, Bool, true, false, List, [], ◌∷◌, nat_lt, cond, arith, refl, ap}
use Rattle.std.specs.Prelude.{codes}
use Rattle.std.proofs.lemmas.Bool.Decides.{nat_tests}
use Rattle.std.specs.List.{sum_by}
use Rattle.std.proofs.lemmas.List.Sums.{sum_by-cons}
use Rattle.pc_token.specs.declared.token.Kind.TheVariants.{Not, Open, Close, Comma, Colon, Dot, Arrow, DoubleArrow, Minus}
use Rattle.pc_name.specs.declared.sign.Sign.{Sign}
use Rattle.pc_formula.specs.declared.quantifier.Quantifier.{Quantifier}
use Rattle.pc_formula.specs.declared.quantifier.Quantifier.TheVariants.{ForAll, Exists, Count}
use Rattle.pc_formula.specs.Word.{Word, name, reserved, number, sign, nests, nesting}
use Rattle.pc_formula.specs.Tree.{Item, named, items_of, Side, Formula, parts_of}
use Rattle.pc_formula.specs.Sign.{added_sign, op_sign}
use Rattle.pc_formula.specs.Quantifier.{count_word, DerivesQuantifier, for_every, for_some, for_so_many}
use Rattle.pc_formula.specs.Side.{DerivesItem, integer_item, bare_item, applied_item, DerivesItems, last_item, next_item, Adds, nothing_added, added, DerivesSide, a_side}
use Rattle.pc_formula.specs.Value.{DerivesNumber, a_number, natural, negative}
use Rattle.pc_formula.specs.Grammar.{Joint, by_or, by_and, Form, whole, iffs, imps, joined, unary, part_form, joint_sign, of_parts, quantified, IsFormula, Derives, quantifier, no_quantifier, iff_one, iff_two, imp_one, imp_two, join, negation, group, comparison, table_atom, Goes_on, no_more, one_more}
use Rattle.pc_formula.specs.Nesting.{nesting_of_item, nesting_of_items, nesting_of_added, nesting_of_side, tightness, parentheses, nesting_of, nesting_of_parts}

-- ---- words

word_nests : (w : Word) (ws : List Word) → nesting (w ∷ ws) ≡ cond (nests w) 1 0 + nesting ws
word_nests w ws = sum_by-cons (λ v. cond (nests v) 1 0) w ws

fewer : (w : Word) (ws : List Word) → nesting ws ≤ nesting (w ∷ ws)
fewer w ws = omega (arith, word_nests w ws)

opens : (w : Word) (ws : List Word) → nests w ≡ true → 1 + nesting ws ≤ nesting (w ∷ ws)
opens w ws is = omega (arith, word_nests w ws, ap {B = ℕ} (λ b. cond b 1 0) is)

-- ---- items and sides

number_nests : (ws : List Word) (n : ℕ) (rest : List Word) → DerivesNumber ws n rest → nesting rest ≤ nesting ws
number_nests ws n rest (a_number t) = fewer (number t) rest

applied_nests : (text : List ℕ) (args : List Item) → nesting_of_item (named text (items_of args)) ≤ 1 + nesting_of_items (items_of args)
applied_nests text [] = omega arith
applied_nests text (i ∷ more) = omega arith

mutual
  item_nests : (ws : List Word) (i : Item) (rest : List Word) → DerivesItem ws i rest → nesting_of_item i + nesting rest ≤ nesting ws
  item_nests ws i rest (integer_item (natural {n = n} d)) = omega (arith, number_nests ws n rest d)
  item_nests ws i rest (integer_item (negative {ws = there} {n = n} d)) = omega (arith, number_nests there n rest d, fewer (sign Minus) there)
  item_nests ws i rest (bare_item text) = omega (arith, fewer (name text) rest)
  item_nests ws i rest (applied_item {ws = there} {args = args} text d) =
      omega (arith, applied_nests text args, items_nest there args rest d, opens (sign Open) there refl, fewer (name text) (sign Open ∷ there))

  items_nest : (ws : List Word) (args : List Item) (rest : List Word) → DerivesItems ws args rest → nesting_of_items (items_of args) + nesting rest ≤ nesting ws
  items_nest ws args rest (last_item {i = i} d) = omega (arith, item_nests ws i (sign Close ∷ rest) d, fewer (sign Close) rest)
  items_nest ws args rest (next_item {mid = mid} {i = i} {more = more} d tail) = omega (arith, item_nests ws i (sign Comma ∷ mid) d, fewer (sign Comma) mid, items_nest mid more rest tail)

adds_nest : (ws : List Word) (more : List (Sign × Item)) (rest : List Word) → Adds ws more rest → sum_by nesting_of_added more + nesting rest ≤ nesting ws
adds_nest ws more rest nothing_added = omega arith
adds_nest ws more rest (added {ws = there} {mid = mid} {i = i} {more = others} s d tail) = omega (arith, sum_by-cons nesting_of_added (s, i) others, fewer (sign (added_sign s)) there, item_nests there i mid d, adds_nest mid others rest tail)

side_nests : (ws : List Word) (s : Side) (rest : List Word) → DerivesSide ws s rest → nesting_of_side s + nesting rest ≤ nesting ws
side_nests ws s rest (a_side {mid = mid} {i = i} {more = more} d e) = omega (arith, item_nests ws i mid d, adds_nest mid more rest e)

-- ---- formulas

-- how tightly a form asks a formula to bind
abbrev asked : Form → ℕ
asked whole = 0
asked iffs = 1
asked imps = 2
asked (joined by_or) = 3
asked (joined by_and) = 4
asked unary = 5

looser : (m n : ℕ) (f : Formula) → m ≤ n → parentheses m f ≤ parentheses n f
looser m n f le = grind (arith, nat_tests)

one_at_most : (n : ℕ) (f : Formula) → parentheses n f ≤ 1
one_at_most n f = go (nat_lt (tightness f) n)
  where
    go : (b : Bool) → cond b 1 0 ≤ 1
    go true = omega arith
    go false = omega arith

none_at_zero : (f : Formula) → parentheses 0 f ≡ 0
none_at_zero f = grind (arith, nat_tests)

-- the node of the parts nests as they do
of_parts_nests : (j : Joint) (f : Formula) (fs : List Formula) → parentheses (asked (joined j)) (of_parts j (f ∷ fs)) + nesting_of (of_parts j (f ∷ fs)) ≤ parentheses (asked (part_form j)) f + nesting_of f + nesting_of_parts (asked (part_form j)) (parts_of fs)
of_parts_nests by_or f [] = omega (arith, looser 3 4 f (omega arith))
of_parts_nests by_and f [] = omega (arith, looser 4 5 f (omega arith))
of_parts_nests by_or f (g ∷ gs) = omega arith
of_parts_nests by_and f (g ∷ gs) = omega arith

quantified_nests : (q : Quantifier) (variable sort : List ℕ) (f : Formula) → nesting_of (quantified q variable sort f) ≡ 1 + nesting_of f
quantified_nests ForAll variable sort f = refl
quantified_nests Exists variable sort f = refl
quantified_nests (Count at_most bound) variable sort f = refl

quantifier_nests : (ws : List Word) (q : Quantifier) (rest : List Word) → DerivesQuantifier ws q rest → 1 + nesting rest ≤ nesting ws
quantifier_nests ws q rest for_every = opens (reserved (codes "forall")) rest refl
quantifier_nests ws q rest for_some = opens (reserved (codes "exists")) rest refl
quantifier_nests ws q rest (for_so_many {ws = there} {n = n} m d) = omega (arith, opens (reserved (count_word m)) there refl, number_nests there n rest d)

mutual
  form_nests : (form : Form) (ws : List Word) (f : Formula) (rest : List Word) → Derives form ws f rest → parentheses (asked form) f + nesting_of f + nesting rest ≤ nesting ws
  form_nests form ws h rest (quantifier {next = there} {q = q} {f = f} variable sort e d) =
      omega (
        arith,
        none_at_zero (quantified q variable sort f),
        quantified_nests q variable sort f,
        form_nests whole there f rest d,
        quantifier_nests ws q (name variable ∷ sign Colon ∷ name sort ∷ sign Dot ∷ there) e,
        fewer (name variable) (sign Colon ∷ name sort ∷ sign Dot ∷ there),
        fewer (sign Colon) (name sort ∷ sign Dot ∷ there),
        fewer (name sort) (sign Dot ∷ there),
        fewer (sign Dot) there,
      )
  form_nests form ws f rest (no_quantifier d) = omega (arith, form_nests iffs ws f rest d, looser 0 1 f (omega arith))
  form_nests form ws f rest (iff_one d) = omega (arith, form_nests imps ws f rest d, looser 1 2 f (omega arith))
  form_nests form ws h rest (iff_two {mid = mid} {f = f} {g = g} d e) = omega (arith, form_nests imps ws f (sign DoubleArrow ∷ mid) d, fewer (sign DoubleArrow) mid, form_nests imps mid g rest e)
  form_nests form ws f rest (imp_one d) = omega (arith, form_nests (joined by_or) ws f rest d, looser 2 3 f (omega arith))
  form_nests form ws h rest (imp_two {mid = mid} {f = f} {g = g} d e) = omega (arith, form_nests (joined by_or) ws f (sign Arrow ∷ mid) d, opens (sign Arrow) mid refl, form_nests imps mid g rest e)
  form_nests form ws h rest (join {j = j} {mid = mid} {f = f} {fs = fs} d tail) = omega (arith, of_parts_nests j f fs, form_nests (part_form j) ws f mid d, parts_nest j mid fs rest tail)
  form_nests form ws h rest (negation {ws = there} {f = f} d) = omega (arith, form_nests unary there f rest d, opens (sign Not) there refl)
  form_nests form ws f rest (group {ws = there} d) = omega (arith, one_at_most 5 f, form_nests whole there f (sign Close ∷ rest) d, fewer (sign Close) rest, opens (sign Open) there refl)
  form_nests form ws h rest (comparison {mid = mid} {left = left} {right = right} op d e) = omega (arith, side_nests ws left (sign (op_sign op) ∷ mid) d, fewer (sign (op_sign op)) mid, side_nests mid right rest e)
  form_nests form ws h rest (table_atom {ws = there} {args = args} text d) = omega (arith, items_nest there args rest d, opens (sign Open) there refl, fewer (name text) (sign Open ∷ there))

  parts_nest : (j : Joint) (ws : List Word) (fs : List Formula) (rest : List Word) → Goes_on j ws fs rest → nesting_of_parts (asked (part_form j)) (parts_of fs) + nesting rest ≤ nesting ws
  parts_nest j ws fs rest no_more = omega arith
  parts_nest j ws fs rest (one_more {ws = there} {mid = mid} {f = f} {fs = others} d tail) = omega (arith, fewer (sign (joint_sign j)) there, form_nests (part_form j) there f mid d, parts_nest j mid others rest tail)

pub nested : (ws : List Word) (f : Formula) → IsFormula ws f → nesting_of f ≤ nesting ws
nested ws f is = omega (arith, form_nests whole ws f [] is)
