-- Words within the limit have no formula with too many parts.
use Rattle.std.proofs.Common.{◌≡◌, ℕ, ◌+◌, ◌<◌, ◌≤◌, List, [], ◌∷◌, length, arith, refl, ◌∙◌, ap}
use Rattle.std.proofs.lemmas.List.{length-map}
use Rattle.pc_name.specs.declared.sign.Sign.{Sign}
use Rattle.pc_token.specs.declared.token.Token.{Token}
use Rattle.pc_token.specs.Token.{ReadsTokens}
use Rattle.pc_formula.specs.declared.quantifier.Quantifier.{Quantifier}
use Rattle.pc_formula.specs.declared.quantifier.Quantifier.TheVariants.{ForAll, Exists, Count}
use Rattle.pc_formula.specs.Word.{Word, word_of, HasWords}
use Rattle.pc_formula.specs.Tree.{Item, Side, Formula, parts_of}
use Rattle.pc_formula.specs.Value.{DerivesNumber, a_number, natural, negative}
use Rattle.pc_formula.specs.Quantifier.{DerivesQuantifier, for_every, for_some, for_so_many}
use Rattle.pc_formula.specs.Side.{DerivesItem, integer_item, bare_item, applied_item, DerivesItems, last_item, next_item, Adds, nothing_added, added, DerivesSide, a_side}
use Rattle.pc_formula.specs.Grammar.{Joint, by_or, by_and, Form, of_parts, quantified, Derives, quantifier, no_quantifier, iff_one, iff_two, imp_one, imp_two, join, negation, group, comparison, table_atom, Goes_on, no_more, one_more}
use Rattle.pc_formula.specs.Sized.{count_parts, too_many, IsSized, AreSized}

-- ---- a derivation takes words

number_takes : (ws : List Word) (n : ℕ) (rest : List Word) → DerivesNumber ws n rest → length rest < length ws
number_takes ws n rest (a_number t) = omega arith

mutual
  item_takes : (ws : List Word) (i : Item) (rest : List Word) → DerivesItem ws i rest → length rest < length ws
  item_takes ws i rest (integer_item (natural {n = n} d)) = number_takes ws n rest d
  item_takes ws i rest (integer_item (negative {ws = there} {n = n} d)) = omega (arith, number_takes there n rest d)
  item_takes ws i rest (bare_item text) = omega arith
  item_takes ws i rest (applied_item {ws = there} {args = args} text d) = omega (arith, items_take there args rest d)

  items_take : (ws : List Word) (args : List Item) (rest : List Word) → DerivesItems ws args rest → length rest < length ws
  items_take ws args rest (last_item {i = i} d) = omega (arith, item_takes ws i _ d)
  items_take ws args rest (next_item {mid = mid} {i = i} {more = more} d tail) = omega (arith, item_takes ws i _ d, items_take mid more rest tail)

-- each further item takes a word or more
adds_take : (ws : List Word) (more : List (Sign × Item)) (rest : List Word) → Adds ws more rest → length more + length rest ≤ length ws
adds_take ws more rest nothing_added = omega arith
adds_take ws more rest (added {ws = there} {mid = mid} {i = i} {more = others} s d tail) = omega (arith, item_takes there i mid d, adds_take mid others rest tail)

side_takes : (ws : List Word) (s : Side) (rest : List Word) → DerivesSide ws s rest → length s.rest + length rest < length ws
side_takes ws s rest (a_side {mid = mid} {i = i} {more = more} d e) = omega (arith, item_takes ws i mid d, adds_take mid more rest e)

quantifier_takes : (ws : List Word) (q : Quantifier) (rest : List Word) → DerivesQuantifier ws q rest → length rest < length ws
quantifier_takes ws q rest for_every = omega arith
quantifier_takes ws q rest for_some = omega arith
quantifier_takes ws q rest (for_so_many {ws = there} {n = n} m d) = omega (arith, number_takes there n rest d)

mutual
  shorter : (form : Form) (ws : List Word) (f : Formula) (rest : List Word) → Derives form ws f rest → length rest < length ws
  shorter form ws h rest (quantifier {next = there} {q = q} {f = f} variable sort e d) = omega (arith, quantifier_takes ws q _ e, shorter _ there f rest d)
  shorter form ws f rest (no_quantifier d) = shorter _ ws f rest d
  shorter form ws f rest (iff_one d) = shorter _ ws f rest d
  shorter form ws h rest (iff_two {mid = mid} {f = f} {g = g} d e) = omega (arith, shorter _ ws f _ d, shorter _ mid g rest e)
  shorter form ws f rest (imp_one d) = shorter _ ws f rest d
  shorter form ws h rest (imp_two {mid = mid} {f = f} {g = g} d e) = omega (arith, shorter _ ws f _ d, shorter _ mid g rest e)
  shorter form ws h rest (join {j = j} {mid = mid} {f = f} {fs = fs} d more) = omega (arith, shorter _ ws f mid d, takes j mid fs rest more)
  shorter form ws h rest (negation {ws = there} {f = f} d) = omega (arith, shorter _ there f rest d)
  shorter form ws f rest (group {ws = there} d) = omega (arith, shorter _ there f _ d)
  shorter form ws h rest (comparison {mid = mid} {left = left} {right = right} op d e) = omega (arith, side_takes ws left _ d, side_takes mid right rest e)
  shorter form ws h rest (table_atom {ws = there} {args = args} text d) = omega (arith, items_take there args rest d)

  -- each further part takes a word or more
  takes : (j : Joint) (ws : List Word) (fs : List Formula) (rest : List Word) → Goes_on j ws fs rest → length fs + length rest ≤ length ws
  takes j ws fs rest no_more = omega arith
  takes j ws fs rest (one_more {ws = there} {mid = mid} {f = f} {fs = others} d more) = omega (arith, shorter _ there f mid d, takes j mid others rest more)

count_is : (fs : List Formula) → count_parts (parts_of fs) ≡ length fs
count_is [] = refl
count_is (f ∷ fs) = let more = count_is fs in omega (arith, more)

sized_parts : (j : Joint) (f : Formula) (fs : List Formula) → IsSized f → AreSized (parts_of fs) → length fs + 1 < too_many → IsSized (of_parts j (f ∷ fs))
sized_parts j f [] one others few = one
sized_parts by_or f (g ∷ gs) one others few = (omega (arith, count_is gs), omega (arith, count_is gs, few), (one, others))
sized_parts by_and f (g ∷ gs) one others few = (omega (arith, count_is gs), omega (arith, count_is gs, few), (one, others))

sized_body : (q : Quantifier) (variable sort : List ℕ) (f : Formula) → IsSized f → IsSized (quantified q variable sort f)
sized_body ForAll variable sort f is = is
sized_body Exists variable sort f is = is
sized_body (Count at_most bound) variable sort f is = is

mutual
  pub sized : (form : Form) (ws : List Word) (f : Formula) (rest : List Word) → Derives form ws f rest → length ws < too_many → IsSized f
  sized form ws h rest (quantifier {next = there} {q = q} {f = f} variable sort e d) few = sized_body q variable sort f (sized _ there f rest d (omega (arith, few, quantifier_takes ws q _ e)))
  sized form ws f rest (no_quantifier d) few = sized _ ws f rest d few
  sized form ws f rest (iff_one d) few = sized _ ws f rest d few
  sized form ws h rest (iff_two {mid = mid} {f = f} {g = g} d e) few = (sized _ ws f _ d few, sized _ mid g rest e (omega (arith, few, shorter _ ws f _ d)))
  sized form ws f rest (imp_one d) few = sized _ ws f rest d few
  sized form ws h rest (imp_two {mid = mid} {f = f} {g = g} d e) few = (sized _ ws f _ d few, sized _ mid g rest e (omega (arith, few, shorter _ ws f _ d)))
  sized form ws h rest (join {j = j} {mid = mid} {f = f} {fs = fs} d more) few =
      let behind = shorter _ ws f mid d in
      sized_parts j f fs (sized _ ws f mid d few) (all_sized j mid fs rest more (omega (arith, few, behind))) (omega (arith, few, behind, takes j mid fs rest more))
  sized form ws h rest (negation {ws = there} {f = f} d) few = sized _ there f rest d (omega (arith, few))
  sized form ws f rest (group {ws = there} d) few = sized _ there f _ d (omega (arith, few))
  sized form ws h rest (comparison {mid = mid} {left = left} {right = right} op d e) few = (omega (arith, few, side_takes ws left _ d), omega (arith, few, side_takes ws left _ d, side_takes mid right rest e))
  sized form ws h rest (table_atom text d) few = tt

  all_sized : (j : Joint) (ws : List Word) (fs : List Formula) (rest : List Word) → Goes_on j ws fs rest → length ws < too_many → AreSized (parts_of fs)
  all_sized j ws fs rest no_more few = tt
  all_sized j ws fs rest (one_more {ws = there} {mid = mid} {f = f} {fs = others} d more) few =
      (sized _ there f mid d (omega (arith, few)), all_sized j mid others rest more (omega (arith, few, shorter _ there f mid d)))

-- ---- a line has no more words than bytes

tokens_within : (line : List ℕ) (from : ℕ) (ts : List Token) (to : ℕ) → ReadsTokens line from ts to → from + length ts ≤ to
tokens_within line from [] to read = omega (arith, read.0)
tokens_within line from (t ∷ ts) to read =
    let token = read.2 in
    omega (arith, read.0, token.nonempty, tokens_within line t.end ts to read.3)

pub words_within : (line : List ℕ) (ws : List Word) → HasWords line ws → length ws ≤ length line
words_within line ws has =
    let count : length ws ≡ length has.tokens = ap length has.words ∙ length-map has.tokens (word_of line) in
    omega (arith, count, tokens_within line 0 has.tokens (length line) has.splits)
