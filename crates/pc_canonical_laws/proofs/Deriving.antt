-- The words of a canonical text derive its tree.
use Rattle.std.proofs.Common.{◌≡◌, ℕ, suc, ◌<◌, ◌≤◌, ◌^◌, ℤ, pos, negsuc, ◌+ℤ◌, Bool, true, false, List, [], ◌∷◌, ◌++◌, map, cond, refl, ap, subst, arith}
use Rattle.std.proofs.lemmas.Bool.Decides.{nat_tests}
use Rattle.std.proofs.lemmas.Fmt.{decimal_is_IsNumeral_wide}
use Rattle.std.specs.Prelude.{nat_lt, slice_get, unwrap_or}
use Rattle.std.specs.Fmt.{decimal}
use Rattle.pc_name.specs.declared.sign.Sign.{Sign}
use Rattle.pc_sheet.specs.Sheet as sheet
use Rattle.pc_sheet.specs.Sheet.{Universe, Values, listed, range, Statement, Statements, no_statements, statement}
use Rattle.pc_sheet.specs.Nesting.{tightness}
use Rattle.pc_sheet.specs.Sizes.{values_at}
use Rattle.pc_sheet.specs.WellSorted.{Variables, parts_in}
use Rattle.pc_sheet.specs.declared.ids.ValueId.{ValueId}
use Rattle.pc_token.specs.declared.token.Kind.TheVariants.{Open, Close, Comma}
use Rattle.pc_formula.specs.declared.quantifier.Quantifier.TheVariants.{ForAll, Exists, Count}
use Rattle.pc_formula.specs.Word.{Word, sign, number}
use Rattle.pc_formula.specs.Tree as tree
use Rattle.pc_formula.specs.Tree.{Formula, Item, Items, items_of, parts_of}
use Rattle.pc_formula.specs.Value.{DerivesInt, natural, negative, DerivesNumber, a_number}
use Rattle.pc_formula.specs.Quantifier.{for_every, for_some, for_so_many}
use Rattle.pc_formula.specs.Side.{DerivesItem, integer_item, bare_item, applied_item, DerivesItems, last_item, next_item, Adds, nothing_added, added, DerivesSide, a_side}
use Rattle.pc_formula.specs.Grammar.{Form, Joint, whole, iffs, imps, joined, by_or, by_and, unary, part_form, joint, Derives, quantifier, no_quantifier, iff_one, iff_two, imp_one, imp_two, join, negation, group, comparison, table_atom, Goes_on, no_more, one_more}
use Rattle.pc_writer.specs.FormulaText.{bound_of, family_at, is_at_most, sort_name, table_at, variable_at}
use Rattle.pc_canonical_laws.specs.Tree.{value_tree, item_tree, item_trees, argument_trees, added_tree, side_tree, statement_tree, part_trees}
use Rattle.pc_canonical_laws.proofs.Named.{IsShort, IsSpelledValue, IsSpelledItem, AreSpelledItems, AreSpelledParts, IsSpelledSum, IsSpelledStatement, AreSpelledStatements}
use Rattle.pc_canonical_laws.proofs.Words.{integer_words, value_words, item_words, more_words, rest_words, sum_words, enclosed_words, statement_words, part_words, goes_on_words}

-- ---- numbers and items

pub derive_number : (n : ℕ) (rest : List Word) → n < 10 ^ 18 → DerivesNumber (number (decimal n) ∷ rest) n rest
derive_number n rest short = subst (λ m. DerivesNumber (number (decimal n) ∷ rest) m rest) (decimal_is_IsNumeral_wide n (omega arith)).1 (a_number (decimal n))

pub derive_integer : (z : ℤ) (rest : List Word) → IsShort z → DerivesInt (integer_words z rest) z rest
derive_integer (pos n) rest short = natural (derive_number n rest (omega (arith, short)))
derive_integer (negsuc n) rest short = negative (derive_number (suc n) rest (omega (arith, short)))

derive_value : (v : Values) (k : ValueId) (rest : List Word) → IsSpelledValue v k → DerivesItem (value_words v k rest) (value_tree v k) rest
derive_value (listed names) k rest spelled = bare_item (unwrap_or (slice_get names k.0) [])
derive_value (range low high) k rest spelled = integer_item (derive_integer (low +ℤ pos k.0) rest spelled)

module _ (u : Universe) (vs : Variables) where
  arguments_are : (xs : sheet.Items) → items_of (argument_trees u vs xs) ≡ item_trees u vs xs
  arguments_are sheet.no_items = refl
  arguments_are (sheet.item x xs) = ap (tree.one_item (item_tree u vs x)) (arguments_are xs)

  mutual
    derive_item : (x : sheet.Item) (rest : List Word) → IsSpelledItem u vs x → DerivesItem (item_words u vs x rest) (item_tree u vs x) rest
    derive_item (sheet.variable k) rest spelled = bare_item (variable_at vs k)
    derive_item (sheet.constant s v) rest spelled = derive_value (values_at u s) v rest spelled
    derive_item (sheet.number z) rest spelled = integer_item (derive_integer z rest spelled)
    derive_item (sheet.cell f sheet.no_items) rest spelled = bare_item (family_at u f).name
    derive_item (sheet.cell f (sheet.item x xs)) rest spelled =
        let name = (family_at u f).name in
        let words = item_words u vs (sheet.cell f (sheet.item x xs)) rest in
        subst (λ args. DerivesItem words (tree.named name args) rest) (arguments_are (sheet.item x xs)) (applied_item name (derive_list xs (item_tree u vs x) (item_words u vs x) (λ more. derive_item x more spelled.1.0) rest spelled.1.1))

    -- a first argument, with further ones up to the parenthesis that closes them
    derive_list : (xs : sheet.Items) (first : Item) (words : List Word → List Word) → ((more : List Word) → DerivesItem (words more) first more) → (rest : List Word) → AreSpelledItems u vs xs
        → DerivesItems (words (more_words u vs xs rest)) (first ∷ argument_trees u vs xs) rest
    derive_list sheet.no_items first words own rest spelled = last_item (own (sign Close ∷ rest))
    derive_list (sheet.item y ys) first words own rest spelled =
        next_item (own (sign Comma ∷ item_words u vs y (more_words u vs ys rest))) (derive_list ys (item_tree u vs y) (item_words u vs y) (λ more. derive_item y more spelled.0) rest spelled.1)

  -- ---- sides

  derive_added : (xs : List (Sign × sheet.Item)) (rest : List Word) → AreSpelledParts u vs xs → Adds (rest_words u vs xs rest) (map (added_tree u vs) xs) rest
  derive_added [] rest spelled = nothing_added
  derive_added (x ∷ xs) rest spelled = added x.0 (derive_item x.1 (rest_words u vs xs rest) spelled.0) (derive_added xs rest spelled.1)

  derive_side : (s : sheet.Sum) (rest : List Word) → IsSpelledSum u vs s → DerivesSide (sum_words u vs s rest) (side_tree u vs s) rest
  derive_side s rest spelled = a_side (derive_item s.first (rest_words u vs s.rest rest) spelled.0) (derive_added s.rest rest spelled.1)

-- ---- forms

-- how tightly what a form derives binds at least
abbrev rank : Form → ℕ
rank whole = 0
rank iffs = 1
rank imps = 2
rank (joined by_or) = 3
rank (joined by_and) = 4
rank unary = 5

-- the narrowest form that derives the statement without parentheses
abbrev own_form : Statement → Form
own_form (sheet.compare left op right) = unary
own_form (sheet.in_table t xs) = unary
own_form (sheet.negation s) = unary
own_form (sheet.all_of ss) = joined by_and
own_form (sheet.some_of ss) = joined by_or
own_form (sheet.implies s t) = imps
own_form (sheet.iff s t) = iffs
own_form (sheet.for_all n s body) = whole
own_form (sheet.exists n s body) = whole
own_form (sheet.counts c n s body) = whole

own_rank : (s : Statement) → rank (own_form s) ≡ tightness s
own_rank (sheet.compare left op right) = refl
own_rank (sheet.in_table t xs) = refl
own_rank (sheet.negation s) = refl
own_rank (sheet.all_of ss) = refl
own_rank (sheet.some_of ss) = refl
own_rank (sheet.implies s t) = refl
own_rank (sheet.iff s t) = refl
own_rank (sheet.for_all n s body) = refl
own_rank (sheet.exists n s body) = refl
own_rank (sheet.counts c n s body) = refl

-- one form further out
single : (j : Joint) (ws : List Word) (f : Formula) (rest : List Word) → Derives (part_form j) ws f rest → Derives (joined j) ws f rest
single j ws f rest d = join d no_more

-- a wider form derives what a narrower one does
widen : (inner outer : Form) (ws : List Word) (f : Formula) (rest : List Word) → rank outer ≤ rank inner → Derives inner ws f rest → Derives outer ws f rest
widen unary unary ws f rest fits d = d
widen unary (joined by_and) ws f rest fits d = single by_and ws f rest d
widen unary (joined by_or) ws f rest fits d = single by_or ws f rest (single by_and ws f rest d)
widen unary imps ws f rest fits d = imp_one (single by_or ws f rest (single by_and ws f rest d))
widen unary iffs ws f rest fits d = iff_one (imp_one (single by_or ws f rest (single by_and ws f rest d)))
widen unary whole ws f rest fits d = no_quantifier (iff_one (imp_one (single by_or ws f rest (single by_and ws f rest d))))
widen (joined by_and) (joined by_and) ws f rest fits d = d
widen (joined by_and) (joined by_or) ws f rest fits d = single by_or ws f rest d
widen (joined by_and) imps ws f rest fits d = imp_one (single by_or ws f rest d)
widen (joined by_and) iffs ws f rest fits d = iff_one (imp_one (single by_or ws f rest d))
widen (joined by_and) whole ws f rest fits d = no_quantifier (iff_one (imp_one (single by_or ws f rest d)))
widen (joined by_or) (joined by_or) ws f rest fits d = d
widen (joined by_or) imps ws f rest fits d = imp_one d
widen (joined by_or) iffs ws f rest fits d = iff_one (imp_one d)
widen (joined by_or) whole ws f rest fits d = no_quantifier (iff_one (imp_one d))
widen imps imps ws f rest fits d = d
widen imps iffs ws f rest fits d = iff_one d
widen imps whole ws f rest fits d = no_quantifier (iff_one d)
widen iffs iffs ws f rest fits d = d
widen iffs whole ws f rest fits d = no_quantifier d
widen whole whole ws f rest fits d = d
widen (joined by_and) unary ws f rest fits d = absurd (omega (arith, fits))
widen (joined by_or) unary ws f rest fits d = absurd (omega (arith, fits))
widen (joined by_or) (joined by_and) ws f rest fits d = absurd (omega (arith, fits))
widen imps unary ws f rest fits d = absurd (omega (arith, fits))
widen imps (joined by_and) ws f rest fits d = absurd (omega (arith, fits))
widen imps (joined by_or) ws f rest fits d = absurd (omega (arith, fits))
widen iffs unary ws f rest fits d = absurd (omega (arith, fits))
widen iffs (joined by_and) ws f rest fits d = absurd (omega (arith, fits))
widen iffs (joined by_or) ws f rest fits d = absurd (omega (arith, fits))
widen iffs imps ws f rest fits d = absurd (omega (arith, fits))
widen whole unary ws f rest fits d = absurd (omega (arith, fits))
widen whole (joined by_and) ws f rest fits d = absurd (omega (arith, fits))
widen whole (joined by_or) ws f rest fits d = absurd (omega (arith, fits))
widen whole imps ws f rest fits d = absurd (omega (arith, fits))
widen whole iffs ws f rest fits d = absurd (omega (arith, fits))

below_unary : (form : Form) → rank form ≤ 5
below_unary whole = omega arith
below_unary iffs = omega arith
below_unary imps = omega arith
below_unary (joined by_or) = omega arith
below_unary (joined by_and) = omega arith
below_unary unary = omega arith

-- what is derived by its own form is derived, in parentheses where they are needed, by any form
wrap : (form : Form) (s : Statement) (f : Formula) (words : List Word → List Word) (rest : List Word) → ((more : List Word) → Derives (own_form s) (words more) f more) → Derives form (enclosed_words (rank form) s words rest) f rest
wrap form s f words rest own = go (nat_lt (tightness s) (rank form)) refl
  where
    go : (b : Bool) → nat_lt (tightness s) (rank form) ≡ b → Derives form (cond b (sign Open ∷ words (sign Close ∷ rest)) (words rest)) f rest
    go true is = widen unary form _ f rest (below_unary form) (group (widen (own_form s) whole _ f (sign Close ∷ rest) (omega arith) (own (sign Close ∷ rest))))
    go false is =
        let tight : rank form ≤ tightness s = grind (arith, nat_tests) in
        widen (own_form s) form _ f rest (omega (arith, tight, own_rank s)) (own rest)

-- ---- statements

module _ (u : Universe) where
  trees : Variables → Statements → List Formula
  trees vs no_statements = []
  trees vs (statement s ss) = statement_tree u vs s ∷ trees vs ss

  parts_are : (vs : Variables) (ss : Statements) → parts_of (trees vs ss) ≡ part_trees u vs ss
  unfolding trees
  parts_are vs no_statements = refl
  parts_are vs (statement s ss) = ap (tree.part (statement_tree u vs s)) (parts_are vs ss)

  mutual
    unfolding trees

    pub derive_statement : (vs : Variables) (s : Statement) → IsSpelledStatement u vs s → (rest : List Word) → Derives (own_form s) (statement_words u vs s rest) (statement_tree u vs s) rest
    derive_statement vs (sheet.compare left op right) spelled rest = comparison op (derive_side u vs left _ spelled.0) (derive_side u vs right rest spelled.1)
    derive_statement vs (sheet.in_table t sheet.no_items) spelled rest = absurd spelled.1
    derive_statement vs (sheet.in_table t (sheet.item x xs)) spelled rest = table_atom (table_at u t).name (derive_list u vs xs (item_tree u vs x) (item_words u vs x) (λ more. derive_item u vs x more spelled.2.0) rest spelled.2.1)
    derive_statement vs (sheet.negation s) spelled rest = negation (wrap unary s (statement_tree u vs s) (statement_words u vs s) rest (derive_statement vs s spelled))
    derive_statement vs (sheet.all_of ss) spelled rest =
        subst (λ l. Derives (joined by_and) (part_words u vs by_and 5 ss rest) (tree.and l) rest) (parts_are vs ss) (derive_parts vs ss spelled.0 spelled.1 by_and rest)
    derive_statement vs (sheet.some_of ss) spelled rest =
        subst (λ l. Derives (joined by_or) (part_words u vs by_or 4 ss rest) (tree.or l) rest) (parts_are vs ss) (derive_parts vs ss spelled.0 spelled.1 by_or rest)
    derive_statement vs (sheet.implies s t) spelled rest =
        imp_two (wrap (joined by_or) s (statement_tree u vs s) (statement_words u vs s) _ (derive_statement vs s spelled.0)) (wrap imps t (statement_tree u vs t) (statement_words u vs t) rest (derive_statement vs t spelled.1))
    derive_statement vs (sheet.iff s t) spelled rest =
        iff_two (wrap imps s (statement_tree u vs s) (statement_words u vs s) _ (derive_statement vs s spelled.0)) (wrap imps t (statement_tree u vs t) (statement_words u vs t) rest (derive_statement vs t spelled.1))
    derive_statement vs (sheet.for_all n s body) spelled rest =
        let inner = vs ++ (n, s) ∷ [] in
        quantifier {q = ForAll} n (sort_name u s) for_every (widen (own_form body) whole _ (statement_tree u inner body) rest (omega arith) (derive_statement inner body spelled.2 rest))
    derive_statement vs (sheet.exists n s body) spelled rest =
        let inner = vs ++ (n, s) ∷ [] in
        quantifier {q = Exists} n (sort_name u s) for_some (widen (own_form body) whole _ (statement_tree u inner body) rest (omega arith) (derive_statement inner body spelled.2 rest))
    derive_statement vs (sheet.counts c n s body) spelled rest =
        let inner = vs ++ (n, s) ∷ [] in
        quantifier {q = Count (is_at_most c) (pos (bound_of c))} n (sort_name u s) (for_so_many (is_at_most c) (derive_number (bound_of c) _ (omega (arith, spelled.0))))
        (widen (own_form body) whole _ (statement_tree u inner body) rest (omega arith) (derive_statement inner body spelled.3 rest))

    derive_parts : (vs : Variables) (ss : Statements) → 2 ≤ parts_in ss → AreSpelledStatements u vs ss → (j : Joint) (rest : List Word) → Derives (joined j) (part_words u vs j (rank (part_form j)) ss rest) (joint j (trees vs ss)) rest
    derive_parts vs no_statements two spelled j rest = absurd (omega (arith, two))
    derive_parts vs (statement s no_statements) two spelled j rest = absurd (omega (arith, two))
    derive_parts vs (statement s (statement t ss)) two spelled j rest =
        join (wrap (part_form j) s (statement_tree u vs s) (statement_words u vs s) _ (derive_statement vs s spelled.0)) (derive_more vs (statement t ss) spelled.1 j rest)

    derive_more : (vs : Variables) (ss : Statements) → AreSpelledStatements u vs ss → (j : Joint) (rest : List Word) → Goes_on j (goes_on_words u vs j (rank (part_form j)) ss rest) (trees vs ss) rest
    derive_more vs no_statements spelled j rest = no_more
    derive_more vs (statement s ss) spelled j rest =
        one_more (wrap (part_form j) s (statement_tree u vs s) (statement_words u vs s) _ (derive_statement vs s spelled.0)) (derive_more vs ss spelled.1 j rest)

  -- all the words of a statement's text are its tree
  pub derive_whole : (vs : Variables) (s : Statement) → IsSpelledStatement u vs s → Derives whole (statement_words u vs s []) (statement_tree u vs s) []
  derive_whole vs s spelled = widen (own_form s) whole _ (statement_tree u vs s) [] (omega arith) (derive_statement vs s spelled [])
