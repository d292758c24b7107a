-- A line has one form, which its first word decides, and a command line one reading.
use Rattle.std.proofs.Common.{◌≡◌, ℕ, ℤ, true, false, List, [], ◌∷◌, map, refl, sym, ◌∙◌, ap, subst, arith, if◌then◌else◌}
use Rattle.std.specs.Prelude.{codes, bytes_eq}
use Rattle.pc_token.specs.declared.token.Kind.TheVariants.{Colon}
use Rattle.pc_formula.specs.Word.{Word, name, sign, nesting}
use Rattle.pc_formula.specs.Value.{DerivesName, DerivesNumber, DerivesInt, DerivesValue, InParentheses, Arguments}
use Rattle.pc_formula.specs.Grammar.{IsFormula}
use Rattle.pc_formula.specs.Tree.{Formula, Cell, Value}
use Rattle.pc_syntax.specs.Tree.{Declared, list_sort, range_sort, table, row, cell, rule, enter, also}
use Rattle.pc_syntax.specs.Spelling.{IsSpelled, IsTooDeep}
use Rattle.pc_syntax.specs.Clause.{IsRule}
use Rattle.pc_syntax.specs.Line.{LineForm, nothing, heading, declares, begins, keyword, AreBounds, IsRangeDeclared, IsTable, IsRow, IsFamily, StandsBehind, IsDeclaration, IsHeading, IsForm, IsBegin, IsLine, empty_line, begin_line, spelled_line}
use Rattle.pc_formula.proofs.Unambiguous.{one_tree}
use Rattle.pc_formula.proofs.ValueForms.{number_once, int_once}
use Rattle.pc_formula.proofs.Equations.{equation_once}
use Rattle.pc_syntax.proofs.Families.{one_list_of_names, one_list_of_values, one_arguments, no_int_of_name, no_int_of_none, nesting_of_one}
use Rattle.pc_syntax.proofs.Lone.{lone_something}
use Rattle.pc_syntax.proofs.ReadLine.{one_words, one_name_has}

pub same_names : (xs ys : List (List ℕ)) → map name xs ≡ map name ys → xs ≡ ys
same_names [] [] e = refl
same_names [] (y ∷ ys) e = cc
same_names (x ∷ xs) [] e = cc
same_names (x ∷ xs) (y ∷ ys) e =
    let rest : map name xs ≡ map name ys = cc in
    let more = same_names xs ys rest in
    cc

-- ---- the word that starts a declaration

data Start : Type 0 where
  of_sort : Start
  of_table : Start
  of_row : Start
  of_cell : Start
  of_rule : Start
  of_enter : Start
  of_also : Start
  of_none : Start

start : List ℕ → Start
start text =
    if bytes_eq text (codes "sort") then of_sort
    else (if bytes_eq text (codes "table") then of_table
    else (if bytes_eq text (codes "row") then of_row
    else (if bytes_eq text (codes "cell") then of_cell
    else (if bytes_eq text (codes "rule") then of_rule
    else (if bytes_eq text (codes "enter") then of_enter
    else (if bytes_eq text (codes "also") then of_also else of_none))))))

start_of : Declared → Start
start_of (list_sort n values) = of_sort
start_of (range_sort n low high) = of_sort
start_of (table n sorts) = of_table
start_of (row n values) = of_row
start_of (cell n sorts result) = of_cell
start_of (rule n f) = of_rule
start_of (enter c v) = of_enter
start_of (also c v) = of_also

start_is : (d : Declared) → start (keyword d) ≡ start_of d
unfolding start start_of
start_is (list_sort n values) = refl
start_is (range_sort n low high) = refl
start_is (table n sorts) = refl
start_is (row n values) = refl
start_is (cell n sorts result) = refl
start_is (rule n f) = refl
start_is (enter c v) = refl
start_is (also c v) = refl

starts_some : (d : Declared) → start_of d ≡ of_none → ⊥
unfolding start_of
starts_some (list_sort n values) is = cc
starts_some (range_sort n low high) is = cc
starts_some (table n sorts) is = cc
starts_some (row n values) is = cc
starts_some (cell n sorts result) is = cc
starts_some (rule n f) is = cc
starts_some (enter c v) is = cc
starts_some (also c v) is = cc

-- a word that starts no declaration
no_keyword : (text : List ℕ) → start text ≡ of_none → (d : Declared) → keyword d ≡ text → ⊥
no_keyword text none d is = starts_some d (sym (start_is d) ∙ ap start is ∙ none)

data Shape : Start → Declared → Type 0 where
  a_list : (n : List ℕ) (values : List (List ℕ)) → Shape of_sort (list_sort n values)
  a_range : (n : List ℕ) (low high : ℤ) → Shape of_sort (range_sort n low high)
  a_table : (n : List ℕ) (sorts : List (List ℕ)) → Shape of_table (table n sorts)
  a_row : (n : List ℕ) (values : List Value) → Shape of_row (row n values)
  a_cell : (n : List ℕ) (sorts : List (List ℕ)) (r : List ℕ) → Shape of_cell (cell n sorts r)
  a_rule : (n : List ℕ) (f : Formula) → Shape of_rule (rule n f)
  an_entry : (c : Cell) (v : Value) → Shape of_enter (enter c v)
  a_further_entry : (c : Cell) (v : Value) → Shape of_also (also c v)

shape : (d : Declared) → Shape (start_of d) d
unfolding start_of
shape (list_sort n values) = a_list n values
shape (range_sort n low high) = a_range n low high
shape (table n sorts) = a_table n sorts
shape (row n values) = a_row n values
shape (cell n sorts r) = a_cell n sorts r
shape (rule n f) = a_rule n f
shape (enter c v) = an_entry c v
shape (also c v) = a_further_entry c v

-- ---- one declaration

one_listed : (ws : List Word) (n k : List ℕ) (xs ys : List (List ℕ)) → StandsBehind (list_sort n xs) ws → StandsBehind (list_sort k ys) ws → list_sort n xs ≡ list_sort k ys
one_listed ws n k xs ys a b =
    let words = sym a ∙ b in
    let values = same_names xs ys (cc) in
    cc

no_bounds : (ws : List Word) (xs : List (List ℕ)) (n k : List ℕ) (low high : ℤ) → StandsBehind (list_sort n xs) ws → IsRangeDeclared ws k low high → ⊥
no_bounds ws [] n k low high a b =
    let words = sym b.words ∙ a in
    let none : b.rest ≡ [] = cc in
    no_int_of_none b.rest low _ none b.bounds.first
no_bounds ws (x ∷ xs) n k low high a b =
    let words = sym b.words ∙ a in
    let first : b.rest ≡ name x ∷ map name xs = cc in
    no_int_of_name b.rest x (map name xs) low _ first b.bounds.first

one_range : (ws : List Word) (n k : List ℕ) (low high below above : ℤ) → IsRangeDeclared ws n low high → IsRangeDeclared ws k below above → range_sort n low high ≡ range_sort k below above
one_range ws n k low high below above a b =
    let words = sym a.words ∙ b.words in
    let rest : a.rest ≡ b.rest = cc in
    let x = subst (λ l. AreBounds l low high) rest a.bounds in
    let first = int_once b.rest low below _ _ x.first b.bounds.first in
    let behind = first.1 in
    let second : x.rest ≡ b.bounds.rest = cc in
    let last = int_once b.bounds.rest high above [] [] (subst (λ l. DerivesInt l high []) second x.second) b.bounds.second in
    let names : n ≡ k = cc in
    let lows = first.0 in
    let highs = last.0 in
    cc

one_table : (ws : List Word) (n k : List ℕ) (xs ys : List (List ℕ)) → IsTable ws n xs → IsTable ws k ys → table n xs ≡ table k ys
one_table ws n k xs ys a b =
    let words = sym a.words ∙ b.words in
    let rest : a.rest ≡ b.rest = cc in
    let names : n ≡ k = cc in
    let sorts = (one_list_of_names b.rest xs ys [] [] (subst (λ l. InParentheses DerivesName l xs []) rest a.listed) b.listed).0 in
    cc

one_row : (ws : List Word) (n k : List ℕ) (xs ys : List Value) → IsRow ws n xs → IsRow ws k ys → row n xs ≡ row k ys
one_row ws n k xs ys a b =
    let words = sym a.words ∙ b.words in
    let rest : a.rest ≡ b.rest = cc in
    let names : n ≡ k = cc in
    let values = (one_list_of_values b.rest xs ys [] [] (subst (λ l. InParentheses DerivesValue l xs []) rest a.listed) b.listed).0 in
    cc

one_family : (ws : List Word) (n k : List ℕ) (xs ys : List (List ℕ)) (p q : List ℕ) → IsFamily ws n xs p → IsFamily ws k ys q → cell n xs p ≡ cell k ys q
one_family ws n k xs ys p q a b =
    let words = sym a.words ∙ b.words in
    let rest : a.rest ≡ b.rest = cc in
    let names : n ≡ k = cc in
    let both = one_arguments b.rest xs ys _ _ (omega arith) (omega arith) (subst (λ l. Arguments DerivesName l xs (sign Colon ∷ name p ∷ [])) rest a.arguments) b.arguments in
    let sorts = both.0 in
    let behind = both.1 in
    let results : p ≡ q = cc in
    cc

pub one_rule : (ws : List Word) (n k : List ℕ) (f g : Formula) → IsRule ws n f → IsRule ws k g → (n ≡ k) × (f ≡ g)
one_rule ws n k f g a b =
    let words = sym a.words ∙ b.words in
    let rest : a.rest ≡ b.rest = cc in
    ((cc), one_tree b.rest f g (subst (λ l. IsFormula l f) rest a.formula) b.formula)

one_shape : (t : Start) (d e : Declared) (ws : List Word) → Shape t d → Shape t e → StandsBehind d ws → StandsBehind e ws → d ≡ e
one_shape t d e ws (a_list n xs) (a_list k ys) a b = one_listed ws n k xs ys a b
one_shape t d e ws (a_list n xs) (a_range k low high) a b = absurd (no_bounds ws xs n k low high a b)
one_shape t d e ws (a_range n low high) (a_list k ys) a b = absurd (no_bounds ws ys k n low high b a)
one_shape t d e ws (a_range n low high) (a_range k below above) a b = one_range ws n k low high below above a b
one_shape t d e ws (a_table n xs) (a_table k ys) a b = one_table ws n k xs ys a b
one_shape t d e ws (a_row n xs) (a_row k ys) a b = one_row ws n k xs ys a b
one_shape t d e ws (a_cell n xs p) (a_cell k ys q) a b = one_family ws n k xs ys p q a b
one_shape t d e ws (a_rule n f) (a_rule k g) a b = let both = one_rule ws n k f g a b in ap (λ m. rule m f) both.0 ∙ ap (λ h. rule k h) both.1
one_shape t d e ws (an_entry c v) (an_entry p w) a b = let both = equation_once ws c p v w true true a b in ap (λ m. enter m v) both.0 ∙ ap (λ u. enter p u) both.1
one_shape t d e ws (a_further_entry c v) (a_further_entry p w) a b = let both = equation_once ws c p v w true true a b in ap (λ m. also m v) both.0 ∙ ap (λ u. also p u) both.1

one_declaration : (ws : List Word) (d e : Declared) → IsDeclaration ws d → IsDeclaration ws e → d ≡ e
one_declaration ws d e a b =
    let words = sym a.words ∙ b.words in
    let keywords : keyword d ≡ keyword e = cc in
    let rest : a.rest ≡ b.rest = cc in
    let starts = sym (start_is d) ∙ ap start keywords ∙ start_is e in
    one_shape (start_of e) d e b.rest (subst (λ t. Shape t d) starts (shape d)) (shape e) (subst (StandsBehind d) rest a.follows) b.follows

-- ---- one form

pub differ : (texts others : List ℕ) → bytes_eq texts texts ≡ true → bytes_eq texts others ≡ false → texts ≡ others → ⊥
differ texts others one other same =
    let both : bytes_eq texts texts ≡ bytes_eq texts others = ap (bytes_eq texts) same in
    cc

no_heading : start (codes "sheet") ≡ of_none
unfolding start
no_heading = refl

no_begin : start (codes "begin") ≡ of_none
unfolding start
no_begin = refl

one_heading : (ws : List Word) (n m : ℕ) → IsHeading ws n → IsHeading ws m → n ≡ m
one_heading ws n m a b =
    let words = sym a.words ∙ b.words in
    let rest : a.rest ≡ b.rest = cc in
    (number_once b.rest n m [] [] (subst (λ l. DerivesNumber l n []) rest a.number) b.number).0

heading_declares_none : (ws : List Word) (n : ℕ) (d : Declared) → IsHeading ws n → IsDeclaration ws d → ⊥
heading_declares_none ws n d a b =
    let words = sym b.words ∙ a.words in
    let keywords : keyword d ≡ codes "sheet" = cc in
    no_keyword (codes "sheet") no_heading d keywords

pub one_form : (ws : List Word) (f g : LineForm) → IsForm ws f → IsForm ws g → f ≡ g
one_form ws (heading n) (heading m) a b = ap heading (one_heading ws n m a b)
one_form ws (heading n) (declares d) a b = absurd (heading_declares_none ws n d a b)
one_form ws (declares d) (heading n) a b = absurd (heading_declares_none ws n d b a)
one_form ws (declares d) (declares e) a b = ap declares (one_declaration ws d e a b)
one_form ws nothing g a b = absurd a
one_form ws begins g a b = absurd a
one_form ws (heading n) nothing a b = absurd b
one_form ws (heading n) begins a b = absurd b
one_form ws (declares d) nothing a b = absurd b
one_form ws (declares d) begins a b = absurd b

-- the word `begin` starts no form
begin_is_none : (ws : List Word) (f : LineForm) → ws ≡ name (codes "begin") ∷ [] → IsForm ws f → ⊥
begin_is_none ws nothing is a = a
begin_is_none ws begins is a = a
begin_is_none ws (heading n) is a =
    let words = sym a.words ∙ is in
    let keywords : codes "sheet" ≡ codes "begin" = cc in
    differ (codes "sheet") (codes "begin") refl refl keywords
begin_is_none ws (declares d) is a =
    let words = sym a.words ∙ is in
    let keywords : keyword d ≡ codes "begin" = cc in
    no_keyword (codes "begin") no_begin d keywords

pub begin_spells_none : (line : List ℕ) (ws : List Word) (f : LineForm) → IsBegin line → IsSpelled line ws → IsForm ws f → ⊥
begin_spells_none line ws f b s is = begin_is_none ws f (one_words line ws (name (codes "begin") ∷ []) s.split.has (one_name_has line (codes "begin") refl b.name)) is

pub one_line : (line : List ℕ) (f g : LineForm) → IsLine line f → IsLine line g → f ≡ g
one_line line f g (empty_line a) (empty_line b) = refl
one_line line f g (empty_line a) (begin_line b) = absurd (lone_something line (codes "begin") b.name a.empty)
one_line line f g (empty_line a) (spelled_line ws s b) = absurd (s.split.something a)
one_line line f g (begin_line a) (empty_line b) = absurd (lone_something line (codes "begin") a.name b.empty)
one_line line f g (begin_line a) (begin_line b) = refl
one_line line f g (begin_line a) (spelled_line ws s b) = absurd (begin_spells_none line ws g a s b)
one_line line f g (spelled_line ws s a) (empty_line b) = absurd (s.split.something b)
one_line line f g (spelled_line ws s a) (begin_line b) = absurd (begin_spells_none line ws f b s a)
one_line line f g (spelled_line ws s a) (spelled_line vs t b) = one_form vs f g (subst (λ l. IsForm l f) (one_words line ws vs s.split.has t.split.has) a) b

-- the word `begin` doesn't go too deep
pub deep_no_begin : (line : List ℕ) → IsTooDeep line → IsBegin line → ⊥
deep_no_begin line t b =
    let words = one_words line t.words (name (codes "begin") ∷ []) t.split.has (one_name_has line (codes "begin") refl b.name) in
    let count = ap nesting words in
    absurd (omega (arith, t.deep, count, nesting_of_one (codes "begin")))
