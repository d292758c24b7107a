-- A claim of a cell and a value has a sign in its line, and so is none of words and names alone; and it isn't one with `not`.
use Rattle.std.proofs.Common.{◌≡◌, ℕ, ℤ, zero, suc, ◌<◌, ◌≤◌, ◌⊎◌, inl, inr, ⊎_elim, get_or, Bool, true, false, not, ◌||◌, ◌==◌, List, [], ◌∷◌, ◌++◌, length, map, refl, sym, ◌∙◌, ap, subst, arith, if◌then◌else◌}
use Rattle.std.specs.Prelude.{codes, slice_index, slice_range, nat_lt, filter}
use Rattle.std.specs.List.{AllByRecursion, list_all, slice_split, onto_first}
use Rattle.std.specs.Str.{NoCharPasses, NonePass}
use Rattle.std.proofs.lemmas.Bool.{cases_lt}
use Rattle.std.proofs.lemmas.Bool.Decides.{nat_tests}
use Rattle.std.proofs.lemmas.Str.{NoCharPasses-byte}
use Rattle.unicode_ident.proofs.IdentLemmas.{is_xid_start-ascii, is_xid_continue-ascii}
use Rattle.pc_token.specs.declared.token.Kind.{Kind}
use Rattle.pc_token.specs.declared.token.Kind.TheVariants.{Name, Number, Comma, Close, Open, Minus}
use Rattle.pc_token.specs.declared.token.Token.{Token}
use Rattle.pc_token.specs.Token.{is_blank, IsOfKind, IsTokenOf, ReadsTokens}
use Rattle.pc_name.specs.Names.{starts_name, continues_name, HasNameCharacters, is_reserved}
use Rattle.pc_formula.specs.Word.{Word, name, reserved, number, sign, word, word_of}
use Rattle.pc_formula.specs.Tree.{Cell, Value}
use Rattle.pc_formula.specs.Value.{DerivesName, a_name, DerivesNumber, a_number, DerivesInt, natural, negative, DerivesValue, by_name, by_integer, Listed, last, next, InParentheses, enclosed, Arguments, no_argument, arguments, DerivesCell, a_cell}
use Rattle.pc_formula.specs.Equation.{equality}
use Rattle.pc_cert.specs.Claims.{WrittenPair, IsClaim, IsDenial}
use Rattle.pc_cert.specs.Words.{texts_of, SpellsThis, IsNameText}
use Rattle.pc_cert.proofs.TestsDiffer.{heads, tails, false_no_true, both_first, both_second}

-- ---- what is derived is a front of the words

record Ends (ws rest : List Word) : Type 0 where
  front : List Word
  are : ws ≡ front ++ rest

ends_none : (ws : List Word) → Ends ws ws
ends_none ws = record { front = []; are = refl }

ends_more : (w : Word) (ws rest : List Word) → Ends ws rest → Ends (w ∷ ws) rest
ends_more w ws rest e = record { front = w ∷ e.front; are = ap (λ l. w ∷ l) e.are }

ends_past : (ws : List Word) (w : Word) (rest : List Word) → Ends ws (w ∷ rest) → Ends ws rest
ends_past ws w rest e = by ws e.front e.are
  where
    by : (vs front : List Word) → vs ≡ front ++ w ∷ rest → Ends vs rest
    by vs [] is = record { front = w ∷ []; are = is }
    by [] (f ∷ fs) is = absurd (cc)
    by (v ∷ vs) (f ∷ fs) is = ends_more v vs rest (by vs fs (tails v f vs (fs ++ w ∷ rest) is))

ends_again : (ws mid rest : List Word) → Ends ws mid → Ends mid rest → Ends ws rest
ends_again ws mid rest d e = by ws d.front d.are
  where
    by : (vs front : List Word) → vs ≡ front ++ mid → Ends vs rest
    by vs [] is = record { front = e.front; are = is ∙ e.are }
    by [] (f ∷ fs) is = absurd (cc)
    by (v ∷ vs) (f ∷ fs) is = ends_more v vs rest (by vs fs (tails v f vs (fs ++ mid) is))

name_ends : (ws : List Word) (text : List ℕ) (rest : List Word) → DerivesName ws text rest → Ends ws rest
name_ends ws text rest (a_name t) = ends_more (name t) rest rest (ends_none rest)

number_ends : (ws : List Word) (n : ℕ) (rest : List Word) → DerivesNumber ws n rest → Ends ws rest
number_ends ws n rest (a_number t) = ends_more (number t) rest rest (ends_none rest)

int_ends : (ws : List Word) (z : ℤ) (rest : List Word) → DerivesInt ws z rest → Ends ws rest
int_ends ws z rest (natural {n = n} d) = number_ends ws n rest d
int_ends ws z rest (negative {ws = there} {n = n} d) = ends_more (sign Minus) there rest (number_ends there n rest d)

value_ends : (ws : List Word) (v : Value) (rest : List Word) → DerivesValue ws v rest → Ends ws rest
value_ends ws v rest (by_name {text = text} d) = name_ends ws text rest d
value_ends ws v rest (by_integer {z = z} d) = int_ends ws z rest d

listed_ends : (ws : List Word) (vs : List Value) (rest : List Word) → Listed DerivesValue ws vs rest → Ends ws rest
listed_ends ws vs rest (last {a = v} d) = ends_past ws (sign Close) rest (value_ends ws v (sign Close ∷ rest) d)
listed_ends ws vs rest (next {mid = mid} {a = v} {more = more} d tail) =
    ends_again ws mid rest (ends_past ws (sign Comma) mid (value_ends ws v (sign Comma ∷ mid) d)) (listed_ends mid more rest tail)

enclosed_ends : (ws : List Word) (vs : List Value) (rest : List Word) → InParentheses DerivesValue ws vs rest → Ends ws rest
enclosed_ends ws vs rest (enclosed {ws = there} d) = ends_more (sign Open) there rest (listed_ends there vs rest d)

arguments_end : (ws : List Word) (vs : List Value) (rest : List Word) → Arguments DerivesValue ws vs rest → Ends ws rest
arguments_end ws vs rest no_argument = ends_none ws
arguments_end ws vs rest (arguments d) = enclosed_ends ws vs rest d

cell_ends : (ws : List Word) (c : Cell) (rest : List Word) → DerivesCell ws c rest → Ends ws rest
cell_ends ws c rest (a_cell {ws = there} {values = values} text d) = ends_more (name text) there rest (arguments_end there values rest d)

-- ---- the token of a sign

name_no_sign : (b : Bool) (text : List ℕ) (k : Kind) → (if b then reserved text else name text) ≡ sign k → ⊥
name_no_sign true text k e = cc
name_no_sign false text k e = cc

kind_of_sign : (j k : Kind) (text : List ℕ) → word j text ≡ sign k → j ≡ k
kind_of_sign Name k text e = absurd (name_no_sign (is_reserved text) text k e)
kind_of_sign Number k text e = absurd (cc)
kind_of_sign j k text e = cc

record HasToken (line : List ℕ) (k : Kind) : Type 0 where
  token : Token
  is : IsTokenOf line token
  kind : token.kind ≡ k

sign_stands : (line : List ℕ) (ts : List Token) (from to : ℕ) (k : Kind) (front rest : List Word) → ReadsTokens line from ts to → map (word_of line) ts ≡ front ++ sign k ∷ rest → HasToken line k
sign_stands line [] from to k [] rest reads e = absurd (cc)
sign_stands line [] from to k (f ∷ fs) rest reads e = absurd (cc)
sign_stands line (t ∷ ts) from to k [] rest reads e =
    record { token = t; is = reads.2; kind = kind_of_sign t.kind k (slice_range line t.start t.end) (heads (word_of line t) (sign k) (map (word_of line) ts) rest e) }
sign_stands line (t ∷ ts) from to k (f ∷ fs) rest reads e = sign_stands line ts t.end to k fs rest reads.3 (tails (word_of line t) f (map (word_of line) ts) (fs ++ sign k ∷ rest) e)

-- ---- bytes

-- neither `=` nor `!`
abbrev pub is_clear : ℕ → Bool
is_clear b = not ((b == 61) || (b == 33))

abbrev pub IsClear : ℕ → Type 0
IsClear b = is_clear b ≡ true

blank_clear : (b : ℕ) → is_blank b ≡ true → IsClear b
blank_clear b is = grind (arith, nat_tests)

clear_all : (text : List ℕ) → list_all is_clear text ≡ true → AllByRecursion IsClear text
clear_all [] all = tt
clear_all (c ∷ cs) all = (both_first (is_clear c) (list_all is_clear cs) all, clear_all cs (both_second (is_clear c) (list_all is_clear cs) all))

clear_at : (line : List ℕ) (i : ℕ) → i < length line → AllByRecursion IsClear line → IsClear (slice_index line i)
clear_at [] i inside all = absurd (omega (arith, inside))
clear_at (c ∷ cs) zero inside all = all.0
clear_at (c ∷ cs) (suc i) inside all = clear_at cs i (omega (arith, inside)) all.1

-- a line between whose blanks all is clear is clear
clear_line : (line : List ℕ) → AllByRecursion (AllByRecursion IsClear) (slice_split is_blank line) → AllByRecursion IsClear line
clear_line [] all = tt
clear_line (c ∷ cs) all =
    let parted = by (is_blank c) (slice_split is_blank cs) refl all in
    (parted.0, clear_line cs parted.1)
  where
    by : (b : Bool) (parts : List (List ℕ)) → is_blank c ≡ b → AllByRecursion (AllByRecursion IsClear) (if b then [] ∷ parts else onto_first c parts) → IsClear c × AllByRecursion (AllByRecursion IsClear) parts
    by true parts e all = (blank_clear c e, all.1)
    by false [] e all = (all.0.0, tt)
    by false (p ∷ ps) e all = (all.0.0, (all.0.1, all.1))

some_length : (c : ℕ) (cs : List ℕ) → nat_lt 0 (length (c ∷ cs)) ≡ true
some_length c cs = grind (arith, nat_tests)

abbrev pub AreClear : List (List ℕ) → Type 0
AreClear texts = AllByRecursion (AllByRecursion IsClear) texts

abbrev without_empty : List (List ℕ) → List (List ℕ)
without_empty texts = filter (λ text. nat_lt 0 (length text)) texts

first_kept : (b : Bool) (p : List ℕ) (ps : List (List ℕ)) → b ≡ true → AreClear (if b then p ∷ ps else ps) → AllByRecursion IsClear p × AreClear ps
first_kept true p ps e all = all
first_kept false p ps e all = absurd (cc)

clear_parts : (parts : List (List ℕ)) → AreClear (without_empty parts) → AreClear parts
clear_parts [] all = tt
clear_parts ([] ∷ ps) all = (tt, clear_parts ps all)
clear_parts ((c ∷ cs) ∷ ps) all =
    let kept = first_kept (nat_lt 0 (length (c ∷ cs))) (c ∷ cs) (without_empty ps) (some_length c cs) all in
    (kept.0, clear_parts ps kept.1)

-- ---- claims

sign_not_clear : (line : List ℕ) (holds : Bool) → HasToken line (equality holds) → AllByRecursion IsClear line → ⊥
sign_not_clear line true h all =
    let kind = subst (λ k. IsOfKind k line h.token.start h.token.end) h.kind h.is.kind in
    let byte : slice_index line h.token.start ≡ 61 = kind.0.stands.0 in
    let inside : h.token.start < length line = omega (arith, h.is.nonempty, h.is.within) in
    let clear : is_clear 61 ≡ true = subst IsClear byte (clear_at line h.token.start inside all) in
    false_no_true false refl clear
sign_not_clear line false h all =
    let kind = subst (λ k. IsOfKind k line h.token.start h.token.end) h.kind h.is.kind in
    let byte : slice_index line h.token.start ≡ 33 = kind.0.stands.0 in
    let inside : h.token.start < length line = omega (arith, h.is.nonempty, h.is.within) in
    let clear : is_clear 33 ≡ true = subst IsClear byte (clear_at line h.token.start inside all) in
    false_no_true false refl clear

claim_token : (line : List ℕ) (p : WrittenPair) (holds : Bool) → SpellsThis IsClaim line (p, holds) → HasToken line (equality holds)
claim_token line p holds s =
    let has = s.spells.has in
    let sign_behind = cell_ends s.is.rest p.cell (sign (equality holds) ∷ s.is.pair.rest) s.is.pair.cell in
    let whole = ends_more (name (codes "claim")) s.is.rest (sign (equality holds) ∷ s.is.pair.rest) sign_behind in
    sign_stands line has.tokens 0 (length line) (equality holds) whole.front s.is.pair.rest has.splits (sym has.words ∙ s.is.are ∙ whole.are)

denial_token : (line : List ℕ) (p : WrittenPair) → SpellsThis IsDenial line p → HasToken line (equality true)
denial_token line p s =
    let has = s.spells.has in
    let sign_behind = cell_ends s.is.rest p.cell (sign (equality true) ∷ s.is.pair.rest) s.is.pair.cell in
    let behind = ends_more (name (codes "not")) s.is.rest (sign (equality true) ∷ s.is.pair.rest) sign_behind in
    let whole = ends_more (name (codes "claim")) (name (codes "not") ∷ s.is.rest) (sign (equality true) ∷ s.is.pair.rest) behind in
    sign_stands line has.tokens 0 (length line) (equality true) whole.front s.is.pair.rest has.splits (sym has.words ∙ s.is.are ∙ whole.are)

clear_of_texts : (line : List ℕ) (texts : List (List ℕ)) → texts_of line ≡ texts → AreClear texts → AllByRecursion IsClear line
clear_of_texts line texts are clear = clear_line line (clear_parts (slice_split is_blank line) (subst AreClear (sym are) clear))

-- a line whose texts have no sign claims nothing with one
module _ (line : List ℕ) (texts : List (List ℕ)) (are : texts_of line ≡ texts) (clear : AreClear texts) where
  pub no_claim : (p : WrittenPair) (holds : Bool) → SpellsThis IsClaim line (p, holds) → ⊥
  no_claim p holds s = sign_not_clear line holds (claim_token line p holds s) (clear_of_texts line texts are clear)

  pub no_denial : (p : WrittenPair) → SpellsThis IsDenial line p → ⊥
  no_denial p s = sign_not_clear line true (denial_token line p s) (clear_of_texts line texts are clear)

pub claim_and_word_clear : (word : List ℕ) → list_all is_clear word ≡ true → AreClear (codes "claim" ∷ word ∷ [])
claim_and_word_clear word clear = (clear_all (codes "claim") refl, (clear_all word clear, tt))

-- ---- names

abbrev is_marked : ℕ → Bool
is_marked b = (b == 61) || (b == 33)

-- no character of a name is a sign's
no_mark : (c : ℕ) → (continues_name c ≡ true) ⊎ (starts_name c ≡ true) → is_marked c ≡ false
no_mark c passes = by (is_marked c) refl
  where
    at : (d : ℕ) → continues_name d ≡ false → starts_name d ≡ false → c ≡ d → ⊥
    at d stops starts same = elim passes [
      | inl goes ↦ false_no_true (continues_name c) (ap continues_name same ∙ stops) goes
      | inr goes ↦ false_no_true (starts_name c) (ap starts_name same ∙ starts) goes
    ]

    by : (b : Bool) → is_marked c ≡ b → is_marked c ≡ false
    by false is = is
    by true is =
        let which : (c ≡ 61) ⊎ (c ≡ 33) = grind (arith, nat_tests) in
        absurd (⊎_elim (at 61 (is_xid_continue-ascii 61 (omega arith)) (is_xid_start-ascii 61 (omega arith))) (at 33 (is_xid_continue-ascii 33 (omega arith)) (is_xid_start-ascii 33 (omega arith))) which)

none_marked : (cs : List ℕ) → AllByRecursion (λ d. continues_name d ≡ true) cs → NonePass is_marked cs
none_marked [] each = tt
none_marked (c ∷ cs) each = (no_mark c (inl each.0), none_marked cs each.1)

no_mark_passes : (text : List ℕ) → HasNameCharacters text → NoCharPasses is_marked text
no_mark_passes text (c, cs, is, starts, each) = (c ∷ cs, sym is, (no_mark c (inr starts), none_marked cs each))

clear_byte : (b : ℕ) → is_marked b ≡ false → IsClear b
clear_byte b is = ap not is

beyond_clear : (b : ℕ) → 128 ≤ b → IsClear b
beyond_clear b high = grind (arith, nat_tests)

clear_by_place : (bs : List ℕ) → ((i : ℕ) → i < length bs → IsClear (get_or bs i 0)) → AllByRecursion IsClear bs
clear_by_place [] each = tt
clear_by_place (b ∷ bs) each = (each 0 (omega arith), clear_by_place bs (λ i below. each (suc i) (omega (arith, below))))

name_clear : (text : List ℕ) → HasNameCharacters text → AllByRecursion IsClear text
name_clear text is = clear_by_place text (λ i below. elim (cases_lt (get_or text i 0) 128) [
  | inl ascii ↦ clear_byte (get_or text i 0) (NoCharPasses-byte is_marked text i (no_mark_passes text is) below ascii)
  | inr high ↦ beyond_clear (get_or text i 0) high
])

pub claim_against_clear : (n : List ℕ) → IsNameText n → AreClear (codes "claim" ∷ codes "against" ∷ n ∷ [])
claim_against_clear n is = (clear_all (codes "claim") refl, (clear_all (codes "against") refl, (name_clear n is.name.characters, tt)))

-- ---- a cell behind `not`

cell_behind_name : (ws : List Word) (vs : List Value) (rest : List Word) → Arguments DerivesValue ws vs rest → (b : List ℕ) (more : List Word) (k : Kind) (behind : List Word) → ws ≡ name b ∷ more → rest ≡ sign k ∷ behind → ⊥
cell_behind_name ws vs rest no_argument b more k behind named signed = absurd (let both : name b ∷ more ≡ sign k ∷ behind = sym named ∙ signed in let same = heads (name b) (sign k) more behind both in cc)
cell_behind_name ws vs rest (arguments (enclosed {ws = there} d)) b more k behind named signed = absurd (let same = heads (sign Open) (name b) there more named in cc)

-- no cell that a sign follows starts with two names
no_two_names : (ws : List Word) (c : Cell) (rest : List Word) → DerivesCell ws c rest → (a b : List ℕ) (more : List Word) (k : Kind) (behind : List Word) → ws ≡ name a ∷ name b ∷ more → rest ≡ sign k ∷ behind → ⊥
no_two_names ws c rest (a_cell {ws = there} {values = values} text d) a b more k behind named signed =
    cell_behind_name there values rest d b more k behind (tails (name text) (name a) there (name b ∷ more) named) signed

record StartsWithName (ws : List Word) : Type 0 where
  text : List ℕ
  more : List Word
  are : ws ≡ name text ∷ more

cell_starts : (ws : List Word) (c : Cell) (rest : List Word) → DerivesCell ws c rest → StartsWithName ws
cell_starts ws c rest (a_cell {ws = there} text d) = record { text = text; more = there; are = refl }

-- the words of a claim that a cell has a value, or hasn't it, aren't those of a claim with `not`
pub no_denial_words : (ws : List Word) (q : WrittenPair × Bool) (p : WrittenPair) → IsClaim ws q → IsDenial ws p → ⊥
no_denial_words ws q p a b =
    let rest : a.rest ≡ name (codes "not") ∷ b.rest = tails (name (codes "claim")) (name (codes "claim")) a.rest (name (codes "not") ∷ b.rest) (sym a.are ∙ b.are) in
    let first = cell_starts b.rest p.cell _ b.pair.cell in
    no_two_names a.rest q.0.cell _ a.pair.cell (codes "not") first.text first.more (equality q.1) a.pair.rest (rest ∙ ap (λ vs. name (codes "not") ∷ vs) first.are) refl
