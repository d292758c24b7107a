-- A command line has one reading.
use Rattle.std.proofs.Common.{◌≡◌, ℕ, Bool, true, List, [], ◌∷◌, refl, sym, ◌∙◌, ap, subst, arith, if◌then◌else◌}
use Rattle.std.specs.Prelude.{codes, bytes_eq}
use Rattle.std.specs.Str.{IsUtf8}
use Rattle.pc_token.specs.declared.token.Kind.TheVariants.{Equal}
use Rattle.pc_formula.specs.Word.{Word, sign}
use Rattle.pc_formula.specs.Tree.{Formula, Cell, Value}
use Rattle.pc_formula.specs.Value.{DerivesCell}
use Rattle.pc_formula.specs.Equation.{IsEquation}
use Rattle.pc_syntax.specs.Tree.{Asked, asks_enter, asks_also, asks_clear, asks_clear_one, asks_rule, asks_drop, asks_budget, asks_show, asks_grid, asks_json, asks_why, asks_dump, asks_repairs, asks_prove_repairs, asks_whynot, asks_ask}
use Rattle.pc_syntax.specs.Spelling.{IsTooDeep}
use Rattle.pc_syntax.specs.Fault.{Fault, IsAtFault}
use Rattle.pc_syntax.specs.Command.{command_keyword, FollowsCommand, IsCommand, IsDeepAsk, HasCommand, no_words, some_words, deep_words, CommandReading, asks, at_fault, IsCommandReading, empty_command, spelled_command, deep_command, faulty_command}
use Rattle.pc_formula.proofs.Unambiguous.{one_tree}
use Rattle.pc_formula.proofs.ValueForms.{number_once}
use Rattle.pc_formula.proofs.Equations.{equation_once}
use Rattle.pc_syntax.proofs.Families.{one_cell}
use Rattle.pc_syntax.proofs.ReadLine.{one_words}
use Rattle.pc_syntax.proofs.OneLine.{one_rule}
use Rattle.pc_syntax.proofs.OneFault.{fault_once, deep_unspelled, form_no_fault}

-- ---- the word that starts a command

data Start : Type 0 where
  of_enter : Start
  of_also : Start
  of_clear : Start
  of_rule : Start
  of_drop : Start
  of_budget : Start
  of_show : Start
  of_grid : Start
  of_json : Start
  of_why : Start
  of_dump : Start
  of_repairs : Start
  of_prove : Start
  of_whynot : Start
  of_ask : Start
  of_none : Start

start : List ℕ → Start
start text =
    if bytes_eq text (codes "enter") then of_enter
    else (if bytes_eq text (codes "also") then of_also
    else (if bytes_eq text (codes "clear") then of_clear
    else (if bytes_eq text (codes "rule") then of_rule
    else (if bytes_eq text (codes "drop") then of_drop
    else (if bytes_eq text (codes "budget") then of_budget
    else (if bytes_eq text (codes "show") then of_show
    else (if bytes_eq text (codes "grid") then of_grid
    else (if bytes_eq text (codes "json") then of_json
    else (if bytes_eq text (codes "why") then of_why
    else (if bytes_eq text (codes "dump") then of_dump
    else (if bytes_eq text (codes "repairs") then of_repairs
    else (if bytes_eq text (codes "prove") then of_prove
    else (if bytes_eq text (codes "whynot") then of_whynot
    else (if bytes_eq text (codes "ask") then of_ask else of_none))))))))))))))

start_of : Asked → Start
start_of (asks_enter c v) = of_enter
start_of (asks_also c v) = of_also
start_of (asks_clear c) = of_clear
start_of (asks_clear_one c v) = of_clear
start_of (asks_rule n f) = of_rule
start_of (asks_drop n) = of_drop
start_of (asks_budget n) = of_budget
start_of asks_show = of_show
start_of asks_grid = of_grid
start_of asks_json = of_json
start_of (asks_why c v h) = of_why
start_of asks_dump = of_dump
start_of asks_repairs = of_repairs
start_of asks_prove_repairs = of_prove
start_of (asks_whynot c v) = of_whynot
start_of (asks_ask f) = of_ask

start_is : (a : Asked) → start (command_keyword a) ≡ start_of a
unfolding start start_of
start_is (asks_enter c v) = refl
start_is (asks_also c v) = refl
start_is (asks_clear c) = refl
start_is (asks_clear_one c v) = refl
start_is (asks_rule n f) = refl
start_is (asks_drop n) = refl
start_is (asks_budget n) = refl
start_is asks_show = refl
start_is asks_grid = refl
start_is asks_json = refl
start_is (asks_why c v h) = refl
start_is asks_dump = refl
start_is asks_repairs = refl
start_is asks_prove_repairs = refl
start_is (asks_whynot c v) = refl
start_is (asks_ask f) = refl

data Shape : Start → Asked → Type 0 where
  an_enter : (c : Cell) (v : Value) → Shape of_enter (asks_enter c v)
  an_also : (c : Cell) (v : Value) → Shape of_also (asks_also c v)
  a_clear : (c : Cell) → Shape of_clear (asks_clear c)
  a_clear_one : (c : Cell) (v : Value) → Shape of_clear (asks_clear_one c v)
  a_rule : (n : List ℕ) (f : Formula) → Shape of_rule (asks_rule n f)
  a_drop : (n : List ℕ) → Shape of_drop (asks_drop n)
  a_budget : (n : ℕ) → Shape of_budget (asks_budget n)
  a_show : Shape of_show asks_show
  a_grid : Shape of_grid asks_grid
  a_json : Shape of_json asks_json
  a_why : (c : Cell) (v : Value) (h : Bool) → Shape of_why (asks_why c v h)
  a_dump : Shape of_dump asks_dump
  a_repairs : Shape of_repairs asks_repairs
  a_prove : Shape of_prove asks_prove_repairs
  a_whynot : (c : Cell) (v : Value) → Shape of_whynot (asks_whynot c v)
  an_ask : (f : Formula) → Shape of_ask (asks_ask f)

shape : (a : Asked) → Shape (start_of a) a
unfolding start_of
shape (asks_enter c v) = an_enter c v
shape (asks_also c v) = an_also c v
shape (asks_clear c) = a_clear c
shape (asks_clear_one c v) = a_clear_one c v
shape (asks_rule n f) = a_rule n f
shape (asks_drop n) = a_drop n
shape (asks_budget n) = a_budget n
shape asks_show = a_show
shape asks_grid = a_grid
shape asks_json = a_json
shape (asks_why c v h) = a_why c v h
shape asks_dump = a_dump
shape asks_repairs = a_repairs
shape asks_prove_repairs = a_prove
shape (asks_whynot c v) = a_whynot c v
shape (asks_ask f) = an_ask f

-- a command is one of those that its first word says
shape_of : (a : Asked) (text : List ℕ) (t : Start) → start text ≡ t → command_keyword a ≡ text → Shape t a
shape_of a text t is same = subst (λ s. Shape s a) (sym (start_is a) ∙ ap start same ∙ is) (shape a)

-- ---- one command

-- words that are a cell are no cell with a value
no_cell_of_equation : (ws : List Word) (c d : Cell) (v : Value) → DerivesCell ws c [] → IsEquation ws Equal d v → ⊥
no_cell_of_equation ws c d v a b =
    let behind = (one_cell ws c d [] (sign Equal ∷ b.rest) tt (omega arith) a b.cell).1 in
    cc

one_shape : (t : Start) (a b : Asked) (ws : List Word) → Shape t a → Shape t b → FollowsCommand a ws → FollowsCommand b ws → a ≡ b
one_shape t a b ws (an_enter c v) (an_enter d w) p q = let both = equation_once ws c d v w true true p q in ap (λ m. asks_enter m v) both.0 ∙ ap (λ u. asks_enter d u) both.1
one_shape t a b ws (an_also c v) (an_also d w) p q = let both = equation_once ws c d v w true true p q in ap (λ m. asks_also m v) both.0 ∙ ap (λ u. asks_also d u) both.1
one_shape t a b ws (a_clear c) (a_clear d) p q = ap asks_clear (one_cell ws c d [] [] tt tt p q).0
one_shape t a b ws (a_clear c) (a_clear_one d w) p q = absurd (no_cell_of_equation ws c d w p q)
one_shape t a b ws (a_clear_one c v) (a_clear d) p q = absurd (no_cell_of_equation ws d c v q p)
one_shape t a b ws (a_clear_one c v) (a_clear_one d w) p q = let both = equation_once ws c d v w true true p q in ap (λ m. asks_clear_one m v) both.0 ∙ ap (λ u. asks_clear_one d u) both.1
one_shape t a b ws (a_rule n f) (a_rule k g) p q = let both = one_rule ws n k f g p q in ap (λ m. asks_rule m f) both.0 ∙ ap (λ h. asks_rule k h) both.1
one_shape t a b ws (a_drop n) (a_drop k) p q = let words = sym p ∙ q in let names : n ≡ k = cc in ap asks_drop names
one_shape t a b ws (a_budget n) (a_budget k) p q = ap asks_budget (number_once ws n k [] [] p q).0
one_shape t a b ws a_show a_show p q = refl
one_shape t a b ws a_grid a_grid p q = refl
one_shape t a b ws a_json a_json p q = refl
one_shape t a b ws (a_why c v h) (a_why d w i) p q =
    let both = equation_once ws c d v w h i p q in
    ap (λ m. asks_why m v h) both.0 ∙ ap (λ u. asks_why d u h) both.1 ∙ ap (λ s. asks_why d w s) both.2
one_shape t a b ws a_dump a_dump p q = refl
one_shape t a b ws a_repairs a_repairs p q = refl
one_shape t a b ws a_prove a_prove p q = refl
one_shape t a b ws (a_whynot c v) (a_whynot d w) p q = let both = equation_once ws c d v w true true p q in ap (λ m. asks_whynot m v) both.0 ∙ ap (λ u. asks_whynot d u) both.1
one_shape t a b ws (an_ask f) (an_ask g) p q = ap asks_ask (one_tree ws f g p q)

pub one_command : (ws : List Word) (a b : Asked) → IsCommand ws a → IsCommand ws b → a ≡ b
one_command ws a b p q =
    let words = sym p.words ∙ q.words in
    let keywords : command_keyword a ≡ command_keyword b = cc in
    let rest : p.rest ≡ q.rest = cc in
    one_shape (start_of b) a b q.rest (shape_of a (command_keyword b) (start_of b) (start_is b) keywords) (shape b) (subst (FollowsCommand a) rest p.follows) q.follows

-- ---- one reading

command_utf8 : (line : List ℕ) → HasCommand line → IsUtf8 line
command_utf8 line (no_words n) = n.utf8
command_utf8 line (some_words ws a s is) = s.split.utf8
command_utf8 line (deep_words ws s is) = s.split.utf8

command_shallow : (line : List ℕ) → HasCommand line → IsTooDeep line → ⊥
command_shallow line (no_words n) t = t.split.something n
command_shallow line (some_words ws a s is) t = deep_unspelled line ws t s
command_shallow line (deep_words ws s is) t = deep_unspelled line ws t s

command_at_fault : (line : List ℕ) (e : Fault) → IsAtFault line (HasCommand line) e → HasCommand line → ⊥
command_at_fault line e f h = form_no_fault line (HasCommand line) e h (command_utf8 line h) (command_shallow line h) f

pub one_command_reading : (line : List ℕ) (q r : CommandReading) → IsCommandReading line q → IsCommandReading line r → q ≡ r
one_command_reading line q r (empty_command a) (empty_command b) = refl
one_command_reading line q r (empty_command a) (spelled_command ws s b shallow) = absurd (s.split.something a)
one_command_reading line q r (empty_command a) (deep_command ws s d) = absurd (s.split.something a)
one_command_reading line q r (empty_command a) (faulty_command {e = e} f) = absurd (command_at_fault line e f (no_words a))
one_command_reading line q r (spelled_command ws s b shallow) (empty_command a) = absurd (s.split.something a)
one_command_reading line q r (spelled_command {a = a} ws s p shallow) (spelled_command {a = b} vs t is shallows) = ap asks (one_command vs a b (subst (λ l. IsCommand l a) (one_words line ws vs s.split.has t.split.has) p) is)
one_command_reading line q r (spelled_command ws s p shallow) (deep_command vs t d) = absurd (shallow (subst IsDeepAsk (one_words line vs ws t.split.has s.split.has) d))
one_command_reading line q r (spelled_command {a = a} ws s p shallow) (faulty_command {e = e} f) = absurd (command_at_fault line e f (some_words ws a s p))
one_command_reading line q r (deep_command ws s d) (empty_command a) = absurd (s.split.something a)
one_command_reading line q r (deep_command ws s d) (spelled_command vs t p shallow) = absurd (shallow (subst IsDeepAsk (one_words line ws vs s.split.has t.split.has) d))
one_command_reading line q r (deep_command ws s d) (deep_command vs t e) = refl
one_command_reading line q r (deep_command ws s d) (faulty_command {e = e} f) = absurd (command_at_fault line e f (deep_words ws s d))
one_command_reading line q r (faulty_command {e = e} f) (empty_command a) = absurd (command_at_fault line e f (no_words a))
one_command_reading line q r (faulty_command {e = e} f) (spelled_command {a = a} ws s p shallow) = absurd (command_at_fault line e f (some_words ws a s p))
one_command_reading line q r (faulty_command {e = e} f) (deep_command ws s d) = absurd (command_at_fault line e f (deep_words ws s d))
one_command_reading line q r (faulty_command {e = d} f) (faulty_command {e = e} g) = ap at_fault (fault_once line (HasCommand line) d e f g)
