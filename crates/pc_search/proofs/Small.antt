-- How many bytes the lines of a search's log take.
use Rattle.std.proofs.Common.{◌≡◌, ℕ, suc, ◌+◌, ◌*◌, ◌<◌, ◌≤◌, Bool, true, false, ◌==◌, List, [], ◌∷◌, Some, length, slice_get, count_by, refl, ap, arith, cond, eq-eqb, eqb-true, mul-suc}
use Rattle.std.proofs.lemmas.List.Sums.{sum_by-cons}
use Rattle.std.proofs.lemmas.Option.{slice_get_within}
use Rattle.pc_lits.specs.declared.literal.Var.{Var}
use Rattle.pc_lits.specs.declared.literal.Lit.{Lit}
use Rattle.pc_log.specs.Lines.{LogLine, AxiomLine, BlockLine, StepLine}
use Rattle.pc_log.specs.Sizes.{line_bytes, bytes_of}
use Rattle.pc_solver.specs.InLog.{AreAxiomsOnce, IsShort, is_line_of, lines_of_axiom}
use Rattle.pc_search.specs.Found.{is_step, steps_in}
use Rattle.pc_search.specs.Laws.{SearchLogsAreSmall}

-- ---- a list that has no number more often than another one is no longer

abbrev times : ℕ → List ℕ → ℕ
times m xs = count_by (λ n. n == m) xs

times-cons : (m x : ℕ) (xs : List ℕ) → times m (x ∷ xs) ≡ cond (x == m) 1 0 + times m xs
times-cons m x xs = sum_by-cons (λ (n : ℕ). cond (n == m) 1 0) x xs

-- without the number where it stands first
abbrev take_out : ℕ → List ℕ → List ℕ
take_out x [] = []
take_out x (y ∷ ys) = cond (y == x) ys (y ∷ take_out x ys)

one_less : (x : ℕ) (ys : List ℕ) → 0 < times x ys → length (take_out x ys) + 1 ≡ length ys
one_less x [] some = absurd (omega (arith, some))
one_less x (y ∷ ys) some = head (y == x) refl (λ still. one_less x ys still)
  where
    head : (b : Bool) → (y == x) ≡ b → (0 < times x ys → length (take_out x ys) + 1 ≡ length ys) → length (cond b ys (y ∷ take_out x ys)) + 1 ≡ length (y ∷ ys)
    head true is rest = omega arith
    head false is rest =
        let less = rest (omega (arith, some, times-cons x y ys, ap {B = ℕ} (λ b. cond b 1 0) is)) in
        omega (arith, less)

times-less : (x m : ℕ) (ys : List ℕ) → 0 < times x ys → times m (take_out x ys) + cond (x == m) 1 0 ≡ times m ys
times-less x m [] some = absurd (omega (arith, some))
times-less x m (y ∷ ys) some = head (y == x) refl (λ still. times-less x m ys still)
  where
    head : (b : Bool) → (y == x) ≡ b → (0 < times x ys → times m (take_out x ys) + cond (x == m) 1 0 ≡ times m ys) → times m (cond b ys (y ∷ take_out x ys)) + cond (x == m) 1 0 ≡ times m (y ∷ ys)
    head true is rest = omega (arith, times-cons m y ys, ap {B = ℕ} (λ n. cond (n == m) 1 0) (eqb-true y x is))
    head false is rest =
        let less = rest (omega (arith, some, times-cons x y ys, ap {B = ℕ} (λ b. cond b 1 0) is)) in
        omega (arith, less, times-cons m y (take_out x ys), times-cons m y ys)

no_longer : (xs ys : List ℕ) → ((m : ℕ) → times m xs ≤ times m ys) → length xs ≤ length ys
no_longer [] ys h = omega arith
no_longer (x ∷ xs) ys h =
    let some : 0 < times x ys = omega (arith, h x, times-cons x x xs, ap {B = ℕ} (λ b. cond b 1 0) (eq-eqb x x refl)) in
    let rest : length xs ≤ length (take_out x ys) = no_longer xs (take_out x ys) (λ m. omega (arith, h m, times-cons m x xs, times-less x m ys some)) in
    omega (arith, rest, one_less x ys some)

-- ---- the lines of a log

-- the numbers of its axiom lines
abbrev numbers : List LogLine → List ℕ
numbers [] = []
numbers (AxiomLine n ∷ log) = n ∷ numbers log
numbers (BlockLine n clause ∷ log) = numbers log
numbers (StepLine clause hints learned ∷ log) = numbers log

lines-cons : (m : ℕ) (line : LogLine) (log : List LogLine) → lines_of_axiom m (line ∷ log) ≡ cond (is_line_of m line) 1 0 + lines_of_axiom m log
lines-cons m line log = sum_by-cons (λ l. cond (is_line_of m l) 1 0) line log

numbers_are : (m : ℕ) (log : List LogLine) → times m (numbers log) ≡ lines_of_axiom m log
numbers_are m [] = refl
numbers_are m (AxiomLine n ∷ log) = omega (arith, times-cons m n (numbers log), lines-cons m (AxiomLine n) log, numbers_are m log)
numbers_are m (BlockLine n clause ∷ log) = omega (arith, lines-cons m (BlockLine n clause) log, numbers_are m log)
numbers_are m (StepLine clause hints learned ∷ log) = omega (arith, lines-cons m (StepLine clause hints learned) log, numbers_are m log)

axioms_few : (used : List ℕ) (log : List LogLine) → AreAxiomsOnce used log → length (numbers log) ≤ length used
axioms_few used log once = no_longer (numbers log) used (λ m. omega (arith, once m, numbers_are m log))

-- a step is short, and no line is one of a block
abbrev IsSmall : List Var → LogLine → Type 0
IsSmall own (AxiomLine n) = Unit {0}
IsSmall own (BlockLine n clause) = ⊥
IsSmall own (StepLine clause hints learned) = IsShort own clause (length hints)

bytes-cons : (line : LogLine) (log : List LogLine) → bytes_of (line ∷ log) ≡ line_bytes line + bytes_of log
bytes-cons line log = sum_by-cons line_bytes line log

steps-cons : (line : LogLine) (log : List LogLine) → steps_in (line ∷ log) ≡ cond (is_step line) 1 0 + steps_in log
steps-cons line log = sum_by-cons (λ l. cond (is_step l) 1 0) line log

-- where each step takes so much at most
small : (own : List Var) (most : ℕ) → 24 + 8 * length own ≡ most → (log : List LogLine) → ((i : ℕ) (line : LogLine) → slice_get log i ≡ Some line → IsSmall own line)
    → bytes_of log ≤ 16 * length (numbers log) + most * steps_in log
small own most is [] each = omega arith
small own most is (AxiomLine n ∷ log) each =
    let rest = small own most is log (λ i line at. each (suc i) line (at_next i line at)) in
    omega (arith, rest, bytes-cons (AxiomLine n) log, ap (λ k. most * k) (steps-cons (AxiomLine n) log))
  where
    at_next : (i : ℕ) (line : LogLine) → slice_get log i ≡ Some line → slice_get (AxiomLine n ∷ log) (suc i) ≡ Some line
    at_next i line at = at
small own most is (BlockLine n clause ∷ log) each = absurd (each 0 (BlockLine n clause) refl)
small own most is (StepLine clause hints learned ∷ log) each =
    let rest = small own most is log (λ i line at. each (suc i) line (at_next i line at)) in
    let step : steps_in (StepLine clause hints learned ∷ log) ≡ suc (steps_in log) = omega (arith, steps-cons (StepLine clause hints learned) log) in
    omega (arith, rest, each 0 (StepLine clause hints learned) refl, is, bytes-cons (StepLine clause hints learned) log, ap (λ k. most * k) step, mul-suc most (steps_in log))
  where
    at_next : (i : ℕ) (line : LogLine) → slice_get log i ≡ Some line → slice_get (StepLine clause hints learned ∷ log) (suc i) ≡ Some line
    at_next i line at = at

pub search_logs_are_small : SearchLogsAreSmall
search_logs_are_small p log h =
    let few = axioms_few p.used log h.axioms_once in
    omega (arith, few, small p.own (24 + 8 * length p.own) refl log each)
  where
    each : (i : ℕ) (line : LogLine) → slice_get log i ≡ Some line → IsSmall p.own line
    each i (AxiomLine n) at = tt
    each i (BlockLine n clause) at = absurd (none n clause (h.blocks_are i n clause at))
      where
        none : (n : ℕ) (clause : List Lit) → slice_get {X = List Lit} [] n ≡ Some clause → ⊥
        none n clause is = omega (arith, slice_get_within {A = List Lit} [] n clause is)
    each i (StepLine clause hints learned) at = h.short i clause hints learned at
