-- The learned clauses of a log, as a list.
use Rattle.std.proofs.Common.{◌≡◌, ℕ, zero, suc, ◌+◌, ◌<◌, ◌≤◌, ◌^◌, inl, inr, true, false, cond, List, [], ◌∷◌, length, count_by, All, Contains, Some, arith, ap, refl, subst}
use Rattle.std.specs.Prelude.{AllPairs}
use Rattle.std.proofs.lemmas.List.Elements.{All-contains, All-head, All-tail}
use Rattle.std.proofs.lemmas.List.Kept.{AllPairs-cons}
use Rattle.std.proofs.lemmas.List.Recursion.{is_count_by}
use Rattle.pc_lits.specs.declared.literal.Var.{Var}
use Rattle.pc_lits.specs.declared.literal.Lit.{Lit}
use Rattle.pc_log.specs.Lines.{LogLine, AxiomLine, BlockLine, StepLine}
use Rattle.pc_lemmas.proofs.Elements.{contains_cases, contains_none, all_from}
use Rattle.pc_enough_laws.specs.Clauses.{IsWithin, IsPlain}
use Rattle.pc_enough_laws.proofs.Counted.{new_clauses_few}
use Rattle.pc_solver.specs.InLog.{is_marked, AreStepsOver}
use Rattle.pc_solver.specs.New.{IsLearnedAt, AreNewClauses}
use Rattle.pc_solver.specs.Solver.{clauses_used}
use Rattle.pc_enough_laws.specs.Laws.{LawfulLogsLearnFew}

abbrev learned_clauses : List LogLine → List (List Lit)
learned_clauses [] = []
learned_clauses (AxiomLine number ∷ log) = learned_clauses log
learned_clauses (BlockLine number clause ∷ log) = learned_clauses log
learned_clauses (StepLine clause hints true ∷ log) = clause ∷ learned_clauses log
learned_clauses (StepLine clause hints false ∷ log) = learned_clauses log

counted : (log : List LogLine) → length (learned_clauses log) ≡ count_by is_marked log
counted log = is_count_by (λ ls. length (learned_clauses ls)) is_marked refl one log
  where
    one : (line : LogLine) (ls : List LogLine) → length (learned_clauses (line ∷ ls)) ≡ cond (is_marked line) (1 + length (learned_clauses ls)) (length (learned_clauses ls))
    one (AxiomLine number) ls = refl
    one (BlockLine number clause) ls = refl
    one (StepLine clause hints true) ls = let more : suc (length (learned_clauses ls)) ≡ 1 + length (learned_clauses ls) = omega arith in more
    one (StepLine clause hints false) ls = refl

its_line : (log : List LogLine) (clause : List Lit) → Contains (learned_clauses log) clause → (i : ℕ) × IsLearnedAt log i clause
its_line [] clause h = absurd (contains_none clause h)
its_line (AxiomLine number ∷ log) clause h = let rest = its_line log clause h in (suc rest.0, rest.1)
its_line (BlockLine number block ∷ log) clause h = let rest = its_line log clause h in (suc rest.0, rest.1)
its_line (StepLine first hints false ∷ log) clause h = let rest = its_line log clause h in (suc rest.0, rest.1)
its_line (StepLine first hints true ∷ log) clause h = elim (contains_cases first (learned_clauses log) clause h) [
  | inl is ↦ (zero, (hints, ap (λ c. Some (StepLine c hints true)) is))
  | inr later ↦ let rest = its_line log clause later in (suc rest.0, rest.1)
]

-- no later one contains an earlier one
abbrev AreApart : List LogLine → Type 0
AreApart log = (i j : ℕ) (earlier clause : List Lit) → i < j → IsLearnedAt log i earlier → IsLearnedAt log j clause → ¬ IsWithin earlier clause

later : (line : LogLine) (log : List LogLine) → AreApart (line ∷ log) → AreApart log
later line log h i j earlier clause below first second = h (suc i) (suc j) earlier clause (omega (arith, below)) first second

apart : (log : List LogLine) → AreApart log → AllPairs (λ c d. ¬ IsWithin c d) (learned_clauses log)
apart [] h = λ i j d below within. absurd (omega (arith, within))
apart (AxiomLine number ∷ log) h = apart log (later (AxiomLine number) log h)
apart (BlockLine number block ∷ log) h = apart log (later (BlockLine number block) log h)
apart (StepLine clause hints false ∷ log) h = apart log (later (StepLine clause hints false) log h)
apart (StepLine clause hints true ∷ log) h =
    let line = StepLine clause hints true in
    AllPairs-cons (λ c d. ¬ IsWithin c d) clause (learned_clauses log)
    (all_from (λ d. ¬ IsWithin clause d) (learned_clauses log) (λ d there. let place = its_line log d there in h zero (suc place.0) clause d (omega arith) (hints, refl) place.1)) (apart log (later line log h))

pub learn_few : (own : List Var) (used : List (List Lit)) (given : List Lit) → Contains used given → IsPlain own given → (log : List LogLine) → AreStepsOver own log → AreNewClauses used log → count_by is_marked log < 3 ^ length own
learn_few own used given there plain log over new =
    let clauses = learned_clauses log in
    let all : All (IsPlain own) clauses = all_from (IsPlain own) clauses (λ c h.
    let place = its_line log c h in
    record {
      over = λ m k. All-contains (λ (l : Lit). Contains own l.variable) c m (over place.0 c place.1.0 true place.1.1) k;
      plain = new.no_tautology place.0 c place.1;
    }) in
    let none : All (λ c. ¬ IsWithin given c) clauses = all_from (λ c. ¬ IsWithin given c) clauses (λ c h. let place = its_line log c h in new.no_axiom place.0 c given place.1 there) in
    omega (arith, new_clauses_few own given clauses plain all none (apart log new.no_learned), counted log)

-- without a given clause
most_of : (own : List Var) (clauses : List (List Lit)) → All (IsPlain own) clauses → AllPairs (λ c d. ¬ IsWithin c d) clauses → length clauses ≤ 3 ^ length own
most_of own [] all new = omega arith
most_of own (c ∷ cs) all new =
    let first : All (λ d. ¬ IsWithin c d) cs = all_from (λ d. ¬ IsWithin c d) cs (λ d there. subst (λ x. ¬ IsWithin c x) there.2 (new zero (suc there.0) d (omega arith) (omega (arith, there.1)))) in
    let later : AllPairs (λ x y. ¬ IsWithin x y) cs = λ i j d below within. new (suc i) (suc j) d (omega (arith, below)) (omega (arith, within)) in
    omega (arith, new_clauses_few own c cs (All-head (IsPlain own) c cs all) (All-tail (IsPlain own) c cs all) first later)

pub learn_most : (own : List Var) (used : List (List Lit)) (log : List LogLine) → AreStepsOver own log → AreNewClauses used log → count_by is_marked log ≤ 3 ^ length own
learn_most own used log over new =
    let clauses = learned_clauses log in
    let all : All (IsPlain own) clauses = all_from (IsPlain own) clauses (λ c h.
    let place = its_line log c h in
    record {
      over = λ m k. All-contains (λ (l : Lit). Contains own l.variable) c m (over place.0 c place.1.0 true place.1.1) k;
      plain = new.no_tautology place.0 c place.1;
    }) in
    omega (arith, most_of own clauses all (apart log new.no_learned), counted log)

pub logs_learn_few : LawfulLogsLearnFew
logs_learn_few p given there plain blocks log lawful = learn_few p.own (clauses_used p) given there plain log lawful.over_own lawful.new
