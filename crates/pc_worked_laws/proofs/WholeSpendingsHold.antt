-- Spendings on the whole of the sheet in which a and b are equal.
use Rattle.std.proofs.Common.{◌≡◌, ◌≤◌, ℕ, List, [], ◌∷◌, All, Some, slice_get, sum_by, length, refl, sym, ◌∙◌, arith}
use Rattle.std.proofs.lemmas.List.Elements.{All-nil, All-cons, All-head}
use Rattle.pc_lemmas.proofs.Elements.{contains_none}
use Rattle.pc_lits.specs.declared.tally.Tally.{Tally}
use Rattle.pc_log.specs.Lines.{LogLine}
use Rattle.pc_laws.specs.Examples.{equal_cells}
use Rattle.pc_solver.specs.Solver.{clauses_used}
use Rattle.pc_solver.specs.Spending.{marked}
use Rattle.pc_theory.specs.WholeSpendings.{IsWholeLog, IsWholeSpending, IsSpentWhole}
use Rattle.pc_worked_laws.specs.Logs.{equal_problem, good_log, with_hint_missing, with_large_block, with_tautology, with_clause_twice}
use Rattle.pc_worked_laws.specs.Spendings.{Has}
use Rattle.pc_worked_laws.specs.WholeSpendings.{WorkedWholeSpendings}
use Rattle.pc_worked_laws.proofs.LogsHold.{hint_missing, learned_tautology, learned_twice, listing_logs}

abbrev OfWhole : List LogLine → Type 0
OfWhole = IsWholeLog equal_cells

good : OfWhole good_log
good = listing_logs.listing

none_there : {X : Type 0} (i : ℕ) (x : X) → slice_get [] i ≡ Some x → ⊥
none_there i x is = absurd (cc)

-- a log without lines is one of each sheet
empty : OfWhole []
empty = record {
  blocks = [];
  lawful = record {
    derivation = record { good = λ i line at. absurd (none_there i line at); earlier = λ i line at. absurd (none_there i line at) };
    axioms = λ i number at. absurd (none_there i _ at);
    blocks_are = λ i number clause at. absurd (none_there i _ at);
    over_own = λ i clause hints learned at. absurd (none_there i _ at);
    new = record {
      no_tautology = λ i clause h. absurd (none_there i _ h.1);
      no_axiom = λ i clause other h. absurd (none_there i _ h.1);
      no_learned = λ i j earlier clause less h. absurd (none_there i _ h.1);
      no_block_line = λ i j number block clause less at. absurd (none_there i _ at);
    };
  };
  of_sets = λ b there. absurd (contains_none b there);
}

spent_on : (logs : List (List LogLine)) (t : Tally) → Has t 5 1 2 → t.limit ≡ 5 → length logs ≤ 3 → sum_by marked logs ≡ 1 → All OfWhole logs → IsSpentWhole equal_cells logs t
spent_on logs t has limit few learned lawful = record {
  spending = record {
    placed = omega (arith, has.placed_is, has.learned_is, has.calls_is);
    few_logs = few;
    learned = learned ∙ sym has.learned_is;
    lawful = lawful;
  };
  all_placed = has.placed_is ∙ sym limit;
}

first_log : (log : List LogLine) (t : Tally) → IsWholeSpending equal_cells (log ∷ []) t → OfWhole log
first_log log t h = All-head OfWhole log [] h.lawful

pub whole_spendings : WorkedWholeSpendings
whole_spendings = record {
  lawful = λ t has limit. spent_on (good_log ∷ []) t has limit (omega arith) refl (All-cons OfWhole good_log [] good (All-nil OfWhole));
  of_two_logs = λ t has limit. spent_on (good_log ∷ [] ∷ []) t has limit (omega arith) refl (All-cons OfWhole good_log ([] ∷ []) good (All-cons OfWhole [] [] empty (All-nil OfWhole)));
  five_of_six = λ t has limit h. omega (arith, h.all_placed, has.placed_is, limit);
  too_many_placed = λ t has h. omega (arith, h.placed, has.placed_is, has.learned_is, has.calls_is);
  learned_in_no_log = λ t has h. omega (arith, h.learned, has.learned_is);
  four_logs = λ t log h. omega (arith, h.few_logs);
  step_not_good = λ t h. let log = first_log with_hint_missing t h in hint_missing equal_problem log.blocks refl log.lawful;
  block_of_no_set = λ t h. listing_logs.of_no_set (first_log with_large_block t h);
  tautology_learned = λ t h. learned_tautology (clauses_used equal_problem) (first_log with_tautology t h).lawful.new;
  learned_twice = λ t h. learned_twice (clauses_used equal_problem) (first_log with_clause_twice t h).lawful.new;
}
