use Rattle.std.proofs.Common.{◌≡◌, ℕ, List, [], Contains, take}
use Rattle.pc_lits.specs.declared.literal.Lit.{Lit}
use Rattle.pc_propagate.specs.declared.clauses.ClauseRef.{ClauseRef}
use Rattle.pc_propagate.specs.declared.clauses.ClauseRef.TheVariants.{Axiom}
use Rattle.pc_propagate.specs.Over.{IsOver}
use Rattle.pc_solver.proofs.solver.attach_used.Given as goal

abbrev pub invariant-loop-number : goal.invariant-loop-number
invariant-loop-number l = record {
  variables : l.trail.variables ≡ l.initial.trail.variables;
  entries : l.trail.entries ≡ [];
  over : (more : List (List Lit)) → IsOver l.axioms more l.trail;
  attached : (n : ℕ) → Contains (take l.number-index l.used) n → Contains l.trail.attached (Axiom n);
  known : (r : ClauseRef) → Contains l.trail.attached r → (n : ℕ) × Contains l.used n × (r ≡ Axiom n);
}
