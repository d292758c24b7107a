use Rattle.std.proofs.Common.{◌≡◌, ◌↔◌, drop, length, List}
use Rattle.pc_lits.specs.declared.literal.Lit.{Lit}
use Rattle.pc_lits.specs.Literals.{negated}
use Rattle.pc_lits.specs.Steps.{Refutes}
use Rattle.pc_lits.specs.Values.{Agrees}
use Rattle.pc_lits.proofs.step.refutes.Given as goal

-- what is left of the hints refutes what is false now, as all of them do what was false at the start
abbrev pub invariant-loop-place : goal.invariant-loop-place
invariant-loop-place g l =
    ((falses : List Lit) → Agrees l.initial.values falses
    → (now : List Lit) × Agrees l.values now × (Refutes negated falses (g.H.Hints.clauses l.hints) ↔ Refutes negated now (drop l.place (g.H.Hints.clauses l.hints))))
    × (length l.values ≡ length l.initial.values)
