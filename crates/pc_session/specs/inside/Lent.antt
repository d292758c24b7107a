-- States whose clauses are lent away.
use Rattle.pc_ground.specs.GroundView.{Grounded}
use Rattle.pc_theory.specs.Theories.{with_ground}
use Rattle.pc_session.specs.inside.States.{IsKept}
use Rattle.pc_session.specs.declared.state.State.{State}

-- with some clauses in their place all that is kept is right
abbrev pub with_clauses : Grounded → State → State
with_clauses g s = record s { theory = with_ground g s.theory }

abbrev pub IsLent : State → Type 0
IsLent s = (g : Grounded) × IsKept (with_clauses g s)
