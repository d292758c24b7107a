use Rattle.pc_session.proofs.session.Session.load.Goals as goal

pub invariant_of-result : goal.invariant_of-result
invariant_of-result c = record { state = c.in_ok-state.ensures.loaded.state; chosen = c.in_ok-state.ensures.loaded.chosen }

pub returns-clause-sheet : goal.returns-clause-sheet
returns-clause-sheet c = c.in_ok-state.ensures.loaded.book

pub returns-clause-light : goal.returns-clause-light
returns-clause-light c = c.in_ok-state.ensures.loaded.light

pub returns-clause-consistent : goal.returns-clause-consistent
returns-clause-consistent c = c.in_ok-state.ensures.loaded.consistent

pub returns-clause-spends : goal.returns-clause-spends
returns-clause-spends c = c.in_ok-state.ensures.loaded.spends

pub returns-clause-steps : goal.returns-clause-steps
returns-clause-steps c = c.in_ok-state.ensures.loaded.steps

pub returns-clause-bytes : goal.returns-clause-bytes
returns-clause-bytes c = c.in_ok-state.ensures.loaded.bytes
