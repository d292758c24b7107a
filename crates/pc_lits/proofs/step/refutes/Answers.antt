use Rattle.std.proofs.Common.{◌∙◌}
use Rattle.std.proofs.lemmas.Bool.{false≢true}
use Rattle.std.proofs.lemmas.List.{length-set}
use Rattle.pc_lits.proofs.StepLemmas.{line_in_range, nothing_left, open_more, open_last, hints_more}
use Rattle.pc_lits.proofs.AgreeLemmas.{Agrees-last}
use Rattle.pc_lits.proofs.step.refutes.Goals as goal

pub returns-in-Nothing-clause-answer : goal.returns-in-Nothing-clause-answer
returns-in-Nothing-clause-answer g c = λ falses agrees.
    let state = c.loop-place.invariant.0 falses agrees in
    let in_range = line_in_range c.loop-place.values c.args.values.now (g.H.Hints.clauses c.args.hints.now) c.loop-place.place c.clause.result.now c.loop-place.invariant.1 c.requires.hints c.clause.ensures in
    let here = nothing_left c.loop-place.values state.0 c.clause.result.now (g.H.Hints.clauses c.args.hints.now) c.loop-place.place c.count-count.result c.count-count.ensures c.clause.ensures state.1 in_range c.in-Nothing.ensures in
    (λ yes. state.2.1 (here.0 yes), λ h. here.1 (state.2.0 h))

pub assign-requires : goal.assign-requires
assign-requires g c =
    line_in_range c.loop-place.values c.args.values.now (g.H.Hints.clauses c.args.hints.now) c.loop-place.place c.clause.result.now c.loop-place.invariant.1 c.requires.hints c.clause.ensures c.in-Last.lit c.in-Last.ensures.0

pub returns-in-More-clause-answer : goal.returns-in-More-clause-answer
returns-in-More-clause-answer g c = λ falses agrees.
    let state = c.loop-place.invariant.0 falses agrees in
    let in_range = line_in_range c.loop-place.values c.args.values.now (g.H.Hints.clauses c.args.hints.now) c.loop-place.place c.clause.result.now c.loop-place.invariant.1 c.requires.hints c.clause.ensures in
    let more = hints_more (g.H.Hints.clauses c.args.hints.now) c.loop-place.place c.clause.result.now c.clause.ensures in (
      λ yes. absurd (false≢true yes),
      λ h. absurd (open_more c.loop-place.values state.0 c.clause.result.now _ state.1 in_range c.in-More.ensures (rw more at (state.2.0 h))),
    )

pub loop-place-preserved : goal.loop-place-preserved
loop-place-preserved g c =
    let lit = c.in-Last.lit in
    rw c.assign.ensures (
      λ falses agrees.
          let state = c.loop-place.invariant.0 falses agrees in
          let in_range = line_in_range c.loop-place.values c.args.values.now (g.H.Hints.clauses c.args.hints.now) c.loop-place.place c.clause.result.now c.loop-place.invariant.1 c.requires.hints c.clause.ensures in
          let more = hints_more (g.H.Hints.clauses c.args.hints.now) c.loop-place.place c.clause.result.now c.clause.ensures in
          let here = open_last c.loop-place.values state.0 c.clause.result.now _ lit state.1 in_range c.in-Last.ensures in (
            _,
            Agrees-last c.loop-place.values state.0 lit state.1 (in_range lit c.in-Last.ensures.0) c.in-Last.ensures.1,
            (λ h. here.0 (rw more at (state.2.0 h)), λ h. state.2.1 (rw more (here.1 h))),
          ),
      length-set c.loop-place.values _ _ ∙ c.loop-place.invariant.1,
    )
