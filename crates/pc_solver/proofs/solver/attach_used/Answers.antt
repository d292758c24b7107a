use Rattle.std.proofs.Common.{◌∙◌, ◌<◌, length, []}
use Rattle.std.proofs.lemmas.Option.{get_or_from_slice_get}
use Rattle.pc_solver.proofs.ClauseLemmas.{default}
use Rattle.pc_solver.proofs.SolverLemmas.{used_in_range, attached_next, known_next}
use Rattle.pc_solver.proofs.solver.attach_used.Goals as goal

pub attach-requires : goal.attach-requires
attach-requires c =
    let below : c.loop-number.number-index < length c.args.used.now = c.loop-number-test.true in
    used_in_range c.args.axioms.now c.args.used.now c.args.own.now c.loop-number.trail.variables c.loop-number.number-index _ c.get.result.now c.requires.over_own
    (rw c.loop-number.invariant.variables c.requires.own_in) below (default c.args.used.now c.loop-number.number-index _ _ below) c.get.ensures

pub loop-number-preserved : goal.loop-number-preserved
loop-number-preserved c =
    let inv = c.loop-number.invariant in
    let below : c.loop-number.number-index < length c.args.used.now = c.loop-number-test.true in
    let is = c.in_ok-attach.ensures.ok.attached in
    record {
      variables = c.in_ok-attach.ensures.ok.variables ∙ inv.variables;
      entries = c.in_ok-attach.ensures.ok.entries ∙ inv.entries;
      over = λ more. c.in_ok-attach.ensures.over c.args.axioms.now more (inv.over more) (c.requires.used_in c.loop-number.number-index 0 below) (get_or_from_slice_get c.args.axioms.now _ c.get.result.now [] c.get.ensures);
      attached = attached_next c.args.used.now c.loop-number.trail.attached c.attach.new.self.attached c.loop-number.number-index _ below (default c.args.used.now c.loop-number.number-index _ _ below) is inv.attached;
      known = known_next c.args.used.now c.loop-number.trail.attached c.attach.new.self.attached c.loop-number.number-index _ below (default c.args.used.now c.loop-number.number-index _ _ below) is inv.known;
    }

pub returns-in_err-attach-clause-over : goal.returns-in_err-attach-clause-over
returns-in_err-attach-clause-over c = λ more. rw c.in_err-attach.ensures.err (c.loop-number.invariant.over more)
