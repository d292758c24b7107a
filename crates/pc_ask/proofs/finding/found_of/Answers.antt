use Rattle.std.proofs.Common.{◌<◌, ◌∙◌, ap, refl, subst}
use Rattle.pc_accept.specs.Sets.{those_in}
use Rattle.pc_ask.specs.inside.Choices.{ways_of}
use Rattle.pc_ask.proofs.Chosen.{joined_many}
use Rattle.pc_ask.proofs.Places.{low_at}
use Rattle.pc_ask.proofs.finding.found_of.Goals as goal

pub way_at-requires-clause-sized : goal.way_at-requires-clause-sized
way_at-requires-clause-sized c = c.requires.choosing.sized

pub way_at-requires-clause-number : goal.way_at-requires-clause-number
way_at-requires-clause-number c =
    let witness = c.requires.narrowed.1.witness in
    subst (λ n. c.args.narrowed.now.witness.way < n) (joined_many c.args.choosing.fitting.now c.args.choosing.parts.now) (low_at (ways_of c.args.choosing) c.args.narrowed.now.witness.way witness.shown witness.at)

pub returns : goal.returns
returns c = record {
  support_is = c.in_ok-support.ensures ∙ (ap (λ es. those_in es c.deref.result.now) c.entries.ensures.items ∙ ap (those_in c.args.choosing.task.book.now.entries) c.deref.ensures.value);
  shown_is = c.in_ok-shown.ensures;
  last_is = refl;
}
