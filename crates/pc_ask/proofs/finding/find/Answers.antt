use Rattle.pc_support.proofs.NarrowingLemmas.{at_none, at_some}
use Rattle.pc_ask.specs.inside.Choices.{IsNarrowedTo}
use Rattle.pc_ask.proofs.finding.find.Goals as goal

pub returns-in-None-clause-says : goal.returns-in-None-clause-says
returns-in-None-clause-says c = at_none c.in_ok-narrow.field-0 c.in-None.is c.in_ok-narrow.ensures.none

pub found_of-requires-clause-narrowed : goal.found_of-requires-clause-narrowed
found_of-requires-clause-narrowed c = (c.narrow.new.log, at_some (IsNarrowedTo c.args.choosing 0 c.narrow.new.log) c.in_ok-narrow.field-0 c.in-Some.narrowed c.in-Some.is c.in_ok-narrow.ensures.some)

pub returns-in_ok-found_of-in-Some-clause-says : goal.returns-in_ok-found_of-in-Some-clause-says
returns-in_ok-found_of-in-Some-clause-says c = (
  c.in-Some.narrowed,
  at_some (IsNarrowedTo c.args.choosing 0 c.narrow.new.log) c.in_ok-narrow.field-0 c.in-Some.narrowed c.in-Some.is c.in_ok-narrow.ensures.some,
  c.in_ok-found_of-in-Some.ensures,
)
