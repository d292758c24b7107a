use Rattle.pc_propagate.proofs.StepLemmas.{AreSteps, come_within, come_room, come_listed, come_shifted}
use Rattle.pc_propagate.proofs.watched.Watched.shift.Goals as goal

pub put-requires-clause-list : goal.put-requires-clause-list
put-requires-clause-list c =
    let list = rw (← c.self.view_is) at c.requires.list in
    let is = rw (← c.self.view_is) at c.requires.is in
    let own = rw (← c.self.view_is) at c.requires.own in
    let within = rw (← c.self.view_is) at c.requires.within in
    let blocker = rw (← c.self.view_is) at c.requires.blocker in
    let steps : AreSteps c.self.inside.bodies c.exchange.new.self c.self.inside.lists c.take.new.self c.args.lit c.at-next.result c.code_of.result c.code_of-2.result c.args.index c.args.other c.args.watch c.args.blocker = record {
      before = c.self.invariant;
      list_is = c.code_of.ensures.is;
      within = list;
      is = is;
      own = own;
      later = c.requires.unwatched;
      inside = within;
      blocks = blocker;
      taken = c.take.result;
      was = c.take.ensures.was;
      left = c.take.ensures.taken;
      next_is = c.at-next.ensures;
      swapped = c.exchange.ensures;
      list2_is = c.code_of-2.ensures.is;
    } in
    (come_within c.self.inside.bodies c.exchange.new.self c.self.inside.lists c.take.new.self c.args.lit c.at-next.result c.code_of.result c.code_of-2.result c.args.index c.args.other c.args.watch c.args.blocker steps)

pub put-requires-clause-room : goal.put-requires-clause-room
put-requires-clause-room c =
    let list = rw (← c.self.view_is) at c.requires.list in
    let is = rw (← c.self.view_is) at c.requires.is in
    let own = rw (← c.self.view_is) at c.requires.own in
    let within = rw (← c.self.view_is) at c.requires.within in
    let blocker = rw (← c.self.view_is) at c.requires.blocker in
    let steps : AreSteps c.self.inside.bodies c.exchange.new.self c.self.inside.lists c.take.new.self c.args.lit c.at-next.result c.code_of.result c.code_of-2.result c.args.index c.args.other c.args.watch c.args.blocker = record {
      before = c.self.invariant;
      list_is = c.code_of.ensures.is;
      within = list;
      is = is;
      own = own;
      later = c.requires.unwatched;
      inside = within;
      blocks = blocker;
      taken = c.take.result;
      was = c.take.ensures.was;
      left = c.take.ensures.taken;
      next_is = c.at-next.ensures;
      swapped = c.exchange.ensures;
      list2_is = c.code_of-2.ensures.is;
    } in
    (come_room c.self.inside.bodies c.exchange.new.self c.self.inside.lists c.take.new.self c.args.lit c.at-next.result c.code_of.result c.code_of-2.result c.args.index c.args.other c.args.watch c.args.blocker steps)

pub invariant_of-self : goal.invariant_of-self
invariant_of-self c =
    let list = rw (← c.self.view_is) at c.requires.list in
    let is = rw (← c.self.view_is) at c.requires.is in
    let own = rw (← c.self.view_is) at c.requires.own in
    let within = rw (← c.self.view_is) at c.requires.within in
    let blocker = rw (← c.self.view_is) at c.requires.blocker in
    let steps : AreSteps c.self.inside.bodies c.exchange.new.self c.self.inside.lists c.take.new.self c.args.lit c.at-next.result c.code_of.result c.code_of-2.result c.args.index c.args.other c.args.watch c.args.blocker = record {
      before = c.self.invariant;
      list_is = c.code_of.ensures.is;
      within = list;
      is = is;
      own = own;
      later = c.requires.unwatched;
      inside = within;
      blocks = blocker;
      taken = c.take.result;
      was = c.take.ensures.was;
      left = c.take.ensures.taken;
      next_is = c.at-next.ensures;
      swapped = c.exchange.ensures;
      list2_is = c.code_of-2.ensures.is;
    } in
    (come_listed c.self.inside.bodies c.exchange.new.self c.self.inside.lists c.take.new.self c.args.lit c.at-next.result c.code_of.result c.code_of-2.result c.args.index c.args.other c.args.watch c.args.blocker steps c.put.new.self c.put.ensures)

pub returns : goal.returns
returns c =
    let list = rw (← c.self.view_is) at c.requires.list in
    let is = rw (← c.self.view_is) at c.requires.is in
    let own = rw (← c.self.view_is) at c.requires.own in
    let within = rw (← c.self.view_is) at c.requires.within in
    let blocker = rw (← c.self.view_is) at c.requires.blocker in
    let steps : AreSteps c.self.inside.bodies c.exchange.new.self c.self.inside.lists c.take.new.self c.args.lit c.at-next.result c.code_of.result c.code_of-2.result c.args.index c.args.other c.args.watch c.args.blocker = record {
      before = c.self.invariant;
      list_is = c.code_of.ensures.is;
      within = list;
      is = is;
      own = own;
      later = c.requires.unwatched;
      inside = within;
      blocks = blocker;
      taken = c.take.result;
      was = c.take.ensures.was;
      left = c.take.ensures.taken;
      next_is = c.at-next.ensures;
      swapped = c.exchange.ensures;
      list2_is = c.code_of-2.ensures.is;
    } in
    rw (← c.self.view_is) (come_shifted c.self.inside.bodies c.exchange.new.self c.self.inside.lists c.take.new.self c.args.lit c.at-next.result c.code_of.result c.code_of-2.result c.args.index c.args.other c.args.watch c.args.blocker steps c.put.new.self c.put.ensures)
