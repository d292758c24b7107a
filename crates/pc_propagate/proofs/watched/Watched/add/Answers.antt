use Rattle.std.proofs.Common.{arith}
use Rattle.pc_propagate.proofs.AddLemmas.{roomier, come_short, listed_added}
use Rattle.pc_propagate.proofs.AddSteps.{AreAddSteps, first_list, first_room, second_list, second_room, added_listed, added_is}
use Rattle.pc_propagate.proofs.watched.Watched.add.Goals as goal

pub invariant_of-self : goal.invariant_of-self
invariant_of-self c = roomier c.self.inside.bodies c.self.inside.lists c.promise_all.new.lists c.self.invariant c.promise_all.ensures.same c.promise_all.ensures.size c.promise_all.ensures.room

pub invariant_of-self-in_err-push : goal.invariant_of-self-in_err-push
invariant_of-self-in_err-push c = rw c.in_err-push.ensures.err (roomier c.self.inside.bodies c.self.inside.lists c.promise_all.new.lists c.self.invariant c.promise_all.ensures.same c.promise_all.ensures.size c.promise_all.ensures.room)

pub invariant_of-self-else-clause-ge2 : goal.invariant_of-self-else-clause-ge2
invariant_of-self-else-clause-ge2 c =
    let in_range = rw (← c.self.view_is) at c.requires.in_range in
    rw c.in_ok-push.ensures.ok (listed_added c.self.inside.bodies c.args.clause.now c.self.inside.lists c.promise_all.new.lists c.self.invariant (omega (arith, c.if-number-ge-MOST.false, c.len-number.ensures)) in_range
    (come_short c.self.inside.bodies c.args.clause.now c.self.inside.lists c.promise_all.new.lists c.self.invariant c.promise_all.ensures.same c.promise_all.ensures.size c.promise_all.ensures.room (omega (arith, c.if-clause-ge2.false))))

pub put-requires-clause-list : goal.put-requires-clause-list
put-requires-clause-list c =
    let in_range = rw (← c.self.view_is) at c.requires.in_range in
    let steps : AreAddSteps c.self.inside.bodies c.push.new.self c.exchange.new.self c.exchange-then-clause-ge2.new.self c.self.inside.lists c.promise_all.new.lists c.args.clause.now c.len-number.result c.args.first c.args.second c.at-one.result c.at-two.result = record {
      before = c.self.invariant;
      few = omega (arith, c.if-number-ge-MOST.false, c.len-number.ensures);
      in_range = in_range;
      number_is = c.len-number.ensures;
      long = c.if-clause-ge2.true;
      first_in = c.requires.first c.if-clause-ge2.true;
      second_in = c.requires.second c.if-clause-ge2.true;
      same = c.promise_all.ensures.same;
      size = c.promise_all.ensures.size;
      room = c.in_ok-promise_all.ensures.ok;
      pushed_is = c.in_ok-push.ensures.ok;
      b1_is = c.exchange.ensures;
      b2_is = c.exchange-then-clause-ge2.ensures;
      one_is = c.at-one.ensures;
      two_is = c.at-two.ensures;
    } in
    (first_list c.self.inside.bodies c.push.new.self c.exchange.new.self c.exchange-then-clause-ge2.new.self c.self.inside.lists c.promise_all.new.lists c.args.clause.now c.len-number.result c.args.first c.args.second c.at-one.result c.at-two.result steps c.code_of.result c.code_of.ensures.is)

pub put-requires-clause-room : goal.put-requires-clause-room
put-requires-clause-room c =
    let in_range = rw (← c.self.view_is) at c.requires.in_range in
    let steps : AreAddSteps c.self.inside.bodies c.push.new.self c.exchange.new.self c.exchange-then-clause-ge2.new.self c.self.inside.lists c.promise_all.new.lists c.args.clause.now c.len-number.result c.args.first c.args.second c.at-one.result c.at-two.result = record {
      before = c.self.invariant;
      few = omega (arith, c.if-number-ge-MOST.false, c.len-number.ensures);
      in_range = in_range;
      number_is = c.len-number.ensures;
      long = c.if-clause-ge2.true;
      first_in = c.requires.first c.if-clause-ge2.true;
      second_in = c.requires.second c.if-clause-ge2.true;
      same = c.promise_all.ensures.same;
      size = c.promise_all.ensures.size;
      room = c.in_ok-promise_all.ensures.ok;
      pushed_is = c.in_ok-push.ensures.ok;
      b1_is = c.exchange.ensures;
      b2_is = c.exchange-then-clause-ge2.ensures;
      one_is = c.at-one.ensures;
      two_is = c.at-two.ensures;
    } in
    (first_room c.self.inside.bodies c.push.new.self c.exchange.new.self c.exchange-then-clause-ge2.new.self c.self.inside.lists c.promise_all.new.lists c.args.clause.now c.len-number.result c.args.first c.args.second c.at-one.result c.at-two.result steps c.code_of.result c.code_of.ensures.is)

pub put-requires-then-clause-ge2-clause-list : goal.put-requires-then-clause-ge2-clause-list
put-requires-then-clause-ge2-clause-list c =
    let in_range = rw (← c.self.view_is) at c.requires.in_range in
    let steps : AreAddSteps c.self.inside.bodies c.push.new.self c.exchange.new.self c.exchange-then-clause-ge2.new.self c.self.inside.lists c.promise_all.new.lists c.args.clause.now c.len-number.result c.args.first c.args.second c.at-one.result c.at-two.result = record {
      before = c.self.invariant;
      few = omega (arith, c.if-number-ge-MOST.false, c.len-number.ensures);
      in_range = in_range;
      number_is = c.len-number.ensures;
      long = c.if-clause-ge2.true;
      first_in = c.requires.first c.if-clause-ge2.true;
      second_in = c.requires.second c.if-clause-ge2.true;
      same = c.promise_all.ensures.same;
      size = c.promise_all.ensures.size;
      room = c.in_ok-promise_all.ensures.ok;
      pushed_is = c.in_ok-push.ensures.ok;
      b1_is = c.exchange.ensures;
      b2_is = c.exchange-then-clause-ge2.ensures;
      one_is = c.at-one.ensures;
      two_is = c.at-two.ensures;
    } in
    (second_list c.self.inside.bodies c.push.new.self c.exchange.new.self c.exchange-then-clause-ge2.new.self c.self.inside.lists c.promise_all.new.lists c.args.clause.now c.len-number.result c.args.first c.args.second c.at-one.result c.at-two.result steps c.put.new.self c.code_of.result c.code_of-then-clause-ge2.result c.code_of.ensures.is c.code_of-then-clause-ge2.ensures.is c.put.ensures)

pub put-requires-then-clause-ge2-clause-room : goal.put-requires-then-clause-ge2-clause-room
put-requires-then-clause-ge2-clause-room c =
    let in_range = rw (← c.self.view_is) at c.requires.in_range in
    let steps : AreAddSteps c.self.inside.bodies c.push.new.self c.exchange.new.self c.exchange-then-clause-ge2.new.self c.self.inside.lists c.promise_all.new.lists c.args.clause.now c.len-number.result c.args.first c.args.second c.at-one.result c.at-two.result = record {
      before = c.self.invariant;
      few = omega (arith, c.if-number-ge-MOST.false, c.len-number.ensures);
      in_range = in_range;
      number_is = c.len-number.ensures;
      long = c.if-clause-ge2.true;
      first_in = c.requires.first c.if-clause-ge2.true;
      second_in = c.requires.second c.if-clause-ge2.true;
      same = c.promise_all.ensures.same;
      size = c.promise_all.ensures.size;
      room = c.in_ok-promise_all.ensures.ok;
      pushed_is = c.in_ok-push.ensures.ok;
      b1_is = c.exchange.ensures;
      b2_is = c.exchange-then-clause-ge2.ensures;
      one_is = c.at-one.ensures;
      two_is = c.at-two.ensures;
    } in
    (second_room c.self.inside.bodies c.push.new.self c.exchange.new.self c.exchange-then-clause-ge2.new.self c.self.inside.lists c.promise_all.new.lists c.args.clause.now c.len-number.result c.args.first c.args.second c.at-one.result c.at-two.result steps c.put.new.self c.code_of.result c.code_of-then-clause-ge2.result c.code_of.ensures.is c.code_of-then-clause-ge2.ensures.is c.put.ensures)

pub invariant_of-self-then-clause-ge2 : goal.invariant_of-self-then-clause-ge2
invariant_of-self-then-clause-ge2 c =
    let in_range = rw (← c.self.view_is) at c.requires.in_range in
    let steps : AreAddSteps c.self.inside.bodies c.push.new.self c.exchange.new.self c.exchange-then-clause-ge2.new.self c.self.inside.lists c.promise_all.new.lists c.args.clause.now c.len-number.result c.args.first c.args.second c.at-one.result c.at-two.result = record {
      before = c.self.invariant;
      few = omega (arith, c.if-number-ge-MOST.false, c.len-number.ensures);
      in_range = in_range;
      number_is = c.len-number.ensures;
      long = c.if-clause-ge2.true;
      first_in = c.requires.first c.if-clause-ge2.true;
      second_in = c.requires.second c.if-clause-ge2.true;
      same = c.promise_all.ensures.same;
      size = c.promise_all.ensures.size;
      room = c.in_ok-promise_all.ensures.ok;
      pushed_is = c.in_ok-push.ensures.ok;
      b1_is = c.exchange.ensures;
      b2_is = c.exchange-then-clause-ge2.ensures;
      one_is = c.at-one.ensures;
      two_is = c.at-two.ensures;
    } in
    (added_listed c.self.inside.bodies c.push.new.self c.exchange.new.self c.exchange-then-clause-ge2.new.self c.self.inside.lists c.promise_all.new.lists c.args.clause.now c.len-number.result c.args.first c.args.second c.at-one.result c.at-two.result steps c.put.new.self c.code_of.result c.code_of-then-clause-ge2.result c.code_of.ensures.is c.code_of-then-clause-ge2.ensures.is c.put.ensures c.put-then-clause-ge2.new.self c.put-then-clause-ge2.ensures)

pub returns-then-clause-ge2-clause-ok : goal.returns-then-clause-ge2-clause-ok
returns-then-clause-ge2-clause-ok c =
    let in_range = rw (← c.self.view_is) at c.requires.in_range in
    let steps : AreAddSteps c.self.inside.bodies c.push.new.self c.exchange.new.self c.exchange-then-clause-ge2.new.self c.self.inside.lists c.promise_all.new.lists c.args.clause.now c.len-number.result c.args.first c.args.second c.at-one.result c.at-two.result = record {
      before = c.self.invariant;
      few = omega (arith, c.if-number-ge-MOST.false, c.len-number.ensures);
      in_range = in_range;
      number_is = c.len-number.ensures;
      long = c.if-clause-ge2.true;
      first_in = c.requires.first c.if-clause-ge2.true;
      second_in = c.requires.second c.if-clause-ge2.true;
      same = c.promise_all.ensures.same;
      size = c.promise_all.ensures.size;
      room = c.in_ok-promise_all.ensures.ok;
      pushed_is = c.in_ok-push.ensures.ok;
      b1_is = c.exchange.ensures;
      b2_is = c.exchange-then-clause-ge2.ensures;
      one_is = c.at-one.ensures;
      two_is = c.at-two.ensures;
    } in
    rw (← c.self.view_is) (added_is c.self.inside.bodies c.push.new.self c.exchange.new.self c.exchange-then-clause-ge2.new.self c.self.inside.lists c.promise_all.new.lists c.args.clause.now c.len-number.result c.args.first c.args.second c.at-one.result c.at-two.result steps c.put.new.self c.code_of.result c.code_of-then-clause-ge2.result c.code_of.ensures.is c.code_of-then-clause-ge2.ensures.is c.put.ensures c.put-then-clause-ge2.new.self c.put-then-clause-ge2.ensures)
