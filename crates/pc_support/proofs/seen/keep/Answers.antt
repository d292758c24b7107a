use Rattle.std.proofs.Common.{sym, ap, ◌∙◌, length, List, Bool}
use Rattle.pc_support.proofs.KeptLemmas.{kept_added, only_kept}
use Rattle.pc_support.proofs.seen.keep.Goals as goal

pub make_room-requires-clause-counted : goal.make_room-requires-clause-counted
make_room-requires-clause-counted c = c.requires.counted

pub add-requires-clause-count : goal.add-requires-clause-count
add-requires-clause-count c = ap (λ (t : List Bool). length t) c.in_ok-row.ensures.truth ∙ sym c.len-count.ensures

pub returns-clause-kept : goal.returns-clause-kept
returns-clause-kept c =
    let m = c.make_room.ensures in
    let a = c.add.ensures in
    kept_added c.args.watched.now c.args.kept.now c.make_room.new.kept c.add.new.kept c.in_ok-row.row c.deref.result.now c.args.truth.now c.requires
    m.literals m.places m.rows m.counted a.literals a.places a.rows a.counted c.deref.ensures.value c.in_ok-row.ensures.truth c.in_ok-row.ensures.model

pub returns-clause-only : goal.returns-clause-only
returns-clause-only c =
    only_kept c.args.kept.now.rows.items c.make_room.new.kept.rows.items c.add.new.kept.rows.items c.in_ok-row.row c.args.truth.now c.make_room.ensures.rows c.add.ensures.rows c.in_ok-row.ensures.truth
