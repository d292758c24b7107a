use Rattle.std.proofs.Common.{ap, ◌∙◌, sym, subst}
use Rattle.pc_cache.specs.inside.Kept.{bytes_of_blocks, KeepsBlocks}
use Rattle.pc_cache.proofs.BlockLemmas.{behind_stand, bytes_behind, further_are, further_same, keeps_behind}
use Rattle.pc_cache.proofs.moving.take_behind.Goals as goal

pub returns-clause-taken : goal.returns-clause-taken
returns-clause-taken c =
    let stand = behind_stand c.args.into.now.items c.args.from.items c.append.new.self.items c.len.result c.in_ok-append.ensures.items (c.len.ensures ∙ c.args.into.now.ok.0) in
    record {
      keeps = subst (KeepsBlocks c.args.into.now.items) (sym c.in_ok-append.ensures.items) (keeps_behind c.args.into.now.items c.args.from.items);
      are = further_are c.args.from.items c.append.new.self.items c.len.result c.args.slots.now c.move_rows.new.slots stand c.in_ok-move_rows.ensures c.requires;
      same = further_same c.args.from.items c.append.new.self.items c.len.result c.args.slots.now c.move_rows.new.slots stand c.in_ok-move_rows.ensures c.requires;
      bytes = ap bytes_of_blocks c.in_ok-append.ensures.items ∙ bytes_behind c.args.into.now.items c.args.from.items;
    }
