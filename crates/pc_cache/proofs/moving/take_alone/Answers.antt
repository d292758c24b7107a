use Rattle.std.proofs.Common.{List, Option, sym, subst, ap, ◌∙◌, set, arith}
use Rattle.pc_log.specs.Lines.{LogLine}
use Rattle.pc_cache.specs.inside.Kept.{bytes_of_blocks, rows_in, AreRowsIn, KeepsBlocks}
use Rattle.pc_cache.proofs.BlockLemmas.{alone_bytes, alone_stands, block_read, further_are, further_same, set_empty}
use Rattle.pc_cache.proofs.moving.take_alone.Goals as goal

pub returns-clause-taken : goal.returns-clause-taken
returns-clause-taken c =
    let block = c.swap_remove-block.result in
    let is = block_read c.args.from.items 0 block (omega (arith, c.requires.one)) c.swap_remove-block.ensures.value in
    let stands = alone_stands c.args.from.items c.args.into.now.items c.args.place block c.requires.one is c.requires.within in
    let after = set c.args.into.now.items c.args.place block in
    record {
      keeps = subst (KeepsBlocks c.args.into.now.items) (sym c.put_at.ensures) (set_empty c.args.into.now.items c.args.place block c.requires.within c.requires.empty);
      are = subst (λ (bs : List (List (Option LogLine))). AreRowsIn bs c.move_rows.new.slots) (sym c.put_at.ensures)
          (further_are c.args.from.items after c.args.place c.args.slots.now c.move_rows.new.slots stands c.in_ok-move_rows.ensures c.requires.rows);
      same = ap (λ (bs : List (List (Option LogLine))). rows_in bs c.move_rows.new.slots) c.put_at.ensures
          ∙ further_same c.args.from.items after c.args.place c.args.slots.now c.move_rows.new.slots stands c.in_ok-move_rows.ensures c.requires.rows;
      bytes = ap bytes_of_blocks c.put_at.ensures ∙ alone_bytes c.args.from.items c.args.into.now.items c.args.place block c.requires.one is c.requires.within c.requires.empty;
    }
