use Rattle.std.proofs.Common.{List, Option, map, ap, sym, subst, arith}
use Rattle.pc_log.specs.Lines.{LogLine}
use Rattle.pc_log.specs.Sizes.{bytes_of}
use Rattle.pc_log.specs.Sparse.{bytes_there, line_at, Keeps, LinesStand, MayStand}
use Rattle.pc_cache.proofs.BlockLemmas.{block_read, put_bytes, set_at, set_keeps}
use Rattle.pc_cache.proofs.LastLemmas.{share_put}
use Rattle.pc_cache.proofs.blocks.put_lines.Goals as goal

pub take-requires-clause-free : goal.take-requires-clause-free
take-requires-clause-free c =
    subst (MayStand (line_at c.args.log.now) c.args.places.now) (sym (block_read c.args.blocks.now.items c.args.block c.index_mut.result.now (omega (arith, c.requires.block)) c.index_mut.ensures.value)) c.requires.free

pub returns-in_err-take-clause-keeps : goal.returns-in_err-take-clause-keeps
returns-in_err-take-clause-keeps c =
    set_keeps c.args.blocks.now.items c.args.block c.take.new.self (omega (arith, c.requires.block))
    (subst (λ (b : List (Option LogLine)). Keeps b c.take.new.self) (block_read c.args.blocks.now.items c.args.block c.index_mut.result.now (omega (arith, c.requires.block)) c.index_mut.ensures.value) c.take.ensures.keeps)

pub returns-clause-keeps : goal.returns-clause-keeps
returns-clause-keeps c =
    set_keeps c.args.blocks.now.items c.args.block c.take.new.self (omega (arith, c.requires.block))
    (subst (λ (b : List (Option LogLine)). Keeps b c.take.new.self) (block_read c.args.blocks.now.items c.args.block c.index_mut.result.now (omega (arith, c.requires.block)) c.index_mut.ensures.value) c.in_ok-take.ensures.keeps)

pub returns-clause-stand : goal.returns-clause-stand
returns-clause-stand c = subst (LinesStand (line_at c.args.log.now) c.args.places.now) (sym (set_at c.args.blocks.now.items c.args.block c.take.new.self (omega (arith, c.requires.block)))) c.in_ok-take.ensures.stand

pub returns-clause-bytes : goal.returns-clause-bytes
returns-clause-bytes c =
    put_bytes c.args.blocks.now.items c.args.block (bytes_of (map (line_at c.args.log.now) c.args.places.now)) c.take.new.self (omega (arith, c.requires.block))
    (omega (arith, c.in_ok-take.ensures.bytes, ap bytes_there (block_read c.args.blocks.now.items c.args.block c.index_mut.result.now (omega (arith, c.requires.block)) c.index_mut.ensures.value)))

pub returns-in_err-take-clause-shares : goal.returns-in_err-take-clause-shares
returns-in_err-take-clause-shares c =
    share_put c.args.log.now c.args.places.now c.args.blocks.now.items c.args.block c.index_mut.result.now c.take.new.self c.requires.block c.index_mut.ensures.value c.requires.within c.take.ensures.only

pub returns-clause-shares : goal.returns-clause-shares
returns-clause-shares c =
    share_put c.args.log.now c.args.places.now c.args.blocks.now.items c.args.block c.index_mut.result.now c.take.new.self c.requires.block c.index_mut.ensures.value c.requires.within c.in_ok-take.ensures.only
