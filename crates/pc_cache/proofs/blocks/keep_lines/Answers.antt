use Rattle.std.proofs.Common.{List, Option, map, set, ap, sym, subst, arith}
use Rattle.std.proofs.lemmas.List.{length-set}
use Rattle.pc_log.specs.Lines.{LogLine}
use Rattle.pc_log.specs.Sizes.{bytes_of}
use Rattle.pc_log.specs.Sparse.{bytes_there, line_in, AddsOnly, Keeps, LinesStand}
use Rattle.pc_cache.specs.inside.Kept.{block_at}
use Rattle.pc_cache.proofs.BlockLemmas.{block_read, put_bytes, set_at, set_keeps, set_other}
use Rattle.pc_cache.proofs.blocks.keep_lines.Goals as goal

pub take_back-requires-clause-part : goal.take_back-requires-clause-part
take_back-requires-clause-part c =
    subst (λ (b : List (Option LogLine)). Keeps b c.args.from.now) (sym (block_read c.args.kept.now.items c.args.block c.index_mut.result.now c.requires.block c.index_mut.ensures.value)) c.requires.part

pub returns-clause-count : goal.returns-clause-count
returns-clause-count c = length-set c.args.kept.now.items c.args.block c.take_back.new.self

pub returns-clause-stand : goal.returns-clause-stand
returns-clause-stand c = subst (LinesStand (line_in c.args.from.now) c.args.places.now) (sym (set_at c.args.kept.now.items c.args.block c.take_back.new.self c.requires.block)) c.in_ok-take_back.ensures.stand

pub returns-clause-part : goal.returns-clause-part
returns-clause-part c = subst (λ (b : List (Option LogLine)). Keeps b c.args.from.now) (sym (set_at c.args.kept.now.items c.args.block c.take_back.new.self c.requires.block)) c.in_ok-take_back.ensures.part

pub returns-clause-only : goal.returns-clause-only
returns-clause-only c =
    let read = block_read c.args.kept.now.items c.args.block c.index_mut.result.now c.requires.block c.index_mut.ensures.value in
    subst (λ (b : List (Option LogLine)). AddsOnly (line_in c.args.from.now) c.args.places.now b (block_at (set c.args.kept.now.items c.args.block c.take_back.new.self) c.args.block)) read
    (subst (AddsOnly (line_in c.args.from.now) c.args.places.now c.index_mut.result.now) (sym (set_at c.args.kept.now.items c.args.block c.take_back.new.self c.requires.block)) c.take_back.ensures.only)

pub returns-clause-others : goal.returns-clause-others
returns-clause-others c = λ b other. set_other c.args.kept.now.items c.args.block c.take_back.new.self c.requires.block b other

pub returns-clause-keeps : goal.returns-clause-keeps
returns-clause-keeps c =
    set_keeps c.args.kept.now.items c.args.block c.take_back.new.self c.requires.block
    (subst (λ (b : List (Option LogLine)). Keeps b c.take_back.new.self) (block_read c.args.kept.now.items c.args.block c.index_mut.result.now c.requires.block c.index_mut.ensures.value) c.in_ok-take_back.ensures.keeps)

pub returns-clause-bytes : goal.returns-clause-bytes
returns-clause-bytes c =
    put_bytes c.args.kept.now.items c.args.block (bytes_of (map (line_in c.args.from.now) c.args.places.now)) c.take_back.new.self c.requires.block
    (omega (arith, c.in_ok-take_back.ensures.bytes, ap bytes_there (block_read c.args.kept.now.items c.args.block c.index_mut.result.now c.requires.block c.index_mut.ensures.value)))
