use Rattle.std.proofs.Common.{sym, subst, ◌∙◌, arith}
use Rattle.pc_cache.specs.inside.Kept.{IsRowIn}
use Rattle.pc_cache.specs.inside.Rested.{IsRowKept}
use Rattle.pc_cache.proofs.BlockLemmas.{block_read}
use Rattle.pc_cache.proofs.RestedLemmas.{nothing_kept, part_of, row_kept, there}
use Rattle.pc_cache.proofs.blocks.keep_row.Goals as goal

pub bounds-blocks-row : goal.bounds-blocks-row
bounds-blocks-row c = (subst (IsRowIn c.args.blocks.now) c.in-Some.is c.requires.is).0

pub keep_lines-requires-clause-block : goal.keep_lines-requires-clause-block
keep_lines-requires-clause-block c = let is = subst (IsRowIn c.args.blocks.now) c.in-Some.is c.requires.is in omega (arith, is.0, c.requires.count)

pub keep_lines-requires-clause-there : goal.keep_lines-requires-clause-there
keep_lines-requires-clause-there c =
    let is = subst (IsRowIn c.args.blocks.now) c.in-Some.is c.requires.is in
    let here = block_read c.args.blocks.now c.in-Some.row.block c.index-blocks-row.result is.0 c.index-blocks-row.is in
    there c.args.blocks.now c.args.kept.now.items c.args.kept.now.items c.in-Some.row c.index-blocks-row.result c.deref.result.now here (c.deref.ensures.value ∙ c.in_ok-places-in-Some.ensures) is

pub keep_lines-requires-clause-part : goal.keep_lines-requires-clause-part
keep_lines-requires-clause-part c =
    let is = subst (IsRowIn c.args.blocks.now) c.in-Some.is c.requires.is in
    let here = block_read c.args.blocks.now c.in-Some.row.block c.index-blocks-row.result is.0 c.index-blocks-row.is in
    part_of c.args.blocks.now c.args.kept.now.items c.args.kept.now.items c.in-Some.row c.index-blocks-row.result c.deref.result.now here (c.deref.ensures.value ∙ c.in_ok-places-in-Some.ensures) is c.requires.part c.requires.count

pub returns-in-None : goal.returns-in-None
returns-in-None c = nothing_kept c.args.blocks.now c.args.kept.now.items c.args.row.now c.in-None.is c.requires.part

pub returns-in_ok-keep_lines-in-Some : goal.returns-in_ok-keep_lines-in-Some
returns-in_ok-keep_lines-in-Some c =
    let is = subst (IsRowIn c.args.blocks.now) c.in-Some.is c.requires.is in
    let here = block_read c.args.blocks.now c.in-Some.row.block c.index-blocks-row.result is.0 c.index-blocks-row.is in
    let told = c.in_ok-keep_lines-in-Some.ensures in
    subst (IsRowKept c.args.blocks.now c.args.kept.now.items c.keep_lines.new.kept.items) (sym c.in-Some.is)
    (row_kept c.args.blocks.now c.args.kept.now.items c.keep_lines.new.kept.items c.in-Some.row c.index-blocks-row.result c.deref.result.now here (c.deref.ensures.value ∙ c.in_ok-places-in-Some.ensures) is c.requires.part c.requires.count
    told.count told.stand told.part told.only told.others told.keeps told.bytes)
