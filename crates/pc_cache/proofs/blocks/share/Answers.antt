use Rattle.std.proofs.Common.{arith}
use Rattle.pc_cache.proofs.BlockLemmas.{keeps_trans}
use Rattle.pc_cache.proofs.LastLemmas.{share_trans}
use Rattle.pc_cache.proofs.blocks.share.Goals as goal

pub returns-in_err-put_lines-clause-keeps : goal.returns-in_err-put_lines-clause-keeps
returns-in_err-put_lines-clause-keeps c =
    keeps_trans c.args.blocks.now.items c.block_for.new.blocks.items c.put_lines.new.blocks.items c.in_ok-block.ensures.keeps c.put_lines.ensures.keeps

pub returns-clause-keeps : goal.returns-clause-keeps
returns-clause-keeps c = keeps_trans c.args.blocks.now.items c.block_for.new.blocks.items c.put_lines.new.blocks.items c.in_ok-block.ensures.keeps c.in_ok-put_lines.ensures.keeps

pub returns-clause-within : goal.returns-clause-within
returns-clause-within c = omega (arith, c.in_ok-block.ensures.last, c.in_ok-put_lines.ensures.keeps.0)

pub returns-clause-bytes : goal.returns-clause-bytes
returns-clause-bytes c = omega (arith, c.in_ok-put_lines.ensures.bytes, c.in_ok-block.ensures.bytes)

pub returns-in_err-put_lines-clause-shares : goal.returns-in_err-put_lines-clause-shares
returns-in_err-put_lines-clause-shares c =
    share_trans c.args.log.now c.args.blocks.now.items c.block_for.new.blocks.items c.put_lines.new.blocks.items c.in_ok-block.ensures.shares c.put_lines.ensures.shares

pub returns-clause-shares : goal.returns-clause-shares
returns-clause-shares c = share_trans c.args.log.now c.args.blocks.now.items c.block_for.new.blocks.items c.put_lines.new.blocks.items c.in_ok-block.ensures.shares c.in_ok-put_lines.ensures.shares
