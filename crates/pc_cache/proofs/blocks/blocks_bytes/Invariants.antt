use Rattle.std.proofs.Common.{◌≡◌, ◌≤◌, ◌*◌, ◌^◌, take}
use Rattle.pc_cache.specs.inside.Kept.{bytes_of_blocks}
use Rattle.pc_cache.proofs.blocks.blocks_bytes.Given as goal

abbrev pub invariant-loop-block : goal.invariant-loop-block
invariant-loop-block l = record {
  total : l.total ≡ bytes_of_blocks (take l.block-index l.blocks);
  few : l.total ≤ l.block-index * 2 ^ 64;
}
