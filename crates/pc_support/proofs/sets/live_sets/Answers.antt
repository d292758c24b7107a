use Rattle.std.proofs.Common.{◌≡◌, ℕ, length, subst, arith}
use Rattle.pc_support.specs.inside.Sets.{AreLive}
use Rattle.pc_support.proofs.sets.live_sets.Goals as goal

pub returns : goal.returns
returns c sizes entries placed =
    let ended : c.loop-world.world ≡ length c.args.worlds.now = omega (arith, c.len-world-end.ensures) in
    subst (λ (n : ℕ). AreLive entries c.args.worlds.now c.args.target n c.loop-world.live) ended (c.loop-world.invariant sizes entries placed)
