use Rattle.std.proofs.Common.{◌*◌, ap, ◌∙◌, arith}
use Rattle.pc_cache.specs.Rows.{Cached}
use Rattle.pc_cache.proofs.BlockLemmas.{alive_is, alive_few}
use Rattle.pc_cache.proofs.CountedLemmas.{count_few, lines_counted}
use Rattle.pc_cache.proofs.cache.Cache.live_bytes.Goals as goal

pub overflow_mul-self-inside : goal.overflow_mul-self-inside
overflow_mul-self-inside c =
    let most = count_few c.self.inside.slots.items c.self.inside.lines c.self.invariant.2 c.self.invariant.1.few in
    omega (arith, most)

pub returns-clause-exact : goal.returns-clause-exact
returns-clause-exact c =
    c.min.ensures
    ∙ alive_is c.self.inside.blocks.items c.self.inside.slots.items c.self.inside.live (16 * c.self.inside.lines) c.args.self.now (lines_counted c.self.inside.blocks.items c.self.inside.slots.items c.self.inside.lines c.self.invariant.2)
    (ap (λ (r : Cached). r.rows) c.self.view_is) (ap (λ (r : Cached). r.live) c.self.view_is)

pub returns-clause-most : goal.returns-clause-most
returns-clause-most c =
    let exact = c.min.ensures
    ∙ alive_is c.self.inside.blocks.items c.self.inside.slots.items c.self.inside.live (16 * c.self.inside.lines) c.args.self.now (lines_counted c.self.inside.blocks.items c.self.inside.slots.items c.self.inside.lines c.self.invariant.2)
    (ap (λ (r : Cached). r.rows) c.self.view_is) (ap (λ (r : Cached). r.live) c.self.view_is) in
    omega (arith, exact, alive_few c.args.self.now)
