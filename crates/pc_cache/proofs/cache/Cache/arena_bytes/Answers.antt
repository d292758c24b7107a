use Rattle.std.proofs.Common.{ap, arith}
use Rattle.pc_cache.specs.Rows.{Cached, row_bytes, row_of}
use Rattle.pc_cache.proofs.BlockLemmas.{rows_count}
use Rattle.pc_cache.proofs.cache.Cache.arena_bytes.Goals as goal

pub returns-clause-least : goal.returns-clause-least
returns-clause-least c = λ t.
    omega (arith, rows_count c.self.inside.blocks.items c.self.inside.slots.items t c.self.invariant.1.rows, c.self.invariant.0, ap (λ (r : Cached). row_bytes (row_of r.rows t)) c.self.view_is)
