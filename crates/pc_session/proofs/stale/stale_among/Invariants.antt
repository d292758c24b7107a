use Rattle.std.proofs.Common.{◌≡◌, filter, take}
use Rattle.pc_cache.specs.Rows.{row_of}
use Rattle.pc_session.specs.inside.Stale.{is_stale}
use Rattle.pc_session.specs.inside.Taken.{takes}
use Rattle.pc_session.proofs.stale.stale_among.Given as goal

abbrev pub invariant-loop-target : goal.invariant-loop-target
invariant-loop-target l = l.stale.items ≡ filter (λ t. is_stale (takes l.taken) l.added (row_of l.cache.rows t)) (take l.target-index l.all)
