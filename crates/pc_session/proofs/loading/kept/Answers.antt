use Rattle.std.proofs.Common.{ap, ◌∙◌, arith}
use Rattle.pc_cache.specs.Rows.{row_after}
use Rattle.pc_session.proofs.LoadedBook.{none_yet}
use Rattle.pc_session.proofs.Placing.{have_targets, places_stay}
use Rattle.pc_session.proofs.loading.kept.Goals as goal

pub apply-requires : goal.apply-requires
apply-requires c = have_targets c.in_ok-cache.cache.rows c.args.patch.rows (λ r has. (c.in_ok-cache.ensures.targets r.target).1 (c.requires r has))

pub returns-clause-places : goal.returns-clause-places
returns-clause-places c = places_stay c.args.book.now c.in_ok-cache.cache.rows c.apply.new.self.rows c.in_ok-apply.ensures.targets c.in_ok-cache.ensures.targets

pub returns-clause-rows : goal.returns-clause-rows
returns-clause-rows c = λ t. c.in_ok-apply.ensures.rows t ∙ ap (row_after c.args.patch.rows t) (none_yet c.in_ok-cache.cache.rows t c.in_ok-cache.ensures.empty)

pub returns-clause-bytes : goal.returns-clause-bytes
returns-clause-bytes c = omega (arith, c.in_ok-apply.ensures.exact, c.in_ok-cache.ensures.bytes)
