use Rattle.std.proofs.Common.{◌≡◌, ◌⊎◌, Contains, subst}
use Rattle.pc_solver.proofs.recent.Recent.push.Goals as goal

pub returns-clause-only : goal.returns-clause-only
returns-clause-only g c row has = subst (λ old. Contains old row ⊎ (row ≡ c.args.row.now)) c.self.view_is (c.keep.ensures.only row has)
