use Rattle.std.proofs.Common.{◌∙◌, sym}
use Rattle.pc_solver.proofs.BannedLemmas.{open_askable, denies_by}
use Rattle.pc_solver.proofs.banned.Banned.denies.Goals as goal

pub returns-in-None : goal.returns-in-None
returns-in-None c = open_askable c.args.self.now c.args.lit (sym c.sign.ensures ∙ c.in-None.is)

pub returns-in-Some : goal.returns-in-Some
returns-in-Some c = denies_by c.args.self.now c.args.lit c.in-Some.sign (sym c.sign.ensures ∙ c.in-Some.is)
