use Rattle.std.proofs.Common.{◌∙◌, sym}
use Rattle.pc_solver.proofs.PrepareLemmas.{start_read}
use Rattle.pc_solver.proofs.preparing.starts.Goals as goal

pub returns : goal.returns
returns c =
    start_read c.args.trail.now.entries c.args.level c.args.lit c.in-Some.sign c.reason_of.result c.level_of.result c.in-Some.ensures.some c.if-sign-lit.false c.reason_of.ensures (sym c.is_some.ensures ∙ c.if-is_some.false) c.level_of.ensures c.if-level_of-level.false
