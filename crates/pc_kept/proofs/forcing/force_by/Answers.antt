use Rattle.std.proofs.Common.{◌<◌, length, subst, sym}
use Rattle.std.proofs.lemmas.List.Elements.{All-contains}
use Rattle.pc_lits.specs.declared.literal.Lit.{Lit}
use Rattle.pc_kept.specs.inside.Checks.{AreRight}
use Rattle.pc_kept.proofs.OneStep.{forced_more}
use Rattle.pc_kept.proofs.forcing.force_by.Goals as goal

pub returns-in-Last-clause-forced : goal.returns-in-Last-clause-forced
returns-in-Last-clause-forced c = λ store kept among right.
    let scanned = c.in-Last.ensures in
    let within = All-contains (λ (l : Lit). l.variable.0 < length c.args.values.now) c.args.clause.now c.in-Last.literal c.requires scanned.0 in
    subst (AreRight store kept) (sym c.assign.ensures) (forced_more store kept c.args.clause.now c.args.values.now c.in-Last.literal among scanned within right)
