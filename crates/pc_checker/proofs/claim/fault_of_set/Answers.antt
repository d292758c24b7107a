use Rattle.std.proofs.Common.{None, map, subst}
use Rattle.pc_cert.specs.Views.{said_of, set_of}
use Rattle.pc_checker.specs.Verdicts.{IsFault}
use Rattle.pc_checker.specs.inside.Parts.{BarredBy, IsShownFault}
use Rattle.pc_checker.proofs.SetLemmas.{set_fault}
use Rattle.pc_checker.proofs.claim.fault_of_set.Goals as goal

pub returns-in-Some : goal.returns-in-Some
returns-in-Some c =
    let s = c.args.book.now in
    let at = subst (IsShownFault s None (map said_of c.deref.result.now) (map said_of c.deref-2.result.now) c.args.set.now.after) c.in-Some.is c.fault_of.ensures in
    set_fault s (BarredBy c.args.barred) (set_of c.args.set.now) c.in-Some.verdict
    (subst (λ vs. IsFault s None (map said_of c.args.set.now.uses.items) (map said_of vs) c.args.set.now.after c.in-Some.verdict) c.deref-2.ensures.value
    (subst (λ us. IsFault s None (map said_of us) (map said_of c.deref-2.result.now) c.args.set.now.after c.in-Some.verdict) c.deref.ensures.value at))
