use Rattle.std.proofs.Common.{map, ap}
use Rattle.pc_cert.specs.Views.{claim_of, set_of, reading_of}
use Rattle.pc_checker.proofs.ClaimOfSets.{repairs_verdict, unimplied_verdict}
use Rattle.pc_checker.proofs.claim.claim_verdict.Goals as goal

pub returns-in-Repairs-clause-verdict : goal.returns-in-Repairs-clause-verdict
returns-in-Repairs-clause-verdict c =
    repairs_verdict c.args.book.now (reading_of c.args.cert.now) (map set_of c.deref.result.now) c.fault_of_sets.result (ap (map set_of) c.deref.ensures.value) (ap claim_of c.in-Repairs.is) c.fault_of_sets.ensures.fault

pub returns-in-Not-clause-verdict : goal.returns-in-Not-clause-verdict
returns-in-Not-clause-verdict c =
    unimplied_verdict c.args.book.now (reading_of c.args.cert.now) (map set_of c.deref-in-Not.result.now) c.fault_of_sets-in-Not.result (ap (map set_of) c.deref-in-Not.ensures.value) c.in-Not.target
    (ap claim_of c.in-Not.is) c.fault_of_sets-in-Not.ensures.fault
