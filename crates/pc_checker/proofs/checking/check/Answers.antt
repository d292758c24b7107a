use Rattle.std.proofs.Common.{◌∙◌, sym, subst}
use Rattle.pc_cert.specs.Views.{reading_of}
use Rattle.pc_checker.specs.Entered.{AreEnteredPairs}
use Rattle.pc_checker.proofs.ClaimVerdict.{none_from}
use Rattle.pc_checker.proofs.CheckVerdict.{claim_stands, at_fault, accepted, wrong_end}
use Rattle.pc_checker.proofs.checking.check.Goals as goal

pub claim_verdict-requires-clause-prepared : goal.claim_verdict-requires-clause-prepared
claim_verdict-requires-clause-prepared c = record {
  read = c.requires.read;
  entered = subst (AreEnteredPairs c.args.book.now) (sym c.deref.ensures.value) c.requires.prepared.entered;
  values = c.requires.prepared.assignment;
  sets = c.deref-2.ensures.value ∙ c.requires.prepared.sets;
}

pub returns-in-Some-bad-clause-verdict : goal.returns-in-Some-bad-clause-verdict
returns-in-Some-bad-clause-verdict c =
    let stands = claim_stands c.args.book.now (reading_of c.args.cert.now) c.claim_verdict.result (none_from c.claim_verdict.result c.in_default.not-Some) c.claim_verdict.ensures.verdict in
    at_fault c.args.book.now c.args.cert.now c.args.scratch.now c.requires stands c.deref-3.result.now c.deref-4.result.now c.first_bad-bad.result c.in-Some-bad.place c.index.result.now
    c.fault_of.result c.deref-3.ensures.value c.deref-4.ensures.value c.in-Some-bad.is c.first_bad-bad.ensures.first c.index.ensures c.fault_of.ensures

pub returns-then-ends_among-clause-verdict : goal.returns-then-ends_among-clause-verdict
returns-then-ends_among-clause-verdict c =
    let stands = claim_stands c.args.book.now (reading_of c.args.cert.now) c.claim_verdict.result (none_from c.claim_verdict.result c.in_default.not-Some) c.claim_verdict.ensures.verdict in
    accepted c.args.book.now c.args.cert.now c.args.scratch.now c.requires stands c.deref-3.result.now c.deref-4.result.now c.first_bad-bad.result c.deref-5.result.now c.ends_among.result
    c.deref-3.ensures.value c.deref-4.ensures.value (none_from c.first_bad-bad.result c.in_default-bad.not-Some) c.first_bad-bad.ensures.first c.deref-5.ensures.value c.ends_among.ensures.among
    c.if-ends_among.true

pub returns-else-ends_among-clause-verdict : goal.returns-else-ends_among-clause-verdict
returns-else-ends_among-clause-verdict c =
    let stands = claim_stands c.args.book.now (reading_of c.args.cert.now) c.claim_verdict.result (none_from c.claim_verdict.result c.in_default.not-Some) c.claim_verdict.ensures.verdict in
    wrong_end c.args.book.now c.args.cert.now c.args.scratch.now c.requires stands c.deref-3.result.now c.deref-4.result.now c.first_bad-bad.result c.deref-5.result.now c.ends_among.result
    c.deref-3.ensures.value c.deref-4.ensures.value (none_from c.first_bad-bad.result c.in_default-bad.not-Some) c.first_bad-bad.ensures.first c.deref-5.ensures.value c.ends_among.ensures.among
    c.if-ends_among.false
