use Rattle.std.proofs.Common.{length, arith, ap}
use Rattle.std.proofs.lemmas.List.{length-map}
use Rattle.pc_sheet.specs.Views.{rule_of}
use Rattle.pc_checker.proofs.ClaimLemmas.{fits_but}
use Rattle.pc_checker.proofs.claim.first_broken.Goals as goal

pub overflow_cast-result : goal.overflow_cast-result
overflow_cast-result c = omega (arith, length-map c.rules-count.result.now rule_of, ap length c.rules-count.ensures)

pub returns : goal.returns
returns c =
    fits_but c.args.book.now c.args.left_out c.args.values.now
    (λ k within. c.loop-rule.invariant k (omega (arith, length-map c.rules-count.result.now rule_of, ap length c.rules-count.ensures)))
