use Rattle.pc_accept.specs.Literals.{pair, positive}
use Rattle.pc_checker.proofs.DraftLemmas.{nothing_written, below_more_written}
use Rattle.pc_checker.proofs.axiom.write_values.Goals as goal

pub loop-value-init : goal.loop-value-init
loop-value-init c = nothing_written c.args.draft.now

pub loop-value-preserved : goal.loop-value-preserved
loop-value-preserved c =
    below_more_written c.args.draft.now c.loop-value.draft c.push_pair.new.self (λ v. positive (pair c.args.cell (record { 0 = v }))) c.loop-value.value c.loop-value.invariant c.in_ok-push_pair.ensures
