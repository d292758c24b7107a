use Rattle.std.proofs.Common.{false, sym, ◌∙◌}
use Rattle.std.proofs.lemmas.Bool.{iff_false, not-false, not-true}
use Rattle.pc_lits.proofs.LitLemmas.{lit_from_same, other_lit}
use Rattle.pc_lits.proofs.ScanLemmas.{more_false, more_first, more_again, more_second, more_still, all_seen}
use Rattle.pc_lits.proofs.scan.left_of.Goals as goal
use Rattle.pc_lits.proofs.scan.left_of.Goals.{then-not-is_false+in-Nothing, then-not-is_false+in-Last+else-ne, then-not-is_false+in-More, else-not-is_false}

pub returns-then-ne : goal.returns-then-ne
returns-then-ne c =
    more_second _ _ c.loop-lit.lit-index _ c.in-Last.last c.loop-lit.left c.loop-lit-test.true c.loop-lit.invariant c.in-Last.is
    (other_lit _ _ (not-true _ (sym c.ne.ensures ∙ c.if-ne.true))) (iff_false c.is_false.ensures c.if-not-is_false.true)

pub loop-lit-preserved : goal.loop-lit-preserved
loop-lit-preserved c =
    elim c.if-not-is_false.branch [
      | then-not-is_false+in-Nothing w ↦
          more_first _ _ _ _ c.loop-lit.left _ c.loop-lit-test.true c.loop-lit.invariant w.in-Nothing.is w.left-is (iff_false c.is_false.ensures w.if-not-is_false.true)
      | then-not-is_false+in-Last+else-ne w ↦
          more_again _ _ _ _ w.in-Last.last c.loop-lit.left _ c.loop-lit-test.true c.loop-lit.invariant w.in-Last.is w.left-is
          (lit_from_same _ _ (not-false _ (sym w.ne.ensures ∙ w.if-ne.false)))
      | then-not-is_false+in-More w ↦
          more_still _ _ _ (record { variable = record { 0 = 0 }; sign = false }) c.loop-lit.left _ c.loop-lit-test.true c.loop-lit.invariant w.in-More.is w.left-is
      | else-not-is_false w ↦
          more_false _ _ _ _ c.loop-lit.left _ c.loop-lit-test.true c.loop-lit.invariant w.left-is (c.is_false.ensures.0 w.if-not-is_false.false)
    ]

pub returns : goal.returns
returns c = all_seen _ _ c.loop-lit.lit-index _ c.loop-lit-test.false c.loop-lit.invariant
