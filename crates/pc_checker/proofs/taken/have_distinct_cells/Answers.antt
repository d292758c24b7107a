use Rattle.std.proofs.Common.{◌+◌, ◌<◌, Bool, Option, None, Some, take, length, get_or, true, refl, ap, sym, ◌∙◌, subst, arith}
use Rattle.std.proofs.lemmas.Bool.{false≢true}
use Rattle.std.proofs.lemmas.List.{take_all, length-set, length-replicate}
use Rattle.pc_sheet.specs.Entailment.{HaveDistinctCells}
use Rattle.pc_lits.specs.Values.{MakesTrue}
use Rattle.pc_checker.proofs.ClaimLemmas.{first_entry}
use Rattle.pc_checker.proofs.ReadLemmas.{AreReadMarked, mark_of, marked_more, distinct_more, repeated}
use Rattle.pc_checker.proofs.taken.have_distinct_cells.Goals as goal

pub returns-then-is_true-clause-distinct : goal.returns-then-is_true-clause-distinct
returns-then-is_true-clause-distinct c =
    let i = c.loop-read.read-index in
    let x = get_or c.args.reads.now i first_entry in
    let room = c.loop-read.invariant.room in
    let within : x.cell.0 < length c.loop-read.marks = omega (arith, c.requires i first_entry c.loop-read-test.true, room, ap length c.clear.ensures, length-replicate {A = Option Bool} (length c.args.marks.now) None) in
    let marked = subst (MakesTrue c.loop-read.marks) (c.positive-cell.ensures ∙ ap mark_of c.from.ensures) (c.is_true.ensures.0 c.if-is_true.true) in
    (λ e. absurd (false≢true e), λ h. absurd (repeated c.args.reads.now i first_entry c.loop-read.marks c.loop-read-test.true c.loop-read.invariant.marked within marked h))

pub loop-read-preserved : goal.loop-read-preserved
loop-read-preserved c =
    let i = c.loop-read.read-index in
    let x = get_or c.args.reads.now i first_entry in
    let room = c.loop-read.invariant.room in
    let within : x.cell.0 < length c.loop-read.marks = omega (arith, c.requires i first_entry c.loop-read-test.true, room, ap length c.clear.ensures, length-replicate {A = Option Bool} (length c.args.marks.now) None) in
    let is = c.positive-cell.ensures ∙ ap mark_of c.from.ensures in
    let after = rw is at c.assign.ensures in
    record {
      distinct = distinct_more c.args.reads.now i first_entry c.loop-read.marks c.loop-read-test.true c.loop-read.invariant.marked within c.loop-read.invariant.distinct
          (λ marked. false≢true (sym c.if-is_true.false ∙ c.is_true.ensures.1 (subst (MakesTrue c.loop-read.marks) (sym is) marked)));
      marked = subst (AreReadMarked (take (i + 1) c.args.reads.now)) (sym after) (marked_more c.args.reads.now i first_entry c.loop-read.marks c.loop-read-test.true c.loop-read.invariant.marked within);
      room = ap length after ∙ length-set c.loop-read.marks x.cell.0 (Some true) ∙ room;
    }

pub returns-clause-distinct : goal.returns-clause-distinct
returns-clause-distinct c =
    let all = subst HaveDistinctCells (take_all c.loop-read.read-index c.args.reads.now c.loop-read-test.false) c.loop-read.invariant.distinct in
    (λ _. all, λ _. refl)
