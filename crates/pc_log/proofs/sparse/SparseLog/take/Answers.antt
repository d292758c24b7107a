use Rattle.std.proofs.Common.{ℕ, get_or, subst, arith}
use Rattle.pc_log.specs.Lines.{LogLine}
use Rattle.pc_log.specs.Shown.{shown_line}
use Rattle.pc_log.specs.Sparse.{line_at}
use Rattle.pc_log.proofs.SparseLemmas.{line_of_log, only_more, taken_more, PutAt}
use Rattle.pc_log.proofs.sparse.SparseLog.take.Goals as goal

pub loop-place-preserved : goal.loop-place-preserved
loop-place-preserved c =
    let place : ℕ = get_or c.args.places.now c.loop-place.place-index 0 in
    let told = c.in_ok-put.ensures in
    let put : PutAt (shown_line c.line.result) place c.loop-place.self c.put.new.self = record { stands = told.stands; others = told.others; keeps = told.keeps; bytes = told.bytes } in
    let here = subst (λ (l : LogLine). PutAt l place c.loop-place.self c.put.new.self) (line_of_log c.args.log.now place (shown_line c.line.result) c.line.ensures.line) put in (
      taken_more (line_at c.args.log.now) c.args.places.now c.loop-place.place-index 0 c.args.self.now c.loop-place.self c.put.new.self c.loop-place.invariant.0 c.loop-place-test.true here,
      omega (arith, c.loop-place.invariant.1, c.put.ensures.length),
      only_more (line_at c.args.log.now) c.args.places.now c.loop-place.place-index 0 c.args.self.now c.loop-place.self c.put.new.self c.loop-place.invariant.2 c.loop-place-test.true here,
    )
