use Rattle.std.proofs.Common.{ℕ, get_or, sym, subst, arith}
use Rattle.std.proofs.lemmas.List.Elements.{Contains-get_or}
use Rattle.pc_log.specs.Lines.{LogLine}
use Rattle.pc_log.specs.Shown.{shown_line}
use Rattle.pc_log.specs.Sparse.{line_in}
use Rattle.pc_log.proofs.SparseLemmas.{line_in_is, only_more, part_more, taken_more, PutAt}
use Rattle.pc_log.proofs.sparse.SparseLog.take_back.Goals as goal

pub standing-requires : goal.standing-requires
standing-requires c = c.requires.there (get_or c.args.places.now c.loop-place.place-index 0) (Contains-get_or c.args.places.now c.loop-place.place-index 0 c.loop-place-test.true)

pub loop-place-preserved : goal.loop-place-preserved
loop-place-preserved c =
    let place : ℕ = get_or c.args.places.now c.loop-place.place-index 0 in
    let told = c.in_ok-put.ensures in
    let put : PutAt (shown_line c.standing.result) place c.loop-place.self c.put.new.self = record { stands = told.stands; others = told.others; keeps = told.keeps; bytes = told.bytes } in
    let here = subst (λ (l : LogLine). PutAt l place c.loop-place.self c.put.new.self) (sym (line_in_is c.args.from.now place (shown_line c.standing.result) c.standing.ensures)) put in (
      taken_more (line_in c.args.from.now) c.args.places.now c.loop-place.place-index 0 c.args.self.now c.loop-place.self c.put.new.self c.loop-place.invariant.0 c.loop-place-test.true here,
      part_more (shown_line c.standing.result) place c.loop-place.self c.put.new.self c.args.from.now c.standing.ensures put c.loop-place.invariant.1,
      omega (arith, c.loop-place.invariant.2, c.put.ensures.length),
      only_more (line_in c.args.from.now) c.args.places.now c.loop-place.place-index 0 c.args.self.now c.loop-place.self c.put.new.self c.loop-place.invariant.3 c.loop-place-test.true here,
    )
