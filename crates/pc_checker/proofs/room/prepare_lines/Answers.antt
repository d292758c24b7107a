use Rattle.std.proofs.Common.{◌∙◌, List, Bool, sym, subst}
use Rattle.pc_checker.specs.Made.{blocks_said}
use Rattle.pc_checker.specs.inside.Prepared.{IsLinePrepared, ArePrepared}
use Rattle.pc_checker.proofs.LineClauseLemmas.{place_prepared}
use Rattle.pc_checker.proofs.RoomLemmas.{line_over, prepared_more, step_in_range}
use Rattle.pc_checker.proofs.room.prepare_lines.Goals as goal

pub prepare_place-requires-clause-over : goal.prepare_place-requires-clause-over
prepare_place-requires-clause-over c =
    let l = c.loop-place in
    line_over c.args.book.now c.args.lines.now l.place c.index-lines-place.result c.args.draft.now.symbols l.draft.symbols c.loop-place-test.true c.index-lines-place.is l.invariant.prepared.grows c.requires.over

pub prepare_place-requires-clause-symbols : goal.prepare_place-requires-clause-symbols
prepare_place-requires-clause-symbols c =
    let l = c.loop-place in
    step_in_range c.args.book.now c.args.lines.now l.place c.index-lines-place.result c.args.draft.now.symbols l.marks.symbols c.loop-place-test.true c.index-lines-place.is l.invariant.symbols c.requires.over

pub loop-place-preserved : goal.loop-place-preserved
loop-place-preserved c =
    let l = c.loop-place in
    let line = c.index-lines-place.result in
    let lent : ArePrepared c.args.book.now (blocks_said c.args.book.now c.args.sets.now) c.args.lines.now l.place c.args.draft.now.symbols l.draft.symbols l.clauses c.as_slice.result.now =
    subst (λ (marks : List Bool). ArePrepared c.args.book.now (blocks_said c.args.book.now c.args.sets.now) c.args.lines.now l.place c.args.draft.now.symbols l.draft.symbols l.clauses marks) (sym c.as_slice.ensures.value) l.invariant.prepared
    in
    let one : IsLinePrepared c.args.book.now (blocks_said c.args.book.now c.args.sets.now) line.part l.draft.symbols c.prepare_place.new.draft.symbols l.clauses c.prepare_place.new.clauses c.in_ok-good.good =
    place_prepared c.args.book.now (blocks_said c.args.book.now c.args.sets.now) c.args.lines.now l.place line c.in_ok-earlier.earlier c.args.draft.now.symbols l.draft.symbols c.prepare_place.new.draft.symbols l.clauses c.prepare_place.new.clauses c.as_slice.result.now c.in_ok-good.good c.index-lines-place.is
    lent c.in_ok-earlier.ensures c.in_ok-good.ensures.by_itself c.in_ok-good.ensures.repeated
    in
    record {
      prepared = prepared_more c.args.book.now (blocks_said c.args.book.now c.args.sets.now) c.args.lines.now l.place line c.args.draft.now.symbols l.draft.symbols c.prepare_place.new.draft.symbols l.clauses
          c.prepare_place.new.clauses l.axioms.items c.push.new.self.items c.in_ok-good.good c.loop-place-test.true c.index-lines-place.is l.invariant.prepared one c.in_ok-push.ensures.items;
      pairs = c.prepare_place.ensures.pairs ∙ l.invariant.pairs;
      symbols = c.prepare_place.ensures.symbols ∙ l.invariant.symbols;
    }
