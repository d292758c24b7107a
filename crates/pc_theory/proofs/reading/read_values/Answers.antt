use Rattle.std.proofs.Common.{◌≡◌, ◌<◌, inl, inr, ap, ◌∙◌, sym, subst, arith, length, get_or, slice_get, Contains}
use Rattle.std.proofs.lemmas.Bool.{cases_eq}
use Rattle.std.proofs.lemmas.List.{get_or_default}
use Rattle.std.proofs.lemmas.List.Elements.{All-get_or, Contains-get_or}
use Rattle.pc_sheet.specs.Entailment.{AreWithin}
use Rattle.pc_sheet.specs.declared.ids.CellId.{CellId}
use Rattle.pc_solver.specs.Answers.{truth_in}
use Rattle.pc_theory.proofs.ValuesRead.{within_length, within_set, read_some, read_none, reads_all, off_cells}
use Rattle.pc_theory.proofs.reading.read_values.Goals.{in-Some, in_default}
use Rattle.pc_theory.proofs.reading.read_values.Goals as goal

abbrev first : CellId
first = record { 0 = 0 }

pub set_value-requires : goal.set_value-requires
set_value-requires c =
    let sizes = c.args.ground.now.sizes in
    let low = All-get_or (λ (x : CellId). x.0 < length sizes) c.args.cells.now c.loop-cell.cell-index first c.loop-cell-test.true c.requires.pairs.below in
    omega (arith, low, within_length sizes c.loop-cell.base c.loop-cell.invariant.within)

pub loop-cell-preserved : goal.loop-cell-preserved
loop-cell-preserved c =
    let sizes = c.args.ground.now.sizes in
    let cells = c.args.cells.now in
    let i = c.loop-cell.cell-index in
    let here : CellId = get_or cells i first in
    let there : Contains cells here = Contains-get_or cells i first c.loop-cell-test.true in
    let low : here.0 < length sizes = All-get_or (λ (x : CellId). x.0 < length sizes) cells i first c.loop-cell-test.true c.requires.pairs.below in
    let v = truth_in c.args.solver.now.trues in
    let long : here.0 < length c.loop-cell.base = omega (arith, low, within_length sizes c.loop-cell.base c.loop-cell.invariant.within) in
    elim c.match-first_true.branch [
      | in-Some w ↦
          let x = w.in-Some.value in
          let new = w.base-is ∙ w.set_value.ensures in
          record {
            within = subst (AreWithin sizes) (sym new) (within_set sizes c.loop-cell.base here.0 x c.loop-cell.invariant.within w.in-Some.ensures.some);
            reads = λ a within reads k d l. subst (λ s. slice_get s (get_or cells k d).0 ≡ slice_get a (get_or cells k d).0) (sym new)
                (read_some sizes cells v a within reads c.loop-cell.base here x there w.in-Some.ensures.some w.in-Some.ensures.true_ long (get_or cells k d).0
                (elim (cases_eq k i) [
                  | inl is ↦ inr (ap (λ n. (get_or cells n d).0) is ∙ ap (λ (y : CellId). y.0) (get_or_default cells i d first c.loop-cell-test.true))
                  | inr other ↦ inl (c.loop-cell.invariant.reads a within reads k d (omega (arith, l, other)))
                ]));
            elsewhere = λ k off. off_cells cells here x c.args.base.now c.loop-cell.base there c.loop-cell.invariant.elsewhere k off ∙ ap (λ s. slice_get s k) (sym new);
          }
      | in_default w ↦ record {
        within = subst (AreWithin sizes) (sym w.base-is) c.loop-cell.invariant.within;
        reads = λ a within reads k d l. absurd (read_none sizes cells v a within reads here there low w.in_default.ensures.none);
        elsewhere = λ k off. c.loop-cell.invariant.elsewhere k off ∙ ap (λ s. slice_get s k) (sym w.base-is);
      }
    ]

pub returns-clause-reads : goal.returns-clause-reads
returns-clause-reads c a within reads =
    reads_all c.args.ground.now.sizes c.args.cells.now (truth_in c.args.solver.now.trues) a within reads c.loop-cell.base (λ k d l. c.loop-cell.invariant.reads a within reads k d (omega (arith, l, c.loop-cell-test.false)))

pub first_true-requires-clause-pairs : goal.first_true-requires-clause-pairs
first_true-requires-clause-pairs c x below = c.requires.pairs.own (get_or c.args.cells.now c.loop-cell.cell-index first) x (Contains-get_or c.args.cells.now c.loop-cell.cell-index first c.loop-cell-test.true) below
