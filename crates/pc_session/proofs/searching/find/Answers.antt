use Rattle.std.proofs.Common.{◌+◌, ◌≤◌, List, ap, refl, ◌∙◌}
use Rattle.std.proofs.lemmas.Result.{IfOk-at_ok, IfErr-at_err, err_from_is_err_and}
use Rattle.pc_cache.specs.Patches.{PatchView, patch_bytes}
use Rattle.pc_cache.specs.Rows.{TargetRow}
use Rattle.pc_search.specs.Found.{Finds}
use Rattle.pc_search.specs.Parts.{AreWorldsOf}
use Rattle.pc_solver.specs.Spending.{StopSays}
use Rattle.pc_theory.specs.KeptBytes.{part_bytes}
use Rattle.pc_session.proofs.Making.{bytes_of_one, entry_refused, found_of, lawful}
use Rattle.pc_session.proofs.searching.find.Goals as goal

pub returns-in-Ok-clause-edit : goal.returns-in-Ok-clause-edit
returns-in-Ok-clause-edit c =
    let a = c.args in
    let t = a.asked in
    let p = c.requires.part in
    let rows_of : PatchView → List TargetRow = λ v. v.rows in
    found_of t.book.now t.theory.now a.change.cell c.requires.theory t.part p.0 p.1 p.2 c.search-outcome.new.place c.in_ok-spending.spending a.budget c.in_ok-spending.ensures.spends c.search-outcome.ensures.spends
    c.in_ok-spending.ensures.tally (c.search-outcome.ensures.limit ∙ c.blank_place-place.ensures.limit)
    c.in-Ok.worlds (λ q at. IfOk-at_ok (AreWorldsOf t.book.now q) c.in-Ok.is (c.search-outcome.ensures.worlds q at)) t.targets.now t.targets.now refl c.new-patch.result.rows c.search-outcome.new.patch (ap rows_of c.new-patch.ensures)
    (IfOk-at_ok (λ _. Finds t.book.now (c.search-outcome.new.place.tally.learned + c.search-outcome.new.place.tally.calls) t.targets.now c.new-patch.result.rows c.search-outcome.new.patch.rows) c.in-Ok.is c.search-outcome.ensures.found)

pub returns-in-Err-clause-refused : goal.returns-in-Err-clause-refused
returns-in-Err-clause-refused c =
    let a = c.args in
    let t = a.asked in
    let p = c.requires.part in
    entry_refused t.book.now a.change.cell a.budget c.in-Err.stop c.search-outcome.new.place.tally c.in_ok-spending.spending c.refused_by.result c.refused_by.ensures (IfErr-at_err (StopSays c.search-outcome.new.place.tally) c.in-Err.is c.search-outcome.ensures.stop)
    (lawful t.book.now t.theory.now a.change.cell c.requires.theory t.part p.0 p.1 p.2 c.search-outcome.new.place c.in_ok-spending.spending a.budget c.in_ok-spending.ensures.spends c.search-outcome.ensures.spends
    c.in_ok-spending.ensures.tally (c.search-outcome.ensures.limit ∙ c.blank_place-place.ensures.limit))

pub returns-in_err-spending-clause-refused : goal.returns-in_err-spending-clause-refused
returns-in_err-spending-clause-refused c = let p = err_from_is_err_and c.from_residual.result c.from_residual.ensures.1 in rw (p.1, p.2) tt

pub returns-in-Ok-clause-bytes : goal.returns-in-Ok-clause-bytes
returns-in-Ok-clause-bytes c =
    let kept = c.args.asked.theory.now.components in
    let o = c.search-outcome in
    bytes_of_one kept o.new.place c.in_ok-spending.spending c.new-patch.result o.new.patch c.in_ok-spending.ensures.parts c.new-patch.ensures
    (IfOk-at_ok (λ _. patch_bytes o.new.patch ≤ patch_bytes c.new-patch.result + part_bytes kept o.new.place) c.in-Ok.is o.ensures.bytes)
