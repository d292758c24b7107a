use Rattle.std.proofs.Common.{inr, Some, ◌+◌, ◌≤◌, ◌∙◌, arith, sym, subst}
use Rattle.std.proofs.lemmas.Result.{IfErr-at_err, IfOk-at_ok}
use Rattle.pc_sheet.specs.WellFormed.{IsWellFormed}
use Rattle.pc_cache.specs.Rows.{bytes_of_rows}
use Rattle.pc_session.specs.Arena.{compacted, IsWithinSpent}
use Rattle.pc_session.specs.Causes.{IsEntryCause}
use Rattle.pc_session.specs.Views.{counts_of}
use Rattle.pc_session.specs.inside.Changes.{made_of, as_list}
use Rattle.pc_session.specs.inside.Sessions.{IsSession}
use Rattle.pc_session.specs.inside.States.{IsEdited, IsSameBeside}
use Rattle.pc_session.specs.inside.Taken.{takes}
use Rattle.pc_session.proofs.Changed.{restored, restored_same}
use Rattle.pc_session.proofs.SpentBytes.{within_up}
use Rattle.pc_session.proofs.Viewing.{edited_compacted, on_err, same_compacted, same_failed}
use Rattle.pc_session.proofs.edits.edit.Goals as goal

pub ask-requires-clause-state : goal.ask-requires-clause-state
ask-requires-clause-state c =
    let s = c.args.state.now in
    subst (IsSession s.book s.theory s.worlds.items) (sym c.in_ok-compact_if_due.ensures.rows) c.requires.state

pub make_searched-requires-clause-state : goal.make_searched-requires-clause-state
make_searched-requires-clause-state c =
    let s = c.args.state.now in
    subst (IsSession s.book s.theory s.worlds.items) (sym c.in_ok-compact_if_due.ensures.rows) c.requires.state

pub returns-in_err-compact_if_due-clause-kept : goal.returns-in_err-compact_if_due-clause-kept
returns-in_err-compact_if_due-clause-kept c = on_err c.from_residual.result (same_failed c.args.state.now c.compact_if_due.new.cache c.in_err-compact_if_due.ensures.err)

pub returns-in_err-asked-clause-kept : goal.returns-in_err-asked-clause-kept
returns-in_err-asked-clause-kept c = on_err c.from_residual-in_err-asked.result (same_compacted c.args.state.now c.compact_if_due.new.cache c.in_ok-compact_if_due.ensures.rows c.in_ok-compact_if_due.ensures.left)

pub returns-in_err-before-clause-kept : goal.returns-in_err-before-clause-kept
returns-in_err-before-clause-kept c = on_err c.from_residual-in_err-before.result (same_compacted c.args.state.now c.compact_if_due.new.cache c.in_ok-compact_if_due.ensures.rows c.in_ok-compact_if_due.ensures.left)

pub returns-in-Ok-clause-done : goal.returns-in-Ok-clause-done
returns-in-Ok-clause-done c =
    let a = c.args in
    edited_compacted a.state.now c.compact_if_due.new.cache a.change.cell (takes a.change.taken) (as_list a.change.added) a.budget c.make_searched.new.state c.in_ok-compact_if_due.ensures.rows
    (IfOk-at_ok (λ _. IsEdited (record a.state.now { cache = c.compact_if_due.new.cache }) a.change.cell (takes a.change.taken) (as_list a.change.added) a.budget c.make_searched.new.state) c.in-Ok.is c.make_searched.ensures.done)

pub returns-in-Ok-clause-bytes : goal.returns-in-Ok-clause-bytes
returns-in-Ok-clause-bytes c =
    let new = c.make_searched.new.state in
    let few = IfOk-at_ok (λ _. new.cache.bytes ≤ c.compact_if_due.new.cache.bytes + bytes_of_rows new.cache.rows) c.in-Ok.is c.make_searched.ensures.bytes in
    omega (arith, few, c.in_ok-compact_if_due.ensures.ok)

pub returns-in-Ok-clause-spent : goal.returns-in-Ok-clause-spent
returns-in-Ok-clause-spent c =
    let s = c.args.state.now in
    let cell = c.args.change.cell in
    let mid = c.compact_if_due.new.cache in
    let new = c.make_searched.new.state in
    let within = IfOk-at_ok (λ _. IsWithinSpent new.book (Some cell) new.theory.components (counts_of new.tally) mid.bytes new.cache.bytes) c.in-Ok.is c.make_searched.ensures.spent in
    inr (within_up new.book (Some cell) new.theory.components (counts_of new.tally) mid.bytes (compacted s.cache.rows s.cache.bytes) new.cache.bytes c.in_ok-compact_if_due.ensures.ok within)

-- ---- the old entries are put back

pub put_entries-requires : goal.put_entries-requires
put_entries-requires c =
    let s = c.args.state.now in
    let kept = IfErr-at_err (λ _. IsSameBeside (record s { cache = c.compact_if_due.new.cache }) c.make_searched.new.state) c.in-Err.is c.make_searched.ensures.kept in
    subst IsWellFormed (sym (restored s.book c.make_searched.new.state.book c.in_ok-before.before.items kept.rules (c.in_ok-before.ensures.items ∙ c.entries.ensures.items))) c.requires.formed

pub returns-in-Err-clause-kept : goal.returns-in-Err-clause-kept
returns-in-Err-clause-kept c =
    let s = c.args.state.now in
    let kept = IfErr-at_err (λ _. IsSameBeside (record s { cache = c.compact_if_due.new.cache }) c.make_searched.new.state) c.in-Err.is c.make_searched.ensures.kept in
    restored_same s c.make_searched.new.state c.compact_if_due.new.cache c.put_entries.new.self c.in_ok-compact_if_due.ensures.rows c.in_ok-compact_if_due.ensures.left kept
    (c.put_entries.ensures ∙ restored s.book c.make_searched.new.state.book c.in_ok-before.before.items kept.rules (c.in_ok-before.ensures.items ∙ c.entries.ensures.items))

pub returns-in-Err-clause-refused : goal.returns-in-Err-clause-refused
returns-in-Err-clause-refused c = let a = c.args in IfErr-at_err (IsEntryCause (made_of a.state.now.book a.change) a.change.cell a.budget) c.in-Err.is c.make_searched.ensures.refused
