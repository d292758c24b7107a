use Rattle.std.proofs.Common.{inl, inr, refl, sym, subst, rules}
use Rattle.std.proofs.lemmas.Result.{err_from_is_err_and}
use Rattle.pc_syntax.specs.Tree.{cell_of, value_of}
use Rattle.pc_sortcheck.specs.DeclarationFaults.{IsEntryFault}
use Rattle.pc_sortcheck.proofs.entries.find_further_entry.Goals as goal

pub returns-in_err-entry : goal.returns-in_err-entry
returns-in_err-entry c =
    let p = err_from_is_err_and c.from_residual.result c.from_residual.ensures.1 in
    rw p.1 (inl (subst (IsEntryFault c.args.book.now.universe (cell_of c.args.cell.now) (value_of c.args.value.now)) (sym p.2) c.in_err-entry.ensures))

pub returns-then-not-has_room_for_entry : goal.returns-then-not-has_room_for_entry
returns-then-not-has_room_for_entry c =
    let named = c.in_ok-entry.ensures.0 in
    inr ((c.in_ok-entry.entry, named), (c.in_ok-entry.entry, named, inl ((λ room. let y = c.has_room_for_entry.ensures.1 room in search rules), refl)))
