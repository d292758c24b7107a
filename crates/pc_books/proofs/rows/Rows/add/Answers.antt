use Rattle.std.proofs.Common.{◌∙◌, sym, subst}
use Rattle.pc_sheet.specs.WellFormed.{AreDifferent}
use Rattle.pc_books.proofs.RowLemmas.{value_decides, stands, inserted, different_push, new_row}
use Rattle.pc_books.proofs.rows.Rows.add.Goals as goal

pub returns-then-contains-clause-ok : goal.returns-then-contains-clause-ok
returns-then-contains-clause-ok c = stands c.args.self.now c.args.row.now c.contains.result c.contains.ensures c.if-contains.true

pub invariant_of-self-2 : goal.invariant_of-self-2
invariant_of-self-2 c =
    let absent = sym c.contains.ensures ∙ c.if-contains.false in
    let rows = inserted _ value_decides c.self.inside.rows.keys c.insert.new.self.keys c.in_ok-row.row c.args.self.now c.args.row.now c.in_ok-insert.ensures.keys c.in_ok-row.ensures.items c.self.view_is absent in
    subst AreDifferent (sym rows) (different_push c.args.self.now c.args.row.now (subst AreDifferent c.self.view_is c.self.invariant) absent)

pub returns-clause-ok : goal.returns-clause-ok
returns-clause-ok c =
    let absent = sym c.contains.ensures ∙ c.if-contains.false in
    let rows = inserted _ value_decides c.self.inside.rows.keys c.insert.new.self.keys c.in_ok-row.row c.args.self.now c.args.row.now c.in_ok-insert.ensures.keys c.in_ok-row.ensures.items c.self.view_is absent in
    rows ∙ new_row c.args.self.now c.args.row.now absent
