use Rattle.std.proofs.Common.{◌∙◌, map, sym, subst, rules}
use Rattle.pc_syntax.specs.Tree.{value_of}
use Rattle.pc_sortcheck.specs.DeclarationFaults.{HasRoomForRow}
use Rattle.pc_sortcheck.specs.inside.Fits.{AreRowOf}
use Rattle.pc_sortcheck.proofs.DeclaredTables.{named_table, row_formed, row_declared, no_room}
use Rattle.pc_sortcheck.proofs.tables.declare_row.Goals as goal

pub returns-then-not-has_room_for_row : goal.returns-then-not-has_room_for_row
returns-then-not-has_room_for_row c =
    let row = subst (AreRowOf c.args.book.now.universe c.in_ok-table.table (map value_of c.args.values.now)) (sym c.deref.ensures.value) c.in_ok-row.ensures in
    no_room c.args.book.now c.args.name.now (map value_of c.args.values.now) c.in_ok-table.table c.in_ok-table.ensures.told c.deref.result.now row (λ k. (let y = c.has_room_for_row.ensures.1 k in search rules))

pub add_row-requires-clause-formed : goal.add_row-requires-clause-formed
add_row-requires-clause-formed c =
    let row = subst (AreRowOf c.args.book.now.universe c.in_ok-table.table (map value_of c.args.values.now)) (sym c.deref-2.ensures.value) c.in_ok-row.ensures in
    let room = subst (HasRoomForRow c.args.book.now.universe c.in_ok-table.table) (c.deref.ensures.value ∙ sym c.deref-2.ensures.value) (c.has_room_for_row.ensures.0 (search rules)) in
    row_formed c.args.book.now c.args.name.now (map value_of c.args.values.now) c.in_ok-table.table c.in_ok-table.ensures.told c.deref-2.result.now c.keeps_form.ensures c.requires row room

pub add_row-requires-clause-table : goal.add_row-requires-clause-table
add_row-requires-clause-table c = named_table c.args.book.now.universe c.args.name.now c.in_ok-table.table c.in_ok-table.ensures.told

pub returns : goal.returns
returns c =
    let row = subst (AreRowOf c.args.book.now.universe c.in_ok-table.table (map value_of c.args.values.now)) (sym c.deref-2.ensures.value) c.in_ok-row.ensures in
    let room = subst (HasRoomForRow c.args.book.now.universe c.in_ok-table.table) (c.deref.ensures.value ∙ sym c.deref-2.ensures.value) (c.has_room_for_row.ensures.0 (search rules)) in
    let formed = row_formed c.args.book.now c.args.name.now (map value_of c.args.values.now) c.in_ok-table.table c.in_ok-table.ensures.told c.deref-2.result.now c.keeps_form.ensures c.requires row room in
    row_declared c.args.book.now c.args.name.now (map value_of c.args.values.now) c.in_ok-table.table c.in_ok-table.ensures.told c.add_row.new.self c.deref-2.result.now row c.in_ok-add_row.ensures.ok formed
