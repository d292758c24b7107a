use Rattle.pc_sortcheck.proofs.DeclaredTables.{table_formed, table_declared}
use Rattle.pc_sortcheck.proofs.tables.declare_table.Goals as goal

pub add_table-requires : goal.add_table-requires
add_table-requires c = table_formed c.args.book.now c.args.name.now c.args.sorts.now c.in_ok-sorts.sorts.items c.in_ok-sorts.ensures c.in_ok-name.name c.in_ok-name.ensures.cases c.keeps_form.ensures c.requires c.is_name.ensures c.in_ok-test_table.ensures

pub returns : goal.returns
returns c =
    let formed = table_formed c.args.book.now c.args.name.now c.args.sorts.now c.in_ok-sorts.sorts.items c.in_ok-sorts.ensures c.in_ok-name.name c.in_ok-name.ensures.cases c.keeps_form.ensures c.requires c.is_name.ensures c.in_ok-test_table.ensures in
    table_declared c.args.book.now c.args.name.now c.args.sorts.now c.in_ok-sorts.sorts.items c.in_ok-sorts.ensures c.add_table.new.self c.in_ok-name.name c.in_ok-name.ensures.cases c.in_ok-add_table.ensures.ok formed
