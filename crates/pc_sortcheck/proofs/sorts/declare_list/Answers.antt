use Rattle.pc_sortcheck.proofs.DeclaredSorts.{list_formed, list_declared}
use Rattle.pc_sortcheck.proofs.sorts.declare_list.Goals as goal

pub add_list-requires : goal.add_list-requires
add_list-requires c = list_formed c.args.book.now c.args.name.now c.args.values.now c.in_ok-name.name c.in_ok-values.values.items c.in_ok-name.ensures.cases c.in_ok-values.ensures c.keeps_form.ensures c.requires c.is_name.ensures c.are_names.ensures c.in_ok-test_list.ensures

pub returns : goal.returns
returns c =
    let formed = list_formed c.args.book.now c.args.name.now c.args.values.now c.in_ok-name.name c.in_ok-values.values.items c.in_ok-name.ensures.cases c.in_ok-values.ensures c.keeps_form.ensures c.requires c.is_name.ensures c.are_names.ensures c.in_ok-test_list.ensures in
    list_declared c.args.book.now c.args.name.now c.args.values.now c.add_list.new.self c.in_ok-name.name c.in_ok-values.values.items c.in_ok-name.ensures.cases c.in_ok-values.ensures c.in_ok-add_list.ensures.ok formed
