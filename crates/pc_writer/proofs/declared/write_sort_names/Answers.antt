use Rattle.std.proofs.Common.{codes, map, arith}
use Rattle.std.proofs.lemmas.List.{length-map}
use Rattle.pc_writer.specs.FormulaText.{sort_name}
use Rattle.pc_writer.proofs.Names.{viewed}
use Rattle.pc_writer.proofs.Joined.{cut_in_separator, cut_in_text, one_more_text, all_texts}
use Rattle.pc_writer.proofs.declared.write_sort_names.Goals as goal

pub returns-in_err-write_separator : goal.returns-in_err-write_separator
returns-in_err-write_separator g c =
    let u = c.args.book.now.universe in
    let is = viewed (sort_name u) c.args.sorts.now c.loop-i.i (record { 0 = 0 }) (omega arith) in
    cut_in_separator (codes ", ") (map (sort_name u) c.args.sorts.now) c.loop-i.i _ is c.loop-i.invariant c.from_residual.result c.from_residual.ensures.0 c.in_err-write_separator.ensures

pub returns-in_err-write_sort_name : goal.returns-in_err-write_sort_name
returns-in_err-write_sort_name g c =
    let u = c.args.book.now.universe in
    let is = viewed (sort_name u) c.args.sorts.now c.loop-i.i (record { 0 = 0 }) (omega arith) in
    cut_in_text (codes ", ") (map (sort_name u) c.args.sorts.now) c.loop-i.i _ is c.loop-i.invariant c.in_ok-write_separator.ensures c.from_residual-in_err-write_sort_name.result c.from_residual-in_err-write_sort_name.ensures.0 c.in_err-write_sort_name.ensures

pub loop-i-preserved : goal.loop-i-preserved
loop-i-preserved g c =
    let u = c.args.book.now.universe in
    let is = viewed (sort_name u) c.args.sorts.now c.loop-i.i (record { 0 = 0 }) (omega arith) in
    one_more_text (codes ", ") (map (sort_name u) c.args.sorts.now) c.loop-i.i _ is c.loop-i.invariant c.in_ok-write_separator.ensures c.in_ok-write_sort_name.ensures

pub returns : goal.returns
returns g c =
    let u = c.args.book.now.universe in
    all_texts (codes ", ") (map (sort_name u) c.args.sorts.now) c.loop-i.i (omega (arith, length-map c.args.sorts.now (sort_name u))) c.loop-i.invariant
