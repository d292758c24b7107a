use Rattle.std.proofs.Common.{codes, map, arith, length, ◌≡◌}
use Rattle.std.proofs.lemmas.List.{length-map}
use Rattle.std.proofs.lemmas.Option.{slice_get-get_or}
use Rattle.pc_sheet.specs.Sizes.{size_of}
use Rattle.pc_sheet.specs.declared.ids.SortId.{SortId}
use Rattle.pc_sheet.specs.declared.ids.ValueId.{ValueId}
use Rattle.pc_writer.specs.Spelling.{value_texts}
use Rattle.pc_writer.proofs.CellLemmas.{argument_within, value_texts-at, length-value_texts, within_as_many}
use Rattle.pc_writer.proofs.Joined.{cut_in_separator, cut_in_text, one_more_text, all_texts}
use Rattle.pc_writer.proofs.lines.write_row_values.Goals as goal

pub bounds-row-i : goal.bounds-row-i
bounds-row-i g c =
    let u = c.args.book.now.universe in
    let many : length c.args.row.now ≡ length (map (size_of u) c.args.sorts.now) = within_as_many (map (size_of u) c.args.sorts.now) c.args.row.now c.requires in
    omega (arith, many, length-map c.args.sorts.now (size_of u))

pub write_value-requires : goal.write_value-requires
write_value-requires g c =
    let u = c.args.book.now.universe in
    let many : length c.args.row.now ≡ length (map (size_of u) c.args.sorts.now) = within_as_many (map (size_of u) c.args.sorts.now) c.args.row.now c.requires in
    let first : SortId = record { 0 = 0 } in
    let least : ValueId = record { 0 = 0 } in
    argument_within u c.args.sorts.now c.args.row.now c.loop-i.i _ _ c.requires (slice_get-get_or c.args.sorts.now c.loop-i.i first (omega arith)) (slice_get-get_or c.args.row.now c.loop-i.i least (omega (arith, many, length-map c.args.sorts.now (size_of u))))

pub returns-in_err-write_separator : goal.returns-in_err-write_separator
returns-in_err-write_separator g c =
    let u = c.args.book.now.universe in
    let many : length c.args.row.now ≡ length (map (size_of u) c.args.sorts.now) = within_as_many (map (size_of u) c.args.sorts.now) c.args.row.now c.requires in
    let first : SortId = record { 0 = 0 } in
    let least : ValueId = record { 0 = 0 } in
    let is = value_texts-at u c.args.sorts.now c.args.row.now c.loop-i.i _ _ (slice_get-get_or c.args.sorts.now c.loop-i.i first (omega arith)) (slice_get-get_or c.args.row.now c.loop-i.i least (omega (arith, many, length-map c.args.sorts.now (size_of u)))) in
    cut_in_separator (codes ", ") (value_texts u c.args.sorts.now c.args.row.now) c.loop-i.i _ is c.loop-i.invariant c.from_residual.result c.from_residual.ensures.0 c.in_err-write_separator.ensures

pub returns-in_err-write_value : goal.returns-in_err-write_value
returns-in_err-write_value g c =
    let u = c.args.book.now.universe in
    let many : length c.args.row.now ≡ length (map (size_of u) c.args.sorts.now) = within_as_many (map (size_of u) c.args.sorts.now) c.args.row.now c.requires in
    let first : SortId = record { 0 = 0 } in
    let least : ValueId = record { 0 = 0 } in
    let is = value_texts-at u c.args.sorts.now c.args.row.now c.loop-i.i _ _ (slice_get-get_or c.args.sorts.now c.loop-i.i first (omega arith)) (slice_get-get_or c.args.row.now c.loop-i.i least (omega (arith, many, length-map c.args.sorts.now (size_of u)))) in
    cut_in_text (codes ", ") (value_texts u c.args.sorts.now c.args.row.now) c.loop-i.i _ is c.loop-i.invariant c.in_ok-write_separator.ensures c.from_residual-in_err-write_value.result c.from_residual-in_err-write_value.ensures.0 c.in_err-write_value.ensures

pub loop-i-preserved : goal.loop-i-preserved
loop-i-preserved g c =
    let u = c.args.book.now.universe in
    let many : length c.args.row.now ≡ length (map (size_of u) c.args.sorts.now) = within_as_many (map (size_of u) c.args.sorts.now) c.args.row.now c.requires in
    let first : SortId = record { 0 = 0 } in
    let least : ValueId = record { 0 = 0 } in
    let is = value_texts-at u c.args.sorts.now c.args.row.now c.loop-i.i _ _ (slice_get-get_or c.args.sorts.now c.loop-i.i first (omega arith)) (slice_get-get_or c.args.row.now c.loop-i.i least (omega (arith, many, length-map c.args.sorts.now (size_of u)))) in
    one_more_text (codes ", ") (value_texts u c.args.sorts.now c.args.row.now) c.loop-i.i _ is c.loop-i.invariant c.in_ok-write_separator.ensures c.in_ok-write_value.ensures

pub returns : goal.returns
returns g c =
    let u = c.args.book.now.universe in
    let many : length c.args.row.now ≡ length (map (size_of u) c.args.sorts.now) = within_as_many (map (size_of u) c.args.sorts.now) c.args.row.now c.requires in
    let first : SortId = record { 0 = 0 } in
    let least : ValueId = record { 0 = 0 } in
    all_texts (codes ", ") (value_texts u c.args.sorts.now c.args.row.now) c.loop-i.i (omega (arith, length-value_texts u c.args.sorts.now c.args.row.now)) c.loop-i.invariant
