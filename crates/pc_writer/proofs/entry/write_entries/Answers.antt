use Rattle.std.proofs.Common.{◌≡◌, ℕ, ◌<◌, List, length, ◌∙◌, ap, codes, map, slice_get, slice_index_or, Some, arith}
use Rattle.std.specs.Option.{option_map}
use Rattle.std.proofs.lemmas.Option.{slice_get-get_or, slice_get-map}
use Rattle.pc_sheet.specs.Sheet.{Universe}
use Rattle.pc_sheet.specs.declared.ids.Entry.{Entry}
use Rattle.pc_writer.specs.Spelling.{entry_text}
use Rattle.pc_writer.proofs.Joined.{cut_in_separator, cut_in_text, one_more_text}
use Rattle.pc_writer.proofs.entry.write_entries.Goals as goal

text_at : (u : Universe) (es : List Entry) (i : ℕ) (d : Entry) → i < length es → slice_get (map (entry_text u) es) i ≡ Some (entry_text u (slice_index_or es i d))
text_at u es i d below = slice_get-map (entry_text u) es i ∙ ap (option_map (entry_text u)) (slice_get-get_or es i d below)

pub returns-in_err-write_separator : goal.returns-in_err-write_separator
returns-in_err-write_separator g c =
    let u = c.args.book.now.universe in
    let is = text_at u c.args.entries.now c.loop-i.i (record { cell = record { 0 = 0 }; value = record { 0 = 0 } }) (omega arith) in
    cut_in_separator (codes ", ") (map (entry_text u) c.args.entries.now) c.loop-i.i _ is c.loop-i.invariant c.from_residual.result c.from_residual.ensures.0 c.in_err-write_separator.ensures

pub returns-in_err-write_entry : goal.returns-in_err-write_entry
returns-in_err-write_entry g c =
    let u = c.args.book.now.universe in
    let is = text_at u c.args.entries.now c.loop-i.i (record { cell = record { 0 = 0 }; value = record { 0 = 0 } }) (omega arith) in
    cut_in_text (codes ", ") (map (entry_text u) c.args.entries.now) c.loop-i.i _ is c.loop-i.invariant c.in_ok-write_separator.ensures c.from_residual-in_err-write_entry.result c.from_residual-in_err-write_entry.ensures.0 c.in_err-write_entry.ensures

pub loop-i-preserved : goal.loop-i-preserved
loop-i-preserved g c =
    let u = c.args.book.now.universe in
    let is = text_at u c.args.entries.now c.loop-i.i (record { cell = record { 0 = 0 }; value = record { 0 = 0 } }) (omega arith) in
    one_more_text (codes ", ") (map (entry_text u) c.args.entries.now) c.loop-i.i _ is c.loop-i.invariant c.in_ok-write_separator.ensures c.in_ok-write_entry.ensures
