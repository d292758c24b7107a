use Rattle.std.proofs.Common.{◌+◌, All, take, arith, ap, sym, subst}
use Rattle.pc_sheet.specs.WellFormed.{IsEntryOf}
use Rattle.pc_sheet.specs.declared.ids.Entry.{Entry}
use Rattle.pc_writer.specs.SheetText.{ended, entry_line, entry_lines, lines_text}
use Rattle.pc_writer.proofs.InPieces.{all_pieces, cut_in_piece, one_more_piece}
use Rattle.pc_writer.proofs.InTurn.{Writes-nil, Writes-then, Writes-front, Writes-same}
use Rattle.pc_writer.proofs.LaterEntries.{AreNoted, within_cells, none_noted, noted_more, line_told, length-each_behind}
use Rattle.pc_writer.proofs.sheet.write_entry_lines.Goals as goal

abbrev none : Entry
none = record { cell = record { 0 = 0 }; value = record { 0 = 0 } }

pub loop-entry-init : goal.loop-entry-init
loop-entry-init g c = (none_noted, Writes-nil g.O.Sink.given g.O.Sink.faults c.args.out.now tt)

pub note-later-requires : goal.note-later-requires
note-later-requires g c =
    let u = c.args.book.now.universe in
    let es = c.entries-entry-items.result.now in
    let each = subst (All (IsEntryOf u)) (sym c.entries-entry-items.ensures.items) c.requires.entries.each in
    within_cells u c.requires.universe es each c.loop-entry.entry-index none c.loop-entry-test.true

pub loop-entry-preserved : goal.loop-entry-preserved
loop-entry-preserved g c =
    let u = c.args.book.now.universe in
    let es = c.entries-entry-items.result.now in
    let i = c.loop-entry.entry-index in
    let below = c.loop-entry-test.true in
    let each = subst (All (IsEntryOf u)) (sym c.entries-entry-items.ensures.items) c.requires.entries.each in
    let within = within_cells u c.requires.universe es each i none below in
    let more = noted_more es i none below c.loop-entry.noted c.loop-entry.invariant.0 within in
    let is = line_told es i none below c.loop-entry.noted c.loop-entry.invariant.0 within u c.note-later.result c.note-later.ensures.before in (
      subst (λ ns. AreNoted ns (take (i + 1) es)) (sym c.note-later.ensures.after) more,
      one_more_piece ended (entry_lines u es) i _ is c.loop-entry.invariant.1 (Writes-then c.in_ok-write_entry_line.ensures c.in_ok-write_text.ensures),
    )

pub returns-in_err-write_entry_line : goal.returns-in_err-write_entry_line
returns-in_err-write_entry_line g c =
    let u = c.args.book.now.universe in
    let es = c.entries-entry-items.result.now in
    let i = c.loop-entry.entry-index in
    let below = c.loop-entry-test.true in
    let each = subst (All (IsEntryOf u)) (sym c.entries-entry-items.ensures.items) c.requires.entries.each in
    let within = within_cells u c.requires.universe es each i none below in
    let is = line_told es i none below c.loop-entry.noted c.loop-entry.invariant.0 within u c.note-later.result c.note-later.ensures.before in
    Writes-same (ap (λ all. lines_text (entry_lines u all)) c.entries-entry-items.ensures.items)
    (cut_in_piece ended (entry_lines u es) i _ is c.loop-entry.invariant.1 c.from_residual.result c.from_residual.ensures.0 (Writes-front _ c.in_err-write_entry_line.ensures))

pub returns-in_err-write_text : goal.returns-in_err-write_text
returns-in_err-write_text g c =
    let u = c.args.book.now.universe in
    let es = c.entries-entry-items.result.now in
    let i = c.loop-entry.entry-index in
    let below = c.loop-entry-test.true in
    let each = subst (All (IsEntryOf u)) (sym c.entries-entry-items.ensures.items) c.requires.entries.each in
    let within = within_cells u c.requires.universe es each i none below in
    let is = line_told es i none below c.loop-entry.noted c.loop-entry.invariant.0 within u c.note-later.result c.note-later.ensures.before in
    Writes-same (ap (λ all. lines_text (entry_lines u all)) c.entries-entry-items.ensures.items)
    (cut_in_piece ended (entry_lines u es) i _ is c.loop-entry.invariant.1 c.from_residual-in_err-write_text.result c.from_residual-in_err-write_text.ensures.0 (Writes-then c.in_ok-write_entry_line.ensures c.in_err-write_text.ensures))

pub returns : goal.returns
returns g c =
    let u = c.args.book.now.universe in
    let es = c.entries-entry-items.result.now in
    let many = length-each_behind (entry_line u) (take 0 es) es in
    Writes-same (ap (λ all. lines_text (entry_lines u all)) c.entries-entry-items.ensures.items)
    (all_pieces ended (entry_lines u es) c.loop-entry.entry-index (omega (arith, many, c.loop-entry-test.false)) c.loop-entry.invariant.1)
