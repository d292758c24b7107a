-- What an edit takes away, as a test of entries.
use Rattle.std.specs.Prelude.{Bool}
use Rattle.pc_sheet.specs.WellFormed.{is_of_cell}
use Rattle.pc_sheet.specs.declared.ids.Entry.{Entry}
use Rattle.pc_books.specs.Edits.{is_rival, is_same_entry}
use Rattle.pc_justify_laws.specs.Edits.{takes_none}
use Rattle.pc_session.specs.declared.taken.Taken.{Taken}
use Rattle.pc_session.specs.declared.taken.Taken.TheVariants as taken

abbrev pub takes : Taken → Entry → Bool
takes taken.Nothing = takes_none
takes (taken.Rivals e) = is_rival e
takes (taken.One e) = is_same_entry e
takes (taken.Cell c) = is_of_cell c
