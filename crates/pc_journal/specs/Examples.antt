-- Worked examples of what is told of journals.
use Rattle.std.specs.Prelude.{◌≡◌, codes}
use Rattle.pc_collab.specs.Reading.{bad_line, gap, out_of_order}
use Rattle.pc_journal.specs.Told.{from_file, from_input, refused_text, differ_text}

pub record LinesAreWorked : Type 0 where
  pub bad : refused_text from_file bad_line 3 ≡ codes "journal refused 22 bad-line file line 3\n"
  pub gap_at_first : refused_text from_input gap 1 ≡ codes "journal refused 23 gap input line 1\n"
  pub early : refused_text from_input out_of_order 2 ≡ codes "journal refused 24 out-of-order input line 2\n"
  pub differ : differ_text 1 1 ≡ codes "journal refused 25 differ author 1 number 1\n"
