-- Texts of journals, and texts with their first line at fault.
use Rattle.std.specs.Prelude.{◌≡◌, ℕ, List, [], ◌∷◌, codes, Ok, Err}
use Rattle.pc_collab.specs.Journal.{Post}
use Rattle.pc_collab.specs.Reading.{IsTextOf, LineFault, bad_line, gap, out_of_order, IsFirstFaultOfJournal, ReadGives}
use Rattle.pc_collab.specs.declared.reading.JournalFault.TheVariants.{Gap, OutOfOrder}
use Rattle.pc_worked_laws.specs.Merges.{post, together}

abbrev pub three_lines : List ℕ
three_lines = codes "post 1 1 1 : a\npost 2 1 2 : b\npost 1 2 3 : c\n"

pub record WorkedTexts : Type 0 where
  pub nothing : IsTextOf [] []
  pub three : IsTextOf three_lines together
  pub alone : (posts : List Post) → IsTextOf three_lines posts → posts ≡ together
  pub no_fault : (line : ℕ) (fault : LineFault) → ¬ IsFirstFaultOfJournal three_lines line fault
  -- where a post's text is empty its line ends in a blank
  pub blank : IsTextOf (codes "post 1 1 1 : \n") (post 1 1 1 [] ∷ [])

-- a gap, out of order as well
abbrev pub gap_and_older : List ℕ
gap_and_older = codes "post 1 1 2 : a\npost 1 3 1 : b\n"

pub record WorkedFaults : Type 0 where
  -- the last line has no line feed
  pub unended : IsFirstFaultOfJournal (codes "post 1 1 1 : a") 1 bad_line
  pub unended_later : IsFirstFaultOfJournal (codes "post 1 1 1 : a\npost 2 1 2 : b") 2 bad_line
  -- of two lines at fault the first one, whatever the faults are
  pub first_of_two : IsFirstFaultOfJournal (codes "past 1 1 1 : a\npost 1 3 2 : b\n") 1 bad_line
  -- the number 1 is missing, and 2; or there is one twice
  pub begins_late : IsFirstFaultOfJournal (codes "post 1 2 1 : a\n") 1 gap
  pub leaves_out : IsFirstFaultOfJournal (codes "post 1 1 1 : a\npost 1 3 2 : b\n") 2 gap
  pub again : IsFirstFaultOfJournal (codes "post 1 1 1 : a\npost 1 1 2 : b\n") 2 gap
  -- an older post, and one that is as old and of the same author
  pub older : IsFirstFaultOfJournal (codes "post 1 1 2 : a\npost 2 1 1 : b\n") 2 out_of_order
  pub as_old : IsFirstFaultOfJournal (codes "post 1 1 1 : a\npost 1 2 1 : b\n") 2 out_of_order
  -- a gap comes before the order
  pub gap_first : IsFirstFaultOfJournal gap_and_older 2 gap
  pub not_order : ¬ IsFirstFaultOfJournal gap_and_older 2 out_of_order
  pub told : ReadGives gap_and_older (Err (Gap 2))
  pub not_told : ¬ ReadGives gap_and_older (Err (OutOfOrder 2))
  pub no_journal : (posts : List Post) → ¬ ReadGives gap_and_older (Ok posts)
