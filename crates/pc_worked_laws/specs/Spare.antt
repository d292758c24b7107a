-- Which edits of entries change nothing, which entries are spare, and what is left of reasons where entries go.
use Rattle.std.specs.Prelude.{◌≡◌, ◌↔◌, ℕ, List, [], ◌∷◌, None, Some, Contains, true}
use Rattle.pc_sheet.specs.Sheet.{Sheet}
use Rattle.pc_sheet.specs.WellFormed.{is_of_cell, entries_of}
use Rattle.pc_sheet.specs.declared.ids.CellId.{CellId}
use Rattle.pc_sheet.specs.declared.ids.Entry.{Entry}
use Rattle.pc_sheet.specs.declared.ids.Target.{Target}
use Rattle.pc_laws.specs.Examples.{red, green, entry}
use Rattle.pc_log.specs.Lines.{AxiomLine, BlockLine, StepLine}
use Rattle.pc_books.specs.Edits.{is_same_entry, entered, also_entered, without_entry, without_cell}
use Rattle.pc_components.specs.View.{Kept}
use Rattle.pc_reason.specs.Reasons.{Justification}
use Rattle.pc_cache.specs.Rows.{TargetRow}
use Rattle.pc_cache.specs.Targets.{target}
use Rattle.pc_justify_laws.specs.Edits.{takes_none}
use Rattle.pc_session.specs.Arena.{compacted}
use Rattle.pc_session.specs.Views.{Counts, SessionView}
use Rattle.pc_session.specs.Answers.{Steps, Stay, OthersStay, AreUnused, IsUnchanged, AreSpare, StandsAlone, HasPlaceFor}
use Rattle.pc_worked_laws.specs.Rows.{a_red, b_red, from, with_row, red_here, not_red_here}
use Rattle.pc_worked_laws.specs.Several.{blue, cell_of, views, with_views, first_views}

-- ---- of any sheet

-- what is entered alone changes nothing exactly where it stands alone
abbrev pub EnteringMayChange : Type 0
EnteringMayChange = (sheet : Sheet) (e : Entry) → StandsAlone sheet.entries e ↔ (entered sheet e ≡ sheet)

-- and what is entered beside the others, exactly where it stands
abbrev pub AddingMayChange : Type 0
AddingMayChange = (sheet : Sheet) (e : Entry) → Contains sheet.entries e ↔ (also_entered sheet e ≡ sheet)

-- taking an entry away changes nothing exactly where it doesn't stand
abbrev pub RemovingMayChange : Type 0
RemovingMayChange = (sheet : Sheet) (e : Entry) → (¬ Contains sheet.entries e) ↔ (without_entry sheet e ≡ sheet)

-- and clearing a cell, exactly where it has no entry
abbrev pub ClearingMayChange : Type 0
ClearingMayChange = (sheet : Sheet) (c : CellId) → (entries_of c sheet.entries ≡ []) ↔ (without_cell sheet c ≡ sheet)

-- ---- where a = b and b = c, a is red, c is red, and a is also green

abbrev pub value_of : ℕ → Entry
value_of n = entry 0 (record { 0 = n })

pub record WorkedPlaces : Type 0 where
  pub alone : StandsAlone views (entry 2 red)
  -- another value of the cell stands too
  pub beside : ¬ StandsAlone views (entry 0 red)
  -- another value stands, or none
  pub another : ¬ StandsAlone views (entry 2 green)
  pub none : ¬ StandsAlone views (entry 1 red)
  -- beside two there is place for a third, beside eight for none
  pub place : HasPlaceFor views (entry 0 blue)
  pub no_place : ¬ HasPlaceFor (first_views 8) (value_of 8)
  -- but for one of the eight
  pub in_its_place : HasPlaceFor (first_views 8) (value_of 7)

pub record WorkedSpare : Type 0 where
  -- c = red is newer than a = red, which is the reason of each red cell
  pub newer : AreSpare with_views (is_same_entry (entry 2 red))
  pub of_its_cell : AreSpare with_views (is_of_cell (cell_of 2))
  pub of_no_entry : AreSpare with_views (is_of_cell (cell_of 1))
  pub nothing : AreSpare with_views takes_none
  pub red_needed : ¬ AreSpare with_views (is_same_entry (entry 0 red))
  pub green_needed : ¬ AreSpare with_views (is_same_entry (entry 0 green))
  pub cell_needed : ¬ AreSpare with_views (is_of_cell (cell_of 0))

-- ---- reasons

-- by an axiom, a block and two steps
abbrev pub by_steps : Justification
by_steps = record { support = a_red ∷ []; shown = red ∷ red ∷ []; lines = AxiomLine 0 ∷ BlockLine 0 [] ∷ StepLine [] [] true ∷ StepLine [] [] true ∷ [] }

-- so many clauses were learned by so many calls
abbrev pub spent : ℕ → ℕ → Counts
spent learned calls = record { placed = 0; learned = learned; calls = calls; limit = 0 }

pub record WorkedReasons : Type 0 where
  -- a reason that rests on what is gone may go, and no other
  pub may_go : Stay (is_same_entry a_red) (with_row red_here (Some (from a_red)) ∷ []) (with_row red_here None ∷ [])
  pub must_stay : ¬ Stay takes_none (with_row red_here (Some (from a_red)) ∷ []) (with_row red_here None ∷ [])
  pub must_stay_of_another : ¬ Stay (is_same_entry b_red) (with_row red_here (Some (from a_red)) ∷ []) (with_row red_here None ∷ [])
  -- nor change
  pub must_be_the_same : ¬ Stay takes_none (with_row red_here (Some (from a_red)) ∷ []) (with_row red_here (Some (from b_red)) ∷ [])
  pub new_ones_come : Stay takes_none (with_row red_here None ∷ []) (with_row red_here (Some (from a_red)) ∷ [])
  pub unused : AreUnused (is_same_entry a_red) (with_row red_here (Some (from b_red)) ∷ with_row not_red_here None ∷ [])
  pub used : ¬ AreUnused (is_same_entry a_red) (with_row not_red_here (Some (from b_red)) ∷ with_row red_here (Some (from a_red)) ∷ [])
  -- two steps of a new reason want a learned clause and a call, and of one that stood nothing
  pub two_steps : Steps [] (with_row red_here (Some by_steps) ∷ []) (spent 1 1)
  pub one_spent : ¬ Steps [] (with_row red_here (Some by_steps) ∷ []) (spent 1 0)
  pub stood_before : Steps (with_row red_here (Some by_steps) ∷ []) (with_row red_here (Some by_steps) ∷ []) (spent 0 0)
  -- derivations of a megabyte that no reason needs stay, and of a byte more go
  pub kept : compacted [] 1048576 ≡ 1048576
  pub dropped : compacted [] 1048577 ≡ 0

-- ---- sessions

-- the first two cells are a part, and the third is one
abbrev pub two_parts : Kept
two_parts = record { cells = (cell_of 0 ∷ cell_of 1 ∷ []) ∷ (cell_of 2 ∷ []) ∷ []; axioms = []; variables = []; numbers = []; banned = [] }

-- that the second cell, and that the third, has its first value
abbrev pub second_red : Target
second_red = target 1 0 true

abbrev pub third_red : Target
third_red = target 2 0 true

-- with these rows, and derivations of so many bytes, of which no reason needs so many
abbrev pub seen : ℕ → List TargetRow → ℕ → ℕ → SessionView
seen budget rows bytes spare = record { sheet = with_views; budget = budget; tally = spent 0 0; components = two_parts; rows = rows; bytes = bytes; spare = spare }

pub record WorkedSessions : Type 0 where
  -- an edit of the first cell may take what is kept of the second one, which is of its part, and nothing of the third
  pub own_part : OthersStay (cell_of 0) two_parts (with_row second_red (Some (from a_red)) ∷ with_row third_red (Some (from b_red)) ∷ []) (with_row third_red (Some (from b_red)) ∷ [])
  pub other_part : ¬ OthersStay (cell_of 0) two_parts (with_row third_red (Some (from b_red)) ∷ []) []
  -- nor give it one
  pub other_part_gains : ¬ OthersStay (cell_of 0) two_parts [] (with_row third_red (Some (from b_red)) ∷ [])
  -- a refused edit leaves all as it was, but that derivations that no reason needs are dropped, all of them, where there are many
  pub as_it_was : IsUnchanged (seen 5 [] 7 7) (seen 5 [] 7 7)
  pub many_dropped : IsUnchanged (seen 5 [] 1048577 1048577) (seen 5 [] 0 0)
  pub few_dropped : ¬ IsUnchanged (seen 5 [] 1048576 1048576) (seen 5 [] 0 0)
  pub some_added : ¬ IsUnchanged (seen 5 [] 1048577 1048577) (seen 5 [] 1 0)
  pub needed_dropped : ¬ IsUnchanged (seen 5 [] 1048577 1048576) (seen 5 [] 0 0)
  pub some_left : ¬ IsUnchanged (seen 5 [] 1048578 1048578) (seen 5 [] 1 1)
  pub row_dropped : ¬ IsUnchanged (seen 5 (with_row red_here (Some (from a_red)) ∷ []) 0 0) (seen 5 [] 0 0)
  pub other_budget : ¬ IsUnchanged (seen 5 [] 0 0) (seen 6 [] 0 0)
