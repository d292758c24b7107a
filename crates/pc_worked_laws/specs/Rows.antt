-- Worked rows: what a target's row is, what changes make of it, and which targets are still to be searched.
use Rattle.std.specs.Prelude.{◌≡◌, true, false, [], ◌∷◌, Option, None, Some}
use Rattle.pc_sheet.specs.declared.ids.Entry.{Entry}
use Rattle.pc_sheet.specs.declared.ids.Target.{Target}
use Rattle.pc_laws.specs.Examples.{red, entry}
use Rattle.pc_reason.specs.Reasons.{Justification}
use Rattle.pc_cache.specs.Rows.{TargetRow, row_of, row_after, lacks_row, uses_entry, AreDistinct, HaveTargets}
use Rattle.pc_cache.specs.Targets.{target, targets}

abbrev pub a_red : Entry
a_red = entry 0 red

abbrev pub b_red : Entry
b_red = entry 1 red

-- the entry carries to the other cell
abbrev pub from : Entry → Justification
from e = record { support = e ∷ []; shown = e.value ∷ e.value ∷ []; lines = [] }

abbrev pub with_row : Target → Option Justification → TargetRow
with_row t row = record { target = t; row = row }

-- that the first cell has its first value, and that it hasn't
abbrev pub red_here : Target
red_here = target 0 0 true

abbrev pub not_red_here : Target
not_red_here = target 0 0 false

pub record WorkedRows : Type 0 where
  -- what was put last is the row
  pub put_twice : row_after (with_row red_here (Some (from a_red)) ∷ with_row red_here (Some (from b_red)) ∷ []) red_here None ≡ Some (from b_red)
  pub put_and_removed : row_after (with_row red_here (Some (from a_red)) ∷ with_row red_here None ∷ []) red_here (Some (from b_red)) ≡ None
  pub removed_and_put : row_after (with_row red_here None ∷ with_row red_here (Some (from a_red)) ∷ []) red_here (Some (from b_red)) ≡ Some (from a_red)
  -- a change of another target, be it the opposite one, is none of this
  pub another : row_after (with_row not_red_here (Some (from a_red)) ∷ []) red_here (Some (from b_red)) ≡ Some (from b_red)
  pub unchanged : row_after [] red_here (Some (from b_red)) ≡ Some (from b_red)
  pub looked_up : row_of (with_row not_red_here (Some (from b_red)) ∷ with_row red_here (Some (from a_red)) ∷ []) red_here ≡ Some (from a_red)
  pub no_row : row_of (with_row not_red_here (Some (from b_red)) ∷ []) red_here ≡ None
  -- which targets are searched after an entry comes, and after one goes
  pub is_lacking : lacks_row (with_row red_here None ∷ with_row not_red_here (Some (from b_red)) ∷ []) red_here ≡ true
  pub isnt_lacking : lacks_row (with_row red_here (Some (from a_red)) ∷ []) red_here ≡ false
  pub rests_on : uses_entry a_red (with_row red_here (Some (from a_red)) ∷ []) red_here ≡ true
  pub rests_on_another : uses_entry b_red (with_row red_here (Some (from a_red)) ∷ []) red_here ≡ false
  -- two targets for each value of each cell, in order
  pub in_order : targets (2 ∷ 1 ∷ []) ≡ target 0 0 true ∷ target 0 0 false ∷ target 0 1 true ∷ target 0 1 false ∷ target 1 0 true ∷ target 1 0 false ∷ []
  pub twice_isnt_distinct : ¬ AreDistinct (with_row red_here None ∷ with_row red_here None ∷ [])
  pub no_place : ¬ HaveTargets (with_row red_here None ∷ []) (with_row not_red_here None ∷ [])
