-- Displays of a cell with two views of which the newer alone clashes.
use Rattle.std.specs.Prelude.{◌≡◌, [], ◌∷◌, codes}
use Rattle.pc_display.specs.Supports.{Reasoning}
use Rattle.pc_display.specs.Show.{show_text}
use Rattle.pc_display.specs.Grid.{grid_text}
use Rattle.pc_display.specs.Json.{json_text}
use Rattle.pc_display.specs.Examples.{has, lacks, entry, colored, listed_reasons, lines, green_and_red}

-- where the rules want the first cell green, the view that it is red clashes, and the older one doesn't
abbrev pub rules_want_green : Reasoning
rules_want_green = listed_reasons ((has 0 1, []) ∷ (lacks 0 0, []) ∷ (has 1 0, entry 1 0 ∷ []) ∷ [])

pub record WorkedNewerViews : Type 0 where
  pub shown : show_text green_and_red rules_want_green
      ≡ lines (
      codes "a : green, red !" ∷ codes "  = green always" ∷ codes "  ! red against the rules" ∷ codes "b : red" ∷ codes "  = red because b = red" ∷ []
      )
  pub in_table : grid_text green_and_red rules_want_green ≡ lines (codes "a  green, red  !  green" ∷ codes "b  red            red" ∷ [])
  pub in_json : json_text (colored (codes "a" ∷ []) (entry 0 1 ∷ entry 0 0 ∷ [])) rules_want_green
      ≡ codes "[{\"cell\":\"a\",\"conflict\":[null,[]],\"entry\":[\"green\",\"red\"],\"implied\":[{\"because\":[],\"value\":\"green\"}]}]"
