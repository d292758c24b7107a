-- The parts of a sheet, and which lines may stand in each.
use Rattle.std.specs.Prelude.{◌≡◌, ℕ, Bool, true, false, ◌==◌, ◌&&◌, not, Option, Some, None, List, [], ◌∷◌, ◌++◌, map, if◌then◌else◌}
use Rattle.std.specs.List.{list_any}
use Rattle.pc_syntax.specs.declared.sheet.Part.{Part}
use Rattle.pc_syntax.specs.declared.sheet.Part.TheVariants.{Heading, Universe, Rules, End}
use Rattle.pc_syntax.specs.declared.sheet.Version.{Version}
use Rattle.pc_syntax.specs.declared.sheet.Version.TheVariants.{First, Second}
use Rattle.pc_syntax.specs.declared.tree.Declaration.{Declaration}
use Rattle.pc_syntax.specs.Tree.{Declared, declared_of}
use Rattle.pc_syntax.specs.Fault.{Fault, syntax, wrong_version, IsAtFault}
use Rattle.pc_syntax.specs.Line.{LineForm, nothing, heading, declares, begins, IsLine, HasForm}
use Rattle.pc_syntax.specs.Sheet.{is_heading, is_begin, is_rule, is_rule_line, is_of_universe, is_of_second, is_second, declared_from}

abbrev pub is_second_version : Version → Bool
is_second_version First = false
is_second_version Second = true

-- the part behind lines of these forms
abbrev pub IsPartBehind : Part → List LineForm → Type 0
IsPartBehind Heading fs = (list_any is_heading fs ≡ false) × (list_any is_begin fs ≡ false) × (list_any is_rule_line fs ≡ false) × (list_any is_second fs ≡ false)
IsPartBehind (Universe v) fs = (list_any is_heading fs ≡ true) × (list_any is_begin fs ≡ false) × (list_any is_rule_line fs ≡ false) × (list_any is_second fs ≡ is_second_version v)
IsPartBehind (Rules v) fs = (list_any is_heading fs ≡ true) × (list_any is_begin fs ≡ false) × (list_any is_rule_line fs ≡ true) × (list_any is_second fs ≡ is_second_version v)
IsPartBehind End fs = (list_any is_heading fs ≡ true) × (list_any is_begin fs ≡ true)

-- a line of `sheet 2` alone in a `sheet 1`
abbrev pub is_too_new : Version → Declared → Bool
is_too_new v d = is_of_second d && not (is_second_version v)

-- the part behind a declaration: once a rule stood, no more of the universe follows
abbrev pub part_after : Part → Declared → Option Part
part_after (Universe v) d = if is_too_new v d then None else (if is_rule d then Some (Rules v) else Some (Universe v))
part_after (Rules v) d = if is_too_new v d then None else (if is_of_universe d then None else Some (Rules v))
part_after p d = None

-- the part behind a line, where the line may stand
abbrev pub next_part : Part → LineForm → Option Part
next_part p nothing = Some p
next_part Heading (heading n) = if n == 1 then Some (Universe First) else (if n == 2 then Some (Universe Second) else None)
next_part p (heading n) = None
next_part (Universe v) begins = Some End
next_part (Rules v) begins = Some End
next_part p begins = None
next_part p (declares d) = part_after p d

-- what is at fault where a line may not stand in the part
abbrev pub misplaced : Part → LineForm → Fault
misplaced Heading (heading n) = wrong_version
misplaced p f = syntax

-- the first fault of the line in the part
pub data IsAtFaultIn (part : Part) (line : List ℕ) : Fault → Type 0 where
  by_itself : {e : Fault} → IsAtFault line (HasForm line) e → IsAtFaultIn part line e
  by_place : (f : LineForm) → IsLine line f → next_part part f ≡ None → IsAtFaultIn part line (misplaced part f)

-- what declarations stand for, each with its line's number
abbrev pub declared : List (ℕ × Declaration) → List (ℕ × Declared)
declared items = map (λ p. (p.0, declared_of p.1)) items

-- the line may stand in the part, and leads to the next one and to these declarations
pub record Takes (part : Part) (number : ℕ) (line : List ℕ) (next : Part) (old new : List (ℕ × Declared)) : Type 0 where
  pub form : LineForm
  pub is : IsLine line form
  pub goes : next_part part form ≡ Some next
  pub adds : new ≡ old ++ declared_from number (form ∷ [])
