-- The text of a sheet: which of its lines may stand where, and what it is read as. Its lines are what `lines` gives: each ends at
-- LF or at the text's end, and one CR before the LF is dropped.
use Rattle.std.specs.Prelude.{◌≡◌, ℕ, ◌+◌, Bool, true, false, ◌==◌, ◌&&◌, ◌||◌, not, List, [], ◌∷◌, ◌++◌, length, if◌then◌else◌}
use Rattle.std.specs.List.{list_any}
use Rattle.std.specs.Str.Lines.{lines}
use Rattle.pc_formula.specs.Counted.{has_count}
use Rattle.pc_syntax.specs.Fault.{Fault, syntax, wrong_version, IsAtFault}
use Rattle.pc_syntax.specs.Tree.{Declared, rule, enter, also}
use Rattle.pc_syntax.specs.Line.{LineForm, nothing, heading, declares, begins, IsLine, HasForm}

-- ---- which lines may stand where

abbrev pub is_heading : LineForm → Bool
is_heading (heading n) = true
is_heading f = false

abbrev pub is_begin : LineForm → Bool
is_begin begins = true
is_begin f = false

-- a `rule` line
abbrev pub is_rule : Declared → Bool
is_rule (rule n f) = true
is_rule d = false

abbrev pub is_rule_line : LineForm → Bool
is_rule_line (declares d) = is_rule d
is_rule_line f = false

-- a `sort`, `table`, `row` or `cell` line
abbrev pub is_of_universe : Declared → Bool
is_of_universe (rule n f) = false
is_of_universe (enter c v) = false
is_of_universe (also c v) = false
is_of_universe d = true

-- a line of `sheet 2` alone: an `also` line, or a rule with a counting quantifier
abbrev pub is_of_second : Declared → Bool
is_of_second (also c v) = true
is_of_second (rule n f) = has_count f
is_of_second d = false

-- the versions of sheets
abbrev pub is_version : ℕ → Bool
is_version n = (n == 1) || (n == 2)

-- the line `sheet 2`
abbrev pub is_second : LineForm → Bool
is_second (heading n) = n == 2
is_second f = false

-- behind lines of these forms the sheet has begun and not ended
abbrev pub is_open : List LineForm → Bool
is_open before = list_any is_heading before && not (list_any is_begin before)

-- A line of the form may stand behind lines of these forms: first `sheet 1` or `sheet 2`, then declarations, the universe
-- before the first rule and the lines of a `sheet 2` there alone, then `begin`; and blank lines and comments anywhere.
abbrev pub may_stand : List LineForm → LineForm → Bool
may_stand before nothing = true
may_stand before (heading n) = not (list_any is_heading before) && is_version n
may_stand before (declares d) = is_open before && ((not (is_of_universe d) || not (list_any is_rule_line before)) && (not (is_of_second d) || list_any is_second before))
may_stand before begins = is_open before

-- what is at fault where a line of the form may not stand: its version, where its place is that of the heading
abbrev pub misplacement : List LineForm → LineForm → Fault
misplacement before (heading n) = if list_any is_heading before then syntax else wrong_version
misplacement before f = syntax

-- each line has its form and may stand behind those before it
abbrev pub AreStanding : List LineForm → List (List ℕ) → List LineForm → Type 0
AreStanding before [] [] = Unit {0}
AreStanding before (l ∷ ls) (f ∷ fs) = IsLine l f × (may_stand before f ≡ true) × AreStanding (before ++ f ∷ []) ls fs
AreStanding before ls fs = ⊥

-- the first fault of the line behind lines of these forms: its own, or that it may not stand there
pub data IsAtFaultBehind (before : List LineForm) (line : List ℕ) : Fault → Type 0 where
  by_itself : {e : Fault} → IsAtFault line (HasForm line) e → IsAtFaultBehind before line e
  by_place : (f : LineForm) → IsLine line f → may_stand before f ≡ false → IsAtFaultBehind before line (misplacement before f)

-- ---- what a text is read as

-- what the lines declare, each declaration with its line's number, the first line having this one
abbrev pub declared_from : ℕ → List LineForm → List (ℕ × Declared)
declared_from n [] = []
declared_from n (declares d ∷ fs) = (n, d) ∷ declared_from (n + 1) fs
declared_from n (f ∷ fs) = declared_from (n + 1) fs

-- what a text is: a sheet that declares this, line by line; a text whose first line at fault has this number and this
-- fault; or one that lacks its `begin`
pub data SheetReading : Type 0 where
  sheet : List (ℕ × Declared) → SheetReading
  fault_at : ℕ → Fault → SheetReading
  no_begin : SheetReading

-- the text is read so
pub data IsSheetReading (text : List ℕ) : SheetReading → Type 0 where
  whole : (forms : List LineForm) → AreStanding [] (lines text) forms → list_any is_begin forms ≡ true → IsSheetReading text (sheet (declared_from 1 forms))
  endless : (forms : List LineForm) → AreStanding [] (lines text) forms → list_any is_begin forms ≡ false → IsSheetReading text no_begin
  faulty : (before : List (List ℕ)) (forms : List LineForm) (line : List ℕ) (after : List (List ℕ)) {e : Fault} → lines text ≡ before ++ line ∷ after → AreStanding [] before forms → IsAtFaultBehind forms line e → IsSheetReading text (fault_at (length before + 1) e)

-- the text is a sheet that declares this, line by line
abbrev pub IsSheet : List ℕ → List (ℕ × Declared) → Type 0
IsSheet text ds = IsSheetReading text (sheet ds)

-- no `sort`, `table`, `row` or `cell` line is among the declarations
abbrev pub HasNoUniverse : List (ℕ × Declared) → Type 0
HasNoUniverse [] = Unit {0}
HasNoUniverse (d ∷ ds) = (is_of_universe d.1 ≡ false) × HasNoUniverse ds

-- none of these follows a `rule` line
abbrev pub HasUniverseFirst : List (ℕ × Declared) → Type 0
HasUniverseFirst [] = Unit {0}
HasUniverseFirst (d ∷ ds) = (is_rule d.1 ≡ true → HasNoUniverse ds) × HasUniverseFirst ds
