-- In what a sheet declares, the universe stands before the first rule.
use Rattle.std.proofs.Common.{◌≡◌, ℕ, ◌+◌, Bool, true, false, ◌&&◌, ◌||◌, List, [], ◌∷◌, ◌++◌, refl, ◌∙◌}
use Rattle.std.specs.Prelude.{not}
use Rattle.std.specs.List.{list_any}
use Rattle.std.specs.Str.Lines.{lines}
use Rattle.pc_syntax.specs.Tree.{Declared}
use Rattle.pc_syntax.specs.Line.{LineForm, nothing, heading, declares, begins}
use Rattle.pc_syntax.specs.Sheet.{is_rule, is_rule_line, is_of_universe, is_of_second, is_second, is_open, AreStanding, declared_from, sheet, IsSheetReading, whole, HasNoUniverse, HasUniverseFirst}
use Rattle.pc_syntax.proofs.Parts.{grown}

or_true : (a : Bool) → (a || true) ≡ true
or_true true = refl
or_true false = refl

-- a line of the universe may not stand behind a rule
ruled_out : (o u r s : Bool) → (o && ((not u || not r) && s)) ≡ true → r ≡ true → u ≡ false
ruled_out o false r s may rules = refl
ruled_out true true true s may rules = cc
ruled_out true true false s may rules = cc
ruled_out false true r s may rules = cc

behind_rule : (n : ℕ) (before : List LineForm) (ls : List (List ℕ)) (fs : List LineForm) → list_any is_rule_line before ≡ true → AreStanding before ls fs → HasNoUniverse (declared_from n fs)
behind_rule n before [] [] rules standing = tt
behind_rule n before [] (f ∷ fs) rules standing = absurd standing
behind_rule n before (l ∷ ls) [] rules standing = absurd standing
behind_rule n before (l ∷ ls) (declares d ∷ fs) rules standing =
    (ruled_out (is_open before) (is_of_universe d) (list_any is_rule_line before) (not (is_of_second d) || list_any is_second before) standing.1 rules, behind_rule (n + 1) (before ++ declares d ∷ []) ls fs (grown is_rule_line before (declares d) true (is_rule d) rules refl) standing.2)
behind_rule n before (l ∷ ls) (nothing ∷ fs) rules standing = behind_rule (n + 1) (before ++ nothing ∷ []) ls fs (grown is_rule_line before nothing true false rules refl) standing.2
behind_rule n before (l ∷ ls) (heading v ∷ fs) rules standing = behind_rule (n + 1) (before ++ heading v ∷ []) ls fs (grown is_rule_line before (heading v) true false rules refl) standing.2
behind_rule n before (l ∷ ls) (begins ∷ fs) rules standing = behind_rule (n + 1) (before ++ begins ∷ []) ls fs (grown is_rule_line before begins true false rules refl) standing.2

ordered_lines : (n : ℕ) (before : List LineForm) (ls : List (List ℕ)) (fs : List LineForm) → AreStanding before ls fs → HasUniverseFirst (declared_from n fs)
ordered_lines n before [] [] standing = tt
ordered_lines n before [] (f ∷ fs) standing = absurd standing
ordered_lines n before (l ∷ ls) [] standing = absurd standing
ordered_lines n before (l ∷ ls) (declares d ∷ fs) standing =
    ((λ rule. behind_rule (n + 1) (before ++ declares d ∷ []) ls fs (grown is_rule_line before (declares d) (list_any is_rule_line before) true refl rule ∙ or_true (list_any is_rule_line before)) standing.2), ordered_lines (n + 1) (before ++ declares d ∷ []) ls fs standing.2)
ordered_lines n before (l ∷ ls) (f ∷ fs) standing = ordered_lines (n + 1) (before ++ f ∷ []) ls fs standing.2

pub ordered_sheet : (text : List ℕ) (ds : List (ℕ × Declared)) → IsSheetReading text (sheet ds) → HasUniverseFirst ds
ordered_sheet text ds (whole fs standing begun) = ordered_lines 1 [] (lines text) fs standing
