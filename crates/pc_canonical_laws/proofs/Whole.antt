-- The canonical declarations of a book give it.
use Rattle.std.proofs.Common.{◌≡◌, ℕ, List, map, ◌++◌}
use Rattle.pc_sheet.specs.Sheet.{Sheet, empty_sheet}
use Rattle.pc_sheet.specs.WellFormed.{IsWellFormed}
use Rattle.pc_syntax.specs.Tree.{Declared}
use Rattle.pc_sortcheck.specs.Declaring.{IsSheetOf}
use Rattle.pc_canonical_laws.specs.Declarations.{universe_declarations, rule_declaration, entry_declarations, declarations_of}
use Rattle.pc_canonical_laws.specs.Declared.{declared_in, universe_alone, without_entries}
use Rattle.pc_canonical_laws.proofs.Chain.{DeclareEach, numbered_alike, one_after_another}
use Rattle.pc_canonical_laws.proofs.Entries.{entries_declared}
use Rattle.pc_canonical_laws.proofs.Rules.{rules_declared}
use Rattle.pc_canonical_laws.proofs.Universes.{universe_declared}

whole_declared : (s : Sheet) → IsWellFormed s → DeclareEach empty_sheet (declarations_of s) s
whole_declared s formed =
    let u = s.universe in
    let rules = map (rule_declaration u) s.rules in
    let entries = entry_declarations u s.entries in
    one_after_another empty_sheet (universe_alone u) s (universe_declarations u) (rules ++ entries) (universe_declared u formed.universe)
    (one_after_another (universe_alone u) (without_entries s) s rules entries (rules_declared u s.rules formed.universe formed.rules)
    (entries_declared u s.rules s.entries formed.universe formed.rules formed.entries))

pub sheet_given : (s : Sheet) → IsWellFormed s → (ds : List (ℕ × Declared)) → map declared_in ds ≡ declarations_of s → IsSheetOf ds s
sheet_given s formed ds are = numbered_alike empty_sheet s (declarations_of s) ds are (whole_declared s formed)
