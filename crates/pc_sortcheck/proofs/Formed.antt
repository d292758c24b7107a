-- What declarations give is well formed.
use Rattle.std.proofs.Common.{ℕ, List, [], ◌∷◌, sym, subst}
use Rattle.pc_syntax.specs.Tree as tree
use Rattle.pc_sheet.specs.Sheet.{Sheet, empty_sheet}
use Rattle.pc_sheet.specs.WellFormed.{IsWellFormed}
use Rattle.pc_sortcheck.specs.Declaring.{DeclareAll}
use Rattle.pc_sortcheck.specs.Laws.{SheetsAreWellFormed}
use Rattle.pc_sortcheck.proofs.SheetOutcomes.{empty_formed}

declared_formed : (ds : List (ℕ × tree.Declared)) (old new : Sheet) → IsWellFormed old → DeclareAll old ds new → IsWellFormed new
declared_formed [] old new formed is = subst IsWellFormed (sym is) formed
declared_formed (d ∷ ds) old new formed all = declared_formed ds all.0 new all.1.1 all.2

pub sheets_formed : SheetsAreWellFormed
sheets_formed text sheet reads = declared_formed reads.declared empty_sheet sheet empty_formed reads.gives
