-- The canonical text of a book reads as that book.
use Rattle.std.proofs.Common.{◌≡◌, ℕ, ◌+◌, List, [], ◌∷◌, map, ap, refl}
use Rattle.pc_sheet.specs.Sheet.{Sheet}
use Rattle.pc_sheet.specs.WellFormed.{IsWellFormed}
use Rattle.pc_syntax.specs.Tree.{Declared}
use Rattle.pc_writer.specs.SheetText.{sheet_text}
use Rattle.pc_canonical_laws.specs.Declarations.{declarations_of, numbered_declarations, numbered_from}
use Rattle.pc_canonical_laws.specs.ReadBack.{SheetsReadBack}
use Rattle.pc_canonical_laws.specs.Declared.{declared_in}
use Rattle.pc_canonical_laws.proofs.Whole.{sheet_given}
use Rattle.pc_sortcheck.specs.Declaring.{ReadsAs}

-- numbers change nothing of what lines declare
numbered_are : (n : ℕ) (ds : List Declared) → map declared_in (numbered_from n ds) ≡ ds
numbered_are n [] = refl
numbered_are n (d ∷ ds) = ap (λ more. d ∷ more) (numbered_are (n + 1) ds)

pub text_reads_back : SheetsReadBack → (s : Sheet) → IsWellFormed s → ReadsAs (sheet_text s) s
text_reads_back read s formed = record {
  declared = numbered_declarations s;
  is = read s formed;
  gives = sheet_given s formed (numbered_declarations s) (numbered_are 2 (declarations_of s));
}
