-- What is printed of maximal sets: the listing for `repairs`, and the certificates for `prove repairs` and `whynot`.
use Rattle.std.specs.Prelude.{◌≡◌, ◌↔◌, ℕ, List, [], codes, Contains}
use Rattle.std.specs.List.{AllZip}
use Rattle.pc_sheet.specs.Sheet.{Sheet}
use Rattle.pc_sheet.specs.Entailment.{IsImplied}
use Rattle.pc_sheet.specs.MaximalSets.{ListsExactly, IsMaximalSet}
use Rattle.pc_sheet.specs.declared.ids.Entry.{Entry}
use Rattle.pc_sheet.specs.declared.ids.Target.{Target}
use Rattle.pc_parts.specs.Parts.{Part, AreParts}
use Rattle.pc_parts.specs.Unions.{parts_with_entries, IsUnion}
use Rattle.pc_accept.specs.Accepts.{Claim, unimplied}
use Rattle.pc_writer.specs.SheetText.{ended}
use Rattle.pc_repairs.specs.Listed.{ListedPart, IsListedPart, listing_text}
use Rattle.pc_judge.specs.AcceptedText.{IsAcceptedText}
use Rattle.pc_theorem.specs.Certificates.{Claims}

-- LISTED. Of each part that has entries, cells that chains of rules' pieces tie together, the maximal sets, in their order. The maximal sets of
-- the sheet are exactly the unions of one listed set of each listed part.
pub record IsTheListing (sheet : Sheet) (text : List ℕ) : Type 0 where
  pub parts : List Part
  pub are : AreParts sheet parts
  pub listing : List ListedPart
  pub each : AllZip (IsListedPart sheet) (parts_with_entries sheet parts) listing
  pub told : text ≡ listing_text sheet.universe listing
  pub unions : (s : List Entry) → IsMaximalSet sheet s ↔ ((choices : List (List Entry)) × AllZip (λ part own. Contains part.sets own) listing choices × IsUnion sheet.entries choices s)

-- a certificate that claims this of the maximal sets, which are all that there are, and that `check` accepts for this sheet
pub record ProvesBySets (sheet : Sheet) (claim : Claim) (text : List ℕ) : Type 0 where
  pub sets : List (List Entry)
  pub exact : ListsExactly (List Entry) (IsMaximalSet sheet) sets
  pub claims : Claims sheet text claim [] sets
  pub accepted : IsAcceptedText sheet text

-- `implied`, where some consistent entries entail the target; or a certificate that none do
pub data Doubts (sheet : Sheet) (t : Target) (text : List ℕ) : Type 0 where
  is_implied : IsImplied sheet t → text ≡ ended (codes "implied") → Doubts sheet t text
  by_sets : ¬ IsImplied sheet t → ProvesBySets sheet (unimplied t) text → Doubts sheet t text
