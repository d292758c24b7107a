-- What the text of a certificate claims, and which entries it uses, by its lines.
use Rattle.std.specs.Prelude.{◌≡◌, ◌↔◌, ℕ, List, [], ◌∷◌, codes, Any, Contains}
use Rattle.std.specs.List.{AllZip}
use Rattle.std.specs.Str.Lines.{lines}
use Rattle.pc_sheet.specs.Sheet.{Sheet}
use Rattle.pc_sheet.specs.declared.ids.Entry.{Entry}
use Rattle.pc_accept.specs.Accepts.{Claim}
use Rattle.pc_cert.specs.Claims.{WrittenPair, WrittenClaim, StartsWithText, SpellsPair, IsClaimForm, IsPairNamed, IsClaimNamed}
use Rattle.pc_cert.specs.Words.{texts_of}

-- the line says `use CELL = VALUE`
abbrev pub IsUseLine : Sheet → List ℕ → Entry → Type 0
IsUseLine sheet line e = (p : WrittenPair) × StartsWithText (texts_of line) (codes "use") × SpellsPair line (codes "use") p × IsPairNamed sheet.universe p e

-- the line says `value CELL = VALUE`
abbrev pub IsValueLine : Sheet → List ℕ → Entry → Type 0
IsValueLine sheet line e = (p : WrittenPair) × StartsWithText (texts_of line) (codes "value") × SpellsPair line (codes "value") p × IsPairNamed sheet.universe p e

-- the text gives these values to cells
abbrev pub Assigns : Sheet → List ℕ → List Entry → Type 0
Assigns sheet text values = (e : Entry) → Contains values e ↔ Any (λ line. IsValueLine sheet line e) (lines text)

-- the line says `claim` and what is claimed
abbrev pub IsClaimLine : Sheet → List ℕ → Claim → Type 0
IsClaimLine sheet line claim = (written : WrittenClaim) × IsClaimForm line (texts_of line) written × IsClaimNamed sheet written claim

-- the line says `set`
abbrev pub IsSetLine : List ℕ → Type 0
IsSetLine line = texts_of line ≡ codes "set" ∷ []

-- lines, parted at those that say `set`: what stands in front of the first, and what stands behind each
pub data ArePartedAtSets : List (List ℕ) → List (List ℕ) → List (List (List ℕ)) → Type 0 where
  none_left : ArePartedAtSets [] [] []
  other_line : {line : List ℕ} {more front : List (List ℕ)} {sets : List (List (List ℕ))} → ¬ IsSetLine line → ArePartedAtSets more front sets → ArePartedAtSets (line ∷ more) (line ∷ front) sets
  set_line : {line : List ℕ} {more front : List (List ℕ)} {sets : List (List (List ℕ))} → IsSetLine line → ArePartedAtSets more front sets → ArePartedAtSets (line ∷ more) [] (front ∷ sets)

-- the entries that the lines use
abbrev pub AreUsedBy : Sheet → List (List ℕ) → List Entry → Type 0
AreUsedBy sheet of_lines uses = (e : Entry) → Contains uses e ↔ Any (λ line. IsUseLine sheet line e) of_lines

-- Some line of the text claims this and none claims anything else. These are the entries that are used in front of the sets, and these, set by
-- set, those that are used in each.
pub record Claims (sheet : Sheet) (text : List ℕ) (claim : Claim) (uses : List Entry) (sets : List (List Entry)) : Type 0 where
  pub claimed : Any (λ line. IsClaimLine sheet line claim) (lines text)
  pub once : (line : List ℕ) (other : Claim) → Contains (lines text) line → IsClaimLine sheet line other → other ≡ claim
  pub front : List (List ℕ)
  pub behind : List (List (List ℕ))
  pub parted : ArePartedAtSets (lines text) front behind
  pub used : AreUsedBy sheet front uses
  pub given : AllZip (AreUsedBy sheet) behind sets
