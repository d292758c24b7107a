-- What is claimed, and the cells and values of lines: how they are written, and what they stand for in a sheet.
use Rattle.std.specs.Prelude.{◌≡◌, ℕ, Bool, true, List, [], ◌∷◌, codes, slice_get, IsSomeAnd}
use Rattle.pc_token.specs.declared.token.Kind.{Kind}
use Rattle.pc_token.specs.declared.token.Kind.TheVariants.{Equal}
use Rattle.pc_formula.specs.Word.{Word, name}
use Rattle.pc_formula.specs.Tree.{Cell, Value}
use Rattle.pc_formula.specs.Equation.{equality, IsEquation}
use Rattle.pc_sheet.specs.Sheet.{Universe, Sheet}
use Rattle.pc_sheet.specs.declared.ids.Entry.{Entry}
use Rattle.pc_sheet.specs.declared.ids.Target.{Target}
use Rattle.pc_accept.specs.Accepts.{Claim, implied, inconsistent, repairs, unimplied, against}
use Rattle.pc_elaborate.specs.Elaboration.{IsEntryNamed}
use Rattle.pc_cert.specs.Words.{SpellsThis, IsNameText}

-- ---- as written

-- a cell and a value
pub record WrittenPair : Type 0 where
  pub cell : Cell
  pub value : Value

-- what stands behind `claim`
pub data WrittenClaim : Type 0 where
  -- `C = V`, or `C != V`: whether the cell is to have the value
  written_implied : WrittenPair → Bool → WrittenClaim
  -- `inconsistent`
  written_inconsistent : WrittenClaim
  -- `repairs`
  written_repairs : WrittenClaim
  -- `not C = V`
  written_unimplied : WrittenPair → WrittenClaim
  -- `against R`
  written_against : List ℕ → WrittenClaim

-- ---- in which words

-- CELL, the sign, VALUE
abbrev pub IsWholePair : Kind → List Word → WrittenPair → Type 0
IsWholePair k words p = IsEquation words k p.cell p.value

-- the word, and then CELL, the sign, VALUE
pub record IsWordPair (word : List ℕ) (k : Kind) (words : List Word) (p : WrittenPair) : Type 0 where
  pub rest : List Word
  pub are : words ≡ name word ∷ rest
  pub pair : IsWholePair k rest p

-- `claim` with a cell and a value, and whether that is claimed to hold
abbrev pub IsClaim : List Word → WrittenPair × Bool → Type 0
IsClaim words q = IsWordPair (codes "claim") (equality q.1) words q.0

-- `claim`, `not`, CELL `=` VALUE
pub record IsDenial (words : List Word) (p : WrittenPair) : Type 0 where
  pub rest : List Word
  pub are : words ≡ name (codes "claim") ∷ name (codes "not") ∷ rest
  pub pair : IsWholePair Equal rest p

-- the line starts with the word, and says this of a cell and a value
abbrev pub SpellsPair : List ℕ → List ℕ → WrittenPair → Type 0
SpellsPair line word p = SpellsThis (IsWordPair word Equal) line p

-- the first of the texts
pub record StartsWithText (texts : List (List ℕ)) (text : List ℕ) : Type 0 where
  pub more : List (List ℕ)
  pub is : texts ≡ text ∷ more

-- the line, of which these are the texts, claims this
abbrev pub IsClaimForm : List ℕ → List (List ℕ) → WrittenClaim → Type 0
IsClaimForm line texts (written_implied p holds) = StartsWithText texts (codes "claim") × SpellsThis IsClaim line (p, holds)
IsClaimForm line texts written_inconsistent = texts ≡ codes "claim" ∷ codes "inconsistent" ∷ []
IsClaimForm line texts written_repairs = texts ≡ codes "claim" ∷ codes "repairs" ∷ []
IsClaimForm line texts (written_unimplied p) = StartsWithText texts (codes "claim") × SpellsThis IsDenial line p
IsClaimForm line texts (written_against n) = (texts ≡ codes "claim" ∷ codes "against" ∷ n ∷ []) × IsNameText n

-- ---- what the names stand for

-- a cell, and a value of its sort
abbrev pub IsPairNamed : Universe → WrittenPair → Entry → Type 0
IsPairNamed u p e = IsEntryNamed u p.cell p.value e

abbrev pub IsRuleNamed : Sheet → List ℕ → ℕ → Type 0
IsRuleNamed sheet n r = IsSomeAnd (slice_get sheet.rules r) (λ rule. rule.name ≡ n)

-- a target on a cell and a value of its sort, and whether it is to have it
abbrev pub IsTargetNamed : Universe → WrittenPair → Bool → Target → Type 0
IsTargetNamed u p holds t = IsPairNamed u p (record { cell = t.cell; value = t.value }) × (t.holds ≡ holds)

abbrev pub IsClaimNamed : Sheet → WrittenClaim → Claim → Type 0
IsClaimNamed sheet (written_implied p holds) (implied t) = IsTargetNamed sheet.universe p holds t
IsClaimNamed sheet written_inconsistent inconsistent = Unit {0}
IsClaimNamed sheet written_repairs repairs = Unit {0}
IsClaimNamed sheet (written_unimplied p) (unimplied t) = IsTargetNamed sheet.universe p true t
IsClaimNamed sheet (written_against n) (against r) = IsRuleNamed sheet n r
IsClaimNamed sheet w c = ⊥
