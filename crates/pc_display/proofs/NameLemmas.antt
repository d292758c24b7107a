-- How wide the names of families are.
use Rattle.std.proofs.Common.{◌≡◌, ℕ, ◌<◌, ◌≤◌, ◌*◌, List, length, Option, None, Some, slice_get, IsSomeAnd, arith, ap, ◌∙◌, subst}
use Rattle.pc_sheet.specs.Sheet.{Family, Universe}
use Rattle.pc_sheet.specs.Cells.{cells}
use Rattle.pc_sheet.specs.Entailment.{cell_sizes}
use Rattle.pc_sheet.specs.WellFormed.{IsWellFormedUniverse}
use Rattle.pc_sheet.specs.declared.ids.CellId.{CellId}
use Rattle.pc_sheet.specs.declared.ids.FamilyId.{FamilyId}
use Rattle.pc_writer.specs.Spelling.{family_of, name_of}
use Rattle.pc_writer.proofs.CellLemmas.{family_is}
use Rattle.pc_display.specs.Grid.{columns}
use Rattle.pc_display.specs.inside.Names.{IsAsWide}
use Rattle.pc_display.proofs.Spelled.{family_is_named}

name_is : (found : Option Family) (text : List ℕ) → IsSomeAnd found (λ f. text ≡ f.name) → text ≡ name_of found
name_is None text answer = absurd answer
name_is (Some f) text answer = answer

module _ (u : Universe) where
  -- a name that was measured
  pub is_as_wide : IsWellFormedUniverse u → (f : FamilyId) (text : List ℕ) (n : ℕ) → f.0 < length u.families → IsSomeAnd (slice_get u.families f.0) (λ declared. text ≡ declared.name) → n ≡ columns text → n ≤ 2 * length text
      → IsAsWide (slice_get u.families f.0) n
  is_as_wide formed f text n below answer wide bound =
      let name = name_is (slice_get u.families f.0) text answer in
      record { exact = wide ∙ ap columns name; few = omega (arith, bound, ap length name, (family_is_named u formed f below).within) }

  -- that of a cell's family
  pub own_name : (c : CellId) (within : c.0 < length (cell_sizes u)) (f g : FamilyId) (n : ℕ) → IsSomeAnd (slice_get (cells u) c.0) (λ a. f ≡ a.family) → g.0 ≡ f.0 → IsAsWide (slice_get u.families g.0) n → IsAsWide (family_of u c) n
  own_name c within f g n answer same wide =
      let number : FamilyId → ℕ = λ h. h.0 in
      subst (λ k. IsAsWide (slice_get u.families k) n) (same ∙ ap number (family_is u c within f answer)) wide
