-- What the code keeps of its declarations: bounds, and counts of cells that are right.
use Rattle.std.specs.Prelude.{◌≡◌, ◌≤◌, ◌+◌, ℕ, List, [], ◌∷◌, All, length}
use Rattle.pc_sheet.specs.Limits.{most_arguments, most_cells, most_values}
use Rattle.pc_sheet.specs.Sheet.{Universe, Family}
use Rattle.pc_sheet.specs.Sizes.{count_of, cells_in}
use Rattle.pc_books.specs.SchemeView.{values_of, family_of, universe_of}
use Rattle.pc_books.specs.declared.scheme.FamilyDecl.{FamilyDecl}
use Rattle.pc_books.specs.declared.scheme.Scheme.{Scheme}

-- a family with its counts
abbrev pub counted_of : FamilyDecl → Family × ℕ × ℕ
counted_of d = (family_of d, d.first, d.cells)

-- where n cells stand before these families, each has its count, the counts of those before it are right, and all together are the last number
abbrev pub AreCounted : Universe → ℕ → List FamilyDecl → ℕ → Type 0
AreCounted u n [] total = total ≡ n
AreCounted u n (d ∷ ds) total = (d.first ≡ n) × (d.cells ≡ cells_in u (family_of d)) × AreCounted u (n + d.cells) ds total

-- within the limits, with right counts
pub record IsSound (s : Scheme) : Type 0 where
  pub arities : All (λ f. length f.sorts.items ≤ most_arguments) s.families.items
  pub sizes : All (λ t. count_of (values_of t.values) ≤ most_values) s.sorts.items
  pub counted : AreCounted (universe_of s) 0 s.families.items s.cells
  pub few_cells : s.cells ≤ most_cells
  pub rows : All (λ t. All (λ r. length r ≤ most_arguments) t.rows) s.tables.items
