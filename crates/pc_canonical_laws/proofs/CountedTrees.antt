-- The tree of a statement counts where the statement does.
use Rattle.std.proofs.Common.{◌≡◌, ◌||◌, [], ◌∷◌, ◌++◌, refl, ap₂}
use Rattle.pc_sheet.specs.Sheet.{Universe, Statement, Statements, no_statements, statement, compare, in_table, negation, all_of, some_of, implies, iff, for_all, exists, counts}
use Rattle.pc_sheet.specs.WellSorted.{Variables}
use Rattle.pc_formula.specs.Counted as tree
use Rattle.pc_writer.specs.Counted.{has_count, have_count}
use Rattle.pc_canonical_laws.specs.Tree.{statement_tree, part_trees}

module _ (u : Universe) where
  mutual
    pub counts_alike : (vs : Variables) (s : Statement) → tree.has_count (statement_tree u vs s) ≡ has_count s
    counts_alike vs (compare left op right) = refl
    counts_alike vs (in_table t xs) = refl
    counts_alike vs (negation s) = counts_alike vs s
    counts_alike vs (all_of ss) = count_alike vs ss
    counts_alike vs (some_of ss) = count_alike vs ss
    counts_alike vs (implies s t) = ap₂ (λ a b. a || b) (counts_alike vs s) (counts_alike vs t)
    counts_alike vs (iff s t) = ap₂ (λ a b. a || b) (counts_alike vs s) (counts_alike vs t)
    counts_alike vs (for_all n s body) = counts_alike (vs ++ (n, s) ∷ []) body
    counts_alike vs (exists n s body) = counts_alike (vs ++ (n, s) ∷ []) body
    counts_alike vs (counts c n s body) = refl

    count_alike : (vs : Variables) (ss : Statements) → tree.have_count (part_trees u vs ss) ≡ have_count ss
    count_alike vs no_statements = refl
    count_alike vs (statement s ss) = ap₂ (λ a b. a || b) (counts_alike vs s) (count_alike vs ss)
