-- A statement nests as the formula that it stands for.
use Rattle.std.proofs.Common.{◌≡◌, ℕ, ◌+◌, List, [], ◌∷◌, ◌++◌, cond, nat_lt, sum_by, arith, ap, ap₂, ◌∙◌, sym, refl, inl, inr}
use Rattle.std.proofs.lemmas.List.Sums.{sum_by-cons}
use Rattle.pc_name.specs.declared.sign.Sign.{Sign}
use Rattle.pc_formula.specs.Tree as tree
use Rattle.pc_formula.specs.Tree.{for_all, exists, counting, iff, implies, or, and, not, compare, in_table, no_part, integer, named, no_item, one_item, items_of}
use Rattle.pc_formula.specs.Nesting as written
use Rattle.pc_sheet.specs.Sheet as plain
use Rattle.pc_sheet.specs.Sheet.{Universe}
use Rattle.pc_sheet.specs.Nesting as built
use Rattle.pc_sheet.specs.WellSorted.{Variables}
use Rattle.pc_sheet.specs.declared.ids.SortId.{SortId}
use Rattle.pc_elaborate.specs.Elaboration.{IsItem, IsArgument, AreArguments, AreAdded, IsSum, IsStatement, AreStatements}
use Rattle.pc_elaborate.proofs.Shapes.{shape, parts_shape, item_shape, argument_shape, arguments_shape}

module _ (u : Universe) where
  -- ---- items

  module _ (vs : Variables) where
    abbrev ItemsNest : tree.Items → Type 0
    ItemsNest items = (ss : List SortId) (xs : plain.Items) → AreArguments u vs ss items xs → built.nesting_of_items xs ≡ written.nesting_of_items items

    named_nests : (n : List ℕ) (items : tree.Items) → ItemsNest items → (x : plain.Item) → IsItem u vs (named n items) x → built.nesting_of_item x ≡ written.nesting_of_item (named n items)
    named_nests n no_item nests x h = elim (item_shape u vs (named n no_item) x h) [
      | inl p ↦ ap built.nesting_of_item p.2
      | inr o ↦ elim o [
        | inl p ↦ ap built.nesting_of_item p.2
        | inr p ↦ ap built.nesting_of_item (p.3 ∙ ap (plain.cell p.0) (arguments_shape u vs p.1 no_item p.2 p.6).1)
      ]
    ]
    named_nests n (one_item a items) nests x h =
        let p = item_shape u vs (named n (one_item a items)) x h in
        let q = arguments_shape u vs p.1 (one_item a items) p.2 p.6 in
        let inside : built.nesting_of_items (plain.item q.2 q.3) ≡ written.nesting_of_items (one_item a items) = ap built.nesting_of_items (sym q.5) ∙ nests p.1 p.2 p.6 in
        let whole = ap built.nesting_of_item (p.3 ∙ ap (plain.cell p.0) q.5) in
        omega (arith, inside, whole)

    mutual
      items_nest : (items : tree.Items) → ItemsNest items
      items_nest no_item ss xs h = ap built.nesting_of_items (arguments_shape u vs ss no_item xs h).1
      items_nest (one_item a items) ss xs h =
          let p = arguments_shape u vs ss (one_item a items) xs h in
          let first = argument_nests a p.0 p.2 p.6 in
          let rest = items_nest items p.1 p.3 p.7 in
          let whole = ap built.nesting_of_items p.5 in
          omega (arith, first, rest, whole)

      argument_nests : (a : tree.Item) (s : SortId) (x : plain.Item) → IsArgument u vs s a x → built.nesting_of_item x ≡ written.nesting_of_item a
      argument_nests (integer z) s x h = ap built.nesting_of_item (argument_shape u vs s (integer z) x h).1
      argument_nests (named n items) s x h = named_nests n items (items_nest items) x (argument_shape u vs s (named n items) x h)

    item_nests : (a : tree.Item) (x : plain.Item) → IsItem u vs a x → built.nesting_of_item x ≡ written.nesting_of_item a
    item_nests (integer z) x h = ap built.nesting_of_item (item_shape u vs (integer z) x h)
    item_nests (named n items) x h = named_nests n items (items_nest items) x h

    added_nest : (items : List (Sign × tree.Item)) (xs : List (Sign × plain.Item)) → AreAdded u vs items xs → sum_by built.nesting_of_added xs ≡ sum_by written.nesting_of_added items
    added_nest [] [] h = refl
    added_nest [] (x ∷ xs) h = absurd h
    added_nest (a ∷ items) [] h = absurd h
    added_nest (a ∷ items) (x ∷ xs) h =
        let first = item_nests a.1 x.1 h.1 in
        let rest = added_nest items xs h.2 in
        omega (arith, first, rest, sum_by-cons built.nesting_of_added x xs, sum_by-cons written.nesting_of_added a items)

    sum_nests : (side : tree.Side) (x : plain.Sum) → IsSum u vs side x → built.nesting_of_sum x ≡ written.nesting_of_side side
    sum_nests side x h = let first = item_nests side.first x.first h.0 in let rest = added_nest side.rest x.rest h.1 in omega (arith, first, rest)

  -- ---- formulas

  as_tight : (vs : Variables) (f : tree.Formula) (s : plain.Statement) → IsStatement u vs f s → built.tightness s ≡ written.tightness f
  as_tight vs (for_all n sort f) s h = ap built.tightness (shape u vs (for_all n sort f) s h).2
  as_tight vs (exists n sort f) s h = ap built.tightness (shape u vs (exists n sort f) s h).2
  as_tight vs (counting m z n sort f) s h = ap built.tightness (shape u vs (counting m z n sort f) s h).4
  as_tight vs (iff f g) s h = ap built.tightness (shape u vs (iff f g) s h).2
  as_tight vs (implies f g) s h = ap built.tightness (shape u vs (implies f g) s h).2
  as_tight vs (or fs) s h = ap built.tightness (shape u vs (or fs) s h).1
  as_tight vs (and fs) s h = ap built.tightness (shape u vs (and fs) s h).1
  as_tight vs (not f) s h = ap built.tightness (shape u vs (not f) s h).1
  as_tight vs (compare l op r) s h = ap built.tightness (shape u vs (compare l op r) s h).2
  as_tight vs (in_table n items) s h = ap built.tightness (shape u vs (in_table n items) s h).3

  as_many_parentheses : (asked : ℕ) (vs : Variables) (f : tree.Formula) (s : plain.Statement) → IsStatement u vs f s → built.parentheses asked s ≡ written.parentheses asked f
  as_many_parentheses asked vs f s h = ap (λ t. cond (nat_lt t asked) 1 0) (as_tight vs f s h)

  mutual
    pub nests : (f : tree.Formula) (vs : Variables) (s : plain.Statement) → IsStatement u vs f s → built.nesting_of s ≡ written.nesting_of f
    nests (for_all n sort f) vs s h =
        let p = shape u vs (for_all n sort f) s h in
        ap built.nesting_of p.2 ∙ ap (λ k. 1 + k) (nests f (vs ++ (n, p.0) ∷ []) p.1 p.4)
    nests (exists n sort f) vs s h =
        let p = shape u vs (exists n sort f) s h in
        ap built.nesting_of p.2 ∙ ap (λ k. 1 + k) (nests f (vs ++ (n, p.0) ∷ []) p.1 p.4)
    nests (counting m z n sort f) vs s h =
        let p = shape u vs (counting m z n sort f) s h in
        ap built.nesting_of p.4 ∙ ap (λ k. 1 + k) (nests f (vs ++ (n, p.1) ∷ []) p.2 p.6)
    nests (iff f g) vs s h =
        let p = shape u vs (iff f g) s h in
        ap built.nesting_of p.2 ∙ ap₂ (λ a b. a + b) (ap₂ (λ a b. a + b) (as_many_parentheses 2 vs f p.0 p.3) (nests f vs p.0 p.3)) (ap₂ (λ a b. a + b) (as_many_parentheses 2 vs g p.1 p.4) (nests g vs p.1 p.4))
    nests (implies f g) vs s h =
        let p = shape u vs (implies f g) s h in
        ap built.nesting_of p.2 ∙ ap₂ (λ a b. a + b) (ap₂ (λ a b. 1 + a + b) (as_many_parentheses 3 vs f p.0 p.3) (nests f vs p.0 p.3)) (ap₂ (λ a b. a + b) (as_many_parentheses 2 vs g p.1 p.4) (nests g vs p.1 p.4))
    nests (or fs) vs s h = let p = shape u vs (or fs) s h in ap built.nesting_of p.1 ∙ parts_nest 4 fs vs p.0 p.2
    nests (and fs) vs s h = let p = shape u vs (and fs) s h in ap built.nesting_of p.1 ∙ parts_nest 5 fs vs p.0 p.2
    nests (not f) vs s h = let p = shape u vs (not f) s h in ap built.nesting_of p.1 ∙ ap₂ (λ a b. 1 + a + b) (as_many_parentheses 5 vs f p.0 p.2) (nests f vs p.0 p.2)
    nests (compare l op r) vs s h = let p = shape u vs (compare l op r) s h in ap built.nesting_of p.2 ∙ ap₂ (λ a b. a + b) (sum_nests vs l p.0 p.3) (sum_nests vs r p.1 p.4)
    nests (in_table n items) vs s h = let p = shape u vs (in_table n items) s h in ap built.nesting_of p.3 ∙ ap (λ k. 1 + k) (items_nest vs (items_of items) p.1 p.2 p.6)

    parts_nest : (asked : ℕ) (fs : tree.Formulas) (vs : Variables) (ss : plain.Statements) → AreStatements u vs fs ss → built.nesting_of_parts asked ss ≡ written.nesting_of_parts asked fs
    parts_nest asked no_part vs ss h = ap (built.nesting_of_parts asked) (parts_shape u vs no_part ss h)
    parts_nest asked (tree.part f fs) vs ss h =
        let p = parts_shape u vs (tree.part f fs) ss h in
        ap (built.nesting_of_parts asked) p.2 ∙ ap₂ (λ a b. a + b) (ap₂ (λ a b. a + b) (as_many_parentheses asked vs f p.0 p.3) (nests f vs p.0 p.3)) (parts_nest asked fs vs p.1 p.4)
