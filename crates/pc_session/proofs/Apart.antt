-- Lists without doubles, and that the cells of a part are one.
use Rattle.std.proofs.Common.{◌≡◌, ℕ, zero, suc, ◌+◌, ◌≤◌, inl, inr, Bool, true, false, cond, List, [], ◌∷◌, ◌++◌, map, filter, Contains, Some, slice_get, arith, ap, subst}
use Rattle.std.specs.List.{range_with_len}
use Rattle.pc_sheet.specs.Sheet.{Sheet}
use Rattle.pc_sheet.specs.declared.ids.CellId.{CellId}
use Rattle.pc_parts.specs.Pieces.{Piece, pieces}
use Rattle.pc_parts.specs.Parts.{Part, cell_count, part_without_cells}
use Rattle.pc_parts.specs.Components.{labels_of, all_cells, is_labeled, are_no_cells, part_of_first, parts_of}
use Rattle.pc_parts.specs.Leaves.{cells_of}
use Rattle.pc_components.specs.View.{Kept, number_of, AreComponentsOf}
use Rattle.pc_theory.specs.Theories.{rules_alone}
use Rattle.pc_lemmas.proofs.Elements.{contains_cases, contains_first, contains_later, contains_map, contains_mapped, contains_none, kept_is}
use Rattle.pc_theory.proofs.Lists.{at_contained}
use Rattle.pc_session.proofs.Places.{in_append}
use Rattle.pc_theory.proofs.OfWhole.{all_searched}
use Rattle.pc_theory.proofs.Parted.{part_there}

abbrev pub AreApart : {X : Type 0} → List X → Type 0
AreApart [] = Unit {0}
AreApart (x ∷ xs) = (¬ Contains xs x) × AreApart xs

pub apart_append : {X : Type 0} (xs ys : List X) → AreApart xs → AreApart ys → ((x : X) → Contains xs x → ¬ Contains ys x) → AreApart (xs ++ ys)
apart_append [] ys left right none = right
apart_append (x ∷ xs) ys left right none =
    (λ there. elim (in_append xs ys x there) [ inl early ↦ left.0 early | inr late ↦ none x (contains_first x xs) late ], apart_append xs ys left.1 right (λ y early. none y (contains_later x xs y early)))

pub apart_filter : {X : Type 0} (p : X → Bool) (xs : List X) → AreApart xs → AreApart (filter p xs)
apart_filter p [] apart = tt
apart_filter p (x ∷ xs) apart = by (p x) (apart_filter p xs apart.1)
  where
    by : (b : Bool) → AreApart (filter p xs) → AreApart (cond b (x ∷ filter p xs) (filter p xs))
    by true rest = (λ there. apart.0 (kept_is p xs x there).0, rest)
    by false rest = rest

pub apart_from_map : {X Y : Type 0} (f : X → Y) (xs : List X) → AreApart (map f xs) → AreApart xs
apart_from_map f [] apart = tt
apart_from_map f (x ∷ xs) apart = (λ there. apart.0 (contains_map f xs x there), apart_from_map f xs apart.1)

from_range : (a n c : ℕ) → Contains (range_with_len a n) c → a ≤ c
from_range a zero c h = absurd (contains_none c h)
from_range a (suc n) c h = elim (contains_cases a (range_with_len (a + 1) n) c h) [
  | inl is ↦ omega (arith, is)
  | inr later ↦ let r = from_range (a + 1) n c later in omega (arith, r)
]

apart_range : (a n : ℕ) → AreApart (range_with_len a n)
apart_range a zero = tt
apart_range a (suc n) = (λ there. let r = from_range (a + 1) n a there in omega (arith, r), apart_range (a + 1) n)

-- ---- the cells of a part

no_cells_apart : (ps : List Piece) (part : Part) → Contains (part_without_cells ps) part → AreApart part.cells
no_cells_apart [] part h = absurd (contains_none part h)
no_cells_apart (p ∷ ps) part h = elim (contains_cases (record { cells = []; pieces = p ∷ ps }) [] part h) [
  | inl is ↦ (let cells : Part → List ℕ = λ x. x.cells in subst AreApart (ap cells is) tt)
  | inr none ↦ absurd (contains_none part none)
]

part_apart : (sheet : Sheet) (part : Part) → Contains (parts_of sheet) part → AreApart part.cells
part_apart sheet part has =
    let labels = labels_of sheet in
    let firsts = filter (λ d. is_labeled labels d d) (all_cells sheet.universe) in
    let last = part_without_cells (filter (λ p. are_no_cells (cells_of sheet.universe p)) (pieces sheet)) in
    let cells : Part → List ℕ = λ x. x.cells in
    elim (in_append (map (part_of_first sheet labels) firsts) last part has) [
      | inl first ↦
          let f = contains_mapped (part_of_first sheet labels) firsts part first in
          subst AreApart (ap cells f.2) (apart_filter (is_labeled labels f.0) (all_cells sheet.universe) (apart_range 0 (cell_count sheet.universe)))
      | inr none ↦ no_cells_apart _ part none
    ]

pub cells_apart : (sheet : Sheet) (kept : Kept) → AreComponentsOf (rules_alone sheet) kept → (i : ℕ) (cells : List CellId) → slice_get kept.cells i ≡ Some cells → AreApart cells
cells_apart sheet kept are i cells at =
    let there = part_there sheet kept (all_searched (rules_alone sheet) kept are) i cells at in
    apart_from_map number_of cells (subst AreApart there.2 (part_apart (rules_alone sheet) there.0 (at_contained (parts_of (rules_alone sheet)) i there.0 there.1)))
