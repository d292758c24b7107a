-- Marks of the cells that are read.
use Rattle.std.proofs.Common.{◌≡◌, ℕ, zero, suc, ◌+◌, ◌<◌, ◌==◌, ◌||◌, inl, inr, Bool, true, false, cond, List, [], ◌∷◌, ◌++◌, filter, length, take, set, get_or, refl, ap, sym, ◌∙◌, eq-eqb, ne_eqb}
use Rattle.std.proofs.lemmas.Bool.{cases_eq}
use Rattle.std.proofs.lemmas.List.{get_or-set_same, get_or-set_other}
use Rattle.std.proofs.lemmas.List.Folds.{list_any_more}
use Rattle.pc_sheet.specs.declared.ids.CellId.{CellId}
use Rattle.pc_parts.specs.PartSheets.{is_among}
use Rattle.pc_repairs.specs.declared.part_sets.PartSets.{PartSets}
use Rattle.pc_ask.specs.inside.Reading.{are_marked, are_read, AreMarksOf, has_mark, is_marked, is_read}

or_true : (b : Bool) → (b || true) ≡ true
or_true true = refl
or_true false = refl

or_false : (b : Bool) → (b || false) ≡ b
or_false true = refl
or_false false = refl

-- room for one more cell
pub grown : (marks : List Bool) (c : ℕ) → has_mark (marks ++ false ∷ []) c ≡ has_mark marks c
grown [] zero = refl
grown [] (suc c) = refl
grown (m ∷ ms) zero = refl
grown (m ∷ ms) (suc c) = grown ms c

-- one more mark
pub set_one : (marks : List Bool) (cell c : ℕ) → cell < length marks → has_mark (set marks cell true) c ≡ (has_mark marks c || cell == c)
set_one marks cell c below = elim (cases_eq cell c) [
  | inl same ↦
      ap (λ n. has_mark (set marks cell true) n) (sym same)
      ∙ (get_or-set_same marks cell true false below ∙ (sym (or_true (has_mark marks c)) ∙ ap (λ b. has_mark marks c || b) (sym (eq-eqb cell c same))))
  | inr other ↦
      get_or-set_other marks cell c true false (λ is. other (sym is))
      ∙ (sym (or_false (has_mark marks c)) ∙ ap (λ b. has_mark marks c || b) (sym (ne_eqb cell c other)))
]

-- one more cell that is read
pub read_more : (reads : List ℕ) (i : ℕ) (marks new : List Bool) → i < length reads → AreMarksOf (take i reads) marks → ((c : ℕ) → has_mark new c ≡ (has_mark marks c || get_or reads i 0 == c)) → AreMarksOf (take (i + 1) reads) new
read_more reads i marks new below are more c = more c ∙ (ap (λ b. b || (get_or reads i 0 == c)) (are c) ∙ sym (list_any_more (λ d. d == c) reads i 0 below))

module _ (reads : List ℕ) (marks : List Bool) (are : AreMarksOf reads marks) where
  same_marked : (cells : List CellId) → are_marked marks cells ≡ are_read reads cells
  same_marked [] = refl
  same_marked (c ∷ cells) = ap (λ b. b || are_marked marks cells) (are c.0) ∙ ap (λ b. is_among reads c.0 || b) (same_marked cells)

  pub same_parts : (all : List PartSets) → filter (is_marked marks) all ≡ filter (is_read reads) all
  same_parts [] = refl
  same_parts (p ∷ ps) =
      ap (λ b. cond b (p ∷ filter (is_marked marks) ps) (filter (is_marked marks) ps)) (same_marked p.cells.now)
      ∙ ap (λ qs. cond (is_read reads p) (p ∷ qs) qs) (same_parts ps)
