-- Cells by their stamps.
use Rattle.std.proofs.Common.{suc, ◌≡◌, ℕ, ◌<◌, Bool, List, [], ◌∷◌, Option, Some, None, length, set, replicate, refl, ap, ◌∙◌, arith, All}
use Rattle.std.proofs.lemmas.List.{map-set, length-map, length-replicate}
use Rattle.std.proofs.lemmas.List.Elements.{All-replicate}
use Rattle.std.proofs.lemmas.Bool.{eq-eqb, ne_eqb, cond-true, cond-false}
use Rattle.pc_lits.specs.declared.values.Cell.{Cell}
use Rattle.pc_lits.specs.Stamped.{cell_value, shown}

pub fresh_value : (now : ℕ) (cell : Cell) → cell.stamp ≡ now → cell_value now cell ≡ Some cell.value
fresh_value now cell h = cond-true _ _ _ (eq-eqb cell.stamp now h)

pub stale_value : (now : ℕ) (cell : Cell) → cell.stamp < now → cell_value now cell ≡ None
stale_value now cell h = cond-false _ _ _ (ne_eqb cell.stamp now (λ e. omega arith))

pub shown-set : (now : ℕ) (cells : List Cell) (i : ℕ) (cell : Cell) (x : Option Bool) → cell_value now cell ≡ x → shown now (set cells i cell) ≡ set (shown now cells) i x
shown-set now cells i cell x h = map-set (cell_value now) cells i cell ∙ ap (set (shown now cells) i) h

-- nothing is left of cells that are all stale
pub shown-stale : (now : ℕ) (cells : List Cell) → All (λ cell. cell.stamp < now) cells → shown now cells ≡ replicate (length cells) None
shown-stale now [] old = refl
shown-stale now (cell ∷ cells) old =
    rw (stale_value now cell (old 0 cell (omega arith)), shown-stale now cells (λ k d within. old (suc k) d (omega arith))) refl

pub shown-blank : (now n : ℕ) (blank : Cell) → blank.stamp < now → shown now (replicate n blank) ≡ replicate n None
shown-blank now n blank old = shown-stale now (replicate n blank) (All-replicate (λ cell. cell.stamp < now) n blank old) ∙ ap (λ k. replicate k None) (length-replicate n blank)

pub length-shown : (now : ℕ) (cells : List Cell) → length (shown now cells) ≡ length cells
length-shown now cells = length-map cells (cell_value now)
