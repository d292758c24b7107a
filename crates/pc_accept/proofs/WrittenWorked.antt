-- Which of the worked certificates can be written.
use Rattle.std.proofs.Common.{zero, suc, ◌<◌, ◌^◌, [], ◌∷◌, All, arith, refl}
use Rattle.pc_sheet.specs.WellFormed.{IsEntryOf}
use Rattle.pc_laws.specs.Examples.{red, green, entry, equal_cells}
use Rattle.pc_accept.specs.Literals.{Literal, positive}
use Rattle.pc_accept.specs.Axioms.{negated_entry, pair_of}
use Rattle.pc_accept.specs.Examples.{WorkedWritable}
use Rattle.pc_accept.specs.Writable.{IsSymbolOf, IsPathOf, IsSetOf}
use Rattle.std.proofs.lemmas.List.Elements.{All-nil, All-cons}

root : IsPathOf equal_cells 0 []
root = record { leads = refl; small = All-nil (λ k. k < 2 ^ 32) }

used : All (IsEntryOf equal_cells.universe) (entry 0 red ∷ [])
used = All-cons (IsEntryOf equal_cells.universe) (entry 0 red) [] (omega arith) (All-nil (IsEntryOf equal_cells.universe))

pub worked_writable : WorkedWritable
worked_writable = record {
  written = record {
    claim = (refl, omega arith);
    sets = All-nil (IsSetOf equal_cells);
    uses = used;
    values = All-cons (IsEntryOf equal_cells.universe) (entry 0 red) (entry 1 red ∷ []) (omega arith)
        (All-cons (IsEntryOf equal_cells.universe) (entry 1 red) [] (omega arith) (All-nil (IsEntryOf equal_cells.universe)));
    lines = (omega arith, ((root, reads), (omega arith, ((symbols, hints), tt))));
    few = omega arith;
    few_sets = omega arith;
  };
  no_such_cell = λ h. h.uses 0 (entry 2 red) (omega arith);
  later_hint = λ h. let below = h.lines.1.1.1.0.1 2 0 (omega arith) in absurd (omega (arith, below));
}
  where
    reads : All (IsEntryOf equal_cells.universe) (entry 0 red ∷ entry 1 green ∷ [])
    reads = All-cons (IsEntryOf equal_cells.universe) (entry 0 red) (entry 1 green ∷ []) (omega arith)
        (All-cons (IsEntryOf equal_cells.universe) (entry 1 green) [] (omega arith) (All-nil (IsEntryOf equal_cells.universe)))

    symbols : All (λ (l : Literal). IsSymbolOf equal_cells l.what) (negated_entry (entry 0 red) ∷ positive (pair_of (entry 1 red)) ∷ [])
    symbols = All-cons (λ (l : Literal). IsSymbolOf equal_cells l.what) (negated_entry (entry 0 red)) (positive (pair_of (entry 1 red)) ∷ []) (omega arith)
        (All-cons (λ (l : Literal). IsSymbolOf equal_cells l.what) (positive (pair_of (entry 1 red))) [] (omega arith) (All-nil (λ (l : Literal). IsSymbolOf equal_cells l.what)))

    hints : All (λ h. h < 3) (2 ∷ 0 ∷ 1 ∷ [])
    hints zero d l = omega arith
    hints (suc zero) d l = omega arith
    hints (suc (suc zero)) d l = omega arith
    hints (suc (suc (suc k))) d l = absurd (omega arith)
