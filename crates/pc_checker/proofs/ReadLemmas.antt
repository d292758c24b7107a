-- Reads of different cells, by marks on the cells that were read.
use Rattle.std.proofs.Common.{◌≡◌, ◌≢◌, ℕ, ◌+◌, ◌<◌, ◌≤◌, ◌↔◌, ⊎_elim, Bool, true, List, [], ◌∷◌, ◌++◌, take, length, get_or, set, All, Contains, Option, None, Some, slice_get, ap, sym, ◌∙◌, subst, arith}
use Rattle.std.proofs.lemmas.Option.{slice_get_within}
use Rattle.std.proofs.lemmas.Bool.{cases_eq}
use Rattle.std.proofs.lemmas.List.{take_more, length-take-le, get_or-take, get_or_default, length-set, get_or-set_same, get_or-set_other}
use Rattle.std.proofs.lemmas.List.Elements.{All-weaker, Contains-push, Contains-push_cases, Contains-append_left}
use Rattle.std.proofs.lemmas.List.Quantifiers.{all_pairs_push}
use Rattle.pc_sheet.specs.Sheet.{Universe}
use Rattle.pc_sheet.specs.Entailment.{cell_sizes, HaveDistinctCells}
use Rattle.pc_sheet.specs.WellFormed.{IsEntryOf}
use Rattle.pc_sheet.specs.declared.ids.CellId.{CellId}
use Rattle.pc_sheet.specs.declared.ids.Entry.{Entry}
use Rattle.pc_lits.specs.declared.literal.Lit.{Lit}
use Rattle.pc_lemmas.proofs.Options.{some_and}

-- the literal that marks the cell of that number
abbrev pub mark_of : ℕ → Lit
mark_of cell = record { variable = record { 0 = cell }; sign = true }

-- some read is of the cell of that number
abbrev pub IsRead : List Entry → ℕ → Type 0
IsRead reads cell = (r : Entry) × Contains reads r × (r.cell.0 ≡ cell)

-- of the cells that there is room for exactly those that are read are marked
abbrev pub AreReadMarked : List Entry → List (Option Bool) → Type 0
AreReadMarked reads marks = (cell : ℕ) → cell < length marks → (get_or marks cell None ≡ Some true) ↔ IsRead reads cell

pub reads_within : (u : Universe) (reads : List Entry) (marks : List (Option Bool)) → length (cell_sizes u) ≤ length marks → All (IsEntryOf u) reads → All (λ r. r.cell.0 < length marks) reads
reads_within u reads marks room each =
    All-weaker (IsEntryOf u) (λ r. r.cell.0 < length marks)
    (λ r is. let found = some_and (slice_get (cell_sizes u) r.cell.0) (λ n. r.value.0 < n) is in omega (arith, slice_get_within (cell_sizes u) r.cell.0 found.0 found.1, room)) reads each

read_marked : (reads : List Entry) (x : Entry) (marks : List (Option Bool)) → x.cell.0 < length marks → AreReadMarked reads marks → AreReadMarked (reads ++ x ∷ []) (set marks x.cell.0 (Some true))
read_marked reads x marks room are cell within =
    let before : cell < length marks = omega (arith, length-set marks x.cell.0 (Some true)) in
    ⊎_elim
    (λ same.
    let now : get_or (set marks x.cell.0 (Some true)) cell None ≡ Some true = rw same (get_or-set_same marks x.cell.0 (Some true) None room) in
    (λ _. (x, Contains-push reads x, sym same), λ _. now))
    (λ other.
    let kept : get_or (set marks x.cell.0 (Some true)) cell None ≡ get_or marks cell None = get_or-set_other marks x.cell.0 cell (Some true) None other in
    let number : Entry → ℕ = λ (e : Entry). e.cell.0 in (
      λ is. let r = (are cell before).0 (sym kept ∙ is) in (r.0, Contains-append_left reads (x ∷ []) r.0 r.1, r.2),
      λ r. kept ∙ ⊎_elim (λ has. (are cell before).1 (r.0, has, r.2)) (λ same. absurd (other (sym r.2 ∙ ap number (sym same)))) (Contains-push_cases reads x r.0 r.1),
    ))
    (cases_eq cell x.cell.0)

module _ (reads : List Entry) (i : ℕ) (d : Entry) (marks : List (Option Bool)) (within : i < length reads) (are : AreReadMarked (take i reads) marks) (room : (get_or reads i d).cell.0 < length marks) where
  pub marked_more : AreReadMarked (take (i + 1) reads) (set marks (get_or reads i d).cell.0 (Some true))
  marked_more =
      subst (λ (rs : List Entry). AreReadMarked rs (set marks (get_or reads i d).cell.0 (Some true))) (sym (take_more reads i d within)) (read_marked (take i reads) (get_or reads i d) marks room are)

  -- a cell that isn't marked is another than those before
  pub distinct_more : HaveDistinctCells (take i reads) → (get_or marks (get_or reads i d).cell.0 None ≡ Some true → ⊥) → HaveDistinctCells (take (i + 1) reads)
  distinct_more h unmarked =
      let number : CellId → ℕ = λ (c : CellId). c.0 in
      subst HaveDistinctCells (sym (take_more reads i d within))
      (all_pairs_push (λ e f. e.cell ≢ f.cell) (take i reads) (get_or reads i d) h
      (λ k e less same. unmarked ((are (get_or reads i d).cell.0 room).1 (get_or (take i reads) k e, (k, less, get_or_default (take i reads) k (get_or (take i reads) k e) e less), ap number same))))

  -- a cell that is marked was read before
  pub repeated : get_or marks (get_or reads i d).cell.0 None ≡ Some true → ¬ HaveDistinctCells reads
  repeated marked distinct =
      let r = (are (get_or reads i d).cell.0 room).0 marked in
      let k = r.1.0 in
      let count : length (take i reads) ≡ i = length-take-le i reads (omega arith) in
      let less : k < i = omega (arith, r.1.1) in
      let cell : Entry → CellId = λ (e : Entry). e.cell in
      let first : get_or reads k r.0 ≡ r.0 = sym (get_or-take i reads k r.0 less) ∙ r.1.2 in
      let make : ℕ → CellId = λ n. record { 0 = n } in
      distinct k i r.0 less within (ap cell first ∙ ap make r.2 ∙ ap cell (sym (get_or_default reads i r.0 d within)))
