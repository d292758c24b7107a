-- The part of each cell, by its number, and the entries of a part.
use Rattle.std.proofs.Common.{◌≡◌, ◌≢◌, ℕ, ◌<◌, ◌==◌, inl, inr, Bool, true, false, cond, List, [], ◌∷◌, filter, map, length, get_or, All, AllPairs, Contains, Option, None, Some, slice_get, IsSomeAnd, eq-eqb, eqb-true, refl, ap, sym, ◌∙◌, subst, arith}
use Rattle.std.proofs.lemmas.Bool.{cases_Bool, cases_lt, false≢true}
use Rattle.std.proofs.lemmas.Option.{get_or_from_slice_get}
use Rattle.pc_lemmas.proofs.Elements.{contains_first, contains_later}
use Rattle.pc_lemmas.proofs.Options.{same_some}
use Rattle.pc_sheet.specs.Sheet.{Universe, Sheet}
use Rattle.pc_sheet.specs.Entailment.{cell_sizes}
use Rattle.pc_sheet.specs.WellFormed.{IsEntryOf}
use Rattle.pc_sheet.specs.declared.ids.CellId.{CellId}
use Rattle.pc_sheet.specs.declared.ids.Entry.{Entry}
use Rattle.pc_parts.specs.Components.{parts_of}
use Rattle.pc_parts.specs.Parts.{Part, AreApart, IsDivision}
use Rattle.pc_parts.specs.PartSheets.{is_on, entries_on}
use Rattle.pc_parts.proofs.Joining.{contains_among, lacks_among}
use Rattle.pc_components.specs.View.{Kept, number_of}
use Rattle.pc_theory.specs.Theories.{rules_alone}
use Rattle.pc_theory.specs.inside.Tasks.{AreSearchedParts}
use Rattle.pc_theory.specs.inside.PartTasks.{has_number}
use Rattle.pc_theory.proofs.Lists.{all_in, at_within}
use Rattle.pc_theory.proofs.Parted.{part_there}

-- an entry of a universe is on one of its cells
pub cell_of : (u : Universe) (e : Entry) → IsEntryOf u e → e.cell.0 < length (cell_sizes u)
cell_of u e is = by (slice_get (cell_sizes u) e.cell.0) refl is
  where
    by : (o : Option ℕ) → slice_get (cell_sizes u) e.cell.0 ≡ o → IsSomeAnd o (λ n. e.value.0 < n) → e.cell.0 < length (cell_sizes u)
    by None at h = absurd h
    by (Some n) at h = at_within (cell_sizes u) e.cell.0 n at

-- ---- parts

module _ (parts : List Part) (apart : AllPairs AreApart parts) where
  -- parts at different places are apart
  pub apart_at : (i j : ℕ) (p q : Part) → slice_get parts i ≡ Some p → slice_get parts j ≡ Some q → i ≢ j → (c : ℕ) → Contains p.cells c → ¬ Contains q.cells c
  apart_at i j p q at_p at_q other c on off = elim (cases_lt i j) [
    | inl less ↦ by i j p q at_p at_q less on off
    | inr not_less ↦ by j i q p at_q at_p (omega (arith, not_less, other)) off on
  ]
    where
      by : (i j : ℕ) (p q : Part) → slice_get parts i ≡ Some p → slice_get parts j ≡ Some q → i < j → Contains p.cells c → Contains q.cells c → ⊥
      by i j p q at_p at_q less on off =
          let P : Part → Type 0 = λ x. Contains x.cells c in
          apart i j p less (at_within parts j q at_q) c (subst P (sym (get_or_from_slice_get parts i p p at_p)) on) (subst P (sym (get_or_from_slice_get parts j q p at_q)) off)

  -- whether an entry is on a part's cells, by the number of its own part
  pub on_by_number : (e : Entry) (own : ℕ) (q : Part) → slice_get parts own ≡ Some q → Contains q.cells e.cell.0 → (number : ℕ) (p : Part) → slice_get parts number ≡ Some p → (own == number) ≡ is_on p.cells e
  on_by_number e own q at_q has number p at_p = elim (cases_Bool (own == number)) [
    | inl is ↦
        let here : q ≡ p = same_some (sym at_q ∙ (ap (slice_get parts) (eqb-true own number is) ∙ at_p)) in
        is ∙ sym (contains_among p.cells e.cell.0 (subst (λ (o : Part). Contains o.cells e.cell.0) here has))
    | inr other ↦
        let differ : own ≢ number = λ is. false≢true (sym other ∙ eq-eqb own number is) in
        other ∙ sym (lacks_among p.cells e.cell.0 (apart_at own number q p at_q at_p differ e.cell.0 has))
  ]

-- ---- the entries of a part

same_filter : (f g : Entry → Bool) (es : List Entry) → ((e : Entry) → Contains es e → f e ≡ g e) → filter f es ≡ filter g es
same_filter f g [] same = refl
same_filter f g (e ∷ es) same =
    ap (λ b. cond b (e ∷ filter f es) (filter f es)) (same e (contains_first e es))
    ∙ ap (λ rest. cond (g e) (e ∷ rest) rest) (same_filter f g es (λ o has. same o (contains_later e es o has)))

-- those on the cells of a part are those whose own part has its number
module _ (sheet : Sheet) (kept : Kept) (are : AreSearchedParts (rules_alone sheet) kept) (division : IsDivision sheet (parts_of sheet)) (number : ℕ) (cells : List CellId) (at : slice_get kept.cells number ≡ Some cells) where
  is_here : (e : Entry) → e.cell.0 < length (cell_sizes sheet.universe) → has_number kept.numbers number e ≡ is_on (map number_of cells) e
  is_here e below =
      let own = are.numbers e.cell.0 below in
      let q = own.2 in
      let there = part_there sheet kept are number cells at in
      ap (λ n. n == number) (get_or_from_slice_get kept.numbers e.cell.0 own.0 0 own.1)
      ∙ (on_by_number (parts_of (rules_alone sheet)) division.apart e own.0 q.0 q.1 q.2 number there.0 there.1 ∙ ap (λ cs. is_on cs e) there.2)

  pub entries_here : (es : List Entry) → All (IsEntryOf sheet.universe) es → filter (has_number kept.numbers number) es ≡ entries_on (map number_of cells) es
  entries_here es all = same_filter (has_number kept.numbers number) (is_on (map number_of cells)) es (λ e has. is_here e (cell_of sheet.universe e (all_in (IsEntryOf sheet.universe) es e all has)))
