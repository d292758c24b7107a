-- What a display asks for is of the sheet: the cell's entries that it finds, and supports that reasons give.
use Rattle.std.proofs.Common.{◌≡◌, ℕ, ◌<◌, ◌≤◌, Bool, true, List, [], ◌∷◌, length, get_or, Option, None, Some, is_some, slice_get, IsSomeAnd, All, eqb-true, arith, refl, sym, ◌∙◌, ap, subst, inl, inr}
use Rattle.std.specs.Borrow.{Bor}
use Rattle.std.specs.Option.{option_copied}
use Rattle.std.proofs.lemmas.List.Elements.{All-cons, All-head, All-tail, All-filter, All-get_or, filter_passes}
use Rattle.pc_laws.proofs.Order.{irreflexive, transitive}
use Rattle.pc_sheet.specs.Sheet.{Universe, Sheet}
use Rattle.pc_sheet.specs.Sizes.{size_of}
use Rattle.pc_sheet.specs.Entailment.{cell_sizes, opposite_of, IsSublist, IsLeastSupport}
use Rattle.pc_sheet.specs.Limits.{most_entries}
use Rattle.pc_sheet.specs.WellFormed.{is_of_cell, entries_of, IsWellFormed, IsEntryOf}
use Rattle.pc_sheet.specs.declared.ids.CellId.{CellId}
use Rattle.pc_sheet.specs.declared.ids.ValueId.{ValueId}
use Rattle.pc_sheet.specs.declared.ids.Entry.{Entry}
use Rattle.pc_sheet.specs.declared.ids.Target.{Target}
use Rattle.pc_writer.specs.Spelling.{sort_of}
use Rattle.pc_writer.proofs.CellLemmas.{cell_size, entered_value}
use Rattle.pc_reason.specs.Targets.{IsTargetIn}
use Rattle.pc_display.specs.Supports.{IsSupportFor, IsReasoning, Reasoning}
use Rattle.pc_display.specs.Show.{conflict_of, have_conflict}
use Rattle.pc_display.specs.inside.Entered.{HaveValuesOf}

pub sublist_all : (P : Entry → Type 0) (es s : List Entry) → IsSublist es s → All P es → All P s
sublist_all P [] s sub each = subst (All P) (sym sub) each
sublist_all P (e ∷ es) s (inl sub) each = sublist_all P es s sub (All-tail P e es each)
sublist_all P (e ∷ es) s (inr found) each =
    subst (All P) (sym found.1) (All-cons P e found.0 (All-head P e es each) (sublist_all P es found.0 found.2 (All-tail P e es each)))

pub is_some-copied : {X : Type 0} (o : Option (Bor X)) → is_some o ≡ is_some (option_copied o)
is_some-copied None = refl
is_some-copied (Some x) = refl

-- those of a cell are entries, of that cell, and have values of its sort
module _ (u : Universe) (es : List Entry) (each : All (IsEntryOf u) es) (c : CellId) where
  pub own_are_entries : All (IsEntryOf u) (entries_of c es)
  own_are_entries = All-filter (is_of_cell c) (IsEntryOf u) es each

  own_have_values : HaveValuesOf u (sort_of u c) (entries_of c es)
  own_have_values k d below =
      let own = entries_of c es in
      let e = get_or own k d in
      let fit = All-get_or (IsEntryOf u) own k d below own_are_entries in
      let same : e.cell.0 ≡ c.0 = eqb-true e.cell.0 c.0 (All-get_or (λ f. is_of_cell c f ≡ true) own k d below (filter_passes (is_of_cell c) es)) in
      let number : ℕ → CellId = λ n. record { 0 = n } in
      entered_value u e fit (sort_of u c) (ap (λ n. sort_of u (number n)) (sym same))

module _ (sheet : Sheet) (formed : IsWellFormed sheet) where
  pub support_fits : (t : Target) (found : Option (List Entry)) (s : List Entry) → IsSupportFor sheet t found → found ≡ Some s → All (IsEntryOf sheet.universe) s
  support_fits t None s is same = absurd (cc)
  support_fits t (Some r) s is same =
      let equal : r ≡ s = cc in
      subst (All (IsEntryOf sheet.universe)) equal (sublist_all (IsEntryOf sheet.universe) sheet.entries r is.supports.among formed.entries.each)

module _ (u : Universe) (c : CellId) (within : c.0 < length (cell_sizes u)) where
  pub is_target : (v : ValueId) (holds : Bool) → v.0 < size_of u (sort_of u c) → IsTargetIn u (record { cell = c; value = v; holds = holds })
  is_target v holds below = let P : Option ℕ → Type 0 = λ found. IsSomeAnd found (λ n. v.0 < n) in subst P (sym (cell_size u c within)) below

  some_number : (m n : ℕ) → Some m ≡ Some n → m ≡ n
  some_number m n same = cc

  size_is : (n : ℕ) → slice_get (cell_sizes u) c.0 ≡ Some n → n ≡ size_of u (sort_of u c)
  size_is n is = some_number n (size_of u (sort_of u c)) (sym is ∙ cell_size u c within)

-- the values that are gone over are those of the cell's sort
pub values_end : (sheet book : Sheet) (c : CellId) (n : ℕ) → book ≡ sheet → c.0 < length (cell_sizes sheet.universe) → slice_get (cell_sizes book.universe) c.0 ≡ Some n → n ≡ size_of sheet.universe (sort_of sheet.universe c)
values_end sheet book c n same within is = size_is sheet.universe c within n (ap (λ s. slice_get (cell_sizes s.universe) c.0) (sym same) ∙ is)

-- ---- least supports are unique

same_least : (sheet : Sheet) (s t : List Entry) (target : Target) → IsLeastSupport sheet s target → IsLeastSupport sheet t target → s ≡ t
same_least sheet s t target least other =
    elim (least.least t other.supports) [
      | inl same ↦ sym same
      | inr less ↦ elim (other.least s least.supports) [
        | inl same ↦ same
        | inr more ↦ absurd (irreflexive sheet.entries s (transitive sheet.entries s t s less more))
      ]
    ]

pub same_reason : (sheet : Sheet) (t : Target) (one other : Option (List Entry)) → IsSupportFor sheet t one → IsSupportFor sheet t other → one ≡ other
same_reason sheet t None None p q = refl
same_reason sheet t None (Some s) p q = absurd (p (s, q.supports))
same_reason sheet t (Some s) None p q = absurd (q (s, p.supports))
same_reason sheet t (Some s) (Some r) p q = ap Some (same_least sheet s r t p q)

pub same_conflict : (sheet : Sheet) (reason : Reasoning) → IsReasoning sheet reason → (e : Entry) → IsEntryOf sheet.universe e → (found : Option (List Entry)) → IsSupportFor sheet (opposite_of e) found → found ≡ conflict_of reason e
same_conflict sheet reason is e fit found so = same_reason sheet (opposite_of e) found (reason (opposite_of e)) so (is (opposite_of e) fit)

-- ---- the cell's entries, found in the book

module _ (sheet book : Sheet) (same : book ≡ sheet) (formed : IsWellFormed book) (c : CellId) (own : List Entry) (are : own ≡ entries_of c book.entries) where
  pub own_are : own ≡ entries_of c sheet.entries
  own_are = are ∙ ap (λ s. entries_of c s.entries) same

  pub own_fit : All (IsEntryOf sheet.universe) own
  own_fit = subst (All (IsEntryOf sheet.universe)) (sym own_are) (own_are_entries sheet.universe sheet.entries (subst IsWellFormed same formed).entries.each c)

  pub own_values : HaveValuesOf sheet.universe (sort_of sheet.universe c) own
  own_values = subst (HaveValuesOf sheet.universe (sort_of sheet.universe c)) (sym own_are) (own_have_values sheet.universe sheet.entries (subst IsWellFormed same formed).entries.each c)

  pub own_few : length own ≤ most_entries
  own_few = let few = formed.entries.few c in omega (arith, few, ap (λ (es : List Entry). length es) are)

-- ... which is the sheet
pub book_values : (book : Sheet) → IsWellFormed book → (c : CellId) (own : List Entry) → own ≡ entries_of c book.entries → HaveValuesOf book.universe (sort_of book.universe c) own
book_values book formed c own are = own_values book book refl formed c own are

-- what is made of the cell's entries, and of whether one of them clashes
pub with_entries : {A : Type 0} (sheet book : Sheet) → book ≡ sheet → (c : CellId) (own : List Entry) → own ≡ entries_of c book.entries → (reason : Reasoning) (clashes : Bool) → clashes ≡ have_conflict reason own
    → (made : Universe → List Entry → Bool → A) → made book.universe own clashes ≡ made sheet.universe (entries_of c sheet.entries) (have_conflict reason (entries_of c sheet.entries))
with_entries sheet book same c own are reason clashes is made =
    ap (made book.universe own) is
    ∙ ap (λ es. made book.universe es (have_conflict reason es)) are
    ∙ ap (λ s. made s.universe (entries_of c s.entries) (have_conflict reason (entries_of c s.entries))) same

-- whether an entry has a conflict, as its support was answered
pub clashes_is : (sheet : Sheet) (reason : Reasoning) → IsReasoning sheet reason → (e : Entry) → IsEntryOf sheet.universe e → (found : Option (Bor (List Entry))) → IsSupportFor sheet (opposite_of e) (option_copied found) → is_some found ≡ is_some (conflict_of reason e)
clashes_is sheet reason is e fit found so = is_some-copied found ∙ ap is_some (same_conflict sheet reason is e fit (option_copied found) so)
