-- Items one after another, and which of them can be written.
use Rattle.std.proofs.Common.{◌≡◌, ℕ, zero, suc, ◌<◌, List, [], ◌∷◌, length, map, Option, None, Some, slice_get, slice_index_or, IsSomeAnd, All, arith, refl, ap, subst, sym, inl, inr, rules, Vec, Global}
use Rattle.std.proofs.lemmas.List.Elements.{All-weaker, All-nil}
use Rattle.pc_sheet.specs.Sheet.{Universe, Item, Items, no_items, item, variable, constant, number, cell, Sum}
use Rattle.pc_sheet.specs.Views.{item_of, items_of}
use Rattle.pc_sheet.specs.WellSorted.{Variables, IsOfSort, AreOfSorts, IsInteger, IsIntegerSum, IsValueOf, AreComparable}
use Rattle.pc_sheet.specs.declared.formula.Term.{Term, Cell, Variable, the_lemmas}
use Rattle.pc_sheet.specs.declared.ids.FamilyId.{FamilyId}
use Rattle.pc_writer.specs.declared.scope.Variable as scope
use Rattle.pc_writer.specs.inside.Scope.{variables_of}
use Rattle.pc_sheet.specs.declared.ids.SortId.{SortId}
use Rattle.pc_sheet.specs.declared.ids.TableId.{TableId}
use Rattle.pc_name.specs.declared.sign.Op.{Op}
use Rattle.pc_writer.specs.FormulaText.{item_text, item_texts, variable_at}
use Rattle.pc_writer.specs.inside.Writable.{IsWritable, AreWritable, IsWritablePart, IsWritableSum}
use Rattle.pc_writer.proofs.Names.{there_within}

-- ---- what the terms of the code stand for

pub item_of-Cell : (f : FamilyId) (v : Vec Term Global) → item_of (Cell f v) ≡ cell f (items_of (map item_of v.items))
item_of-Cell f v = search (rules, the_lemmas)

pub item_of-Variable : (k : ℕ) → item_of (Variable k) ≡ variable k
item_of-Variable k = search (rules, the_lemmas)

pub variable_name_at : (vs : List scope.Variable) (k : ℕ) (d : scope.Variable) → k < length vs → variable_at (variables_of vs) k ≡ (slice_index_or vs k d).name.now
variable_name_at [] k d below = absurd (omega (arith, below))
variable_name_at (v ∷ vs) zero d below = refl
variable_name_at (v ∷ vs) (suc k) d below = variable_name_at vs k d (omega arith)

-- ---- arguments

module _ (u : Universe) (vs : Variables) where
  pub length-item_texts : (ts : List Term) → length (item_texts u vs (items_of (map item_of ts))) ≡ length ts
  length-item_texts [] = refl
  length-item_texts (t ∷ ts) = ap suc (length-item_texts ts)

  pub item_text_at : (ts : List Term) (i : ℕ) (d : Term) → i < length ts → slice_get (item_texts u vs (items_of (map item_of ts))) i ≡ Some (item_text u vs (item_of (slice_index_or ts i d)))
  item_text_at [] i d below = absurd (omega (arith, below))
  item_text_at (t ∷ ts) zero d below = refl
  item_text_at (t ∷ ts) (suc i) d below = item_text_at ts i d (omega arith)

pub writable_at : (u : Universe) (n : ℕ) (ts : List Term) (i : ℕ) (d : Term) → i < length ts → AreWritable u n (items_of (map item_of ts)) → IsWritable u n (item_of (slice_index_or ts i d))
writable_at u n [] i d below all = absurd (omega (arith, below))
writable_at u n (t ∷ ts) zero d below all = all.0
writable_at u n (t ∷ ts) (suc i) d below all = writable_at u n ts i d (omega arith) all.1

-- ---- what is well sorted can be written

taken_apart : {A : Type 0} {C : Type 0} (found : Option A) (P : A → Type 0) → IsSomeAnd found P → ((x : A) → P x → C) → C
taken_apart None P there then = absurd there
taken_apart (Some x) P there then = then x there

module _ (u : Universe) (vs : Variables) where
  mutual
    pub writable : (x : Item) (s : SortId) → IsOfSort u vs x s → IsWritable u (length vs) x
    writable (variable k) s sorted = there_within vs k (λ v. v.1 ≡ s) sorted
    writable (constant t v) s sorted = sorted.1
    writable (number z) s sorted = tt
    writable (cell f xs) s sorted = (
      there_within u.families f.0 (λ family. (family.result_sort ≡ s) × AreOfSorts u vs xs family.sorts) sorted,
      taken_apart (slice_get u.families f.0) (λ family. (family.result_sort ≡ s) × AreOfSorts u vs xs family.sorts) sorted (λ family both. all_writable xs family.sorts both.1),
    )

    pub all_writable : (xs : Items) (ss : List SortId) → AreOfSorts u vs xs ss → AreWritable u (length vs) xs
    all_writable no_items ss sorted = tt
    all_writable (item x xs) [] sorted = absurd sorted
    all_writable (item x xs) (s ∷ ss) sorted = (writable x s sorted.0, all_writable xs ss sorted.1)

  writable_integer : (x : Item) → IsInteger u vs x → IsWritable u (length vs) x
  writable_integer (variable k) (s, sorted, ranges) = writable (variable k) s sorted
  writable_integer (constant t v) integer = absurd integer
  writable_integer (number z) integer = tt
  writable_integer (cell f xs) (s, sorted, ranges) = writable (cell f xs) s sorted

  writable_sum : (sum : Sum) → IsIntegerSum u vs sum → IsWritableSum u (length vs) sum
  writable_sum sum (first, rest, few) =
      (writable_integer sum.first first, All-weaker (λ x. IsInteger u vs x.1) (IsWritablePart u (length vs)) (λ x integer. writable_integer x.1 integer) sum.rest rest)

  writable_value : (sum : Sum) (s : SortId) → IsValueOf u vs s sum → IsWritableSum u (length vs) sum
  writable_value sum s (single, sorted, names) =
      (writable sum.first s sorted, subst (All (IsWritablePart u (length vs))) (sym single) (All-nil (IsWritablePart u (length vs))))

  pub writable_sides : (left : Sum) (op : Op) (right : Sum) → AreComparable u vs left op right → IsWritableSum u (length vs) left × IsWritableSum u (length vs) right
  writable_sides left op right (inl (integers, others)) = (writable_sum left integers, writable_sum right others)
  writable_sides left op right (inr (equality, (s, value, other))) = (writable_value left s value, writable_value right s other)

  pub items_writable : (xs : Items) (t : TableId) → IsSomeAnd (slice_get u.tables t.0) (λ table. AreOfSorts u vs xs table.sorts) → AreWritable u (length vs) xs
  items_writable xs t sorted = taken_apart (slice_get u.tables t.0) (λ table. AreOfSorts u vs xs table.sorts) sorted (λ table items. all_writable xs table.sorts items)
