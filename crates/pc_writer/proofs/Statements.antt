-- The parts of a statement one after another.
use Rattle.std.proofs.Common.{◌≡◌, ℕ, Bool, zero, suc, ◌<◌, ◌≤◌, List, [], ◌∷◌, ◌++◌, length, map, Some, nat_lt, true, false, slice_get, slice_index_or, arith, rules, refl, ap, subst, ◌∙◌, codes, Vec, Box, Global}
use Rattle.std.proofs.lemmas.List.{length-map}
use Rattle.pc_sheet.specs.Sheet.{Universe, Statement, compare, in_table, negation, implies, iff, for_all, exists, counts}
use Rattle.pc_sheet.specs.Nesting.{tightness}
use Rattle.pc_sheet.specs.Views.{counting_of, item_of, items_of, sum_of, statement_of, statements_of}
use Rattle.pc_sheet.specs.WellSorted.{Variables, AreOfSorts, IsWellSorted, AreWellSorted}
use Rattle.pc_sheet.specs.declared.formula.Formula.{Formula, Compare, InTable, Not, Implies, Iff, ForAll, Exists, Count, the_lemmas}
use Rattle.pc_sheet.specs.declared.formula.Side.{Side}
use Rattle.pc_sheet.specs.declared.formula.Term.{Term}
use Rattle.pc_sheet.specs.declared.ids.SortId.{SortId}
use Rattle.pc_sheet.specs.declared.ids.TableId.{TableId}
use Rattle.pc_name.specs.declared.sign.Op.{Op}
use Rattle.pc_writer.specs.declared.scope.Variable as scope
use Rattle.pc_writer.specs.inside.Scope.{variable_of, variables_of}
use Rattle.pc_writer.specs.inside.Writable.{AreWritable, IsWritableSum}
use Rattle.pc_writer.proofs.Names.{there_within}
use Rattle.pc_writer.proofs.Items.{writable_sides, items_writable}
use Rattle.std.specs.Fmt.{decimal}
use Rattle.pc_writer.specs.FormulaText.{count_text, count_word, quantifier_text, enclosed, part_text, part_texts}

module _ (u : Universe) (vs : Variables) where
  pub length-part_texts : (asked : ℕ) (fs : List Formula) → length (part_texts u vs asked (statements_of (map statement_of fs))) ≡ length fs
  length-part_texts asked [] = refl
  length-part_texts asked (f ∷ fs) = ap suc (length-part_texts asked fs)

  pub part_text_at : (asked : ℕ) (fs : List Formula) (i : ℕ) (d : Formula) → i < length fs
      → slice_get (part_texts u vs asked (statements_of (map statement_of fs))) i ≡ Some (part_text u vs asked (statement_of (slice_index_or fs i d)))
  part_text_at asked [] i d below = absurd (omega (arith, below))
  part_text_at asked (f ∷ fs) zero d below = refl
  part_text_at asked (f ∷ fs) (suc i) d below = part_text_at asked fs i d (omega arith)

  pub sorted_at : (fs : List Formula) (i : ℕ) (d : Formula) → i < length fs → AreWellSorted u vs (statements_of (map statement_of fs)) → IsWellSorted u vs (statement_of (slice_index_or fs i d))
  sorted_at [] i d below all = absurd (omega (arith, below))
  sorted_at (f ∷ fs) zero d below all = all.0
  sorted_at (f ∷ fs) (suc i) d below all = sorted_at fs i d (omega arith) all.1

-- where the statement binds tightly enough for its place
pub bare : (asked : ℕ) (s : Statement) (text : List ℕ) → asked ≤ tightness s → enclosed asked s text ≡ text
bare asked s text tight = let not : nat_lt (tightness s) asked ≡ false = grind arith in rw not refl

-- where it doesn't
pub in_brackets : (asked : ℕ) (s : Statement) (text : List ℕ) → tightness s < asked → enclosed asked s text ≡ codes "(" ++ (text ++ codes ")")
in_brackets asked s text loose = let less : nat_lt (tightness s) asked ≡ true = grind arith in rw less refl

-- ---- what the formulas of the code stand for

pub of_Compare : (l : Side) (o : Op) (r : Side) → statement_of (Compare l o r) ≡ compare (sum_of l) o (sum_of r)
of_Compare l o r = search (rules, the_lemmas)

pub of_InTable : (t : TableId) (args : Vec Term Global) → statement_of (InTable t args) ≡ in_table t (items_of (map item_of args.items))
of_InTable t args = search (rules, the_lemmas)

pub of_Not : (f : Box Formula Global) → statement_of (Not f) ≡ negation (statement_of f.value)
of_Not f = search (rules, the_lemmas)

pub of_Implies : (f g : Box Formula Global) → statement_of (Implies f g) ≡ implies (statement_of f.value) (statement_of g.value)
of_Implies f g = search (rules, the_lemmas)

pub of_Iff : (f g : Box Formula Global) → statement_of (Iff f g) ≡ iff (statement_of f.value) (statement_of g.value)
of_Iff f g = search (rules, the_lemmas)

pub of_ForAll : (n : List ℕ) (s : SortId) (f : Box Formula Global) → statement_of (ForAll n s f) ≡ for_all n s (statement_of f.value)
of_ForAll n s f = search (rules, the_lemmas)

pub of_Exists : (n : List ℕ) (s : SortId) (f : Box Formula Global) → statement_of (Exists n s f) ≡ exists n s (statement_of f.value)
of_Exists n s f = search (rules, the_lemmas)

pub of_Count : (m : Bool) (k : ℕ) (n : List ℕ) (s : SortId) (f : Box Formula Global) → statement_of (Count m k n s f) ≡ counts (counting_of m k) n s (statement_of f.value)
of_Count m k n s f = search (rules, the_lemmas)

-- what stands before the body of a quantifier that counts, by whether it is at most
pub count_parts : (u : Universe) (m : Bool) (k : ℕ) (n : List ℕ) (s : SortId) → count_text u (counting_of m k) n s ≡ count_word m ++ (decimal k ++ quantifier_text u (codes " ") n s)
count_parts u true k n s = refl
count_parts u false k n s = refl

module _ (u : Universe) (vs : List scope.Variable) (f : Formula) where
  pub sides_writable : (l : Side) (o : Op) (r : Side) → f ≡ Compare l o r → IsWellSorted u (variables_of vs) (statement_of f) → IsWritableSum u (length vs) (sum_of l) × IsWritableSum u (length vs) (sum_of r)
  sides_writable l o r is sorted =
      let own = subst (IsWellSorted u (variables_of vs)) (ap statement_of is ∙ of_Compare l o r) sorted in
      subst (λ n. IsWritableSum u n (sum_of l) × IsWritableSum u n (sum_of r)) (length-map vs variable_of) (writable_sides u (variables_of vs) (sum_of l) o (sum_of r) own.0)

  pub arguments_writable : (t : TableId) (args : Vec Term Global) → f ≡ InTable t args → IsWellSorted u (variables_of vs) (statement_of f) → (t.0 < length u.tables) × AreWritable u (length vs) (items_of (map item_of args.items))
  arguments_writable t args is sorted =
      let own = subst (IsWellSorted u (variables_of vs)) (ap statement_of is ∙ of_InTable t args) sorted in
      let there = there_within u.tables t.0 (λ table. AreOfSorts u (variables_of vs) (items_of (map item_of args.items)) table.sorts) own.0 in
      let items = items_writable u (variables_of vs) (items_of (map item_of args.items)) t own.0 in
      (there, subst (λ n. AreWritable u n (items_of (map item_of args.items))) (length-map vs variable_of) items)
