-- Axioms, computed.
use Rattle.std.proofs.Common.{◌≡◌, ◌≢◌, ℕ, zero, suc, Bool, true, false, List, [], ◌∷◌, Option, Some, slice_get, AllPairs, Contains, All, arith, ap, refl, sym, ◌∙◌, subst}
use Rattle.std.proofs.lemmas.List.Elements.{All-nil, All-cons}
use Rattle.std.proofs.lemmas.List.Kept.{AllPairs-cons}
use Rattle.pc_sheet.specs.Sheet.{Universe, Statement, compare}
use Rattle.pc_sheet.specs.Truth.{Scope, value_or_first}
use Rattle.pc_sheet.specs.Entailment.{HasAll}
use Rattle.pc_sheet.specs.Reads.{IsAtom, GiveTruth}
use Rattle.pc_sheet.specs.WellFormed.{IsEntryOf}
use Rattle.pc_sheet.specs.declared.ids.CellId.{CellId}
use Rattle.pc_sheet.specs.declared.ids.ValueId.{ValueId}
use Rattle.pc_sheet.specs.declared.ids.Entry.{Entry}
use Rattle.pc_name.specs.declared.sign.Op.TheVariants.{Eq}
use Rattle.pc_laws.specs.Examples.{red, green, entry, cell_side, equal_cells, chain}
use Rattle.pc_laws.specs.Weights.{of_one_rule}
use Rattle.pc_accept.specs.Literals.{Literal}
use Rattle.pc_accept.specs.Axioms.{IsAtNumber, IsAtomClause}
use Rattle.pc_accept.specs.Worked.{it}
use Rattle.pc_worked_laws.specs.Axioms.{WorkedKinds, WorkedAxioms, negated, by_reads, three_reads}

pub worked_kinds : WorkedKinds
worked_kinds = record {
  no_number_zero = λ clause h. h;
  not_true = refl;
  not_false = refl;
  not_third = λ clause h. absurd (cc);
  and_first = refl;
  and_second = refl;
  and_all = refl;
  and_fourth = λ clause h. absurd (cc);
  or_first = refl;
  or_second = refl;
  or_some = refl;
  or_fourth = λ clause h. absurd (cc);
  implies_true = refl;
  implies_by_premise = refl;
  implies_by_conclusion = refl;
  implies_fourth = λ clause h. absurd (cc);
  iff_forwards = refl;
  iff_backwards = refl;
  iff_none = refl;
  iff_both = refl;
  iff_fifth = λ clause h. absurd (cc);
  each_first = refl;
  each_second = refl;
  each_all = refl;
  each_fourth = λ clause h. absurd (cc);
  some_first = refl;
  some_second = refl;
  some_some = refl;
  some_fourth = λ clause h. absurd (cc);
  at_least_true = refl;
  at_least_false = refl;
  at_least_third = λ clause h. h;
}

-- ---- what tells cells, values and literals apart

pub cells_differ : (c d : ℕ) (e f : Entry) → e.cell.0 ≡ c → f.cell.0 ≡ d → c ≢ d → e.cell ≢ f.cell
cells_differ c d e f is also other same = let number : CellId → ℕ = λ x. x.0 in other (sym is ∙ ap number same ∙ also)

pub red_not_green : red ≢ green
red_not_green is = let number : ValueId → ℕ = λ v. v.0 in let numbers : number red ≡ number green = ap number is in absurd (omega (arith, numbers))

pub value_at : (x : Option ValueId) (v : ValueId) → x ≡ Some v → value_or_first x ≡ v
value_at x v is = ap value_or_first is

abbrev Differ : Entry → Entry → Type 0
Differ e f = e.cell ≢ f.cell

none_differ : AllPairs Differ []
none_differ i j d below within = absurd (omega (arith, below, within))

pub one_differs : (e : Entry) → AllPairs Differ (e ∷ [])
one_differs e = AllPairs-cons Differ e [] (All-nil (Differ e)) none_differ

pub two_differ : (e f : Entry) → Differ e f → AllPairs Differ (e ∷ f ∷ [])
two_differ e f other = AllPairs-cons Differ e (f ∷ []) (All-cons (Differ e) f [] other (All-nil (Differ e))) (one_differs f)

three_differ : (e f g : Entry) → Differ e f → Differ e g → Differ f g → AllPairs Differ (e ∷ f ∷ g ∷ [])
three_differ e f g first second third =
    AllPairs-cons Differ e (f ∷ g ∷ []) (All-cons (Differ e) f (g ∷ []) first (All-cons (Differ e) g [] second (All-nil (Differ e)))) (two_differ f g third)

-- ---- reads of a = b

abbrev both_equal : Statement
both_equal = compare (cell_side 0) Eq (cell_side 1)

abbrev a_and_b : ValueId → ValueId → List Entry
a_and_b v w = entry 0 v ∷ entry 1 w ∷ []

same_value : (vs : List ValueId) (v w : ValueId) → slice_get vs 0 ≡ Some v → slice_get vs 1 ≡ Some w → value_or_first (slice_get vs 0) ≡ value_or_first (slice_get vs 1) → v ≡ w
same_value vs v w first second same = sym (value_at (slice_get vs 0) v first) ∙ same ∙ value_at (slice_get vs 1) w second

equal_reads : GiveTruth equal_cells.universe [] both_equal (entry 1 green ∷ entry 0 green ∷ []) true
equal_reads = record {
  atom = tt;
  distinct = two_differ (entry 1 green) (entry 0 green) (cells_differ 1 0 (entry 1 green) (entry 0 green) refl refl (λ is. absurd (omega (arith, is))));
  enough = λ a h c has. turned c has;
  truth = λ a h. (λ z. (refl, value_at (slice_get a 0) green (h 1 (entry 0 red) (omega arith)) ∙ sym (value_at (slice_get a 1) green (h 0 (entry 0 red) (omega arith)))), λ h'. refl);
}
  where
    turned : (c : ℕ) → Contains {X = ℕ} (0 ∷ 1 ∷ []) c → Contains {X = ℕ} (1 ∷ 0 ∷ []) c
    turned c (zero, l, is) = (1, omega arith, is)
    turned c (suc zero, l, is) = (0, omega arith, is)
    turned c (suc (suc k), l, is) = absurd (omega (arith, l))

pub other_reads : GiveTruth equal_cells.universe [] both_equal (a_and_b red green) false
other_reads = record {
  atom = tt;
  distinct = two_differ (entry 0 red) (entry 1 green) (cells_differ 0 1 (entry 0 red) (entry 1 green) refl refl (λ is. absurd (omega (arith, is))));
  enough = λ a h c has. has;
  truth = λ a h. (λ z. absurd (cc), λ h'. absurd (red_not_green (same_value a red green (h 0 (entry 0 red) (omega arith)) (h 1 (entry 0 red) (omega arith)) h'.1)));
}

more : GiveTruth (chain []).universe [] both_equal three_reads true
more = record {
  atom = tt;
  distinct = three_differ (entry 0 green) (entry 1 green) (entry 2 red)
      (cells_differ 0 1 (entry 0 green) (entry 1 green) refl refl (λ is. absurd (omega (arith, is))))
      (cells_differ 0 2 (entry 0 green) (entry 2 red) refl refl (λ is. absurd (omega (arith, is))))
      (cells_differ 1 2 (entry 1 green) (entry 2 red) refl refl (λ is. absurd (omega (arith, is))));
  enough = λ a h c has. among c has;
  truth = λ a h. (λ z. (refl, value_at (slice_get a 0) green (h 0 (entry 0 red) (omega arith)) ∙ sym (value_at (slice_get a 1) green (h 1 (entry 0 red) (omega arith)))), λ h'. refl);
}
  where
    among : (c : ℕ) → Contains {X = ℕ} (0 ∷ 1 ∷ []) c → Contains {X = ℕ} (0 ∷ 1 ∷ 2 ∷ []) c
    among c (zero, l, is) = (0, omega arith, is)
    among c (suc zero, l, is) = (1, omega arith, is)
    among c (suc (suc k), l, is) = absurd (omega (arith, l))

pub entries_of : (u : Universe) (e f : Entry) → IsEntryOf u e → IsEntryOf u f → All (IsEntryOf u) (e ∷ f ∷ [])
entries_of u e f p q = All-cons (IsEntryOf u) e (f ∷ []) p (All-cons (IsEntryOf u) f [] q (All-nil (IsEntryOf u)))

atom_true : IsAtomClause equal_cells 0 [] (entry 1 green ∷ entry 0 green ∷ []) (by_reads (entry 1 green ∷ entry 0 green ∷ []) (it true))
atom_true = record {
  scope = [];
  states = both_equal;
  at = refl;
  each = entries_of equal_cells.universe (entry 1 green) (entry 0 green) (omega arith) (omega arith);
  truth = true;
  given = equal_reads;
  is = refl;
}

atom_false : IsAtomClause equal_cells 0 [] (a_and_b red green) (by_reads (a_and_b red green) (it false))
atom_false = record {
  scope = [];
  states = both_equal;
  at = refl;
  each = entries_of equal_cells.universe (entry 0 red) (entry 1 green) (omega arith) (omega arith);
  truth = false;
  given = other_reads;
  is = refl;
}

more_reads : IsAtomClause (chain []) 0 [] three_reads (by_reads three_reads (it true))
more_reads = record {
  scope = [];
  states = both_equal;
  at = refl;
  each = All-cons (IsEntryOf (chain []).universe) (entry 0 green) (entry 1 green ∷ entry 2 red ∷ []) (omega arith) (entries_of (chain []).universe (entry 1 green) (entry 2 red) (omega arith) (omega arith));
  truth = true;
  given = more;
  is = refl;
}

-- ---- what isn't an axiom

no_clause : (number : ℕ) (clause : List Literal) → ¬ IsAtNumber [] number clause
no_clause zero clause h = h
no_clause (suc i) clause h = absurd (cc)

-- what is at a path is the one that is there
same_node : (m n : Scope × Statement) → Some m ≡ Some n → m ≡ n
same_node m n is = cc

at_negation : (reads : List Entry) (clause : List Literal) → ¬ IsAtomClause (of_one_rule negated) 0 [] reads clause
at_negation reads clause h =
    let IsOfAtom : Scope × Statement → Type 0 = λ n. IsAtom n.1 in
    subst IsOfAtom (sym (same_node ([], negated) (h.scope, h.states) h.at)) h.given.atom

-- what reads of a = b give
given : (reads : List Entry) (clause : List Literal) (h : IsAtomClause equal_cells 0 [] reads clause) → GiveTruth equal_cells.universe [] both_equal reads h.truth
given reads clause h =
    let Give : Scope × Statement → Type 0 = λ n. GiveTruth equal_cells.universe n.0 n.1 reads h.truth in
    subst Give (sym (same_node ([], both_equal) (h.scope, h.states) h.at)) h.given

has_reads : (v w : ValueId) → HasAll (v ∷ w ∷ []) (a_and_b v w)
has_reads v w zero d l = refl
has_reads v w (suc zero) d l = refl
has_reads v w (suc (suc k)) d l = absurd (omega (arith, l))

not_true : ¬ GiveTruth equal_cells.universe [] both_equal (a_and_b red green) true
not_true g = red_not_green ((g.truth (red ∷ green ∷ []) (has_reads red green)).0 refl).1

sign_of_last : List Literal → Bool
sign_of_last [] = false
sign_of_last (l ∷ []) = l.sign
sign_of_last (l ∷ m ∷ ls) = sign_of_last (m ∷ ls)

not_so : ¬ IsAtomClause equal_cells 0 [] (a_and_b red green) (by_reads (a_and_b red green) (it true))
unfolding sign_of_last
not_so h =
    let is : true ≡ h.truth = ap sign_of_last h.is in
    not_true (subst (GiveTruth equal_cells.universe [] both_equal (a_and_b red green)) (sym is) (given (a_and_b red green) (by_reads (a_and_b red green) (it true)) h))

has_first : HasAll (green ∷ green ∷ []) (entry 0 green ∷ [])
has_first zero d l = refl
has_first (suc k) d l = absurd (omega (arith, l))

has_none : HasAll (green ∷ green ∷ []) []
has_none k d l = absurd (omega (arith, l))

not_among_one : ¬ Contains {X = ℕ} (0 ∷ []) 1
not_among_one (zero, l, is) = absurd (omega (arith, is))
not_among_one (suc k, l, is) = absurd (omega (arith, l))

too_few : (clause : List Literal) → ¬ IsAtomClause equal_cells 0 [] (entry 0 green ∷ []) clause
too_few clause h =
    let g = given (entry 0 green ∷ []) clause h in
    not_among_one (g.enough (green ∷ green ∷ []) has_first 1 (1, omega arith, refl))

none : (clause : List Literal) → ¬ IsAtomClause equal_cells 0 [] [] clause
none clause h =
    let g = given [] clause h in
    let there = g.enough (green ∷ green ∷ []) has_none 1 (1, omega arith, refl) in
    absurd (omega (arith, there.1))

pub worked_axioms : WorkedAxioms
worked_axioms = record {
  some_value = refl;
  some_of_no_cell = λ clause h. h;
  one_value = (omega arith, omega arith, red_not_green, refl);
  one_value_turned = (omega arith, omega arith, λ is. red_not_green (sym is), refl);
  one_of_equals = λ clause h. h.2 refl;
  one_of_no_value = λ clause h. absurd (omega (arith, h.1));
  first_rule = refl;
  no_rule = λ clause h. h;
  node_at_atom = λ number clause h. no_clause number clause h;
  atom_at_negation = at_negation;
  atom_true = atom_true;
  atom_false = atom_false;
  not_so = not_so;
  more_reads = more_reads;
  too_few_reads = too_few;
  no_reads = none;
  read_twice = λ clause h. h.given.distinct 0 1 (entry 0 red) (omega arith) (omega arith) refl;
  read_otherwise = λ clause h. h.given.distinct 0 2 (entry 0 red) (omega arith) (omega arith) refl;
  read_of_no_cell = λ clause h. let within = h.each 2 (entry 0 red) (omega arith) in absurd (omega (arith, within));
}
