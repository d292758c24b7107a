-- The worked cases hold.
use Rattle.std.proofs.Common.{◌≡◌, ◌≢◌, ℕ, zero, suc, ◌<◌, ◌-◌, inl, inr, false, pos, List, [], ◌∷◌, length, get_or, Option, Some, slice_get, sum_by, All, Contains, arith, ap, refl, sym, ◌∙◌, subst}
use Rattle.std.proofs.lemmas.Int.{ints}
use Rattle.std.proofs.lemmas.List.Elements.{All-nil, All-cons}
use Rattle.std.proofs.lemmas.List.Sums.{sum_by-cons}
use Rattle.pc_name.specs.declared.sign.Sign.{Sign}
use Rattle.pc_name.specs.declared.sign.Sign.TheVariants.{Plus}
use Rattle.pc_name.specs.declared.sign.Op.TheVariants.{Eq}
use Rattle.pc_sheet.specs.Sheet.{Universe, Statement, Item, number, compare}
use Rattle.pc_sheet.specs.Truth.{value_or_first}
use Rattle.pc_sheet.specs.Entailment.{HasAll}
use Rattle.pc_sheet.specs.WellSorted.{IsInteger, IsIntegerSum, IsSmallNumber, reads_in_added}
use Rattle.pc_sheet.specs.declared.ids.CellId.{CellId}
use Rattle.pc_sheet.specs.declared.ids.ValueId.{ValueId}
use Rattle.pc_sheet.specs.declared.ids.Entry.{Entry}
use Rattle.pc_laws.specs.Examples.{red, green, entry, color_side}
use Rattle.pc_laws.specs.Truths.{sort, blocks, x, single}
use Rattle.pc_lits.specs.Steps.{IsTautology, Refutes}
use Rattle.pc_lemmas.proofs.Elements.{contains_first}
use Rattle.pc_accept.specs.Literals.{Literal, node, positive, opposite}
use Rattle.pc_accept.specs.Axioms.{axiom_rule, IsAtomClause}
use Rattle.pc_accept.specs.Accepts.{Line, taken, IsLineClause, Accepts}
use Rattle.pc_accept.specs.Worked.{WorkedPaths, WorkedCounters, WorkedReads, WorkedLimits, WorkedRanges, WorkedRefutation, more_x, ranges, z_of_lowest, w, never, refuting, refutation}

pub worked_paths : WorkedPaths
worked_paths = record { instance = refl; past_the_last = refl; below_an_atom = refl }

pub worked_counters : WorkedCounters
worked_counters = record {
  body = refl;
  second_of_first = refl;
  past_the_last = refl;
  below_a_counter = refl;
  node_true = refl;
  node_false = refl;
  no_third = λ clause h. h;
  one_of_first = refl;
  no_second = λ clause h. absurd (cc);
  no_third_of_first = λ clause h. absurd (cc);
  one_of_first_back = refl;
  two_by_first = refl;
  never_two = refl;
  no_third_of_two = λ clause h. absurd (cc);
  no_fourth_of_two = λ clause h. absurd (cc);
  one_of_both = refl;
  no_second_of_both = λ clause h. absurd (cc);
  one_of_both_by_first = refl;
  one_of_both_by_last = refl;
  two_with_last = refl;
  two_with_first = refl;
  two_back = refl;
  two_back_by_last = refl;
  no_fifth = λ clause h. h;
}

-- ---- reads

value_at : (o : Option ValueId) (v : ValueId) → o ≡ Some v → value_or_first o ≡ v
value_at o v is = ap value_or_first is

abbrev greens : List Entry
greens = entry 0 green ∷ entry 1 green ∷ []

cells_differ : (i j : ℕ) (d : Entry) → i < j → j < 2 → (get_or greens i d).cell ≢ (get_or greens j d).cell
cells_differ zero zero d l m is = absurd (omega arith)
cells_differ zero (suc zero) d l m is = let number_of : CellId → ℕ = λ c. c.0 in let numbers : number_of (record { 0 = 0 }) ≡ number_of (record { 0 = 1 }) = ap number_of is in absurd (omega (arith, numbers))
cells_differ zero (suc (suc j)) d l m is = absurd (omega arith)
cells_differ (suc i) zero d l m is = absurd (omega arith)
cells_differ (suc i) (suc j) d l m is = absurd (omega arith)

both_green : (a : List ValueId) → HasAll a greens → value_or_first (slice_get a 0) ≡ value_or_first (slice_get a 1)
both_green a has = value_at (slice_get a 0) green (has 0 (entry 0 red) (omega arith)) ∙ sym (value_at (slice_get a 1) green (has 1 (entry 0 red) (omega arith)))

not_read : ¬ Contains {X = ℕ} (0 ∷ []) 1
not_read (zero, l, is) = absurd (omega (arith, is))
not_read (suc k, l, is) = absurd (omega (arith, l))

pub worked_reads : WorkedReads
worked_reads = record {
  enough = record {
    atom = tt;
    distinct = cells_differ;
    enough = λ a h c has. has;
    truth = λ a h. (λ z. (refl, both_green a h), λ h'. refl);
  };
  too_few = λ a h. (1, (1, omega arith, refl), not_read);
}

-- ---- limits

x_integer : IsInteger blocks [] x
x_integer = (sort 0, (refl, tt), tt)

zero_small : IsSmallNumber (pos 0)
zero_small = (omega (arith, ints), omega (arith, ints))

alone : (u : Universe) (i : Item) → IsInteger u [] i → IsIntegerSum u [] (single i)
alone u i is = (is, All-nil (λ (p : Sign × Item). IsInteger u [] p.1), omega arith)

more_integers : (n : ℕ) → All (λ (p : Sign × Item). IsInteger blocks [] p.1) (more_x n)
more_integers zero = All-nil (λ (p : Sign × Item). IsInteger blocks [] p.1)
more_integers (suc n) = All-cons (λ (p : Sign × Item). IsInteger blocks [] p.1) (Plus, x) (more_x n) x_integer (more_integers n)

many_x : (n : ℕ) → length (more_x n) ≡ n
many_x zero = refl
many_x (suc n) = let rest = many_x n in omega (arith, rest)

reads_of_x : (n : ℕ) → sum_by reads_in_added (more_x n) ≡ n
reads_of_x zero = refl
reads_of_x (suc n) =
    let rest = reads_of_x n in
    let all = sum_by-cons reads_in_added (Plus, x) (more_x n) in
    omega (arith, rest, all)

pub worked_limits : WorkedLimits
worked_limits = record {
  sixteen_reads = (let many = many_x 15 in let reads = reads_of_x 15 in (inl ((x_integer, more_integers 15, omega (arith, many)), alone blocks (number (pos 0)) zero_small), omega (arith, reads)));
  seventeen_reads = λ h. (let reads = reads_of_x 16 in let few = h.1 in absurd (omega (arith, reads, few)));
  no_seventeenth_quantifier = λ vs name s many new. (let depth = new.depth in absurd (omega (arith, many, depth)));
}

-- ---- ranges

z_integer : IsInteger ranges [] z_of_lowest
z_integer = (sort 0, (refl, ((refl, omega arith), tt)), tt)

w_integer : IsInteger ranges [] w
w_integer = (sort 1, (refl, tt), tt)

pub worked_ranges : WorkedRanges
worked_ranges = record {
  as_argument = (inl (alone ranges z_of_lowest z_integer, alone ranges (number (pos 0)) zero_small), omega arith);
  as_item = λ h. elim h.0 [ inl sums ↦ sums.0.0 | inr values ↦ values.1.2.1 ];
  two_ranges = (inl (alone ranges z_of_lowest z_integer, alone ranges w w_integer), omega arith);
}

-- ---- a certificate of inconsistency

red_not_green : red ≢ green
red_not_green is = let number_of : ValueId → ℕ = λ v. v.0 in let numbers : number_of red ≡ number_of green = ap number_of is in absurd (omega (arith, numbers))

abbrev rule : Literal
rule = positive (node 0 [])

abbrev clauses : List (List Literal)
clauses = (rule ∷ []) ∷ (opposite rule ∷ []) ∷ [] ∷ []

atom_clause : IsAtomClause never 0 [] [] (opposite rule ∷ [])
atom_clause = record {
  scope = [];
  states = states;
  at = refl;
  each = λ i d l. absurd (omega arith);
  truth = false;
  given = record {
    atom = tt;
    distinct = λ i j d l m. absurd (omega arith);
    enough = λ a h c has. has;
    truth = λ a h. (λ z. absurd (cc), λ h'. absurd (red_not_green h'.1));
  };
  is = refl;
}
  where
    states : Statement
    states = compare (color_side red) Eq (color_side green)

nothing_in : (l : Literal) → ¬ Contains [] l
nothing_in l has = absurd (omega (arith, has.1))

only : (l m : Literal) → Contains (l ∷ []) m → l ≡ m
only l m (zero, below, is) = is
only l m (suc k, below, is) = absurd (omega (arith, below))

no_tautology : ¬ IsTautology opposite []
no_tautology h = nothing_in h.0 h.1

refuted : Refutes opposite [] ((rule ∷ []) ∷ (opposite rule ∷ []) ∷ [])
refuted = (
  rule,
  (contains_first rule [], nothing_in rule, λ m has other. absurd (other (sym (only rule m has)))),
  λ m has. subst (Contains (opposite rule ∷ [])) (only (opposite rule) m has) (contains_first (opposite rule) []),
)

each_line : (i : ℕ) (d : Line) → i < 3 → IsLineClause never clauses i (get_or refuting i d) (get_or clauses i [])
each_line zero d l = refl
each_line (suc zero) d l = atom_clause
each_line (suc (suc zero)) d l = (refl, below, inr (no_tautology, refuted))
  where
    below : All (λ h. h < 2) (0 ∷ 1 ∷ [])
    below zero d l = omega arith
    below (suc zero) d l = omega arith
    below (suc (suc k)) d l = absurd (omega arith)
each_line (suc (suc (suc i))) d l = absurd (omega arith)

refutation_accepted : Accepts never (refutation refuting)
refutation_accepted = record {
  no_uses = refl;
  no_values = refl;
  derives = record { clauses = clauses; derivation = record { count = refl; each = each_line }; ends = record { some_line = omega arith; within = λ l has. has } };
}

unfinished : ¬ Accepts never (refutation (taken (axiom_rule 0) ∷ []))
unfinished h =
    let d = h.derives in
    let at : ℕ → List Literal = λ n. get_or d.clauses n [] in
    let count : length d.clauses ≡ 1 = d.derivation.count in
    let first : get_or d.clauses 0 [] ≡ rule ∷ [] = d.derivation.each 0 (taken (axiom_rule 0)) (omega arith) in
    let last : get_or d.clauses (length d.clauses - 1) [] ≡ rule ∷ [] = ap (λ n. get_or d.clauses (n - 1) []) count ∙ first in
    nothing_in rule (d.ends.within rule (subst (λ c. Contains c rule) (sym last) (contains_first rule [])))

pub worked_refutation : WorkedRefutation
worked_refutation = record { accepted = refutation_accepted; unfinished = unfinished }
