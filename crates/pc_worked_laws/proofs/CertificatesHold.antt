-- Certificates against a rule, and of few sets.
use Rattle.std.proofs.Common.{◌≡◌, ◌≢◌, ℕ, zero, suc, ◌<◌, ◌-◌, inr, true, false, not, List, [], ◌∷◌, length, map, get_or, Some, slice_get, All, Contains, arith, ap, refl, sym, ◌∙◌, subst}
use Rattle.std.proofs.lemmas.Bool.{false≢true}
use Rattle.std.proofs.lemmas.List.Elements.{All-nil, All-cons, All-contains}
use Rattle.pc_sheet.specs.Sheet.{Sheet}
use Rattle.pc_sheet.specs.Entailment.{RuleHolds, Fits, HasAll}
use Rattle.pc_sheet.specs.Reads.{looked_up_in_atom, GiveTruth}
use Rattle.pc_sheet.specs.Truth.{value_or_first, Holds}
use Rattle.pc_sheet.specs.WellFormed.{IsEntryOf}
use Rattle.pc_sheet.specs.declared.ids.ValueId.{ValueId}
use Rattle.pc_sheet.specs.declared.ids.Entry.{Entry}
use Rattle.pc_laws.specs.Examples.{red, green, entry, equal_cells, equals, is_color, chain}
use Rattle.pc_laws.proofs.Contained.{sub_none}
use Rattle.pc_lits.specs.Steps.{IsTautology}
use Rattle.pc_lemmas.proofs.Elements.{contains_first, contains_none}
use Rattle.pc_accept.specs.Literals.{Literal, node, positive, negative, opposite}
use Rattle.pc_accept.specs.Axioms.{axiom_rule, negated_entry, pair_of, IsAtomClause}
use Rattle.pc_accept.specs.Sets.{GivenSet, blocks_of}
use Rattle.pc_accept.specs.Accepts.{repairs, against, Line, taken, blocked, AreShown, DerivesClause, FitsOthers, IsLineClause, IsLineClauseBeside, BarsNothing, Accepts}
use Rattle.pc_accept.specs.Laws.{ShowsOthers}
use Rattle.pc_accept.specs.SetExamples.{two_ends, red_set, of_sets}
use Rattle.pc_accept.proofs.Refuting.{refuted}
use Rattle.pc_accept.proofs.SetsSound.{in_one}
use Rattle.pc_accept.proofs.Soundness.{has_same}
use Rattle.pc_accept.proofs.WorkedHold.{worked_refutation}
use Rattle.pc_accept.proofs.Worth.{worth}
use Rattle.pc_accept.specs.Asked.{asked}
use Rattle.pc_worked_laws.specs.Certificates.{of_rule, ends, ends_denied, first_equal, last_equal, answering, WorkedAgainst, WorkedOpposed, WorkedFewSets, WorkedWithin}
use Rattle.pc_worked_laws.proofs.AxiomsHold.{red_not_green, value_at, cells_differ, one_differs, two_differ, entries_of, other_reads}
use Rattle.pc_worked_laws.proofs.Computing.{has, lacks, is_consistent}

-- ---- an assignment of three colors

abbrev three : ValueId → ValueId → ValueId → List Entry
three u v w = entry 0 u ∷ entry 1 v ∷ entry 2 w ∷ []

in_order : (u v w : ValueId) (k : ℕ) (d : Entry) → k < 3 → (get_or (three u v w) k d).cell.0 ≡ k
in_order u v w zero d l = refl
in_order u v w (suc zero) d l = refl
in_order u v w (suc (suc zero)) d l = refl
in_order u v w (suc (suc (suc k))) d l = absurd (omega (arith, l))

has_ends : (v : ValueId) → HasAll (red ∷ v ∷ green ∷ []) ends
has_ends v zero d l = refl
has_ends v (suc zero) d l = refl
has_ends v (suc (suc k)) d l = absurd (omega (arith, l))

-- each rule but one is true
second_left : FitsOthers two_ends 1 (red ∷ red ∷ green ∷ [])
second_left zero l other = (refl, refl)
second_left (suc zero) l other = absurd (other refl)
second_left (suc (suc k)) l other = absurd (omega (arith, l))

first_left : FitsOthers two_ends 0 (red ∷ green ∷ green ∷ [])
first_left zero l other = absurd (other refl)
first_left (suc zero) l other = (refl, refl)
first_left (suc (suc k)) l other = absurd (omega (arith, l))

ends_entered : All (Contains two_ends.entries) ends
ends_entered =
    let first = has two_ends.entries (entry 0 red) refl in
    let last = has two_ends.entries (entry 2 green) refl in
    All-cons (Contains two_ends.entries) (entry 0 red) (entry 2 green ∷ []) first (All-cons (Contains two_ends.entries) (entry 2 green) [] last (All-nil (Contains two_ends.entries)))

ends_shown : (r : ℕ) (v : ValueId) → v.0 < 2 → FitsOthers two_ends r (red ∷ v ∷ green ∷ []) → AreShown two_ends (FitsOthers two_ends r) ends (three red v green)
ends_shown r v below fits = record { entered = ends_entered; in_order = record { cells = in_order red v green }; assigns = (omega arith, (below, (omega arith, tt))); has = has_ends v; fits = fits }

-- ---- the atoms

abbrev clause_at : ℕ → ℕ → ℕ → List Literal
clause_at r c d = negated_entry (entry c red) ∷ negated_entry (entry d green) ∷ negative (node r []) ∷ []

-- a cell that is red isn't equal to one that is green
ends_differ : (c d : ℕ) → c ≢ d → ((a : List ValueId) → looked_up_in_atom two_ends.universe a [] (equals c d) ≡ c ∷ d ∷ [])
    → ((a : List ValueId) → Holds two_ends.universe a [] (equals c d) → value_or_first (slice_get a c) ≡ value_or_first (slice_get a d))
    → GiveTruth two_ends.universe [] (equals c d) (entry c red ∷ entry d green ∷ []) false
ends_differ c d other looked same = record {
  atom = tt;
  distinct = two_differ (entry c red) (entry d green) (cells_differ c d (entry c red) (entry d green) refl refl other);
  enough = λ a h f has. subst (λ cells. Contains cells f) (looked a) has;
  truth = λ a h. (λ z. absurd (cc), λ h'. absurd (red_not_green (sym (value_at (slice_get a c) red (h 0 (entry c red) (omega arith))) ∙ same a h' ∙ value_at (slice_get a d) green (h 1 (entry c red) (omega arith)))));
}

first_atom : IsAtomClause two_ends 0 [] (entry 0 red ∷ entry 1 green ∷ []) (clause_at 0 0 1)
first_atom = record {
  scope = [];
  states = equals 0 1;
  at = refl;
  each = entries_of two_ends.universe (entry 0 red) (entry 1 green) (omega arith) (omega arith);
  truth = false;
  given = ends_differ 0 1 (λ is. absurd (omega (arith, is))) (λ a. refl) (λ a h. h.1);
  is = refl;
}

last_atom : IsAtomClause two_ends 1 [] (entry 1 red ∷ entry 2 green ∷ []) (clause_at 1 1 2)
last_atom = record {
  scope = [];
  states = equals 1 2;
  at = refl;
  each = entries_of two_ends.universe (entry 1 red) (entry 2 green) (omega arith) (omega arith);
  truth = false;
  given = ends_differ 1 2 (λ is. absurd (omega (arith, is))) (λ a. refl) (λ a h. h.1);
  is = refl;
}

-- ---- a clause of negated entries is no tautology

abbrev IsNegative : Literal → Type 0
IsNegative l = l.sign ≡ false

no_tautology : (clause : List Literal) → All IsNegative clause → ¬ IsTautology opposite clause
no_tautology clause negative h = false≢true (sym (All-contains IsNegative clause (opposite h.0) negative h.2) ∙ ap not (All-contains IsNegative clause h.0 negative h.1))

one_negative : (l : Literal) → IsNegative l → All IsNegative (l ∷ [])
one_negative l is = All-cons IsNegative l [] is (All-nil IsNegative)

abbrev not_a : Literal
not_a = negated_entry (entry 0 red)

abbrev not_c : Literal
not_c = negated_entry (entry 2 green)

both_negative : All IsNegative (not_a ∷ not_c ∷ [])
both_negative = All-cons IsNegative not_a (not_c ∷ []) refl (one_negative not_c refl)

-- ---- the ends

abbrev some_color : List Literal
some_color = positive (pair_of (entry 1 red)) ∷ positive (pair_of (entry 1 green)) ∷ []

abbrev clauses : List (List Literal)
clauses = (positive (node 0 []) ∷ []) ∷ (positive (node 1 []) ∷ []) ∷ clause_at 0 0 1 ∷ clause_at 1 1 2 ∷ some_color ∷ (not_a ∷ not_c ∷ []) ∷ []

each_line : (i : ℕ) (d : Line) → i < 6 → IsLineClause two_ends clauses i (get_or ends_denied i d) (get_or clauses i [])
each_line zero d l = refl
each_line (suc zero) d l = refl
each_line (suc (suc zero)) d l = first_atom
each_line (suc (suc (suc zero))) d l = last_atom
each_line (suc (suc (suc (suc zero)))) d l = refl
each_line (suc (suc (suc (suc (suc zero))))) d l =
    (refl, below, inr (no_tautology (not_a ∷ not_c ∷ []) both_negative, refuted (not_a ∷ not_c ∷ []) (positive (node 0 []) ∷ []) (clause_at 0 0 1 ∷ some_color ∷ (positive (node 1 []) ∷ []) ∷ clause_at 1 1 2 ∷ []) refl))
  where
    below : All (λ h. h < 5) (0 ∷ 2 ∷ 4 ∷ 1 ∷ 3 ∷ [])
    below zero d l = omega arith
    below (suc zero) d l = omega arith
    below (suc (suc zero)) d l = omega arith
    below (suc (suc (suc zero))) d l = omega arith
    below (suc (suc (suc (suc zero)))) d l = omega arith
    below (suc (suc (suc (suc (suc k))))) d l = absurd (omega (arith, l))
each_line (suc (suc (suc (suc (suc (suc i)))))) d l = absurd (omega (arith, l))

ends_derived : DerivesClause two_ends ends_denied (map negated_entry ends)
ends_derived = record { clauses = clauses; derivation = record { count = refl; each = each_line }; ends = record { some_line = omega arith; within = λ l has. has } }

-- ---- the asked formula

abbrev there : Sheet
there = asked equal_cells (is_color 1 red)

rule_atom : IsAtomClause there 0 [] (entry 0 red ∷ entry 1 green ∷ []) (clause_at 0 0 1)
rule_atom = record {
  scope = [];
  states = equals 0 1;
  at = refl;
  each = entries_of there.universe (entry 0 red) (entry 1 green) (omega arith) (omega arith);
  truth = false;
  given = other_reads;
  is = refl;
}

abbrev b_is_red : Literal
b_is_red = positive (node 1 (0 ∷ []))

asked_atom : IsAtomClause there 1 (0 ∷ []) (entry 1 red ∷ []) (negated_entry (entry 1 red) ∷ b_is_red ∷ [])
asked_atom = record {
  scope = [];
  states = is_color 1 red;
  at = refl;
  each = All-cons (IsEntryOf there.universe) (entry 1 red) [] (omega arith) (All-nil (IsEntryOf there.universe));
  truth = true;
  given = record {
    atom = tt;
    distinct = one_differs (entry 1 red);
    enough = λ a h c has. has;
    truth = λ a h. (λ z. (refl, value_at (slice_get a 1) red (h 0 (entry 0 red) (omega arith))), λ h'. refl);
  };
  is = refl;
}

abbrev asked_clauses : List (List Literal)
asked_clauses =
    (positive (node 0 []) ∷ []) ∷ (positive (node 1 []) ∷ []) ∷ (negative (node 1 []) ∷ opposite b_is_red ∷ []) ∷ (negated_entry (entry 1 red) ∷ b_is_red ∷ []) ∷ some_color ∷ clause_at 0 0 1
    ∷ (not_a ∷ []) ∷ []

each_asked : (i : ℕ) (d : Line) → i < 7 → IsLineClause there asked_clauses i (get_or answering i d) (get_or asked_clauses i [])
each_asked zero d l = refl
each_asked (suc zero) d l = refl
each_asked (suc (suc zero)) d l = refl
each_asked (suc (suc (suc zero))) d l = asked_atom
each_asked (suc (suc (suc (suc zero)))) d l = refl
each_asked (suc (suc (suc (suc (suc zero))))) d l = rule_atom
each_asked (suc (suc (suc (suc (suc (suc zero)))))) d l = (
  refl,
  below,
  inr (
    no_tautology (not_a ∷ []) (one_negative not_a refl),
    refuted (not_a ∷ []) (positive (node 1 []) ∷ [])
        ((negative (node 1 []) ∷ opposite b_is_red ∷ []) ∷ (negated_entry (entry 1 red) ∷ b_is_red ∷ []) ∷ some_color ∷ (positive (node 0 []) ∷ []) ∷ clause_at 0 0 1 ∷ []) refl,
  ),
)
  where
    below : All (λ h. h < 6) (1 ∷ 2 ∷ 3 ∷ 4 ∷ 0 ∷ 5 ∷ [])
    below zero d l = omega arith
    below (suc zero) d l = omega arith
    below (suc (suc zero)) d l = omega arith
    below (suc (suc (suc zero))) d l = omega arith
    below (suc (suc (suc (suc zero)))) d l = omega arith
    below (suc (suc (suc (suc (suc zero))))) d l = omega arith
    below (suc (suc (suc (suc (suc (suc k)))))) d l = absurd (omega (arith, l))
each_asked (suc (suc (suc (suc (suc (suc (suc i))))))) d l = absurd (omega (arith, l))

both_colors : (v w : ValueId) (k : ℕ) (d : Entry) → k < 2 → (get_or (entry 0 v ∷ entry 1 w ∷ []) k d).cell.0 ≡ k
both_colors v w zero d l = refl
both_colors v w (suc zero) d l = refl
both_colors v w (suc (suc k)) d l = absurd (omega (arith, l))

-- a = b, whatever the asked formula is
first_true : (v : ValueId) → FitsOthers there 1 (v ∷ v ∷ [])
first_true v zero l other = (refl, refl)
first_true v (suc zero) l other = absurd (other refl)
first_true v (suc (suc k)) l other = absurd (omega (arith, l))

asked_has : HasAll (red ∷ red ∷ []) (entry 0 red ∷ [])
asked_has zero d l = refl
asked_has (suc k) d l = absurd (omega (arith, l))

answered : Accepts there (of_rule 1 (entry 0 red ∷ []) (entry 0 red ∷ entry 1 red ∷ []) answering)
answered = record {
  rule = omega arith;
  shown = record {
    entered = All-cons (Contains there.entries) (entry 0 red) [] (has there.entries (entry 0 red) refl) (All-nil (Contains there.entries));
    in_order = record { cells = both_colors red red };
    assigns = (omega arith, (omega arith, tt));
    has = asked_has;
    fits = first_true red;
  };
  derives = record { clauses = asked_clauses; derivation = record { count = refl; each = each_asked }; ends = record { some_line = omega arith; within = λ l has. has } };
}

-- ---- what isn't accepted

-- an assignment with the used entries makes every rule true
not_against : (sheet : Sheet) (r : ℕ) (uses values : List Entry) (lines : List Line) (vs : List ValueId) → ShowsOthers sheet r uses vs → RuleHolds sheet vs r
    → ¬ Accepts sheet (of_rule r uses values lines)
not_against sheet r uses values lines vs shows is h =
    let w = worth sheet (of_rule r uses values lines) (against r) h in
    w.2.each_one vs (record { assigns = shows.assigns; fits = shows.fits; has = has_same vs w.0 uses (λ e. (w.1.same e).0) shows.has }) is

other_broken : (lines : List Line) → ¬ Accepts two_ends (of_rule 1 ends last_equal lines)
other_broken lines h = red_not_green (h.shown.fits 0 (omega arith) (λ is. absurd (omega (arith, is)))).1

use_not_held : (lines : List Line) → ¬ Accepts two_ends (of_rule 1 ends (three red red red) lines)
use_not_held lines h =
    let shown : Some red ≡ Some green = h.shown.has 1 (entry 0 red) (omega arith) in
    red_not_green (value_at (Some red) green shown)

not_entered : (lines : List Line) → ¬ Accepts two_ends (of_rule 1 (entry 1 red ∷ entry 2 green ∷ []) first_equal lines)
not_entered lines h = lacks two_ends.entries (entry 1 red) refl (h.shown.entered 0 (entry 0 red) (omega arith))

all_red : FitsOthers two_ends 1 (red ∷ red ∷ red ∷ [])
all_red zero l other = (refl, refl)
all_red (suc zero) l other = absurd (other refl)
all_red (suc (suc k)) l other = absurd (omega (arith, l))

has_first : HasAll (red ∷ red ∷ red ∷ []) (entry 0 red ∷ [])
has_first zero d l = refl
has_first (suc k) d l = absurd (omega (arith, l))

unused : (lines : List Line) → ¬ Accepts two_ends (of_rule 1 (entry 0 red ∷ []) first_equal lines)
unused lines = not_against two_ends 1 (entry 0 red ∷ []) first_equal lines (red ∷ red ∷ red ∷ []) (record { assigns = (omega arith, (omega arith, (omega arith, tt))); fits = all_red; has = has_first }) (refl, refl)

no_line : ¬ Accepts two_ends (of_rule 1 ends first_equal [])
no_line h = let some = h.derives.ends.some_line in let none = h.derives.derivation.count in absurd (omega (arith, some, none))

unfinished : ¬ Accepts two_ends (of_rule 1 ends first_equal (taken (axiom_rule 1) ∷ []))
unfinished h =
    let d = h.derives in
    let rule : Literal = positive (node 1 []) in
    let count : length d.clauses ≡ 1 = d.derivation.count in
    let first : get_or d.clauses 0 [] ≡ rule ∷ [] = d.derivation.each 0 (taken (axiom_rule 1)) (omega arith) in
    let last : get_or d.clauses (length d.clauses - 1) [] ≡ rule ∷ [] = ap (λ n. get_or d.clauses (n - 1) []) count ∙ first in
    let among = d.ends.within rule (subst (λ c. Contains c rule) (sym last) (contains_first rule [])) in
    false≢true (sym (All-contains IsNegative (map negated_entry ends) rule both_negative among))

has_other : HasAll (green ∷ green ∷ []) (entry 1 green ∷ [])
has_other zero d l = refl
has_other (suc k) d l = absurd (omega (arith, l))

denied : RuleHolds there (green ∷ green ∷ []) 1
denied h = red_not_green (sym h.1)

by_other : (lines : List Line) → ¬ Accepts there (of_rule 1 (entry 1 green ∷ []) (entry 0 green ∷ entry 1 green ∷ []) lines)
by_other lines =
    not_against there 1 (entry 1 green ∷ []) (entry 0 green ∷ entry 1 green ∷ []) lines (green ∷ green ∷ []) (record { assigns = (omega arith, (omega arith, tt)); fits = first_true green; has = has_other }) denied

by_none : (lines : List Line) → ¬ Accepts there (of_rule 1 [] (entry 0 red ∷ entry 1 red ∷ []) lines)
by_none lines =
    not_against there 1 [] (entry 0 red ∷ entry 1 red ∷ []) lines (green ∷ green ∷ []) (record { assigns = (omega arith, (omega arith, tt)); fits = first_true green; has = λ k d l. absurd (omega (arith, l)) }) denied

pub worked_against : WorkedAgainst
worked_against = record {
  of_second = record { rule = omega arith; shown = ends_shown 1 red (omega arith) second_left; derives = ends_derived };
  of_first = record { rule = omega arith; shown = ends_shown 0 green (omega arith) first_left; derives = ends_derived };
  other_broken = other_broken;
  use_not_held = use_not_held;
  no_rule = λ lines h. let rule = h.rule in absurd (omega (arith, rule));
  not_entered = not_entered;
  unused = unused;
  no_line = no_line;
  unfinished = unfinished;
  answered = answered;
  by_other = by_other;
  by_none = by_none;
}

pub worked_opposed : WorkedOpposed
worked_opposed = record {
  both_ends =
      let w = worth two_ends (of_rule 1 ends first_equal ends_denied) (against 1) worked_against.of_second in
      let one = w.2.some_one in
      record {
        some_one = (one.0, record { assigns = one.1.assigns; fits = one.1.fits; has = has_same one.0 ends w.0 (λ e. (w.1.same e).1) one.1.has });
        each_one = λ a shows is. w.2.each_one a (record { assigns = shows.assigns; fits = shows.fits; has = has_same a w.0 ends (λ e. (w.1.same e).0) shows.has }) is;
      };
  one_end = λ h. h.each_one (red ∷ red ∷ red ∷ []) (record { assigns = (omega arith, (omega arith, (omega arith, tt))); fits = all_red; has = has_first }) (refl, refl);
  of_none = λ h.
      let has = h.some_one.1.has in
      let both : Some red ≡ Some green = sym (has 0 (entry 0 red) (omega arith)) ∙ has 1 (entry 0 red) (omega arith) in
      red_not_green (value_at (Some red) green both);
}

-- ---- one set, and none

abbrev alone : Sheet
alone = chain (entry 0 red ∷ [])

fits_red : Fits alone (red ∷ red ∷ red ∷ [])
fits_red zero d l = (refl, refl)
fits_red (suc zero) d l = (refl, refl)
fits_red (suc (suc k)) d l = absurd (omega (arith, l))

abbrev IsShown : GivenSet → Type 0
IsShown s = AreShown alone (Fits alone) s.uses s.values

red_shown : IsShown red_set
red_shown = record {
  entered = All-cons (Contains alone.entries) (entry 0 red) [] (contains_first (entry 0 red) []) (All-nil (Contains alone.entries));
  in_order = record { cells = in_order red red red };
  assigns = (omega arith, (omega arith, (omega arith, tt)));
  has = has_first;
  fits = fits_red;
}

abbrev IsFree : GivenSet → Type 0
IsFree s = ¬ (slice_get (map (λ (e : Entry). e.value) s.values) 1 ≡ Some green)

pub worked_few_sets : WorkedFewSets
worked_few_sets = record {
  one = record {
    no_uses = refl;
    no_values = refl;
    shown = All-cons IsShown red_set [] red_shown (All-nil IsShown);
    free = All-cons IsFree red_set [] (λ is. red_not_green (value_at (Some red) green is)) (All-nil IsFree);
    apart = λ i j d l m. absurd (omega (arith, l, m));
    derives = record { clauses = [] ∷ []; derivation = record { count = refl; each = the_line }; ends = record { some_line = omega arith; within = λ l has. has } };
  };
  one_barred = λ lines h. h.free 0 red_set (omega arith) refl;
  none = record { no_uses = refl; no_values = refl; shown = λ i d l. absurd (omega (arith, l)); free = λ i d l. absurd (omega (arith, l)); apart = λ i j d l m. absurd (omega (arith, l, m)); derives = worked_refutation.accepted.derives };
  nothing_implied = record { no_uses = refl; no_values = refl; shown = λ i d l. absurd (omega (arith, l)); free = λ i d l. absurd (omega (arith, l)); apart = λ i j d l m. absurd (omega (arith, l, m)); derives = worked_refutation.accepted.derives };
  none_left_out = λ lines h.
      let one = in_one two_ends BarsNothing (of_sets repairs [] lines) h [] (sub_none two_ends.entries) (is_consistent two_ends 2 (2 ∷ 2 ∷ []) refl [] refl) in
      contains_none one.0 one.1;
}
  where
    the_line : (i : ℕ) (d : Line) → i < 1 → IsLineClauseBeside alone (blocks_of alone (red_set ∷ [])) ([] ∷ []) i (get_or (blocked 0 ∷ []) i d) (get_or ([] ∷ []) i [])
    the_line zero d l = refl
    the_line (suc i) d l = absurd (omega (arith, l))

pub worked_within : WorkedWithin
worked_within = record {
  behind = λ lines h. (h.apart 0 2 red_set (omega arith) (omega arith)).1 (λ e has. absurd (omega (arith, has.1)));
  before = λ lines h. (h.apart 0 1 red_set (omega arith) (omega arith)).0 (λ e has. absurd (omega (arith, has.1)));
}
