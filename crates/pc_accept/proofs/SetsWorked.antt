-- The worked certificates of sets.
use Rattle.std.proofs.Common.{◌≡◌, ◌≢◌, ℕ, zero, suc, ◌<◌, inl, inr, false, List, [], ◌∷◌, get_or, Some, slice_get, All, AllPairs, Contains, arith, ap, refl, sym, ◌∙◌, subst}
use Rattle.std.proofs.lemmas.List.Elements.{All-nil, All-cons}
use Rattle.pc_sheet.specs.Sheet.{compare}
use Rattle.pc_sheet.specs.Truth.{Holds, value_or_first}
use Rattle.pc_sheet.specs.Entailment.{HasAll, Fits}
use Rattle.pc_sheet.specs.WellFormed.{IsEntryOf}
use Rattle.pc_sheet.specs.declared.ids.CellId.{CellId}
use Rattle.pc_sheet.specs.declared.ids.ValueId.{ValueId}
use Rattle.pc_sheet.specs.declared.ids.Entry.{Entry}
use Rattle.pc_laws.specs.Examples.{red, green, entry, cell_side}
use Rattle.pc_name.specs.declared.sign.Op.TheVariants.{Eq}
use Rattle.pc_lits.specs.Steps.{IsTautology}
use Rattle.pc_lemmas.proofs.Elements.{contains_first, contains_later, contains_cases, contains_none}
use Rattle.pc_accept.specs.Literals.{Literal, node, positive, negative, opposite}
use Rattle.pc_accept.specs.Axioms.{negated_entry, pair_of, IsAtomClause}
use Rattle.pc_accept.specs.Sets.{GivenSet, blocks_of, positive_entry, NeitherIsWithin}
use Rattle.pc_accept.specs.Accepts.{Line, blocked, repairs, AreShown, IsLineClauseBeside, BarsNothing, Accepts}
use Rattle.pc_accept.specs.SetExamples.{two_ends, red_set, green_set, neither, two_values, other_set, not_both, of_sets, WorkedSets}
use Rattle.pc_accept.proofs.Refuting.{refuted}
use Rattle.pc_accept.proofs.SetsSound.{in_one}

-- ---- entries are told apart

red_not_green : red ≢ green
red_not_green is = let number : ValueId → ℕ = λ v. v.0 in let numbers : number red ≡ number green = ap number is in absurd (omega (arith, numbers))

ends_differ : entry 0 red ≢ entry 2 green
ends_differ is = red_not_green (let value : Entry → ValueId = λ e. e.value in ap value is)

only : (e f : Entry) → Contains (e ∷ []) f → e ≡ f
only e f has = elim (contains_cases e [] f has) [ inl is ↦ is | inr later ↦ absurd (contains_none f later) ]

-- ---- the sets are shown

fits_of : (v : ValueId) → All (λ rule. Holds two_ends.universe (v ∷ v ∷ v ∷ []) [] rule.states) two_ends.rules
fits_of v zero d l = (refl, refl)
fits_of v (suc zero) d l = (refl, refl)
fits_of v (suc (suc k)) d l = absurd (omega arith)

in_order : (v : ValueId) (k : ℕ) (d : Entry) → k < 3 → (get_or (entry 0 v ∷ entry 1 v ∷ entry 2 v ∷ []) k d).cell.0 ≡ k
in_order v zero d l = refl
in_order v (suc zero) d l = refl
in_order v (suc (suc zero)) d l = refl
in_order v (suc (suc (suc k))) d l = absurd (omega arith)

abbrev IsShown : GivenSet → Type 0
IsShown s = AreShown two_ends (Fits two_ends) s.uses s.values

red_shown : IsShown red_set
red_shown = record {
  entered = All-cons (Contains two_ends.entries) (entry 0 red) [] (contains_first (entry 0 red) (entry 2 green ∷ [])) (All-nil (Contains two_ends.entries));
  in_order = record { cells = in_order red };
  assigns = (omega arith, (omega arith, (omega arith, tt)));
  has = has;
  fits = fits_of red;
}
  where
    has : HasAll (red ∷ red ∷ red ∷ []) (entry 0 red ∷ [])
    has zero d l = refl
    has (suc k) d l = absurd (omega arith)

green_shown : IsShown green_set
green_shown = record {
  entered = All-cons (Contains two_ends.entries) (entry 2 green) [] (contains_later (entry 0 red) (entry 2 green ∷ []) (entry 2 green) (contains_first (entry 2 green) [])) (All-nil (Contains two_ends.entries));
  in_order = record { cells = in_order green };
  assigns = (omega arith, (omega arith, (omega arith, tt)));
  has = has;
  fits = fits_of green;
}
  where
    has : HasAll (green ∷ green ∷ green ∷ []) (entry 2 green ∷ [])
    has zero d l = refl
    has (suc k) d l = absurd (omega arith)

apart : NeitherIsWithin red_set green_set
apart = (
  λ within. ends_differ (sym (only (entry 2 green) (entry 0 red) (within (entry 0 red) (contains_first (entry 0 red) [])))),
  λ within. ends_differ (only (entry 0 red) (entry 2 green) (within (entry 2 green) (contains_first (entry 2 green) []))),
)

all_apart : AllPairs NeitherIsWithin (red_set ∷ green_set ∷ [])
all_apart zero zero d l m = absurd (omega arith)
all_apart zero (suc zero) d l m = apart
all_apart zero (suc (suc j)) d l m = absurd (omega arith)
all_apart (suc i) zero d l m = absurd (omega arith)
all_apart (suc i) (suc j) d l m = absurd (omega arith)

-- ---- the atoms

differ : (c d : ℕ) → c ≢ d → (v w : ValueId) (i j : ℕ) (e : Entry) → i < j → j < 2 → (get_or (entry c v ∷ entry d w ∷ []) i e).cell ≢ (get_or (entry c v ∷ entry d w ∷ []) j e).cell
differ c d other v w zero zero e l m is = absurd (omega arith)
differ c d other v w zero (suc zero) e l m is = other (let number : CellId → ℕ = λ x. x.0 in ap number is)
differ c d other v w zero (suc (suc j)) e l m is = absurd (omega arith)
differ c d other v w (suc i) zero e l m is = absurd (omega arith)
differ c d other v w (suc i) (suc j) e l m is = absurd (omega arith)

value_at : (c : ℕ) (v : ValueId) (a : List ValueId) → slice_get a c ≡ Some v → value_or_first (slice_get a c) ≡ v
value_at c v a is = ap value_or_first is

broken : (c d : ℕ) (a : List ValueId) → HasAll a (entry c red ∷ entry d green ∷ []) → ¬ (value_or_first (slice_get a c) ≡ value_or_first (slice_get a d))
broken c d a has same = red_not_green (sym (value_at c red a (has 0 (entry 0 red) (omega arith))) ∙ same ∙ value_at d green a (has 1 (entry 0 red) (omega arith)))

entries_of : (c d : ℕ) → c < 3 → d < 3 → IsEntryOf two_ends.universe (entry c red) → IsEntryOf two_ends.universe (entry d green) → All (IsEntryOf two_ends.universe) (entry c red ∷ entry d green ∷ [])
entries_of c d l m p q = All-cons (IsEntryOf two_ends.universe) (entry c red) (entry d green ∷ []) p (All-cons (IsEntryOf two_ends.universe) (entry d green) [] q (All-nil (IsEntryOf two_ends.universe)))

abbrev clause_at : ℕ → ℕ → ℕ → List Literal
clause_at r c d = negated_entry (entry c red) ∷ negated_entry (entry d green) ∷ negative (node r []) ∷ []

first_atom : IsAtomClause two_ends 0 [] (entry 0 red ∷ entry 1 green ∷ []) (clause_at 0 0 1)
first_atom = record {
  scope = [];
  states = compare (cell_side 0) Eq (cell_side 1);
  at = refl;
  each = entries_of 0 1 (omega arith) (omega arith) (omega arith) (omega arith);
  truth = false;
  given = record { atom = tt; distinct = differ 0 1 (λ is. absurd (omega (arith, is))) red green; enough = λ a h c has. has; truth = λ a h. (λ z. absurd (cc), λ h'. absurd (broken 0 1 a h h'.1)) };
  is = refl;
}

second_atom : IsAtomClause two_ends 1 [] (entry 1 red ∷ entry 2 green ∷ []) (clause_at 1 1 2)
second_atom = record {
  scope = [];
  states = compare (cell_side 1) Eq (cell_side 2);
  at = refl;
  each = entries_of 1 2 (omega arith) (omega arith) (omega arith) (omega arith);
  truth = false;
  given = record { atom = tt; distinct = differ 1 2 (λ is. absurd (omega (arith, is))) red green; enough = λ a h c has. has; truth = λ a h. (λ z. absurd (cc), λ h'. absurd (broken 1 2 a h h'.1)) };
  is = refl;
}

-- ---- the lines

abbrev clauses : List (List Literal)
clauses =
    (positive (node 0 []) ∷ []) ∷ (positive (node 1 []) ∷ []) ∷ (positive_entry (entry 2 green) ∷ []) ∷ (positive_entry (entry 0 red) ∷ []) ∷ clause_at 0 0 1 ∷ clause_at 1 1 2
    ∷ (positive (pair_of (entry 1 red)) ∷ positive (pair_of (entry 1 green)) ∷ []) ∷ [] ∷ []

abbrev blocks : List (List Literal)
blocks = blocks_of two_ends (red_set ∷ green_set ∷ [])

-- behind the first
abbrev hinted : List (List Literal)
hinted =
    (positive_entry (entry 0 red) ∷ []) ∷ (positive (node 0 []) ∷ []) ∷ clause_at 0 0 1 ∷ (positive (pair_of (entry 1 red)) ∷ positive (pair_of (entry 1 green)) ∷ []) ∷ (positive (node 1 []) ∷ [])
    ∷ clause_at 1 1 2 ∷ []

abbrev Below : ℕ → Type 0
Below h = h < 7

no_tautology : ¬ IsTautology opposite []
no_tautology h = contains_none h.0 h.1

each_line : (i : ℕ) (d : Line) → i < 8 → IsLineClauseBeside two_ends blocks clauses i (get_or neither i d) (get_or clauses i [])
each_line zero d l = refl
each_line (suc zero) d l = refl
each_line (suc (suc zero)) d l = refl
each_line (suc (suc (suc zero))) d l = refl
each_line (suc (suc (suc (suc zero)))) d l = first_atom
each_line (suc (suc (suc (suc (suc zero))))) d l = second_atom
each_line (suc (suc (suc (suc (suc (suc zero)))))) d l = refl
each_line (suc (suc (suc (suc (suc (suc (suc zero))))))) d l = (refl, below, inr (no_tautology, refuted [] (positive_entry (entry 2 green) ∷ []) hinted refl))
  where
    below : All Below (2 ∷ 3 ∷ 0 ∷ 4 ∷ 6 ∷ 1 ∷ 5 ∷ [])
    below zero d l = omega arith
    below (suc zero) d l = omega arith
    below (suc (suc zero)) d l = omega arith
    below (suc (suc (suc zero))) d l = omega arith
    below (suc (suc (suc (suc zero)))) d l = omega arith
    below (suc (suc (suc (suc (suc zero))))) d l = omega arith
    below (suc (suc (suc (suc (suc (suc zero)))))) d l = omega arith
    below (suc (suc (suc (suc (suc (suc (suc k))))))) d l = absurd (omega arith)
each_line (suc (suc (suc (suc (suc (suc (suc (suc i)))))))) d l = absurd (omega arith)

is_accepted : Accepts two_ends (of_sets repairs (red_set ∷ green_set ∷ []) neither)
is_accepted = record {
  no_uses = refl;
  no_values = refl;
  shown = All-cons IsShown red_set (green_set ∷ []) red_shown (All-cons IsShown green_set [] green_shown (All-nil IsShown));
  free = λ k d l barred. barred;
  apart = all_apart;
  derives = record { clauses = clauses; derivation = record { count = refl; each = each_line }; ends = record { some_line = omega arith; within = λ l has. has } };
}

-- ---- two values of one cell

abbrev IsShownHere : GivenSet → Type 0
IsShownHere s = AreShown two_values (Fits two_values) s.uses s.values

red_here : IsShownHere red_set
red_here = record {
  entered = All-cons (Contains two_values.entries) (entry 0 red) [] (contains_first (entry 0 red) (entry 0 green ∷ [])) (All-nil (Contains two_values.entries));
  in_order = red_shown.in_order;
  assigns = red_shown.assigns;
  has = red_shown.has;
  fits = fits_of red;
}

other_here : IsShownHere other_set
other_here = record {
  entered = All-cons (Contains two_values.entries) (entry 0 green) [] (contains_later (entry 0 red) (entry 0 green ∷ []) (entry 0 green) (contains_first (entry 0 green) [])) (All-nil (Contains two_values.entries));
  in_order = green_shown.in_order;
  assigns = green_shown.assigns;
  has = has;
  fits = fits_of green;
}
  where
    has : HasAll (green ∷ green ∷ green ∷ []) (entry 0 green ∷ [])
    has zero d l = refl
    has (suc k) d l = absurd (omega arith)

values_differ : entry 0 red ≢ entry 0 green
values_differ is = red_not_green (let value : Entry → ValueId = λ e. e.value in ap value is)

apart_here : AllPairs NeitherIsWithin (red_set ∷ other_set ∷ [])
apart_here zero zero d l m = absurd (omega arith)
apart_here zero (suc zero) d l m = (
  λ within. values_differ (sym (only (entry 0 green) (entry 0 red) (within (entry 0 red) (contains_first (entry 0 red) [])))),
  λ within. values_differ (only (entry 0 red) (entry 0 green) (within (entry 0 green) (contains_first (entry 0 green) []))),
)
apart_here zero (suc (suc j)) d l m = absurd (omega arith)
apart_here (suc i) zero d l m = absurd (omega arith)
apart_here (suc i) (suc j) d l m = absurd (omega arith)

abbrev one_value : List Literal
one_value = negative (pair_of (entry 0 red)) ∷ negative (pair_of (entry 0 green)) ∷ []

abbrev clauses_here : List (List Literal)
clauses_here = (positive_entry (entry 0 green) ∷ []) ∷ (positive_entry (entry 0 red) ∷ []) ∷ one_value ∷ [] ∷ []

abbrev blocks_here : List (List Literal)
blocks_here = blocks_of two_values (red_set ∷ other_set ∷ [])

each_here : (i : ℕ) (d : Line) → i < 4 → IsLineClauseBeside two_values blocks_here clauses_here i (get_or not_both i d) (get_or clauses_here i [])
each_here zero d l = refl
each_here (suc zero) d l = refl
each_here (suc (suc zero)) d l = (omega arith, omega arith, red_not_green, refl)
each_here (suc (suc (suc zero))) d l =
    (refl, below, inr (no_tautology, refuted [] (positive_entry (entry 0 green) ∷ []) ((positive_entry (entry 0 red) ∷ []) ∷ one_value ∷ []) refl))
  where
    below : All (λ h. h < 3) (0 ∷ 1 ∷ 2 ∷ [])
    below zero d l = omega arith
    below (suc zero) d l = omega arith
    below (suc (suc zero)) d l = omega arith
    below (suc (suc (suc k))) d l = absurd (omega arith)
each_here (suc (suc (suc (suc i)))) d l = absurd (omega arith)

of_one_cell : Accepts two_values (of_sets repairs (red_set ∷ other_set ∷ []) not_both)
of_one_cell = record {
  no_uses = refl;
  no_values = refl;
  shown = All-cons IsShownHere red_set (other_set ∷ []) red_here (All-cons IsShownHere other_set [] other_here (All-nil IsShownHere));
  free = λ k d l barred. barred;
  apart = apart_here;
  derives = record {
    clauses = clauses_here;
    derivation = record { count = refl; each = each_here };
    ends = record { some_line = omega arith; within = λ l has. has };
  };
}

-- ---- what isn't accepted

left_out : (lines : List Line) → ¬ Accepts two_ends (of_sets repairs (red_set ∷ []) lines)
left_out lines h =
    let one = in_one two_ends BarsNothing (of_sets repairs (red_set ∷ []) lines) h (entry 2 green ∷ []) (inl (inr ([], refl, refl)))
    (green ∷ green ∷ green ∷ [], record { assigns = green_shown.assigns; fits = green_shown.fits; has = green_shown.has })
    in
    elim (contains_cases red_set [] one.0 one.1) [
      | inl is ↦ ends_differ (only (entry 0 red) (entry 2 green) (subst (λ (s : GivenSet). Contains s.uses (entry 2 green)) (sym is) (one.2 (entry 2 green) (contains_first (entry 2 green) []))))
      | inr later ↦ contains_none one.0 later
    ]

no_such_set : ¬ Accepts two_ends (of_sets repairs (red_set ∷ green_set ∷ []) (blocked 2 ∷ []))
no_such_set h = absurd (cc (h.derives.derivation.each 0 (blocked 2) (omega arith)))

pub worked_sets : WorkedSets
worked_sets = record {
  accepted = is_accepted;
  of_one_cell = of_one_cell;
  has_value = λ lines h. h.free 0 red_set (omega arith) refl;
  twice = λ lines h. (h.apart 0 2 red_set (omega arith) (omega arith)).0 (λ e has. has);
  left_out = left_out;
  no_such_set = no_such_set;
}
