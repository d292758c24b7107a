-- Logs of the sheet in which a and b are equal.
use Rattle.std.proofs.Common.{◌≡◌, ℕ, zero, suc, ◌<◌, inl, inr, Bool, true, false, not, ◌&&◌, List, [], ◌∷◌, Option, None, Some, All, Contains, length, slice_get, arith, ap, refl, sym, ◌∙◌, subst}
use Rattle.std.specs.List.{range_with_len}
use Rattle.std.proofs.lemmas.Bool.{false≢true}
use Rattle.std.proofs.lemmas.Bool.Decides.{Decides-not, Decides-by_and}
use Rattle.std.proofs.lemmas.Option.{slice_get_within, get_or_from_slice_get}
use Rattle.std.proofs.lemmas.List.FromFn.{length-range_with_len, get_or-range_with_len}
use Rattle.std.proofs.lemmas.List.Elements.{All-from_recursion, All-nil, All-head, All-contains}
use Rattle.pc_lits.specs.declared.literal.Lit.{Lit}
use Rattle.pc_lits.specs.Literals.{negated}
use Rattle.pc_lits.specs.Steps.{IsGoodStep, IsTautology}
use Rattle.pc_log.specs.declared.log.StepId.{StepId}
use Rattle.pc_log.specs.Lines.{LogLine, AxiomLine, BlockLine, StepLine, hints_of}
use Rattle.pc_log.specs.Derivations.{hinted_clauses, IsGoodLine}
use Rattle.pc_sheet.specs.MaximalSets.{IsMaximalSet}
use Rattle.pc_sheet.specs.declared.ids.Entry.{Entry}
use Rattle.pc_laws.specs.Examples.{red, green, entry, equal_cells}
use Rattle.pc_components.specs.Pairs.{entry_literal}
use Rattle.pc_lits.specs.Clauses.{IsSubclause}
use Rattle.pc_solver.specs.Clauses.{IsOverOwn}
use Rattle.pc_solver.specs.InLog.{AreAxiomsOnce, AreStepsOver, AreStepsShort, IsShort}
use Rattle.pc_solver.specs.New.{IsLearnedAt, AreNewClauses}
use Rattle.pc_solver.specs.Solver.{Problem, IsLawfulLog, clauses_used}
use Rattle.pc_worlds.specs.Parts.{IsListingLog}
use Rattle.pc_components.specs.Blocks.{IsBlockOf}
use Rattle.pc_lemmas.proofs.Elements.{contains_first, contains_cases, contains_none, contains_map}
use Rattle.pc_worked_laws.specs.Trails.{plus, minus}
use Rattle.pc_worked_laws.specs.Logs.{equal_clauses, all_variables, equal_problem, learned_by, green_block, good_log, with_hint_missing, with_later_hint, with_tautology, with_axiom_learned, with_clause_twice, with_block_learned, with_large_block, with_foreign_variable, WorkedNewClauses, WorkedLawfulLogs, WorkedListingLogs, all_axioms, with_axiom_twice, hint_again, with_hint_again, WorkedSmallLogs}
use Rattle.pc_worked_laws.proofs.Computing.{has, lacks, lists}
use Rattle.pc_worked_laws.proofs.Deciding.{isnt, has_decides, is_within, within_decides, is_tautology, tautology_decides, is_good_step, good_step_decides}

-- ---- lines of a log

abbrev kind : Option LogLine → ℕ
kind None = 0
kind (Some (AxiomLine number)) = 1
kind (Some (BlockLine number clause)) = 2
kind (Some (StepLine clause hints learned)) = 3

abbrev clause_in : Option LogLine → List Lit
clause_in None = []
clause_in (Some (AxiomLine number)) = []
clause_in (Some (BlockLine number clause)) = clause
clause_in (Some (StepLine clause hints learned)) = clause

abbrev number_in : Option LogLine → ℕ
number_in None = 0
number_in (Some (AxiomLine number)) = number
number_in (Some (BlockLine number clause)) = number
number_in (Some (StepLine clause hints learned)) = 0

abbrev mark_in : Option LogLine → Bool
mark_in None = false
mark_in (Some (AxiomLine number)) = false
mark_in (Some (BlockLine number clause)) = false
mark_in (Some (StepLine clause hints learned)) = learned

abbrev line_or : Option LogLine → LogLine
line_or None = AxiomLine 0
line_or (Some line) = line

-- ---- numbers below a bound

pub below_there : (n x : ℕ) → x < n → Contains (range_with_len 0 n) x
below_there n x less = (x, omega (arith, less, length-range_with_len 0 n), get_or-range_with_len 0 n x x less ∙ omega arith)

pub there_below : (n x : ℕ) → Contains (range_with_len 0 n) x → x < n
there_below n x c = let less : c.0 < n = omega (arith, c.1, length-range_with_len 0 n) in omega (arith, less, c.2, get_or-range_with_len 0 n c.0 x less)

-- ---- new clauses

tautology : (clause : List Lit) → is_tautology clause ≡ true → IsTautology negated clause
tautology clause is = (tautology_decides clause).0 is

not_tautology : (clause : List Lit) → is_tautology clause ≡ false → ¬ IsTautology negated clause
not_tautology clause fails = isnt (is_tautology clause) (IsTautology negated clause) (tautology_decides clause) fails

not_within : (part whole : List Lit) → is_within part whole ≡ false → ¬ IsSubclause part whole
not_within part whole fails = isnt (is_within part whole) (IsSubclause part whole) (within_decides part whole) fails

-- the one step of the log
the_step : (i : ℕ) (clause : List Lit) (hints : List StepId) (learned : Bool) → slice_get good_log i ≡ Some (StepLine clause hints learned) → (i ≡ 3) × (minus 0 ∷ [] ≡ clause)
the_step zero clause hints learned at = absurd (omega (arith, ap kind at))
the_step (suc zero) clause hints learned at = absurd (omega (arith, ap kind at))
the_step (suc (suc zero)) clause hints learned at = absurd (omega (arith, ap kind at))
the_step (suc (suc (suc zero))) clause hints learned at = (refl, ap clause_in at)
the_step (suc (suc (suc (suc i)))) clause hints learned at = absurd (omega (arith, ap kind at))

the_block : (i number : ℕ) (clause : List Lit) → slice_get good_log i ≡ Some (BlockLine number clause) → (number ≡ 0) × (plus 3 ∷ [] ≡ clause)
the_block zero number clause at = absurd (omega (arith, ap kind at))
the_block (suc zero) number clause at = absurd (omega (arith, ap kind at))
the_block (suc (suc zero)) number clause at = (sym (ap number_in at), ap clause_in at)
the_block (suc (suc (suc zero))) number clause at = absurd (omega (arith, ap kind at))
the_block (suc (suc (suc (suc i)))) number clause at = absurd (omega (arith, ap kind at))

the_axioms : (i number : ℕ) → slice_get good_log i ≡ Some (AxiomLine number) → number < 9
the_axioms zero number at = omega (arith, ap number_in at)
the_axioms (suc zero) number at = omega (arith, ap number_in at)
the_axioms (suc (suc zero)) number at = absurd (omega (arith, ap kind at))
the_axioms (suc (suc (suc zero))) number at = absurd (omega (arith, ap kind at))
the_axioms (suc (suc (suc (suc i)))) number at = absurd (omega (arith, ap kind at))

abbrev all_outside : List Lit → List (List Lit) → Bool
all_outside whole [] = true
all_outside whole (c ∷ cs) = not (is_within c whole) && all_outside whole cs

no_axiom_within : All (λ c. ¬ IsSubclause c (minus 0 ∷ [])) equal_clauses
no_axiom_within =
    let whole : List Lit = minus 0 ∷ [] in
    (Decides-by_and (λ c. not (is_within c whole)) (λ c. ¬ IsSubclause c whole) (all_outside whole) (λ c. Decides-not (is_within c whole) (within_decides c whole)) refl (λ _ _. refl) equal_clauses).0 refl

pub good_clauses : AreNewClauses equal_clauses good_log
good_clauses = record {
  no_tautology = λ i clause at. subst (λ c. ¬ IsTautology negated c) (the_step i clause at.0 true at.1).1 (not_tautology (minus 0 ∷ []) refl);
  no_axiom = λ i clause given at there. subst (λ c. ¬ IsSubclause given c) (the_step i clause at.0 true at.1).1 (All-contains (λ c. ¬ IsSubclause c (minus 0 ∷ [])) equal_clauses given no_axiom_within there);
  no_learned = λ i j earlier clause less first second. absurd (omega (arith, less, (the_step i earlier first.0 true first.1).0, (the_step j clause second.0 true second.1).0));
  no_block_line = λ i j number block clause less at learned.
      subst (λ c. ¬ IsSubclause c clause) (the_block i number block at).1
      (subst (λ c. ¬ IsSubclause (plus 3 ∷ []) c) (the_step j clause learned.0 true learned.1).1 (not_within (plus 3 ∷ []) (minus 0 ∷ []) refl));
}

-- the one line isn't marked
none_learned : (i : ℕ) (clause : List Lit) → ¬ IsLearnedAt with_foreign_variable i clause
none_learned zero clause (hints, at) = false≢true (ap mark_in at)
none_learned (suc i) clause (hints, at) = omega (arith, ap kind at)

unmarked_clauses : AreNewClauses equal_clauses with_foreign_variable
unmarked_clauses = record {
  no_tautology = λ i clause at. absurd (none_learned i clause at);
  no_axiom = λ i clause given at there. absurd (none_learned i clause at);
  no_learned = λ i j earlier clause less first second. absurd (none_learned i earlier first);
  no_block_line = λ i j number block clause less at learned. absurd (none_learned j clause learned);
}

pub learned_tautology : (used : List (List Lit)) → ¬ AreNewClauses used with_tautology
learned_tautology used h = h.no_tautology 0 (plus 0 ∷ minus 0 ∷ []) ([], refl) (tautology (plus 0 ∷ minus 0 ∷ []) refl)

pub learned_axiom : (used : List (List Lit)) → Contains used (plus 4 ∷ []) → ¬ AreNewClauses used with_axiom_learned
learned_axiom used there h = h.no_axiom 1 (plus 4 ∷ []) (plus 4 ∷ []) (_, refl) there (λ m c. c)

pub learned_twice : (used : List (List Lit)) → ¬ AreNewClauses used with_clause_twice
learned_twice used h = h.no_learned 3 4 (minus 0 ∷ []) (minus 0 ∷ []) (omega arith) (_, refl) (_, refl) (λ m c. c)

learned_block : (used : List (List Lit)) → ¬ AreNewClauses used with_block_learned
learned_block used h = h.no_block_line 0 1 0 (plus 3 ∷ []) (plus 3 ∷ []) (omega arith) refl (_, refl) (λ m c. c)

rule_there : Contains equal_clauses (plus 4 ∷ [])
rule_there = (4, omega arith, refl)

pub new_clauses : WorkedNewClauses
new_clauses = record {
  new = good_clauses;
  unmarked = unmarked_clauses;
  tautology = learned_tautology equal_clauses;
  axiom_learned = learned_axiom equal_clauses rule_there;
  twice = learned_twice equal_clauses;
  block_learned = learned_block equal_clauses;
}

-- ---- lawful logs

good_lines : All (IsGoodLine equal_clauses good_log) good_log
good_lines =
    All-from_recursion (IsGoodLine equal_clauses good_log) good_log
    (omega arith, (omega arith, (tt, ((good_step_decides (minus 0 ∷ []) (hinted_clauses equal_clauses good_log (hints_of (learned_by (minus 0 ∷ []) (2 ∷ 0 ∷ 1 ∷ []))))).0 refl, tt))))

each_good : (i : ℕ) (line : LogLine) → slice_get good_log i ≡ Some line → IsGoodLine equal_clauses good_log line
each_good i line at =
    subst (IsGoodLine equal_clauses good_log) (get_or_from_slice_get good_log i line line at) (good_lines i line (slice_get_within good_log i line at))

each_earlier : (i : ℕ) (line : LogLine) → slice_get good_log i ≡ Some line → All (λ h. h.0 < i) (hints_of line)
each_earlier zero line at = subst (λ l. All (λ h. h.0 < 0) (hints_of l)) (ap line_or at) (All-nil (λ h. h.0 < 0))
each_earlier (suc zero) line at = subst (λ l. All (λ h. h.0 < 1) (hints_of l)) (ap line_or at) (All-nil (λ h. h.0 < 1))
each_earlier (suc (suc zero)) line at = subst (λ l. All (λ h. h.0 < 2) (hints_of l)) (ap line_or at) (All-nil (λ h. h.0 < 2))
each_earlier (suc (suc (suc zero))) line at =
    subst (λ l. All (λ h. h.0 < 3) (hints_of l)) (ap line_or at)
    (All-from_recursion (λ (h : StepId). h.0 < 3) (hints_of (learned_by (minus 0 ∷ []) (2 ∷ 0 ∷ 1 ∷ []))) (omega arith, (omega arith, (omega arith, tt))))
each_earlier (suc (suc (suc (suc i)))) line at = absurd (by at)
  where
    by : None ≡ Some line → ⊥
    by is = cc

over_own : AreStepsOver all_variables good_log
over_own i clause hints learned at =
    subst (IsOverOwn all_variables) (the_step i clause hints learned at).1 (All-from_recursion (λ l. Contains all_variables l.variable) (minus 0 ∷ []) ((0, omega arith, refl), tt))

pub good_lawful : IsLawfulLog equal_problem green_block good_log
good_lawful = record {
  derivation = record { good = each_good; earlier = each_earlier };
  axioms = λ i number at. below_there 9 number (the_axioms i number at);
  blocks_are = λ i number clause at.
      let is = the_block i number clause at in
      ap (λ n. slice_get green_block n) is.0 ∙ ap Some is.1;
  over_own = over_own;
  new = good_clauses;
}

bad_step : (clause : List Lit) (hints : List (List Lit)) → is_good_step clause hints ≡ false → ¬ IsGoodStep negated clause hints
bad_step clause hints fails = isnt (is_good_step clause hints) (IsGoodStep negated clause hints) (good_step_decides clause hints) fails

pub hint_missing : (p : Problem) (blocks : List (List Lit)) → p.axioms ≡ equal_clauses → ¬ IsLawfulLog p blocks with_hint_missing
hint_missing p blocks are h =
    bad_step (minus 0 ∷ []) (hinted_clauses equal_clauses with_hint_missing (hints_of (learned_by (minus 0 ∷ []) (2 ∷ 0 ∷ [])))) refl
    (subst (λ axioms. IsGoodLine axioms with_hint_missing (learned_by (minus 0 ∷ []) (2 ∷ 0 ∷ []))) are (h.derivation.good 3 (learned_by (minus 0 ∷ []) (2 ∷ 0 ∷ [])) refl))

later_hint : ¬ IsLawfulLog equal_problem green_block with_later_hint
later_hint h = let less = h.derivation.earlier 3 (learned_by (minus 0 ∷ []) (3 ∷ [])) refl 0 (record { 0 = 0 }) (omega arith) in omega (arith, less)

abbrev number_or : Option (List Lit) → ℕ
number_or None = 7
number_or (Some []) = 8
number_or (Some (l ∷ ls)) = l.variable.0

another_block : ¬ IsLawfulLog equal_problem ((plus 0 ∷ []) ∷ []) good_log
another_block h = omega (arith, ap number_or (h.blocks_are 2 0 (plus 3 ∷ []) refl))

of_no_block : ¬ IsLawfulLog equal_problem [] good_log
of_no_block h = omega (arith, ap number_or (h.blocks_are 2 0 (plus 3 ∷ []) refl))

foreign_variable : ¬ IsLawfulLog equal_problem green_block with_foreign_variable
foreign_variable h =
    let own = All-head (λ l. Contains all_variables l.variable) (plus 5) (minus 5 ∷ []) (h.over_own 0 (plus 5 ∷ minus 5 ∷ []) [] false refl) in
    let less = there_below 5 5 (contains_map (λ v. v.0) all_variables (record { 0 = 5 }) own) in
    omega (arith, less)

pub lawful_logs : WorkedLawfulLogs
lawful_logs = record {
  clauses_are = refl;
  lawful = good_lawful;
  hint_missing = hint_missing equal_problem green_block refl;
  later_hint = later_hint;
  axiom_of_others = λ h. contains_none 4 (h.axioms 0 4 refl);
  another_block = another_block;
  of_no_block = of_no_block;
  foreign_variable = foreign_variable;
  tautology = λ h. learned_tautology (clauses_used equal_problem) h.new;
}

-- ---- small logs

once : AreAxiomsOnce all_axioms good_log
once m = omega arith

two_places : AreAxiomsOnce (4 ∷ 4 ∷ []) with_axiom_twice
two_places m = omega arith

twice : ¬ AreAxiomsOnce all_axioms with_axiom_twice
twice h = let few = h 4 in omega (arith, few)

short : AreStepsShort all_variables good_log
short i clause hints learned at =
    let there : slice_get good_log 3 ≡ Some (StepLine clause hints learned) = subst (λ n. slice_get good_log n ≡ Some (StepLine clause hints learned)) (the_step i clause hints learned at).0 at in
    subst (λ l. IsShort all_variables (clause_in (Some l)) (length (hints_of l))) (ap line_or there) (omega arith)

again : ¬ AreStepsShort all_variables with_hint_again
again h = let few = h 3 (minus 0 ∷ []) (hints_of hint_again) true refl in omega (arith, few)

pub small_logs : WorkedSmallLogs
small_logs = record {
  once = once;
  twice = twice;
  other_places = λ h. let few = h 4 in omega (arith, few);
  two_places = two_places;
  short = short;
  good_again = (good_step_decides (minus 0 ∷ []) (hinted_clauses equal_clauses with_hint_again (hints_of hint_again))).0 refl;
  again = again;
  solver_twice = λ h. twice h.axioms_once;
  solver_again = λ h. again h.short;
}

-- ---- listing logs

abbrev two_sets : List (List Entry)
two_sets = (entry 0 red ∷ []) ∷ (entry 1 green ∷ []) ∷ []

red_maximal : IsMaximalSet equal_cells (entry 0 red ∷ [])
red_maximal = ((lists equal_cells 2 (2 ∷ []) refl two_sets refl).exact (entry 0 red ∷ [])).0 (contains_first (entry 0 red ∷ []) ((entry 1 green ∷ []) ∷ []))

abbrev both : List Entry
both = entry 0 red ∷ entry 1 green ∷ []

abbrev sizes : List ℕ
sizes = 2 ∷ 2 ∷ []

-- an entry is one of the two
which : (P : Entry → Type 0) → P (entry 0 red) → P (entry 1 green) → (e : Entry) → Contains both e → P e
which P first second e c = elim (contains_cases (entry 0 red) (entry 1 green ∷ []) e c) [
  | inl is ↦ subst P is first
  | inr later ↦ elim (contains_cases (entry 1 green) [] e later) [ inl is ↦ subst P is second | inr none ↦ absurd (contains_none e none) ]
]

pub block_of_red : IsBlockOf sizes both (entry 0 red ∷ []) (plus 3 ∷ [])
block_of_red l = (
  λ c. elim (contains_cases (plus 3) [] l c) [ inl is ↦ (entry 1 green, has both (entry 1 green) refl, lacks (entry 0 red ∷ []) (entry 1 green) refl, is) | inr none ↦ absurd (contains_none l none) ],
  λ (e, c, out, is).
      which (λ e. (¬ Contains (entry 0 red ∷ []) e) → entry_literal sizes e ≡ l → Contains (plus 3 ∷ []) l) (λ out is. absurd (out (contains_first (entry 0 red) [])))
      (λ out is. subst (Contains (plus 3 ∷ [])) is (contains_first (plus 3) [])) e c out is,
)

abbrev number : Lit → ℕ
number l = l.variable.0

-- of whatever set the block of both entries is, it has none of them
pub block_of_both : (set : List Entry) → IsBlockOf sizes both set (plus 0 ∷ plus 3 ∷ []) → (¬ Contains set (entry 0 red)) × (¬ Contains set (entry 1 green))
block_of_both set is = (
  (let h = (is (plus 0)).0 ((has_decides (plus 0 ∷ plus 3 ∷ []) (plus 0)).0 refl) in
      which (λ e. (¬ Contains set e) → entry_literal sizes e ≡ plus 0 → ¬ Contains set (entry 0 red)) (λ out same. out) (λ out same. absurd (omega (arith, ap number same))) h.0 h.1 h.2 h.3),
  (let h = (is (plus 3)).0 ((has_decides (plus 0 ∷ plus 3 ∷ []) (plus 3)).0 refl) in
      which (λ e. (¬ Contains set e) → entry_literal sizes e ≡ plus 3 → ¬ Contains set (entry 1 green)) (λ out same. absurd (omega (arith, ap number same))) (λ out same. out) h.0 h.1 h.2 h.3),
)

-- each of the two maximal sets has one of them
pub has_one : (set : List Entry) → Contains two_sets set → (¬ Contains set (entry 0 red)) → (¬ Contains set (entry 1 green)) → ⊥
has_one set c no_red no_green = elim (contains_cases (entry 0 red ∷ []) ((entry 1 green ∷ []) ∷ []) set c) [
  | inl is ↦ no_red (subst (λ s. Contains s (entry 0 red)) is (contains_first (entry 0 red) []))
  | inr later ↦ elim (contains_cases (entry 1 green ∷ []) [] set later) [
    | inl is ↦ no_green (subst (λ s. Contains s (entry 1 green)) is (contains_first (entry 1 green) []))
    | inr none ↦ contains_none set none
  ]
]

-- the block of a log's first line is one of the blocks
pub first_block : (p : Problem) (blocks : List (List Lit)) → IsLawfulLog p blocks with_large_block → Contains blocks (plus 0 ∷ plus 3 ∷ [])
first_block p blocks h =
    let at = h.blocks_are 0 0 (plus 0 ∷ plus 3 ∷ []) refl in
    (0, slice_get_within blocks 0 (plus 0 ∷ plus 3 ∷ []) at, get_or_from_slice_get blocks 0 (plus 0 ∷ plus 3 ∷ []) (plus 0 ∷ plus 3 ∷ []) at)

pub of_no_set : (IsSuch : List Entry → Type 0) (p : Problem) → ((set : List Entry) → IsSuch set → Contains two_sets set) → ¬ IsListingLog sizes both IsSuch p with_large_block
of_no_set IsSuch p are h =
    let such = h.of_sets (plus 0 ∷ plus 3 ∷ []) (first_block p h.blocks h.lawful) in
    let none = block_of_both such.0 such.2 in
    has_one such.0 (are such.0 such.1) none.0 none.1

pub of_red : (IsSuch : List Entry → Type 0) → IsSuch (entry 0 red ∷ []) → IsListingLog sizes both IsSuch equal_problem good_log
of_red IsSuch such = record {
  blocks = green_block;
  lawful = good_lawful;
  of_sets = λ b c. elim (contains_cases (plus 3 ∷ []) [] b c) [ inl is ↦ (entry 0 red ∷ [], such, subst (IsBlockOf sizes both (entry 0 red ∷ [])) is block_of_red) | inr none ↦ absurd (contains_none b none) ];
}

pub listing_logs : WorkedListingLogs
listing_logs = record {
  listing = of_red (IsMaximalSet equal_cells) red_maximal;
  of_no_set = of_no_set (IsMaximalSet equal_cells) equal_problem (λ set. ((lists equal_cells 2 (2 ∷ []) refl two_sets refl).exact set).1);
  not_lawful = λ h. hint_missing equal_problem h.blocks refl h.lawful;
}
