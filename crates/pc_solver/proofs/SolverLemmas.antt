-- Before and after a search.
use Rattle.std.proofs.Common.{suc, ◌≡◌, ℕ, ◌+◌, ◌*◌, ◌<◌, ◌≤◌, Bool, true, List, [], ◌∷◌, ◌++◌, length, get_or, take, count_by, replicate, refl, sym, ap, ◌∙◌, subst, arith, ⊎_elim, Option, Some, None, IsNone, is_none, slice_get, Contains, cond, zero, All, Result, Ok, Err, IfOk}
use Rattle.std.proofs.lemmas.List.{take_more}
use Rattle.std.proofs.lemmas.Option.{get_or_from_slice_get, slice_get_within}
use Rattle.pc_lits.specs.declared.literal.Var.{Var}
use Rattle.pc_lits.specs.declared.literal.Lit.{Lit}
use Rattle.pc_lits.specs.declared.tally.Tally.{Tally}
use Rattle.pc_log.specs.declared.log.StepId.{StepId}
use Rattle.pc_log.specs.Lines.{LogLine, AxiomLine, BlockLine, StepLine}
use Rattle.pc_log.specs.Laws.{DerivationsAreSound}
use Rattle.pc_propagate.specs.declared.trail.TrailEntry.{TrailEntry}
use Rattle.pc_propagate.specs.declared.clauses.ClauseRef.{ClauseRef}
use Rattle.pc_propagate.specs.declared.clauses.ClauseRef.TheVariants.{Axiom, More}
use Rattle.pc_propagate.specs.Entries.{literals, AreEntries, starts_level}
use Rattle.pc_propagate.specs.Levels.{level_at}
use Rattle.pc_propagate.specs.Over.{IsOver, AreInRange}
use Rattle.pc_propagate.specs.TrailView.{TrailView}
use Rattle.pc_propagate.proofs.TrailLemmas.{count_by-push}
use Rattle.pc_solver.specs.declared.outcome.Outcome.{Outcome}
use Rattle.pc_solver.specs.declared.outcome.Outcome.TheVariants.{Sat, Unsat, Spent, Memory}
use Rattle.pc_solver.specs.Clauses.{ClausesView, IsKnown, IsOverOwn, KeepsProblem}
use Rattle.pc_solver.specs.InLog.{IsLogOf}
use Rattle.pc_solver.specs.Banned.{AreAskable, AreLone, trues_of}
use Rattle.pc_solver.specs.inside.Search.{SearchView, IsSearch, AreAllLone, IsAside, IsUnderWay, KnowsAll, KeepsLogs, AssumesFirst, Advances}
use Rattle.pc_solver.specs.inside.Ends.{EndSays, extra, unmarked}
use Rattle.pc_solver.specs.Solver.{AnswerSays, Spends, seen_as, IsProblem, SolverView, SuspendedView, suspended_as}
use Rattle.pc_solver.proofs.LogLemmas.{LogGrows-none}
use Rattle.pc_solver.proofs.SearchLemmas.{fits_own}
use Rattle.std.proofs.lemmas.List.Elements.{All-contains, Contains-append_left, Contains-push, Contains-push_cases}
use Rattle.pc_solver.proofs.ClauseLemmas.{own_in_range, block_given_at}
use Rattle.pc_solver.proofs.EndLemmas.{found_meets, none_meets}
use Rattle.pc_solver.proofs.BannedLemmas.{no_trues}

-- ---- back at level 0 there is no decision

pub decided_level : (entries : List TrailEntry) (k : ℕ) (e : TrailEntry) → slice_get entries k ≡ Some e → IsNone e.reason → 1 ≤ level_at entries k
decided_level entries k e at none =
    let within : k < length entries = slice_get_within entries k e at in
    let split : take (k + 1) entries ≡ take k entries ++ get_or entries k e ∷ [] = take_more entries k e within in
    let read : get_or entries k e ≡ e = get_or_from_slice_get entries k e e at in
    let counted : level_at entries k ≡ count_by starts_level (take k entries) + cond (starts_level (get_or entries k e)) 1 0 = ap (count_by starts_level) split ∙ count_by-push starts_level (take k entries) (get_or entries k e) in
    let starts : starts_level (get_or entries k e) ≡ true = ap starts_level read ∙ is_true e.reason none in
    let one : ◌≡◌ {A = ℕ} (cond (starts_level (get_or entries k e)) 1 0) 1 = rw starts refl in
    omega (arith, counted, one)
  where
    is_true : {A : Type 0} (o : Option A) → IsNone o → is_none o ≡ true
    is_true None h = refl
    is_true (Some x) h = absurd (cc)

-- ---- the trail is ready

pub prepared : (s n : SearchView) (assumed : List Lit) (log : List LogLine) → KeepsProblem s.clauses n.clauses → KeepsLogs s.clauses n.clauses → KnowsAll n.clauses → AssumesFirst assumed n.trail.entries → IsOverOwn s.clauses.own assumed → AreAskable s.clauses.banned assumed
    → IsLogOf s.clauses log → IsUnderWay n assumed log
prepared s n assumed log problem logs all first over askable logged = record {
  all = all;
  logged = logs log logged;
  over_own = subst (λ (own : List Var). IsOverOwn own assumed) (sym problem.own) over;
  askable = subst (λ (banned : List (Option Bool)). AreAskable banned assumed) (sym problem.banned) askable;
  first = first;
}

-- ---- what a call spends

few_placed : (after before v rose old new : ℕ) → after + old ≤ before + v * rose + new → new ≤ v → after ≤ before + v * (rose + 1)
few_placed after before v rose old new h fits =
    let split : v * (rose + 1) ≡ v * rose + v = grind arith in
    omega (arith, split, h, fits)

unmarked_few : (o : Outcome) → unmarked o ≤ 1
unmarked_few Sat = omega arith
unmarked_few (Unsat id) = omega arith
unmarked_few Spent = omega arith
unmarked_few Memory = omega arith

pub spent : (s n : SearchView) (first before after : Tally) (log grown : List LogLine) (o : Outcome) → Advances s n before after log grown (extra o) (unmarked o) → IsSearch n.clauses n.trail → AreEntries n.trail.variables n.trail.entries
    → before.calls ≡ first.calls + 1 → before.placed ≡ first.placed → before.learned ≡ first.learned → before.limit ≡ first.limit → Spends (length s.clauses.own) first after log grown
spent s n first before after log grown o h is are calls placed learned limit = record {
  calls = h.works.calls ∙ calls;
  limit = h.works.limit ∙ limit;
  rose = h.works.rose;
  learned = omega (arith, h.works.learned, learned);
  unmarked = unmarked o;
  one = unmarked_few o;
  grows = h.works.grows;
  placed = omega (arith, h.works.placed, placed);
  bounded = few_placed after.placed first.placed (length s.clauses.own) h.works.rose (length s.trail.entries) (length n.trail.entries)
      (subst (λ k. after.placed + length s.trail.entries ≤ k + length s.clauses.own * h.works.rose + length n.trail.entries) placed h.works.bounded)
      (omega (arith, fits_own n.clauses.own n.trail.entries are.different is.own, ap length h.problem.own));
  spare = omega (arith, h.works.spare, placed);
}

-- nothing was done
pub spent_nothing : (own : ℕ) (first before : Tally) (log : List LogLine) → before.calls ≡ first.calls + 1 → before.placed ≡ first.placed → before.learned ≡ first.learned → before.limit ≡ first.limit → Spends own first before log log
spent_nothing own first before log calls placed learned limit = record {
  calls = calls;
  limit = limit;
  rose = 0;
  learned = omega (arith, learned);
  unmarked = 0;
  one = omega arith;
  grows = LogGrows-none log;
  placed = omega (arith, placed);
  bounded = omega (arith, placed);
  spare = omega (arith, placed);
}

-- ---- what the answer says

pub answered : DerivationsAreSound → (s n : SearchView) (p q : Tally) (log grown : List LogLine) (assumed : List Lit) (k m : ℕ) (o : Outcome) → Advances s n p q log grown k m → IsSearch n.clauses n.trail → AreEntries n.trail.variables n.trail.entries
    → EndSays n assumed grown q o → AnswerSays (seen_as n.trail.variables n.clauses (trues_of n.clauses.own n.clauses.banned (literals n.trail.entries))) assumed grown q o
answered law s n p q log grown assumed k m Sat h is are says = found_meets n.clauses n.trail.variables n.trail.entries assumed is.over_own are.different says.0 says.1
answered law s n p q log grown assumed k m (Unsat id) h is are says =
    (says.1.0, rw says.1.1 says.2, none_meets law n.clauses grown id says.0 assumed h.logged says.1 says.2, says.3)
answered law s n p q log grown assumed k m Spent h is are says = says
answered law s n p q log grown assumed k m Memory h is are says = tt

-- ---- a new solver

pub empty_log : (c : ClausesView) → ((n : ℕ) (id : StepId) → get_or c.axiom_lines n None ≡ Some id → ⊥) → c.more ≡ [] → IsLogOf c []
empty_log c none no_more = record {
  derivation = record {
    good = λ i line at. absurd (never_at i line at);
    earlier = λ i line at. absurd (never_at i line at);
  };
  blocks = λ i number clause at. absurd (never_at i (BlockLine number clause) at);
  axioms = λ i number at. absurd (never_at i (AxiomLine number) at);
  axioms_stand = λ place id within has. absurd (none place id has);
  axioms_once = λ number. omega arith;
  stands = λ n id within has. absurd (omega (arith, within, ap length no_more));
  over_own = λ i clause hints learned at. absurd (never_at i (StepLine clause hints learned) at);
  short = λ i clause hints learned at. absurd (never_at i (StepLine clause hints learned) at);
  learned = λ i clause at. absurd (never_at i (StepLine clause at.0 true) at.1);
  new = record {
    no_tautology = λ i clause at. absurd (never_at i (StepLine clause at.0 true) at.1);
    no_axiom = λ i clause part at. absurd (never_at i (StepLine clause at.0 true) at.1);
    no_learned = λ i j earlier clause before at. absurd (never_at i (StepLine earlier at.0 true) at.1);
    no_block_line = λ i j number block clause before at. absurd (never_at i (BlockLine number block) at);
  };
  avoids = λ i clause at. absurd (never_at i (StepLine clause at.0 true) at.1);
  free = λ i clause at. absurd (never_at i (StepLine clause at.0 true) at.1);
}
  where
    never_at : (i : ℕ) (line : LogLine) → slice_get {X = LogLine} [] i ≡ Some line → ⊥
    never_at i line at = omega (arith, slice_get_within {A = LogLine} [] i line at)

-- of the clauses of a new solver
pub new_lone : (c : ClausesView) (banned : List (Option Bool)) (axioms : List (List Lit)) (used : List ℕ) → c.banned ≡ banned → c.axioms ≡ axioms → c.used ≡ used → c.more ≡ [] → AreLone banned axioms used → AreAllLone c
new_lone c banned axioms used one two three none lone = record {
  used = rw (one, two, three) lone;
  blocks = λ block has. let b = block_given_at c.more c.kept block has in absurd (omega (arith, b.1, ap length none));
}

pub trues_none : {E : Type 0} (own : List Var) (r : Result SolverView E) → IfOk r (λ s. s.trues ≡ trues_of own [] []) → IfOk r (λ s. s.trues ≡ [])
trues_none own (Ok s) h = h ∙ no_trues own
trues_none own (Err e) h = tt

pub no_lines : (count n : ℕ) (id : StepId) → get_or (replicate count None) n None ≡ Some id → ⊥
no_lines count n id h = never (sym (get_or-replicate_same count n) ∙ h)
  where
    never : ◌≡◌ {A = Option StepId} None (Some id) → ⊥
    never e = cc

    get_or-replicate_same : (count n : ℕ) → get_or {A = Option StepId} (replicate count None) n None ≡ None
    get_or-replicate_same zero n = refl
    get_or-replicate_same (suc count) zero = refl
    get_or-replicate_same (suc count) (suc n) = get_or-replicate_same count n

pub new_search : (axioms : List (List Lit)) (used : List ℕ) (own : List Var) (variables : ℕ) (c : ClausesView) (t : TrailView) → c.axioms ≡ axioms → c.used ≡ used → c.own ≡ own → c.known ≡ 0 → All (IsOverOwn own) c.more → t.variables ≡ variables → t.entries ≡ []
    → IsOver axioms c.more t → ((n : ℕ) → Contains used n → Contains t.attached (Axiom n)) → ((r : ClauseRef) → Contains t.attached r → (n : ℕ) × Contains used n × (r ≡ Axiom n))
    → All (λ n. n < length axioms) used → All (λ (v : Var). v.0 < variables) own → All (λ n. IsOverOwn own (get_or axioms n [])) used
    → AreAllLone c → IsSearch c t
new_search axioms used own variables c t one two three four more size none over all only in_axioms in_range over_own lone = record {
  over = rw one over;
  attached = known;
  known = λ r has. let n = only r has in subst (IsKnown c) (sym n.2) (axiom_in n.0 n.1);
  quiet = λ k d below place e at. absurd (omega (arith, slice_get_within t.entries place e at, ap length none));
  over_own = record {
    in_range = rw (three, size) in_range;
    used = λ n has. ((axiom_in n (subst (λ (us : List ℕ). Contains us n) two has)).0, used_own n (subst (λ (us : List ℕ). Contains us n) two has));
    more = rw three more;
  };
  own = λ k d below. absurd (omega (arith, below, ap length none));
  lone = lone;
  decided = λ place e at. absurd (omega (arith, slice_get_within t.entries place e at, ap length none));
}
  where
    axiom_in : (n : ℕ) → Contains used n → IsKnown c (Axiom n)
    axiom_in n has = (omega (arith, All-contains (λ m. m < length axioms) used n in_axioms has, ap length one), subst (λ (us : List ℕ). Contains us n) (sym two) has)

    used_own : (n : ℕ) → Contains used n → IsOverOwn c.own (get_or c.axioms n [])
    used_own n has = rw (one, three) (All-contains (λ m. IsOverOwn own (get_or axioms m [])) used n over_own has)

    known : (r : ClauseRef) → IsKnown c r → Contains t.attached r
    known (Axiom n) is = all n (subst (λ (us : List ℕ). Contains us n) two is.1)
    known (More n) is = absurd (omega (arith, is.1, four))

-- ---- a solver that goes on with another trail

pub is_aside : (c : ClausesView) (t : TrailView) → IsSearch c t → IsAside c
is_aside c t h = record { over_own = h.over_own.more; lone = h.lone }

pub problem_moved : (p : SuspendedView) (v c : ClausesView) (axioms : List (List Lit)) (used : List ℕ) (own : List Var) (variables : ℕ) → suspended_as v ≡ p → c ≡ record v { known = 0 } → axioms ≡ c.axioms → used ≡ c.used → own ≡ c.own
    → IsProblem variables p.problem → IsProblem variables (record { axioms = axioms; used = used; own = own; banned = v.banned })
problem_moved p v c axioms used own variables same is one two three h =
    let here : IsProblem variables (suspended_as v).problem = subst (λ (s : SuspendedView). IsProblem variables s.problem) (sym same) h in
    rw (one ∙ ap (λ (w : ClausesView). w.axioms) is, two ∙ ap (λ (w : ClausesView). w.used) is, three ∙ ap (λ (w : ClausesView). w.own) is) here

pub resumed_search : (p : SuspendedView) (v c : ClausesView) (t : TrailView) (axioms : List (List Lit)) (used : List ℕ) (own : List Var) (variables : ℕ) → suspended_as v ≡ p → c ≡ record v { known = 0 } → axioms ≡ c.axioms → used ≡ c.used → own ≡ c.own
    → IsProblem variables p.problem → IsAside v → t.variables ≡ variables → t.entries ≡ [] → ((more : List (List Lit)) → IsOver axioms more t) → ((n : ℕ) → Contains used n → Contains t.attached (Axiom n))
    → ((r : ClauseRef) → Contains t.attached r → (n : ℕ) × Contains used n × (r ≡ Axiom n)) → IsSearch c t
resumed_search p v c t axioms used own variables same is one two three h aside size none over all only =
    let here = problem_moved p v c axioms used own variables same is one two three h in
    let still : All (IsOverOwn own) c.more = rw (three ∙ ap (λ (w : ClausesView). w.own) is, ap (λ (w : ClausesView). w.more) is) aside.over_own in
    new_search axioms used own variables c t (sym one) (sym two) (sym three) (ap (λ (w : ClausesView). w.known) is) still size none (over c.more) all only here.used_in here.own_in here.over_own
    (subst AreAllLone (sym is) (record { used = aside.lone.used; blocks = aside.lone.blocks }))

-- ---- the used axioms are attached

pub used_in_range : (axioms : List (List Lit)) (used : List ℕ) (own : List Var) (variables i n : ℕ) (lits : List Lit) → All (λ m. IsOverOwn own (get_or axioms m [])) used → All (λ (v : Var). v.0 < variables) own → i < length used → n ≡ get_or used i n → slice_get axioms n ≡ Some lits
    → AreInRange variables lits
used_in_range axioms used own variables i n lits over_own in_range below is at =
    let read : get_or axioms (get_or used i n) [] ≡ lits = ap (λ m. get_or axioms m []) (sym is) ∙ get_or_from_slice_get axioms n lits [] at in
    own_in_range own variables lits in_range (subst (IsOverOwn own) read (over_own i n below))

pub attached_next : (used : List ℕ) (attached new : List ClauseRef) (i n : ℕ) → i < length used → n ≡ get_or used i n → new ≡ attached ++ Axiom n ∷ [] → ((m : ℕ) → Contains (take i used) m → Contains attached (Axiom m))
    → (m : ℕ) → Contains (take (i + 1) used) m → Contains new (Axiom m)
attached_next used attached new i n below read is old m has =
    rw is (⊎_elim
    (λ was. Contains-append_left attached (Axiom n ∷ []) (Axiom m) (old m was))
    (λ last. subst (λ k. Contains (attached ++ Axiom n ∷ []) (Axiom k)) last (Contains-push attached (Axiom n)))
    (Contains-push_cases (take i used) n m (subst (λ (xs : List ℕ). Contains xs m) (take_more used i n below ∙ ap (λ k. take i used ++ k ∷ []) (sym read)) has)))

pub known_next : (used : List ℕ) (attached new : List ClauseRef) (i n : ℕ) → i < length used → n ≡ get_or used i n → new ≡ attached ++ Axiom n ∷ [] → ((r : ClauseRef) → Contains attached r → (m : ℕ) × Contains used m × (r ≡ Axiom m))
    → (r : ClauseRef) → Contains new r → (m : ℕ) × Contains used m × (r ≡ Axiom m)
known_next used attached new i n below read is old r has =
    ⊎_elim (λ was. old r was) (λ last. (n, (i, below, sym read), sym last)) (Contains-push_cases attached (Axiom n) r (subst (λ (refs : List ClauseRef). Contains refs r) is has))
