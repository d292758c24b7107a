-- Banned places before the point give way to their reasons.
use Rattle.std.proofs.Common.{◌≡◌, ◌≢◌, ℕ, ◌+◌, ◌-◌, ◌<◌, ◌≤◌, Bool, Option, true, false, List, [], ◌∷◌, ◌++◌, length, get_or, set, take, reverse, sym, ap, ◌∙◌, subst, arith, ⊎_elim, inl, inr, ◌⊎◌, Contains, Some, IsNone, AllPairs, slice_get}
use Rattle.std.proofs.lemmas.Bool.{cases_eq, cases_lt, cases_Bool, false≢true}
use Rattle.std.proofs.lemmas.Option.{get_or_from_slice_get, slice_get-get_or, same_Some}
use Rattle.std.proofs.lemmas.List.{get_or-set_same, get_or-set_other}
use Rattle.std.proofs.lemmas.List.Elements.{Contains-push, Contains-push_cases, Contains-append_left, All-contains}
use Rattle.pc_lemmas.proofs.Elements.{contains_first, contains_later, contains_cases}
use Rattle.pc_lits.specs.declared.literal.Lit.{Lit}
use Rattle.pc_lits.specs.Literals.{negated}
use Rattle.pc_lits.specs.Steps.{IsLastOpen}
use Rattle.pc_lits.proofs.LitLemmas.{same_lit, lit_from_same, other_lit}
use Rattle.pc_propagate.specs.declared.trail.TrailEntry.{TrailEntry}
use Rattle.pc_propagate.specs.declared.clauses.ClauseRef.{ClauseRef}
use Rattle.pc_propagate.specs.Entries.{falses, Differ}
use Rattle.pc_propagate.specs.Levels.{IsEntryOfVariable}
use Rattle.pc_propagate.specs.Over.{AreJustified}
use Rattle.pc_propagate.specs.Refs.{clause_at}
use Rattle.pc_propagate.specs.Watched.{IsFalseAt}
use Rattle.pc_propagate.specs.TrailView.{TrailView}
use Rattle.pc_propagate.specs.Quiet.{WasSettled, WasQuiet}
use Rattle.pc_analyze.specs.FirstPoint.{StandsInReason, IsBannedAt, IsWayBy, LeadsBy}
use Rattle.pc_analyze.specs.declared.graph.ConflictGraph.{ConflictGraph}
use Rattle.pc_analyze.specs.inside.Graph.{trail_of, clauses_of, AreAttached, IsBannedIn, banned_of, IsImplicationGraph}
use Rattle.pc_analyze.specs.inside.Marking.{IsMarked, MarksClause}
use Rattle.pc_analyze.specs.inside.Refuted.{AreRefuting, RefuteMarked, AreAskedByMarks, AreLeft, HasGivenWay}
use Rattle.pc_propagate.proofs.PlaceLemmas.{false_at_before, false_before, false_at_from, false_at_same, false_at_unique, false_still, not_both, contains_false_at, place_is}
use Rattle.pc_analyze.proofs.MarkLemmas.{mark_old}
use Rattle.pc_analyze.proofs.RefuteLemmas.{Refutes-cons}
use Rattle.pc_analyze.proofs.StepLemmas.{HasReason, reason_says, hints_cons, no_entry}
use Rattle.pc_analyze.proofs.WalkLemmas.{nothing_in}
use Rattle.pc_analyze.proofs.WayLemmas.{stands_before}

-- ---- a reason of a later place of a level

some_or_all : (P Q : Lit → Type 0) (xs : List Lit) → ((m : Lit) → Contains xs m → P m ⊎ Q m) → ((m : Lit) × Contains xs m × P m) ⊎ ((m : Lit) → Contains xs m → Q m)
some_or_all P Q [] f = inr (λ m has. absurd (nothing_in m has))
some_or_all P Q (x ∷ xs) f = elim (f x (contains_first x xs)) [
  | inl p ↦ inl (x, contains_first x xs, p)
  | inr q ↦ elim (some_or_all P Q xs (λ m has. f m (contains_later x xs m has))) [
    | inl found ↦ inl (found.0, contains_later x xs found.0 found.1, found.2)
    | inr rest ↦ inr (λ m has. elim (contains_cases x xs m has) [ inl same ↦ subst Q same q | inr later ↦ rest m later ])
  ]
]

-- where the trail was quiet at the level's decision, the reason has another literal of the level
pub reason_of_level : (axioms more : List (List Lit)) (trail : TrailView) → AreJustified axioms more trail.attached trail.entries → AllPairs Differ trail.entries → WasQuiet axioms more trail
    → (start place : ℕ) (reason : ClauseRef) → start < place → place < length trail.entries → HasReason trail.entries place reason → ((d : TrailEntry) → IsNone (get_or trail.entries start d).reason)
    → (m : Lit) × Contains (clause_at axioms more reason) m × ((k : ℕ) × (start ≤ k) × (k < place) × IsFalseAt trail.entries k m)
reason_of_level axioms more trail justified different quiet start place reason after within has starts =
    let entries = trail.entries in
    let clause = clause_at axioms more reason in
    let says = reason_says trail.attached axioms more entries place reason no_entry justified within has in
    let l = (get_or entries place no_entry).literal in
    let here = false_at_from entries place no_entry within in
    let P : Lit → Type 0 = λ m. (k : ℕ) × (start ≤ k) × (k < place) × IsFalseAt entries k m in
    let Q : Lit → Type 0 = λ m. m ≢ l → Contains (falses (take start entries)) m in
    let each : (m : Lit) → Contains clause m → P m ⊎ Q m = λ m m_in. elim (cases_Bool (same_lit m l)) [
      | inl is ↦ inr (λ other. absurd (other (lit_from_same m l is)))
      | inr differs ↦
          let at = false_at_before entries place m (says.1.2 m m_in (other_lit m l differs)) in
          elim (cases_lt at.0 start) [
            | inl early ↦ inr (λ other. false_before entries start at.0 m early at.2)
            | inr late ↦ inl (at.0, late, at.1, at.2)
          ]
    ] in
    elim (some_or_all P Q clause each) [
      | inl found ↦ found
      | inr all ↦
          let not_l : Contains (falses (take start entries)) l → ⊥ = λ h. not_both entries l different (false_still entries start l h) (contains_false_at entries place (negated l) here) in
          let last : IsLastOpen negated (falses (take start entries)) clause l = (says.1.0, not_l, all) in
          let settled = All-contains (λ (r : ClauseRef). WasSettled entries (clause_at axioms more r)) trail.attached reason quiet says.0 in
          let e_at = slice_get-get_or entries start no_entry (omega (arith, after, within)) in
          let at = false_at_before entries start (negated l) ((settled start (get_or entries start no_entry) e_at (starts no_entry)).1 l last) in
          absurd (omega (arith, at.1, after, false_at_unique entries (negated l) at.0 place different at.2 here))
    ]

-- ---- refuting

-- at first all marks but the point's are before it
pub marked_refuted : (entries : List TrailEntry) (point : ℕ) (marks : List Bool) (hints : List (List Lit)) → AreRefuting entries [] (point + 1) marks hints → RefuteMarked entries point marks hints
marked_refuted entries point marks hints h lits covers within =
    h.refutes lits covers (λ m has. absurd (nothing_in m has))
    (λ m has.
    let at = within m has in
    let early : at.0 < point + 1 = elim at.1 [ inl before ↦ omega (arith, before) | inr marked ↦ h.below at.0 marked ] in
    inl (false_before entries (point + 1) at.0 m early at.2))

-- a place that stays is passed over
pub marked_skip : (entries : List TrailEntry) (place : ℕ) (marks : List Bool) (hints : List (List Lit)) → RefuteMarked entries (place + 1) marks hints → RefuteMarked entries place marks hints
marked_skip entries place marks hints h lits covers within =
    h lits covers (λ m has. let at = within m has in (at.0, elim at.1 [ inl before ↦ inl (omega (arith, before)) | inr marked ↦ inr marked ], at.2))

module _ (attached : List ClauseRef) (axioms more : List (List Lit)) (entries : List TrailEntry) (justified : AreJustified axioms more attached entries) (different : AllPairs Differ entries)
    (place start added : ℕ) (reason : ClauseRef) (old marks : List Bool) (within : place < length entries) (has : HasReason entries place reason) (size : length old ≡ length entries) (is_marked : IsMarked old place)
    (marking : MarksClause entries (clause_at axioms more reason) place start (set old place false) marks added) where
  l : Lit
  l = (get_or entries place no_entry).literal

  here : IsFalseAt entries place (negated l)
  unfolding l
  here = false_at_from entries place no_entry within

  last : IsLastOpen negated (falses (take place entries)) (clause_at axioms more reason) l
  unfolding l
  last = (reason_says attached axioms more entries place reason no_entry justified within has).1

  -- its own mark is gone
  not_here : IsMarked marks place → ⊥
  not_here h = elim (marking.only place h) [
    | inl was ↦ false≢true (sym (get_or-set_same old place false false (omega (arith, size, within))) ∙ was)
    | inr new ↦ omega (arith, new.0)
  ]

  pub stays_marked : (k : ℕ) → k ≢ place → IsMarked old k → IsMarked marks k
  stays_marked k other h = marking.kept k (get_or-set_other old place k false false other ∙ h)

  pub was_marked : (k : ℕ) → place ≤ k → IsMarked marks k → IsMarked old k
  was_marked k late h = elim (cases_eq k place) [
    | inl same ↦ absurd (not_here (subst (IsMarked marks) same h))
    | inr other ↦ elim (marking.only k h) [ inl was ↦ mark_old old place k false other was | inr new ↦ absurd (omega (arith, new.0, late)) ]
  ]

  -- the reason goes before the hints
  pub marked_resolve : (hints : List (List Lit)) → RefuteMarked entries (place + 1) old hints → AreAskedByMarks entries old hints → RefuteMarked entries place marks (clause_at axioms more reason ∷ hints)
  marked_resolve hints h asked lits covers inside =
      let known : (m : Lit) → Contains lits m → Contains (falses entries) m = λ m m_in. let at = inside m m_in in contains_false_at entries at.0 m at.2 in
      let not_l : Contains lits l → ⊥ = λ l_in. not_both entries l different (known l l_in) (contains_false_at entries place (negated l) here) in
      let fresh : Contains lits (negated l) → ⊥ = λ m_in.
      let at = inside (negated l) m_in in
      let same = false_at_unique entries (negated l) at.0 place different at.2 here in
      elim at.1 [ inl before ↦ omega (arith, before, same) | inr marked ↦ not_here (subst (IsMarked marks) same marked) ] in
      let open_one : IsLastOpen negated lits (clause_at axioms more reason) l = (
        last.0,
        not_l,
        λ m m_in other. let at = false_at_before entries place m (last.2 m m_in other) in covers at.0 m (marking.of_clause at.0 m at.1 m_in at.2) at.2,
      ) in
      Refutes-cons lits (clause_at axioms more reason) l hints open_one fresh (asked place (negated l) is_marked here)
      (h (lits ++ negated l ∷ [])
      (λ k m k_marked at. elim (cases_eq k place) [
        | inl same ↦ subst (Contains (lits ++ negated l ∷ [])) (false_at_same entries place (negated l) m here (subst (λ (n : ℕ). IsFalseAt entries n m) same at)) (Contains-push lits (negated l))
        | inr other ↦ Contains-append_left lits (negated l ∷ []) m (covers k m (stays_marked k other k_marked) at)
      ])
      (λ m m_in. elim (Contains-push_cases lits (negated l) m m_in) [
        | inl old_one ↦ let at = inside m old_one in (
          at.0,
          elim at.1 [
            | inl before ↦ inl (omega (arith, before))
            | inr marked ↦ elim (cases_lt at.0 place) [ inl early ↦ inl (omega (arith, early)) | inr late ↦ inr (was_marked at.0 late marked) ]
          ],
          at.2,
        )
        | inr same ↦ (place, inl (omega arith), subst (IsFalseAt entries place) same here)
      ]))

-- ---- ways

module _ (attached : List ClauseRef) (axioms more : List (List Lit)) (entries : List TrailEntry) (conflict : List Lit) (justified : AreJustified axioms more attached entries) (different : AllPairs Differ entries) where
  abbrev Goes : (ℕ → Type 0) → ℕ → List ℕ → Type 0
  Goes = IsWayBy axioms more entries conflict

  abbrev pub LeadTo : (ℕ → Type 0) → List Bool → Type 0
  LeadTo By marks = ((k : ℕ) → IsMarked marks k → (¬ By k) × LeadsBy axioms more entries conflict By k) × ((k : ℕ) → ¬ By k → LeadsBy axioms more entries conflict By k → IsMarked marks k)

  before : (place next : ℕ) → StandsInReason axioms more entries place next → place < next
  before = stands_before attached axioms more entries conflict justified different

  way_by : (A B : ℕ → Type 0) → ((k : ℕ) → A k → B k) → (place : ℕ) (way : List ℕ) → Goes A place way → Goes B place way
  way_by A B f place [] h = h
  way_by A B f place (next ∷ rest) h = (f next h.0, h.1, way_by A B f next rest h.2)

  -- where the same ways go
  pub lead_same : (A B : ℕ → Type 0) → ((k : ℕ) → A k → B k) → ((k : ℕ) → B k → A k) → (marks : List Bool) → LeadTo A marks → LeadTo B marks
  lead_same A B f g marks h = (
    λ k marked. let was = h.0 k marked in (λ b. was.0 (g k b), (was.1.0, way_by A B f k was.1.0 was.1.1)),
    λ k out leads. h.1 k (λ a. out (f k a)) (leads.0, way_by B A g k leads.0 leads.1),
  )

  -- the place goes over to those by which ways lead, all of which come later
  module _ (p : ℕ) (A B : ℕ → Type 0) (late : (k : ℕ) → A k → p < k) (wider : (k : ℕ) → A k → B k) (one : (k : ℕ) → B k → A k ⊎ (k ≡ p)) where
    -- from it or a later one no way leads back to it
    way_later : (place : ℕ) (way : List ℕ) → p ≤ place → Goes B place way → Goes A place way
    way_later place [] after h = h
    way_later place (next ∷ rest) after h =
        let beyond = before place next h.1 in
        let a : A next = elim (one next h.0) [ inl is ↦ is | inr same ↦ absurd (omega (arith, after, beyond, same)) ] in
        (a, h.1, way_later next rest (omega (arith, after, beyond)) h.2)

    first_other : (k next : ℕ) (rest : List ℕ) → next ≢ p → Goes B k (next ∷ rest) → Goes A k (next ∷ rest)
    first_other k next rest other h =
        let a : A next = elim (one next h.0) [ inl is ↦ is | inr same ↦ absurd (other same) ] in
        (a, h.1, way_later next rest (omega (arith, late next a)) h.2)

    not_itself : A p → ⊥
    not_itself a = omega (arith, late p a)

    pub lead_skip : (marks : List Bool) → (IsMarked marks p → ⊥) → LeadTo A marks → LeadTo B marks
    lead_skip marks free h = (
      λ k marked.
          let was = h.0 k marked in
          (λ b. elim (one k b) [ inl a ↦ was.0 a | inr same ↦ free (subst (IsMarked marks) same marked) ], (was.1.0, way_by A B wider k was.1.0 was.1.1)),
      λ k out leads. of_way k out leads.0 leads.1,
    )
      where
        of_way : (k : ℕ) → ¬ B k → (way : List ℕ) → Goes B k way → IsMarked marks k
        of_way k out [] way = h.1 k (λ a. out (wider k a)) ([], way)
        of_way k out (next ∷ rest) way = elim (cases_eq next p) [
          | inl same ↦ absurd (free (h.1 p not_itself (rest, way_later p rest (omega arith) (subst (λ (n : ℕ). Goes B n rest) same way.2))))
          | inr other ↦ h.1 k (λ a. out (wider k a)) (next ∷ rest, first_other k next rest other way)
        ]

    pub lead_resolve : B p → (start added : ℕ) (reason : ClauseRef) (old marks : List Bool) → p < length entries → HasReason entries p reason → length old ≡ length entries → IsMarked old p
        → MarksClause entries (clause_at axioms more reason) p start (set old p false) marks added → LeadTo A old → LeadTo B marks
    lead_resolve given start added reason old marks within has size is_marked marking h = (
      λ k marked. ⊎_elim (was_met k) (λ new. of_reason k new.0 new.1.0 new.1.1 new.1.2) (marking.only k marked),
      λ k out leads. now_met k out leads.0 leads.1,
    )
      where
        e : TrailEntry
        e = get_or entries p no_entry

        at : slice_get entries p ≡ Some e
        at = slice_get-get_or entries p no_entry within

        was_met : (k : ℕ) → IsMarked (set old p false) k → (¬ B k) × LeadsBy axioms more entries conflict B k
        was_met k marked = elim (cases_eq k p) [
          | inl equal ↦ absurd (false≢true (sym (get_or-set_same old p false false (omega (arith, size, within))) ∙ subst (IsMarked (set old p false)) equal marked))
          | inr other ↦
              let was = h.0 k (mark_old old p k false other marked) in
              (λ b. elim (one k b) [ inl a ↦ was.0 a | inr same ↦ other same ], (was.1.0, way_by A B wider k was.1.0 was.1.1))
        ]

        of_reason : (k : ℕ) → k < p → (m : Lit) → Contains (clause_at axioms more reason) m → IsEntryOfVariable entries m.variable k → (¬ B k) × LeadsBy axioms more entries conflict B k
        of_reason k below m m_in is =
            let says = reason_says attached axioms more entries p reason no_entry justified within has in
            let mine = h.0 p is_marked in
            elim (cases_Bool (same_lit m e.literal)) [
              | inl same ↦ absurd (omega (arith, below, is.alone p no_entry within (sym (ap (λ (x : Lit). x.variable.0) (lit_from_same m e.literal same)))))
              | inr differs ↦
                  let found = false_at_before entries p m (says.1.2 m m_in (other_lit m e.literal differs)) in
                  let m_at = subst (λ (j : ℕ). IsFalseAt entries j m) (place_is entries found.0 m k is found.2) found.2 in
                  let way : Goes B k (p ∷ mine.1.0) = (given, (e, reason, at, has no_entry, (m, m_at, m_in)), way_by A B wider p mine.1.0 mine.1.1) in
                  (λ b. elim (one k b) [ inl a ↦ omega (arith, late k a, below) | inr same ↦ omega (arith, same, below) ], (p ∷ mine.1.0, way))
            ]

        kept : (k : ℕ) → k ≢ p → IsMarked old k → IsMarked marks k
        kept k other marked = marking.kept k (get_or-set_other old p k false false other ∙ marked)

        through : (k : ℕ) → StandsInReason axioms more entries k p → IsMarked marks k
        through k (x, r, x_at, r_is, stands) =
            let below : k < p = before k p (x, r, x_at, r_is, stands) in
            let same_reason : Some r ≡ Some reason = sym r_is ∙ ap (λ (y : TrailEntry). y.reason) (sym (get_or_from_slice_get entries p x no_entry x_at)) ∙ has no_entry in
            marking.of_clause k stands.0 below (subst (λ (q : ClauseRef). Contains (clause_at axioms more q) stands.0) (same_Some r reason same_reason) stands.2) stands.1

        apart : (k : ℕ) → ¬ B k → k ≢ p
        apart k out same = out (subst B (sym same) given)

        now_met : (k : ℕ) → ¬ B k → (way : List ℕ) → Goes B k way → IsMarked marks k
        now_met k out [] way = kept k (apart k out) (h.1 k (λ a. out (wider k a)) ([], way))
        now_met k out (next ∷ rest) way = elim (cases_eq next p) [
          | inl equal ↦ through k (subst (StandsInReason axioms more entries k) equal way.1)
          | inr other ↦ kept k (apart k out) (h.1 k (λ a. out (wider k a)) (next ∷ rest, first_other k next rest other way))
        ]

-- ---- the places that have given way

module _ (banned : List (Option Bool)) (entries : List TrailEntry) (point p : ℕ) (early : p < point) where
  abbrev Was : ℕ → Type 0
  Was = HasGivenWay banned entries point (p + 1)

  abbrev Is : ℕ → Type 0
  Is = HasGivenWay banned entries point p

  pub given_later : (k : ℕ) → Was k → p < k
  given_later k (inl after) = omega (arith, after, early)
  given_later k (inr is) = omega (arith, is.0)

  pub given_wider : (k : ℕ) → Was k → Is k
  given_wider k (inl after) = inl after
  given_wider k (inr is) = inr (omega (arith, is.0), is.1)

  pub given_one : (k : ℕ) → Is k → Was k ⊎ (k ≡ p)
  given_one k (inl after) = inl (inl after)
  given_one k (inr is) = elim (cases_eq k p) [ inl same ↦ inr same | inr other ↦ inl (inr (omega (arith, is.0, other), is.1)) ]

  pub given_same : ¬ IsBannedAt banned entries p → (k : ℕ) → Is k → Was k
  given_same free k is = elim (given_one k is) [
    | inl was ↦ was
    | inr same ↦ elim is [
      | inl after ↦ inl after
      | inr both ↦ absurd (free (subst (IsBannedAt banned entries) same both.1))
    ]
  ]

-- ---- while they give way

-- what is known when the places from `place` on are done
pub record IsFreed (g : ConflictGraph) (point place : ℕ) (first marks : List Bool) (hints : List ClauseRef) : Type 0 where
  pub early : place ≤ point
  pub within : (k : ℕ) → IsMarked marks k → k ≤ point
  pub free : (k : ℕ) → place ≤ k → IsMarked marks k → ¬ IsBannedIn g k
  pub refs : AreAttached g.graph hints
  pub refuted : RefuteMarked (trail_of g) place marks (clauses_of g.graph (reverse hints))
  pub asked : AreAskedByMarks (trail_of g) marks (clauses_of g.graph (reverse hints))
  pub point_stays : IsMarked first point → IsMarked marks point
  pub alone : (start : ℕ) → ((k : ℕ) → start ≤ k → IsMarked first k → k ≡ point) → (k : ℕ) → start ≤ k → IsMarked marks k → k ≡ point
  pub ways : (conflict : List Lit) → AreLeft g.graph.axioms.now g.graph.more.now (banned_of g) (trail_of g) conflict point point first → AreLeft g.graph.axioms.now g.graph.more.now (banned_of g) (trail_of g) conflict point place marks

module _ (g : ConflictGraph) (graph : IsImplicationGraph g.graph) (point place : ℕ) (first old : List Bool) (hints : List ClauseRef) (h : IsFreed g point (place + 1) first old hints) where
  below : place < point
  below = omega (arith, h.early)

  lead_to : (conflict : List Lit) → AreLeft g.graph.axioms.now g.graph.more.now (banned_of g) (trail_of g) conflict point point first
      → LeadTo g.graph.trail.now.attached g.graph.axioms.now g.graph.more.now (trail_of g) conflict graph.over.justified graph.entries.different (HasGivenWay (banned_of g) (trail_of g) point (place + 1)) old
  lead_to conflict was = let now = h.ways conflict was in (now.leads, now.marked)

  pub freed_skip : (IsMarked old place → ¬ IsBannedIn g place) → IsFreed g point place first old hints
  freed_skip stays = record {
    early = omega (arith, h.early);
    within = h.within;
    free = λ k late marked. elim (cases_eq k place) [
      | inl same ↦ subst (λ (n : ℕ). ¬ IsBannedIn g n) (sym same) (stays (subst (IsMarked old) same marked))
      | inr other ↦ h.free k (omega (arith, late, other)) marked
    ];
    refs = h.refs;
    refuted = marked_skip (trail_of g) place old (clauses_of g.graph (reverse hints)) h.refuted;
    asked = h.asked;
    point_stays = h.point_stays;
    alone = h.alone;
    ways = λ conflict was.
        let banned = banned_of g in
        let now : LeadTo g.graph.trail.now.attached g.graph.axioms.now g.graph.more.now (trail_of g) conflict graph.over.justified graph.entries.different (HasGivenWay banned (trail_of g) point place) old =
        elim (cases_Bool (get_or old place false)) [
          | inl marked ↦
              lead_same g.graph.trail.now.attached g.graph.axioms.now g.graph.more.now (trail_of g) conflict graph.over.justified graph.entries.different
              (HasGivenWay banned (trail_of g) point (place + 1)) (HasGivenWay banned (trail_of g) point place) (given_wider banned (trail_of g) point place below)
              (given_same banned (trail_of g) point place below (stays marked)) old (lead_to conflict was)
          | inr free ↦
              lead_skip g.graph.trail.now.attached g.graph.axioms.now g.graph.more.now (trail_of g) conflict graph.over.justified graph.entries.different place
              (HasGivenWay banned (trail_of g) point (place + 1)) (HasGivenWay banned (trail_of g) point place) (given_later banned (trail_of g) point place below) (given_wider banned (trail_of g) point place below)
              (given_one banned (trail_of g) point place below) old (λ marked. false≢true (sym free ∙ marked)) (lead_to conflict was)
        ] in
        record { leads = now.0; marked = now.1 };
  }

  pub freed_resolve : (reason : ClauseRef) (marks : List Bool) (after : List ClauseRef) (start added : ℕ) → place < length (trail_of g) → HasReason (trail_of g) place reason → length old ≡ length (trail_of g)
      → IsMarked old place → IsBannedIn g place → MarksClause (trail_of g) (clause_at g.graph.axioms.now g.graph.more.now reason) place start (set old place false) marks added
      → after ≡ hints ++ reason ∷ [] → AreAttached g.graph after → AreAskedByMarks (trail_of g) marks (clauses_of g.graph (reverse after)) → IsFreed g point place first marks after
  freed_resolve reason marks after start added room has size is_marked is_banned marking pushed refs asked =
      let axioms = g.graph.axioms.now in
      let more = g.graph.more.now in
      let attached = g.graph.trail.now.attached in
      let justified = graph.over.justified in
      let different = graph.entries.different in
      let was = was_marked attached axioms more (trail_of g) justified different place start added reason old marks room has size is_marked marking in
      let stays = stays_marked attached axioms more (trail_of g) justified different place start added reason old marks room has size is_marked marking in
      record {
        early = omega (arith, h.early);
        within = λ k marked. elim (cases_lt k place) [
          | inl early ↦ omega (arith, early, below)
          | inr late ↦ h.within k (was k late marked)
        ];
        free = λ k late marked. elim (cases_eq k place) [
          | inl same ↦ absurd (gone k same marked)
          | inr other ↦ h.free k (omega (arith, late, other)) (was k late marked)
        ];
        refs = refs;
        refuted = rw (pushed, hints_cons axioms more hints reason)
            (marked_resolve attached axioms more (trail_of g) justified different place start added reason old marks room has size is_marked marking (clauses_of g.graph (reverse hints)) h.refuted h.asked);
        asked = asked;
        point_stays = λ marked. stays point (λ same. omega (arith, same, below)) (h.point_stays marked);
        alone = λ from only k late marked. elim (cases_lt k place) [
          | inl early ↦
              let one = h.alone from only place (omega (arith, late, early)) is_marked in
              absurd (omega (arith, one, below))
          | inr beyond ↦ h.alone from only k late (was k beyond marked)
        ];
        ways = λ conflict was_left.
            let banned = banned_of g in
            let now =
            lead_resolve attached axioms more (trail_of g) conflict justified different place (HasGivenWay banned (trail_of g) point (place + 1)) (HasGivenWay banned (trail_of g) point place)
            (given_later banned (trail_of g) point place below) (given_wider banned (trail_of g) point place below) (given_one banned (trail_of g) point place below) (inr (omega arith, is_banned))
            start added reason old marks room has size is_marked marking (lead_to conflict was_left) in
            record { leads = now.0; marked = now.1 };
      }
    where
      gone : (k : ℕ) → k ≡ place → IsMarked marks k → ⊥
      gone k same marked = elim (marking.only k marked) [
        | inl still ↦ false≢true (sym (get_or-set_same old place false false (omega (arith, size, room))) ∙ subst (IsMarked (set old place false)) same still)
        | inr new ↦ omega (arith, new.0, same)
      ]

pub freed_at_first : (g : ConflictGraph) (point : ℕ) (marks : List Bool) (hints : List ClauseRef) → ((k : ℕ) → IsMarked marks k → k ≤ point) → ¬ IsBannedIn g point → AreAttached g.graph hints
    → RefuteMarked (trail_of g) point marks (clauses_of g.graph (reverse hints)) → AreAskedByMarks (trail_of g) marks (clauses_of g.graph (reverse hints)) → IsFreed g point point marks marks hints
freed_at_first g point marks hints early free refs refuted asked = record {
  early = omega arith;
  within = early;
  free = λ k late marked is_banned. free (subst (IsBannedIn g) (let same : k ≡ point = omega (arith, late, early k marked) in same) is_banned);
  refs = refs;
  refuted = refuted;
  asked = asked;
  point_stays = λ marked. marked;
  alone = λ start only. only;
  ways = λ conflict h. h;
}
