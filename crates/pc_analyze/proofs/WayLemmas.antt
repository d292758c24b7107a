-- Ways from entries to a false clause, while an analysis goes back over the trail.
use Rattle.std.proofs.Common.{◌≡◌, ◌≢◌, ℕ, ◌+◌, ◌-◌, ◌<◌, ◌≤◌, Bool, Option, false, inl, inr, ◌⊎◌, List, [], ◌∷◌, length, get_or, set, replicate, sym, ap, ◌∙◌, subst, arith, ⊎_elim, Contains, Some, IsNone, AllPairs, slice_get}
use Rattle.std.proofs.lemmas.Bool.{cases_eq, cases_lt, cases_Bool, false≢true}
use Rattle.std.proofs.lemmas.Option.{slice_get_within, get_or_from_slice_get, slice_get-get_or, same_Some}
use Rattle.std.proofs.lemmas.List.{get_or-set_same, get_or-set_other}
use Rattle.pc_lits.specs.declared.literal.Lit.{Lit}
use Rattle.pc_lits.specs.Literals.{negated}
use Rattle.pc_lits.specs.Steps.{AreFalse}
use Rattle.pc_lits.proofs.LitLemmas.{same_lit, lit_from_same, other_lit}
use Rattle.pc_propagate.specs.declared.trail.TrailEntry.{TrailEntry}
use Rattle.pc_propagate.specs.declared.clauses.ClauseRef.{ClauseRef}
use Rattle.pc_propagate.specs.Entries.{falses, Differ}
use Rattle.pc_propagate.specs.Levels.{level_at, IsEntryOfVariable}
use Rattle.pc_propagate.specs.Over.{AreJustified}
use Rattle.pc_propagate.specs.Refs.{clause_at}
use Rattle.pc_propagate.specs.Watched.{IsFalseAt}
use Rattle.pc_analyze.specs.inside.Marking.{IsMarked, MarksClause, marks_from, AreNegations}
use Rattle.pc_analyze.specs.FirstPoint.{StandsInReason, IsWay, IsWayBy, Leads, IsBannedAt, GivesWay, IsOfFirstFreePoint}
use Rattle.pc_analyze.specs.inside.Refuted.{AreLeading, ArePassed, AreLeft, HasGivenWay}
use Rattle.pc_propagate.proofs.PlaceLemmas.{false_at_contains, false_at_from, false_at_before, contains_false_at, place_is, not_both, false_at_unique}
use Rattle.pc_analyze.proofs.LevelLemmas.{level_at-le, level_at-below}
use Rattle.pc_analyze.proofs.MarkLemmas.{some_mark, unmarked, only_mark, mark_old, marked_within, unmarked_at_first}
use Rattle.pc_analyze.proofs.StepLemmas.{HasReason, reason_says, no_entry}
use Rattle.pc_analyze.proofs.LearnLemmas.{IsEnd, covers_all, only_marked}

-- the entry's reason, read
has_reason : (entries : List TrailEntry) (place : ℕ) (e : TrailEntry) (reason : ClauseRef) → slice_get entries place ≡ Some e → e.reason ≡ Some reason → HasReason entries place reason
has_reason entries place e reason at is d = ap (λ (x : TrailEntry). x.reason) (get_or_from_slice_get entries place e d at) ∙ is

module _ (attached : List ClauseRef) (axioms more : List (List Lit)) (entries : List TrailEntry) (conflict : List Lit) (justified : AreJustified axioms more attached entries) (different : AllPairs Differ entries) where
  -- what stands in the reason of an entry, and is false by an entry, is so by an earlier one
  reason_before : (place next : ℕ) (reason : ClauseRef) (m : Lit) → next < length entries → HasReason entries next reason → IsFalseAt entries place m → Contains (clause_at axioms more reason) m → place < next
  reason_before place next reason m within has at m_in =
      let says = reason_says attached axioms more entries next reason no_entry justified within has in
      let l = (get_or entries next no_entry).literal in
      ⊎_elim
      (λ yes. absurd (not_both entries l different
      (subst (Contains (falses entries)) (lit_from_same m l yes) (contains_false_at entries place m at))
      (contains_false_at entries next (negated l) (false_at_from entries next no_entry within))))
      (λ no.
      let earlier = false_at_before entries next m (says.1.2 m m_in (other_lit m l no)) in
      omega (arith, earlier.1, false_at_unique entries m place earlier.0 different at earlier.2))
      (cases_Bool (same_lit m l))

  pub stands_before : (place next : ℕ) → StandsInReason axioms more entries place next → place < next
  stands_before place next (e, reason, at, is, stands) =
      reason_before place next reason stands.0 (slice_get_within entries next e at) (has_reason entries next e reason at is) stands.1 stands.2

  -- a way by later entries is one by more entries
  way_by_more : (from other place : ℕ) (way : List ℕ) → other ≤ from → IsWay axioms more entries conflict from place way → IsWay axioms more entries conflict other place way
  way_by_more from other place [] below h = h
  way_by_more from other place (next ∷ rest) below h = (omega (arith, below, h.0), h.1, way_by_more from other next rest below h.2)

  -- a way leads by entries later than where it begins
  way_later : (from other place : ℕ) (way : List ℕ) → other ≤ place → IsWay axioms more entries conflict from place way → IsWay axioms more entries conflict other place way
  way_later from other place [] below h = h
  way_later from other place (next ∷ rest) below h =
      let after = stands_before place next h.1 in
      (omega (arith, below, after), h.1, way_later from other next rest (omega (arith, below, after)) h.2)

  -- and no way begins after the false clause's last literal
  way_within : (from place end : ℕ) (way : List ℕ) → IsEnd entries conflict end → IsWay axioms more entries conflict from place way → place < end
  way_within from place end [] is h = is.0 h.0 place h.2 h.1
  way_within from place end (next ∷ rest) is h = omega (arith, stands_before place next h.1, way_within from next end rest is h.2)

  -- the marks of the false clause
  pub met_first : (end start added n : ℕ) (blank marks : List Bool) → blank ≡ replicate n false → MarksClause entries conflict end start blank marks added → IsEnd entries conflict end
      → AreFalse negated (falses entries) conflict → AreLeading axioms more entries conflict end marks
  met_first end start added n blank marks is h is_end is_false = record {
    leads = λ k marked. ⊎_elim
        (λ was. absurd (unmarked_at_first blank n k is was))
        (λ new.
        let m = new.1.0 in
        let at = false_at_contains entries m (is_false m new.1.1) in
        (new.0, ([], (m, subst (λ (j : ℕ). IsFalseAt entries j m) (place_is entries at.0 m k new.1.2 at.1) at.1, new.1.1))))
        (h.only k marked);
    marked = λ k below leads. of_way k below leads.0 leads.1;
  }
    where
      of_way : (k : ℕ) → k < end → (way : List ℕ) → IsWay axioms more entries conflict end k way → IsMarked marks k
      of_way k below [] way = h.of_clause k way.0 below way.2 way.1
      of_way k below (next ∷ rest) way = absurd (omega (arith, way.0, way_within end next end rest is_end way.2))

  -- one place further back: ways by entries at `place` or later, where before they were by entries after it
  module _ (place : ℕ) (old : List Bool) (met : AreLeading axioms more entries conflict (place + 1) old) where
    -- such a way that goes through a later entry first was one before
    old_later : (k next : ℕ) (rest : List ℕ) → k < place → next ≢ place → IsWay axioms more entries conflict place k (next ∷ rest) → IsMarked old k
    old_later k next rest below other way =
        let later : place + 1 ≤ next = omega (arith, way.0, other) in
        met.marked k (omega (arith, below)) (next ∷ rest, (later, way.1, way_later place (place + 1) next rest later way.2))

    -- and `place` itself leads where one goes through it
    leads_here : (rest : List ℕ) → IsWay axioms more entries conflict place place rest → IsMarked old place
    leads_here [] way = met.marked place (omega arith) ([], way)
    leads_here (next ∷ rest) way =
        let after = stands_before place next way.1 in
        met.marked place (omega arith) (next ∷ rest, (omega (arith, after), way.1, way_later place (place + 1) next rest (omega (arith, after)) way.2))

    more_leads : (k : ℕ) → Leads axioms more entries conflict (place + 1) k → Leads axioms more entries conflict place k
    more_leads k leads = (leads.0, way_by_more (place + 1) place k leads.0 (omega arith) leads.1)

    -- an entry without a mark is passed over
    pub met_skip : (IsMarked old place → ⊥) → AreLeading axioms more entries conflict place old
    met_skip free = record {
      leads = λ k marked.
          let was = met.leads k marked in
          (⊎_elim (λ same. absurd (free (subst (IsMarked old) same marked))) (λ other. omega (arith, was.0, other)) (cases_eq k place), more_leads k was.1);
      marked = λ k below leads. of_way k below leads.0 leads.1;
    }
      where
        of_way : (k : ℕ) → k < place → (way : List ℕ) → IsWay axioms more entries conflict place k way → IsMarked old k
        of_way k below [] way = met.marked k (omega (arith, below)) ([], way)
        of_way k below (next ∷ rest) way =
            ⊎_elim
            (λ same. absurd (free (leads_here rest (subst (λ (n : ℕ). IsWay axioms more entries conflict place n rest) same way.2))))
            (λ other. old_later k next rest below other way)
            (cases_eq next place)

    -- a marked entry's mark gives way to marks of its reason
    pub met_resolve : (start added : ℕ) (reason : ClauseRef) (clause : List Lit) (marks : List Bool) → place < length entries → HasReason entries place reason → length old ≡ length entries → clause ≡ clause_at axioms more reason
        → IsMarked old place → MarksClause entries clause place start (set old place false) marks added → AreLeading axioms more entries conflict place marks
    met_resolve start added reason clause marks within has size same is_marked h = record {
      leads = λ k marked. ⊎_elim (was_met k) (λ new. of_reason k new.0 new.1.0 (subst (λ (c : List Lit). Contains c new.1.0) same new.1.1) new.1.2) (h.only k marked);
      marked = λ k below leads. now_met k below leads.0 leads.1;
    }
      where
        e : TrailEntry
        e = get_or entries place no_entry

        at : slice_get entries place ≡ Some e
        at = slice_get-get_or entries place no_entry within

        was_met : (k : ℕ) → IsMarked (set old place false) k → (k < place) × Leads axioms more entries conflict place k
        was_met k marked =
            ⊎_elim
            (λ equal. absurd (false≢true (sym (get_or-set_same old place false false (omega (arith, size, within))) ∙ subst (IsMarked (set old place false)) equal marked)))
            (λ other. let was = met.leads k (mark_old old place k false other marked) in (omega (arith, was.0, other), more_leads k was.1))
            (cases_eq k place)

        of_reason : (k : ℕ) → k < place → (m : Lit) → Contains (clause_at axioms more reason) m → IsEntryOfVariable entries m.variable k → (k < place) × Leads axioms more entries conflict place k
        of_reason k below m m_in is =
            let says = reason_says attached axioms more entries place reason no_entry justified within has in
            let l = e.literal in
            let here = met.leads place is_marked in
            ⊎_elim
            (λ yes. absurd (omega (arith, below, is.alone place no_entry within (sym (ap (λ (x : Lit). x.variable.0) (lit_from_same m l yes))))))
            (λ no.
            let found = false_at_before entries place m (says.1.2 m m_in (other_lit m l no)) in
            let m_at = subst (λ (j : ℕ). IsFalseAt entries j m) (place_is entries found.0 m k is found.2) found.2 in
            let way : IsWay axioms more entries conflict place k (place ∷ here.1.0) =
            (omega arith, (e, reason, at, has no_entry, (m, m_at, m_in)), way_by_more (place + 1) place place here.1.0 (omega arith) here.1.1) in
            (below, (place ∷ here.1.0, way)))
            (cases_Bool (same_lit m l))

        kept : (k : ℕ) → k < place → IsMarked old k → IsMarked marks k
        kept k below marked = h.kept k (get_or-set_other old place k false false (λ equal. omega (arith, equal, below)) ∙ marked)

        through : (k : ℕ) → k < place → StandsInReason axioms more entries k place → IsMarked marks k
        through k below (x, r, x_at, r_is, stands) =
            let same_reason : Some r ≡ Some reason = sym r_is ∙ ap (λ (y : TrailEntry). y.reason) (sym (get_or_from_slice_get entries place x no_entry x_at)) ∙ has no_entry in
            h.of_clause k stands.0 below (subst (λ (c : List Lit). Contains c stands.0) (sym same) (subst (λ (q : ClauseRef). Contains (clause_at axioms more q) stands.0) (same_Some r reason same_reason) stands.2)) stands.1

        now_met : (k : ℕ) → k < place → (way : List ℕ) → IsWay axioms more entries conflict place k way → IsMarked marks k
        now_met k below [] way = kept k below (met.marked k (omega (arith, below)) ([], way))
        now_met k below (next ∷ rest) way =
            ⊎_elim
            (λ equal. through k below (subst (StandsInReason axioms more entries k) equal way.1))
            (λ other. kept k below (old_later k next rest below other way))
            (cases_eq next place)

  -- that past each entry from `place` on there is a way from an earlier one of the level, or it is banned: for one entry more
  pub passed_more : (banned : List (Option Bool)) (start place : ℕ) (marks : List Bool) → AreLeading axioms more entries conflict (place + 1) marks
      → IsBannedAt banned entries place ⊎ ((j : ℕ) × (start ≤ j) × (j ≢ place) × IsMarked marks j)
      → ArePassed axioms more banned entries conflict start (place + 1) → ArePassed axioms more banned entries conflict start place
  passed_more banned start place marks met here passed k after within =
      ⊎_elim
      (λ same. elim here [
        | inl is_banned ↦ inl (subst (IsBannedAt banned entries) (sym same) is_banned)
        | inr found ↦
            let leads = met.leads found.0 found.3 in
            inr (found.0, found.1, omega (arith, leads.0, found.2, same), subst (λ (n : ℕ). Leads axioms more entries conflict (n + 1) found.0) (sym same) leads.1)
      ])
      (λ other. passed k (omega (arith, after, other)) within)
      (cases_eq k place)

  -- at first: past each entry after the false clause's last literal
  pub passed_first : (banned : List (Option Bool)) (start end : ℕ) → IsEnd entries conflict end → 0 < end → start ≤ end - 1 → ArePassed axioms more banned entries conflict start end
  passed_first banned start end is positive late k after within =
      ⊎_elim
      (λ none. absurd (omega (arith, none, positive)))
      (λ last. inr (last.2.0, omega (arith, last.2.2, late), omega (arith, last.2.2, after), ([], (last.0, last.2.1, last.1))))
      is.1

  -- a way by later entries is one by what has given way, and at the point there is no other
  way_given : (banned : List (Option Bool)) (point place : ℕ) (way : List ℕ) → IsWay axioms more entries conflict (point + 1) place way → IsWayBy axioms more entries conflict (HasGivenWay banned entries point point) place way
  way_given banned point place [] h = h
  way_given banned point place (next ∷ rest) h = (inl (omega (arith, h.0)), h.1, way_given banned point next rest h.2)

  given_way : (banned : List (Option Bool)) (point place : ℕ) (way : List ℕ) → ¬ IsBannedAt banned entries point → IsWayBy axioms more entries conflict (HasGivenWay banned entries point point) place way
      → IsWay axioms more entries conflict (point + 1) place way
  given_way banned point place [] free h = h
  given_way banned point place (next ∷ rest) free h =
      let later : point + 1 ≤ next = elim h.0 [
        | inl after ↦ omega (arith, after)
        | inr both ↦ elim (cases_eq next point) [
          | inl same ↦ absurd (free (subst (IsBannedAt banned entries) same both.1))
          | inr other ↦ omega (arith, both.0, other)
        ]
      ] in
      (later, h.1, given_way banned point next rest free h.2)

  -- the walk over the level leaves marks at those places that lead past the point
  pub left_at_first : (banned : List (Option Bool)) (point : ℕ) (marks : List Bool) → ¬ IsBannedAt banned entries point → AreLeading axioms more entries conflict (point + 1) marks → AreLeft axioms more banned entries conflict point point marks
  left_at_first banned point marks free met = record {
    leads = λ k marked.
        let was = met.leads k marked in
        (λ given. not_given k was.0 given, (was.1.0, way_given banned point k was.1.0 was.1.1));
    marked = λ k out leads. elim (cases_lt k (point + 1)) [
      | inl early ↦ met.marked k early (leads.0, given_way banned point k leads.0 free leads.1)
      | inr late ↦ absurd (out (inl (omega (arith, late))))
    ];
  }
    where
      not_given : (k : ℕ) → k < point + 1 → HasGivenWay banned entries point point k → ⊥
      not_given k early (inl after) = omega (arith, early, after)
      not_given k early (inr both) = free (subst (IsBannedAt banned entries) (let same : k ≡ point = omega (arith, early, both.0) in same) both.1)

  -- what the walks end with
  pub first_point : (banned : List (Option Bool)) (walked marks : List Bool) (clause : List Lit) (place start level : ℕ) → AreLeading axioms more entries conflict (place + 1) walked
      → ArePassed axioms more banned entries conflict start (place + 1) → ¬ IsBannedAt banned entries place → marks_from start walked ≡ 1 → IsMarked walked place
      → AreLeft axioms more banned entries conflict place 0 marks → AreNegations entries marks place start clause → ((k : ℕ) → start ≤ k → IsMarked marks k → k ≡ place) → IsMarked marks place → start ≤ place → place < length entries
      → level_at entries start ≡ level → level_at entries place ≡ level → ((d : TrailEntry) → IsNone (get_or entries start d).reason)
      → IsOfFirstFreePoint axioms more banned entries conflict level clause
  first_point banned walked marks clause place start level met passed free one walked_marked left negations alone marked late within start_level place_level starts = record {
    place = place;
    first = record {
      of_level = place_level;
      free = free;
      leads = (met.leads place walked_marked).1;
      all_pass = λ k before leads.
          let k_marked = met.marked k (omega (arith, before)) leads in
          ⊎_elim
          (λ earlier. omega (arith, level_at-below entries k start no_entry earlier (omega (arith, late, within)) (starts no_entry), start_level))
          (λ after. absurd (omega (arith, before, only_mark walked start place k one late after walked_marked k_marked)))
          (cases_lt k start);
      none_later = λ k after k_within k_level. elim (passed k (omega (arith, after)) k_within) [
        | inl is_banned ↦ inl is_banned
        | inr found ↦
            inr (found.0, found.2, omega (arith, start_level, k_level, level_at-le entries start found.0 found.1 (omega (arith, found.2, k_within)), level_at-le entries found.0 k (omega (arith, found.2)) k_within), found.3)
      ];
    };
    exactly = λ m. (
      λ has.
          let at = only_marked entries marks clause place start negations alone marked m has in
          let leads = left.leads at.0 at.1 in
          (at.0, up_to at.0 leads.0, (λ is. leads.0 (inr (omega arith, is))), at.2, (leads.1.0, gives at.0 leads.1.0 leads.1.1)),
      λ is.
          let out : ¬ HasGivenWay banned entries place 0 is.0 = λ given. elim given [ inl after ↦ omega (arith, after, is.1) | inr both ↦ is.2 both.1 ] in
          covers_all entries marks clause place start negations alone m is.0 (left.marked is.0 out (is.4.0, takes is.0 is.4.0 is.4.1)) is.3,
    );
  }
    where
      up_to : (k : ℕ) → ¬ HasGivenWay banned entries place 0 k → k ≤ place
      up_to k out = elim (cases_lt place k) [ inl after ↦ absurd (out (inl after)) | inr early ↦ omega (arith, early) ]

      gives : (k : ℕ) (way : List ℕ) → IsWayBy axioms more entries conflict (HasGivenWay banned entries place 0) k way → IsWayBy axioms more entries conflict (GivesWay banned entries place) k way
      gives k [] h = h
      gives k (next ∷ rest) h = (elim h.0 [ inl after ↦ inl after | inr both ↦ inr both.1 ], h.1, gives next rest h.2)

      takes : (k : ℕ) (way : List ℕ) → IsWayBy axioms more entries conflict (GivesWay banned entries place) k way → IsWayBy axioms more entries conflict (HasGivenWay banned entries place 0) k way
      takes k [] h = h
      takes k (next ∷ rest) h = (elim h.0 [ inl after ↦ inl after | inr is ↦ inr (omega arith, is) ], h.1, takes next rest h.2)

-- where the ways that lead from marks before `end` are kept by the walk, the marks before `place` are those of ways past it
abbrev pub KeepsWays : List (List Lit) → List (List Lit) → List (Option Bool) → List TrailEntry → ℕ → ℕ → List Bool → ℕ → List Bool → Type 0
KeepsWays axioms more banned entries start end first place marks =
    (conflict : List Lit) → AreLeading axioms more entries conflict end first → ArePassed axioms more banned entries conflict start end
    → AreLeading axioms more entries conflict place marks × ArePassed axioms more banned entries conflict start place

-- two marks: one of them stands at another place
pub other_mark : (marks : List Bool) (start place : ℕ) → start ≤ place → IsMarked marks place → 1 < marks_from start marks → (j : ℕ) × (start ≤ j) × (j ≢ place) × IsMarked marks j
other_mark marks start place late marked many =
    let without = set marks place false in
    let other = some_mark without start (omega (arith, unmarked marks start place late marked, many)) in
    let apart : other.0 ≢ place = λ same. false≢true (sym (get_or-set_same marks place false false (marked_within marks place marked)) ∙ subst (IsMarked without) same other.2) in
    (other.0, other.1, apart, mark_old marks place other.0 false apart other.2)

-- the analysis of a conflict
pub walked_point : (attached : List ClauseRef) (axioms more : List (List Lit)) (banned : List (Option Bool)) (entries : List TrailEntry) (conflict : List Lit) → AreJustified axioms more attached entries → AllPairs Differ entries
    → (end start place level added n : ℕ) (blank first walked marks : List Bool) (clause : List Lit)
    → blank ≡ replicate n false → MarksClause entries conflict end start blank first added → IsEnd entries conflict end → AreFalse negated (falses entries) conflict
    → (AreLeading axioms more entries conflict end first → ArePassed axioms more banned entries conflict start end
    → AreLeading axioms more entries conflict (place + 1) walked × ArePassed axioms more banned entries conflict start (place + 1))
    → (AreLeft axioms more banned entries conflict place place walked → AreLeft axioms more banned entries conflict place 0 marks)
    → ¬ IsBannedAt banned entries place → marks_from start walked ≡ 1 → IsMarked walked place
    → AreNegations entries marks place start clause → ((k : ℕ) → start ≤ k → IsMarked marks k → k ≡ place) → IsMarked marks place → start ≤ place → place < end → end ≤ length entries
    → level_at entries start ≡ level → level_at entries (end - 1) ≡ level → ((d : TrailEntry) → IsNone (get_or entries start d).reason)
    → IsOfFirstFreePoint axioms more banned entries conflict level clause
walked_point attached axioms more banned entries conflict justified different end start place level added n blank first walked marks clause is marked_first is_end is_false kept left free one walked_marked negations alone marked late early within start_level end_level starts =
    let found = kept (met_first attached axioms more entries conflict justified different end start added n blank first is marked_first is_end is_false)
    (passed_first attached axioms more entries conflict justified different banned start end is_end (omega (arith, early)) (omega (arith, late, early))) in
    first_point attached axioms more entries conflict justified different banned walked marks clause place start level found.0 found.1 free one walked_marked
    (left (left_at_first attached axioms more entries conflict justified different banned place walked free found.0)) negations alone marked late (omega (arith, early, within)) start_level
    (omega (arith, level_at-le entries start place late (omega (arith, early, within)), level_at-le entries place (end - 1) (omega (arith, early)) (omega (arith, early, within)), start_level, end_level)) starts
