-- Trails over clauses, one step further.
use Rattle.std.proofs.Common.{All, ◌+◌, ◌≤◌, ap, ◌∙◌, inl, inr, set, length-append, ◌≡◌, ℕ, ◌<◌, List, [], ◌∷◌, ◌++◌, Some, None, length, get_or, take, refl, sym, subst, arith, Contains, ⊎_elim, IfSome, Option}
use Rattle.std.proofs.lemmas.Bool.{cases_lt}
use Rattle.std.proofs.lemmas.List.{length-set, get_or-set_same, get_or-set_other, take-append-le, take_at, get_or_append_left, get_or_push, length_push, take-take, get_or-take, length-take}
use Rattle.std.proofs.lemmas.List.Elements.{All-contains, All-push, Contains-append_left}
use Rattle.pc_lits.specs.declared.literal.Lit.{Lit}
use Rattle.pc_lits.specs.Literals.{negated}
use Rattle.pc_lits.specs.Steps.{IsLastOpen}
use Rattle.pc_propagate.specs.Listed.{IsAdded}
use Rattle.pc_propagate.specs.declared.trail.TrailEntry.{TrailEntry}
use Rattle.pc_propagate.specs.declared.trail.Placed.{Placed}
use Rattle.pc_propagate.specs.declared.trail.Placed.TheVariants.{Done, Spent}
use Rattle.pc_propagate.specs.declared.clauses.ClauseRef.{ClauseRef}
use Rattle.pc_propagate.specs.declared.clauses.ClauseRef.TheVariants.{Axiom, More}
use Rattle.pc_lits.specs.declared.tally.Tally.{Tally}
use Rattle.pc_propagate.specs.Refs.{clause_at, IsRef}
use Rattle.pc_propagate.specs.Entries.{falses}
use Rattle.pc_propagate.specs.TrailView.{TrailView}
use Rattle.pc_propagate.specs.Counts.{PlacesEntry}
use Rattle.pc_propagate.specs.Levels.{IsBackTo}
use Rattle.pc_propagate.specs.Over.{AreInRange, IsForcedByReason, AreJustified, IsBased, IsOver}
use Rattle.pc_propagate.specs.Attached.{IsAttached, IsBlank}
use Rattle.pc_propagate.specs.Watching.{Watching, body_at, wait_at}
use Rattle.pc_propagate.specs.Watched.{IsSure, IsPending, IsKept, AreKeptBut, AreKept, attached_clause}
use Rattle.pc_propagate.proofs.KeptLemmas.{sure_append, sure_back}
use Rattle.pc_propagate.specs.Laws.{ClausesMayBeAdded}

AreJustified-push : (axioms more : List (List Lit)) (attached : List ClauseRef) (entries : List TrailEntry) (e : TrailEntry) → AreJustified axioms more attached entries → IsForcedByReason axioms more attached entries e
    → AreJustified axioms more attached (entries ++ e ∷ [])
AreJustified-push axioms more attached entries e justified here i d below =
    ⊎_elim
    (λ before. rw (take-append-le i entries (e ∷ []) (omega arith), get_or_append_left entries (e ∷ []) d i before) (justified i d before))
    (λ last.
    let at : length entries ≡ i = omega (arith, length_push entries e) in
    rw (take_at entries (e ∷ []) i at, get_or_push entries e d i at) here)
    (cases_lt i (length entries))

AreJustified-take : (axioms more : List (List Lit)) (attached : List ClauseRef) (entries : List TrailEntry) (n : ℕ) → AreJustified axioms more attached entries → AreJustified axioms more attached (take n entries)
AreJustified-take axioms more attached entries n h i d below =
    let early : i < n = omega (arith, length-take n entries, below) in
    rw (take-take i n entries (omega arith), get_or-take n entries i d early) (h i d (omega (arith, length-take n entries)))

-- what holds without a look at the watched literals
pub based : (axioms more : List (List Lit)) (trail : TrailView) → IsOver axioms more trail → IsBased axioms more trail
based axioms more trail h = record { stand = h.stand; in_range = h.in_range; justified = h.justified }

pub over_from : (axioms more : List (List Lit)) (trail : TrailView) → IsBased axioms more trail → AreKept axioms more trail → IsOver axioms more trail
over_from axioms more trail h kept = record { stand = h.stand; in_range = h.in_range; justified = h.justified; kept = kept }

-- what is known of a clause by its number
pub kept_by : (old new : TrailView) (head less n : ℕ) → (IsPending old n → IsPending new n) → (IsSure old.entries head (body_at old.watching n) → IsSure new.entries less (body_at new.watching n)) → IsKept old head n → IsKept new less n
kept_by old new head less n stay sure h = ⊎_elim (λ waits. inl (stay waits)) (λ known. inr (sure known)) h

pub pending_by : (old new : TrailView) (n : ℕ) → wait_at new.watching n ≡ wait_at old.watching n → IsPending old n → IsPending new n
pending_by old new n same waits = ⊎_elim (λ next. inl (same ∙ next)) (λ present. inr (same ∙ present)) waits

-- more entries, and nothing else
pub kept_grown : (old new : TrailView) (added : List TrailEntry) (head n : ℕ) → new.entries ≡ old.entries ++ added → new.watching ≡ old.watching → head ≤ length old.entries → IsKept old head n → IsKept new head n
kept_grown old new added head n entries watching within h = kept_by old new head head n
    (pending_by old new n (ap (λ (w : Watching). wait_at w n) watching))
    (λ sure. rw (entries, watching) (sure_append old.entries added head (body_at old.watching n) within sure)) h

pub but_grown : (but : ℕ → Type 0) (axioms more : List (List Lit)) (old new : TrailView) (added : List TrailEntry) → new.entries ≡ old.entries ++ added → new.attached ≡ old.attached → new.watching ≡ old.watching
    → AreKeptBut but axioms more old → AreKeptBut but axioms more new
but_grown but axioms more old new added entries attached watching h = record {
  bodies = rw (watching, attached) h.bodies;
  waiting = rw (watching, attached) h.waiting;
  propagated = omega (arith, ap (λ (w : Watching). w.head) watching, ap length entries, length-append old.entries added, h.propagated);
  same = λ n below. rw (watching, attached) (h.same n (omega (arith, below, ap length attached)));
  kept = λ n below. ⊎_elim (λ out. inl out)
      (λ kept. inr (subst (λ (k : ℕ). IsKept new k n) (sym (ap (λ (w : Watching). w.head) watching)) (kept_grown old new added old.watching.head n entries watching h.propagated kept)))
      (h.kept n (omega (arith, below, ap length attached)));
}

-- an entry more
pub based_push : (axioms more : List (List Lit)) (old new : TrailView) (e : TrailEntry) → new ≡ record old { entries = old.entries ++ e ∷ [] } → IsBased axioms more old → IsForcedByReason axioms more old.attached old.entries e
    → IsBased axioms more new
based_push axioms more old new e is h here =
    subst (IsBased axioms more) (sym is) (record { stand = h.stand; in_range = h.in_range; justified = AreJustified-push axioms more old.attached old.entries e h.justified here })

pub over_push : (axioms more : List (List Lit)) (old new : TrailView) (e : TrailEntry) → new ≡ record old { entries = old.entries ++ e ∷ [] } → IsOver axioms more old → IsForcedByReason axioms more old.attached old.entries e
    → IsOver axioms more new
over_push axioms more old new e is h here =
    over_from axioms more new (based_push axioms more old new e is (based axioms more old h) here)
    (but_grown (λ n. ⊥) axioms more old new (e ∷ []) (ap (λ (t : TrailView). t.entries) is) (ap (λ (t : TrailView). t.attached) is) (ap (λ (t : TrailView). t.watching) is) h.kept)

pub based_placed : (axioms more : List (List Lit)) (old new : TrailView) (before after : Tally) (e : TrailEntry) (placed : Placed) → PlacesEntry e old new before after placed → IsBased axioms more old
    → IsForcedByReason axioms more old.attached old.entries e → IsBased axioms more new
based_placed axioms more old new before after e Done is h here = based_push axioms more old new e is.0 h here
based_placed axioms more old new before after e Spent is h here = subst (IsBased axioms more) (sym is.0) h

pub over_placed : (axioms more : List (List Lit)) (old new : TrailView) (before after : Tally) (e : TrailEntry) (placed : Placed) → PlacesEntry e old new before after placed → IsOver axioms more old
    → IsForcedByReason axioms more old.attached old.entries e → IsOver axioms more new
over_placed axioms more old new before after e Done is h here = over_push axioms more old new e is.0 h here
over_placed axioms more old new before after e Spent is h here = subst (IsOver axioms more) (sym is.0) h

-- a clause more, which waits
kept_attached : (axioms more : List (List Lit)) (old new : TrailView) (reference : ClauseRef) (lits : List Lit) → IsAttached reference old new → new.watching.head ≡ old.watching.head
    → IsAdded lits old.watching.watched new.watching.watched → new.watching.waiting ≡ set (old.watching.waiting ++ None ∷ []) (length old.watching.waiting) (Some 0)
    → clause_at axioms more reference ≡ lits → AreKept axioms more old → AreKept axioms more new
kept_attached axioms more old new reference lits is head added waiting named h = record {
  bodies = omega (arith, ap length added.bodies, length_push old.watching.watched.bodies added.body, size, h.bodies);
  waiting = omega (arith, waiting_size, size, h.waiting);
  propagated = omega (arith, head, ap length is.entries, h.propagated);
  same = λ n below. ⊎_elim
      (λ before. rw (clause n before, body n before) (h.same n before))
      (λ after. let here : n ≡ length old.attached = omega (arith, below, size, after) in rw (last_clause n here, last_body n here) (record { from = added.from; all = added.all }))
      (cases_lt n (length old.attached));
  kept = λ n below. inr (⊎_elim
      (λ before. subst (λ (k : ℕ). IsKept new k n) (sym head)
      (kept_by old new old.watching.head old.watching.head n (pending_by old new n (wait n before)) (λ sure. rw (is.entries, body n before) sure)
      (⊎_elim (λ out. absurd out) (λ kept. kept) (h.kept n before))))
      (λ after. inl (inl (last_wait n (omega (arith, below, size, after)))))
      (cases_lt n (length old.attached)));
}
  where
    size : length new.attached ≡ length old.attached + 1
    size = ap length is.attached ∙ length_push old.attached reference

    waiting_size : length new.watching.waiting ≡ length old.watching.waiting + 1
    waiting_size = ap length waiting ∙ length-set (old.watching.waiting ++ None ∷ []) (length old.watching.waiting) (Some 0) ∙ length_push old.watching.waiting None

    clause : (n : ℕ) → n < length old.attached → attached_clause axioms more new n ≡ attached_clause axioms more old n
    clause n before = ap (clause_at axioms more) (ap (λ (rs : List ClauseRef). get_or rs n (Axiom 0)) is.attached ∙ get_or_append_left old.attached (reference ∷ []) (Axiom 0) n before)

    last_clause : (n : ℕ) → n ≡ length old.attached → attached_clause axioms more new n ≡ lits
    last_clause n here = ap (clause_at axioms more) (ap (λ (rs : List ClauseRef). get_or rs n (Axiom 0)) is.attached ∙ get_or_push old.attached reference (Axiom 0) n (sym here)) ∙ named

    body : (n : ℕ) → n < length old.attached → body_at new.watching n ≡ body_at old.watching n
    body n before = ap (λ (bs : List (List Lit)). get_or bs n []) added.bodies ∙ get_or_append_left old.watching.watched.bodies (added.body ∷ []) [] n (omega (arith, before, h.bodies))

    last_body : (n : ℕ) → n ≡ length old.attached → body_at new.watching n ≡ added.body
    last_body n here = ap (λ (bs : List (List Lit)). get_or bs n []) added.bodies ∙ get_or_push old.watching.watched.bodies added.body [] n (omega (arith, here, h.bodies))

    wait : (n : ℕ) → n < length old.attached → wait_at new.watching n ≡ wait_at old.watching n
    wait n before = ap (λ (xs : List (Option ℕ)). get_or xs n None) waiting
        ∙ get_or-set_other (old.watching.waiting ++ None ∷ []) (length old.watching.waiting) n (Some 0) None (λ same. omega (arith, same, before, h.waiting))
        ∙ get_or_append_left old.watching.waiting (None ∷ []) None n (omega (arith, before, h.waiting))

    last_wait : (n : ℕ) → n ≡ length old.attached → wait_at new.watching n ≡ Some 0
    last_wait n here = ap (λ (xs : List (Option ℕ)). get_or xs n None) waiting
        ∙ ap (get_or_at (set (old.watching.waiting ++ None ∷ []) (length old.watching.waiting) (Some 0))) (let e : n ≡ length old.watching.waiting = omega (arith, here, h.waiting) in e)
        ∙ get_or-set_same (old.watching.waiting ++ None ∷ []) (length old.watching.waiting) (Some 0) None (omega (arith, length_push old.watching.waiting (let o : Option ℕ = None in o)))
      where
        get_or_at : List (Option ℕ) → ℕ → Option ℕ
        get_or_at xs k = get_or xs k None

-- a reason stays attached
justified_attached : (axioms more : List (List Lit)) (attached : List ClauseRef) (clause : ClauseRef) (earlier : List TrailEntry) (l : Lit) (reason : Option ClauseRef)
    → IfSome reason (λ r. Contains attached r × IsLastOpen negated (falses earlier) (clause_at axioms more r) l)
    → IfSome reason (λ r. Contains (attached ++ clause ∷ []) r × IsLastOpen negated (falses earlier) (clause_at axioms more r) l)
justified_attached axioms more attached clause earlier l None h = tt
justified_attached axioms more attached clause earlier l (Some r) h = (Contains-append_left attached (clause ∷ []) r h.0, h.1)

pub over_attached : (axioms more : List (List Lit)) (old new : TrailView) (reference : ClauseRef) (lits : List Lit) → IsAttached reference old new → new.watching.head ≡ old.watching.head
    → IsAdded lits old.watching.watched new.watching.watched → new.watching.waiting ≡ set (old.watching.waiting ++ None ∷ []) (length old.watching.waiting) (Some 0)
    → AreInRange old.variables lits → IsOver axioms more old → IsRef axioms more reference → clause_at axioms more reference ≡ lits → IsOver axioms more new
over_attached axioms more old new reference lits is head added waiting within h named same = record {
  stand = rw is.attached (All-push (IsRef axioms more) old.attached reference h.stand named);
  in_range = rw (is.attached, is.variables) (All-push (λ (r : ClauseRef). AreInRange old.variables (clause_at axioms more r)) old.attached reference h.in_range (rw same within));
  justified = rw (is.entries, is.attached)
      (λ i d below. justified_attached axioms more old.attached reference (take i old.entries) (get_or old.entries i d).literal (get_or old.entries i d).reason (h.justified i d below));
  kept = kept_attached axioms more old new reference lits is head added waiting same h.kept;
}

-- levels fewer
pub over_back : (axioms more : List (List Lit)) (level : ℕ) (old new : TrailView) → IsBackTo level old new → new.watching.watched ≡ old.watching.watched → new.watching.waiting ≡ old.watching.waiting
    → new.watching.head ≤ old.watching.head → new.watching.head ≤ length new.entries → IsOver axioms more old → IsOver axioms more new
over_back axioms more level old new back watched waiting fewer within h = record {
  stand = rw back.attached h.stand;
  in_range = rw (back.attached, back.variables) h.in_range;
  justified = rw (back.kept, back.attached) (AreJustified-take axioms more old.attached old.entries back.count h.justified);
  kept = record {
    bodies = rw (watched, back.attached) h.kept.bodies;
    waiting = rw (waiting, back.attached) h.kept.waiting;
    propagated = within;
    same = λ n below. rw (watched, back.attached) (h.kept.same n (omega (arith, below, ap length back.attached)));
    kept = λ n below. ⊎_elim (λ out. inl out)
        (λ kept. inr (kept_by old new old.watching.head new.watching.head n
        (pending_by old new n (ap (λ (xs : List (Option ℕ)). get_or xs n None) waiting))
        (λ sure. rw watched (sure_back old new level old.watching.head new.watching.head (body_at old.watching n) back fewer within sure)) kept))
        (h.kept.kept n (omega (arith, below, ap length back.attached)));
  };
}

-- how far propagation has come is noted beside
pub back_same : (level head : ℕ) (old mid : TrailView) → IsBackTo level old mid → IsBackTo level old (record mid { watching = record mid.watching { head = head } })
back_same level head old mid back = record { variables = back.variables; attached = back.attached; count = back.count; kept = back.kept; low = back.low; later = back.later }

-- the same, where it is then noted how far propagation has come
pub back_over : (axioms more : List (List Lit)) (level head : ℕ) (old mid : TrailView) → IsBackTo level old mid → mid.watching ≡ old.watching → head ≤ mid.watching.head → head ≤ length mid.entries
    → IsOver axioms more old → IsOver axioms more (record mid { watching = record mid.watching { head = head } })
back_over axioms more level head old mid back same fewer within h =
    over_back axioms more level old (record mid { watching = record mid.watching { head = head } })
    (back_same level head old mid back)
    (ap (λ (w : Watching). w.watched) same) (ap (λ (w : Watching). w.waiting) same) (omega (arith, fewer, ap (λ (w : Watching). w.head) same)) within h

-- no clauses
pub over_blank : (axioms more : List (List Lit)) (trail : TrailView) → IsBlank trail → trail.watching.watched.bodies ≡ [] → trail.watching.waiting ≡ [] → trail.watching.head ≡ 0 → IsOver axioms more trail
over_blank axioms more trail blank bodies waiting head = record {
  stand = λ k d below. absurd (omega (arith, below, ap length blank.attached));
  in_range = λ k d below. absurd (omega (arith, below, ap length blank.attached));
  justified = λ k d below. absurd (omega (arith, below, ap length blank.entries));
  kept = record {
    bodies = omega (arith, ap length bodies, ap length blank.attached);
    waiting = omega (arith, ap length waiting, ap length blank.attached);
    propagated = omega (arith, head);
    same = λ n below. absurd (omega (arith, below, ap length blank.attached));
    kept = λ n below. absurd (omega (arith, below, ap length blank.attached));
  };
}

-- an attached clause is one of the two lists, and its variables are in range
pub attached_ref : (axioms more : List (List Lit)) (trail : TrailView) (reference : ClauseRef) → IsBased axioms more trail → Contains trail.attached reference → IsRef axioms more reference
attached_ref axioms more trail reference h has = All-contains (IsRef axioms more) trail.attached reference h.stand has

pub attached_in_range : (axioms more : List (List Lit)) (trail : TrailView) (reference : ClauseRef) → IsBased axioms more trail → Contains trail.attached reference
    → AreInRange trail.variables (clause_at axioms more reference)
attached_in_range axioms more trail reference h has = All-contains (λ (r : ClauseRef). AreInRange trail.variables (clause_at axioms more r)) trail.attached reference h.in_range has

pub literal_in_range : (axioms more : List (List Lit)) (trail : TrailView) (reference : ClauseRef) (l : Lit) → IsBased axioms more trail → Contains trail.attached reference
    → Contains (clause_at axioms more reference) l → l.variable.0 < trail.variables
literal_in_range axioms more trail reference l h has l_in =
    All-contains (λ (m : Lit). m.variable.0 < trail.variables) (clause_at axioms more reference) l (attached_in_range axioms more trail reference h has) l_in

-- what does not change of the entries and the clauses
pub based_same : (axioms more : List (List Lit)) (old new : TrailView) → new.variables ≡ old.variables → new.entries ≡ old.entries → new.attached ≡ old.attached → IsBased axioms more old → IsBased axioms more new
based_same axioms more old new variables entries attached h = record {
  stand = rw attached h.stand;
  in_range = rw (attached, variables) h.in_range;
  justified = rw (entries, attached) h.justified;
}

-- with a further clause each reference names what it named
ref_more : (axioms more : List (List Lit)) (clause : List Lit) (reference : ClauseRef) → IsRef axioms more reference → IsRef axioms (more ++ clause ∷ []) reference
ref_more axioms more clause (Axiom number) is = is
ref_more axioms more clause (More number) is = omega (arith, is, length_push more clause)

pub clause_more : (axioms more : List (List Lit)) (clause : List Lit) (reference : ClauseRef) → IsRef axioms more reference → clause_at axioms (more ++ clause ∷ []) reference ≡ clause_at axioms more reference
clause_more axioms more clause (Axiom number) is = refl
clause_more axioms more clause (More number) is = get_or_append_left more (clause ∷ []) [] number is

justified_more : (axioms more : List (List Lit)) (attached : List ClauseRef) (clause : List Lit) (earlier : List TrailEntry) (l : Lit) (reason : Option ClauseRef) → All (IsRef axioms more) attached
    → IfSome reason (λ r. Contains attached r × IsLastOpen negated (falses earlier) (clause_at axioms more r) l)
    → IfSome reason (λ r. Contains attached r × IsLastOpen negated (falses earlier) (clause_at axioms (more ++ clause ∷ []) r) l)
justified_more axioms more attached clause earlier l None stand h = tt
justified_more axioms more attached clause earlier l (Some r) stand h = (h.0, rw (clause_more axioms more clause r (All-contains (IsRef axioms more) attached r stand h.0)) h.1)

pub over_more : ClausesMayBeAdded
over_more axioms more clause trail h = record {
  stand = λ k d below. ref_more axioms more clause (get_or trail.attached k d) (h.stand k d below);
  in_range = λ k d below. rw (clause_more axioms more clause (get_or trail.attached k d) (h.stand k d below)) (h.in_range k d below);
  justified = λ i d below. justified_more axioms more trail.attached clause (take i trail.entries) (get_or trail.entries i d).literal (get_or trail.entries i d).reason h.stand (h.justified i d below);
  kept = record {
    bodies = h.kept.bodies;
    waiting = h.kept.waiting;
    propagated = h.kept.propagated;
    same = λ n below. rw (clause_more axioms more clause (get_or trail.attached n (Axiom 0)) (h.stand n (Axiom 0) below)) (h.kept.same n below);
    kept = h.kept.kept;
  };
}
