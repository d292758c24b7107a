-- Levels that stay from one search to the next.
use Rattle.std.proofs.Common.{◌≡◌, ℕ, ◌+◌, ◌<◌, List, length, get_or, take, refl, sym, ap, ◌∙◌, subst, arith, inl, ⊎_elim, Option, Some, None, IsNone, Contains, slice_get, Bool, true, false, not, is_some}
use Rattle.std.proofs.Math.Bool.{beq}
use Rattle.std.proofs.lemmas.Bool.{cases_lt, cases_eq, false≢true}
use Rattle.std.proofs.lemmas.List.{get_or-take, length-take, length-map}
use Rattle.std.proofs.lemmas.Option.{get_or_from_slice_get, slice_get_within, slice_get-get_or}
use Rattle.pc_lits.specs.declared.literal.Lit.{Lit}
use Rattle.pc_propagate.specs.declared.trail.TrailEntry.{TrailEntry}
use Rattle.pc_propagate.specs.declared.clauses.ClauseRef.{ClauseRef}
use Rattle.pc_propagate.specs.Entries.{literals}
use Rattle.pc_propagate.specs.Levels.{level_at, IsLevelOf, IsReasonOf, IsBackTo}
use Rattle.pc_propagate.specs.TrailView.{TrailView}
use Rattle.pc_analyze.proofs.LevelLemmas.{level_at-below}
use Rattle.pc_analyze.proofs.LoopLemmas.{entry_read, level_read}
use Rattle.pc_solver.specs.Clauses.{ClausesView, KeepsProblem}
use Rattle.pc_solver.specs.inside.Search.{AssumesFirst, AreAssumed, IsStartOf, HasNoDecision, KeepsLogs, KeepsTrail}
use Rattle.pc_solver.proofs.LearnLemmas.{logs_known}
use Rattle.pc_solver.proofs.SolverLemmas.{decided_level}

-- ---- which levels start with an assumption

-- no decision is below level 1
pub assumed_none : (entries : List TrailEntry) (assumed : List Lit) → AreAssumed entries assumed 0
assumed_none entries assumed place e at low decided = absurd (omega (arith, decided_level entries place e at decided, low))

-- each level is started by one decision alone
pub assumed_more : (entries : List TrailEntry) (assumed : List Lit) (level : ℕ) (lit : Lit) → AreAssumed entries assumed level → Contains assumed lit → IsStartOf entries (level + 1) lit → AreAssumed entries assumed (level + 1)
assumed_more entries assumed level lit h has start place e at low decided =
    ⊎_elim
    (λ before. h place e at (omega (arith, before)) decided)
    (λ late.
    let d : TrailEntry = record { literal = lit; reason = None } in
    let is : level_at entries place ≡ level_at entries start.0 = omega (arith, late, low, start.2) in
    ⊎_elim
    (λ same. subst (λ (x : TrailEntry). Contains assumed x.literal) (one_of entries start.0 d e start.1 (subst (λ n. slice_get entries n ≡ Some e) same at)) has)
    (λ other. absurd (apart entries place start.0 e d at decided start.1 refl other is))
    (cases_eq place start.0))
    (cases_lt (level_at entries place) (level + 1))
  where
    one_of : (entries : List TrailEntry) (k : ℕ) (d e : TrailEntry) → slice_get entries k ≡ Some d → slice_get entries k ≡ Some e → d ≡ e
    one_of entries k d e a b = sym (get_or_from_slice_get entries k d d a) ∙ get_or_from_slice_get entries k e d b

    later : (entries : List TrailEntry) (i k : ℕ) (e : TrailEntry) → slice_get entries k ≡ Some e → IsNone e.reason → i < k → level_at entries i ≡ level_at entries k → ⊥
    later entries i k e at decided before same =
        let is_start : IsNone (get_or entries k e).reason = subst (λ (x : TrailEntry). IsNone x.reason) (sym (get_or_from_slice_get entries k e e at)) decided in
        omega (arith, level_at-below entries i k e before (slice_get_within entries k e at) is_start, same)

    apart : (entries : List TrailEntry) (i k : ℕ) (a b : TrailEntry) → slice_get entries i ≡ Some a → IsNone a.reason → slice_get entries k ≡ Some b → IsNone b.reason → (i ≡ k → ⊥) → level_at entries i ≡ level_at entries k → ⊥
    apart entries i k a b at decided at_also decided_also other same =
        ⊎_elim (λ before. later entries i k b at_also decided_also before same) (λ after. later entries k i a at decided (omega (arith, after, other)) (sym same)) (cases_lt i k)

-- a true literal whose variable has no reason and is of this level
pub start_read : (entries : List TrailEntry) (level : ℕ) (lit : Lit) (sign : Bool) (reason : Option ClauseRef) (own : ℕ) → Contains (literals entries) (record { variable = lit.variable; sign = sign }) → not (beq sign lit.sign) ≡ false
    → IsReasonOf entries lit.variable reason → is_some reason ≡ false → IsLevelOf entries lit.variable own → own ≡ level → IsStartOf entries level lit
start_read entries level lit sign reason own has alike by_reason none of_level is =
    let here : Contains (literals entries) lit = subst (λ (s : Bool). Contains (literals entries) (record { variable = lit.variable; sign = s })) (same_sign sign lit.sign alike) has in
    let at : slice_get (literals entries) here.0 ≡ Some lit = slice_get-get_or (literals entries) here.0 lit here.1 ∙ ap Some here.2 in
    let within : here.0 < length entries = omega (arith, here.1, length-map entries (λ (x : TrailEntry). x.literal)) in
    let entry : slice_get entries here.0 ≡ Some (record { literal = lit; reason = reason }) = entry_read entries here.0 lit reason within at by_reason in
    (here.0, subst (λ (r : Option ClauseRef). slice_get entries here.0 ≡ Some (record { literal = lit; reason = r })) (no_reason reason none) entry, sym (level_read entries here.0 lit own within at of_level) ∙ is)
  where
    same_sign : (a b : Bool) → not (beq a b) ≡ false → a ≡ b
    same_sign true true h = refl
    same_sign true false h = absurd (false≢true (sym h))
    same_sign false true h = absurd (false≢true (sym h))
    same_sign false false h = refl

    no_reason : (o : Option ClauseRef) → is_some o ≡ false → o ≡ None
    no_reason None h = refl
    no_reason (Some r) h = absurd (false≢true (sym h))

-- ---- after going back

pub assumed_after : (assumed : List Lit) (t u : TrailView) (level : ℕ) → AreAssumed t.entries assumed level → IsBackTo level t u → AssumesFirst assumed u.entries
assumed_after assumed t u level h back place e at decided =
    let here : slice_get (take back.count t.entries) place ≡ Some e = subst (λ (es : List TrailEntry). slice_get es place ≡ Some e) back.kept at in
    let below : place < length (take back.count t.entries) = slice_get_within (take back.count t.entries) place e here in
    let under : place < back.count = omega (arith, below, length-take back.count t.entries) in
    let within : place < length t.entries = omega (arith, below, length-take back.count t.entries) in
    let was : slice_get t.entries place ≡ Some e = slice_get-get_or t.entries place e within ∙ ap Some (sym (get_or-take back.count t.entries place e under) ∙ get_or_from_slice_get (take back.count t.entries) place e e here) in
    inl (h place e was (back.low place under within) decided)

pub none_after : (t u : TrailView) → IsBackTo 0 t u → HasNoDecision u.entries
none_after t u back place e at decided =
    let here : slice_get (take back.count t.entries) place ≡ Some e = subst (λ (es : List TrailEntry). slice_get es place ≡ Some e) back.kept at in
    let below : place < length (take back.count t.entries) = slice_get_within (take back.count t.entries) place e here in
    let under : place < back.count = omega (arith, below, length-take back.count t.entries) in
    let within : place < length t.entries = omega (arith, below, length-take back.count t.entries) in
    let was : slice_get t.entries place ≡ Some e = slice_get-get_or t.entries place e within ∙ ap Some (sym (get_or-take back.count t.entries place e under) ∙ get_or_from_slice_get (take back.count t.entries) place e e here) in
    omega (arith, decided_level t.entries place e was decided, back.low place under within)

pub first_by_none : (assumed : List Lit) (entries : List TrailEntry) → HasNoDecision entries → AssumesFirst assumed entries
first_by_none assumed entries none place e at decided = absurd (none place e at decided)

pub none_same : (t u : TrailView) → KeepsTrail t u → HasNoDecision t.entries → HasNoDecision u.entries
none_same t u same none = rw same.entries none

-- ---- one clause more is known

pub next_problem : (a c d : ClausesView) → KeepsProblem a c → d ≡ record c { known = c.known + 1 } → KeepsProblem a d
next_problem a c d h is = rw is (record { axioms = h.axioms; used = h.used; own = h.own; banned = h.banned; blocks = h.blocks })

pub next_logs : (a c d : ClausesView) → KeepsLogs a c → d ≡ record c { known = c.known + 1 } → KeepsLogs a d
next_logs a c d h is log logged = rw is (logs_known c (c.known + 1) log (h log logged))
