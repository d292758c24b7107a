-- Clauses that get lines, and clauses that are added.
use Rattle.std.proofs.Common.{suc, zero, ◌≡◌, ℕ, ◌+◌, ◌<◌, ◌≤◌, Bool, true, false, List, [], ◌∷◌, ◌++◌, length, get_or, set, refl, sym, ap, ◌∙◌, subst, arith, ⊎_elim, Option, Some, None, Result, Ok, Err, IfOk, IsErr, slice_get, slice_set, cond, is_some, IsSome, Contains, All, ◌↔◌, inl, inr, ◌⊎◌}
use Rattle.std.proofs.lemmas.Bool.{cases_lt, cases_eq}
use Rattle.std.proofs.lemmas.Option.{get_or_from_slice_get, slice_get_within, slice_get-get_or}
use Rattle.std.proofs.lemmas.List.{length_push, length-append, length-set, get_or_append_left, get_or_push, get_or-set_same, get_or-set_other, append-nil}
use Rattle.std.specs.declared.alloc.AllocError.{AllocError}
use Rattle.pc_lits.specs.declared.literal.Lit.{Lit}
use Rattle.pc_log.specs.declared.log.StepId.{StepId}
use Rattle.pc_log.specs.Lines.{LogLine, AxiomLine, BlockLine, StepLine, hints_of}
use Rattle.pc_propagate.specs.declared.clauses.ClauseRef.{ClauseRef}
use Rattle.pc_propagate.specs.declared.clauses.ClauseRef.TheVariants.{Axiom, More}
use Rattle.pc_propagate.specs.Refs.{clause_at, IsRef}
use Rattle.pc_propagate.specs.Over.{IsOver, AreInRange}
use Rattle.pc_lits.specs.declared.literal.Var.{Var}
use Rattle.pc_propagate.specs.Attached.{IsAttached}
use Rattle.pc_propagate.specs.Quiet.{QuietIsKept, WasSettled}
use Rattle.pc_propagate.specs.Laws.{ClausesMayBeAdded}
use Rattle.pc_lits.specs.Literals.{negated}
use Rattle.pc_lits.specs.Steps.{IsGoodStep, IsTautology}
use Rattle.pc_lemmas.proofs.Elements.{contains_mapped, contains_cases, contains_none}
use Rattle.std.proofs.lemmas.List.Elements.{All-push, All-contains, Contains-append_left, Contains-append_cases, Contains-push, Contains-push_cases}
use Rattle.pc_log.specs.Derivations.{clause_of_line, hinted_clauses}
use Rattle.pc_lits.specs.Clauses.{IsSubclause}
use Rattle.pc_solver.specs.New.{AreNewClauses, HasNoForced, ContainNone}
use Rattle.pc_solver.proofs.NewLemmas.{line_cases, learned_cases, learned_within, new_learned, avoid_learned}
use Rattle.pc_propagate.specs.TrailView.{TrailView}
use Rattle.pc_solver.specs.declared.clauses.KeptClause.{KeptClause}
use Rattle.pc_solver.specs.declared.clauses.KeptClause.TheVariants.{Block, Learned, Dropped}
use Rattle.pc_solver.specs.Clauses.{ClausesView, AreClauses, KeepsClauses, KeepsProblem, blank, number_of, line_of, IsStanding, IsKnown, IsOverOwn, used_clauses, blocks_among, blocks_of}
use Rattle.pc_solver.specs.InLog.{StandsInLog, IsLogOf, IsShort, IsKeptAs, ContainsNoKnown}
use Rattle.pc_solver.specs.Banned.{AreAskable, HasNoBanned, IsLone}
use Rattle.pc_solver.specs.inside.Search.{IsSearch, AreAllLone, KnowsAll, IsNoted}
use Rattle.pc_solver.proofs.BannedLemmas.{asked_lone, free_learned}
use Rattle.pc_solver.proofs.LogLemmas.{StandsInLog-last, StandsInLog-more, IsLogOf-line, IsLogOf-axiom, IsDerivation-line, lines-step}

some_same : {A : Type 0} (x y : A) → ◌≡◌ {A = Option A} (Some x) (Some y) → x ≡ y
some_same x y h = cc

pub default : {A : Type 0} (xs : List A) (k : ℕ) (x y : A) → k < length xs → get_or xs k x ≡ get_or xs k y
default [] k x y h = absurd (omega arith)
default (a ∷ xs) zero x y h = refl
default (a ∷ xs) (suc k) x y h = default xs k x y (omega arith)

-- ---- a block gets its line

number_kept : (kept : List KeptClause) (place number : ℕ) (id : StepId) → place < length kept → get_or kept place blank ≡ Block number None
    → (n : ℕ) (d : KeptClause) → n < length kept → number_of (get_or (set kept place (Block number (Some id))) n d) ≡ number_of (get_or kept n blank)
number_kept kept place number id within is n d below =
    ⊎_elim
    (λ same. rw same (ap number_of (get_or-set_same kept place (Block number (Some id)) d within) ∙ sym (ap number_of is)))
    (λ differs. ap number_of (get_or-set_other kept place n (Block number (Some id)) d differs ∙ default kept n d blank below))
    (cases_eq n place)

-- and it stands as before
pub standing_kept : (kept : List KeptClause) (place number : ℕ) (id : StepId) → place < length kept → get_or kept place blank ≡ Block number None
    → (n : ℕ) → IsStanding (get_or (set kept place (Block number (Some id))) n blank) ↔ IsStanding (get_or kept n blank)
standing_kept kept place number id within is n =
    ⊎_elim
    (λ same. (
      λ yes. subst (λ (k : KeptClause). IsStanding k) (sym (ap (λ m. get_or kept m blank) same ∙ is)) tt,
      λ yes. subst (λ (k : KeptClause). IsStanding k) (sym (ap (λ m. get_or (set kept place (Block number (Some id))) m blank) same ∙ get_or-set_same kept place (Block number (Some id)) blank within)) tt,
    ))
    (λ differs.
    let as_was = get_or-set_other kept place n (Block number (Some id)) blank differs in
    (λ yes. subst (λ (k : KeptClause). IsStanding k) as_was yes, λ yes. subst (λ (k : KeptClause). IsStanding k) (sym as_was) yes))
    (cases_eq n place)

pub blocks_kept : (more : List (List Lit)) (kept : List KeptClause) (place number : ℕ) (line : Option StepId) → get_or kept place blank ≡ Block number None → blocks_among more (set kept place (Block number line)) ≡ blocks_among more kept
blocks_kept [] kept place number line is = refl
blocks_kept (m ∷ more) [] place number line is = refl
blocks_kept (m ∷ more) (k ∷ kept) zero number line is = rw is refl
blocks_kept (m ∷ more) (k ∷ kept) (suc place) number line is =
    ap (λ (bs : List (List Lit)). cond (is_some (number_of k)) (m ∷ bs) bs) (blocks_kept more kept place number line is)

module _ (c : ClausesView) (place number : ℕ) (id : StepId) (within : place < length c.kept) (is : get_or c.kept place blank ≡ Block number None) where
  pub block_still : (blocks : ℕ) → AreClauses c blocks → AreClauses (record c { kept = slice_set c.kept place (Block number (Some id)) }) blocks
  block_still blocks h = record {
    few = h.few;
    used_in = h.used_in;
    axiom_each = h.axiom_each;
    kept_each = length-set c.kept place (Block number (Some id)) ∙ h.kept_each;
    counted = ap length same ∙ h.counted;
    numbered = λ n k d below at.
        let under : n < length c.kept = omega (arith, below, length-set c.kept place (Block number (Some id))) in
        rw same (h.numbered n k blank under (sym (number_kept c.kept place number id within is n d under) ∙ at));
    reached = h.reached;
  }
    where
      same : blocks_among c.more (set c.kept place (Block number (Some id))) ≡ blocks_among c.more c.kept
      same = blocks_kept c.more c.kept place number (Some id) is

  pub block_logged : (log : List LogLine) → IsLogOf c log → StandsInLog c.axioms log id (get_or c.more place []) → IsLogOf (record c { kept = slice_set c.kept place (Block number (Some id)) }) log
  block_logged log h here = record {
    derivation = h.derivation;
    blocks = λ i k clause at. rw (blocks_kept c.more c.kept place number (Some id) is) (h.blocks i k clause at);
    axioms = h.axioms;
    axioms_stand = h.axioms_stand;
    axioms_once = h.axioms_once;
    stands = found;
    over_own = h.over_own;
    short = h.short;
    learned = λ i clause at. let was = h.learned i clause at in (was.0, was.1, was.2, (standing_kept c.kept place number id within is was.0).1 was.3);
    new = h.new;
    avoids = h.avoids;
    free = h.free;
  }
    where
      found : (n : ℕ) (other : StepId) → n < length c.more → line_of (get_or (set c.kept place (Block number (Some id))) n blank) ≡ Some other → StandsInLog c.axioms log other (get_or c.more n [])
      found n other is_ref has =
          ⊎_elim
          (λ same.
          let that : id ≡ other = some_same id other (sym (ap line_of (get_or-set_same c.kept place (Block number (Some id)) blank within)) ∙ subst (λ k. line_of (get_or (set c.kept place (Block number (Some id))) k blank) ≡ Some other) same has) in
          subst (λ (k : StepId). StandsInLog c.axioms log k (get_or c.more n [])) that (rw same here))
          (λ differs. h.stands n other is_ref (sym (ap line_of (get_or-set_other c.kept place n (Block number (Some id)) blank differs)) ∙ has))
          (cases_eq n place)

-- ---- a clause is added

pub blocks-push : (more : List (List Lit)) (kept : List KeptClause) (clause : List Lit) (k : KeptClause) → length kept ≡ length more
    → blocks_among (more ++ clause ∷ []) (kept ++ k ∷ []) ≡ blocks_among more kept ++ cond (is_some (number_of k)) (clause ∷ []) []
blocks-push [] [] clause k same = refl
blocks-push [] (k ∷ kept) clause l same = absurd (omega arith)
blocks-push (m ∷ more) [] clause k same = absurd (omega arith)
blocks-push (m ∷ more) (k ∷ kept) clause l same = head (is_some (number_of k)) (blocks-push more kept clause l (omega arith))
  where
    head : (b : Bool) → blocks_among (more ++ clause ∷ []) (kept ++ l ∷ []) ≡ blocks_among more kept ++ cond (is_some (number_of l)) (clause ∷ []) []
        → cond b (m ∷ blocks_among (more ++ clause ∷ []) (kept ++ l ∷ [])) (blocks_among (more ++ clause ∷ []) (kept ++ l ∷ [])) ≡ cond b (m ∷ blocks_among more kept) (blocks_among more kept) ++ cond (is_some (number_of l)) (clause ∷ []) []
    head true h = ap (λ (bs : List (List Lit)). m ∷ bs) h
    head false h = h

slice_get-more : {A : Type 0} (xs ys : List A) (i : ℕ) (x : A) → slice_get xs i ≡ Some x → slice_get (xs ++ ys) i ≡ Some x
slice_get-more xs ys i x at =
    let below = slice_get_within xs i x at in
    slice_get-get_or (xs ++ ys) i x (omega (arith, below, length-append xs ys)) ∙ ap Some (get_or_append_left xs ys x i below ∙ get_or_from_slice_get xs i x x at)

slice_get-last : {A : Type 0} (xs : List A) (x : A) (i : ℕ) → length xs ≡ i → slice_get (xs ++ x ∷ []) i ≡ Some x
slice_get-last xs x i at = slice_get-get_or (xs ++ x ∷ []) i x (omega (arith, at, length_push xs x)) ∙ ap Some (get_or_push xs x x i at)

module _ (c : ClausesView) (blocks : ℕ) (h : AreClauses c blocks) (clause : List Lit) (k : KeptClause) where
  -- the clauses that stood before keep their numbers
  pub added_numbered : (bs : List (List Lit)) → blocks_among (c.more ++ clause ∷ []) (c.kept ++ k ∷ []) ≡ blocks_of c ++ bs
      → ((number : ℕ) → number_of k ≡ Some number → slice_get (blocks_of c ++ bs) number ≡ Some clause)
      → (n number : ℕ) (d : KeptClause) → n < length (c.kept ++ k ∷ []) → number_of (get_or (c.kept ++ k ∷ []) n d) ≡ Some number
      → slice_get (blocks_among (c.more ++ clause ∷ []) (c.kept ++ k ∷ [])) number ≡ Some (get_or (c.more ++ clause ∷ []) n [])
  added_numbered bs is last n number d below at =
      rw is (⊎_elim
      (λ before.
      let within : n < length c.more = omega (arith, before, h.kept_each) in
      rw (get_or_append_left c.more (clause ∷ []) [] n within)
      (slice_get-more (blocks_of c) bs number (get_or c.more n []) (h.numbered n number d before (ap number_of (sym (get_or_append_left c.kept (k ∷ []) d n before)) ∙ at))))
      (λ end.
      let here : length c.kept ≡ n = omega (arith, below, length_push c.kept k, end) in
      rw (get_or_push c.more clause [] n (omega (arith, here, h.kept_each)))
      (last number (ap number_of (sym (get_or_push c.kept k d n here)) ∙ at)))
      (cases_lt n (length c.kept)))

  -- the log stays one for the clauses
  pub added_logged : (bs : List (List Lit)) (log : List LogLine) → blocks_among (c.more ++ clause ∷ []) (c.kept ++ k ∷ []) ≡ blocks_of c ++ bs → IsLogOf c log
      → ((id : StepId) → line_of k ≡ Some id → StandsInLog c.axioms log id clause) → IsLogOf (record c { more = c.more ++ clause ∷ []; kept = c.kept ++ k ∷ [] }) log
  added_logged bs log is logged last = record {
    derivation = logged.derivation;
    blocks = λ i number other at. rw is (slice_get-more (blocks_of c) bs number other (logged.blocks i number other at));
    axioms = logged.axioms;
    axioms_stand = logged.axioms_stand;
    axioms_once = logged.axioms_once;
    stands = found;
    over_own = logged.over_own;
    short = logged.short;
    learned = λ i other at. kept_still (logged.learned i other at);
    new = logged.new;
    avoids = logged.avoids;
    free = logged.free;
  }
    where
      found : (n : ℕ) (other : StepId) → n < length (c.more ++ clause ∷ []) → line_of (get_or (c.kept ++ k ∷ []) n blank) ≡ Some other → StandsInLog c.axioms log other (get_or (c.more ++ clause ∷ []) n [])
      found n other is_ref has =
          ⊎_elim
          (λ before.
          let within : n < length c.kept = omega (arith, before, h.kept_each) in
          rw (get_or_append_left c.more (clause ∷ []) [] n before)
          (logged.stands n other before (ap line_of (sym (get_or_append_left c.kept (k ∷ []) blank n within)) ∙ has)))
          (λ end.
          let here : length c.more ≡ n = omega (arith, is_ref, length_push c.more clause, end) in
          rw (get_or_push c.more clause [] n here) (last other (ap line_of (sym (get_or_push c.kept k blank n (omega (arith, here, h.kept_each)))) ∙ has)))
          (cases_lt n (length c.more))

      kept_still : {other : List Lit} → IsKeptAs c other → IsKeptAs (record c { more = c.more ++ clause ∷ []; kept = c.kept ++ k ∷ [] }) other
      kept_still was = (
        was.0,
        omega (arith, was.1, length_push c.more clause),
        get_or_append_left c.more (clause ∷ []) [] was.0 was.1 ∙ was.2,
        subst (λ (l : KeptClause). IsStanding l) (sym (get_or_append_left c.kept (k ∷ []) blank was.0 (omega (arith, was.1, h.kept_each)))) was.3,
      )

  pub block_added : k ≡ Block blocks None → AreClauses (record c { more = c.more ++ clause ∷ []; kept = c.kept ++ k ∷ [] }) (blocks + 1)
  block_added is = record {
    few = h.few;
    used_in = h.used_in;
    axiom_each = h.axiom_each;
    kept_each = omega (arith, length_push c.kept k, length_push c.more clause, h.kept_each);
    counted = ap length grown ∙ length_push (blocks_of c) clause ∙ ap (λ n. n + 1) h.counted;
    numbered = added_numbered (clause ∷ []) grown (λ number at.
        slice_get-last (blocks_of c) clause number (h.counted ∙ some_same blocks number (sym (ap number_of is) ∙ at)));
    reached = omega (arith, h.reached, length_push c.more clause);
  }
    where
      grown : blocks_among (c.more ++ clause ∷ []) (c.kept ++ k ∷ []) ≡ blocks_of c ++ clause ∷ []
      grown = blocks-push c.more c.kept clause k h.kept_each ∙ rw is refl

  pub learned_added : number_of k ≡ None → AreClauses (record c { more = c.more ++ clause ∷ []; kept = c.kept ++ k ∷ [] }) blocks
  learned_added is = record {
    few = h.few;
    used_in = h.used_in;
    axiom_each = h.axiom_each;
    kept_each = omega (arith, length_push c.kept k, length_push c.more clause, h.kept_each);
    counted = ap length grown ∙ ap length none ∙ h.counted;
    numbered = added_numbered [] grown (λ number at. absurd (never number (sym is ∙ at)));
    reached = omega (arith, h.reached, length_push c.more clause);
  }
    where
      none : blocks_of c ++ [] ≡ blocks_of c
      none = append-none (blocks_of c)
        where
          append-none : (xs : List (List Lit)) → xs ++ [] ≡ xs
          append-none [] = refl
          append-none (x ∷ xs) = ap (λ (ys : List (List Lit)). x ∷ ys) (append-none xs)

      grown : blocks_among (c.more ++ clause ∷ []) (c.kept ++ k ∷ []) ≡ blocks_of c ++ []
      grown = blocks-push c.more c.kept clause k h.kept_each ∙ rw is refl

      never : (number : ℕ) → ◌≡◌ {A = Option ℕ} None (Some number) → ⊥
      never number e = cc

-- ---- a block's line is added

abbrev is_numbered : ClausesView → LogLine → Type 0
is_numbered c (AxiomLine number) = Unit {0}
is_numbered c (BlockLine number clause) = slice_get (blocks_of c) number ≡ Some clause
is_numbered c (StepLine clause hints learned) = Unit {0}

-- the line that was added has the block's clause
pub block_line_stands : (c : ClausesView) (more : List (List Lit)) (place number : ℕ) (id : StepId) (log new : List LogLine) (clause : List Lit) → slice_get more place ≡ Some clause → more ≡ c.more → id.0 ≡ length log
    → new ≡ log ++ BlockLine number clause ∷ [] → StandsInLog c.axioms new id (get_or c.more place [])
block_line_stands c more place number id log new clause read same at is =
    let clause_is : clause ≡ get_or c.more place [] = sym (get_or_from_slice_get more place clause [] read) ∙ ap (λ (cs : List (List Lit)). get_or cs place []) same in
    subst (λ (ls : List LogLine). StandsInLog c.axioms ls id (get_or c.more place [])) (sym is) (subst (StandsInLog c.axioms (log ++ BlockLine number clause ∷ []) id) clause_is (StandsInLog-last c.axioms log (BlockLine number clause) id at))

pub block_line_logged : (v c : ClausesView) (blocks : ℕ) → AreClauses v blocks → (place number : ℕ) (id : StepId) (log new : List LogLine) (clause : List Lit) → place < length v.kept → get_or v.kept place blank ≡ Block number None → v ≡ c
    → IsLogOf c log → slice_get v.more place ≡ Some clause → id.0 ≡ length log → new ≡ log ++ BlockLine number clause ∷ [] → IsLogOf (record v { kept = slice_set v.kept place (Block number (Some id)) }) new
block_line_logged v c blocks h place number id log new clause within is same logged read at new_is =
    let clause_is : clause ≡ get_or v.more place [] = sym (get_or_from_slice_get v.more place clause [] read) in
    let before : IsLogOf v log = subst (λ (w : ClausesView). IsLogOf w log) (sym same) logged in
    let after : IsLogOf v new = subst (IsLogOf v) (sym new_is) (IsLogOf-line v log (BlockLine number clause) before tt (λ k d below. absurd (omega arith)) (λ n other is_line.
    subst (λ (l : LogLine). is_numbered v l) is_line (h.numbered place number blank within (ap number_of is) ∙ ap Some (sym clause_is))) (λ n is_line. cc) (λ cl hs is_line. cc) (λ cl hs marked is_line. absurd (cc))) in
    block_logged v place number id within is new after (block_line_stands v v.more place number id log new clause read refl at new_is)

-- ---- an axiom's line is added

pub axiom_line_logged : (v c : ClausesView) (blocks : ℕ) → AreClauses v blocks → (number place : ℕ) (id : StepId) (read : Option StepId) (log new : List LogLine) → number < length c.axioms → Contains c.used number → slice_get v.used place ≡ Some number → v ≡ c
    → IsLogOf c log → read ≡ get_or v.axiom_lines place read → read ≡ None → id.0 ≡ length log → new ≡ log ++ AxiomLine number ∷ [] → IsLogOf (record v { axiom_lines = slice_set v.axiom_lines place (Some id) }) new
axiom_line_logged v c blocks h number place id read log new within has there same logged found none at new_is =
    let in_axioms : number < length v.axioms = omega (arith, within, ap (λ (w : ClausesView). length w.axioms) same) in
    let below : place < length v.used = slice_get_within v.used place number there in
    let before : IsLogOf v log = subst (λ (w : ClausesView). IsLogOf w log) (sym same) logged in
    let unnoted : get_or v.axiom_lines place None ≡ None = default v.axiom_lines place None read (omega (arith, below, h.axiom_each)) ∙ sym found ∙ none in
    subst (λ (ls : List LogLine). IsLogOf (record v { axiom_lines = slice_set v.axiom_lines place (Some id) }) ls) (sym new_is)
    (IsLogOf-axiom v log number place id before in_axioms (subst (λ (w : ClausesView). Contains w.used number) (sym same) has) below h.axiom_each (get_or_from_slice_get v.used place number 0 there) unnoted at)

pub axiom_line_stands : (axioms : List (List Lit)) (number : ℕ) (id : StepId) (log new : List LogLine) → id.0 ≡ length log → new ≡ log ++ AxiomLine number ∷ [] → StandsInLog axioms new id (get_or axioms number [])
axiom_line_stands axioms number id log new at new_is =
    subst (λ (ls : List LogLine). StandsInLog axioms ls id (get_or axioms number [])) (sym new_is) (StandsInLog-last axioms log (AxiomLine number) id at)

-- the line is noted at the axiom's place
no_line : (y : StepId) → ◌≡◌ {A = Option StepId} None (Some y) → ⊥
no_line y h = cc

none_ok : (P : StepId → Type 0) (answer : Result StepId AllocError) → IsErr answer → IfOk answer P
none_ok P (Ok id) fails = absurd (cc)
none_ok P (Err e) fails = tt

module _ (v c : ClausesView) (blocks : ℕ) (are : AreClauses v blocks) (number place : ℕ) (read : Option StepId) (log : List LogLine) (same : v ≡ c) (there : slice_get v.used place ≡ Some number) (at : read ≡ get_or v.axiom_lines place read) where
  under_lines : place < length v.axiom_lines
  under_lines = omega (arith, slice_get_within v.used place number there, are.axiom_each)

  of_place : slice_get c.used place ≡ Some number
  of_place = ap (λ (w : ClausesView). slice_get w.used place) (sym same) ∙ there

  line_read : get_or c.axiom_lines place None ≡ read
  line_read = ap (λ (w : ClausesView). get_or w.axiom_lines place None) (sym same) ∙ default v.axiom_lines place None read under_lines ∙ sym at

  pub noted_before : (id : StepId) → read ≡ Some id → IsNoted number c c log log (Ok id)
  noted_before id is = record {
    place = place;
    of_number = of_place;
    noted = line_read ∙ is;
    stays = λ other found. (ap Ok (some_same id other (sym is ∙ sym line_read ∙ found)), refl);
  }

  pub noted_anew : (id : StepId) (grown : List LogLine) → read ≡ None → IsNoted number c (record v { axiom_lines = set v.axiom_lines place (Some id) }) log grown (Ok id)
  noted_anew id grown is = record {
    place = place;
    of_number = of_place;
    noted = get_or-set_same v.axiom_lines place (Some id) None under_lines;
    stays = λ other found. absurd (no_line other (sym is ∙ sym line_read ∙ found));
  }

  pub noted_nowhere : (n : ClausesView) (grown : List LogLine) (answer : Result StepId AllocError) → IsErr answer → read ≡ None → IsNoted number c n log grown answer
  noted_nowhere n grown answer fails is = record {
    place = place;
    of_number = of_place;
    noted = none_ok (λ id. get_or n.axiom_lines place None ≡ Some id) answer fails;
    stays = λ other found. absurd (no_line other (sym is ∙ sym line_read ∙ found));
  }

-- ---- a line that was there

pub axiom_stands : (v c : ClausesView) (blocks : ℕ) → AreClauses v blocks → (number place : ℕ) (read : Option StepId) (id : StepId) (log : List LogLine) → v ≡ c → IsLogOf c log → slice_get v.used place ≡ Some number
    → read ≡ get_or v.axiom_lines place read → read ≡ Some id → StandsInLog c.axioms log id (get_or c.axioms number [])
axiom_stands v c blocks are number place read id log same h there at is =
    let within : place < length v.used = slice_get_within v.used place number there in
    let under : place < length v.axiom_lines = omega (arith, within, are.axiom_each) in
    let of_number : get_or c.used place 0 ≡ number = ap (λ (w : ClausesView). get_or w.used place 0) (sym same) ∙ get_or_from_slice_get v.used place number 0 there in
    let found = h.axioms_stand place id (omega (arith, within, ap (λ (w : ClausesView). length w.used) same))
    (ap (λ (w : ClausesView). get_or w.axiom_lines place None) (sym same) ∙ default v.axiom_lines place None read under ∙ sym at ∙ is) in
    subst (λ m. StandsInLog c.axioms log id (get_or c.axioms m [])) of_number found

pub kept_stands : (v c : ClausesView) (blocks : ℕ) → AreClauses v blocks → (place : ℕ) (read k : KeptClause) (id : StepId) (log : List LogLine) → v ≡ c → IsLogOf c log → place < length c.more
    → read ≡ get_or v.kept place read → read ≡ k → line_of k ≡ Some id → StandsInLog c.axioms log id (get_or c.more place [])
kept_stands v c blocks are place read k id log same h within at is has =
    let under : place < length v.kept = omega (arith, within, ap (λ (w : ClausesView). length w.more) same, are.kept_each) in
    h.stands place id within (ap (λ (w : ClausesView). line_of (get_or w.kept place blank)) (sym same) ∙ ap line_of (default v.kept place blank read under ∙ sym at ∙ is) ∙ has)

-- ---- the calls that add a clause

pub blocks_few : (more : List (List Lit)) (kept : List KeptClause) → length (blocks_among more kept) ≤ length kept
blocks_few [] kept = omega arith
blocks_few (m ∷ more) [] = omega arith
blocks_few (m ∷ more) (k ∷ kept) = head (is_some (number_of k)) (blocks_few more kept)
  where
    head : (b : Bool) → length (blocks_among more kept) ≤ length kept → length (cond b (m ∷ blocks_among more kept) (blocks_among more kept)) ≤ suc (length kept)
    head true h = omega (arith, h)
    head false h = omega (arith, h)

pub at_lists : (P : List (List Lit) → List KeptClause → Type 0) (more same_more : List (List Lit)) (kept same_kept : List KeptClause) → same_more ≡ more → same_kept ≡ kept → P more kept → P same_more same_kept
at_lists P more same_more kept same_kept one two h = rw (one, two) h

pub with_block : (v c : ClausesView) (blocks : ℕ) → AreClauses v blocks → v ≡ c → (clause : List Lit) → blocks_among (v.more ++ clause ∷ []) (v.kept ++ Block blocks None ∷ []) ≡ blocks_of c ++ clause ∷ []
with_block v c blocks h same clause = blocks-push v.more v.kept clause (Block blocks None) h.kept_each ∙ ap (λ (w : ClausesView). blocks_of w ++ clause ∷ []) same

pub with_block_logged : (v c : ClausesView) (blocks : ℕ) → AreClauses v blocks → v ≡ c → (clause : List Lit) (log : List LogLine) → IsLogOf c log → IsLogOf (record v { more = v.more ++ clause ∷ []; kept = v.kept ++ Block blocks None ∷ [] }) log
with_block_logged v c blocks h same clause log logged =
    added_logged v blocks h clause (Block blocks None) (clause ∷ []) log (blocks-push v.more v.kept clause (Block blocks None) h.kept_each) (subst (λ (w : ClausesView). IsLogOf w log) (sym same) logged)
    (λ id has. absurd (none id has))
  where
    none : (id : StepId) → ◌≡◌ {A = Option StepId} None (Some id) → ⊥
    none id e = cc

-- a clause that is no block
pub with_other : (v c : ClausesView) (blocks : ℕ) → AreClauses v blocks → v ≡ c → (clause : List Lit) (k : KeptClause) → number_of k ≡ None → blocks_among (v.more ++ clause ∷ []) (v.kept ++ k ∷ []) ≡ blocks_of c
with_other v c blocks h same clause k is = blocks-push v.more v.kept clause k h.kept_each ∙ rw is (append-nil (blocks_of v)) ∙ ap (λ (w : ClausesView). blocks_of w) same

pub with_dropped_logged : (v c : ClausesView) (blocks : ℕ) → AreClauses v blocks → v ≡ c → (clause : List Lit) (log : List LogLine) → IsLogOf c log → IsLogOf (record v { more = v.more ++ clause ∷ []; kept = v.kept ++ Dropped ∷ [] }) log
with_dropped_logged v c blocks h same clause log logged =
    added_logged v blocks h clause Dropped [] log (blocks-push v.more v.kept clause Dropped h.kept_each) (subst (λ (w : ClausesView). IsLogOf w log) (sym same) logged)
    (λ id has. absurd (none id has))
  where
    none : (id : StepId) → ◌≡◌ {A = Option StepId} None (Some id) → ⊥
    none id e = cc

-- a clause that stands in the log
pub derived_logged : (v c : ClausesView) (blocks : ℕ) → AreClauses v blocks → v ≡ c → (clause : List Lit) (id : StepId) (log : List LogLine) → StandsInLog c.axioms log id clause → IsLogOf c log
    → IsLogOf (record v { more = v.more ++ clause ∷ []; kept = v.kept ++ Learned id ∷ [] }) log
derived_logged v c blocks h same clause id log stands logged =
    added_logged v blocks h clause (Learned id) [] log (blocks-push v.more v.kept clause (Learned id) h.kept_each) (subst (λ (w : ClausesView). IsLogOf w log) (sym same) logged)
    (λ other has. subst (λ (o : StepId). StandsInLog v.axioms log o clause) (some_same id other has) (subst (λ (w : ClausesView). StandsInLog w.axioms log id clause) (sym same) stands))

-- ---- the clauses of which one literal at most has a banned negation

pub lone_added : (c : ClausesView) (clause : List Lit) (k : KeptClause) → length c.kept ≡ length c.more → (IsSome (number_of k) → AreAskable c.banned clause) → AreAllLone c
    → AreAllLone (record c { more = c.more ++ clause ∷ []; kept = c.kept ++ k ∷ [] })
lone_added c clause k each asked h = record {
  used = h.used;
  blocks = λ block has. ⊎_elim
      (λ was. h.blocks block was)
      (λ new. by_number (number_of k) refl block new)
      (Contains-append_cases (blocks_of c) (cond (is_some (number_of k)) (clause ∷ []) []) block (subst (λ (bs : List (List Lit)). Contains bs block) (blocks-push c.more c.kept clause k each) has));
}
  where
    by_number : (o : Option ℕ) → number_of k ≡ o → (block : List Lit) → Contains (cond (is_some o) (clause ∷ []) []) block → IsLone c.banned block
    by_number None is block new = absurd (contains_none block new)
    by_number (Some n) is block new = ⊎_elim
        (λ same. subst (IsLone c.banned) same (asked_lone c.banned clause (asked (rw is refl))))
        (λ none. absurd (contains_none block none))
        (contains_cases clause [] block new)

-- ---- the trail

module _ (law : ClausesMayBeAdded) (quiet : QuietIsKept) (v c : ClausesView) (blocks : ℕ) (h : AreClauses v blocks) (same : v ≡ c) (clause : List Lit) (k : KeptClause) where
  -- a clause that was added last isn't known yet
  known_still : (r : ClauseRef) → IsKnown (record v { more = v.more ++ clause ∷ []; kept = v.kept ++ k ∷ [] }) r ↔ IsKnown v r
  known_still (Axiom n) = (λ is. is, λ is. is)
  known_still (More n) = (
    λ is.
        let within : n < length v.more = omega (arith, is.1, h.reached) in
        (within, is.1, subst (λ (l : KeptClause). IsStanding l) (get_or_append_left v.kept (k ∷ []) blank n (omega (arith, within, h.kept_each))) is.2),
    λ is. (
      omega (arith, is.0, length_push v.more clause),
      is.1,
      subst (λ (l : KeptClause). IsStanding l) (sym (get_or_append_left v.kept (k ∷ []) blank n (omega (arith, is.0, h.kept_each)))) is.2,
    ),
  )

  pub added_search : IsOverOwn c.own clause → (IsSome (number_of k) → AreAskable c.banned clause) → (t : TrailView) → IsSearch c t → IsSearch (record v { more = v.more ++ clause ∷ []; kept = v.kept ++ k ∷ [] }) t
  added_search over asked t search =
      still (subst (λ (w : ClausesView). IsOverOwn w.own clause) (sym same) over) (subst (λ (w : ClausesView). IsSome (number_of k) → AreAskable w.banned clause) (sym same) asked) (subst (λ (w : ClausesView). IsSearch w t) (sym same) search)
    where
      still : IsOverOwn v.own clause → (IsSome (number_of k) → AreAskable v.banned clause) → IsSearch v t → IsSearch (record v { more = v.more ++ clause ∷ []; kept = v.kept ++ k ∷ [] }) t
      still over asked before = record {
        over = law v.axioms v.more clause t before.over;
        attached = λ r is. before.attached r ((known_still r).0 is);
        known = λ r has. (known_still r).1 (before.known r has);
        quiet = quiet.by_adding v.axioms v.more clause t before.over before.quiet;
        over_own = record {
          in_range = before.over_own.in_range;
          used = before.over_own.used;
          more = All-push (λ (cl : List Lit). IsOverOwn v.own cl) v.more clause before.over_own.more over;
        };
        own = before.own;
        lone = lone_added v clause k h.kept_each asked before.lone;
        decided = before.decided;
      }

  pub added_problem : number_of k ≡ None → KeepsProblem c (record v { more = v.more ++ clause ∷ []; kept = v.kept ++ k ∷ [] })
  added_problem is = record {
    axioms = ap (λ (w : ClausesView). w.axioms) same;
    used = ap (λ (w : ClausesView). w.used) same;
    own = ap (λ (w : ClausesView). w.own) same;
    banned = ap (λ (w : ClausesView). w.banned) same;
    blocks = with_other v c blocks h same clause k is;
  }

-- clauses that only got lines
pub IsSearch-same : (c new : ClausesView) (t : TrailView) → KeepsClauses c new → IsSearch c t → IsSearch new t
IsSearch-same c new t same h = record {
  over = rw (same.axioms, same.more) h.over;
  attached = λ r is. h.attached r ((same.known r).0 is);
  known = λ r has. (same.known r).1 (h.known r has);
  quiet = rw (same.axioms, same.more) h.quiet;
  over_own = record {
    in_range = rw same.own h.over_own.in_range;
    used = rw (same.axioms, same.used, same.own) h.over_own.used;
    more = rw (same.own, same.more) h.over_own.more;
  };
  own = rw same.own h.own;
  lone = record {
    used = rw (same.axioms, same.used, same.banned) h.lone.used;
    blocks = λ block has. rw same.banned (h.lone.blocks block (subst (λ (bs : List (List Lit)). Contains bs block) same.blocks has));
  };
  decided = rw same.banned h.decided;
}

-- a block that gets a line is known as before
pub block_known : (v c : ClausesView) (place number : ℕ) (id : StepId) (blocks : ℕ) → AreClauses v blocks → place < length v.kept → get_or v.kept place blank ≡ Block number None → v ≡ c
    → (r : ClauseRef) → IsKnown (record v { kept = slice_set v.kept place (Block number (Some id)) }) r ↔ IsKnown c r
block_known v c place number id blocks h within is same r =
    subst (λ (w : ClausesView). IsKnown (record v { kept = slice_set v.kept place (Block number (Some id)) }) r ↔ IsKnown w r) same (as_v r)
  where
    as_v : (r : ClauseRef) → IsKnown (record v { kept = slice_set v.kept place (Block number (Some id)) }) r ↔ IsKnown v r
    as_v (Axiom n) = (λ k. k, λ k. k)
    as_v (More n) =
        let both = standing_kept v.kept place number id within is n in
        (λ k. (k.0, k.1, both.0 k.2), λ k. (k.0, k.1, both.1 k.2))

pub IsKnown-ref : (c : ClausesView) (r : ClauseRef) → IsKnown c r → IsRef c.axioms c.more r
IsKnown-ref c (Axiom n) h = h.0
IsKnown-ref c (More n) h = h.0

pub axiom_known : (v : ClausesView) (place : ℕ) (line : Option StepId) (r : ClauseRef) → IsKnown (record v { axiom_lines = set v.axiom_lines place line }) r ↔ IsKnown v r
axiom_known v place line (Axiom n) = (λ k. k, λ k. k)
axiom_known v place line (More n) = (λ k. k, λ k. k)

-- ---- what is kept where lines are added

pub keeps_same : (v c : ClausesView) → v ≡ c → KeepsClauses c v
keeps_same v c same = record {
  axioms = ap (λ (w : ClausesView). w.axioms) same;
  used = ap (λ (w : ClausesView). w.used) same;
  own = ap (λ (w : ClausesView). w.own) same;
  banned = ap (λ (w : ClausesView). w.banned) same;
  more = ap (λ (w : ClausesView). w.more) same;
  blocks = ap (λ (w : ClausesView). blocks_of w) same;
  reached = ap (λ (w : ClausesView). w.known) same;
  known = λ r. subst (λ (w : ClausesView). IsKnown v r ↔ IsKnown w r) same (λ k. k, λ k. k);
}

pub axiom_keeps : (v c : ClausesView) → v ≡ c → (place : ℕ) (line : Option StepId) → KeepsClauses c (record v { axiom_lines = set v.axiom_lines place line })
axiom_keeps v c same place line = record {
  axioms = ap (λ (w : ClausesView). w.axioms) same;
  used = ap (λ (w : ClausesView). w.used) same;
  own = ap (λ (w : ClausesView). w.own) same;
  banned = ap (λ (w : ClausesView). w.banned) same;
  more = ap (λ (w : ClausesView). w.more) same;
  blocks = ap (λ (w : ClausesView). blocks_of w) same;
  reached = ap (λ (w : ClausesView). w.known) same;
  known = λ r. subst (λ (w : ClausesView). IsKnown (record v { axiom_lines = set v.axiom_lines place line }) r ↔ IsKnown w r) same (axiom_known v place line r);
}

pub block_keeps : (v c : ClausesView) (place number : ℕ) (id : StepId) (blocks : ℕ) → AreClauses v blocks → place < length v.kept → get_or v.kept place blank ≡ Block number None → v ≡ c
    → KeepsClauses c (record v { kept = slice_set v.kept place (Block number (Some id)) })
block_keeps v c place number id blocks h within is same = record {
  axioms = ap (λ (w : ClausesView). w.axioms) same;
  used = ap (λ (w : ClausesView). w.used) same;
  own = ap (λ (w : ClausesView). w.own) same;
  banned = ap (λ (w : ClausesView). w.banned) same;
  more = ap (λ (w : ClausesView). w.more) same;
  blocks = blocks_kept v.more v.kept place number (Some id) is ∙ ap (λ (w : ClausesView). blocks_of w) same;
  reached = ap (λ (w : ClausesView). w.known) same;
  known = block_known v c place number id blocks h within is same;
}

pub own_in_range : (own : List Var) (variables : ℕ) (clause : List Lit) → All (λ (v : Var). v.0 < variables) own → IsOverOwn own clause → AreInRange variables clause
own_in_range own variables clause within over k d below = All-contains (λ (v : Var). v.0 < variables) own (get_or clause k d).variable within (over k d below)

-- ---- the next clause is made known

module _ (quiet : QuietIsKept) (v c : ClausesView) (blocks : ℕ) (h : AreClauses v blocks) (same : v ≡ c) (some : c.known < length c.more) (k : KeptClause) (read : get_or v.kept v.known blank ≡ k) where
  -- what is known now was known, or is that clause
  known_cases : (r : ClauseRef) → IsKnown (record v { known = v.known + 1 }) r → IsKnown v r ⊎ ((More v.known ≡ r) × IsStanding k)
  known_cases (Axiom n) is = inl is
  known_cases (More n) is =
      ⊎_elim
      (λ before. inl (is.0, before, is.2))
      (λ end.
      let here : v.known ≡ n = omega (arith, is.1, end) in
      inr (ap More here, subst (λ (l : KeptClause). IsStanding l) read (subst (λ m. IsStanding (get_or v.kept m blank)) (sym here) is.2)))
      (cases_lt n v.known)

  still_known : (r : ClauseRef) → IsKnown v r → IsKnown (record v { known = v.known + 1 }) r
  still_known (Axiom n) is = is
  still_known (More n) is = (is.0, omega (arith, is.1), is.2)

  in_more : v.known < length v.more
  in_more = subst (λ (w : ClausesView). w.known < length w.more) (sym same) some

  pub next_still : AreClauses (record v { known = v.known + 1 }) blocks
  next_still = record {
    few = h.few;
    used_in = h.used_in;
    axiom_each = h.axiom_each;
    kept_each = h.kept_each;
    counted = h.counted;
    numbered = h.numbered;
    reached = omega (arith, in_more);
  }

  pub next_skipped : (t : TrailView) → (IsStanding k → ⊥) → IsSearch c t → IsSearch (record v { known = v.known + 1 }) t
  next_skipped t dropped search = go (subst (λ (w : ClausesView). IsSearch w t) (sym same) search)
    where
      go : IsSearch v t → IsSearch (record v { known = v.known + 1 }) t
      go s = record {
        over = s.over;
        attached = λ r is. ⊎_elim (s.attached r) (λ new. absurd (dropped new.1)) (known_cases r is);
        known = λ r has. still_known r (s.known r has);
        quiet = s.quiet;
        over_own = record { in_range = s.over_own.in_range; used = s.over_own.used; more = s.over_own.more };
        own = s.own;
        lone = record { used = s.lone.used; blocks = s.lone.blocks };
        decided = s.decided;
      }

  pub next_attached : (t u : TrailView) → IsStanding k → IsSearch c t → WasSettled t.entries (get_or c.more c.known []) → IsAttached (More v.known) t u
      → (IsOver v.axioms v.more t → IsRef v.axioms v.more (More v.known) → IsOver v.axioms v.more u) → IsSearch (record v { known = v.known + 1 }) u
  next_attached t u stands search settled is over = go (subst (λ (w : ClausesView). IsSearch w t) (sym same) search) (subst (λ (w : ClausesView). WasSettled t.entries (get_or w.more w.known [])) (sym same) settled)
    where
      go : IsSearch v t → WasSettled t.entries (get_or v.more v.known []) → IsSearch (record v { known = v.known + 1 }) u
      go s here = record {
        over = over s.over in_more;
        attached = λ r known. subst (λ (rs : List ClauseRef). Contains rs r) (sym is.attached)
            (⊎_elim
            (λ was. Contains-append_left t.attached (More v.known ∷ []) r (s.attached r was))
            (λ new. subst (Contains (t.attached ++ More v.known ∷ [])) new.0 (Contains-push t.attached (More v.known)))
            (known_cases r known));
        known = λ r has. ⊎_elim
            (λ was. still_known r (s.known r was))
            (λ new. subst (IsKnown (record v { known = v.known + 1 })) new (in_more, omega arith, rw read stands))
            (Contains-push_cases t.attached (More v.known) r (subst (λ (rs : List ClauseRef). Contains rs r) is.attached has));
        quiet = quiet.by_attaching v.axioms v.more (More v.known) t u is here s.quiet;
        over_own = record {
          in_range = rw is.variables s.over_own.in_range;
          used = s.over_own.used;
          more = s.over_own.more;
        };
        own = rw is.entries s.own;
        lone = record { used = s.lone.used; blocks = s.lone.blocks };
        decided = rw is.entries s.decided;
      }

-- its variables are in range
pub next_in_range : (v c : ClausesView) (t : TrailView) (lits : List Lit) → v ≡ c → IsSearch c t → c.known < length c.more → slice_get v.more v.known ≡ Some lits → AreInRange t.variables lits
next_in_range v c t lits same search some at =
    let here : IsSearch v t = subst (λ (w : ClausesView). IsSearch w t) (sym same) search in
    own_in_range v.own t.variables lits here.over_own.in_range
    (subst (IsOverOwn v.own) (get_or_from_slice_get v.more v.known lits [] at) (here.over_own.more v.known [] (slice_get_within v.more v.known lits at)))

-- ---- a learned clause and its line

-- a block is a given clause
pub block_given_at : (more : List (List Lit)) (kept : List KeptClause) (clause : List Lit) → Contains (blocks_among more kept) clause → (n : ℕ) × (n < length more) × IsSome (number_of (get_or kept n blank)) × (get_or more n [] ≡ clause)
block_given_at [] kept clause has = absurd (omega (arith, has.1))
block_given_at (m ∷ more) [] clause has = absurd (omega (arith, has.1))
block_given_at (m ∷ more) (k ∷ kept) clause has = head (number_of k) refl (λ rest. block_given_at more kept clause rest)
  where
    head : (o : Option ℕ) → number_of k ≡ o → (Contains (blocks_among more kept) clause → (n : ℕ) × (n < length more) × IsSome (number_of (get_or kept n blank)) × (get_or more n [] ≡ clause))
        → (n : ℕ) × (n < length (m ∷ more)) × IsSome (number_of (get_or (k ∷ kept) n blank)) × (get_or (m ∷ more) n [] ≡ clause)
    head None is rec =
        let r = rec (subst (λ (o : Option ℕ). Contains (cond (is_some o) (m ∷ blocks_among more kept) (blocks_among more kept)) clause) is has) in
        (suc r.0, omega (arith, r.1), r.2, r.3)
    head (Some number) is rec =
        ⊎_elim
        (λ same. (zero, omega arith, rw is refl, same))
        (λ rest. let r = rec rest in (suc r.0, omega (arith, r.1), r.2, r.3))
        (contains_cases m (blocks_among more kept) clause (subst (λ (o : Option ℕ). Contains (cond (is_some o) (m ∷ blocks_among more kept) (blocks_among more kept)) clause) is has))

-- what a block line names is a block, and all blocks are known
pub block_is_known : (c : ClausesView) → KnowsAll c → (block : List Lit) → Contains (blocks_of c) block → (r : ClauseRef) × IsKnown c r × (clause_at c.axioms c.more r ≡ block)
block_is_known c all block has =
    let b = block_given_at c.more c.kept block has in
    (More b.0, (b.1, omega (arith, b.1, all), numbered_stands (get_or c.kept b.0 blank) b.2), b.3)
  where
    numbered_stands : (k : KeptClause) → IsSome (number_of k) → IsStanding k
    numbered_stands (Block number line) h = tt
    numbered_stands (Learned line) h = tt
    numbered_stands Dropped h = cc

pub within_known : (c : ClausesView) (clause part : List Lit) → ContainsNoKnown c clause → (r : ClauseRef) × IsKnown c r × (clause_at c.axioms c.more r ≡ part) → IsSubclause part clause → ⊥
within_known c clause part none known inside = none known.0 known.1 (subst (λ (p : List Lit). IsSubclause p clause) (sym known.2) inside)

learned_is_known : (c : ClausesView) → KnowsAll c → (part : List Lit) → IsKeptAs c part → (r : ClauseRef) × IsKnown c r × (clause_at c.axioms c.more r ≡ part)
learned_is_known c all part kept = (More kept.0, (kept.1, omega (arith, kept.1, all), kept.3), kept.2)

module _ (v : ClausesView) (blocks : ℕ) (h : AreClauses v blocks) (clause : List Lit) (lines : List StepId) (id : StepId) (log : List LogLine) (all : KnowsAll v)
    (over : IsOverOwn v.own clause) (none : ContainsNoKnown v clause) (no_tautology : IsTautology negated clause → ⊥) (earlier : All (λ (s : StepId). s.0 < length log) lines) (good : IsGoodStep negated clause (hinted_clauses v.axioms log lines))
    (short : IsShort v.own clause (length lines)) (logged : IsLogOf v log) where
  -- no block lies within it
  pub learned_no_block : ContainNone (blocks_of v) (length log) (log ++ StepLine clause lines true ∷ [])
  learned_no_block i other block late at has inside =
      ⊎_elim
      (λ was. absurd (omega (arith, late, learned_within log i other was)))
      (λ last. within_known v clause block none (block_is_known v all block has) (subst (λ (o : List Lit). IsSubclause block o) (sym last.1) inside))
      (learned_cases log clause lines i other at)

  learned_new : AreNewClauses (used_clauses v.axioms v.used) (log ++ StepLine clause lines true ∷ [])
  learned_new =
      new_learned (used_clauses v.axioms v.used) log clause lines logged.new no_tautology
      (λ part has inside.
      let u = contains_mapped (λ n. get_or v.axioms n []) v.used part has in
      within_known v clause part none (Axiom u.0, (h.used_in u.0 u.1, u.1), u.2) inside)
      (λ i before at inside. within_known v clause before none (learned_is_known v all before (logged.learned i before at)) inside)
      (λ i number block at inside.
      let there = logged.blocks i number block at in
      within_known v clause block none (block_is_known v all block (number, slice_get_within (blocks_of v) number block there, get_or_from_slice_get (blocks_of v) number block block there)) inside)

  -- the log with the line is one for the clauses with the clause
  pub learned_logged : HasNoForced (used_clauses v.axioms v.used) clause → HasNoBanned v.banned clause → id.0 ≡ length log → IsLogOf (record v { more = v.more ++ clause ∷ []; kept = v.kept ++ Learned id ∷ [] }) (log ++ StepLine clause lines true ∷ [])
  learned_logged unforced free at = record {
    derivation = IsDerivation-line v.axioms log (StepLine clause lines true) logged.derivation good earlier;
    blocks = λ i number other here. ⊎_elim
        (λ was. rw grown (slice_get-more (blocks_of v) [] number other (logged.blocks i number other was)))
        (λ last. absurd (not_block number other last.1))
        (line_cases log (StepLine clause lines true) i (BlockLine number other) here);
    axioms = λ i number here. ⊎_elim (λ was. logged.axioms i number was) (λ last. absurd (not_axiom number last.1)) (line_cases log (StepLine clause lines true) i (AxiomLine number) here);
    axioms_stand = λ place other within has. StandsInLog-more v.axioms log (StepLine clause lines true ∷ []) other _ (logged.axioms_stand place other within has);
    axioms_once = λ number. omega (arith, logged.axioms_once number, lines-step number log clause lines true);
    stands = found;
    over_own = λ i other hints learned here. ⊎_elim
        (λ was. logged.over_own i other hints learned was)
        (λ last. subst (IsOverOwn v.own) (ap (clause_of_line []) last.1) over)
        (line_cases log (StepLine clause lines true) i (StepLine other hints learned) here);
    short = λ i other hints learned here. ⊎_elim
        (λ was. logged.short i other hints learned was)
        (λ last. subst (λ (l : LogLine). IsShort v.own (clause_of_line [] l) (length (hints_of l))) last.1 short)
        (line_cases log (StepLine clause lines true) i (StepLine other hints learned) here);
    learned = λ i other here. ⊎_elim (λ was. kept_still (logged.learned i other was)) (λ last. subst (IsKeptAs (record v { more = v.more ++ clause ∷ []; kept = v.kept ++ Learned id ∷ [] })) last.1 kept_last) (learned_cases log clause lines i other here);
    new = learned_new;
    avoids = avoid_learned (used_clauses v.axioms v.used) log clause lines logged.avoids unforced;
    free = free_learned v.banned log clause lines logged.free free;
  }
    where
      grown : blocks_among (v.more ++ clause ∷ []) (v.kept ++ Learned id ∷ []) ≡ blocks_of v ++ []
      grown = blocks-push v.more v.kept clause (Learned id) h.kept_each

      not_block : (number : ℕ) (other : List Lit) → StepLine clause lines true ≡ BlockLine number other → ⊥
      not_block number other e = cc

      not_axiom : (number : ℕ) → StepLine clause lines true ≡ AxiomLine number → ⊥
      not_axiom number e = cc

      here : StandsInLog v.axioms (log ++ StepLine clause lines true ∷ []) id clause
      here = StandsInLog-last v.axioms log (StepLine clause lines true) id at

      found : (n : ℕ) (other : StepId) → n < length (v.more ++ clause ∷ []) → line_of (get_or (v.kept ++ Learned id ∷ []) n blank) ≡ Some other
          → StandsInLog v.axioms (log ++ StepLine clause lines true ∷ []) other (get_or (v.more ++ clause ∷ []) n [])
      found n other is_ref has =
          ⊎_elim
          (λ before.
          let within : n < length v.kept = omega (arith, before, h.kept_each) in
          rw (get_or_append_left v.more (clause ∷ []) [] n before)
          (StandsInLog-more v.axioms log (StepLine clause lines true ∷ []) other (get_or v.more n []) (logged.stands n other before (ap line_of (sym (get_or_append_left v.kept (Learned id ∷ []) blank n within)) ∙ has))))
          (λ end.
          let there : length v.more ≡ n = omega (arith, is_ref, length_push v.more clause, end) in
          let same : id ≡ other = some_same id other (ap line_of (sym (get_or_push v.kept (Learned id) blank n (omega (arith, there, h.kept_each)))) ∙ has) in
          rw (get_or_push v.more clause [] n there) (subst (λ (o : StepId). StandsInLog v.axioms (log ++ StepLine clause lines true ∷ []) o clause) same here))
          (cases_lt n (length v.more))

      kept_still : {other : List Lit} → IsKeptAs v other → IsKeptAs (record v { more = v.more ++ clause ∷ []; kept = v.kept ++ Learned id ∷ [] }) other
      kept_still was = (
        was.0,
        omega (arith, was.1, length_push v.more clause),
        get_or_append_left v.more (clause ∷ []) [] was.0 was.1 ∙ was.2,
        subst (λ (l : KeptClause). IsStanding l) (sym (get_or_append_left v.kept (Learned id ∷ []) blank was.0 (omega (arith, was.1, h.kept_each)))) was.3,
      )

      kept_last : IsKeptAs (record v { more = v.more ++ clause ∷ []; kept = v.kept ++ Learned id ∷ [] }) clause
      kept_last = (
        length v.more,
        omega (arith, length_push v.more clause),
        get_or_push v.more clause [] (length v.more) refl,
        subst (λ (l : KeptClause). IsStanding l) (sym (get_or_push v.kept (Learned id) blank (length v.more) h.kept_each)) tt,
      )

pub learned_stands : (v : ClausesView) (kept : List KeptClause) (id : StepId) → KnowsAll v → length v.kept ≡ length v.more → kept ≡ v.kept ++ Learned id ∷ [] → IsStanding (get_or kept v.known blank)
learned_stands v kept id all each is = subst (λ (k : KeptClause). IsStanding k) (sym (ap (λ (ks : List KeptClause). get_or ks v.known blank) is ∙ get_or_push v.kept (Learned id) blank v.known (each ∙ sym all))) tt
