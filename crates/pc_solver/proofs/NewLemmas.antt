-- Learned clauses in a log with more lines.
use Rattle.std.proofs.Common.{◌≡◌, ℕ, ◌+◌, ◌-◌, ◌<◌, ◌≤◌, zero, suc, true, false, List, [], ◌∷◌, ◌++◌, length, get_or, sym, ap, ◌∙◌, subst, arith, ⊎_elim, inl, inr, ◌⊎◌, Some, slice_get, Contains, cond}
use Rattle.std.specs.List.{count_by}
use Rattle.std.proofs.lemmas.Bool.{cases_lt}
use Rattle.std.proofs.lemmas.Option.{get_or_from_slice_get, slice_get_within, slice_get-get_or}
use Rattle.std.proofs.lemmas.List.{length_push, length-append, get_or_append_left, get_or_push, get_or-append-add}
use Rattle.std.proofs.lemmas.List.Sums.{sum_by-append}
use Rattle.pc_lits.specs.declared.literal.Lit.{Lit}
use Rattle.pc_lits.specs.Literals.{negated}
use Rattle.pc_lits.specs.Steps.{IsTautology}
use Rattle.pc_log.specs.declared.log.StepId.{StepId}
use Rattle.pc_log.specs.Lines.{LogLine, AxiomLine, BlockLine, StepLine}
use Rattle.pc_log.specs.Derivations.{clause_of_line}
use Rattle.pc_lits.specs.Clauses.{IsSubclause}
use Rattle.pc_solver.specs.InLog.{LogGrows, is_marked}
use Rattle.pc_solver.specs.New.{IsLearnedAt, AreNewClauses, HasNoForced, AvoidForced, ContainNone}

-- the line at a place is one of the old ones, or the new one
pub line_cases : (log : List LogLine) (line : LogLine) (i : ℕ) (other : LogLine) → slice_get (log ++ line ∷ []) i ≡ Some other → (slice_get log i ≡ Some other) ⊎ ((i ≡ length log) × (line ≡ other))
line_cases log line i other at =
    let whole = log ++ line ∷ [] in
    let below = slice_get_within whole i other at in
    let read = get_or_from_slice_get whole i other other at in
    ⊎_elim
    (λ before. inl (slice_get-get_or log i other before ∙ ap Some (sym (get_or_append_left log (line ∷ []) other i before) ∙ read)))
    (λ end.
    let here : i ≡ length log = omega (arith, length_push log line, below, end) in
    inr (here, sym (get_or_push log line other i (sym here)) ∙ read))
    (cases_lt i (length log))

-- a line that isn't a learned step
abbrev pub IsUnlearned : LogLine → Type 0
IsUnlearned line = (clause : List Lit) (hints : List StepId) → line ≡ StepLine clause hints true → ⊥

pub learned_was : (log : List LogLine) (line : LogLine) (i : ℕ) (clause : List Lit) → IsUnlearned line → IsLearnedAt (log ++ line ∷ []) i clause → IsLearnedAt log i clause
learned_was log line i clause un at =
    ⊎_elim (λ was. (at.0, was)) (λ last. absurd (un clause at.0 last.1)) (line_cases log line i (StepLine clause at.0 true) at.1)

block_was : (log : List LogLine) (line : LogLine) (i number : ℕ) (block : List Lit) → i < length log → slice_get (log ++ line ∷ []) i ≡ Some (BlockLine number block) → slice_get log i ≡ Some (BlockLine number block)
block_was log line i number block below at =
    ⊎_elim (λ was. was) (λ last. absurd (omega (arith, last.0, below))) (line_cases log line i (BlockLine number block) at)

pub learned_within : (log : List LogLine) (i : ℕ) (clause : List Lit) → IsLearnedAt log i clause → i < length log
learned_within log i clause at = slice_get_within log i (StepLine clause at.0 true) at.1

pub new_other : (used : List (List Lit)) (log : List LogLine) (line : LogLine) → IsUnlearned line → AreNewClauses used log → AreNewClauses used (log ++ line ∷ [])
new_other used log line un h = record {
  no_tautology = λ i clause at. h.no_tautology i clause (learned_was log line i clause un at);
  no_axiom = λ i clause part at has. h.no_axiom i clause part (learned_was log line i clause un at) has;
  no_learned = λ i j earlier clause before one two. h.no_learned i j earlier clause before (learned_was log line i earlier un one) (learned_was log line j clause un two);
  no_block_line = λ i j number block clause before one two.
      let was = learned_was log line j clause un two in
      h.no_block_line i j number block clause before (block_was log line i number block (omega (arith, before, learned_within log j clause was)) one) was;
}

-- a learned step was there, or is the new one
pub learned_cases : (log : List LogLine) (clause : List Lit) (hints : List StepId) (i : ℕ) (other : List Lit) → IsLearnedAt (log ++ StepLine clause hints true ∷ []) i other → IsLearnedAt log i other ⊎ ((i ≡ length log) × (clause ≡ other))
learned_cases log clause hints i other at =
    ⊎_elim (λ was. inl (at.0, was)) (λ last. inr (last.0, ap (clause_of_line []) last.1)) (line_cases log (StepLine clause hints true) i (StepLine other at.0 true) at.1)

pub new_learned : (used : List (List Lit)) (log : List LogLine) (clause : List Lit) (hints : List StepId) → AreNewClauses used log → (IsTautology negated clause → ⊥)
    → ((part : List Lit) → Contains used part → IsSubclause part clause → ⊥) → ((i : ℕ) (earlier : List Lit) → IsLearnedAt log i earlier → IsSubclause earlier clause → ⊥)
    → ((i number : ℕ) (block : List Lit) → slice_get log i ≡ Some (BlockLine number block) → IsSubclause block clause → ⊥) → AreNewClauses used (log ++ StepLine clause hints true ∷ [])
new_learned used log clause hints h no_tautology no_axiom no_learned no_block = record {
  no_tautology = λ i other at. ⊎_elim (λ was. h.no_tautology i other was) (λ last. subst (λ (c : List Lit). ¬ IsTautology negated c) last.1 no_tautology) (learned_cases log clause hints i other at);
  no_axiom = λ i other part at has. ⊎_elim (λ was. h.no_axiom i other part was has) (λ last. subst (λ (c : List Lit). ¬ IsSubclause part c) last.1 (no_axiom part has)) (learned_cases log clause hints i other at);
  no_learned = λ i j earlier other before one two.
      ⊎_elim
      (λ was. h.no_learned i j earlier other before (first_was i j earlier before (omega (arith, learned_within log j other was)) one) was)
      (λ last. subst (λ (c : List Lit). ¬ IsSubclause earlier c) last.1 (no_learned i earlier (first_was i (length log) earlier (omega (arith, before, last.0)) (omega arith) one)))
      (learned_cases log clause hints j other two);
  no_block_line = λ i j number block other before one two.
      ⊎_elim
      (λ was. h.no_block_line i j number block other before (block_was log (StepLine clause hints true) i number block (omega (arith, before, learned_within log j other was)) one) was)
      (λ last. subst (λ (c : List Lit). ¬ IsSubclause block c) last.1 (no_block i number block (block_was log (StepLine clause hints true) i number block (omega (arith, before, last.0)) one)))
      (learned_cases log clause hints j other two);
}
  where
    first_was : (i j : ℕ) (earlier : List Lit) → i < j → j ≤ length log → IsLearnedAt (log ++ StepLine clause hints true ∷ []) i earlier → IsLearnedAt log i earlier
    first_was i j earlier before low at = ⊎_elim (λ was. was) (λ last. absurd (omega (arith, last.0, before, low))) (learned_cases log clause hints i earlier at)

-- ---- no forced literal

pub avoid_other : (used : List (List Lit)) (log : List LogLine) (line : LogLine) → IsUnlearned line → AvoidForced used log → AvoidForced used (log ++ line ∷ [])
avoid_other used log line un h i clause at = h i clause (learned_was log line i clause un at)

pub avoid_learned : (used : List (List Lit)) (log : List LogLine) (clause : List Lit) (hints : List StepId) → AvoidForced used log → HasNoForced used clause → AvoidForced used (log ++ StepLine clause hints true ∷ [])
avoid_learned used log clause hints h none i other at = ⊎_elim (λ was. h i other was) (λ last. subst (HasNoForced used) last.1 none) (learned_cases log clause hints i other at)

-- ---- no block within

count-first : (line : LogLine) (lines : List LogLine) → count_by is_marked (line ∷ lines) ≡ count_by is_marked (line ∷ []) + count_by is_marked lines
count-first line lines = sum_by-append (λ (x : LogLine). cond (is_marked x) 1 0) (line ∷ []) lines

-- among lines of which none is marked there is no learned clause
none_marked : (lines : List LogLine) (i : ℕ) (clause : List Lit) → count_by is_marked lines ≡ 0 → IsLearnedAt lines i clause → ⊥
none_marked [] i clause none at = omega (arith, slice_get_within {A = LogLine} [] i (StepLine clause at.0 true) at.1)
none_marked (AxiomLine n ∷ lines) zero clause none at = absurd (cc)
none_marked (BlockLine n c ∷ lines) zero clause none at = absurd (cc)
none_marked (StepLine c hs true ∷ lines) zero clause none at = omega (arith, none, count-first (StepLine c hs true) lines)
none_marked (StepLine c hs false ∷ lines) zero clause none at = absurd (cc)
none_marked (line ∷ lines) (suc i) clause none at = none_marked lines i clause (omega (arith, none, count-first line lines)) at

pub none_learned : (blocks : List (List Lit)) (log grown : List LogLine) (unmarked : ℕ) → LogGrows log grown 0 unmarked → ContainNone blocks (length log) grown
none_learned blocks log grown unmarked h i clause block late at has within =
    let k : ℕ = i - length log in
    let split : i ≡ length log + k = omega (arith, late) in
    let step : LogLine = StepLine clause at.0 true in
    let there : slice_get (log ++ h.lines) i ≡ Some step = subst (λ (ls : List LogLine). slice_get ls i ≡ Some step) h.added at.1 in
    let below : i < length (log ++ h.lines) = slice_get_within (log ++ h.lines) i step there in
    let within_lines : k < length h.lines = omega (arith, split, below, length-append log h.lines) in
    let read : get_or h.lines k step ≡ step = sym (get_or-append-add log h.lines k step) ∙ subst (λ n. get_or (log ++ h.lines) n step ≡ step) split (get_or_from_slice_get (log ++ h.lines) i step step there) in
    none_marked h.lines k clause h.marked_lines (at.0, slice_get-get_or h.lines k step within_lines ∙ ap Some read)

-- what was learned before stays before
pub no_block_trans : (blocks : List (List Lit)) (one two three : List LogLine) (marked unmarked : ℕ) → ContainNone blocks (length one) two → LogGrows two three marked unmarked → ContainNone blocks (length two) three → ContainNone blocks (length one) three
no_block_trans blocks one two three marked unmarked h g later i clause block late at has =
    ⊎_elim
    (λ early.
    let step : LogLine = StepLine clause at.0 true in
    let there : slice_get (two ++ g.lines) i ≡ Some step = subst (λ (ls : List LogLine). slice_get ls i ≡ Some step) g.added at.1 in
    let was : slice_get two i ≡ Some step = slice_get-get_or two i step early ∙ ap Some (sym (get_or_append_left two g.lines step i early) ∙ get_or_from_slice_get (two ++ g.lines) i step step there) in
    h i clause block late (at.0, was) has)
    (λ past. later i clause block past at has)
    (cases_lt i (length two))
