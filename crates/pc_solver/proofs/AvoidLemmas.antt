-- No learned clause has a literal that attached clauses force.
use Rattle.std.proofs.Common.{◌≡◌, ◌≢◌, ℕ, ◌⊎◌, inl, inr, Bool, true, false, not, List, [], ◌∷◌, Contains, take, get_or, arith, sym, refl, subst}
use Rattle.std.proofs.lemmas.Bool.{cases_Bool}
use Rattle.std.proofs.lemmas.List.Elements.{All-contains}
use Rattle.std.proofs.lemmas.Option.{slice_get-get_or}
use Rattle.pc_lits.specs.declared.literal.Lit.{Lit}
use Rattle.pc_lits.specs.Literals.{negated}
use Rattle.pc_lits.proofs.LitLemmas.{same_parts, same_lit, lit_from_same, other_lit}
use Rattle.pc_lemmas.proofs.Elements.{contains_cases, contains_none, contains_first, contains_later}
use Rattle.pc_propagate.specs.declared.trail.TrailEntry.{TrailEntry}
use Rattle.pc_propagate.specs.declared.clauses.ClauseRef.{ClauseRef}
use Rattle.pc_propagate.specs.Entries.{falses}
use Rattle.pc_propagate.specs.Refs.{clause_at}
use Rattle.pc_propagate.specs.Propagation.{IsSettled}
use Rattle.pc_propagate.specs.Quiet.{WasSettled}
use Rattle.pc_propagate.proofs.PlaceLemmas.{false_still, not_both, false_at_within}
use Rattle.pc_analyze.proofs.NewLemmas.{start_of}
use Rattle.pc_analyze.proofs.StepLemmas.{no_entry}
use Rattle.pc_propagate.specs.Entries.{AreEntries}
use Rattle.pc_propagate.specs.TrailView.{TrailView}
use Rattle.pc_propagate.specs.Quiet.{WasQuiet}
use Rattle.pc_analyze.specs.Learning.{IsLearned, IsAsserting}
use Rattle.pc_solver.specs.Forced.{IsForcedNext, AreForced}
use Rattle.pc_solver.specs.New.{HasNoForced}

pub same_or_not : (l m : Lit) → (l ≡ m) ⊎ (l ≢ m)
same_or_not l m = elim (cases_Bool (same_lit l m)) [ inl same ↦ inl (lit_from_same l m same) | inr other ↦ inr (other_lit l m other) ]

twice : (l : Lit) → negated (negated l) ≡ l
twice l = same_parts (negated (negated l)) l refl (both l.sign)
  where
    both : (b : Bool) → not (not b) ≡ b
    both true = refl
    both false = refl

holds_or_not : (xs : List Lit) (l : Lit) → Contains xs l ⊎ (¬ Contains xs l)
holds_or_not [] l = inr (contains_none l)
holds_or_not (x ∷ xs) l = elim (same_or_not x l) [
  | inl same ↦ inl (subst (Contains (x ∷ xs)) same (contains_first x xs))
  | inr other ↦ elim (holds_or_not xs l) [
    | inl later ↦ inl (contains_later x xs l later)
    | inr none ↦ inr (λ h. elim (contains_cases x xs l h) [ inl same ↦ other same | inr later ↦ none later ])
  ]
]

-- under entries that settle all of the clauses what they force is true
module _ (IsGiven : List Lit → Type 0) (entries : List TrailEntry) (settled : (clause : List Lit) → IsGiven clause → IsSettled entries clause) where
  next_true : (ys : List Lit) (y : Lit) → IsForcedNext IsGiven ys y → ((m : Lit) → Contains ys m → Contains (falses entries) (negated m)) → Contains (falses entries) (negated y)
  next_true ys y k earlier =
      let others : (m : Lit) → Contains k.0 m → m ≢ y → Contains (falses entries) m = λ m has other. subst (Contains (falses entries)) (twice m) (earlier (negated m) (k.3 m has other)) in
      elim (holds_or_not (falses entries) y) [
        | inl is_false ↦ absurd ((settled k.0 k.1).0 (λ m has. elim (same_or_not m y) [ inl same ↦ subst (Contains (falses entries)) (sym same) is_false | inr other ↦ others m has other ]))
        | inr open_yet ↦ (settled k.0 k.1).1 y (k.2, open_yet, others)
      ]

  all_true : (trues : List Lit) → AreForced IsGiven trues → (l : Lit) → Contains trues l → Contains (falses entries) (negated l)
  all_true [] h l c = absurd (contains_none l c)
  all_true (x ∷ xs) h l c = elim (contains_cases x xs l c) [
    | inl same ↦ subst (λ m. Contains (falses entries) (negated m)) same (next_true xs x h.0 (all_true xs h.1))
    | inr later ↦ all_true xs h.1 l later
  ]

pub avoids_forced : (axioms more used : List (List Lit)) (clause : List Lit) (hints : List ClauseRef) (trail : TrailView) (top level : ℕ) → AreEntries trail.variables trail.entries → IsLearned axioms more trail clause hints → IsAsserting trail.entries clause top level
    → WasQuiet axioms more trail → ((part : List Lit) → Contains used part → (r : ClauseRef) × Contains trail.attached r × (clause_at axioms more r ≡ part)) → HasNoForced used clause
avoids_forced axioms more used clause hints trail top level are learned h was attached l has forced =
    let within = false_at_within trail.entries h.at_top.0 h.first h.at_top.1 in
    let start = start_of trail.entries h.at_top.0 within (omega (arith, h.at_top.2, h.below)) in
    let front = take start.0 trail.entries in
    let at = slice_get-get_or trail.entries start.0 no_entry start.2.0 in
    let settled : (c : List Lit) → Contains used c → IsSettled front c =
    λ c there.
    let g = attached c there in
    subst (IsSettled front) g.2 (All-contains (λ (x : ClauseRef). WasSettled trail.entries (clause_at axioms more x)) trail.attached g.0 was g.1 start.0 (get_or trail.entries start.0 no_entry) at start.2.2) in
    let is = all_true (Contains used) front settled forced.0 forced.1 l forced.2 in
    not_both trail.entries l are.different (learned.is_false l has) (false_still trail.entries start.0 (negated l) is)
