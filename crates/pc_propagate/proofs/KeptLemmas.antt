-- Clauses that need no look, as the trail grows, goes back, and is propagated.
use Rattle.std.proofs.Common.{◌≡◌, ◌≢◌, ℕ, ◌+◌, ◌-◌, ◌<◌, ◌≤◌, inl, inr, List, ◌++◌, length, get_or, sym, ap, ◌∙◌, subst, arith, ⊎_elim, AllPairs, Contains}
use Rattle.std.specs.List.{swap}
use Rattle.std.proofs.lemmas.Bool.{cases_Bool, cases_eq}
use Rattle.std.proofs.lemmas.List.{get_or_default}
use Rattle.std.proofs.lemmas.List.Edits.{length-swap}
use Rattle.pc_lits.specs.declared.literal.Lit.{Lit}
use Rattle.pc_lits.specs.Literals.{negated}
use Rattle.pc_lits.proofs.LitLemmas.{same_lit, lit_from_same, other_lit}
use Rattle.pc_propagate.specs.Listed.{no_literal}
use Rattle.pc_propagate.proofs.ElementLemmas.{swap_still, swap_first, swap_other}
use Rattle.pc_propagate.specs.declared.trail.TrailEntry.{TrailEntry}
use Rattle.pc_propagate.specs.Entries.{falses, Differ}
use Rattle.pc_propagate.specs.Levels.{IsBackTo}
use Rattle.pc_propagate.specs.TrailView.{TrailView}
use Rattle.pc_propagate.specs.Propagation.{IsSettled}
use Rattle.pc_propagate.specs.Watched.{IsFalseAt, GuardEachOther, IsWatchedBy, IsOfLastLevel, IsSure, HasLiteralsOf}
use Rattle.pc_propagate.proofs.PlaceLemmas.{contains_false_at}
use Rattle.pc_propagate.proofs.GuardLemmas.{start_append, start_back, grown, gone_back, another, a_true_one, another_first, exchanged, true_settles, settled}

-- one of the first two literals
abbrev first_of : List Lit → Lit
first_of body = get_or body 0 no_literal

abbrev second_of : List Lit → Lit
second_of body = get_or body 1 no_literal

pub sure_append : (entries more : List TrailEntry) (head : ℕ) (body : List Lit) → head ≤ length entries → IsSure entries head body → IsSure (entries ++ more) head body
sure_append entries more head body within h = ⊎_elim
    (λ good. inl (good.0, good.1, start_append entries more good.0 good.2))
    (λ w. inr (w.0, grown entries more head body (first_of body) (second_of body) within w.1))
    h

pub sure_back : (old new : TrailView) (level head less : ℕ) (body : List Lit) → IsBackTo level old new → less ≤ head → less ≤ length new.entries → IsSure old.entries head body → IsSure new.entries less body
sure_back old new level head less body back fewer within h = ⊎_elim
    (λ good. inl (good.0, good.1, start_back old new level good.0 back good.2))
    (λ w. inr (w.0, gone_back old new level head less body (first_of body) (second_of body) back fewer within w.1))
    h

-- fewer entries
pub sure_less : (entries : List TrailEntry) (head less : ℕ) (body : List Lit) → less ≤ head → IsSure entries head body → IsSure entries less body
sure_less entries head less body fewer h = ⊎_elim
    (λ good. inl good)
    (λ w. inr (
      w.0,
      record {
        apart = w.1.apart;
        has_first = w.1.has_first;
        has_second = w.1.has_second;
        first = λ k below. w.1.first k (omega (arith, fewer, below));
        second = λ k below. w.1.second k (omega (arith, fewer, below));
      },
    ))
    h

-- one more entry, whose literal isn't watched
pub sure_another : (entries : List TrailEntry) (head : ℕ) (body : List Lit) (n : Lit) → IsFalseAt entries head n → first_of body ≢ n → second_of body ≢ n → IsSure entries head body → IsSure entries (head + 1) body
sure_another entries head body n at not_first not_second h = ⊎_elim
    (λ good. inl good)
    (λ w. inr (w.0, another entries head body (first_of body) (second_of body) n at not_first not_second w.1))
    h

-- one more entry of the last level, where a literal of the clause is true
pub sure_by_true : (entries : List TrailEntry) (head : ℕ) (body : List Lit) (lit m : Lit) → IsFalseAt entries head lit → IsOfLastLevel entries head → Contains body m → Contains (falses entries) (negated m)
    → IsSure entries head body → IsSure entries (head + 1) body
sure_by_true entries head body lit m at last has is_true h = ⊎_elim
    (λ good. inl good)
    (λ w. inr (
      w.0,
      ⊎_elim
          (λ first. a_true_one entries head body (first_of body) (second_of body) m (subst (IsFalseAt entries head) (sym (lit_from_same (first_of body) lit first)) at) last has is_true w.1)
          (λ not_first. ⊎_elim
          (λ second. exchanged entries (head + 1) body (second_of body) (first_of body)
          (a_true_one entries head body (second_of body) (first_of body) m (subst (IsFalseAt entries head) (sym (lit_from_same (second_of body) lit second)) at) last has is_true
          (exchanged entries head body (first_of body) (second_of body) w.1)))
          (λ not_second. another entries head body (first_of body) (second_of body) lit at (other_lit (first_of body) lit not_first) (other_lit (second_of body) lit not_second) w.1)
          (cases_Bool (same_lit (second_of body) lit)))
          (cases_Bool (same_lit (first_of body) lit)),
    ))
    h

-- the same literals in another order
watched_in : (entries : List TrailEntry) (head : ℕ) (body new : List Lit) (l m : Lit) → ((x : Lit) → Contains body x → Contains new x) → IsWatchedBy entries head body l m → IsWatchedBy entries head new l m
watched_in entries head body new l m still w = record {
  apart = w.apart;
  has_first = still l w.has_first;
  has_second = still m w.has_second;
  first = λ k below. let g = w.first k below in (g.0, still g.0 g.1, g.2);
  second = λ k below. let g = w.second k below in (g.0, still g.0 g.1, g.2);
}

-- one more entry, which made the literal of a watched place false, where that place has taken up another literal that isn't
pub sure_shifted : (entries : List TrailEntry) (head : ℕ) (body new : List Lit) (own k : ℕ) (lit other : Lit) → IsFalseAt entries head lit → own < 2 → get_or body own no_literal ≡ lit → get_or body (1 - own) no_literal ≡ other → 2 ≤ k
    → k < length body → (Contains (falses entries) (get_or body k no_literal) → ⊥) → get_or body k no_literal ≢ other → new ≡ swap body own k → IsSure entries head body → IsSure entries (head + 1) new
sure_shifted entries head body new own k lit other at one own_is other_is behind within not_false apart is h = ⊎_elim
    (λ good. inl (good.0, still good.0 good.1, good.2))
    (λ w. inr (omega (arith, behind, within, size), ⊎_elim (λ zero_is. by_first zero_is w.1) (λ other_place. by_second (omega (arith, one, other_place)) w.1) (cases_eq own 0)))
    h
  where
    size : length new ≡ length body
    size = ap length is ∙ length-swap body own k

    still : (x : Lit) → Contains body x → Contains new x
    still x has = subst (λ (b : List Lit). Contains b x) (sym is) (swap_still body own k x (omega (arith, one, behind, within)) within has)

    next : Lit
    next = get_or body k no_literal

    has_next : Contains body (get_or body k no_literal)
    has_next = (k, within, get_or_default body k (get_or body k no_literal) no_literal within)

    taken : get_or new own no_literal ≡ get_or body k no_literal
    taken = ap (λ (b : List Lit). get_or b own no_literal) is ∙ swap_first body own k no_literal (omega (arith, one, behind, within)) within

    stays : (i : ℕ) → i < 2 → i ≢ own → get_or new i no_literal ≡ get_or body i no_literal
    stays i early differs = ap (λ (b : List Lit). get_or b i no_literal) is ∙ swap_other body own k i no_literal (omega (arith, one, behind, within)) within differs (λ same. omega (arith, same, early, behind))

    by_first : own ≡ 0 → IsWatchedBy entries head body (first_of body) (second_of body) → IsWatchedBy entries (head + 1) new (first_of new) (second_of new)
    by_first here w =
        let lit_is : first_of body ≡ lit = ap (λ (i : ℕ). get_or body i no_literal) (sym here) ∙ own_is in
        let second_is : second_of body ≡ other = ap (λ (i : ℕ). get_or body (1 - i) no_literal) (sym here) ∙ other_is in
        let moved = another_first entries head body (first_of body) (second_of body) (get_or body k no_literal) (subst (IsFalseAt entries head) (sym lit_is) at) has_next not_false (λ same. apart (same ∙ second_is)) w in
        subst (λ (m : Lit). IsWatchedBy entries (head + 1) new m (second_of new)) (sym taken ∙ ap (λ (i : ℕ). get_or new i no_literal) here)
        (subst (λ (m : Lit). IsWatchedBy entries (head + 1) new (get_or body k no_literal) m) (sym (stays 1 (omega arith) (λ same. omega (arith, same, here))))
        (watched_in entries (head + 1) body new (get_or body k no_literal) (second_of body) still moved))

    by_second : own ≡ 1 → IsWatchedBy entries head body (first_of body) (second_of body) → IsWatchedBy entries (head + 1) new (first_of new) (second_of new)
    by_second here w =
        let lit_is : second_of body ≡ lit = ap (λ (i : ℕ). get_or body i no_literal) (sym here) ∙ own_is in
        let first_is : first_of body ≡ other = ap (λ (i : ℕ). get_or body (1 - i) no_literal) (sym here) ∙ other_is in
        let moved = another_first entries head body (second_of body) (first_of body) (get_or body k no_literal) (subst (IsFalseAt entries head) (sym lit_is) at) has_next not_false (λ same. apart (same ∙ first_is))
        (exchanged entries head body (first_of body) (second_of body) w) in
        subst (λ (m : Lit). IsWatchedBy entries (head + 1) new (first_of new) m) (sym taken ∙ ap (λ (i : ℕ). get_or new i no_literal) here)
        (subst (λ (m : Lit). IsWatchedBy entries (head + 1) new m (get_or body k no_literal)) (sym (stays 0 (omega arith) (λ same. omega (arith, same, here))))
        (exchanged entries (head + 1) new (get_or body k no_literal) (first_of body) (watched_in entries (head + 1) body new (get_or body k no_literal) (first_of body) still moved)))

-- two literals that guard each other may be watched
pub sure_pair : (entries : List TrailEntry) (body : List Lit) → 2 ≤ length body → GuardEachOther entries (first_of body) (second_of body) → (head : ℕ) → IsSure entries head body
sure_pair entries body long pair head = inr (
  long,
  record {
    apart = pair.apart;
    has_first = (0, omega (arith, long), get_or_default body 0 (first_of body) no_literal (omega (arith, long)));
    has_second = (1, omega (arith, long), get_or_default body 1 (second_of body) no_literal (omega (arith, long)));
    first = λ k below. (second_of body, (1, omega (arith, long), get_or_default body 1 (second_of body) no_literal (omega (arith, long))), pair.first k);
    second = λ k below. (first_of body, (0, omega (arith, long), get_or_default body 0 (first_of body) no_literal (omega (arith, long))), pair.second k);
  },
)

-- a clause with the same literals
settled_in : (entries : List TrailEntry) (clause body : List Lit) → HasLiteralsOf clause body → IsSettled entries body → IsSettled entries clause
settled_in entries clause body h s = (
  λ all_false. s.0 (λ m has. all_false m (h.from m has)),
  λ n last. s.1 n (h.all n last.0, last.1, λ m has other. last.2 m (h.from m has) other),
)

-- once all entries are propagated, the clause is settled
pub sure_settles : (entries : List TrailEntry) (clause body : List Lit) → AllPairs Differ entries → HasLiteralsOf clause body → IsSure entries (length entries) body → IsSettled entries clause
sure_settles entries clause body different same h = settled_in entries clause body same (⊎_elim
    (λ good. true_settles entries body good.0 different good.1 (contains_false_at entries good.2.0 (negated good.0) good.2.1))
    (λ w. settled entries body (first_of body) (second_of body) different w.1)
    h)
