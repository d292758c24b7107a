-- Small trails and what is watched on them.
use Rattle.std.proofs.Common.{◌≡◌, ◌≢◌, ℕ, zero, suc, ◌<◌, ◌≤◌, ◌⊎◌, inl, inr, true, false, List, [], ◌∷◌, Option, None, Some, Contains, arith, ap, refl, sym, ◌∙◌, subst, Bool, slice_get, slice_set, get_or, is_some}
use Rattle.std.proofs.lemmas.Bool.{false≢true}
use Rattle.std.proofs.lemmas.Option.{slice_get_within, get_or_from_slice_get}
use Rattle.pc_lits.specs.declared.literal.Lit.{Lit}
use Rattle.pc_lits.specs.declared.literal.Var.{Var}
use Rattle.pc_lits.specs.Literals.{negated}
use Rattle.pc_propagate.specs.Listed.{code_of}
use Rattle.pc_propagate.specs.declared.trail.TrailEntry.{TrailEntry}
use Rattle.pc_propagate.specs.Entries.{falses}
use Rattle.pc_propagate.specs.declared.clauses.ClauseRef.{ClauseRef}
use Rattle.pc_propagate.specs.declared.clauses.ClauseRef.TheVariants.{Axiom, More}
use Rattle.pc_propagate.specs.Levels.{level_at, IsJustified}
use Rattle.pc_propagate.specs.TrailView.{TrailView}
use Rattle.pc_propagate.specs.Watched.{IsFalseAt, IsTrueFromStart, GuardsAt, IsWatchedBy, IsSure, IsKept, HasLiteralsOf, attached_clause}
use Rattle.pc_propagate.specs.Watching.{body_at}
use Rattle.pc_lemmas.proofs.Elements.{contains_cases, contains_none}
use Rattle.pc_worked_laws.specs.Trails.{plus, minus, decided, implied}
use Rattle.pc_worked_laws.specs.Watches.{some_of_three, turned}
use Rattle.pc_worked_laws.specs.Guards.{first_false, then_implied, then_decided, trail, with_entries, variable, WorkedGuards, WorkedWatches, WorkedSure, WorkedKept, WorkedJustified}
use Rattle.pc_worked_laws.proofs.Deciding.{has_lit}
use Rattle.pc_worked_laws.proofs.WatchesHold.{there, not_there, three}

-- ---- what is false

stands : (entries : List TrailEntry) (k : ℕ) (l : Lit) → IsFalseAt entries k l → Contains (falses entries) l
stands entries k l at = (k, slice_get_within (falses entries) k l at, get_or_from_slice_get (falses entries) k l l at)

isnt_false : (entries : List TrailEntry) (k : ℕ) (l : Lit) → has_lit (falses entries) l ≡ false → ¬ IsFalseAt entries k l
isnt_false entries k l none at = not_there (falses entries) l none (stands entries k l at)

abbrev code_or : Option Lit → ℕ
code_or None = 99
code_or (Some l) = code_of l

-- the numbers of the literals' lists differ
other_code : (x y : Option Lit) (m n : ℕ) → code_or x ≡ m → code_or y ≡ n → m ≢ n → x ≢ y
other_code x y m n is also other same = other (sym is ∙ ap code_or same ∙ also)

-- ---- guards

-- what is never false needs no guard
unneeded : (entries : List TrailEntry) (l m : Lit) → has_lit (falses entries) l ≡ false → (k : ℕ) → GuardsAt entries l m k
unneeded entries l m none k at = absurd (isnt_false entries k l none at)

-- what isn't true is none
no_guard : (entries : List TrailEntry) (l m : Lit) (k : ℕ) → IsFalseAt entries k l → has_lit (falses entries) (negated m) ≡ false → ¬ GuardsAt entries l m k
no_guard entries l m k at none guards = let g = guards at in isnt_false entries g.0 (negated m) none g.1

implied_guards : (k : ℕ) → GuardsAt then_implied (plus 0) (plus 1) k
implied_guards zero at = (1, refl, omega arith)
implied_guards (suc zero) at = absurd (other_code (Some (minus 1)) (Some (plus 0)) 2 1 refl refl (λ is. omega (arith, is)) at)
implied_guards (suc (suc k)) at = absurd (isnt_false [] k (plus 0) refl at)

-- at the place where 1 became true
only_then : (j : ℕ) → IsFalseAt then_decided j (minus 1) → 2 ≤ level_at then_decided j
only_then zero at = absurd (other_code (Some (plus 0)) (Some (minus 1)) 1 2 refl refl (λ is. omega (arith, is)) at)
only_then (suc zero) at = omega arith
only_then (suc (suc j)) at = absurd (isnt_false [] j (minus 1) refl at)

too_high : ¬ GuardsAt then_decided (plus 0) (plus 1) 0
too_high guards = let g = guards refl in let level : 2 ≤ level_at then_decided g.0 = only_then g.0 g.1 in let low : level_at then_decided g.0 ≤ 1 = g.2 in omega (arith, level, low)

unguarded : (m : Lit) → Contains some_of_three m → ¬ GuardsAt first_false (plus 0) m 0
unguarded = three (λ m. ¬ GuardsAt first_false (plus 0) m 0) (plus 0) (plus 1) (plus 2) (no_guard first_false (plus 0) (plus 0) 0 refl refl) (no_guard first_false (plus 0) (plus 1) 0 refl refl) (no_guard first_false (plus 0) (plus 2) 0 refl refl)

no_longer : (m : Lit) → Contains some_of_three m → ¬ GuardsAt then_decided (plus 0) m 0
no_longer = three (λ m. ¬ GuardsAt then_decided (plus 0) m 0) (plus 0) (plus 1) (plus 2) (no_guard then_decided (plus 0) (plus 0) 0 refl refl) too_high (no_guard then_decided (plus 0) (plus 2) 0 refl refl)

other_literals : (x y : Lit) (m n : ℕ) → code_of x ≡ m → code_of y ≡ n → m ≢ n → x ≢ y
other_literals x y m n is also other same = other (sym is ∙ ap code_of same ∙ also)

pub worked_guards : WorkedGuards
worked_guards = record {
  nothing_false = unneeded [] (plus 0) (plus 1) refl 0;
  none_true = no_guard first_false (plus 0) (plus 1) 0 refl refl;
  of_its_level = implied_guards 0;
  of_lower_level = λ at. (0, refl, omega arith);
  of_higher_level = too_high;
  another_place = λ at. absurd (other_code (Some (minus 1)) (Some (plus 0)) 2 1 refl refl (λ is. omega (arith, is)) at);
  by_negation = λ at. (0, refl, omega arith);
  each_other = record {
    apart = other_literals (plus 0) (plus 1) 1 3 refl refl (λ is. omega (arith, is));
    first = implied_guards;
    second = unneeded then_implied (plus 1) (plus 0) refl;
  };
  one_way = λ h. too_high (h.first 0);
  one_literal = λ h. h.apart refl;
  in_clause = (plus 1, there some_of_three (plus 1) refl, implied_guards 0);
  outside = λ g. two g.0 g.1 g.2;
  last_level = refl;
  level_before = λ is. let levels : 1 ≡ 2 = is in omega (arith, levels);
  same_level = refl;
}
  where
    two : (m : Lit) → Contains (plus 0 ∷ plus 2 ∷ []) m → ¬ GuardsAt then_implied (plus 0) m 0
    two m has = elim (contains_cases (plus 0) (plus 2 ∷ []) m has) [
      | inl is ↦ subst (λ l. ¬ GuardsAt then_implied (plus 0) l 0) is (no_guard then_implied (plus 0) (plus 0) 0 refl refl)
      | inr more ↦ elim (contains_cases (plus 2) [] m more) [
        | inl is ↦ subst (λ l. ¬ GuardsAt then_implied (plus 0) l 0) is (no_guard then_implied (plus 0) (plus 2) 0 refl refl)
        | inr none ↦ absurd (contains_none m none)
      ]
    ]

-- ---- watched literals

-- where neither literal is false
both_open : (entries : List TrailEntry) (head : ℕ) (clause : List Lit) (l m : Lit) → l ≢ m → has_lit clause l ≡ true → has_lit clause m ≡ true
    → has_lit (falses entries) l ≡ false → has_lit (falses entries) m ≡ false → IsWatchedBy entries head clause l m
both_open entries head clause l m apart has has_m open_l open_m = record {
  apart = apart;
  has_first = there clause l has;
  has_second = there clause m has_m;
  first = λ k less. (l, there clause l has, unneeded entries l l open_l k);
  second = λ k less. (m, there clause m has_m, unneeded entries m m open_m k);
}

zero_apart : plus 0 ≢ plus 1
zero_apart = other_literals (plus 0) (plus 1) 1 3 refl refl (λ is. omega (arith, is))

two_apart : plus 2 ≢ plus 1
two_apart = other_literals (plus 2) (plus 1) 5 3 refl refl (λ is. omega (arith, is))

not_propagated : IsWatchedBy first_false 0 some_of_three (plus 0) (plus 1)
not_propagated = record {
  apart = zero_apart;
  has_first = there some_of_three (plus 0) refl;
  has_second = there some_of_three (plus 1) refl;
  first = λ k less. absurd (omega (arith, less));
  second = λ k less. absurd (omega (arith, less));
}

overlooked : ¬ IsWatchedBy first_false 1 some_of_three (plus 0) (plus 1)
overlooked h = let g = h.first 0 (omega arith) in unguarded g.0 g.1 g.2

pub worked_watches : WorkedWatches
worked_watches = record {
  before = not_propagated;
  overlooked = overlooked;
  two_others = both_open first_false 1 some_of_three (plus 2) (plus 1) two_apart refl refl refl refl;
  guarded = record {
    apart = zero_apart;
    has_first = there some_of_three (plus 0) refl;
    has_second = there some_of_three (plus 1) refl;
    first = λ k less. (plus 1, there some_of_three (plus 1) refl, implied_guards k);
    second = λ k less. (plus 1, there some_of_three (plus 1) refl, unneeded then_implied (plus 1) (plus 1) refl k);
  };
  until_going_back = λ h. let g = h.first 0 (omega arith) in no_longer g.0 g.1 g.2;
  one_twice = λ h. h.apart refl;
  foreign = λ h. not_there some_of_three (minus 1) refl h.has_second;
}

-- ---- sure clauses

-- no literal of the clause is true
none_true : (m : Lit) → Contains some_of_three m → ¬ IsTrueFromStart first_false m
none_true = three (λ m. ¬ IsTrueFromStart first_false m) (plus 0) (plus 1) (plus 2) (λ t. isnt_false first_false t.0 (minus 0) refl t.1) (λ t. isnt_false first_false t.0 (minus 1) refl t.1) (λ t. isnt_false first_false t.0 (minus 2) refl t.1)

not_sure : ¬ IsSure first_false 1 some_of_three
not_sure (inl t) = none_true t.0 t.1 t.2
not_sure (inr w) = overlooked w.1

third_false : IsSure first_false 1 turned
third_false = inr (omega arith, both_open first_false 1 turned (plus 2) (plus 1) two_apart refl refl refl refl)

just_that : (m : Lit) → Contains (plus 0 ∷ []) m → plus 0 ≡ m
just_that m has = elim (contains_cases (plus 0) [] m has) [ inl is ↦ is | inr none ↦ absurd (contains_none m none) ]

pub worked_sure : WorkedSure
worked_sure = record {
  third_false = third_false;
  watched_false = not_sure;
  not_propagated = inr (omega arith, not_propagated);
  for_good = inl (plus 0, there (plus 0 ∷ []) (plus 0) refl, (0, refl, refl));
  for_now = for_now;
  not_yet = not_yet;
}
  where
    decided_true : (j : ℕ) → IsFalseAt (decided (plus 0) ∷ []) j (minus 0) → level_at (decided (plus 0) ∷ []) j ≢ 0
    decided_true zero at is = let level : 1 ≡ 0 = is in omega (arith, level)
    decided_true (suc j) at is = isnt_false [] j (minus 0) refl at

    for_now : ¬ IsSure (decided (plus 0) ∷ []) 1 (plus 0 ∷ [])
    for_now (inl t) = let s = subst (IsTrueFromStart (decided (plus 0) ∷ [])) (sym (just_that t.0 t.1)) t.2 in decided_true s.0 s.1 s.2
    for_now (inr w) = let long : 2 ≤ 1 = w.0 in omega (arith, long)

    not_yet : ¬ IsSure [] 0 (plus 0 ∷ [])
    not_yet (inl t) = isnt_false [] t.2.0 (negated t.0) refl t.2.1
    not_yet (inr w) = let long : 2 ≤ 1 = w.0 in omega (arith, long)

-- ---- kept clauses

turned_literals : HasLiteralsOf some_of_three turned
turned_literals = record {
  from = three (Contains some_of_three) (plus 2) (plus 1) (plus 0) (there some_of_three (plus 2) refl) (there some_of_three (plus 1) refl) (there some_of_three (plus 0) refl);
  all = three (Contains turned) (plus 0) (plus 1) (plus 2) (there turned (plus 0) refl) (there turned (plus 1) refl) (there turned (plus 2) refl);
}

same_literals : HasLiteralsOf some_of_three some_of_three
same_literals = record { from = λ l has. has; all = λ l has. has }

overlooked_clause : ¬ IsKept (trail 1 some_of_three None) 1 0
overlooked_clause (inl (inl is)) = none_is is
  where
    none_is : (◌≡◌ {A = Option ℕ} None (Some 0)) → ⊥
    none_is is = cc
overlooked_clause (inl (inr is)) = none_is is
  where
    none_is : (◌≡◌ {A = Option ℕ} None (Some 1)) → ⊥
    none_is is = cc
overlooked_clause (inr sure) = not_sure sure

-- the one clause
one_clause : (P : ℕ → Type 0) → P 0 → (n : ℕ) → n < 1 → P n
one_clause P is zero less = is
one_clause P is (suc n) less = absurd (omega (arith, less))

pub worked_kept : WorkedKept
worked_kept = record {
  sure = inr third_false;
  overlooked = overlooked_clause;
  next = inl (inl refl);
  present = inl (inr refl);
  all_sure = record {
    bodies = refl;
    waiting = refl;
    propagated = omega arith;
    same = one_clause (λ n. HasLiteralsOf (attached_clause (some_of_three ∷ []) [] (trail 1 turned None) n) (body_at (trail 1 turned None).watching n)) turned_literals;
    kept = one_clause (λ n. ⊥ ⊎ IsKept (trail 1 turned None) 1 n) (inr (inr third_false));
  };
  all_pending = record {
    bodies = refl;
    waiting = refl;
    propagated = omega arith;
    same = one_clause (λ n. HasLiteralsOf (attached_clause (some_of_three ∷ []) [] (trail 1 some_of_three (Some 0)) n) (body_at (trail 1 some_of_three (Some 0)).watching n)) same_literals;
    kept = one_clause (λ n. ⊥ ⊎ IsKept (trail 1 some_of_three (Some 0)) 1 n) (inr (inl (inl refl)));
  };
  one_overlooked = λ h. elim (h.kept 0 (omega arith)) [ inl no_such ↦ no_such | inr kept ↦ overlooked_clause kept ];
  but_that_one = record {
    bodies = refl;
    waiting = refl;
    propagated = omega arith;
    same = one_clause (λ n. HasLiteralsOf (attached_clause (some_of_three ∷ []) [] (trail 1 some_of_three None) n) (body_at (trail 1 some_of_three None).watching n)) same_literals;
    kept = one_clause (λ n. (n ≡ 0) ⊎ IsKept (trail 1 some_of_three None) 1 n) (inl refl);
  };
  but_another = λ h. elim (h.kept 0 (omega arith)) [ inl is ↦ absurd (omega (arith, is)) | inr kept ↦ overlooked_clause kept ];
  lacks_one = λ h. not_there (plus 2 ∷ plus 1 ∷ []) (plus 0) refl ((h.same 0 (omega arith)).all (plus 0) (there some_of_three (plus 0) refl));
  another_clause = λ h. not_there (plus 2 ∷ plus 1 ∷ []) (plus 0) refl ((h.same 0 (omega arith)).from (plus 0) (there turned (plus 0) refl));
  too_far = λ h. let far : 2 ≤ 1 = h.propagated in absurd (omega (arith, far));
}

-- ---- another reason

some_entry : (x y : TrailEntry) → ◌≡◌ {A = Option TrailEntry} (Some x) (Some y) → x ≡ y
some_entry x y is = cc

no_entry : (y : TrailEntry) → ◌≡◌ {A = Option TrailEntry} None (Some y) → ⊥
no_entry y is = cc

abbrev has_reason : TrailEntry → Bool
has_reason e = is_some e.reason

-- only the literal of 1 is there by a clause
is_second : (v : Var) (reason : ClauseRef) (after : TrailView) → (h : IsJustified v reason (with_entries then_implied) after) → (h.place ≡ 1) × (v.0 ≡ 1)
is_second v reason after h = at h.place h.at
  where
    at : (place : ℕ) → slice_get then_implied place ≡ Some h.entry → (place ≡ 1) × (v.0 ≡ 1)
    at zero is = absurd (false≢true (ap has_reason (some_entry (decided (minus 0)) h.entry is) ∙ h.implied))
    at (suc zero) is = (refl, sym h.is_of ∙ sym (ap (λ (e : TrailEntry). e.literal.variable.0) (some_entry (implied (plus 1) 0) h.entry is)))
    at (suc (suc k)) is = absurd (no_entry h.entry is)

-- the reason's number and the literal's sign at that place
abbrev axiom_of : Option ClauseRef → ℕ
axiom_of (Some (Axiom number)) = number
axiom_of (Some (More number)) = 99
axiom_of None = 99

justified_entry : (reason : ClauseRef) (es : List TrailEntry) → IsJustified (variable 1) reason (with_entries then_implied) (with_entries es) → get_or es 1 (decided (plus 5)) ≡ record { literal = plus 1; reason = Some reason }
justified_entry reason es h =
    let entry : implied (plus 1) 0 ≡ h.entry = some_entry (implied (plus 1) 0) h.entry (subst (λ k. slice_get then_implied k ≡ Some h.entry) (is_second (variable 1) reason (with_entries es) h).0 h.at) in
    ap (λ (t : TrailView). get_or t.entries 1 (decided (plus 5))) h.is
    ∙ ap (λ k. get_or (slice_set then_implied k (record { literal = h.entry.literal; reason = Some reason })) 1 (decided (plus 5))) (is_second (variable 1) reason (with_entries es) h).0
    ∙ ap (λ (e : TrailEntry). record { literal = e.literal; reason = Some reason }) (sym entry)

pub worked_justified : WorkedJustified
worked_justified = record {
  other_axiom = record { place = 1; entry = implied (plus 1) 0; at = refl; is_of = refl; implied = refl; is = refl };
  same_axiom = record { place = 1; entry = implied (plus 1) 0; at = refl; is_of = refl; implied = refl; is = refl };
  decision = λ after h. let is : 0 ≡ 1 = (is_second (variable 0) (Axiom 1) after h).1 in omega (arith, is);
  elsewhere = λ after h. let is : 2 ≡ 1 = (is_second (variable 2) (Axiom 1) after h).1 in omega (arith, is);
  no_change = λ h. let is : 0 ≡ 1 = ap (λ (e : TrailEntry). axiom_of e.reason) (justified_entry (Axiom 1) then_implied h) in omega (arith, is);
  its_negation = λ h. false≢true (ap (λ (e : TrailEntry). e.literal.sign) (justified_entry (Axiom 1) (decided (minus 0) ∷ implied (minus 1) 1 ∷ []) h));
}
