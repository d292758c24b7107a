-- The lines of a certificate's text stand in a legal order, and say that certificate.
use Rattle.std.proofs.Common.{◌≡◌, ℕ, ◌+◌, Bool, true, false, ◌&&◌, List, [], ◌∷◌, ◌++◌, map, refl, sym, ap, ◌∙◌, subst, arith, count_by, cond, add-one, if◌then◌else◌}
use Rattle.std.specs.Prelude.{◌||◌}
use Rattle.std.proofs.lemmas.List.Folds.{list_any-append}
use Rattle.std.specs.Cmp.{unsigned_Decides}
use Rattle.std.proofs.lemmas.List.{append-nil}
use Rattle.std.proofs.lemmas.List.Sums.{sum_by-append, sum_by-cons}
use Rattle.pc_sheet.specs.declared.ids.Entry.{Entry}
use Rattle.pc_accept.specs.Sets.{GivenSet}
use Rattle.pc_accept.specs.Accepts.{Claim, implied, inconsistent, repairs, unimplied, against, Line, Certificate}
use Rattle.pc_accept.specs.Accepts as accepts
use Rattle.pc_accept.specs.Writable.{IsBareOf}
use Rattle.pc_cert.specs.Written.{heading, claims, uses, assigns, ends, SaidLine}
use Rattle.pc_cert.specs.Order.{LineKind, heading_line, target_line, inconsistent_line, sets_line, set_line, use_line, value_line, numbered_line, kind_of, has, has_value_since, is_before_entries, is_on_sets, is_set, is_claim, is_value, is_numbered, is_end, may_stand, all_may_stand}
use Rattle.pc_cert.specs.Text.{has_end, in_front, sets_from, uses_from, values_from, parts_from, after_from, has_claim_or_entry, entry_said, set_read, line_of, lines_from, place_meant}
use Rattle.pc_cert_laws.specs.Said.{part_of, derivation_said, sets_said, said_lines, IsSayable, LinesSayCertificates}

-- ---- order

-- what lines of these kinds have so far
pub record Stands (before : List LineKind) (t s v n : Bool) (k : ℕ) : Type 0 where
  pub claimed : has is_claim before ≡ true
  pub targeted : has is_before_entries before ≡ t
  pub on_sets : has is_on_sets before ≡ s
  pub valued : has_value_since false before ≡ v
  pub numbered : has is_numbered before ≡ n
  pub not_ended : has is_end before ≡ false
  pub count : count_by is_numbered before ≡ k

-- a test of kinds, with one line more
has-push : (test : LineKind → Bool) (before : List LineKind) (k : LineKind) (b : Bool) → has test before ≡ b → has test (before ++ k ∷ []) ≡ b || (test k || false)
has-push test before k b is = list_any-append test before (k ∷ []) ∙ ap (λ x. x || (test k || false)) is

since-push : (so : Bool) (before : List LineKind) (k : LineKind) → has_value_since so (before ++ k ∷ []) ≡ (if is_set k then false else (is_value k || has_value_since so before))
since-push so [] k = refl
since-push so (b ∷ bs) k = since-push (if is_set b then false else (is_value b || so)) bs k

count-push : (before : List LineKind) (k : LineKind) (n : ℕ) → count_by is_numbered before ≡ n → count_by is_numbered (before ++ k ∷ []) ≡ n + cond (is_numbered k) 1 0
count-push before k n is =
    let one = sum_by-append (λ (x : LineKind). cond (is_numbered x) 1 0) before (k ∷ []) in
    let two = sum_by-cons (λ (x : LineKind). cond (is_numbered x) 1 0) k [] in
    omega (arith, one, two, is)

or_false : (b : Bool) → b || (false || false) ≡ b
or_false true = refl
or_false false = refl

or_true : (b : Bool) → b || (true || false) ≡ true
or_true true = refl
or_true false = refl

set_more : (before : List LineKind) (t v : Bool) → Stands before t true v false 0 → Stands (before ++ set_line ∷ []) true true false false 0
set_more before t v s = record {
  claimed = has-push is_claim before set_line true s.claimed;
  targeted = has-push is_before_entries before set_line t s.targeted ∙ or_true t;
  on_sets = has-push is_on_sets before set_line true s.on_sets;
  valued = since-push false before set_line;
  numbered = has-push is_numbered before set_line false s.numbered;
  not_ended = has-push is_end before set_line false s.not_ended;
  count = count-push before set_line 0 s.count;
}

use_more : (before : List LineKind) (o : Bool) → Stands before true o false false 0 → Stands (before ++ use_line ∷ []) true o false false 0
use_more before o s = record {
  claimed = has-push is_claim before use_line true s.claimed;
  targeted = has-push is_before_entries before use_line true s.targeted;
  on_sets = has-push is_on_sets before use_line o s.on_sets ∙ or_false o;
  valued = since-push false before use_line ∙ s.valued;
  numbered = has-push is_numbered before use_line false s.numbered;
  not_ended = has-push is_end before use_line false s.not_ended;
  count = count-push before use_line 0 s.count;
}

value_more : (before : List LineKind) (o v : Bool) → Stands before true o v false 0 → Stands (before ++ value_line ∷ []) true o true false 0
value_more before o v s = record {
  claimed = has-push is_claim before value_line true s.claimed;
  targeted = has-push is_before_entries before value_line true s.targeted;
  on_sets = has-push is_on_sets before value_line o s.on_sets ∙ or_false o;
  valued = since-push false before value_line;
  numbered = has-push is_numbered before value_line false s.numbered;
  not_ended = has-push is_end before value_line false s.not_ended;
  count = count-push before value_line 0 s.count;
}

number_more : (before : List LineKind) (t o v n : Bool) (k m : ℕ) → Stands before t o v n k → Stands (before ++ numbered_line m ∷ []) t o v true (k + 1)
number_more before t o v n k m s = record {
  claimed = has-push is_claim before (numbered_line m) true s.claimed;
  targeted = has-push is_before_entries before (numbered_line m) t s.targeted ∙ or_false t;
  on_sets = has-push is_on_sets before (numbered_line m) o s.on_sets ∙ or_false o;
  valued = since-push false before (numbered_line m) ∙ s.valued;
  numbered = has-push is_numbered before (numbered_line m) n s.numbered ∙ or_true n;
  not_ended = has-push is_end before (numbered_line m) false s.not_ended;
  count = count-push before (numbered_line m) k s.count;
}

both : (a b : Bool) → a ≡ true → b ≡ true → (a && b) ≡ true
both a b p q = rw (p, q) refl

module _ (o : Bool) where
  uses_stand : (es : List Entry) (rest : List SaidLine) (before : List LineKind) → Stands before true o false false 0
      → ((b : List LineKind) → Stands b true o false false 0 → all_may_stand b (map kind_of rest) ≡ true) → all_may_stand before (map kind_of (map uses es ++ rest)) ≡ true
  uses_stand [] rest before s next = next before s
  uses_stand (e ∷ es) rest before s next =
      both (may_stand before use_line) (all_may_stand (before ++ use_line ∷ []) (map kind_of (map uses es ++ rest)))
      (rw (s.targeted, s.valued, s.numbered, s.not_ended) refl) (uses_stand es rest (before ++ use_line ∷ []) (use_more before o s) next)

  values_stand : (es : List Entry) (rest : List SaidLine) (before : List LineKind) (v : Bool) → Stands before true o v false 0
      → ((b : List LineKind) (w : Bool) → Stands b true o w false 0 → all_may_stand b (map kind_of rest) ≡ true) → all_may_stand before (map kind_of (map assigns es ++ rest)) ≡ true
  values_stand [] rest before v s next = next before v s
  values_stand (e ∷ es) rest before v s next =
      both (may_stand before value_line) (all_may_stand (before ++ value_line ∷ []) (map kind_of (map assigns es ++ rest)))
      (rw (s.targeted, s.numbered, s.not_ended) refl) (values_stand es rest (before ++ value_line ∷ []) true (value_more before o v s) next)

sets_stand : (ss : List GivenSet) (rest : List SaidLine) (before : List LineKind) (t v : Bool) → Stands before t true v false 0
    → ((b : List LineKind) (u w : Bool) → Stands b u true w false 0 → all_may_stand b (map kind_of rest) ≡ true) → all_may_stand before (map kind_of (sets_said ss rest)) ≡ true
sets_stand [] rest before t v s next = next before t v s
sets_stand (g ∷ ss) rest before t v s next =
    let others = sets_said ss rest in
    both (may_stand before set_line) (all_may_stand (before ++ set_line ∷ []) (map kind_of (map uses g.uses ++ (map assigns g.values ++ others))))
    (rw (s.on_sets, s.numbered, s.not_ended) refl)
    (uses_stand true g.uses (map assigns g.values ++ others) (before ++ set_line ∷ []) (set_more before t v s)
    (λ b is. values_stand true g.values others b false is (λ d w z. sets_stand ss rest d true w z next)))

lines_stand : (ls : List Line) (before : List LineKind) (t o v n : Bool) (k : ℕ) → Stands before t o v n k → all_may_stand before (map kind_of (derivation_said (k + 1) ls ++ ends ∷ [])) ≡ true
lines_stand [] before t o v n k s = rw (s.claimed, s.not_ended) refl
lines_stand (l ∷ ls) before t o v n k s =
    both (may_stand before (numbered_line (k + 1))) (all_may_stand (before ++ numbered_line (k + 1) ∷ []) (map kind_of (derivation_said (k + 1 + 1) ls ++ ends ∷ [])))
    (rw (s.claimed, s.not_ended, s.count) ((unsigned_Decides (k + 1) (k + 1)).1 refl))
    (lines_stand ls (before ++ numbered_line (k + 1) ∷ []) t o v true (k + 1) (number_more before t o v n k (k + 1) s))

-- on a target or against a rule
order_beside : (us vs : List Entry) (ls : List Line) → all_may_stand (heading_line ∷ target_line ∷ []) (map kind_of (map uses us ++ (map assigns vs ++ (derivation_said 1 ls ++ ends ∷ [])))) ≡ true
order_beside us vs ls =
    uses_stand false us (map assigns vs ++ (derivation_said 1 ls ++ ends ∷ [])) (heading_line ∷ target_line ∷ [])
    (record { claimed = refl; targeted = refl; on_sets = refl; valued = refl; numbered = refl; not_ended = refl; count = refl })
    (λ b s. values_stand false vs (derivation_said 1 ls ++ ends ∷ []) b false s (λ d w z. lines_stand ls d true false w false 0 z))

-- on sets
order_of_sets : (ss : List GivenSet) (ls : List Line) → all_may_stand (heading_line ∷ sets_line ∷ []) (map kind_of (sets_said ss (derivation_said 1 ls ++ ends ∷ []))) ≡ true
order_of_sets ss ls =
    sets_stand ss (derivation_said 1 ls ++ ends ∷ []) (heading_line ∷ sets_line ∷ []) false false
    (record { claimed = refl; targeted = refl; on_sets = refl; valued = refl; numbered = refl; not_ended = refl; count = refl })
    (λ b u w s. lines_stand ls b u true w false 0 s)

order : (claim : Claim) (ss : List GivenSet) (us vs : List Entry) (ls : List Line) (c : Certificate) → ss ≡ c.sets → us ≡ c.uses → vs ≡ c.values → IsSayable c claim
    → all_may_stand [] (map kind_of (heading ∷ claims claim ∷ sets_said ss (map uses us ++ (map assigns vs ++ (derivation_said 1 ls ++ ends ∷ []))))) ≡ true
order (implied t) ss us vs ls c ss_are us_are vs_are sayable = rw (ss_are ∙ sayable) (order_beside us vs ls)
order (against r) ss us vs ls c ss_are us_are vs_are sayable = rw (ss_are ∙ sayable) (order_beside us vs ls)
order inconsistent ss us vs ls c ss_are us_are vs_are sayable =
    rw (ss_are ∙ sayable.0, us_are ∙ sayable.1.0, vs_are ∙ sayable.1.1)
    (lines_stand ls (heading_line ∷ inconsistent_line ∷ []) false false false false 0
    (record { claimed = refl; targeted = refl; on_sets = refl; valued = refl; numbered = refl; not_ended = refl; count = refl }))
order repairs ss us vs ls c ss_are us_are vs_are sayable = rw (us_are ∙ sayable.0, vs_are ∙ sayable.1) (order_of_sets ss ls)
order (unimplied t) ss us vs ls c ss_are us_are vs_are sayable = rw (us_are ∙ sayable.0, vs_are ∙ sayable.1) (order_of_sets ss ls)

-- ---- the end

end_behind : (xs ls : List SaidLine) → has_end ls ≡ true → has_end (xs ++ ls) ≡ true
end_behind [] ls is = is
end_behind (x ∷ xs) ls is = ap (λ b. is_end (kind_of x) || b) (end_behind xs ls is) ∙ or_last (is_end (kind_of x))
  where
    or_last : (b : Bool) → b || true ≡ true
    or_last true = refl
    or_last false = refl

sets_end : (ss : List GivenSet) (ls : List SaidLine) → has_end ls ≡ true → has_end (sets_said ss ls) ≡ true
sets_end [] ls is = is
sets_end (s ∷ ss) ls is = end_behind (map uses s.uses) (map assigns s.values ++ sets_said ss ls) (end_behind (map assigns s.values) (sets_said ss ls) (sets_end ss ls is))

-- ---- what is said

uses_then : (es : List Entry) (rest : List SaidLine) (tail : List Entry) → ((m : ℕ) → map entry_said (uses_from m rest) ≡ tail) → (n : ℕ) → map entry_said (uses_from n (map uses es ++ rest)) ≡ es ++ tail
uses_then [] rest tail are n = are n
uses_then (e ∷ es) rest tail are n = ap (λ (xs : List Entry). e ∷ xs) (uses_then es rest tail are (n + 1))

no_uses_in_values : (es : List Entry) (rest : List SaidLine) → ((m : ℕ) → map entry_said (uses_from m rest) ≡ []) → (n : ℕ) → map entry_said (uses_from n (map assigns es ++ rest)) ≡ []
no_uses_in_values [] rest none n = none n
no_uses_in_values (e ∷ es) rest none n = no_uses_in_values es rest none (n + 1)

no_uses_in_lines : (k : ℕ) (ls : List Line) (n : ℕ) → map entry_said (uses_from n (derivation_said k ls ++ ends ∷ [])) ≡ []
no_uses_in_lines k [] n = refl
no_uses_in_lines k (l ∷ ls) n = no_uses_in_lines (k + 1) ls (n + 1)

values_after_uses : (es : List Entry) (rest : List SaidLine) (all : List Entry) → ((m : ℕ) → map entry_said (values_from m rest) ≡ all) → (n : ℕ) → map entry_said (values_from n (map uses es ++ rest)) ≡ all
values_after_uses [] rest all are n = are n
values_after_uses (e ∷ es) rest all are n = values_after_uses es rest all are (n + 1)

values_then : (es : List Entry) (rest : List SaidLine) (tail : List Entry) → ((m : ℕ) → map entry_said (values_from m rest) ≡ tail) → (n : ℕ) → map entry_said (values_from n (map assigns es ++ rest)) ≡ es ++ tail
values_then [] rest tail are n = are n
values_then (e ∷ es) rest tail are n = ap (λ (xs : List Entry). e ∷ xs) (values_then es rest tail are (n + 1))

no_values_in_lines : (k : ℕ) (ls : List Line) (n : ℕ) → map entry_said (values_from n (derivation_said k ls ++ ends ∷ [])) ≡ []
no_values_in_lines k [] n = refl
no_values_in_lines k (l ∷ ls) n = no_values_in_lines (k + 1) ls (n + 1)

hints_meant : (i : ℕ) (hints : List ℕ) → map (place_meant i) (map (λ h. h + 1) hints) ≡ hints
hints_meant i [] = refl
hints_meant i (h ∷ hs) = rw (add-one h, hints_meant i hs) refl

line_meant : (i : ℕ) (l : Line) → line_of i (part_of l) ≡ l
line_meant i (accepts.taken a) = refl
line_meant i (accepts.derived clause hints) = ap (accepts.derived clause) (hints_meant i hints)
line_meant i (accepts.blocked j) = refl

lines_said : (i k : ℕ) (ls : List Line) (n : ℕ) → lines_from i (parts_from n (derivation_said k ls ++ ends ∷ [])) ≡ ls
lines_said i k [] n = refl
lines_said i k (l ∷ ls) n = rw (line_meant i l, lines_said (i + 1) (k + 1) ls (n + 1)) refl

parts_after_values : (es : List Entry) (rest : List SaidLine) (all : List Line) → ((m : ℕ) → lines_from 0 (parts_from m rest) ≡ all) → (n : ℕ) → lines_from 0 (parts_from n (map assigns es ++ rest)) ≡ all
parts_after_values [] rest all are n = are n
parts_after_values (e ∷ es) rest all are n = parts_after_values es rest all are (n + 1)

parts_after_uses : (es : List Entry) (rest : List SaidLine) (all : List Line) → ((m : ℕ) → lines_from 0 (parts_from m rest) ≡ all) → (n : ℕ) → lines_from 0 (parts_from n (map uses es ++ rest)) ≡ all
parts_after_uses [] rest all are n = are n
parts_after_uses (e ∷ es) rest all are n = parts_after_uses es rest all are (n + 1)

parts_after_sets : (ss : List GivenSet) (rest : List SaidLine) (all : List Line) → ((m : ℕ) → lines_from 0 (parts_from m rest) ≡ all) → (n : ℕ) → lines_from 0 (parts_from n (sets_said ss rest)) ≡ all
parts_after_sets [] rest all are n = are n
parts_after_sets (s ∷ ss) rest all are n =
    parts_after_uses s.uses (map assigns s.values ++ sets_said ss rest) all (parts_after_values s.values (sets_said ss rest) all (parts_after_sets ss rest all are)) (n + 1)

-- ---- in front of the first set, and none behind

front_of_uses : (es : List Entry) (rest : List SaidLine) → in_front (map uses es ++ rest) ≡ map uses es ++ in_front rest
front_of_uses [] rest = refl
front_of_uses (e ∷ es) rest = ap (λ ls. uses e ∷ ls) (front_of_uses es rest)

front_of_values : (es : List Entry) (rest : List SaidLine) → in_front (map assigns es ++ rest) ≡ map assigns es ++ in_front rest
front_of_values [] rest = refl
front_of_values (e ∷ es) rest = ap (λ ls. assigns e ∷ ls) (front_of_values es rest)

front_of_lines : (k : ℕ) (ls : List Line) → in_front (derivation_said k ls ++ ends ∷ []) ≡ derivation_said k ls ++ ends ∷ []
front_of_lines k [] = refl
front_of_lines k (l ∷ ls) = ap (λ rest. derivation_said k (l ∷ []) ++ rest) (front_of_lines (k + 1) ls)

-- what sets_from gives of lines with these in front
sets_after_uses : (es : List Entry) (rest : List SaidLine) (all : List GivenSet) → ((m : ℕ) → map set_read (sets_from m rest) ≡ all) → (n : ℕ) → map set_read (sets_from n (map uses es ++ rest)) ≡ all
sets_after_uses [] rest all are n = are n
sets_after_uses (e ∷ es) rest all are n = sets_after_uses es rest all are (n + 1)

sets_after_values : (es : List Entry) (rest : List SaidLine) (all : List GivenSet) → ((m : ℕ) → map set_read (sets_from m rest) ≡ all) → (n : ℕ) → map set_read (sets_from n (map assigns es ++ rest)) ≡ all
sets_after_values [] rest all are n = are n
sets_after_values (e ∷ es) rest all are n = sets_after_values es rest all are (n + 1)

no_sets_in_lines : (k : ℕ) (ls : List Line) (n : ℕ) → map set_read (sets_from n (derivation_said k ls ++ ends ∷ [])) ≡ []
no_sets_in_lines k [] n = refl
no_sets_in_lines k (l ∷ ls) n = no_sets_in_lines (k + 1) ls (n + 1)

-- ---- sets

module _ (k : ℕ) (ls : List Line) where
  abbrev behind : List SaidLine
  behind = derivation_said k ls ++ ends ∷ []

  no_uses_next : (ss : List GivenSet) (n : ℕ) → map entry_said (uses_from n (in_front (sets_said ss behind))) ≡ []
  no_uses_next [] n = ap (λ rest. map entry_said (uses_from n rest)) (front_of_lines k ls) ∙ no_uses_in_lines k ls n
  no_uses_next (s ∷ ss) n = refl

  no_values_next : (ss : List GivenSet) (n : ℕ) → map entry_said (values_from n (in_front (sets_said ss behind))) ≡ []
  no_values_next [] n = ap (λ rest. map entry_said (values_from n rest)) (front_of_lines k ls) ∙ no_values_in_lines k ls n
  no_values_next (s ∷ ss) n = refl

  front_of_set : (s : GivenSet) (ss : List GivenSet) → in_front (map uses s.uses ++ (map assigns s.values ++ sets_said ss behind)) ≡ map uses s.uses ++ (map assigns s.values ++ in_front (sets_said ss behind))
  front_of_set s ss = front_of_uses s.uses (map assigns s.values ++ sets_said ss behind) ∙ ap (λ rest. map uses s.uses ++ rest) (front_of_values s.values (sets_said ss behind))

  set_uses : (s : GivenSet) (ss : List GivenSet) (n : ℕ) → map entry_said (uses_from n (in_front (map uses s.uses ++ (map assigns s.values ++ sets_said ss behind)))) ≡ s.uses
  set_uses s ss n =
      let next = in_front (sets_said ss behind) in
      ap (λ rest. map entry_said (uses_from n rest)) (front_of_set s ss)
      ∙ uses_then s.uses (map assigns s.values ++ next) [] (no_uses_in_values s.values next (no_uses_next ss)) n ∙ append-nil s.uses

  set_values : (s : GivenSet) (ss : List GivenSet) (n : ℕ) → map entry_said (values_from n (in_front (map uses s.uses ++ (map assigns s.values ++ sets_said ss behind)))) ≡ s.values
  set_values s ss n =
      let next = in_front (sets_said ss behind) in
      ap (λ rest. map entry_said (values_from n rest)) (front_of_set s ss)
      ∙ values_after_uses s.uses (map assigns s.values ++ next) s.values (λ m. values_then s.values next [] (no_values_next ss) m ∙ append-nil s.values) n

  sets_are_said : (ss : List GivenSet) (n : ℕ) → map set_read (sets_from n (sets_said ss behind)) ≡ ss
  sets_are_said [] n = no_sets_in_lines k ls n
  sets_are_said (s ∷ ss) n =
      rw (set_uses s ss (n + 1), set_values s ss (n + 1))
      (ap (λ rest. s ∷ rest) (sets_after_uses s.uses (map assigns s.values ++ sets_said ss behind) ss (sets_after_values s.values (sets_said ss behind) ss (sets_are_said ss)) (n + 1)))

-- ---- together

-- what the lines behind the claim say, where the first of them has the number 3
record SaysRest (rest : List SaidLine) (c : Certificate) : Type 0 where
  sets_are : map set_read (sets_from 3 rest) ≡ c.sets
  uses_are : map entry_said (uses_from 3 (in_front rest)) ≡ c.uses
  values_are : map entry_said (values_from 3 (in_front rest)) ≡ c.values

abbrev rest_of : List GivenSet → List Entry → List Entry → List Line → List SaidLine
rest_of ss us vs ls = sets_said ss (map uses us ++ (map assigns vs ++ (derivation_said 1 ls ++ ends ∷ [])))

says_beside : (us vs : List Entry) (ls : List Line) (c : Certificate) → [] ≡ c.sets → us ≡ c.uses → vs ≡ c.values → SaysRest (rest_of [] us vs ls) c
says_beside us vs ls c ss_are us_are vs_are =
    let lines = derivation_said 1 ls ++ ends ∷ [] in
    let front : in_front (rest_of [] us vs ls) ≡ map uses us ++ (map assigns vs ++ lines) =
    front_of_uses us (map assigns vs ++ lines) ∙ ap (λ rest. map uses us ++ rest) (front_of_values vs lines ∙ ap (λ rest. map assigns vs ++ rest) (front_of_lines 1 ls)) in
    record {
      sets_are = sets_after_uses us (map assigns vs ++ lines) [] (sets_after_values vs lines [] (no_sets_in_lines 1 ls)) 3 ∙ ss_are;
      uses_are =
          ap (λ rest. map entry_said (uses_from 3 rest)) front ∙ uses_then us (map assigns vs ++ lines) [] (no_uses_in_values vs lines (no_uses_in_lines 1 ls)) 3 ∙ append-nil us ∙ us_are;
      values_are =
          ap (λ rest. map entry_said (values_from 3 rest)) front
          ∙ values_after_uses us (map assigns vs ++ lines) vs (λ m. values_then vs lines [] (no_values_in_lines 1 ls) m ∙ append-nil vs) 3 ∙ vs_are;
    }

says_sets : (ss : List GivenSet) (ls : List Line) (c : Certificate) → ss ≡ c.sets → [] ≡ c.uses → [] ≡ c.values → SaysRest (rest_of ss [] [] ls) c
says_sets ss ls c ss_are us_are vs_are = record {
  sets_are = sets_are_said 1 ls ss 3 ∙ ss_are;
  uses_are = no_uses_next 1 ls ss 3 ∙ us_are;
  values_are = no_values_next 1 ls ss 3 ∙ vs_are;
}

bare : (ss : List GivenSet) (us vs : List Entry) (ls : List Line) (c : Certificate) → ss ≡ c.sets → us ≡ c.uses → vs ≡ c.values → IsBareOf c → SaysRest (rest_of ss us vs ls) c
bare ss us vs ls c ss_are us_are vs_are is =
    subst (λ xs. SaysRest (rest_of ss xs vs ls) c) (sym (us_are ∙ is.0))
    (subst (λ xs. SaysRest (rest_of ss [] xs ls) c) (sym (vs_are ∙ is.1)) (says_sets ss ls c ss_are (sym is.0) (sym is.1)))

says_rest : (claim : Claim) (ss : List GivenSet) (us vs : List Entry) (ls : List Line) (c : Certificate) → ss ≡ c.sets → us ≡ c.uses → vs ≡ c.values → IsSayable c claim → SaysRest (rest_of ss us vs ls) c
says_rest (implied t) ss us vs ls c ss_are us_are vs_are sayable = subst (λ xs. SaysRest (rest_of xs us vs ls) c) (sym (ss_are ∙ sayable)) (says_beside us vs ls c (sym sayable) us_are vs_are)
says_rest (against r) ss us vs ls c ss_are us_are vs_are sayable = subst (λ xs. SaysRest (rest_of xs us vs ls) c) (sym (ss_are ∙ sayable)) (says_beside us vs ls c (sym sayable) us_are vs_are)
says_rest inconsistent ss us vs ls c ss_are us_are vs_are sayable =
    subst (λ xs. SaysRest (rest_of xs us vs ls) c) (sym (ss_are ∙ sayable.0)) (says_beside us vs ls c (sym sayable.0) us_are vs_are)
says_rest repairs ss us vs ls c ss_are us_are vs_are sayable = bare ss us vs ls c ss_are us_are vs_are sayable
says_rest (unimplied t) ss us vs ls c ss_are us_are vs_are sayable = bare ss us vs ls c ss_are us_are vs_are sayable

pub lines_say_certificates : LinesSayCertificates
lines_say_certificates c sayable =
    let rest = rest_of c.sets c.uses c.values c.lines in
    let said = says_rest c.claim c.sets c.uses c.values c.lines c refl refl refl sayable in
    let lines = derivation_said 1 c.lines ++ ends ∷ [] in
    let values = map assigns c.values ++ lines in
    let end : has_end rest ≡ true =
    sets_end c.sets (map uses c.uses ++ values) (end_behind (map uses c.uses) values (end_behind (map assigns c.values) lines (end_behind (derivation_said 1 c.lines) (ends ∷ []) refl))) in
    let lines_are : lines_from 0 (parts_from 1 (said_lines c)) ≡ c.lines =
    parts_after_sets c.sets (map uses c.uses ++ values) c.lines (parts_after_uses c.uses values c.lines (parts_after_values c.values lines c.lines (lines_said 0 1 c.lines))) 3 in
    record {
      order = order c.claim c.sets c.uses c.values c.lines c refl refl refl sayable;
      end = end_behind (heading ∷ claims c.claim ∷ []) rest end;
      reading = record {
        claim = c.claim;
        sets = sets_from 1 (said_lines c);
        uses = uses_from 1 (in_front (said_lines c));
        values = values_from 1 (in_front (said_lines c));
        after = after_from has_claim_or_entry 1 0 (in_front (said_lines c));
        parts = parts_from 1 (said_lines c);
      };
      together = record { claim = refl; sets = refl; uses = refl; values = refl; after = refl; parts = refl };
      same = rw (said.sets_are, said.uses_are, said.values_are, lines_are) refl;
    }
