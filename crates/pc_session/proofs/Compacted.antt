-- How many bytes the lines count for where they are compacted when it is due.
use Rattle.std.proofs.Common.{◌≡◌, ℕ, ◌+◌, ◌*◌, ◌≤◌, Bool, true, false, inr, List, refl, sym, ap, ◌∙◌, arith, le-ltb, ltb-true, ltb-false}
use Rattle.std.specs.Prelude.{cond, nat_lt}
use Rattle.pc_cache.specs.Rows.{Cached, TargetRow, bytes_alive, bytes_of_rows}
use Rattle.pc_session.specs.Arena.{compacted, is_due, IsCompacted, IsLeft, IsLeftWhereDue}

pub least : (rows : List TargetRow) (bytes new : ℕ) → new ≤ bytes_of_rows rows → new ≤ bytes → new ≤ compacted rows bytes
least rows bytes new few less = elim (nat_lt (2 * bytes_of_rows rows + 1048576) bytes) as (λ b. new ≤ cond b (bytes_of_rows rows) bytes) [ true ↦ few | false ↦ less ]

-- where it isn't due by fewer bytes, it isn't by all
pub not_due : (rows : List TargetRow) (bytes live : ℕ) → live ≤ bytes_of_rows rows → nat_lt (2 * live + 1048576) bytes ≡ false → bytes ≤ compacted rows bytes
not_due rows bytes live few rest =
    elim (nat_lt (2 * bytes_of_rows rows + 1048576) bytes) as (λ b. nat_lt (2 * bytes_of_rows rows + 1048576) bytes ≡ b → bytes ≤ cond b (bytes_of_rows rows) bytes) [
      | true ↦ λ due. absurd (omega (arith, ltb-true (2 * bytes_of_rows rows + 1048576) bytes due, few, ltb-false (2 * live + 1048576) bytes rest))
      | false ↦ λ due. omega arith
    ] refl

-- up to 1,048,576 nothing is due, however few are live
pub few_undue : (bytes live : ℕ) → bytes ≤ 1048576 → nat_lt (2 * live + 1048576) bytes ≡ false
few_undue bytes live few = le-ltb (2 * live + 1048576) bytes (omega (arith, few))

-- where it is due, there are more than 1,048,576
pub left_compacted : (bytes spare live new spare_after : ℕ) → nat_lt (2 * live + 1048576) bytes ≡ true → new + spare ≡ bytes → spare_after ≡ 0 → IsLeft bytes spare new spare_after
left_compacted bytes spare live new spare_after due exact none = inr (omega (arith, ltb-true (2 * live + 1048576) bytes due), exact, none)

-- what a test says that goes by these numbers
tested : (old : Cached) (live bytes : ℕ) (due : Bool) → live ≡ bytes_alive old → bytes ≡ old.bytes → due ≡ nat_lt (2 * live + 1048576) bytes → is_due old ≡ due
tested old live bytes due alive all is = sym (is ∙ ap (λ (n : ℕ). nat_lt (2 * n + 1048576) bytes) alive ∙ ap (nat_lt (2 * bytes_alive old + 1048576)) all)

both : (b : Bool) → b ≡ true → b ≡ false → ⊥
both b one other = absurd (cc)

pub where_due : (old new : Cached) (live bytes : ℕ) (due : Bool) → live ≡ bytes_alive old → bytes ≡ old.bytes → due ≡ nat_lt (2 * live + 1048576) bytes → due ≡ true → IsCompacted old new → IsLeftWhereDue old new
where_due old new live bytes due alive all is holds done = record {
  due = λ here. done;
  rest = λ other. absurd (both (is_due old) (tested old live bytes due alive all is ∙ holds) other);
}

pub where_not_due : (cache : Cached) (live bytes : ℕ) (due : Bool) → live ≡ bytes_alive cache → bytes ≡ cache.bytes → due ≡ nat_lt (2 * live + 1048576) bytes → due ≡ false → IsLeftWhereDue cache cache
where_not_due cache live bytes due alive all is none = record {
  due = λ here. absurd (both (is_due cache) here (tested cache live bytes due alive all is ∙ none));
  rest = λ other. refl;
}
