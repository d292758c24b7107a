-- Where lines end.
use Rattle.std.proofs.Common.{◌≡◌, ◌≢◌, ◌==◌, ℕ, ◌+◌, ◌-◌, ◌<◌, ◌≤◌, nat_lt, List, [], ◌∷◌, ◌++◌, length, take, drop, refl, sym, ◌∙◌, ap, arith, subst, append_assoc, length-append, slice_index}
use Rattle.std.specs.List.{AllByRecursion}
use Rattle.std.proofs.lemmas.Bool.{ne_eqb, cond_below, cond_above, cond_both, ltb-false}
use Rattle.std.proofs.lemmas.List.Elements.{recursion_from_All, All-append, All-take}
use Rattle.std.proofs.lemmas.List.{append-nil, length_push, length-take, take_at, take-take}
use Rattle.std.specs.Str.Lines.{strip_carriage_return}
use Rattle.pc_lines.specs.Lines.{before_end, length_of, HasNoEnd, IsOpenLine, IsWholeLine, IsLongStart, line_text_of}

one_more : (b : ℕ) (bs : List ℕ) → b ≢ 10 → before_end (b ∷ bs) ≡ b ∷ before_end bs
one_more b bs ne = rw (ne_eqb b 10 ne) refl

ends_later : (xs ys : List ℕ) → AllByRecursion (λ b. b ≢ 10) xs → before_end (xs ++ ys) ≡ xs ++ before_end ys
ends_later [] ys none = refl
ends_later (x ∷ xs) ys none = one_more x (xs ++ ys) none.0 ∙ ap (λ (l : List ℕ). x ∷ l) (ends_later xs ys none.1)

-- a line feed is not among the bytes that have none
pub before_end-append : (xs ys : List ℕ) → HasNoEnd xs → before_end (xs ++ ys) ≡ xs ++ before_end ys
before_end-append xs ys none = ends_later xs ys (recursion_from_All (λ b. b ≢ 10) xs none)

pub before_end-none : (xs : List ℕ) → HasNoEnd xs → before_end xs ≡ xs
before_end-none xs none = ap before_end (sym (append-nil xs)) ∙ before_end-append xs [] none ∙ append-nil xs

pub before_end-feed : (xs ys : List ℕ) → HasNoEnd xs → before_end ((xs ++ 10 ∷ []) ++ ys) ≡ xs
before_end-feed xs ys none = ap before_end (append_assoc xs (10 ∷ []) ys) ∙ before_end-append xs (10 ∷ ys) none ∙ append-nil xs

-- bytes with a line feed at their end are a line
pub is_whole : (limit : ℕ) (xs : List ℕ) → HasNoEnd xs → length xs ≤ limit → IsWholeLine limit (xs ++ 10 ∷ [])
is_whole limit xs none le =
    let before : before_end (xs ++ 10 ∷ []) ≡ xs = before_end-append xs (10 ∷ []) none ∙ append-nil xs in
    record {
      ends = ap (λ (l : List ℕ). l ++ 10 ∷ []) (sym before);
      no_end = subst HasNoEnd (sym before) none;
      short = omega (arith, ap length before);
    }

-- the start of a line, and then its end
pub open_then_whole : (limit room : ℕ) (line part : List ℕ) → room ≡ limit - length line → IsOpenLine limit line → IsWholeLine room part → IsWholeLine limit (line ++ part)
open_then_whole limit room line part rest start end =
    let size = length-append line (before_end part) in
    let whole : IsWholeLine limit ((line ++ before_end part) ++ 10 ∷ []) =
    is_whole limit (line ++ before_end part) (All-append (λ b. b ≢ 10) line (before_end part) start.no_end end.no_end) (omega (arith, size, start.short, end.short)) in
    subst (λ (l : List ℕ). IsWholeLine limit l) (append_assoc line (before_end part) (10 ∷ []) ∙ ap (λ (l : List ℕ). line ++ l) (sym end.ends)) whole

pub open_then_open : (limit room : ℕ) (line part : List ℕ) → room ≡ limit - length line → IsOpenLine limit line → IsOpenLine room part → IsOpenLine limit (line ++ part)
open_then_open limit room line part rest start more = record {
  short = omega (arith, length-append line part, start.short, more.short);
  no_end = All-append (λ b. b ≢ 10) line part start.no_end more.no_end;
}

pub open_then_long : (limit room : ℕ) (line part : List ℕ) → room ≡ limit - length line → IsOpenLine limit line → IsLongStart room part → IsLongStart limit (line ++ part)
open_then_long limit room line part rest start more = record {
  long = omega (arith, length-append line part, start.short, more.long);
  no_end = All-append (λ b. b ≢ 10) line part start.no_end more.no_end;
}

-- bytes up to their first line feed are a line
pub whole_front : (room : ℕ) (bytes : List ℕ) (end : ℕ) → bytes ≡ (take end bytes ++ 10 ∷ []) ++ drop (end + 1) bytes → HasNoEnd (take end bytes) → end < length bytes → end ≤ room
    → IsWholeLine room (take (end + 1) bytes)
whole_front room bytes end found none lt le =
    let size : length (take end bytes ++ 10 ∷ []) ≡ end + 1 = omega (arith, length_push (take end bytes) 10, length-take end bytes) in
    let front : take (end + 1) bytes ≡ take end bytes ++ 10 ∷ [] = ap (λ (l : List ℕ). take (end + 1) l) found ∙ take_at (take end bytes ++ 10 ∷ []) (drop (end + 1) bytes) (end + 1) size in
    subst (λ (l : List ℕ). IsWholeLine room l) (sym front) (is_whole room (take end bytes) none (omega (arith, length-take end bytes)))

-- more bytes than there is room for, and no line feed among the first of them
pub long_front : (room : ℕ) (bytes : List ℕ) (end : ℕ) → HasNoEnd (take end bytes) → room < end → room < length bytes → IsLongStart room (take (room + 1) bytes)
long_front room bytes end none lt some = record {
  long = omega (arith, length-take (room + 1) bytes);
  no_end = subst HasNoEnd (take-take (room + 1) end bytes (omega arith)) (All-take (λ b. b ≢ 10) (room + 1) (take end bytes) none);
}

-- a line without a line feed is its own text
pub text_of-open : (line : List ℕ) → HasNoEnd line → line_text_of line ≡ line
text_of-open line none =
    let same : length_of line ≡ length line = ap length (before_end-none line none) in
    sym (cond_above (length_of line) (length line) (strip_carriage_return (before_end line)) line line (omega arith) refl)

-- the text of a line with its line feed
pub text_of-feed : (before rest : List ℕ) → HasNoEnd before → line_text_of ((before ++ 10 ∷ []) ++ rest) ≡ strip_carriage_return before
text_of-feed before rest none =
    let line = (before ++ 10 ∷ []) ++ rest in
    let is : before_end line ≡ before = before_end-feed before rest none in
    let shorter : length_of line < length line = omega (arith, ap length is, length_push before 10, length-append (before ++ 10 ∷ []) rest) in
    sym (cond_below (length_of line) (length line) (strip_carriage_return (before_end line)) line shorter) ∙ ap strip_carriage_return is

-- a line that loses its carriage return is no longer
pub strip_shorter : (l : List ℕ) → length (strip_carriage_return l) ≤ length l
strip_shorter l = cond_both (slice_index l (length l - 1) == 13) (take (length l - 1) l) l (λ x. length x ≤ length l) (λ is. omega (arith, length-take (length l - 1) l)) (λ is. omega arith)

-- a text is no longer than its line
pub text_of-short : (line : List ℕ) → length (line_text_of line) ≤ length_of line
text_of-short line =
    cond_both (nat_lt (length_of line) (length line)) (strip_carriage_return (before_end line)) line (λ x. length x ≤ length_of line) (λ is. strip_shorter (before_end line)) (λ is. ltb-false (length_of line) (length line) is)
