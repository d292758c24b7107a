-- The first of the lines of some bytes.
use Rattle.std.proofs.Common.{◌≡◌, ◌≢◌, ℕ, ◌<◌, List, [], ◌∷◌, ◌++◌, length, refl, sym, ◌∙◌, ap, arith, subst, append_assoc, length-append, Option, Some, None}
use Rattle.std.specs.List.{AllByRecursion, onto_first}
use Rattle.std.specs.Io.KnownBytes.{Consumes}
use Rattle.std.proofs.lemmas.Bool.{ne_eqb}
use Rattle.std.proofs.lemmas.List.{append-nil}
use Rattle.std.proofs.lemmas.List.Elements.{recursion_from_All}
use Rattle.pc_lines.specs.Lines.{lines_of, before_end, HasNoEnd, IsWholeLine, IsLongStart, BeginsTooLong}
use Rattle.pc_lines.specs.Reader.{IsTaken, IsNextLine}
use Rattle.pc_lines.specs.declared.reader.Taken.{Taken}
use Rattle.pc_lines.specs.declared.reader.Taken.TheVariants.{Line, Last, End, TooLong}
use Rattle.pc_lines.proofs.Ends.{before_end-append}

one_more : (b : ℕ) (bs : List ℕ) → b ≢ 10 → lines_of (b ∷ bs) ≡ onto_first b (lines_of bs)
one_more b bs ne = rw (ne_eqb b 10 ne) refl

ended : (before rest : List ℕ) → AllByRecursion (λ b. b ≢ 10) before → lines_of (before ++ (10 ∷ rest)) ≡ (before ++ 10 ∷ []) ∷ lines_of rest
ended [] rest none = refl
ended (b ∷ before) rest none = one_more b (before ++ (10 ∷ rest)) none.0 ∙ ap (λ (ls : List (List ℕ)). onto_first b ls) (ended before rest none.1)

-- bytes up to a line feed are the first line
pub lines_of-whole : (limit : ℕ) (line rest : List ℕ) → IsWholeLine limit line → lines_of (line ++ rest) ≡ line ∷ lines_of rest
lines_of-whole limit line rest whole =
    let none = recursion_from_All (λ b. b ≢ 10) (before_end line) whole.no_end in
    ap (λ (l : List ℕ). lines_of (l ++ rest)) whole.ends
    ∙ ap lines_of (append_assoc (before_end line) (10 ∷ []) rest)
    ∙ ended (before_end line) rest none
    ∙ ap (λ (l : List ℕ). l ∷ lines_of rest) (sym whole.ends)

open_end : (b : ℕ) (bs : List ℕ) → AllByRecursion (λ x. x ≢ 10) (b ∷ bs) → lines_of (b ∷ bs) ≡ (b ∷ bs) ∷ []
open_end b [] none = one_more b [] none.0
open_end b (c ∷ bs) none = one_more b (c ∷ bs) none.0 ∙ ap (λ (ls : List (List ℕ)). onto_first b ls) (open_end c bs none.1)

-- bytes without a line feed are one line
pub lines_of-open : (line : List ℕ) → HasNoEnd line → 0 < length line → lines_of line ≡ line ∷ []
lines_of-open [] none some = absurd (omega arith)
lines_of-open (b ∷ bs) none some = open_end b bs (recursion_from_All (λ x. x ≢ 10) (b ∷ bs) none)

-- lines of which the first begins with these bytes
record Begins (line : List ℕ) (lines : List (List ℕ)) : Type 0 where
  more : List ℕ
  others : List (List ℕ)
  are : lines ≡ (line ++ more) ∷ others

onto_any : (b : ℕ) (lines : List (List ℕ)) → Begins (b ∷ []) (onto_first b lines)
onto_any b [] = record { more = []; others = []; are = refl }
onto_any b (line ∷ lines) = record { more = line; others = lines; are = refl }

begins : (b : ℕ) (bs rest : List ℕ) → AllByRecursion (λ x. x ≢ 10) (b ∷ bs) → Begins (b ∷ bs) (lines_of ((b ∷ bs) ++ rest))
begins b [] rest none = subst (Begins (b ∷ [])) (sym (one_more b rest none.0)) (onto_any b (lines_of rest))
begins b (c ∷ bs) rest none =
    let after = begins c bs rest none.1 in
    record {
      more = after.more;
      others = after.others;
      are = one_more b ((c ∷ bs) ++ rest) none.0 ∙ ap (λ (ls : List (List ℕ)). onto_first b ls) after.are;
    }

-- bytes without a line feed, more than the limit, begin a line that is too long
pub lines_of-long : (limit : ℕ) (line rest : List ℕ) → IsLongStart limit line → BeginsTooLong limit (lines_of (line ++ rest))
lines_of-long limit [] rest start = absurd (omega (arith, start.long))
lines_of-long limit (b ∷ bs) rest start =
    let after = begins b bs rest (recursion_from_All (λ x. x ≢ 10) (b ∷ bs) start.no_end) in
    let size = ap length (before_end-append (b ∷ bs) after.more start.no_end) in
    record {
      first = (b ∷ bs) ++ after.more;
      others = after.others;
      are = after.are;
      long = omega (arith, size, length-append (b ∷ bs) (before_end after.more), start.long);
    }

-- what was taken from the bytes still to come is the next of their lines
pub next_line : (taken : Taken) (limit : ℕ) (line : List ℕ) (before after : Option (List ℕ)) → IsTaken taken limit line after → Consumes before after line → IsNextLine taken limit line before after
next_line taken limit line None after is takes = tt
next_line taken limit line (Some all) None is takes = tt
next_line Line limit line (Some all) (Some rest) is takes = ap lines_of takes ∙ lines_of-whole limit line rest is
next_line Last limit line (Some all) (Some rest) is takes =
    let whole : all ≡ line = takes ∙ ap (λ (l : List ℕ). line ++ l) is.2 ∙ append-nil line in ap lines_of whole ∙ lines_of-open line is.0.no_end is.1
next_line End limit line (Some all) (Some rest) is takes = ap lines_of (takes ∙ ap (λ (l : List ℕ). line ++ l) is.1 ∙ append-nil line ∙ is.0)
next_line TooLong limit line (Some all) (Some rest) is takes = subst (BeginsTooLong limit) (ap lines_of (sym takes)) (lines_of-long limit line rest is)
