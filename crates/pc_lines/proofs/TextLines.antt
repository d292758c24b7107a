-- The first line of a text, and what follows it.
use Rattle.std.proofs.Common.{◌≡◌, ◌≢◌, ℕ, ◌+◌, ◌-◌, ◌<◌, ◌≤◌, Bool, false, List, [], ◌∷◌, ◌++◌, take, drop, length, All, append_assoc, if◌then◌else◌, refl, ap, ap₂, sym, ◌∙◌, arith}
use Rattle.std.specs.Prelude.{◌==◌}
use Rattle.std.specs.List.{slice_split}
use Rattle.std.specs.Str.Lines.{lines, lines_of_parts, strip_carriage_return}
use Rattle.std.proofs.lemmas.Bool.{ne_eqb}
use Rattle.std.proofs.lemmas.List.{take_all, length-drop, length-take}
use Rattle.std.proofs.lemmas.List.Splits.{slice_split_none, slice_split_at, length-slice_split}
use Rattle.std.proofs.lemmas.List.Elements.{All-weaker}
use Rattle.pc_lines.specs.Lines.{HasNoEnd}
use Rattle.pc_lines.proofs.Ends.{strip_shorter}

abbrev pub is_feed : ℕ → Bool
is_feed b = b == 10

no_feeds : (bs : List ℕ) → HasNoEnd bs → All (λ b. is_feed b ≡ false) bs
no_feeds bs none = All-weaker (λ b. b ≢ 10) (λ b. is_feed b ≡ false) (λ b other. ne_eqb b 10 other) bs none

one_part : (bs : List ℕ) → 0 < length bs → lines_of_parts (bs ∷ []) ≡ bs ∷ []
one_part bs some = let e : (length bs == 0) ≡ false = ne_eqb (length bs) 0 (λ z. omega (arith, z, some)) in ap (λ b. if b then [] else bs ∷ []) e

more_parts : (x : List ℕ) (parts : List (List ℕ)) → 0 < length parts → lines_of_parts (x ∷ parts) ≡ strip_carriage_return x ∷ lines_of_parts parts
more_parts x [] some = absurd (omega (arith, some))
more_parts x (y ∷ more) some = refl

-- the last line, without a line feed
pub lines-open : (bs : List ℕ) → 0 < length bs → HasNoEnd bs → lines bs ≡ bs ∷ []
lines-open bs some none = ap lines_of_parts (slice_split_none is_feed bs (no_feeds bs none)) ∙ one_part bs some

-- a line with its line feed
pub lines-feed : (line rest : List ℕ) → HasNoEnd line → lines (line ++ 10 ∷ rest) ≡ strip_carriage_return line ∷ lines rest
lines-feed line rest none =
    ap lines_of_parts (slice_split_at is_feed line 10 rest (no_feeds line none) refl)
    ∙ more_parts line (slice_split is_feed rest) (omega (arith, length-slice_split is_feed rest))

-- ---- the first line, and what follows it, as slices

pub first_line : (bs : List ℕ) (end : ℕ) (line : List ℕ) → end < length bs → bs ≡ (take end bs ++ 10 ∷ []) ++ drop (end + 1) bs → HasNoEnd (take end bs) → line ≡ strip_carriage_return (take end bs)
    → lines bs ≡ line ∷ lines (take (length bs - (end + 1)) (drop (end + 1) bs))
first_line bs end line within splits none is =
    let rest = drop (end + 1) bs in
    let all : take (length bs - (end + 1)) rest ≡ rest = take_all (length bs - (end + 1)) rest (omega (arith, length-drop (end + 1) bs, within)) in
    ap lines (splits ∙ append_assoc (take end bs) (10 ∷ []) rest) ∙ lines-feed (take end bs) rest none ∙ ap₂ (λ l ls. l ∷ lines ls) (sym is) (sym all)

pub first_short : (bs : List ℕ) (end : ℕ) (line : List ℕ) → line ≡ strip_carriage_return (take end bs) → length line ≤ length bs
first_short bs end line is = omega (arith, ap length is, strip_shorter (take end bs), length-take end bs)

pub some_bytes : (bs : List ℕ) (none : Bool) → none ≡ (length bs == 0) → none ≡ false → 0 < length bs
some_bytes [] none is not = absurd (cc)
some_bytes (b ∷ bs) none is not = omega arith
