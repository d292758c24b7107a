-- Lines of spans.
use Rattle.std.proofs.Common.{◌≡◌, ℕ, ◌+◌, ◌-◌, ◌<◌, ◌≤◌, List, [], ◌∷◌, ◌++◌, Some, length, get_or, take, drop, map, slice_get, slice_range, refl, sym, ap, ◌∙◌, subst, arith, Contains, length-append}
use Rattle.std.proofs.lemmas.List.{get_or-append-add, get_or-take, get_or-drop, length-take, length-drop, length-map}
use Rattle.std.proofs.lemmas.Option.{slice_get-map, slice_get_within, slice_get-get_or, get_or_from_slice_get}
use Rattle.std.specs.Option.{option_map}
use Rattle.pc_log.specs.declared.log.StepId.{StepId}
use Rattle.pc_log.specs.declared.trimming.Span.{Span}
use Rattle.pc_log.specs.Lines.{LogLine, AxiomLine, BlockLine, StepLine, hints_of}
use Rattle.pc_log.specs.Rests.{on_itself, HasHint}
use Rattle.pc_log.specs.Trimmed.{moved, IsTrimmed}
use Rattle.pc_log.specs.Spans.{IsSpanOf, IsClosed, lines_of_span}

-- ---- parts of lists

get_some : {X : Type 0} (xs : List X) (i : ℕ) (d : X) → i < length xs → slice_get xs i ≡ Some (get_or xs i d)
get_some xs i d within = slice_get-get_or xs i d within

-- an element of a part
pub get_within : {X : Type 0} (xs : List X) (a b k : ℕ) (x : X) → b ≤ length xs → a + k < b → slice_get xs (a + k) ≡ Some x → slice_get (slice_range xs a b) k ≡ Some x
get_within xs a b k x ends below at =
    get_some (take (b - a) (drop a xs)) k x (omega (arith, length-take (b - a) (drop a xs), length-drop a xs))
    ∙ ap Some (get_or-take (b - a) (drop a xs) k x (omega arith) ∙ get_or-drop a xs k x ∙ get_or_from_slice_get xs (a + k) x x at)

pub length_range : {X : Type 0} (xs : List X) (a b : ℕ) → a ≤ b → b ≤ length xs → length (slice_range xs a b) ≡ b - a
length_range xs a b rises ends = omega (arith, length-take (b - a) (drop a xs), length-drop a xs)

-- an element of the second list, in the two joined
pub get_behind : {X : Type 0} (xs ys : List X) (n : ℕ) (y : X) → slice_get ys n ≡ Some y → slice_get (xs ++ ys) (length xs + n) ≡ Some y
get_behind xs ys n y at =
    get_some (xs ++ ys) (length xs + n) y (omega (arith, length-append xs ys, slice_get_within ys n y at))
    ∙ ap Some (get_or-append-add xs ys n y ∙ get_or_from_slice_get ys n y y at)

-- ---- moved lines

move_hints_twice : (f g : ℕ → ℕ) (hints : List StepId)
    → map {B = StepId} (λ h. record { 0 = f h.0 }) (map {B = StepId} (λ (h : StepId). record { 0 = g h.0 }) hints) ≡ map {B = StepId} (λ (h : StepId). record { 0 = f (g h.0) }) hints
move_hints_twice f g [] = refl
move_hints_twice f g (h ∷ hs) = ap (λ (rest : List StepId). record { 0 = f (g h.0) } ∷ rest) (move_hints_twice f g hs)

-- moved twice
pub moved_twice : (f g : ℕ → ℕ) (line : LogLine) → moved f (moved g line) ≡ moved (λ n. f (g n)) line
moved_twice f g (AxiomLine number) = refl
moved_twice f g (BlockLine number clause) = refl
moved_twice f g (StepLine clause hints learned) = ap (λ hs. StepLine clause hs learned) (move_hints_twice f g hints)

same_hints : (xs ys : List StepId) → Some xs ≡ Some ys → xs ≡ ys
same_hints xs ys same = cc

-- the hints of the line that stands at a place
pub hint_of_line : (lines : List LogLine) (i h : ℕ) (line : LogLine) → slice_get lines i ≡ Some line → HasHint lines i h → Contains (hints_of line) (record { 0 = h })
hint_of_line lines i h line at has =
    subst (λ (hs : List StepId). Contains hs (record { 0 = h })) (same_hints _ _ (sym has.1 ∙ slice_get-map hints_of lines i ∙ ap (option_map hints_of) at)) has.2

-- ---- what was trimmed, as lines of their own

pub trimmed_alone : (lines : List LogLine) (last : ℕ) (old new : List LogLine) (span : Span) → IsTrimmed lines last old new → IsClosed new span → span.first.0 ≡ length old → span.last.0 + 1 ≡ length new
    → IsSpanOf new span × IsTrimmed lines last [] (lines_of_span new span)
trimmed_alone lines last old new span t closed first end = (
  record { rises = omega (arith, t.ends, t.after last on_itself); lies = omega (arith, end); closed = closed },
  record {
    to = λ i. t.to i - length old;
    kept = refl;
    stands = λ i line rests at.
        let was = t.stands i line rests at in
        let past = t.after i rests in
        let within : t.to i < length new = slice_get_within new (t.to i) (moved t.to line) was in
        let here : slice_get new (span.first.0 + (t.to i - length old)) ≡ Some (moved t.to line) = ap (slice_get new) (let e : span.first.0 + (t.to i - length old) ≡ t.to i = omega (arith, past, first) in e) ∙ was in
        slice_get-map (moved (λ h. h - span.first.0)) (slice_range new span.first.0 (span.last.0 + 1)) (t.to i - length old)
        ∙ ap (option_map (moved (λ h. h - span.first.0))) (get_within new span.first.0 (span.last.0 + 1) (t.to i - length old) (moved t.to line) (omega (arith, end)) (omega (arith, past, first, end, within)) here)
        ∙ ap Some (moved_twice (λ h. h - span.first.0) t.to line ∙ ap (λ n. moved (λ g. t.to g - n) line) first);
    after = λ i rests. omega arith;
    ordered = λ i j rests later below. omega (arith, t.ordered i j rests later below, t.after i rests, t.after j later);
    only = λ p past below.
        let from = t.only (length old + p) (omega arith) (omega (arith, below, count)) in
        (from.0, from.1, from.2, omega (arith, from.3));
    ends = omega (arith, t.ends, t.after last on_itself, count);
  },
)
  where
    count : length (lines_of_span new span) ≡ length new - length old
    count = length-map (slice_range new span.first.0 (span.last.0 + 1)) (moved (λ h. h - span.first.0)) ∙ length_range new span.first.0 (span.last.0 + 1) (omega (arith, t.ends, t.after last on_itself, first, end)) (omega (arith, end)) ∙ (omega (arith, first, end))
