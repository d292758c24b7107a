-- The bytes that are held, after some of them were taken.
use Rattle.std.proofs.Common.{Contains, refl, ◌≡◌, ℕ, ◌+◌, ◌-◌, ◌≤◌, List, [], ◌++◌, length, take, drop, arith, sym, ◌∙◌, ap, subst, take-append-drop, append_assoc, Option, Some, None, ◌≢◌, length-append}
use Rattle.std.proofs.lemmas.List.{append-nil, drop-take, drop-drop, length-take, length-drop, take-take, take_all, nil_from_length}
use Rattle.std.specs.Prelude.{slice_range}
use Rattle.std.specs.Io.KnownBytes.{Consumes, Keeps}
use Rattle.std.proofs.lemmas.List.Elements.{All-contains, Contains-append_right}
use Rattle.std.proofs.KnownBytes.{Consumes-trans, Consumes-kept}
use Rattle.pc_lines.specs.Lines.{HasNoEnd, IsOpenLine, IsWholeLine, IsLongStart}
use Rattle.pc_lines.specs.Reader.{ReaderState, coming, Moves, IsTakenUpTo, IsTakenPart}
use Rattle.pc_lines.specs.declared.reader.Part.{Part}
use Rattle.pc_lines.specs.declared.reader.Part.TheVariants.{Ended, Open, Long}
use Rattle.pc_lines.proofs.Ends.{open_then_whole, open_then_open, open_then_long}

pub length_held : (chunk : List ℕ) (from to : ℕ) → from ≤ to → to ≤ length chunk → length (slice_range chunk from to) ≡ to - from
length_held chunk from to in_order filled = omega (arith, length-take (to - from) (drop from chunk), length-drop from chunk)

drop_held : (chunk : List ℕ) (from to count : ℕ) → from + count ≤ to → drop count (slice_range chunk from to) ≡ slice_range chunk (from + count) to
drop_held chunk from to count le =
    let parts : to - from ≡ count + (to - (from + count)) = omega arith in
    ap (λ (k : ℕ). drop count (take k (drop from chunk))) parts
    ∙ drop-take count (to - (from + count)) (drop from chunk)
    ∙ ap (λ (l : List ℕ). take (to - (from + count)) l) (drop-drop count from chunk)

-- the first bytes that are held, and then the others
pub held_goes_on : (chunk : List ℕ) (from to count : ℕ) → from + count ≤ to
    → slice_range chunk from to ≡ take count (slice_range chunk from to) ++ slice_range chunk (from + count) to
held_goes_on chunk from to count le =
    sym (take-append-drop count (slice_range chunk from to)) ∙ ap (λ (l : List ℕ). take count (slice_range chunk from to) ++ l) (drop_held chunk from to count le)

-- the first bytes that are held, as a part of the chunk
pub front_of_held : (chunk : List ℕ) (from to count : ℕ) → from + count ≤ to → slice_range chunk from (from + count) ≡ take count (slice_range chunk from to)
front_of_held chunk from to count le =
    let size : from + count - from ≡ count = omega arith in
    ap (λ (k : ℕ). take k (drop from chunk)) size ∙ sym (take-take count (to - from) (drop from chunk) (omega arith))

-- what moves from the bytes that are held into the line is taken from those still to come
pub moves_takes : (before after : ReaderState) (left : Option (List ℕ)) (m : Moves before after) → Consumes (coming before left) (coming after left) m.part
moves_takes before after None m = tt
moves_takes before after (Some xs) m = ap (λ (l : List ℕ). l ++ xs) m.held ∙ append_assoc m.part after.held xs

-- the line has what was taken from the first, also after more was read and moved
pub goes_on : (first old new : Option (List ℕ)) (before after : ReaderState) (line : List ℕ) → Consumes first old line → Keeps old (coming before new) → before.line ≡ line → Moves before after → Consumes first (coming after new) after.line
goes_on first old new before after line taken kept same m =
    let both : Consumes first (coming after new) (line ++ m.part) = Consumes-trans _ _ _ line m.part (Consumes-kept _ _ _ line taken kept) (moves_takes before after new m) in
    subst (λ (l : List ℕ). Consumes first (coming after new) l) (ap (λ (l : List ℕ). l ++ m.part) (sym same) ∙ sym m.line) both

-- the line has what was taken from the first, also after a read
pub still_takes : (first old new : Option (List ℕ)) (line line' : List ℕ) → Consumes first old line → Keeps old new → line' ≡ line → Consumes first new line'
still_takes first old new line line' taken kept same = subst (λ (l : List ℕ). Consumes first new l) (sym same) (Consumes-kept first old new line taken kept)

-- a line without a line feed has not taken held bytes that have one
pub end_is_held : (before after : ReaderState) → Contains before.held 10 → Moves before after → after.held ≡ [] → HasNoEnd after.line → ⊥
end_is_held before after has m all none =
    let whole : before.held ≡ m.part = m.held ∙ ap (λ (l : List ℕ). m.part ++ l) all ∙ append-nil m.part in
    let moved : Contains (before.line ++ m.part) 10 = Contains-append_right before.line m.part 10 (subst (λ (l : List ℕ). Contains l 10) whole has) in
    All-contains (λ b. b ≢ 10) (before.line ++ m.part) 10 (subst HasNoEnd m.line none) moved refl

-- bytes that a cut took the line to
pub after_cut : (p : Part) (limit room : ℕ) (before after : ReaderState) (count : ℕ) → room ≡ limit - length before.line → count ≤ length before.held → IsOpenLine limit before.line
    → IsTakenUpTo p room before.held count → after.line ≡ before.line ++ take count before.held → before.held ≡ take count before.held ++ after.held → IsTakenPart p limit after
after_cut Ended limit room before after count rest le start cut line held =
    subst (λ (l : List ℕ). IsWholeLine limit l) (sym line) (open_then_whole limit room before.line (take count before.held) rest start cut)
after_cut Open limit room before after count rest le start cut line held =
    let all : take count before.held ≡ before.held = take_all count before.held (omega (arith, cut.1)) in
    let none : length after.held ≡ 0 = omega (arith, ap length held, length-append (take count before.held) after.held, ap length all) in (
      subst (λ (l : List ℕ). IsOpenLine limit l) (sym (line ∙ ap (λ (l : List ℕ). before.line ++ l) all)) (open_then_open limit room before.line before.held rest start cut.0),
      nil_from_length after.held none,
    )
after_cut Long limit room before after count rest le start cut line held =
    subst (λ (l : List ℕ). IsLongStart limit l) (sym line) (open_then_long limit room before.line (take count before.held) rest start cut)
