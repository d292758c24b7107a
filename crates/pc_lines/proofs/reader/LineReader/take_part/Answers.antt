use Rattle.std.proofs.Common.{◌≡◌, ℕ, ◌+◌, ◌-◌, ◌≤◌, List, ◌++◌, length, take, arith, sym, ◌∙◌, ap, subst}
use Rattle.std.proofs.lemmas.Grind.{common_steps}
use Rattle.std.specs.Prelude.{slice_range}
use Rattle.pc_lines.specs.Reader.{ReaderState, Moves, IsTakenUpTo}
use Rattle.pc_lines.proofs.Held.{length_held, held_goes_on, front_of_held, after_cut}
use Rattle.pc_lines.proofs.reader.LineReader.take_part.Goals as goal

pub returns-clause-moves : goal.returns-clause-moves
returns-clause-moves c =
    let chunk : List ℕ = c.self.inside.chunk.items in
    let from : ℕ = c.self.inside.from in
    let to : ℕ = c.self.inside.to in
    let count : ℕ = c.cut-count.result.0 in
    let held : c.args.self.now.held ≡ slice_range chunk from to = sym (ap (λ (r : ReaderState). r.held) c.self.view_is) in
    let within : count ≤ length (slice_range chunk from to) = subst (λ (l : List ℕ). count ≤ length (slice_range l from to)) c.deref.ensures.value c.cut-count.ensures.within in
    let size : length (slice_range chunk from to) ≡ to - from = length_held chunk from to (omega arith) (omega arith) in
    let le : from + count ≤ to = omega (arith, within, size) in
    let written : c.extend_from_slice.new.self.items ≡ c.self.inside.line.items ++ slice_range c.deref-2.result.now from (from + count) = grind (arith, common_steps) in
    record {
      part = take count (slice_range chunk from to);
      line = written ∙ ap (λ (l : List ℕ). l ++ slice_range c.deref-2.result.now from (from + count)) (ap (λ (r : ReaderState). r.line) c.self.view_is)
          ∙ ap (λ (l : List ℕ). c.args.self.now.line ++ slice_range l from (from + count)) c.deref-2.ensures.value
          ∙ ap (λ (l : List ℕ). c.args.self.now.line ++ l) (front_of_held chunk from to count le);
      held = held ∙ held_goes_on chunk from to count le;
      longest = ap (λ (r : ReaderState). r.longest) c.self.view_is;
    }

pub returns-clause-part : goal.returns-clause-part
unfolding returns-clause-moves
returns-clause-part c =
    let chunk : List ℕ = c.self.inside.chunk.items in
    let from : ℕ = c.self.inside.from in
    let to : ℕ = c.self.inside.to in
    let count : ℕ = c.cut-count.result.0 in
    let held : c.args.self.now.held ≡ slice_range chunk from to = sym (ap (λ (r : ReaderState). r.held) c.self.view_is) in
    let line_is : c.self.inside.line.items ≡ c.args.self.now.line = ap (λ (r : ReaderState). r.line) c.self.view_is in
    let m : Moves c.args.self.now _ = returns-clause-moves c in
    let same : slice_range c.deref.result.now from to ≡ c.args.self.now.held = ap (λ (l : List ℕ). slice_range l from to) c.deref.ensures.value ∙ sym held in
    after_cut c.cut-count.result.1 c.args.limit (c.args.limit - c.len.result) c.args.self.now _ count
    (omega (arith, ap length line_is))
    (subst (λ (l : List ℕ). count ≤ length l) same c.cut-count.ensures.within)
    c.requires.open_line
    (subst (λ (l : List ℕ). IsTakenUpTo c.cut-count.result.1 (c.args.limit - c.len.result) l count) same c.cut-count.ensures.part)
    (m.line ∙ ap (λ (l : List ℕ). c.args.self.now.line ++ take count l) (sym held))
    (m.held ∙ ap (λ (l : List ℕ). take count l ++ slice_range chunk (from + count) to) (sym held))
