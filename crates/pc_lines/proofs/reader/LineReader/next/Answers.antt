use Rattle.std.proofs.Common.{◌≡◌, ◌<◌, [], ℕ, List, Contains, length, arith, rules, ◌∙◌, sym, subst}
use Rattle.std.specs.Io.KnownBytes.{IsAtEnd}
use Rattle.std.proofs.lemmas.Grind.{common_steps}
use Rattle.pc_lines.specs.Lines.{IsOpenLine}
use Rattle.pc_lines.specs.declared.reader.Taken.TheVariants.{Line, Last, End, TooLong}
use Rattle.pc_lines.specs.Reader.{coming}
use Rattle.pc_lines.proofs.Held.{goes_on, still_takes, end_is_held}
use Rattle.pc_lines.proofs.First.{next_line}
use Rattle.pc_lines.proofs.reader.LineReader.next.Goals as goal

pub returns-in-Ended-clause-lines : goal.returns-in-Ended-clause-lines
returns-in-Ended-clause-lines g c =
    next_line Line c.args.limit c.take_part.new.self.line _ _ c.in-Ended.ensures.part
    (goes_on _ _ (g.S.Source.left c.fill.new.source) c.fill.new.self c.take_part.new.self c.loop-self.self.line c.loop-self.invariant.takes c.in_ok-fill.ensures.bytes c.in_ok-fill.ensures.line c.in-Ended.ensures.moves)

pub returns-in-Long-clause-lines : goal.returns-in-Long-clause-lines
returns-in-Long-clause-lines g c =
    next_line TooLong c.args.limit c.take_part.new.self.line _ _ c.in-Long.ensures.part
    (goes_on _ _ (g.S.Source.left c.fill.new.source) c.fill.new.self c.take_part.new.self c.loop-self.self.line c.loop-self.invariant.takes c.in_ok-fill.ensures.bytes c.in_ok-fill.ensures.line c.in-Long.ensures.moves)

pub returns-then-is_empty-clause-lines : goal.returns-then-is_empty-clause-lines
returns-then-is_empty-clause-lines g c =
    let empty : c.fill.new.self.line ≡ [] = grind (arith, common_steps) in
    let at_end : IsAtEnd (coming c.fill.new.self (g.S.Source.left c.fill.new.source)) = search rules in
    next_line End c.args.limit c.fill.new.self.line _ _ (empty, at_end) (still_takes _ _ _ c.loop-self.self.line c.fill.new.self.line c.loop-self.invariant.takes c.in_ok-fill.ensures.bytes c.in_ok-fill.ensures.line)

pub returns-clause-lines : goal.returns-clause-lines
returns-clause-lines g c =
    let some : 0 < length c.fill.new.self.line = first_of (search rules, grind (arith, common_steps)) in
    let at_end : IsAtEnd (coming c.fill.new.self (g.S.Source.left c.fill.new.source)) = search rules in
    let start : IsOpenLine c.args.limit c.fill.new.self.line = rw c.in_ok-fill.ensures.line c.loop-self.invariant.open_line in
    next_line Last c.args.limit c.fill.new.self.line _ _ (start, some, at_end) (still_takes _ _ _ c.loop-self.self.line c.fill.new.self.line c.loop-self.invariant.takes c.in_ok-fill.ensures.bytes c.in_ok-fill.ensures.line)

pub loop-self-preserved : goal.loop-self-preserved
loop-self-preserved g c =
    let moves = c.in-Open.ensures.moves in
    let all = c.in-Open.ensures.part in
    record {
      open_line = all.0;
      takes = goes_on _ _ (g.S.Source.left c.fill.new.source) c.fill.new.self c.take_part.new.self c.loop-self.self.line c.loop-self.invariant.takes c.in_ok-fill.ensures.bytes c.in_ok-fill.ensures.line moves;
      longest = moves.longest ∙ c.in_ok-fill.ensures.longest ∙ c.loop-self.invariant.longest;
      waits = λ has.
          let start : Contains c.loop-self.self.held 10 = subst (λ (l : List ℕ). Contains l 10) (sym (c.loop-self.invariant.waits has).0) has in
          let some : 0 < length c.loop-self.self.held = omega (arith, start.1) in
          let still : Contains c.fill.new.self.held 10 = subst (λ (l : List ℕ). Contains l 10) (sym (c.in_ok-fill.ensures.waits some).0) start in
          absurd (end_is_held c.fill.new.self c.take_part.new.self still moves all.1 all.0.no_end);
      kept = c.in_ok-fill.ensures.cause.kept ∙ c.loop-self.invariant.kept;
    }
