use Rattle.std.proofs.Common.{◌≡◌, ℕ, ◌-◌, ◌++◌, length, take, drop, arith, sym, ◌∙◌, ap, length-take, length-drop}
use Rattle.std.specs.Io.KnownBytes.{Appends}
use Rattle.std.proofs.KnownBytes.{Appends-trans, Appends-kept}
use Rattle.pc_port.proofs.Told.{front_goes_on}
use Rattle.pc_port.proofs.real.RealSinkSink.write.Goals as goal
use Rattle.pc_port.proofs.real.RealSinkSink.write.Goals.{in-Ok, in-Err+else-ne}

pub loop-preserved : goal.loop-preserved
loop-preserved g c =
    elim c.match-write.branch [
      | in-Ok w ↦
          let piece = c.args.piece.now in
          let both : Appends (g.W.Write.contents c.args.self.now.writer) (g.W.Write.contents c.write.new.self) (take c.loop.at piece ++ take w.in-Ok.count (take (length piece - c.loop.at) (drop c.loop.at piece))) =
          Appends-trans (g.W.Write.contents c.args.self.now.writer) (g.W.Write.contents c.loop.self.writer) (g.W.Write.contents c.write.new.self) _ _ c.loop.invariant.told w.in-Ok.ensures.bytes in
          let end : take c.loop.at piece ++ take w.in-Ok.count (take (length piece - c.loop.at) (drop c.loop.at piece)) ≡ take c.match-write.at piece = front_goes_on piece c.loop.at w.in-Ok.count ∙ ap (λ (n : ℕ). take n piece) (sym w.at-is) in
          record {
            told = rw end at both;
            count = c.loop.invariant.count;
            within = omega (arith, w.at-is, w.in-Ok.ensures.bound, length-take (length piece - c.loop.at) (drop c.loop.at piece), length-drop c.loop.at piece);
          }
      | in-Err+else-ne w ↦
          let kept = Appends-kept (g.W.Write.contents c.args.self.now.writer) (g.W.Write.contents c.loop.self.writer) (g.W.Write.contents c.write.new.self) _ c.loop.invariant.told w.in-Err.ensures.bytes in
          record {
            told = rw w.at-is kept;
            count = c.loop.invariant.count;
            within = omega (arith, w.at-is);
          }
    ]
