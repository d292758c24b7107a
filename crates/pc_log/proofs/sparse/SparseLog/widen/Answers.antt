use Rattle.std.proofs.Common.{List, Option, ap, ◌∙◌, arith}
use Rattle.pc_log.specs.Lines.{LogLine}
use Rattle.pc_log.specs.Sparse.{bytes_there, line_there}
use Rattle.pc_log.proofs.SparseLemmas.{grown_by, wide_bytes, wide_spots, wide_there}
use Rattle.pc_log.proofs.sparse.SparseLog.widen.Goals as goal

pub invariant_of-self : goal.invariant_of-self
invariant_of-self c =
    wide_spots c.self.inside.further c.self.inside.spots.items c.resize.new.self.items _ c.self.inside.bytes
    (grown_by _ _ _ _ c.in_ok-resize.ensures.items (omega (arith, c.if-len-count.true, c.len.ensures, c.self.inside.spots.ok.0))) c.self.invariant

pub returns-in_ok-resize-clause-same : goal.returns-in_ok-resize-clause-same
returns-in_ok-resize-clause-same c = λ i.
    wide_there c.self.inside.further c.self.inside.spots.items c.resize.new.self.items _
    (grown_by _ _ _ _ c.in_ok-resize.ensures.items (omega (arith, c.if-len-count.true, c.len.ensures, c.self.inside.spots.ok.0))) i
    ∙ ap (λ (ls : List (Option LogLine)). line_there ls i) c.self.view_is

pub returns-in_ok-resize-clause-bytes : goal.returns-in_ok-resize-clause-bytes
returns-in_ok-resize-clause-bytes c =
    wide_bytes c.self.inside.further c.self.inside.spots.items c.resize.new.self.items _
    (grown_by _ _ _ _ c.in_ok-resize.ensures.items (omega (arith, c.if-len-count.true, c.len.ensures, c.self.inside.spots.ok.0)))
    ∙ ap bytes_there c.self.view_is
