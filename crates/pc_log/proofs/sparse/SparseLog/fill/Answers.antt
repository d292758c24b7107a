use Rattle.std.proofs.Common.{List, Option, Some, length, set, ap, ◌∙◌, arith}
use Rattle.std.proofs.lemmas.List.{length-map}
use Rattle.pc_log.specs.Lines.{LogLine}
use Rattle.pc_log.specs.Shown.{shown_line}
use Rattle.pc_log.specs.Sparse.{line_there}
use Rattle.pc_log.specs.inside.Spots.{spot_line}
use Rattle.pc_log.proofs.SparseLemmas.{filled, filled_spots}
use Rattle.pc_log.proofs.sparse.SparseLog.fill.Goals as goal

pub invariant_of-self-2 : goal.invariant_of-self-2
invariant_of-self-2 c =
    filled_spots c.self.inside.further c.add.new.further c.self.inside.spots.items c.args.place (shown_line c.args.line) c.in_ok-spot.spot c.self.inside.bytes c.in_ok-bytes.bytes c.self.invariant c.in_ok-spot.ensures.ok
    (omega (arith, c.requires.within, ap (λ (ls : List (Option LogLine)). length ls) c.self.view_is, length-map c.self.inside.spots.items (spot_line c.self.inside.further)))
    (ap (λ (ls : List (Option LogLine)). line_there ls c.args.place) c.self.view_is ∙ c.requires.gap)
    c.in_ok-bytes.ensures

pub returns-clause-ok : goal.returns-clause-ok
returns-clause-ok c =
    filled c.self.inside.further c.add.new.further c.self.inside.spots.items c.args.place (shown_line c.args.line) c.in_ok-spot.spot c.self.invariant.are c.in_ok-spot.ensures.ok
    ∙ ap (λ (ls : List (Option LogLine)). set ls c.args.place (Some (shown_line c.args.line))) c.self.view_is
