use Rattle.std.proofs.Common.{◌∙◌, ap, replicate, false}
use Rattle.pc_analyze.proofs.analysis.analyze_free.Goals as goal

pub analyze_on-requires-clause-graph : goal.analyze_on-requires-clause-graph
analyze_on-requires-clause-graph c = record {
  graph = record { entries = c.len.ensures.entries; over = c.requires.over };
  quiet = λ place is. c.requires.quiet;
  decided = c.requires.decided;
}

pub analyze_on-requires-clause-marks : goal.analyze_on-requires-clause-marks
analyze_on-requires-clause-marks c = c.deref_mut.ensures.value ∙ c.in_ok-marks.ensures.items_if_clones_equal (λ y h. h) ∙ ap (λ n. replicate n false) c.len.ensures.count
