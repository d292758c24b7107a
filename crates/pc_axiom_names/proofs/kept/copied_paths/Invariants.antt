use Rattle.std.proofs.Common.{take}
use Rattle.pc_axiom_names.specs.Keeping.{ArePaths}
use Rattle.pc_axiom_names.proofs.kept.copied_paths.Given as goal

abbrev pub invariant-loop-path : goal.invariant-loop-path
invariant-loop-path l = ArePaths (take l.path-index l.paths) l.copy.items
