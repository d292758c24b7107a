use Rattle.std.proofs.Common.{◌≡◌, drop, map}
use Rattle.pc_formula.specs.Tree.{formula_of, parts_of}
use Rattle.pc_formula.specs.Counted.{have_count}
use Rattle.pc_formula.proofs.counted.+counted.Given as goal

-- no part before this one has one
abbrev pub invariant-have_count-loop-part : goal.invariant-have_count-loop-part
invariant-have_count-loop-part l = have_count (parts_of (map formula_of l.parts)) ≡ have_count (parts_of (map formula_of (drop l.part-index l.parts)))
