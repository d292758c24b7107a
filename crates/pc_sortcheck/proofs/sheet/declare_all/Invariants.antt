use Rattle.pc_syntax.specs.Tree.{sheet_of}
use Rattle.pc_sortcheck.proofs.Lines.{So_far}
use Rattle.pc_sortcheck.proofs.sheet.declare_all.Given as goal

abbrev pub invariant-loop-line : goal.invariant-loop-line
invariant-loop-line l = So_far (sheet_of l.tree) l.line-index l.book
