use Rattle.std.proofs.Common.{◌≡◌, length}
use Rattle.pc_checker.specs.Entered.{HasEachPair}
use Rattle.pc_checker.specs.Made.{blocks_said}
use Rattle.pc_checker.specs.inside.Prepared.{ArePrepared}
use Rattle.pc_checker.proofs.room.prepare_lines.Given as goal

abbrev pub invariant-loop-place : goal.invariant-loop-place
invariant-loop-place l = record {
  prepared : ArePrepared l.book (blocks_said l.book l.sets) l.lines l.place l.fn.draft.symbols l.draft.symbols l.clauses l.axioms.items;
  pairs : HasEachPair l.book l.marks.pairs;
  symbols : length l.marks.symbols ≡ length l.fn.draft.symbols;
}
