use Rattle.std.proofs.Common.{◌+◌, ◌≤◌, length}
use Rattle.std.specs.Str.Lines.{lines}
use Rattle.pc_syntax.specs.Part.{declared}
use Rattle.pc_syntax.proofs.Progress.{Progress}
use Rattle.pc_syntax.proofs.sheet.parse_sheet.Given as goal

abbrev pub invariant-lines : goal.invariant-lines
invariant-lines l = record {
  progress : Progress l.bytes l.part l.number (lines l.rest) (declared l.declarations.items);
  first : 1 ≤ l.number;
  within : l.number + length l.rest ≤ length l.bytes + 1;
}

abbrev pub decreases-lines : goal.decreases-lines
decreases-lines l = length l.rest
