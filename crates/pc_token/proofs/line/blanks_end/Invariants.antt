use Rattle.std.proofs.Common.{◌≡◌, ℕ, ◌-◌, ◌<◌, ◌≤◌, true, length, get_or}
use Rattle.pc_token.specs.Token.{is_blank}
use Rattle.pc_token.proofs.line.blanks_end.Given as goal

abbrev pub invariant-loop-end : goal.invariant-loop-end
invariant-loop-end l = record {
  after : l.start ≤ l.end;
  within : l.end ≤ length l.line;
  blanks : (i : ℕ) → l.start ≤ i → i < l.end → is_blank (get_or l.line i 0) ≡ true;
}

abbrev pub decreases-loop-end : goal.decreases-loop-end
decreases-loop-end l = length l.line - l.end
