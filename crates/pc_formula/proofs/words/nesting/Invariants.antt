use Rattle.std.proofs.Common.{◌≡◌, ◌+◌, ◌≤◌, length}
use Rattle.std.specs.List.{AllByRecursion}
use Rattle.pc_token.specs.Token.{IsTokenOf}
use Rattle.pc_formula.specs.Word.{nesting, words_of}
use Rattle.pc_formula.proofs.words.nesting.Given as goal

abbrev pub invariant-tokens : goal.invariant-tokens
invariant-tokens l = record {
  counts : l.count + nesting (words_of l.line l.rest) ≡ nesting (words_of l.line l.fn.tokens);
  each : AllByRecursion (IsTokenOf l.line) l.rest;
  within : l.count + length l.rest ≤ length l.fn.tokens;
}

abbrev pub decreases-tokens : goal.decreases-tokens
decreases-tokens l = length l.rest
