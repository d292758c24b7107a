use Rattle.std.proofs.Common.{◌↔◌, length}
use Rattle.std.specs.List.{AllByRecursion}
use Rattle.pc_token.specs.Token.{IsTokenOf}
use Rattle.pc_formula.specs.Word.{words_of, HasShortNames}
use Rattle.pc_formula.proofs.words.has_short_names.Given as goal

abbrev pub invariant-tokens : goal.invariant-tokens
invariant-tokens l = record {
  each : AllByRecursion (IsTokenOf l.line) l.rest;
  same : HasShortNames (words_of l.line l.rest) ↔ HasShortNames (words_of l.line l.fn.tokens);
}

abbrev pub decreases-tokens : goal.decreases-tokens
decreases-tokens l = length l.rest
