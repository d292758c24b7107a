use Rattle.std.proofs.Common.{ap, ◌∙◌}
use Rattle.std.specs.Str.{all_ascii_digits}
use Rattle.pc_words.proofs.Digits.{told}
use Rattle.pc_words.proofs.word.has_digits_alone.Goals as goal

pub returns : goal.returns
returns c = told c.as_bytes.result.now c.are_digits.result c.are_digits.ensures ∙ ap all_ascii_digits c.as_bytes.ensures.value
