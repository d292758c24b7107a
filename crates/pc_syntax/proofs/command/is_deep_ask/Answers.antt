use Rattle.pc_syntax.proofs.Deep.{no_name_is_shallow, other_is_shallow, deep_by_count}
use Rattle.pc_syntax.proofs.ReadLine.{differs}
use Rattle.pc_syntax.proofs.command.is_deep_ask.Goals as goal

pub returns-in_default : goal.returns-in_default
returns-in_default c = no_name_is_shallow c.args.words.now c.take_name.new.self c.in_default.ensures

pub returns-then-not-is_word : goal.returns-then-not-is_word
returns-then-not-is_word c = other_is_shallow c.args.words.now c.take_name.new.self c.in-Some.start.now c.in-Some.ensures.0 (differs _ _ c.is_word.ensures c.if-not-is_word.true)

pub returns : goal.returns
returns c = deep_by_count c.args.words.now c.take_name.new.self c.in-Some.start.now c.nesting.result c.in-Some.ensures.0 (c.is_word.ensures.0 c.if-not-is_word.false) c.nesting.ensures
