use Rattle.std.specs.Str.Iter.{chars_rest}
use Rattle.pc_name.specs.Names.{AllContinue}
use Rattle.pc_name.proofs.name.all_continue.Given as goal

abbrev pub invariant-loop-c : goal.invariant-loop-c
invariant-loop-c l = record {
  down : AllContinue l.text → AllContinue (chars_rest l.c-iterator);
  up : AllContinue (chars_rest l.c-iterator) → AllContinue l.text;
}
