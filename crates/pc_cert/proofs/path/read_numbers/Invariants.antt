use Rattle.std.proofs.Common.{take}
use Rattle.pc_cert.specs.Texts.{AreAll, IsNumberText}
use Rattle.pc_cert.specs.Trees.{seen}
use Rattle.pc_cert.proofs.path.read_numbers.Given as goal

abbrev pub invariant-loop-text : goal.invariant-loop-text
invariant-loop-text l = AreAll IsNumberText (seen (take l.text-index l.texts)) l.numbers.items
