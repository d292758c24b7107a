use Rattle.std.proofs.Common.{map, take}
use Rattle.pc_cert.specs.Texts.{AreAll, IsLiteralText}
use Rattle.pc_cert.specs.Trees.{seen, literal_of}
use Rattle.pc_cert.proofs.literal.read_literals.Given as goal

abbrev pub invariant-loop-text : goal.invariant-loop-text
invariant-loop-text l = AreAll IsLiteralText (seen (take l.text-index l.texts)) (map literal_of l.literals.items)
