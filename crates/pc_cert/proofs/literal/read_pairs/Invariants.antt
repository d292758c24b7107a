use Rattle.std.proofs.Common.{map, take}
use Rattle.pc_cert.specs.Texts.{AreAll, IsReadText}
use Rattle.pc_cert.specs.Trees.{seen, pair_of}
use Rattle.pc_cert.proofs.literal.read_pairs.Given as goal

abbrev pub invariant-loop-text : goal.invariant-loop-text
invariant-loop-text l = AreAll IsReadText (seen (take l.text-index l.texts)) (map pair_of l.pairs.items)
