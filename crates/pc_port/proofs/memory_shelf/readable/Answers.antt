use Rattle.std.proofs.Common.{ap, take, ◌∙◌, ℕ}
use Rattle.std.proofs.lemmas.List.{take_min}
use Rattle.pc_port.specs.declared.shelf.TheConstants.{READ_LIMIT}
use Rattle.pc_port.proofs.memory_shelf.readable.Goals as goal

pub returns : goal.returns
returns c = ap (λ (n : ℕ). take n c.args.bytes.now) c.min.ensures ∙ take_min READ_LIMIT c.args.bytes.now
