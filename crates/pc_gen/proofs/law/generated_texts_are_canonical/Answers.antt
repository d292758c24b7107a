use Rattle.pc_gen.proofs.Lines.{canonical}
use Rattle.pc_gen.proofs.law.generated_texts_are_canonical.Goals as goal

pub returns : goal.returns
returns c = λ n some. canonical c.cells_are_numbered_in_order.ensures n some
