use Rattle.std.proofs.Common.{◌==◌, ap, sym}
use Rattle.std.proofs.lemmas.Option.{get_or_from_slice_get}
use Rattle.pc_theory.proofs.entries.has_number.Goals as goal

pub returns : goal.returns
returns c = let a = c.args in ap (λ n. n == a.number) (sym (get_or_from_slice_get a.components.now.numbers a.entry.cell.0 c.of.result 0 c.of.ensures))
