use Rattle.std.proofs.Common.{sym, subst}
use Rattle.pc_formula.specs.Front.{Reads}
use Rattle.pc_formula.specs.Value.{DerivesName}
use Rattle.pc_formula.proofs.ValueForms.{name_reads}
use Rattle.pc_formula.proofs.values.read_name.Goals as goal

pub returns-clause-ok : goal.returns-clause-ok
returns-clause-ok c = subst (λ n. Reads DerivesName 0 c.args.words.now n c.take_name.new.self) (sym c.in_ok-new.ensures) (name_reads _ _ _ c.in-Some.ensures.0)
