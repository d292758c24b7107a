use Rattle.std.proofs.Common.{sym, subst}
use Rattle.pc_sortcheck.specs.Declaring.{ReadsAs}
use Rattle.pc_gen.specs.Sheet.{generated_sheet}
use Rattle.pc_gen.proofs.Formed.{formed}
use Rattle.pc_gen.proofs.law.generated_texts_read_back.Goals as goal

pub returns : goal.returns
returns c = λ n some few. subst (λ t. ReadsAs t (generated_sheet n)) (sym (c.generated_texts_are_canonical.ensures n some)) (c.texts_read_back.ensures (generated_sheet n) (formed n some few))
