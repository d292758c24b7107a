use Rattle.std.proofs.Common.{Vec, Global, map}
use Rattle.std.proofs.lemmas.Result.{IfOk-weaker}
use Rattle.pc_formula.specs.declared.tree.ValueTree.{ValueTree}
use Rattle.pc_formula.specs.Tree.{value_of}
use Rattle.pc_formula.specs.Front.{Reads}
use Rattle.pc_formula.specs.Value.{DerivesValue, Listed, InParentheses}
use Rattle.pc_formula.proofs.Lists.{enclosed_reads}
use Rattle.pc_formula.proofs.values.read_values.Goals as goal

pub returns-clause-ok : goal.returns-clause-ok
returns-clause-ok c =
    IfOk-weaker c.listed_values.result (λ (v : Vec ValueTree Global). Reads (Listed DerivesValue) 0 c.take_sign.new.self (map value_of v.items) c.listed_values.new.words) (λ (v : Vec ValueTree Global). Reads (InParentheses DerivesValue) 0 c.args.words.now (map value_of v.items) c.listed_values.new.words)
    (λ v r. enclosed_reads DerivesValue _ _ c.if-not-take_sign.ensures _ _ r) c.listed_values.ensures.ok
