use Rattle.std.proofs.Common.{ℕ, List, Vec, Global}
use Rattle.std.proofs.lemmas.Result.{IfOk-weaker}
use Rattle.pc_formula.specs.Front.{Reads}
use Rattle.pc_formula.specs.Value.{DerivesName, Listed, InParentheses}
use Rattle.pc_formula.proofs.Lists.{enclosed_reads}
use Rattle.pc_formula.proofs.values.read_names.Goals as goal

pub returns-clause-ok : goal.returns-clause-ok
returns-clause-ok c =
    IfOk-weaker c.listed_names.result (λ (v : Vec (List ℕ) Global). Reads (Listed DerivesName) 0 c.take_sign.new.self (v.items) c.listed_names.new.words) (λ (v : Vec (List ℕ) Global). Reads (InParentheses DerivesName) 0 c.args.words.now (v.items) c.listed_names.new.words)
    (λ v r. enclosed_reads DerivesName _ _ c.if-not-take_sign.ensures _ _ r) c.listed_names.ensures.ok
