use Rattle.std.proofs.Common.{slice_range, sym, ◌∙◌, ap}
use Rattle.pc_token.proofs.Once.{only_token}
use Rattle.pc_token.proofs.line.is_one_name.Goals as goal

pub returns-in-Some : goal.returns-in-Some
returns-in-Some c = (
  λ yes.
      let is = c.is_name.ensures.0 yes in
      (c.in-Some.token, c.in-Some.ensures, is.0, is.1),
  λ one.
      let same = only_token c.args.line.now one.0 c.in-Some.token one.1 c.in-Some.ensures in
      c.is_name.ensures.1 (ap (λ t. t.kind) (sym same) ∙ one.2, ap (λ t. slice_range c.args.line.now t.start t.end) (sym same) ∙ one.3),
)
