use Rattle.std.proofs.Common.{sym, ◌∙◌, subst}
use Rattle.std.specs.Prelude.{codes}
use Rattle.pc_token.specs.Line.{IsOneName}
use Rattle.pc_syntax.specs.Fault.{no_text}
use Rattle.pc_syntax.specs.Line.{IsBegin, empty_line, begin_line}
use Rattle.pc_syntax.proofs.ReadLine.{is_nothing, something, false_no_true}
use Rattle.pc_syntax.proofs.LineTold.{line_told}
use Rattle.pc_syntax.proofs.read.read_line.Goals as goal

pub returns-in_default : goal.returns-in_default
returns-in_default c = no_text c.in_default.ensures.cases.0

pub returns-then-is_nothing : goal.returns-then-is_nothing
returns-then-is_nothing c = empty_line (is_nothing c.in-Ok.text.now c.args.line.now c.in-Ok.ensures.cases.0 c.in-Ok.ensures.cases.1 (c.is_nothing.ensures.blank c.if-is_nothing.true))

pub returns-then-is_one_name : goal.returns-then-is_one_name
returns-then-is_one_name c = begin_line (record { utf8 = c.in-Ok.ensures.cases.1; name = subst (λ l. IsOneName l (codes "begin")) c.in-Ok.ensures.cases.0 (c.is_one_name.ensures.0 c.if-is_one_name.true) })

pub returns : goal.returns
returns c =
    let some = something c.in-Ok.text.now c.args.line.now c.in-Ok.ensures.cases.0 _ c.if-is_nothing.false c.is_nothing.ensures.neither in
    let other : IsBegin c.args.line.now → ⊥ = λ b. false_no_true (sym c.if-is_one_name.false ∙ c.is_one_name.ensures.1 (subst (λ l. IsOneName l (codes "begin")) (sym c.in-Ok.ensures.cases.0) b.name)) in
    line_told c.in-Ok.text.now c.args.line.now c.in-Ok.ensures.cases.0 c.in-Ok.ensures.cases.1 some other c.read_form.result c.read_form.ensures
