use Rattle.std.proofs.Common.{ap, sym, ◌∙◌, subst}
use Rattle.pc_ground.specs.GroundView.{Grounded}
use Rattle.pc_axiom_names.specs.Listed.{NameLists}
use Rattle.pc_reason.specs.Refutations.{RefutesRules}
use Rattle.pc_theory.specs.Books.{IsPartCause}
use Rattle.pc_theory.specs.declared.book.PartFault.{PartFault}
use Rattle.pc_theory.proofs.Books.{refuted_rules}
use Rattle.pc_theory.proofs.book.end_with.Goals as goal

pub returns-in-Inconsistent : goal.returns-in-Inconsistent
returns-in-Inconsistent c budget cause =
    let sheet = c.args.book.now in
    let fault = c.in-Inconsistent in
    let names : Grounded → NameLists = λ g. g.names in
    let refutes = subst (λ (f : PartFault). IsPartCause sheet budget f) fault.is cause in (
      c.requires.light,
      subst (λ (ns : NameLists). RefutesRules sheet ns fault.log fault.span) (sym (c.into_names.ensures ∙ ap names c.requires.ground)) refutes,
      refuted_rules c.certificates_are_sound.ensures sheet fault.log fault.span refutes,
    )

pub returns-in-Spent : goal.returns-in-Spent
returns-in-Spent c budget cause = (c.requires.light, subst (λ (f : PartFault). IsPartCause c.args.book.now budget f) c.in-Spent.is cause)
