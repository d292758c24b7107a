use Rattle.std.proofs.Common.{ℕ, List, sym, subst}
use Rattle.pc_sheet.specs.declared.ids.Entry.{Entry}
use Rattle.pc_world_list.specs.RuleCertificates.{GoesAgainst, IsAgainstRule}
use Rattle.pc_spreadsheet.proofs.pages.write_asked.Goals as goal

pub write_against-requires : goal.write_against-requires
write_against-requires g c =
    let p = c.args.proof.now in
    let rule = subst (λ (n : ℕ). GoesAgainst p.book p.names n p.support.items p.shown p.lines p.span) (sym c.last_rule.ensures) c.requires.against in
    subst (λ (es : List Entry). GoesAgainst p.book p.names c.last_rule.result es p.shown p.lines p.span) (sym c.deref.ensures.value) rule

pub returns : goal.returns
returns g c =
    let p = c.args.proof.now in
    let written = c.write_against.ensures in
    let support = subst (λ (es : List Entry). IsAgainstRule p.book c.last_rule.result es written.0) c.deref.ensures.value written.1 in
    (written.0, subst (λ (n : ℕ). IsAgainstRule p.book n p.support.items written.0) c.last_rule.ensures support, written.2)
