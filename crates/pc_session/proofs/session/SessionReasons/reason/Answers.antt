use Rattle.std.proofs.Common.{◌≡◌, ap, sym, ◌∙◌, subst}
use Rattle.std.specs.Prelude.{option_map}
use Rattle.pc_cache.specs.Rows.{row_of}
use Rattle.pc_ground.specs.GroundView.{Grounded}
use Rattle.pc_axiom_names.specs.Listed.{NameLists}
use Rattle.pc_reason.specs.Reasons.{IsReasonFor, justification_of}
use Rattle.pc_reason.specs.Targets.{IsTargetIn}
use Rattle.pc_session.specs.Views.{SessionView}
use Rattle.pc_session.proofs.Lending.{names_are, reason_right}
use Rattle.pc_session.proofs.session.SessionReasons.reason.Goals as goal

pub returns-clause-right : goal.returns-clause-right
returns-clause-right c =
    let s = c.self.inside.state in
    let names : Grounded → NameLists = λ g. g.names in
    let P : SessionView → Type 0 = λ v. IsReasonFor v.sheet c.args.target c.reason.result in
    let Q : SessionView → Type 0 = λ v. IsTargetIn v.sheet.universe c.args.target in
    subst P c.self.view_is
    (reason_right s.book s.cache.rows c.names.result.now c.args.target c.reason.result c.self.invariant.state.reasons (subst Q (sym c.self.view_is) c.requires)
    (names_are s.book s.theory.ground c.names.result.now (c.names.ensures ∙ ap names c.ground.ensures) c.self.invariant.state.known.ground) c.reason.ensures.row c.reason.ensures.lent)

pub returns-clause-kept : goal.returns-clause-kept
returns-clause-kept c =
    let P : SessionView → Type 0 = λ v. option_map justification_of c.reason.result ≡ row_of v.rows c.args.target in
    subst P c.self.view_is c.reason.ensures.row
