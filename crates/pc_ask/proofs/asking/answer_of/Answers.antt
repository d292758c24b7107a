use Rattle.std.proofs.Common.{◌∙◌, ap, subst}
use Rattle.pc_ground.specs.GroundView.{Grounded}
use Rattle.pc_ask.specs.inside.Answered.{IsFoundFor, SearchSays}
use Rattle.pc_ask.proofs.asking.answer_of.Goals as goal

pub returns-in-None : goal.returns-in-None
returns-in-None c sheet f log is says = subst (SearchSays sheet f log) c.in-None.is says

pub returns-in_ok-names-in-Some : goal.returns-in_ok-names-in-Some
returns-in_ok-names-in-Some c sheet f log is says =
    let found : IsFoundFor sheet f log c.in-Some.field-0 = subst (SearchSays sheet f log) c.in-Some.is says in
    record {
      least = found.least;
      shown = found.shown;
      names = c.in_ok-names-in-Some.ensures ∙ (c.names.ensures ∙ ap (λ (x : Grounded). x.names) is);
      denied = found.denied;
    }
