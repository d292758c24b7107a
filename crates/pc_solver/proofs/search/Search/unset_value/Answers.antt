use Rattle.std.proofs.Common.{◌∙◌, sym, subst, ap, AllPairs, Contains, Bool, List, Option}
use Rattle.pc_propagate.specs.Entries.{literals, HasValue, Differ}
use Rattle.pc_solver.specs.Answers.{truth_in}
use Rattle.pc_solver.specs.Banned.{banned_sign, trues_of}
use Rattle.pc_solver.specs.inside.Search.{SearchView}
use Rattle.pc_solver.proofs.BannedLemmas.{value_banned, value_none}
use Rattle.pc_solver.proofs.search.Search.unset_value.Goals as goal

pub returns-in-Some : goal.returns-in-Some
returns-in-Some c =
    let s = c.self.inside in
    value_banned s.clauses.own s.clauses.banned s.trail.entries c.args.v c.in-Some.sign (subst (λ (x : SearchView). AllPairs Differ x.trail.entries) (sym c.self.view_is) c.recall.ensures.entries.different)
    (subst (λ (x : SearchView). Contains x.clauses.own c.args.v) (sym c.self.view_is) c.requires.own) (subst (λ (x : SearchView). ¬ HasValue x.trail.entries c.args.v) (sym c.self.view_is) c.requires.unset)
    (sym (ap (λ (b : List (Option Bool)). banned_sign b c.args.v) c.banned.ensures) ∙ sym c.sign.ensures ∙ c.in-Some.is)
    ∙ ap (λ (x : SearchView). truth_in (trues_of x.clauses.own x.clauses.banned (literals x.trail.entries)) c.args.v) c.self.view_is

pub returns-in-None : goal.returns-in-None
returns-in-None c =
    let s = c.self.inside in
    value_none s.clauses.own s.clauses.banned s.trail.entries c.args.v (subst (λ (x : SearchView). ¬ HasValue x.trail.entries c.args.v) (sym c.self.view_is) c.requires.unset)
    (sym (ap (λ (b : List (Option Bool)). banned_sign b c.args.v) c.banned.ensures) ∙ sym c.sign.ensures ∙ c.in-None.is)
    ∙ ap (λ (x : SearchView). truth_in (trues_of x.clauses.own x.clauses.banned (literals x.trail.entries)) c.args.v) c.self.view_is
