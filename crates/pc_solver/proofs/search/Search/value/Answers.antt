use Rattle.std.proofs.Common.{◌∙◌, sym, subst, ap, AllPairs}
use Rattle.pc_propagate.specs.Entries.{literals, HasValue, Differ}
use Rattle.pc_solver.specs.Answers.{truth_in}
use Rattle.pc_solver.specs.Banned.{trues_of}
use Rattle.pc_solver.specs.inside.Search.{SearchView}
use Rattle.pc_solver.proofs.BannedLemmas.{value_some}
use Rattle.pc_solver.proofs.search.Search.value.Goals as goal

pub returns-in-Some : goal.returns-in-Some
returns-in-Some c =
    let s = c.self.inside in
    value_some s.clauses.own s.clauses.banned s.trail.entries c.args.v c.in-Some.value (subst (λ (x : SearchView). AllPairs Differ x.trail.entries) (sym c.self.view_is) c.recall.ensures.entries.different) c.in-Some.ensures.some
    ∙ ap (λ (x : SearchView). truth_in (trues_of x.clauses.own x.clauses.banned (literals x.trail.entries)) c.args.v) c.self.view_is

pub unset_value-requires-clause-unset : goal.unset_value-requires-clause-unset
unset_value-requires-clause-unset c = subst (λ (x : SearchView). ¬ HasValue x.trail.entries c.args.v) c.self.view_is c.in-None.ensures.none
