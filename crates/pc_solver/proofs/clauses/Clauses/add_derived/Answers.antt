use Rattle.std.proofs.Common.{◌≡◌, ◌∙◌, sym, ap, refl, subst, List, [], ◌∷◌, ◌++◌}
use Rattle.std.proofs.lemmas.Bool.{false≢true}
use Rattle.pc_solver.specs.declared.clauses.KeptClause.{KeptClause}
use Rattle.pc_solver.specs.declared.clauses.KeptClause.TheVariants.{Learned}
use Rattle.pc_solver.specs.Clauses.{ClausesView, AreClauses, KeepsProblem}
use Rattle.pc_solver.specs.InLog.{IsLogOf}
use Rattle.pc_solver.specs.inside.Search.{IsSearch, KnowsAll}
use Rattle.pc_solver.proofs.ClauseLemmas.{at_lists, learned_added, derived_logged, added_search, added_problem, learned_stands}
use Rattle.pc_solver.proofs.clauses.Clauses.add_derived.Goals as goal

pub invariant_of-self-2 : goal.invariant_of-self-2
invariant_of-self-2 c =
    let v : ClausesView = record { axioms = c.self.inside.axioms.now; used = c.self.inside.used.now; own = c.self.inside.own.now; banned = c.self.inside.banned; more = c.self.inside.more; kept = c.self.inside.kept.items; axiom_lines = c.self.inside.axiom_lines.items; known = c.self.inside.known } in
    let kept_is : c.push-2.new.self.items ≡ v.kept ++ Learned c.args.line ∷ [] = c.in_ok-push-2.ensures.items ∙ ap (λ (ks : List KeptClause). ks ++ Learned c.args.line ∷ []) c.in_ok-reserve.ensures.items in
    at_lists (λ m k. AreClauses (record v { more = m; kept = k }) c.self.inside.blocks) _ _ _ _ c.in_ok-push.ensures.ok kept_is (learned_added v c.self.inside.blocks c.self.invariant c.args.clause.now (Learned c.args.line) refl)

pub returns-clause-problem : goal.returns-clause-problem
returns-clause-problem c =
    let v : ClausesView = record { axioms = c.self.inside.axioms.now; used = c.self.inside.used.now; own = c.self.inside.own.now; banned = c.self.inside.banned; more = c.self.inside.more; kept = c.self.inside.kept.items; axiom_lines = c.self.inside.axiom_lines.items; known = c.self.inside.known } in
    let kept_is : c.push-2.new.self.items ≡ v.kept ++ Learned c.args.line ∷ [] = c.in_ok-push-2.ensures.items ∙ ap (λ (ks : List KeptClause). ks ++ Learned c.args.line ∷ []) c.in_ok-reserve.ensures.items in
    at_lists (λ m k. KeepsProblem c.args.self.now (record v { more = m; kept = k })) _ _ _ _ c.in_ok-push.ensures.ok kept_is (added_problem c.clauses_may_be_added.ensures c.quiet_is_kept.ensures v c.args.self.now c.self.inside.blocks c.self.invariant c.self.view_is c.args.clause.now (Learned c.args.line) refl)

pub returns-clause-search : goal.returns-clause-search
returns-clause-search c =
    let v : ClausesView = record { axioms = c.self.inside.axioms.now; used = c.self.inside.used.now; own = c.self.inside.own.now; banned = c.self.inside.banned; more = c.self.inside.more; kept = c.self.inside.kept.items; axiom_lines = c.self.inside.axiom_lines.items; known = c.self.inside.known } in
    let kept_is : c.push-2.new.self.items ≡ v.kept ++ Learned c.args.line ∷ [] = c.in_ok-push-2.ensures.items ∙ ap (λ (ks : List KeptClause). ks ++ Learned c.args.line ∷ []) c.in_ok-reserve.ensures.items in
    λ trail search. at_lists (λ m k. IsSearch (record v { more = m; kept = k }) trail) _ _ _ _ c.in_ok-push.ensures.ok kept_is (added_search c.clauses_may_be_added.ensures c.quiet_is_kept.ensures v c.args.self.now c.self.inside.blocks c.self.invariant c.self.view_is c.args.clause.now (Learned c.args.line) c.requires.over_own (λ some. absurd (false≢true some)) trail search)

pub returns-clause-log : goal.returns-clause-log
returns-clause-log c =
    let v : ClausesView = record { axioms = c.self.inside.axioms.now; used = c.self.inside.used.now; own = c.self.inside.own.now; banned = c.self.inside.banned; more = c.self.inside.more; kept = c.self.inside.kept.items; axiom_lines = c.self.inside.axiom_lines.items; known = c.self.inside.known } in
    let kept_is : c.push-2.new.self.items ≡ v.kept ++ Learned c.args.line ∷ [] = c.in_ok-push-2.ensures.items ∙ ap (λ (ks : List KeptClause). ks ++ Learned c.args.line ∷ []) c.in_ok-reserve.ensures.items in
    λ log stands logged. at_lists (λ m k. IsLogOf (record v { more = m; kept = k }) log) _ _ _ _ c.in_ok-push.ensures.ok kept_is (derived_logged v c.args.self.now c.self.inside.blocks c.self.invariant c.self.view_is c.args.clause.now c.args.line log stands logged)

pub returns-clause-stands : goal.returns-clause-stands
returns-clause-stands c =
    let v : ClausesView = record { axioms = c.self.inside.axioms.now; used = c.self.inside.used.now; own = c.self.inside.own.now; banned = c.self.inside.banned; more = c.self.inside.more; kept = c.self.inside.kept.items; axiom_lines = c.self.inside.axiom_lines.items; known = c.self.inside.known } in
    let kept_is : c.push-2.new.self.items ≡ v.kept ++ Learned c.args.line ∷ [] = c.in_ok-push-2.ensures.items ∙ ap (λ (ks : List KeptClause). ks ++ Learned c.args.line ∷ []) c.in_ok-reserve.ensures.items in
    learned_stands v _ c.args.line (subst KnowsAll (sym c.self.view_is) c.requires.all) c.self.invariant.kept_each kept_is
