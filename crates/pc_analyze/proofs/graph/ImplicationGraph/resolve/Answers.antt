use Rattle.std.proofs.Common.{arith, Contains}
use Rattle.pc_propagate.specs.declared.clauses.ClauseRef.{ClauseRef}
use Rattle.std.proofs.lemmas.List.Elements.{All-push, All-contains}
use Rattle.pc_propagate.specs.Refs.{IsRef}
use Rattle.pc_analyze.proofs.MarkLemmas.{unmarked}
use Rattle.pc_analyze.proofs.StepLemmas.{reason_says, reason_known, resolved, no_entry}
use Rattle.pc_analyze.proofs.AskedLemmas.{asked_resolve}
use Rattle.pc_analyze.proofs.WayLemmas.{met_resolve}
use Rattle.pc_analyze.proofs.graph.ImplicationGraph.resolve.Goals as goal

pub clause_of-requires : goal.clause_of-requires
clause_of-requires c = All-contains (IsRef c.args.self.now.axioms.now c.args.self.now.more.now) c.args.self.now.trail.now.attached c.args.reason c.requires.graph.over.stand (reason_says _ _ _ _ c.args.place c.args.reason no_entry c.requires.graph.over.justified c.requires.within c.requires.reason).0

pub mark-requires-clause-known : goal.mark-requires-clause-known
mark-requires-clause-known c = reason_known _ _ _ _ c.args.place c.args.reason _ no_entry c.requires.graph.over.justified c.requires.within c.requires.reason c.clause_of.ensures

pub returns-clause-counted : goal.returns-clause-counted
returns-clause-counted c = λ late. omega (arith, unmarked c.args.marks.now c.args.start c.args.place late c.requires.marked, c.mark.ensures.counted)

pub returns-clause-refs : goal.returns-clause-refs
returns-clause-refs c = λ refs. rw c.in_ok-push.ensures.items
    (All-push (λ (r : ClauseRef). Contains c.args.self.now.trail.now.attached r) _ c.args.reason refs (reason_says _ _ _ _ c.args.place c.args.reason no_entry c.requires.graph.over.justified c.requires.within c.requires.reason).0)

pub returns-clause-met : goal.returns-clause-met
returns-clause-met c = λ conflict h.
    met_resolve _ _ _ _ conflict c.requires.graph.over.justified c.requires.graph.entries.different c.args.place c.args.marks.now h c.args.start c.mark.result c.args.reason _ _ c.requires.within c.requires.reason c.requires.size c.clause_of.ensures
    c.requires.marked c.mark.ensures

pub returns-clause-asked : goal.returns-clause-asked
returns-clause-asked c = λ h.
    asked_resolve _ _ _ _ c.args.place c.args.start c.args.reason _ c.args.marks.now _ _ _ c.mark.result c.requires.graph.over.justified c.requires.within c.requires.reason c.requires.size c.clause_of.ensures c.mark.ensures
    c.in_ok-push.ensures.items h

pub returns-clause-refuted : goal.returns-clause-refuted
returns-clause-refuted c = λ base later asked h.
    resolved _ _ _ _ c.args.place c.args.start c.args.reason _ no_entry c.args.marks.now _ _ _ c.mark.result base c.requires.graph.over.justified c.requires.within c.requires.reason c.requires.size c.clause_of.ensures c.mark.ensures
    c.in_ok-push.ensures.items c.requires.graph.entries.different later c.requires.marked asked h
