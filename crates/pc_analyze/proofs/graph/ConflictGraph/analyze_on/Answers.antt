use Rattle.std.proofs.Common.{◌∙◌, sym, ap, arith, subst, length, List, Bool, false, [], ◌∷◌, ◌++◌}
use Rattle.std.proofs.lemmas.List.{length-replicate}
use Rattle.pc_lits.specs.declared.literal.Lit.{Lit}
use Rattle.pc_lits.specs.Steps.{AreFalse}
use Rattle.pc_propagate.specs.declared.clauses.ClauseRef.{ClauseRef}
use Rattle.pc_propagate.specs.Entries.{falses}
use Rattle.pc_analyze.specs.Levels.{IsHighestLevel}
use Rattle.pc_analyze.specs.inside.Graph.{banned_of}
use Rattle.pc_analyze.proofs.MarkLemmas.{only_mark}
use Rattle.pc_analyze.proofs.LearnLemmas.{IsEnd, top_level, same_level, known_clause, first_marks, first_some, first_refuted, only_marked, learned, asserting}
use Rattle.pc_analyze.proofs.FreeLemmas.{marked_refuted}
use Rattle.pc_analyze.proofs.WayLemmas.{walked_point}
use Rattle.pc_analyze.specs.FirstPoint.{IsOfFirstFreePoint}
use Rattle.pc_analyze.proofs.AskedLemmas.{asked_conflict}
use Rattle.pc_analyze.proofs.graph.ConflictGraph.analyze_on.Goals as goal
use Rattle.pc_lits.specs.Literals.{negated}

pub start_of-start-requires-clause-levels : goal.start_of-start-requires-clause-levels
start_of-start-requires-clause-levels c =
    let highest = subst (λ (clause : List Lit). IsHighestLevel c.args.self.now.graph.trail.now.entries clause c.requires.level.0) (sym c.clause_of-falsified.ensures) c.requires.level.1 in
    omega (arith, top_level _ c.clause_of-falsified.result.now c.end_of-end.result c.requires.level.0 (c.end_of-end.ensures.last, c.end_of-end.ensures.reached) highest c.requires.level.2, c.requires.level.2)

pub start_of-start-requires-clause-within : goal.start_of-start-requires-clause-within
start_of-start-requires-clause-within c =
    let highest = subst (λ (clause : List Lit). IsHighestLevel c.args.self.now.graph.trail.now.entries clause c.requires.level.0) (sym c.clause_of-falsified.ensures) c.requires.level.1 in
    omega (arith, top_level _ c.clause_of-falsified.result.now c.end_of-end.result c.requires.level.0 (c.end_of-end.ensures.last, c.end_of-end.ensures.reached) highest c.requires.level.2, c.end_of-end.ensures.within)

pub mark-left-requires-clause-known : goal.mark-left-requires-clause-known
mark-left-requires-clause-known c = known_clause _ _ _ c.clause_of-falsified.ensures c.requires.conflict.1

pub resolve_level-requires-clause-left : goal.resolve_level-requires-clause-left
resolve_level-requires-clause-left c = first_marks _ c.clause_of-falsified.result.now c.end_of-end.result c.start_of-start.result c.mark-left.result _ _ _ c.requires.marks c.mark-left.ensures

pub resolve_level-requires-clause-some : goal.resolve_level-requires-clause-some
resolve_level-requires-clause-some c =
    let highest = subst (λ (clause : List Lit). IsHighestLevel c.args.self.now.graph.trail.now.entries clause c.requires.level.0) (sym c.clause_of-falsified.ensures) c.requires.level.1 in
    first_some c.args.self.now.graph.trail.now.entries c.clause_of-falsified.result.now c.end_of-end.result c.start_of-start.result c.mark-left.result _ 0 _ _ c.requires.marks c.mark-left.ensures
    (c.end_of-end.ensures.last, c.end_of-end.ensures.reached)
    (top_level _ c.clause_of-falsified.result.now c.end_of-end.result c.requires.level.0 (c.end_of-end.ensures.last, c.end_of-end.ensures.reached) highest c.requires.level.2).0 c.start_of-start.ensures.before

pub resolve_level-requires-clause-refuted : goal.resolve_level-requires-clause-refuted
resolve_level-requires-clause-refuted c =
    first_refuted _ _ c.args.self.now.graph.trail.now.entries c.clause_of-falsified.result.now c.args.conflict c.end_of-end.result c.start_of-start.result c.mark-left.result _ _ _ _ c.requires.marks c.mark-left.ensures
    (c.end_of-end.ensures.last, c.end_of-end.ensures.reached)
    (subst (AreFalse negated (falses c.args.self.now.graph.trail.now.entries)) (sym c.clause_of-falsified.ensures) c.requires.conflict.1) c.clause_of-falsified.ensures
    (c.in_ok-push.ensures.items ∙ ap (λ (hs : List ClauseRef). hs ++ c.args.conflict ∷ []) c.new-hints.ensures.items)

pub resolve_level-requires-clause-asked : goal.resolve_level-requires-clause-asked
resolve_level-requires-clause-asked c =
    asked_conflict _ _ c.args.self.now.graph.trail.now.entries c.clause_of-falsified.result.now c.args.conflict c.end_of-end.result c.start_of-start.result c.mark-left.result _ _ _ _ c.requires.marks c.mark-left.ensures
    c.clause_of-falsified.ensures (subst (AreFalse negated (falses c.args.self.now.graph.trail.now.entries)) (sym c.clause_of-falsified.ensures) c.requires.conflict.1)
    (c.in_ok-push.ensures.items ∙ ap (λ (hs : List ClauseRef). hs ++ c.args.conflict ∷ []) c.new-hints.ensures.items)

pub resolve_banned-requires-clause-within : goal.resolve_banned-requires-clause-within
resolve_banned-requires-clause-within c = omega (arith, c.in_ok-place.ensures.before, c.end_of-end.ensures.within)

pub resolve_banned-requires-clause-early : goal.resolve_banned-requires-clause-early
resolve_banned-requires-clause-early c = λ k marked. omega (arith, c.in_ok-place.ensures.refuted.below k marked)

pub resolve_banned-requires-clause-refuted : goal.resolve_banned-requires-clause-refuted
resolve_banned-requires-clause-refuted c = marked_refuted _ c.in_ok-place.place _ _ c.in_ok-place.ensures.refuted

pub returns-clause-learned : goal.returns-clause-learned
returns-clause-learned c =
    learned _ _ c.args.self.now.graph.trail.now c.in_ok-place.place c.start_of-start.result _ _ _ _ c.requires.graph.graph.entries c.in_ok-resolve_banned.ensures.refuted c.in_ok-resolve_banned.ensures.asked c.in_ok-clause.ensures
    (c.in_ok-resolve_banned.ensures.alone c.start_of-start.result (λ k late marked. only_mark c.resolve_level.new.marks c.start_of-start.result c.in_ok-place.place k c.in_ok-place.ensures.one c.in_ok-place.ensures.late late c.in_ok-place.ensures.marked marked)) (c.in_ok-resolve_banned.ensures.point c.in_ok-place.ensures.marked) c.in_ok-resolve_banned.ensures.refs c.reverse.ensures.items

pub returns-clause-free : goal.returns-clause-free
returns-clause-free c = λ m has is_banned.
    let at = only_marked _ _ _ c.in_ok-place.place c.start_of-start.result c.in_ok-clause.ensures (c.in_ok-resolve_banned.ensures.alone c.start_of-start.result (λ k late marked. only_mark c.resolve_level.new.marks c.start_of-start.result c.in_ok-place.place k c.in_ok-place.ensures.one c.in_ok-place.ensures.late late c.in_ok-place.ensures.marked marked)) (c.in_ok-resolve_banned.ensures.point c.in_ok-place.ensures.marked) m has in
    c.in_ok-resolve_banned.ensures.free at.0 at.1 (m, at.2, is_banned)

pub returns-clause-first_point : goal.returns-clause-first_point
returns-clause-first_point c = λ level highest.
    let clause = c.clause_of-falsified.result.now in
    let moved = sym c.clause_of-falsified.ensures in
    let end = c.end_of-end.result in
    let entries = c.args.self.now.graph.trail.now.entries in
    let here = subst (λ (x : List Lit). IsHighestLevel entries x level) moved highest in
    let given = subst (λ (x : List Lit). IsHighestLevel entries x c.requires.level.0) moved c.requires.level.1 in
    let positive = same_level _ clause c.requires.level.0 level given c.requires.level.2 here in
    let is_end : IsEnd entries clause end = (c.end_of-end.ensures.last, c.end_of-end.ensures.reached) in
    let top = top_level _ clause end level is_end here positive in
    let is_false = subst (AreFalse negated (falses entries)) moved c.requires.conflict.1 in
    subst (λ (x : List Lit). IsOfFirstFreePoint c.args.self.now.graph.axioms.now c.args.self.now.graph.more.now (banned_of c.args.self.now) entries x level c.in_ok-clause.clause.items) c.clause_of-falsified.ensures
    (walked_point c.args.self.now.graph.trail.now.attached c.args.self.now.graph.axioms.now c.args.self.now.graph.more.now (banned_of c.args.self.now) entries clause c.requires.graph.graph.over.justified c.requires.graph.graph.entries.different end c.start_of-start.result c.in_ok-place.place level
    c.mark-left.result _ _ _ c.resolve_level.new.marks c.resolve_banned.new.marks _ c.requires.marks c.mark-left.ensures is_end is_false (c.in_ok-place.ensures.met clause) (c.in_ok-resolve_banned.ensures.left clause)
    c.in_ok-place.ensures.free c.in_ok-place.ensures.one c.in_ok-place.ensures.marked c.in_ok-clause.ensures
    (c.in_ok-resolve_banned.ensures.alone c.start_of-start.result (λ k late marked. only_mark c.resolve_level.new.marks c.start_of-start.result c.in_ok-place.place k c.in_ok-place.ensures.one c.in_ok-place.ensures.late late c.in_ok-place.ensures.marked marked)) (c.in_ok-resolve_banned.ensures.point c.in_ok-place.ensures.marked)
    c.in_ok-place.ensures.late c.in_ok-place.ensures.before c.end_of-end.ensures.within (c.start_of-start.ensures.same ∙ top.1) top.1 c.start_of-start.ensures.starts)

pub returns-clause-asserting : goal.returns-clause-asserting
returns-clause-asserting c = λ level highest.
    let clause = c.clause_of-falsified.result.now in
    let moved = sym c.clause_of-falsified.ensures in
    let end = c.end_of-end.result in
    let here = subst (λ (x : List Lit). IsHighestLevel c.args.self.now.graph.trail.now.entries x level) moved highest in
    let given = subst (λ (x : List Lit). IsHighestLevel c.args.self.now.graph.trail.now.entries x c.requires.level.0) moved c.requires.level.1 in
    let positive = same_level _ clause c.requires.level.0 level given c.requires.level.2 here in
    let top = top_level _ clause end level (c.end_of-end.ensures.last, c.end_of-end.ensures.reached) here positive in
    asserting c.args.self.now.graph.trail.now.entries c.resolve_banned.new.marks _ end c.start_of-start.result c.in_ok-place.place level c.level_before-level.result c.requires.graph.graph.entries.different
    (omega (arith, c.resolve_banned.auto.marks, c.resolve_level.auto.marks, c.mark-left.auto.marks, ap length c.requires.marks, length-replicate {A = Bool} (length c.args.self.now.graph.trail.now.entries) false))
    c.in_ok-clause.ensures c.in_ok-place.ensures.late c.in_ok-place.ensures.before
    c.end_of-end.ensures.within (c.start_of-start.ensures.same ∙ top.1) top.1 positive c.start_of-start.ensures.starts c.level_before-level.ensures.highest c.level_before-level.ensures.reached
