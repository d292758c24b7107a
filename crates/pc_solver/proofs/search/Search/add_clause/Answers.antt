use Rattle.std.proofs.Common.{◌∙◌, sym, refl, subst, arith, List, All, length}
use Rattle.pc_lits.specs.declared.literal.Lit.{Lit}
use Rattle.pc_lits.specs.Literals.{negated}
use Rattle.pc_lits.specs.Steps.{IsTautology}
use Rattle.pc_propagate.specs.declared.clauses.ClauseRef.{ClauseRef}
use Rattle.pc_propagate.specs.Refs.{IsRef}
use Rattle.pc_solver.specs.Clauses.{IsKnown, IsOverOwn, used_clauses}
use Rattle.pc_solver.specs.New.{HasNoForced}
use Rattle.pc_solver.specs.Banned.{HasNoBanned}
use Rattle.pc_solver.specs.InLog.{ContainsNoKnown, IsShort}
use Rattle.pc_propagate.specs.Entries.{AreEntries}
use Rattle.pc_solver.specs.inside.Search.{SearchView}
use Rattle.pc_solver.proofs.ClauseLemmas.{IsSearch-same}
use Rattle.pc_solver.proofs.LearnLemmas.{learned_seen, asserting_seen, learn_nothing, clause_own, known_hints, ref_hints, none_contained, none_forced, learns_none, learns_then, has_learned, good_lines, hints_short, lent_short}
use Rattle.pc_solver.proofs.search.Search.add_clause.Goals as goal

pub returns-in_err-learned-clause-learns : goal.returns-in_err-learned-clause-learns
returns-in_err-learned-clause-learns c = learn_nothing c.args.self.now c.args.tally.now c.args.log.now c.requires.log

pub raise_met-requires : goal.raise_met-requires
raise_met-requires c =
    subst (λ (hs : List ClauseRef). All (IsRef c.axioms.result.now c.more.result.now) hs) (sym c.deref.ensures.value) (ref_hints _ _ c.self.inside.clauses c.self.inside.trail c.in_ok-learned.learned.hints.items c.axioms.ensures.is c.more.ensures c.self.invariant (learned_seen c.args.self.now c.self.inside.clauses c.self.inside.trail c.self.view_is c.in_ok-learned.learned.clause.items c.in_ok-learned.learned.hints.items c.in_ok-learned.ensures.learned).are_attached)

pub lines_of-requires-clause-references : goal.lines_of-requires-clause-references
lines_of-requires-clause-references c =
    subst (λ (hs : List ClauseRef). All (IsKnown c.self.inside.clauses) hs) (sym c.deref-2.ensures.value) (known_hints c.self.inside.clauses c.self.inside.trail c.in_ok-learned.learned.hints.items c.self.invariant (learned_seen c.args.self.now c.self.inside.clauses c.self.inside.trail c.self.view_is c.in_ok-learned.learned.clause.items c.in_ok-learned.learned.hints.items c.in_ok-learned.ensures.learned).are_attached)

pub invariant_of-self : goal.invariant_of-self
invariant_of-self c = IsSearch-same c.self.inside.clauses c.lines_of.new.self c.self.inside.trail c.in_err-lines.ensures.same c.self.invariant

pub returns-in_err-lines-clause-learns : goal.returns-in_err-lines-clause-learns
returns-in_err-lines-clause-learns c =
    learns_none c.args.self.now c.self.inside.clauses c.lines_of.new.self c.self.inside.trail c.self.view_is c.args.tally.now c.args.log.now c.lines_of.new.log c.in_err-lines.ensures.same c.in_err-lines.ensures.log c.in_err-lines.ensures.grows

pub add_learned-requires-clause-over_own : goal.add_learned-requires-clause-over_own
add_learned-requires-clause-over_own c =
    subst (IsOverOwn c.lines_of.new.self.own) (sym c.deref-3.ensures.value) (rw c.in_ok-lines.ensures.same.own (clause_own c.self.inside.clauses.own c.self.inside.trail.entries c.in_ok-learned.learned.clause.items c.self.invariant.own (learned_seen c.args.self.now c.self.inside.clauses c.self.inside.trail c.self.view_is c.in_ok-learned.learned.clause.items c.in_ok-learned.learned.hints.items c.in_ok-learned.ensures.learned).is_false))

pub add_learned-requires-clause-new : goal.add_learned-requires-clause-new
add_learned-requires-clause-new c =
    let level = c.requires.level in
    let learned = learned_seen c.args.self.now c.self.inside.clauses c.self.inside.trail c.self.view_is c.in_ok-learned.learned.clause.items c.in_ok-learned.learned.hints.items c.in_ok-learned.ensures.learned in
    let asserting = asserting_seen c.args.self.now c.self.inside.clauses c.self.inside.trail c.self.view_is c.in_ok-learned.learned.clause.items level.0 c.in_ok-learned.learned.level (c.in_ok-learned.ensures.asserting level.0 level.1) in
    subst (ContainsNoKnown c.lines_of.new.self) (sym c.deref-3.ensures.value) (none_contained c.learned_clauses_are_new.ensures _ _ c.self.inside.clauses c.lines_of.new.self c.self.inside.trail c.in_ok-learned.learned.clause.items c.in_ok-learned.learned.hints.items level.0 c.in_ok-learned.learned.level refl refl (subst (λ (s : SearchView). AreEntries s.trail.variables s.trail.entries) (sym c.self.view_is) c.recall.ensures.entries) c.self.invariant learned asserting c.in_ok-lines.ensures.same).1

pub add_learned-requires-clause-no_tautology : goal.add_learned-requires-clause-no_tautology
add_learned-requires-clause-no_tautology c =
    let level = c.requires.level in
    let learned = learned_seen c.args.self.now c.self.inside.clauses c.self.inside.trail c.self.view_is c.in_ok-learned.learned.clause.items c.in_ok-learned.learned.hints.items c.in_ok-learned.ensures.learned in
    let asserting = asserting_seen c.args.self.now c.self.inside.clauses c.self.inside.trail c.self.view_is c.in_ok-learned.learned.clause.items level.0 c.in_ok-learned.learned.level (c.in_ok-learned.ensures.asserting level.0 level.1) in
    subst (λ (cl : List Lit). ¬ IsTautology negated cl) (sym c.deref-3.ensures.value) (none_contained c.learned_clauses_are_new.ensures _ _ c.self.inside.clauses c.lines_of.new.self c.self.inside.trail c.in_ok-learned.learned.clause.items c.in_ok-learned.learned.hints.items level.0 c.in_ok-learned.learned.level refl refl (subst (λ (s : SearchView). AreEntries s.trail.variables s.trail.entries) (sym c.self.view_is) c.recall.ensures.entries) c.self.invariant learned asserting c.in_ok-lines.ensures.same).0

pub add_learned-requires-clause-unforced : goal.add_learned-requires-clause-unforced
add_learned-requires-clause-unforced c =
    let level = c.requires.level in
    let learned = learned_seen c.args.self.now c.self.inside.clauses c.self.inside.trail c.self.view_is c.in_ok-learned.learned.clause.items c.in_ok-learned.learned.hints.items c.in_ok-learned.ensures.learned in
    let asserting = asserting_seen c.args.self.now c.self.inside.clauses c.self.inside.trail c.self.view_is c.in_ok-learned.learned.clause.items level.0 c.in_ok-learned.learned.level (c.in_ok-learned.ensures.asserting level.0 level.1) in
    subst (HasNoForced (used_clauses c.lines_of.new.self.axioms c.lines_of.new.self.used)) (sym c.deref-3.ensures.value) (none_forced _ _ c.self.inside.clauses c.lines_of.new.self c.self.inside.trail c.in_ok-learned.learned.clause.items c.in_ok-learned.learned.hints.items level.0 c.in_ok-learned.learned.level refl refl (subst (λ (s : SearchView). AreEntries s.trail.variables s.trail.entries) (sym c.self.view_is) c.recall.ensures.entries) c.self.invariant learned asserting c.in_ok-lines.ensures.same)

pub add_learned-requires-clause-free : goal.add_learned-requires-clause-free
add_learned-requires-clause-free c =
    subst (HasNoBanned c.lines_of.new.self.banned) (sym c.deref-3.ensures.value)
    (rw c.in_ok-lines.ensures.same.banned (subst (λ (s : SearchView). HasNoBanned s.clauses.banned c.in_ok-learned.learned.clause.items) (sym c.self.view_is) c.in_ok-learned.ensures.free))

pub add_learned-requires-clause-good : goal.add_learned-requires-clause-good
add_learned-requires-clause-good c =
    good_lines c.self.inside.clauses c.lines_of.new.self _ _ c.lines_of.new.log c.in_ok-learned.learned.clause.items c.deref-3.result.now c.in_ok-learned.learned.hints.items c.deref-2.result.now c.in_ok-lines.lines.items c.deref-4.result.now refl refl c.in_ok-lines.ensures.same
    c.deref-3.ensures.value c.deref-2.ensures.value c.deref-4.ensures.value c.in_ok-lines.ensures.are (learned_seen c.args.self.now c.self.inside.clauses c.self.inside.trail c.self.view_is c.in_ok-learned.learned.clause.items c.in_ok-learned.learned.hints.items c.in_ok-learned.ensures.learned).good

pub add_learned-requires-clause-short : goal.add_learned-requires-clause-short
add_learned-requires-clause-short c =
    let clause = c.in_ok-learned.learned.clause.items in
    let learned = learned_seen c.args.self.now c.self.inside.clauses c.self.inside.trail c.self.view_is c.in_ok-learned.learned.clause.items c.in_ok-learned.learned.hints.items c.in_ok-learned.ensures.learned in
    let over = clause_own c.self.inside.clauses.own c.self.inside.trail.entries clause c.self.invariant.own learned.is_false in
    let short = hints_short c.needed_hints_are_few.ensures c.self.inside.clauses c.self.inside.trail _ _ clause c.in_ok-learned.learned.hints.items refl refl c.self.invariant learned.are_attached learned.different over learned.good learned.needed in
    lent_short c.self.inside.clauses c.lines_of.new.self clause c.deref-3.result.now c.deref-2.result.now c.in_ok-lines.lines.items c.deref-4.result.now c.lines_of.new.log c.in_ok-lines.ensures.same c.deref-3.ensures.value c.deref-4.ensures.value c.in_ok-lines.ensures.are
    (subst (λ (hs : List ClauseRef). IsShort c.self.inside.clauses.own clause (length hs)) (sym c.deref-2.ensures.value) short)

pub invariant_of-self-in_err-add_learned : goal.invariant_of-self-in_err-add_learned
invariant_of-self-in_err-add_learned c = c.in_err-add_learned.ensures.search c.self.inside.trail (IsSearch-same c.self.inside.clauses c.lines_of.new.self c.self.inside.trail c.in_ok-lines.ensures.same c.self.invariant)

pub returns-in_err-add_learned-clause-learns : goal.returns-in_err-add_learned-clause-learns
returns-in_err-add_learned-clause-learns c =
    learns_then c.args.self.now c.self.inside.clauses c.lines_of.new.self c.add_learned.new.self c.self.inside.trail c.self.view_is c.args.tally.now c.args.tally.now c.args.log.now c.lines_of.new.log c.add_learned.new.log 0 (omega arith) c.in_ok-lines.ensures.same c.in_ok-lines.ensures.grows c.in_err-add_learned.ensures.problem c.in_err-add_learned.ensures.no_block
    c.in_err-add_learned.ensures.log c.in_err-add_learned.ensures.err (omega arith) refl refl refl

pub invariant_of-self-2 : goal.invariant_of-self-2
invariant_of-self-2 c = c.in_ok-add_learned.ensures.search c.self.inside.trail (IsSearch-same c.self.inside.clauses c.lines_of.new.self c.self.inside.trail c.in_ok-lines.ensures.same c.self.invariant)

pub returns-clause-learns : goal.returns-clause-learns
returns-clause-learns c =
    learns_then c.args.self.now c.self.inside.clauses c.lines_of.new.self c.add_learned.new.self c.self.inside.trail c.self.view_is c.args.tally.now _ c.args.log.now c.lines_of.new.log c.add_learned.new.log 1 (omega arith) c.in_ok-lines.ensures.same c.in_ok-lines.ensures.grows c.in_ok-add_learned.ensures.problem c.in_ok-add_learned.ensures.no_block
    c.in_ok-add_learned.ensures.log c.in_ok-add_learned.ensures.grows refl refl refl refl

pub returns-clause-learned : goal.returns-clause-learned
returns-clause-learned c =
    let level = c.requires.level in
    let learned = learned_seen c.args.self.now c.self.inside.clauses c.self.inside.trail c.self.view_is c.in_ok-learned.learned.clause.items c.in_ok-learned.learned.hints.items c.in_ok-learned.ensures.learned in
    let asserting = asserting_seen c.args.self.now c.self.inside.clauses c.self.inside.trail c.self.view_is c.in_ok-learned.learned.clause.items level.0 c.in_ok-learned.learned.level (c.in_ok-learned.ensures.asserting level.0 level.1) in
    has_learned _ _ c.self.inside.clauses c.add_learned.new.self c.self.inside.trail c.in_ok-learned.learned.clause.items c.in_ok-learned.learned.hints.items level.0 c.in_ok-learned.learned.level refl (c.in_ok-add_learned.ensures.problem.axioms ∙ c.in_ok-lines.ensures.same.axioms)
    c.in_ok-add_learned.ensures.next (c.in_ok-add_learned.ensures.is ∙ c.deref-3.ensures.value) c.in_ok-add_learned.ensures.stands learned asserting
