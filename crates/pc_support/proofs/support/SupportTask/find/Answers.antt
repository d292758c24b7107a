use Rattle.std.proofs.Common.{arith, ◌≡◌, Contains, ◌∙◌, List, map, subst, sym, ap, refl, IsSomeAnd, length, slice_get}
use Rattle.std.proofs.lemmas.List.{length-map}
use Rattle.std.proofs.lemmas.Option.{slice_get_read, slice_get_within}
use Rattle.pc_sheet.specs.Entailment.{IsLeastSupport}
use Rattle.pc_sheet.specs.MaximalSets.{IsContained}
use Rattle.pc_sheet.specs.declared.ids.Entry.{Entry}
use Rattle.pc_lits.specs.declared.literal.Var.{Var}
use Rattle.pc_solver.specs.Solver.{clauses_used}
use Rattle.pc_support.specs.inside.Places.{chosen}
use Rattle.pc_solver.specs.Spending.{basis_of}
use Rattle.pc_support.specs.inside.Narrowing.{IsNarrowed}
use Rattle.pc_components.specs.Pairs.{entry_literal, target_literal}
use Rattle.pc_support.specs.Parts.{DerivesFrom}
use Rattle.pc_solver.proofs.SpendingLemmas.{goes_within}
use Rattle.pc_support.proofs.NarrowingLemmas.{at_some, at_none}
use Rattle.pc_support.proofs.SupportLemmas.{own_here, known_here, all_counter, seen_then, none_implied, narrowed_here, countered_here, least_support, implied_by, world_has, derives}
use Rattle.pc_support.proofs.support.SupportTask.find.Goals as goal

pub narrow-requires-clause-askable : goal.narrow-requires-clause-askable
narrow-requires-clause-askable c =
    let asked = c.requires.asked in
    let begun = c.requires.begun in
    let i = c.args.begun.now.narrowing.inquiry in
    let sizes = c.args.self.ground.now.sizes in
    let entries = c.args.self.entries.now in
    let basis = basis_of c.args.solver.now in
    record {
      own = own_here asked.0 asked.1 sizes entries basis c.args.self.worlds.now c.args.target asked.2 i.question.literals.now i.question.goal i.question.watched.now (λ x h. c.requires.seen.own x (subst (λ (ws : List Var). Contains ws x) begun.watched h)) begun.literals begun.goal;
      no_blocks = c.requires.blocks;
      logged = c.requires.log;
      right = known_here asked.0 asked.1 sizes entries basis c.args.self.worlds.now c.args.target asked.2 i.question.literals.now i.question.goal c.args.log.now i.known.cores.items i.known.models i.question.watched.now i.known.rows begun.literals begun.goal begun.no_cores begun.no_rows
          (all_counter asked.0 asked.1 sizes entries basis c.args.self.worlds.now c.args.target asked.2 i.question.literals.now i.question.goal begun.before i.known.models begun.literals begun.goal begun.of_worlds (begun.adds (clauses_used c.args.solver.now.problem) c.requires.seen.rows));
    }

pub index-requires : goal.index-requires
index-requires c =
    let q = c.args.begun.now.narrowing.inquiry.question in
    let n = at_some (IsNarrowed (basis_of c.args.solver.now) q.literals.now q.goal c.narrow.new.log c.args.begun.now.narrowing.sets c.narrow.new.self.left 0) c.in_ok-found.found c.in-Some.witness c.in-Some.is c.in_ok-found.ensures.some in
    let below = slice_get_within c.args.begun.now.narrowing.sets c.in-Some.witness.world n.witness.set n.witness.at in
    let many : length c.args.begun.now.narrowing.sets ≡ length c.args.begun.now.numbers.items = c.requires.live.many in
    omega (arith, below, many)

pub returns-in-None-clause-found : goal.returns-in-None-clause-found
returns-in-None-clause-found c = record {
  least = λ sheet cells h. tt;
  implied = λ sheet cells h. (
    λ e. (cc),
    λ implied. absurd (none_implied sheet cells c.args.self.ground.now.sizes c.args.self.entries.now (basis_of c.args.solver.now) c.args.self.worlds.now c.args.target h c.consistent_is_in_maximal.ensures c.different_sublists_are_ordered.ensures (record { sets = c.args.begun.now.narrowing.sets; numbers = c.args.begun.now.numbers }) c.requires.live
        (countered_here (basis_of c.args.solver.now) c.args.begun.now.narrowing.inquiry.question c.args.begun.now.narrowing.inquiry.question (map (entry_literal c.args.self.ground.now.sizes) c.args.self.entries.now) (target_literal c.args.self.ground.now.sizes c.args.target) c.args.begun.now.narrowing.sets c.args.begun.now.narrowing.sets
        refl c.requires.begun.literals c.requires.begun.goal refl
        (at_none c.in_ok-found.found c.in-None.is c.in_ok-found.ensures.none)) implied),
  );
  world = tt;
  derived = tt;
}

pub returns-in_ok-support-in-Some-clause-found : goal.returns-in_ok-support-in-Some-clause-found
returns-in_ok-support-in-Some-clause-found c =
    let n = narrowed_here (basis_of c.args.solver.now) c.args.begun.now.narrowing.inquiry.question c.args.begun.now.narrowing.inquiry.question (map (entry_literal c.args.self.ground.now.sizes) c.args.self.entries.now) (target_literal c.args.self.ground.now.sizes c.args.target) c.narrow.new.log c.args.begun.now.narrowing.sets c.args.begun.now.narrowing.sets c.narrow.new.self.left c.in-Some.witness
    refl c.requires.begun.literals c.requires.begun.goal refl
    (at_some (IsNarrowed (basis_of c.args.solver.now) c.args.begun.now.narrowing.inquiry.question.literals.now c.args.begun.now.narrowing.inquiry.question.goal c.narrow.new.log c.args.begun.now.narrowing.sets c.narrow.new.self.left 0) c.in_ok-found.found c.in-Some.witness c.in-Some.is c.in_ok-found.ensures.some) in
    let items : c.in_ok-support-in-Some.support.items ≡ chosen c.narrow.new.self.left c.args.self.entries.now = c.in_ok-support-in-Some.ensures in
    record {
      least = λ sheet cells h. subst (λ (s : List Entry). IsLeastSupport sheet s c.args.target) (sym items) (least_support sheet cells c.args.self.ground.now.sizes c.args.self.entries.now (basis_of c.args.solver.now) c.args.self.worlds.now c.args.target h c.consistent_is_in_maximal.ensures c.different_sublists_are_ordered.ensures (record { sets = c.args.begun.now.narrowing.sets; numbers = c.args.begun.now.numbers }) c.requires.live c.narrow.new.log c.narrow.new.self.left c.in-Some.witness n);
      implied = λ sheet cells h. (λ e. implied_by sheet cells c.args.self.ground.now.sizes c.args.self.entries.now (basis_of c.args.solver.now) c.args.self.worlds.now c.args.target h c.consistent_is_in_maximal.ensures c.different_sublists_are_ordered.ensures (record { sets = c.args.begun.now.narrowing.sets; numbers = c.args.begun.now.numbers }) c.requires.live c.narrow.new.log c.narrow.new.self.left c.in-Some.witness n, λ implied. refl);
      world = subst (λ (s : List Entry). IsSomeAnd (slice_get c.args.self.worlds.now c.index.result.now) (λ w. IsContained s w.entries)) (sym items) (world_has c.requires.asked.0 c.requires.asked.1 c.args.self.ground.now.sizes c.args.self.entries.now (basis_of c.args.solver.now) c.args.self.worlds.now c.args.target c.requires.asked.2 c.consistent_is_in_maximal.ensures c.different_sublists_are_ordered.ensures (record { sets = c.args.begun.now.narrowing.sets; numbers = c.args.begun.now.numbers }) c.requires.live c.narrow.new.log c.narrow.new.self.left c.in-Some.witness n c.index.result.now (slice_get_read c.args.begun.now.numbers.items (length c.args.begun.now.numbers.items) c.in-Some.witness.world c.index.result.now refl (let below = slice_get_within c.args.begun.now.narrowing.sets c.in-Some.witness.world n.witness.set n.witness.at in let many : length c.args.begun.now.narrowing.sets ≡ length c.args.begun.now.numbers.items = c.requires.live.many in omega (arith, below, many)) c.index.ensures));
      derived = subst (λ (s : List Entry). DerivesFrom c.args.self.ground.now.sizes s c.args.target c.args.solver.now.problem.axioms c.narrow.new.log c.in-Some.witness.line) (sym items) (derives c.requires.asked.0 c.requires.asked.1 c.args.self.ground.now.sizes c.args.self.entries.now (basis_of c.args.solver.now) c.args.self.worlds.now c.args.target c.requires.asked.2 c.consistent_is_in_maximal.ensures c.different_sublists_are_ordered.ensures (record { sets = c.args.begun.now.narrowing.sets; numbers = c.args.begun.now.numbers }) c.requires.live c.narrow.new.log c.narrow.new.self.left c.in-Some.witness n);
    }

pub returns-in_err-append-clause-seen : goal.returns-in_err-append-clause-seen
returns-in_err-append-clause-seen c =
    seen_then (basis_of c.args.solver.now) c.args.tally.now c.narrow.new.tally c.narrow.new.log c.args.begun.now.narrowing.inquiry.question c.args.begun.now.narrowing.inquiry c.narrow.new.self.inquiry c.args.seen.now c.append.new.self
    refl c.in_ok-found.ensures.learns c.requires.begun.watched c.append.ensures.watched c.append.ensures.rows c.requires.seen

pub returns-in-None-clause-seen : goal.returns-in-None-clause-seen
returns-in-None-clause-seen c =
    seen_then (basis_of c.args.solver.now) c.args.tally.now c.narrow.new.tally c.narrow.new.log c.args.begun.now.narrowing.inquiry.question c.args.begun.now.narrowing.inquiry c.narrow.new.self.inquiry c.args.seen.now c.append.new.self
    refl c.in_ok-found.ensures.learns c.requires.begun.watched c.append.ensures.watched c.append.ensures.rows c.requires.seen

pub returns-in_err-support-in-Some-clause-seen : goal.returns-in_err-support-in-Some-clause-seen
returns-in_err-support-in-Some-clause-seen c =
    seen_then (basis_of c.args.solver.now) c.args.tally.now c.narrow.new.tally c.narrow.new.log c.args.begun.now.narrowing.inquiry.question c.args.begun.now.narrowing.inquiry c.narrow.new.self.inquiry c.args.seen.now c.append.new.self
    refl c.in_ok-found.ensures.learns c.requires.begun.watched c.append.ensures.watched c.append.ensures.rows c.requires.seen

pub returns-in_ok-support-in-Some-clause-seen : goal.returns-in_ok-support-in-Some-clause-seen
returns-in_ok-support-in-Some-clause-seen c =
    seen_then (basis_of c.args.solver.now) c.args.tally.now c.narrow.new.tally c.narrow.new.log c.args.begun.now.narrowing.inquiry.question c.args.begun.now.narrowing.inquiry c.narrow.new.self.inquiry c.args.seen.now c.append.new.self
    refl c.in_ok-found.ensures.learns c.requires.begun.watched c.append.ensures.watched c.append.ensures.rows c.requires.seen

pub returns-in_err-found-clause-goes_on : goal.returns-in_err-found-clause-goes_on
returns-in_err-found-clause-goes_on c =
    goes_within (length c.args.self.worlds.now) (length c.args.self.entries.now) _ _ c.args.solver.now c.narrow.new.solver c.args.tally.now c.narrow.new.tally c.args.log.now c.narrow.new.log (let few = c.requires.live.few in omega (arith, few))
    (ap length c.requires.begun.literals ∙ length-map c.args.self.entries.now (entry_literal c.args.self.ground.now.sizes)) c.in_err-found.ensures.goes_on

pub returns-in_err-append-clause-goes_on : goal.returns-in_err-append-clause-goes_on
returns-in_err-append-clause-goes_on c =
    goes_within (length c.args.self.worlds.now) (length c.args.self.entries.now) _ _ c.args.solver.now c.narrow.new.solver c.args.tally.now c.narrow.new.tally c.args.log.now c.narrow.new.log (let few = c.requires.live.few in omega (arith, few))
    (ap length c.requires.begun.literals ∙ length-map c.args.self.entries.now (entry_literal c.args.self.ground.now.sizes)) c.in_ok-found.ensures.goes_on

pub returns-in-None-clause-goes_on : goal.returns-in-None-clause-goes_on
returns-in-None-clause-goes_on c =
    goes_within (length c.args.self.worlds.now) (length c.args.self.entries.now) _ _ c.args.solver.now c.narrow.new.solver c.args.tally.now c.narrow.new.tally c.args.log.now c.narrow.new.log (let few = c.requires.live.few in omega (arith, few))
    (ap length c.requires.begun.literals ∙ length-map c.args.self.entries.now (entry_literal c.args.self.ground.now.sizes)) c.in_ok-found.ensures.goes_on

pub returns-in_err-support-in-Some-clause-goes_on : goal.returns-in_err-support-in-Some-clause-goes_on
returns-in_err-support-in-Some-clause-goes_on c =
    goes_within (length c.args.self.worlds.now) (length c.args.self.entries.now) _ _ c.args.solver.now c.narrow.new.solver c.args.tally.now c.narrow.new.tally c.args.log.now c.narrow.new.log (let few = c.requires.live.few in omega (arith, few))
    (ap length c.requires.begun.literals ∙ length-map c.args.self.entries.now (entry_literal c.args.self.ground.now.sizes)) c.in_ok-found.ensures.goes_on

pub returns-in_ok-support-in-Some-clause-goes_on : goal.returns-in_ok-support-in-Some-clause-goes_on
returns-in_ok-support-in-Some-clause-goes_on c =
    goes_within (length c.args.self.worlds.now) (length c.args.self.entries.now) _ _ c.args.solver.now c.narrow.new.solver c.args.tally.now c.narrow.new.tally c.args.log.now c.narrow.new.log (let few = c.requires.live.few in omega (arith, few))
    (ap length c.requires.begun.literals ∙ length-map c.args.self.entries.now (entry_literal c.args.self.ground.now.sizes)) c.in_ok-found.ensures.goes_on
