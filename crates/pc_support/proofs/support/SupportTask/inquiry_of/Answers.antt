use Rattle.std.proofs.Common.{◌∙◌, sym, subst}
use Rattle.pc_support.specs.inside.Counters.{AddsCounters}
use Rattle.pc_support.proofs.SeenLemmas.{seen_fewer}
use Rattle.pc_support.proofs.SupportLemmas.{positive_here}
use Rattle.pc_support.proofs.support.SupportTask.inquiry_of.Goals as goal

pub add_models-requires : goal.add_models-requires
add_models-requires c =
    let q = c.question_of-question in
    positive_here c.args.self.ground.now.sizes c.args.self.entries.now q.result.literals.now (q.ensures.literals ∙ (c.literals.ensures ∙ c.requires.placed.literals))

pub counter_models-requires : goal.counter_models-requires
counter_models-requires c = c.requires.placed.models.many

pub returns-in_err-add_models-clause-seen : goal.returns-in_err-add_models-clause-seen
returns-in_err-add_models-clause-seen c s seen = seen_fewer s c.args.seen.now c.add_models.new.self c.add_models.ensures.watched c.add_models.ensures.rows seen

pub returns-clause-seen : goal.returns-clause-seen
returns-clause-seen c s seen = seen_fewer s c.args.seen.now c.add_models.new.self c.add_models.ensures.watched c.add_models.ensures.rows seen

pub returns-clause-begun : goal.returns-clause-begun
returns-clause-begun c =
    let q = c.question_of-question in
    record {
      literals = q.ensures.literals ∙ (c.literals.ensures ∙ c.requires.placed.literals);
      goal = q.ensures.goal;
      watched = q.ensures.watched ∙ c.watched.ensures ∙ sym c.add_models.ensures.watched;
      no_cores = c.new.ensures.cores;
      no_rows = c.new.ensures.rows;
      before = c.in_ok-models.models;
      of_worlds = c.in_ok-models.ensures c.args.self.ground.now.sizes c.args.self.entries.now c.requires.placed;
      adds = λ clauses seen. subst (AddsCounters clauses q.result.literals.now q.result.goal c.in_ok-models.models) (sym c.new.ensures.models) (c.in_ok-add_models.ensures.adds clauses seen);
    }
