use Rattle.std.proofs.Common.{◌≡◌, ap, ◌∙◌, map, slice_get}
use Rattle.pc_sheet.proofs.OneTruth.{reads_give_one_truth}
use Rattle.pc_sheet.specs.Nodes.{node_at, node_from, root_of}
use Rattle.pc_sheet.specs.Views.{rule_of}
use Rattle.pc_logic.specs.Outcome.{outcome_at}
use Rattle.pc_logic.proofs.PartialLemmas.{truth_given, truth_missing}
use Rattle.pc_logic.proofs.evaluation.eval_partial.Goals as goal

pub truth_at-requires-clause-sound : goal.truth_at-requires-clause-sound
truth_at-requires-clause-sound c = c.scheme.ensures.sound

pub truth_at-requires-clause-depths : goal.truth_at-requires-clause-depths
truth_at-requires-clause-depths c = c.bounded_rules.ensures.shallow

-- the result is the outcome at the node to which the path leads
outcome_is : (c : goal.After-truth_at) → c.truth_at.result ≡ outcome_at c.args.book.now.universe c.args.reads.now (node_at c.args.book.now c.args.path.now.rule c.args.path.now.steps.items)
outcome_is c =
    let u = c.args.book.now.universe in
    c.truth_at.ensures
    ∙ ap (λ v. outcome_at v c.args.reads.now (node_from v (root_of (slice_get (map rule_of c.bounded_rules.result.now) c.args.path.now.rule)) c.deref.result.now)) c.scheme.ensures.universe
    ∙ ap (λ rs. outcome_at u c.args.reads.now (node_from u (root_of (slice_get rs c.args.path.now.rule)) c.deref.result.now)) c.bounded_rules.ensures.items
    ∙ ap (λ ss. outcome_at u c.args.reads.now (node_from u (root_of (slice_get c.args.book.now.rules c.args.path.now.rule)) ss)) c.deref.ensures.value

pub returns-clause-truth : goal.returns-clause-truth
returns-clause-truth c =
    let sheet = c.args.book.now in
    truth_given reads_give_one_truth sheet.universe c.args.reads.now c.requires.distinct (node_at sheet c.args.path.now.rule c.args.path.now.steps.items) c.truth_at.result c.requires.atom (outcome_is c)

pub returns-clause-missing : goal.returns-clause-missing
returns-clause-missing c =
    let sheet = c.args.book.now in
    truth_missing reads_give_one_truth sheet.universe c.args.reads.now c.requires.distinct (node_at sheet c.args.path.now.rule c.args.path.now.steps.items) c.truth_at.result c.requires.atom (outcome_is c)
