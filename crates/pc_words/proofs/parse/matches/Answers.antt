use Rattle.std.proofs.Common.{◌≡◌, rules, ap, ap₂, refl, map, string_bytes, codes, true, ◌∙◌}
use Rattle.std.proofs.lemmas.Result.{IfErr-weaker, IfOk-weaker}
use Rattle.clap.specs.Words.{app_of, first_of, is_simple, matches_of, rule_of, takes, with_rule, found_of}
use Rattle.clap.proofs.WalkLemmas.{first_value-rows}
use Rattle.clap.proofs.OnLiterals.{clap_on_literals}
use Rattle.pc_words.specs.inside.Parse.{app, plain_app, mode_rule, word_rule, budget_rule}
use Rattle.pc_words.proofs.Decided.{parted}
use Rattle.pc_words.proofs.Parsing.{gives}
use Rattle.pc_words.proofs.parse.matches.Goals as goal

app_simple : is_simple app ≡ true
unfolding clap_on_literals
app_simple = refl

pub returns : goal.returns
returns c =
    let mode_is : rule_of c.required-mode.result ≡ mode_rule = search rules in
    let word_is : rule_of c.new-word.result ≡ word_rule = search rules in
    let budget_is : rule_of c.long-budget.result ≡ budget_rule = search rules in
    let plain_is : app_of c.disable_help_flag.result ≡ plain_app = search rules in
    let app_is : app_of c.in_ok-command.command ≡ app =
    c.in_ok-command.ensures.shape (search rules)
    ∙ ap₂ with_rule (c.in_ok-arg-2.ensures.shape (search rules) ∙ ap₂ with_rule (c.in_ok-arg.ensures.shape (search rules) ∙ ap₂ with_rule plain_is mode_is) word_is) budget_is in
    let parse = c.try_get_matches_from in
    let simple = ap is_simple app_is ∙ app_simple in
    let words = map string_bytes c.args.words.now in
    let some = c.requires in
    let here = parted words some.0 some.1 in
    record {
      ok = λ p is. IfOk-weaker parse.result _ _ (λ m h.
          let rows = (h simple).0 ∙ ap (λ a. matches_of a words) app_is in
          let given = gives words some.0 some.1 p is in
          record {
            mode = first_value-rows (found_of m) (codes "mode") ∙ ap (first_of (codes "mode")) rows ∙ given.mode;
            word = first_value-rows (found_of m) (codes "word") ∙ ap (first_of (codes "word")) rows ∙ given.word;
            budget = first_value-rows (found_of m) (codes "budget") ∙ ap (first_of (codes "budget")) rows ∙ given.budget;
          }) parse.ensures.matches;
      err = IfErr-weaker parse.result _ _ (λ er h. h (ap (λ a. takes a words) app_is ∙ (gives words some.0 some.1 here.parts here.are).takes)) parse.ensures.passes;
    }
