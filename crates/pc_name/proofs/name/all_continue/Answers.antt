use Rattle.std.proofs.Common.{◌≡◌, true, false, rules, sym, ◌∙◌}
use Rattle.pc_name.proofs.Characters.{all_of_rest, all_of_more, false_is_true}
use Rattle.pc_name.proofs.name.all_continue.Goals as goal

pub returns-then-not-continues_name : goal.returns-then-not-continues_name
returns-then-not-continues_name c =
    let stops : c.continues_name.result ≡ false = search rules in
    (λ z. absurd (false_is_true z), λ all. absurd (false_is_true (sym stops ∙ c.continues_name.ensures ∙ (all_of_rest _ _ _ c.in-Some.ensures.steps.0 (c.loop-c.invariant.down all)).0)))

pub loop-c-preserved : goal.loop-c-preserved
loop-c-preserved c =
    let goes_on : c.continues_name.result ≡ true = search rules in
    record {
      down = λ all. (all_of_rest _ _ _ c.in-Some.ensures.steps.0 (c.loop-c.invariant.down all)).1;
      up = λ all. c.loop-c.invariant.up (all_of_more _ _ _ c.in-Some.ensures.steps.0 (sym c.continues_name.ensures ∙ goes_on) all);
    }
