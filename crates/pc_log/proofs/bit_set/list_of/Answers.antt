use Rattle.std.proofs.Common.{ℕ, Bool, List, [], ◌∷◌, ◌++◌, ap, sym, ◌∙◌}
use Rattle.std.specs.Prelude.{cond}
use Rattle.pc_log.specs.inside.Bits.{bit}
use Rattle.pc_log.proofs.PlaceLemmas.{below_more, none_below}
use Rattle.pc_log.proofs.bit_set.list_of.Goals as goal

pub loop-place-init : goal.loop-place-init
loop-place-init c = c.new-list.ensures.items ∙ sym (none_below c.args.words.now)

pub loop-place-preserved : goal.loop-place-preserved
loop-place-preserved c =
    let place : ℕ = c.loop-place.place in
    c.in_ok-push_if.ensures ∙ ap (λ (b : Bool). c.loop-place.list.items ++ cond b (place ∷ []) []) c.has_bit.ensures
    ∙ ap (λ (ps : List ℕ). ps ++ cond (bit c.args.words.now place) (place ∷ []) []) c.loop-place.invariant ∙ sym (below_more c.args.words.now place)
