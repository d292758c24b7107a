use Rattle.std.proofs.Common.{ℕ, ◌/◌, refl, ap, ◌∙◌, slice_index_or}
use Rattle.std.specs.Int.{bit_at}
use Rattle.pc_log.proofs.PlaceLemmas.{put_here, put_others}
use Rattle.pc_log.proofs.bit_set.set_bit.Goals as goal

pub returns-clause-same : goal.returns-clause-same
returns-clause-same c = put_here c.args.words.now.items _ c.args.place c.with_bit.result c.requires refl c.with_bit.ensures.same

pub returns-clause-others : goal.returns-clause-others
returns-clause-others c =
    put_others c.args.words.now.items _ c.args.place c.with_bit.result c.requires refl
    (λ i differs. c.with_bit.ensures.others i differs ∙ ap (λ (w : ℕ). bit_at w i) (c.word_at-word.ensures ∙ ap (λ ws. slice_index_or ws (c.args.place / 64) 0) c.deref.ensures.value))
