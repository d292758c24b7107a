use Rattle.std.proofs.Common.{◌/◌, ◌%◌, refl, arith}
use Rattle.pc_support.proofs.WordLemmas.{refused, all_within, word_here, word_read, AreBitsWithin}
use Rattle.pc_support.proofs.words.are_within.Goals as goal

pub returns-then-not-covers : goal.returns-then-not-covers
returns-then-not-covers c =
    refused (AreBitsWithin c.args.part.now c.args.words.now c.args.from) c.covers.result c.if-not-covers.true
    (λ all. c.covers.ensures.1 (word_read c.args.part.now c.args.words.now c.args.from (c.args.from / 64) (c.args.from % 64) c.word_at.result c.word_at-2.result (omega arith) c.word_at.ensures c.word_at-2.ensures all))

pub returns-then-not-covers-2 : goal.returns-then-not-covers-2
returns-then-not-covers-2 c =
    refused (AreBitsWithin c.args.part.now c.args.words.now c.args.from) c.covers-in-loop-at.result c.if-not-covers-2.true
    (λ all. c.covers-in-loop-at.ensures.1 (word_read c.args.part.now c.args.words.now c.args.from c.loop-at.at 0 c.word_at-in-loop-at.result c.word_at-in-loop-at-2.result (let after = c.loop-at.auto.at in omega (arith, after)) c.word_at-in-loop-at.ensures c.word_at-in-loop-at-2.ensures all))

pub returns : goal.returns
returns c = (
  λ e. all_within c.args.part.now c.args.words.now c.args.from
      (word_here c.args.part.now c.args.words.now (c.args.from / 64) (c.args.from % 64) c.word_at.result c.word_at-2.result c.word_at.ensures c.word_at-2.ensures (c.covers.ensures.0 c.if-not-covers.false))
      (λ at after below. c.loop-at.invariant at after (omega arith)),
  λ all. refl,
)
