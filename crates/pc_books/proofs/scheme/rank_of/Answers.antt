use Rattle.std.proofs.Common.{arith, ◌≤◌, ◌+◌, ◌*◌, ◌^◌, map}
use Rattle.std.proofs.lemmas.List.{length-map}
use Rattle.pc_sheet.specs.Sizes.{size_of}
use Rattle.pc_books.specs.SchemeView.{universe_of}
use Rattle.pc_books.proofs.RankLemmas.{as_many}
use Rattle.pc_books.proofs.Sizes.{power_four, rank_more}
use Rattle.pc_books.proofs.scheme.rank_of.Goals as goal

pub returns-then-args-sorts : goal.returns-then-args-sorts
returns-then-args-sorts c = record {
  exact = λ within.
      let many = as_many (map (size_of (universe_of c.args.scheme.now)) c.args.sorts.now) c.args.args.now within in
      let sizes = length-map c.args.sorts.now (size_of (universe_of c.args.scheme.now)) in
      absurd (c.if-args-sorts.true (omega (arith, many, sizes)));
}

pub overflow_mul-rank : goal.overflow_mul-rank
overflow_mul-rank c =
    let l = c.loop-i in
    let more : l.rank * c.size_of-size.result + 0 + 257 ≤ 257 * 256 ^ (l.i + 1) = rank_more l.rank c.size_of-size.result 0 l.i l.invariant.small c.size_of-size.ensures.small (omega arith) in
    let most : 256 ^ (l.i + 1) ≤ 2 ^ 32 = power_four (l.i + 1) (omega arith) in
    omega arith

pub overflow_add-rank : goal.overflow_add-rank
overflow_add-rank c =
    let l = c.loop-i in
    let more : l.rank * c.size_of-size.result + 0 + 257 ≤ 257 * 256 ^ (l.i + 1) = rank_more l.rank c.size_of-size.result 0 l.i l.invariant.small c.size_of-size.ensures.small (omega arith) in
    let most : 256 ^ (l.i + 1) ≤ 2 ^ 32 = power_four (l.i + 1) (omega arith) in
    omega (arith, more, most, c.from-place.ensures)
