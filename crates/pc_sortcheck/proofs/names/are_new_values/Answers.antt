use Rattle.std.proofs.Common.{rules}
use Rattle.pc_sortcheck.proofs.NewNames.{new_values, each_new, sort_apart, values_different}
use Rattle.pc_sortcheck.proofs.names.are_new_values.Goals as goal

pub returns-then-not-are_new : goal.returns-then-not-are_new
returns-then-not-are_new c = (λ z. absurd (cc), λ h. (let y = c.are_new.ensures.1 (each_new c.args.book.now.universe c.args.name.now c.args.values.now h) in absurd (search rules)))

pub returns-then-is_among : goal.returns-then-is_among
returns-then-is_among c = (λ z. absurd (cc), λ h. absurd (sort_apart c.args.book.now.universe c.args.name.now c.args.values.now h (c.is_among.ensures.0 (search rules))))

pub returns : goal.returns
returns c = (
  λ z. new_values c.args.book.now.universe c.args.name.now c.args.values.now (c.are_new.ensures.0 (search rules)) (λ k. (let y = c.is_among.ensures.1 k in search rules)) (c.are_different.ensures.0 z),
  λ h. c.are_different.ensures.1 (values_different c.args.book.now.universe c.args.name.now c.args.values.now h),
)
