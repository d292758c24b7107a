use Rattle.std.proofs.Common.{ℕ, ap, arith}
use Rattle.pc_lits.specs.declared.literal.Lit.{Lit}
use Rattle.pc_checker.proofs.sets.is_used.Goals as goal

pub is_true-requires : goal.is_true-requires
is_true-requires c =
    let number : Lit → ℕ = λ l. l.variable.0 in
    omega (arith, c.requires.within, ap number c.mark_of.ensures)

pub returns : goal.returns
returns c = λ entries marked.
    let is = rw c.mark_of.ensures at c.is_true.ensures in
    let of = marked c.args.entry c.requires in
    (λ h. of.0 (is.0 h), λ h. is.1 (of.1 h))
