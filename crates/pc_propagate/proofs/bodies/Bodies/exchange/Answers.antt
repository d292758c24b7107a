use Rattle.std.proofs.Common.{◌∷◌, ap, ◌∙◌, arith, get_or, ℕ, List}
use Rattle.pc_lits.proofs.RowsLemmas.{within_ends}
use Rattle.pc_lits.specs.Rows.{rows_from}
use Rattle.pc_propagate.proofs.BodyLemmas.{rows_swap_at, place_within}
use Rattle.pc_propagate.proofs.bodies.Bodies.exchange.Goals as goal

pub span-start-requires-clause-number : goal.span-start-requires-clause-number
span-start-requires-clause-number c = rw c.deref.ensures.value (within_ends _ _ _ c.args.number c.self.view_is c.requires.number)

pub overflow_add-start : goal.overflow_add-start
overflow_add-start c =
    let number = rw (← c.self.view_is) at c.requires.number in
    let first = rw (← c.self.view_is) at c.requires.first in
    let start = c.span-start.ensures.start ∙ ap (λ (es : List ℕ). get_or (0 ∷ es) c.args.number 0) c.deref.ensures.value in
    omega (arith, place_within c.self.inside.literals.items c.self.inside.ends.items c.args.number c.args.first _ c.self.invariant number first start, c.self.inside.literals.ok.0, c.self.inside.literals.ok.1, c.self.inside.literals.small)

pub overflow_add-start-2 : goal.overflow_add-start-2
overflow_add-start-2 c =
    let number = rw (← c.self.view_is) at c.requires.number in
    let second = rw (← c.self.view_is) at c.requires.second in
    let start = c.span-start.ensures.start ∙ ap (λ (es : List ℕ). get_or (0 ∷ es) c.args.number 0) c.deref.ensures.value in
    omega (arith, place_within c.self.inside.literals.items c.self.inside.ends.items c.args.number c.args.second _ c.self.invariant number second start, c.self.inside.literals.ok.0, c.self.inside.literals.ok.1, c.self.inside.literals.small)

pub swap-requires-clause-i_in_bounds : goal.swap-requires-clause-i_in_bounds
swap-requires-clause-i_in_bounds c =
    let number = rw (← c.self.view_is) at c.requires.number in
    let first = rw (← c.self.view_is) at c.requires.first in
    let start = c.span-start.ensures.start ∙ ap (λ (es : List ℕ). get_or (0 ∷ es) c.args.number 0) c.deref.ensures.value in
    omega (arith, place_within c.self.inside.literals.items c.self.inside.ends.items c.args.number c.args.first _ c.self.invariant number first start, c.self.inside.literals.ok.0)

pub swap-requires-clause-j_in_bounds : goal.swap-requires-clause-j_in_bounds
swap-requires-clause-j_in_bounds c =
    let number = rw (← c.self.view_is) at c.requires.number in
    let second = rw (← c.self.view_is) at c.requires.second in
    let start = c.span-start.ensures.start ∙ ap (λ (es : List ℕ). get_or (0 ∷ es) c.args.number 0) c.deref.ensures.value in
    omega (arith, place_within c.self.inside.literals.items c.self.inside.ends.items c.args.number c.args.second _ c.self.invariant number second start, c.self.inside.literals.ok.0)

pub returns : goal.returns
returns c =
    let number = rw (← c.self.view_is) at c.requires.number in
    let first = rw (← c.self.view_is) at c.requires.first in
    let second = rw (← c.self.view_is) at c.requires.second in
    let start = c.span-start.ensures.start ∙ ap (λ (es : List ℕ). get_or (0 ∷ es) c.args.number 0) c.deref.ensures.value in
    rw (← c.self.view_is) (ap (λ xs. rows_from xs 0 c.self.inside.ends.items) c.swap.ensures.items
    ∙ rows_swap_at c.self.inside.literals.items c.self.inside.ends.items c.args.number c.args.first c.args.second _ c.self.invariant number first second start)
