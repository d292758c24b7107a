use Rattle.std.proofs.Common.{◌≡◌, ◌∙◌, true, refl, sym, subst, List}
use Rattle.std.specs.Cmp.Lexicographic.{pointwise}
use Rattle.pc_lits.specs.declared.literal.Lit.{Lit}
use Rattle.pc_lits.proofs.LitLemmas.{same_lit}
use Rattle.pc_support.specs.inside.Counters.{ArePlacesIn}
use Rattle.pc_support.proofs.KeptLemmas.{kept_none, same_literals}
use Rattle.pc_support.proofs.seen.turn_to.Goals as goal

pub returns-then-eq-clause-literals : goal.returns-then-eq-clause-literals
returns-then-eq-clause-literals c =
    same_literals c.args.kept.now.literals.items c.args.literals.now
    (subst (λ (ls : List Lit). pointwise same_lit ls c.args.literals.now ≡ true) c.as_slice.ensures.value (sym c.eq.ensures ∙ c.if-eq.true))

pub returns-clause-kept : goal.returns-clause-kept
returns-clause-kept c =
    kept_none c.args.watched.now _ c.new.ensures.items refl
    (subst (λ (ls : List Lit). ArePlacesIn ls c.args.watched.now c.in_ok-places.places.items) (sym c.in_ok-literals.ensures.items) c.in_ok-places.ensures)
