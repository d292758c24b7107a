use Rattle.std.proofs.Common.{ℕ, Bool, [], Option, None, Some, length, get_or, ap, sym, ◌∙◌, subst, arith}
use Rattle.std.proofs.lemmas.List.{take_all, length-set, length-replicate}
use Rattle.pc_lits.specs.declared.literal.Lit.{Lit}
use Rattle.pc_checker.specs.Entered.{AreUsesMarked, pair_place}
use Rattle.pc_checker.specs.Made.{entries_of}
use Rattle.pc_checker.proofs.ClaimLemmas.{no_said}
use Rattle.pc_checker.proofs.EnteredLemmas.{still_has_place, no_uses_marked, use_more}
use Rattle.pc_checker.proofs.sets.mark_uses.Goals as goal

pub loop-said-init : goal.loop-said-init
loop-said-init c = record {
  marked = subst (AreUsesMarked []) (sym c.clear.ensures) (no_uses_marked (length c.args.marks.now));
  room = ap length c.clear.ensures ∙ length-replicate {A = Option Bool} (length c.args.marks.now) None;
}

pub assign-requires : goal.assign-requires
assign-requires c =
    let x = (get_or c.args.uses.now c.loop-said.said-index no_said).entry in
    let number : Lit → ℕ = λ l. l.variable.0 in
    let place = still_has_place c.args.marks.now c.loop-said.marks x c.loop-said.invariant.room (c.requires c.loop-said.said-index no_said c.loop-said-test.true) in
    omega (arith, place.within, ap number c.mark_of.ensures)

pub loop-said-preserved : goal.loop-said-preserved
loop-said-preserved c =
    let x = (get_or c.args.uses.now c.loop-said.said-index no_said).entry in
    let place = still_has_place c.args.marks.now c.loop-said.marks x c.loop-said.invariant.room (c.requires c.loop-said.said-index no_said c.loop-said-test.true) in
    let after = rw c.mark_of.ensures at c.assign.ensures in
    record {
      marked = use_more c.args.uses.now c.loop-said.said-index c.loop-said.marks _ c.loop-said-test.true after place c.loop-said.invariant.marked;
      room = ap length after ∙ length-set c.loop-said.marks (pair_place x) (Some Bool.true) ∙ c.loop-said.invariant.room;
    }

pub returns-clause-marked : goal.returns-clause-marked
returns-clause-marked c = subst (λ us. AreUsesMarked (entries_of us) c.loop-said.marks) (take_all c.loop-said.said-index c.args.uses.now c.loop-said-test.false) c.loop-said.invariant.marked
