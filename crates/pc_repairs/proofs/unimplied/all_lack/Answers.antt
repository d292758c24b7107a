use Rattle.std.proofs.Common.{[], All, arith, ◌∙◌, sym, subst}
use Rattle.std.proofs.lemmas.Bool.{false≢true}
use Rattle.std.proofs.lemmas.List.{take_all}
use Rattle.std.proofs.lemmas.List.Elements.{All-nil, All-more}
use Rattle.pc_sheet.specs.Entailment.{HasTarget}
use Rattle.pc_world_list.specs.Worlds.{WorldView}
use Rattle.pc_repairs.proofs.unimplied.all_lack.Goals as goal

abbrev blank : WorldView
blank = record { entries = []; shown = [] }

pub loop-place-init : goal.loop-place-init
loop-place-init c = All-nil (λ (w : WorldView). ¬ HasTarget w.shown c.args.target)

pub loop-place-preserved : goal.loop-place-preserved
loop-place-preserved c =
    All-more (λ (w : WorldView). ¬ HasTarget w.shown c.args.target) c.args.sets.now c.loop-place.place blank (omega (arith, c.len-place-end.ensures, c.loop-place-test.true)) c.loop-place.invariant
    (λ has. false≢true (c.if-has_target.ensures.1 (subst (λ a. HasTarget a c.args.target) (sym (c.values.ensures ∙ c.shown.ensures.exact)) has)))

pub returns : goal.returns
returns c told = subst (All (λ (w : WorldView). ¬ HasTarget w.shown c.args.target)) (take_all c.loop-place.place c.args.sets.now (omega (arith, c.len-place-end.ensures, c.loop-place-test.false))) c.loop-place.invariant
