use Rattle.std.proofs.Common.{ℕ, List, Contains, length, ap, sym, ◌∙◌, subst}
use Rattle.std.proofs.lemmas.Bool.{OnTrue_at}
use Rattle.std.proofs.lemmas.List.{length-replicate}
use Rattle.pc_kept.specs.Stored.{AreUnnamedStored}
use Rattle.pc_kept.proofs.ByParts.{rows_in}
use Rattle.pc_kept.proofs.OneMore.{room_of}
use Rattle.pc_kept.proofs.components.chosen.Goals as goal

pub are_unnamed-requires-clause-within : goal.are_unnamed-requires-clause-within
are_unnamed-requires-clause-within c =
    rows_in c.args.stored.pairs (length c.args.stored.store.now) c.args.stored.store.now c.args.stored.names.now c.polar_rows.new.polarity.banned c.args.whole.now.axioms c.in_ok-rows.rows c.in_ok-rows.ensures.kept c.requires.within

pub returns-then-are_unnamed-clause-unnamed : goal.returns-then-are_unnamed-clause-unnamed
returns-then-are_unnamed-clause-unnamed c =
    subst (λ b. (kept : List ℕ) → Contains c.in_ok-rows.rows kept → AreUnnamedStored c.args.stored.store.now c.args.stored.names.now b kept) (sym c.into_banned-banned.ensures) (OnTrue_at c.if-are_unnamed.true c.are_unnamed.ensures.unnamed)

pub kept_rows-requires-clause-values : goal.kept_rows-requires-clause-values
kept_rows-requires-clause-values c =
    room_of c.args.stored.store.now c.args.stored.names.now c.polar_rows.new.trial.values c.requires.stored
    (c.requires.variables ∙ sym (c.polar_rows.ensures.values ∙ ap length c.in_ok-new.ensures ∙ length-replicate c.args.variables _))

pub kept_rows-requires-clause-constants : goal.kept_rows-requires-clause-constants
kept_rows-requires-clause-constants c =
    room_of c.args.stored.store.now c.args.stored.names.now c.polar_rows.new.constants c.requires.stored
    (c.requires.variables ∙ sym (c.polar_rows.ensures.constants ∙ ap length c.in_ok-constants.ensures ∙ length-replicate c.args.variables _))
