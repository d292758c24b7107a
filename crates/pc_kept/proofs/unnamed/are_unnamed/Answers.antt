use Rattle.std.proofs.Common.{ℕ, List, Contains, refl}
use Rattle.std.proofs.lemmas.Bool.{OnTrue_at, OnTrue_from}
use Rattle.std.proofs.lemmas.Option.{slice_get_within}
use Rattle.pc_lits.specs.Literals.{negated}
use Rattle.pc_kept.specs.Stored.{AreUnnamedStored}
use Rattle.pc_kept.proofs.unnamed.are_unnamed.Goals as goal

pub returns-clause-unnamed : goal.returns-clause-unnamed
returns-clause-unnamed c =
    OnTrue_from c.all_unnamed.result ((kept : List ℕ) → Contains c.args.rows.now kept → AreUnnamedStored c.args.stored.store.now c.args.stored.names.now c.name_rows.new.polarity.banned kept)
    (λ so kept has l s at bans.
    let is = OnTrue_at so c.all_unnamed.ensures l.variable.0 (slice_get_within c.args.stored.names.now.variables l.variable.0 s at) l s refl at bans in
    (is.0, λ named. is.1 (c.name_rows.ensures.each kept (negated l) has named)))
