-- What is asked of the search at an edit of a cell's entries.
use Rattle.std.proofs.Common.{◌≡◌, ℕ, Bool, false, List, [], map, Some, slice_get, sym, subst}
use Rattle.pc_sheet.specs.Sheet.{Sheet}
use Rattle.pc_sheet.specs.Entailment.{cell_sizes}
use Rattle.pc_sheet.specs.declared.ids.CellId.{CellId}
use Rattle.pc_sheet.specs.declared.ids.Entry.{Entry}
use Rattle.pc_sheet.specs.declared.ids.Target.{Target}
use Rattle.pc_components.specs.View.{number_of}
use Rattle.pc_justify_laws.specs.Edits.{edited}
use Rattle.pc_cache.specs.Rows.{TargetRow}
use Rattle.pc_theory.specs.Targets.{AreAsked}
use Rattle.pc_theory.specs.Theories.{rules_alone, TheoryView, IsTheory}
use Rattle.pc_session.specs.inside.Stale.{stale_on}
use Rattle.pc_session.specs.inside.Staleness.{IsStale}
use Rattle.pc_session.proofs.Apart.{AreApart}
use Rattle.pc_session.proofs.Changing.{stale_asked, stale_apart, stale_right}

module _ (sheet : Sheet) (theory : TheoryView) (rows : List TargetRow) (known : IsTheory (rules_alone sheet) theory) (gone : Entry → Bool) (adds : Bool) (more : List Entry) (none_more : adds ≡ false → more ≡ []) (i : ℕ) (cells : List CellId)
    (at : slice_get theory.components.cells i ≡ Some cells) (ts : List Target) (are : ts ≡ stale_on rows gone adds (cell_sizes sheet.universe) cells) where
  pub asked : (new : Sheet) → new ≡ edited sheet gone more → AreAsked (cell_sizes new.universe) theory.components i ts
  asked new is = subst (λ x. AreAsked (cell_sizes x.universe) theory.components i ts) (sym is) (stale_asked rows gone adds (cell_sizes sheet.universe) theory.components i cells ts at are)

  pub stale : IsStale sheet rows gone more (map number_of cells) ts
  stale = subst (IsStale sheet rows gone more (map number_of cells)) (sym are) (stale_right sheet rows gone cells adds more none_more)

  pub apart : AreApart ts
  apart = subst AreApart (sym are) (stale_apart rows gone adds sheet theory.components known.components i cells at)
