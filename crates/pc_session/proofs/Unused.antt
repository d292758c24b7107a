-- Taking entries away on which no reason rests.
use Rattle.std.proofs.Common.{ℕ, inl, inr, Bool, List, [], set, Contains, arith, refl}
use Rattle.pc_sheet.specs.Sheet.{Sheet}
use Rattle.pc_sheet.specs.WellFormed.{IsWellFormed}
use Rattle.pc_sheet.specs.declared.ids.CellId.{CellId}
use Rattle.pc_sheet.specs.declared.ids.Entry.{Entry}
use Rattle.pc_parts.specs.Parts.{Part}
use Rattle.pc_justify_laws.specs.Edits.{edited, IsTakenOf}
use Rattle.pc_justify_laws.specs.EditLaws.{EditedReasonsAreRight}
use Rattle.pc_cache.specs.Rows.{TargetRow}
use Rattle.pc_world_list.specs.Worlds.{WorldView}
use Rattle.pc_search.specs.Parts.{AreWorldsOf}
use Rattle.pc_theory.specs.Theories.{rules_alone, TheoryView, IsPartNumbered}
use Rattle.pc_lemmas.proofs.Elements.{contains_none}
use Rattle.pc_session.specs.Answers.{AreUnused}
use Rattle.pc_session.specs.inside.Edits.{AreChanges}
use Rattle.pc_session.specs.inside.Sessions.{IsSession}
use Rattle.pc_session.proofs.Placing.{placed_session}
use Rattle.pc_session.proofs.Resting.{unused_stays}
use Rattle.pc_session.proofs.TakenEntries.{formed_left}

module _ (sheet : Sheet) (theory : TheoryView) (worlds : List (List WorldView)) (rows : List TargetRow) (session : IsSession sheet theory worlds rows) (formed : IsWellFormed sheet) (c : CellId) (gone : Entry → Bool) (of_cell : IsTakenOf c gone)
    (unused : AreUnused gone rows) (i : ℕ) (p : Part) (numbered : IsPartNumbered (rules_alone sheet) i p) (has : Contains p.cells c.0) (ws : List WorldView) (worlds_of : AreWorldsOf (edited sheet gone []) p ws) where
  no_changes : AreChanges sheet rows gone [] p.cells [] 0
  no_changes = record {
    each = λ t is. inr (refl, unused_stays rows gone p.cells unused t);
    stays = λ t j row lacks. row;
    others = λ t off. refl;
    steps = λ t j row. inl row;
    targets = λ r in_none. absurd (contains_none r in_none);
    bytes = λ all are. omega arith;
  }

  pub unused_session : EditedReasonsAreRight → IsSession (edited sheet gone []) theory (set worlds i ws) rows
  unused_session law =
      placed_session sheet theory worlds rows session formed c gone [] (record { takes = of_cell; adds = inl refl }) i p numbered has ws worlds_of [] 0 no_changes law (formed_left gone sheet formed) rows refl
      (λ t. refl)
