-- A book that has been loaded.
use Rattle.std.proofs.Common.{◌≡◌, ℕ, ◌+◌, ◌≤◌, inr, Bool, true, false, cond, List, [], ◌∷◌, None, refl, ap, sym, ◌∙◌, subst}
use Rattle.std.specs.List.{AllZip}
use Rattle.pc_sheet.specs.Sheet.{Sheet}
use Rattle.pc_sheet.specs.Weight.{weight}
use Rattle.pc_sheet.specs.declared.ids.Target.{Target}
use Rattle.pc_justify_laws.specs.Reasons.{IsRowFor, IsJustifying}
use Rattle.pc_cache.specs.Rows.{AreEmpty, TargetRow, is_same_target, row_of, row_after}
use Rattle.pc_cache.specs.Patches.{PatchView, patch_bytes}
use Rattle.pc_lits.specs.declared.tally.Tally.{Tally}
use Rattle.pc_parts.specs.Components.{parts_of}
use Rattle.pc_search.specs.Found.{steps_in}
use Rattle.pc_search.specs.Parts.{AreWorldsOf}
use Rattle.pc_theory.specs.Books.{AreFound}
use Rattle.pc_theory.specs.KeptBytes.{spent_bytes}
use Rattle.pc_theory.specs.Theories.{rules_alone, IsTheory}
use Rattle.pc_theory.specs.declared.spending.Spending.{Spending}
use Rattle.pc_theory.proofs.OfRules.{consistent_by}
use Rattle.pc_session.specs.inside.Chosen.{AreChosen}
use Rattle.pc_session.specs.inside.Loaded.{IsLoaded}
use Rattle.pc_session.specs.inside.Sessions.{HavePlaces}
use Rattle.pc_session.specs.Views.{counts_of}
use Rattle.pc_session.proofs.SpentBytes.{within_new}
use Rattle.pc_session.specs.declared.state.State.{State}

pub is_loaded : (sheet : Sheet) (budget : ℕ) (before patch : PatchView) (spending : Spending) (s : State) → s.book ≡ sheet → s.tally ≡ spending.tally → weight sheet ≤ 4000000
    → AreFound sheet budget s.theory s.worlds.items patch.rows spending → HavePlaces sheet s.cache.rows → ((t : Target) → row_of s.cache.rows t ≡ row_after patch.rows t None) → AreChosen sheet s.chosen → before ≡ record { rows = []; settled = 0; last = [] }
    → s.cache.bytes ≡ patch_bytes patch → patch_bytes patch ≤ patch_bytes before + spent_bytes s.theory.components spending → IsLoaded sheet budget s
is_loaded sheet budget before patch spending s is tally light found places rows chosen blank put few = record {
  book = is;
  state = record {
    light = subst (λ x. weight x ≤ 4000000) (sym is) light;
    known = subst (λ x. IsTheory (rules_alone x) s.theory) (sym is) found.theory_is;
    worlds_of = subst (λ x. AllZip (AreWorldsOf x) (parts_of (rules_alone x)) s.worlds.items) (sym is) found.found.worlds_of;
    places = subst (λ x. HavePlaces x s.cache.rows) (sym is) places;
    reasons = subst (λ x. IsJustifying x (row_of s.cache.rows)) (sym is) (λ t target. subst (IsRowFor sheet t) (sym (rows t)) (found.found.answered t target));
  };
  chosen = subst (λ x. AreChosen x s.chosen) (sym is) chosen;
  light = light;
  consistent = consistent_by sheet s.theory.base found.found.base_is;
  spends = (spending, found.found.spends, found.found.limit, found.found.spare, ap counts_of (sym tally));
  bytes = within_new sheet s.theory.components s.tally spending before patch s.cache.bytes found.found.spends tally blank put few;
  steps = λ t j row. inr (subst (λ (x : Tally). steps_in j.lines ≤ x.learned + x.calls) (sym tally) (found.found.few_steps t j (sym (rows t) ∙ row)));
}

-- where no target has a row yet
pub none_yet : (rows : List TargetRow) (t : Target) → AreEmpty rows → row_of rows t ≡ None
none_yet [] t empty = refl
none_yet (r ∷ rs) t empty = by (is_same_target r.target t) empty.0 (none_yet rs t empty.1)
  where
    by : (b : Bool) → r.row ≡ None → row_of rs t ≡ None → cond b r.row (row_of rs t) ≡ None
    by true here later = here
    by false here later = later
