-- What each symbol is under an assignment, by symbol and by number.
use Rattle.std.proofs.Common.{◌≡◌, ℕ, ◌↔◌, Bool, true, List, Contains, ◌∙◌, subst}
use Rattle.pc_lits.specs.declared.literal.Lit.{Lit}
use Rattle.pc_lits.specs.declared.literal.Var.{Var}
use Rattle.pc_lits.specs.Truth.{IsTrueUnder}
use Rattle.pc_sheet.specs.Sheet.{Sheet}
use Rattle.pc_sheet.specs.Entailment.{IsAssignment}
use Rattle.pc_sheet.specs.declared.ids.ValueId.{ValueId}
use Rattle.pc_accept.specs.Literals.{Symbol, SymbolHolds}
use Rattle.pc_accept.proofs.Decided.{decide_symbol}
use Rattle.pc_ground.specs.Variables.{variables}
use Rattle.pc_ground.specs.Ground.{axioms, clauses}
use Rattle.pc_ground.specs.Laws.{var_of}
use Rattle.pc_ground.proofs.Made.{Makes}
use Rattle.pc_ground.proofs.Symbols.{symbols_are_variables}
use Rattle.pc_components.proofs.PartFor.{slice_contains}
use Rattle.pc_kept.specs.Kept.{IsAmong, AreMeanings}
use Rattle.pc_kept.proofs.BySymbol.{value, of_makes, numbered_truth, numbered_is, axiom_at, yes_of, yes_is}
use Rattle.pc_kept.proofs.CountersSettled.{meant}

module _ (sheet : Sheet) (a : List ValueId) (assigned : IsAssignment sheet.universe a) where
  pub as_decided : Symbol → Bool
  as_decided x = yes_of (decide_symbol sheet a x)

  pub decided_is : (x : Symbol) → (as_decided x ≡ true) ↔ SymbolHolds sheet a x
  unfolding as_decided
  decided_is x = yes_is (decide_symbol sheet a x)

  pub decided : Var → Bool
  decided = numbered_truth sheet as_decided

  pub decided_at : (x : Symbol) → Contains (variables sheet) x → decided (var_of sheet x) ≡ as_decided x
  unfolding decided
  decided_at x h = numbered_is sheet as_decided x h

  pub meaning_true : (meanings : List ℕ) → AreMeanings sheet meanings → (clause : List Lit) → IsAmong (clauses sheet) meanings clause → IsTrueUnder decided clause
  meaning_true meanings mean clause (k, k_in, at) =
      let found = axiom_at sheet k clause at in
      let g = found.0 in
      let g_in = slice_contains (axioms sheet) k g found.1 in
      let l = meant sheet a assigned as_decided decided_is g g_in (mean k g k_in found.1) in
      let makes : Makes (value sheet decided) g.clause =
      (l.0, l.1, decided_at l.0.what (symbols_are_variables sheet g g_in l.0 l.1) ∙ l.2) in
      subst (IsTrueUnder decided) found.2 (of_makes sheet decided g.clause makes)
