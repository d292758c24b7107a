-- Declarations one after another have one outcome: the sheet that they give, or the first line at fault.
use Rattle.std.proofs.Common.{◌≡◌, inl, inr, ℕ, List, [], ◌∷◌, ◌∙◌, sym, subst}
use Rattle.pc_syntax.specs.Tree as tree
use Rattle.pc_sheet.specs.Sheet.{Sheet}
use Rattle.pc_sheet.specs.WellFormed.{IsWellFormed}
use Rattle.pc_elaborate.specs.declared.fault.SortFault.{SortFault}
use Rattle.pc_elaborate.specs.Laws.{TreesHaveOneOutcome}
use Rattle.pc_elaborate.specs.Outcome.{HasOneOutcome}
use Rattle.pc_sortcheck.specs.Declaring.{Declares, DeclareAll}
use Rattle.pc_sortcheck.specs.DeclarationFaults.{IsDeclarationFault, IsFirstFault}
use Rattle.pc_sortcheck.proofs.DeclarationLaws.{declaration_outcome}

module _ (trees : TreesHaveOneOutcome) where
  outcome : (old : Sheet) (d : tree.Declared) → IsWellFormed old → HasOneOutcome (Declares old d) (IsDeclarationFault old d)
  outcome old d h = declaration_outcome old (trees old.universe h.universe) d

  pub all_one : (ds : List (ℕ × tree.Declared)) (old x y : Sheet) → IsWellFormed old → DeclareAll old ds x → DeclareAll old ds y → x ≡ y
  all_one [] old x y formed h k = h ∙ sym k
  all_one (d ∷ ds) old x y formed h k =
      let same = (outcome old d.1 formed).one k.0 h.0 k.1 h.1 in
      all_one ds h.0 x y h.1.1 h.2 (subst (λ (s : Sheet). DeclareAll s ds y) same k.2)

  pub all_never : (ds : List (ℕ × tree.Declared)) (old x : Sheet) → IsWellFormed old → DeclareAll old ds x → (line : ℕ) (e : SortFault) → ¬ IsFirstFault old ds line e
  all_never [] old x formed h line e k = k
  all_never (d ∷ ds) old x formed h line e (inl k) = (outcome old d.1 formed).never h.0 h.1 e k.1
  all_never (d ∷ ds) old x formed h line e (inr k) =
      let same = (outcome old d.1 formed).one k.0 h.0 k.1 h.1 in
      all_never ds h.0 x h.1.1 h.2 line e (subst (λ (s : Sheet). IsFirstFault s ds line e) same k.2)

  pub all_same : (ds : List (ℕ × tree.Declared)) (old : Sheet) → IsWellFormed old → (l m : ℕ) (e f : SortFault) → IsFirstFault old ds l e → IsFirstFault old ds m f → (l ≡ m) × (e ≡ f)
  all_same [] old formed l m e f h k = absurd h
  all_same (d ∷ ds) old formed l m e f (inl h) (inl k) = (h.0 ∙ sym k.0, (outcome old d.1 formed).same e f h.1 k.1)
  all_same (d ∷ ds) old formed l m e f (inl h) (inr k) = absurd ((outcome old d.1 formed).never k.0 k.1 e h.1)
  all_same (d ∷ ds) old formed l m e f (inr h) (inl k) = absurd ((outcome old d.1 formed).never h.0 h.1 f k.1)
  all_same (d ∷ ds) old formed l m e f (inr h) (inr k) =
      let same = (outcome old d.1 formed).one k.0 h.0 k.1 h.1 in
      all_same ds h.0 h.1.1 l m e f h.2 (subst (λ (s : Sheet). IsFirstFault s ds m f) same k.2)
