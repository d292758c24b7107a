-- What is told of a declaration and of a sheet.
use Rattle.std.proofs.Common.{◌≡◌, Result, Ok, Err, MatchResult, sym, subst, refl}
use Rattle.pc_syntax.specs.Tree as tree
use Rattle.pc_sheet.specs.Sheet.{Sheet}
use Rattle.pc_elaborate.specs.declared.fault.SortFault.{SortFault}
use Rattle.pc_elaborate.specs.Told.{IsFaultOf}
use Rattle.pc_sortcheck.specs.Declaring.{Declares}
use Rattle.pc_sortcheck.specs.DeclarationFaults.{IsDeclarationFault}

abbrev pub Told : {A : Type 0} → Sheet → Sheet → Result A SortFault → tree.Declared → Type 0
Told old new r d = MatchResult r (λ x. Declares old d new) (IsFaultOf (IsDeclarationFault old d))

pub told_of : {A : Type 0} (old new : Sheet) (r : Result A SortFault) (d e : tree.Declared) → d ≡ e → Told old new r e → Told old new r d
told_of old new r d e is h = subst (Told old new r) (sym is) h

pub told_ok : {A P : Type 0} (r : Result A SortFault) (Q : SortFault → Type 0) → MatchResult r (λ x. P) Q → ((e : SortFault) → r ≡ Err e → ⊥) → P
told_ok (Ok x) Q h other = h
told_ok (Err e) Q h other = absurd (other e refl)
