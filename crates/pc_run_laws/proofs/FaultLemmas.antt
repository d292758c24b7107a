-- After a fault nothing more happens, whatever the course.
use Rattle.std.proofs.Common.{◌≡◌, List, [], ◌∷◌, ◌++◌, refl, sym, subst, take}
use Rattle.pc_refusals.specs.declared.status.Status.{Status}
use Rattle.pc_refusals.specs.Events.{Event, took, took_rest, gave, told, input_failed, shelf_failed, output_failed}
use Rattle.pc_refusals.specs.Stages.{Stage, sheet_file, takes, ends, ends_with}
use Rattle.pc_refusals.specs.Runs.{Run, ended, ended_with, read_failed, read_failed_at_file, write_failed}
use Rattle.pc_run_laws.specs.Causes.{IsFault, FaultsComeLast}
use Rattle.pc_run_laws.proofs.CauseLemmas.{IsCalm, AreCalm, EndsFine, comes_calmly}

-- each fault is the last of the events, by recursion
abbrev HasFaultLast : List Event → Type 0
HasFaultLast [] = Unit {0}
HasFaultLast (event ∷ events) = (IsFault event → events ≡ []) × HasFaultLast events

calm_is_no_fault : (event : Event) → IsCalm event → IsFault event → ⊥
calm_is_no_fault (took bytes) calm fault = fault
calm_is_no_fault (took_rest bytes) calm fault = fault
calm_is_no_fault (gave name text) calm fault = fault
calm_is_no_fault (told piece) calm fault = fault
calm_is_no_fault input_failed calm fault = calm
calm_is_no_fault (shelf_failed name) calm fault = calm
calm_is_no_fault output_failed calm fault = calm

behind_calm : (xs ys : List Event) → AreCalm xs → HasFaultLast ys → HasFaultLast (xs ++ ys)
behind_calm [] ys calm last = last
behind_calm (x ∷ xs) ys calm last = ((λ fault. absurd (calm_is_no_fault x calm.0 fault)), behind_calm xs ys calm.1 last)

of_calm : (xs : List Event) → AreCalm xs → HasFaultLast xs
of_calm [] calm = tt
of_calm (x ∷ xs) calm = ((λ fault. absurd (calm_is_no_fault x calm.0 fault)), of_calm xs calm.1)

last_of : (before after : List Event) (event : Event) → IsFault event → HasFaultLast (before ++ event ∷ after) → after ≡ []
last_of [] after event fault last = last.0 fault
last_of (x ∷ xs) after event fault last = last_of xs after event fault last.1

module _ {N : Type 0} (Course : List Event → Stage → N → Type 0) (obeys : (events : List Event) (stage : Stage) (notes : N) → Course events stage notes → AreCalm events × EndsFine stage) where
  run_has : (events : List Event) (status : Status) (notes : N) → Run Course events status notes → HasFaultLast events
  run_has events status notes (ended comes) = of_calm events (comes_calmly Course obeys events (ends status) notes comes).0
  run_has events status notes (ended_with before line comes is) =
      subst HasFaultLast (sym is) (behind_calm before (told line ∷ []) (comes_calmly Course obeys before (ends_with line status) notes comes).0 ((λ fault. absurd fault), tt))
  run_has events status notes (read_failed before intake begun course can is) =
      subst HasFaultLast (sym is) (behind_calm before (took begun ∷ input_failed ∷ []) (obeys before (takes intake) notes course).0 ((λ fault. absurd fault), ((λ fault. refl), tt)))
  run_has events status notes (read_failed_at_file before name course is) =
      subst HasFaultLast (sym is) (behind_calm before (shelf_failed name ∷ []) (obeys before (takes (sheet_file name)) notes course).0 ((λ fault. refl), tt))
  run_has events status notes (write_failed before stage piece count comes tells is) =
      subst HasFaultLast (sym is) (behind_calm before (told (take count piece) ∷ output_failed ∷ []) (comes_calmly Course obeys before stage notes comes).0 ((λ fault. absurd fault), ((λ fault. refl), tt)))

  pub faults_come_last : (events : List Event) (status : Status) (notes : N) → Run Course events status notes → FaultsComeLast events
  faults_come_last events status notes run before after event fault is = last_of before after event fault (subst HasFaultLast is (run_has events status notes run))
