-- A demonstration of enough is done.
use Rattle.std.proofs.Common.{ℕ, ◌<◌, ◌≤◌, inl, inr, arith}
use Rattle.pc_enough_laws.specs.Enough.{enough_for_all}
use Rattle.pc_gen.specs.Sheet.{generated_sheet}
use Rattle.pc_theorem.specs.Theorem.{KnownRun}
use Rattle.pc_theorem.specs.Demonstrations.{IsDemonstration, EndsDemonstration, demonstrates_all, has_too_little}
use Rattle.pc_theorem.specs.Laws.{DemonstrationsOfEnoughAreDone}

not_less : (n b : ℕ) → n ≤ b → b < n → ⊥
not_less n b within less = omega (arith, within, less)

done : (run : KnownRun) (budget blocks : ℕ) → enough_for_all (generated_sheet blocks) ≤ budget → EndsDemonstration run budget blocks → IsDemonstration run budget blocks
done run budget blocks within (demonstrates_all is) = is
done run budget blocks within (has_too_little counts so short placed told) = absurd (not_less (enough_for_all (generated_sheet blocks)) budget within short)

pub enough_demonstrated : DemonstrationsOfEnoughAreDone
enough_demonstrated words status before after demonstrates run is uncut blocks budget fits within = elim (demonstrates run is uncut blocks budget fits) [
  | inl ends ↦ inl (done run budget blocks within ends)
  | inr lacks ↦ inr lacks
]
