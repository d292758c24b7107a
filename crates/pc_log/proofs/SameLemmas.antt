-- Whether two literals or two places are the same.
use Rattle.std.proofs.Common.{◌≡◌, ℕ, ap}
use Rattle.std.specs.Prelude.{◌==◌, Decides}
use Rattle.std.proofs.lemmas.Bool.{true_from_ne_false}
use Rattle.std.proofs.lemmas.Bool.Decides.{Decides-eqb}
use Rattle.pc_lits.proofs.LitLemmas.{same_lit, lit_from_same, other_lit}
use Rattle.pc_lits.specs.declared.literal.Lit.{Lit}
use Rattle.pc_log.specs.declared.log.StepId.{StepId}

pub step_decides : (v w : StepId) → Decides (v.0 == w.0) (v ≡ w)
step_decides v w =
    (λ e. ap (λ (n : ℕ). let x : StepId = record { 0 = n } in x) ((Decides-eqb v.0 w.0).0 e), λ same. (Decides-eqb v.0 w.0).1 (ap (λ (x : StepId). x.0) same))

pub lit_decides : (a b : Lit) → Decides (same_lit a b) (a ≡ b)
lit_decides a b = (lit_from_same a b, λ same. true_from_ne_false (same_lit a b) (λ differ. other_lit a b differ same))
