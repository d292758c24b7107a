-- The verdict on a claim of sets.
use Rattle.std.proofs.Common.{◌≡◌, List, Option, None, Some, sym, subst}
use Rattle.pc_sheet.specs.Sheet.{Sheet}
use Rattle.pc_sheet.specs.declared.ids.Target.{Target}
use Rattle.pc_sheet.specs.declared.ids.ValueId.{ValueId}
use Rattle.pc_accept.specs.Accepts.{repairs, unimplied}
use Rattle.pc_cert.specs.Text.{SetReading, CertificateReading}
use Rattle.pc_checker.specs.Verdicts.{IsFaultOfSets, SetsStand, ClaimStands, IsFaultOfClaim, IsVerdict}
use Rattle.pc_checker.specs.inside.Parts.{BarredBy, IsSetsFault, IsClaimVerdict}
use Rattle.pc_checker.specs.declared.verdict.Verdict.{Verdict}
use Rattle.pc_checker.specs.declared.verdict.Verdict.TheVariants.{UseNotEntered, BadValues, UseNotHeld, RuleBroken, HasValue, SetInSet, BadAxiom, BadStep, WrongEnd, Accepted}

module _ (sheet : Sheet) (r : CertificateReading) (IsBarred : List ValueId → Type 0) where
  fault_is : (v : Verdict) → ((w : Verdict) → IsFaultOfSets sheet IsBarred r.sets w → IsFaultOfClaim sheet r r.claim w) → IsFaultOfSets sheet IsBarred r.sets v → IsVerdict sheet r v
  fault_is (UseNotEntered a) of_claim h = of_claim (UseNotEntered a) h
  fault_is (BadValues a) of_claim h = of_claim (BadValues a) h
  fault_is (UseNotHeld a) of_claim h = of_claim (UseNotHeld a) h
  fault_is (RuleBroken a) of_claim h = of_claim (RuleBroken a) h
  fault_is (HasValue a) of_claim h = of_claim (HasValue a) h
  fault_is (SetInSet a) of_claim h = of_claim (SetInSet a) h
  fault_is (BadAxiom a) of_claim h = absurd h.2
  fault_is (BadStep a) of_claim h = absurd h.2
  fault_is WrongEnd of_claim h = absurd h.2
  fault_is Accepted of_claim h = absurd h.2

  verdict_is : (o : Option Verdict) → ((w : Verdict) → IsFaultOfSets sheet IsBarred r.sets w → IsFaultOfClaim sheet r r.claim w) → (SetsStand sheet IsBarred r.sets → ClaimStands sheet r r.claim)
      → IsSetsFault sheet IsBarred r.sets o → IsClaimVerdict sheet r o
  verdict_is None of_claim stand h = stand h
  verdict_is (Some v) of_claim stand h = fault_is v of_claim h

module _ (sheet : Sheet) (r : CertificateReading) (sets : List SetReading) (o : Option Verdict) (same : sets ≡ r.sets) where
  pub repairs_verdict : r.claim ≡ repairs → IsSetsFault sheet (BarredBy None) sets o → IsClaimVerdict sheet r o
  repairs_verdict is h =
      verdict_is sheet r (BarredBy None) o (λ w f. subst (λ c. IsFaultOfClaim sheet r c w) (sym is) f) (λ s. subst (ClaimStands sheet r) (sym is) s) (subst (λ ss. IsSetsFault sheet (BarredBy None) ss o) same h)

  pub unimplied_verdict : (t : Target) → r.claim ≡ unimplied t → IsSetsFault sheet (BarredBy (Some t)) sets o → IsClaimVerdict sheet r o
  unimplied_verdict t is h =
      verdict_is sheet r (BarredBy (Some t)) o (λ w f. subst (λ c. IsFaultOfClaim sheet r c w) (sym is) f) (λ s. subst (ClaimStands sheet r) (sym is) s)
      (subst (λ ss. IsSetsFault sheet (BarredBy (Some t)) ss o) same h)
