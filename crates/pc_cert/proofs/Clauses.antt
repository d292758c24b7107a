-- The clauses that parts of a derivation name, which are no axioms.
use Rattle.std.proofs.Common.{◌≡◌, ℕ, ◌+◌, ◌<◌, Result, Ok, Err, IfOk, Option, Some, None, MatchOption, List, [], ◌∷◌, length, refl, sym, subst}
use Rattle.std.proofs.lemmas.List.{append-nil}
use Rattle.pc_sheet.specs.Sheet.{Sheet}
use Rattle.pc_accept.specs.Literals.{Symbol, Literal}
use Rattle.pc_cert.specs.Written.{WrittenLiteral, WrittenPart, written_step, written_block, derived}
use Rattle.pc_cert.specs.Meaning.{IsPartNamed}
use Rattle.pc_cert.specs.Numbered.{IsNoClause, IsPartTaken}
use Rattle.pc_cert.specs.declared.cert.CertPart.{CertPart}
use Rattle.pc_cert.specs.declared.cert.CertPart.TheVariants.{Block}

module _ (sheet : Sheet) (sets : ℕ) where
  abbrev Told : WrittenPart → List Symbol → List Symbol → Option CertPart → Type 0
  Told w old new o = MatchOption o (IsNoClause sheet sets w) (IsPartTaken sheet sets w old new)

  abbrev ToldStep : List WrittenLiteral → List ℕ → List Symbol → List Symbol → Option CertPart → Type 0
  ToldStep ls hints old new o =
      MatchOption o ((cs : List Literal) (ns : List ℕ) → IsPartNamed sheet sets (written_step ls hints) (derived cs ns) → ⊥) (IsPartTaken sheet sets (written_step ls hints) old new)

  step_by : {E : Type 0} (ls : List WrittenLiteral) (hints : List ℕ) (r : Result (Option CertPart) E) (old new : List Symbol) → IfOk r (ToldStep ls hints old new) → IfOk r (Told (written_step ls hints) old new)
  step_by ls hints (Ok (Some p)) old new is = is
  step_by ls hints (Ok None) old new is = record { not_derived = is; not_blocked = λ k named. named }
  step_by ls hints (Err e) old new is = tt

  -- a clause with hints
  pub told_step : {E : Type 0} (w : WrittenPart) (ls : List WrittenLiteral) (hints : List ℕ) → w ≡ written_step ls hints → (r : Result (Option CertPart) E) (old new : List Symbol) → IfOk r (ToldStep ls hints old new) → IfOk r (Told w old new)
  told_step w ls hints same r old new is = subst (λ v. IfOk r (Told v old new)) (sym same) (step_by ls hints r old new is)

  abbrev ToldBlock : ℕ → Option CertPart → Type 0
  ToldBlock j o = MatchOption o ((k : ℕ) → j ≡ k + 1 → k < sets → ⊥) (λ p. (k : ℕ) × (p ≡ Block k) × (j ≡ k + 1) × (k < sets))

  block_by : (j : ℕ) (o : Option CertPart) (names : List Symbol) → ToldBlock j o → Told (written_block j) names names o
  block_by j None names is = record { not_derived = λ ls ns named. named; not_blocked = λ k named. is k named.0 named.1 }
  block_by j (Some p) names is = subst (IsPartTaken sheet sets (written_block j) names names) (sym is.1) (record { grows = ([], sym (append-nil names)); named = (is.2, is.3); appear = refl })

  -- a set's clause
  pub told_block : (w : WrittenPart) (j : ℕ) → w ≡ written_block j → (o : Option CertPart) (names : List Symbol) → ToldBlock j o → Told w names names o
  told_block w j same o names is = subst (λ v. Told v names names o) (sym same) (block_by j o names is)
