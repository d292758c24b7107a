-- Tests in a row have one fault at most, and none where each passes.
use Rattle.std.proofs.Common.{◌≡◌, Result, Ok, Err, ap, ◌∙◌, sym, subst, inl, inr}
use Rattle.pc_elaborate.specs.declared.fault.SortFault.{SortFault}
use Rattle.pc_elaborate.specs.declared.fault.SortFault.TheVariants.{Memory}
use Rattle.pc_elaborate.specs.Tests.{no_test, test, part}
use Rattle.pc_elaborate.specs.Outcome.{IsFoundOrFault, TellsFound, HasOneOutcome}

abbrev pub IsOne : (SortFault → Type 0) → Type 0
IsOne Fails = (e f : SortFault) → Fails e → Fails f → e ≡ f

abbrev pub IsNever : (SortFault → Type 0) → Type 0
IsNever Fails = (e : SortFault) → ¬ Fails e

pub none_one : IsOne no_test
none_one e f h k = absurd h

pub none_never : IsNever no_test
none_never e h = h

module _ (Passes : Type 0) (fault : SortFault) (rest : SortFault → Type 0) where
  pub test_one : IsOne rest → IsOne (test Passes fault rest)
  test_one one e f (inl h) (inl k) = h.1 ∙ sym k.1
  test_one one e f (inl h) (inr k) = absurd (h.0 k.0)
  test_one one e f (inr h) (inl k) = absurd (k.0 h.0)
  test_one one e f (inr h) (inr k) = one e f h.1 k.1

  pub test_never : Passes → IsNever rest → IsNever (test Passes fault rest)
  test_never passes never e (inl h) = h.0 passes
  test_never passes never e (inr h) = never e h.1

module _ (Passes : Type 0) (Fails rest : SortFault → Type 0) where
  pub part_one : (Passes → IsNever Fails) → IsOne Fails → IsOne rest → IsOne (part Passes Fails rest)
  part_one never first one e f (inl h) (inl k) = first e f h k
  part_one never first one e f (inl h) (inr k) = absurd (never k.0 e h)
  part_one never first one e f (inr h) (inl k) = absurd (never h.0 f k)
  part_one never first one e f (inr h) (inr k) = one e f h.1 k.1

  pub part_never : IsNever Fails → IsNever rest → IsNever (part Passes Fails rest)
  part_never first never e (inl h) = first e h
  part_never first never e (inr h) = never e h.1

module _ {A : Type 0} (IsFound : A → Type 0) (Fails : SortFault → Type 0) (law : HasOneOutcome IsFound Fails) where
  pub tells_ok : (x : A) → IsFound x → TellsFound IsFound Fails (Ok x)
  tells_ok x h = record {
    told = h;
    only = λ y k. ap Ok (law.one x y h k);
    fault = λ e k. absurd (law.never x h e k);
    ample = λ e. cc;
  }

  pub tells_err : (e : SortFault) → Fails e → ¬ Fails Memory → TellsFound IsFound Fails (Err e)
  tells_err e h ample = record {
    told = h;
    only = λ y k. absurd (law.never y k e h);
    fault = λ f k. ap Err (law.same e f h k);
    ample = λ same. absurd (ample (by same));
  }
    where
      by : ◌≡◌ {A = Result A SortFault} (Err e) (Err Memory) → Fails Memory
      by same = let k : e ≡ Memory = cc in subst Fails k h

  pub tells : ¬ Fails Memory → (r : Result A SortFault) → IsFoundOrFault IsFound Fails r → TellsFound IsFound Fails r
  tells ample (Ok x) h = tells_ok x h
  tells ample (Err e) h = tells_err e h ample

-- the rest has one fault at most where the test passes
pub test_one_if : (Passes : Type 0) (fault : SortFault) (rest : SortFault → Type 0) → (Passes → IsOne rest) → IsOne (test Passes fault rest)
test_one_if Passes fault rest one e f (inl h) (inl k) = h.1 ∙ sym k.1
test_one_if Passes fault rest one e f (inl h) (inr k) = absurd (h.0 k.0)
test_one_if Passes fault rest one e f (inr h) (inl k) = absurd (k.0 h.0)
test_one_if Passes fault rest one e f (inr h) (inr k) = one h.0 e f h.1 k.1
