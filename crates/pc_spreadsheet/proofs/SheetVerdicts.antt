-- That a sheet's text has one verdict at most.
use Rattle.std.proofs.Common.{◌≡◌, ℕ, List, sym, ap, ap₂, subst, arith, inl, inr, ◌∙◌}
use Rattle.pc_sheet.specs.Sheet.{Sheet}
use Rattle.pc_sheet.specs.MaximalSets.{AreRulesConsistent}
use Rattle.pc_refusals.specs.declared.refusal.SheetRefusal.{SheetRefusal}
use Rattle.pc_load.specs.Laws.{TextsHaveOneOutcome}
use Rattle.pc_load.proofs.Loading.{none_read, one_sheet, one_fault}
use Rattle.pc_spreadsheet.specs.Judgement.{IsTooLarge, IsContradictory, IsRejected, SheetVerdict, opens, rejects, IsSheetVerdict}
use Rattle.pc_spreadsheet.specs.Tasks.{State, IsLight, Starts}
use Rattle.pc_spreadsheet.specs.Laws.{TextsHaveOneVerdict}

abbrev state_of : Sheet → ℕ → State
state_of given budget = record { sheet = given; budget = budget }

module _ (one : TextsHaveOneOutcome) (budget : ℕ) (text : List ℕ) where
  same_start : (s t : State) → Starts budget text s → Starts budget text t → s ≡ t
  same_start s t first second = ap₂ state_of (one_sheet text s.sheet t.sheet one first.reads second.reads) (first.budget ∙ sym second.budget)

  light_never : (large : IsTooLarge text) (state : State) → ¬ Starts budget text state
  light_never large state = λ start. absurd (omega (arith, large.heavy, subst IsLight (one_sheet text state.sheet large.sheet one start.reads large.reads) start.light))

  consistent_never : (sheet : Sheet) → IsContradictory text sheet → (state : State) → ¬ Starts budget text state
  consistent_never sheet is state = λ start. is.contradict (subst AreRulesConsistent (one_sheet text state.sheet sheet one start.reads is.reads) start.consistent)

  large_or_not : (large : IsTooLarge text) (sheet : Sheet) → ¬ IsContradictory text sheet
  large_or_not large sheet = λ is. absurd (omega (arith, large.heavy, subst IsLight (one_sheet text sheet large.sheet one is.reads large.reads) is.light))

  -- a text from which a run starts isn't refused
  never : (state : State) (why : SheetRefusal) → Starts budget text state → ¬ IsRejected text why
  never state why start = λ rejected. elim rejected [
    | inl fault ↦ none_read text why one fault state.sheet start.reads
    | inr rest ↦ elim rest [
      | inl large ↦ light_never large.1 state start
      | inr contradictory ↦ consistent_never contradictory.1.0 contradictory.1.1 state start
    ]
  ]

  same_refusal : (q r : SheetRefusal) → IsRejected text q → IsRejected text r → q ≡ r
  same_refusal q r first second = elim first [
    | inl fault ↦ elim second [
      | inl other ↦ one_fault text q r one fault other
      | inr rest ↦ elim rest [
        | inl large ↦ absurd (none_read text q one fault large.1.sheet large.1.reads)
        | inr contradictory ↦ absurd (none_read text q one fault contradictory.1.0 contradictory.1.1.reads)
      ]
    ]
    | inr kind ↦ elim second [
      | inl fault ↦ elim kind [
        | inl large ↦ absurd (none_read text r one fault large.1.sheet large.1.reads)
        | inr contradictory ↦ absurd (none_read text r one fault contradictory.1.0 contradictory.1.1.reads)
      ]
      | inr rest ↦ elim kind [
        | inl large ↦ elim rest [
          | inl other ↦ large.0 ∙ sym other.0
          | inr contradictory ↦ absurd (large_or_not large.1 contradictory.1.0 contradictory.1.1)
        ]
        | inr contradictory ↦ elim rest [
          | inl large ↦ absurd (large_or_not large.1 contradictory.1.0 contradictory.1.1)
          | inr other ↦ contradictory.0 ∙ sym other.0
        ]
      ]
    ]
  ]

  same : (x y : SheetVerdict) → IsSheetVerdict budget text x → IsSheetVerdict budget text y → x ≡ y
  same (opens s) (opens t) first second = ap opens (same_start s t first second)
  same (opens s) (rejects r) first second = absurd (never s r first second)
  same (rejects q) (opens t) first second = absurd (never t q second first)
  same (rejects q) (rejects r) first second = ap rejects (same_refusal q r first second)

pub one_sheet_verdict : TextsHaveOneOutcome → TextsHaveOneVerdict
one_sheet_verdict one = λ budget. λ text. same one budget text
