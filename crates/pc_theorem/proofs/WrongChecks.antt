-- Checks, words and devices of runs that would not keep their word.
use Rattle.std.proofs.Common.{◌≡◌, ◌≢◌, ℕ, ◌-◌, ◌^◌, ◌<◌, Bool, true, false, Option, List, [], codes, Some, refl, sym, ◌∙◌, ap, subst, inl, inr, ◌⊎◌, arith}
use Rattle.pc_port.specs.Port.{Rose}
use Rattle.pc_port.specs.Shelf.{Files}
use Rattle.pc_sheet.specs.Sheet.{Sheet}
use Rattle.pc_sortcheck.specs.Declaring.{ReadsAs}
use Rattle.pc_load.specs.Laws.{TextsHaveOneOutcome}
use Rattle.pc_load.specs.Outcome as outcome
use Rattle.pc_load.specs.Outcome.{HasFault}
use Rattle.pc_writer.specs.SheetText.{ended}
use Rattle.pc_refusals.specs.Refusals.{sheet_refusal_text}
use Rattle.pc_refusals.specs.Endings.{memory_text, sheet_memory_text}
use Rattle.pc_refusals.specs.Events.{Outside}
use Rattle.pc_refusals.specs.declared.refusal.SheetRefusal.{SheetRefusal}
use Rattle.pc_refusals.specs.declared.status.Status.{Status}
use Rattle.pc_refusals.specs.declared.status.Status.TheVariants.{Done, Usage, SheetRefused, ReadFault, WriteFault, Memory, CertRefused}
use Rattle.pc_transcript.specs.Transcript.{worse_of}
use Rattle.pc_judge.specs.AcceptedText.{IsAcceptedText}
use Rattle.pc_words.specs.Words.{edits, checks, usual_budget}
use Rattle.pc_words.specs.Examples.{WordsAreWorked}
use Rattle.pc_spreadsheet.specs.Allowed.{Notes}
use Rattle.pc_theorem.specs.Devices.{AreUsedAsAsked}
use Rattle.pc_theorem.specs.Starting.{LacksWords}
use Rattle.pc_theorem.specs.Theorem.{EndsCheck, accepts, declines, finds_no_sheet, EndsSession, answers_all, refuses, LacksMemory, IsCutOff}
use Rattle.pc_theorem.specs.Examples.{Keeps, edit_words}
use Rattle.pc_theorem.specs.WrongRuns.{check_words, file_f, BrokenChecks, BrokenUsage, BrokenDevices}
use Rattle.pc_theorem.proofs.BrokenSessions.{run_on, told, is_file_name, edit_ends, first_byte}
use Rattle.pc_theorem.proofs.Checked.{no_other}

-- ---- checks

text_same : (x y : List ℕ) → Some x ≡ Some y → x ≡ y
text_same x y e = cc

fault_same : (x y : SheetRefusal) → outcome.fails x ≡ outcome.fails y → x ≡ y
fault_same x y e = cc

either_ends : (files : Files) (input printed : List ℕ) (status : Status) → ¬ IsCutOff status → Keeps check_words files input printed status → EndsCheck (run_on check_words files input printed status) (codes "f") ⊎ LacksMemory (run_on check_words files input printed status)
either_ends files input printed status uncut keeps =
    (keeps (run_on check_words files input printed status) (told check_words files input printed status) uncut).asked_for (record { mode = checks (codes "f"); budget = usual_budget }) (inl ((refl, is_file_name), refl))

check_ends : (files : Files) (input printed : List ℕ) (status : Status) → (status ≡ Memory → ⊥) → ¬ IsCutOff status → Keeps check_words files input printed status → EndsCheck (run_on check_words files input printed status) (codes "f")
check_ends files input printed status other uncut keeps = elim (either_ends files input printed status uncut keeps) [
  | inl ends ↦ ends
  | inr lacks ↦ absurd (other lacks.0)
]

module _ (one_outcome : TextsHaveOneOutcome) (text : List ℕ) where
  sheet_is : (sheet other : Sheet) (bytes : List ℕ) → ReadsAs text sheet → Some text ≡ Some bytes → ReadsAs bytes other → other ≡ sheet
  sheet_is sheet other bytes reads found also = no_other one_outcome text sheet other reads (subst (λ (b : List ℕ). ReadsAs b other) (sym (text_same text bytes found)) also)

  accepted_wrongly : (sheet : Sheet) (input printed : List ℕ) → ReadsAs text sheet → ¬ IsAcceptedText sheet input → EndsCheck (run_on check_words (file_f text) input printed Done) (codes "f") → ⊥
  accepted_wrongly sheet input printed reads never (accepts so is) = never (subst (λ (s : Sheet). IsAcceptedText s input) (sheet_is sheet is.sheet is.bytes reads is.found is.reads) is.accepted)
  accepted_wrongly sheet input printed reads never (declines so is) = absurd (cc)
  accepted_wrongly sheet input printed reads never (finds_no_sheet so is) = absurd (cc)

  refused_wrongly : (sheet : Sheet) (input printed : List ℕ) → ReadsAs text sheet → IsAcceptedText sheet input → EndsCheck (run_on check_words (file_f text) input printed CertRefused) (codes "f") → ⊥
  refused_wrongly sheet input printed reads accepted (accepts so is) = absurd (cc)
  refused_wrongly sheet input printed reads accepted (declines so is) = is.refused (subst (λ (s : Sheet). IsAcceptedText s input) (sym (sheet_is sheet is.sheet is.bytes reads is.found is.reads)) accepted)
  refused_wrongly sheet input printed reads accepted (finds_no_sheet so is) = absurd (cc)

  sheet_refused : (sheet : Sheet) (input printed : List ℕ) → ReadsAs text sheet → EndsCheck (run_on check_words (file_f text) input printed SheetRefused) (codes "f") → ⊥
  sheet_refused sheet input printed reads (accepts so is) = absurd (cc)
  sheet_refused sheet input printed reads (declines so is) = absurd (cc)
  sheet_refused sheet input printed reads (finds_no_sheet so is) = is.none sheet (subst (λ (b : List ℕ). ReadsAs b sheet) (text_same text is.bytes is.found) reads)

  other_fault : (input printed : List ℕ) (why : SheetRefusal) → HasFault text why → printed ≢ sheet_refusal_text why → EndsCheck (run_on check_words (file_f text) input printed SheetRefused) (codes "f") → ⊥
  other_fault input printed why has other (accepts so is) = absurd (cc)
  other_fault input printed why has other (declines so is) = absurd (cc)
  other_fault input printed why has other (finds_no_sheet so is) =
      let also : HasFault text is.why = subst (λ (b : List ℕ). HasFault b is.why) (sym (text_same text is.bytes is.found)) is.fault in
      let same : is.why ≡ why = fault_same is.why why (one_outcome text (outcome.fails is.why) (outcome.fails why) also has) in
      other (is.told ∙ ap sheet_refusal_text same)

accepted_quietly : (files : Files) (input : List ℕ) → EndsCheck (run_on check_words files input [] Done) (codes "f") → ⊥
accepted_quietly files input (accepts so is) = let bytes : 0 ≡ 97 = ap first_byte is.told in omega (arith, bytes)
accepted_quietly files input (declines so is) = absurd (cc)
accepted_quietly files input (finds_no_sheet so is) = absurd (cc)

no_check : (files : Files) (input : List ℕ) → EndsCheck (run_on check_words files input (ended (codes "accepted")) Memory) (codes "f") → ⊥
no_check files input (accepts so is) = absurd (cc)
no_check files input (declines so is) = absurd (cc)
no_check files input (finds_no_sheet so is) = absurd (cc)

not_wanting : (ended (codes "accepted") ≡ memory_text) ⊎ (ended (codes "accepted") ≡ sheet_memory_text) → ⊥
not_wanting (inl same) = let bytes : 97 ≡ 114 = ap first_byte same in omega (arith, bytes)
not_wanting (inr same) = let bytes : 97 ≡ 115 = ap first_byte same in omega (arith, bytes)

more_than_want : (files : Files) (input : List ℕ) → ¬ Keeps check_words files input (ended (codes "accepted")) Memory
more_than_want files input keeps = elim (either_ends files input (ended (codes "accepted")) Memory (λ c. c) keeps) [
  | inl ends ↦ no_check files input ends
  | inr lacks ↦ not_wanting lacks.1
]

pub broken_checks : TextsHaveOneOutcome → BrokenChecks
broken_checks one_outcome = record {
  accepted_wrongly = λ sheet text input printed reads never keeps. accepted_wrongly one_outcome text sheet input printed reads never (check_ends (file_f text) input printed Done (λ e. absurd (cc)) (λ c. c) keeps);
  refused_wrongly = λ sheet text input printed reads accepted keeps. refused_wrongly one_outcome text sheet input printed reads accepted (check_ends (file_f text) input printed CertRefused (λ e. absurd (cc)) (λ c. c) keeps);
  accepted_quietly = λ files input keeps. accepted_quietly files input (check_ends files input [] Done (λ e. absurd (cc)) (λ c. c) keeps);
  sheet_refused = λ sheet text input printed reads keeps. sheet_refused one_outcome text sheet input printed reads (check_ends (file_f text) input printed SheetRefused (λ e. absurd (cc)) (λ c. c) keeps);
  other_fault = λ text input printed why has other keeps. other_fault one_outcome text input printed why has other (check_ends (file_f text) input printed SheetRefused (λ e. absurd (cc)) (λ c. c) keeps);
  more_than_want = more_than_want;
}

-- ---- words

pub no_usage : (b c : Bool) → Usage ≡ worse_of b c → ⊥
no_usage true c is = absurd (cc)
no_usage false true is = absurd (cc)
no_usage false false is = absurd (cc)

usage_of_edit : (files : Files) (input printed : List ℕ) → EndsSession (run_on edit_words files input printed Usage) usual_budget (edits (codes "f")) → ⊥
usage_of_edit files input printed (answers_all text commands sheet commands_are s) = no_usage _ _ s.status_is
usage_of_edit files input printed (refuses text why more so sheet refusing told_so) = absurd (cc)

done_is_no_usage : Done ≡ Usage → ⊥
done_is_no_usage e = absurd (cc)

pub broken_usage : WordsAreWorked → BrokenUsage
broken_usage worked = record {
  no_words = λ files input printed keeps. done_is_no_usage ((keeps (run_on [] files input printed Done) (told [] files input printed Done) (λ c. c)).unfit worked.1.none).0;
  fitting_words = λ files input printed keeps. usage_of_edit files input printed (edit_ends files input printed Usage keeps (λ e. absurd (cc)) (λ c. c));
}

-- ---- devices

never_rose : (n : ℕ) → n < 2 ^ 64 - 1 → Rose n n → ⊥
never_rose n few rose = omega (arith, few, rose)

fault_told : {I H O : Type 0} (words : List (List ℕ)) (kept : H → Option Files) (shelf_faults : H → ℕ) (input_faults : I → ℕ) (output_faults : O → ℕ) (shelf : H) (input : I) (output output' : O)
    → input_faults input < 2 ^ 64 - 1 → shelf_faults shelf < 2 ^ 64 - 1 → ¬ AreUsedAsAsked words ReadFault kept shelf_faults input_faults output_faults shelf shelf input input output output'
fault_told words kept shelf_faults input_faults output_faults shelf input output output' few_of_input few_of_shelf used = elim (used.read_fault refl) [
  | inl of_input ↦ never_rose (input_faults input) few_of_input of_input.0
  | inr of_shelf ↦ never_rose (shelf_faults shelf) few_of_shelf of_shelf.1
]

done_without_words : (notes noted : Notes) (before after : Outside) → ¬ LacksWords Done notes noted before after
done_without_words notes noted before after lacks = elim lacks.told [
  | inl whole ↦ let same : Done ≡ Memory = whole.0 in absurd (cc same)
  | inr front ↦ let same : Done ≡ WriteFault = front.0 in absurd (cc same)
]

pub broken_devices : BrokenDevices
broken_devices = record {
  fault_of_none = fault_told;
  done_without_words = done_without_words;
  write_of_none = λ notes noted before after few same lacks. never_rose before.output_faults few (subst (λ (n : ℕ). Rose before.output_faults n) same (lacks.fault refl));
}
