-- What is told of a certificate that was judged, in the words of the page.
use Rattle.std.proofs.Common.{◌≡◌, ℕ, List, codes, map, refl, ◌∙◌, ap}
use Rattle.pc_sheet.specs.Sheet.{Sheet}
use Rattle.pc_accept.specs.Laws.{CertificatesAreSound}
use Rattle.pc_sortcheck.specs.Declaring.{ReadsAs}
use Rattle.pc_sortcheck.specs.Laws.{SheetsAreWellFormed}
use Rattle.pc_cert.specs.Text.{certificate_read}
use Rattle.pc_cert.specs.Readings.{LinesHaveOneForm, FormsSayOneThing}
use Rattle.pc_refusals.specs.declared.status.Status.TheVariants.{Done, CertRefused}
use Rattle.pc_checker.specs.declared.verdict.Verdict.TheVariants as verdict
use Rattle.pc_load.specs.Laws.{TextsHaveOneOutcome}
use Rattle.pc_load.specs.Outcome as outcome
use Rattle.pc_judge.specs.declared.told.Told.{Told}
use Rattle.pc_judge.specs.declared.told.Told.TheVariants as told_so
use Rattle.pc_judge.specs.Judged.{IsJudged, judged_text, status_of_told}
use Rattle.pc_judge.specs.Laws.{AcceptedTextIsAccepts, JudgementsAreOne}
use Rattle.pc_judge.specs.AcceptedText.{IsAcceptedText}
use Rattle.pc_spreadsheet.specs.Pages.{uses_of}
use Rattle.pc_theorem.specs.Theorem.{BeginsWith, IsProved}
use Rattle.pc_theorem.proofs.Claimed.{certificate_claims}
use Rattle.pc_theorem.proofs.Worth.{is_so}

-- what is told of a certificate that isn't accepted
pub told_refused : (sheet : Sheet) (t : Told) → CertRefused ≡ status_of_told t → BeginsWith (codes "refused ") (judged_text sheet t)
told_refused sheet (told_so.Verdict (verdict.UseNotEntered line)) is = (_, refl)
told_refused sheet (told_so.Verdict (verdict.BadValues line)) is = (_, refl)
told_refused sheet (told_so.Verdict (verdict.UseNotHeld line)) is = (_, refl)
told_refused sheet (told_so.Verdict (verdict.RuleBroken rule)) is = (_, refl)
told_refused sheet (told_so.Verdict (verdict.HasValue line)) is = (_, refl)
told_refused sheet (told_so.Verdict (verdict.SetInSet line)) is = (_, refl)
told_refused sheet (told_so.Verdict (verdict.BadAxiom line)) is = (_, refl)
told_refused sheet (told_so.Verdict (verdict.BadStep line)) is = (_, refl)
told_refused sheet (told_so.Verdict verdict.WrongEnd) is = (_, refl)
told_refused sheet (told_so.Verdict verdict.Accepted) is = absurd (cc)
told_refused sheet (told_so.Syntax line) is = (_, refl)
told_refused sheet (told_so.UnknownName line) is = (_, refl)

-- the file is no other sheet
pub no_other : TextsHaveOneOutcome → (bytes : List ℕ) (sheet other : Sheet) → ReadsAs bytes sheet → ReadsAs bytes other → other ≡ sheet
no_other one_outcome bytes sheet other reads also = sheet_same other sheet (one_outcome bytes (outcome.reads other) (outcome.reads sheet) also reads)
  where
    sheet_same : (x y : Sheet) → outcome.reads x ≡ outcome.reads y → x ≡ y
    sheet_same x y same = cc

-- what is told of a text that is accepted is that it is
pub refused_is_not_accepted : SheetsAreWellFormed → AcceptedTextIsAccepts → JudgementsAreOne → (sheet : Sheet) (bytes text : List ℕ) (t : Told) → ReadsAs bytes sheet → CertRefused ≡ status_of_told t → IsJudged sheet text t → ¬ IsAcceptedText sheet text
refused_is_not_accepted formed accepts one_verdict sheet bytes text t reads status judged accepted =
    let same = one_verdict sheet (formed bytes sheet reads) text t (told_so.Verdict verdict.Accepted) judged ((accepts sheet text).1 accepted) in
    done_is_other (status ∙ ap status_of_told same)
  where
    done_is_other : CertRefused ≡ Done → ⊥
    done_is_other e = absurd (cc)

-- what is accepted is so
pub proved : SheetsAreWellFormed → CertificatesAreSound → LinesHaveOneForm → FormsSayOneThing → (sheet : Sheet) (bytes text : List ℕ) → ReadsAs bytes sheet → IsAcceptedText sheet text → IsProved sheet text
proved formed sound one_form one_thing sheet bytes text reads is =
    let c = certificate_read is.0 in
    let well = formed bytes sheet reads in
    record {
      claim = c.claim;
      uses = c.uses;
      sets = map uses_of c.sets;
      claims = certificate_claims one_form one_thing sheet well text is.0 c is.1 refl;
      worth = is_so sheet well.entries.distinct c c.claim is.2 (sound sheet c is.2);
    }
