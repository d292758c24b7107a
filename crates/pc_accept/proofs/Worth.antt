-- What an accepted certificate is worth.
use Rattle.std.proofs.Common.{List, [], map, arith}
use Rattle.pc_sheet.specs.Sheet.{Sheet}
use Rattle.pc_sheet.specs.Entailment.{IsSupport}
use Rattle.pc_sheet.specs.declared.ids.Entry.{Entry}
use Rattle.pc_sheet.specs.declared.ids.Target.{Target}
use Rattle.pc_accept.specs.Accepts.{Claim, implied, inconsistent, repairs, unimplied, against, Line, Certificate, value_of_entry, AcceptsImplied, BarsNothing, BarsTarget, AcceptsClaim}
use Rattle.pc_accept.specs.Laws.{IsInOrder, IsWorth, CertificatesAreSound}
use Rattle.pc_accept.proofs.Soundness.{derived_true, entails_from, in_order, has_same}
use Rattle.pc_accept.proofs.SetsSound.{sets_are_maximal, not_implied}
use Rattle.pc_accept.proofs.AgainstSound.{are_against}

support_from : (sheet : Sheet) (t : Target) (uses values : List Entry) (lines : List Line) → AcceptsImplied sheet t uses values lines
    → (s : List Entry) → IsInOrder sheet.entries uses s → IsSupport sheet s t
support_from sheet t uses values lines h s o = record {
  among = o.among;
  consistent = (map value_of_entry values, record { assigns = h.shown.assigns; fits = h.shown.fits; has = has_same (map value_of_entry values) s uses (λ e. (o.same e).0) h.shown.has });
  entails = λ a shows. entails_from sheet t uses lines h.derives a (record { assigns = shows.assigns; fits = shows.fits; has = has_same a uses s (λ e. (o.same e).1) shows.has });
}

pub worth : (sheet : Sheet) (c : Certificate) (claim : Claim) → AcceptsClaim sheet c claim → IsWorth sheet c claim
worth sheet c (implied t) h =
    let s = in_order sheet.entries c.uses h.shown.entered in
    (s.0, s.1, support_from sheet t c.uses c.values c.lines h s.0 s.1)
worth sheet c inconsistent h = λ a assigns fits.
    let l = derived_true sheet a assigns fits c.lines [] h.derives in
    absurd (omega (arith, l.1.1))
worth sheet c repairs h = sets_are_maximal sheet BarsNothing c h
worth sheet c (unimplied t) h = (sets_are_maximal sheet (BarsTarget t) c h, not_implied sheet t c h)
worth sheet c (against r) h =
    let s = in_order sheet.entries c.uses h.shown.entered in
    (s.0, s.1, are_against sheet r c.uses c.values c.lines h s.0 s.1)

pub certificates_are_sound : CertificatesAreSound
certificates_are_sound sheet c h = worth sheet c c.claim h
