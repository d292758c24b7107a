-- The verdict on a certificate, from what the parts of the check answered.
use Rattle.std.proofs.Common.{◌≡◌, ℕ, ◌<◌, ◌↔◌, Bool, true, false, IsTrue, List, [], ◌++◌, length, get_or, All, Option, None, Some, ap, sym, ◌∙◌, subst}
use Rattle.std.proofs.lemmas.Bool.{iff_false}
use Rattle.std.proofs.lemmas.List.{get_or_default}
use Rattle.pc_lits.specs.declared.literal.Lit.{Lit}
use Rattle.pc_sheet.specs.Sheet.{Sheet}
use Rattle.pc_accept.specs.Literals.{Symbol}
use Rattle.pc_cert.specs.ReadFor.{IsNamedIn}
use Rattle.pc_cert.specs.Text.{CertificateReading}
use Rattle.pc_cert.specs.Views.{symbols_of, reading_of}
use Rattle.pc_cert.specs.declared.cert.CertLine.{CertLine}
use Rattle.pc_cert.specs.declared.cert.Cert.{Cert}
use Rattle.pc_checker.specs.declared.scratch.Scratch.{Scratch}
use Rattle.pc_checker.specs.declared.verdict.Verdict.{Verdict}
use Rattle.pc_checker.specs.declared.verdict.Verdict.TheVariants.{WrongEnd, Accepted}
use Rattle.pc_checker.specs.Made.{IsPreparedFor, IsMadeFor, own_blocks}
use Rattle.pc_checker.specs.inside.Parts.{IsClaimVerdict, AreGoodBelow, IsFirstBad, EndsAmong, fault_at}
use Rattle.pc_checker.specs.Verdicts.{ClaimStands, IsVerdict}
use Rattle.pc_checker.proofs.ExactClauses.{IsExact, exact, exact_count, exact_within, exact_each, exact_same}
use Rattle.pc_checker.proofs.SameClauses.{AreSame, are_same_back, first_bad_same, ends_same}
use Rattle.pc_checker.proofs.CheckedLines.{no_line, first_at_fault, derivation, ends, fault_verdict}

pub claim_stands : (sheet : Sheet) (r : CertificateReading) (o : Option Verdict) → o ≡ None → IsClaimVerdict sheet r o → ClaimStands sheet r r.claim
claim_stands sheet r o none h = subst (IsClaimVerdict sheet r) none h

module _ (sheet : Sheet) (c : Cert) (s : Scratch) (made : IsMadeFor sheet c s) (stands : ClaimStands sheet (reading_of c) (reading_of c).claim) where
  abbrev p : IsPreparedFor sheet c s
  p = made.prepared

  abbrev names : List Symbol
  names = symbols_of c ++ p.more

  -- each line's clause as it is written
  abbrev full : List (List Lit)
  full = exact c.lines.items s.clauses

  count : length full ≡ length c.lines.items
  count = exact_count c.lines.items s.clauses p.count

  within : All (All (IsNamedIn names)) full
  within = exact_within sheet (own_blocks sheet c) names c.lines.items s.clauses s.axioms.items no_line p.count p.each p.within

  each : (i : ℕ) (d : CertLine) → i < length c.lines.items → IsExact sheet (own_blocks sheet c) names (get_or full i []) (get_or s.axioms.items i false) (get_or c.lines.items i d).part
  each = exact_each sheet (own_blocks sheet c) names c.lines.items s.clauses s.axioms.items p.count p.each

  same : AreSame s.clauses full
  same = exact_same sheet (own_blocks sheet c) names c.lines.items s.clauses s.axioms.items no_line p.count p.each

  bad_answer : (lines : List CertLine) (axioms : List Bool) (o q : Option ℕ) → lines ≡ c.lines.items → axioms ≡ s.axioms.items → o ≡ q → IsFirstBad s.clauses axioms lines o
      → IsFirstBad full s.axioms.items c.lines.items q
  bad_answer lines axioms o q same_lines same_axioms is h =
      let P : List CertLine → List Bool → Type 0 = λ ls bs. IsFirstBad s.clauses bs ls q in
      first_bad_same s.clauses full same s.axioms.items c.lines.items q (subst (P c.lines.items) same_axioms (subst (λ ls. P ls axioms) same_lines (subst (IsFirstBad s.clauses axioms lines) is h)))

  pub at_fault : (lines : List CertLine) (axioms : List Bool) (o : Option ℕ) (k : ℕ) (line : CertLine) (v : Verdict) → lines ≡ c.lines.items → axioms ≡ s.axioms.items → o ≡ Some k
      → IsFirstBad s.clauses axioms lines o → line ≡ get_or c.lines.items k line → v ≡ fault_at line → IsVerdict sheet (reading_of c) v
  at_fault lines axioms o k line v same_lines same_axioms some h at is =
      let bad = bad_answer lines axioms o (Some k) same_lines same_axioms some h in
      let first = first_at_fault sheet (own_blocks sheet c) (symbols_of c) p.more p.distinct full s.axioms.items c.lines.items count within made.read.parts each k bad.0 bad.1 bad.2 in
      let x = get_or c.lines.items k no_line in
      let same_line : line ≡ x = at ∙ get_or_default c.lines.items k line no_line bad.0 in
      subst (IsVerdict sheet (reading_of c)) (sym (is ∙ ap fault_at same_line)) (fault_verdict sheet (reading_of c) (symbols_of c) x.line x.part stands first)

  module _ (lines : List CertLine) (axioms : List Bool) (o : Option ℕ) (allowed : List Lit) (b : Bool) (same_lines : lines ≡ c.lines.items) (same_axioms : axioms ≡ s.axioms.items) (none : o ≡ None)
      (bad : IsFirstBad s.clauses axioms lines o) (same_allowed : allowed ≡ s.allowed.items) (is : IsTrue b ↔ EndsAmong s.clauses allowed) where
    good : AreGoodBelow full s.axioms.items c.lines.items (length c.lines.items)
    good = bad_answer lines axioms o None same_lines same_axioms none bad

    ends_right : EndsAmong s.clauses allowed → EndsAmong full s.allowed.items
    ends_right h = subst (EndsAmong full) same_allowed (ends_same s.clauses full same allowed (p.count ∙ sym count) h)

    ends_back : EndsAmong full s.allowed.items → EndsAmong s.clauses allowed
    ends_back h = ends_same full s.clauses (are_same_back s.clauses full same) allowed (count ∙ sym p.count) (subst (EndsAmong full) (sym same_allowed) h)

    pub accepted : b ≡ true → IsVerdict sheet (reading_of c) Accepted
    accepted good_end = (
      stands,
      record {
        clauses = _;
        derivation = derivation sheet (own_blocks sheet c) (symbols_of c) p.more p.distinct full s.axioms.items c.lines.items count within made.read.parts each good;
        ends = (ends sheet (own_blocks sheet c) (symbols_of c) p.more p.distinct full s.axioms.items c.lines.items count within made.read.parts each s.allowed.items _ p.allowed_within p.allowed).0
            (ends_right (is.0 good_end));
      },
    )

    pub wrong_end : b ≡ false → IsVerdict sheet (reading_of c) WrongEnd
    wrong_end bad_end = (
      stands,
      record {
        clauses = _;
        derivation = derivation sheet (own_blocks sheet c) (symbols_of c) p.more p.distinct full s.axioms.items c.lines.items count within made.read.parts each good;
        elsewhere = λ h.
            iff_false is bad_end
            (ends_back ((ends sheet (own_blocks sheet c) (symbols_of c) p.more p.distinct full s.axioms.items c.lines.items count within made.read.parts each s.allowed.items _ p.allowed_within p.allowed).1 h));
      },
    )
