-- A text has one reading at most.
use Rattle.std.proofs.Common.{◌≡◌, ℕ, ◌+◌, true, false, List, [], ◌∷◌, ◌++◌, length, map, Some, refl, sym, ◌∙◌, ap, ap₂, subst, arith}
use Rattle.std.specs.Str.Lines.{lines}
use Rattle.std.proofs.lemmas.List.{append_assoc, append-nil}
use Rattle.pc_sheet.specs.Sheet.{Sheet}
use Rattle.pc_sheet.specs.WellFormed.{IsWellFormed}
use Rattle.pc_sheet.specs.declared.ids.Entry.{Entry}
use Rattle.pc_accept.specs.Accepts.{Claim}
use Rattle.pc_elaborate.specs.Laws.{TreesHaveOneOutcome}
use Rattle.pc_cert.specs.Written.{WrittenLine, CertificatePart, SaidLine}
use Rattle.pc_cert.specs.Order.{LineKind, kind_of, sets_in}
use Rattle.pc_cert.specs.Line.{IsCertificateLine}
use Rattle.pc_cert.specs.Meaning.{IsSaidLine}
use Rattle.pc_cert.specs.Text.{SaysOfSheet, AllSay, CertificateFault, IsCertificateAtFault, formless, nameless, SetReading, CertificateReading, SayTogether, TextReading, certificate, fault_at, has_end, IsTextReading, whole, endless, faulty}
use Rattle.pc_cert.proofs.TestsDiffer.{false_no_true}
use Rattle.pc_cert.proofs.ReadTexts.{IsUnambiguous}
use Rattle.pc_cert.proofs.OneForm.{line_once}
use Rattle.pc_cert.proofs.ReadNamed.{line_named_once}

-- ---- what lines say together

abbrev reading : Claim → List SetReading → List (ℕ × Entry) → List (ℕ × Entry) → ℕ → List (ℕ × CertificatePart) → CertificateReading
reading c ss us vs n ps = record { claim = c; sets = ss; uses = us; values = vs; after = n; parts = ps }

same_some : {A : Type 0} (a b : A) → Some a ≡ Some b → a ≡ b
same_some a b e = cc

together_once : (ls : List SaidLine) (r s : CertificateReading) → SayTogether ls r → SayTogether ls s → r ≡ s
together_once ls r s a b =
    ap (λ c. reading c r.sets r.uses r.values r.after r.parts) (same_some r.claim s.claim (sym a.claim ∙ b.claim))
    ∙ ap (λ ss. reading s.claim ss r.uses r.values r.after r.parts) (a.sets ∙ sym b.sets)
    ∙ ap (λ us. reading s.claim s.sets us r.values r.after r.parts) (a.uses ∙ sym b.uses)
    ∙ ap (λ vs. reading s.claim s.sets s.uses vs r.after r.parts) (a.values ∙ sym b.values)
    ∙ ap (λ n. reading s.claim s.sets s.uses s.values n r.parts) (a.after ∙ sym b.after)
    ∙ ap (λ ps. reading s.claim s.sets s.uses s.values s.after ps) (a.parts ∙ sym b.parts)

record SameFault (ks ls : List (List ℕ)) (d e : CertificateFault) : Type 0 where
  places : length ks ≡ length ls
  faults : d ≡ e

module _ (sheet : Sheet) (form_once : (line : List ℕ) (f g : WrittenLine) → IsCertificateLine line f → IsCertificateLine line g → f ≡ g) (named_once : (sets : ℕ) (f : WrittenLine) (l m : SaidLine) → IsSaidLine sheet sets f l → IsSaidLine sheet sets f m → l ≡ m) where
  -- ---- a line behind lines of these kinds

  says_once : (before : List LineKind) (line : List ℕ) (l m : SaidLine) → SaysOfSheet sheet before line l → SaysOfSheet sheet before line m → l ≡ m
  says_once before line l m a b =
      let forms = form_once line a.form b.form a.is b.is in
      named_once (sets_in before) b.form l m (subst (λ f. IsSaidLine sheet (sets_in before) f l) forms a.named) b.named

  says_no_fault : (before : List LineKind) (line : List ℕ) (l : SaidLine) (e : CertificateFault) → SaysOfSheet sheet before line l → IsCertificateAtFault sheet before line e → ⊥
  says_no_fault before line l e a (formless none) = none a.form a.is a.may
  says_no_fault before line l e a (nameless form is may none) = none l (subst (λ f. IsSaidLine sheet (sets_in before) f l) (form_once line a.form form a.is is) a.named)

  one_fault : (before : List LineKind) (line : List ℕ) (d e : CertificateFault) → IsCertificateAtFault sheet before line d → IsCertificateAtFault sheet before line e → d ≡ e
  one_fault before line d e (formless none) (formless never) = refl
  one_fault before line d e (formless none) (nameless form is may never) = absurd (none form is may)
  one_fault before line d e (nameless form is may none) (formless never) = absurd (never form is may)
  one_fault before line d e (nameless form is may none) (nameless other there stays never) = refl

  -- ---- lines that say something

  all_say_once : (before : List LineKind) (lines : List (List ℕ)) (ls ms : List SaidLine) → AllSay sheet before lines ls → AllSay sheet before lines ms → ls ≡ ms
  all_say_once before [] [] [] a b = refl
  all_say_once before [] [] (m ∷ ms) a b = absurd b
  all_say_once before [] (l ∷ ls) ms a b = absurd a
  all_say_once before (line ∷ lines) [] ms a b = absurd a
  all_say_once before (line ∷ lines) (l ∷ ls) [] a b = absurd b
  all_say_once before (line ∷ lines) (l ∷ ls) (m ∷ ms) a b =
      let same = says_once before line l m a.0 b.0 in
      let rest = all_say_once (before ++ kind_of m ∷ []) lines ls ms (subst (λ n. AllSay sheet (before ++ kind_of n ∷ []) lines ls) same a.1) b.1 in
      ap₂ (λ n ns. n ∷ ns) same rest

  abbrev behind : List LineKind → List SaidLine → List LineKind
  behind before ls = before ++ map kind_of ls

  -- no line at fault says anything
  no_fault_inside : (before : List LineKind) (lines : List (List ℕ)) (line : List ℕ) (more : List (List ℕ)) (ls ms : List SaidLine) (e : CertificateFault) → AllSay sheet before (lines ++ line ∷ more) ls → AllSay sheet before lines ms → IsCertificateAtFault sheet (behind before ms) line e → ⊥
  no_fault_inside before [] line more [] ms e a b fault = a
  no_fault_inside before [] line more (l ∷ ls) [] e a b fault = says_no_fault before line l e a.0 (subst (λ ks. IsCertificateAtFault sheet ks line e) (append-nil before) fault)
  no_fault_inside before [] line more (l ∷ ls) (m ∷ ms) e a b fault = b
  no_fault_inside before (k ∷ ks) line more [] ms e a b fault = a
  no_fault_inside before (k ∷ ks) line more (l ∷ ls) [] e a b fault = b
  no_fault_inside before (k ∷ ks) line more (l ∷ ls) (m ∷ ms) e a b fault =
      let same = says_once before k l m a.0 b.0 in
      no_fault_inside (before ++ kind_of m ∷ []) ks line more ls ms e (subst (λ n. AllSay sheet (before ++ kind_of n ∷ []) (ks ++ line ∷ more) ls) same a.1) b.1
      (subst (λ h. IsCertificateAtFault sheet h line e) (sym (append_assoc before (kind_of m ∷ []) (map kind_of ms))) fault)

  -- the first line at fault is one line, with one fault
  first_fault : (before : List LineKind) (ks ls : List (List ℕ)) (k l : List ℕ) (rest more : List (List ℕ)) (xs ys : List SaidLine) (d e : CertificateFault) → ks ++ k ∷ rest ≡ ls ++ l ∷ more → AllSay sheet before ks xs → AllSay sheet before ls ys → IsCertificateAtFault sheet (behind before xs) k d → IsCertificateAtFault sheet (behind before ys) l e → SameFault ks ls d e
  first_fault before [] [] k l rest more [] [] d e same a b one other =
      let line : k ≡ l = cc in
      record { places = refl; faults = one_fault (before ++ []) l d e (subst (λ h. IsCertificateAtFault sheet (before ++ []) h d) line one) other }
  first_fault before [] [] k l rest more (x ∷ xs) ys d e same a b one other = absurd a
  first_fault before [] [] k l rest more [] (y ∷ ys) d e same a b one other = absurd b
  first_fault before [] (m ∷ ls) k l rest more xs [] d e same a b one other = absurd b
  first_fault before [] (m ∷ ls) k l rest more (x ∷ xs) (y ∷ ys) d e same a b one other = absurd a
  first_fault before [] (m ∷ ls) k l rest more [] (y ∷ ys) d e same a b one other =
      let line : m ≡ k = cc in
      absurd (says_no_fault before k y d (subst (λ h. SaysOfSheet sheet before h y) line b.0) (subst (λ h. IsCertificateAtFault sheet h k d) (append-nil before) one))
  first_fault before (m ∷ ks) [] k l rest more [] ys d e same a b one other = absurd a
  first_fault before (m ∷ ks) [] k l rest more (x ∷ xs) (y ∷ ys) d e same a b one other = absurd b
  first_fault before (m ∷ ks) [] k l rest more (x ∷ xs) [] d e same a b one other =
      let line : m ≡ l = cc in
      absurd (says_no_fault before l x e (subst (λ h. SaysOfSheet sheet before h x) line a.0) (subst (λ h. IsCertificateAtFault sheet h l e) (append-nil before) other))
  first_fault before (m ∷ ks) (n ∷ ls) k l rest more [] ys d e same a b one other = absurd a
  first_fault before (m ∷ ks) (n ∷ ls) k l rest more (x ∷ xs) [] d e same a b one other = absurd b
  first_fault before (m ∷ ks) (n ∷ ls) k l rest more (x ∷ xs) (y ∷ ys) d e same a b one other =
      let line : m ≡ n = cc in
      let tails : ks ++ k ∷ rest ≡ ls ++ l ∷ more = cc in
      let said = says_once before n x y (subst (λ h. SaysOfSheet sheet before h x) line a.0) b.0 in
      let last = first_fault (before ++ kind_of y ∷ []) ks ls k l rest more xs ys d e tails (subst (λ h. AllSay sheet (before ++ kind_of h ∷ []) ks xs) said a.1) b.1
      (subst (λ h. IsCertificateAtFault sheet h k d) (ap (λ h. behind before (h ∷ xs)) said ∙ sym (append_assoc before (kind_of y ∷ []) (map kind_of xs))) one)
      (subst (λ h. IsCertificateAtFault sheet h l e) (sym (append_assoc before (kind_of y ∷ []) (map kind_of ys))) other) in
      let count = last.places in
      record { places = omega (arith, count); faults = last.faults }

  -- ---- texts

  says_whole : (text : List ℕ) (ls : List SaidLine) → AllSay sheet [] (lines text) ls → (before : List (List ℕ)) (ms : List SaidLine) (line : List ℕ) (others : List (List ℕ)) (e : CertificateFault) → lines text ≡ before ++ line ∷ others → AllSay sheet [] before ms → IsCertificateAtFault sheet (map kind_of ms) line e → ⊥
  says_whole text ls a before ms line others e parted b fault = no_fault_inside [] before line others ls ms e (subst (λ ks. AllSay sheet [] ks ls) parted a) b fault

  ends_once : (text : List ℕ) (ls ms : List SaidLine) → AllSay sheet [] (lines text) ls → AllSay sheet [] (lines text) ms → has_end ls ≡ true → has_end ms ≡ false → ⊥
  ends_once text ls ms a b some none = false_no_true (has_end ms) none (ap has_end (sym (all_say_once [] (lines text) ls ms a b)) ∙ some)

  reading_once : (text : List ℕ) (ls ms : List SaidLine) (r s : CertificateReading) → AllSay sheet [] (lines text) ls → AllSay sheet [] (lines text) ms → SayTogether ls r → SayTogether ms s → r ≡ s
  reading_once text ls ms r s a b one other = together_once ms r s (subst (λ ns. SayTogether ns r) (all_say_once [] (lines text) ls ms a b) one) other

  pub one_text_reading : (text : List ℕ) (r s : TextReading) → IsTextReading sheet text r → IsTextReading sheet text s → r ≡ s
  one_text_reading text r s (whole ls {r = x} a closed one) (whole ms {r = y} b ended other) = ap certificate (reading_once text ls ms x y a b one other)
  one_text_reading text r s (whole ls a closed one) (endless ms b open_end) = absurd (ends_once text ls ms a b closed open_end)
  one_text_reading text r s (whole ls a closed one) (faulty before ms line others {e = e} parted b fault) = absurd (says_whole text ls a before ms line others e parted b fault)
  one_text_reading text r s (endless ls a open_end) (whole ms b closed other) = absurd (ends_once text ms ls b a closed open_end)
  one_text_reading text r s (endless ls a open_end) (endless ms b left) = refl
  one_text_reading text r s (endless ls a open_end) (faulty before ms line others {e = e} parted b fault) = absurd (says_whole text ls a before ms line others e parted b fault)
  one_text_reading text r s (faulty before ls line others {e = e} parted a fault) (whole ms b closed other) = absurd (says_whole text ms b before ls line others e parted a fault)
  one_text_reading text r s (faulty before ls line others {e = e} parted a fault) (endless ms b left) = absurd (says_whole text ms b before ls line others e parted a fault)
  one_text_reading text r s (faulty before ls k rest {e = d} parted a one) (faulty earlier ms l more {e = e} cut b other) =
      let same = first_fault [] before earlier k l rest more ls ms d e (sym parted ∙ cut) a b one other in
      ap₂ (λ n x. fault_at (n + 1) x) same.places same.faults

pub one_saying : TreesHaveOneOutcome → (sheet : Sheet) → IsWellFormed sheet → (sets : ℕ) (form : WrittenLine) (k l : SaidLine) → IsSaidLine sheet sets form k → IsSaidLine sheet sets form l → k ≡ l
one_saying outcomes sheet formed = line_named_once sheet (outcomes sheet.universe formed.universe) formed.rules.different

pub one_reading : IsUnambiguous → TreesHaveOneOutcome → (sheet : Sheet) → IsWellFormed sheet → (text : List ℕ) (r s : TextReading) → IsTextReading sheet text r → IsTextReading sheet text s → r ≡ s
one_reading laws outcomes sheet formed = one_text_reading sheet (line_once laws) (one_saying outcomes sheet formed)
