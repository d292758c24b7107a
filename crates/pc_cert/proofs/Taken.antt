-- Lines that are taken one after the other.
use Rattle.std.proofs.Common.{◌≡◌, ℕ, suc, ◌+◌, ◌<◌, Bool, true, false, MatchBool, List, [], ◌∷◌, ◌++◌, codes, map, length, if◌then◌else◌, append_assoc, refl, ap, sym, ◌∙◌, subst, arith}
use Rattle.std.specs.Prelude.{bytes_eq, Err}
use Rattle.std.specs.Str.Parse.{IsNumeral, digits_value}
use Rattle.std.specs.Str.Lines.{lines}
use Rattle.std.proofs.lemmas.List.{map-append, append-nil}
use Rattle.std.proofs.lemmas.Slice.Eq.{bytes_eq-Decides}
use Rattle.pc_sheet.specs.Sheet.{Sheet}
use Rattle.pc_accept.specs.Accepts.{Claim, implied, inconsistent, repairs, unimplied, against}
use Rattle.pc_cert.specs.Written.{nothing, heading, claims, begins, uses, assigns, derives, ends, WrittenLine, SaidLine}
use Rattle.pc_cert.specs.Claims.{WrittenClaim, written_implied, written_inconsistent, written_repairs, written_unimplied, written_against, IsClaimForm, IsClaimNamed}
use Rattle.pc_cert.specs.Line.{IsCertificateForm, IsCertificateLine}
use Rattle.pc_cert.specs.Words.{texts_of}
use Rattle.pc_cert.specs.Meaning.{IsSaidLine}
use Rattle.pc_cert.specs.Order.{LineKind, empty_line, heading_line, target_line, set_line, use_line, value_line, numbered_line, end_line, kind_of, kind_of_claim, kind_of_written, kind_of_written_claim, sets_in, may_stand}
use Rattle.pc_cert.specs.Standing.{order_of}
use Rattle.pc_cert.specs.Text.{SaysOfSheet, AllSay, IsCertificateAtFault, formless, nameless, syntax, unknown_name, IsTextReading, fault_at, faulty}
use Rattle.pc_cert.specs.Gathered.{AddsLine}
use Rattle.pc_cert.specs.inside.Taken.{IsLineFault, IsFormless, IsTaken, AreTaken}
use Rattle.pc_cert.specs.Views.{IsCertTold}
use Rattle.pc_cert.specs.declared.draft.Draft.{Draft}
use Rattle.pc_cert.specs.declared.order.Order.{Order}
use Rattle.pc_cert.specs.declared.cert.CertFault.{CertFault}
use Rattle.pc_cert.specs.declared.cert.CertFault.TheVariants as cert_fault

claim_kind : (sheet : Sheet) (w : WrittenClaim) (c : Claim) → IsClaimNamed sheet w c → kind_of_claim c ≡ kind_of_written_claim w
claim_kind sheet (written_implied p holds) (implied t) is = refl
claim_kind sheet written_inconsistent inconsistent is = refl
claim_kind sheet written_repairs repairs is = refl
claim_kind sheet (written_unimplied p) (unimplied t) is = refl
claim_kind sheet (written_against n) (against r) is = refl
claim_kind sheet w c is = absurd is

pub same_kind : (sheet : Sheet) (sets : ℕ) (f : WrittenLine) (l : SaidLine) → IsSaidLine sheet sets f l → kind_of l ≡ kind_of_written f
same_kind sheet sets nothing nothing is = refl
same_kind sheet sets heading heading is = refl
same_kind sheet sets (claims w) (claims c) is = claim_kind sheet w c is
same_kind sheet sets begins begins is = refl
same_kind sheet sets (uses p) (uses e) is = refl
same_kind sheet sets (assigns p) (assigns e) is = refl
same_kind sheet sets (derives n w) (derives m q) is = ap numbered_line is.0
same_kind sheet sets ends ends is = refl
same_kind sheet sets f l is = absurd is

-- ---- the first text of a line tells where it may stand

abbrev start_kind : List (List ℕ) → LineKind
start_kind [] = empty_line
start_kind (t ∷ ts) =
    if bytes_eq t (codes "certificate") then heading_line else if bytes_eq t (codes "claim") then target_line else if bytes_eq t (codes "set") then set_line else if bytes_eq t (codes "use") then use_line
    else if bytes_eq t (codes "value") then value_line else if bytes_eq t (codes "end") then end_line else numbered_line (digits_value 10 t)

no_true : (b : Bool) → (b ≡ true → ⊥) → b ≡ false
no_true true never = absurd (never refl)
no_true false never = refl

no_word : (t w : List ℕ) → IsNumeral 10 t → (IsNumeral 10 w → ⊥) → bytes_eq t w ≡ false
no_word t w is never = no_true (bytes_eq t w) (λ e. never (subst (IsNumeral 10) ((bytes_eq-Decides t w).0 e) is))

choose : (a b c d e f : Bool) (k : LineKind) → a ≡ false → b ≡ false → c ≡ false → d ≡ false → e ≡ false → f ≡ false
    → (if a then heading_line else if b then target_line else if c then set_line else if d then use_line else if e then value_line else if f then end_line else k) ≡ k
choose a b c d e f k p q r s t u = rw p (rw q (rw r (rw s (rw t (rw u refl)))))

numeral_kind : (t : List ℕ) (ts : List (List ℕ)) → IsNumeral 10 t → start_kind (t ∷ ts) ≡ numbered_line (digits_value 10 t)
numeral_kind t ts is =
    choose _ _ _ _ _ _ (numbered_line (digits_value 10 t)) (no_word t (codes "certificate") is (λ n. omega (arith, n.1.0))) (no_word t (codes "claim") is (λ n. omega (arith, n.1.0)))
    (no_word t (codes "set") is (λ n. omega (arith, n.1.0))) (no_word t (codes "use") is (λ n. omega (arith, n.1.0))) (no_word t (codes "value") is (λ n. omega (arith, n.1.0))) (no_word t (codes "end") is (λ n. omega (arith, n.1.0)))

claim_by_start : (before : List LineKind) (line : List ℕ) (texts : List (List ℕ)) (c : WrittenClaim) → IsClaimForm line texts c → may_stand before (kind_of_written_claim c) ≡ may_stand before (start_kind texts)
claim_by_start before line texts (written_implied p b) is = ap (λ ts. may_stand before (start_kind ts)) (sym is.0.is)
claim_by_start before line texts written_inconsistent is = ap (λ ts. may_stand before (start_kind ts)) (sym is)
claim_by_start before line texts written_repairs is = ap (λ ts. may_stand before (start_kind ts)) (sym is)
claim_by_start before line texts (written_unimplied p) is = ap (λ ts. may_stand before (start_kind ts)) (sym is.0.is)
claim_by_start before line texts (written_against n) is = ap (λ ts. may_stand before (start_kind ts)) (sym is.0)

by_start : (before : List LineKind) (line : List ℕ) (texts : List (List ℕ)) (f : WrittenLine) → IsCertificateForm line texts f → may_stand before (kind_of_written f) ≡ may_stand before (start_kind texts)
by_start before line texts nothing is = ap (λ ts. may_stand before (start_kind ts)) (sym is)
by_start before line texts heading is = ap (λ ts. may_stand before (start_kind ts)) (sym is.are)
by_start before line texts (claims c) is = claim_by_start before line texts c is
by_start before line texts begins is = ap (λ ts. may_stand before (start_kind ts)) (sym is)
by_start before line texts (uses p) is = ap (λ ts. may_stand before (start_kind ts)) (sym is.0.is)
by_start before line texts (assigns p) is = ap (λ ts. may_stand before (start_kind ts)) (sym is.0.is)
by_start before line texts (derives n w) is =
    ap (λ m. may_stand before (numbered_line m)) is.counts.value ∙ ap (may_stand before) (sym (numeral_kind is.number is.more is.counts.digits)) ∙ ap (λ ts. may_stand before (start_kind ts)) (sym is.are)
by_start before line texts ends is = ap (λ ts. may_stand before (start_kind ts)) (sym is)

false_true : (b : Bool) → b ≡ false → b ≡ true → ⊥
false_true b e f = cc

-- ---- one line

module _ (sheet : Sheet) (ls : List SaidLine) (line : List ℕ) (f : WrittenLine) (is : IsCertificateLine line f) where
  abbrev before : List LineKind
  before = map kind_of ls

  pub misplaced : (b : Bool) → b ≡ may_stand before (kind_of_written f) → b ≡ false → IsCertificateAtFault sheet before line syntax
  misplaced b same stays = formless (λ g line_g may.
      false_true (may_stand before (kind_of_written g)) (by_start before line (texts_of line) g line_g ∙ sym (by_start before line (texts_of line) f is) ∙ sym same ∙ stays) may)

  pub unnamed : (A : Type 0) (b : Bool) → may_stand before (kind_of_written f) ≡ true → b ≡ false → MatchBool b A ((l : SaidLine) → IsSaidLine sheet (sets_in before) f l → ⊥) → IsCertificateAtFault sheet before line unknown_name
  unnamed A b may stays told = nameless f is may (subst (λ c. MatchBool c A ((l : SaidLine) → IsSaidLine sheet (sets_in before) f l → ⊥)) stays told)

  pub taken_line : (d : Draft) (o : Order) (N : Type 0) (b : Bool) → may_stand before (kind_of_written f) ≡ true → b ≡ true → MatchBool b (AddsLine sheet f ls d) N → o ≡ order_of (before ++ kind_of_written f ∷ []) → IsTaken sheet ls line o d
  taken_line d o N b may goes told order =
      let adds = subst (λ c. MatchBool c (AddsLine sheet f ls d) N) goes told in
      record {
        says = adds.line;
        is = record { form = f; is = is; may = may; named = adds.named };
        gathered = adds.gathered;
        order = order ∙ ap (λ k. order_of (before ++ k ∷ [])) (sym (same_kind sheet (sets_in before) f adds.line adds.named)) ∙ ap order_of (sym (map-append kind_of ls (adds.line ∷ [])));
      }

pub no_form : (sheet : Sheet) (before : List LineKind) (line : List ℕ) (number : ℕ) (e : CertFault) → IsFormless line number e → IsLineFault sheet before line number e
no_form sheet kinds line number (cert_fault.Syntax n) is = (is.0, formless (λ f form may. is.1 f form))
no_form sheet kinds line number (cert_fault.UnknownName n) is = absurd is
no_form sheet kinds line number cert_fault.Memory is = tt

-- ---- many lines

module _ (sheet : Sheet) where
  all_on : (before : List LineKind) (done : List (List ℕ)) (ls : List SaidLine) (line : List ℕ) (l : SaidLine) → AllSay sheet before done ls → SaysOfSheet sheet (before ++ map kind_of ls) line l → AllSay sheet before (done ++ line ∷ []) (ls ++ l ∷ [])
  all_on kinds [] [] line l all is = (subst (λ ks. SaysOfSheet sheet ks line l) (append-nil kinds) is, tt)
  all_on kinds [] (m ∷ ls) line l all is = absurd all
  all_on kinds (d ∷ done) [] line l all is = absurd all
  all_on kinds (d ∷ done) (m ∷ ls) line l all is =
      (all.0, all_on (kinds ++ kind_of m ∷ []) done ls line l all.1 (subst (λ ks. SaysOfSheet sheet ks line l) (sym (append_assoc kinds (kind_of m ∷ []) (map kind_of ls))) is))

  pub same_count : (before : List LineKind) (done : List (List ℕ)) (ls : List SaidLine) → AllSay sheet before done ls → length done ≡ length ls
  same_count kinds [] [] all = refl
  same_count kinds [] (m ∷ ls) all = absurd all
  same_count kinds (d ∷ done) [] all = absurd all
  same_count kinds (d ∷ done) (m ∷ ls) all = ap suc (same_count (kinds ++ kind_of m ∷ []) done ls all.1)

  module _ (text rest : List ℕ) (o : Order) (d : Draft) (number : ℕ) (taken : AreTaken sheet text rest o d number) where
    pub taken_more : (line after : List ℕ) (o' : Order) (d' : Draft) → lines rest ≡ line ∷ lines after → length after < length rest → IsTaken sheet taken.says line o' d' → AreTaken sheet text after o' d' (number + 1)
    taken_more line after o' d' splits shorter is = record {
      before = taken.before ++ line ∷ [];
      says = taken.says ++ is.says ∷ [];
      parted = taken.parted ∙ ap (λ ls. taken.before ++ ls) splits ∙ sym (append_assoc taken.before (line ∷ []) (lines after));
      all = all_on [] taken.before taken.says line is.says taken.all is.is;
      gathered = is.gathered;
      order = is.order;
      at = ap (λ n. n + 1) taken.at ∙ ap (λ n. n + 1) (sym (longer taken.says is.says));
      short = omega (arith, taken.short, shorter);
    }
      where
        longer : (xs : List SaidLine) (x : SaidLine) → length (xs ++ x ∷ []) ≡ length xs + 1
        longer [] x = refl
        longer (y ∷ ys) x = omega (arith, longer ys x)

    place : number ≡ length taken.before + 1
    place = taken.at ∙ ap (λ n. n + 1) (sym (same_count [] taken.before taken.says taken.all))

    pub failed : (line after : List ℕ) (e : CertFault) → lines rest ≡ line ∷ lines after → IsLineFault sheet (map kind_of taken.says) line number e → IsCertTold sheet text (Err e)
    failed line after (cert_fault.Syntax n) splits is =
        subst (λ k. IsTextReading sheet text (fault_at k syntax)) (sym (is.0 ∙ place)) (faulty taken.before taken.says line (lines after) (taken.parted ∙ ap (λ ls. taken.before ++ ls) splits) taken.all is.1)
    failed line after (cert_fault.UnknownName n) splits is =
        subst (λ k. IsTextReading sheet text (fault_at k unknown_name)) (sym (is.0 ∙ place)) (faulty taken.before taken.says line (lines after) (taken.parted ∙ ap (λ ls. taken.before ++ ls) splits) taken.all is.1)
    failed line after cert_fault.Memory splits is = tt
