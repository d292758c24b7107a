-- What a text that reads as a certificate claims, and which entries it uses and which values it gives, by its lines.
use Rattle.std.proofs.Common.{◌≡◌, ◌↔◌, ℕ, zero, suc, ◌+◌, ◌⊎◌, Bool, true, false, not, ◌&&◌, ◌||◌, List, [], ◌∷◌, ◌++◌, map, Some, Any, Contains, refl, sym, ◌∙◌, ap, subst, inl, inr, arith}
use Rattle.std.specs.List.{list_any, AllZip}
use Rattle.std.specs.Str.Lines.{lines}
use Rattle.std.proofs.lemmas.List.Folds.{list_any-append}
use Rattle.pc_lemmas.proofs.Elements.{contains_first, contains_later, contains_cases, contains_none}
use Rattle.pc_sheet.specs.Sheet.{Sheet}
use Rattle.pc_sheet.specs.WellFormed.{IsWellFormed}
use Rattle.pc_sheet.specs.declared.ids.Entry.{Entry}
use Rattle.pc_accept.specs.Accepts.{Claim, implied, inconsistent, repairs, unimplied, against, Certificate}
use Rattle.pc_cert.specs.Written.{claims, begins, uses, assigns, WrittenLine, SaidLine}
use Rattle.pc_cert.specs.Claims.{WrittenClaim, written_implied, written_inconsistent, written_repairs, written_unimplied, written_against}
use Rattle.pc_cert.specs.Line.{IsCertificateLine}
use Rattle.pc_cert.specs.Order.{LineKind, kind_of, kind_of_claim, kind_of_written, kind_of_written_claim, is_claim, is_heading, has, lacks, sets_in, may_stand}
use Rattle.pc_cert.specs.Meaning.{IsSaidLine}
use Rattle.pc_cert.specs.Text.{SetReading, CertificateReading, certificate, IsTextReading, whole, AllSay, SaysOfSheet, in_front, uses_from, values_from, sets_from, claim_in, entry_said, set_read, certificate_read}
use Rattle.pc_cert.specs.Readings.{LinesHaveOneForm, FormsSayOneThing}
use Rattle.pc_spreadsheet.specs.Pages.{uses_of}
use Rattle.pc_theorem.specs.Certificates.{IsUseLine, IsValueLine, Assigns, IsClaimLine, IsSetLine, ArePartedAtSets, none_left, other_line, set_line, AreUsedBy, Claims}

-- ---- lists

any_first : {X : Type 0} (P : X → Type 0) (x : X) (xs : List X) → P x → Any P (x ∷ xs)
any_first P x xs p = (zero, x, omega arith, refl, p)

any_later : {X : Type 0} (P : X → Type 0) (x : X) (xs : List X) → Any P xs → Any P (x ∷ xs)
any_later P x xs some = (suc some.0, some.1, omega (arith, some.2), some.3, some.4)

any_none : {X : Type 0} (P : X → Type 0) → ¬ Any P []
any_none P some = omega (arith, some.2)

any_cases : {X : Type 0} (P : X → Type 0) (x : X) (xs : List X) → Any P (x ∷ xs) → P x ⊎ Any P xs
any_cases P x xs (zero, y, inside, same, p) = inl (subst P (sym same) p)
any_cases P x xs (suc k, y, inside, same, p) = inr (k, y, omega (arith, inside), same, p)

or_left : (b c : Bool) → b ≡ true → (b || c) ≡ true
or_left true c is = refl
or_left false c is = absurd (cc)

or_right : (b c : Bool) → c ≡ true → (b || c) ≡ true
or_right true c is = refl
or_right false c is = is

and_right : (b c : Bool) → (b && c) ≡ true → c ≡ true
and_right true c is = is
and_right false c is = absurd (cc)

not_both : (b : Bool) → b ≡ true → not b ≡ true → ⊥
not_both true is no_more = absurd (cc)
not_both false is no_more = absurd (cc)

still_claimed : (before : List LineKind) (k : LineKind) → has is_claim before ≡ true → has is_claim (before ++ k ∷ []) ≡ true
still_claimed before k is = list_any-append is_claim before (k ∷ []) ∙ or_left (list_any is_claim before) (list_any is_claim (k ∷ [])) is

now_claimed : (before : List LineKind) (k : LineKind) → is_claim k ≡ true → has is_claim (before ++ k ∷ []) ≡ true
now_claimed before k is =
    list_any-append is_claim before (k ∷ []) ∙ or_right (list_any is_claim before) (list_any is_claim (k ∷ [])) (or_left (is_claim k) false is)

-- ---- kinds of lines

claims_is_claim : (c : Claim) → is_claim (kind_of_claim c) ≡ true
claims_is_claim (implied t) = refl
claims_is_claim inconsistent = refl
claims_is_claim repairs = refl
claims_is_claim (unimplied t) = refl
claims_is_claim (against r) = refl

-- where a claim stands, none stood before
no_claim_before : (before : List LineKind) (w : WrittenClaim) → may_stand before (kind_of_written_claim w) ≡ true → has is_claim before ≡ true → ⊥
no_claim_before before (written_implied p holds) may stood = not_both (has is_claim before) stood (and_right (has is_heading before) (lacks is_claim before) may)
no_claim_before before written_inconsistent may stood = not_both (has is_claim before) stood (and_right (has is_heading before) (lacks is_claim before) may)
no_claim_before before written_repairs may stood = not_both (has is_claim before) stood (and_right (has is_heading before) (lacks is_claim before) may)
no_claim_before before (written_unimplied p) may stood = not_both (has is_claim before) stood (and_right (has is_heading before) (lacks is_claim before) may)
no_claim_before before (written_against n) may stood = not_both (has is_claim before) stood (and_right (has is_heading before) (lacks is_claim before) may)

-- no line that begins a set, and none that uses an entry
abbrev NoSet : SaidLine → Type 0
NoSet begins = ⊥
NoSet l = Unit {0}

abbrev NoUse : SaidLine → Type 0
NoUse (uses e) = ⊥
NoUse l = Unit {0}

no_use : (l : SaidLine) → NoUse l → (e : Entry) → l ≡ uses e → ⊥
no_use l none e same = subst NoUse same none

entry_same : (f e : Entry) (k l : SaidLine) → k ≡ uses f → l ≡ uses e → k ≡ l → f ≡ e
entry_same f e k l k_is l_is same = cc

-- ... and none that gives a value
abbrev NoValue : SaidLine → Type 0
NoValue (assigns e) = ⊥
NoValue l = Unit {0}

no_value : (l : SaidLine) → NoValue l → (e : Entry) → l ≡ assigns e → ⊥
no_value l none e same = subst NoValue same none

value_same : (f e : Entry) (k l : SaidLine) → k ≡ assigns f → l ≡ assigns e → k ≡ l → f ≡ e
value_same f e k l k_is l_is same = cc

no_set : (l : SaidLine) → NoSet l → l ≡ begins → ⊥
no_set l none same = subst NoSet same none

abbrev pub uses_said : SetReading → List Entry
uses_said s = map entry_said s.uses

module _ (one_form : LinesHaveOneForm) (one_thing : FormsSayOneThing) (sheet : Sheet) (formed : IsWellFormed sheet) where
  -- ---- what a line says

  claim_said : (n : ℕ) (line : List ℕ) (form : WrittenLine) (c : Claim) → IsCertificateLine line form → IsSaidLine sheet n form (claims c) → IsClaimLine sheet line c
  claim_said n line (claims w) c is named = (w, is, named)
  claim_said n line form c is named = absurd named

  use_said : (n : ℕ) (line : List ℕ) (form : WrittenLine) (e : Entry) → IsCertificateLine line form → IsSaidLine sheet n form (uses e) → IsUseLine sheet line e
  use_said n line (uses p) e is named = (p, is.0, is.1, named)
  use_said n line form e is named = absurd named

  set_said : (n : ℕ) (line : List ℕ) (form : WrittenLine) → IsCertificateLine line form → IsSaidLine sheet n form begins → IsSetLine line
  set_said n line begins is named = is
  set_said n line form is named = absurd named

  -- a line that has a form says what the form says
  says : (before : List LineKind) (line : List ℕ) (l k : SaidLine) (form : WrittenLine) → SaysOfSheet sheet before line l → IsCertificateLine line form → IsSaidLine sheet (sets_in before) form k → l ≡ k
  says before line l k form is has_form named =
      one_thing sheet formed (sets_in before) form l k (subst (λ f. IsSaidLine sheet (sets_in before) f l) (one_form line is.form form is.is has_form) is.named) named

  -- and stands where that may
  may : (before : List LineKind) (line : List ℕ) (l : SaidLine) (form : WrittenLine) → SaysOfSheet sheet before line l → IsCertificateLine line form → may_stand before (kind_of_written form) ≡ true
  may before line l form is has_form = subst (λ f. may_stand before (kind_of_written f) ≡ true) (one_form line is.form form is.is has_form) is.may

  says_use : (before : List LineKind) (line : List ℕ) (l : SaidLine) (e : Entry) → SaysOfSheet sheet before line l → IsUseLine sheet line e → l ≡ uses e
  says_use before line l e is (p, starts, spells, named) = says before line l (uses e) (uses p) is (starts, spells) named

  says_claim : (before : List LineKind) (line : List ℕ) (l : SaidLine) (c : Claim) → SaysOfSheet sheet before line l → IsClaimLine sheet line c → l ≡ claims c
  says_claim before line l c is (w, has_form, named) = says before line l (claims c) (claims w) is has_form named

  says_set : (before : List LineKind) (line : List ℕ) (l : SaidLine) → SaysOfSheet sheet before line l → IsSetLine line → l ≡ begins
  says_set before line l is has_form = says before line l begins begins is has_form tt

  none_stood : (before : List LineKind) (line : List ℕ) (l : SaidLine) (c : Claim) → SaysOfSheet sheet before line l → IsClaimLine sheet line c → has is_claim before ≡ true → ⊥
  none_stood before line l c is (w, has_form, named) stood = no_claim_before before w (may before line l (claims w) is has_form) stood

  -- ---- the claim

  claimed : (before : List LineKind) (texts : List (List ℕ)) (ls : List SaidLine) (c : Claim) → AllSay sheet before texts ls → claim_in ls ≡ Some c → Any (λ line. IsClaimLine sheet line c) texts
  claimed before [] [] c all is = absurd (cc)
  claimed before [] (l ∷ ls) c all is = absurd all
  claimed before (line ∷ texts) [] c all is = absurd all
  claimed before (line ∷ texts) (claims d ∷ ls) c all is =
      let same : d ≡ c = cc in
      any_first (λ x. IsClaimLine sheet x c) line texts (subst (λ x. IsClaimLine sheet line x) same (claim_said (sets_in before) line all.0.form d all.0.is all.0.named))
  claimed before (line ∷ texts) (l ∷ ls) c all is = any_later (λ x. IsClaimLine sheet x c) line texts (claimed (before ++ kind_of l ∷ []) texts ls c all.1 is)

  -- behind a claim there is no other
  none_behind : (before : List LineKind) (texts : List (List ℕ)) (ls : List SaidLine) → AllSay sheet before texts ls → has is_claim before ≡ true
      → (line : List ℕ) (c : Claim) → Contains texts line → IsClaimLine sheet line c → ⊥
  none_behind before [] ls all stood line c within is = contains_none line within
  none_behind before (text ∷ texts) [] all stood line c within is = all
  none_behind before (text ∷ texts) (l ∷ ls) all stood line c within is =
      elim (contains_cases text texts line within) [
        | inl same ↦ none_stood before line l c (subst (λ x. SaysOfSheet sheet before x l) same all.0) is stood
        | inr later ↦ none_behind (before ++ kind_of l ∷ []) texts ls all.1 (still_claimed before (kind_of l) stood) line c later is
      ]

  some_same : (c d : Claim) → Some c ≡ Some d → c ≡ d
  some_same c d is = cc

  -- at the first of the lines
  once_here : (before : List LineKind) (line : List ℕ) (l : SaidLine) (ls : List SaidLine) (c other : Claim) → SaysOfSheet sheet before line l → claim_in (l ∷ ls) ≡ Some c → IsClaimLine sheet line other → other ≡ c
  once_here before line l ls c other is found claims_so =
      some_same other c (ap (λ x. claim_in (x ∷ ls)) (sym (says_claim before line l other is claims_so)) ∙ found)

  once : (before : List LineKind) (texts : List (List ℕ)) (ls : List SaidLine) (c : Claim) → AllSay sheet before texts ls → claim_in ls ≡ Some c
      → (line : List ℕ) (other : Claim) → Contains texts line → IsClaimLine sheet line other → other ≡ c
  once before [] ls c all found line other within is = absurd (contains_none line within)
  once before (text ∷ texts) [] c all found line other within is = absurd all
  once before (text ∷ texts) (claims d ∷ ls) c all found line other within is =
      elim (contains_cases text texts line within) [
        | inl same ↦ once_here before line (claims d) ls c other (subst (λ x. SaysOfSheet sheet before x (claims d)) same all.0) found is
        | inr later ↦ absurd (none_behind (before ++ kind_of_claim d ∷ []) texts ls all.1 (now_claimed before (kind_of_claim d) (claims_is_claim d)) line other later is)
      ]
  once before (text ∷ texts) (l ∷ ls) c all found line other within is =
      elim (contains_cases text texts line within) [
        | inl same ↦ once_here before line l ls c other (subst (λ x. SaysOfSheet sheet before x l) same all.0) found is
        | inr later ↦ once (before ++ kind_of l ∷ []) texts ls c all.1 found line other later is
      ]

  -- ---- the used entries, and the sets

  abbrev used_from : ℕ → List SaidLine → List Entry
  used_from n ls = map entry_said (uses_from n (in_front ls))

  record Parted (n : ℕ) (texts : List (List ℕ)) (ls : List SaidLine) : Type 0 where
    front : List (List ℕ)
    behind : List (List (List ℕ))
    parted : ArePartedAtSets texts front behind
    used : AreUsedBy sheet front (used_from n ls)
    given : AllZip (AreUsedBy sheet) behind (map uses_said (sets_from n ls))

  none_used : AreUsedBy sheet [] []
  none_used e = (λ within. absurd (contains_none e within), λ some. absurd (any_none (λ x. IsUseLine sheet x e) some))

  -- behind a line that uses an entry, or another one
  one_more : (before : List LineKind) (line : List ℕ) (front : List (List ℕ)) (f : Entry) (es : List Entry) → SaysOfSheet sheet before line (uses f) → AreUsedBy sheet front es → AreUsedBy sheet (line ∷ front) (f ∷ es)
  one_more before line front f es is rest e = (
    λ within. elim (contains_cases f es e within) [
      | inl same ↦ any_first (λ x. IsUseLine sheet x e) line front (subst (λ d. IsUseLine sheet line d) same (use_said (sets_in before) line is.form f is.is is.named))
      | inr later ↦ any_later (λ x. IsUseLine sheet x e) line front ((rest e).0 later)
    ],
    λ some. elim (any_cases (λ x. IsUseLine sheet x e) line front some) [
      | inl here ↦ subst (λ d. Contains (d ∷ es) e) (sym (entry_same f e (uses f) (uses e) refl refl (says_use before line (uses f) e is here))) (contains_first e es)
      | inr later ↦ contains_later f es e ((rest e).1 later)
    ],
  )

  no_more : (before : List LineKind) (line : List ℕ) (front : List (List ℕ)) (l : SaidLine) (es : List Entry) → SaysOfSheet sheet before line l → ((e : Entry) → l ≡ uses e → ⊥) → AreUsedBy sheet front es → AreUsedBy sheet (line ∷ front) es
  no_more before line front l es is other rest e = (
    λ within. any_later (λ x. IsUseLine sheet x e) line front ((rest e).0 within),
    λ some. elim (any_cases (λ x. IsUseLine sheet x e) line front some) [
      | inl here ↦ absurd (other e (says_use before line l e is here))
      | inr later ↦ (rest e).1 later
    ],
  )

  parted_lines : (before : List LineKind) (n : ℕ) (texts : List (List ℕ)) (ls : List SaidLine) → AllSay sheet before texts ls → Parted n texts ls
  parted_lines before n [] [] all = record { front = []; behind = []; parted = none_left; used = none_used; given = tt }
  parted_lines before n [] (l ∷ ls) all = absurd all
  parted_lines before n (line ∷ texts) [] all = absurd all
  parted_lines before n (line ∷ texts) (begins ∷ ls) all =
      let r = parted_lines (before ++ kind_of begins ∷ []) (n + 1) texts ls all.1 in
      record {
        front = [];
        behind = r.front ∷ r.behind;
        parted = set_line (set_said (sets_in before) line all.0.form all.0.is all.0.named) r.parted;
        used = none_used;
        given = (r.used, r.given);
      }
  parted_lines before n (line ∷ texts) (uses f ∷ ls) all =
      let r = parted_lines (before ++ kind_of (uses f) ∷ []) (n + 1) texts ls all.1 in
      record {
        front = line ∷ r.front;
        behind = r.behind;
        parted = other_line (λ set. no_set (uses f) tt (says_set before line (uses f) all.0 set)) r.parted;
        used = one_more before line r.front f (used_from (n + 1) ls) all.0 r.used;
        given = r.given;
      }
  parted_lines before n (line ∷ texts) (l ∷ ls) all =
      let r = parted_lines (before ++ kind_of l ∷ []) (n + 1) texts ls all.1 in
      record {
        front = line ∷ r.front;
        behind = r.behind;
        parted = other_line (λ set. no_set l tt (says_set before line l all.0 set)) r.parted;
        used = no_more before line r.front l (used_from (n + 1) ls) all.0 (no_use l tt) r.used;
        given = r.given;
      }

  -- ---- the values, where there are no sets

  value_said : (n : ℕ) (line : List ℕ) (form : WrittenLine) (e : Entry) → IsCertificateLine line form → IsSaidLine sheet n form (assigns e) → IsValueLine sheet line e
  value_said n line (assigns p) e is named = (p, is.0, is.1, named)
  value_said n line form e is named = absurd named

  says_value : (before : List LineKind) (line : List ℕ) (l : SaidLine) (e : Entry) → SaysOfSheet sheet before line l → IsValueLine sheet line e → l ≡ assigns e
  says_value before line l e is (p, starts, spells, named) = says before line l (assigns e) (assigns p) is (starts, spells) named

  abbrev AreGivenBy : List (List ℕ) → List Entry → Type 0
  AreGivenBy of_lines values = (e : Entry) → Contains values e ↔ Any (λ line. IsValueLine sheet line e) of_lines

  abbrev given_from : ℕ → List SaidLine → List Entry
  given_from n ls = map entry_said (values_from n (in_front ls))

  one_value_more : (before : List LineKind) (line : List ℕ) (rest : List (List ℕ)) (f : Entry) (es : List Entry) → SaysOfSheet sheet before line (assigns f) → AreGivenBy rest es → AreGivenBy (line ∷ rest) (f ∷ es)
  one_value_more before line rest f es is all e = (
    λ within. elim (contains_cases f es e within) [
      | inl same ↦ any_first (λ x. IsValueLine sheet x e) line rest (subst (λ d. IsValueLine sheet line d) same (value_said (sets_in before) line is.form f is.is is.named))
      | inr later ↦ any_later (λ x. IsValueLine sheet x e) line rest ((all e).0 later)
    ],
    λ some. elim (any_cases (λ x. IsValueLine sheet x e) line rest some) [
      | inl here ↦ subst (λ d. Contains (d ∷ es) e) (sym (value_same f e (assigns f) (assigns e) refl refl (says_value before line (assigns f) e is here))) (contains_first e es)
      | inr later ↦ contains_later f es e ((all e).1 later)
    ],
  )

  no_value_more : (before : List LineKind) (line : List ℕ) (rest : List (List ℕ)) (l : SaidLine) (es : List Entry) → SaysOfSheet sheet before line l → ((e : Entry) → l ≡ assigns e → ⊥) → AreGivenBy rest es → AreGivenBy (line ∷ rest) es
  no_value_more before line rest l es is other all e = (
    λ within. any_later (λ x. IsValueLine sheet x e) line rest ((all e).0 within),
    λ some. elim (any_cases (λ x. IsValueLine sheet x e) line rest some) [
      | inl here ↦ absurd (other e (says_value before line l e is here))
      | inr later ↦ (all e).1 later
    ],
  )

  given_lines : (before : List LineKind) (n : ℕ) (texts : List (List ℕ)) (ls : List SaidLine) → AllSay sheet before texts ls → sets_from n ls ≡ [] → AreGivenBy texts (given_from n ls)
  given_lines before n [] [] all none e = (λ within. absurd (contains_none e within), λ some. absurd (any_none (λ x. IsValueLine sheet x e) some))
  given_lines before n [] (l ∷ ls) all none e = absurd all
  given_lines before n (line ∷ texts) [] all none e = absurd all
  given_lines before n (line ∷ texts) (begins ∷ ls) all none e = absurd (cc)
  given_lines before n (line ∷ texts) (assigns f ∷ ls) all none e =
      one_value_more before line texts f (given_from (n + 1) ls) all.0 (given_lines (before ++ kind_of (assigns f) ∷ []) (n + 1) texts ls all.1 none) e
  given_lines before n (line ∷ texts) (l ∷ ls) all none e =
      no_value_more before line texts l (given_from (n + 1) ls) all.0 (no_value l tt) (given_lines (before ++ kind_of l ∷ []) (n + 1) texts ls all.1 none) e

  reading_assigns : (text : List ℕ) (r : CertificateReading) → IsTextReading sheet text (certificate r) → r.sets ≡ [] → Assigns sheet text (map entry_said r.values)
  reading_assigns text r (whole ls all has_its_end together) none =
      subst (λ vs. Assigns sheet text (map entry_said vs)) (sym together.values) (given_lines [] 1 (lines text) ls all (sym together.sets ∙ none))

  -- the text of a reading without sets gives its certificate's values
  pub certificate_assigns : (text : List ℕ) (r : CertificateReading) (c : Certificate) → IsTextReading sheet text (certificate r) → certificate_read r ≡ c → r.sets ≡ [] → Assigns sheet text c.values
  certificate_assigns text r c is same none = subst (λ (d : Certificate). Assigns sheet text d.values) same (reading_assigns text r is none)

  -- ---- both

  reading_claims : (text : List ℕ) (r : CertificateReading) → IsTextReading sheet text (certificate r) → Claims sheet text r.claim (map entry_said r.uses) (map uses_said r.sets)
  reading_claims text r (whole ls all has_its_end together) =
      let p = parted_lines [] 1 (lines text) ls all in
      record {
        claimed = claimed [] (lines text) ls r.claim all together.claim;
        once = once [] (lines text) ls r.claim all together.claim;
        front = p.front;
        behind = p.behind;
        parted = p.parted;
        used = subst (λ us. AreUsedBy sheet p.front (map entry_said us)) (sym together.uses) p.used;
        given = subst (λ ss. AllZip (AreUsedBy sheet) p.behind (map uses_said ss)) (sym together.sets) p.given;
      }

  sets_read : (ss : List SetReading) → map uses_of (map set_read ss) ≡ map uses_said ss
  sets_read [] = refl
  sets_read (s ∷ ss) = ap (λ xs. uses_said s ∷ xs) (sets_read ss)

  -- the text of a reading claims what its certificate does
  pub certificate_claims : (text : List ℕ) (r : CertificateReading) (c : Certificate) → IsTextReading sheet text (certificate r) → certificate_read r ≡ c → Claims sheet text c.claim c.uses (map uses_of c.sets)
  certificate_claims text r c is same =
      let here : Claims sheet text (certificate_read r).claim (certificate_read r).uses (map uses_of (certificate_read r).sets) =
      subst (λ ss. Claims sheet text r.claim (map entry_said r.uses) ss) (sym (sets_read r.sets)) (reading_claims text r is) in
      subst (λ (d : Certificate). Claims sheet text d.claim d.uses (map uses_of d.sets)) same here
