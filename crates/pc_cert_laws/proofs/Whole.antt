-- The text of a certificate is cut into its lines, which say the certificate.
use Rattle.std.proofs.Common.{◌≡◌, ℕ, ◌+◌, ◌<◌, ◌^◌, Bool, true, false, ◌&&◌, List, [], ◌∷◌, ◌++◌, length, map, All, codes, arith, refl, sym, ◌∙◌, ap, subst, cond}
use Rattle.std.proofs.lemmas.List.{append_assoc}
use Rattle.std.proofs.lemmas.List.Elements.{All-head, All-tail}
use Rattle.std.proofs.lemmas.List.Sums.{sum_by-append, sum_by-cons}
use Rattle.std.specs.List.{flat_map}
use Rattle.std.specs.Str.Lines.{lines}
use Rattle.pc_sheet.specs.Sheet.{Sheet}
use Rattle.pc_sheet.specs.WellFormed.{IsWellFormed, IsEntryOf}
use Rattle.pc_sheet.specs.declared.ids.Entry.{Entry}
use Rattle.pc_accept.specs.Sets.{GivenSet}
use Rattle.pc_accept.specs.Accepts.{Line, Claim, implied, inconsistent, repairs, unimplied, against, Certificate}
use Rattle.pc_accept.specs.Writable.{IsClaimOf, IsSetOf, AreLinesBeside}
use Rattle.pc_writer.specs.Spelling.{entry_text}
use Rattle.pc_canonical_laws.proofs.Unbroken.{first_line}
use Rattle.pc_cert.specs.Written.{begins, uses, assigns, ends, SaidLine}
use Rattle.pc_cert.specs.Order.{LineKind, kind_of, kind_of_claim, is_set, sets_in, may_stand, all_may_stand}
use Rattle.pc_cert.specs.Meaning.{IsSaidLine}
use Rattle.pc_cert.specs.Text.{AllSay, whole}
use Rattle.pc_cert_text.specs.CertificateText.{number_text, behind_blank, derivation_line_text, claim_text, derivation_lines_text, uses_text, values_text, set_text, sets_text, certificate_text}
use Rattle.pc_writer.specs.SheetText.{ended}
use Rattle.pc_cert_laws.specs.Said.{derivation_said, sets_said, said_lines, IsSayable}
use Rattle.pc_cert_laws.specs.ReadBack.{CertificatesReadBack, IsReadable}
use Rattle.pc_cert_laws.proofs.Lines.{ReadsAsLine, heading_reads, claim_reads, set_reads, use_reads, value_reads, derivation_reads, end_reads}
use Rattle.pc_cert_laws.proofs.Saying.{lines_say_certificates}

sets-push : (before : List LineKind) (k : LineKind) → sets_in (before ++ k ∷ []) ≡ sets_in before + cond (is_set k) 1 0
sets-push before k =
    let one = sum_by-append (λ (x : LineKind). cond (is_set x) 1 0) before (k ∷ []) in
    let two = sum_by-cons (λ (x : LineKind). cond (is_set x) 1 0) k [] in
    omega (arith, one, two)

no_set_more : (before : List LineKind) (k : LineKind) (n : ℕ) → is_set k ≡ false → sets_in before ≡ n → sets_in (before ++ k ∷ []) ≡ n
no_set_more before k n other is = let same : ◌≡◌ {A = ℕ} (cond (is_set k) 1 0) 0 = ap (λ b. cond b 1 0) other in let push = sets-push before k in omega (arith, push, same, is)

no_set : (c : Claim) → is_set (kind_of_claim c) ≡ false
no_set (implied t) = refl
no_set inconsistent = refl
no_set repairs = refl
no_set (unimplied t) = refl
no_set (against r) = refl

module _ (sheet : Sheet) (formed : IsWellFormed sheet) where
  -- behind so many sets the lines of the text are read as these say
  abbrev SaysLines : ℕ → List ℕ → List SaidLine → Type 0
  SaysLines n text ls = (before : List LineKind) → sets_in before ≡ n → all_may_stand before (map kind_of ls) ≡ true → AllSay sheet before (lines text) ls

  both_hold : (a b : Bool) → (a && b) ≡ true → (a ≡ true) × (b ≡ true)
  both_hold true b is = (refl, is)
  both_hold false b is = absurd (cc)

  next_line : (n m : ℕ) (line rest : List ℕ) (l : SaidLine) (ls : List SaidLine) → ((before : List LineKind) → sets_in before ≡ n → sets_in (before ++ kind_of l ∷ []) ≡ m)
      → ReadsAsLine sheet n line l → SaysLines m rest ls → SaysLines n (ended line ++ rest) (l ∷ ls)
  next_line n m line rest l ls more read says before count stands =
      let both = both_hold (may_stand before (kind_of l)) (all_may_stand (before ++ kind_of l ∷ []) (map kind_of ls)) stands in
      let named = subst (λ k. IsSaidLine sheet k read.form l) (sym count) read.named in
      subst (λ lines. AllSay sheet before lines (l ∷ ls)) (sym (first_line line rest read.whole))
      (record { form = read.form; is = read.is; may = ap (may_stand before) read.same_kind ∙ both.0; named = named }, says (before ++ kind_of l ∷ []) (more before count) both.1)

  one_more : (n : ℕ) (line rest : List ℕ) (l : SaidLine) (ls : List SaidLine) → is_set (kind_of l) ≡ false → ReadsAsLine sheet n line l → SaysLines n rest ls → SaysLines n (ended line ++ rest) (l ∷ ls)
  one_more n line rest l ls other read says = next_line n n line rest l ls (λ before count. no_set_more before (kind_of l) n other count) read says

  set_more : (n : ℕ) (rest : List ℕ) (ls : List SaidLine) → SaysLines (n + 1) rest ls → SaysLines n (ended (codes "set") ++ rest) (begins ∷ ls)
  set_more n rest ls says =
      next_line n (n + 1) (codes "set") rest begins ls (λ before count. let push = sets-push before (kind_of begins) in omega (arith, push, count)) (set_reads sheet formed n) says

  module _ (n : ℕ) (line : Entry → List ℕ) (said : Entry → SaidLine) (other : (e : Entry) → is_set (kind_of (said e)) ≡ false) (reads : (e : Entry) → IsEntryOf sheet.universe e → ReadsAsLine sheet n (line e) (said e)) where
    more_entries : (es : List Entry) (rest : List ℕ) (ls : List SaidLine) → All (IsEntryOf sheet.universe) es → SaysLines n rest ls → SaysLines n (flat_map (λ e. ended (line e)) es ++ rest) (map said es ++ ls)
    more_entries [] rest ls all says = says
    more_entries (e ∷ es) rest ls all says =
        subst (λ t. SaysLines n t (said e ∷ (map said es ++ ls))) (sym (append_assoc (ended (line e)) (flat_map (λ e. ended (line e)) es) rest))
        (one_more n (line e) (flat_map (λ e. ended (line e)) es ++ rest) (said e) (map said es ++ ls) (other e) (reads e (All-head (IsEntryOf sheet.universe) e es all)) (more_entries es rest ls (All-tail (IsEntryOf sheet.universe) e es all) says))

  more_uses : (n : ℕ) (es : List Entry) (rest : List ℕ) (ls : List SaidLine) → All (IsEntryOf sheet.universe) es → SaysLines n rest ls → SaysLines n (uses_text sheet.universe es ++ rest) (map uses es ++ ls)
  more_uses n = more_entries n (λ e. codes "use " ++ entry_text sheet.universe e) uses (λ e. refl) (use_reads sheet formed n)

  more_values : (n : ℕ) (es : List Entry) (rest : List ℕ) (ls : List SaidLine) → All (IsEntryOf sheet.universe) es → SaysLines n rest ls → SaysLines n (values_text sheet.universe es ++ rest) (map assigns es ++ ls)
  more_values n = more_entries n (λ e. codes "value " ++ entry_text sheet.universe e) assigns (λ e. refl) (value_reads sheet formed n)

  more_sets : (n m : ℕ) (ss : List GivenSet) (rest : List ℕ) (ls : List SaidLine) → n + length ss ≡ m → All (IsSetOf sheet) ss → SaysLines m rest ls → SaysLines n (sets_text sheet.universe ss ++ rest) (sets_said ss ls)
  more_sets n m [] rest ls counted all says = subst (λ k. SaysLines k rest ls) (let same : m ≡ n = omega (arith, counted) in same) says
  more_sets n m (s ∷ ss) rest ls counted all says =
      let u = sheet.universe in
      let first = All-head (IsSetOf sheet) s ss all in
      let others = sets_text u ss ++ rest in
      let next = more_sets (n + 1) m ss rest ls (omega (arith, counted)) (All-tail (IsSetOf sheet) s ss all) says in
      let values = more_values (n + 1) s.values others (sets_said ss ls) first.values next in
      let used = more_uses (n + 1) s.uses (values_text u s.values ++ others) (map assigns s.values ++ sets_said ss ls) first.uses values in
      let same : ended (codes "set") ++ (uses_text u s.uses ++ (values_text u s.values ++ others)) ≡ sets_text u (s ∷ ss) ++ rest =
      ap (λ t. ended (codes "set") ++ t) (sym (append_assoc (uses_text u s.uses) (values_text u s.values) others)) ∙ sym (append_assoc (set_text u s) (sets_text u ss) rest) in
      subst (λ t. SaysLines n t (sets_said (s ∷ ss) ls)) same
      (set_more n (uses_text u s.uses ++ (values_text u s.values ++ others)) (map uses s.uses ++ (map assigns s.values ++ sets_said ss ls)) used)

  module _ (n : ℕ) (few_sets : n < 10 ^ 18) where
    more_lines : (place : ℕ) (ds : List Line) (rest : List ℕ) (ls : List SaidLine) → place + length ds < 10 ^ 18 → AreLinesBeside sheet n place ds → SaysLines n rest ls
        → SaysLines n (derivation_lines_text sheet (place + 1) ds ++ rest) (derivation_said (place + 1) ds ++ ls)
    more_lines place [] rest ls few of says = says
    more_lines place (d ∷ ds) rest ls few of says =
        let line = number_text (place + 1) ++ behind_blank (derivation_line_text sheet d) in
        let others = derivation_lines_text sheet (place + 1 + 1) ds in
        subst (λ t. SaysLines n t (derivation_said (place + 1) (d ∷ ds) ++ ls)) (sym (append_assoc (ended line) others rest))
        (one_more n line (others ++ rest) _ (derivation_said (place + 1 + 1) ds ++ ls) refl (derivation_reads sheet formed n (place + 1) d place (omega (arith, few)) (omega (arith, few)) few_sets of.0)
        (more_lines (place + 1) ds rest ls (omega (arith, few)) of.1 says))

  last_line : (n : ℕ) → SaysLines n (ended (codes "end")) (ends ∷ [])
  last_line n = one_more n (codes "end") [] ends [] refl (end_reads sheet formed n) (λ before count stands. tt)

  sayable : (c : Certificate) (claim : Claim) → IsClaimOf sheet c claim → IsSayable c claim
  sayable c (implied t) is = is.0
  sayable c inconsistent is = is
  sayable c repairs is = is
  sayable c (unimplied t) is = is.0
  sayable c (against r) is = is.0

  all_lines : (c : Certificate) → IsReadable sheet c → SaysLines 0 (certificate_text sheet c) (said_lines c)
  all_lines c is =
      let u = sheet.universe in
      let of = is.written in
      let n = length c.sets in
      let derivation = derivation_lines_text sheet 1 c.lines ++ ended (codes "end") in
      let values = values_text u c.values ++ derivation in
      let used = uses_text u c.uses ++ values in
      let sets = sets_text u c.sets ++ used in
      one_more 0 (codes "certificate 1") (ended (claim_text sheet c.claim) ++ sets) _ _ refl (heading_reads sheet formed 0)
      (one_more 0 (claim_text sheet c.claim) sets _ _ (no_set c.claim) (claim_reads sheet formed 0 c c.claim of.claim is.form)
      (more_sets 0 n c.sets used _ (omega arith) of.sets
      (more_uses n c.uses values _ of.uses (more_values n c.values derivation _ of.values (more_lines n of.few_sets 0 c.lines (ended (codes "end")) (ends ∷ []) (omega (arith, of.few)) of.lines (last_line n))))))

pub texts_read_back : CertificatesReadBack
texts_read_back sheet c formed is =
    let says = lines_say_certificates c (sayable sheet formed c c.claim is.written.claim) in
    record { reading = says.reading; read = whole (said_lines c) (all_lines sheet formed c is [] refl says.order) says.end says.together; same = says.same }
