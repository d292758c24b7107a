-- A line is read in one way.
use Rattle.std.proofs.Common.{◌≡◌, ℕ, ◌+◌, ◌<◌, ◌≤◌, Bool, true, ◌||◌, ◌==◌, List, [], ◌∷◌, ◌++◌, length, get_or, drop, arith, refl, sym, ◌∙◌, ap, ap₂, subst, ⊎_elim}
use Rattle.std.proofs.str.Laws.{order}
use Rattle.std.proofs.lemmas.Bool.Decides.{nat_tests}
use Rattle.std.proofs.lemmas.List.{append_assoc, get_or_past, length-drop, get_or-drop}
use Rattle.std.proofs.lemmas.Str.{encode_same, char_from_byte}
use Rattle.std.specs.Prelude.{encode_utf8}
use Rattle.std.specs.Char.{is_ascii_digit, is_ascii_alphabetic}
use Rattle.std.specs.List.{AllByRecursion}
use Rattle.std.specs.Str.{encode_utf8_all}
use Rattle.unicode_ident.proofs.IdentLemmas.{is_xid_start-ascii}
use Rattle.pc_token.specs.declared.token.Kind.{Kind}
use Rattle.pc_token.specs.declared.token.Kind.TheVariants.{Name, Number}
use Rattle.pc_token.specs.declared.token.Token.{Token}
use Rattle.pc_name.specs.Names.{starts_name, continues_name}
use Rattle.pc_token.specs.Token.{is_blank, AreBlank, StopsName, IsNameAt, IsDigitRun, sign_text, IsSignAt, IsOfKind, IsTokenOf, ReadsTokens, StartsLongNumber, StartsNoToken, LineReading, split, bad_character, long_number, IsReadingOf, Splits}
use Rattle.pc_token.specs.declared.token.Piece.{Piece}
use Rattle.pc_token.specs.declared.token.Piece.TheVariants as piece
use Rattle.pc_token.specs.Line.{IsBlankRun}
use Rattle.pc_token.specs.Piece.{IsPieceAt}
use Rattle.pc_token.proofs.Names.{slice_split}
use Rattle.pc_token.proofs.Signs.{IsSignByte, sign_begins, only_sign}

-- ---- the first byte of a token

-- an ASCII byte that may start a name
starts_ascii : ℕ → Bool
starts_ascii b = (b == 95) || is_ascii_alphabetic b

name_first : (line : List ℕ) (start end : ℕ) → start < end → end ≤ length line → IsNameAt line start end → get_or line start 0 < 128 → starts_ascii (get_or line start 0) ≡ true
unfolding starts_ascii
name_first line start end nonempty within is ascii =
    let name = is.name in
    let text : drop start line ≡ encode_utf8 name.0 ++ (encode_utf8_all name.1 ++ drop end line) = slice_split line start end (omega arith) ∙ ap (λ l. l ++ drop end line) name.2 ∙ append_assoc (encode_utf8 name.0) (encode_utf8_all name.1) (drop end line) in
    let byte : get_or (drop start line) 0 0 ≡ get_or line start 0 = get_or-drop start line 0 0 ∙ ap (λ i. get_or line i 0) (let e : start + 0 ≡ start = omega arith in e) in
    let first : name.0 ≡ get_or line start 0 = char_from_byte (drop start line) _ name.0 text (omega (arith, byte)) (omega (arith, length-drop start line)) ∙ byte in
    let starts : starts_name (get_or line start 0) ≡ true = ap starts_name (sym first) ∙ name.3 in
    ap (λ b. (get_or line start 0 == 95) || b) (sym (is_xid_start-ascii (get_or line start 0) ascii)) ∙ starts

-- ---- each kind ends in one place

names_once : (cs ds p q : List ℕ) → AllByRecursion (λ c. continues_name c ≡ true) cs → AllByRecursion (λ c. continues_name c ≡ true) ds → StopsName p → StopsName q → encode_utf8_all cs ++ p ≡ encode_utf8_all ds ++ q → p ≡ q
names_once [] [] p q all others stops halts same = same
names_once [] (d ∷ ds) p q all others stops halts same =
    let stopped = stops d (encode_utf8_all ds ++ q) (same ∙ append_assoc (encode_utf8 d) (encode_utf8_all ds) q) in
    let continues = others.0 in
    cc
names_once (c ∷ cs) [] p q all others stops halts same =
    let stopped = halts c (encode_utf8_all cs ++ p) (sym same ∙ append_assoc (encode_utf8 c) (encode_utf8_all cs) p) in
    let continues = all.0 in
    cc
names_once (c ∷ cs) (d ∷ ds) p q all others stops halts same =
    names_once cs ds p q all.1 others.1 stops halts (encode_same c d _ _ (sym (append_assoc (encode_utf8 c) (encode_utf8_all cs) p) ∙ same ∙ append_assoc (encode_utf8 d) (encode_utf8_all ds) q)).1

name_end_once : (line : List ℕ) (start end last : ℕ) → start ≤ end → start ≤ last → end ≤ length line → last ≤ length line → IsNameAt line start end → IsNameAt line start last → end ≡ last
name_end_once line start end last after later within inside one other =
    let a = one.name in
    let b = other.name in
    let text = slice_split line start end after ∙ ap (λ l. l ++ drop end line) a.2 ∙ append_assoc (encode_utf8 a.0) (encode_utf8_all a.1) (drop end line) in
    let same = slice_split line start last later ∙ ap (λ l. l ++ drop last line) b.2 ∙ append_assoc (encode_utf8 b.0) (encode_utf8_all b.1) (drop last line) in
    let tails = (encode_same a.0 b.0 (encode_utf8_all a.1 ++ drop end line) (encode_utf8_all b.1 ++ drop last line) (sym text ∙ same)).1 in
    let rest : drop end line ≡ drop last line = names_once a.1 b.1 (drop end line) (drop last line) a.4 b.4 one.longest other.longest tails in
    omega (arith, length-drop end line, length-drop last line, ap length rest)

no_later_run : (line : List ℕ) (start end last : ℕ) → IsDigitRun line start end → IsDigitRun line start last → end < last → ⊥
no_later_run line start end last one other before =
    let digit = other.digits end one.after before in
    let no_digit = one.longest in
    cc

run_end_once : (line : List ℕ) (start end last : ℕ) → IsDigitRun line start end → IsDigitRun line start last → end ≡ last
run_end_once line start end last one other =
    ⊎_elim (λ before. absurd (no_later_run line start end last one other before))
    (λ after. ⊎_elim (λ later. absurd (no_later_run line start last end other one later)) (λ same. omega arith) (order last end)) (order end last)

-- ---- a place starts one token

-- a name, a number or a sign
data Shape : Kind → Type 0 where
  named : Shape Name
  numbered : Shape Number
  signed : {k : Kind} → ((line : List ℕ) (start end : ℕ) → IsOfKind k line start end → IsSignAt line start k × (end ≡ start + length (sign_text k))) → Shape k

shape : (k : Kind) → Shape k
shape Name = named
shape Number = numbered
shape k = signed (λ line start end is. is)

record Span (line : List ℕ) (start end : ℕ) : Type 0 where
  nonempty : start < end
  within : end ≤ length line

-- no byte begins two kinds
digit_begins_no_name : (b : ℕ) → is_ascii_digit b ≡ true → (b < 128 → starts_ascii b ≡ true) → ⊥
unfolding starts_ascii
digit_begins_no_name b digit name = let small : b < 128 = grind (arith, nat_tests) in let starts = name small in grind (arith, nat_tests)

sign_begins_no_name : (b : ℕ) → IsSignByte b → (b < 128 → starts_ascii b ≡ true) → ⊥
unfolding starts_ascii
sign_begins_no_name b sign name = let starts = name sign.1 in grind (arith, nat_tests)

sign_begins_no_number : (b : ℕ) → IsSignByte b → is_ascii_digit b ≡ true → ⊥
sign_begins_no_number b sign digit = let no_digit = sign.2 in cc

kind_once : (line : List ℕ) (start end last : ℕ) (k j : Kind) → Shape k → Shape j → Span line start end → Span line start last → IsOfKind k line start end → IsOfKind j line start last → (k ≡ j) × (end ≡ last)
kind_once line start end last k j named named a b one other = (refl, name_end_once line start end last (omega (arith, a.nonempty)) (omega (arith, b.nonempty)) a.within b.within one other)
kind_once line start end last k j numbered numbered a b one other = (refl, run_end_once line start end last one.0 other.0)
kind_once line start end last k j named numbered a b one other = absurd (digit_begins_no_name _ (other.0.digits start (omega arith) b.nonempty) (name_first line start end a.nonempty a.within one))
kind_once line start end last k j numbered named a b one other = absurd (digit_begins_no_name _ (one.0.digits start (omega arith) a.nonempty) (name_first line start last b.nonempty b.within other))
kind_once line start end last k j named (signed is) a b one other =
    let sign = (is line start last other).0 in
    absurd (sign_begins_no_name _ (sign_begins line start j sign.sign sign.stands) (name_first line start end a.nonempty a.within one))
kind_once line start end last k j (signed is) named a b one other =
    let sign = (is line start end one).0 in
    absurd (sign_begins_no_name _ (sign_begins line start k sign.sign sign.stands) (name_first line start last b.nonempty b.within other))
kind_once line start end last k j numbered (signed is) a b one other =
    let sign = (is line start last other).0 in
    absurd (sign_begins_no_number _ (sign_begins line start j sign.sign sign.stands) (one.0.digits start (omega arith) a.nonempty))
kind_once line start end last k j (signed is) numbered a b one other =
    let sign = (is line start end one).0 in
    absurd (sign_begins_no_number _ (sign_begins line start k sign.sign sign.stands) (other.0.digits start (omega arith) b.nonempty))
kind_once line start end last k j (signed is) (signed so) a b one other =
    let p = is line start end one in
    let q = so line start last other in
    let same = only_sign line start k j p.0 q.0 in
    (same, p.1 ∙ ap (λ i. start + length (sign_text i)) same ∙ sym q.1)

token_once : (line : List ℕ) (t u : Token) → t.start ≡ u.start → IsTokenOf line t → IsTokenOf line u → t ≡ u
token_once line t u start one other =
    let at : IsOfKind u.kind line t.start u.end = subst (λ n. IsOfKind u.kind line n u.end) (sym start) other.kind in
    let span : Span line t.start u.end = record { nonempty = omega (arith, other.nonempty); within = other.within } in
    let same = kind_once line t.start t.end u.end t.kind u.kind (shape t.kind) (shape u.kind) (record { nonempty = one.nonempty; within = one.within }) span one.kind at in
    λ i. record { kind = same.0 i; start = start i; end = same.1 i }

-- ---- a line is read in one way

token_no_blank : (line : List ℕ) (t : Token) → IsTokenOf line t → is_blank (get_or line t.start 0) ≡ true → ⊥
unfolding starts_ascii
token_no_blank line t is blank = go t.kind (shape t.kind) is.kind
  where
    go : (k : Kind) → Shape k → IsOfKind k line t.start t.end → ⊥
    go k named name =
        let small : get_or line t.start 0 < 128 = grind (arith, nat_tests) in
        let starts = name_first line t.start t.end is.nonempty is.within name small in
        grind (arith, nat_tests)
    go k numbered number = let digit = number.0.digits t.start (omega arith) is.nonempty in grind (arith, nat_tests)
    go k (signed so) of_kind =
        let sign = (so line t.start t.end of_kind).0 in
        let byte = sign_begins line t.start k sign.sign sign.stands in
        let above = byte.0 in
        grind (arith, nat_tests)

-- where reading stops: at no blank and no token
record Final (line : List ℕ) (to : ℕ) : Type 0 where
  no_blank : is_blank (get_or line to 0) ≡ true → ⊥
  no_token : (t : Token) → t.start ≡ to → IsTokenOf line t → ⊥

-- the first place that is no blank is one
blanks_once : (line : List ℕ) (from a b : ℕ) → from ≤ a → AreBlank line from b → (is_blank (get_or line a 0) ≡ true → ⊥) → a < b → ⊥
blanks_once line from a b after blanks no_blank before = no_blank (blanks a after before)

reads_once : (line : List ℕ) (from : ℕ) (ts : List Token) (to : ℕ) (us : List Token) (end : ℕ) → ReadsTokens line from ts to → Final line to → ReadsTokens line from us end → Final line end → (ts ≡ us) × (to ≡ end)
reads_once line from [] to [] end one stops other halts =
    (refl, ⊎_elim (λ before. absurd (blanks_once line from to end one.0 other.1 stops.no_blank before)) (λ after. ⊎_elim (λ later. absurd (blanks_once line from end to other.0 one.1 halts.no_blank later)) (λ same. omega arith) (order end to)) (order to end))
reads_once line from [] to (u ∷ us) end one stops other halts =
    absurd (⊎_elim (λ before. blanks_once line from to u.start one.0 other.1 stops.no_blank before) (λ after. ⊎_elim (λ later. blanks_once line from u.start to other.0 one.1 (token_no_blank line u other.2) later) (λ same. stops.no_token u (omega arith) other.2) (order u.start to)) (order to u.start))
reads_once line from (t ∷ ts) to [] end one stops other halts =
    absurd (⊎_elim (λ before. blanks_once line from end t.start other.0 one.1 halts.no_blank before) (λ after. ⊎_elim (λ later. blanks_once line from t.start end one.0 other.1 (token_no_blank line t one.2) later) (λ same. halts.no_token t (omega arith) one.2) (order t.start end)) (order end t.start))
reads_once line from (t ∷ ts) to (u ∷ us) end one stops other halts =
    let start : t.start ≡ u.start = ⊎_elim (λ before. absurd (blanks_once line from t.start u.start one.0 other.1 (token_no_blank line t one.2) before)) (λ after. ⊎_elim (λ later. absurd (blanks_once line from u.start t.start other.0 one.1 (token_no_blank line u other.2) later)) (λ same. omega arith) (order u.start t.start)) (order t.start u.start) in
    let same = token_once line t u start one.2 other.2 in
    let rest = reads_once line t.end ts to us end one.3 stops (subst (λ n. ReadsTokens line n us end) (sym (ap (λ v. v.end) same)) other.3) halts in
    (ap₂ (λ v vs. v ∷ vs) same rest.0, rest.1)

end_final : (line : List ℕ) → Final line (length line)
end_final line =
    let past : get_or line (length line) 0 ≡ 0 = get_or_past line (length line) 0 (omega arith) in
    record { no_blank = λ blank. let zero_blank = ap is_blank (sym past) ∙ blank in cc; no_token = λ t there is. absurd (omega (arith, is.nonempty, is.within)) }

bad_final : (line : List ℕ) (at : ℕ) → StartsNoToken line at → Final line at
bad_final line at bad = record { no_blank = λ blank. let no = bad.no_blank in cc; no_token = bad.no_token }

-- where more than 18 digits stand, the first is a digit and no token starts
long_digit : (line : List ℕ) (at : ℕ) → StartsLongNumber line at → is_ascii_digit (get_or line at 0) ≡ true
long_digit line at long = long.1.digits at (omega arith) (omega (arith, long.2))

long_no_kind : (line : List ℕ) (at end : ℕ) (k : Kind) → Shape k → StartsLongNumber line at → at < end → end ≤ length line → IsOfKind k line at end → ⊥
long_no_kind line at end k named long nonempty within is = digit_begins_no_name _ (long_digit line at long) (name_first line at end nonempty within is)
long_no_kind line at end k numbered long nonempty within is =
    let same = run_end_once line at end long.0 is.0 long.1 in
    absurd (omega (arith, is.1, long.2))
long_no_kind line at end k (signed so) long nonempty within is =
    let sign = (so line at end is).0 in
    sign_begins_no_number _ (sign_begins line at k sign.sign sign.stands) (long_digit line at long)

no_digit_blank : (b : ℕ) → is_ascii_digit b ≡ true → is_blank b ≡ true → ⊥
no_digit_blank b digit blank = grind (arith, nat_tests)

long_final : (line : List ℕ) (at : ℕ) → StartsLongNumber line at → Final line at
long_final line at long = record {
  no_blank = no_digit_blank (get_or line at 0) (long_digit line at long);
  no_token = λ t there is. long_no_kind line at t.end t.kind (shape t.kind) long (omega (arith, is.nonempty)) is.within (subst (λ n. IsOfKind t.kind line n t.end) there is.kind);
}

no_digit_at_end : (line : List ℕ) (at : ℕ) → StartsLongNumber line at → at ≡ length line → ⊥
no_digit_at_end line at long end =
    let past : get_or line at 0 ≡ 0 = get_or_past line at 0 (omega arith) in
    let zero_digit = ap is_ascii_digit (sym past) ∙ long_digit line at long in
    cc

no_digit_at_bad : (line : List ℕ) (at to : ℕ) → StartsNoToken line at → StartsLongNumber line to → at ≡ to → ⊥
no_digit_at_bad line at to bad long same =
    let digit = ap (λ i. is_ascii_digit (get_or line i 0)) same ∙ long_digit line to long in
    let no_digit = bad.no_digit in
    cc

pub one_reading : (line : List ℕ) (q r : LineReading) → IsReadingOf line q → IsReadingOf line r → q ≡ r
one_reading line (split ts) (split us) a b = ap split (reads_once line 0 ts (length line) us (length line) a (end_final line) b (end_final line)).0
one_reading line (split ts) (bad_character at) a b =
    let same = (reads_once line 0 ts (length line) b.0 at a (end_final line) b.1 (bad_final line at b.2)).1 in
    absurd (omega (arith, b.2.within))
one_reading line (split ts) (long_number at) a b =
    let same = (reads_once line 0 ts (length line) b.0 at a (end_final line) b.1 (long_final line at b.2)).1 in
    absurd (no_digit_at_end line at b.2 (sym same))
one_reading line (bad_character at) (split us) a b =
    let same = (reads_once line 0 us (length line) a.0 at b (end_final line) a.1 (bad_final line at a.2)).1 in
    absurd (omega (arith, a.2.within))
one_reading line (bad_character at) (bad_character to) a b = ap bad_character (reads_once line 0 a.0 at b.0 to a.1 (bad_final line at a.2) b.1 (bad_final line to b.2)).1
one_reading line (bad_character at) (long_number to) a b =
    let same = (reads_once line 0 a.0 at b.0 to a.1 (bad_final line at a.2) b.1 (long_final line to b.2)).1 in
    absurd (no_digit_at_bad line at to a.2 b.2 same)
one_reading line (long_number at) (split us) a b =
    let same = (reads_once line 0 us (length line) a.0 at b (end_final line) a.1 (long_final line at a.2)).1 in
    absurd (no_digit_at_end line at a.2 (sym same))
one_reading line (long_number at) (bad_character to) a b =
    let same = (reads_once line 0 b.0 to a.0 at b.1 (bad_final line to b.2) a.1 (long_final line at a.2)).1 in
    absurd (no_digit_at_bad line to at b.2 a.2 same)
one_reading line (long_number at) (long_number to) a b = ap long_number (reads_once line 0 a.0 at b.0 to a.1 (long_final line at a.2) b.1 (long_final line to b.2)).1

-- ---- the one token of a line

module _ (line : List ℕ) where
  run_no_blank : (start end : ℕ) → IsBlankRun line start end → is_blank (get_or line end 0) ≡ true → ⊥
  run_no_blank start end run blank = let no = run.longest in cc

  -- it starts behind the blanks
  first_token : (start : ℕ) → IsBlankRun line 0 start → (t : Token) → Splits line (t ∷ []) → t.start ≡ start
  first_token start run t is =
      ⊎_elim (λ before. absurd (blanks_once line 0 t.start start is.0 run.blanks (token_no_blank line t is.2) before))
      (λ after. ⊎_elim (λ later. absurd (blanks_once line 0 start t.start run.after is.1 (run_no_blank 0 start run) later)) (λ same. omega arith) (order start t.start)) (order t.start start)

  pub none_in_blanks : (start : ℕ) → IsBlankRun line 0 start → start ≡ length line → (t : Token) → Splits line (t ∷ []) → ⊥
  none_in_blanks start run end t is =
      let there = first_token start run t is in
      let token = is.2 in
      omega (arith, token.nonempty, token.within)

  pub none_at_fault : (start : ℕ) → IsBlankRun line 0 start → (p : Piece) → IsPieceAt line start p → ((u : Token) → p ≡ piece.Token u → ⊥) → (t : Token) → Splits line (t ∷ []) → ⊥
  none_at_fault start run piece.Blank is other t splits = run_no_blank 0 start run is.0
  none_at_fault start run (piece.Token u) is other t splits = other u refl
  none_at_fault start run piece.LongNumber is other t splits = (long_final line start is).no_token t (first_token start run t splits) splits.2
  none_at_fault start run piece.NoToken is other t splits = is.no_token t (first_token start run t splits) splits.2

  pub none_before_more : (start : ℕ) → IsBlankRun line 0 start → (u : Token) → u.start ≡ start → IsTokenOf line u → (end : ℕ) → IsBlankRun line u.end end → end < length line → (t : Token) → Splits line (t ∷ []) → ⊥
  none_before_more start run u there is end rest more t splits =
      let same = token_once line t u (first_token start run t splits ∙ sym there) splits.2 is in
      let blanks : AreBlank line u.end (length line) = subst (λ v. AreBlank line v.end (length line)) same splits.3.1 in
      run_no_blank u.end end rest (blanks end rest.after more)

  pub only_token : (t u : Token) → Splits line (t ∷ []) → Splits line (u ∷ []) → t ≡ u
  only_token t u one other =
      let same = one_reading line (split (t ∷ [])) (split (u ∷ [])) one other in
      cc
