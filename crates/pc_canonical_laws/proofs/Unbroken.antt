-- A line that is cut into words has no line's end within, so such lines are the lines of their text.
use Rattle.std.proofs.Common.{◌≡◌, ◌≢◌, ℕ, suc, ◌-◌, ◌<◌, ◌≤◌, ◌⊎◌, ⊎_elim, Bool, true, false, ◌||◌, List, [], ◌∷◌, ◌++◌, All, length, get_or, take, arith, refl, sym, ◌∙◌, ap, ap₂, subst}
use Rattle.std.proofs.str.Laws.{order}
use Rattle.std.proofs.lemmas.Bool.{eq-eqb}
use Rattle.std.proofs.lemmas.Bool.Decides.{nat_tests}
use Rattle.std.proofs.lemmas.List.{append_assoc}
use Rattle.std.proofs.lemmas.List.Elements.{All-cons, All-nil, All-weaker}
use Rattle.std.proofs.lemmas.List.Folds.{list_any-append}
use Rattle.std.proofs.lemmas.Str.{NoCharPasses-byte}
use Rattle.std.specs.Prelude.{◌==◌, if◌then◌else◌, slice_index}
use Rattle.std.specs.Char.{is_ascii_digit}
use Rattle.std.specs.List.{list_any, AllByRecursion}
use Rattle.std.specs.Str.{NoCharPasses, NonePass}
use Rattle.std.specs.Str.Lines.{lines, strip_carriage_return}
use Rattle.unicode_ident.proofs.IdentLemmas.{is_xid_continue-ascii}
use Rattle.pc_name.specs.Names.{continues_name, HasNameCharacters}
use Rattle.pc_token.specs.declared.token.Kind.{Kind}
use Rattle.pc_token.specs.declared.token.Kind.TheVariants.{Name, Number}
use Rattle.pc_formula.specs.Word.{Word}
use Rattle.pc_writer.specs.SheetText.{ended, lines_text}
use Rattle.pc_lines.proofs.TextLines.{lines-feed}
use Rattle.pc_canonical_laws.proofs.Cuts.{Cuts, done, blank, piece, IsPieceOf}
use Rattle.pc_canonical_laws.proofs.Scalars.{starts_continue}

-- LF or CR
abbrev pub is_line_end : ℕ → Bool
is_line_end b = (b == 10) || (b == 13)

-- no byte of the text is LF or CR
abbrev pub IsUnbroken : List ℕ → Type 0
IsUnbroken text = list_any is_line_end text ≡ false

-- ---- words

ends_no_name : (c : ℕ) → continues_name c ≡ true → is_line_end c ≡ false
ends_no_name c continues = go (is_line_end c) refl
  where
    at : (d : ℕ) → d < 128 → continues_name d ≡ false → c ≡ d → ⊥
    at d ascii fails same = let continues_there : continues_name d ≡ true = subst (λ e. continues_name e ≡ true) same continues in cc

    go : (b : Bool) → is_line_end c ≡ b → is_line_end c ≡ false
    go false is = is
    go true is =
        let which : (c ≡ 10) ⊎ (c ≡ 13) = grind (arith, nat_tests) in
        absurd (⊎_elim (at 10 (omega arith) (is_xid_continue-ascii 10 (omega arith))) (at 13 (omega arith) (is_xid_continue-ascii 13 (omega arith))) which)

none_pass : (cs : List ℕ) → AllByRecursion (λ d. continues_name d ≡ true) cs → NonePass is_line_end cs
none_pass [] each = tt
none_pass (c ∷ cs) each = (ends_no_name c each.0, none_pass cs each.1)

no_end_passes : (text : List ℕ) → HasNameCharacters text → NoCharPasses is_line_end text
no_end_passes text (c, cs, is, starts, each) = (c ∷ cs, sym is, (ends_no_name c (starts_continue c starts), none_pass cs each))

beyond_ascii : (b : ℕ) → 128 ≤ b → is_line_end b ≡ false
beyond_ascii b high = grind (arith, nat_tests)

all_unbroken : (bs : List ℕ) → ((i : ℕ) → i < length bs → is_line_end (get_or bs i 0) ≡ false) → IsUnbroken bs
all_unbroken [] each = refl
all_unbroken (b ∷ bs) each = ap₂ (λ x y. x || y) (each 0 (omega arith)) (all_unbroken bs (λ i below. each (suc i) (omega arith)))

name_unbroken : (text : List ℕ) → HasNameCharacters text → IsUnbroken text
name_unbroken text is =
    all_unbroken text (λ i below. ⊎_elim (λ ascii. NoCharPasses-byte is_line_end text i (no_end_passes text is) below ascii) (λ high. beyond_ascii (get_or text i 0) high) (order (get_or text i 0) 128))

digit_no_end : (b : ℕ) → is_ascii_digit b ≡ true → is_line_end b ≡ false
digit_no_end b is = grind (arith, nat_tests)

piece_unbroken : (k : Kind) (text more : List ℕ) → IsPieceOf k text more → IsUnbroken text
piece_unbroken Name text more is = name_unbroken text is.0
piece_unbroken Number text more is = all_unbroken text (λ i below. digit_no_end (get_or text i 0) (is.digits i below))
piece_unbroken k text more is = ap (list_any is_line_end) is.0

pub cuts_unbroken : (text : List ℕ) (ws : List Word) → Cuts text ws → IsUnbroken text
cuts_unbroken text ws done = refl
cuts_unbroken text ws (blank {text = rest} cuts) = cuts_unbroken rest _ cuts
cuts_unbroken text ws (piece k front {more = more} nonempty utf8 is cuts) =
    list_any-append is_line_end front more ∙ ap₂ (λ x y. x || y) (piece_unbroken k front more is) (cuts_unbroken more _ cuts)

-- ---- lines

abbrev pub AreUnbroken : List (List ℕ) → Type 0
AreUnbroken ls = AllByRecursion IsUnbroken ls

neither : (a b : Bool) → (a || b) ≡ false → (a ≡ false) × (b ≡ false)
neither true b is = absurd (cc)
neither false b is = (refl, is)

each_unbroken : (line : List ℕ) → IsUnbroken line → All (λ b. is_line_end b ≡ false) line
each_unbroken [] whole = All-nil (λ b. is_line_end b ≡ false)
each_unbroken (b ∷ line) whole =
    let each = neither (is_line_end b) (list_any is_line_end line) whole in
    All-cons (λ c. is_line_end c ≡ false) b line each.0 (each_unbroken line each.1)

no_feed : (b : ℕ) → is_line_end b ≡ false → b ≢ 10
no_feed b inner is =
    let feed : (b == 10) ≡ true = eq-eqb b 10 is in
    let other : (b == 10) ≡ false = (neither (b == 10) (b == 13) inner).0 in
    cc

no_return : (line : List ℕ) → IsUnbroken line → (slice_index line (length line - 1) == 13) ≡ false
no_return [] whole = refl
no_return (b ∷ line) whole =
    let last = slice_index (b ∷ line) (length (b ∷ line) - 1) in
    (neither (last == 10) (last == 13) (each_unbroken (b ∷ line) whole (length (b ∷ line) - 1) 0 (omega arith))).1

unstripped : (line : List ℕ) → IsUnbroken line → strip_carriage_return line ≡ line
unstripped line whole = ap (λ t. if t then take (length line - 1) line else line) (no_return line whole)

-- such a line with its end is the first of a text
pub first_line : (line rest : List ℕ) → IsUnbroken line → lines (ended line ++ rest) ≡ line ∷ lines rest
first_line line rest whole =
    ap lines (append_assoc line (10 ∷ []) rest)
    ∙ lines-feed line rest (All-weaker (λ b. is_line_end b ≡ false) (λ b. b ≢ 10) no_feed line (each_unbroken line whole))
    ∙ ap (λ l. l ∷ lines rest) (unstripped line whole)

pub lines_are : (ls : List (List ℕ)) → AreUnbroken ls → lines (lines_text ls) ≡ ls
lines_are [] whole = refl
lines_are (line ∷ ls) whole = first_line line (lines_text ls) whole.0 ∙ ap (λ rest. line ∷ rest) (lines_are ls whole.1)
