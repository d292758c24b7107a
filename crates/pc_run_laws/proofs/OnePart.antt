-- An input has one part that is the sheet.
use Rattle.std.proofs.Common.{◌≡◌, ℕ, inl, inr, List, [], ◌∷◌, ◌++◌, length, Some, sym, ◌∙◌, ap, arith, subst, append_assoc, length-append}
use Rattle.std.specs.List.{AllByRecursion}
use Rattle.std.proofs.lemmas.List.{append-nil, append_cancel_left, length_push}
use Rattle.std.proofs.lemmas.List.Elements.{recursion_from_All}
use Rattle.pc_lines.specs.Lines.{before_end, HasNoEnd, IsWholeLine}
use Rattle.pc_lines.proofs.Ends.{before_end-feed, before_end-none}
use Rattle.pc_lines.specs.declared.TheConstants.{SHEET_LIMIT}
use Rattle.pc_transcript.specs.SheetPart.{IsBeginLine, IsEarlier, joined_lines, EndsSheet}
use Rattle.pc_run_laws.specs.Inputs.{InputsHaveOneSheetPart}

-- ---- whole lines

-- a whole line is what stands up to the first line feed
first_end : (line rest : List ℕ) → IsWholeLine SHEET_LIMIT line → before_end (line ++ rest) ≡ before_end line
first_end line rest whole = ap (λ (l : List ℕ). before_end (l ++ rest)) whole.ends ∙ before_end-feed (before_end line) rest whole.no_end

same_line : (line other rest rest' : List ℕ) → IsWholeLine SHEET_LIMIT line → IsWholeLine SHEET_LIMIT other → line ++ rest ≡ other ++ rest' → line ≡ other
same_line line other rest rest' whole also e =
    let before : before_end line ≡ before_end other = sym (first_end line rest whole) ∙ ap before_end e ∙ first_end other rest' also in
    whole.ends ∙ ap (λ (l : List ℕ). l ++ 10 ∷ []) before ∙ sym also.ends

same_rest : (line other rest rest' : List ℕ) → line ≡ other → line ++ rest ≡ other ++ rest' → rest ≡ rest'
same_rest line other rest rest' same e = append_cancel_left line rest rest' (e ∙ ap (λ (l : List ℕ). l ++ rest') (sym same))

-- bytes without a line feed don't begin with a whole line
no_line : (line rest bytes : List ℕ) → IsWholeLine SHEET_LIMIT line → HasNoEnd bytes → line ++ rest ≡ bytes → ⊥
no_line line rest bytes whole none e =
    let same : before_end line ≡ line ++ rest = sym (first_end line rest whole) ∙ ap before_end e ∙ before_end-none bytes none ∙ sym e in
    absurd (omega (arith, ap length same, ap length whole.ends, length_push (before_end line) 10, length-append line rest))

-- ---- the part

-- an end that has a whole line at its front has it as its last line, which is `begin`
not_earlier : (line rest last rest' : List ℕ) → IsEarlier line → EndsSheet last (Some rest') → line ++ rest ≡ last ++ rest' → ⊥
not_earlier line rest last rest' earlier (inl (whole, begin)) e =
    absurd (earlier.other (subst (λ (l : List ℕ). IsBeginLine l) (sym (same_line line last rest rest' earlier.whole whole e)) begin))
not_earlier line rest last rest' earlier (inr (none, end)) e = no_line line rest last earlier.whole none (e ∙ ap (λ (l : List ℕ). last ++ l) end ∙ append-nil last)

same_last : (last other rest rest' : List ℕ) → EndsSheet last (Some rest) → EndsSheet other (Some rest') → last ++ rest ≡ other ++ rest' → last ≡ other
same_last last other rest rest' (inl (whole, begin)) (inl (also, too)) e = same_line last other rest rest' whole also e
same_last last other rest rest' (inl (whole, begin)) (inr (none, end)) e = absurd (no_line last rest other whole none (e ∙ ap (λ (l : List ℕ). other ++ l) end ∙ append-nil other))
same_last last other rest rest' (inr (none, end)) (inl (whole, begin)) e = absurd (no_line other rest' last whole none (sym e ∙ ap (λ (l : List ℕ). last ++ l) end ∙ append-nil last))
same_last last other rest rest' (inr (none, end)) (inr (none', end')) e = sym (append-nil last) ∙ ap (λ (l : List ℕ). last ++ l) (sym end) ∙ e ∙ ap (λ (l : List ℕ). other ++ l) end' ∙ append-nil other

-- the first line apart
line_apart : (line : List ℕ) (lines : List (List ℕ)) (last rest : List ℕ) → (joined_lines (line ∷ lines) ++ last) ++ rest ≡ line ++ ((joined_lines lines ++ last) ++ rest)
line_apart line lines last rest = ap (λ (l : List ℕ). l ++ rest) (append_assoc line (joined_lines lines) last) ∙ append_assoc line (joined_lines lines ++ last) rest

same_part : (earlier others : List (List ℕ)) (last last' rest rest' : List ℕ) → AllByRecursion IsEarlier earlier → AllByRecursion IsEarlier others → EndsSheet last (Some rest) → EndsSheet last' (Some rest')
    → (joined_lines earlier ++ last) ++ rest ≡ (joined_lines others ++ last') ++ rest' → joined_lines earlier ++ last ≡ joined_lines others ++ last'
same_part [] [] last last' rest rest' before before' end end' e = same_last last last' rest rest' end end' e
same_part (line ∷ earlier) [] last last' rest rest' before before' end end' e =
    absurd (not_earlier line ((joined_lines earlier ++ last) ++ rest) last' rest' before.0 end' (sym (line_apart line earlier last rest) ∙ e))
same_part [] (line ∷ others) last last' rest rest' before before' end end' e =
    absurd (not_earlier line ((joined_lines others ++ last') ++ rest') last rest before'.0 end (sym (line_apart line others last' rest') ∙ sym e))
same_part (line ∷ earlier) (line' ∷ others) last last' rest rest' before before' end end' e =
    let whole = sym (line_apart line earlier last rest) ∙ e ∙ line_apart line' others last' rest' in
    let same = same_line line line' ((joined_lines earlier ++ last) ++ rest) ((joined_lines others ++ last') ++ rest') before.0.whole before'.0.whole whole in
    let more = same_part earlier others last last' rest rest' before.1 before'.1 end end' (same_rest line line' ((joined_lines earlier ++ last) ++ rest) ((joined_lines others ++ last') ++ rest') same whole) in
    append_assoc line (joined_lines earlier) last ∙ ap (λ (l : List ℕ). l ++ (joined_lines earlier ++ last)) same ∙ ap (λ (l : List ℕ). line' ++ l) more ∙ sym (append_assoc line' (joined_lines others) last')

pub one_part : InputsHaveOneSheetPart
one_part text other bytes a b =
    let e : (joined_lines a.part.earlier ++ a.part.last) ++ a.rest ≡ (joined_lines b.part.earlier ++ b.part.last) ++ b.rest =
    ap (λ (l : List ℕ). l ++ a.rest) (sym a.part.is) ∙ sym a.is ∙ b.is ∙ ap (λ (l : List ℕ). l ++ b.rest) b.part.is in
    a.part.is
    ∙ same_part a.part.earlier b.part.earlier a.part.last b.part.last a.rest b.rest (recursion_from_All IsEarlier a.part.earlier a.part.others) (recursion_from_All IsEarlier b.part.earlier b.part.others) a.part.ends b.part.ends e
    ∙ sym b.part.is
