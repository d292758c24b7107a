-- The lines of a derivation, one after another, each with its number.
use Rattle.std.proofs.Common.{◌≡◌, ℕ, zero, suc, ◌+◌, ◌-◌, ◌<◌, ◌≤◌, ◌^◌, List, [], ◌∷◌, ◌++◌, map, length, Some, get_or, slice_get, slice_range, All, Contains, refl, ap, ◌∙◌, subst, arith}
use Rattle.std.specs.Prelude.{option_map}
use Rattle.std.specs.List.{flat_map}
use Rattle.std.proofs.lemmas.List.{length-map}
use Rattle.std.proofs.lemmas.List.Elements.{All-nil, All-cons, All-head, All-tail, Contains-get_or}
use Rattle.std.proofs.lemmas.Option.{slice_get-map, slice_get_within, slice_get-get_or, get_or_from_slice_get}
use Rattle.pc_sheet.specs.Sheet.{Sheet, Universe}
use Rattle.pc_sheet.specs.Entailment.{cell_sizes}
use Rattle.pc_sheet.specs.WellFormed.{IsEntryOf}
use Rattle.pc_sheet.specs.declared.ids.ValueId.{ValueId}
use Rattle.pc_sheet.specs.declared.ids.Entry.{Entry}
use Rattle.pc_accept.specs.Accepts.{Line}
use Rattle.pc_accept.specs.Writable.{IsLineBeside, IsSymbolOf, AreLinesBeside}
use Rattle.pc_lits.specs.declared.literal.Lit.{Lit}
use Rattle.pc_log.specs.declared.log.StepId.{StepId}
use Rattle.pc_log.specs.declared.trimming.Span.{Span}
use Rattle.pc_log.specs.Lines.{LogLine, AxiomLine, BlockLine, StepLine, hints_of}
use Rattle.pc_log.specs.Spans.{IsSpanOf, lines_of_span}
use Rattle.pc_log.specs.Trimmed.{moved}
use Rattle.pc_log.proofs.SpanLemmas.{get_within, length_range}
use Rattle.pc_axiom_names.specs.Listed.{NameLists}
use Rattle.pc_reason.specs.Derivation.{IsLineNamedBeside, line_named, literal_named, entries_from}
use Rattle.pc_writer.proofs.CellLemmas.{entered_cell}
use Rattle.pc_cert_text.specs.CertificateText.{behind_blank, derivation_line_text, derivation_lines_text, number_text}
use Rattle.pc_writer.specs.SheetText.{ended}
use Rattle.pc_cert_text.specs.declared.lines.Lines.{Lines}
use Rattle.pc_cert_text.specs.inside.Steps.{lines_in, number_in, AreNamedAndOfSheet, CanBeWritten, HasNumber, IsLineAt, IsLiteralOf}

pub all_at : {A : Type 0} (P : A → Type 0) (xs : List A) (i : ℕ) (x : A) → All P xs → slice_get xs i ≡ Some x → P x
all_at P xs i x all at = subst P (get_or_from_slice_get xs i x x at) (all i x (slice_get_within xs i x at))

-- ---- the values of cells

pub entry_at : (c : ℕ) (vs : List ValueId) (i : ℕ) (v : ValueId) → slice_get vs i ≡ Some v → slice_get (entries_from c vs) i ≡ Some (record { cell = record { 0 = i + c }; value = v })
entry_at c [] i v at = absurd (cc)
entry_at c (w ∷ vs) zero v at =
    ap (λ x. Some (record { cell = record { 0 = c }; value = x })) (let same : w ≡ v = cc in same) ∙ ap (λ n. Some (record { cell = record { 0 = n }; value = v })) (let same : c ≡ 0 + c = omega arith in same)
entry_at c (w ∷ vs) (suc i) v at =
    entry_at (c + 1) vs i v at ∙ ap (λ n. Some (record { cell = record { 0 = n }; value = v })) (let same : i + (c + 1) ≡ suc i + c = omega arith in same)

pub length-entries : (c : ℕ) (vs : List ValueId) → length (entries_from c vs) ≡ length vs
length-entries c [] = refl
length-entries c (v ∷ vs) = ap suc (length-entries (c + 1) vs)

pub value_at : (vs : List ValueId) (i : ℕ) (d : ValueId) → i < length vs → slice_get (entries_from 0 vs) i ≡ Some (record { cell = record { 0 = i }; value = get_or vs i d })
value_at vs i d below =
    entry_at 0 vs i (get_or vs i d) (slice_get-get_or vs i d below) ∙ ap (λ n. Some (record { cell = record { 0 = n }; value = get_or vs i d })) (let same : i + 0 ≡ i = omega arith in same)

few_from : (u : Universe) (c : ℕ) (v : ValueId) (vs : List ValueId) → All (IsEntryOf u) (entries_from c (v ∷ vs)) → c + length (v ∷ vs) ≤ length (cell_sizes u)
few_from u c v [] all =
    let e : Entry = record { cell = record { 0 = c }; value = v } in
    let within = entered_cell u e (All-head (IsEntryOf u) e [] all) in
    omega (arith, within)
few_from u c v (w ∷ vs) all =
    let e : Entry = record { cell = record { 0 = c }; value = v } in
    let rest = few_from u (c + 1) w vs (All-tail (IsEntryOf u) e (entries_from (c + 1) (w ∷ vs)) all) in
    omega (arith, rest)

-- there are no more values than cells
pub few_values : (u : Universe) (vs : List ValueId) → All (IsEntryOf u) (entries_from 0 vs) → length vs ≤ length (cell_sizes u)
few_values u [] all = omega arith
few_values u (v ∷ vs) all = let few = few_from u 0 v vs all in omega (arith, few)

-- ---- numbered lines

-- the lines with their numbers, of which the first has this one
abbrev pub numbered : ℕ → List Line → List (ℕ × Line)
numbered n [] = []
numbered n (l ∷ ls) = (n, l) ∷ numbered (n + 1) ls

abbrev pub numbered_text : Sheet → ℕ × Line → List ℕ
numbered_text sheet p = ended (number_text p.0 ++ behind_blank (derivation_line_text sheet p.1))

pub lines_are_numbered : (sheet : Sheet) (n : ℕ) (ls : List Line) → flat_map (numbered_text sheet) (numbered n ls) ≡ derivation_lines_text sheet n ls
lines_are_numbered sheet n [] = refl
lines_are_numbered sheet n (l ∷ ls) = ap (λ rest. numbered_text sheet (n, l) ++ rest) (lines_are_numbered sheet (n + 1) ls)

pub length-numbered : (n : ℕ) (ls : List Line) → length (numbered n ls) ≡ length ls
length-numbered n [] = refl
length-numbered n (l ∷ ls) = ap suc (length-numbered (n + 1) ls)

pub numbered_at : (n : ℕ) (ls : List Line) (i : ℕ) (l : Line) → slice_get ls i ≡ Some l → slice_get (numbered n ls) i ≡ Some (i + n, l)
numbered_at n [] i l at = absurd (cc)
numbered_at n (m ∷ ls) zero l at = ap (λ x. Some (n, x)) (let same : m ≡ l = cc in same) ∙ ap (λ k. Some (k, l)) (let same : n ≡ 0 + n = omega arith in same)
numbered_at n (m ∷ ls) (suc i) l at = numbered_at (n + 1) ls i l at ∙ ap (λ k. Some (k, l)) (let same : i + (n + 1) ≡ suc i + n = omega arith in same)

-- ---- lines that can be written

module _ (sheet : Sheet) (names : NameLists) where
  literals_of : (clause : List Lit) → All (λ l. l.variable.0 < length names.variables) clause → All (λ l. IsSymbolOf sheet l.what) (map (literal_named names) clause) → All (IsLiteralOf sheet names) clause
  literals_of [] named written = All-nil (IsLiteralOf sheet names)
  literals_of (l ∷ ls) named written =
      All-cons (IsLiteralOf sheet names) l ls
      (record { named = All-head (λ (m : Lit). m.variable.0 < length names.variables) l ls named; symbol = All-head (λ m. IsSymbolOf sheet m.what) (literal_named names l) (map (literal_named names) ls) written })
      (literals_of ls (All-tail (λ (m : Lit). m.variable.0 < length names.variables) l ls named) (All-tail (λ m. IsSymbolOf sheet m.what) (literal_named names l) (map (literal_named names) ls) written))

  -- a named line of a sheet can be written, where its hints have numbers
  pub written_line : (lines : Lines) (sets place : ℕ) (line : LogLine) → sets < 10 ^ 18 → IsLineNamedBeside sets names (moved (number_in lines) line)
      → IsLineBeside sheet sets place (line_named names (moved (number_in lines) line))
      → ((h : StepId) → Contains (hints_of line) h → HasNumber lines h.0) → CanBeWritten sheet names lines line
  written_line lines sets place (AxiomLine a) few named written hints = (named, written)
  written_line lines sets place (BlockLine number clause) few named written hints = omega (arith, named, few)
  written_line lines sets place (StepLine clause hs learned) few named written hints = (literals_of clause named written.0, λ k d below. hints _ (Contains-get_or hs k d below))

  pub written_at : (sets place : ℕ) (ls : List Line) → AreLinesBeside sheet sets place ls → (i : ℕ) (l : Line) → slice_get ls i ≡ Some l → (k : ℕ) × IsLineBeside sheet sets k l
  written_at sets place [] are i l at = absurd (cc)
  written_at sets place (m ∷ ls) are zero l at = (place, subst (IsLineBeside sheet sets place) (let same : m ≡ l = cc in same) are.0)
  written_at sets place (m ∷ ls) are (suc i) l at = written_at sets (place + 1) ls are.1 i l at

  -- the named line of a number
  pub named_at : (lines : Lines) (k : ℕ) (line : LogLine) → IsLineAt lines k line → slice_get (map (line_named names) (lines_in lines)) k ≡ Some (line_named names (moved (number_in lines) line))
  named_at lines k line is = slice_get-map (line_named names) (lines_in lines) k ∙ ap (option_map (line_named names)) is.stands

  pub can_be_written : (lines : Lines) → AreNamedAndOfSheet sheet names (lines_in lines) → (k : ℕ) (line : LogLine) → IsLineAt lines k line → CanBeWritten sheet names lines line
  can_be_written lines are k line is =
      let here = moved (number_in lines) line in
      let own = written_at are.sets 0 (map (line_named names) (lines_in lines)) are.written k (line_named names here) (named_at lines k line is) in
      written_line lines are.sets own.0 line are.few (all_at (IsLineNamedBeside are.sets names) (lines_in lines) k here are.named is.stands) own.1 is.hints

-- ---- lines of a span

module _ (log : List LogLine) (span : Span) (lies : IsSpanOf log span) where
  abbrev here : LogLine → LogLine
  here line = moved (λ h. h - span.first.0) line

  pub count_of_lines : length (lines_of_span log span) ≡ span.last.0 - span.first.0 + 1
  count_of_lines =
      let count = length-map (slice_range log span.first.0 (span.last.0 + 1)) here ∙ length_range log span.first.0 (span.last.0 + 1) (omega (arith, lies.rises)) (omega (arith, lies.lies)) in
      omega (arith, count, lies.rises)

  pub within : (k : ℕ) → k < length (lines_of_span log span) → span.first.0 + k ≤ span.last.0
  within k low = omega (arith, count_of_lines, low, lies.rises)

  pub line_at : (k : ℕ) (line : LogLine) → k < length (lines_of_span log span) → slice_get log (span.first.0 + k) ≡ Some line → slice_get (lines_of_span log span) k ≡ Some (here line)
  line_at k line low at =
      slice_get-map here (slice_range log span.first.0 (span.last.0 + 1)) k
      ∙ ap (option_map here) (get_within log span.first.0 (span.last.0 + 1) k line (omega (arith, lies.lies)) (omega (arith, within k low)) at)

  pub hints_behind : (k : ℕ) (line : LogLine) → k < length (lines_of_span log span) → slice_get log (span.first.0 + k) ≡ Some line → (h : StepId) → Contains (hints_of line) h → span.first.0 ≤ h.0
  hints_behind k line low at h there =
      (lies.closed (span.first.0 + k) h.0 (omega arith) (within k low) (hints_of line, slice_get-map hints_of log (span.first.0 + k) ∙ ap (option_map hints_of) at, there)).0
