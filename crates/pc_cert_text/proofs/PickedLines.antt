-- The lines of a derivation that shares them with others, one after another.
use Rattle.std.proofs.Common.{◌≡◌, ℕ, ◌+◌, ◌<◌, List, Some, length, get_or, Contains, inl, inr, sym, ap, ◌∙◌, subst, arith}
use Rattle.std.specs.Prelude.{option_map}
use Rattle.std.specs.List.Sorted.{IsStrictlyIncreasing}
use Rattle.std.proofs.lemmas.Bool.{cases_lt}
use Rattle.std.proofs.lemmas.List.Elements.{Contains-get_or}
use Rattle.std.proofs.lemmas.Option.{slice_get-map, slice_get-get_or}
use Rattle.pc_log.specs.declared.derivation.Derivation.{Derivation}
use Rattle.pc_log.specs.Lines.{LogLine, hints_of}
use Rattle.pc_log.specs.Sparse.{index_of, line_in, IsPicked}
use Rattle.pc_log.specs.Trimmed.{moved}
use Rattle.pc_log.proofs.AppendLemmas.{rises}
use Rattle.pc_log.proofs.PickedLemmas.{picked_length}
use Rattle.pc_reason.specs.Reasons.{lines_of_derivation}
use Rattle.pc_cert_text.specs.declared.lines.Lines.{Lines}
use Rattle.pc_cert_text.specs.declared.lines.Lines.TheVariants.{Logged, Shared}
use Rattle.pc_cert_text.specs.inside.Steps.{IsBehind, IsLineAt, IsNext}

first_next : (places : List ℕ) → IsBehind places 0 0
first_next places = record { later = λ low. omega arith; earlier = λ i below. absurd (omega (arith, below)) }

pub first_place : (lines : Lines) → IsNext lines 0 0
first_place (Logged log span) = tt
first_place (Shared d) = first_next d.places.now

more_next : (places : List ℕ) (k place : ℕ) → IsStrictlyIncreasing places → k < length places → place ≡ get_or places k 0 → IsBehind places (k + 1) (place + 1)
more_next places k place rise low is = record {
  later = λ more. let above : get_or places k 0 < get_or places (k + 1) 0 = rises places rise k (k + 1) 0 (omega arith) more in omega (arith, is, above);
  earlier = λ i below. elim (cases_lt i k) [
    | inl before ↦ let less : get_or places i 0 < get_or places k 0 = rises places rise i k 0 before low in omega (arith, is, less)
    | inr not_before ↦ let same : i ≡ k = omega (arith, below, not_before) in omega (arith, is, ap (λ n. get_or places n 0) same)
  ];
}

module _ (d : Derivation) (is : IsPicked d.lines.now d.places.now) where
  abbrev places : List ℕ
  places = d.places.now

  abbrev here : LogLine → LogLine
  here line = moved (λ h. index_of h places) line

  pub count_of_picked : length (lines_of_derivation d) ≡ length places
  count_of_picked = picked_length (line_in d.lines.now) places

  -- what is read at the place of a number
  pub picked_at : (k place : ℕ) (line : LogLine) → k < length (lines_of_derivation d) → line ≡ line_in d.lines.now place → place ≡ get_or places k 0 → IsLineAt (Shared d) k line
  picked_at k place line below read at =
      let low : k < length places = omega (arith, below, count_of_picked) in
      let is_line = read ∙ ap (line_in d.lines.now) at in
      record {
        stands =
            slice_get-map (λ i. here (line_in d.lines.now i)) places k ∙ ap (option_map (λ i. here (line_in d.lines.now i))) (slice_get-get_or places k 0 low)
            ∙ ap (λ (l : LogLine). Some (here l)) (sym is_line);
        hints = λ h there. is.closed (get_or places k 0) h.0 (Contains-get_or places k 0 low) (subst (λ (l : LogLine). Contains (hints_of l) h) is_line there);
      }

  pub next_behind : (k place : ℕ) → k < length (lines_of_derivation d) → place ≡ get_or places k 0 → IsBehind places (k + 1) (place + 1)
  next_behind k place below at = more_next places k place is.rise (omega (arith, below, count_of_picked)) at
