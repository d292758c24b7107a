-- The lines of a log by their marks.
use Rattle.std.specs.Prelude.{◌≡◌, ℕ, suc, ◌+◌, ◌<◌, ◌≤◌, List, [], ◌∷◌, All, length, slice_index}
use Rattle.pc_log.specs.declared.log.Mark.{Mark}
use Rattle.pc_log.specs.declared.log.Mark.TheVariants.{Axiom, Further}
use Rattle.pc_log.specs.Lines.{LogLine, AxiomLine, hints_of}

-- the lines that are so marked, where those that are no axioms are these in their order
abbrev pub marked_lines : List Mark → List LogLine → List LogLine
marked_lines [] more = []
marked_lines (Axiom number ∷ marks) more = AxiomLine number ∷ marked_lines marks more
marked_lines (Further number ∷ marks) [] = AxiomLine 0 ∷ marked_lines marks []
marked_lines (Further number ∷ marks) (line ∷ more) = line ∷ marked_lines marks more

-- how many of the marks are no axioms
abbrev pub count_further : List Mark → ℕ
count_further [] = 0
count_further (Axiom number ∷ marks) = count_further marks
count_further (Further number ∷ marks) = suc (count_further marks)

-- the marks of the lines from this place on: those that are no axioms are numbered from `next` on, and stand at these places
abbrev pub AreNumbered : ℕ → ℕ → List Mark → List ℕ → Type 0
AreNumbered place next [] at = at ≡ []
AreNumbered place next (Axiom number ∷ marks) at = AreNumbered (place + 1) next marks at
AreNumbered place next (Further number ∷ marks) [] = ⊥
AreNumbered place next (Further number ∷ marks) (p ∷ at) = (number ≡ next) × (p ≡ place) × AreNumbered (place + 1) (next + 1) marks at

-- the hints of each line name lines before it, the first line being that of the place `place`
abbrev pub HintsAreEarlier : ℕ → List LogLine → Type 0
HintsAreEarlier place [] = Unit {0}
HintsAreEarlier place (line ∷ lines) = All (λ h. h.0 < place) (hints_of line) × HintsAreEarlier (place + 1) lines

-- there is a mark for each of these lines and a place for each mark that is no axiom, and the hints are earlier lines
pub record AreWellMarked (marks : List Mark) (at : List ℕ) (more : List LogLine) : Type 0 where
  pub numbered : AreNumbered 0 0 marks at
  pub each : length at ≡ length more
  pub earlier : HintsAreEarlier 0 (marked_lines marks more)

-- so many of these places stand before this one, and the others don't
abbrev pub IsCountBefore : ℕ → List ℕ → ℕ → Type 0
IsCountBefore place at n = (n ≤ length at) × ((k : ℕ) → k < n → slice_index at k < place) × ((k : ℕ) → n ≤ k → k < length at → place ≤ slice_index at k)
