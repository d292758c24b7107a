-- The lines of a log by their marks.
use Rattle.std.proofs.Common.{◌≡◌, ℕ, ◌+◌, ◌-◌, ◌^◌, ◌<◌, ◌≤◌, zero, suc, List, [], ◌∷◌, ◌++◌, length, All, Some, Ok, Err, Result, refl, ap, sym, ◌∙◌, arith, slice_get, get_or, take, subst, inl, inr, AllPairs, nat_cmp}
use Rattle.std.proofs.Math.Seq.{take-nil}
use Rattle.std.specs.List.Sorted.{IsBinarySearchResult}
use Rattle.std.proofs.lemmas.Bool.{cases_lt}
use Rattle.std.proofs.lemmas.List.{length_push, length-take, length-take-le}
use Rattle.std.proofs.lemmas.List.Sorted.{searched}
use Rattle.std.proofs.lemmas.Option.{slice_get_read}
use Rattle.pc_lits.specs.declared.literal.Lit.{Lit}
use Rattle.pc_log.specs.declared.log.StepId.{StepId}
use Rattle.pc_log.specs.declared.further.Kind.{Kind}
use Rattle.pc_log.specs.declared.further.Kind.TheVariants.{Block, Step}
use Rattle.pc_log.specs.declared.log.Mark.{Mark}
use Rattle.pc_log.specs.declared.log.Mark.TheVariants.{Axiom, Further}
use Rattle.pc_log.specs.Lines.{LogLine, AxiomLine, hints_of}
use Rattle.pc_log.specs.inside.Marks.{marked_lines, count_further, AreNumbered, HintsAreEarlier, AreWellMarked, IsCountBefore}
use Rattle.pc_log.specs.inside.Parts.{line_with}

-- as many lines as marks
pub length-marked : (marks : List Mark) (more : List LogLine) → length (marked_lines marks more) ≡ length marks
length-marked [] more = refl
length-marked (Axiom number ∷ marks) more = ap suc (length-marked marks more)
length-marked (Further number ∷ marks) [] = ap suc (length-marked marks [])
length-marked (Further number ∷ marks) (line ∷ more) = ap suc (length-marked marks more)

-- fewer than 2^32, where there is room for one more, and among them
pub few_more : (marks : List Mark) (mark : Mark) (count : ℕ) → count ≡ length marks → count + 1 < 2 ^ 32 → length (marks ++ mark ∷ []) < 2 ^ 32
few_more marks mark count is few = omega (arith, length_push marks mark)

pub few_taken : (marks : List Mark) (count : ℕ) → length marks < 2 ^ 32 → length (take count marks) < 2 ^ 32
few_taken marks count few = omega (arith, length-take count marks)

some_places : (p : ℕ) (at : List ℕ) → p ∷ at ≡ [] → ⊥
some_places p at none =
    let same : suc (length at) ≡ 0 = ap (λ (ps : List ℕ). length ps) none in
    omega (arith, same)

count_numbered : (place next : ℕ) (marks : List Mark) (at : List ℕ) → AreNumbered place next marks at → count_further marks ≡ length at
count_numbered place next [] at numbered = ap (λ (ps : List ℕ). length ps) (sym numbered)
count_numbered place next (Axiom number ∷ marks) at numbered = count_numbered (place + 1) next marks at numbered
count_numbered place next (Further number ∷ marks) [] numbered = absurd numbered
count_numbered place next (Further number ∷ marks) (p ∷ at) numbered = ap suc (count_numbered (place + 1) (next + 1) marks at numbered.2)

-- ---- earlier hints

HintsAreEarlier-push : (place : ℕ) (lines : List LogLine) (line : LogLine) → HintsAreEarlier place lines → All (λ h. h.0 < place + length lines) (hints_of line) → HintsAreEarlier place (lines ++ line ∷ [])
HintsAreEarlier-push place [] line earlier new = (λ k d within. omega (arith, new k d within), tt)
HintsAreEarlier-push place (l ∷ lines) line earlier new =
    (earlier.0, HintsAreEarlier-push (place + 1) lines line earlier.1 (λ k d within. omega (arith, new k d within)))

HintsAreEarlier-take : (place : ℕ) (lines : List LogLine) (n : ℕ) → HintsAreEarlier place lines → HintsAreEarlier place (take n lines)
HintsAreEarlier-take place lines zero earlier = tt
HintsAreEarlier-take place [] (suc n) earlier = tt
HintsAreEarlier-take place (l ∷ lines) (suc n) earlier = (earlier.0, HintsAreEarlier-take (place + 1) lines n earlier.1)

HintsAreEarlier-at : (place : ℕ) (lines : List LogLine) (i : ℕ) (line : LogLine) → HintsAreEarlier place lines → slice_get lines i ≡ Some line → All (λ h. h.0 < place + i) (hints_of line)
HintsAreEarlier-at place [] i line earlier at = absurd (cc)
HintsAreEarlier-at place (l ∷ lines) zero line earlier at =
    let same : l ≡ line = cc in
    subst (λ (x : LogLine). All (λ h. h.0 < place + 0) (hints_of x)) same (λ k d below. omega (arith, earlier.0 k d below))
HintsAreEarlier-at place (l ∷ lines) (suc i) line earlier at =
    λ k d below. omega (arith, HintsAreEarlier-at (place + 1) lines i line earlier.1 at k d below)

-- ---- a line more

pub marked-push_axiom : (marks : List Mark) (more : List LogLine) (number : ℕ) → marked_lines (marks ++ Axiom number ∷ []) more ≡ marked_lines marks more ++ AxiomLine number ∷ []
marked-push_axiom [] more number = refl
marked-push_axiom (Axiom n ∷ marks) more number = ap (λ lines. AxiomLine n ∷ lines) (marked-push_axiom marks more number)
marked-push_axiom (Further n ∷ marks) [] number = ap (λ lines. AxiomLine 0 ∷ lines) (marked-push_axiom marks [] number)
marked-push_axiom (Further n ∷ marks) (l ∷ more) number = ap (λ lines. l ∷ lines) (marked-push_axiom marks more number)

push_further : (marks : List Mark) (more : List LogLine) (number : ℕ) (line : LogLine) → count_further marks ≡ length more → marked_lines (marks ++ Further number ∷ []) (more ++ line ∷ []) ≡ marked_lines marks more ++ line ∷ []
push_further [] [] number line count = refl
push_further [] (l ∷ more) number line count = absurd (omega (arith, count))
push_further (Axiom n ∷ marks) more number line count = ap (λ lines. AxiomLine n ∷ lines) (push_further marks more number line count)
push_further (Further n ∷ marks) [] number line count = absurd (omega (arith, count))
push_further (Further n ∷ marks) (l ∷ more) number line count = ap (λ lines. l ∷ lines) (push_further marks more number line (omega (arith, count)))

AreNumbered-push_axiom : (place next : ℕ) (marks : List Mark) (at : List ℕ) (number : ℕ) → AreNumbered place next marks at → AreNumbered place next (marks ++ Axiom number ∷ []) at
AreNumbered-push_axiom place next [] at number numbered = numbered
AreNumbered-push_axiom place next (Axiom n ∷ marks) at number numbered = AreNumbered-push_axiom (place + 1) next marks at number numbered
AreNumbered-push_axiom place next (Further n ∷ marks) [] number numbered = absurd numbered
AreNumbered-push_axiom place next (Further n ∷ marks) (p ∷ at) number numbered = (numbered.0, numbered.1, AreNumbered-push_axiom (place + 1) (next + 1) marks at number numbered.2)

AreNumbered-push_further : (place next : ℕ) (marks : List Mark) (at : List ℕ) (number here : ℕ) → AreNumbered place next marks at → number ≡ next + length at → here ≡ place + length marks
    → AreNumbered place next (marks ++ Further number ∷ []) (at ++ here ∷ [])
AreNumbered-push_further place next [] [] number here numbered is stands = (omega (arith, is), omega (arith, stands), refl)
AreNumbered-push_further place next [] (p ∷ at) number here numbered is stands = absurd (some_places p at numbered)
AreNumbered-push_further place next (Axiom n ∷ marks) at number here numbered is stands = AreNumbered-push_further (place + 1) next marks at number here numbered is (omega (arith, stands))
AreNumbered-push_further place next (Further n ∷ marks) [] number here numbered is stands = absurd numbered
AreNumbered-push_further place next (Further n ∷ marks) (p ∷ at) number here numbered is stands =
    (numbered.0, numbered.1, AreNumbered-push_further (place + 1) (next + 1) marks at number here numbered.2 (omega (arith, is)) (omega (arith, stands)))

pub AreWellMarked-push_axiom : (marks : List Mark) (at : List ℕ) (more : List LogLine) (number : ℕ) → AreWellMarked marks at more → AreWellMarked (marks ++ Axiom number ∷ []) at more
AreWellMarked-push_axiom marks at more number well = record {
  numbered = AreNumbered-push_axiom 0 0 marks at number well.numbered;
  each = well.each;
  earlier = rw (marked-push_axiom marks more number) (HintsAreEarlier-push 0 (marked_lines marks more) (AxiomLine number) well.earlier (λ k d within. absurd (omega (arith, within))));
}

count_each : (marks : List Mark) (at : List ℕ) (more : List LogLine) → AreWellMarked marks at more → count_further marks ≡ length more
count_each marks at more well = count_numbered 0 0 marks at well.numbered ∙ well.each

pub marked-push_further : (marks : List Mark) (at : List ℕ) (more : List LogLine) (number : ℕ) (line : LogLine) → AreWellMarked marks at more → marked_lines (marks ++ Further number ∷ []) (more ++ line ∷ []) ≡ marked_lines marks more ++ line ∷ []
marked-push_further marks at more number line well = push_further marks more number line (count_each marks at more well)

-- what hints of a step pass, those of its line do
hints_with : (place : ℕ) (kind : Kind) (clause : List Lit) (hints : List StepId) → All (λ h. h.0 < place) hints → All (λ h. h.0 < place) (hints_of (line_with kind clause hints))
hints_with place (Block number) clause hints earlier = λ k d within. absurd (omega (arith, within))
hints_with place (Step learned) clause hints earlier = earlier

pub AreWellMarked-push_further : (marks : List Mark) (at : List ℕ) (more : List LogLine) (number here : ℕ) (kind : Kind) (clause : List Lit) (hints : List StepId)
    → AreWellMarked marks at more → number ≡ length more → here ≡ length marks → All (λ h. h.0 < length (marked_lines marks more)) hints
    → AreWellMarked (marks ++ Further number ∷ []) (at ++ here ∷ []) (more ++ line_with kind clause hints ∷ [])
AreWellMarked-push_further marks at more number here kind clause hints well is stands earlier =
    record {
      numbered = AreNumbered-push_further 0 0 marks at number here well.numbered (omega (arith, is, well.each)) (omega (arith, stands));
      each = omega (arith, well.each, length_push at here, length_push more (line_with kind clause hints));
      earlier = rw (push_further marks more number (line_with kind clause hints) (count_each marks at more well))
          (HintsAreEarlier-push 0 (marked_lines marks more) (line_with kind clause hints) well.earlier
          (hints_with (0 + length (marked_lines marks more)) kind clause hints (λ k d within. omega (arith, earlier k d within))));
    }

-- ---- the line at a place

axiom_get : (marks : List Mark) (more : List LogLine) (i number : ℕ) → slice_get marks i ≡ Some (Axiom number) → slice_get (marked_lines marks more) i ≡ Some (AxiomLine number)
axiom_get [] more i number at = absurd (cc)
axiom_get (Axiom n ∷ marks) more zero number at = cc
axiom_get (Axiom n ∷ marks) more (suc i) number at = axiom_get marks more i number at
axiom_get (Further n ∷ marks) [] zero number at = absurd (cc)
axiom_get (Further n ∷ marks) [] (suc i) number at = axiom_get marks [] i number at
axiom_get (Further n ∷ marks) (l ∷ more) zero number at = absurd (cc)
axiom_get (Further n ∷ marks) (l ∷ more) (suc i) number at = axiom_get marks more i number at

number_within : (place next : ℕ) (marks : List Mark) (at : List ℕ) (i number : ℕ) → AreNumbered place next marks at → slice_get marks i ≡ Some (Further number) → (next ≤ number) × (number < next + length at)
number_within place next [] at i number numbered found = absurd (cc)
number_within place next (Axiom n ∷ marks) at zero number numbered found = absurd (cc)
number_within place next (Axiom n ∷ marks) at (suc i) number numbered found = number_within (place + 1) next marks at i number numbered found
number_within place next (Further n ∷ marks) [] i number numbered found = absurd numbered
number_within place next (Further n ∷ marks) (p ∷ at) zero number numbered found =
    let same : n ≡ number = cc in
    (omega (arith, same, numbered.0), omega (arith, same, numbered.0))
number_within place next (Further n ∷ marks) (p ∷ at) (suc i) number numbered found =
    let within = number_within (place + 1) (next + 1) marks at i number numbered.2 found in
    (omega (arith, within.0), omega (arith, within.1))

further_get : (place next : ℕ) (marks : List Mark) (at : List ℕ) (more : List LogLine) (i number j : ℕ) → AreNumbered place next marks at → length at ≡ length more → slice_get marks i ≡ Some (Further number) → number ≡ next + j
    → slice_get (marked_lines marks more) i ≡ slice_get more j
further_get place next [] at more i number j numbered each found is = absurd (cc)
further_get place next (Axiom n ∷ marks) at more zero number j numbered each found is = absurd (cc)
further_get place next (Axiom n ∷ marks) at more (suc i) number j numbered each found is = further_get (place + 1) next marks at more i number j numbered each found is
further_get place next (Further n ∷ marks) [] more i number j numbered each found is = absurd numbered
further_get place next (Further n ∷ marks) (p ∷ at) [] i number j numbered each found is = absurd (omega (arith, each))
further_get place next (Further n ∷ marks) (p ∷ at) (l ∷ more) zero number zero numbered each found is = refl
further_get place next (Further n ∷ marks) (p ∷ at) (l ∷ more) zero number (suc j) numbered each found is =
    let same : n ≡ number = cc in
    absurd (omega (arith, same, numbered.0, is))
further_get place next (Further n ∷ marks) (p ∷ at) (l ∷ more) (suc i) number zero numbered each found is =
    absurd (omega (arith, (number_within (place + 1) (next + 1) marks at i number numbered.2 found).0, is))
further_get place next (Further n ∷ marks) (p ∷ at) (l ∷ more) (suc i) number (suc j) numbered each found is =
    further_get (place + 1) (next + 1) marks at more i number j numbered.2 (omega (arith, each)) found (omega (arith, is))

mark_at : (marks : List Mark) (more lines : List LogLine) (i : ℕ) (found mark : Mark) → marked_lines marks more ≡ lines → i < length lines → found ≡ get_or marks i found → found ≡ mark → slice_get marks i ≡ Some mark
mark_at marks more lines i found mark view within read is =
    rw (← is) (slice_get_read marks (length marks) i found refl (omega (arith, within, ap length view, length-marked marks more)) read)

-- the line of an axiom's mark, read at one place
pub axiom_read : (marks : List Mark) (more lines : List LogLine) (i : ℕ) (found : Mark) (number : ℕ) → marked_lines marks more ≡ lines → i < length lines → found ≡ get_or marks i found → found ≡ Axiom number
    → slice_get lines i ≡ Some (AxiomLine number)
axiom_read marks more lines i found number view within read is = rw (← view) (axiom_get marks more i number (mark_at marks more lines i found (Axiom number) view within read is))

-- the number of another mark is that of a line
pub further_within : (marks : List Mark) (at : List ℕ) (more lines : List LogLine) (i : ℕ) (found : Mark) (number : ℕ) → AreWellMarked marks at more → marked_lines marks more ≡ lines → i < length lines → found ≡ get_or marks i found → found ≡ Further number
    → number < length more
further_within marks at more lines i found number well view within read is =
    omega (arith, (number_within 0 0 marks at i number well.numbered (mark_at marks more lines i found (Further number) view within read is)).1, well.each)

pub further_read : (marks : List Mark) (at : List ℕ) (more lines : List LogLine) (i : ℕ) (found : Mark) (number : ℕ) (line : LogLine) → AreWellMarked marks at more → marked_lines marks more ≡ lines → i < length lines
    → found ≡ get_or marks i found → found ≡ Further number → slice_get more number ≡ Some line → slice_get lines i ≡ Some line
further_read marks at more lines i found number line well view within read is stands =
    rw (← view) (further_get 0 0 marks at more i number number well.numbered well.each (mark_at marks more lines i found (Further number) view within read is) (omega arith) ∙ stands)

-- the hints of a line are earlier lines
pub line_is_earlier : (marks : List Mark) (at : List ℕ) (more lines : List LogLine) (i : ℕ) (line : LogLine) → AreWellMarked marks at more → marked_lines marks more ≡ lines → slice_get lines i ≡ Some line → All (λ h. h.0 < i) (hints_of line)
line_is_earlier marks at more lines i line well view stands =
    λ k d below. omega (arith, HintsAreEarlier-at 0 (marked_lines marks more) i line well.earlier (rw view stands) k d below)

-- ---- the first lines

marked-take : (marks : List Mark) (more : List LogLine) (n : ℕ) → marked_lines (take n marks) (take (count_further (take n marks)) more) ≡ take n (marked_lines marks more)
marked-take marks more zero = refl
marked-take [] more (suc n) = refl
marked-take (Axiom m ∷ marks) more (suc n) = ap (λ lines. AxiomLine m ∷ lines) (marked-take marks more n)
marked-take (Further m ∷ marks) [] (suc n) =
    ap (λ lines. AxiomLine 0 ∷ lines) (ap (λ (ls : List LogLine). marked_lines (take n marks) ls) (sym (take-nil (count_further (take n marks)))) ∙ marked-take marks [] n)
marked-take (Further m ∷ marks) (l ∷ more) (suc n) = ap (λ lines. l ∷ lines) (marked-take marks more n)

AreNumbered-take : (place next : ℕ) (marks : List Mark) (at : List ℕ) (n : ℕ) → AreNumbered place next marks at → AreNumbered place next (take n marks) (take (count_further (take n marks)) at)
AreNumbered-take place next marks at zero numbered = refl
AreNumbered-take place next [] at (suc n) numbered = refl
AreNumbered-take place next (Axiom m ∷ marks) at (suc n) numbered = AreNumbered-take (place + 1) next marks at n numbered
AreNumbered-take place next (Further m ∷ marks) [] (suc n) numbered = absurd numbered
AreNumbered-take place next (Further m ∷ marks) (p ∷ at) (suc n) numbered = (numbered.0, numbered.1, AreNumbered-take (place + 1) (next + 1) marks at n numbered.2)

at_from : (place next : ℕ) (marks : List Mark) (at : List ℕ) (k d : ℕ) → AreNumbered place next marks at → k < length at → place ≤ get_or at k d
at_from place next [] [] k d numbered within = absurd (omega (arith, within))
at_from place next [] (p ∷ at) k d numbered within = absurd (some_places p at numbered)
at_from place next (Axiom n ∷ marks) at k d numbered within = omega (arith, at_from (place + 1) next marks at k d numbered within)
at_from place next (Further n ∷ marks) [] k d numbered within = absurd numbered
at_from place next (Further n ∷ marks) (p ∷ at) zero d numbered within = omega (arith, numbered.1)
at_from place next (Further n ∷ marks) (p ∷ at) (suc k) d numbered within = omega (arith, at_from (place + 1) (next + 1) marks at k d numbered.2 (omega (arith, within)))

at_rise : (place next : ℕ) (marks : List Mark) (at : List ℕ) (i j d : ℕ) → AreNumbered place next marks at → i < j → j < length at → get_or at i d < get_or at j d
at_rise place next [] [] i j d numbered before within = absurd (omega (arith, within))
at_rise place next [] (p ∷ at) i j d numbered before within = absurd (some_places p at numbered)
at_rise place next (Axiom n ∷ marks) at i j d numbered before within = at_rise (place + 1) next marks at i j d numbered before within
at_rise place next (Further n ∷ marks) [] i j d numbered before within = absurd numbered
at_rise place next (Further n ∷ marks) (p ∷ at) i zero d numbered before within = absurd (omega (arith, before))
at_rise place next (Further n ∷ marks) (p ∷ at) zero (suc j) d numbered before within = omega (arith, numbered.1, at_from (place + 1) (next + 1) marks at j d numbered.2 (omega (arith, within)))
at_rise place next (Further n ∷ marks) (p ∷ at) (suc i) (suc j) d numbered before within = at_rise (place + 1) (next + 1) marks at i j d numbered.2 (omega (arith, before)) (omega (arith, within))

-- the places rise
pub places_rise : (marks : List Mark) (at : List ℕ) (more : List LogLine) → AreWellMarked marks at more → AllPairs (λ x y. x < y) at
places_rise marks at more well = λ i j d before within. at_rise 0 0 marks at i j d well.numbered before within

count_is : (place next : ℕ) (marks : List Mark) (at : List ℕ) (c n : ℕ) → AreNumbered place next marks at → IsCountBefore (place + c) at n → n ≡ count_further (take c marks)
count_is place next marks at zero zero numbered before = refl
count_is place next marks at zero (suc n) numbered before = absurd (omega (arith, before.0, before.1 0 (omega arith), at_from place next marks at 0 0 numbered (omega (arith, before.0))))
count_is place next [] at (suc c) n numbered before =
    let none : n ≡ 0 = omega (arith, before.0, ap (λ (ps : List ℕ). length ps) numbered) in
    none
count_is place next (Axiom m ∷ marks) at (suc c) n numbered before =
    count_is (place + 1) next marks at c n numbered (before.0, λ k low. omega (arith, before.1 k low), λ k high within. omega (arith, before.2 k high within))
count_is place next (Further m ∷ marks) [] (suc c) n numbered before = absurd numbered
count_is place next (Further m ∷ marks) (p ∷ at) (suc c) zero numbered before = absurd (omega (arith, before.2 0 (omega arith) (omega arith), numbered.1))
count_is place next (Further m ∷ marks) (p ∷ at) (suc c) (suc n) numbered before =
    ap suc (count_is (place + 1) (next + 1) marks at c n numbered.2
    (omega (arith, before.0), λ k low. omega (arith, before.1 (suc k) (omega (arith, low))), λ k high within. omega (arith, before.2 (suc k) (omega (arith, high)) (omega (arith, within)))))

-- how many of the first lines are no axioms
further_before : (marks : List Mark) (at : List ℕ) (more : List LogLine) (count n : ℕ) → AreWellMarked marks at more → IsCountBefore count at n → n ≡ count_further (take count marks)
further_before marks at more count n well before =
    count_is 0 0 marks at count n well.numbered (before.0, λ k low. omega (arith, before.1 k low), λ k high within. omega (arith, before.2 k high within))

pub few_before : (marks : List Mark) (at : List ℕ) (more : List LogLine) (count n : ℕ) → AreWellMarked marks at more → IsCountBefore count at n → n ≤ length more
few_before marks at more count n well before = omega (arith, before.0, well.each)

pub marked_lines-take : (marks : List Mark) (at : List ℕ) (more : List LogLine) (count n : ℕ) → AreWellMarked marks at more → IsCountBefore count at n → marked_lines (take count marks) (take n more) ≡ take count (marked_lines marks more)
marked_lines-take marks at more count n well before = rw (further_before marks at more count n well before) (marked-take marks more count)

pub AreWellMarked-take : (marks : List Mark) (at : List ℕ) (more : List LogLine) (count n : ℕ) → AreWellMarked marks at more → IsCountBefore count at n → AreWellMarked (take count marks) (take n at) (take n more)
AreWellMarked-take marks at more count n well before = record {
  numbered = rw (further_before marks at more count n well before) (AreNumbered-take 0 0 marks at count well.numbered);
  each = length-take-le n at before.0 ∙ sym (length-take-le n more (few_before marks at more count n well before));
  earlier = rw (marked_lines-take marks at more count n well before) (HintsAreEarlier-take 0 (marked_lines marks more) count well.earlier);
}

-- ---- how many places stand before one

never_fall : (at : List ℕ) → AllPairs (λ x y. x < y) at → (i j : ℕ) → i ≤ j → j < length at → get_or at i 0 ≤ get_or at j 0
never_fall at rise i j le within = elim (cases_lt i j) [
  | inl before ↦ omega (arith, rise i j 0 before within)
  | inr not_before ↦
      let same : i ≡ j = omega arith in
      omega (arith, ap (λ n. get_or at n 0) same)
]

pub before_found : (at : List ℕ) (place : ℕ) (r : Result ℕ ℕ) (n : ℕ) → AllPairs (λ x y. x < y) at → IsBinarySearchResult (λ y. nat_cmp y place) at r → r ≡ Ok n → IsCountBefore place at n
before_found at place r n rise position is =
    let here = searched at place (Ok n) (subst (IsBinarySearchResult (λ y. nat_cmp y place) at) is position) (never_fall at rise) in
    (omega (arith, here.0), λ k low. omega (arith, rise k n 0 low here.0, here.1), λ k high within. omega (arith, never_fall at rise n k high within, here.1))

pub before_missing : (at : List ℕ) (place : ℕ) (r : Result ℕ ℕ) (n : ℕ) → AllPairs (λ x y. x < y) at → IsBinarySearchResult (λ y. nat_cmp y place) at r → r ≡ Err n → IsCountBefore place at n
before_missing at place r n rise position is =
    let here = searched at place (Err n) (subst (IsBinarySearchResult (λ y. nat_cmp y place) at) is position) (never_fall at rise) in
    (here.0, here.1, λ k high within. omega (arith, here.2 k high within))

-- of the place right before it the number is known
pub before_numbered : (at : List ℕ) (place n : ℕ) → AllPairs (λ x y. x < y) at → n < length at → 0 < place → get_or at n 0 ≡ place - 1 → IsCountBefore place at (n + 1)
before_numbered at place n rise within some here =
    (omega (arith, within), λ k low. omega (arith, never_fall at rise k n (omega (arith, low)) within, here, some), λ k high inside. omega (arith, rise n k 0 (omega (arith, high)) inside, here, some))
