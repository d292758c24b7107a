-- What a justification shows, and that what is accepted can be written, by names of what the sheet has.
use Rattle.std.proofs.Common.{◌≡◌, ℕ, zero, suc, ◌+◌, ◌<◌, List, [], ◌∷◌, ◌++◌, map, length, Some, slice_get, slice_index_or, IsSomeAnd, All, refl, sym, ap, ◌∙◌, subst, arith, append_assoc, length-append}
use Rattle.std.proofs.lemmas.List.{length-map}
use Rattle.std.proofs.lemmas.List.Elements.{All-nil, All-cons, All-contains, All-map}
use Rattle.std.proofs.lemmas.Option.{slice_get_within, get_or_from_slice_get}
use Rattle.pc_sheet.specs.Sheet.{Sheet, Universe}
use Rattle.pc_sheet.specs.Entailment.{AreWithin, IsAssignment, Fits, HasAll, cell_sizes}
use Rattle.pc_sheet.specs.WellFormed.{IsEntryOf}
use Rattle.pc_sheet.specs.declared.ids.ValueId.{ValueId}
use Rattle.pc_sheet.specs.declared.ids.Entry.{Entry}
use Rattle.pc_log.specs.Lines.{LogLine, AxiomLine, BlockLine, StepLine}
use Rattle.pc_log.proofs.SpanLemmas.{get_behind}
use Rattle.pc_accept.specs.Literals.{Literal, node}
use Rattle.pc_accept.specs.Axioms.{axiom_rule}
use Rattle.pc_accept.specs.Accepts.{Line, IsLineClauseBeside, DerivesBeside, value_of_entry}
use Rattle.pc_accept.specs.Writable.{IsSymbolOf, IsLineBeside, AreLinesBeside, IsSetOf}
use Rattle.pc_axiom_names.specs.Listed.{NameLists}
use Rattle.pc_reason.specs.Derivation.{AreLinesNamedBeside, IsLineNamedBeside, line_named, literal_named, entries_from}
use Rattle.pc_reason.specs.Shows.{JustificationsShowSupports}
use Rattle.pc_reason.specs.Written.{AreOfSheet, AcceptedReasonsAreWritable, AcceptedRefutationsAreWritable}

-- ---- the assignment

values_of : (c : ℕ) (vs : List ValueId) → map value_of_entry (entries_from c vs) ≡ vs
values_of c [] = refl
values_of c (v ∷ vs) = ap (λ ws. v ∷ ws) (values_of (c + 1) vs)

pub justifications_show : JustificationsShowSupports
justifications_show sheet names t j is = record {
  least = is.least;
  assigns = subst (IsAssignment sheet.universe) (values_of 0 j.shown) is.accepted.shown.assigns;
  fits = subst (Fits sheet) (values_of 0 j.shown) is.accepted.shown.fits;
  has = subst (λ values. HasAll values j.support) (values_of 0 j.shown) is.accepted.shown.has;
}

abbrev IsWithinSizes : List ℕ → Entry → Type 0
IsWithinSizes sizes e = IsSomeAnd (slice_get sizes e.cell.0) (λ n. e.value.0 < n)

entered_from : (front ns : List ℕ) (c : ℕ) (vs : List ValueId) → c ≡ length front → AreWithin ns vs → All (IsWithinSizes (front ++ ns)) (entries_from c vs)
entered_from front ns c [] place within = All-nil (IsWithinSizes (front ++ ns))
entered_from front [] c (v ∷ vs) place within = absurd within
entered_from front (n ∷ ns) c (v ∷ vs) place within =
    let here : slice_get (front ++ n ∷ ns) c ≡ Some n = ap (slice_get (front ++ n ∷ ns)) (let same : c ≡ length front + 0 = omega (arith, place) in same) ∙ get_behind front (n ∷ ns) 0 n refl in
    let e : Entry = record { cell = record { 0 = c }; value = v } in
    let rest = entered_from (front ++ n ∷ []) ns (c + 1) vs (omega (arith, place, length-append front (n ∷ []))) within.1 in
    All-cons (IsWithinSizes (front ++ n ∷ ns)) e (entries_from (c + 1) vs) (subst (λ found. IsSomeAnd found (λ m. v.0 < m)) (sym here) within.0)
    (subst (λ sizes. All (IsWithinSizes sizes) (entries_from (c + 1) vs)) (append_assoc front (n ∷ []) ns) rest)

values_entered : (u : Universe) (vs : List ValueId) → AreWithin (cell_sizes u) vs → All (IsEntryOf u) (entries_from 0 vs)
values_entered u vs within = entered_from [] (cell_sizes u) 0 vs refl within

-- ---- the lines

lines_by_place : (sheet : Sheet) (sets place : ℕ) (ls : List Line) → ((k : ℕ) (l : Line) → slice_get ls k ≡ Some l → IsLineBeside sheet sets (k + place) l) → AreLinesBeside sheet sets place ls
lines_by_place sheet sets place [] each = tt
lines_by_place sheet sets place (l ∷ ls) each = (
  subst (λ n. IsLineBeside sheet sets n l) (let same : 0 + place ≡ place = omega arith in same) (each 0 l refl),
  lines_by_place sheet sets (place + 1) ls (λ k m at. subst (λ n. IsLineBeside sheet sets n m) (let same : suc k + place ≡ k + (place + 1) = omega arith in same) (each (suc k) m at)),
)

within_map : {A B : Type 0} (f : A → B) (xs : List A) (i : ℕ) (y : B) → slice_get (map f xs) i ≡ Some y → (x : A) × (slice_get xs i ≡ Some x) × (f x ≡ y)
within_map f [] i y at = absurd (cc)
within_map f (x ∷ xs) zero y at = (x, refl, let same : f x ≡ y = cc in same)
within_map f (x ∷ xs) (suc i) y at = within_map f xs i y at

module _ (sheet : Sheet) (names : NameLists) (of : AreOfSheet sheet names) where
  line_of_sheet : (blocks : List (List Literal)) (k : ℕ) (line : LogLine) (clauses : List (List Literal)) (clause : List Literal) → IsLineNamedBeside (length blocks) names line → IsLineClauseBeside sheet blocks clauses k (line_named names line) clause
      → IsLineBeside sheet (length blocks) k (line_named names line)
  line_of_sheet blocks k (AxiomLine a) clauses clause named is = of.axioms a (axiom_rule 0) named
  line_of_sheet blocks k (BlockLine number c) clauses clause named is = named
  line_of_sheet blocks k (StepLine c hints learned) clauses clause named is = (
    All-map (λ (l : Literal). IsSymbolOf sheet l.what) (literal_named names) c (λ i d below. of.variables (slice_index_or c i d).variable.0 (node 0 []) (named i d below)),
    is.1,
  )

  pub lines_of_sheet : (blocks : List (List Literal)) (lines : List LogLine) (allowed : List Literal) → AreLinesNamedBeside (length blocks) names lines → DerivesBeside sheet blocks (map (line_named names) lines) allowed
      → AreLinesBeside sheet (length blocks) 0 (map (line_named names) lines)
  lines_of_sheet blocks lines allowed named derives =
      lines_by_place sheet (length blocks) 0 (map (line_named names) lines) (λ k l at.
      let found = within_map (line_named names) lines k l at in
      let below : k < length (map (line_named names) lines) = slice_get_within (map (line_named names) lines) k l at in
      let d = line_named names found.0 in
      let is = derives.derivation.each k d below in
      let same : slice_index_or (map (line_named names) lines) k d ≡ d = get_or_from_slice_get (map (line_named names) lines) k d d (at ∙ ap Some (sym found.2)) in
      let own = line_of_sheet blocks k found.0 derives.clauses (slice_index_or derives.clauses k []) (subst (IsLineNamedBeside (length blocks) names) (get_or_from_slice_get lines k found.0 found.0 found.1) (named k found.0 (slice_get_within lines k found.0 found.1))) (subst (λ x. IsLineClauseBeside sheet blocks derives.clauses k x (slice_index_or derives.clauses k [])) same is) in
      subst (λ n. IsLineBeside sheet (length blocks) n l) (let here : k ≡ k + 0 = omega arith in here) (subst (IsLineBeside sheet (length blocks) k) found.2 own))

pub reasons_are_writable : AcceptedReasonsAreWritable
reasons_are_writable sheet names t j formed of target named few accepted = record {
  claim = (refl, target);
  sets = All-nil (IsSetOf sheet);
  uses = λ k d below. All-contains (IsEntryOf sheet.universe) sheet.entries (slice_index_or j.support k d) formed.entries.each (accepted.shown.entered k d below);
  values = values_entered sheet.universe j.shown (subst (AreWithin (cell_sizes sheet.universe)) (values_of 0 j.shown) accepted.shown.assigns);
  lines = lines_of_sheet sheet names of [] j.lines _ named accepted.derives;
  few = omega (arith, few, length-map j.lines (line_named names));
  few_sets = omega arith;
}

pub refutations_are_writable : AcceptedRefutationsAreWritable
refutations_are_writable sheet names lines of named few accepted = record {
  claim = (refl, (refl, refl));
  sets = All-nil (IsSetOf sheet);
  uses = All-nil (IsEntryOf sheet.universe);
  values = All-nil (IsEntryOf sheet.universe);
  lines = lines_of_sheet sheet names of [] lines _ named accepted.derives;
  few = omega (arith, few, length-map lines (line_named names));
  few_sets = omega arith;
}
