-- What a search derives of a sheet's maximal sets makes an accepted certificate.
use Rattle.std.proofs.Common.{◌≡◌, ◌≢◌, ℕ, zero, suc, ◌+◌, ◌<◌, ◌^◌, true, List, [], ◌∷◌, ◌++◌, map, length, get_or, Option, Some, slice_get, IsSomeAnd, All, AllPairs, Contains, refl, ap, sym, ◌∙◌, subst, arith, append_assoc, length-append, zero-add}
use Rattle.std.specs.List.{range_with_len}
use Rattle.std.proofs.lemmas.List.{length-map, get_or-map}
use Rattle.std.proofs.lemmas.List.Elements.{All-nil, All-cons, All-contains, All-map, Contains-get_or}
use Rattle.std.proofs.lemmas.List.FromFn.{get_or-range_with_len, length-range_with_len}
use Rattle.std.proofs.lemmas.Option.{slice_get_within}
use Rattle.pc_lemmas.proofs.Elements.{contains_first, contains_later, contains_map, contains_mapped, kept_is, all_from}
use Rattle.pc_lemmas.proofs.Options.{same_some}
use Rattle.pc_laws.proofs.Contained.{sub_contained}
use Rattle.pc_lits.specs.declared.literal.Var.{Var}
use Rattle.pc_lits.specs.declared.literal.Lit.{Lit}
use Rattle.pc_log.specs.declared.log.StepId.{StepId}
use Rattle.pc_log.specs.declared.trimming.Span.{Span}
use Rattle.pc_log.specs.Lines.{LogLine, BlockLine}
use Rattle.pc_log.specs.Spans.{IsSpanOf, lines_of_span}
use Rattle.pc_log.specs.Trimmed.{IsTrimmed}
use Rattle.pc_log.proofs.SpanLemmas.{get_behind}
use Rattle.pc_sheet.specs.Sheet.{Universe, Sheet}
use Rattle.pc_sheet.specs.Entailment.{cell_sizes, AreWithin, IsAssignment, Fits, HasAll, HasTarget}
use Rattle.pc_sheet.specs.MaximalSets.{IsContained, IsMaximalSet}
use Rattle.pc_sheet.specs.WellFormed.{IsWellFormed, IsEntryOf}
use Rattle.pc_sheet.specs.declared.ids.ValueId.{ValueId}
use Rattle.pc_sheet.specs.declared.ids.Entry.{Entry}
use Rattle.pc_accept.specs.Literals.{Literal, Symbol}
use Rattle.pc_accept.specs.Sets.{GivenSet, those_outside, positive_entry, block_of, blocks_of, NeitherIsWithin}
use Rattle.pc_accept.specs.Accepts.{Claim, AreInCellOrder, AreShown, AcceptsSets, Certificate, Accepts, value_of_entry, BarsNothing, BarsTarget}
use Rattle.pc_accept.specs.Writable.{AreLinesBeside, IsClaimOf, IsSetOf, IsWritableCertificate}
use Rattle.pc_ground.specs.Ground.{clauses}
use Rattle.pc_ground.specs.Variables.{variables, variable_count, number}
use Rattle.pc_ground.specs.Naming.{names_of}
use Rattle.pc_ground.specs.Laws.{PairsAreVariables, VariablesHaveTheirPlaces}
use Rattle.pc_components.specs.Pairs.{entry_literal}
use Rattle.pc_reason.specs.Derivation.{literal_named, line_named, AreLinesNamedBeside, entries_from}
use Rattle.pc_justify_laws.specs.Found.{AreBlocksNamed, HasBlocksBelow, IsDerivedBeside}
use Rattle.pc_justify_laws.specs.Laws.{NamesAreOfTheirSheet, OwnLinesAreNamedBeside, RefuteBeside, TrimmedLinesDeriveBeside}
use Rattle.pc_justify_laws.proofs.Named.{literal_back, number_within}
use Rattle.pc_solver.specs.Solver.{IsLawfulLog}
use Rattle.pc_theory.specs.WholeSpendings.{all_variables, variable_of}
use Rattle.pc_world_list.specs.Worlds.{WorldView, AreExact, set_of}
use Rattle.pc_world_list.specs.SetCertificates.{given_of, certificate_of_sets, CertifiesSets, claim_on_sets}
use Rattle.pc_world_list.specs.declared.set_proof.SetsClaim.{SetsClaim}
use Rattle.pc_world_list.specs.declared.set_proof.SetsClaim.TheVariants.{Repairs, Lacking}
use Rattle.pc_repairs.specs.Blocks.{block_for, blocks_for}
use Rattle.pc_repairs.specs.Claims.{IsRightOn}
use Rattle.pc_repairs.specs.Searches.{IsRefutedAt, whole_problem}
use Rattle.pc_repairs.proofs.SetBlocks.{lacks}
use Rattle.pc_repairs.proofs.Lacked.{is_maximal, is_shown}

-- ---- lists

got_map : {A B : Type 0} (f : A → B) (xs : List A) (k : ℕ) (x : A) → slice_get xs k ≡ Some x → slice_get (map f xs) k ≡ Some (f x)
got_map f [] k x at = absurd (cc)
got_map f (y ∷ ys) zero x at = ap (λ z. Some (f z)) (same_some at)
got_map f (y ∷ ys) (suc k) x at = got_map f ys k x at

got_mapped : {A B : Type 0} (f : A → B) (xs : List A) (k : ℕ) (y : B) → slice_get (map f xs) k ≡ Some y → (x : A) × (slice_get xs k ≡ Some x) × (f x ≡ y)
got_mapped f [] k y at = absurd (cc)
got_mapped f (x ∷ xs) zero y at = (x, refl, same_some at)
got_mapped f (x ∷ xs) (suc k) y at = got_mapped f xs k y at

number_is : (n k : ℕ) → Contains (range_with_len 0 n) k → k < n
number_is n k (i, low, is) =
    let below : i < n = omega (arith, low, length-range_with_len 0 n) in
    let at : k ≡ i = sym is ∙ get_or-range_with_len 0 n i k below ∙ zero-add i in
    omega (arith, at, below)

pub own_in : (sheet : Sheet) → All (λ v. v.0 < variable_count sheet) (all_variables sheet)
own_in sheet = all_from (λ (v : Var). v.0 < variable_count sheet) (all_variables sheet)
    (λ v c.
    let n = contains_mapped variable_of (range_with_len 0 (variable_count sheet)) v c in
    subst (λ (w : Var). w.0 < variable_count sheet) n.2 (number_is (variable_count sheet) n.0 n.1))

-- ---- an assignment, cell by cell

values_back : (c : ℕ) (vs : List ValueId) → map value_of_entry (entries_from c vs) ≡ vs
values_back c [] = refl
values_back c (v ∷ vs) = ap (λ ws. v ∷ ws) (values_back (c + 1) vs)

cell_at : (c : ℕ) (vs : List ValueId) (k : ℕ) (d : Entry) → k < length (entries_from c vs) → (get_or (entries_from c vs) k d).cell.0 ≡ c + k
cell_at c [] k d below = absurd (omega arith)
cell_at c (v ∷ vs) zero d below = omega arith
cell_at c (v ∷ vs) (suc k) d below = omega (arith, cell_at (c + 1) vs k d (omega arith))

in_cell_order : (vs : List ValueId) → AreInCellOrder (entries_from 0 vs)
in_cell_order vs = record { cells = λ k d below. omega (arith, cell_at 0 vs k d below) }

abbrev IsWithinSizes : List ℕ → Entry → Type 0
IsWithinSizes sizes e = IsSomeAnd (slice_get sizes e.cell.0) (λ n. e.value.0 < n)

pub entered_from : (front ns : List ℕ) (c : ℕ) (vs : List ValueId) → c ≡ length front → AreWithin ns vs → All (IsWithinSizes (front ++ ns)) (entries_from c vs)
entered_from front ns c [] place within = All-nil (IsWithinSizes (front ++ ns))
entered_from front [] c (v ∷ vs) place within = absurd within
entered_from front (n ∷ ns) c (v ∷ vs) place within =
    let here : slice_get (front ++ n ∷ ns) c ≡ Some n = ap (slice_get (front ++ n ∷ ns)) (let same : c ≡ length front + 0 = omega (arith, place) in same) ∙ get_behind front (n ∷ ns) 0 n refl in
    let e : Entry = record { cell = record { 0 = c }; value = v } in
    let rest = entered_from (front ++ n ∷ []) ns (c + 1) vs (omega (arith, place, length-append front (n ∷ []))) within.1 in
    All-cons (IsWithinSizes (front ++ n ∷ ns)) e (entries_from (c + 1) vs) (subst (λ found. IsSomeAnd found (λ m. v.0 < m)) (sym here) within.0)
    (subst (λ sizes. All (IsWithinSizes sizes) (entries_from (c + 1) vs)) (append_assoc front (n ∷ []) ns) rest)

-- ---- the blocks by name

module _ (places : VariablesHaveTheirPlaces) (pairs : PairsAreVariables) (sheet : Sheet) (formed : IsWellFormed sheet) where
  abbrev name : Lit → Literal
  name = literal_named (names_of sheet)

  abbrev literal : Entry → Lit
  literal = entry_literal (cell_sizes sheet.universe)

  abbrev IsEntered : Entry → Type 0
  IsEntered e = Contains sheet.entries e

  pair_there : (e : Entry) → IsEntered e → Contains (variables sheet) (positive_entry e).what
  pair_there e there = pairs sheet e.cell e.value (All-contains (IsEntryOf sheet.universe) sheet.entries e formed.entries.each there)

  named_each : (es : List Entry) → ((e : Entry) → Contains es e → IsEntered e) → map name (map literal es) ≡ map positive_entry es
  named_each [] each = refl
  named_each (e ∷ es) each =
      let back : name (literal e) ≡ positive_entry e = literal_back sheet (places sheet) (positive_entry e) (pair_there e (each e (contains_first e es))) in
      let rest = named_each es (λ f c. each f (contains_later e es f c)) in
      ap (λ l. l ∷ map name (map literal es)) back ∙ ap (λ ls. positive_entry e ∷ ls) rest

  outside_entered : (set : List Entry) (e : Entry) → Contains (those_outside sheet.entries set) e → IsEntered e
  outside_entered set e c = (kept_is (lacks set) sheet.entries e c).0

  block_named : (set : List Entry) → map name (block_for sheet set) ≡ block_of sheet.entries set
  block_named set = named_each (those_outside sheet.entries set) (outside_entered set)

  block_below : (set : List Entry) → All (λ l. l.variable.0 < variable_count sheet) (block_for sheet set)
  block_below set = all_from (λ (l : Lit). l.variable.0 < variable_count sheet) (block_for sheet set)
      (λ l c.
      let e = contains_mapped literal (those_outside sheet.entries set) l c in
      let low : number sheet (positive_entry e.0).what < variable_count sheet = omega (arith, number_within sheet (places sheet) (positive_entry e.0).what (pair_there e.0 (outside_entered set e.0 e.1)), (places sheet).count) in
      subst (λ (m : Lit). m.variable.0 < variable_count sheet) e.2 low)

  module _ (worlds : List WorldView) (log : List LogLine) (lawful : IsLawfulLog (whole_problem sheet) (blocks_for sheet worlds) log) where
    abbrev sets : List GivenSet
    sets = map given_of worlds

    many_blocks : length (blocks_of sheet sets) ≡ length worlds
    many_blocks = length-map sets (λ (s : GivenSet). block_of sheet.entries s.uses) ∙ length-map worlds given_of

    blocks_named : AreBlocksNamed sheet (blocks_of sheet sets) log
    blocks_named = record {
      given = λ i number clause at.
          let w = got_mapped (λ (x : WorldView). block_for sheet x.entries) worlds number clause (lawful.blocks_are i number clause at) in
          got_map (λ (s : GivenSet). block_of sheet.entries s.uses) sets number (given_of w.0) (got_map given_of worlds number w.0 w.1)
          ∙ ap Some (sym (block_named w.0.entries) ∙ ap (map name) w.2);
      over = λ i number clause at.
          let w = got_mapped (λ (x : WorldView). block_for sheet x.entries) worlds number clause (lawful.blocks_are i number clause at) in
          subst (All (λ l. l.variable.0 < variable_count sheet)) w.2 (block_below w.0.entries);
    }

    refutes : OwnLinesAreNamedBeside → TrimmedLinesDeriveBeside → NamesAreOfTheirSheet → (last : StepId) (lines : List LogLine) → length log < 10 ^ 18 → IsRefutedAt sheet log last → IsTrimmed log last.0 [] lines
        → RefuteBeside sheet (blocks_of sheet sets) lines
    refutes own trims of_sheet last lines few at trimmed =
        let blocks = blocks_of sheet sets in
        let below : HasBlocksBelow (length blocks) log = λ i number clause there.
        omega (arith, slice_get_within (blocks_for sheet worlds) number clause (lawful.blocks_are i number clause there), length-map worlds (λ (x : WorldView). block_for sheet x.entries), many_blocks) in
        let derived : IsDerivedBeside sheet (length blocks) log last.0 = record {
          derivation = lawful.derivation;
          stands = at.stands;
          named = own sheet (length blocks) (all_variables sheet) log last.0 lawful.derivation below (own_in sheet) lawful.over_own;
        } in
        trims sheet blocks log lines last.0 (of_sheet sheet formed) few derived blocks_named at.empty trimmed

-- ---- the certificate

module _ (sheet : Sheet) (formed : IsWellFormed sheet) (worlds : List WorldView) (exact : AreExact sheet worlds) where
  abbrev given : List GivenSet
  given = map given_of worlds

  entered : (w : WorldView) → Contains worlds w → (e : Entry) → Contains w.entries e → Contains sheet.entries e
  entered w c e there = sub_contained sheet.entries w.entries (is_maximal sheet worlds exact w c).among e there

  shown_there : (w : WorldView) → Contains worlds w → AreShown sheet (Fits sheet) (given_of w).uses (given_of w).values
  shown_there w c =
      let s = is_shown sheet worlds exact w c in
      let back = values_back 0 w.shown in
      record {
        entered = all_from (Contains sheet.entries) w.entries (entered w c);
        in_order = in_cell_order w.shown;
        assigns = subst (IsAssignment sheet.universe) (sym back) s.assigns;
        has = subst (λ a. HasAll a w.entries) (sym back) s.has;
        fits = subst (Fits sheet) (sym back) s.fits;
      }

  all_given : (P : GivenSet → Type 0) → ((w : WorldView) → Contains worlds w → P (given_of w)) → All P given
  all_given P each = All-map P given_of worlds (all_from (λ w. P (given_of w)) worlds each)

  -- different maximal sets don't lie within one another
  apart_there : (u w : WorldView) → Contains worlds u → Contains worlds w → u.entries ≢ w.entries → NeitherIsWithin (given_of u) (given_of w)
  apart_there u w at_u at_w differ =
      let m = is_maximal sheet worlds exact u at_u in
      let n = is_maximal sheet worlds exact w at_w in
      (λ within. differ (sym (m.maximal w.entries n.among n.consistent within)), λ within. differ (n.maximal u.entries m.among m.consistent within))

  apart : AllPairs NeitherIsWithin given
  apart i j d below within =
      let blank : WorldView = record { entries = []; shown = [] } in
      let many : length given ≡ length worlds = length-map worlds given_of in
      let low_j : j < length worlds = omega (arith, within, many) in
      let low_i : i < length worlds = omega (arith, below, low_j) in
      let u : WorldView = get_or worlds i blank in
      let w : WorldView = get_or worlds j blank in
      let differ : u.entries ≢ w.entries = λ same. exact.sets.different i j [] below (omega (arith, low_j, length-map worlds set_of))
      (get_or-map set_of worlds i blank [] low_i ∙ same ∙ sym (get_or-map set_of worlds j blank [] low_j)) in
      subst (λ s. NeitherIsWithin s (get_or given j d)) (sym (get_or-map given_of worlds i blank d low_i))
      (subst (NeitherIsWithin (given_of u)) (sym (get_or-map given_of worlds j blank d low_j))
      (apart_there u w (Contains-get_or worlds i blank low_i) (Contains-get_or worlds j blank low_j) differ))

  module _ (lines : List LogLine) (empty : RefuteBeside sheet (blocks_of sheet given) lines) where
    abbrev certificate : Claim → Certificate
    certificate claim = certificate_of_sets (names_of sheet) claim worlds lines

    accepts : (IsBarred : List ValueId → Type 0) (claim : Claim) → ((w : WorldView) → Contains worlds w → ¬ IsBarred w.shown) → AcceptsSets sheet IsBarred (certificate claim)
    accepts IsBarred claim free = record {
      no_uses = refl;
      no_values = refl;
      shown = all_given (λ s. AreShown sheet (Fits sheet) s.uses s.values) shown_there;
      free = all_given (λ s. ¬ IsBarred (map value_of_entry s.values)) (λ w c barred. free w c (subst IsBarred (values_back 0 w.shown) barred));
      apart = apart;
      derives = empty.derives;
    }

    accepted : (claim : SetsClaim) → IsRightOn sheet worlds claim → Accepts sheet (certificate (claim_on_sets claim))
    accepted Repairs right = accepts BarsNothing (claim_on_sets Repairs) (λ w c barred. barred)
    accepted (Lacking t) right = accepts (BarsTarget t) (claim_on_sets (Lacking t)) (λ w c. All-contains (λ (x : WorldView). ¬ HasTarget x.shown t) worlds w right.1 c)

    claim_is : (claim : SetsClaim) → IsRightOn sheet worlds claim → IsClaimOf sheet (certificate (claim_on_sets claim)) (claim_on_sets claim)
    claim_is Repairs right = (refl, refl)
    claim_is (Lacking t) right = ((refl, refl), right.0)

    written : (claim : SetsClaim) → IsRightOn sheet worlds claim → length worlds < 10 ^ 18 → IsWritableCertificate sheet (certificate (claim_on_sets claim))
    written claim right few =
        let many : length given ≡ length worlds = length-map worlds given_of in
        let blocks : length (blocks_of sheet given) ≡ length given = length-map given (λ (s : GivenSet). block_of sheet.entries s.uses) in
        record {
          claim = claim_is claim right;
          sets = all_given (IsSetOf sheet)
              (λ w c. record {
                uses = all_from (IsEntryOf sheet.universe) w.entries (λ e there. All-contains (IsEntryOf sheet.universe) sheet.entries e formed.entries.each (entered w c e there));
                values = entered_from [] (cell_sizes sheet.universe) 0 w.shown refl (is_shown sheet worlds exact w c).assigns;
              });
          uses = All-nil (IsEntryOf sheet.universe);
          values = All-nil (IsEntryOf sheet.universe);
          lines = subst (λ (n : ℕ). AreLinesBeside sheet n 0 (map (line_named (names_of sheet)) lines)) blocks empty.written;
          few = empty.few;
          few_sets = omega (arith, many, few);
        }

    named : AreLinesNamedBeside (length worlds) (names_of sheet) lines
    named =
        let blocks : length (blocks_of sheet given) ≡ length worlds = length-map given (λ (s : GivenSet). block_of sheet.entries s.uses) ∙ length-map worlds given_of in
        subst (λ (n : ℕ). AreLinesNamedBeside n (names_of sheet) lines) blocks empty.named

-- the lines of a span, which are what the line of the empty clause rests on
pub certified : VariablesHaveTheirPlaces → PairsAreVariables → OwnLinesAreNamedBeside → TrimmedLinesDeriveBeside → NamesAreOfTheirSheet → (sheet : Sheet) → IsWellFormed sheet → (worlds : List WorldView) → AreExact sheet worlds
    → (claim : SetsClaim) → IsRightOn sheet worlds claim → (log : List LogLine) → IsLawfulLog (whole_problem sheet) (blocks_for sheet worlds) log → (last : StepId) → IsRefutedAt sheet log last
    → length log < 10 ^ 18 → length worlds < 10 ^ 18 → (kept : List LogLine) (span : Span) → IsSpanOf kept span → IsTrimmed log last.0 [] (lines_of_span kept span) → CertifiesSets sheet (names_of sheet) (claim_on_sets claim) worlds kept span
certified places pairs own trims of_sheet sheet formed worlds exact claim right log lawful last at few few_sets kept span lies trimmed =
    let lines = lines_of_span kept span in
    let refuted = refutes places pairs sheet formed worlds log lawful own trims of_sheet last lines few at trimmed in
    record {
      lies = lies;
      named = named sheet formed worlds exact lines refuted;
      accepted = accepted sheet formed worlds exact lines refuted claim right;
      written = written sheet formed worlds exact lines refuted claim right few_sets;
    }
