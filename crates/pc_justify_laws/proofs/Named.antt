-- From a derivation over the numbers of variables and axioms to one over what they stand for.
use Rattle.std.proofs.Common.{◌≡◌, ℕ, zero, suc, ◌<◌, Bool, List, [], ◌∷◌, Some, map, length, get_or, slice_get, All, Contains, refl, ap, sym, ◌∙◌, subst, arith}
use Rattle.std.proofs.lemmas.List.{length-map, get_or-map}
use Rattle.std.proofs.lemmas.List.FromFn.{get_or-range_with_len}
use Rattle.std.proofs.lemmas.List.Elements.{All-contains, Contains-get_or}
use Rattle.std.proofs.lemmas.Option.{slice_get-get_or, get_or_from_slice_get, slice_get_within}
use Rattle.pc_lits.specs.declared.literal.Lit.{Lit}
use Rattle.pc_lits.specs.Literals.{negated}
use Rattle.pc_lits.specs.Steps.{IsGoodStep}
use Rattle.pc_lits.proofs.LitLemmas.{same_parts}
use Rattle.pc_lits.proofs.Renamed.{good_step_named}
use Rattle.pc_lemmas.proofs.Elements.{contains_first, contains_later, contains_mapped}
use Rattle.pc_log.specs.declared.log.StepId.{StepId}
use Rattle.pc_log.specs.Lines.{LogLine, AxiomLine, BlockLine, StepLine}
use Rattle.pc_log.specs.Derivations.{hinted_clauses, IsDerivation}
use Rattle.pc_log.specs.Derivations as logs
use Rattle.pc_sheet.specs.Sheet.{Sheet}
use Rattle.pc_accept.specs.Literals.{Symbol, node, Literal, opposite}
use Rattle.pc_accept.specs.Axioms.{axiom_rule, IsClauseOf}
use Rattle.pc_accept.specs.Accepts.{Line, IsLineClauseBeside}
use Rattle.pc_lits.specs.Hints.{clauses_at}
use Rattle.pc_accept.specs.Accepts as accepts
use Rattle.pc_ground.specs.Variables.{variables, number, variable_count, VariablesAreNumbered}
use Rattle.pc_ground.specs.Ground.{GroundAxiom, axioms, clause_of_axiom, clauses, lit_of}
use Rattle.pc_ground.specs.Naming.{name_of, names_of}
use Rattle.pc_ground.specs.Laws.{ClausesAreOfAxioms, SymbolsAreVariables, VariablesHaveTheirPlaces}
use Rattle.pc_reason.specs.Derivation.{symbol_named, literal_named, axiom_named, line_named, number_of, IsLineNamedBeside, AreLinesNamedBeside, IsLineNamed, AreLinesNamed}
use Rattle.pc_justify_laws.specs.Found.{AreBlocksNamed}
use Rattle.pc_justify_laws.specs.Laws.{clauses_named, NamedLinesDerive}

-- ---- variables

module _ (sheet : Sheet) (numbered : VariablesAreNumbered sheet) where
  abbrev xs : List Symbol
  xs = variables sheet

  abbrev pub name : Lit → Literal
  name = literal_named (names_of sheet)

  abbrev pub IsNamed : Lit → Type 0
  IsNamed l = l.variable.0 < length xs

  -- the variable at a place has the place as its number
  number_at : (k : ℕ) (d : Symbol) → k < length xs → number sheet (get_or xs k d) ≡ k
  number_at k d below =
      sym (get_or-map (number sheet) xs k d 0 below) ∙ ap (λ ns. get_or ns k 0) numbered.places
      ∙ get_or-range_with_len 0 (variable_count sheet) k 0 (omega (arith, numbered.count)) ∙ omega arith

  pub number_within : (x : Symbol) → Contains xs x → number sheet x < length xs
  number_within x has =
      let is : number sheet x ≡ has.0 = ap (number sheet) (sym has.2) ∙ number_at has.0 x has.1 in
      omega (arith, is, has.1)

  -- a variable's number stands for it
  pub symbol_back : (x : Symbol) → Contains xs x → symbol_named (names_of sheet) (number sheet x) ≡ x
  symbol_back x has =
      let is : number sheet x ≡ has.0 = ap (number sheet) (sym has.2) ∙ number_at has.0 x has.1 in
      ap (λ n. get_or xs n (node 0 [])) is ∙ get_or_from_slice_get xs has.0 x (node 0 []) (slice_get-get_or xs has.0 x has.1 ∙ ap Some has.2)

  pub literal_back : (l : Literal) → Contains xs l.what → name (lit_of sheet l) ≡ l
  literal_back l has =
      let with_sign : Symbol → Literal = λ w. record { what = w; sign = l.sign } in
      ap with_sign (symbol_back l.what has)

  clause_back : (c : List Literal) → ((l : Literal) → Contains c l → Contains xs l.what) → map name (map (lit_of sheet) c) ≡ c
  clause_back [] all = refl
  clause_back (l ∷ c) all =
      let rest = clause_back c (λ k has. all k (contains_later l c k has)) in
      rw (literal_back l (all l (contains_first l c)), rest) refl

  -- different variables have different names
  names_differ : (x y : Lit) → IsNamed x → IsNamed y → name x ≡ name y → x ≡ y
  names_differ x y l m same =
      let what : Literal → Symbol = λ k. k.what in
      let sign : Literal → Bool = λ k. k.sign in
      same_parts x y (sym (number_at x.variable.0 (node 0 []) l) ∙ ap (number sheet) (ap what same) ∙ number_at y.variable.0 (node 0 []) m) (ap sign same)

-- ---- lines

-- a mapped list of clauses, past which stands the empty one
get_named : (f : Lit → Literal) (cs : List (List Lit)) (k : ℕ) → get_or (map (map f) cs) k [] ≡ map f (get_or cs k [])
get_named f [] k = refl
get_named f (c ∷ cs) zero = refl
get_named f (c ∷ cs) (suc k) = get_named f cs k

hints_named : (f : Lit → Literal) (cs : List (List Lit)) (hints : List StepId)
    → map (map f) (map (λ h. get_or cs h.0 []) hints) ≡ clauses_at (map (map f) cs) (map number_of hints)
hints_named f cs [] = refl
hints_named f cs (h ∷ hints) = rw (get_named f cs h.0, hints_named f cs hints) refl

module _ (of_axioms : ClausesAreOfAxioms) (symbols : SymbolsAreVariables) (places : VariablesHaveTheirPlaces) (sheet : Sheet) where
  -- the axiom of that number
  axiom_at : ℕ → GroundAxiom
  axiom_at n = get_or (axioms sheet) n (record { name = axiom_rule 0; clause = [] })

  its_clause : (n : ℕ) → n < length (axioms sheet) → get_or (clauses sheet) n [] ≡ clause_of_axiom sheet (axiom_at n)
  unfolding axiom_at
  its_clause n below = get_or-map (clause_of_axiom sheet) (axioms sheet) n (record { name = axiom_rule 0; clause = [] }) [] below

  its_name : (n : ℕ) → n < length (axioms sheet) → axiom_named (names_of sheet) n ≡ name_of (axiom_at n)
  unfolding axiom_at
  its_name n below = get_or-map name_of (axioms sheet) n (record { name = axiom_rule 0; clause = [] }) (axiom_rule 0) below

  is_axiom : (n : ℕ) → n < length (axioms sheet) → Contains (axioms sheet) (axiom_at n)
  unfolding axiom_at
  is_axiom n below = Contains-get_or (axioms sheet) n (record { name = axiom_rule 0; clause = [] }) below

  its_symbols : (n : ℕ) → n < length (axioms sheet) → (l : Literal) → Contains (axiom_at n).clause l → Contains (variables sheet) l.what
  its_symbols n below l has = symbols sheet (axiom_at n) (is_axiom n below) l has

  few : (n : ℕ) → n < length (clauses sheet) → n < length (axioms sheet)
  few n below = omega (arith, below, length-map (axioms sheet) (clause_of_axiom sheet))

  -- an axiom's clause, by name, is the clause of the axiom that the number stands for
  axiom_right : (n : ℕ) → n < length (clauses sheet) → IsClauseOf sheet (axiom_named (names_of sheet) n) (map (literal_named (names_of sheet)) (get_or (clauses sheet) n []))
  axiom_right n below =
      let l = few n below in
      let right : IsClauseOf sheet (axiom_at n).name (axiom_at n).clause = All-contains (λ g. IsClauseOf sheet g.name g.clause) (axioms sheet) (axiom_at n) (of_axioms sheet) (is_axiom n l) in
      let clause : map (literal_named (names_of sheet)) (get_or (clauses sheet) n []) ≡ (axiom_at n).clause =
      ap (map (literal_named (names_of sheet))) (its_clause n l) ∙ clause_back sheet (places sheet) (axiom_at n).clause (its_symbols n l) in
      let by_name : IsClauseOf sheet (axiom_named (names_of sheet) n) (axiom_at n).clause = subst (λ a. IsClauseOf sheet a (axiom_at n).clause) (sym (its_name n l)) right in
      subst (IsClauseOf sheet (axiom_named (names_of sheet) n)) (sym clause) by_name

  -- a block's clause is over variables of the sheet
  abbrev IsBlockOver : LogLine → Type 0
  IsBlockOver (AxiomLine n) = Unit {0}
  IsBlockOver (BlockLine n c) = All (λ l. l.variable.0 < variable_count sheet) c
  IsBlockOver (StepLine c hints learned) = Unit {0}

  -- the literals of a named line's clause are named
  line_over : (sets : ℕ) (line : LogLine) → IsLineNamedBeside sets (names_of sheet) line → IsBlockOver line → (l : Lit) → Contains (logs.clause_of_line (clauses sheet) line) l → IsNamed sheet (places sheet) l
  line_over sets (AxiomLine n) named over l has =
      let below : n < length (axioms sheet) = omega (arith, named, length-map (axioms sheet) name_of) in
      let from = contains_mapped (lit_of sheet) (axiom_at n).clause l (subst (λ c. Contains c l) (its_clause n below) has) in
      subst (λ k. k.variable.0 < length (variables sheet)) from.2 (number_within sheet (places sheet) from.0.what (its_symbols n below from.0 from.1))
  line_over sets (BlockLine n c) named over l has =
      let small : l.variable.0 < variable_count sheet = All-contains (λ (k : Lit). k.variable.0 < variable_count sheet) c l over has in
      omega (arith, small, (places sheet).count)
  line_over sets (StepLine c hints learned) named over l has = All-contains (λ k. k.variable.0 < length (variables sheet)) c l named has

  module _ (blocks : List (List Literal)) (lines : List LogLine) (derived : IsDerivation (clauses sheet) lines) (named : AreLinesNamedBeside (length blocks) (names_of sheet) lines) (are : AreBlocksNamed sheet blocks lines) where
    block_over : (i : ℕ) (line : LogLine) → slice_get lines i ≡ Some line → IsBlockOver line
    block_over i (AxiomLine n) at = tt
    block_over i (BlockLine n c) at = are.over i n c at
    block_over i (StepLine c hints learned) at = tt

    abbrev own : List (List Lit)
    own = map (logs.clause_of_line (clauses sheet)) lines

    hinted_over : (i : ℕ) (hints : List StepId) → i < length lines → All (λ h. h.0 < i) hints
        → (c : List Lit) → Contains (hinted_clauses (clauses sheet) lines hints) c → (l : Lit) → Contains c l → IsNamed sheet (places sheet) l
    hinted_over i hints within earlier c has l there =
        let look : StepId → List Lit = λ h. get_or own h.0 [] in
        let from = contains_mapped look hints c has in
        let before : from.0.0 < i = All-contains (λ (h : StepId). h.0 < i) hints from.0 earlier from.1 in
        let h_within : from.0.0 < length lines = omega arith in
        let line : LogLine = get_or lines from.0.0 (AxiomLine 0) in
        let is : get_or own from.0.0 [] ≡ logs.clause_of_line (clauses sheet) line = get_or-map (logs.clause_of_line (clauses sheet)) lines from.0.0 (AxiomLine 0) [] h_within in
        line_over (length blocks) line (named from.0.0 (AxiomLine 0) h_within) (block_over from.0.0 line (slice_get-get_or lines from.0.0 (AxiomLine 0) h_within)) l (subst (λ d. Contains d l) (sym from.2 ∙ is) there)

    step_right : (i : ℕ) (c : List Lit) (hints : List StepId) → i < length lines → All (λ h. h.0 < i) hints → ((l : Lit) → Contains c l → IsNamed sheet (places sheet) l)
        → IsGoodStep negated c (hinted_clauses (clauses sheet) lines hints)
        → IsGoodStep opposite (map (name sheet (places sheet)) c) (clauses_at (clauses_named sheet lines) (map number_of hints))
    step_right i c hints within earlier over good =
        let both = good_step_named negated opposite (name sheet (places sheet)) (IsNamed sheet (places sheet)) (names_differ sheet (places sheet)) (λ x. refl) (λ x h. h)
        c (hinted_clauses (clauses sheet) lines hints) over (hinted_over i hints within earlier) in
        subst (IsGoodStep opposite (map (name sheet (places sheet)) c)) (hints_named (name sheet (places sheet)) own hints) (both.0 good)

    line_right : (i : ℕ) (line : LogLine) → slice_get lines i ≡ Some line → IsLineNamedBeside (length blocks) (names_of sheet) line
        → IsLineClauseBeside sheet blocks (clauses_named sheet lines) i (line_named (names_of sheet) line) (map (literal_named (names_of sheet)) (logs.clause_of_line (clauses sheet) line))
    line_right i (AxiomLine n) at is_named = axiom_right n (derived.good i (AxiomLine n) at)
    line_right i (BlockLine n c) at is_named = are.given i n c at
    line_right i (StepLine c hints learned) at is_named =
        let within = slice_get_within lines i (StepLine c hints learned) at in
        let earlier = derived.earlier i (StepLine c hints learned) at in
        (refl, all_mapped i hints earlier, step_right i c hints within earlier (line_over (length blocks) (StepLine c hints learned) is_named tt) (derived.good i (StepLine c hints learned) at))
      where
        all_mapped : (i : ℕ) (hints : List StepId) → All (λ h. h.0 < i) hints → All (λ h. h < i) (map number_of hints)
        all_mapped i hints all k d below =
            let l : k < length hints = omega (arith, below, length-map hints number_of) in
            subst (λ n. n < i) (sym (get_or-map number_of hints k (record { 0 = 0 }) d l)) (all k (record { 0 = 0 }) l)

    each_right : (i : ℕ) (d : Line) → i < length (map (line_named (names_of sheet)) lines)
        → IsLineClauseBeside sheet blocks (clauses_named sheet lines) i (get_or (map (line_named (names_of sheet)) lines) i d) (get_or (clauses_named sheet lines) i [])
    each_right i d below =
        let within : i < length lines = omega (arith, below, length-map lines (line_named (names_of sheet))) in
        let line : LogLine = get_or lines i (AxiomLine 0) in
        let at : slice_get lines i ≡ Some line = slice_get-get_or lines i (AxiomLine 0) within in
        let is_line : get_or (map (line_named (names_of sheet)) lines) i d ≡ line_named (names_of sheet) line = get_or-map (line_named (names_of sheet)) lines i (AxiomLine 0) d within in
        let is_clause : get_or (clauses_named sheet lines) i [] ≡ map (literal_named (names_of sheet)) (logs.clause_of_line (clauses sheet) line) =
        get_named (literal_named (names_of sheet)) own i ∙ ap (map (literal_named (names_of sheet))) (get_or-map (logs.clause_of_line (clauses sheet)) lines i (AxiomLine 0) [] within) in
        let right = line_right i line at (named i (AxiomLine 0) within) in
        subst (λ c. IsLineClauseBeside sheet blocks (clauses_named sheet lines) i (get_or (map (line_named (names_of sheet)) lines) i d) c) (sym is_clause)
        (subst (λ x. IsLineClauseBeside sheet blocks (clauses_named sheet lines) i x (map (literal_named (names_of sheet)) (logs.clause_of_line (clauses sheet) line))) (sym is_line) right)

    pub named_derivation : accepts.AreLineClausesBeside sheet blocks (map (line_named (names_of sheet)) lines) (clauses_named sheet lines)
    named_derivation = record {
      count = length-map own (map (literal_named (names_of sheet))) ∙ length-map lines (logs.clause_of_line (clauses sheet)) ∙ sym (length-map lines (line_named (names_of sheet)));
      each = each_right;
    }

-- where all lines have names without given sets, none is a block
pub no_blocks : (sheet : Sheet) (lines : List LogLine) → AreLinesNamed (names_of sheet) lines → AreBlocksNamed sheet [] lines
no_blocks sheet lines named = record {
  given = λ i n c at. absurd (none i n c at);
  over = λ i n c at. absurd (none i n c at);
}
  where
    none : (i n : ℕ) (c : List Lit) → slice_get lines i ≡ Some (BlockLine n c) → ⊥
    none i n c at =
        let below : n < 0 = subst (IsLineNamed (names_of sheet)) (get_or_from_slice_get lines i (BlockLine n c) (BlockLine n c) at) (named i (BlockLine n c) (slice_get_within lines i (BlockLine n c) at)) in
        omega (arith, below)

pub named_lines_derive : ClausesAreOfAxioms → SymbolsAreVariables → VariablesHaveTheirPlaces → NamedLinesDerive
named_lines_derive of_axioms symbols places sheet lines derived named = named_derivation of_axioms symbols places sheet [] lines derived named (no_blocks sheet lines named)
