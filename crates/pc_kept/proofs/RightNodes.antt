-- Where truth values make the axioms true that are kept by polarity, what these name or force is as it is under the values that the cells have then.
use Rattle.std.proofs.Common.{◌≡◌, ◌≢◌, ℕ, ◌<◌, ◌≤◌, ◌↔◌, ◌⊎◌, inl, inr, if◌then◌else◌, Bool, true, false, not, cond, nat_lt, List, [], ◌∷◌, map, sum, Contains, Option, Some, slice_get, arith, ap, refl, sym, ◌∙◌, subst}
use Rattle.std.proofs.lemmas.Bool.{cases_lt, false≢true}
use Rattle.std.proofs.lemmas.List.Elements.{All-contains, Contains-append_cases}
use Rattle.pc_lits.specs.declared.literal.Lit.{Lit}
use Rattle.pc_lits.specs.declared.literal.Var.{Var}
use Rattle.pc_lits.specs.Literals.{negated}
use Rattle.pc_lits.specs.Truth.{lit_true, IsTrueUnder}
use Rattle.pc_sheet.specs.Sheet.{Sheet}
use Rattle.pc_sheet.specs.Entailment.{cell_sizes, IsAssignment}
use Rattle.pc_sheet.specs.WellFormed.{IsWellFormed, IsEntryOf}
use Rattle.pc_sheet.specs.declared.ids.ValueId.{ValueId}
use Rattle.pc_sheet.specs.declared.ids.Entry.{Entry}
use Rattle.pc_sheet.proofs.Counters.{test_true, test_false}
use Rattle.pc_accept.specs.Literals.{Symbol, pair, node, Literal, positive, opposite}
use Rattle.pc_accept.specs.Axioms.{Axiom, axiom_some, axiom_one, axiom_rule, axiom_node, axiom_atom, negated_entry, pair_of, IsClauseOf}
use Rattle.pc_lemmas.proofs.Elements.{contains_cases, contains_none, contains_mapped}
use Rattle.pc_lemmas.proofs.Options.{some_and, same_some}
use Rattle.pc_parts.specs.Pieces.{pieces}
use Rattle.pc_parts.specs.Parts.{Part, IsDivision}
use Rattle.pc_ground.specs.Variables.{variables, number}
use Rattle.pc_ground.specs.Ground.{GroundAxiom, axioms, lit_of, clause_of_axiom, clauses}
use Rattle.pc_ground.specs.Laws.{var_of}
use Rattle.pc_ground.proofs.OfAxioms.{all_right}
use Rattle.pc_ground.proofs.Symbols.{symbols_are_variables}
use Rattle.pc_components.specs.PartAxioms.{IsAtOrUnder, OfSomePiece, IsAxiomOfPart, AreAxiomsOf, IsUsed}
use Rattle.pc_components.specs.Used.{MeetsUsed}
use Rattle.pc_components.proofs.OwnAlone.{InPiece, all_in}
use Rattle.pc_components.proofs.PartFor.{slice_map, slice_contains}
use Rattle.pc_components.proofs.Symbols.{rule_symbols}
use Rattle.pc_components.proofs.Under.{under_symbols}
use Rattle.pc_solver.specs.Forced.{IsForced}
use Rattle.pc_kept.specs.Kept.{IsAmong, IsNode, IsOfNode, IsLeftOut}
use Rattle.pc_kept.specs.ByPolarity.{meant_by, IsNamedBy, IsBannedOut, AreKeptByPolarity}
use Rattle.pc_kept.specs.Polar.{IsNamed, IsMentioned, IsKeptClause, IsSpared, AreValues}
use Rattle.pc_kept.proofs.BySymbol.{has_sign, of_sign, value, of_makes, axiom_at}
use Rattle.pc_kept.proofs.CellValues.{reads_in, number_there, a, assigned, has_value}
use Rattle.pc_kept.proofs.CountersSettled.{of_node, meant}
use Rattle.pc_kept.proofs.Decided.{as_decided, decided_is, decided, decided_at, meaning_true}
use Rattle.pc_kept.proofs.Failing.{alone}
use Rattle.pc_kept.proofs.ForcedTrue.{always_true, forced_by}
use Rattle.pc_kept.proofs.FromStored.{node_number, pair_early, late_node}
use Rattle.pc_kept.proofs.NodesThere.{IsThere, variables_are_there}
use Rattle.pc_kept.proofs.Polar.{named_is_right}
use Rattle.pc_kept.proofs.Ranks.{rank_of, ranked}
use Rattle.pc_kept.proofs.ByNumber.{clause_at, clause_is, literal_at, at_literal, same_symbol, same_literal, opposite_of, rank, rank_is, IsOwn, is_own, own_late, one_own, own_in, own_clause, own_tells, own_there, one_literal}

-- ---- signs

has_not : (s b : Bool) → b ≡ not s → (if s then b else not b) ≡ false
has_not true b e = e
has_not false b e = ap not e

not_sign : (s b : Bool) → (if s then b else not b) ≡ false → b ≡ not s
not_sign true b e = e
not_sign false true e = refl
not_sign false false e = absurd (false≢true (sym e))

other_sign : (s t b : Bool) → b ≡ not s → b ≡ t → t ≡ not s
other_sign s t b e f = sym f ∙ e

same_truth : (b c : Bool) {P : Type 0} → (b ≡ true) ↔ P → (c ≡ true) ↔ P → b ≡ c
same_truth true c h g = sym (g.1 (h.0 refl))
same_truth false true h g = h.1 (g.0 refl)
same_truth false false h g = refl

module _ (sheet : Sheet) (formed : IsWellFormed sheet) (all : List Part) (division : IsDivision sheet all) (part : Part) (there : Contains all part) (used kept : List ℕ) (banned : List (Option Bool))
    (of : AreAxiomsOf sheet part used) (are : AreKeptByPolarity sheet banned used kept) (v : Var → Bool) (met : MeetsUsed (clauses sheet) kept v) where
  -- ---- kept axioms

  abbrev pairs : ℕ
  pairs = sum (cell_sizes sheet.universe)

  abbrev pub IsLate : ℕ → Type 0
  IsLate x = pairs ≤ x

  pub stays : (k : ℕ) (g : GroundAxiom) → Contains used k → slice_get (axioms sheet) k ≡ Some g → (¬ IsOfNode g.name) → Contains kept k
  stays k g h at other = elim (are.each k g h at) [
    | inl is ↦ is
    | inr (inl out) ↦ absurd (other out.0)
    | inr (inr out) ↦ absurd (other (of_node g.name out.0.what out.1.1))
  ]

  pub kept_axiom : (k : ℕ) → Contains kept k → (g : GroundAxiom) × (slice_get (axioms sheet) k ≡ Some g) × IsAxiomOfPart part g.name
  kept_axiom k h = (of.exact k).0 (are.among k h)

  abbrev pub Named : Lit → Type 0
  Named l = IsNamed (clause_at sheet) (IsOwn sheet) IsLate (Contains kept) l

  abbrev pub KeptClause : List Lit → Type 0
  KeptClause c = IsKeptClause (clause_at sheet) (IsOwn sheet) IsLate (Contains kept) c

  abbrev pub Mentioned : ℕ → Type 0
  Mentioned x = IsMentioned (clause_at sheet) (IsOwn sheet) IsLate (Contains kept) x

  pub kept_clause : (c : List Lit) → IsAmong (clauses sheet) kept c → KeptClause c
  kept_clause c (k, h, at) = let found = axiom_at sheet k c at in (k, h, clause_is sheet k found.0 found.1 ∙ found.2)

  pub mentioned_used : (x : ℕ) → Mentioned x → IsUsed (clauses sheet) kept x
  mentioned_used x (k, h, l, has, is) =
      let g = kept_axiom k h in
      (k, h, clause_of_axiom sheet g.0, slice_map (clause_of_axiom sheet) (axioms sheet) k g.0 g.1, l, subst (λ c. Contains c l) (clause_is sheet k g.0 g.1) has, is)

  pub named_by : (l : Literal) → Contains (variables sheet) l.what → Named (lit_of sheet l) → IsNamedBy sheet kept l
  named_by l l_there (k, h, has, other) =
      let g = kept_axiom k h in
      let m = literal_at sheet k g.0 g.1 (lit_of sheet l) has in
      let same = same_literal sheet m.0 l (symbols_are_variables sheet g.0 (slice_contains (axioms sheet) k g.0 g.1) m.0 m.1) l_there m.2 in
      (k, g.0, h, g.1, subst (Contains g.0.clause) same m.1, λ means. other (g.0, g.1, l.what, means, refl))

  -- ---- the right values

  abbrev pub own : List ValueId
  own = a sheet formed all division part there used kept of stays v met

  pub own_assigned : IsAssignment sheet.universe own
  own_assigned = assigned sheet formed all division part there used kept of stays v met

  abbrev pub truth : Symbol → Bool
  truth = as_decided sheet own own_assigned

  abbrev numbered : Var → Bool
  numbered = decided sheet own own_assigned

  right : Var → Bool
  right x = cond (nat_lt x.0 pairs) (v x) (numbered x)

  right_early : (x : Var) → x.0 < pairs → right x ≡ v x
  unfolding right
  right_early x low = ap (λ b. cond b (v x) (numbered x)) (test_true x.0 pairs low)

  right_late : (x : Var) → IsLate x.0 → right x ≡ numbered x
  unfolding right
  right_late x high = ap (λ b. cond b (v x) (numbered x)) (test_false x.0 pairs high)

  abbrev Agrees : Symbol → Type 0
  Agrees x = right (var_of sheet x) ≡ truth x

  right_node : (x : Symbol) → Contains (variables sheet) x → IsNode x → Agrees x
  right_node x h a_node = right_late (var_of sheet x) (node_number sheet x a_node) ∙ decided_at sheet own own_assigned x h

  right_pair : (e : Entry) → Contains part.cells e.cell.0 → IsEntryOf sheet.universe e → Agrees (pair_of e)
  right_pair e h is =
      let n = some_and (slice_get (cell_sizes sheet.universe) e.cell.0) (λ n. e.value.0 < n) is in
      let early = pair_early (cell_sizes sheet.universe) e.cell.0 n.0 e.value.0 n.1 n.2 in
      right_early (var_of sheet (pair_of e)) early
      ∙ same_truth (value sheet v (pair_of e)) (truth (pair_of e)) (has_value sheet formed all division part there used kept of stays v met e.cell.0 h n.0 e.value.0 n.1 n.2) (decided_is sheet own own_assigned (pair_of e))

  agrees : (x : Axiom) (clause : List Literal) → IsClauseOf sheet x clause → IsAxiomOfPart part x → InPiece sheet.universe (pieces sheet) x → IsOfNode x
      → ((l : Literal) → Contains clause l → Contains (variables sheet) l.what) → (l : Literal) → Contains clause l → Agrees l.what
  agrees (axiom_some c) clause is o i h vars l has = absurd h
  agrees (axiom_one c x w) clause is o i h vars l has = absurd h
  agrees (axiom_rule r) clause is o i h vars l has = absurd h
  agrees (axiom_node r path i) clause is o inside h vars l has = right_node l.what (vars l has) (rule_symbols IsNode sheet r path (λ steps. tt) i clause is l has)
  agrees (axiom_atom r path reads) clause is o inside h vars l has =
      let end : Literal = record { what = node r path; sign = is.truth } in
      elim (Contains-append_cases (map negated_entry reads) (end ∷ []) l (subst (λ d. Contains d l) is.is has)) [
        | inl read ↦
            let e = contains_mapped negated_entry reads l read in
            subst (λ (m : Literal). Agrees m.what) e.2 (right_pair e.0 (reads_in sheet formed all division part there r path reads o inside e.0 e.1) (All-contains (IsEntryOf sheet.universe) reads e.0 is.each e.1))
        | inr last ↦ elim (contains_cases end [] l last) [
          | inl is_end ↦ right_node l.what (vars l has) (subst (λ (m : Literal). IsNode m.what) is_end tt)
          | inr nothing ↦ absurd (contains_none l nothing)
        ]
      ]

  axiom_agrees : (g : GroundAxiom) → Contains (axioms sheet) g → IsAxiomOfPart part g.name → IsOfNode g.name → (l : Literal) → Contains g.clause l → Agrees l.what
  axiom_agrees g g_in o h =
      let is = All-contains (λ q. IsClauseOf sheet q.name q.clause) (axioms sheet) g (all_right sheet) g_in in
      let inside = All-contains (λ q. InPiece sheet.universe (pieces sheet) q.name) (axioms sheet) g (all_in sheet) g_in in
      agrees g.name g.clause is o inside h (λ l has. symbols_are_variables sheet g g_in l has)

  -- ---- nodes at or under the part's pieces

  abbrev pub UnderPart : Symbol → Type 0
  UnderPart (pair c x) = ⊥
  UnderPart (node r path) = OfSomePiece part (IsAtOrUnder r path)

  abbrev pub IsIn : ℕ → Type 0
  IsIn x = (s : Symbol) × UnderPart s × Contains (variables sheet) s × (number sheet s ≡ x)

  part_of : (x : Axiom) (s : Symbol) → meant_by x ≡ Some s → UnderPart s → IsAxiomOfPart part x
  part_of (axiom_some c) s h u = absurd (cc)
  part_of (axiom_one c x w) s h u = absurd (cc)
  part_of (axiom_rule r) s h u = absurd (cc)
  part_of (axiom_node r path i) s h u = inl (subst UnderPart (sym (same_some h)) u)
  part_of (axiom_atom r path reads) s h u = subst UnderPart (sym (same_some h)) u

  under_part : (x : Axiom) (clause : List Literal) → IsClauseOf sheet x clause → (s : Symbol) → meant_by x ≡ Some s → UnderPart s → (l : Literal) → Contains clause l → IsNode l.what → UnderPart l.what
  under_part (axiom_some c) clause is s h u l has a_node = absurd (cc)
  under_part (axiom_one c x w) clause is s h u l has a_node = absurd (cc)
  under_part (axiom_rule r) clause is s h u l has a_node = absurd (cc)
  under_part (axiom_node r path i) clause is s h u l has a_node = by (subst UnderPart (sym (same_some h)) u)
    where
      by : OfSomePiece part (IsAtOrUnder r path) → UnderPart l.what
      by (p, p_in, (same, rest, at)) =
          let w = under_symbols sheet p (division.pieces part there p p_in) r same path rest at i clause is l has in
          subst UnderPart (sym w.1) (p, p_in, (same, w.0, refl))
  under_part (axiom_atom r path reads) clause is s h u l has a_node =
      let end : Literal = record { what = node r path; sign = is.truth } in
      elim (Contains-append_cases (map negated_entry reads) (end ∷ []) l (subst (λ d. Contains d l) is.is has)) [
        | inl read ↦ let e = contains_mapped negated_entry reads l read in absurd (subst (λ (m : Literal). IsNode m.what) (sym e.2) a_node)
        | inr last ↦ elim (contains_cases end [] l last) [
          | inl is_end ↦ subst (λ (m : Literal). UnderPart m.what) is_end (subst UnderPart (sym (same_some h)) u)
          | inr nothing ↦ absurd (contains_none l nothing)
        ]
      ]

  own_under : (k x : ℕ) (o : IsOwn sheet k x) → IsIn x → UnderPart o.2
  own_under k x o (s, u, s_there, is) = subst UnderPart (same_symbol sheet s o.2 s_there (own_there sheet k x o) (is ∙ sym o.4)) u

  lower : (k x : ℕ) → IsOwn sheet k x → IsIn x → (l : Lit) → Contains (clause_at sheet k) l → IsLate l.variable.0 → l.variable.0 ≢ x → IsIn l.variable.0 × (rank sheet l.variable.0 < rank sheet x)
  lower k x o inside l has late other =
      let m = literal_at sheet k o.0 o.1 l has in
      let numbers : number sheet m.0.what ≡ l.variable.0 = ap (λ (q : Lit). q.variable.0) m.2 in
      let tells = own_tells sheet k x o in
      let m_there = symbols_are_variables sheet o.0 (own_in sheet k x o) m.0 m.1 in
      let clause = own_clause sheet k x o in
      let a_node = late_node sheet o.0.name (of_node o.0.name o.2 o.3) o.0.clause clause m.0 m.1 (subst IsLate (sym numbers) late) in
      elim (tells.3 m.0 m.1) [
        | inl same ↦ absurd (other (sym numbers ∙ ap (λ (q : Literal). number sheet q.what) same ∙ ap (number sheet) tells.2 ∙ o.4))
        | inr before ↦
            let low = ranked sheet o.2 m.0.what m_there a_node before in
            let here : rank sheet l.variable.0 ≡ rank_of sheet m.0.what = ap (rank sheet) (sym numbers) ∙ rank_is sheet m.0.what m_there in
            let there' : rank sheet x ≡ rank_of sheet o.2 = ap (rank sheet) (sym o.4) ∙ rank_is sheet o.2 (own_there sheet k x o) in
            ((m.0.what, under_part o.0.name o.0.clause clause o.2 o.3 (own_under k x o inside) m.0 m.1 a_node, m_there, numbers), omega (arith, low, here, there'))
      ]

  means_right : (k x : ℕ) → IsOwn sheet k x → IsIn x → IsTrueUnder right (clause_at sheet k)
  means_right k x o inside =
      let g_in = own_in sheet k x o in
      let node' = of_node o.0.name o.2 o.3 in
      let m = meant sheet own own_assigned truth (decided_is sheet own own_assigned) o.0 g_in node' in
      let agree = axiom_agrees o.0 g_in (part_of o.0.name o.2 o.3 (own_under k x o inside)) node' m.0 m.1 in
      subst (IsTrueUnder right) (sym (clause_is sheet k o.0 o.1)) (of_makes sheet right o.0.clause (m.0, m.1, agree ∙ m.2))

  met_at : (k : ℕ) → Contains kept k → IsTrueUnder v (clause_at sheet k)
  met_at k h =
      let g = kept_axiom k h in
      subst (IsTrueUnder v) (sym (clause_is sheet k g.0 g.1)) (met k h (clause_of_axiom sheet g.0) (slice_map (clause_of_axiom sheet) (axioms sheet) k g.0 g.1))

  -- ---- what is left out

  constant_right : (l : Literal) → IsNode l.what → (meanings : List ℕ) → ((clause : List Lit) → IsAmong (clauses sheet) meanings clause → IsTrueUnder numbered clause)
      → IsForced (IsAmong (clauses sheet) meanings) (lit_of sheet l) → numbered (var_of sheet l.what) ≡ l.sign
  constant_right l a_node meanings mean forced = has_sign l.sign (numbered (var_of sheet l.what)) (always_true (IsAmong (clauses sheet) meanings) numbered mean (lit_of sheet l) forced)

  spared : (k : ℕ) (g : GroundAxiom) → slice_get (axioms sheet) k ≡ Some g → IsLeftOut sheet kept g ⊎ IsBannedOut sheet kept banned g → IsSpared (clause_at sheet) (IsOwn sheet) IsLate (Contains kept) right k
  spared k g at (inl (node', inl (l, has, forced))) = inl (lit_of sheet l, at_literal sheet k g at l has, forced_by (IsAmong (clauses sheet) kept) KeptClause kept_clause (lit_of sheet l) forced)
  spared k g at (inl (node', inr (inl none))) = inr (inl (λ l has late mentioned.
      let m = literal_at sheet k g at l has in
      let numbers : number sheet m.0.what ≡ l.variable.0 = ap (λ (q : Lit). q.variable.0) m.2 in
      let is = All-contains (λ q. IsClauseOf sheet q.name q.clause) (axioms sheet) g (all_right sheet) (slice_contains (axioms sheet) k g at) in
      let a_node = late_node sheet g.name node' g.clause is m.0 m.1 (subst IsLate (sym numbers) late) in
      none m.0 m.1 a_node (subst (IsUsed (clauses sheet) kept) (sym numbers) (mentioned_used l.variable.0 mentioned))))
  spared k g at (inl (node', inr (inr (l, has, a_node, none, (meanings, mean, forced))))) =
      let is = constant_right l a_node meanings (meaning_true sheet own own_assigned meanings mean) forced in
      inr (inr (inl (
        lit_of sheet l,
        at_literal sheet k g at l has,
        λ mentioned. none (mentioned_used (number sheet l.what) mentioned),
        of_sign l.sign (right (var_of sheet l.what)) (right_late (var_of sheet l.what) (node_number sheet l.what a_node) ∙ is),
      )))
  spared k g at (inr (l, (has, means), bans, unnamed)) =
      let l_there = symbols_are_variables sheet g (slice_contains (axioms sheet) k g at) l has in
      inr (inr (inr (lit_of sheet l, at_literal sheet k g at l has, (g, at, l.what, means, refl), λ named. unnamed (named_by (opposite l) l_there named))))

  -- ---- all nodes are settled

  abbrev Settled : Lit → Type 0
  Settled l = (k : ℕ) × IsOwn sheet k l.variable.0 × Contains (clause_at sheet k) (negated l) × ((m : Lit) → Contains (clause_at sheet k) m → m ≢ negated l → lit_true right m ≡ false)
      × (Contains kept k ⊎ IsSpared (clause_at sheet) (IsOwn sheet) IsLate (Contains kept) right k)

  kept_or_spared : (k : ℕ) (g : GroundAxiom) → Contains used k → slice_get (axioms sheet) k ≡ Some g → Contains kept k ⊎ IsSpared (clause_at sheet) (IsOwn sheet) IsLate (Contains kept) right k
  kept_or_spared k g h at = elim (are.each k g h at) [ inl stays' ↦ inl stays' | inr out ↦ inr (spared k g at out) ]

  right_here : (s : Symbol) → Contains (variables sheet) s → IsNode s → (x : Var) → number sheet s ≡ x.0 → right x ≡ truth s
  right_here s s_there a_node x is = ap (λ n. right (record { 0 = n })) (sym is) ∙ right_node s s_there a_node

  fails_by : (m : Literal) → Agrees m.what → truth m.what ≡ not m.sign → lit_true right (lit_of sheet m) ≡ false
  fails_by m agree is = has_not m.sign (right (var_of sheet m.what)) (agree ∙ is)

  -- by the axiom of that number, of which one literal is the node's, and right, and each other is false
  settled_with : (l : Lit) (s : Symbol) → UnderPart s → number sheet s ≡ l.variable.0 → (k : ℕ) (g : GroundAxiom) → Contains used k → slice_get (axioms sheet) k ≡ Some g → meant_by g.name ≡ Some s
      → (o : Literal) → Contains g.clause o → lit_of sheet o ≡ negated l → ((m : Literal) → Contains g.clause m → m ≢ o → truth m.what ≡ not m.sign) → Settled l
  settled_with l s u is k g h at means o o_in o_lit others =
      (k, (g, at, s, means, is), subst (Contains (clause_at sheet k)) o_lit (at_literal sheet k g at o o_in), rest, kept_or_spared k g h at)
    where
      rest : (m : Lit) → Contains (clause_at sheet k) m → m ≢ negated l → lit_true right m ≡ false
      rest m has other =
          let q = literal_at sheet k g at m has in
          let agree = axiom_agrees g (slice_contains (axioms sheet) k g at) (part_of g.name s means u) (of_node g.name s means) q.0 q.1 in
          subst (λ (y : Lit). lit_true right y ≡ false) q.2 (fails_by q.0 agree (others q.0 q.1 (λ same. other (sym q.2 ∙ ap (lit_of sheet) same ∙ o_lit))))

  settled_by : (l : Lit) (s : Symbol) → UnderPart s → Contains (variables sheet) s → number sheet s ≡ l.variable.0 → lit_true right l ≡ false → IsThere sheet s → Settled l
  settled_by l (pair c x) u s_there is wrong at = absurd u
  settled_by l (node r path) u s_there is wrong (n, at) = by (alone sheet formed own own_assigned truth (decided_is sheet own own_assigned) r path n at)
    where
      by : (g : GroundAxiom) × Contains (axioms sheet) g × (meant_by g.name ≡ Some (node r path))
          × ((o : Literal) × Contains g.clause o × (o.what ≡ node r path) × (truth (node r path) ≡ o.sign) × ((m : Literal) → Contains g.clause m → m ≢ o → truth m.what ≡ not m.sign)) → Settled l
      by (g, g_in, means, (o, o_in, o_is, o_sign, others)) =
          let k = number_there sheet part used of g g_in (part_of g.name (node r path) means u) in
          let signs = other_sign l.sign o.sign (right l.variable) (not_sign l.sign (right l.variable) wrong) (right_here (node r path) s_there tt l.variable is ∙ o_sign) in
          settled_with l (node r path) u is k.0 g k.1 k.2 means o o_in (opposite_of sheet o (node r path) l o_is is signs) others

  values : AreValues (clause_at sheet) (IsOwn sheet) IsLate (Contains kept) IsIn (rank sheet) v right
  values = record {
    met = met_at;
    is_node = λ x. elim (cases_lt x pairs) [ inl low ↦ inr (λ high. omega (arith, low, high)) | inr high ↦ inl high ];
    same = λ x early. elim (cases_lt x.0 pairs) [ inl low ↦ sym (right_early x low) | inr high ↦ absurd (early high) ];
    is_own = is_own sheet;
    own_node = own_late sheet;
    one_own = one_own sheet;
    one_literal = one_literal sheet;
    lower = lower;
    meant = means_right;
    settled = λ l inside late wrong. settled_by l inside.0 inside.1 inside.2 inside.3 wrong (variables_are_there sheet inside.0 inside.2);
  }

  -- a kept axiom has it as a literal of another's, or unit propagation over the kept ones makes it true
  abbrev pub Asked : Symbol → Type 0
  Asked x = Named (lit_of sheet (positive x)) ⊎ IsForced KeptClause (lit_of sheet (positive x))

  pub asked_right : (s : Symbol) → IsNode s → UnderPart s → Contains (variables sheet) s → Asked s → value sheet v s ≡ true → truth s ≡ true
  asked_right s a_node u s_there asked is =
      sym (right_node s s_there a_node)
      ∙ named_is_right (clause_at sheet) (IsOwn sheet) IsLate (Contains kept) IsIn (rank sheet) v right values (lit_of sheet (positive s)) (s, u, s_there, refl) (node_number sheet s a_node) asked is
