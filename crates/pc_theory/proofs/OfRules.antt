-- Clauses, names and parts are of the rules alone.
use Rattle.std.proofs.Common.{◌≡◌, ℕ, inl, inr, Bool, List, [], ◌∷◌, map, Contains, Option, refl, ap, sym, ◌∙◌, subst, get_or, slice_get}
use Rattle.std.specs.List.{AllZip}
use Rattle.pc_lemmas.proofs.Elements.{zip_weaker}
use Rattle.pc_lits.specs.declared.literal.Lit.{Lit}
use Rattle.pc_sheet.specs.Sheet.{Sheet}
use Rattle.pc_sheet.specs.Entailment.{cell_sizes}
use Rattle.pc_sheet.specs.MaximalSets.{AreRulesConsistent}
use Rattle.pc_sheet.specs.declared.ids.ValueId.{ValueId}
use Rattle.pc_accept.specs.Literals.{Symbol, pair, node, Literal, opposite}
use Rattle.pc_accept.specs.Axioms.{Axiom, axiom_some, axiom_one, axiom_rule, axiom_node, axiom_atom}
use Rattle.pc_accept.specs.Writable.{IsSymbolOf, IsAxiomOf}
use Rattle.pc_ground.specs.Variables.{number, variables, variable_count}
use Rattle.pc_ground.specs.Ground.{GroundAxiom, axioms, lit_of, clause_of_axiom, clauses}
use Rattle.pc_ground.specs.GroundView.{Grounded}
use Rattle.pc_ground.specs.Grounded.{grounded}
use Rattle.pc_ground.specs.Naming.{names_of}
use Rattle.pc_ground.specs.Owners.{owners_of}
use Rattle.pc_parts.specs.Leaves.{cells_of}
use Rattle.pc_parts.specs.Pieces.{pieces}
use Rattle.pc_parts.specs.Parts.{Part, IsDivision}
use Rattle.pc_parts.specs.Components.{parts_of}
use Rattle.pc_components.specs.PartAxioms.{AreAxiomsOf, AreVariablesOf, IsUsed}
use Rattle.pc_components.specs.View.{Kept, variable_number, AreComponentsOf}
use Rattle.pc_kept.specs.Kept.{IsAmong, AreMeanings, IsLeftOut}
use Rattle.pc_kept.specs.ByPolarity.{IsNamedBy, AreKeptByPolarity}
use Rattle.pc_lits.specs.Values.{MakesTrue}
use Rattle.pc_kept.specs.Components.{AreKeptOf}
use Rattle.pc_solver.specs.Forced.{IsForced}
use Rattle.pc_reason.specs.Written.{AreOfSheet}
use Rattle.pc_reason.specs.Fitting.{IsFitting}
use Rattle.pc_theory.specs.Theories.{rules_alone}

map_same : {X Y : Type 0} (f g : X → Y) → ((x : X) → f x ≡ g x) → (xs : List X) → map f xs ≡ map g xs
map_same f g same [] = refl
map_same f g same (x ∷ xs) = rw (same x, map_same f g same xs) refl

-- what is kept of one sheet is kept of another with the same axioms
module _ (a b : Sheet) (same_axioms : axioms a ≡ axioms b) (same_clauses : clauses a ≡ clauses b) (same_number : (x : Symbol) → number a x ≡ number b x)
    (same_variables : variables a ≡ variables b) where
  forced_moves : (numbers : List ℕ) (l : Literal) → IsForced (IsAmong (clauses a) numbers) (lit_of a l) → IsForced (IsAmong (clauses b) numbers) (lit_of b l)
  forced_moves numbers l h =
      let make : ℕ → Lit = λ n. record { variable = record { 0 = n }; sign = l.sign } in
      subst (λ cs. IsForced (IsAmong cs numbers) (lit_of b l)) same_clauses (subst (IsForced (IsAmong (clauses a) numbers)) (ap make (same_number l.what)) h)

  unused_moves : (kept : List ℕ) (x : Symbol) → (¬ IsUsed (clauses a) kept (number a x)) → ¬ IsUsed (clauses b) kept (number b x)
  unused_moves kept x none used = none (subst (λ cs. IsUsed cs kept (number a x)) (sym same_clauses) (subst (IsUsed (clauses b) kept) (sym (same_number x)) used))

  meanings_move : (numbers : List ℕ) → AreMeanings a numbers → AreMeanings b numbers
  meanings_move numbers h k g has at = h k g has (ap (λ gs. slice_get gs k) same_axioms ∙ at)

  out_moves : (kept : List ℕ) (g : GroundAxiom) → IsLeftOut a kept g → IsLeftOut b kept g
  out_moves kept g h = (
    h.0,
    elim h.1 [
      | inl (l, has, forced) ↦ inl (l, has, forced_moves kept l forced)
      | inr (inl none) ↦ inr (inl (λ l has is. unused_moves kept l.what (none l has is)))
      | inr (inr (l, has, is, none, (meanings, are, forced))) ↦ inr (inr (l, has, is, unused_moves kept l.what none, (meanings, meanings_move meanings are, forced_moves meanings l forced)))
    ],
  )

  lit_moves : (l : Literal) → lit_of a l ≡ lit_of b l
  lit_moves l = let make : ℕ → Lit = λ n. record { variable = record { 0 = n }; sign = l.sign } in ap make (same_number l.what)

  unnamed_moves : (kept : List ℕ) (l : Literal) → (¬ IsNamedBy a kept l) → ¬ IsNamedBy b kept l
  unnamed_moves kept l none named = none (named.0, named.1, named.2, ap (λ gs. slice_get gs named.0) same_axioms ∙ named.3, named.4, named.5)

  kept_moves : (banned : List (Option Bool)) (used kept : List ℕ) → AreKeptByPolarity a banned used kept → AreKeptByPolarity b banned used kept
  kept_moves banned used kept h = record {
    among = h.among;
    each = λ k g has at. elim (h.each k g has (ap (λ gs. slice_get gs k) same_axioms ∙ at)) [
      | inl stays ↦ inl stays
      | inr (inl out) ↦ inr (inl (out_moves kept g out))
      | inr (inr (l, own, bans, none)) ↦ inr (inr (l, own, subst (MakesTrue banned) (lit_moves l) bans, unnamed_moves kept (opposite l) none))
    ];
    order = h.order;
    only = λ l there bans.
        let x = h.only l (subst (λ xs. Contains xs l.what) (sym same_variables) there) (subst (MakesTrue banned) (sym (lit_moves l)) bans) in
        (x.0, unnamed_moves kept (opposite l) x.1);
  }

module _ (sheet : Sheet) where
  abbrev alone : Sheet
  alone = rules_alone sheet

  number_alone : (x : Symbol) → number alone x ≡ number sheet x
  number_alone (pair c v) = refl
  number_alone (node r path) = refl

  lit_alone : (l : Literal) → lit_of alone l ≡ lit_of sheet l
  lit_alone l = let make : ℕ → Lit = λ n. record { variable = record { 0 = n }; sign = l.sign } in ap make (number_alone l.what)

  clause_alone : (g : GroundAxiom) → clause_of_axiom alone g ≡ clause_of_axiom sheet g
  clause_alone g = map_same (lit_of alone) (lit_of sheet) lit_alone g.clause

  pub clauses_alone : clauses alone ≡ clauses sheet
  clauses_alone = map_same (clause_of_axiom alone) (clause_of_axiom sheet) clause_alone (axioms sheet)

  pub grounded_alone : grounded alone ≡ grounded sheet
  grounded_alone = let make : List (List Lit) → Grounded = λ cs. record { clauses = cs; sizes = cell_sizes sheet.universe; variables = variable_count sheet; names = names_of sheet; owners = owners_of sheet; reads = map (cells_of sheet.universe) (pieces sheet) } in ap make clauses_alone

  -- ---- from the rules alone to the sheet, and back

  pub division_here : IsDivision alone (parts_of alone) → IsDivision sheet (parts_of sheet)
  division_here d = record { every_cell = d.every_cell; apart = d.apart; every_piece = d.every_piece; pieces = d.pieces; reads = d.reads }

  pub division_alone : IsDivision sheet (parts_of sheet) → IsDivision alone (parts_of alone)
  division_alone d = record { every_cell = d.every_cell; apart = d.apart; every_piece = d.every_piece; pieces = d.pieces; reads = d.reads }

  pub axioms_here : (part : Part) (used : List ℕ) → AreAxiomsOf alone part used → AreAxiomsOf sheet part used
  axioms_here part used h = record { exact = h.exact; order = h.order }

  axioms_alone : (part : Part) (used : List ℕ) → AreAxiomsOf sheet part used → AreAxiomsOf alone part used
  axioms_alone part used h = record { exact = h.exact; order = h.order }

  pub variables_here : (used own : List ℕ) → AreVariablesOf (clauses alone) used own → AreVariablesOf (clauses sheet) used own
  variables_here used own h = subst (λ cs. AreVariablesOf cs used own) clauses_alone h

  pub components_alone : (kept : Kept) → AreComponentsOf sheet kept → AreComponentsOf alone kept
  components_alone kept h = record {
    cells = h.cells;
    axioms = zip_weaker (AreAxiomsOf sheet) (AreAxiomsOf alone) axioms_alone (parts_of sheet) kept.axioms h.axioms;
    variables = subst (λ cs. AllZip (λ used own. AreVariablesOf cs used (map variable_number own)) kept.axioms kept.variables) (sym clauses_alone) h.variables;
    many_numbers = h.many_numbers;
    numbers = h.numbers;
    banned = h.banned;
  }

  pub kept_here : (banned : List (Option Bool)) (used kept : List ℕ) → AreKeptByPolarity alone banned used kept → AreKeptByPolarity sheet banned used kept
  kept_here banned used kept h = kept_moves alone sheet refl clauses_alone number_alone refl banned used kept h

  kept_alone : (banned : List (Option Bool)) (used kept : List ℕ) → AreKeptByPolarity sheet banned used kept → AreKeptByPolarity alone banned used kept
  kept_alone banned used kept h = kept_moves sheet alone refl (sym clauses_alone) (λ x. sym (number_alone x)) refl banned used kept h

  pub chosen_alone : (whole kept : Kept) → AreKeptOf sheet whole kept → AreKeptOf alone whole kept
  chosen_alone whole kept h = record {
    cells = h.cells;
    numbers = h.numbers;
    axioms = zip_weaker (AreKeptByPolarity sheet kept.banned) (AreKeptByPolarity alone kept.banned) (kept_alone kept.banned) whole.axioms kept.axioms h.axioms;
    variables = subst (λ cs. AllZip (λ used own. AreVariablesOf cs used (map variable_number own)) kept.axioms kept.variables) (sym clauses_alone) h.variables;
  }

  symbol_here : (x : Symbol) → IsSymbolOf alone x → IsSymbolOf sheet x
  symbol_here (pair c v) h = h
  symbol_here (node r steps) h = record { leads = h.leads; small = h.small }

  symbol_alone : (x : Symbol) → IsSymbolOf sheet x → IsSymbolOf alone x
  symbol_alone (pair c v) h = h
  symbol_alone (node r steps) h = record { leads = h.leads; small = h.small }

  axiom_here : (a : Axiom) → IsAxiomOf alone a → IsAxiomOf sheet a
  axiom_here (axiom_some c) h = h
  axiom_here (axiom_one c v w) h = h
  axiom_here (axiom_rule r) h = h
  axiom_here (axiom_node r steps i) h = (record { leads = h.0.leads; small = h.0.small }, h.1)
  axiom_here (axiom_atom r steps reads) h = (record { leads = h.0.leads; small = h.0.small }, h.1)

  axiom_alone : (a : Axiom) → IsAxiomOf sheet a → IsAxiomOf alone a
  axiom_alone (axiom_some c) h = h
  axiom_alone (axiom_one c v w) h = h
  axiom_alone (axiom_rule r) h = h
  axiom_alone (axiom_node r steps i) h = (record { leads = h.0.leads; small = h.0.small }, h.1)
  axiom_alone (axiom_atom r steps reads) h = (record { leads = h.0.leads; small = h.0.small }, h.1)

  pub named_here : AreOfSheet alone (names_of alone) → AreOfSheet sheet (names_of sheet)
  named_here h = record {
    variables = λ i d below. symbol_here (get_or (names_of sheet).variables i d) (h.variables i d below);
    axioms = λ i d below. axiom_here (get_or (names_of sheet).axioms i d) (h.axioms i d below);
  }

  pub named_alone : AreOfSheet sheet (names_of sheet) → AreOfSheet alone (names_of alone)
  named_alone h = record {
    variables = λ i d below. symbol_alone (get_or (names_of sheet).variables i d) (h.variables i d below);
    axioms = λ i d below. axiom_alone (get_or (names_of sheet).axioms i d) (h.axioms i d below);
  }

  pub base_here : (base : List ValueId) → IsFitting alone base → IsFitting sheet base
  base_here base h = record { assigns = h.assigns; fits = h.fits }

  pub base_alone : (base : List ValueId) → IsFitting sheet base → IsFitting alone base
  base_alone base h = record { assigns = h.assigns; fits = h.fits }

  pub consistent_by : (base : List ValueId) → IsFitting sheet base → AreRulesConsistent sheet
  consistent_by base h = (base, h.assigns, h.fits)
