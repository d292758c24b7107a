-- What a solver answers of a set and a target.
use Rattle.std.proofs.Common.{◌≡◌, ◌≢◌, ℕ, ◌+◌, ◌<◌, inl, inr, Bool, true, false, not, MatchBool, List, [], ◌∷◌, ◌++◌, map, length, Some, slice_get, Contains, if◌then◌else◌, refl, ap, sym, ◌∙◌, subst, arith, zero-add}
use Rattle.std.specs.List.{range_with_len}
use Rattle.std.proofs.lemmas.Bool.{cases_Bool, false≢true}
use Rattle.std.proofs.lemmas.List.Elements.{All-contains, Contains-append_left, Contains-append_right, Contains-append_cases}
use Rattle.std.proofs.lemmas.List.FromFn.{get_or-range_with_len, length-range_with_len}
use Rattle.pc_lemmas.proofs.Elements.{contains_first, contains_cases, contains_none, contains_map, contains_mapped, all_from}
use Rattle.pc_lits.specs.declared.literal.Var.{Var}
use Rattle.pc_lits.specs.declared.literal.Lit.{Lit}
use Rattle.pc_lits.specs.Literals.{negated}
use Rattle.pc_lits.specs.Truth.{lit_true}
use Rattle.pc_lits.proofs.Sound.{lit_true-negated}
use Rattle.pc_sheet.specs.Sheet.{Sheet}
use Rattle.pc_sheet.specs.Entailment.{cell_sizes, AreWithin, HasEntry, HasTarget, IsAssignment, Shows, Entails}
use Rattle.pc_sheet.specs.declared.ids.CellId.{CellId}
use Rattle.pc_sheet.specs.declared.ids.ValueId.{ValueId}
use Rattle.pc_sheet.specs.declared.ids.Entry.{Entry}
use Rattle.pc_sheet.specs.declared.ids.Target.{Target}
use Rattle.pc_ground.specs.Ground.{clauses}
use Rattle.pc_ground.specs.Variables.{pair_number}
use Rattle.pc_parts.specs.Components.{all_cells}
use Rattle.pc_parts.specs.Laws.{AgreeAt}
use Rattle.pc_components.specs.Pairs.{entry_literal, target_literal, pair_var, IsValueOfCell}
use Rattle.pc_components.specs.Used.{HasValues}
use Rattle.pc_components.specs.View.{number_of}
use Rattle.pc_components.proofs.Assigned.{has_value, met_are_used, used_are_met, same_assignment}
use Rattle.pc_problem.specs.Laws.{AreSearchedBy}
use Rattle.pc_solver.specs.Answers.{Meets}
use Rattle.pc_solver.specs.Solver.{AreOwn, clauses_used}
use Rattle.pc_theory.specs.WholeSpendings.{all_axioms, all_variables}
use Rattle.pc_repairs.specs.Searches.{whole_problem}

pub is_number : (n k : ℕ) → k < n → Contains (range_with_len 0 n) k
is_number n k l = (k, omega (arith, l, length-range_with_len 0 n), get_or-range_with_len 0 n k k l ∙ zero-add k)

pub target_had : (a : List ValueId) (t : Target) → t.holds ≡ true → slice_get a t.cell.0 ≡ Some t.value → HasTarget a t
target_had a t holds is = subst (λ b. MatchBool b (slice_get a t.cell.0 ≡ Some t.value) (slice_get a t.cell.0 ≢ Some t.value)) (sym holds) is

pub had_target : (a : List ValueId) (t : Target) → t.holds ≡ true → HasTarget a t → slice_get a t.cell.0 ≡ Some t.value
had_target a t holds has = subst (λ b. MatchBool b (slice_get a t.cell.0 ≡ Some t.value) (slice_get a t.cell.0 ≢ Some t.value)) holds has

module _ (sheet : Sheet) (cells : List CellId) (h : AreSearchedBy sheet sheet cells (all_axioms sheet) (all_variables sheet) []) (set : List Entry) (t : Target) (holds : t.holds ≡ true)
    (on : (e : Entry) → Contains set e → Contains cells e.cell × IsValueOfCell (cell_sizes sheet.universe) e.cell e.value) (there : Contains cells t.cell) (value : IsValueOfCell (cell_sizes sheet.universe) t.cell t.value) where
  abbrev sizes : List ℕ
  sizes = cell_sizes sheet.universe

  abbrev goal : Lit
  goal = negated (target_literal sizes t)

  abbrev assumed : List Lit
  assumed = map (entry_literal sizes) set ++ goal ∷ []

  goal_is : (v : Var → Bool) → lit_true v goal ≡ not (v (pair_var sizes t.cell t.value))
  goal_is v = lit_true-negated v (target_literal sizes t) ∙ ap (λ (b : Bool). not (if b then v (pair_var sizes t.cell t.value) else not (v (pair_var sizes t.cell t.value)))) holds

  pub own_assumed : AreOwn (all_variables sheet) assumed
  own_assumed = record {
    each = all_from (λ (l : Lit). Contains (all_variables sheet) l.variable) assumed
        (λ l c. elim (Contains-append_cases (map (entry_literal sizes) set) (goal ∷ []) l c) [
          | inl early ↦
              let e = contains_mapped (entry_literal sizes) set l early in
              let o = on e.0 e.1 in
              subst (λ (m : Lit). Contains (all_variables sheet) m.variable) e.2 (h.searched.own_pairs e.0.cell e.0.value o.0 o.1)
          | inr late ↦ elim (contains_cases goal [] l late) [
            | inl is ↦ subst (λ (m : Lit). Contains (all_variables sheet) m.variable) is (h.searched.own_pairs t.cell t.value there value)
            | inr none ↦ absurd (contains_none l none)
          ]
        ]);
  }

  -- where no truth values meet what is assumed, the set entails the target
  pub entailed : ((v : Var → Bool) → ¬ Meets v (clauses_used (whole_problem sheet)) [] assumed) → Entails sheet set t
  entailed none a shows =
      let m = h.searched.are_for.meets a shows.assigns shows.fits in
      elim (cases_Bool (m.0 (pair_var sizes t.cell t.value))) [
        | inl is ↦ target_had a t holds ((has_value sizes cells m.0 a m.2 t.cell t.value there value).0 is)
        | inr is_false ↦ absurd (none m.0 (record {
          axioms_true = used_are_met (clauses sheet) (all_axioms sheet) m.0 h.searched.used_in m.1;
          blocks_true = λ c k. absurd (contains_none c k);
          assumed_true = λ l c. elim (Contains-append_cases (map (entry_literal sizes) set) (goal ∷ []) l c) [
            | inl early ↦
                let e = contains_mapped (entry_literal sizes) set l early in
                let o = on e.0 e.1 in
                subst (λ (x : Lit). lit_true m.0 x ≡ true) e.2 ((has_value sizes cells m.0 a m.2 e.0.cell e.0.value o.0 o.1).1 (All-contains (HasEntry a) set e.0 shows.has e.1))
            | inr late ↦ elim (contains_cases goal [] l late) [
              | inl is ↦ subst (λ (x : Lit). lit_true m.0 x ≡ true) is (goal_is m.0 ∙ ap not is_false)
              | inr past ↦ absurd (contains_none l past)
            ]
          ];
        }))
      ]

  module _ (v : Var → Bool) (m : Meets v (clauses_used (whole_problem sheet)) [] assumed) where
    -- what is read of values that meet it shows the set and lacks the target
    pub shown_is : (b : List ValueId) → IsAssignment sheet.universe b → map number_of cells ≡ all_cells sheet.universe
        → ((a : List ValueId) → AreWithin sizes a → HasValues sizes (map number_of cells) v a → AgreeAt (Contains (map number_of cells)) a b) → Shows sheet set b × (¬ HasTarget b t)
    shown_is b assigns cells_are reads =
        let f = h.searched.are_for.fits v (met_are_used (clauses sheet) (all_axioms sheet) v m.axioms_true) in
        let agree = reads f.0 f.1 f.3 in
        let same : f.0 ≡ b = same_assignment sizes f.0 b f.1 assigns (λ c low. sym (agree c (subst (λ ns. Contains ns c) (sym cells_are) (is_number (length sizes) c low)))) in
        let has = all_from (HasEntry f.0) set
        (λ e c.
        let o = on e c in
        (has_value sizes cells v f.0 f.3 e.cell e.value o.0 o.1).0 (m.assumed_true (entry_literal sizes e) (Contains-append_left (map (entry_literal sizes) set) (goal ∷ []) (entry_literal sizes e) (contains_map (entry_literal sizes) set e c)))) in
        let goal_true : lit_true v goal ≡ true = m.assumed_true goal (Contains-append_right (map (entry_literal sizes) set) (goal ∷ []) goal (contains_first goal [])) in
        let lacks : ¬ HasTarget f.0 t = λ x.
        false≢true (sym (ap not ((has_value sizes cells v f.0 f.3 t.cell t.value there value).1 (had_target f.0 t holds x))) ∙ (sym (goal_is v) ∙ goal_true)) in
        subst (λ a. Shows sheet set a × (¬ HasTarget a t)) same (record { assigns = f.1; fits = f.2; has = has }, lacks)

-- the literal that the target's cell hasn't its value
pub goal_literal : (sizes : List ℕ) (t : Target) (v : Var) (l : Lit) → t.holds ≡ true → v.0 ≡ pair_number sizes t.cell.0 t.value.0 → l ≡ record { variable = v; sign = false } → l ≡ negated (target_literal sizes t)
goal_literal sizes t v l holds number is =
    let of_number : ℕ → Lit = λ n. record { variable = record { 0 = n }; sign = false } in
    let of_sign : Bool → Lit = λ b. record { variable = pair_var sizes t.cell t.value; sign = not b } in
    is ∙ ap of_number number ∙ ap of_sign (sym holds)
