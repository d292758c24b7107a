-- The verdict on used entries and an assignment, and on sets, from what each test found.
use Rattle.std.proofs.Common.{◌≡◌, ℕ, ◌<◌, Bool, inl, inr, List, map, length, get_or, slice_get, All, refl, sym, subst, arith, Option, None, Some}
use Rattle.std.proofs.lemmas.List.Elements.{All-map}
use Rattle.std.proofs.lemmas.Option.{slice_get_within}
use Rattle.pc_sheet.specs.Sheet.{Sheet}
use Rattle.pc_sheet.specs.Entailment.{cell_sizes}
use Rattle.pc_sheet.specs.WellFormed.{IsWellFormedUniverse, IsEntryOf}
use Rattle.pc_sheet.specs.declared.ids.Entry.{Entry}
use Rattle.pc_sheet.specs.declared.ids.ValueId.{ValueId}
use Rattle.pc_cert.specs.Views.{said_of}
use Rattle.pc_cert.specs.declared.cert.Said.{Said}
use Rattle.pc_checker.specs.declared.verdict.Verdict.{Verdict}
use Rattle.pc_checker.specs.declared.verdict.Verdict.TheVariants.{UseNotEntered, BadValues, UseNotHeld, RuleBroken}
use Rattle.pc_checker.specs.inside.Parts.{IsFirstLine, IsLineOfValues, IsRuleBroken, IsShownFault}
use Rattle.pc_checker.specs.inside.Prepared.{IsShownPrepared}
use Rattle.pc_checker.specs.Verdicts.{Numbered, IsEntered, AreEntered, AreValues, AreHeld, IsHeld, Stands, values_in}
use Rattle.pc_lemmas.proofs.Options.{some_and}
use Rattle.pc_checker.specs.Entered.{HavePlaces}
use Rattle.pc_checker.proofs.EnteredLemmas.{uses_have_places}
use Rattle.pc_checker.proofs.ClaimLemmas.{values_assign, within_length}

module _ (sheet : Sheet) (left_out : Option ℕ) (uses_said values_said : List Said) (after : ℕ) (by_pair : List Bool) (assigned : List ValueId) (is : IsShownPrepared sheet uses_said values_said by_pair assigned) where
  abbrev uses : List (Numbered Entry)
  uses = map said_of uses_said

  abbrev values : List (Numbered Entry)
  values = map said_of values_said

  abbrev V : Option Verdict → Type 0
  V = IsShownFault sheet left_out uses values after

  said : All (λ (e : Numbered Entry). IsEntryOf sheet.universe e.1) values
  said = All-map (λ (e : Numbered Entry). IsEntryOf sheet.universe e.1) said_of values_said is.values_of

  pub entered : (o : Option ℕ) → o ≡ None → IsFirstLine (IsEntered sheet) uses o → AreEntered sheet uses
  entered o none h = subst (IsFirstLine (IsEntered sheet) uses) none h

  pub values_are : (cells : ℕ) (o : Option ℕ) → o ≡ None → cells ≡ length (cell_sizes sheet.universe) → IsLineOfValues cells values after o → AreValues sheet values
  values_are cells o none same h =
      let found : IsLineOfValues cells values after None = subst (IsLineOfValues cells values after) none h in
      (found.0, values_assign sheet values said found.0 (omega (arith, found.1)))

  held_answer : (a : List ValueId) (o : Option ℕ) → a ≡ assigned → IsFirstLine (IsHeld a) uses o → IsFirstLine (IsHeld (values_in values)) uses o
  held_answer a o same h = subst (λ b. IsFirstLine (IsHeld b) uses o) is.values_are (subst (λ b. IsFirstLine (IsHeld b) uses o) same h)

  pub held : (a : List ValueId) (o : Option ℕ) → a ≡ assigned → o ≡ None → IsFirstLine (IsHeld a) uses o → AreHeld uses values
  held a o same none h = subst (IsFirstLine (IsHeld (values_in values)) uses) none (held_answer a o same h)

  size_of : (k : ℕ) (d : Said) → k < length uses_said → (get_or uses_said k d).entry.cell.0 < length (cell_sizes sheet.universe)
  size_of k d within =
      let s = get_or uses_said k d in
      let size = some_and (slice_get (cell_sizes sheet.universe) s.entry.cell.0) (λ n. s.entry.value.0 < n) (is.uses_of k d within) in
      slice_get_within (cell_sizes sheet.universe) s.entry.cell.0 size.0 size.1

  pub entered_requires : IsWellFormedUniverse sheet.universe → HavePlaces by_pair uses_said
  entered_requires formed = uses_have_places sheet by_pair uses_said formed is.entered.each_pair is.uses_of

  pub held_requires : AreValues sheet values → (a : List ValueId) → a ≡ assigned → All (λ (s : Said). s.entry.cell.0 < length a) uses_said
  held_requires right a same =
      let here : All (λ (s : Said). s.entry.cell.0 < length (values_in values)) uses_said =
      λ k d within. omega (arith, size_of k d within, within_length (cell_sizes sheet.universe) (values_in values) right.1)
      in
      subst (λ b. All (λ (s : Said). s.entry.cell.0 < length b) uses_said) (sym same) (subst (λ b. All (λ (s : Said). s.entry.cell.0 < length b) uses_said) (sym is.values_are) here)

  pub not_entered : (o : Option ℕ) (line : ℕ) → o ≡ Some line → IsFirstLine (IsEntered sheet) uses o → V (Some (UseNotEntered line))
  not_entered o line some h = subst (IsFirstLine (IsEntered sheet) uses) some h

  pub bad_values : (cells : ℕ) (o : Option ℕ) (line : ℕ) → o ≡ Some line → cells ≡ length (cell_sizes sheet.universe) → AreEntered sheet uses → IsLineOfValues cells values after o → V (Some (BadValues line))
  bad_values cells o line some same before h =
      let found : IsLineOfValues cells values after (Some line) = subst (IsLineOfValues cells values after) some h in
      (before, elim found [ inl astray ↦ inl astray | inr missing ↦ inr (record { in_order = missing.0; fewer = omega (arith, missing.1) }, missing.2) ])

  pub not_held : (a : List ValueId) (o : Option ℕ) (line : ℕ) → a ≡ assigned → o ≡ Some line → AreEntered sheet uses → AreValues sheet values → IsFirstLine (IsHeld a) uses o → V (Some (UseNotHeld line))
  not_held a o line same some before right h = (before, right, subst (IsFirstLine (IsHeld (values_in values)) uses) some (held_answer a o same h))

  pub rule_broken : (o : Option ℕ) (rule : ℕ) → o ≡ Some rule → AreEntered sheet uses → AreValues sheet values → AreHeld uses values → IsRuleBroken sheet left_out assigned o → V (Some (RuleBroken rule))
  rule_broken o rule some before right has h = (before, right, has, subst (λ b. IsRuleBroken sheet left_out b (Some rule)) is.values_are (subst (IsRuleBroken sheet left_out assigned) some h))

  pub stands : (o : Option ℕ) → o ≡ None → AreEntered sheet uses → AreValues sheet values → AreHeld uses values → IsRuleBroken sheet left_out assigned o → Stands sheet left_out uses values
  stands o none before right has h =
      record { entered = before; assigns = right; held = has; fits = subst (λ b. IsRuleBroken sheet left_out b None) is.values_are (subst (IsRuleBroken sheet left_out assigned) none h) }

pub none_from : {X : Type 0} (o : Option X) → ((x : X) → o ≡ Some x → ⊥) → o ≡ None
none_from None other = refl
none_from (Some x) other = absurd (other x refl)
