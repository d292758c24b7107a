-- An entry has a conflict exactly where it is in a minimal inconsistent sublist, and a cell is marked where one of its entries is.
use Rattle.std.proofs.Common.{◌≡◌, ◌↔◌, ℕ, Bool, true, false, List, [], ◌∷◌, Option, None, Some, is_some, IsSome, IsTrue, Contains, eqb-true, eq-eqb, refl, ◌∙◌, ap}
use Rattle.std.specs.List.{list_any}
use Rattle.std.proofs.lemmas.List.Elements.{All-contains, All-contains_itself}
use Rattle.std.proofs.lemmas.List.Folds.{list_any_at}
use Rattle.pc_lemmas.proofs.Elements.{contains_first, contains_later, kept, kept_is}
use Rattle.pc_laws.proofs.Minimal.{in_minimal_exactly}
use Rattle.pc_sheet.specs.Sheet.{Sheet}
use Rattle.pc_sheet.specs.Entailment.{IsImplied, opposite_of}
use Rattle.pc_sheet.specs.WellFormed.{is_of_cell, entries_of, IsEntryOf, IsWellFormed}
use Rattle.pc_sheet.specs.declared.ids.CellId.{CellId}
use Rattle.pc_sheet.specs.declared.ids.Entry.{Entry}
use Rattle.pc_sheet.specs.declared.ids.Target.{Target}
use Rattle.pc_display.specs.Marks.{IsInMinimal, MarksShowConflicts}
use Rattle.pc_display.specs.Show.{conflict_of, have_conflict}
use Rattle.pc_display.specs.Supports.{IsSupportFor, IsReasoning, Reasoning}
use Rattle.pc_display.proofs.SheetLemmas.{sublist_all}

supported_exactly : (sheet : Sheet) (t : Target) (found : Option (List Entry)) → IsSupportFor sheet t found → IsSome found ↔ IsImplied sheet t
supported_exactly sheet t None is = (λ some. absurd (cc some), λ implied. absurd (is implied))
supported_exactly sheet t (Some s) is = (λ some. (s, is.supports), λ implied. refl)

-- an element that passes the test
passing : (test : Entry → Bool) (es : List Entry) → list_any test es ≡ true → (e : Entry) × Contains es e × (test e ≡ true)
passing test [] some = absurd (cc)
passing test (e ∷ es) some = by (test e) refl some (passing test es)
  where
    by : (b : Bool) → test e ≡ b → list_any test (e ∷ es) ≡ true → (list_any test es ≡ true → (f : Entry) × Contains es f × (test f ≡ true)) → (f : Entry) × Contains (e ∷ es) f × (test f ≡ true)
    by true is some later = (e, contains_first e es, is)
    by false is some later = let rest = later (cc) in (rest.0, contains_later e es rest.0 rest.1, rest.2)

module _ (sheet : Sheet) (reason : Reasoning) (formed : IsWellFormed sheet) (is : IsReasoning sheet reason) where
  conflicts : (e : Entry) → Contains sheet.entries e → IsSome (conflict_of reason e) ↔ IsInMinimal sheet e
  conflicts e there =
      let exactly = in_minimal_exactly sheet e there in
      let within = All-contains (IsEntryOf sheet.universe) sheet.entries e formed.entries.each there in
      let here = supported_exactly sheet (opposite_of e) (reason (opposite_of e)) (is (opposite_of e) within) in
      (λ some. exactly.1 (here.0 some), λ minimal. here.1 (exactly.0 minimal))

  -- what is in such a sublist is an entry
  stands : (e : Entry) → IsInMinimal sheet e → Contains sheet.entries e
  stands e (s, minimal, has) = All-contains (Contains sheet.entries) s e (sublist_all (Contains sheet.entries) sheet.entries s minimal.among (All-contains_itself sheet.entries)) has

  marks : (c : CellId) → IsTrue (have_conflict reason (entries_of c sheet.entries)) ↔ ((e : Entry) × (e.cell ≡ c) × IsInMinimal sheet e)
  marks c =
      let clashes : Entry → Bool = λ e. is_some (conflict_of reason e) in
      let number : ℕ → CellId = λ n. record { 0 = n } in
      let to_number : CellId → ℕ = λ d. d.0 in (
        λ marked.
            let found = passing clashes (entries_of c sheet.entries) marked in
            let own = kept_is (is_of_cell c) sheet.entries found.0 found.1 in
            (found.0, ap number (eqb-true found.0.cell.0 c.0 own.1), (conflicts found.0 own.0).0 found.2),
        λ found.
            let there = stands found.0 found.2 in
            let own = kept (is_of_cell c) sheet.entries found.0 there (eq-eqb found.0.cell.0 c.0 (ap to_number found.1)) in
            list_any_at clashes (entries_of c sheet.entries) own.0 found.0 own.1 (ap clashes own.2 ∙ (conflicts found.0 there).1 found.2),
      )

pub marks_show_conflicts : MarksShowConflicts
marks_show_conflicts sheet reason formed is = record { conflicts = conflicts sheet reason formed is; marks = marks sheet reason formed is }
