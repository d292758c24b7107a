-- The maximal sets of a part are some of its entries' sublists.
use Rattle.std.proofs.Common.{◌≢◌, zero, suc, ◌≤◌, inl, inr, List, [], ◌∷◌, length, Contains, arith, sym, ◌∙◌, subst}
use Rattle.std.specs.Prelude.{AllPairs}
use Rattle.std.proofs.lemmas.List.{get_or_default}
use Rattle.std.proofs.lemmas.List.Elements.{All-nil}
use Rattle.std.proofs.lemmas.List.Kept.{AllPairs-cons, AllPairs-filter}
use Rattle.pc_sheet.specs.Sheet.{Sheet}
use Rattle.pc_sheet.specs.Entailment.{IsSublist, HasEntry}
use Rattle.pc_sheet.specs.WellFormed.{AreDifferent}
use Rattle.pc_sheet.specs.MaximalSets.{ListsExactly, IsMaximalSet, AreRulesConsistent}
use Rattle.pc_sheet.specs.declared.ids.Entry.{Entry}
use Rattle.pc_lemmas.proofs.Elements.{contains_first, contains_later, contains_cases, contains_none, all_from}
use Rattle.pc_laws.specs.Laws.{IsDecided, IsExcluded}
use Rattle.pc_laws.proofs.Assignments.{consistency_decided, decide_all}
use Rattle.pc_laws.proofs.Contained.{decide_contains}
use Rattle.pc_laws.proofs.Counting.{sublists_counted}
use Rattle.pc_laws.proofs.Decide.{decide_not, decide_and, decide_or}
use Rattle.pc_laws.proofs.EachEntry.{by_each_entry}
use Rattle.pc_parts.specs.PartSheets.{is_on, sheet_of}
use Rattle.pc_theory.specs.Spendings.{IsSetOf}
use Rattle.pc_enough_laws.specs.Laws.{MaximalSetsAreFew}

-- ---- those of a list that have a property

module _ {X : Type 0} (P : X → Type 0) where
  abbrev Chosen : List X → Type 0
  Chosen xs = (ys : List X) × ListsExactly X (λ x. Contains xs x × P x) ys × (length ys ≤ length xs)

  first_differs : (x : X) (xs : List X) → AllPairs (λ y z. y ≢ z) (x ∷ xs) → (y : X) → Contains xs y → x ≢ y
  first_differs x xs h y there is = h zero (suc there.0) x (omega arith) (omega (arith, there.1)) (is ∙ sym there.2 ∙ get_or_default xs there.0 y x there.1)

  rest_differ : (x : X) (xs : List X) → AllPairs (λ y z. y ≢ z) (x ∷ xs) → AllPairs (λ y z. y ≢ z) xs
  rest_differ x xs h i j d below within = h (suc i) (suc j) d (omega (arith, below)) (omega (arith, within))

  with_first : (x : X) (xs : List X) → AllPairs (λ y z. y ≢ z) (x ∷ xs) → P x → Chosen xs → Chosen (x ∷ xs)
  with_first x xs h p (ys, lists, few) = (
    x ∷ ys,
    record {
      exact = λ y. (
        λ c. elim (contains_cases x ys y c) [
          | inl is ↦ subst (λ z. Contains (x ∷ xs) z × P z) is (contains_first x xs, p)
          | inr there ↦ let k = (lists.exact y).0 there in (contains_later x xs y k.0, k.1)
        ],
        λ k. elim (contains_cases x xs y k.0) [
          | inl is ↦ subst (Contains (x ∷ ys)) is (contains_first x ys)
          | inr there ↦ contains_later x ys y ((lists.exact y).1 (there, k.1))
        ],
      );
      different = AllPairs-cons (λ y z. y ≢ z) x ys (all_from (λ y. x ≢ y) ys (λ y c. first_differs x xs h y ((lists.exact y).0 c).0)) lists.different;
    },
    omega (arith, few),
  )

  without_first : (x : X) (xs : List X) → (¬ P x) → Chosen xs → Chosen (x ∷ xs)
  without_first x xs lacks (ys, lists, few) = (
    ys,
    record {
      exact = λ y. (
        λ c. let k = (lists.exact y).0 c in (contains_later x xs y k.0, k.1),
        λ k. elim (contains_cases x xs y k.0) [
          | inl is ↦ absurd (lacks (subst P (sym is) k.1))
          | inr there ↦ (lists.exact y).1 (there, k.1)
        ],
      );
      different = lists.different;
    },
    omega (arith, few),
  )

  chosen : (xs : List X) → AllPairs (λ y z. y ≢ z) xs → ((x : X) → Contains xs x → IsDecided (P x)) → Chosen xs
  chosen [] h decide = ([], record { exact = λ y. (λ c. absurd (contains_none y c), λ k. absurd (contains_none y k.0)); different = h }, omega arith)
  chosen (x ∷ xs) h decide =
      let rest = chosen xs (rest_differ x xs h) (λ y c. decide y (contains_later x xs y c)) in
      elim (decide x (contains_first x xs)) [
        | inl p ↦ with_first x xs h p rest
        | inr lacks ↦ without_first x xs lacks rest
      ]

-- ---- maximal sets

rules_decided : (sheet : Sheet) → IsDecided (AreRulesConsistent sheet)
rules_decided sheet = elim (consistency_decided sheet []) [
  | inl h ↦ inl (h.0, h.1.assigns, h.1.fits)
  | inr none ↦ inr (λ h. none (h.0, record { assigns = h.1; fits = h.2; has = All-nil (HasEntry h.0) }))
]

maximal_decided : (sheet : Sheet) (s : List Entry) → AreDifferent sheet.entries → IsSublist sheet.entries s → IsDecided (IsMaximalSet sheet s)
maximal_decided sheet s distinct among =
    let by = by_each_entry sheet s distinct among in
    elim (decide_and (consistency_decided sheet s) (decide_all (IsExcluded sheet s) (λ e. decide_or (decide_contains s e) (decide_not (consistency_decided sheet (e ∷ s)))) sheet.entries)) [
      | inl h ↦ inl (by.1 h)
      | inr none ↦ inr (λ h. none (by.0 h))
    ]

pub sets_few : MaximalSetsAreFew
sets_few sheet formed part =
    let own = sheet_of sheet part in
    let distinct : AreDifferent own.entries = AllPairs-filter (λ (e f : Entry). e ≢ f) (is_on part.cells) sheet.entries formed.entries.distinct in
    let all = sublists_counted own.entries distinct in
    let found = chosen (IsSetOf sheet part) all.0 all.1.different (λ s c. decide_and (rules_decided sheet) (maximal_decided own s distinct ((all.1.exact s).0 c))) in (
      found.0,
      record {
        exact = λ s. (λ c. ((found.1.exact s).0 c).1, λ h. (found.1.exact s).1 ((all.1.exact s).1 h.1.among, h));
        different = found.1.different;
      },
      omega (arith, found.2, all.2),
    )
