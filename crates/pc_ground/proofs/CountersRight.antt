-- Where the bodies of a counting quantifier have their truth and the clauses of its node and of its counters are true, each counter and the node have theirs: by induction on the number of values.
use Rattle.std.proofs.Common.{◌≡◌, ℕ, zero, suc, ◌+◌, ◌*◌, ◌/◌, ◌%◌, ◌<◌, ◌≤◌, ◌⊎◌, ◌↔◌, inl, inr, Bool, true, false, not, List, [], ◌∷◌, ◌++◌, Contains, refl, ap, sym, ◌∙◌, arith, subst}
use Rattle.std.proofs.lemmas.Bool.{cases_Bool, false≢true}
use Rattle.pc_sheet.specs.Truth.{AtLeast}
use Rattle.pc_sheet.specs.Nodes.{counter_number}
use Rattle.pc_sheet.specs.declared.ids.ValueId.{ValueId}
use Rattle.pc_accept.specs.Literals.{Symbol, Literal}
use Rattle.pc_accept.specs.Axioms.{child_of, signed_node, signed_child}
use Rattle.pc_accept.specs.Literals.{node}
use Rattle.pc_accept.specs.Rows.{Part, fixed, literal, counter_part, count_rows, counter_rows}
use Rattle.pc_accept.proofs.RowsTrue.{PartHolds, RowHolds, RowsHold}
use Rattle.pc_ground.proofs.Rows.{Has}

module _ (value : Symbol → Bool) (r : ℕ) (path : List ℕ) (n m : ℕ) (Body : ValueId → Type 0)
    (bodies : (i : ℕ) → i < n → (value (child_of r path i) ≡ true) ↔ Body (record { 0 = i }))
    (rows : (i j : ℕ) → i < n → j < m → RowsHold (Has value) (counter_rows (signed_node r path) (signed_child r path) n m i j)) where
  abbrev part : ℕ → ℕ → Bool → Part Literal
  part i j b = counter_part (signed_node r path) (signed_child r path) n m i j b

  abbrev Made : ℕ → ℕ → Bool → Type 0
  Made i j b = PartHolds (Has value) (part i j b)

  never : (x : Symbol) → value x ≡ true → value x ≡ false → ⊥
  never x t f = false≢true (sym f ∙ t)

  -- a part is made as it should be, with either sign
  record IsSo (i j : ℕ) : Type 0 where
    yes' : Made i j true → AtLeast Body i j
    no' : Made i j false → ¬ AtLeast Body i j
    either : Made i j true ⊎ Made i j false

  none_yet : (i : ℕ) → IsSo i zero
  none_yet i = record { yes' = λ t. tt; no' = λ f h. false≢true f; either = inl refl }

  none_of_none : (j : ℕ) → IsSo zero (suc j)
  none_of_none j = record { yes' = λ t. absurd (false≢true t); no' = λ f h. h; either = inr refl }

  abbrev counter : ℕ → ℕ → Symbol
  counter i j = child_of r path (counter_number n m (suc i) (suc j))

  found : (i j : ℕ) → i < n → j < m → IsSo i (suc j) → IsSo i j → value (counter i j) ≡ true → AtLeast Body (suc i) (suc j)
  found i j l k before fewer t =
      let all = rows i j l k in
      elim all.0 [
        | inl f ↦ absurd (never (counter i j) t f)
        | inr first ↦ elim first [
          | inl here ↦ inl (before.yes' here)
          | inr last ↦ elim all.1.0 [
            | inl f ↦ absurd (never (counter i j) t f)
            | inr second ↦ elim second [
              | inl here ↦ inl (before.yes' here)
              | inr less ↦ inr (elim less [ inl here ↦ fewer.yes' here | inr none ↦ absurd none ], (bodies i l).0 (elim last [ inl here ↦ here | inr none ↦ absurd none ]))
            ]
          ]
        ]
      ]

  not_found : (i j : ℕ) → i < n → j < m → IsSo i (suc j) → IsSo i j → value (counter i j) ≡ false → ¬ AtLeast Body (suc i) (suc j)
  not_found i j l k before fewer f (inl h) = elim (rows i j l k).1.1.0 [
    | inl t ↦ absurd (never (counter i j) t f)
    | inr rest ↦ elim rest [ inl no_more ↦ before.no' no_more h | inr none ↦ absurd none ]
  ]
  not_found i j l k before fewer f (inr h) = elim (rows i j l k).1.1.1.0 [
    | inl t ↦ absurd (never (counter i j) t f)
    | inr rest ↦ elim rest [
      | inl no_more ↦ fewer.no' no_more h.0
      | inr last ↦ elim last [ inl no_last ↦ absurd (never (child_of r path i) ((bodies i l).1 h.1) no_last) | inr none ↦ absurd none ]
    ]
  ]

  so : (i j : ℕ) → i ≤ n → j ≤ m → IsSo i j
  so i zero l k = none_yet i
  so zero (suc j) l k = none_of_none j
  so (suc i) (suc j) l k =
      let before = so i (suc j) (omega arith) k in
      let fewer = so i j (omega arith) (omega arith) in
      record {
        yes' = λ t. found i j (omega arith) (omega arith) before fewer t;
        no' = λ f. not_found i j (omega arith) (omega arith) before fewer f;
        either = elim (cases_Bool (value (counter i j))) [ inl t ↦ inl t | inr f ↦ inr f ];
      }

  -- each counter's truth
  pub counter_right : (i j : ℕ) → i < n → j < m → (value (counter i j) ≡ true) ↔ AtLeast Body (suc i) (suc j)
  counter_right i j l k =
      let is = so (suc i) (suc j) (omega arith) (omega arith) in
      (is.yes', λ h. elim is.either [ inl t ↦ t | inr f ↦ absurd (is.no' f h) ])

  -- the node's, by its two rows
  pub at_least_right : RowsHold (Has value) (count_rows (signed_node r path) (signed_child r path) n m false) → (value (node r path) ≡ true) ↔ AtLeast Body n m
  at_least_right h =
      let is = so n m (omega arith) (omega arith) in (
        λ t. elim h.0 [ inl f ↦ absurd (never (node r path) t f) | inr rest ↦ elim rest [ inl here ↦ is.yes' here | inr none ↦ absurd none ] ],
        λ many. elim h.1.0 [ inl t ↦ t | inr rest ↦ elim rest [ inl no_more ↦ absurd (is.no' no_more many) | inr none ↦ absurd none ] ],
      )

  pub at_most_right : RowsHold (Has value) (count_rows (signed_node r path) (signed_child r path) n m true) → (value (node r path) ≡ true) ↔ (¬ AtLeast Body n m)
  at_most_right h =
      let is = so n m (omega arith) (omega arith) in (
        λ t many. elim h.0 [ inl f ↦ never (node r path) t f | inr rest ↦ elim rest [ inl no_more ↦ is.no' no_more many | inr none ↦ none ] ],
        λ few. elim h.1.0 [ inl t ↦ t | inr rest ↦ elim rest [ inl here ↦ absurd (few (is.yes' here)) | inr none ↦ absurd none ] ],
      )
