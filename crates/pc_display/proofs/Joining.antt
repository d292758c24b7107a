-- Texts with commas between them: one more, and a front of them.
use Rattle.std.proofs.Common.{◌≡◌, ℕ, Bool, true, false, List, [], ◌∷◌, ◌++◌, codes, Option, None, Some, refl, sym, ap, ◌∙◌, append_assoc, append-nil}
use Rattle.std.specs.List.{flat_map}
use Rattle.std.proofs.lemmas.List.Concat.{flat_map-append}
use Rattle.pc_sheet.specs.Sheet.{Universe}
use Rattle.pc_sheet.specs.declared.ids.SortId.{SortId}
use Rattle.pc_sheet.specs.declared.ids.ValueId.{ValueId}
use Rattle.pc_sheet.specs.declared.ids.Entry.{Entry}
use Rattle.pc_writer.specs.Spelling.{joined, value_text}
use Rattle.pc_display.specs.Show.{listed_texts}
use Rattle.pc_display.specs.Grid.{implied_text}
use Rattle.pc_display.specs.inside.Columns.{next_text, some_more}

abbrev commas : List (List ℕ) → List ℕ
commas texts = joined (codes ", ") texts

abbrev behind : List (List ℕ) → List ℕ
behind texts = flat_map (λ other. codes ", " ++ other) texts

-- whether there is a text
abbrev pub is_any : List (List ℕ) → Bool
is_any [] = false
is_any (text ∷ texts) = true

pub joined_push : (texts : List (List ℕ)) (text : List ℕ) → joined (codes ", ") (texts ++ text ∷ []) ≡ joined (codes ", ") texts ++ next_text (is_any texts) (text ∷ [])
joined_push [] text = append-nil text
joined_push (first ∷ texts) text =
    ap (λ rest. first ++ rest) (flat_map-append (λ other. codes ", " ++ other) texts (text ∷ []) ∙ ap (λ last. behind texts ++ last) (append-nil (codes ", " ++ text)))
    ∙ sym (append_assoc first (behind texts) (codes ", " ++ text))

module _ (u : Universe) (s : SortId) (v : ValueId) where
  pub joined_next : (texts : List (List ℕ)) (found : Option (List Entry)) → joined (codes ", ") (texts ++ implied_text u s v found) ≡ joined (codes ", ") texts ++ next_text (is_any texts) (implied_text u s v found)
  joined_next texts None = ap commas (append-nil texts) ∙ sym (append-nil (commas texts))
  joined_next texts (Some support) = joined_push texts (value_text u s v)

  pub any_next : (texts : List (List ℕ)) (found : Option (List Entry)) → is_any (texts ++ implied_text u s v found) ≡ some_more (is_any texts) (implied_text u s v found)
  any_next texts None = ap is_any (append-nil texts)
  any_next [] (Some support) = refl
  any_next (text ∷ texts) (Some support) = refl

-- what is written behind the first texts
pub joined_front : (texts more : List (List ℕ)) → (rest : List ℕ) × (joined (codes ", ") (texts ++ more) ≡ joined (codes ", ") texts ++ rest)
joined_front [] more = (commas more, refl)
joined_front (first ∷ texts) more =
    (behind more, ap (λ rest. first ++ rest) (flat_map-append (λ other. codes ", " ++ other) texts more) ∙ sym (append_assoc first (behind texts) (behind more)))

-- a dash, where there are no texts
abbrev dash_of : List (List ℕ) → List ℕ
dash_of [] = codes "-"
dash_of (text ∷ texts) = []

listed_is : (texts : List (List ℕ)) → listed_texts texts ≡ joined (codes ", ") texts ++ dash_of texts
listed_is [] = refl
listed_is (text ∷ texts) = sym (append-nil (commas (text ∷ texts)))

pub listed_some : (texts : List (List ℕ)) → true ≡ is_any texts → joined (codes ", ") texts ≡ listed_texts texts
listed_some [] some = absurd (cc)
listed_some (text ∷ texts) some = refl

pub listed_none : (texts : List (List ℕ)) → false ≡ is_any texts → joined (codes ", ") texts ++ codes "-" ≡ listed_texts texts
listed_none [] none = refl
listed_none (text ∷ texts) none = absurd (cc)

-- a listing begins with its first texts and the next one
pub listed_front : (u : Universe) (s : SortId) (v : ValueId) (texts : List (List ℕ)) (found : Option (List Entry)) (more : List (List ℕ))
    → (rest : List ℕ) × (listed_texts (texts ++ (implied_text u s v found ++ more)) ≡ joined (codes ", ") texts ++ (next_text (is_any texts) (implied_text u s v found) ++ rest))
listed_front u s v texts found more =
    let next = implied_text u s v found in
    let all = texts ++ (next ++ more) in
    let front = joined_front (texts ++ next) more in
    let written = next_text (is_any texts) next in (
      front.0 ++ dash_of all,
      listed_is all
          ∙ ap (λ whole. whole ++ dash_of all) (ap commas (sym (append_assoc texts next more)) ∙ front.1 ∙ ap (λ text. text ++ front.0) (joined_next u s v texts found))
          ∙ append_assoc (commas texts ++ written) front.0 (dash_of all)
          ∙ append_assoc (commas texts) written (front.0 ++ dash_of all),
    )
