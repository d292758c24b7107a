-- The generated text is the canonical one.
use Rattle.std.proofs.Common.{◌≡◌, Bool, false, cond, ◌||◌, ℕ, zero, suc, ◌<◌, ◌≤◌, ◌+◌, ◌*◌, ◌%◌, List, [], ◌∷◌, ◌++◌, Some, pos, ◌+ℤ◌, codes, map, slice_get, arith, refl, sym, ap, ap₂, ◌∙◌, subst, append_assoc, append-nil, add-zero, one-add, decimal}
use Rattle.std.proofs.lemmas.List.{map-append}
use Rattle.std.proofs.lemmas.List.Concat.{flat_map-append}
use Rattle.std.specs.Fmt.{digits, signed_decimal}
use Rattle.std.specs.List.{flat_map}
use Rattle.std.specs.Prelude.{unwrap_or}
use Rattle.pc_sheet.specs.Sizes.{cell_number}
use Rattle.pc_sheet.specs.Cells.{Application, cells, CellsAreNumberedInOrder}
use Rattle.pc_gen.specs.Text.{up_to, color_name, head_lines, enter_line, block_lines, generated_text, ended}
use Rattle.pc_writer.specs.SheetText as writer
use Rattle.pc_gen.specs.Sheet.{generated_universe, chain, other, entry, block_entries, generated_entries, generated_sheet}
use Rattle.pc_writer.proofs.LaterEntries.{several_none, single_first}
use Rattle.pc_gen.proofs.Formed.{block_size, single}

-- ---- small numbers

one : digits 10 false 1 ≡ codes "1"
unfolding digits
one = refl

two : digits 10 false 2 ≡ codes "2"
unfolding digits
two = refl

three : digits 10 false 3 ≡ codes "3"
unfolding digits
three = refl

four : digits 10 false 4 ≡ codes "4"
unfolding digits
four = refl

-- ---- the lines before the entries

head : (n : ℕ) → codes "sheet 1" ∷ (writer.universe_lines (generated_universe n) ++ map (writer.rule_line (generated_universe n)) (chain ∷ other ∷ [])) ≡ head_lines n
head n = rw (one, two, three, four) refl

-- ---- the lines of entries

color_is : (v : ℕ) → v < 3 → unwrap_or (slice_get (codes "red" ∷ codes "green" ∷ codes "blue" ∷ []) v) [] ≡ color_name v
color_is zero below = refl
color_is (suc zero) below = refl
color_is (suc (suc zero)) below = refl
color_is (suc (suc (suc v))) below = absurd (omega (arith, below))

shape : (block slot color : List ℕ)
    → codes "enter " ++ ((codes "x" ++ (codes "(" ++ ((block ++ ((codes ", " ++ slot) ++ [])) ++ codes ")"))) ++ (codes " = " ++ color))
    ≡ codes "enter x(" ++ (block ++ (codes ", " ++ (slot ++ (codes ") = " ++ color))))
shape block slot color = simp (append_assoc, append-nil) refl

module _ (numbered : CellsAreNumberedInOrder) (n : ℕ) (some : 1 ≤ n) where
  applied : (k s : ℕ) → k < n → s < 4 → slice_get (cells (generated_universe n)) (4 * k + s) ≡ Some (record { family = record { 0 = 0 }; arguments = record { 0 = k } ∷ record { 0 = s } ∷ [] })
  applied k s inside slot =
      let u = generated_universe n in
      let app : Application = record { family = record { 0 = 0 }; arguments = record { 0 = k } ∷ record { 0 = s } ∷ [] } in
      let there = (numbered u).stands app (omega (arith, inside, block_size n some), (slot, tt)) in
      let place : cell_number u app.family app.arguments ≡ 4 * k + s = omega arith in
      subst (λ c. slice_get (cells u) c ≡ Some app) place there

  line : (k s v : ℕ) → k < n → s < 4 → v < 3
      → writer.enter_line (generated_universe n) (entry (4 * k + s) v) ≡ enter_line (suc k) (signed_decimal (pos (suc s))) v
  line k s v inside slot below =
      let d : signed_decimal (pos 1 +ℤ pos k) ≡ decimal (suc k) = ap decimal (one-add k) in
      let e : signed_decimal (pos 1 +ℤ pos s) ≡ signed_decimal (pos (suc s)) = ap decimal (one-add s) in
      let f = color_is v below in
      rw (applied k s inside slot)
      (shape (signed_decimal (pos 1 +ℤ pos k)) (signed_decimal (pos 1 +ℤ pos s)) (unwrap_or (slice_get (codes "red" ∷ codes "green" ∷ codes "blue" ∷ []) v) [])
      ∙ (λ i. codes "enter x(" ++ (d i ++ (codes ", " ++ (e i ++ (codes ") = " ++ f i))))))

  first_line : (k v : ℕ) → k < n → v < 3 → writer.enter_line (generated_universe n) (entry (4 * k) v) ≡ enter_line (suc k) (codes "1") v
  first_line k v inside below =
      ap (λ c. writer.enter_line (generated_universe n) (entry c v)) (sym (add-zero (4 * k))) ∙ line k 0 v inside (omega arith) below ∙ ap (λ s. enter_line (suc k) s v) one

  third_line : (k v : ℕ) → k < n → v < 3 → writer.enter_line (generated_universe n) (entry (4 * k + 2) v) ≡ enter_line (suc k) (codes "3") v
  third_line k v inside below = line k 2 v inside (omega arith) below ∙ ap (λ s. enter_line (suc k) s v) three

  block_lines_are : (k : ℕ) → k ≤ n → map (writer.enter_line (generated_universe n)) (generated_entries k) ≡ flat_map block_lines (up_to k)
  block_lines_are zero within = refl
  block_lines_are (suc k) within =
      let f = writer.enter_line (generated_universe n) in
      let first = first_line k (suc k % 3) (omega (arith, within)) (omega arith) in
      let third = third_line k (suc k * suc k % 3) (omega (arith, within)) (omega arith) in
      let block : map f (block_entries k) ≡ block_lines (suc k) = ap₂ (λ (x y : List ℕ). x ∷ y ∷ []) first third in
      map-append f (generated_entries k) (block_entries k)
      ∙ ap₂ (λ (x y : List (List ℕ)). x ++ y) (block_lines_are k (omega (arith, within))) (block ∙ sym (append-nil (block_lines (suc k))))
      ∙ sym (flat_map-append block_lines (up_to k) (suc k ∷ []))

  -- no cell has two entries, and no rule counts
  none_later : writer.has_several (generated_entries n) ≡ false
  none_later = several_none (generated_entries n) (single n)

  entry_lines_are : writer.entry_lines (generated_universe n) (generated_entries n) ≡ flat_map block_lines (up_to n)
  entry_lines_are = single_first (generated_universe n) (generated_entries n) none_later ∙ block_lines_are n (omega arith)

  pub canonical : generated_text n ≡ writer.sheet_text (generated_sheet n)
  canonical = ap (flat_map ended) (sym (
      ap₂ (λ (several : Bool) (es : List (List ℕ)). cond (several || false) (codes "sheet 2") (codes "sheet 1") ∷ (writer.universe_lines (generated_universe n) ++ (map (writer.rule_line (generated_universe n)) (chain ∷ other ∷ []) ++ (es ++ codes "begin" ∷ [])))) none_later entry_lines_are
      ∙ ap (λ (hs : List (List ℕ)). hs ++ (flat_map block_lines (up_to n) ++ codes "begin" ∷ [])) (head n)))
