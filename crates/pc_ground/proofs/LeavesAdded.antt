-- Leaves that are added one after another.
use Rattle.std.proofs.Common.{◌≡◌, ℕ, zero, suc, ◌+◌, Bool, List, [], ◌∷◌, ◌++◌, append-nil, append_assoc, add-one, length, get_or, Some, slice_get, arith, ap, refl, sym, ◌∙◌}
use Rattle.std.specs.List.{flat_map, zip}
use Rattle.std.proofs.lemmas.Grind.{flat_map-append}
use Rattle.std.proofs.lemmas.Slice.Zip.{length-zip}
use Rattle.pc_sheet.specs.Cells.{values_below}
use Rattle.pc_sheet.specs.Readings.{Reading, known, Leaf, leaves_from, read_of, after, StopsAt}
use Rattle.pc_sheet.specs.declared.ids.ValueId.{ValueId}
use Rattle.pc_sheet.specs.declared.ids.Entry.{Entry}
use Rattle.pc_logic.proofs.AskingLemmas.{leaves_known, leaves_stopped}

-- ---- lists side by side

pub as_many : {K X : Type 0} (ks : List K) (xs : List X) (ps : List (K × X)) → zip ks xs ≡ ps → length ks ≡ length xs → length ps ≡ length xs
as_many ks xs ps e h = omega (arith, ap length e, length-zip ks xs, h)

pub zip_at : {K X : Type 0} (ks : List K) (xs : List X) (i : ℕ) (k : K) (x : X) → slice_get ks i ≡ Some k → slice_get xs i ≡ Some x → slice_get (zip ks xs) i ≡ Some (k, x)
zip_at [] xs i k x h g = absurd (cc)
zip_at (j ∷ js) [] i k x h g = absurd (cc)
zip_at (j ∷ js) (y ∷ ys) zero k x h g = cc
zip_at (j ∷ js) (y ∷ ys) (suc i) k x h g = zip_at js ys i k x h g

zip-push : {K X : Type 0} (ks : List K) (xs : List X) (k : K) (x : X) → length ks ≡ length xs → zip (ks ++ k ∷ []) (xs ++ x ∷ []) ≡ zip ks xs ++ (k, x) ∷ []
zip-push [] [] k x h = refl
zip-push [] (y ∷ ys) k x h = absurd (omega (arith, h))
zip-push (j ∷ js) [] k x h = absurd (omega (arith, h))
zip-push (j ∷ js) (y ∷ ys) k x h = ap (λ ps. (j, y) ∷ ps) (zip-push js ys k x (omega (arith, h)))

-- one more of each
pub pushed : {K X : Type 0} (ks more : List K) (xs longer : List X) (k : K) (x : X) (ps : List (K × X)) → zip ks xs ≡ ps → length ks ≡ length xs → more ≡ ks ++ k ∷ [] → longer ≡ xs ++ x ∷ [] → zip more longer ≡ ps ++ (k, x) ∷ []
pushed ks more xs longer k x ps e h f g = ap (λ js. zip js longer) f ∙ ap (zip (ks ++ k ∷ [])) g ∙ zip-push ks xs k x h ∙ ap (λ qs. qs ++ (k, x) ∷ []) e

-- ---- leaves

module _ (sizes : List ℕ) (r : Reading) (reads : List Entry) where
  pub leaf_known : (old now : List Leaf) (is : Bool) → after reads r ≡ known is → now ≡ old ++ (reads, is) ∷ [] → now ≡ old ++ leaves_from sizes r reads
  leaf_known old now is e added = added ∙ ap (λ ls. old ++ ls) (sym (leaves_known sizes r reads is e))

  abbrev pub longer : ℕ → ValueId → List Leaf
  longer c v = leaves_from sizes r (reads ++ read_of c v ∷ [])

  abbrev tried : ℕ → ℕ → List Leaf
  tried c k = flat_map (longer c) (values_below k)

  one_more : (c k : ℕ) → tried c (suc k) ≡ tried c k ++ longer c (record { 0 = k })
  one_more c k =
      let v : ValueId = record { 0 = k } in
      flat_map-append (longer c) (values_below k) (v ∷ []) ∙ ap (λ ls. tried c k ++ ls) (append-nil (longer c v))

  pub value_tried : (c k : ℕ) (here : List Entry) (old before now : List Leaf) → here ≡ reads ++ read_of c (record { 0 = k }) ∷ [] → before ≡ old ++ tried c k → now ≡ before ++ leaves_from sizes r here → now ≡ old ++ tried c (k + 1)
  value_tried c k here old before now is so added =
      let v : ValueId = record { 0 = k } in
      added ∙ ap (λ es. before ++ leaves_from sizes r es) is ∙ ap (λ ls. ls ++ longer c v) so
      ∙ append_assoc old (tried c k) (longer c v)
      ∙ ap (λ ls. old ++ ls) (sym (one_more c k))
      ∙ ap (λ n. old ++ tried c n) (sym (add-one k))

  pub all_tried : (c k : ℕ) (old before : List Leaf) → StopsAt c (after reads r) → k ≡ get_or sizes c 0 → before ≡ old ++ tried c k → before ≡ old ++ leaves_from sizes r reads
  all_tried c k old before stops e so = so ∙ ap (λ n. old ++ tried c n) e ∙ ap (λ ls. old ++ ls) (sym (leaves_stopped sizes r reads c stops))
