-- Which parts start with a word, and where a list of texts is cut.
use Rattle.std.proofs.Common.{◌≡◌, ◌≢◌, ℕ, List, [], ◌∷◌, ◌++◌, get_or, Bor, codes, refl, sym, ◌∙◌, ap}
use Rattle.std.specs.List.{AllByRecursion}
use Rattle.pc_formula.specs.Tree.{Cell, Value}
use Rattle.pc_cert.specs.Written.{WrittenPath, WrittenLiteral, WrittenPart, written_some, written_one, written_rule, written_node_clause, written_atom, written_step, written_block}
use Rattle.pc_cert.specs.Claims.{WrittenPair}
use Rattle.pc_cert.specs.Line.{IsSomeForm, IsOneForm, IsNodeForm, IsAtomForm, IsStep, IsBlockForm, IsPartStarting}
use Rattle.pc_cert.specs.Trees.{seen}
use Rattle.pc_cert.proofs.Words.{differ, heads, tails}

pub only_some : (texts : List (List ℕ)) → ((c : Cell) → IsSomeForm texts c → ⊥) → (part : WrittenPart) → IsPartStarting (codes "some") texts part → ⊥
only_some texts none (written_some c) is = none c is.1
only_some texts none (written_one c v w) is = differ (codes "one") (codes "some") refl is.0
only_some texts none (written_rule n) is = differ (codes "rule") (codes "some") refl is.0
only_some texts none (written_node_clause p i) is = differ (codes "node") (codes "some") refl is.0
only_some texts none (written_atom p reads) is = differ (codes "atom") (codes "some") refl is.0
only_some texts none (written_step ls hints) is = differ (codes "step") (codes "some") refl is.0
only_some texts none (written_block j) is = differ (codes "block") (codes "some") refl is.0

pub only_one : (texts : List (List ℕ)) → ((c : Cell) (v w : Value) → IsOneForm texts c v w → ⊥) → (part : WrittenPart) → IsPartStarting (codes "one") texts part → ⊥
only_one texts none (written_some c) is = differ (codes "some") (codes "one") refl is.0
only_one texts none (written_one c v w) is = none c v w is.1
only_one texts none (written_rule n) is = differ (codes "rule") (codes "one") refl is.0
only_one texts none (written_node_clause p i) is = differ (codes "node") (codes "one") refl is.0
only_one texts none (written_atom p reads) is = differ (codes "atom") (codes "one") refl is.0
only_one texts none (written_step ls hints) is = differ (codes "step") (codes "one") refl is.0
only_one texts none (written_block j) is = differ (codes "block") (codes "one") refl is.0

pub only_node : (texts : List (List ℕ)) → ((p : WrittenPath) (i : ℕ) → IsNodeForm texts p i → ⊥) → (part : WrittenPart) → IsPartStarting (codes "node") texts part → ⊥
only_node texts none (written_some c) is = differ (codes "some") (codes "node") refl is.0
only_node texts none (written_one c v w) is = differ (codes "one") (codes "node") refl is.0
only_node texts none (written_rule n) is = differ (codes "rule") (codes "node") refl is.0
only_node texts none (written_node_clause p i) is = none p i is.1
only_node texts none (written_atom p reads) is = differ (codes "atom") (codes "node") refl is.0
only_node texts none (written_step ls hints) is = differ (codes "step") (codes "node") refl is.0
only_node texts none (written_block j) is = differ (codes "block") (codes "node") refl is.0

pub only_atom : (texts : List (List ℕ)) → ((p : WrittenPath) (reads : List WrittenPair) → IsAtomForm texts p reads → ⊥) → (part : WrittenPart) → IsPartStarting (codes "atom") texts part → ⊥
only_atom texts none (written_some c) is = differ (codes "some") (codes "atom") refl is.0
only_atom texts none (written_one c v w) is = differ (codes "one") (codes "atom") refl is.0
only_atom texts none (written_rule n) is = differ (codes "rule") (codes "atom") refl is.0
only_atom texts none (written_node_clause p i) is = differ (codes "node") (codes "atom") refl is.0
only_atom texts none (written_atom p reads) is = none p reads is.1
only_atom texts none (written_step ls hints) is = differ (codes "step") (codes "atom") refl is.0
only_atom texts none (written_block j) is = differ (codes "block") (codes "atom") refl is.0

pub only_step : (texts : List (List ℕ)) → ((ls : List WrittenLiteral) (hints : List ℕ) → IsStep texts ls hints → ⊥) → (part : WrittenPart) → IsPartStarting (codes "step") texts part → ⊥
only_step texts none (written_some c) is = differ (codes "some") (codes "step") refl is.0
only_step texts none (written_one c v w) is = differ (codes "one") (codes "step") refl is.0
only_step texts none (written_rule n) is = differ (codes "rule") (codes "step") refl is.0
only_step texts none (written_node_clause p i) is = differ (codes "node") (codes "step") refl is.0
only_step texts none (written_atom p reads) is = differ (codes "atom") (codes "step") refl is.0
only_step texts none (written_step ls hints) is = none ls hints is.1
only_step texts none (written_block j) is = differ (codes "block") (codes "step") refl is.0

pub only_block : (texts : List (List ℕ)) → ((j : ℕ) → IsBlockForm texts j → ⊥) → (part : WrittenPart) → IsPartStarting (codes "block") texts part → ⊥
only_block texts none (written_some c) is = differ (codes "some") (codes "block") refl is.0
only_block texts none (written_one c v w) is = differ (codes "one") (codes "block") refl is.0
only_block texts none (written_rule n) is = differ (codes "rule") (codes "block") refl is.0
only_block texts none (written_node_clause p i) is = differ (codes "node") (codes "block") refl is.0
only_block texts none (written_atom p reads) is = differ (codes "atom") (codes "block") refl is.0
only_block texts none (written_step ls hints) is = differ (codes "step") (codes "block") refl is.0
only_block texts none (written_block j) is = none j is.1

-- ---- the first texts of a list

pub seen_first : (texts : List (Bor (List ℕ))) (d : Bor (List ℕ)) (x : List ℕ) (xs : List (List ℕ)) → seen texts ≡ x ∷ xs → (get_or texts 0 d).now ≡ x
seen_first [] d x xs e = absurd (cc)
seen_first (t ∷ ts) d x xs e = heads t.now x (seen ts) xs e

pub seen_second : (texts : List (Bor (List ℕ))) (d : Bor (List ℕ)) (x y : List ℕ) (xs : List (List ℕ)) → seen texts ≡ x ∷ y ∷ xs → (get_or texts 1 d).now ≡ y
seen_second [] d x y xs e = absurd (cc)
seen_second (t ∷ ts) d x y xs e = seen_first ts d y xs (tails t.now x (seen ts) (y ∷ xs) e)

pub seen_third : (texts : List (Bor (List ℕ))) (d : Bor (List ℕ)) (x y z : List ℕ) (xs : List (List ℕ)) → seen texts ≡ x ∷ y ∷ z ∷ xs → (get_or texts 2 d).now ≡ z
seen_third [] d x y z xs e = absurd (cc)
seen_third (t ∷ ts) d x y z xs e = seen_second ts d y z xs (tails t.now x (seen ts) (y ∷ z ∷ xs) e)

-- ---- the first colon

module _ (colon : List ℕ) where
  pub has_none : (xs ys : List (List ℕ)) → AllByRecursion (λ t. t ≢ colon) (xs ++ colon ∷ ys) → ⊥
  has_none [] ys all = all.0 refl
  has_none (x ∷ xs) ys all = has_none xs ys all.1

  -- two ways to cut at the first colon are one
  pub one_cut : (xs ys vs ws : List (List ℕ)) → AllByRecursion (λ t. t ≢ colon) xs → AllByRecursion (λ t. t ≢ colon) vs → xs ++ colon ∷ ys ≡ vs ++ colon ∷ ws → (xs ≡ vs) × (ys ≡ ws)
  one_cut [] ys [] ws a b e = (refl, tails colon colon ys ws e)
  one_cut [] ys (v ∷ vs) ws a b e = absurd (b.0 (sym (heads colon v ys (vs ++ colon ∷ ws) e)))
  one_cut (x ∷ xs) ys [] ws a b e = absurd (a.0 (heads x colon (xs ++ colon ∷ ys) ws e))
  one_cut (x ∷ xs) ys (v ∷ vs) ws a b e =
      let rest = one_cut xs ys vs ws a.1 b.1 (tails x v (xs ++ colon ∷ ys) (vs ++ colon ∷ ws) e) in
      (ap (λ l. x ∷ l) rest.0 ∙ ap (λ h. h ∷ vs) (heads x v (xs ++ colon ∷ ys) (vs ++ colon ∷ ws) e), rest.1)
