-- Texts are at most one part of a derivation.
use Rattle.std.proofs.Common.{◌≡◌, ◌≢◌, ℕ, List, [], ◌∷◌, ◌++◌, refl, sym, ◌∙◌, ap, ap₂, subst}
use Rattle.std.specs.Prelude.{codes}
use Rattle.std.specs.List.{AllByRecursion}
use Rattle.pc_formula.specs.Tree.{Cell, Value}
use Rattle.pc_cert.specs.Written.{WrittenPath, WrittenLiteral, WrittenPart, written_some, written_one, written_rule, written_node_clause, written_atom, written_step, written_block}
use Rattle.pc_cert.specs.Claims.{WrittenPair}
use Rattle.pc_cert.specs.Texts.{IsCellText, IsValueText, IsReadText, IsNumberText, IsPathText, IsLiteralText, AreAll}
use Rattle.pc_cert.specs.Line.{IsSomeForm, IsOneForm, IsNodeForm, IsAtomForm, IsStep, IsBlockForm, part_word, FollowsPart, IsPartForm, IsDerivationForm}
use Rattle.pc_cert.proofs.TestsDiffer.{heads, tails, differ}
use Rattle.pc_cert.proofs.ReadTexts.{IsUnambiguous, are_all_once, number_once, path_once, cell_once, value_once, read_once, literal_once}

-- ---- the first colon

module _ (colon : List ℕ) where
  one_cut : (xs ys vs ws : List (List ℕ)) → AllByRecursion (λ t. t ≢ colon) xs → AllByRecursion (λ t. t ≢ colon) vs → xs ++ colon ∷ ys ≡ vs ++ colon ∷ ws → (xs ≡ vs) × (ys ≡ ws)
  one_cut [] ys [] ws a b e = (refl, tails colon colon ys ws e)
  one_cut [] ys (v ∷ vs) ws a b e = absurd (b.0 (sym (heads colon v ys (vs ++ colon ∷ ws) e)))
  one_cut (x ∷ xs) ys [] ws a b e = absurd (a.0 (heads x colon (xs ++ colon ∷ ys) ws e))
  one_cut (x ∷ xs) ys (v ∷ vs) ws a b e =
      let rest = one_cut xs ys vs ws a.1 b.1 (tails x v (xs ++ colon ∷ ys) (vs ++ colon ∷ ws) e) in
      (ap₂ (λ l ls. l ∷ ls) (heads x v (xs ++ colon ∷ ys) (vs ++ colon ∷ ws) e) rest.0, rest.1)

module _ (laws : IsUnambiguous) where
  some_once : (texts : List (List ℕ)) (c d : Cell) → IsSomeForm texts c → IsSomeForm texts d → c ≡ d
  some_once texts c d a b =
      let same = heads a.cell b.cell [] [] (sym a.are ∙ b.are) in
      cell_once laws b.cell c d (subst (λ t. IsCellText t c) same a.is_cell) b.is_cell

  one_once : (texts : List (List ℕ)) (c d : Cell) (v w x y : Value) → IsOneForm texts c v w → IsOneForm texts d x y → written_one c v w ≡ written_one d x y
  one_once texts c d v w x y a b =
      let all = sym a.are ∙ b.are in
      let cells : a.cell ≡ b.cell = cc in
      let firsts : a.first ≡ b.first = cc in
      let seconds : a.second ≡ b.second = cc in
      ap (λ e. written_one e v w) (cell_once laws b.cell c d (subst (λ t. IsCellText t c) cells a.is_cell) b.is_cell)
      ∙ ap (λ z. written_one d z w) (value_once laws b.first v x (subst (λ t. IsValueText t v) firsts a.is_first) b.is_first)
      ∙ ap (λ z. written_one d x z) (value_once laws b.second w y (subst (λ t. IsValueText t w) seconds a.is_second) b.is_second)

  node_once : (texts : List (List ℕ)) (p q : WrittenPath) (i j : ℕ) → IsNodeForm texts p i → IsNodeForm texts q j → written_node_clause p i ≡ written_node_clause q j
  node_once texts p q i j a b =
      let all = sym a.are ∙ b.are in
      let paths : a.path ≡ b.path = cc in
      let numbers : a.number ≡ b.number = cc in
      ap₂ written_node_clause (path_once b.path p q (subst (λ t. IsPathText t p) paths a.is_path) b.is_path)
      (number_once b.number i j (subst (λ t. IsNumberText t i) numbers a.is_number) b.is_number)

  atom_once : (texts : List (List ℕ)) (p q : WrittenPath) (xs ys : List WrittenPair) → IsAtomForm texts p xs → IsAtomForm texts q ys → written_atom p xs ≡ written_atom q ys
  atom_once texts p q xs ys a b =
      let all = sym a.are ∙ b.are in
      let paths = heads a.path b.path a.others b.others all in
      let others = tails a.path b.path a.others b.others all in
      ap₂ written_atom (path_once b.path p q (subst (λ t. IsPathText t p) paths a.is_path) b.is_path)
      (are_all_once IsReadText (read_once laws) b.others xs ys (subst (λ ts. AreAll IsReadText ts xs) others a.are_reads) b.are_reads)

  step_once : (texts : List (List ℕ)) (ls ms : List WrittenLiteral) (hs is : List ℕ) → IsStep texts ls hs → IsStep texts ms is → written_step ls hs ≡ written_step ms is
  step_once texts ls ms hs is a b =
      let cut = one_cut (codes ":") a.literals a.hints b.literals b.hints a.first b.first (sym a.parted ∙ b.parted) in
      ap₂ written_step (are_all_once IsLiteralText (literal_once laws) b.literals ls ms (subst (λ ts. AreAll IsLiteralText ts ls) cut.0 a.clause) b.clause)
      (are_all_once IsNumberText number_once b.hints hs is (subst (λ ts. AreAll IsNumberText ts hs) cut.1 a.lines) b.lines)

  block_once : (texts : List (List ℕ)) (j k : ℕ) → IsBlockForm texts j → IsBlockForm texts k → j ≡ k
  block_once texts j k a b =
      let same = heads a.number b.number [] [] (sym a.are ∙ b.are) in
      number_once b.number j k (subst (λ t. IsNumberText t j) same a.is_number) b.is_number

  -- the word that starts a part decides its form
  follows_once : (texts : List (List ℕ)) (p q : WrittenPart) → part_word p ≡ part_word q → FollowsPart p texts → FollowsPart q texts → p ≡ q
  follows_once texts (written_some c) (written_some d) e a b = ap written_some (some_once texts c d a b)
  follows_once texts (written_one c v w) (written_one d x y) e a b = one_once texts c d v w x y a b
  follows_once texts (written_rule n) (written_rule m) e a b = ap written_rule (heads n m [] [] (sym a.0 ∙ b.0))
  follows_once texts (written_node_clause p i) (written_node_clause q j) e a b = node_once texts p q i j a b
  follows_once texts (written_atom p xs) (written_atom q ys) e a b = atom_once texts p q xs ys a b
  follows_once texts (written_step ls hs) (written_step ms is) e a b = step_once texts ls ms hs is a b
  follows_once texts (written_block j) (written_block k) e a b = ap written_block (block_once texts j k a b)
  follows_once texts p q e a b = absurd (differ (part_word p) (part_word q) refl e)

  part_once : (texts : List (List ℕ)) (p q : WrittenPart) → IsPartForm texts p → IsPartForm texts q → p ≡ q
  part_once texts p q a b =
      let all = sym a.are ∙ b.are in
      let words = heads (part_word p) (part_word q) a.more b.more all in
      let rest = tails (part_word p) (part_word q) a.more b.more all in
      follows_once b.more p q words (subst (λ ts. FollowsPart p ts) rest a.follows) b.follows

  pub derivation_once : (texts : List (List ℕ)) (m n : ℕ) (p q : WrittenPart) → IsDerivationForm texts m p → IsDerivationForm texts n q → (m ≡ n) × (p ≡ q)
  derivation_once texts m n p q a b =
      let all = sym a.are ∙ b.are in
      let numbers = heads a.number b.number a.more b.more all in
      let rest = tails a.number b.number a.more b.more all in
      (number_once b.number m n (subst (λ t. IsNumberText t m) numbers a.counts) b.counts, part_once b.more p q (subst (λ ts. IsPartForm ts p) rest a.is) b.is)
