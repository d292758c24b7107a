-- The labels of an asked sheet's cells, from those of the sheet's parts.
use Rattle.std.proofs.Common.{◌≡◌, ℕ, zero, suc, ◌+◌, ◌-◌, ◌<◌, ◌≤◌, ◌==◌, Bool, true, false, cond, List, [], ◌∷◌, ◌++◌, map, length, Some, slice_get, slice_index_or, append-nil, append_assoc, eqb-true, eq-eqb, refl, ap, sym, ◌∙◌, subst, arith}
use Rattle.std.specs.List.{filter, flat_map, range_with_len}
use Rattle.std.proofs.lemmas.Bool.{false≢true}
use Rattle.std.proofs.lemmas.List.{ext_get_or, length-append, length-map, map-append}
use Rattle.std.proofs.lemmas.List.Concat.{flat_map-append}
use Rattle.pc_lemmas.proofs.Options.{same_some}
use Rattle.pc_sheet.specs.Sheet.{Universe, Sheet, Statement, NamedStatement, negation}
use Rattle.pc_sheet.specs.WellFormed.{IsWellFormed}
use Rattle.pc_accept.specs.Asked.{denial, asked}
use Rattle.pc_parts.specs.Pieces.{Piece, piece, pieces, pieces_below, pieces_from}
use Rattle.pc_parts.specs.Parts.{Part, cell_count}
use Rattle.pc_parts.specs.Leaves.{cells_of}
use Rattle.pc_parts.specs.Components.{label_of, relabeled, all_relabeled, all_cells, pairs_of, labels_of, is_labeled, part_of_first, parts_of}
use Rattle.pc_parts.proofs.Labels.{label_joined, label_le, joined_label, label_there}
use Rattle.pc_components.specs.View.{Kept, AreComponentsOf, number_of, cells_of_part}
use Rattle.pc_components.specs.inside.Numbers.{AreOwn}
use Rattle.pc_components.specs.inside.Owners.{cell_number_by}
use Rattle.pc_components.specs.inside.Tied.{first_by, firsts_by_number}
use Rattle.pc_components.proofs.KeptRight.{mapped}
use Rattle.pc_components.proofs.OwnedByParts.{cell_part, cells_at}
use Rattle.pc_components.proofs.PartNumbersRight.{labels_length}

-- ---- the last piece of an asked sheet

pub at_last : {X : Type 0} (xs : List X) (x : X) → slice_get (xs ++ x ∷ []) (length xs) ≡ Some x
at_last [] x = refl
at_last (y ∷ ys) x = at_last ys x

pub last_is : {X : Type 0} (xs all : List X) (x y : X) → all ≡ xs ++ x ∷ [] → slice_get all (length all - 1) ≡ Some y → x ≡ y
last_is xs all x y is at =
    let place : length all - 1 ≡ length xs = omega (arith, ap length is, length-append xs (x ∷ [])) in
    same_some (sym (at_last xs x) ∙ (ap (λ ys. slice_get ys (length xs)) (sym is) ∙ (ap (slice_get all) (sym place) ∙ at)))

pub pieces_pushed : (u : Universe) (f : Statement) (r : ℕ) (rules : List NamedStatement) → (k : ℕ) × (pieces_from u r (rules ++ denial f ∷ []) ≡ pieces_from u r rules ++ piece k [] [] (negation f) ∷ [])
pieces_pushed u f r [] = (r, refl)
pieces_pushed u f r (rule ∷ rules) =
    let rest = pieces_pushed u f (r + 1) rules in
    (rest.0, ap (λ ps. pieces_below u r [] [] rule.states ++ ps) rest.1 ∙ sym (append_assoc (pieces_below u r [] [] rule.states) (pieces_from u (r + 1) rules) (piece rest.0 [] [] (negation f) ∷ [])))

pub some_pieces : (sheet : Sheet) (f : Statement) (book : Sheet) → book ≡ asked sheet f → 0 < length (map (cells_of book.universe) (pieces book))
some_pieces sheet f book is = subst (λ (b : Sheet). 0 < length (map (cells_of b.universe) (pieces b))) (sym is) by
  where
    by : 0 < length (map (cells_of sheet.universe) (pieces (asked sheet f)))
    by =
        let pushed = pieces_pushed sheet.universe f 0 sheet.rules in
        omega (arith, length-map (pieces (asked sheet f)) (cells_of sheet.universe), ap length pushed.1, length-append (pieces sheet) (piece pushed.0 [] [] (negation f) ∷ []))

-- ---- one piece more ties its cells

all_more : (xs ys : List (List ℕ)) (labels : List ℕ) → all_relabeled (xs ++ ys) labels ≡ all_relabeled ys (all_relabeled xs labels)
all_more [] ys labels = refl
all_more (x ∷ xs) ys labels = all_more xs ys (relabeled x labels)

labels_pushed : (u : Universe) (ps : List Piece) (last : Piece) (labels : List ℕ)
    → all_relabeled (flat_map pairs_of (map (cells_of u) (ps ++ last ∷ []))) labels ≡ all_relabeled (pairs_of (cells_of u last)) (all_relabeled (flat_map pairs_of (map (cells_of u) ps)) labels)
labels_pushed u ps last labels =
    let rows = map (cells_of u) ps in
    ap (λ rs. all_relabeled (flat_map pairs_of rs) labels) (map-append (cells_of u) ps (last ∷ []))
    ∙ ap (λ qs. all_relabeled qs labels) (flat_map-append pairs_of rows (cells_of u last ∷ []) ∙ ap (λ qs. flat_map pairs_of rows ++ qs) (append-nil (pairs_of (cells_of u last))))
    ∙ all_more (flat_map pairs_of rows) (pairs_of (cells_of u last)) labels

pub labels_asked : (sheet : Sheet) (f : Statement) (book : Sheet) → book ≡ asked sheet f → (rows : List (List ℕ)) (reads : List ℕ) → rows ≡ map (cells_of book.universe) (pieces book) → slice_get rows (length rows - 1) ≡ Some reads
    → labels_of book ≡ all_relabeled (pairs_of reads) (labels_of sheet)
labels_asked sheet f book is rows reads rows_are at =
    let u = sheet.universe in
    let pushed = pieces_pushed u f 0 sheet.rules in
    let last : Piece = piece pushed.0 [] [] (negation f) in
    let all : rows ≡ map (cells_of u) (pieces sheet) ++ cells_of u last ∷ [] =
    rows_are ∙ ap (λ (b : Sheet). map (cells_of b.universe) (pieces b)) is ∙ ap (map (cells_of u)) pushed.1 ∙ map-append (cells_of u) (pieces sheet) (last ∷ []) in
    let same : cells_of u last ≡ reads = last_is (map (cells_of u) (pieces sheet)) rows (cells_of u last) reads all at in
    ap labels_of is ∙ ap (λ ps. all_relabeled (flat_map pairs_of (map (cells_of u) ps)) (all_cells u)) pushed.1 ∙ labels_pushed u (pieces sheet) last (all_cells u)
    ∙ ap (λ cells. all_relabeled (pairs_of cells) (labels_of sheet)) same

-- ---- the label of a kept part's cells

first_kept : (p : ℕ → Bool) (m a n f : ℕ) → a + n ≤ m → a ≤ f → f < a + n → p f ≡ true → ((d : ℕ) → d < m → p d ≡ true → f ≤ d) → slice_index_or (filter p (range_with_len a n)) 0 0 ≡ f
first_kept p m a zero f w l b is least = absurd (omega (arith, l, b))
first_kept p m a (suc n) f w l b is least = by (a == f) refl (λ differ. first_kept p m (a + 1) n f (omega (arith, w)) (omega (arith, l, differ)) (omega (arith, b)) is least)
  where
    other : (c : Bool) → p a ≡ c → (a ≡ f → ⊥) → slice_index_or (filter p (range_with_len (a + 1) n)) 0 0 ≡ f → slice_index_or (cond c (a ∷ filter p (range_with_len (a + 1) n)) (filter p (range_with_len (a + 1) n))) 0 0 ≡ f
    other true passes differ rest = let k = least a (omega (arith, w)) passes in absurd (differ (omega (arith, l, k)))
    other false fails differ rest = rest

    by : (c : Bool) → (a == f) ≡ c → ((a ≡ f → ⊥) → slice_index_or (filter p (range_with_len (a + 1) n)) 0 0 ≡ f) → slice_index_or (cond (p a) (a ∷ filter p (range_with_len (a + 1) n)) (filter p (range_with_len (a + 1) n))) 0 0 ≡ f
    by true e next =
        let same : a ≡ f = eqb-true a f e in
        ap (λ c. slice_index_or (cond c (a ∷ filter p (range_with_len (a + 1) n)) (filter p (range_with_len (a + 1) n))) 0 0) (ap p same ∙ is) ∙ same
    by false e next =
        let differ : a ≡ f → ⊥ = λ same. false≢true (sym e ∙ eq-eqb a f same) in
        other (p a) refl differ (next differ)

get_by : {X : Type 0} (xs : List X) (k : ℕ) (d x : X) → slice_get xs k ≡ Some x → slice_index_or xs k d ≡ x
get_by [] k d x h = absurd (cc)
get_by (y ∷ ys) zero d x h = same_some h
get_by (y ∷ ys) (suc k) d x h = get_by ys k d x h

module _ (sheet : Sheet) (formed : IsWellFormed sheet) where
  abbrev u : Universe
  u = sheet.universe

  abbrev labels : List ℕ
  labels = labels_of sheet

  own_label : (c : ℕ) → c < cell_count u → label_of labels (label_of labels c) ≡ label_of labels c
  own_label c l = sym (joined_label sheet formed c (label_of labels c) (label_joined sheet formed c l))

  pub own_labels : AreOwn labels
  own_labels = record {
    least = λ c l. label_le sheet formed c (low c l);
    own = λ c l. own_label c (low c l);
  }
    where
      low : (c : ℕ) → c < length labels → c < cell_count u
      low c l = let e = labels_length sheet in omega (arith, l, e)

  -- a part's first cell is the label of its cells
  first_label : (f : ℕ) → f < cell_count u → label_of labels f ≡ f → slice_index_or (part_of_first sheet labels f).cells 0 0 ≡ f
  first_label f l own =
      first_kept (is_labeled labels f) (cell_count u) 0 (cell_count u) f (omega arith) (omega arith) (omega (arith, l)) (eq-eqb (label_of labels f) f own)
      (λ d low is. let e = eqb-true (label_of labels d) f is in let k = label_le sheet formed d low in omega (arith, e, k))

  module _ (kept : Kept) (are : AreComponentsOf sheet kept) where
    abbrev rows : List (List ℕ)
    rows = map (map number_of) kept.cells

    label_kept : (c : ℕ) → c < cell_count u → (i : ℕ) × (slice_get kept.numbers c ≡ Some i) × (first_by rows i ≡ label_of labels c)
    label_kept c l =
        let n = are.numbers c l in
        let i = n.0 in
        let part = n.2.0 in
        let at = n.2.1 in
        let number : cell_number_by u labels c ≡ i = (cells_at sheet formed c l i part at).1 n.2.2 in
        let same : part_of_first sheet labels (label_of labels c) ≡ part = same_some (sym (cell_part sheet formed c l) ∙ ap (slice_get (parts_of sheet)) number ∙ at) in
        let row : slice_index_or rows i [] ≡ part.cells = get_by rows i [] part.cells (ap (λ rs. slice_get rs i) are.cells ∙ mapped cells_of_part (parts_of sheet) i part at) in
        (i, n.1, ap (λ cs. slice_index_or cs 0 0) (row ∙ sym (ap (λ (x : Part). x.cells) same)) ∙ first_label (label_of labels c) (label_there sheet formed c l) (own_label c l))

    pub labels_kept : firsts_by_number rows kept.numbers ≡ labels
    labels_kept =
        ext_get_or 0 (map (first_by rows) kept.numbers) labels (length-map kept.numbers (first_by rows) ∙ are.many_numbers ∙ sym (labels_length sheet))
        (λ c l.
        let low : c < cell_count u = (let e = length-map kept.numbers (first_by rows) in let m = are.many_numbers in omega (arith, l, e, m)) in
        let k = label_kept c low in
        get_by (map (first_by rows) kept.numbers) c 0 (first_by rows k.0) (mapped (first_by rows) kept.numbers c k.0 k.1) ∙ k.2)
