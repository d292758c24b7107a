-- The numbers that the plain program gives an axiom are those of the parts that it is of.
use Rattle.std.proofs.Common.{◌≡◌, ℕ, zero, suc, ◌+◌, ◌<◌, ◌⊎◌, ◌↔◌, ◌==◌, inl, inr, Bool, true, false, cond, List, [], ◌∷◌, ◌++◌, map, length, All, AllPairs, Contains, Some, slice_get, eqb-true, eq-eqb, refl, ap, sym, ◌∙◌, subst, arith, zero-add}
use Rattle.std.specs.List.{filter, AllZip}
use Rattle.std.proofs.lemmas.Bool.{false≢true}
use Rattle.std.proofs.lemmas.List.{length-map}
use Rattle.std.proofs.lemmas.List.Elements.{All-nil, All-cons, All-append, All-weaker, All-contains}
use Rattle.std.proofs.lemmas.List.Kept.{AllPairs-filter}
use Rattle.pc_sheet.specs.Sheet.{Universe, Sheet, NamedStatement}
use Rattle.pc_sheet.specs.Entailment.{cell_sizes}
use Rattle.pc_sheet.specs.WellFormed.{IsWellFormed}
use Rattle.pc_accept.specs.Axioms.{Axiom, axiom_some, axiom_one, axiom_rule, axiom_node, axiom_atom}
use Rattle.pc_parts.specs.Pieces.{Piece, pieces}
use Rattle.pc_parts.specs.Leaves.{cells_of, cells_under}
use Rattle.pc_parts.specs.Parts.{Part, cell_count, part_without_cells}
use Rattle.pc_parts.specs.Components.{label_of, all_cells, labels_of, is_labeled, are_labeled, are_no_cells, part_of_first, parts_of}
use Rattle.pc_lemmas.proofs.Elements.{contains_first, contains_later, contains_cases, contains_none, kept, kept_is}
use Rattle.pc_parts.proofs.Found.{range_has, range_order, in_part, of_part}
use Rattle.pc_parts.proofs.Labels.{label_joined, joined_label, label_there}
use Rattle.pc_parts.proofs.LeafReads.{leaves_read_the_cells}
use Rattle.pc_parts.proofs.ReadWithin.{reads_cells}
use Rattle.pc_ground.specs.Ground.{GroundAxiom, cell_axioms, cells_axioms, node_axioms, root_axiom, rule_axioms, rules_axioms}
use Rattle.pc_components.specs.PartAxioms.{IsAxiomOfPart}
use Rattle.pc_components.specs.inside.Owners.{of_one, Touches, AreOwners, firsts_by, place_in, cell_number_by, number_by, owners_of_cells, owners_of_rules, OwnersAreParts}
use Rattle.pc_components.proofs.Inside.{IsInside, inside}
use Rattle.pc_lemmas.proofs.Options.{same_some}
use Rattle.pc_components.proofs.Owned.{zip_append, zip_one, zip_wider, slice_left, owners_are_found}
use Rattle.pc_components.proofs.PartFor.{slice_map}
use Rattle.pc_components.proofs.Symbols.{IsOfCell, cell_named}

-- ---- places in a list

place_is : (fs : List ℕ) (f : ℕ) → Contains fs f → slice_get fs (place_in fs f) ≡ Some f
place_is [] f h = absurd (contains_none f h)
place_is (g ∷ gs) f h = by (place_is gs f) (g == f) refl
  where
    by : (Contains gs f → slice_get gs (place_in gs f) ≡ Some f) → (b : Bool) → (g == f) ≡ b → slice_get (g ∷ gs) (place_in (g ∷ gs) f) ≡ Some f
    by rest true e = ap (λ b. slice_get (g ∷ gs) (cond b 0 (suc (place_in gs f)))) e ∙ ap Some (eqb-true g f e)
    by rest false e = ap (λ b. slice_get (g ∷ gs) (cond b 0 (suc (place_in gs f)))) e ∙ elim (contains_cases g gs f h) [
      | inl same ↦ absurd (false≢true (sym e ∙ eq-eqb g f same))
      | inr later ↦ rest later
    ]

pub slice_in : {X : Type 0} (xs : List X) (k : ℕ) (x : X) → slice_get xs k ≡ Some x → Contains xs x
slice_in [] k x h = absurd (cc)
slice_in (y ∷ ys) zero x h = subst (Contains (y ∷ ys)) (same_some h) (contains_first y ys)
slice_in (y ∷ ys) (suc k) x h = contains_later y ys x (slice_in ys k x h)

-- in order no number stands twice
ahead : (f : ℕ) (fs : List ℕ) → AllPairs (λ c d. c < d) (f ∷ fs) → (g : ℕ) → Contains fs g → f < g
ahead f fs order g h = subst (λ x. f < x) h.2 (order 0 (suc h.0) g (omega arith) (omega (arith, h.1)))

one_place : (fs : List ℕ) → AllPairs (λ c d. c < d) fs → (j k f : ℕ) → slice_get fs j ≡ Some f → slice_get fs k ≡ Some f → j ≡ k
one_place [] order j k f h l = absurd (cc)
one_place (g ∷ gs) order zero zero f h l = refl
one_place (g ∷ gs) order zero (suc k) f h l = absurd (let below : g < f = ahead g gs order f (slice_in gs k f l) in let same : g ≡ f = same_some h in omega arith)
one_place (g ∷ gs) order (suc j) zero f h l = absurd (let below : g < f = ahead g gs order f (slice_in gs j f h) in let same : g ≡ f = same_some l in omega arith)
one_place (g ∷ gs) order (suc j) (suc k) f h l = ap suc (one_place gs (λ i m d below within. order (suc i) (suc m) d (omega arith) (omega arith)) j k f h l)

-- what stands at a place of two lists
pub at_place : {X Y : Type 0} (f : X → Y) (xs : List X) (ys : List Y) (i : ℕ) (y : Y) → slice_get (map f xs ++ ys) i ≡ Some y
    → ((x : X) × (slice_get xs i ≡ Some x) × (f x ≡ y)) ⊎ ((k : ℕ) × (i ≡ length xs + k) × (slice_get ys k ≡ Some y))
at_place f [] ys i y h = inr (i, sym (zero-add i), h)
at_place f (x ∷ xs) ys zero y h = inl (x, refl, same_some h)
at_place f (x ∷ xs) ys (suc i) y h = elim (at_place f xs ys i y h) [
  | inl k ↦ inl k
  | inr k ↦ let is = k.1 in inr (k.0, omega arith, k.2)
]

slice_right : {X : Type 0} (xs ys : List X) (y : X) → slice_get (xs ++ y ∷ ys) (length xs) ≡ Some y
slice_right [] ys y = refl
slice_right (x ∷ xs) ys y = slice_right xs ys y

-- ---- numbers of parts

module _ (sheet : Sheet) (formed : IsWellFormed sheet) where
  abbrev u : Universe
  u = sheet.universe

  abbrev labels : List ℕ
  labels = labels_of sheet

  abbrev fs : List ℕ
  fs = firsts_by u labels

  abbrev part_of : ℕ → Part
  part_of f = part_of_first sheet labels f

  abbrev read_none : List Piece
  read_none = filter (λ p. are_no_cells (cells_of u p)) (pieces sheet)

  in_order : AllPairs (λ c d. c < d) fs
  in_order = AllPairs-filter (λ c d. c < d) (λ c. is_labeled labels c c) (all_cells u) (range_order 0 (cell_count u))

  pub label_first : (c : ℕ) → c < cell_count u → Contains fs (label_of labels c)
  label_first c l =
      let f = label_of labels c in
      kept (λ d. is_labeled labels d d) (all_cells u) f (range_has (cell_count u) f (label_there sheet formed c l))
      (eq-eqb (label_of labels f) f (sym (joined_label sheet formed c f (label_joined sheet formed c l))))

  -- the part at the number of a cell's part
  pub cell_part : (c : ℕ) → c < cell_count u → slice_get (parts_of sheet) (cell_number_by u labels c) ≡ Some (part_of (label_of labels c))
  cell_part c l =
      let f = label_of labels c in
      slice_left (map part_of fs) (part_without_cells read_none) (place_in fs f) (part_of f) (slice_map part_of fs (place_in fs f) f (place_is fs f (label_first c l)))

  -- the number at which a part with that first cell stands
  number_is : (i f : ℕ) → slice_get fs i ≡ Some f → place_in fs f ≡ i
  number_is i f at = one_place fs in_order (place_in fs f) i f (place_is fs f (slice_in fs i f at)) at

  pub none_at : (ps : List Piece) (k : ℕ) (part : Part) → slice_get (part_without_cells ps) k ≡ Some part → (k ≡ 0) × (part.cells ≡ []) × (part.pieces ≡ ps)
  none_at [] k part h = absurd (cc)
  none_at (p ∷ ps) zero part h = let same = same_some h in (refl, sym (ap (λ (x : Part). x.cells) same), sym (ap (λ (x : Part). x.pieces) same))
  none_at (p ∷ ps) (suc k) part h = absurd (cc)

  -- the cells of the part of that number
  pub cells_at : (c : ℕ) → c < cell_count u → (i : ℕ) (part : Part) → slice_get (parts_of sheet) i ≡ Some part → (cell_number_by u labels c ≡ i) ↔ Contains part.cells c
  cells_at c l i part at = (
    λ e.
        let same : part_of (label_of labels c) ≡ part = same_some (sym (cell_part c l) ∙ ap (slice_get (parts_of sheet)) e ∙ at) in
        subst (λ (x : Part). Contains x.cells c) same (in_part sheet formed (label_of labels c) c l refl),
    λ h. elim (at_place part_of fs (part_without_cells read_none) i part at) [
      | inl f ↦
          let is = (of_part sheet formed f.0 c (subst (λ (x : Part). Contains x.cells c) (sym f.2) h)).1 in
          ap (place_in fs) is ∙ number_is i f.0 f.1
      | inr last ↦ absurd (contains_none c (subst (λ cs. Contains cs c) (none_at read_none last.0 part last.2).1 h))
    ],
  )

  -- the last part has the pieces that read no cell
  last_has : (qs : List Piece) {p : Piece} → Contains qs p → (i : ℕ) (part : Part) → length fs ≡ i → slice_get (map part_of fs ++ part_without_cells qs) i ≡ Some part → Contains part.pieces p
  last_has [] {p} h i part e at = absurd (contains_none p h)
  last_has (q ∷ qs) {p} h i part e at =
      let y : Part = record { cells = []; pieces = q ∷ qs } in
      let place : length (map part_of fs) ≡ i = length-map fs part_of ∙ e in
      let same : y ≡ part = same_some (sym (slice_right (map part_of fs) [] y) ∙ ap (slice_get (map part_of fs ++ y ∷ [])) place ∙ at) in
      subst (λ (x : Part). Contains x.pieces p) same h

  -- the pieces of the part of that number
  pub pieces_at : (p : Piece) → Contains (pieces sheet) p → (i : ℕ) (part : Part) → slice_get (parts_of sheet) i ≡ Some part → (number_by u labels (cells_of u p) ≡ i) ↔ Contains part.pieces p
  pieces_at p there i part at = by (cells_of u p) refl
    where
      by : (cs : List ℕ) → cells_of u p ≡ cs → (number_by u labels (cells_of u p) ≡ i) ↔ Contains part.pieces p
      by [] e = (
        λ n. last_has read_none (kept (λ q. are_no_cells (cells_of u q)) (pieces sheet) p there (ap are_no_cells e)) i part (sym (ap (number_by u labels) e) ∙ n) at,
        λ h. elim (at_place part_of fs (part_without_cells read_none) i part at) [
          | inl f ↦ absurd (false≢true (sym (ap (are_labeled labels f.0) e) ∙ (kept_is (λ q. are_labeled labels f.0 (cells_of u q)) (pieces sheet) p (subst (λ (x : Part). Contains x.pieces p) (sym f.2) h)).1))
          | inr last ↦
              let zero_is = (none_at read_none last.0 part last.2).0 in
              let place = last.1 in
              let here : length fs ≡ i = omega arith in
              ap (number_by u labels) e ∙ here
        ],
      )
      by (c ∷ cs) e =
          let reads = (leaves_read_the_cells sheet formed p there c).0 (subst (λ xs. Contains xs c) (sym e) (contains_first c cs)) in
          let l = reads_cells sheet formed p there c reads in (
            λ n.
                let same : part_of (label_of labels c) ≡ part = same_some (sym (cell_part c l) ∙ ap (slice_get (parts_of sheet)) (sym (ap (number_by u labels) e) ∙ n) ∙ at) in
                subst (λ (x : Part). Contains x.pieces p) same
                (kept (λ q. are_labeled labels (label_of labels c) (cells_of u q)) (pieces sheet) p there (ap (are_labeled labels (label_of labels c)) e ∙ eq-eqb (label_of labels c) (label_of labels c) refl)),
            λ h. elim (at_place part_of fs (part_without_cells read_none) i part at) [
              | inl f ↦
                  let k = kept_is (λ q. are_labeled labels f.0 (cells_of u q)) (pieces sheet) p (subst (λ (x : Part). Contains x.pieces p) (sym f.2) h) in
                  let is = eqb-true (label_of labels c) f.0 (sym (ap (are_labeled labels f.0) e) ∙ k.1) in
                  ap (number_by u labels) e ∙ ap (place_in fs) is ∙ number_is i f.0 f.1
              | inr last ↦
                  let k = kept_is (λ q. are_no_cells (cells_of u q)) (pieces sheet) p (subst (λ ps. Contains ps p) (none_at read_none last.0 part last.2).2 h) in
                  absurd (false≢true (sym (ap are_no_cells e) ∙ k.1))
            ],
          )

  -- ---- axioms

  to_axiom : (part : Part) (x : Axiom) (p : Piece) → Contains part.pieces p → Touches x p → IsAxiomOfPart part x
  to_axiom part (axiom_some c) p h t = absurd t
  to_axiom part (axiom_one c v w) p h t = absurd t
  to_axiom part (axiom_rule r) p h t = (p, h, t)
  to_axiom part (axiom_node r path k) p h (inl t) = inl (p, h, t)
  to_axiom part (axiom_node r path k) p h (inr (m, number, t)) = inr (m, number, (p, h, t))
  to_axiom part (axiom_atom r path reads) p h t = (p, h, t)

  -- not of a cell
  abbrev IsOfRule : Axiom → Type 0
  IsOfRule (axiom_some c) = ⊥
  IsOfRule (axiom_one c v w) = ⊥
  IsOfRule (axiom_rule r) = Unit {0}
  IsOfRule (axiom_node r path k) = Unit {0}
  IsOfRule (axiom_atom r path reads) = Unit {0}

  of_axiom : (part : Part) (x : Axiom) → IsOfRule x → IsAxiomOfPart part x → (p : Piece) × Contains part.pieces p × Touches x p
  of_axiom part (axiom_some c) is h = absurd is
  of_axiom part (axiom_one c v w) is h = absurd is
  of_axiom part (axiom_rule r) is h = h
  of_axiom part (axiom_node r path k) is (inl h) = (h.0, h.1, inl h.2)
  of_axiom part (axiom_node r path k) is (inr h) = (h.2.0, h.2.1, inr (h.0, h.1, h.2.2))
  of_axiom part (axiom_atom r path reads) is h = h

  inside_rule : (r : ℕ) (steps cells : List ℕ) (x : Axiom) → IsInside r steps cells x → IsOfRule x
  inside_rule r steps cells (axiom_some c) i = i
  inside_rule r steps cells (axiom_one c v w) i = i
  inside_rule r steps cells (axiom_rule q) i = tt
  inside_rule r steps cells (axiom_node q way k) i = tt
  inside_rule r steps cells (axiom_atom q way reads) i = tt

  of_rules : (r : ℕ) (rules : List NamedStatement) → All (λ g. IsOfRule g.name) (rules_axioms u r rules)
  of_rules r [] = All-nil (λ g. IsOfRule g.name)
  of_rules r (rule ∷ rules) =
      All-append (λ g. IsOfRule g.name) (rule_axioms u r rule) (rules_axioms u (r + 1) rules)
      (All-cons (λ g. IsOfRule g.name) (root_axiom r) (node_axioms u r [] [] rule.states) tt
      (All-weaker (λ g. IsInside r [] (cells_under u [] rule.states) g.name) (λ g. IsOfRule g.name) (λ g i. inside_rule r [] (cells_under u [] rule.states) g.name i) (node_axioms u r [] [] rule.states) (inside u r [] [] rule.states)))
      (of_rules (r + 1) rules)

  -- the pieces of a part are pieces
  piece_listed : (i : ℕ) (part : Part) → slice_get (parts_of sheet) i ≡ Some part → (p : Piece) → Contains part.pieces p → Contains (pieces sheet) p
  piece_listed i part at p h = elim (at_place part_of fs (part_without_cells read_none) i part at) [
    | inl f ↦ (kept_is (λ q. are_labeled labels f.0 (cells_of u q)) (pieces sheet) p (subst (λ (x : Part). Contains x.pieces p) (sym f.2) h)).0
    | inr last ↦ (kept_is (λ q. are_no_cells (cells_of u q)) (pieces sheet) p (subst (λ ps. Contains ps p) (none_at read_none last.0 part last.2).2 h)).0
  ]

  abbrev IsOwned : GroundAxiom → List ℕ → Type 0
  IsOwned g os = (i : ℕ) (part : Part) → slice_get (parts_of sheet) i ≡ Some part → Contains os i ↔ IsAxiomOfPart part g.name

  of_cell : (part : Part) (c : ℕ) (x : Axiom) → IsOfCell c x → IsAxiomOfPart part x ↔ Contains part.cells c
  of_cell part c (axiom_some d) is = (subst (Contains part.cells) is, subst (Contains part.cells) (sym is))
  of_cell part c (axiom_one d v w) is = (subst (Contains part.cells) is, subst (Contains part.cells) (sym is))
  of_cell part c (axiom_rule r) is = absurd is
  of_cell part c (axiom_node r path k) is = absurd is
  of_cell part c (axiom_atom r path reads) is = absurd is

  cells_owned : (c : ℕ) (ns : List ℕ) → ((j : ℕ) → j < length ns → c + j < cell_count u) → AllZip IsOwned (cells_axioms c ns) (owners_of_cells (cell_number_by u labels) c ns)
  cells_owned c [] h = tt
  cells_owned c (n ∷ ns) h =
      let number = cell_number_by u labels c in
      let here : c < cell_count u = (let l = h 0 (omega arith) in omega arith) in
      zip_append IsOwned (cell_axioms c n) (cells_axioms (c + 1) ns) (of_one number (cell_axioms c n)) (owners_of_cells (cell_number_by u labels) (c + 1) ns)
      (zip_one IsOwned number (cell_axioms c n) (λ g there i part at.
      let of = of_cell part c g.name (All-contains (λ q. IsOfCell c q.name) (cell_axioms c n) g (cell_named c n) there) in
      let cells = cells_at c here i part at in (
        λ o. of.1 (cells.0 (elim (contains_cases number [] i o) [ inl same ↦ same | inr none ↦ absurd (contains_none i none) ])),
        λ a. subst (Contains (number ∷ [])) (cells.1 (of.0 a)) (contains_first number []),
      )))
      (cells_owned (c + 1) ns (λ j l. let k = h (suc j) (omega arith) in omega arith))

  rules_owned : AllZip IsOwned (rules_axioms u 0 sheet.rules) (owners_of_rules u (number_by u labels) 0 sheet.rules)
  rules_owned =
      zip_wider (AreOwners u (number_by u labels) (pieces sheet)) IsOwned (rules_axioms u 0 sheet.rules) (owners_of_rules u (number_by u labels) 0 sheet.rules)
      (λ g os there own i part at. (
        λ o. let k = (own i).0 o in to_axiom part g.name k.0 ((pieces_at k.0 k.1 i part at).0 k.2) k.3,
        λ a.
            let k = of_axiom part g.name (All-contains (λ q. IsOfRule q.name) (rules_axioms u 0 sheet.rules) g (of_rules 0 sheet.rules) there) a in
            let listed = piece_listed i part at k.0 k.1 in
            (own i).1 (k.0, listed, (pieces_at k.0 listed i part at).1 k.1, k.2),
      )) (owners_are_found sheet (number_by u labels))

pub owners_are_parts : OwnersAreParts
owners_are_parts sheet formed =
    let u = sheet.universe in
    zip_append (IsOwned sheet formed) (cells_axioms 0 (cell_sizes u)) (rules_axioms u 0 sheet.rules)
    (owners_of_cells (cell_number_by u (labels_of sheet)) 0 (cell_sizes u)) (owners_of_rules u (number_by u (labels_of sheet)) 0 sheet.rules)
    (cells_owned sheet formed 0 (cell_sizes u) (λ j l. omega arith)) (rules_owned sheet formed)
