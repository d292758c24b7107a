-- The symbols of an axiom at or under a piece are nodes at or under the piece: no counter's quantifier is above a piece, since it isn't joint.
use Rattle.std.proofs.Common.{◌≡◌, ℕ, inl, inr, List, [], ◌∷◌, ◌++◌, append-nil, append_assoc, Contains, Some, ap, sym, ◌∙◌, subst}
use Rattle.pc_sheet.specs.Sheet.{Sheet, Statement, compare, in_table, negation, all_of, some_of, implies, iff, for_all, exists, counts}
use Rattle.pc_sheet.specs.Nodes.{Node, node_at}
use Rattle.pc_accept.specs.Literals.{Symbol, node, Literal}
use Rattle.pc_accept.specs.Axioms.{axiom_node, child_of, IsClauseOf}
use Rattle.pc_accept.specs.Rows.{parent_of}
use Rattle.pc_parts.specs.Pieces.{Piece, pieces, IsJoint}
use Rattle.pc_lemmas.proofs.Options.{same_some}
use Rattle.pc_ground.proofs.Rows.{parent_is}
use Rattle.pc_components.proofs.Symbols.{none_or_last, HasCounters, axiom_symbols}
use Rattle.pc_components.proofs.Way.{above_piece}

joint_counts : (s : Statement) → IsJoint s → HasCounters s → ⊥
joint_counts (compare left op right) j h = j
joint_counts (in_table t xs) j h = j
joint_counts (negation s) j h = j
joint_counts (all_of ss) j h = h
joint_counts (some_of ss) j h = j
joint_counts (implies s t) j h = j
joint_counts (iff s t) j h = j
joint_counts (for_all name s body) j h = h
joint_counts (exists name s body) j h = j
joint_counts (counts c name s body) j h = j

module _ (sheet : Sheet) (p : Piece) (listed : Contains (pieces sheet) p) (r : ℕ) (same : p.path.rule ≡ r) (path rest : List ℕ) (is : path ≡ p.path.steps ++ rest) where
  -- it is the piece's node, or one under it
  abbrev pub IsUnder : Symbol → Type 0
  IsUnder x = (more : List ℕ) × (x ≡ node r (p.path.steps ++ more))

  child_under : (k : ℕ) → IsUnder (child_of r path k)
  child_under k = (rest ++ k ∷ [], ap (λ xs. node r (xs ++ k ∷ [])) is ∙ ap (node r) (append_assoc p.path.steps rest (k ∷ [])))

  above_under : (up : List ℕ) (q : ℕ) → path ≡ up ++ q ∷ [] → (n : Node) → node_at sheet r up ≡ Some n → HasCounters n.1 → (k : ℕ) → IsUnder (child_of r up k)
  above_under up q ends n at counted k = elim (none_or_last rest) [
    | inl none ↦
        let steps : p.path.steps ≡ up ++ q ∷ [] = sym (append-nil p.path.steps) ∙ ap (λ xs. p.path.steps ++ xs) (sym none) ∙ sym is ∙ ends in
        let above = above_piece sheet p listed up q [] steps in
        let node_same : n ≡ above.joint = same_some (sym at ∙ ap (λ i. node_at sheet i up) (sym same) ∙ above.at) in
        absurd (joint_counts above.joint.1 above.is (subst (λ (m : Node). HasCounters m.1) node_same counted))
    | inr end ↦
        let ks = end.0 in
        let whole : up ++ q ∷ [] ≡ (p.path.steps ++ ks) ++ end.1 ∷ [] = sym ends ∙ is ∙ ap (λ xs. p.path.steps ++ xs) end.2 ∙ sym (append_assoc p.path.steps ks (end.1 ∷ [])) in
        let up_is : up ≡ p.path.steps ++ ks = sym (parent_is up q) ∙ ap parent_of whole ∙ parent_is (p.path.steps ++ ks) end.1 in
        (ks ++ k ∷ [], ap (λ xs. node r (xs ++ k ∷ [])) up_is ∙ ap (node r) (append_assoc p.path.steps ks (k ∷ [])))
  ]

  pub under_symbols : (i : ℕ) (clause : List Literal) → IsClauseOf sheet (axiom_node r path i) clause → (l : Literal) → Contains clause l → IsUnder l.what
  under_symbols = axiom_symbols IsUnder sheet r path (rest, ap (node r) is) child_under above_under
