-- The lines of a sheet, one after another.
use Rattle.std.proofs.Common.{◌≡◌, ◌⊎◌, ℕ, zero, suc, ◌+◌, ◌<◌, Bool, true, false, List, [], ◌∷◌, ◌++◌, map, take, drop, length, get_or, arith, ap, ◌∙◌, sym, subst, refl, inl, inr}
use Rattle.std.proofs.Math.ListN.{get_or-map}
use Rattle.std.proofs.lemmas.List.{take_more, drop_more, length-map}
use Rattle.pc_syntax.specs.Tree as tree
use Rattle.pc_syntax.specs.Tree.{list_sort, range_sort, table, row, cell, rule, enter, also, declared_of}
use Rattle.pc_syntax.specs.Sheet.{is_rule, is_of_universe, HasUniverseFirst, HasNoUniverse}
use Rattle.pc_syntax.specs.Sized.{HasSizedRules, HasNestedRules}
use Rattle.pc_syntax.specs.declared.tree.Declaration.{Declaration}
use Rattle.pc_sheet.specs.Sheet.{Sheet, empty_sheet}
use Rattle.pc_elaborate.specs.declared.fault.SortFault.{SortFault}
use Rattle.pc_elaborate.specs.Told.{IsFaultOf}
use Rattle.pc_sortcheck.specs.Declaring.{Declares, DeclareAll}
use Rattle.pc_sortcheck.specs.DeclarationFaults.{IsDeclarationFault, IsFirstFault}
use Rattle.pc_sortcheck.specs.inside.Fits.{HasWrittenRule}
use Rattle.pc_sortcheck.proofs.Faults.{weaker}

abbrev Line : Type 0
Line = ℕ × tree.Declared

-- ---- one declaration

declare_push : (a b c : Sheet) (ds : List Line) (d : Line) → DeclareAll a ds b → Declares b d.1 c → DeclareAll a (ds ++ d ∷ []) c
declare_push a b c [] d h k = (c, subst (λ s. Declares s d.1 c) h k, refl)
declare_push a b c (e ∷ ds) d h k = (h.0, h.1, declare_push h.0 b c ds d h.2 k)

rules_stay : (s new : Sheet) (d : tree.Declared) → Declares s d new → is_rule d ≡ false → s.rules ≡ [] → new.rules ≡ []
rules_stay s new (list_sort n values) h no_rule e = ap (λ (t : Sheet). t.rules) h.0 ∙ e
rules_stay s new (range_sort n low high) h no_rule e = ap (λ (t : Sheet). t.rules) h.0 ∙ e
rules_stay s new (table n sorts) h no_rule e = let made = h.0 in ap (λ (t : Sheet). t.rules) made.2 ∙ e
rules_stay s new (row n values) h no_rule e = let made = h.0 in ap (λ (t : Sheet). t.rules) made.5 ∙ e
rules_stay s new (cell n sorts result) h no_rule e = let made = h.0 in ap (λ (t : Sheet). t.rules) made.4 ∙ e
rules_stay s new (rule n f) h no_rule e = absurd (cc)
rules_stay s new (enter c v) h no_rule e = let made = h.0 in ap (λ (t : Sheet). t.rules) made.2 ∙ e
rules_stay s new (also c v) h no_rule e = let made = h.0 in ap (λ (t : Sheet). t.rules) made.2 ∙ e

-- the fault of a line behind lines that declare
first_at : (ds : List Line) (i : ℕ) (d : Line) (old s : Sheet) (e : SortFault) → d ≡ get_or ds i d → i < length ds → DeclareAll old (take i ds) s → IsDeclarationFault s d.1 e → IsFirstFault old ds d.0 e
first_at [] i d old s e is l h k = absurd (omega arith)
first_at (x ∷ ds) zero d old s e is l h k = inl (ap (λ (p : Line). p.0) is, subst (λ (p : Line). IsDeclarationFault old p.1 e) is (subst (λ (t : Sheet). IsDeclarationFault t d.1 e) h k))
first_at (x ∷ ds) (suc i) d old s e is l h k = inr (h.0, h.1, first_at ds i d h.0 s e is (omega arith) h.2 k)

-- ---- what is asked of rules

sized_head : (d : Line) (ds : List Line) → HasSizedRules (d ∷ ds) → HasNestedRules (d ∷ ds) → HasWrittenRule d.1
sized_head (n, list_sort k values) ds h i = tt
sized_head (n, range_sort k low high) ds h i = tt
sized_head (n, table k sorts) ds h i = tt
sized_head (n, row k values) ds h i = tt
sized_head (n, cell k sorts result) ds h i = tt
sized_head (n, rule k f) ds h i = (h.0, i.0)
sized_head (n, enter c v) ds h i = tt
sized_head (n, also c v) ds h i = tt

sized_tail : (d : Line) (ds : List Line) → HasSizedRules (d ∷ ds) → HasSizedRules ds
sized_tail (n, list_sort k values) ds h = h
sized_tail (n, range_sort k low high) ds h = h
sized_tail (n, table k sorts) ds h = h
sized_tail (n, row k values) ds h = h
sized_tail (n, cell k sorts result) ds h = h
sized_tail (n, rule k f) ds h = h.1
sized_tail (n, enter c v) ds h = h
sized_tail (n, also c v) ds h = h

nested_tail : (d : Line) (ds : List Line) → HasNestedRules (d ∷ ds) → HasNestedRules ds
nested_tail (n, list_sort k values) ds h = h
nested_tail (n, range_sort k low high) ds h = h
nested_tail (n, table k sorts) ds h = h
nested_tail (n, row k values) ds h = h
nested_tail (n, cell k sorts result) ds h = h
nested_tail (n, rule k f) ds h = h.1
nested_tail (n, enter c v) ds h = h
nested_tail (n, also c v) ds h = h

-- ---- all of them

pub record So_far (ds : List Line) (i : ℕ) (s : Sheet) : Type 0 where
  pub made : DeclareAll empty_sheet (take i ds) s
  pub sized : HasSizedRules (drop i ds)
  pub nested : HasNestedRules (drop i ds)
  pub ordered : HasUniverseFirst (drop i ds)
  pub order : (s.rules ≡ []) ⊎ HasNoUniverse (drop i ds)

module _ (ds : List Line) (i : ℕ) (d : Line) (s : Sheet) (before : So_far ds i s) (is : d ≡ get_or ds i d) (l : i < length ds) where
  left : drop i ds ≡ d ∷ drop (i + 1) ds
  left = drop_more ds i d l ∙ ap (λ x. x ∷ drop (i + 1) ds) (sym is)

  pub this_written : HasWrittenRule d.1
  this_written = sized_head d (drop (i + 1) ds) (subst HasSizedRules left before.sized) (subst HasNestedRules left before.nested)

  pub this_first : is_of_universe d.1 ≡ true → s.rules ≡ []
  this_first e = elim before.order [
    | inl r ↦ r
    | inr n ↦ (let other : is_of_universe d.1 ≡ false = (subst HasNoUniverse left n).0 in absurd (cc))
  ]

  pub this_fault : (e : SortFault) → IsFaultOf (IsDeclarationFault s d.1) e → IsFaultOf (IsFirstFault empty_sheet ds d.0) e
  this_fault e h = weaker (IsDeclarationFault s d.1) (IsFirstFault empty_sheet ds d.0) (λ f k. first_at ds i d empty_sheet s f is l before.made k) e h

  pub goes_on : (new : Sheet) → Declares s d.1 new → So_far ds (i + 1) new
  goes_on new h = record {
    made = subst (λ es. DeclareAll empty_sheet es new) (sym (take_more ds i d l ∙ ap (λ x. take i ds ++ x ∷ []) (sym is))) (declare_push empty_sheet s new (take i ds) d before.made h);
    sized = sized_tail d (drop (i + 1) ds) (subst HasSizedRules left before.sized);
    nested = nested_tail d (drop (i + 1) ds) (subst HasNestedRules left before.nested);
    ordered = (subst HasUniverseFirst left before.ordered).1;
    order = by (is_rule d.1) refl before.order;
  }
    where
      by : (b : Bool) → is_rule d.1 ≡ b → (s.rules ≡ []) ⊎ HasNoUniverse (drop i ds) → (new.rules ≡ []) ⊎ HasNoUniverse (drop (i + 1) ds)
      by true e order = inr ((subst HasUniverseFirst left before.ordered).0 e)
      by false e (inl r) = inl (rules_stay s new d.1 h e r)
      by false e (inr n) = inr (subst HasNoUniverse left n).1

-- ---- the lines of a tree

abbrev pub line_of : ℕ × Declaration → Line
line_of p = (p.0, declared_of p.1)

pub line_at : (ps : List (ℕ × Declaration)) (i : ℕ) (p : ℕ × Declaration) → p ≡ get_or ps i p → line_of p ≡ get_or (map line_of ps) i (line_of p)
line_at ps i p is = ap line_of is ∙ sym (get_or-map line_of ps i p)

pub line_below : (ps : List (ℕ × Declaration)) (i : ℕ) → i < length ps → i < length (map line_of ps)
line_below ps i l = omega (arith, l, length-map ps line_of)
