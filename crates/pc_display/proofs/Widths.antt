-- How many columns texts in pieces take, and the most that one of several takes.
use Rattle.std.proofs.Common.{◌≡◌, ℕ, zero, suc, ◌+◌, ◌<◌, Bool, true, nat_eq, eqb-true, List, [], ◌∷◌, ◌++◌, codes, length, map, take, max, slice_get, Some, inl, inr, arith, refl, sym, ap, ◌∙◌, append_assoc, append-nil}
use Rattle.std.specs.List.{flat_map}
use Rattle.std.specs.Str.{IsUtf8, chars}
use Rattle.std.proofs.lemmas.Str.{IsUtf8-nil}
use Rattle.unicode_width.specs.Width.{str_width}
use Rattle.unicode_width.proofs.Computing.{unicode_width}
use Rattle.pc_sheet.proofs.Cells.{some_same}
use Rattle.pc_sheet.specs.Sheet.{Universe}
use Rattle.pc_sheet.specs.declared.ids.SortId.{SortId}
use Rattle.pc_sheet.specs.declared.ids.CellId.{CellId}
use Rattle.pc_sheet.specs.declared.ids.ValueId.{ValueId}
use Rattle.pc_writer.specs.Separator.{separator_at}
use Rattle.pc_writer.specs.Spelling.{arguments_text, joined, value_texts}
use Rattle.pc_writer.proofs.InPieces.{flat_map-take_more}
use Rattle.pc_display.specs.Show.{cells_below}
use Rattle.pc_display.specs.Grid.{columns, widest}
use Rattle.pc_display.proofs.Signs.{columns_at}
use Rattle.pc_display.proofs.Spelled.{AreUtf8, joined_utf8}

-- ---- pieces

pub columns_nil : columns [] ≡ 0
unfolding chars str_width
columns_nil = refl

pub dash_columns : columns (codes "-") ≡ 1
unfolding unicode_width
dash_columns = refl

pub comma_columns : columns (codes ", ") ≡ 2
unfolding unicode_width
comma_columns = refl

pub first_separator : (k : ℕ) → k ≡ 0 → 0 ≡ columns (separator_at (codes ", ") k)
first_separator k is = sym (ap (λ n. columns (separator_at (codes ", ") n)) is ∙ columns_nil)

pub later_separator : (k : ℕ) → 0 < k → 2 ≡ columns (separator_at (codes ", ") k)
later_separator zero below = absurd (omega (arith, below))
later_separator (suc k) below = sym comma_columns

pub no_arguments : (u : Universe) (ss : List SortId) (vs : List ValueId) (none : Bool) → none ≡ nat_eq (length ss) 0 → none ≡ true → 0 ≡ columns (arguments_text u ss vs)
no_arguments u [] vs none is none_is = sym columns_nil
no_arguments u (s ∷ ss) vs none is none_is = absurd (omega (arith, eqb-true (length (s ∷ ss)) 0 (sym is ∙ none_is)))

pub in_parentheses : (list : List ℕ) → IsUtf8 list → columns (codes "(" ++ (list ++ codes ")")) ≡ columns list + 2
in_parentheses list utf8 =
    let opened = columns_at 40 [] (list ++ 41 ∷ []) (inl refl) IsUtf8-nil in
    let closed = columns_at 41 list [] (inr (inl refl)) utf8 in
    omega (arith, opened, closed, columns_nil)

pub name_and_arguments : (u : Universe) (name : List ℕ) (ss : List SortId) (vs : List ValueId) → IsUtf8 name → columns (name ++ arguments_text u ss vs) ≡ columns name + columns (arguments_text u ss vs)
name_and_arguments u name [] vs utf8 = omega (arith, ap columns (append-nil name), columns_nil)
name_and_arguments u name (s ∷ ss) vs utf8 =
    let rest = joined (codes ", ") (value_texts u (s ∷ ss) vs) ++ codes ")" in
    let whole = columns_at 40 name rest (inl refl) utf8 in
    let opened = columns_at 40 [] rest (inl refl) IsUtf8-nil in
    omega (arith, whole, opened, columns_nil)

utf8_take : (texts : List (List ℕ)) (i : ℕ) → AreUtf8 texts → AreUtf8 (take i texts)
utf8_take texts zero each = tt
utf8_take [] (suc i) each = tt
utf8_take (text ∷ texts) (suc i) each = (each.0, utf8_take texts i each.1)

-- one more text behind a comma
behind_comma : (front text : List ℕ) → IsUtf8 front → columns (front ++ (codes ", " ++ text)) ≡ columns front + (2 + columns text)
behind_comma front text utf8 =
    let comma = columns_at 44 front (32 ∷ text) (inr (inr (inl refl))) utf8 in
    let space = columns_at 32 [] text (inr (inr (inr refl))) IsUtf8-nil in
    omega (arith, comma, space, columns_nil)

pub next_columns : (texts : List (List ℕ)) (i : ℕ) (text : List ℕ) → AreUtf8 texts → slice_get texts i ≡ Some text
    → columns (joined (codes ", ") (take (i + 1) texts)) ≡ columns (joined (codes ", ") (take i texts)) + (columns (separator_at (codes ", ") i) + columns text)
next_columns [] i text each is = absurd (cc)
next_columns (x ∷ texts) zero text each is = omega (arith, ap columns (append-nil x ∙ some_same is), columns_nil)
next_columns (x ∷ texts) (suc i) text each is =
    let front = joined (codes ", ") (take (suc i) (x ∷ texts)) in
    let behind : List (List ℕ) → List ℕ = flat_map (λ other. codes ", " ++ other) in
    let more : joined (codes ", ") (take (suc (suc i)) (x ∷ texts)) ≡ front ++ (codes ", " ++ text) =
    ap (λ rest. x ++ rest) (flat_map-take_more (λ other. codes ", " ++ other) texts i text is) ∙ sym (append_assoc x (behind (take i texts)) (codes ", " ++ text)) in
    let same : suc i + 1 ≡ suc (suc i) = omega arith in
    let utf8 = joined_utf8 (take (suc i) (x ∷ texts)) (utf8_take (x ∷ texts) (suc i) each) in
    ap (λ n. columns (joined (codes ", ") (take n (x ∷ texts)))) same ∙ ap columns more
    ∙ behind_comma front text utf8
    ∙ ap (λ n. columns front + (n + columns text)) (sym comma_columns)

-- ---- the widest

widest_push : (texts : List (List ℕ)) (text : List ℕ) → widest (texts ++ text ∷ []) ≡ max (widest texts) (columns text)
widest_push [] text = omega arith
widest_push (first ∷ texts) text = omega (arith, widest_push texts text)

map_push : (text : CellId → List ℕ) (cs : List CellId) (c : CellId) → map text (cs ++ c ∷ []) ≡ map text cs ++ text c ∷ []
map_push text [] c = refl
map_push text (first ∷ cs) c = ap (λ rest. text first ∷ rest) (map_push text cs c)

pub widest_more : (text : CellId → List ℕ) (n : ℕ) → widest (map text (cells_below (n + 1))) ≡ max (widest (map text (cells_below n))) (columns (text (record { 0 = n })))
widest_more text n =
    let same : n + 1 ≡ suc n = omega arith in
    ap (λ k. widest (map text (cells_below k))) same ∙ ap widest (map_push text (cells_below n) (record { 0 = n })) ∙ widest_push (map text (cells_below n)) (text (record { 0 = n }))
