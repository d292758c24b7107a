-- The lines of a canonical text may stand in their order, and what they declare is numbered by line.
use Rattle.std.proofs.Common.{◌≡◌, ℕ, suc, ◌+◌, ◌<◌, Bool, true, false, ◌&&◌, ◌||◌, not, List, [], ◌∷◌, ◌++◌, length, map, All, slice_index_or, arith, refl, ap, ap₂, ◌∙◌}
use Rattle.std.proofs.lemmas.List.Folds.{list_any-append}
use Rattle.std.proofs.lemmas.List.Elements.{All-head, All-tail}
use Rattle.std.specs.List.{flat_map, list_any, AllByRecursion}
use Rattle.pc_syntax.specs.Tree.{Declared, list_sort, range_sort, table, row, cell, rule, enter, also}
use Rattle.pc_syntax.specs.Line.{LineForm, declares, begins}
use Rattle.pc_syntax.specs.Sheet.{is_heading, is_begin, is_rule, is_rule_line, is_of_universe, is_of_second, is_second, is_open, may_stand, AreStanding, declared_from}
use Rattle.pc_writer.specs.SheetText.{each_behind}
use Rattle.pc_canonical_laws.specs.Declarations.{numbered_from}
use Rattle.pc_canonical_laws.proofs.Lines.{ReadsAsLine}
use Rattle.pc_canonical_laws.proofs.Sublists.{one_more}
use Rattle.pc_canonical_laws.proofs.Unbroken.{AreUnbroken}

-- each line declares what stands at its place
abbrev pub AreDeclared : List (List ℕ) → List Declared → Type 0
AreDeclared [] [] = Unit {0}
AreDeclared [] (d ∷ ds) = ⊥
AreDeclared (line ∷ lines) [] = ⊥
AreDeclared (line ∷ lines) (d ∷ ds) = ReadsAsLine line (declares d) × AreDeclared lines ds

-- ---- lists of lines

pub declared_append : (lines more : List (List ℕ)) (ds others : List Declared) → AreDeclared lines ds → AreDeclared more others → AreDeclared (lines ++ more) (ds ++ others)
declared_append [] more [] others own rest = rest
declared_append [] more (d ∷ ds) others own rest = absurd own
declared_append (line ∷ lines) more [] others own rest = absurd own
declared_append (line ∷ lines) more (d ∷ ds) others own rest = (own.0, declared_append lines more ds others own.1 rest)

pub declared_unbroken : (lines : List (List ℕ)) (ds : List Declared) → AreDeclared lines ds → AreUnbroken lines
declared_unbroken [] ds own = tt
declared_unbroken (line ∷ lines) [] own = absurd own
declared_unbroken (line ∷ lines) (d ∷ ds) own = (own.0.whole, declared_unbroken lines ds own.1)

pub unbroken_append : (lines more : List (List ℕ)) → AreUnbroken lines → AreUnbroken more → AreUnbroken (lines ++ more)
unbroken_append [] more own rest = rest
unbroken_append (line ∷ lines) more own rest = (own.0, unbroken_append lines more own.1 rest)

module _ {A : Type 0} (none : A) where
  pub declared_map : (line : A → List ℕ) (declaration : A → Declared) (xs : List A) → ((i : ℕ) → i < length xs → ReadsAsLine (line (slice_index_or xs i none)) (declares (declaration (slice_index_or xs i none))))
      → AreDeclared (map line xs) (map declaration xs)
  declared_map line declaration [] each = tt
  declared_map line declaration (x ∷ xs) each = (each 0 (omega arith), declared_map line declaration xs (λ i below. each (suc i) (omega arith)))

  pub declared_flat_map : (lines : A → List (List ℕ)) (declarations : A → List Declared) (xs : List A) → ((i : ℕ) → i < length xs → AreDeclared (lines (slice_index_or xs i none)) (declarations (slice_index_or xs i none)))
      → AreDeclared (flat_map lines xs) (flat_map declarations xs)
  declared_flat_map lines declarations [] each = tt
  declared_flat_map lines declarations (x ∷ xs) each =
      declared_append (lines x) (flat_map lines xs) (declarations x) (flat_map declarations xs) (each 0 (omega arith)) (declared_flat_map lines declarations xs (λ i below. each (suc i) (omega arith)))

pub declared_each : {A : Type 0} (P : A → Type 0) (line : A → List ℕ) (declaration : A → Declared) (xs : List A) → ((x : A) → P x → ReadsAsLine (line x) (declares (declaration x))) → All P xs → AreDeclared (map line xs) (map declaration xs)
declared_each P line declaration [] read all = tt
declared_each P line declaration (x ∷ xs) read all = (read x (All-head P x xs all), declared_each P line declaration xs read (All-tail P x xs all))

pub declared_behind : {A : Type 0} (P : A → Type 0) (line : List A → A → List ℕ) (declaration : List A → A → Declared) → ((before : List A) (x : A) → P x → ReadsAsLine (line before x) (declares (declaration before x)))
    → (before xs : List A) → All P xs → AreDeclared (each_behind line before xs) (each_behind declaration before xs)
declared_behind P line declaration read before [] all = tt
declared_behind P line declaration read before (x ∷ xs) all = (read before x (All-head P x xs all), declared_behind P line declaration read (before ++ x ∷ []) xs (All-tail P x xs all))

module _ {B : Type 0} (P : B → Type 0) where
  pub all_append : (xs ys : List B) → AllByRecursion P xs → AllByRecursion P ys → AllByRecursion P (xs ++ ys)
  all_append [] ys own rest = rest
  all_append (x ∷ xs) ys own rest = (own.0, all_append xs ys own.1 rest)

  pub all_map : {A : Type 0} (f : A → B) (xs : List A) → ((x : A) → P (f x)) → AllByRecursion P (map f xs)
  all_map f [] each = tt
  all_map f (x ∷ xs) each = (each x, all_map f xs each)

  pub all_flat_map : {A : Type 0} (f : A → List B) (xs : List A) → ((x : A) → AllByRecursion P (f x)) → AllByRecursion P (flat_map f xs)
  all_flat_map f [] each = tt
  all_flat_map f (x ∷ xs) each = all_append (f x) (flat_map f xs) (each x) (all_flat_map f xs each)

  pub all_behind : {A : Type 0} (f : List A → A → B) (all : List A) → ((before : List A) (x : A) (after : List A) → all ≡ before ++ x ∷ after → P (f before x)) → (before after : List A) → all ≡ before ++ after → AllByRecursion P (each_behind f before after)
  all_behind f all each before [] is = tt
  all_behind f all each before (x ∷ after) is = (each before x after is, all_behind f all each (before ++ x ∷ []) after (one_more all before x after is))

-- ---- what may stand behind what

or_false : (a : Bool) → (a || false) ≡ a
or_false true = refl
or_false false = refl

or_true : (a : Bool) → (a || true) ≡ true
or_true true = refl
or_true false = refl

-- behind lines of these forms the sheet has begun and not ended, and lines of the second version may stand there or not
pub record IsBegun (second : Bool) (before : List LineForm) : Type 0 where
  pub begun : is_open before ≡ true
  pub version : list_any is_second before ≡ second

still_begun : (second : Bool) (before : List LineForm) (d : Declared) → IsBegun second before → IsBegun second (before ++ declares d ∷ [])
still_begun second before d is = record {
  begun = ap₂ (λ x y. x && not y) (list_any-append is_heading before (declares d ∷ []) ∙ or_false (list_any is_heading before)) (list_any-append is_begin before (declares d ∷ []) ∙ or_false (list_any is_begin before)) ∙ is.begun;
  version = list_any-append is_second before (declares d ∷ []) ∙ or_false (list_any is_second before) ∙ is.version;
}

-- of the universe, so neither a rule nor an entry
abbrev pub IsOfUniverse : Declared → Type 0
IsOfUniverse d = is_of_universe d ≡ true

no_rule : (d : Declared) → IsOfUniverse d → is_rule d ≡ false
no_rule (list_sort n values) is = refl
no_rule (range_sort n low high) is = refl
no_rule (table n sorts) is = refl
no_rule (row n values) is = refl
no_rule (cell n sorts result) is = refl
no_rule (rule n f) is = absurd (cc)
no_rule (enter c v) is = absurd (cc)
no_rule (also c v) is = absurd (cc)

not_of_second : (d : Declared) → IsOfUniverse d → is_of_second d ≡ false
not_of_second (list_sort n values) is = refl
not_of_second (range_sort n low high) is = refl
not_of_second (table n sorts) is = refl
not_of_second (row n values) is = refl
not_of_second (cell n sorts result) is = refl
not_of_second (rule n f) is = absurd (cc)
not_of_second (enter c v) is = absurd (cc)
not_of_second (also c v) is = absurd (cc)

still_no_rule : (before : List LineForm) (d : Declared) → list_any is_rule_line before ≡ false → is_rule d ≡ false → list_any is_rule_line (before ++ declares d ∷ []) ≡ false
still_no_rule before d none other = list_any-append is_rule_line before (declares d ∷ []) ∙ ap₂ (λ x y. x || (y || false)) none other

stands_before_rules : (second : Bool) (before : List LineForm) (d : Declared) → IsBegun second before → list_any is_rule_line before ≡ false → IsOfUniverse d → may_stand before (declares d) ≡ true
stands_before_rules second before d is none own =
    ap₂ (λ x y. x && ((not (is_of_universe d) || not y) && (not (is_of_second d) || list_any is_second before))) is.begun none
    ∙ ap₂ (λ x y. x && (not y || list_any is_second before)) (or_true (not (is_of_universe d))) (not_of_second d own)

-- not of the universe, and in the second version where it is of that one alone
pub record MayFollow (second : Bool) (d : Declared) : Type 0 where
  pub outside : is_of_universe d ≡ false
  pub version : (not (is_of_second d) || second) ≡ true

stands_anywhere : (second : Bool) (before : List LineForm) (d : Declared) → IsBegun second before → MayFollow second d → may_stand before (declares d) ≡ true
stands_anywhere second before d is may =
    ap₂ (λ x y. x && ((not y || not (list_any is_rule_line before)) && (not (is_of_second d) || list_any is_second before))) is.begun may.outside
    ∙ ap (λ x. not (is_of_second d) || x) is.version ∙ may.version

module _ (second : Bool) where
  -- declarations of the universe stand behind such, with what stands behind them
  pub stand_before_rules : (lines : List (List ℕ)) (ds : List Declared) → AreDeclared lines ds → AllByRecursion IsOfUniverse ds → (before : List LineForm) → IsBegun second before → list_any is_rule_line before ≡ false
      → (more : List (List ℕ)) (forms : List LineForm) → ((behind : List LineForm) → IsBegun second behind → AreStanding behind more forms) → AreStanding before (lines ++ more) (map declares ds ++ forms)
  stand_before_rules [] [] own each before begun none more forms rest = rest before begun
  stand_before_rules [] (d ∷ ds) own each before begun none more forms rest = absurd own
  stand_before_rules (line ∷ lines) [] own each before begun none more forms rest = absurd own
  stand_before_rules (line ∷ lines) (d ∷ ds) own each before begun none more forms rest = (
    own.0.is,
    stands_before_rules second before d begun none each.0,
    stand_before_rules lines ds own.1 each.1 (before ++ declares d ∷ []) (still_begun second before d begun) (still_no_rule before d none (no_rule d each.0)) more forms rest,
  )

  -- declarations of nothing of the universe stand behind any others
  pub stand_anywhere : (lines : List (List ℕ)) (ds : List Declared) → AreDeclared lines ds → AllByRecursion (MayFollow second) ds → (before : List LineForm) → IsBegun second before
      → (more : List (List ℕ)) (forms : List LineForm) → ((behind : List LineForm) → IsBegun second behind → AreStanding behind more forms) → AreStanding before (lines ++ more) (map declares ds ++ forms)
  stand_anywhere [] [] own each before begun more forms rest = rest before begun
  stand_anywhere [] (d ∷ ds) own each before begun more forms rest = absurd own
  stand_anywhere (line ∷ lines) [] own each before begun more forms rest = absurd own
  stand_anywhere (line ∷ lines) (d ∷ ds) own each before begun more forms rest = (
    own.0.is,
    stands_anywhere second before d begun each.0,
    stand_anywhere lines ds own.1 each.1 (before ++ declares d ∷ []) (still_begun second before d begun) more forms rest,
  )

-- ---- what the lines declare

pub numbered_by_line : (ds : List Declared) (n : ℕ) → declared_from n (map declares ds ++ begins ∷ []) ≡ numbered_from n ds
numbered_by_line [] n = refl
numbered_by_line (d ∷ ds) n = ap (λ rest. (n, d) ∷ rest) (numbered_by_line ds (n + 1))

pub has_begin : (before : List LineForm) → list_any is_begin (before ++ begins ∷ []) ≡ true
has_begin before = list_any-append is_begin before (begins ∷ []) ∙ or_true (list_any is_begin before)
