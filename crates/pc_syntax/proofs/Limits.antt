-- The rules of a text within the limit have neither too many parts nor go too deep.
use Rattle.std.proofs.Common.{◌≡◌, ℕ, ◌+◌, ◌≤◌, ◌==◌, List, [], ◌∷◌, ◌++◌, length, arith, ap, subst}
use Rattle.std.proofs.lemmas.Bool.{cond_both}
use Rattle.std.specs.Prelude.{codes}
use Rattle.std.specs.List.{slice_split, onto_first}
use Rattle.std.specs.Str.Lines.{lines, lines_of_parts}
use Rattle.pc_formula.specs.Word.{Word, name, nesting, most_nesting}
use Rattle.pc_formula.specs.Nesting.{nesting_of}
use Rattle.pc_syntax.specs.Tree.{Formula, Declared, rule}
use Rattle.pc_syntax.specs.Spelling.{IsSpelled}
use Rattle.pc_syntax.specs.Clause.{IsRule}
use Rattle.pc_syntax.specs.Line.{LineForm, declares, IsLine, spelled_line}
use Rattle.pc_syntax.specs.Sheet.{AreStanding, declared_from, sheet, IsSheetReading, whole}
use Rattle.pc_syntax.specs.Sized.{too_many, IsSized, HasSizedRules, HasNestedRules}
use Rattle.pc_lines.proofs.Ends.{strip_shorter}
use Rattle.pc_formula.proofs.Nests.{nested}
use Rattle.pc_formula.proofs.Sizes.{words_within}
use Rattle.pc_syntax.proofs.Families.{sized_formula, nesting_of_rule}

-- ---- no line of a text is longer than the text

AreWithin : ℕ → List (List ℕ) → Type 0
AreWithin n [] = Unit {0}
AreWithin n (l ∷ ls) = (length l ≤ n) × AreWithin n ls

wider : (n m : ℕ) (ls : List (List ℕ)) → n ≤ m → AreWithin n ls → AreWithin m ls
unfolding AreWithin
wider n m [] le all = tt
wider n m (l ∷ ls) le all = (omega (arith, le, all.0), wider n m ls le all.1)

part_within : (b n : ℕ) (parts : List (List ℕ)) → AreWithin n parts → AreWithin (n + 1) (onto_first b parts)
unfolding AreWithin
part_within b n [] all = (omega arith, tt)
part_within b n (x ∷ parts) all = (omega (arith, all.0), wider n (n + 1) parts (omega arith) all.1)

parts_within : (text : List ℕ) → AreWithin (length text) (slice_split (λ b. b == 10) text)
unfolding AreWithin
parts_within [] = (omega arith, tt)
parts_within (b ∷ bs) =
    let size : length bs + 1 ≡ length (b ∷ bs) = omega arith in
    let parts = slice_split (λ c. c == 10) bs in
    subst (λ n. AreWithin n (slice_split (λ c. c == 10) (b ∷ bs))) size
    (cond_both (b == 10) ([] ∷ parts) (onto_first b parts) (AreWithin (length bs + 1)) (λ is. (omega arith, wider (length bs) (length bs + 1) parts (omega arith) (parts_within bs))) (λ is. part_within b (length bs) parts (parts_within bs)))

of_parts_within : (n : ℕ) (parts : List (List ℕ)) → AreWithin n parts → AreWithin n (lines_of_parts parts)
unfolding AreWithin
of_parts_within n [] all = tt
of_parts_within n (x ∷ []) all = cond_both (length x == 0) [] (x ∷ []) (AreWithin n) (λ is. tt) (λ is. all)
of_parts_within n (x ∷ y ∷ more) all = (omega (arith, strip_shorter x, all.0), of_parts_within n (y ∷ more) all.1)

lines_within : (text : List ℕ) → AreWithin (length text) (lines text)
lines_within text = of_parts_within (length text) (slice_split (λ b. b == 10) text) (parts_within text)

-- ---- one rule

pub record IsLimited (f : Formula) : Type 0 where
  pub sized : IsSized f
  pub nested : nesting_of f ≤ most_nesting

pub limited_rule : (line : List ℕ) (ws rest : List Word) (keyword n : List ℕ) (f : Formula) → length line ≤ too_many → IsSpelled line ws → ws ≡ name keyword ∷ rest → IsRule rest n f → IsLimited f
limited_rule line ws rest keyword n f few s words r =
    let count = ap length words in
    let behind = ap length r.words in
    let depth = ap nesting words in
    let all : nesting (name keyword ∷ rest) ≡ nesting r.rest = nesting_of_rule keyword n rest r.rest r.words in
    record {
      sized = sized_formula r.rest f r.formula (omega (arith, words_within line ws s.split.has, count, behind, few));
      nested = omega (arith, nested r.rest f r.formula, s.within, depth, all);
    }

-- ---- the rules of a sheet

limited_line : (line : List ℕ) (n : List ℕ) (f : Formula) → length line ≤ too_many → IsLine line (declares (rule n f)) → IsLimited f
limited_line line n f few (spelled_line ws s is) = limited_rule line ws is.rest (codes "rule") n f few s is.words is.follows

sized_lines : (n m : ℕ) (before : List LineForm) (ls : List (List ℕ)) (fs : List LineForm) → m ≤ too_many → AreWithin m ls → AreStanding before ls fs → HasSizedRules (declared_from n fs)
unfolding AreWithin
sized_lines n m before [] [] few within standing = tt
sized_lines n m before [] (f ∷ fs) few within standing = absurd standing
sized_lines n m before (l ∷ ls) [] few within standing = absurd standing
sized_lines n m before (l ∷ ls) (declares (rule k f) ∷ fs) few within standing = ((limited_line l k f (omega (arith, few, within.0)) standing.0).sized, sized_lines (n + 1) m (before ++ declares (rule k f) ∷ []) ls fs few within.1 standing.2)
sized_lines n m before (l ∷ ls) (declares d ∷ fs) few within standing = sized_lines (n + 1) m (before ++ declares d ∷ []) ls fs few within.1 standing.2
sized_lines n m before (l ∷ ls) (f ∷ fs) few within standing = sized_lines (n + 1) m (before ++ f ∷ []) ls fs few within.1 standing.2

nested_lines : (n m : ℕ) (before : List LineForm) (ls : List (List ℕ)) (fs : List LineForm) → m ≤ too_many → AreWithin m ls → AreStanding before ls fs → HasNestedRules (declared_from n fs)
unfolding AreWithin
nested_lines n m before [] [] few within standing = tt
nested_lines n m before [] (f ∷ fs) few within standing = absurd standing
nested_lines n m before (l ∷ ls) [] few within standing = absurd standing
nested_lines n m before (l ∷ ls) (declares (rule k f) ∷ fs) few within standing = ((limited_line l k f (omega (arith, few, within.0)) standing.0).nested, nested_lines (n + 1) m (before ++ declares (rule k f) ∷ []) ls fs few within.1 standing.2)
nested_lines n m before (l ∷ ls) (declares d ∷ fs) few within standing = nested_lines (n + 1) m (before ++ declares d ∷ []) ls fs few within.1 standing.2
nested_lines n m before (l ∷ ls) (f ∷ fs) few within standing = nested_lines (n + 1) m (before ++ f ∷ []) ls fs few within.1 standing.2

pub sized_sheet : (text : List ℕ) (ds : List (ℕ × Declared)) → length text ≤ too_many → IsSheetReading text (sheet ds) → HasSizedRules ds
sized_sheet text ds few (whole fs standing begun) = sized_lines 1 (length text) [] (lines text) fs few (lines_within text) standing

pub nested_sheet : (text : List ℕ) (ds : List (ℕ × Declared)) → length text ≤ too_many → IsSheetReading text (sheet ds) → HasNestedRules ds
nested_sheet text ds few (whole fs standing begun) = nested_lines 1 (length text) [] (lines text) fs few (lines_within text) standing
