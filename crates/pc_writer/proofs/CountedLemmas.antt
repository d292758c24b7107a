-- Parts and rules one after another: whether some one counts.
use Rattle.std.proofs.Common.{◌≡◌, ℕ, ◌+◌, ◌<◌, Bool, false, ◌||◌, List, [], ◌∷◌, length, map, take, slice_index_or, refl, ap, ◌∙◌}
use Rattle.std.specs.List.{list_any}
use Rattle.std.proofs.lemmas.Bool.{or_from}
use Rattle.std.proofs.lemmas.List.{take_more}
use Rattle.std.proofs.lemmas.List.Folds.{list_any-append}
use Rattle.pc_sheet.specs.Views.{rule_of, statement_of, statements_of}
use Rattle.pc_sheet.specs.declared.formula.Formula.{Formula}
use Rattle.pc_sheet.specs.declared.formula.Rule.{Rule}
use Rattle.pc_writer.specs.Counted.{has_count, has_counting, have_count}

abbrev pub counts : Formula → Bool
counts f = has_count (statement_of f)

abbrev pub rule_counts : Rule → Bool
rule_counts r = counts r.formula

pub parts_as_any : (fs : List Formula) → have_count (statements_of (map statement_of fs)) ≡ list_any counts fs
parts_as_any [] = refl
parts_as_any (f ∷ fs) = ap (λ b. counts f || b) (parts_as_any fs)

pub rules_as_any : (rs : List Rule) → has_counting (map rule_of rs) ≡ list_any rule_counts rs
rules_as_any [] = refl
rules_as_any (r ∷ rs) = ap (λ b. rule_counts r || b) (rules_as_any rs)

-- no one among one more
pub none_more : {A : Type 0} (p : A → Bool) (xs : List A) (i : ℕ) (d : A) → i < length xs → list_any p (take i xs) ≡ false → p (slice_index_or xs i d) ≡ false → list_any p (take (i + 1) xs) ≡ false
none_more p xs i d below none other =
    ap (list_any p) (take_more xs i d below) ∙ list_any-append p (take i xs) (slice_index_or xs i d ∷ []) ∙ or_from (list_any p (take i xs)) (p (slice_index_or xs i d) || false) none (or_from (p (slice_index_or xs i d)) false other refl)
