-- What the version of a sheet tells.
use Rattle.std.proofs.Common.{◌≡◌, ℕ, ◌⊎◌, inl, inr, Bool, true, false, cond, ◌||◌, List, [], ◌∷◌, arith, refl, ap, ◌∙◌}
use Rattle.std.proofs.lemmas.Bool.{or_from, or_left, or_parts, or_right}
use Rattle.std.proofs.lemmas.List.Elements.{All-cons, All-head, All-nil, All-tail}
use Rattle.std.proofs.lemmas.List.Folds.{list_any_at, Any-from_list_any}
use Rattle.pc_sheet.specs.Sheet.{NamedStatement, Sheet}
use Rattle.pc_writer.specs.Counted.{has_counting, rule_counts}
use Rattle.pc_writer.specs.SheetText.{has_several, needs_second}
use Rattle.pc_writer.specs.Versions.{HasCounting, HasNoCounting, HasSeveral, HasSingle, VersionTells}
use Rattle.pc_writer.proofs.LaterEntries.{also_several, none_several, of_several, several_also, several_none, several_of, single_first}

-- ---- rules that count

counting_of : (rules : List NamedStatement) → HasCounting rules → has_counting rules ≡ true
counting_of rules some =
    let there = some.1 in
    list_any_at rule_counts rules there.0 some.0 there.1 (ap rule_counts there.2 ∙ some.2)

of_counting : (rules : List NamedStatement) → has_counting rules ≡ true → HasCounting rules
of_counting rules is =
    let found = Any-from_list_any rule_counts rules is in
    (found.1, (found.0, found.2, found.3), found.4)

none_counting : (rules : List NamedStatement) → has_counting rules ≡ false → HasNoCounting rules
none_counting [] is = All-nil (λ r. rule_counts r ≡ false)
none_counting (r ∷ rules) is =
    let both = or_parts (rule_counts r) (has_counting rules) is in
    All-cons (λ r. rule_counts r ≡ false) r rules both.0 (none_counting rules both.1)

counting_none : (rules : List NamedStatement) → HasNoCounting rules → has_counting rules ≡ false
counting_none [] none = refl
counting_none (r ∷ rules) none =
    or_from (rule_counts r) (has_counting rules) (All-head (λ r. rule_counts r ≡ false) r rules none) (counting_none rules (All-tail (λ r. rule_counts r ≡ false) r rules none))

-- ---- the version

-- by whether the first one doesn't do
abbrev version_of : Bool → ℕ
version_of b = cond b 2 1

two_second : (b : Bool) → version_of b ≡ 2 → b ≡ true
two_second true is = refl
two_second false is = absurd (omega (arith, is))

one_first : (b : Bool) → version_of b ≡ 1 → b ≡ false
one_first true is = absurd (omega (arith, is))
one_first false is = refl

second_two : (b : Bool) → b ≡ true → version_of b ≡ 2
second_two b is = ap version_of is

first_one : (b : Bool) → b ≡ false → version_of b ≡ 1
first_one b is = ap version_of is

either : (a b : Bool) → (a || b) ≡ true → (a ≡ true) ⊎ (b ≡ true)
either true b is = inl refl
either false b is = inr is

module _ (s : Sheet) where
  second_for : needs_second s ≡ true → HasSeveral s.entries ⊎ HasCounting s.rules
  second_for is = elim (either (has_several s.entries) (has_counting s.rules) is) [
    | inl several ↦ inl (of_several s.entries several)
    | inr counting ↦ inr (of_counting s.rules counting)
  ]

  for_second : HasSeveral s.entries ⊎ HasCounting s.rules → needs_second s ≡ true
  for_second (inl several) = or_left (has_several s.entries) (has_counting s.rules) (several_of s.entries several.0 several.1)
  for_second (inr counting) = or_right (has_several s.entries) (has_counting s.rules) (counting_of s.rules counting)

  first_for : needs_second s ≡ false → HasSingle s.entries × HasNoCounting s.rules
  first_for is = let both = or_parts (has_several s.entries) (has_counting s.rules) is in (none_several s.entries both.0, none_counting s.rules both.1)

  for_first : HasSingle s.entries × HasNoCounting s.rules → needs_second s ≡ false
  for_first both = or_from (has_several s.entries) (has_counting s.rules) (several_none s.entries both.0) (counting_none s.rules both.1)

pub version_tells : (s : Sheet) → VersionTells s
version_tells s =
    let b = needs_second s in
    record {
      second = (λ is. second_for s (two_second b is), λ some. second_two b (for_second s some));
      first = (λ is. first_for s (one_first b is), λ none. first_one b (for_first s none));
      later = (λ several. several_also s.universe s.entries (several_of s.entries several.0 several.1), λ also. of_several s.entries (also_several s.universe s.entries also.0 also.1));
      entered = λ single. single_first s.universe s.entries (several_none s.entries single);
    }
