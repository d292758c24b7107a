-- What stands beside a claim: sets where it is on sets, and entries where it is on a target or against a rule.
use Rattle.std.proofs.Common.{◌≡◌, ℕ, ◌+◌, Bool, true, false, ◌&&◌, ◌||◌, not, List, [], ◌∷◌, ◌++◌, map, Some, refl, sym, ◌∙◌, ap, subst}
use Rattle.std.proofs.lemmas.List.Folds.{list_any-append}
use Rattle.std.proofs.lemmas.Option.{same_Some}
use Rattle.pc_sheet.specs.Sheet.{Sheet}
use Rattle.pc_accept.specs.Accepts.{Claim, implied, inconsistent, repairs, unimplied, against}
use Rattle.pc_cert.specs.Written.{nothing, heading, claims, begins, uses, assigns, derives, ends, WrittenLine, SaidLine}
use Rattle.pc_cert.specs.Claims.{WrittenClaim, written_implied, written_inconsistent, written_repairs, written_unimplied, written_against, IsClaimNamed}
use Rattle.pc_cert.specs.Order.{LineKind, kind_of, kind_of_claim, kind_of_written, kind_of_written_claim, is_on_sets, is_before_entries, is_claim, is_numbered, is_end, is_heading, has, lacks, has_value_since, sets_in, may_stand, all_may_stand}
use Rattle.pc_cert.specs.Meaning.{IsSaidLine}
use Rattle.pc_cert.specs.Text.{AllSay, in_front, sets_from, uses_from, values_from, claim_in}
use Rattle.pc_cert.proofs.TestsDiffer.{false_no_true, both_first, both_second}

-- ---- tests

not_true : (b : Bool) → not b ≡ true → b ≡ false
not_true true e = absurd (cc)
not_true false e = refl

-- ---- what stands before

lacks_still : (test : LineKind → Bool) (before : List LineKind) (k : LineKind) → has test before ≡ false → test k ≡ false → has test (before ++ k ∷ []) ≡ false
lacks_still test before k none other = list_any-append test before (k ∷ []) ∙ ap (λ b. b || (test k || false)) none ∙ ap (λ b. b || false) other

has_still : (test : LineKind → Bool) (before : List LineKind) (k : LineKind) → has test before ≡ true → has test (before ++ k ∷ []) ≡ true
has_still test before k some = list_any-append test before (k ∷ []) ∙ ap (λ b. b || (test k || false)) some

either : (a b : Bool) → b ≡ true → (a || b) ≡ true
either true b e = refl
either false b e = e

has_now : (test : LineKind → Bool) (before : List LineKind) (k : LineKind) → test k ≡ true → has test (before ++ k ∷ []) ≡ true
has_now test before k is = list_any-append test before (k ∷ []) ∙ either (has test before) (test k || false) (ap (λ b. b || false) is)

-- ---- lines that say something stand

same_claim_kind : (sheet : Sheet) (w : WrittenClaim) (c : Claim) → IsClaimNamed sheet w c → kind_of_written_claim w ≡ kind_of_claim c
same_claim_kind sheet (written_implied p holds) (implied t) is = refl
same_claim_kind sheet written_inconsistent inconsistent is = refl
same_claim_kind sheet written_repairs repairs is = refl
same_claim_kind sheet (written_unimplied p) (unimplied t) is = refl
same_claim_kind sheet (written_against n) (against r) is = refl
same_claim_kind sheet w c is = absurd is

pub same_kind : (sheet : Sheet) (sets : ℕ) (f : WrittenLine) (l : SaidLine) → IsSaidLine sheet sets f l → kind_of_written f ≡ kind_of l
same_kind sheet sets nothing nothing is = refl
same_kind sheet sets heading heading is = refl
same_kind sheet sets (claims w) (claims c) is = same_claim_kind sheet w c is
same_kind sheet sets begins begins is = refl
same_kind sheet sets (uses p) (uses e) is = refl
same_kind sheet sets (assigns p) (assigns e) is = refl
same_kind sheet sets (derives n w) (derives m p) is = ap (λ k. LineKind.numbered_line k) (sym is.0)
same_kind sheet sets ends ends is = refl
same_kind sheet sets f l is = absurd is

said_stand : (sheet : Sheet) (before : List LineKind) (lines : List (List ℕ)) (ls : List SaidLine) → AllSay sheet before lines ls → all_may_stand before (map kind_of ls) ≡ true
said_stand sheet before [] [] all = refl
said_stand sheet before [] (l ∷ ls) all = absurd all
said_stand sheet before (line ∷ lines) [] all = refl
said_stand sheet before (line ∷ lines) (l ∷ ls) all =
    let may = subst (λ k. may_stand before k ≡ true) (same_kind sheet (sets_in before) all.0.form l all.0.named) all.0.may in
    let rest = said_stand sheet (before ++ kind_of l ∷ []) lines ls all.1 in
    ap (λ b. b && all_may_stand (before ++ kind_of l ∷ []) (map kind_of ls)) may ∙ rest

stand_now : (before : List LineKind) (l : SaidLine) (ls : List SaidLine) → all_may_stand before (map kind_of (l ∷ ls)) ≡ true → may_stand before (kind_of l) ≡ true
stand_now before l ls stands = both_first (may_stand before (kind_of l)) _ stands

stand_behind : (before : List LineKind) (l : SaidLine) (ls : List SaidLine) → all_may_stand before (map kind_of (l ∷ ls)) ≡ true → all_may_stand (before ++ kind_of l ∷ []) (map kind_of ls) ≡ true
stand_behind before l ls stands = both_second (may_stand before (kind_of l)) _ stands

no_second_claim : (before : List LineKind) → has is_claim before ≡ true → (has is_heading before && lacks is_claim before) ≡ true → ⊥
no_second_claim before some may = false_no_true (has is_claim before) (not_true (has is_claim before) (both_second (has is_heading before) (lacks is_claim before) may)) some

is_a_claim : (c : Claim) → is_claim (kind_of_claim c) ≡ true
is_a_claim (implied t) = refl
is_a_claim inconsistent = refl
is_a_claim repairs = refl
is_a_claim (unimplied t) = refl
is_a_claim (against r) = refl

may_claim : (before : List LineKind) (c : Claim) → may_stand before (kind_of_claim c) ≡ true → (has is_heading before && lacks is_claim before) ≡ true
may_claim before (implied t) may = may
may_claim before inconsistent may = may
may_claim before repairs may = may
may_claim before (unimplied t) may = may
may_claim before (against r) may = may

no_claim_more : (before : List LineKind) (c : Claim) → has is_claim before ≡ true → may_stand before (kind_of_claim c) ≡ true → ⊥
no_claim_more before c some may = no_second_claim before some (may_claim before c may)

-- ---- without sets

-- a `set` line stands behind a claim on sets alone
no_set : (before : List LineKind) → has is_on_sets before ≡ false → may_stand before LineKind.set_line ≡ true → ⊥
no_set before none may =
    let behind = both_first (has is_on_sets before && lacks is_numbered before) (lacks is_end before) may in
    false_no_true (has is_on_sets before) none (both_first (has is_on_sets before) (lacks is_numbered before) behind)

no_sets_behind : (before : List LineKind) (ls : List SaidLine) (n : ℕ) → all_may_stand before (map kind_of ls) ≡ true → has is_on_sets before ≡ false → has is_claim before ≡ true → sets_from n ls ≡ []
no_sets_behind before [] n stands none some = refl
no_sets_behind before (nothing ∷ ls) n stands none some = no_sets_behind _ ls (n + 1) (stand_behind before nothing ls stands) (lacks_still is_on_sets before _ none refl) (has_still is_claim before _ some)
no_sets_behind before (heading ∷ ls) n stands none some = no_sets_behind _ ls (n + 1) (stand_behind before heading ls stands) (lacks_still is_on_sets before _ none refl) (has_still is_claim before _ some)
no_sets_behind before (claims c ∷ ls) n stands none some = absurd (no_claim_more before c some (stand_now before (claims c) ls stands))
no_sets_behind before (begins ∷ ls) n stands none some = absurd (no_set before none (stand_now before begins ls stands))
no_sets_behind before (uses e ∷ ls) n stands none some = no_sets_behind _ ls (n + 1) (stand_behind before (uses e) ls stands) (lacks_still is_on_sets before _ none refl) (has_still is_claim before _ some)
no_sets_behind before (assigns e ∷ ls) n stands none some = no_sets_behind _ ls (n + 1) (stand_behind before (assigns e) ls stands) (lacks_still is_on_sets before _ none refl) (has_still is_claim before _ some)
no_sets_behind before (derives m p ∷ ls) n stands none some = no_sets_behind _ ls (n + 1) (stand_behind before (derives m p) ls stands) (lacks_still is_on_sets before _ none refl) (has_still is_claim before _ some)
no_sets_behind before (ends ∷ ls) n stands none some = no_sets_behind _ ls (n + 1) (stand_behind before ends ls stands) (lacks_still is_on_sets before _ none refl) (has_still is_claim before _ some)

module _ (c : Claim) (other : is_on_sets (kind_of_claim c) ≡ false) where
  no_sets : (before : List LineKind) (ls : List SaidLine) (n : ℕ) → all_may_stand before (map kind_of ls) ≡ true → has is_on_sets before ≡ false → claim_in ls ≡ Some c → sets_from n ls ≡ []
  no_sets before [] n stands none claimed = refl
  no_sets before (nothing ∷ ls) n stands none claimed = no_sets _ ls (n + 1) (stand_behind before nothing ls stands) (lacks_still is_on_sets before _ none refl) claimed
  no_sets before (heading ∷ ls) n stands none claimed = no_sets _ ls (n + 1) (stand_behind before heading ls stands) (lacks_still is_on_sets before _ none refl) claimed
  no_sets before (claims d ∷ ls) n stands none claimed =
      let same : d ≡ c = same_Some d c claimed in
      no_sets_behind _ ls (n + 1) (stand_behind before (claims d) ls stands) (lacks_still is_on_sets before _ none (ap (λ x. is_on_sets (kind_of_claim x)) same ∙ other)) (has_now is_claim before (kind_of_claim d) (is_a_claim d))
  no_sets before (begins ∷ ls) n stands none claimed = absurd (no_set before none (stand_now before begins ls stands))
  no_sets before (uses e ∷ ls) n stands none claimed = no_sets _ ls (n + 1) (stand_behind before (uses e) ls stands) (lacks_still is_on_sets before _ none refl) claimed
  no_sets before (assigns e ∷ ls) n stands none claimed = no_sets _ ls (n + 1) (stand_behind before (assigns e) ls stands) (lacks_still is_on_sets before _ none refl) claimed
  no_sets before (derives m p ∷ ls) n stands none claimed = no_sets _ ls (n + 1) (stand_behind before (derives m p) ls stands) (lacks_still is_on_sets before _ none refl) claimed
  no_sets before (ends ∷ ls) n stands none claimed = no_sets _ ls (n + 1) (stand_behind before ends ls stands) (lacks_still is_on_sets before _ none refl) claimed

  pub no_sets_beside : (sheet : Sheet) (lines : List (List ℕ)) (ls : List SaidLine) (n : ℕ) → AllSay sheet [] lines ls → claim_in ls ≡ Some c → sets_from n ls ≡ []
  no_sets_beside sheet lines ls n all claimed = no_sets [] ls n (said_stand sheet [] lines ls all) refl claimed

-- ---- without entries

-- neither entries that are used nor values, in front of the sets
abbrev AreBare : ℕ → List SaidLine → Type 0
AreBare n ls = (uses_from n (in_front ls) ≡ []) × (values_from n (in_front ls) ≡ [])

-- a `use` and a `value` line stand behind a claim on a target or against a rule, or a `set` line, alone
no_use : (before : List LineKind) → has is_before_entries before ≡ false → may_stand before LineKind.use_line ≡ true → ⊥
no_use before none may =
    let behind = both_first (has is_before_entries before && not (has_value_since false before) && lacks is_numbered before) (lacks is_end before) may in
    let inner = both_first (has is_before_entries before && not (has_value_since false before)) (lacks is_numbered before) behind in
    false_no_true (has is_before_entries before) none (both_first (has is_before_entries before) (not (has_value_since false before)) inner)

no_value : (before : List LineKind) → has is_before_entries before ≡ false → may_stand before LineKind.value_line ≡ true → ⊥
no_value before none may =
    let behind = both_first (has is_before_entries before && lacks is_numbered before) (lacks is_end before) may in
    false_no_true (has is_before_entries before) none (both_first (has is_before_entries before) (lacks is_numbered before) behind)

bare_behind : (before : List LineKind) (ls : List SaidLine) (n : ℕ) → all_may_stand before (map kind_of ls) ≡ true → has is_before_entries before ≡ false → has is_claim before ≡ true → AreBare n ls
bare_behind before [] n stands none some = (refl, refl)
bare_behind before (nothing ∷ ls) n stands none some = bare_behind _ ls (n + 1) (stand_behind before nothing ls stands) (lacks_still is_before_entries before _ none refl) (has_still is_claim before _ some)
bare_behind before (heading ∷ ls) n stands none some = bare_behind _ ls (n + 1) (stand_behind before heading ls stands) (lacks_still is_before_entries before _ none refl) (has_still is_claim before _ some)
bare_behind before (claims c ∷ ls) n stands none some = absurd (no_claim_more before c some (stand_now before (claims c) ls stands))
bare_behind before (begins ∷ ls) n stands none some = (refl, refl)
bare_behind before (uses e ∷ ls) n stands none some = absurd (no_use before none (stand_now before (uses e) ls stands))
bare_behind before (assigns e ∷ ls) n stands none some = absurd (no_value before none (stand_now before (assigns e) ls stands))
bare_behind before (derives m p ∷ ls) n stands none some = bare_behind _ ls (n + 1) (stand_behind before (derives m p) ls stands) (lacks_still is_before_entries before _ none refl) (has_still is_claim before _ some)
bare_behind before (ends ∷ ls) n stands none some = bare_behind _ ls (n + 1) (stand_behind before ends ls stands) (lacks_still is_before_entries before _ none refl) (has_still is_claim before _ some)

module _ (c : Claim) (other : is_before_entries (kind_of_claim c) ≡ false) where
  bare : (before : List LineKind) (ls : List SaidLine) (n : ℕ) → all_may_stand before (map kind_of ls) ≡ true → has is_before_entries before ≡ false → claim_in ls ≡ Some c → AreBare n ls
  bare before [] n stands none claimed = (refl, refl)
  bare before (nothing ∷ ls) n stands none claimed = bare _ ls (n + 1) (stand_behind before nothing ls stands) (lacks_still is_before_entries before _ none refl) claimed
  bare before (heading ∷ ls) n stands none claimed = bare _ ls (n + 1) (stand_behind before heading ls stands) (lacks_still is_before_entries before _ none refl) claimed
  bare before (claims d ∷ ls) n stands none claimed =
      let same : d ≡ c = same_Some d c claimed in
      bare_behind _ ls (n + 1) (stand_behind before (claims d) ls stands) (lacks_still is_before_entries before _ none (ap (λ x. is_before_entries (kind_of_claim x)) same ∙ other)) (has_now is_claim before (kind_of_claim d) (is_a_claim d))
  bare before (begins ∷ ls) n stands none claimed = (refl, refl)
  bare before (uses e ∷ ls) n stands none claimed = absurd (no_use before none (stand_now before (uses e) ls stands))
  bare before (assigns e ∷ ls) n stands none claimed = absurd (no_value before none (stand_now before (assigns e) ls stands))
  bare before (derives m p ∷ ls) n stands none claimed = bare _ ls (n + 1) (stand_behind before (derives m p) ls stands) (lacks_still is_before_entries before _ none refl) claimed
  bare before (ends ∷ ls) n stands none claimed = bare _ ls (n + 1) (stand_behind before ends ls stands) (lacks_still is_before_entries before _ none refl) claimed

  pub bare_beside : (sheet : Sheet) (lines : List (List ℕ)) (ls : List SaidLine) (n : ℕ) → AllSay sheet [] lines ls → claim_in ls ≡ Some c → AreBare n ls
  bare_beside sheet lines ls n all claimed = bare [] ls n (said_stand sheet [] lines ls all) refl claimed
