-- A well-formed sheet with one more rule.
use Rattle.std.proofs.Common.{◌≡◌, ◌≢◌, ◌<◌, ◌≤◌, [], ◌∷◌, ◌++◌, map, length, Contains, arith, subst, sym, refl}
use Rattle.std.proofs.lemmas.List.{length-append, map-append}
use Rattle.std.proofs.lemmas.List.Elements.{All-push, Contains-get_or}
use Rattle.std.proofs.lemmas.List.Quantifiers.{all_pairs_push}
use Rattle.pc_name.specs.Names.{IsName}
use Rattle.pc_sheet.specs.Nesting.{nesting_of}
use Rattle.pc_sheet.specs.Sheet.{Sheet, NamedStatement, with_rule}
use Rattle.pc_sheet.specs.WellFormed.{AreDifferent, IsWellFormedRule, IsWellFormed, rule_name}
use Rattle.pc_sheet.specs.WellSorted.{IsWellSorted}
use Rattle.pc_sortcheck.proofs.NewNames.{pairs_cross}
use Rattle.pc_sortcheck.proofs.WithSort.{last_of}

module _ (s : Sheet) (r : NamedStatement) where
  rule_names : map rule_name (s.rules ++ r ∷ []) ≡ map rule_name s.rules ++ r.name ∷ []
  rule_names = map-append rule_name s.rules (r ∷ [])

  pub with_one_rule : IsWellFormed s → IsName r.name → length s.rules < 1024 → ¬ Contains (map rule_name s.rules) r.name → IsWellSorted s.universe [] r.states → nesting_of r.states ≤ 128 → IsWellFormed (with_rule s r)
  with_one_rule h named few fresh sorted nesting = record {
    universe = h.universe;
    rules = record {
      limit = omega (arith, length-append s.rules (r ∷ []), few);
      each = All-push (IsWellFormedRule s.universe) s.rules r h.rules.each (record { named = named; sorted = sorted; nesting = nesting });
      different = subst AreDifferent (sym rule_names) (all_pairs_push (λ x y. x ≢ y) (map rule_name s.rules) r.name h.rules.different (λ k d l same. fresh (subst (Contains (map rule_name s.rules)) same (Contains-get_or (map rule_name s.rules) k d l))));
    };
    entries = h.entries;
  }

  -- what the new rule had to be
  pub record RuleFits : Type 0 where
    pub few : length s.rules < 1024
    pub fresh : ¬ Contains (map rule_name s.rules) r.name
    pub sorted : IsWellSorted s.universe [] r.states
    pub nesting : nesting_of r.states ≤ 128

  pub rule_needs : IsWellFormed (with_rule s r) → RuleFits
  rule_needs h =
      let last = last_of (IsWellFormedRule s.universe) s.rules r h.rules.each in
      record {
        few = omega (arith, length-append s.rules (r ∷ []), h.rules.limit);
        fresh = λ k. pairs_cross (λ x y. x ≢ y) (map rule_name s.rules) (r.name ∷ []) (subst AreDifferent rule_names h.rules.different) r.name r.name k (0, omega arith, refl) refl;
        sorted = last.sorted;
        nesting = last.nesting;
      }
