-- The declarations of a book's rules give these rules.
use Rattle.std.proofs.Common.{◌≡◌, ◌≢◌, ℕ, ◌+◌, List, [], ◌∷◌, ◌++◌, length, map, arith, refl, ap, ◌∙◌}
use Rattle.std.proofs.lemmas.List.{map-append, length-append}
use Rattle.std.proofs.lemmas.List.Elements.{All-nil}
use Rattle.pc_sheet.specs.Sheet.{Universe, NamedStatement, Sheet}
use Rattle.pc_sheet.specs.WellFormed.{IsWellFormedUniverse, IsWellFormedRule, AreWellFormedRules, AreWellFormedEntries, IsEntryOf, IsWellFormed, rule_name}
use Rattle.pc_syntax.specs.Tree.{Declared}
use Rattle.pc_sortcheck.specs.Declaring.{Declares, DeclareAll}
use Rattle.pc_canonical_laws.specs.Declarations.{rule_declaration}
use Rattle.pc_canonical_laws.specs.Declared.{declared_in, universe_alone, without_entries}
use Rattle.pc_canonical_laws.proofs.Chain.{DeclareEach, each_declared, numbered_alike}
use Rattle.pc_canonical_laws.proofs.Sublists.{kept_each, kept_pairs, kept_here, front_kept, one_more}
use Rattle.pc_canonical_laws.proofs.StandingTrees.{statement_stands}

pub no_entries : (u : Universe) → AreWellFormedEntries u []
no_entries u = record { each = All-nil (IsEntryOf u); distinct = λ i j d order l. absurd (omega arith); few = λ c. omega arith }

pub no_rules : (u : Universe) → AreWellFormedRules u []
no_rules u = record { limit = omega arith; each = All-nil (IsWellFormedRule u); different = λ i j d order l. absurd (omega arith) }

pub alone_formed : (u : Universe) → IsWellFormedUniverse u → IsWellFormed (universe_alone u)
alone_formed u formed = record { universe = formed; rules = no_rules u; entries = no_entries u }

module _ (u : Universe) (all : List NamedStatement) (formed : IsWellFormedUniverse u) (rules : AreWellFormedRules u all) where
  abbrev with_rules : List NamedStatement → Sheet
  with_rules rs = record { universe = u; rules = rs; entries = [] }

  first_rules : (before after : List NamedStatement) → all ≡ before ++ after → AreWellFormedRules u before
  first_rules before after is =
      let many : length all ≡ length before + length after = ap length is ∙ length-append before after in
      let names : map rule_name all ≡ map rule_name before ++ map rule_name after = ap (map rule_name) is ∙ map-append rule_name before after in
      record {
        limit = omega (arith, many, rules.limit);
        each = kept_each (IsWellFormedRule u) before all (front_kept all before after is) rules.each;
        different = kept_pairs (λ x y. x ≢ y) (map rule_name before) (map rule_name all) (front_kept (map rule_name all) (map rule_name before) (map rule_name after) names) rules.different;
      }

  rule_declared : (before : List NamedStatement) (r : NamedStatement) (after : List NamedStatement) → all ≡ before ++ r ∷ after → Declares (with_rules before) (rule_declaration u r) (with_rules (before ++ r ∷ []))
  rule_declared before r after is = (
    (r.states, statement_stands u [] r.states (kept_here (IsWellFormedRule u) all before r after is rules.each).sorted, refl),
    record { universe = formed; rules = first_rules (before ++ r ∷ []) after (one_more all before r after is); entries = no_entries u },
  )

  pub rules_declared : DeclareEach (universe_alone u) (map (rule_declaration u) all) (with_rules all)
  rules_declared = each_declared all (λ before after. with_rules before) (rule_declaration u) rule_declared all [] refl

pub rules_given : (s : Sheet) → IsWellFormed s → (ds : List (ℕ × Declared)) → map declared_in ds ≡ map (rule_declaration s.universe) s.rules → DeclareAll (universe_alone s.universe) ds (without_entries s)
rules_given s formed ds are = numbered_alike (universe_alone s.universe) (without_entries s) (map (rule_declaration s.universe) s.rules) ds are (rules_declared s.universe s.rules formed.universe formed.rules)
