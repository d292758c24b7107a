-- The part of a sheet in which a line stands is known from the lines before it.
use Rattle.std.proofs.Common.{◌≡◌, ℕ, Bool, true, false, ◌&&◌, ◌||◌, ◌==◌, Some, None, List, [], ◌∷◌, ◌++◌, arith, refl, ◌∙◌, ap, ap₂, subst, if◌then◌else◌}
use Rattle.std.specs.Prelude.{not}
use Rattle.std.specs.List.{list_any}
use Rattle.std.proofs.lemmas.Bool.{eqb-true}
use Rattle.std.proofs.lemmas.List.Folds.{list_any-append}
use Rattle.pc_syntax.specs.declared.sheet.Part.{Part}
use Rattle.pc_syntax.specs.declared.sheet.Part.TheVariants.{Heading, Universe, Rules, End}
use Rattle.pc_syntax.specs.declared.sheet.Version.{Version}
use Rattle.pc_syntax.specs.declared.sheet.Version.TheVariants.{First, Second}
use Rattle.pc_syntax.specs.Tree.{Declared}
use Rattle.pc_syntax.specs.Fault.{syntax, wrong_version}
use Rattle.pc_syntax.specs.Line.{LineForm, nothing, heading, declares, begins}
use Rattle.pc_syntax.specs.Sheet.{is_heading, is_begin, is_rule, is_rule_line, is_of_universe, is_of_second, is_version, is_second, is_open, may_stand, misplacement}
use Rattle.pc_syntax.specs.Part.{is_second_version, IsPartBehind, is_too_new, next_part, misplaced}

-- ---- one line more

or_false : (a : Bool) → (a || false) ≡ a
or_false true = refl
or_false false = refl

pub grown : (p : LineForm → Bool) (before : List LineForm) (f : LineForm) (a c : Bool) → list_any p before ≡ a → p f ≡ c → list_any p (before ++ f ∷ []) ≡ (a || c)
grown p before f a c one other = list_any-append p before (f ∷ []) ∙ ap₂ (λ x y. x || y) one (or_false (p f) ∙ other)

-- the version is that of the heading
version_stays : (before : List LineForm) (f : LineForm) (s : Bool) → list_any is_second before ≡ s → is_second f ≡ false → list_any is_second (before ++ f ∷ []) ≡ s
version_stays before f s one other = grown is_second before f s false one other ∙ or_false s

-- a line that tells no part from another
kept : (p : Part) (before : List LineForm) (f : LineForm) → is_heading f ≡ false → is_begin f ≡ false → is_rule_line f ≡ false → is_second f ≡ false → IsPartBehind p before → IsPartBehind p (before ++ f ∷ [])
kept Heading before f h b r s is = (grown is_heading before f false false is.0 h, grown is_begin before f false false is.1 b, grown is_rule_line before f false false is.2 r, grown is_second before f false false is.3 s)
kept (Universe v) before f h b r s is = (grown is_heading before f true false is.0 h, grown is_begin before f false false is.1 b, grown is_rule_line before f false false is.2 r, version_stays before f (is_second_version v) is.3 s)
kept (Rules v) before f h b r s is = (grown is_heading before f true false is.0 h, grown is_begin before f false false is.1 b, grown is_rule_line before f true false is.2 r, version_stays before f (is_second_version v) is.3 s)
kept End before f h b r s is = (grown is_heading before f true false is.0 h, grown is_begin before f true false is.1 b)

-- ---- where a line may stand

pub record Stands (q : Part) (before : List LineForm) (f : LineForm) : Type 0 where
  pub may : may_stand before f ≡ true
  pub part : IsPartBehind q (before ++ f ∷ [])

pub record Stays (p : Part) (before : List LineForm) (f : LineForm) : Type 0 where
  pub may_not : may_stand before f ≡ false
  pub fault : misplacement before f ≡ misplaced p f

-- the tests, where their parts are known
opens : (before : List LineForm) (h b : Bool) → list_any is_heading before ≡ h → list_any is_begin before ≡ b → is_open before ≡ (h && not b)
opens before h b one other = ap₂ (λ x y. x && not y) one other

heads : (before : List LineForm) (n : ℕ) (h t : Bool) → list_any is_heading before ≡ h → is_version n ≡ t → may_stand before (heading n) ≡ (not h && t)
heads before n h t one other = ap₂ (λ x y. not x && y) one other

declared_there : (before : List LineForm) (d : Declared) (o u r s : Bool) → is_open before ≡ o → is_of_universe d ≡ u → list_any is_rule_line before ≡ r → list_any is_second before ≡ s → may_stand before (declares d) ≡ (o && ((not u || not r) && (not (is_of_second d) || s)))
declared_there before d o u r s open_is universe rules second =
    ap₂ (λ x y. x && y) open_is (ap₂ (λ x y. x && y) (ap₂ (λ x y. not x || not y) universe rules) (ap (λ y. not (is_of_second d) || y) second))

-- no number is two versions
one_version : (n : ℕ) → (n == 1) ≡ true → (n == 2) ≡ true → ⊥
one_version n one two =
    let first : n ≡ 1 = eqb-true n 1 one in
    let second : n ≡ 2 = eqb-true n 2 two in
    absurd (omega (arith, first, second))

heading_stands : (before : List LineForm) (n : ℕ) (q : Part) (t u : Bool) → IsPartBehind Heading before → (n == 1) ≡ t → (n == 2) ≡ u → (if t then Some (Universe First) else (if u then Some (Universe Second) else None)) ≡ Some q → Stands q before (heading n)
heading_stands before n q true true is one two goes = absurd (one_version n one two)
heading_stands before n q true false is one two goes =
    let same : Universe First ≡ q = cc in
    subst (λ p. Stands p before (heading n)) same (record {
      may = heads before n false true is.0 (ap₂ (λ x y. x || y) one two);
      part = (grown is_heading before (heading n) false true is.0 refl, grown is_begin before (heading n) false false is.1 refl, grown is_rule_line before (heading n) false false is.2 refl, grown is_second before (heading n) false false is.3 two);
    })
heading_stands before n q false true is one two goes =
    let same : Universe Second ≡ q = cc in
    subst (λ p. Stands p before (heading n)) same (record {
      may = heads before n false true is.0 (ap₂ (λ x y. x || y) one two);
      part = (grown is_heading before (heading n) false true is.0 refl, grown is_begin before (heading n) false false is.1 refl, grown is_rule_line before (heading n) false false is.2 refl, grown is_second before (heading n) false true is.3 two);
    })
heading_stands before n q false false is one two goes = cc

either : (u : Bool) → (not u || true) ≡ true
either true = refl
either false = refl

both : (a b : Bool) → a ≡ true → b ≡ true → (a && b) ≡ true
both true true one other = refl
both true false one other = other
both false b one other = one

neither : (a b : Bool) → b ≡ false → (a && b) ≡ false
neither true b stays = stays
neither false b stays = refl

-- where the version has the line
new_enough : (a s : Bool) → (a && not s) ≡ false → (not a || s) ≡ true
new_enough true true is = refl
new_enough true false is = cc
new_enough false s is = refl

too_new : (a s : Bool) → (a && not s) ≡ true → (not a || s) ≡ false
too_new true true is = cc
too_new true false is = refl
too_new false s is = cc

universe_may : (before : List LineForm) (d : Declared) (v : Version) → IsPartBehind (Universe v) before → is_too_new v d ≡ false → may_stand before (declares d) ≡ true
universe_may before d v is fits =
    declared_there before d true (is_of_universe d) false (is_second_version v) (opens before true false is.0 is.1) refl is.2 is.3
    ∙ both (not (is_of_universe d) || true) (not (is_of_second d) || is_second_version v) (either (is_of_universe d)) (new_enough (is_of_second d) (is_second_version v) fits)

universe_stands : (before : List LineForm) (d : Declared) (v : Version) (q : Part) (w t : Bool) → IsPartBehind (Universe v) before → is_too_new v d ≡ w → is_rule d ≡ t → (if w then None else (if t then Some (Rules v) else Some (Universe v))) ≡ Some q → Stands q before (declares d)
universe_stands before d v q true t is fits rules goes = cc
universe_stands before d v q false true is fits rules goes =
    let same : Rules v ≡ q = cc in
    subst (λ p. Stands p before (declares d)) same (record {
      may = universe_may before d v is fits;
      part = (grown is_heading before (declares d) true false is.0 refl, grown is_begin before (declares d) false false is.1 refl, grown is_rule_line before (declares d) false true is.2 rules, version_stays before (declares d) (is_second_version v) is.3 refl);
    })
universe_stands before d v q false false is fits rules goes =
    let same : Universe v ≡ q = cc in
    subst (λ p. Stands p before (declares d)) same (record {
      may = universe_may before d v is fits;
      part = (grown is_heading before (declares d) true false is.0 refl, grown is_begin before (declares d) false false is.1 refl, grown is_rule_line before (declares d) false false is.2 rules, version_stays before (declares d) (is_second_version v) is.3 refl);
    })

rule_stands : (before : List LineForm) (d : Declared) (v : Version) (q : Part) (w t : Bool) → IsPartBehind (Rules v) before → is_too_new v d ≡ w → is_of_universe d ≡ t → (if w then None else (if t then None else Some (Rules v))) ≡ Some q → Stands q before (declares d)
rule_stands before d v q true t is fits universe goes = cc
rule_stands before d v q false true is fits universe goes = cc
rule_stands before d v q false false is fits universe goes =
    let same : Rules v ≡ q = cc in
    subst (λ p. Stands p before (declares d)) same (record {
      may = declared_there before d true false true (is_second_version v) (opens before true false is.0 is.1) universe is.2 is.3 ∙ new_enough (is_of_second d) (is_second_version v) fits;
      part = (grown is_heading before (declares d) true false is.0 refl, grown is_begin before (declares d) false false is.1 refl, grown is_rule_line before (declares d) true (is_rule d) is.2 refl, version_stays before (declares d) (is_second_version v) is.3 refl);
    })

pub stands : (p q : Part) (before : List LineForm) (f : LineForm) → IsPartBehind p before → next_part p f ≡ Some q → Stands q before f
stands p q before nothing is goes =
    let same : p ≡ q = cc in
    subst (λ r. Stands r before nothing) same (record { may = refl; part = kept p before nothing refl refl refl refl is })
stands Heading q before (heading n) is goes = heading_stands before n q (n == 1) (n == 2) is refl refl goes
stands (Universe v) q before begins is goes =
    let same : End ≡ q = cc in
    subst (λ r. Stands r before begins) same (record { may = opens before true false is.0 is.1; part = (grown is_heading before begins true false is.0 refl, grown is_begin before begins false true is.1 refl) })
stands (Rules v) q before begins is goes =
    let same : End ≡ q = cc in
    subst (λ r. Stands r before begins) same (record { may = opens before true false is.0 is.1; part = (grown is_heading before begins true false is.0 refl, grown is_begin before begins false true is.1 refl) })
stands (Universe v) q before (declares d) is goes = universe_stands before d v q (is_too_new v d) (is_rule d) is refl refl goes
stands (Rules v) q before (declares d) is goes = rule_stands before d v q (is_too_new v d) (is_of_universe d) is refl refl goes
stands p q before f is goes = cc

-- ---- where it may not

fault_there : (before : List LineForm) (n : ℕ) (h : Bool) → list_any is_heading before ≡ h → misplacement before (heading n) ≡ (if h then syntax else wrong_version)
fault_there before n h is = ap (λ x. if x then syntax else wrong_version) is

heading_stays : (before : List LineForm) (n : ℕ) (t u : Bool) → IsPartBehind Heading before → (n == 1) ≡ t → (n == 2) ≡ u → (if t then Some (Universe First) else (if u then Some (Universe Second) else None)) ≡ None → Stays Heading before (heading n)
heading_stays before n true u is one two goes = cc
heading_stays before n false true is one two goes = cc
heading_stays before n false false is one two goes = record { may_not = heads before n false false is.0 (ap₂ (λ x y. x || y) one two); fault = fault_there before n false is.0 }

universe_stays : (before : List LineForm) (d : Declared) (v : Version) (w t : Bool) → IsPartBehind (Universe v) before → is_too_new v d ≡ w → (if w then None else (if t then Some (Rules v) else Some (Universe v))) ≡ None → Stays (Universe v) before (declares d)
universe_stays before d v true t is fits goes = record {
  may_not = declared_there before d true (is_of_universe d) false (is_second_version v) (opens before true false is.0 is.1) refl is.2 is.3
      ∙ neither (not (is_of_universe d) || true) (not (is_of_second d) || is_second_version v) (too_new (is_of_second d) (is_second_version v) fits);
  fault = refl;
}
universe_stays before d v false true is fits goes = cc
universe_stays before d v false false is fits goes = cc

rule_stays : (before : List LineForm) (d : Declared) (v : Version) (w t : Bool) → IsPartBehind (Rules v) before → is_too_new v d ≡ w → is_of_universe d ≡ t → (if w then None else (if t then None else Some (Rules v))) ≡ None → Stays (Rules v) before (declares d)
rule_stays before d v true t is fits universe goes = record {
  may_not = declared_there before d true (is_of_universe d) true (is_second_version v) (opens before true false is.0 is.1) refl is.2 is.3
      ∙ neither (not (is_of_universe d) || false) (not (is_of_second d) || is_second_version v) (too_new (is_of_second d) (is_second_version v) fits);
  fault = refl;
}
rule_stays before d v false true is fits universe goes = record { may_not = declared_there before d true true true (is_second_version v) (opens before true false is.0 is.1) universe is.2 is.3; fault = refl }
rule_stays before d v false false is fits universe goes = cc

pub stays : (p : Part) (before : List LineForm) (f : LineForm) → IsPartBehind p before → next_part p f ≡ None → Stays p before f
stays p before nothing is goes = cc
stays Heading before (heading n) is goes = heading_stays before n (n == 1) (n == 2) is refl refl goes
stays (Universe v) before (heading n) is goes = record { may_not = heads before n true (is_version n) is.0 refl; fault = fault_there before n true is.0 }
stays (Rules v) before (heading n) is goes = record { may_not = heads before n true (is_version n) is.0 refl; fault = fault_there before n true is.0 }
stays End before (heading n) is goes = record { may_not = heads before n true (is_version n) is.0 refl; fault = fault_there before n true is.0 }
stays Heading before begins is goes = record { may_not = opens before false false is.0 is.1; fault = refl }
stays (Universe v) before begins is goes = cc
stays (Rules v) before begins is goes = cc
stays End before begins is goes = record { may_not = opens before true true is.0 is.1; fault = refl }
stays Heading before (declares d) is goes = record { may_not = declared_there before d false (is_of_universe d) (list_any is_rule_line before) (list_any is_second before) (opens before false false is.0 is.1) refl refl refl; fault = refl }
stays (Universe v) before (declares d) is goes = universe_stays before d v (is_too_new v d) (is_rule d) is refl goes
stays (Rules v) before (declares d) is goes = rule_stays before d v (is_too_new v d) (is_of_universe d) is refl refl goes
stays End before (declares d) is goes = record { may_not = declared_there before d false (is_of_universe d) (list_any is_rule_line before) (list_any is_second before) (opens before true true is.0 is.1) refl refl refl; fault = refl }
