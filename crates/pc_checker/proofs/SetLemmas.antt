-- Sets of used entries.
use Rattle.std.proofs.Common.{◌≡◌, ◌↔◌, ℕ, ◌<◌, ◌≤◌, inl, inr, Bool, true, false, not, IsTrue, List, [], ◌∷◌, ◌++◌, ◌+◌, map, take, drop, length, get_or, All, AllPairs, Contains, Option, None, Some, refl, ap, sym, ◌∙◌, subst, arith}
use Rattle.std.proofs.lemmas.Bool.{cases_eq}
use Rattle.std.proofs.lemmas.List.{length-map, get_or-map, get_or_default, get_or-take, length-take-le, take_all, take-map}
use Rattle.std.proofs.lemmas.List.Elements.{All-contains, All-map, All-more}
use Rattle.pc_lemmas.proofs.Elements.{contains_map, contains_mapped, all_from, element_at}
use Rattle.pc_sheet.specs.Sheet.{Sheet}
use Rattle.pc_sheet.specs.MaximalSets.{IsContained}
use Rattle.pc_sheet.specs.declared.ids.Entry.{Entry}
use Rattle.pc_sheet.specs.declared.ids.ValueId.{ValueId}
use Rattle.pc_cert.specs.declared.cert.Said.{Said}
use Rattle.pc_cert.specs.declared.cert.SaidSet.{SaidSet}
use Rattle.pc_cert.specs.Text.{SetReading, entry_said}
use Rattle.pc_cert.specs.Views.{said_of, set_of}
use Rattle.pc_cert.specs.ReadFor.{IsSetSaidOf}
use Rattle.pc_checker.specs.Made.{AreApartAt, entries_of, set_values}
use Rattle.pc_checker.specs.Verdicts.{Numbered, IsFirstWithout, IsFault, IsFirstInSet, AreApart}
use Rattle.pc_checker.specs.inside.Parts.{IsOneSetFault}
use Rattle.pc_checker.specs.inside.Prepared.{AreSetsPrepared, IsShownPrepared}
use Rattle.pc_checker.specs.declared.verdict.Verdict.{Verdict}
use Rattle.pc_checker.specs.declared.verdict.Verdict.TheVariants.{UseNotEntered, BadValues, UseNotHeld, RuleBroken, HasValue, SetInSet, BadAxiom, BadStep, WrongEnd, Accepted}
use Rattle.pc_checker.specs.Entered.{HavePlaces, SetsHavePlaces}
use Rattle.pc_checker.proofs.EnteredLemmas.{still_have_places}
use Rattle.pc_checker.proofs.ClaimLemmas.{no_said, stops_at}
use Rattle.pc_checker.proofs.ListLemmas.{cut_at, in_middle, without_at}
use Rattle.pc_checker.proofs.OneVerdict.{fault_stands}

-- ---- the used entries

-- a loop that stops is right to
pub stopped : (P : Numbered Entry → Type 0) (said : List Said) (i : ℕ) → i < length said → All P (take i (map said_of said)) → ¬ P (said_of (get_or said i no_said)) → All P (map said_of said) → ⊥
stopped P said i inside so fails all =
    let at = stops_at P said i inside so fails in
    at.fails (in_middle P at.before at.after _ (subst (All P) at.are all))

-- a set of the list has places among marks of as many
pub set_has_places : (before marks : List (Option Bool)) (sets : List SaidSet) (i : ℕ) (s : SaidSet) → i < length sets → s ≡ get_or sets i s → length marks ≡ length before → SetsHavePlaces before sets → HavePlaces marks s.uses.items
set_has_places before marks sets i s inside is same have = still_have_places before marks s.uses.items same (subst (λ (t : SaidSet). HavePlaces before t.uses.items) (sym is) (have i s inside))

-- ---- one within another

abbrev IsAmong : List Entry → Numbered Entry → Type 0
IsAmong es x = Contains es x.1

within : (uses others : List Said) → All (IsAmong (entries_of others)) (map said_of uses) → IsContained (entries_of uses) (entries_of others)
within uses others all e has =
    let found = contains_mapped entry_said (map said_of uses) e has in
    subst (Contains (entries_of others)) found.2 (All-contains (IsAmong (entries_of others)) (map said_of uses) found.0 all found.1)

is_within : (uses others : List Said) → IsContained (entries_of uses) (entries_of others) → All (IsAmong (entries_of others)) (map said_of uses)
is_within uses others contained = all_from (IsAmong (entries_of others)) (map said_of uses) (λ x has. contained x.1 (contains_map entry_said (map said_of uses) x has))

-- what the test of one set within another answers
pub contained_by : (b : Bool) (uses others xs ys : List Said) → xs ≡ uses → ys ≡ others → IsTrue b ↔ All (IsAmong (entries_of ys)) (map said_of xs) → IsTrue b ↔ IsContained (entries_of uses) (entries_of others)
contained_by b uses others xs ys same_x same_y is =
    let here : IsTrue b ↔ All (IsAmong (entries_of others)) (map said_of uses) =
    subst (λ us. IsTrue b ↔ All (IsAmong (entries_of others)) (map said_of us)) same_x (subst (λ os. IsTrue b ↔ All (IsAmong (entries_of os)) (map said_of xs)) same_y is)
    in
    (λ h. within uses others (here.0 h), λ h. here.1 (is_within uses others h))

pub not_true : (b : Bool) (P : Type 0) → IsTrue b ↔ P → (IsTrue (not b) → ¬ P) × (¬ P → IsTrue (not b))
not_true true P is = (λ z. absurd (cc), λ n. absurd (n (is.0 refl)))
not_true false P is = (λ z p. absurd (cc (is.1 p)), λ n. refl)

-- ---- the sets among one another

no_set : SetReading
no_set = record { line = 0; uses = []; values = []; after = 0 }

module _ (sets : List SaidSet) where
  -- at places of the readings
  apart_at : (place : ℕ) (d : SaidSet) → place < length sets → AreApartAt sets place → (k : ℕ) (e : SetReading) → k < place → AreApart (get_or (map set_of sets) k e) (get_or (map set_of sets) place e)
  apart_at place d within at k e less =
      subst (λ t. AreApart t (get_or (map set_of sets) place e)) (sym (get_or-map set_of sets k d e (omega arith)))
      (subst (AreApart (set_of (get_or sets k d))) (sym (get_or-map set_of sets place d e within)) (at k d less))

  pub all_apart : (n : ℕ) → length sets ≤ n → ((j : ℕ) → j < n → AreApartAt sets j) → AllPairs AreApart (map set_of sets)
  all_apart n past all i j e below inside =
      let count = length-map sets set_of in
      let within : j < length sets = omega (arith, inside, count) in
      apart_at j (element_at sets j within).0 within (all j (omega (arith, within, past))) i e below

  module _ (place i : ℕ) (a b : SaidSet) (before : i < place) (within : place < length sets) (a_is : a ≡ get_or sets i a) (b_is : b ≡ get_or sets place b) where
    there : (d : SaidSet) → (a ≡ get_or sets i d) × (b ≡ get_or sets place d)
    there d = (a_is ∙ get_or_default sets i a d (omega (arith, before, within)), b_is ∙ get_or_default sets place b d within)

    pub apart_more : ((k : ℕ) (d : SaidSet) → k < i → AreApart (set_of (get_or sets k d)) (set_of (get_or sets place d))) → AreApart (set_of a) (set_of b)
        → (k : ℕ) (d : SaidSet) → k < i + 1 → AreApart (set_of (get_or sets k d)) (set_of (get_or sets place d))
    apart_more all here k d less = elim (cases_eq k i) [
      | inl is ↦ subst (λ n. AreApart (set_of (get_or sets n d)) (set_of (get_or sets place d))) (sym is)
          (subst (λ x. AreApart (set_of x) (set_of (get_or sets place d))) (there d).0 (subst (λ y. AreApart (set_of a) (set_of y)) (there d).1 here))
      | inr other ↦ all k d (omega (arith, less, other))
    ]

    pub not_apart_at : ¬ AreApart (set_of a) (set_of b) → ¬ AreApartAt sets place
    not_apart_at fails all = fails (subst (λ x. AreApart (set_of x) (set_of b)) (sym (there a).0) (subst (λ y. AreApart (set_of (get_or sets i a)) (set_of y)) (sym (there a).1) (all i a before)))

  pub first_within : (place : ℕ) (d : SaidSet) → place < length sets → ((j : ℕ) → j < place → AreApartAt sets j) → ¬ AreApartAt sets place → IsFirstInSet (map set_of sets) (set_of (get_or sets place d))
  first_within place d within all fails =
      let count = length-map sets set_of in
      let rs = map set_of sets in
      let e = set_of (get_or sets place d) in
      let low : place < length rs = omega (arith, within, count) in
      let many : length (take place rs) ≡ place = length-take-le place rs (omega (arith, low)) in
      let here : get_or rs place e ≡ e = get_or-map set_of sets place d e within in
      record {
        before = take place rs;
        after = _;
        are = cut_at rs place e low ∙ ap (λ x. take place rs ++ x ∷ drop (place + 1) rs) here;
        apart = λ i j x below inside.
            let less : j < place = omega (arith, inside, many) in
            subst (λ t. AreApart t (get_or (take place rs) j x)) (sym (get_or-take place rs i x (omega (arith, below, less))))
            (subst (AreApart (get_or rs i x)) (sym (get_or-take place rs j x less)) (apart_at j d (omega (arith, less, within)) (all j less) i x below));
        within = λ h. fails (λ k x less.
            let one = h k (set_of x) (omega (arith, less, many)) in
            let same_k : get_or (take place rs) k (set_of x) ≡ set_of (get_or sets k x) = get_or-take place rs k (set_of x) less ∙ get_or-map set_of sets k x (set_of x) (omega (arith, less, within)) in
            let same_place : e ≡ set_of (get_or sets place x) = ap set_of (get_or_default sets place d x within) in
            subst (λ t. AreApart t (set_of (get_or sets place x))) same_k (subst (AreApart (get_or (take place rs) k (set_of x))) same_place one));
      }

-- ---- the verdict on a set

module _ (sheet : Sheet) (IsBarred : List ValueId → Type 0) (s : SetReading) where
  pub set_fault : (v : Verdict) → IsFault sheet None s.uses s.values s.after v → IsOneSetFault sheet IsBarred s (Some v)
  set_fault (UseNotEntered a) h = (λ stands. fault_stands sheet None s.uses s.values s.after (UseNotEntered a) h stands.0, h)
  set_fault (BadValues a) h = (λ stands. fault_stands sheet None s.uses s.values s.after (BadValues a) h stands.0, h)
  set_fault (UseNotHeld a) h = (λ stands. fault_stands sheet None s.uses s.values s.after (UseNotHeld a) h stands.0, h)
  set_fault (RuleBroken a) h = (λ stands. fault_stands sheet None s.uses s.values s.after (RuleBroken a) h stands.0, h)
  set_fault (HasValue a) h = absurd h
  set_fault (SetInSet a) h = absurd h
  set_fault (BadAxiom a) h = absurd h
  set_fault (BadStep a) h = absurd h
  set_fault WrongEnd h = absurd h
  set_fault Accepted h = absurd h

-- ---- set after set

module _ (P : SetReading → Type 0) (sets : List SaidSet) where
  abbrev Own : SaidSet → Type 0
  Own s = P (set_of s)

  pub all_sets : (i : ℕ) → length sets ≤ i → All Own (take i sets) → All P (map set_of sets)
  all_sets i past so = All-map P set_of sets (subst (All Own) (take_all i sets past) so)

  pub first_set : (i : ℕ) (s : SaidSet) → i < length sets → s ≡ get_or sets i s → All Own (take i sets) → ¬ Own s → IsFirstWithout P (map set_of sets) (set_of s)
  first_set i s inside is so fails =
      let count = length-map sets set_of in
      let here : get_or (map set_of sets) i (set_of s) ≡ set_of s = get_or-map set_of sets i s (set_of s) inside ∙ ap set_of (sym is) in
      subst (IsFirstWithout P (map set_of sets)) here
      (without_at P (map set_of sets) i (set_of s) (omega (arith, inside, count)) (subst (All P) (sym (take-map set_of i sets)) (All-map P set_of (take i sets) so)) (λ p. fails (subst P here p)))

  pub more_sets : (i : ℕ) (s : SaidSet) → i < length sets → s ≡ get_or sets i s → All Own (take i sets) → Own s → All Own (take (i + 1) sets)
  more_sets i s inside is so own = All-more Own sets i s inside so (subst Own is own)

-- what a list of sets gives past its end, in a goal on its elements
module _ (sheet : Sheet) (sets : List SaidSet) (by_pair : List Bool) (assigned : List (List ValueId)) (are : AreSetsPrepared sheet sets by_pair assigned) where
  pub one_prepared : (i : ℕ) (s : SaidSet) (a : List ValueId) → i < length sets → s ≡ get_or sets i s → a ≡ get_or assigned i a → IsShownPrepared sheet s.uses.items s.values.items by_pair a
  one_prepared i s a inside is at =
      let said : IsSetSaidOf sheet s = subst (IsSetSaidOf sheet) (sym is) (are.each i s inside) in
      record {
        uses_of = said.uses;
        values_of = said.values;
        entered = are.entered;
        values_are = at ∙ ap (λ vs. get_or vs i a) are.values_are ∙ get_or-map set_values sets i s a inside ∙ ap set_values (sym is);
      }
