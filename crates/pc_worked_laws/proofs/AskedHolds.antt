-- Formulas that entries support, by computing.
use Rattle.std.proofs.Common.{◌≡◌, ℕ, ◌⊎◌, ◌↔◌, inl, inr, Bool, true, false, not, ◌&&◌, ◌||◌, List, [], ◌∷◌, Contains, ap, refl, sym, ◌∙◌, subst}
use Rattle.std.specs.Bool.{Decides}
use Rattle.std.proofs.lemmas.Bool.{false≢true}
use Rattle.std.proofs.lemmas.Bool.Decides.{Decides-like, Decides-not, Decides-and}
use Rattle.std.proofs.lemmas.List.Elements.{All-contains, All-nil, All-cons, All-append}
use Rattle.pc_sheet.specs.Sheet.{Sheet, Statement, NamedStatement, negation}
use Rattle.pc_sheet.specs.Truth.{Holds}
use Rattle.pc_sheet.specs.Entailment.{cell_sizes, Fits, IsConsistent, IsLess}
use Rattle.pc_sheet.specs.declared.ids.ValueId.{ValueId}
use Rattle.pc_sheet.specs.declared.ids.Entry.{Entry}
use Rattle.pc_laws.proofs.Decide.{decide}
use Rattle.pc_laws.proofs.Order.{irreflexive, transitive}
use Rattle.pc_laws.specs.Examples.{red, green, entry, equals, chain}
use Rattle.pc_lemmas.proofs.Elements.{contains_first, contains_cases, contains_none, all_left, all_right}
use Rattle.pc_accept.specs.SetExamples.{two_ends}
use Rattle.pc_accept.specs.Asked.{EntailsStatement, SupportsStatement, IsStatementImplied, IsLeastForStatement, denial, asked}
use Rattle.pc_worked_laws.specs.Asked.{a, b, causes, WorkedFormulas, WorkedClashes}
use Rattle.pc_worked_laws.proofs.Computing.{is_among, among_decides, has, lacks, is_list, other_list, is_sublist, sublist, passes, passed, both, either, consistent, consistent_decides, list_is}

-- ---- one list is less than another

abbrev same_answer : Bool → Bool → Bool
same_answer true y = y
same_answer false y = not y

abbrev agree : List Entry → List Entry → List Entry → Bool
agree [] s t = true
agree (x ∷ xs) s t = same_answer (is_among s x) (is_among t x) && agree xs s t

abbrev pub is_less : List Entry → List Entry → List Entry → Bool
is_less [] s t = false
is_less (x ∷ xs) s t = is_less xs s t || (agree xs s t && (not (is_among s x) && is_among t x))

same_if : (x y : Bool) {P Q : Type 0} → Decides x P → Decides y Q → same_answer x y ≡ true → P ↔ Q
same_if true y d e is = (λ p. e.0 is, λ q. d.0 refl)
same_if false true d e is = absurd (false≢true is)
same_if false false d e is = (λ p. absurd (false≢true (d.1 p)), λ q. absurd (false≢true (e.1 q)))

agreed : (xs s t : List Entry) → agree xs s t ≡ true → (e : Entry) → Contains xs e → Contains s e ↔ Contains t e
agreed [] s t is e c = absurd (contains_none e c)
agreed (x ∷ xs) s t is e c =
    let parts = both (same_answer (is_among s x) (is_among t x)) (agree xs s t) is in
    elim (contains_cases x xs e c) [
      | inl same ↦ subst (λ e. Contains s e ↔ Contains t e) same (same_if (is_among s x) (is_among t x) (among_decides s x) (among_decides t x) parts.0)
      | inr later ↦ agreed xs s t parts.1 e later
    ]

lacking : (b : Bool) → not b ≡ true → b ≡ false
lacking true is = absurd (false≢true is)
lacking false is = refl

pub less : (xs s t : List Entry) → is_less xs s t ≡ true → IsLess xs s t
less [] s t is = absurd (false≢true is)
less (x ∷ xs) s t is = elim (either (is_less xs s t) (agree xs s t && (not (is_among s x) && is_among t x)) is) [
  | inl newer ↦
      let l = less xs s t newer in
      record { older = x ∷ l.older; newest = l.newest; newer = l.newer; order = ap (λ es. x ∷ es) l.order; lacks = l.lacks; has = l.has; agree = l.agree }
  | inr here ↦
      let parts = both (agree xs s t) (not (is_among s x) && is_among t x) here in
      let last = both (not (is_among s x)) (is_among t x) parts.1 in
      record { older = []; newest = x; newer = xs; order = refl; lacks = lacks s x (lacking (is_among s x) last.0); has = has t x last.1; agree = agreed xs s t parts.0 }
]

-- ---- a sheet whose first cell has so many values, and a formula

module _ (sheet : Sheet) (n : ℕ) (ns : List ℕ) (sizes : cell_sizes sheet.universe ≡ n ∷ ns) (f : Statement) where
  abbrev Rule : List ValueId → NamedStatement → Type 0
  Rule vs rule = Holds sheet.universe vs [] rule.states

  fits_asked : (vs : List ValueId) → Fits sheet vs → ¬ Holds sheet.universe vs [] f → Fits (asked sheet f) vs
  fits_asked vs fits fails = All-append (Rule vs) sheet.rules (denial f ∷ []) fits (All-cons (Rule vs) (denial f) [] fails (All-nil (Rule vs)))

  fits_before : (vs : List ValueId) → Fits (asked sheet f) vs → Fits sheet vs
  fits_before vs fits = all_left (Rule vs) sheet.rules (denial f ∷ []) fits

  denied : (vs : List ValueId) → Fits (asked sheet f) vs → ¬ Holds sheet.universe vs [] f
  denied vs fits = All-contains (Rule vs) (denial f ∷ []) (denial f) (all_right (Rule vs) sheet.rules (denial f ∷ []) fits) (contains_first (denial f) [])

  abbrev pub entails : List Entry → Bool
  entails s = not (consistent (asked sheet f) n ns sizes s)

  pub entails_decides : (s : List Entry) → Decides (entails s) (EntailsStatement sheet s f)
  entails_decides s =
      Decides-like (entails s)
      (λ none vs shows. elim (decide sheet.universe vs [] f) [
        | inl is ↦ is
        | inr fails ↦ absurd (none (vs, record { assigns = shows.assigns; fits = fits_asked vs shows.fits fails; has = shows.has }))
      ])
      (λ h w. denied w.0 w.1.fits (h w.0 (record { assigns = w.1.assigns; fits = fits_before w.0 w.1.fits; has = w.1.has })))
      (Decides-not (consistent (asked sheet f) n ns sizes s) (consistent_decides (asked sheet f) n ns sizes s))

  abbrev Supporting : List Entry → Type 0
  Supporting s = IsConsistent sheet s × EntailsStatement sheet s f

  abbrev pub is_supporting : List Entry → Bool
  is_supporting s = consistent sheet n ns sizes s && entails s

  supporting_decides : (s : List Entry) → Decides (is_supporting s) (Supporting s)
  supporting_decides s = Decides-and (consistent sheet n ns sizes s) (entails s) (consistent_decides sheet n ns sizes s) (entails_decides s)

  pub supports : (s : List Entry) → is_sublist sheet.entries s && is_supporting s ≡ true → SupportsStatement sheet s f
  supports s is =
      let parts = both (is_sublist sheet.entries s) (is_supporting s) is in
      let holds = (supporting_decides s).0 parts.1 in
      record { among = sublist sheet.entries s parts.0; consistent = holds.0; entails = holds.1 }

  pub supports_not : (s : List Entry) → is_supporting s ≡ false → ¬ SupportsStatement sheet s f
  supports_not s fails h = false≢true (sym fails ∙ (supporting_decides s).1 (h.consistent, h.entails))

  pub not_implied : passes sheet.entries (λ o. not (is_supporting o)) ≡ true → ¬ IsStatementImplied sheet f
  not_implied is h = supports_not h.0 (lacking (is_supporting h.0) (passed sheet.entries (λ o. not (is_supporting o)) is h.0 h.1.among)) h.1

  abbrev is_no_other : List Entry → List Entry → Bool
  is_no_other s o = not (is_supporting o) || (is_list o s || is_less sheet.entries s o)

  abbrev pub is_least : List Entry → Bool
  is_least s = (is_sublist sheet.entries s && is_supporting s) && passes sheet.entries (is_no_other s)

  same_or_less : (s o : List Entry) → is_list o s || is_less sheet.entries s o ≡ true → (o ≡ s) ⊎ IsLess sheet.entries s o
  same_or_less s o is = elim (either (is_list o s) (is_less sheet.entries s o) is) [ inl same ↦ inl (list_is o s same) | inr l ↦ inr (less sheet.entries s o l) ]

  pub least : (s : List Entry) → is_least s ≡ true → IsLeastForStatement sheet s f
  least s is =
      let parts = both (is_sublist sheet.entries s && is_supporting s) (passes sheet.entries (is_no_other s)) is in
      record {
        supports = supports s parts.0;
        least = λ o h. elim (either (not (is_supporting o)) (is_list o s || is_less sheet.entries s o) (passed sheet.entries (is_no_other s) parts.1 o h.among)) [
          | inl none ↦ absurd (supports_not o (lacking (is_supporting o) none) h)
          | inr other ↦ same_or_less s o other
        ];
      }

  -- there is one least support
  pub least_not : (s other : List Entry) → IsLeastForStatement sheet s f → is_list other s ≡ false → ¬ IsLeastForStatement sheet other f
  least_not s other l fails h = elim (l.least other h.supports) [
    | inl same ↦ other_list other s fails same
    | inr below ↦ elim (h.least s l.supports) [
      | inl same ↦ other_list other s fails (sym same)
      | inr above ↦ irreflexive sheet.entries s (transitive sheet.entries s other s below above)
    ]
  ]

-- ---- of three cells of two colors

abbrev others : List ℕ
others = 2 ∷ 2 ∷ []

by_one : (f : Statement) → is_least causes 2 others refl f (a ∷ []) ≡ true → IsLeastForStatement causes (a ∷ []) f
by_one f is = least causes 2 others refl f (a ∷ []) is

pub worked_formulas : WorkedFormulas
worked_formulas = record {
  together = least causes 2 others refl _ (a ∷ b ∷ []) refl;
  not_first = supports_not causes 2 others refl _ (a ∷ []) refl;
  not_second = supports_not causes 2 others refl _ (b ∷ []) refl;
  both_together = least causes 2 others refl _ (a ∷ b ∷ []) refl;
  by_one = by_one _ refl;
  by_newer = supports causes 2 others refl _ (b ∷ []) refl;
  newer_not_least = least_not causes 2 others refl _ (a ∷ []) (b ∷ []) (by_one _ refl) refl;
  conditional = by_one _ refl;
  by_none = least causes 2 others refl _ [] refl;
  not_implied = not_implied causes 2 others refl _ refl;
}

pub worked_clashes : WorkedClashes
worked_clashes = record {
  by_rules = least two_ends 2 others refl _ [] refl;
  by_first = least two_ends 2 others refl _ (entry 0 red ∷ []) refl;
  by_last = least two_ends 2 others refl _ (entry 2 green ∷ []) refl;
  not_both = not_implied two_ends 2 others refl _ refl;
  not_other = not_implied two_ends 2 others refl _ refl;
  inconsistent = supports_not two_ends 2 others refl _ two_ends.entries refl;
  entailed = (entails_decides two_ends 2 others refl (negation (equals 0 2)) two_ends.entries).0 refl;
  undecided = not_implied (chain []) 2 others refl _ refl;
  nor_opposite = not_implied (chain []) 2 others refl _ refl;
}
