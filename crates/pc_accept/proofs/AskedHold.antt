-- The laws of formulas that entries support.
use Rattle.std.proofs.Common.{◌≡◌, ℕ, ◌<◌, ◌+◌, inl, inr, List, [], ◌∷◌, length, Some, slice_get, IsSomeAnd, arith, refl, sym, ◌∙◌, subst}
use Rattle.std.proofs.lemmas.List.{length-append, get_or_append_left, get_or_push}
use Rattle.std.proofs.lemmas.Option.{slice_get-get_or}
use Rattle.pc_sheet.specs.Sheet.{Sheet, Statement, NamedStatement}
use Rattle.pc_sheet.specs.Truth.{Holds}
use Rattle.pc_sheet.specs.Entailment.{Fits, RuleHolds, IsConsistent, IsSublist}
use Rattle.pc_sheet.specs.declared.ids.ValueId.{ValueId}
use Rattle.pc_sheet.specs.declared.ids.Entry.{Entry}
use Rattle.pc_laws.specs.Laws.{IsDecided}
use Rattle.pc_laws.proofs.Decide.{decide, decide_not, decide_and}
use Rattle.pc_laws.proofs.Assignments.{decide_within, decide_fits, decide_has, consistency_decided, shows_fewer, decide_sublist}
use Rattle.pc_laws.proofs.Least.{least_among}
use Rattle.pc_laws.proofs.Order.{irreflexive, transitive}
use Rattle.pc_laws.proofs.Maximal.{in_maximal}
use Rattle.pc_accept.specs.Accepts.{against, FitsOthers, AcceptsClaim}
use Rattle.pc_accept.specs.Laws.{AreAgainst}
use Rattle.pc_accept.proofs.Worth.{worth}
use Rattle.pc_accept.proofs.AgainstSound.{fits_from}
use Rattle.pc_accept.specs.Asked.{EntailsStatement, SupportsStatement, IsLeastForStatement, denial, asked}
use Rattle.pc_accept.specs.AskedLaws.{StatementsAreDecided, StatementHasOneLeast, StatementIsByMaximalSet, AgainstIsSupport, AcceptedAgainstIsSupport}
use Rattle.pc_sheet.specs.Entailment.{cell_sizes, HasAll}

-- ---- decided

entails_decided : (sheet : Sheet) (s : List Entry) (f : Statement) → IsDecided (EntailsStatement sheet s f)
entails_decided sheet s f =
    elim (decide_within (cell_sizes sheet.universe) (λ a. (Fits sheet a × HasAll a s) × (¬ Holds sheet.universe a [] f)) (λ a. decide_and (decide_and (decide_fits sheet a) (decide_has a s)) (decide_not (decide sheet.universe a [] f)))) [
      | inl found ↦ inr (λ h. found.2.1 (h found.0 (record { assigns = found.1; fits = found.2.0.0; has = found.2.0.1 })))
      | inr none ↦ inl (λ a shows. elim (decide sheet.universe a [] f) [ inl is ↦ is | inr lacks ↦ absurd (none (a, shows.assigns, ((shows.fits, shows.has), lacks))) ])
    ]

abbrev Supports : Sheet → Statement → List Entry → Type 0
Supports sheet f s = IsConsistent sheet s × EntailsStatement sheet s f

support_decided : (sheet : Sheet) (f : Statement) (s : List Entry) → IsDecided (Supports sheet f s)
support_decided sheet f s = decide_and (consistency_decided sheet s) (entails_decided sheet s f)

pub statements_are_decided : StatementsAreDecided
statements_are_decided sheet f = elim (decide_sublist sheet.entries (Supports sheet f) (support_decided sheet f)) [
  | inl found ↦ inl (found.0, record { among = found.1; consistent = found.2.0; entails = found.2.1 })
  | inr none ↦ inr (λ h. none (h.0, h.1.among, (h.1.consistent, h.1.entails)))
]

-- ---- the least support

one_at_most : (sheet : Sheet) (f : Statement) (s other : List Entry) → IsLeastForStatement sheet s f → IsLeastForStatement sheet other f → other ≡ s
one_at_most sheet f s other l k = elim (l.least other k.supports) [
  | inl same ↦ same
  | inr less ↦ elim (k.least s l.supports) [
    | inl same ↦ sym same
    | inr more ↦ absurd (irreflexive sheet.entries s (transitive sheet.entries s other s less more))
  ]
]

pub statement_has_one_least : StatementHasOneLeast
statement_has_one_least sheet f distinct (o, sup) =
    let l = least_among sheet.entries (Supports sheet f) (support_decided sheet f) distinct o sup.among (sup.consistent, sup.entails) in
    let is_least : IsLeastForStatement sheet l.0 f = record {
      supports = record { among = l.1.among; consistent = l.1.chosen.0; entails = l.1.chosen.1 };
      least = λ other k. l.1.least other k.among (k.consistent, k.entails);
    } in
    (l.0, is_least, λ other k. one_at_most sheet f l.0 other is_least k)

-- ---- maximal sets

pub statement_is_by_maximal_set : StatementIsByMaximalSet
statement_is_by_maximal_set sheet f distinct = (
  λ h.
      let m = in_maximal sheet h.0 distinct h.1.among h.1.consistent in
      (m.0, m.1, λ a shows. h.1.entails a (shows_fewer sheet m.0 h.0 a m.2 shows)),
  λ m. (m.0, record { among = m.1.among; consistent = m.1.consistent; entails = m.2 }),
)

-- ---- the asked sheet

module _ (sheet : Sheet) (f : Statement) where
  abbrev there : Sheet
  there = asked sheet f

  abbrev last : ℕ
  last = length sheet.rules

  abbrev RuleIs : List ValueId → NamedStatement → Type 0
  RuleIs a rule = Holds sheet.universe a [] rule.states

  count : length there.rules ≡ last + 1
  count = length-append sheet.rules (denial f ∷ [])

  same_rule : (k : ℕ) → k < last → slice_get there.rules k ≡ slice_get sheet.rules k
  same_rule k l =
      let d = denial f in
      slice_get-get_or there.rules k d (omega (arith, l, count)) ∙ (λ i. Some (get_or_append_left sheet.rules (d ∷ []) d k l i)) ∙ sym (slice_get-get_or sheet.rules k d l)

  last_rule : slice_get there.rules last ≡ Some (denial f)
  last_rule =
      let d = denial f in
      slice_get-get_or there.rules last d (omega (arith, count)) ∙ (λ i. Some (get_or_push sheet.rules d d last refl i))

  fits_others : (a : List ValueId) → Fits sheet a → FitsOthers there last a
  fits_others a fits k l other =
      let low : k < last = omega (arith, l, count, other) in
      subst (λ o. IsSomeAnd o (RuleIs a)) (sym (same_rule k low)) (subst (λ o. IsSomeAnd o (RuleIs a)) (sym (slice_get-get_or sheet.rules k (denial f) low)) (fits k (denial f) low))

  others_fit : (a : List ValueId) → FitsOthers there last a → Fits sheet a
  others_fit a others = fits_from sheet a (λ k l. subst (λ o. IsSomeAnd o (RuleIs a)) (same_rule k l) (others k (omega (arith, l, count)) (omega (arith, l))))

  denied : (a : List ValueId) → RuleHolds there a last → ¬ Holds sheet.universe a [] f
  denied a h = subst (λ o. IsSomeAnd o (RuleIs a)) last_rule h

  denies : (a : List ValueId) → ¬ Holds sheet.universe a [] f → RuleHolds there a last
  denies a n = subst (λ o. IsSomeAnd o (RuleIs a)) (sym last_rule) n

  supports : (s : List Entry) → IsSublist sheet.entries s → AreAgainst there last s → SupportsStatement sheet s f
  supports s sub h =
      let a = h.some_one.0 in
      let shows = h.some_one.1 in
      record {
        among = sub;
        consistent = (a, record { assigns = shows.assigns; fits = others_fit a shows.fits; has = shows.has });
        entails = λ b own. elim (decide sheet.universe b [] f) [
          | inl is ↦ is
          | inr not_so ↦ absurd (h.each_one b (record { assigns = own.assigns; fits = fits_others b own.fits; has = own.has }) (denies b not_so))
        ];
      }

  is_against : (s : List Entry) → SupportsStatement sheet s f → AreAgainst there last s
  is_against s h =
      let a = h.consistent.0 in
      let shows = h.consistent.1 in
      record {
        some_one = (a, record { assigns = shows.assigns; fits = fits_others a shows.fits; has = shows.has });
        each_one = λ b own holds. denied b holds (h.entails b (record { assigns = own.assigns; fits = others_fit b own.fits; has = own.has }));
      }

pub against_is_support : AgainstIsSupport
against_is_support sheet f s sub = (λ h. supports sheet f s sub h, λ h. is_against sheet f s h)

pub accepted_against_is_support : AcceptedAgainstIsSupport
accepted_against_is_support sheet f c is h =
    let claim : AcceptsClaim (asked sheet f) c (against (length sheet.rules)) = subst (AcceptsClaim (asked sheet f) c) is h in
    let w = worth (asked sheet f) c (against (length sheet.rules)) claim in
    (w.0, record { among = w.1.among; same = w.1.same }, supports sheet f w.0 w.1.among w.2)
