-- What is kept in the end is the least support.
use Rattle.std.proofs.Common.{◌≡◌, ◌≢◌, ℕ, ◌+◌, ◌&&◌, ◌==◌, inl, inr, Bool, true, List, [], ◌∷◌, ◌++◌, filter, length, take, take_all, drop, Some, slice_get, Contains, arith, eqb-true, eq-eqb, ap, refl, sym, ◌∙◌, subst}
use Rattle.std.proofs.lemmas.Bool.{cases_eq, cases_lt, and_parts}
use Rattle.std.proofs.lemmas.List.{append-nil}
use Rattle.std.proofs.lemmas.List.Elements.{All-nil, All-cons, All-append, All-contains, Contains-append_left, Contains-append_right}
use Rattle.std.proofs.lemmas.List.Kept.{AllPairs-filter}
use Rattle.pc_lemmas.proofs.Elements.{contains_first, all_from, all_left, kept, kept_is}
use Rattle.pc_lemmas.proofs.Options.{same_some}
use Rattle.pc_laws.proofs.Contained.{all_contained, filter_sub, sub_contained}
use Rattle.pc_laws.proofs.Decide.{decide}
use Rattle.pc_laws.specs.Laws.{DifferentSublistsAreOrdered}
use Rattle.pc_accept.specs.Sets.{is_entry, is_in, those_in}
use Rattle.pc_log.specs.Lines.{LogLine}
use Rattle.pc_sheet.specs.Sheet.{Sheet, Statement, NamedStatement}
use Rattle.pc_sheet.specs.Truth.{Holds}
use Rattle.pc_sheet.specs.Entailment.{Fits, HasEntry, HasAll, IsAssignment, IsConsistent, IsLess, IsSublist, Shows}
use Rattle.pc_sheet.specs.MaximalSets.{IsContained}
use Rattle.pc_sheet.specs.WellFormed.{AreDifferent}
use Rattle.pc_sheet.specs.declared.ids.ValueId.{ValueId}
use Rattle.pc_sheet.specs.declared.ids.Entry.{Entry}
use Rattle.pc_accept.specs.Asked.{EntailsStatement, SupportsStatement, IsStatementImplied, IsLeastForStatement, denial, asked}
use Rattle.pc_repairs.specs.inside.Joining.{had_by, is_had}
use Rattle.pc_ask.specs.Asking.{IsDeniedAt}
use Rattle.pc_ask.specs.declared.narrowing.Witness.{Witness}
use Rattle.pc_ask.specs.inside.Narrowing.{left_of, LacksWitness, IsNarrowed}
use Rattle.pc_ask.proofs.Lists.{there_any, any_there}
use Rattle.pc_ask.proofs.Places.{there_at, place_of, at_take, take_there, at_drop, drop_there, not_both, behind}
use Rattle.pc_ask.proofs.Narrowed.{is_had_of, fewer_stand}
use Rattle.pc_ask.proofs.Witnesses.{denied_more}

-- ---- entries by their numbers

same_entry_is : (e f : Entry) → is_entry e f ≡ true → e ≡ f
same_entry_is e f is =
    let make : ℕ → ℕ → Entry = λ c v. record { cell = record { 0 = c }; value = record { 0 = v } } in
    let parts = and_parts (e.cell.0 == f.cell.0) (e.value.0 == f.value.0) is in
    ap (λ c. make c e.value.0) (eqb-true e.cell.0 f.cell.0 parts.0) ∙ ap (λ v. make f.cell.0 v) (eqb-true e.value.0 f.value.0 parts.1)

pub in_is : (set : List Entry) (e : Entry) → is_in set e ≡ true → Contains set e
in_is set e is = let r = there_any (is_entry e) set is in subst (Contains set) (sym (same_entry_is e r.0 r.2)) r.1

is_itself : (e : Entry) → is_entry e e ≡ true
is_itself e = by (e.cell.0 == e.cell.0) (e.value.0 == e.value.0) (eq-eqb e.cell.0 e.cell.0 refl) (eq-eqb e.value.0 e.value.0 refl)
  where
    by : (b c : Bool) → b ≡ true → c ≡ true → (b && c) ≡ true
    by b c is also = subst (λ d. (d && c) ≡ true) (sym is) also

pub is_in_of : (set : List Entry) (e : Entry) → Contains set e → is_in set e ≡ true
is_in_of set e c = any_there (is_entry e) set e c (is_itself e)

-- ---- entries that can't stand together in the asked sheet

module _ (sheet : Sheet) (f : Statement) (book : Sheet) (book_is : book ≡ asked sheet f) where
  abbrev IsTrueUnder : List ValueId → NamedStatement → Type 0
  IsTrueUnder a rule = Holds sheet.universe a [] rule.states

  pub denied_entails : (s : List Entry) → (¬ IsConsistent book s) → EntailsStatement sheet s f
  denied_entails s none a shows = elim (decide sheet.universe a [] f) [
    | inl is ↦ is
    | inr lacks ↦ absurd (none (subst (λ b. IsConsistent b s) (sym book_is) (
      a,
      record {
        assigns = shows.assigns;
        fits = All-append (IsTrueUnder a) sheet.rules (denial f ∷ []) shows.fits (All-cons (IsTrueUnder a) (denial f) [] lacks (All-nil (IsTrueUnder a)));
        has = shows.has;
      },
    )))
  ]

  pub entails_denied : (s : List Entry) → EntailsStatement sheet s f → ¬ IsConsistent book s
  entails_denied s entails stands = by (subst (λ b. IsConsistent b s) book_is stands)
    where
      by : ¬ IsConsistent (asked sheet f) s
      by (a, shows) =
          let last : ¬ Holds sheet.universe a [] f = All-contains (IsTrueUnder a) (sheet.rules ++ denial f ∷ []) (denial f) shows.fits (Contains-append_right sheet.rules (denial f ∷ []) (denial f) (contains_first (denial f) [])) in
          last (entails a (record { assigns = shows.assigns; fits = all_left (IsTrueUnder a) sheet.rules (denial f ∷ []) shows.fits; has = shows.has }))

  -- more entries entail no less
  entails_more : (s t : List Entry) → IsContained s t → EntailsStatement sheet s f → EntailsStatement sheet t f
  entails_more s t within entails a shows = entails a (record { assigns = shows.assigns; fits = shows.fits; has = all_contained (HasEntry a) s t within shows.has })

  module _ (distinct : AreDifferent sheet.entries) (p : Entry → Bool) (all : List (List ValueId))
      (fit : (a : List ValueId) → Contains all a → IsAssignment sheet.universe a × Fits sheet a)
      (covers : (t : List Entry) → IsSublist sheet.entries t → IsConsistent sheet t → (a : List ValueId) × Contains all a × ((e : Entry) → Contains t e → p e ≡ true → HasEntry a e))
      (reading : (t : List Entry) → IsSublist sheet.entries t → IsConsistent sheet t → EntailsStatement sheet t f → EntailsStatement sheet (filter p t) f) where
    abbrev on : List Entry
    on = filter p sheet.entries

    -- an entry of a support that counts
    on_there : (t : List Entry) → IsSublist sheet.entries t → (e : Entry) → Contains (filter p t) e → Contains t e × (p e ≡ true) × Contains on e
    on_there t sub e c =
        let known = kept_is p t e c in
        (known.0, known.1, kept p sheet.entries e (sub_contained sheet.entries t sub e known.0) known.1)

    pub none_implied : LacksWitness book on all (length on) [] → ¬ IsStatementImplied sheet f
    none_implied lacks (t, supports) =
        let a = covers t supports.among supports.consistent in
        let left : List Entry = left_of on (length on) [] a.0 in
        lacks a.0 a.1 (
          All-nil (HasEntry a.0),
          entails_denied left (entails_more (filter p t) left
              (λ e c.
              let known = on_there t supports.among e c in
              let first : Contains (take (length on) on) e = subst (λ l. Contains l e) (sym (take_all (length on) on (omega arith))) known.2 in
              Contains-append_left (had_by (take (length on) on) a.0) [] e (kept (is_had a.0) (take (length on) on) e first (is_had_of a.0 e (a.2 e known.0 known.1))))
              (reading t supports.among supports.consistent supports.entails)),
        )

    module _ (set : List Entry) (log : List LogLine) (w : Witness) (h : IsNarrowed book on all 0 set log w) where
      abbrev support : List Entry
      support = those_in sheet.entries set

      set_entered : (e : Entry) → Contains set e → Contains on e
      set_entered e c = drop_there on 0 e (All-contains (Contains (drop 0 on)) set e h.later c)

      pub set_supports : IsContained set support
      set_supports e c = kept (is_in set) sheet.entries e (kept_is p sheet.entries e (set_entered e c)).0 (is_in_of set e c)

      support_chosen : IsContained support set
      support_chosen e c = in_is set e (kept_is (is_in set) sheet.entries e c).1

      support_falls : ¬ IsConsistent book support
      support_falls stands = h.witness.is.1 (fewer_stand book (left_of on 0 set h.witness.shown) support set_supports stands)

      pub support_denied : IsDeniedAt book support log w.line
      support_denied = denied_more book (left_of on 0 set h.witness.shown) support log log w.line [] (sym (append-nil log)) set_supports h.witness.denied

      pub support_shown : Shows sheet support h.witness.shown
      support_shown =
          let known = fit h.witness.shown (there_at all w.way h.witness.shown h.witness.at) in
          record { assigns = known.0; fits = known.1; has = all_contained (HasEntry h.witness.shown) support set support_chosen h.witness.is.0 }

      supports_it : SupportsStatement sheet support f
      supports_it = record {
        among = filter_sub (is_in set) sheet.entries;
        consistent = (h.witness.shown, support_shown);
        entails = denied_entails support support_falls;
      }

      on_distinct : AreDifferent on
      on_distinct = AllPairs-filter (λ (x y : Entry). x ≢ y) p sheet.entries distinct

      -- no other support lacks the newest entry on which both differ
      none_less : (other : List Entry) → SupportsStatement sheet other f → ¬ IsLess sheet.entries other support
      none_less other k less =
          let d = less.newest in
          let chosen = place_of set d (support_chosen d less.has) in
          let i : ℕ = chosen.0 in
          let n = h.needed i d chosen.1 in
          let c = covers other k.among k.consistent in
          let a : List ValueId = c.0 in
          let later = λ (e : Entry) (at : Contains (drop (n.place + 1) on) e).
          behind p less.older less.newer d n.place e (subst AreDifferent less.order distinct) (subst (λ es. slice_get (filter p es) n.place ≡ Some d) less.order n.at) (subst (λ es. Contains (drop (n.place + 1) (filter p es)) e) less.order at) in
          let has_newer : HasAll a (take i set) = all_from (HasEntry a) (take i set)
          (λ e at.
          let of_set = take_there set i e at in
          let back = All-contains (Contains (drop (n.place + 1) on)) (take i set) e n.newer_are at in
          c.2 e ((less.agree e (later e back)).1 (set_supports e of_set)) (kept_is p sheet.entries e (set_entered e of_set)).1) in
          let left : List Entry = left_of on n.place (take i set) a in
          let within : IsContained (filter p other) left = (λ e at.
          let known = on_there other k.among e at in
          let m = place_of on e known.2 in
          elim (cases_eq m.0 n.place) [
            | inl same ↦ absurd (less.lacks (subst (Contains other) (same_some (sym m.1 ∙ (ap (slice_get on) same ∙ n.at))) known.0))
            | inr differ ↦ elim (cases_lt m.0 n.place) [
              | inl early ↦ Contains-append_left (had_by (take n.place on) a) (take i set) e
                  (kept (is_had a) (take n.place on) e (at_take on n.place m.0 e m.1 early) (is_had_of a e (c.2 e known.0 known.1)))
              | inr late ↦ Contains-append_right (had_by (take n.place on) a) (take i set) e (taken i d n.place chosen.1 n.at e
                  (at_drop on (n.place + 1) m.0 e m.1 (omega (arith, late, differ)))
                  (support_chosen e ((less.agree e (later e (at_drop on (n.place + 1) m.0 e m.1 (omega (arith, late, differ))))).0 known.0)))
            ]
          ]) in
          n.lacks a c.1 (has_newer, entails_denied left (entails_more (filter p other) left within (reading other k.among k.consistent k.entails)))
        where
          -- what is kept and stands behind an entry that is kept was kept before it
          taken : (i : ℕ) (d : Entry) (place : ℕ) → slice_get set i ≡ Some d → slice_get on place ≡ Some d → (e : Entry) → Contains (drop (place + 1) on) e → Contains set e → Contains (take i set) e
          taken i d place at_d on_d e behind_d of_set =
              let j = place_of set e of_set in
              elim (cases_lt j.0 i) [
                | inl early ↦ at_take set i j.0 e j.1 early
                | inr late ↦ elim (cases_eq j.0 i) [
                  | inl same ↦
                      let is : d ≡ e = same_some (sym at_d ∙ (ap (slice_get set) (sym same) ∙ j.1)) in
                      absurd (not_both on on_distinct place place d e on_d (subst (λ x. slice_get on place ≡ Some x) is on_d) behind_d (subst (Contains (drop (place + 1) on)) (sym is) behind_d))
                  | inr differ ↦
                      let n = h.needed j.0 e j.1 in
                      absurd (not_both on on_distinct place n.place d e on_d n.at behind_d
                      (All-contains (Contains (drop (n.place + 1) on)) (take j.0 set) d n.newer_are (at_take set j.0 i d at_d (omega (arith, late, differ)))))
                ]
              ]

      pub is_least : DifferentSublistsAreOrdered → IsLeastForStatement sheet support f
      is_least ordered = record {
        supports = supports_it;
        least = λ other k. elim (ordered sheet.entries support other distinct supports_it.among k.among) [
          | inl same ↦ inl (sym same)
          | inr differ ↦ elim differ [
            | inl less ↦ inr less
            | inr more ↦ absurd (none_less other k more)
          ]
        ];
      }
