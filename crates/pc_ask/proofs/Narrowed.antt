-- One entry more is decided.
use Rattle.std.proofs.Common.{◌≡◌, ℕ, ◌+◌, ◌⊎◌, inl, inr, true, false, List, [], ◌∷◌, ◌++◌, length, take, drop, Option, None, Some, slice_get, All, Contains, arith, eqb-true, eq-eqb, ap, refl, sym, ◌∙◌, subst}
use Rattle.std.proofs.lemmas.Bool.{cases_Bool, cases_eq, false≢true}
use Rattle.std.proofs.lemmas.List.Elements.{All-nil, All-cons, All-append, All-contains, Contains-append_left, Contains-append_right, Contains-append_cases}
use Rattle.pc_lemmas.proofs.Elements.{contains_first, all_from, kept, kept_is}
use Rattle.pc_lemmas.proofs.Options.{same_some}
use Rattle.pc_laws.proofs.Contained.{all_contained}
use Rattle.pc_log.specs.Lines.{LogLine}
use Rattle.pc_sheet.specs.Sheet.{Sheet}
use Rattle.pc_sheet.specs.Entailment.{HasEntry, IsConsistent}
use Rattle.pc_sheet.specs.MaximalSets.{IsContained}
use Rattle.pc_sheet.specs.declared.ids.ValueId.{ValueId}
use Rattle.pc_sheet.specs.declared.ids.Entry.{Entry}
use Rattle.pc_repairs.specs.inside.Joining.{had_by, is_had, is_value}
use Rattle.pc_ask.specs.Asking.{IsDeniedAt}
use Rattle.pc_ask.specs.declared.narrowing.Witness.{Witness}
use Rattle.pc_ask.specs.inside.Narrowing.{left_of, IsWitness, HasWitness, LacksWitness, IsNeeded, IsNarrowed}
use Rattle.pc_ask.proofs.Places.{none_at, there_at, at_take, take_at, at_drop, drop_less, pushed_cases}
use Rattle.pc_ask.proofs.Witnesses.{denied_more}

-- ---- what an assignment has

value_is : (o : Option ValueId) (v : ValueId) → is_value o v ≡ true → o ≡ Some v
value_is None v is = absurd (false≢true is)
value_is (Some w) v is = let make : ℕ → ValueId = λ n. record { 0 = n } in ap (λ n. Some (make n)) (eqb-true w.0 v.0 is)

is_of_value : (o : Option ValueId) (v : ValueId) → o ≡ Some v → is_value o v ≡ true
is_of_value o v is = subst (λ p. is_value p v ≡ true) (sym is) (eq-eqb v.0 v.0 refl)

pub had_is : (a : List ValueId) (e : Entry) → is_had a e ≡ true → HasEntry a e
had_is a e is = value_is (slice_get a e.cell.0) e.value is

pub is_had_of : (a : List ValueId) (e : Entry) → HasEntry a e → is_had a e ≡ true
is_had_of a e has = is_of_value (slice_get a e.cell.0) e.value has

-- ---- less stands together with more

pub fewer_stand : (sheet : Sheet) (s t : List Entry) → IsContained s t → IsConsistent sheet t → IsConsistent sheet s
fewer_stand sheet s t within (a, shows) = (a, record { assigns = shows.assigns; fits = shows.fits; has = all_contained (HasEntry a) s t within shows.has })

module _ (sheet : Sheet) (entries : List Entry) (all : List (List ValueId)) where
  -- before any entry is decided
  pub none_decided : (log : List LogLine) (w : Witness) → HasWitness sheet entries all (length entries) [] log w → IsNarrowed sheet entries all (length entries) [] log w
  none_decided log w is = record {
    later = All-nil (Contains (drop (length entries) entries));
    witness = is;
    needed = λ i e at. absurd (none_at i e at);
  }

  module _ (k : ℕ) (set : List Entry) (log grown : List LogLine) (w : Witness) (h : IsNarrowed sheet entries all (k + 1) set log w) where
    still_later : All (Contains (drop k entries)) set
    still_later = all_from (Contains (drop k entries)) set (λ e c. drop_less entries k e (All-contains (Contains (drop (k + 1) entries)) set e h.later c))

    -- the entry is left out
    pub left_out : (next : Witness) → HasWitness sheet entries all k set grown next → IsNarrowed sheet entries all k set grown next
    left_out next is = record { later = still_later; witness = is; needed = h.needed }

    module _ (e : Entry) (at : slice_get entries k ≡ Some e) (lacks : LacksWitness sheet entries all k set) (lines : List LogLine) (added : grown ≡ log ++ lines) where
      abbrev more : List Entry
      more = set ++ e ∷ []

      -- one of the first k + 1 is one of the first k, or the entry
      had_cases : (a : List ValueId) (d : Entry) → Contains (had_by (take (k + 1) entries) a) d → (Contains (had_by (take k entries) a) d) ⊎ ((d ≡ e) × HasEntry a d)
      had_cases a d c =
          let known = kept_is (is_had a) (take (k + 1) entries) d c in
          let place = take_at entries (k + 1) d known.0 in
          elim (cases_eq place.0 k) [
            | inl same ↦ inr (same_some (sym place.2 ∙ (ap (slice_get entries) same ∙ at)), had_is a d known.1)
            | inr differ ↦ inl (kept (is_had a) (take k entries) d (at_take entries k place.0 d place.2 (omega (arith, place.1, differ))) known.1)
          ]

      -- what is left of an assignment
      within : (a : List ValueId) → IsContained (left_of entries (k + 1) set a) (left_of entries k more a)
      within a d c = elim (Contains-append_cases (had_by (take (k + 1) entries) a) set d c) [
        | inl first ↦ elim (had_cases a d first) [
          | inl early ↦ Contains-append_left (had_by (take k entries) a) more d early
          | inr last ↦ Contains-append_right (had_by (take k entries) a) more d (subst (Contains more) (sym last.0) (Contains-append_right set (e ∷ []) e (contains_first e [])))
        ]
        | inr chosen ↦ Contains-append_right (had_by (take k entries) a) more d (Contains-append_left set (e ∷ []) d chosen)
      ]

      -- of one that lacks the entry nothing less is left without it
      without : (a : List ValueId) → is_had a e ≡ false → IsContained (left_of entries (k + 1) set a) (left_of entries k set a)
      without a not_had d c = elim (Contains-append_cases (had_by (take (k + 1) entries) a) set d c) [
        | inl first ↦ elim (had_cases a d first) [
          | inl early ↦ Contains-append_left (had_by (take k entries) a) set d early
          | inr last ↦ absurd (false≢true (sym not_had ∙ (ap (is_had a) (sym last.0) ∙ is_had_of a d last.1)))
        ]
        | inr chosen ↦ Contains-append_right (had_by (take k entries) a) set d chosen
      ]

      -- the witness has the entry, since it would be one without it; so it still is one
      kept_witness : (a : List ValueId) → slice_get all w.way ≡ Some a → IsWitness sheet entries all (k + 1) set a → IsDeniedAt sheet (left_of entries (k + 1) set a) log w.line → HasWitness sheet entries all k more grown w
      kept_witness a at_way is denied = elim (cases_Bool (is_had a e)) [
        | inl has ↦ record {
          shown = a;
          at = at_way;
          is = (
            All-append (HasEntry a) set (e ∷ []) is.0 (All-cons (HasEntry a) e [] (had_is a e has) (All-nil (HasEntry a))),
            λ consistent. is.1 (fewer_stand sheet (left_of entries (k + 1) set a) (left_of entries k more a) (within a) consistent),
          );
          denied = denied_more sheet (left_of entries (k + 1) set a) (left_of entries k more a) log grown w.line lines added (within a) denied;
        }
        | inr not_had ↦ absurd (lacks a (there_at all w.way a at_way) (
          is.0,
          λ consistent. is.1 (fewer_stand sheet (left_of entries (k + 1) set a) (left_of entries k set a) (without a not_had) consistent),
        ))
      ]

      -- the entry is kept
      pub kept_too : IsNarrowed sheet entries all k more grown w
      kept_too = record {
        later = All-append (Contains (drop k entries)) set (e ∷ []) still_later (All-cons (Contains (drop k entries)) e [] (at_drop entries k k e at (omega arith)) (All-nil (Contains (drop k entries))));
        witness = kept_witness h.witness.shown h.witness.at h.witness.is h.witness.denied;
        needed = λ i d at_d. elim (pushed_cases set e i d at_d) [
          | inl early ↦ subst (λ newer. IsNeeded sheet entries all newer d) (sym early.1) (h.needed i d early.0)
          | inr last ↦ subst (λ newer. IsNeeded sheet entries all newer d) (sym last.1)
              (subst (IsNeeded sheet entries all set) (sym last.0) (record { place = k; at = at; newer_are = h.later; lacks = lacks }))
        ];
      }
