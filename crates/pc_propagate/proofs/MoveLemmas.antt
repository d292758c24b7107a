-- All places of a list come to another one, one after another.
use Rattle.std.proofs.Common.{◌≡◌, ◌≢◌, ℕ, ◌<◌, ◌⊎◌, inl, inr, List, Option, Some, None, length, get_or, set, refl, sym, ap, ◌∙◌, subst, arith, ⊎_elim}
use Rattle.std.proofs.lemmas.Bool.{cases_eq}
use Rattle.std.proofs.lemmas.List.{length-set, get_or-set_same, get_or-set_other}
use Rattle.pc_propagate.specs.inside.Lists.{ListsView, HaveMoved}
use Rattle.pc_propagate.proofs.CountLemmas.{count_in, count_taken, count_no_more}

pub record HaveComeOver (list other : ℕ) (old new : ListsView) : Type 0 where
  pub count : new.count ≡ old.count
  pub size : length new.list_of ≡ length old.list_of
  pub moved : (p : ℕ)
      → (get_or new.list_of p None ≡ get_or old.list_of p None)
      ⊎ ((get_or old.list_of p None ≡ Some list) × (get_or new.list_of p None ≡ Some other))

pub come_none : (list other : ℕ) (view : ListsView) → HaveComeOver list other view view
come_none list other view = record { count = refl; size = refl; moved = λ p. inl refl }

pub come_step : (list other place : ℕ) (old a b d : ListsView) → HaveComeOver list other old a → place < length a.list_of → get_or a.list_of place None ≡ Some list
    → b ≡ record a { list_of = set a.list_of place None } → d ≡ record b { list_of = set b.list_of place (Some other) } → HaveComeOver list other old d
come_step list other place old a b d h within at taken put =
    let lists : d.list_of ≡ set (set a.list_of place None) place (Some other) = ap (λ (v : ListsView). v.list_of) put ∙ ap (λ (v : ListsView). set v.list_of place (Some other)) taken in
    record {
      count = ap (λ (v : ListsView). v.count) put ∙ ap (λ (v : ListsView). v.count) taken ∙ h.count;
      size = ap length lists ∙ length-set (set a.list_of place None) place (Some other) ∙ length-set a.list_of place None ∙ h.size;
      moved = λ p. ⊎_elim
          (λ here.
          let now : get_or d.list_of p None ≡ Some other =
          ap (λ (n : ℕ). get_or d.list_of n None) here ∙ ap (λ (xs : List (Option ℕ)). get_or xs place None) lists
          ∙ get_or-set_same (set a.list_of place None) place (Some other) None (omega (arith, within, length-set a.list_of place None)) in
          let was : get_or a.list_of p None ≡ Some list = ap (λ (n : ℕ). get_or a.list_of n None) here ∙ at in
          ⊎_elim (λ same. inr (sym same ∙ was, now)) (λ moved. inr (moved.0, now)) (h.moved p))
          (λ there.
          let same : get_or d.list_of p None ≡ get_or a.list_of p None =
          ap (λ (xs : List (Option ℕ)). get_or xs p None) lists ∙ get_or-set_other (set a.list_of place None) place p (Some other) None there ∙ get_or-set_other a.list_of place p None None there in
          ⊎_elim (λ was. inl (same ∙ was)) (λ moved. inr (moved.0, same ∙ moved.1)) (h.moved p))
          (cases_eq p place);
    }

pub come_smaller : (list other place : ℕ) (a b d : ListsView) → list ≢ other → place < length a.list_of → get_or a.list_of place None ≡ Some list → b ≡ record a { list_of = set a.list_of place None }
    → d ≡ record b { list_of = set b.list_of place (Some other) } → count_in list d.list_of < count_in list a.list_of
come_smaller list other place a b d apart within at taken put =
    let lists : d.list_of ≡ set (set a.list_of place None) place (Some other) = ap (λ (v : ListsView). v.list_of) put ∙ ap (λ (v : ListsView). set v.list_of place (Some other)) taken in
    let no_more = count_no_more list (set a.list_of place None) d.list_of (sym (ap length lists ∙ length-set (set a.list_of place None) place (Some other))) (λ k has. ⊎_elim
    (λ here. absurd (differ (sym (get_or-set_same (set a.list_of place None) place (Some other) None (omega (arith, within, length-set a.list_of place None)))
    ∙ ap (λ (xs : List (Option ℕ)). get_or xs place None) (sym lists) ∙ ap (λ (n : ℕ). get_or d.list_of n None) (sym here) ∙ has)))
    (λ there. sym (get_or-set_other (set a.list_of place None) place k (Some other) None there) ∙ ap (λ (xs : List (Option ℕ)). get_or xs k None) (sym lists) ∙ has)
    (cases_eq k place)) in
    omega (arith, no_more, count_taken list a.list_of place within at)
  where
    differ : Some other ≡ Some list → ⊥
    differ same = let e : list ≡ other = cc in apart e

pub come_all : (list other : ℕ) (old a b : ListsView) → HaveComeOver list other old a → b ≡ a → ((p : ℕ) → get_or a.list_of p None ≢ Some list) → HaveMoved list other old b
come_all list other old a b h same none =
    subst (λ (v : ListsView). HaveMoved list other old v) (sym same) (record { count = h.count; size = h.size; moved = h.moved; none = none })

-- a place in one of the two lists stays in one
pub moved_stay : (old new : ListsView) → HaveMoved 0 1 old new → (p : ℕ) → (get_or old.list_of p None ≡ Some 0) ⊎ (get_or old.list_of p None ≡ Some 1) → (get_or new.list_of p None ≡ Some 0) ⊎ (get_or new.list_of p None ≡ Some 1)
moved_stay old new h p waits = ⊎_elim
    (λ same. ⊎_elim (λ next. inl (same ∙ next)) (λ present. inr (same ∙ present)) waits)
    (λ moved. inr moved.1)
    (h.moved p)
