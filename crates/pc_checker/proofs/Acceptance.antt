-- The verdict of acceptance is acceptance.
use Rattle.std.proofs.Common.{◌≡◌, ◌↔◌, ℕ, List, [], ◌∷◌, map, length, get_or, AllPairs, Contains, ap, sym, subst, ◌<◌, arith}
use Rattle.std.proofs.lemmas.List.{length-map, get_or-map}
use Rattle.std.proofs.lemmas.List.Elements.{All-map}
use Rattle.pc_sheet.specs.Sheet.{Sheet}
use Rattle.pc_sheet.specs.Entailment.{HasEntry, Fits}
use Rattle.pc_sheet.specs.declared.ids.ValueId.{ValueId}
use Rattle.pc_sheet.specs.declared.ids.Entry.{Entry}
use Rattle.pc_accept.specs.Literals.{Literal}
use Rattle.pc_accept.specs.Sets.{GivenSet, NeitherIsWithin, blocks_of}
use Rattle.pc_accept.specs.Accepts.{Claim, implied, inconsistent, repairs, unimplied, against, AreShown, value_of_entry, DerivesBeside, AcceptsSets, BarsTarget, BarsNothing, AcceptsClaim}
use Rattle.pc_cert.specs.Text.{CertificateReading, entry_said, set_read, lines_from, certificate_read}
use Rattle.pc_checker.specs.Verdicts.{Numbered, values_in, FitsBut, Stands, SetsStand, blocks_in, allowed_by, ClaimStands}
use Rattle.std.specs.Prelude.{Option, None, Some}
use Rattle.pc_checker.specs.Laws.{AcceptedIsAccepts}
use Rattle.pc_cert.specs.ReadFor.{IsBare, HasNoEntries}
use Rattle.pc_checker.proofs.ListLemmas.{all_mapped}

-- ---- used entries and an assignment

module _ (sheet : Sheet) (left_out : Option ℕ) (uses values : List (Numbered Entry)) where
  abbrev IsShown : Type 0
  IsShown = AreShown sheet (FitsBut sheet left_out) (map entry_said uses) (map entry_said values)

  shown : Stands sheet left_out uses values → IsShown
  shown h = record {
    entered = All-map (λ e. Contains sheet.entries e) entry_said uses h.entered;
    in_order = h.assigns.0;
    assigns = h.assigns.1;
    has = All-map (HasEntry (values_in values)) entry_said uses h.held;
    fits = h.fits;
  }

  stands : IsShown → Stands sheet left_out uses values
  stands h = record {
    entered = all_mapped (λ e. Contains sheet.entries e) entry_said uses h.entered;
    assigns = (h.in_order, h.assigns);
    held = all_mapped (HasEntry (values_in values)) entry_said uses h.has;
    fits = h.fits;
  }

-- ---- sets

module _ {X Y : Type 0} (P : Y → Y → Type 0) (f : X → Y) (xs : List X) where
  pairs_map : AllPairs (λ x y. P (f x) (f y)) xs → AllPairs P (map f xs)
  pairs_map h i j d below within = by_one xs h i j d below within
    where
      by_one : (xs : List X) → AllPairs (λ x y. P (f x) (f y)) xs → (i j : ℕ) (d : Y) → i < j → j < length (map f xs) → P (get_or (map f xs) i d) (get_or (map f xs) j d)
      by_one [] h i j d below within = absurd (omega (arith, within))
      by_one (x ∷ ys) h i j d below within =
          let count = length-map (x ∷ ys) f in
          let high : j < length (x ∷ ys) = omega (arith, within, count) in
          let low : i < length (x ∷ ys) = omega (arith, below, high) in
          subst (λ y. P y (get_or (map f (x ∷ ys)) j d)) (sym (get_or-map f (x ∷ ys) i x d low)) (subst (P (f (get_or (x ∷ ys) i x))) (sym (get_or-map f (x ∷ ys) j x d high)) (h i j x below high))

  pairs_unmap : AllPairs P (map f xs) → AllPairs (λ x y. P (f x) (f y)) xs
  pairs_unmap h i j d below within =
      let count = length-map xs f in
      subst (λ y. P y (f (get_or xs j d))) (get_or-map f xs i d (f d) (omega (arith, below, within)))
      (subst (P (get_or (map f xs) i (f d))) (get_or-map f xs j d (f d) within) (h i j (f d) below (omega (arith, within, count))))

module _ (sheet : Sheet) (IsBarred : List ValueId → Type 0) (t : CertificateReading) (bare : HasNoEntries t) where
  abbrev ShownSet : GivenSet → Type 0
  ShownSet s = AreShown sheet (Fits sheet) s.uses s.values

  abbrev FreeSet : GivenSet → Type 0
  FreeSet s = ¬ IsBarred (map value_of_entry s.values)

  abbrev Derives : Type 0
  Derives = DerivesBeside sheet (blocks_in sheet t) (lines_from 0 t.parts) []

  sets_accepted : SetsStand sheet IsBarred t.sets → Derives → AcceptsSets sheet IsBarred (certificate_read t)
  sets_accepted h d = record {
    no_uses = ap (map entry_said) bare.0;
    no_values = ap (map entry_said) bare.1;
    shown = All-map ShownSet set_read t.sets (λ k e l. shown sheet None (get_or t.sets k e).uses (get_or t.sets k e).values (h.each k e l).0);
    free = All-map FreeSet set_read t.sets (λ k e l. (h.each k e l).1);
    apart = pairs_map NeitherIsWithin set_read t.sets h.apart;
    derives = d;
  }

  accepted_stand : AcceptsSets sheet IsBarred (certificate_read t) → SetsStand sheet IsBarred t.sets
  accepted_stand h = record {
    each = λ k e l. (stands sheet None (get_or t.sets k e).uses (get_or t.sets k e).values (all_mapped ShownSet set_read t.sets h.shown k e l), all_mapped FreeSet set_read t.sets h.free k e l);
    apart = pairs_unmap NeitherIsWithin set_read t.sets h.apart;
  }

-- ---- the claim

module _ (sheet : Sheet) (t : CertificateReading) where
  abbrev DerivesBy : List (List Literal) → List Literal → Type 0
  DerivesBy blocks allowed = DerivesBeside sheet blocks (lines_from 0 t.parts) allowed

  no_blocks : t.sets ≡ [] → blocks_in sheet t ≡ []
  no_blocks none = ap (λ sets. blocks_of sheet (map set_read sets)) none

accepts : (sheet : Sheet) (t : CertificateReading) (claim : Claim) → IsBare sheet t claim
    → (ClaimStands sheet t claim × DerivesBeside sheet (blocks_in sheet t) (lines_from 0 t.parts) (allowed_by t claim)) ↔ AcceptsClaim sheet (certificate_read t) claim
accepts sheet t (implied target) bare =
    let allowed = allowed_by t (implied target) in (
      λ h. record { shown = shown sheet None t.uses t.values h.0; derives = subst (λ bs. DerivesBy sheet t bs allowed) (no_blocks sheet t bare) h.1 },
      λ h. (stands sheet None t.uses t.values h.shown, subst (λ bs. DerivesBy sheet t bs allowed) (sym (no_blocks sheet t bare)) h.derives),
    )
accepts sheet t inconsistent bare = (
  λ h. record { no_uses = ap (map entry_said) bare.1.0; no_values = ap (map entry_said) bare.1.1; derives = subst (λ bs. DerivesBy sheet t bs []) (no_blocks sheet t bare.0) h.1 },
  λ h. (tt, subst (λ bs. DerivesBy sheet t bs []) (sym (no_blocks sheet t bare.0)) h.derives),
)
accepts sheet t repairs bare = (λ h. sets_accepted sheet BarsNothing t bare h.0 h.1, λ h. (accepted_stand sheet BarsNothing t bare h, h.derives))
accepts sheet t (unimplied target) bare = (λ h. sets_accepted sheet (BarsTarget target) t bare h.0 h.1, λ h. (accepted_stand sheet (BarsTarget target) t bare h, h.derives))
accepts sheet t (against k) bare =
    let allowed = allowed_by t (against k) in (
      λ h. record { rule = bare.1; shown = shown sheet (Some k) t.uses t.values h.0; derives = subst (λ bs. DerivesBy sheet t bs allowed) (no_blocks sheet t bare.0) h.1 },
      λ h. (stands sheet (Some k) t.uses t.values h.shown, subst (λ bs. DerivesBy sheet t bs allowed) (sym (no_blocks sheet t bare.0)) h.derives),
    )

pub accepted_is_accepts : AcceptedIsAccepts
accepted_is_accepts sheet t bare = accepts sheet t t.claim bare
