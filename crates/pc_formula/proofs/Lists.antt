-- Lists in parentheses, read element by element.
use Rattle.std.proofs.Common.{◌≡◌, ℕ, ◌<◌, Bool, true, false, List, [], ◌∷◌, ◌++◌, refl, sym, ◌∙◌, ap, subst, arith, if◌then◌else◌}
use Rattle.std.proofs.lemmas.List.{append_assoc}
use Rattle.pc_token.specs.declared.token.Kind.TheVariants.{Open, Close, Comma}
use Rattle.pc_formula.specs.Word.{Word, sign, NotFirst}
use Rattle.pc_formula.specs.Front.{StopsLevel, Reads, ReadsNone}
use Rattle.pc_formula.specs.Value.{Listed, last, next, InParentheses, enclosed, Arguments, no_argument, arguments}
use Rattle.pc_formula.proofs.Stops.{stops_at_zero, not_first, stops_item}

-- what of a list has been read: these elements, and whatever is derived goes on from here
pub record Lists {A : Type 0} (X : List Word → A → List Word → Type 0) (old : List Word) (seen : List A) (now : List Word) : Type 0 where
  pub whole : (more : List A) (rest : List Word) → Listed X now more rest → Listed X old (seen ++ more) rest
  pub only : (all : List A) (rest : List Word) → Listed X old all rest → (more : List A) × (all ≡ seen ++ more) × Listed X now more rest

pub lists_start : {A : Type 0} (X : List Word → A → List Word → Type 0) (old : List Word) → Lists X old [] old
lists_start X old = record { whole = λ more rest d. d; only = λ all rest d. (all, refl, d) }

module _ {A : Type 0} (X : List Word → A → List Word → Type 0) (n : ℕ) (few : n < 8) (old : List Word) (seen : List A) (now : List Word) (so_far : Lists X old seen now) where
  pub lists_none : ReadsNone X n now → ReadsNone (Listed X) 0 old
  lists_none r = record {
    none = λ all rest d stops.
        let found = so_far.only all rest d in
        step now found.0 rest r found.2;
  }
    where
      step : (ws : List Word) (more : List A) (rest : List Word) → ReadsNone X n ws → Listed X ws more rest → ⊥
      step ws more rest r (last {a = a} d) = r.none a (sign Close ∷ rest) d few
      step ws more rest r (next {mid = mid} {a = a} d others) = r.none a (sign Comma ∷ mid) d few

  module _ (a : A) (mid : List Word) (r : Reads X n now a mid) where
    pub lists_next : (new : List Word) → mid ≡ sign Comma ∷ new → Lists X old (seen ++ a ∷ []) new
    lists_next new is = record {
      whole = λ more rest d. subst (λ l. Listed X old l rest) (sym (append_assoc seen (a ∷ []) more)) (so_far.whole (a ∷ more) rest (next (subst (X now a) is r.derives) d));
      only = λ all rest d.
          let found = so_far.only all rest d in
          let after = step now found.0 rest r found.2 in
          (after.0, found.1 ∙ ap (λ l. seen ++ l) after.1 ∙ sym (append_assoc seen (a ∷ []) after.0), after.2);
    }
      where
        step : (ws : List Word) (more : List A) (rest : List Word) → Reads X n ws a mid → Listed X ws more rest → (others : List A) × (more ≡ a ∷ others) × Listed X new others rest
        step ws more rest r (last {a = b} d) =
            let one = r.only b (sign Close ∷ rest) d few in
            let clash : sign Close ∷ rest ≡ sign Comma ∷ new = one.1 ∙ is in
            cc
        step ws more rest r (next {mid = there} {a = b} {more = others} d tail) =
            let one = r.only b (sign Comma ∷ there) d few in
            let both : sign Comma ∷ there ≡ sign Comma ∷ new = one.1 ∙ is in
            let same : there ≡ new = cc in
            (others, ap (λ x. x ∷ others) one.0, subst (λ m. Listed X m others rest) same tail)

    pub lists_end : (new : List Word) → mid ≡ sign Close ∷ new → Reads (Listed X) 0 old (seen ++ a ∷ []) new
    lists_end new is = record {
      derives = so_far.whole (a ∷ []) new (last (subst (X now a) is r.derives));
      stops = stops_at_zero new;
      only = λ all rest d stops.
          let found = so_far.only all rest d in
          let after = step now found.0 rest r found.2 in
          (found.1 ∙ ap (λ l. seen ++ l) after.0, after.1);
    }
      where
        step : (ws : List Word) (more : List A) (rest : List Word) → Reads X n ws a mid → Listed X ws more rest → (more ≡ a ∷ []) × (rest ≡ new)
        step ws more rest r (last {a = b} d) =
            let one = r.only b (sign Close ∷ rest) d few in
            let both : sign Close ∷ rest ≡ sign Close ∷ new = one.1 ∙ is in
            (ap (λ x. x ∷ []) one.0, (cc))
        step ws more rest r (next {mid = there} {a = b} d tail) =
            let one = r.only b (sign Comma ∷ there) d few in
            let clash : sign Comma ∷ there ≡ sign Close ∷ new = one.1 ∙ is in
            cc

    pub lists_stuck : NotFirst Comma mid → NotFirst Close mid → ReadsNone (Listed X) 0 old
    lists_stuck no_comma no_close = record {
      none = λ all rest d stops.
          let found = so_far.only all rest d in
          step now found.0 rest r found.2;
    }
      where
        step : (ws : List Word) (more : List A) (rest : List Word) → Reads X n ws a mid → Listed X ws more rest → ⊥
        step ws more rest r (last {a = b} d) = no_close rest (sym (r.only b (sign Close ∷ rest) d few).1)
        step ws more rest r (next {mid = there} {a = b} d tail) = no_comma there (sym (r.only b (sign Comma ∷ there) d few).1)

-- ---- the list behind its parenthesis

module _ {A : Type 0} (X : List Word → A → List Word → Type 0) where
  from_enclosed : (old ws : List Word) (all : List A) (rest : List Word) → old ≡ sign Open ∷ ws → InParentheses X old all rest → Listed X ws all rest
  from_enclosed old ws all rest is (enclosed {ws = there} d) =
      let same : there ≡ ws = cc in
      subst (λ l. Listed X l all rest) same d

  opened : (old : List Word) (all : List A) (rest : List Word) → InParentheses X old all rest → NotFirst Open old → ⊥
  opened old all rest (enclosed {ws = ws} d) absent = absent ws refl

  pub not_enclosed : (old : List Word) → NotFirst Open old → ReadsNone (InParentheses X) 0 old
  not_enclosed old absent = record { none = λ all rest d stops. opened old all rest d absent }

  -- without a list
  pub arguments_absent : (old : List Word) → NotFirst Open old → Reads (Arguments X) 1 old [] old
  arguments_absent old absent = record { derives = no_argument; stops = stops_item old absent; only = λ all rest d stops. step old all rest absent d }
    where
      step : (ws : List Word) (all : List A) (rest : List Word) → NotFirst Open ws → Arguments X ws all rest → (all ≡ []) × (rest ≡ ws)
      step ws all rest absent no_argument = (refl, refl)
      step ws all rest absent (arguments d) = absurd (opened ws all rest d absent)

  module _ (old ws : List Word) (is : old ≡ sign Open ∷ ws) where
    from_arguments : (all : List A) (rest : List Word) → Arguments X old all rest → StopsLevel 1 rest → Listed X ws all rest
    from_arguments all rest d stops = step old all rest d is stops
      where
        step : (there : List Word) (all : List A) (rest : List Word) → Arguments X there all rest → there ≡ sign Open ∷ ws → StopsLevel 1 rest → Listed X ws all rest
        step there all rest no_argument is stops = absurd (not_first 1 Open there stops (omega arith) ws is)
        step there all rest (arguments d) is stops = from_enclosed there ws all rest is d

    pub enclosed_reads : (all : List A) (new : List Word) → Reads (Listed X) 0 ws all new → Reads (InParentheses X) 0 old all new
    enclosed_reads all new r = record {
      derives = subst (λ l. InParentheses X l all new) (sym is) (enclosed r.derives);
      stops = stops_at_zero new;
      only = λ other rest d stops. r.only other rest (from_enclosed old ws other rest is d) stops;
    }

    pub enclosed_none : ReadsNone (Listed X) 0 ws → ReadsNone (InParentheses X) 0 old
    enclosed_none r = record { none = λ other rest d stops. r.none other rest (from_enclosed old ws other rest is d) stops }

    pub arguments_read : (all : List A) (new : List Word) → Reads (Listed X) 0 ws all new → StopsLevel 1 new → Reads (Arguments X) 1 old all new
    arguments_read all new r stop = record {
      derives = subst (λ l. Arguments X l all new) (sym is) (arguments (enclosed r.derives));
      stops = stop;
      only = λ other rest d stops. r.only other rest (from_arguments other rest d stops) (stops_at_zero rest);
    }

    pub arguments_none : ReadsNone (Listed X) 0 ws → ReadsNone (Arguments X) 1 old
    arguments_none r = record { none = λ other rest d stops. r.none other rest (from_arguments other rest d stops) (stops_at_zero rest) }

    pub arguments_again : (all : List A) (mid : List Word) → Reads (Listed X) 0 ws all mid → (StopsLevel 1 mid → ⊥) → ReadsNone (Arguments X) 1 old
    arguments_again all mid r goes_on = record { none = λ other rest d stops. goes_on (subst (StopsLevel 1) (r.only other rest (from_arguments other rest d stops) (stops_at_zero rest)).1 stops) }

-- ---- a list is read once

module _ {A : Type 0} (X : List Word → A → List Word → Type 0) (once : (ws : List Word) (a b : A) (r s : List Word) → X ws a r → X ws b s → (a ≡ b) × (r ≡ s)) where
  pub listed_once : (ws : List Word) (all others : List A) (r s : List Word) → Listed X ws all r → Listed X ws others s → (all ≡ others) × (r ≡ s)
  listed_once ws all others r s (last {a = a} d) (last {a = b} e) =
      let one = once ws a b (sign Close ∷ r) (sign Close ∷ s) d e in
      (ap (λ x. x ∷ []) one.0, (cc))
  listed_once ws all others r s (last {a = a} d) (next {mid = mid} {a = b} e tail) =
      let one = once ws a b (sign Close ∷ r) (sign Comma ∷ mid) d e in
      cc
  listed_once ws all others r s (next {mid = mid} {a = a} d tail) (last {a = b} e) =
      let one = once ws a b (sign Comma ∷ mid) (sign Close ∷ s) d e in
      cc
  listed_once ws all others r s (next {mid = mid} {a = a} {more = xs} d tail) (next {mid = there} {a = b} {more = ys} e rest) =
      let one = once ws a b (sign Comma ∷ mid) (sign Comma ∷ there) d e in
      let same : there ≡ mid = cc in
      let more = listed_once mid xs ys r s tail (subst (λ m. Listed X m ys s) same rest) in
      ((cc), more.1)

  pub enclosed_once : (ws : List Word) (all others : List A) (r s : List Word) → InParentheses X ws all r → InParentheses X ws others s → (all ≡ others) × (r ≡ s)
  enclosed_once ws all others r s (enclosed {ws = there} d) e = listed_once there all others r s d (from_enclosed X ws there others s refl e)

  -- where no parenthesis follows
  pub arguments_once : (ws : List Word) (all others : List A) (r s : List Word) → Arguments X ws all r → Arguments X ws others s → StopsLevel 1 r → StopsLevel 1 s → (all ≡ others) × (r ≡ s)
  arguments_once ws all others r s no_argument no_argument stop stops = (refl, refl)
  arguments_once ws all others r s no_argument (arguments e) stop stops = absurd (opened X ws others s e (not_first 1 Open ws stop (omega arith)))
  arguments_once ws all others r s (arguments d) no_argument stop stops = absurd (opened X ws all r d (not_first 1 Open ws stops (omega arith)))
  arguments_once ws all others r s (arguments d) (arguments e) stop stops = enclosed_once ws all others r s d e

-- ---- the sign behind an element

pub ends_list : (b : Bool) (ws new : List Word) → ws ≡ sign (if b then Comma else Close) ∷ new → b ≡ false → ws ≡ sign Close ∷ new
ends_list true ws new is e = cc
ends_list false ws new is e = is

pub goes_on_list : (b : Bool) (ws new : List Word) → ws ≡ sign (if b then Comma else Close) ∷ new → b ≡ true → ws ≡ sign Comma ∷ new
goes_on_list true ws new is e = is
goes_on_list false ws new is e = cc
