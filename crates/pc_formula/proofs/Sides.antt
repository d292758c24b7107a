-- Items and sides, read item by item.
use Rattle.std.proofs.Common.{◌≡◌, ℕ, ℤ, List, [], ◌∷◌, ◌++◌, refl, sym, ◌∙◌, ap, ap₂, subst, arith}
use Rattle.std.proofs.lemmas.List.{append-nil, append_assoc}
use Rattle.pc_name.specs.declared.sign.Sign.{Sign}
use Rattle.pc_token.specs.declared.token.Kind.TheVariants.{Open}
use Rattle.pc_formula.specs.Word.{Word, name, sign, NotFirst, NoName}
use Rattle.pc_formula.specs.Tree.{Item, integer, named, no_item, items_of, Side}
use Rattle.pc_formula.specs.Sign.{added_sign}
use Rattle.pc_formula.specs.Front.{StopsLevel, Reads, ReadsNone}
use Rattle.pc_formula.specs.Value.{DerivesInt, Listed, last, next}
use Rattle.pc_formula.specs.Side.{DerivesItem, integer_item, bare_item, applied_item, DerivesItems, last_item, next_item, Adds, nothing_added, added, DerivesSide, a_side}
use Rattle.pc_formula.proofs.Stops.{weaken, stops_at_zero, not_first, stops_item, stops_side, added_stops, added_first, same_added}
use Rattle.pc_formula.proofs.ValueForms.{int_no_name}

-- ---- the arguments of an item are a list of items

pub to_listed : (ws : List Word) (args : List Item) (rest : List Word) → DerivesItems ws args rest → Listed DerivesItem ws args rest
to_listed ws args rest (last_item d) = last d
to_listed ws args rest (next_item {mid = mid} {more = more} d tail) = next d (to_listed mid more rest tail)

pub from_listed : (ws : List Word) (args : List Item) (rest : List Word) → Listed DerivesItem ws args rest → DerivesItems ws args rest
from_listed ws args rest (last d) = last_item d
from_listed ws args rest (next {mid = mid} {more = more} d tail) = next_item d (from_listed mid more rest tail)

pub items_read : (old : List Word) (args : List Item) (new : List Word) → Reads (Listed DerivesItem) 0 old args new → Reads DerivesItems 0 old args new
items_read old args new r = record {
  derives = from_listed old args new r.derives;
  stops = r.stops;
  only = λ others rest d stops. r.only others rest (to_listed old others rest d) stops;
}

pub items_none : (old : List Word) → ReadsNone (Listed DerivesItem) 0 old → ReadsNone DerivesItems 0 old
items_none old r = record { none = λ others rest d stops. r.none others rest (to_listed old others rest d) stops }

-- ---- an item that is no name

from_integer : (old : List Word) (i : Item) (rest : List Word) → NoName old → DerivesItem old i rest → (z : ℤ) × (i ≡ integer z) × DerivesInt old z rest
from_integer old i rest absent (integer_item {z = z} d) = (z, refl, d)
from_integer old i rest absent (bare_item text) = absurd (absent text rest refl)
from_integer old i rest absent (applied_item {ws = ws} text d) = absurd (absent text (sign Open ∷ ws) refl)

pub item_integer : (old : List Word) (z : ℤ) (new : List Word) → NoName old → Reads DerivesInt 0 old z new → StopsLevel 1 new → Reads DerivesItem 1 old (integer z) new
item_integer old z new absent r stop = record {
  derives = integer_item r.derives;
  stops = stop;
  only = λ i rest d stops.
      let found = from_integer old i rest absent d in
      let one = r.only found.0 rest found.2 (stops_at_zero rest) in
      (found.1 ∙ ap integer one.0, one.1);
}

pub item_integer_none : (old : List Word) → NoName old → ReadsNone DerivesInt 0 old → ReadsNone DerivesItem 1 old
item_integer_none old absent r = record {
  none = λ i rest d stops.
      let found = from_integer old i rest absent d in
      r.none found.0 rest found.2 (stops_at_zero rest);
}

pub item_integer_applied : (old : List Word) (z : ℤ) (mid : List Word) → NoName old → Reads DerivesInt 0 old z mid → (StopsLevel 1 mid → ⊥) → ReadsNone DerivesItem 1 old
item_integer_applied old z mid absent r goes_on = record {
  none = λ i rest d stops.
      let found = from_integer old i rest absent d in
      goes_on (subst (StopsLevel 1) (r.only found.0 rest found.2 (stops_at_zero rest)).1 stops);
}

-- ---- an item that is a name

module _ (old : List Word) (text : List ℕ) (mid : List Word) (is : old ≡ name text ∷ mid) where
  from_bare : NotFirst Open mid → (i : Item) (rest : List Word) → DerivesItem old i rest → (i ≡ named text no_item) × (rest ≡ mid)
  from_bare absent i rest d = step old i rest is d
    where
      step : (there : List Word) (i : Item) (rest : List Word) → there ≡ name text ∷ mid → DerivesItem there i rest → (i ≡ named text no_item) × (rest ≡ mid)
      step there i rest is (integer_item {z = z} d) = absurd (int_no_name there z rest d text mid is)
      step there i rest is (bare_item t) = ((cc), (cc))
      step there i rest is (applied_item {ws = ws} t d) =
          let same : sign Open ∷ ws ≡ mid = cc in
          absurd (absent ws (sym same))

  pub item_bare : NotFirst Open mid → Reads DerivesItem 1 old (named text no_item) mid
  item_bare absent = record {
    derives = subst (λ l. DerivesItem l (named text no_item) mid) (sym is) (bare_item text);
    stops = stops_item mid absent;
    only = λ i rest d stops. from_bare absent i rest d;
  }

  module _ (ws : List Word) (opens : mid ≡ sign Open ∷ ws) where
    from_applied : (i : Item) (rest : List Word) → DerivesItem old i rest → StopsLevel 1 rest → (args : List Item) × (i ≡ named text (items_of args)) × DerivesItems ws args rest
    from_applied i rest d stops = step old i rest is d stops
      where
        step : (there : List Word) (i : Item) (rest : List Word) → there ≡ name text ∷ mid → DerivesItem there i rest → StopsLevel 1 rest → (args : List Item) × (i ≡ named text (items_of args)) × DerivesItems ws args rest
        step there i rest is (integer_item {z = z} d) stops = absurd (int_no_name there z rest d text mid is)
        step there i rest is (bare_item t) stops =
            let same : rest ≡ sign Open ∷ ws = cc in
            absurd (not_first 1 Open rest stops (omega arith) ws same)
        step there i rest is (applied_item {ws = inner} {args = args} t d) stops =
            let same : inner ≡ ws = cc in
            let texts : t ≡ text = cc in
            (args, ap (λ n. named n (items_of args)) texts, subst (λ l. DerivesItems l args rest) same d)

    pub item_applied : (args : List Item) (new : List Word) → Reads DerivesItems 0 ws args new → StopsLevel 1 new → Reads DerivesItem 1 old (named text (items_of args)) new
    item_applied args new r stop = record {
      derives = subst (λ l. DerivesItem l (named text (items_of args)) new) (sym (is ∙ ap (λ l. name text ∷ l) opens)) (applied_item text r.derives);
      stops = stop;
      only = λ i rest d stops.
          let found = from_applied i rest d stops in
          let one = r.only found.0 rest found.2 (stops_at_zero rest) in
          (found.1 ∙ ap (λ l. named text (items_of l)) one.0, one.1);
    }

    pub item_applied_none : ReadsNone DerivesItems 0 ws → ReadsNone DerivesItem 1 old
    item_applied_none r = record {
      none = λ i rest d stops.
          let found = from_applied i rest d stops in
          r.none found.0 rest found.2 (stops_at_zero rest);
    }

    pub item_again : (args : List Item) (new : List Word) → Reads DerivesItems 0 ws args new → (StopsLevel 1 new → ⊥) → ReadsNone DerivesItem 1 old
    item_again args new r goes_on = record {
      none = λ i rest d stops.
          let found = from_applied i rest d stops in
          goes_on (subst (StopsLevel 1) (r.only found.0 rest found.2 (stops_at_zero rest)).1 stops);
    }

-- ---- { + ITEM | - ITEM }

-- what of a sum has been read: these items, and whatever is derived goes on from here
pub record Sums (old : List Word) (seen : List (Sign × Item)) (now : List Word) : Type 0 where
  pub whole : (more : List (Sign × Item)) (rest : List Word) → Adds now more rest → Adds old (seen ++ more) rest
  pub only : (all : List (Sign × Item)) (rest : List Word) → Adds old all rest → StopsLevel 2 rest → (more : List (Sign × Item)) × (all ≡ seen ++ more) × Adds now more rest
  pub stops : StopsLevel 1 now

pub sums_start : (old : List Word) → StopsLevel 1 old → Sums old [] old
sums_start old stops = record { whole = λ more rest d. d; only = λ all rest d stops. (all, refl, d); stops = stops }

-- an item ends where further items or the end follow
pub adds_stop : (mid : List Word) (more : List (Sign × Item)) (rest : List Word) → Adds mid more rest → StopsLevel 2 rest → StopsLevel 1 mid
adds_stop mid more rest nothing_added stops = weaken 1 2 mid (omega arith) stops
adds_stop mid more rest (added {ws = ws} s d tail) stops = added_stops s ws

module _ (old : List Word) (seen : List (Sign × Item)) (now : List Word) (so_far : Sums old seen now) where
  pub sums_end : ((s : Sign) → NotFirst (added_sign s) now) → Reads Adds 2 old seen now
  sums_end none = record {
    derives = subst (λ l. Adds old l now) (append-nil seen) (so_far.whole [] now nothing_added);
    stops = stops_side now so_far.stops none;
    only = λ all rest d stops.
        let found = so_far.only all rest d stops in
        let after = step now found.0 rest none found.2 in
        (found.1 ∙ ap (λ l. seen ++ l) after.0 ∙ append-nil seen, after.1);
  }
    where
      step : (ws : List Word) (more : List (Sign × Item)) (rest : List Word) → ((s : Sign) → NotFirst (added_sign s) ws) → Adds ws more rest → (more ≡ []) × (rest ≡ ws)
      step ws more rest none nothing_added = (refl, refl)
      step ws more rest none (added {ws = there} s d tail) = absurd (none s there refl)

  module _ (s : Sign) (next : List Word) (is : now ≡ sign (added_sign s) ∷ next) where
    -- the next item of what is derived from here
    record Nexts (more : List (Sign × Item)) (rest : List Word) : Type 0 where
      item : Item
      mid : List Word
      others : List (Sign × Item)
      parts : more ≡ (s, item) ∷ others
      derives : DerivesItem next item mid
      stops : StopsLevel 1 mid
      tail : Adds mid others rest

    nexts : (more : List (Sign × Item)) (rest : List Word) → Adds now more rest → StopsLevel 2 rest → Nexts more rest
    nexts more rest d stops = step now more rest is d stops
      where
        step : (ws : List Word) (more : List (Sign × Item)) (rest : List Word) → ws ≡ sign (added_sign s) ∷ next → Adds ws more rest → StopsLevel 2 rest → Nexts more rest
        step ws more rest is nothing_added stops = absurd (added_first s ws next stops is)
        step ws more rest is (added {ws = there} {mid = mid} {i = i} {more = others} t d tail) stops =
            let same : there ≡ next = cc in
            let signs : t ≡ s = same_added t s (cc) in
            record {
              item = i;
              mid = mid;
              others = others;
              parts = ap (λ u. (u, i) ∷ others) signs;
              derives = subst (λ l. DerivesItem l i mid) same d;
              stops = adds_stop mid others rest tail stops;
              tail = tail;
            }

    pub sums_none : ReadsNone DerivesItem 1 next → ReadsNone Adds 2 old
    sums_none r = record {
      none = λ all rest d stops.
          let found = so_far.only all rest d stops in
          let first = nexts found.0 rest found.2 stops in
          r.none first.item first.mid first.derives first.stops;
    }

    pub sums_next : (i : Item) (new : List Word) → Reads DerivesItem 1 next i new → Sums old (seen ++ (s, i) ∷ []) new
    sums_next i new r = record {
      whole = λ more rest d.
          subst (λ l. Adds old l rest) (sym (append_assoc seen ((s, i) ∷ []) more)) (so_far.whole ((s, i) ∷ more) rest (subst (λ l. Adds l ((s, i) ∷ more) rest) (sym is) (added s r.derives d)));
      only = λ all rest d stops.
          let found = so_far.only all rest d stops in
          let first = nexts found.0 rest found.2 stops in
          let one = r.only first.item first.mid first.derives first.stops in (
            first.others,
            found.1 ∙ ap (λ l. seen ++ l) (first.parts ∙ ap (λ j. (s, j) ∷ first.others) one.0) ∙ sym (append_assoc seen ((s, i) ∷ []) first.others),
            subst (λ m. Adds m first.others rest) one.1 first.tail,
          );
      stops = r.stops;
    }

-- ---- SIDE = ITEM { + ITEM | - ITEM }

module _ (old : List Word) where
  pub side_reads : (i : Item) (mid : List Word) (more : List (Sign × Item)) (new : List Word) → Reads DerivesItem 1 old i mid → Reads Adds 2 mid more new → Reads DerivesSide 2 old (record { first = i; rest = more }) new
  side_reads i mid more new r s = record { derives = a_side r.derives s.derives; stops = s.stops; only = only old r }
    where
      only : (ws : List Word) → Reads DerivesItem 1 ws i mid → (t : Side) (rest : List Word) → DerivesSide ws t rest → StopsLevel 2 rest → (t ≡ record { first = i; rest = more }) × (rest ≡ new)
      only ws r t rest (a_side {mid = there} {i = j} {more = others} d e) stops =
          let one = r.only j there d (adds_stop there others rest e stops) in
          let two = s.only others rest (subst (λ m. Adds m others rest) one.1 e) stops in
          (ap₂ (λ (x : Item) (y : List (Sign × Item)). record { first = x; rest = y }) one.0 two.0, two.1)

  pub side_none_first : ReadsNone DerivesItem 1 old → ReadsNone DerivesSide 2 old
  side_none_first r = record { none = only old r }
    where
      only : (ws : List Word) → ReadsNone DerivesItem 1 ws → (t : Side) (rest : List Word) → DerivesSide ws t rest → StopsLevel 2 rest → ⊥
      only ws r t rest (a_side {mid = there} {i = j} {more = others} d e) stops = r.none j there d (adds_stop there others rest e stops)

  pub side_none_rest : (i : Item) (mid : List Word) → Reads DerivesItem 1 old i mid → ReadsNone Adds 2 mid → ReadsNone DerivesSide 2 old
  side_none_rest i mid r s = record { none = only old r }
    where
      only : (ws : List Word) → Reads DerivesItem 1 ws i mid → (t : Side) (rest : List Word) → DerivesSide ws t rest → StopsLevel 2 rest → ⊥
      only ws r t rest (a_side {mid = there} {i = j} {more = others} d e) stops =
          let one = r.only j there d (adds_stop there others rest e stops) in
          s.none others rest (subst (λ m. Adds m others rest) one.1 e) stops
