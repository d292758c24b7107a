-- Assignments of maximal sets that lack a target.
use Rattle.std.proofs.Common.{◌≡◌, ℕ, ◌+◌, ◌<◌, ◌≤◌, true, false, List, [], ◌∷◌, ◌++◌, map, take, length, get_or, All, Contains, None, ap, sym, ◌∙◌, subst, arith}
use Rattle.std.proofs.lemmas.List.{map_push, take_more, take_all, length-map, get_or-map}
use Rattle.std.proofs.lemmas.List.Elements.{All-contains, All-weaker, All-push, Contains-get_or}
use Rattle.pc_lemmas.proofs.Elements.{contains_map, contains_mapped, all_from}
use Rattle.pc_laws.specs.Laws.{ImpliedIsByMaximalSet}
use Rattle.pc_sheet.specs.Sheet.{Sheet}
use Rattle.pc_sheet.specs.Entailment.{Shows, HasTarget, Entails}
use Rattle.pc_sheet.specs.MaximalSets.{IsMaximalSet}
use Rattle.pc_sheet.specs.WellFormed.{IsWellFormed}
use Rattle.pc_sheet.specs.declared.ids.ValueId.{ValueId}
use Rattle.pc_sheet.specs.declared.ids.Entry.{Entry}
use Rattle.pc_sheet.specs.declared.ids.Target.{Target}
use Rattle.pc_world_list.specs.Worlds.{WorldView, AreExact, set_of, set_at}
use Rattle.pc_repairs.specs.Lacking.{AreLacking, LackSays}
use Rattle.pc_repairs.specs.inside.Asking.{AddsLacking, AllSay, AskSays, IsLackingWorld}

module _ (sheet : Sheet) (sets : List WorldView) (exact : AreExact sheet sets) where
  pub is_maximal : (w : WorldView) → Contains sets w → IsMaximalSet sheet w.entries
  is_maximal w c = (exact.sets.exact w.entries).0 (contains_map set_of sets w c)

  pub is_shown : (w : WorldView) → Contains sets w → Shows sheet w.entries w.shown
  is_shown w c = All-contains (λ (x : WorldView). Shows sheet x.entries x.shown) sets w exact.shown c

  module _ (t : Target) where
    pub own_lack : All (λ w. ¬ HasTarget w.shown t) sets → All (IsLackingWorld sheet t) sets
    own_lack lacks = all_from (IsLackingWorld sheet t) sets (λ w c. record { shown = is_shown w c; lacks = All-contains (λ (x : WorldView). ¬ HasTarget x.shown t) sets w lacks c })

    pub lacking_made : ImpliedIsByMaximalSet → IsWellFormed sheet → (worlds : List WorldView) → map set_of worlds ≡ map set_of sets → All (IsLackingWorld sheet t) worlds → AreLacking sheet sets t worlds
    lacking_made by_maximal formed worlds same all = record {
      same = same;
      shown = All-weaker (IsLackingWorld sheet t) (λ w. Shows sheet w.entries w.shown) (λ w h. h.shown) worlds all;
      lack = All-weaker (IsLackingWorld sheet t) (λ w. ¬ HasTarget w.shown t) (λ w h. h.lacks) worlds all;
      unimplied = λ implied.
          let m = (by_maximal sheet t formed.entries.distinct).0 implied in
          let w = contains_mapped set_of worlds m.0 (subst (λ ss. Contains ss m.0) (sym same) ((exact.sets.exact m.0).1 m.1)) in
          let h = All-contains (IsLackingWorld sheet t) worlds w.0 all w.1 in
          h.lacks (m.2 w.0.shown (subst (λ s. Shows sheet s w.0.shown) w.2 h.shown));
    }

    pub none_lacks : (w : WorldView) → Contains sets w → Entails sheet w.entries t → LackSays sheet sets t None
    none_lacks w c entails =
        let m = is_maximal w c in
        ((w.entries, record { among = m.among; consistent = m.consistent; entails = entails }), (w, c, entails))

-- one set more
pub found_more : (sets before after : List WorldView) (place : ℕ) (w : WorldView) → place < length (map set_of sets) → map set_of before ≡ take place (map set_of sets) → after ≡ before ++ w ∷ [] → w.entries ≡ get_or (map set_of sets) place []
    → map set_of after ≡ take (place + 1) (map set_of sets)
found_more sets before after place w low was is own =
    ap (map set_of) is ∙ map_push set_of before w ∙ ap (λ ss. ss ++ w.entries ∷ []) was
    ∙ ap (λ s. take place (map set_of sets) ++ s ∷ []) own ∙ sym (take_more (map set_of sets) place [] low)

-- ---- the set at a place

abbrev blank : WorldView
blank = record { entries = []; shown = [] }

module _ (sheet : Sheet) (sets : List WorldView) (exact : AreExact sheet sets) (t : Target) (place : ℕ) (low : place < length sets) where
  abbrev here : WorldView
  here = get_or sets place blank

  pub here_there : Contains sets here
  here_there = Contains-get_or sets place blank low

  pub set_here : set_at sets place ≡ here.entries
  set_here = get_or-map set_of sets place blank [] low

  pub own_added : (es : List Entry) (a : List ValueId) (before after : List WorldView) → es ≡ set_at sets place → a ≡ here.shown → (¬ HasTarget a t) → after ≡ before ++ record { entries = es; shown = a } ∷ []
      → AddsLacking sheet (set_at sets place) t before after true
  own_added es a before after es_are a_is lacks is =
      let shown : Shows sheet es a = subst (Shows sheet es) (sym a_is) (subst (λ s. Shows sheet s here.shown) (sym (es_are ∙ set_here)) (is_shown sheet sets exact here here_there)) in
      (record { entries = es; shown = a }, es_are, record { shown = shown; lacks = lacks }, is)

  pub found_added : (es : List Entry) (a : List ValueId) (before after : List WorldView) → es ≡ set_at sets place → AskSays sheet es t a true → after ≡ before ++ record { entries = es; shown = a } ∷ []
      → AddsLacking sheet (set_at sets place) t before after true
  found_added es a before after es_are says is = (record { entries = es; shown = a }, es_are, record { shown = says.0; lacks = says.1 }, is)

  pub none_added : (es : List Entry) → es ≡ set_at sets place → Entails sheet es t → Entails sheet (set_at sets place) t
  none_added es es_are entails = subst (λ s. Entails sheet s t) es_are entails

  -- one more of all
  pub all_more : (before after : List WorldView) → map set_of before ≡ take place (map set_of sets) → All (IsLackingWorld sheet t) before → AddsLacking sheet (set_at sets place) t before after true
      → (map set_of after ≡ take (place + 1) (map set_of sets)) × All (IsLackingWorld sheet t) after
  all_more before after was all (w, own, lacking, is) = (
    found_more sets before after place w (omega (arith, low, length-map sets set_of)) was is own,
    subst (All (IsLackingWorld sheet t)) (sym is) (All-push (IsLackingWorld sheet t) before w all lacking),
  )

  pub all_none : (found : List WorldView) → Entails sheet (set_at sets place) t → AllSay sheet sets t found false
  all_none found entails = (here, here_there, subst (λ s. Entails sheet s t) set_here entails)

pub all_found : (sheet : Sheet) (sets : List WorldView) (t : Target) (found : List WorldView) (place : ℕ) → length sets ≤ place → map set_of found ≡ take place (map set_of sets) → All (IsLackingWorld sheet t) found → AllSay sheet sets t found true
all_found sheet sets t found place past same all = (same ∙ take_all place (map set_of sets) (omega (arith, past, length-map sets set_of)), all)
