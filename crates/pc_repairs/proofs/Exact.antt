-- Worlds that have exactly the maximal sets of a sheet.
use Rattle.std.proofs.Common.{◌≡◌, ◌≢◌, ℕ, ◌<◌, ◌↔◌, List, length, get_or, map, All, AllPairs, Contains, arith, sym, ◌∙◌, subst}
use Rattle.std.proofs.lemmas.List.{get_or-map, length-map}
use Rattle.std.proofs.lemmas.List.Elements.{Contains-get_or}
use Rattle.std.proofs.lemmas.List.Sorted.{All-permutation, Contains-permutation, IsPermutation-map, IsPermutation-sym}
use Rattle.std.specs.List.Sorted.{IsPermutation}
use Rattle.pc_sheet.specs.Sheet.{Sheet}
use Rattle.pc_sheet.specs.Entailment.{IsSublist, Shows}
use Rattle.pc_sheet.specs.MaximalSets.{ListsExactly, IsContained, IsMaximalSet}
use Rattle.pc_sheet.specs.declared.ids.Entry.{Entry}
use Rattle.pc_lemmas.proofs.Elements.{all_from, contains_map}
use Rattle.pc_world_list.specs.Worlds.{WorldView, set_of, AreExact}
use Rattle.pc_repairs.specs.inside.Ages.{AreApart}
use Rattle.pc_repairs.proofs.Swapping.{pairs_moved}

module _ (sheet : Sheet) (worlds : List WorldView) (exact : AreExact sheet worlds) where
  pub maximal_of : (w : WorldView) → Contains worlds w → IsMaximalSet sheet w.entries
  maximal_of w has = (exact.sets.exact w.entries).0 (contains_map set_of worlds w has)

  pub all_sublists : All (λ w. IsSublist sheet.entries w.entries) worlds
  all_sublists = all_from (λ w. IsSublist sheet.entries w.entries) worlds (λ w has. (maximal_of w has).among)

  pub are_apart : AreApart worlds
  are_apart i j d less within = by (get_or worlds i d) (get_or worlds j d) (maximal_of (get_or worlds i d) (Contains-get_or worlds i d low)) (maximal_of (get_or worlds j d) (Contains-get_or worlds j d within)) differ
    where
      low : i < length worlds
      low = omega (arith, less, within)

      by : (v w : WorldView) → IsMaximalSet sheet v.entries → IsMaximalSet sheet w.entries → v.entries ≢ w.entries → (¬ IsContained v.entries w.entries) × (¬ IsContained w.entries v.entries)
      by v w m n other = (λ h. other (sym (m.maximal w.entries n.among n.consistent h)), λ h. other (n.maximal v.entries m.among m.consistent h))

      differ : set_of (get_or worlds i d) ≢ set_of (get_or worlds j d)
      differ is =
          exact.sets.different i j (set_of d) less (omega (arith, within, length-map worlds set_of))
          (get_or-map set_of worlds i d (set_of d) low ∙ (is ∙ sym (get_or-map set_of worlds j d (set_of d) within)))

  -- the same in another order
  module _ (moved : List WorldView) (order : IsPermutation worlds moved) where
    pub exact_moved : AreExact sheet moved
    exact_moved = record {
      sets = record {
        exact = λ s. (
          λ h. (exact.sets.exact s).0 (Contains-permutation (map set_of moved) (map set_of worlds) s (IsPermutation-sym (map set_of worlds) (map set_of moved) sets_moved) h),
          λ m. Contains-permutation (map set_of worlds) (map set_of moved) s sets_moved ((exact.sets.exact s).1 m),
        );
        different = pairs_moved (λ s t. s ≢ t) (λ s t other is. other (sym is)) (map set_of worlds) (map set_of moved) exact.sets.different sets_moved;
      };
      shown = All-permutation (λ w. Shows sheet w.entries w.shown) worlds moved order exact.shown;
    }
      where
        sets_moved : IsPermutation (map set_of worlds) (map set_of moved)
        sets_moved = IsPermutation-map set_of worlds moved order
