-- The entries of a sheet as literals, and its worlds as sets of places among them.
use Rattle.std.specs.Prelude.{◌≡◌, ◌↔◌, ℕ, Bool, List, map, length, Contains, Some, slice_get}
use Rattle.pc_sheet.specs.Entailment.{HasEntry}
use Rattle.pc_sheet.specs.declared.ids.ValueId.{ValueId}
use Rattle.pc_sheet.specs.declared.ids.Entry.{Entry}
use Rattle.pc_lits.specs.declared.literal.Lit.{Lit}
use Rattle.pc_components.specs.Pairs.{entry_literal}
use Rattle.pc_world_list.specs.Worlds.{WorldView}
use Rattle.pc_support.specs.Seen.{HasPlace}

-- the entries' literals, and for each world the places of its entries, and of those that its assignment has
pub record PlacedView : Type 0 where
  pub literals : List Lit
  pub sets : List (List Bool)
  pub models : List (List Bool)

-- the places of these among the entries
pub record ArePlacesOf (entries some : List Entry) (set : List Bool) : Type 0 where
  pub size : length set ≡ length entries
  pub has : (place : ℕ) (e : Entry) → slice_get entries place ≡ Some e → HasPlace set place ↔ Contains some e

-- at each place of the model stands an entry that the values have
abbrev pub IsModelAt : List Entry → List ValueId → List Bool → Type 0
IsModelAt entries a model = (place : ℕ) (e : Entry) → slice_get entries place ≡ Some e → HasPlace model place → HasEntry a e

-- of each of the first worlds there is such a set
pub record AreOfWorlds (Is : WorldView → List Bool → Type 0) (worlds : List WorldView) (count : ℕ) (sets : List (List Bool)) : Type 0 where
  pub many : length sets ≡ count
  pub each : (n : ℕ) (w : WorldView) (set : List Bool) → slice_get worlds n ≡ Some w → slice_get sets n ≡ Some set → Is w set

-- these are the entries' literals, and the places of the worlds among the entries
pub record ArePlaced (sizes : List ℕ) (entries : List Entry) (worlds : List WorldView) (p : PlacedView) : Type 0 where
  pub literals : p.literals ≡ map (entry_literal sizes) entries
  pub sets : AreOfWorlds (λ w. ArePlacesOf entries w.entries) worlds (length worlds) p.sets
  pub models : AreOfWorlds (λ w. IsModelAt entries w.shown) worlds (length worlds) p.models
