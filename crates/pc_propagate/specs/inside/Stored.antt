-- How lists of watches are stored.
use Rattle.std.specs.Prelude.{◌≡◌, ℕ, ◌≤◌, List, Some, Vec, length, vec_capacity, slice_get, slice_index_or}
use Rattle.std.specs.Global.{Global}
use Rattle.pc_propagate.specs.declared.watch_lists.Watch.{Watch}

abbrev pub watches_of : Vec Watch Global → List Watch
watches_of list = list.items

-- the list has no more watches than there is room for, and the room is there
pub record HasRoom (list : Vec Watch Global) (room : ℕ) : Type 0 where
  pub promised : length list.items ≤ room
  pub held : room ≤ vec_capacity list

pub record HaveRoom (lists : List (Vec Watch Global)) (room : List ℕ) : Type 0 where
  pub size : length lists ≡ length room
  pub each : (k : ℕ) (list : Vec Watch Global) → slice_get lists k ≡ Some list → HasRoom list (slice_index_or room k 0)
