-- Lists of watches, with room.
use Rattle.std.specs.Prelude.{ℕ, List, [], slice_index_or}
use Rattle.pc_propagate.specs.declared.watch_lists.Watch.{Watch}

pub record WatchListsView : Type 0 where
  pub lists : List (List Watch)
  -- how many watches each list may have
  pub room : List ℕ

abbrev pub list_in : WatchListsView → ℕ → List Watch
list_in w list = slice_index_or w.lists list []

abbrev pub room_in : WatchListsView → ℕ → ℕ
room_in w list = slice_index_or w.room list 0
