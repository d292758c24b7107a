use Rattle.std.proofs.Common.{◌≡◌, ◌++◌, ◌≤◌, length}
use Rattle.std.specs.List.{IsDistinct}
use Rattle.std.specs.Map.{keys_of}
use Rattle.std.specs.Str.{bytes_eq}
use Rattle.std.specs.Vec.Iter.{into_iter_items}
use Rattle.indexmap.specs.IndexMap.{spare}
use Rattle.pc_books.specs.inside.NameTable.{named_texts}
use Rattle.pc_books.proofs.names.NameTable.add_all.Given as goal

abbrev pub invariant-loop-name : goal.invariant-loop-name
invariant-loop-name l = record {
  texts : named_texts l.self-inside.names.entries ++ named_texts (into_iter_items l.name-iterator) ≡ l.fn.self ++ named_texts l.fn.more.items;
  room : length (into_iter_items l.name-iterator) ≤ spare l.self-inside.names;
  distinct : IsDistinct bytes_eq (keys_of (named_texts l.self-inside.names.entries));
}
