use Rattle.std.proofs.Common.{◌≡◌, ◌++◌, drop}
use Rattle.pc_books.specs.Named.{value_keys, sort_keys}
use Rattle.pc_books.specs.inside.NameTable.{named_texts}
use Rattle.pc_books.proofs.names.keys_of_list.Given as goal

abbrev pub invariant-loop-i : goal.invariant-loop-i
invariant-loop-i l = named_texts l.keys.items ++ value_keys l.sort l.i (drop l.i l.values) ≡ sort_keys l.sort l.name l.values
