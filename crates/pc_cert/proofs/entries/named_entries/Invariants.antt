use Rattle.std.proofs.Common.{◌≡◌, ◌↔◌, List, take, map}
use Rattle.pc_sheet.specs.declared.ids.Entry.{Entry}
use Rattle.pc_cert.specs.Meaning.{AreNamedEach}
use Rattle.pc_cert.specs.Claims.{IsPairNamed}
use Rattle.pc_cert.specs.Trees.{pair_of}
use Rattle.pc_cert.proofs.entries.named_entries.Given as goal

abbrev pub invariant-loop-pair : goal.invariant-loop-pair
invariant-loop-pair l = (es : List Entry) → (es ≡ l.entries.items) ↔ AreNamedEach (IsPairNamed l.book.universe) (map pair_of (take l.pair-index l.pairs)) es
