-- Rising places in either form.
use Rattle.std.specs.Prelude.{ℕ, List}
use Rattle.pc_log.specs.declared.places.Form.{Form}
use Rattle.pc_log.specs.declared.places.Form.TheVariants.{Few, Bits}

abbrev pub formed : Form → List ℕ
formed (Few list) = list.items
formed (Bits set) = set
