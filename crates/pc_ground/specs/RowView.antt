-- The parts of rows and the variables of counting quantifiers, as the code has them.
use Rattle.std.specs.Prelude.{ℕ, ◌+◌, ◌*◌}
use Rattle.pc_lits.specs.declared.literal.Lit.{Lit}
use Rattle.pc_accept.specs.Rows.{Part, fixed, literal}
use Rattle.pc_ground.specs.declared.counting.Counted.{Counted}
use Rattle.pc_ground.specs.declared.counting.RowPart.{RowPart}
use Rattle.pc_ground.specs.declared.counting.RowPart.TheVariants.{Fixed, Literal}

abbrev pub part_of : RowPart → Part Lit
part_of (Fixed b) = fixed b
part_of (Literal l) = literal l

-- the number that follows those of the node, of its bodies' nodes and of its counters
abbrev pub end_of : Counted → ℕ
end_of c = c.node + 1 + (c.values * c.size + c.values * c.threshold)
