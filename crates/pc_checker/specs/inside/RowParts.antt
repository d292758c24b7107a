-- The parts of rows as the code has them, by a quantifier's rule and path.
use Rattle.std.specs.Prelude.{ℕ, List}
use Rattle.pc_accept.specs.Literals.{Literal}
use Rattle.pc_accept.specs.Axioms.{signed_node, signed_child}
use Rattle.pc_accept.specs.Rows.{Part, fixed, literal}
use Rattle.pc_checker.specs.declared.counting.RowPart.{RowPart}
use Rattle.pc_checker.specs.declared.counting.RowPart.TheVariants.{Fixed, Own, Child}

abbrev pub part_of : ℕ → List ℕ → RowPart → Part Literal
part_of rule path (Fixed is) = fixed is
part_of rule path (Own sign) = literal (signed_node rule path sign)
part_of rule path (Child k sign) = literal (signed_child rule path k sign)
