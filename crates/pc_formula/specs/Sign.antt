-- How the signs of comparisons and sums are written.
use Rattle.pc_name.specs.declared.sign.Op.{Op}
use Rattle.pc_name.specs.declared.sign.Op.TheVariants as ops
use Rattle.pc_name.specs.declared.sign.Sign.{Sign}
use Rattle.pc_name.specs.declared.sign.Sign.TheVariants as signs
use Rattle.pc_token.specs.declared.token.Kind.{Kind}
use Rattle.pc_token.specs.declared.token.Kind.TheVariants.{Equal, NotEqual, Less, LessEqual, Greater, GreaterEqual, Plus, Minus}

-- how a comparison's sign is written
abbrev pub op_sign : Op → Kind
op_sign ops.Eq = Equal
op_sign ops.Ne = NotEqual
op_sign ops.Lt = Less
op_sign ops.Le = LessEqual
op_sign ops.Gt = Greater
op_sign ops.Ge = GreaterEqual

-- how the sign before an added item is written
abbrev pub added_sign : Sign → Kind
added_sign signs.Plus = Plus
added_sign signs.Minus = Minus
