-- A solver whose values can be read as an assignment.
use Rattle.std.specs.Prelude.{ℕ, ◌<◌, List, length, All, Contains}
use Rattle.pc_sheet.specs.declared.ids.CellId.{CellId}
use Rattle.pc_sheet.specs.declared.ids.ValueId.{ValueId}
use Rattle.pc_components.specs.Pairs.{size_at, pair_var}
use Rattle.pc_solver.specs.Solver.{SolverView}

-- there are these cells, and the pairs of each with its values are variables of the solver
pub record HasPairs (sizes : List ℕ) (cells : List CellId) (s : SolverView) : Type 0 where
  pub below : All (λ c. c.0 < length sizes) cells
  pub own : (c : CellId) (x : ValueId) → Contains cells c → x.0 < size_at sizes c → Contains s.problem.own (pair_var sizes c x)
