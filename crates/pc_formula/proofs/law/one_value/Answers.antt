use Rattle.pc_formula.specs.Value.{DerivesName, DerivesValue}
use Rattle.pc_formula.proofs.Equations.{equation_once}
use Rattle.pc_formula.proofs.Lists.{enclosed_once, arguments_once}
use Rattle.pc_formula.proofs.ValueForms.{name_once, number_once, int_once, value_once, cell_once}
use Rattle.pc_formula.proofs.law.one_value.Goals as goal

pub returns-clause-number : goal.returns-clause-number
returns-clause-number c = number_once

pub returns-clause-integer : goal.returns-clause-integer
returns-clause-integer c = int_once

pub returns-clause-value : goal.returns-clause-value
returns-clause-value c = value_once

pub returns-clause-names : goal.returns-clause-names
returns-clause-names c = enclosed_once DerivesName name_once

pub returns-clause-values : goal.returns-clause-values
returns-clause-values c = enclosed_once DerivesValue value_once

pub returns-clause-arguments : goal.returns-clause-arguments
returns-clause-arguments c = arguments_once DerivesName name_once

pub returns-clause-cell : goal.returns-clause-cell
returns-clause-cell c = cell_once

pub returns-clause-equation : goal.returns-clause-equation
returns-clause-equation c = equation_once
