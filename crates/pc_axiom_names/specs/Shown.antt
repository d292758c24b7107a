-- The symbols and the axioms that lent names stand for.
use Rattle.pc_accept.specs.Literals.{Symbol, pair, node}
use Rattle.pc_accept.specs.Axioms.{Axiom, axiom_some, axiom_one, axiom_rule, axiom_node, axiom_atom}
use Rattle.pc_axiom_names.specs.declared.axiom_name.AxiomRef.{AxiomRef}
use Rattle.pc_axiom_names.specs.declared.axiom_name.AxiomRef.TheVariants.{Any, One, Rule, Node as Part, Atom}
use Rattle.pc_axiom_names.specs.declared.names.VarName.{VarName}
use Rattle.pc_axiom_names.specs.declared.names.VarName.TheVariants.{Pair, Node}

abbrev pub symbol_shown : VarName → Symbol
symbol_shown (Pair c v) = pair c v
symbol_shown (Node p) = node p.now.rule p.now.steps.items

abbrev pub axiom_shown : AxiomRef → Axiom
axiom_shown (Any c) = axiom_some c
axiom_shown (One c v w) = axiom_one c v w
axiom_shown (Rule r) = axiom_rule r
axiom_shown (Part p i) = axiom_node p.now.rule p.now.steps.items i
axiom_shown (Atom p reads) = axiom_atom p.now.rule p.now.steps.items reads.now
