-- What the trees of lines stand for.
use Rattle.std.specs.Prelude.{Vec, ℕ, Bool, List, map}
use Rattle.std.specs.declared.alloc.Global.{Global}
use Rattle.pc_sheet.specs.declared.ids.Entry.{Entry}
use denote.Ref.{Bor}
use Rattle.pc_sheet.specs.declared.formula.Rule.{Rule}
use Rattle.pc_sheet.specs.declared.nodes.NodePath.{NodePath}
use Rattle.pc_formula.specs.Tree.{cell_of, value_of}
use Rattle.pc_cert.specs.Written.{nothing, heading, claims, begins, uses, assigns, derives, ends, WrittenPath, WrittenSymbol, written_pair, written_node, WrittenLiteral, WrittenPart, written_some, written_one, written_rule, written_node_clause, written_atom, written_step, written_block, WrittenLine}
use Rattle.pc_cert.specs.Claims.{WrittenPair, WrittenClaim, written_implied, written_inconsistent, written_repairs, written_unimplied, written_against}
use Rattle.pc_cert.specs.declared.tree.PairTree.{PairTree}
use Rattle.pc_cert.specs.declared.tree.PathTree.{PathTree}
use Rattle.pc_cert.specs.declared.tree.SymbolTree.{SymbolTree}
use Rattle.pc_cert.specs.declared.tree.SymbolTree.TheVariants as symbol
use Rattle.pc_cert.specs.declared.tree.LiteralTree.{LiteralTree}
use Rattle.pc_cert.specs.declared.tree.ClaimTree.{ClaimTree}
use Rattle.pc_cert.specs.declared.tree.ClaimTree.TheVariants as claim
use Rattle.pc_cert.specs.declared.tree.PartTree.{PartTree}
use Rattle.pc_cert.specs.declared.tree.PartTree.TheVariants as part
use Rattle.pc_cert.specs.declared.tree.LineTree.{LineTree}
use Rattle.pc_cert.specs.declared.tree.LineTree.TheVariants as line

abbrev pub pair_of : PairTree → WrittenPair
pair_of t = record { cell = cell_of t.cell; value = value_of t.value }

-- with whether it is claimed to hold
abbrev pub claimed_of : PairTree × Bool → WrittenPair × Bool
claimed_of q = (pair_of q.0, q.1)

abbrev pub path_of : PathTree → WrittenPath
path_of t = record { rule = t.rule; steps = t.steps.items }

abbrev pub symbol_of : SymbolTree → WrittenSymbol
symbol_of (symbol.Pair p) = written_pair (pair_of p)
symbol_of (symbol.Node p) = written_node (path_of p)

abbrev pub literal_of : LiteralTree → WrittenLiteral
literal_of t = record { what = symbol_of t.what; sign = t.sign }

abbrev pub part_of : PartTree → WrittenPart
part_of (part.Any c) = written_some (cell_of c)
part_of (part.One c v w) = written_one (cell_of c) (value_of v) (value_of w)
part_of (part.Rule n) = written_rule n
part_of (part.Node p i) = written_node_clause (path_of p) i
part_of (part.Atom p reads) = written_atom (path_of p) (map pair_of reads.items)
part_of (part.Step clause hints) = written_step (map literal_of clause.items) hints.items
part_of (part.Block j) = written_block j

abbrev pub claim_of : ClaimTree → WrittenClaim
claim_of (claim.Implied p holds) = written_implied (pair_of p) holds
claim_of claim.Inconsistent = written_inconsistent
claim_of claim.Repairs = written_repairs
claim_of (claim.Not p) = written_unimplied (pair_of p)
claim_of (claim.Against n) = written_against n

abbrev pub line_of : LineTree → WrittenLine
line_of line.Nothing = nothing
line_of line.Heading = heading
line_of (line.Claims c) = claims (claim_of c)
line_of line.Begins = begins
line_of (line.Uses p) = uses (pair_of p)
line_of (line.Assigns p) = assigns (pair_of p)
line_of (line.Derives n p) = derives n (part_of p)
line_of line.Ends = ends

-- the texts that slices point to
abbrev pub seen : List (Bor (List ℕ)) → List (List ℕ)
seen texts = map (λ t. t.now) texts

-- the name of a rule
abbrev pub named_by : Rule → List ℕ
named_by r = r.name

-- a node's rule and steps
abbrev pub place_of : NodePath → ℕ × List ℕ
place_of p = (p.rule, p.steps.items)

abbrev pub entries_in : Vec Entry Global → List Entry
entries_in v = v.items
