use Rattle.std.proofs.Common.{◌≡◌, ◌+◌, ◌-◌, length, ap, refl, ◌∙◌, arith}
use Rattle.pc_sheet.specs.Sheet.{Sheet}
use Rattle.pc_sheet.specs.Views.{rule_of}
use Rattle.pc_ground.specs.GroundView.{Grounded}
use Rattle.pc_ground.proofs.PushedFew.{few_pieces, few_variables, last_is, last_nodes, last_pieces, last_place, last_sorted, own_made}
use Rattle.pc_ground.proofs.ground.Ground.last_rule.Goals as goal

pub overflow_add-piece : goal.overflow_add-piece
overflow_add-piece c =
    let base = c.requires.base in
    let few = few_pieces base.0 base.1 c.args.book.now base.2 c.well_formed-2.ensures in
    let small = c.requires.small in
    let reads = ap (λ (g : Grounded). length g.reads) (c.self.view_is ∙ base.3) in
    let cells = c.len.ensures.few in
    let many = c.len-2.ensures in
    omega (arith, few, small, reads, cells, many)

pub overflow_cast-piece : goal.overflow_cast-piece
overflow_cast-piece c =
    let base = c.requires.base in
    let few = few_pieces base.0 base.1 c.args.book.now base.2 c.well_formed-2.ensures in
    let small = c.requires.small in
    let reads = ap (λ (g : Grounded). length g.reads) (c.self.view_is ∙ base.3) in
    let cells = c.len.ensures.few in
    let many = c.len-2.ensures in
    omega (arith, few, small, reads, cells, many)

pub walk_rule-requires-clause-sorted : goal.walk_rule-requires-clause-sorted
walk_rule-requires-clause-sorted c =
    let base = c.requires.base in
    let rules = c.rules-rules.result.now in
    let x = c.index-rules-last.result in
    last_sorted base.0 base.1 c.args.book.now base.2 rules (length rules - 1) c.rules-rules.ensures refl x x c.index-rules-last.is c.well_formed-2.ensures

pub walk_rule-requires-clause-room : goal.walk_rule-requires-clause-room
walk_rule-requires-clause-room c =
    let base = c.requires.base in
    let rules = c.rules-rules.result.now in
    let x = c.index-rules-last.result in
    let nodes = last_nodes base.0 base.1 c.args.book.now base.2 rules (length rules - 1) c.rules-rules.ensures refl x x c.index-rules-last.is in
    let few = few_variables base.0 base.1 c.args.book.now base.2 c.well_formed-2.ensures in
    let small = c.requires.small in
    let variables = ap (λ (g : Grounded). g.variables) (c.self.view_is ∙ base.3) in
    omega (arith, few, small, variables, nodes)

pub walk_rule-requires-clause-pieces : goal.walk_rule-requires-clause-pieces
walk_rule-requires-clause-pieces c =
    let base = c.requires.base in
    let rules = c.rules-rules.result.now in
    let x = c.index-rules-last.result in
    let own = last_pieces base.0 base.1 c.args.book.now base.2 rules (length rules - 1) c.rules-rules.ensures refl x x c.index-rules-last.is in
    let few = few_pieces base.0 base.1 c.args.book.now base.2 c.well_formed-2.ensures in
    let small = c.requires.small in
    let reads = ap (λ (g : Grounded). length g.reads) (c.self.view_is ∙ base.3) in
    let cells = c.len.ensures.few in
    let many = c.len-2.ensures in
    omega (arith, few, small, reads, cells, many, own)

pub returns : goal.returns
returns c s r is =
    let g = c.args.self.now in
    let b = c.args.book.now in
    let rules = c.rules-rules.result.now in
    let x = c.index-rules-last.result in
    let i = length rules - 1 in
    let sizes = ap (λ (h : Grounded). h.sizes) c.self.view_is in
    let reads = ap (λ (h : Grounded). length h.reads) c.self.view_is in
    let cells = c.len.ensures.exact ∙ ap length sizes in
    let many = c.len-2.ensures ∙ reads in
    let at : c.len.result + c.len-2.result ≡ length g.sizes + length g.reads = omega (arith, cells, many) in
    own_made g s.universe b.universe (length s.rules) i c.self.inside.variables (c.len.result + c.len-2.result) c.self.inside.cells r (rule_of x)
    (ap (λ (y : Sheet). y.universe) is) (last_is s r b is rules i c.rules-rules.ensures refl x x c.index-rules-last.is) (last_place s r b is rules i c.rules-rules.ensures refl)
    (ap (λ (h : Grounded). h.variables) c.self.view_is) sizes at
    c.new-draft.result c.walk_rule.new.draft c.new-draft.ensures.clauses c.new-draft.ensures.names c.new-draft.ensures.owners c.new-draft.ensures.reads
    c.in_ok-walk_rule.ensures.clauses c.in_ok-walk_rule.ensures.names c.in_ok-walk_rule.ensures.owners c.in_ok-walk_rule.ensures.reads
