use Rattle.std.proofs.Common.{◌≡◌, arith, sym, ap, ◌∙◌, length, subst}
use Rattle.std.proofs.lemmas.List.{length-map}
use Rattle.pc_solver.specs.Recent.{AreFew}
use Rattle.pc_support.specs.Seen.{SeenView}
use Rattle.pc_support.specs.declared.seen.Row.{Row}
use Rattle.pc_support.proofs.KeptLemmas.{few_here}
use Rattle.pc_support.proofs.seen.Seen.len.Goals as goal

pub returns-clause-len : goal.returns-clause-len
returns-clause-len c =
    let size : c.len.result ≡ length c.self.inside.kept.rows.items = omega (arith, c.len.ensures, c.self.inside.kept.rows.ok.0) in
    size ∙ sym (length-map c.self.inside.kept.rows.items (λ (r : Row). r.truth)) ∙ ap (λ (v : SeenView). length v.rows) c.self.view_is

pub returns-clause-few : goal.returns-clause-few
returns-clause-few c = subst (λ (v : SeenView). AreFew v.rows) c.self.view_is (few_here c.self.inside.kept c.self.invariant.counted)
