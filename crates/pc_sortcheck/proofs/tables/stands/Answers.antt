use Rattle.std.proofs.Common.{arith, refl}
use Rattle.std.proofs.lemmas.Slice.Eq.{slice_eq-Decides}
use Rattle.pc_books.proofs.RowLemmas.{value_decides}
use Rattle.pc_sortcheck.proofs.Rows.{not_this, this_one, none_at_all}
use Rattle.pc_sortcheck.proofs.tables.stands.Goals as goal

pub returns-then-eq : goal.returns-then-eq
returns-then-eq c = (
  λ z. this_one c.args.row.now _ c.loop-i.i c.row.result.now c.row.ensures ((slice_eq-Decides value_decides c.row.result.now c.args.row.now c.eq.result c.eq.ensures).0 (cc)),
  λ h. refl,
)

pub loop-i-preserved : goal.loop-i-preserved
loop-i-preserved c =
    not_this c.args.row.now _ c.loop-i.i c.row.result.now c.loop-i.invariant c.row.ensures
    (λ same. let yes = (slice_eq-Decides value_decides c.row.result.now c.args.row.now c.eq.result c.eq.ensures).1 same in absurd (cc))

pub returns : goal.returns
returns c = (λ z. absurd (cc), λ h. absurd (none_at_all c.args.row.now _ c.loop-i.i c.rows-i-end.result c.rows-i-end.ensures (omega arith) c.loop-i.invariant h))
