use Rattle.std.proofs.Common.{arith, ◌+◌, ◌*◌, inl, false, refl, sym, ◌∙◌, ap}
use Rattle.std.specs.Prelude.{nat_lt}
use Rattle.pc_cache.specs.Rows.{bytes_alive, bytes_of_rows}
use Rattle.pc_session.proofs.Compacted.{few_undue, least, left_compacted, not_due, where_due, where_not_due}
use Rattle.pc_session.proofs.compaction.compact_if_due.Goals as goal

pub returns-then-arena-le1048576-clause-ok : goal.returns-then-arena-le1048576-clause-ok
returns-then-arena-le1048576-clause-ok c =
    let cache = c.args.cache.now in
    not_due cache.rows cache.bytes (bytes_of_rows cache.rows) (omega arith) (few_undue cache.bytes (bytes_of_rows cache.rows) (omega (arith, c.arena_bytes-arena.ensures.exact, c.if-arena-le1048576.true)))

pub returns-then-arena-le1048576-clause-left : goal.returns-then-arena-le1048576-clause-left
returns-then-arena-le1048576-clause-left c = inl (refl, refl)

pub returns-then-arena-le1048576-clause-due : goal.returns-then-arena-le1048576-clause-due
returns-then-arena-le1048576-clause-due c =
    let cache = c.args.cache.now in
    where_not_due cache (bytes_alive cache) cache.bytes false refl refl (sym (few_undue cache.bytes (bytes_alive cache) (omega (arith, c.arena_bytes-arena.ensures.exact, c.if-arena-le1048576.true)))) refl

pub returns-in_ok-compact-clause-ok : goal.returns-in_ok-compact-clause-ok
returns-in_ok-compact-clause-ok c = least c.args.cache.now.rows c.args.cache.now.bytes c.compact.new.self.bytes c.in_ok-compact.ensures.few (omega (arith, c.in_ok-compact.ensures.bytes))

pub returns-in_ok-compact-clause-left : goal.returns-in_ok-compact-clause-left
returns-in_ok-compact-clause-left c =
    left_compacted c.args.cache.now.bytes c.args.cache.now.spare c.live_bytes.result c.compact.new.self.bytes c.compact.new.self.spare
    (ap (nat_lt (2 * c.live_bytes.result + 1048576)) (sym c.arena_bytes-arena.ensures.exact) ∙ sym c.is_due.ensures ∙ c.if-is_due.true)
    c.in_ok-compact.ensures.bytes c.in_ok-compact.ensures.spare

pub returns-else-is_due-clause-ok : goal.returns-else-is_due-clause-ok
returns-else-is_due-clause-ok c =
    not_due c.args.cache.now.rows c.args.cache.now.bytes c.live_bytes.result c.live_bytes.ensures.most
    (ap (nat_lt (2 * c.live_bytes.result + 1048576)) (sym c.arena_bytes-arena.ensures.exact) ∙ sym c.is_due.ensures ∙ c.if-is_due.false)

pub returns-else-is_due-clause-left : goal.returns-else-is_due-clause-left
returns-else-is_due-clause-left c = inl (refl, refl)

pub returns-in_ok-compact-clause-due : goal.returns-in_ok-compact-clause-due
returns-in_ok-compact-clause-due c =
    let told = c.in_ok-compact.ensures in
    where_due c.args.cache.now c.compact.new.self c.live_bytes.result c.arena_bytes-arena.result c.is_due.result c.live_bytes.ensures.exact c.arena_bytes-arena.ensures.exact c.is_due.ensures c.if-is_due.true
    (record { rows = c.compact.ensures.rows; bytes = told.bytes; spare = told.spare; live = told.live })

pub returns-else-is_due-clause-due : goal.returns-else-is_due-clause-due
returns-else-is_due-clause-due c = where_not_due c.args.cache.now c.live_bytes.result c.arena_bytes-arena.result c.is_due.result c.live_bytes.ensures.exact c.arena_bytes-arena.ensures.exact c.is_due.ensures c.if-is_due.false
