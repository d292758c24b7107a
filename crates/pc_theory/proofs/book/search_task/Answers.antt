use Rattle.std.proofs.Common.{◌≡◌, ◌+◌, ◌≤◌, List, sum_by, sym, subst}
use Rattle.pc_cache.specs.Patches.{patch_bytes}
use Rattle.pc_theory.specs.KeptBytes.{part_bytes}
use Rattle.pc_theory.specs.declared.spending.PartSpending.{PartSpending}
use Rattle.pc_theory.specs.declared.stop.Halt.{Halt}
use Rattle.pc_theory.specs.inside.Starting.{HaltSays}
use Rattle.pc_theory.proofs.Books.{found_in, lawful_spent}
use Rattle.pc_theory.proofs.book.search_task.Goals as goal

pub returns-in_ok-spending-in-Ok-clause-found : goal.returns-in_ok-spending-in-Ok-clause-found
returns-in_ok-spending-in-Ok-clause-found c =
    let t = c.args.task in
    let done = c.list_parts.new in
    let listed = c.in-Ok in
    let total = c.in_ok-spending-in-Ok in
    let parts : total.spending.parts.items ≡ done.parts.items = cc (total.ensures.parts) in
    found_in t.book.now t.ground.now t.components.now c.requires.ready listed.listed.worlds.items done.patch.rows done.spent done.parts.items listed.ensures.searched c.none_is_contained_by_polarity.ensures t.budget listed.listed.base total.spending listed.ensures.base parts total.ensures.placed
    total.ensures.learned total.ensures.calls total.ensures.limit

pub returns-in_ok-total-in-Err-Spent-clause-fault : goal.returns-in_ok-total-in-Err-Spent-clause-fault
returns-in_ok-total-in-Err-Spent-clause-fault c =
    let t = c.args.task in
    let done = c.list_parts.new in
    let total = c.in_ok-total-in-Err-Spent in
    let parts : total.field-0.parts.items ≡ done.parts.items = cc (total.ensures.parts) in
    let says = subst (λ (h : Halt). HaltSays t.book.now t.components.now t.budget done.spent done.parts.items h) c.in-Err-Spent.field-0-is c.in-Err-Spent.ensures.halt in
    lawful_spent c.none_is_contained_by_polarity.ensures t.book.now t.ground.now t.components.now t.budget done.spent done.parts.items total.field-0 c.requires.ready says parts total.ensures.placed total.ensures.limit total.ensures.learned total.ensures.calls

pub returns-in_ok-spending-in-Ok-clause-bytes : goal.returns-in_ok-spending-in-Ok-clause-bytes
returns-in_ok-spending-in-Ok-clause-bytes c =
    let t = c.args.task in
    let done = c.list_parts.new in
    let total = c.in_ok-spending-in-Ok in
    let parts : total.spending.parts.items ≡ done.parts.items = cc (total.ensures.parts) in
    subst (λ (ps : List PartSpending). patch_bytes done.patch ≤ patch_bytes c.args.patch.now + sum_by (part_bytes t.components.now) ps) (sym parts) c.in-Ok.ensures.bytes
