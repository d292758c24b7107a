use Rattle.std.proofs.lemmas.Result.{err_from_is_err_and}
use Rattle.pc_cache.specs.Patches.{patch_bytes}
use Rattle.pc_theory.specs.Theories.{rules_alone}
use Rattle.pc_theory.proofs.Books.{theory_of, found_for}
use Rattle.pc_theory.proofs.KeptBytes.{whole_bytes}
use Rattle.pc_theory.proofs.book.search_book.Goals as goal

pub returns-in-Ok-clause-found : goal.returns-in-Ok-clause-found
returns-in-Ok-clause-found c =
    let sheet = c.args.book.now in
    let parted = c.in_ok-ground.field-0 in
    let of = c.in_ok-ground.ensures in
    let found = c.in-Ok.ensures.found in
    record {
      theory_is = theory_of sheet parted.ground parted.components parted.searched c.in-Ok.field-0.base of.ready of.components of.chosen found.base_is;
      found = found_for sheet parted.searched parted.components c.args.budget c.in-Ok.field-0.base _ _ _ found;
    }

pub returns-in-Err-clause-fault : goal.returns-in-Err-clause-fault
returns-in-Err-clause-fault c = c.end_with.ensures c.args.budget c.in-Err.ensures.fault

pub returns-in_err-ground-clause-fault : goal.returns-in_err-ground-clause-fault
returns-in_err-ground-clause-fault c =
    let p = err_from_is_err_and c.from_residual.result c.from_residual.ensures.1 in
    rw (p.1, p.2) (c.in_err-ground.ensures.fault c.args.budget)

pub returns-in-Ok-clause-bytes : goal.returns-in-Ok-clause-bytes
returns-in-Ok-clause-bytes c =
    let parted = c.in_ok-ground.field-0 in
    let of = c.in_ok-ground.ensures in
    whole_bytes (rules_alone c.args.book.now) parted.components parted.searched of.components of.chosen c.in-Ok.field-0.spending.parts.items (patch_bytes c.args.patch.now) (patch_bytes c.search_task.new.patch) c.in-Ok.ensures.bytes
