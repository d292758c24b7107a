use Rattle.std.proofs.Common.{arith}
use Rattle.std.proofs.lemmas.Bool.Decides.{nat_tests}
use Rattle.pc_words.proofs.Plain.{not_parted}
use Rattle.pc_words.proofs.parting.plain_parts.Goals as goal
use Rattle.pc_words.proofs.parting.plain_parts.Goals.{in_default-via-then-before-lt1+then-after-lt1, in_default-via-then-before-lt1+else-after-lt1+else-this-lt2+else-this-lt3, in_default-via-else-before-lt1+then-this-lt2-2+else-this-lt1+else-this-lt2-3, in_default-via-else-before-lt1+else-this-lt2-2+then-this-lt3-2+else-this-lt1-2, in_default-via-else-before-lt1+else-this-lt2-2+else-this-lt3-2}

pub returns-in_default : goal.returns-in_default
returns-in_default c = elim c.in_default.branch [
  | in_default-via-then-before-lt1+then-after-lt1 w ↦ not_parted c.args.before.now c.args.after.now _ (λ one. grind (arith, nat_tests)) (λ two. grind (arith, nat_tests))
  | in_default-via-then-before-lt1+else-after-lt1+else-this-lt2+else-this-lt3 w ↦ not_parted c.args.before.now c.args.after.now _ (λ one. grind (arith, nat_tests)) (λ two. grind (arith, nat_tests))
  | in_default-via-else-before-lt1+then-this-lt2-2+else-this-lt1+else-this-lt2-3 w ↦ not_parted c.args.before.now c.args.after.now _ (λ one. grind (arith, nat_tests)) (λ two. grind (arith, nat_tests))
  | in_default-via-else-before-lt1+else-this-lt2-2+then-this-lt3-2+else-this-lt1-2 w ↦ not_parted c.args.before.now c.args.after.now _ (λ one. grind (arith, nat_tests)) (λ two. grind (arith, nat_tests))
  | in_default-via-else-before-lt1+else-this-lt2-2+else-this-lt3-2 w ↦ not_parted c.args.before.now c.args.after.now _ (λ one. grind (arith, nat_tests)) (λ two. grind (arith, nat_tests))
]
