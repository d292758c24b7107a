use Rattle.std.proofs.Common.{◌≡◌, ap, arith, string_bytes}
use Rattle.pc_gen.proofs.Pieces.{next_block, last_line}
use Rattle.pc_gen.proofs.text.generated.Goals as goal

pub loop-done-preserved : goal.loop-done-preserved
loop-done-preserved c = next_block c.args.n c.loop-done.done (string_bytes c.loop-done.text) (string_bytes c.push_block.new.text) c.loop-done.invariant c.in_ok-push_block.ensures

pub returns : goal.returns
returns c =
    let whole : c.loop-done.done ≡ c.args.n = omega arith in
    last_line c.args.n c.loop-done.done (string_bytes c.loop-done.text) (string_bytes c.push_str.new.self) c.into_bytes.result.items whole c.loop-done.invariant c.in_ok-push_str.ensures.bytes (ap (λ v. v.items) c.into_bytes.ensures.value)
