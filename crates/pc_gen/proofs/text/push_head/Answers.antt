use Rattle.std.proofs.Common.{string_bytes, ◌∙◌}
use Rattle.pc_gen.proofs.Pieces.{head_pushed}
use Rattle.pc_gen.proofs.text.push_head.Goals as goal

pub returns : goal.returns
returns c =
    head_pushed c.args.n c.push_str-3.result (string_bytes c.args.text.now) (string_bytes c.push_str.new.self) (string_bytes c.push_str-2.new.self) (string_bytes c.push_str-3.new.self) c.as_str.result.now
    (c.as_str.ensures.value ∙ c.in_ok-blocks.ensures.ok) c.in_ok-push_str.ensures.bytes c.in_ok-push_str-2.ensures.bytes c.push_str-3.ensures.bytes
