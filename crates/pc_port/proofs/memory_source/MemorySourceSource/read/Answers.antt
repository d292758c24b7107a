use Rattle.std.proofs.Common.{◌≡◌, ◌<◌, [], ℕ, ◌+◌, List, ◌++◌, length, take, drop, arith, sym, ◌∙◌, ap, take-append-drop, length-take, length-drop}
use Rattle.std.proofs.lemmas.Grind.{common_steps}
use Rattle.std.proofs.lemmas.List.{take_at, drop-drop, drop_all}
use Rattle.pc_port.specs.Memory.{SourceState}
use Rattle.pc_port.proofs.memory_source.MemorySourceSource.read.Goals as goal

-- the bytes that were given, and then those that are still to come
moved : (bytes given old : List ℕ) (at count : ℕ) → given ≡ take count (drop at bytes) → length given ≡ count
    → drop at bytes ≡ take count (given ++ drop count old) ++ drop (at + count) bytes
moved bytes given old at count is len =
    sym (take-append-drop count (drop at bytes))
    ∙ ap (λ (l : List ℕ). take count (drop at bytes) ++ l) (drop-drop count at bytes)
    ∙ ap (λ (l : List ℕ). l ++ drop (at + count) bytes) (sym is ∙ sym (take_at given (drop count old) count len))

pub returns-clause-bytes : goal.returns-clause-bytes
returns-clause-bytes c =
    let bytes = c.self.inside.bytes.items in
    let at = c.self.inside.at in
    let is_left : c.args.self.now.left ≡ drop at bytes = sym (ap (λ (s : SourceState). s.left) c.self.view_is) in
    let given : c.copy_from_slice.new.self ≡ take c.min-count.result (drop c.self.inside.at c.self.inside.bytes.items) = grind (arith, common_steps) in
    let size : length c.copy_from_slice.new.self ≡ c.min-count.result =
    omega (arith, ap length given, length-take c.min-count.result (drop c.self.inside.at c.self.inside.bytes.items), length-drop c.self.inside.at c.self.inside.bytes.items) in
    let end : c.min-count.result ≡ 0 → 0 < length (c.copy_from_slice.new.self ++ drop c.min-count.result c.args.into.now) → drop (at + c.min-count.result) bytes ≡ [] =
    λ none some. drop_all (at + c.min-count.result) bytes (omega arith) in
    (is_left ∙ moved bytes c.copy_from_slice.new.self c.args.into.now at c.min-count.result given size, end)
