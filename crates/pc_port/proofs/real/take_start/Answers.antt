use Rattle.std.proofs.Common.{◌≡◌, ◌<◌, ◌≤◌, ℕ, [], length, IfSome, Option, Some, None, List, ◌++◌, take, arith, length-take, rules, sym, ◌∙◌, ap}
use Rattle.std.proofs.lemmas.List.{take_at, take_all, append-nil}
use Rattle.std.specs.Io.KnownBytes.{Consumes, IsAtEnd}
use Rattle.pc_port.specs.declared.shelf.TheConstants.{READ_LIMIT}
use Rattle.pc_port.proofs.real.take_start.Goals as goal

-- a source at its end gave all that it had
all_taken : (before mid after : Option (List ℕ)) (bytes none : List ℕ) (limit : ℕ) → Consumes before mid bytes → Consumes mid after none → none ≡ [] → IsAtEnd after → length bytes ≤ limit
    → IfSome before (λ left. bytes ≡ take limit left)
all_taken None mid after bytes none limit first second empty end le = tt
all_taken (Some xs) None after bytes none limit first second empty end le = absurd first
all_taken (Some xs) (Some ys) None bytes none limit first second empty end le = absurd second
all_taken (Some xs) (Some ys) (Some zs) bytes none limit first second empty end le =
    let rest : ys ≡ [] = second ∙ ap (λ (l : List ℕ). l ++ zs) empty ∙ end in
    let whole : xs ≡ bytes = first ∙ ap (λ (l : List ℕ). bytes ++ l) rest ∙ append-nil bytes in
    sym (ap (λ (l : List ℕ). take limit l) whole ∙ take_all limit bytes le)

-- a buffer that is full has the start of what there was
start_taken : (before after : Option (List ℕ)) (bytes : List ℕ) (limit : ℕ) → Consumes before after bytes → length bytes ≡ limit → IfSome before (λ left. bytes ≡ take limit left)
start_taken None after bytes limit taken full = tt
start_taken (Some xs) None bytes limit taken full = absurd taken
start_taken (Some xs) (Some ys) bytes limit taken full = sym (ap (λ (l : List ℕ). take limit l) taken ∙ take_at bytes ys limit full)

pub returns-then-count-eq0-clause-bytes : goal.returns-then-count-eq0-clause-bytes
returns-then-count-eq0-clause-bytes g c =
    let same = c.read.auto.into in let least = c.min-most.ensures in let size : length c.loop-chunk.chunk ≡ 4096 = search rules in let some : 0 < length c.read.new.into = omega (arith, length-take c.min-most.result c.loop-chunk.chunk) in
    all_taken _ _ _ c.loop-chunk.into.items (take c.in_ok-count.count c.read.new.into) READ_LIMIT c.loop-chunk.invariant.told c.in_ok-count.ensures.bytes.0
    (ap (λ (n : ℕ). take n c.read.new.into) c.if-count-eq0.true) (c.in_ok-count.ensures.bytes.1 c.if-count-eq0.true some) c.loop-chunk.invariant.short

pub returns-clause-bytes : goal.returns-clause-bytes
returns-clause-bytes g c = start_taken _ _ c.loop-chunk.into.items READ_LIMIT c.loop-chunk.invariant.told (omega arith)
