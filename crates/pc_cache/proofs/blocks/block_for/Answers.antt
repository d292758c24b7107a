use Rattle.std.proofs.Common.{List, [], ◌∷◌, ◌++◌, Option, length, refl, ap, ◌∙◌, arith}
use Rattle.std.proofs.lemmas.List.{length_push}
use Rattle.pc_log.specs.Lines.{LogLine}
use Rattle.pc_log.specs.Sparse.{line_at}
use Rattle.pc_cache.specs.inside.Kept.{bytes_of_blocks}
use Rattle.pc_cache.proofs.BlockLemmas.{bytes_one, free_one, keeps_all, keeps_behind}
use Rattle.pc_cache.proofs.LastLemmas.{share_begun, share_same}
use Rattle.pc_cache.proofs.blocks.block_for.Goals as goal

pub returns-in-Some-clause-last : goal.returns-in-Some-clause-last
returns-in-Some-clause-last c = (rw c.deref.ensures.value at c.in-Some.ensures.some).0

pub returns-in-Some-clause-free : goal.returns-in-Some-clause-free
returns-in-Some-clause-free c = (rw c.deref.ensures.value at c.in-Some.ensures.some).1

pub returns-in-Some-clause-keeps : goal.returns-in-Some-clause-keeps
returns-in-Some-clause-keeps c = keeps_all c.args.blocks.now.items

pub returns-in-Some-clause-shares : goal.returns-in-Some-clause-shares
returns-in-Some-clause-shares c = share_same c.args.log.now c.args.blocks.now.items

pub returns-in_ok-push-in-None-clause-free : goal.returns-in_ok-push-in-None-clause-free
returns-in_ok-push-in-None-clause-free c =
    let all = c.in_ok-push-in-None.ensures.items ∙ ap (λ (b : List (Option LogLine)). c.args.blocks.now.items ++ b ∷ []) c.new.ensures in
    rw all (free_one (line_at c.args.log.now) c.args.places.now c.args.blocks.now.items _
    (omega (arith, c.len.ensures, c.push.new.self.ok.0, ap (λ (bs : List (List (Option LogLine))). length bs) c.in_ok-push-in-None.ensures.items, length_push c.args.blocks.now.items c.new.result)))

pub returns-in_ok-push-in-None-clause-keeps : goal.returns-in_ok-push-in-None-clause-keeps
returns-in_ok-push-in-None-clause-keeps c = rw c.in_ok-push-in-None.ensures.items (keeps_behind c.args.blocks.now.items (c.new.result ∷ []))

pub returns-in_ok-push-in-None-clause-bytes : goal.returns-in_ok-push-in-None-clause-bytes
returns-in_ok-push-in-None-clause-bytes c =
    ap bytes_of_blocks (c.in_ok-push-in-None.ensures.items ∙ ap (λ (b : List (Option LogLine)). c.args.blocks.now.items ++ b ∷ []) c.new.ensures) ∙ bytes_one c.args.blocks.now.items

pub returns-in_ok-push-in-None-clause-shares : goal.returns-in_ok-push-in-None-clause-shares
returns-in_ok-push-in-None-clause-shares c =
    share_begun c.args.log.now c.args.places.now c.args.blocks.now.items c.push.new.self.items c.requires (rw c.deref.ensures.value at (c.in-None.ensures.none refl))
    (c.in_ok-push-in-None.ensures.items ∙ ap (λ (b : List (Option LogLine)). c.args.blocks.now.items ++ b ∷ []) c.new.ensures)
