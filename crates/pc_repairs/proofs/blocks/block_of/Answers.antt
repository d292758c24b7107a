use Rattle.std.proofs.Common.{◌≡◌, ◌+◌, ◌++◌, ◌∷◌, [], ℕ, List, Vec, Global, drop, map, ap, ◌∙◌, sym, subst}
use Rattle.pc_lits.specs.declared.literal.Lit.{Lit}
use Rattle.pc_sheet.specs.declared.ids.Entry.{Entry}
use Rattle.pc_components.specs.Pairs.{entry_literal}
use Rattle.pc_repairs.specs.inside.Walks.{outside_by}
use Rattle.pc_repairs.proofs.Outside.{outside_done, outside_left, outside_taken}
use Rattle.pc_repairs.proofs.SetBlocks.{block_made}
use Rattle.pc_repairs.proofs.WholeSearch.{sizes_are}
use Rattle.pc_repairs.proofs.blocks.block_of.Goals.{then-is_next, else-is_next+in_ok-push}
use Rattle.pc_repairs.proofs.blocks.block_of.Goals as goal

abbrev first : Entry
first = record { cell = record { 0 = 0 }; value = record { 0 = 0 } }

abbrev items_of : Vec Lit Global → List Lit
items_of v = v.items

pub loop-entry-preserved : goal.loop-entry-preserved
loop-entry-preserved c =
    let f = entry_literal c.args.task.ground.now.sizes in
    let es = c.entries-entries.result.now in
    let set = c.args.set.now in
    let i = c.loop-entry.entry-index in
    let next = c.loop-entry.next in
    let lits = c.loop-entry.block.items in
    let all = map f (outside_by es set) in
    let IsRight : List Lit → ℕ → Type 0 = λ ls n. ls ++ map f (outside_by (drop (i + 1) es) (drop n set)) ≡ all in
    elim c.if-is_next.branch [
      | then-is_next w ↦
          subst (IsRight c.if-is_next.block.items) (sym w.next-is) (subst (λ ls. IsRight ls (next + 1)) (sym (ap items_of w.block-is))
          (outside_taken f es set lits all i next first c.loop-entry-test.true (sym c.is_next.ensures.next ∙ w.if-is_next.true) c.loop-entry.invariant))
      | else-is_next+in_ok-push w ↦
          let pushed = ap items_of w.block-is ∙ w.in_ok-push.ensures.items ∙ ap (λ (l : Lit). lits ++ l ∷ []) w.literal_of.ensures in
          subst (IsRight c.if-is_next.block.items) (sym w.next-is)
          (outside_left f es set lits all i next first c.if-is_next.block.items c.loop-entry-test.true (sym c.is_next.ensures.next ∙ w.if-is_next.false) pushed c.loop-entry.invariant)
    ]

pub returns : goal.returns
returns c =
    let sizes = c.args.task.ground.now.sizes in
    let es = c.entries-entries.result.now in
    block_made c.args.task.book.now sizes es c.args.set.now c.loop-entry.block.items c.requires.task.formed
    (sizes_are c.args.task.book.now c.args.task.ground.now c.args.task.numbers.now c.requires.task) c.entries-entries.ensures.items c.requires.among
    (outside_done (entry_literal sizes) es c.args.set.now c.loop-entry.block.items (map (entry_literal sizes) (outside_by es c.args.set.now)) c.loop-entry.entry-index c.loop-entry.next c.loop-entry-test.false c.loop-entry.invariant)
