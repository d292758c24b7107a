use Rattle.std.proofs.Common.{◌<◌, ℕ, Bool, ap, sym, ◌∙◌, subst}
use Rattle.pc_sheet.specs.Entailment.{cell_sizes}
use Rattle.pc_session.specs.inside.Changes.{adds_one}
use Rattle.pc_session.specs.inside.Stale.{stale_on}
use Rattle.pc_session.specs.inside.Taken.{takes}
use Rattle.pc_session.proofs.LeftWorlds.{worlds_copied}
use Rattle.pc_session.proofs.Placing.{index_within}
use Rattle.pc_session.proofs.searching.ask.Goals as goal

pub part_of-part-requires : goal.part_of-part-requires
part_of-part-requires c = record { theory = c.requires.state.known; cell = c.requires.change.cell }

pub index-requires : goal.index-requires
index-requires c =
    let s = c.args.state.now in
    subst (λ (n : ℕ). c.part_of-part.result < n) (sym s.worlds.ok.0) (index_within s.book s.theory s.worlds.items s.cache.rows c.requires.state c.requires.formed c.part_of-part.result c.part_of-part.ensures.within)

pub returns : goal.returns
returns c =
    let s = c.args.state.now in
    let p = c.part_of-part.ensures.has in
    record {
      few = c.part_of-part.ensures.few;
      part = p.0;
      numbered = p.1;
      has = p.2;
      cells = c.cells-cells.result.now;
      at = c.cells-cells.ensures.at;
      are = c.cells-cells.ensures.are p.0 p.1;
      targets = c.in_ok-targets.ensures ∙ ap (λ (b : Bool). stale_on s.cache.rows (takes c.args.change.taken) b (cell_sizes s.book.universe) c.cells-cells.result.now) c.adds-adds.ensures;
      worlds = λ none. worlds_copied s.book s.theory s.worlds.items s.cache.rows c.requires.state c.requires.formed c.part_of-part.result
          (index_within s.book s.theory s.worlds.items s.cache.rows c.requires.state c.requires.formed c.part_of-part.result c.part_of-part.ensures.within) c.index.result.now c.in_ok-worlds.worlds c.index.ensures
          (c.in_ok-worlds.ensures (c.adds-adds.ensures ∙ ap adds_one none));
    }
