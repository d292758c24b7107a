use Rattle.std.proofs.Common.{◌≡◌, ◌<◌, ◌-◌, ◌∙◌, List, Some, ap, filter, length, slice_get, sym, subst}
use Rattle.pc_ground.specs.GroundView.{Grounded}
use Rattle.pc_repairs.specs.declared.part_sets.PartSets.{PartSets}
use Rattle.pc_ask.specs.inside.Reading.{is_on_some, is_read}
use Rattle.pc_components.proofs.AskedLabels.{some_pieces}
use Rattle.pc_ask.proofs.candidates.find_candidates.Goals as goal

pub last_reads-requires : goal.last_reads-requires
last_reads-requires g c =
    let sheet = g.C.Choices.sheet c.args.view.now in
    subst (λ (n : Grounded). 0 < length n.reads) (sym c.requires.ground) (some_pieces sheet c.requires.asked.0 c.args.book.now c.requires.asked.1)

pub returns : goal.returns
returns g c =
    let reads = c.last_reads.result.now in
    let qs = c.in_ok-all.all.items in
    let are : c.in_ok-parts.parts.items ≡ filter (is_read reads) qs = c.in_ok-parts.ensures ∙ ap (filter (is_read reads)) c.deref.ensures.value in
    record {
      fit = c.fitting-fitting.ensures;
      reads = reads;
      last = subst (λ (n : Grounded). slice_get n.reads (length n.reads - 1) ≡ Some reads) c.requires.ground c.last_reads.ensures;
      qs = qs;
      zip = c.in_ok-all.ensures;
      entries_are = c.in_ok-entries.ensures ∙ (ap (λ (rs : List PartSets). filter (is_on_some rs) c.entries.result.now) (c.deref-2.ensures.value ∙ are) ∙ ap (filter (is_on_some (filter (is_read reads) qs))) c.entries.ensures.items);
      parts_are = are;
    }
