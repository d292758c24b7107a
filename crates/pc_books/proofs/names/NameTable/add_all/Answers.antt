use Rattle.std.proofs.Common.{◌≡◌, ◌++◌, ◌+◌, ◌<◌, [], length, arith, ap, ap₂, ◌∙◌, sym, append-nil}
use Rattle.std.proofs.lemmas.List.{nil_from_length}
use Rattle.std.proofs.lemmas.Result.{IfOk-at_ok}
use Rattle.std.specs.String.{string_eq}
use Rattle.std.specs.Vec.Iter.{into_iter_items}
use Rattle.indexmap.proofs.CallerLemmas.{insert_entry-new}
use Rattle.indexmap.specs.IndexMap.{spare}
use Rattle.pc_books.specs.inside.NameTable.{named_texts}
use Rattle.pc_books.proofs.TableLemmas.{next_is_new, one_added, distinct_texts}
use Rattle.pc_books.proofs.names.NameTable.add_all.Goals as goal

pub loop-name-init : goal.loop-name-init
loop-name-init c =
    let rest : into_iter_items c.into_iter-name-iterator.result ≡ c.args.more.items = c.into_iter-name-iterator.ensures.into_iter_gives.0 in
    record {
      texts = ap₂ (λ a b. named_texts a ++ named_texts b) c.in_ok-reserve.ensures.entries rest ∙ ap (λ t. t ++ named_texts c.args.more.items) c.self.view_is;
      room = omega (arith, c.in_ok-reserve.ensures.ok, ap length rest);
      distinct = distinct_texts _ c.in_ok-reserve.ensures.unique;
    }

pub unwrap-requires : goal.unwrap-requires
unwrap-requires c =
    let split = c.in-Some.ensures.steps.0 in
    let here : length (into_iter_items c.loop-name.name-iterator) ≡ length (into_iter_items c.next.new.self) + 1 = ap length split ∙ omega arith in
    let room : 0 < spare c.loop-name.self-inside.names = omega (arith, c.loop-name.invariant.room, here) in
    c.insert.ensures.succeeds room

pub loop-name-preserved : goal.loop-name-preserved
loop-name-preserved c =
    let i = c.loop-name.invariant in
    let split = c.in-Some.ensures.steps.0 in
    let new = next_is_new c.loop-name.self-inside.names.entries _ (into_iter_items c.next.new.self) c.in-Some.name c.in-Some.named _ i.texts split c.requires in
    let here : length (into_iter_items c.loop-name.name-iterator) ≡ length (into_iter_items c.next.new.self) + 1 = ap length split ∙ omega arith in
    record {
      texts = one_added c.loop-name.self-inside.names.entries c.insert.new.self.entries _ (into_iter_items c.next.new.self) c.in-Some.name c.in-Some.named _ i.texts split
          (IfOk-at_ok _ c.unwrap.ensures c.insert.ensures.entries ∙ insert_entry-new string_eq c.loop-name.self-inside.names c.in-Some.name c.in-Some.named new);
      room = omega (arith, i.room, here, c.insert.ensures.spare);
      distinct = distinct_texts _ c.insert.ensures.unique;
    }

pub returns-clause-ok : goal.returns-clause-ok
returns-clause-ok c =
    let none = c.in-None.ensures.steps.0 in
    let over : into_iter_items c.loop-name.name-iterator ≡ [] = nil_from_length _ (omega arith) in
    sym (append-nil _) ∙ ap (λ r. named_texts c.loop-name.self-inside.names.entries ++ named_texts r) (sym over) ∙ c.loop-name.invariant.texts
