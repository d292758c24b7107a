use Rattle.std.proofs.Common.{◌≡◌, Bool, true, List, Option, Some, None, [], ◌∷◌, ◌∙◌, ap}
use Rattle.pc_sheet.specs.Sheet.{Sheet}
use Rattle.pc_sheet.specs.declared.ids.SortId.{SortId}
use Rattle.pc_sheet.specs.declared.ids.CellId.{CellId}
use Rattle.pc_sheet.specs.declared.ids.ValueId.{ValueId}
use Rattle.pc_sheet.specs.declared.ids.Entry.{Entry}
use Rattle.pc_sheet.specs.declared.ids.Target.{Target}
use Rattle.pc_writer.specs.Spelling.{sort_of, value_text}
use Rattle.pc_writer.proofs.InTurn.{Writes-nil, Writes-same}
use Rattle.pc_display.specs.Grid.{implied_text}
use Rattle.pc_display.specs.inside.Columns.{next_text, some_more}
use Rattle.pc_display.proofs.ImpliedSoFar.{Writes-done, Writes-failed}
use Rattle.pc_display.proofs.SheetLemmas.{is_target, same_reason}
use Rattle.pc_display.proofs.table.write_next_implied.Goals as goal

-- the value's text is that of an implied value
next_is : (sheet book : Sheet) → book ≡ sheet → (c : CellId) (v : ValueId) (s : SortId) → s ≡ sort_of book.universe c → (some : Bool) (support : List Entry) (found : Option (List Entry)) → Some support ≡ found
    → next_text some (value_text book.universe s v ∷ []) ≡ next_text some (implied_text sheet.universe (sort_of sheet.universe c) v found)
next_is sheet book same c v s sort some support found is =
    let own = sort ∙ ap (λ b. sort_of b.universe c) same in
    ap (λ b. next_text some (value_text b.universe s v ∷ [])) same
    ∙ ap (λ t. next_text some (value_text sheet.universe t v ∷ [])) own
    ∙ ap (λ o. next_text some (implied_text sheet.universe (sort_of sheet.universe c) v o)) is

pub support-requires : goal.support-requires
support-requires g c = is_target (g.V.Supports.sheet c.args.view.now).universe c.args.cell c.requires.cell c.args.value true c.requires.value

pub returns-in-None-clause-text : goal.returns-in-None-clause-text
returns-in-None-clause-text g c = λ reason is.
    let sheet = g.V.Supports.sheet c.args.view.now in
    let u = sheet.universe in
    let t : Target = record { cell = c.args.cell; value = c.args.value; holds = true } in
    let none : None ≡ reason t = same_reason sheet t None (reason t) c.in-None.ensures (is t (is_target u c.args.cell c.requires.cell c.args.value true c.requires.value)) in
    Writes-same (ap (λ o. next_text c.args.some (implied_text u (sort_of u c.args.cell) c.args.value o)) none) (Writes-nil g.O.Sink.given g.O.Sink.faults c.args.out.now c.args.some)

pub returns-in-None-clause-more : goal.returns-in-None-clause-more
returns-in-None-clause-more g c = λ reason is.
    let sheet = g.V.Supports.sheet c.args.view.now in
    let u = sheet.universe in
    let t : Target = record { cell = c.args.cell; value = c.args.value; holds = true } in
    let none : None ≡ reason t = same_reason sheet t None (reason t) c.in-None.ensures (is t (is_target u c.args.cell c.requires.cell c.args.value true c.requires.value)) in
    ap (λ o. some_more c.args.some (implied_text u (sort_of u c.args.cell) c.args.value o)) none

pub returns-in_err-write_next_value-in-Some-clause-text : goal.returns-in_err-write_next_value-in-Some-clause-text
returns-in_err-write_next_value-in-Some-clause-text g c = λ reason is.
    let sheet = g.V.Supports.sheet c.args.view.now in
    let t : Target = record { cell = c.args.cell; value = c.args.value; holds = true } in
    let support = c.in-Some.field-0.now in
    let some : Some support ≡ reason t = same_reason sheet t (Some support) (reason t) c.in-Some.ensures (is t (is_target sheet.universe c.args.cell c.requires.cell c.args.value true c.requires.value)) in
    Writes-same (next_is sheet c.book-book.result.now c.book-book.ensures c.args.cell c.args.value c.sort_of.result c.sort_of.ensures c.args.some support (reason t) some)
    (Writes-failed c.from_residual.result c.from_residual.ensures.0 c.in_err-write_next_value-in-Some.ensures)

pub returns-in_ok-write_next_value-in-Some-clause-text : goal.returns-in_ok-write_next_value-in-Some-clause-text
returns-in_ok-write_next_value-in-Some-clause-text g c = λ reason is.
    let sheet = g.V.Supports.sheet c.args.view.now in
    let t : Target = record { cell = c.args.cell; value = c.args.value; holds = true } in
    let support = c.in-Some.field-0.now in
    let some : Some support ≡ reason t = same_reason sheet t (Some support) (reason t) c.in-Some.ensures (is t (is_target sheet.universe c.args.cell c.requires.cell c.args.value true c.requires.value)) in
    Writes-same (next_is sheet c.book-book.result.now c.book-book.ensures c.args.cell c.args.value c.sort_of.result c.sort_of.ensures c.args.some support (reason t) some)
    (Writes-done true c.in_ok-write_next_value-in-Some.ensures)

pub returns-in_ok-write_next_value-in-Some-clause-more : goal.returns-in_ok-write_next_value-in-Some-clause-more
returns-in_ok-write_next_value-in-Some-clause-more g c = λ reason is.
    let sheet = g.V.Supports.sheet c.args.view.now in
    let u = sheet.universe in
    let t : Target = record { cell = c.args.cell; value = c.args.value; holds = true } in
    let support = c.in-Some.field-0.now in
    let some : Some support ≡ reason t = same_reason sheet t (Some support) (reason t) c.in-Some.ensures (is t (is_target u c.args.cell c.requires.cell c.args.value true c.requires.value)) in
    ap (λ o. some_more c.args.some (implied_text u (sort_of u c.args.cell) c.args.value o)) some
