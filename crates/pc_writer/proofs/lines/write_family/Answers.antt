use Rattle.std.proofs.Common.{All, ap, map, ◌≡◌, [], sym, subst}
use Rattle.pc_sheet.specs.Sheet.{Family}
use Rattle.pc_sheet.specs.WellFormed.{IsDeclaredSort}
use Rattle.pc_writer.specs.FormulaText.{family_at, in_parentheses, sort_name}
use Rattle.pc_writer.proofs.Names.{at_place}
use Rattle.pc_writer.proofs.Universe.{family_formed}
use Rattle.pc_writer.proofs.InTurn.{Writes-then, Writes-cut, Writes-same}
use Rattle.pc_writer.proofs.lines.write_family.Goals as goal

pub returns-in_err-write_text : goal.returns-in_err-write_text
returns-in_err-write_text g c =
    let u = c.args.book.now.universe in
    Writes-cut c.from_residual.result _ c.from_residual.ensures.0 c.in_err-write_text.ensures

pub returns-in_err-write_family_name : goal.returns-in_err-write_family_name
returns-in_err-write_family_name g c =
    let u = c.args.book.now.universe in
    Writes-then c.in_ok-write_text.ensures (Writes-cut c.from_residual-in_err-write_family_name.result _ c.from_residual-in_err-write_family_name.ensures.0 c.in_err-write_family_name.ensures)

pub returns-in_err-write_argument_sorts : goal.returns-in_err-write_argument_sorts
returns-in_err-write_argument_sorts g c =
    let u = c.args.book.now.universe in
    let none : Family = record { name = []; sorts = []; result_sort = record { 0 = 0 } } in
    let sorts : c.family_sorts.result.now ≡ (family_at u c.args.family).sorts = at_place u.families c.args.family.0 none (λ declared. c.family_sorts.result.now ≡ declared.sorts) c.family_sorts.ensures in
    Writes-then c.in_ok-write_text.ensures (Writes-then c.in_ok-write_family_name.ensures (Writes-cut c.from_residual-in_err-write_argument_sorts.result _ c.from_residual-in_err-write_argument_sorts.ensures.0 (Writes-same (ap (λ ss. in_parentheses (map (sort_name u) ss)) sorts) c.in_err-write_argument_sorts.ensures)))

pub returns-in_err-write_text-2 : goal.returns-in_err-write_text-2
returns-in_err-write_text-2 g c =
    let u = c.args.book.now.universe in
    let none : Family = record { name = []; sorts = []; result_sort = record { 0 = 0 } } in
    let sorts : c.family_sorts.result.now ≡ (family_at u c.args.family).sorts = at_place u.families c.args.family.0 none (λ declared. c.family_sorts.result.now ≡ declared.sorts) c.family_sorts.ensures in
    Writes-then c.in_ok-write_text.ensures (Writes-then c.in_ok-write_family_name.ensures (Writes-then (Writes-same (ap (λ ss. in_parentheses (map (sort_name u) ss)) sorts) c.in_ok-write_argument_sorts.ensures) (Writes-cut c.from_residual-in_err-write_text-2.result _ c.from_residual-in_err-write_text-2.ensures.0 c.in_err-write_text-2.ensures)))

pub returns : goal.returns
returns g c =
    let u = c.args.book.now.universe in
    let none : Family = record { name = []; sorts = []; result_sort = record { 0 = 0 } } in
    let sorts : c.family_sorts.result.now ≡ (family_at u c.args.family).sorts = at_place u.families c.args.family.0 none (λ declared. c.family_sorts.result.now ≡ declared.sorts) c.family_sorts.ensures in
    let sort : c.result_sort.result ≡ (family_at u c.args.family).result_sort = at_place u.families c.args.family.0 none (λ declared. c.result_sort.result ≡ declared.result_sort) c.result_sort.ensures in
    Writes-then c.in_ok-write_text.ensures (Writes-then c.in_ok-write_family_name.ensures (Writes-then (Writes-same (ap (λ ss. in_parentheses (map (sort_name u) ss)) sorts) c.in_ok-write_argument_sorts.ensures) (Writes-then c.in_ok-write_text-2.ensures (Writes-same (ap (sort_name u) sort) c.write_sort_name.ensures))))

pub write_argument_sorts-requires : goal.write_argument_sorts-requires
write_argument_sorts-requires g c =
    let u = c.args.book.now.universe in
    let none : Family = record { name = []; sorts = []; result_sort = record { 0 = 0 } } in
    let sorts : c.family_sorts.result.now ≡ (family_at u c.args.family).sorts = at_place u.families c.args.family.0 none (λ declared. c.family_sorts.result.now ≡ declared.sorts) c.family_sorts.ensures in
    subst (All (IsDeclaredSort u)) (sym sorts) (family_formed u c.args.family c.requires.formed c.requires.family).sorts

pub write_sort_name-requires : goal.write_sort_name-requires
write_sort_name-requires g c =
    let u = c.args.book.now.universe in
    let none : Family = record { name = []; sorts = []; result_sort = record { 0 = 0 } } in
    let sort : c.result_sort.result ≡ (family_at u c.args.family).result_sort = at_place u.families c.args.family.0 none (λ declared. c.result_sort.result ≡ declared.result_sort) c.result_sort.ensures in
    subst (IsDeclaredSort u) (sym sort) (family_formed u c.args.family c.requires.formed c.requires.family).result_sort
