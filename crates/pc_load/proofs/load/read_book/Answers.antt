use Rattle.pc_syntax.specs.Tree.{sheet_of}
use Rattle.pc_load.proofs.Loading.{text_fault, sort_fault}
use Rattle.pc_load.proofs.load.read_book.Goals as goal

pub returns-in-Err : goal.returns-in-Err
returns-in-Err c = rw c.refuse_text.ensures (text_fault c.args.text.now c.in-Err.fault c.in-Err.ensures.told)

pub returns : goal.returns
returns c =
    sort_fault c.args.text.now (sheet_of c.in-Ok.tree) c.in-Err-check_sheet.why.line c.in-Err-check_sheet.why.fault c.refuse_sort.result c.in-Ok.ensures.told c.in-Err-check_sheet.ensures.told c.refuse_sort.ensures
