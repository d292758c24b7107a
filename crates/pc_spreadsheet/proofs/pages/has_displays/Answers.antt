use Rattle.pc_spreadsheet.proofs.pages.has_displays.Goals as goal

pub returns-clause-shown : goal.returns-clause-shown
returns-clause-shown c =
    let one = c.sheet_has_one_display.ensures.shown c.args.book.now c.entries.ensures.well_formed in
    (one.0, one.1)

pub returns-clause-grid : goal.returns-clause-grid
returns-clause-grid c =
    let one = c.sheet_has_one_display.ensures.grid c.args.book.now c.entries.ensures.well_formed in
    (one.0, one.1)

pub returns-clause-json : goal.returns-clause-json
returns-clause-json c =
    let one = c.sheet_has_one_display.ensures.json c.args.book.now c.entries.ensures.well_formed in
    (one.0, one.1)
