-- A limit that is enough for the whole sheet is never reached.
use Rattle.std.proofs.Common.{arith}
use Rattle.pc_enough_laws.specs.Laws.{EnoughIsNeverSpent}
use Rattle.pc_enough_laws.proofs.Summed.{spendings_of_less}
use Rattle.pc_enough_laws.proofs.Whole.{parts_need_no_more}

pub never_spent : EnoughIsNeverSpent
never_spent sheet formed touched limit some enough s lawful =
    let less = spendings_of_less sheet formed touched limit some s lawful lawful.of_sheet.kept lawful.of_sheet.are in
    let whole = parts_need_no_more sheet formed touched lawful.of_sheet.kept lawful.of_sheet.are in
    absurd (omega (arith, less, whole, enough))
