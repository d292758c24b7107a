use Rattle.std.proofs.Common.{◌≡◌, ℕ, ◌+◌, ◌*◌, [], subst}
use Rattle.pc_sheet.specs.Sheet.{Statement}
use Rattle.pc_accept.specs.Asked.{asked}
use Rattle.pc_ask.specs.Asking.{AreReadSizes}
use Rattle.pc_repairs.specs.Searches.{IsWholeSearch}
use Rattle.pc_session.specs.Views.{SessionView}
use Rattle.pc_session.proofs.session.Session.ask.Goals as goal

pub returns-clause-search : goal.returns-clause-search
returns-clause-search c =
    let P : SessionView → Type 0 = λ v. (f : Statement) (entries sets : ℕ) → c.args.book.now ≡ asked v.sheet f → AreReadSizes v.sheet f entries sets → IsWholeSearch c.args.book.now [] (sets * (entries + 2) + 1) c.args.tally.now c.ask_lent.new.tally c.ask_lent.new.log in
    subst P c.self.view_is c.ask_lent.ensures.search
