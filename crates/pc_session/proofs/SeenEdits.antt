-- What an edit of a cell's entries says of a session as it is seen, whichever entries go.
use Rattle.std.proofs.Common.{◌≡◌, ℕ, Bool, [], Some, Result, Ok, Err, IfErr, OnOk, OnErr, refl, ap, subst}
use Rattle.std.proofs.lemmas.Result.{on_ok_weaker, on_err_weaker}
use Rattle.pc_sheet.specs.Sheet.{Sheet}
use Rattle.pc_sheet.specs.declared.ids.CellId.{CellId}
use Rattle.pc_sheet.specs.declared.ids.Entry.{Entry}
use Rattle.pc_justify_laws.specs.Edits.{HasNone, edited}
use Rattle.pc_theory.specs.Theories.{TheoryView}
use Rattle.pc_session.specs.Answers.{AreSpare, AreUnused, IsUnchanged, OthersStay, Stay, Steps}
use Rattle.pc_session.specs.Arena.{IsBounded, IsBoundedBySpent}
use Rattle.pc_session.specs.Causes.{IsRemovalCause}
use Rattle.pc_session.specs.inside.States.{viewed, IsLeftBy, IsSame, IsSameBut, IsState}
use Rattle.pc_session.specs.Views.{IsTallyOf, SessionView, counts_of, none_spent}
use Rattle.pc_session.specs.declared.refused.EditRefused.{EditRefused}
use Rattle.pc_session.specs.declared.refused.EditRefused.TheVariants.{NoEntry}
use Rattle.pc_session.specs.declared.state.State.{State}
use Rattle.pc_session.proofs.Resting.{spare_unused}
use Rattle.pc_session.proofs.Viewing.{but_seen, still_seen}

-- A session before and after an edit of the cell's entries, by its answer: all is as it was after an error, else what is kept of
-- reasons on entries that don't go stays.
pub record IsSeenEdit {T E : Type 0} (r : Result T E) (c : CellId) (gone : Entry → Bool) (old new : SessionView) : Type 0 where
  pub budget : new.budget ≡ old.budget
  pub parts : new.components ≡ old.components
  pub unchanged : OnErr r (IsUnchanged old new)
  pub stays : OnOk r (Stay gone old.rows new.rows)
  pub others : OnOk r (OthersStay c old.components old.rows new.rows)
  pub arena : OnOk r (IsBounded old.rows old.bytes new.rows new.bytes)
  pub bytes : OnOk r (IsBoundedBySpent old c new)
  pub steps : OnOk r (Steps old.rows new.rows new.tally)

pub edit_seen : {T E : Type 0} (r : Result T E) (c : CellId) (gone : Entry → Bool) (budget : ℕ) (old new : State) (v : SessionView) → viewed budget old ≡ v
    → new.theory ≡ old.theory → OnOk r (IsLeftBy c gone old new) → OnErr r (IsSame old new) → IsSeenEdit r c gone v (viewed budget new)
edit_seen r c gone budget old new v is theory left kept = subst (λ (x : SessionView). IsSeenEdit r c gone x (viewed budget new)) is by
  where
    by : IsSeenEdit r c gone (viewed budget old) (viewed budget new)
    by = record {
      budget = refl;
      parts = ap (λ (t : TheoryView). t.components) theory;
      unchanged = on_err_weaker r (still_seen budget old new (viewed budget old) refl) kept;
      stays = on_ok_weaker r (λ (l : IsLeftBy c gone old new). l.stays) left;
      others = on_ok_weaker r (λ (l : IsLeftBy c gone old new). l.others) left;
      arena = on_ok_weaker r (λ (l : IsLeftBy c gone old new). l.bytes) left;
      bytes = on_ok_weaker r (λ (l : IsLeftBy c gone old new). l.spent) left;
      steps = on_ok_weaker r (λ (l : IsLeftBy c gone old new). l.steps) left;
    }

-- ... and where some entries go and none come: what is left, why it is refused, and that it is free where no reason rests on those
pub record IsSeenRemoval (r : Result (Unit {0}) EditRefused) (c : CellId) (gone : Entry → Bool) (left : Sheet → Sheet) (old new : SessionView) : Type 0 where
  pub sheet : OnOk r (new.sheet ≡ left old.sheet)
  pub refused : IfErr r (IsRemovalCause gone old.sheet.entries (left old.sheet) c old.budget)
  pub none : HasNone gone old.sheet.entries → r ≡ Err NoEntry
  pub unused : (¬ HasNone gone old.sheet.entries) → AreUnused gone old.rows → (r ≡ Ok tt) × (new ≡ record old { sheet = left old.sheet; tally = none_spent old.budget })
  pub spare : (¬ HasNone gone old.sheet.entries) → AreSpare old.sheet gone → r ≡ Ok tt
  pub spends : OnOk r ((¬ AreUnused gone old.rows) → IsTallyOf new.sheet (Some c) old.budget new.tally)

-- by what the edit says of what is kept
pub removal_seen : (r : Result (Unit {0}) EditRefused) (c : CellId) (gone : Entry → Bool) (left : Sheet → Sheet) (budget : ℕ) (old new : State) (v : SessionView) → viewed budget old ≡ v → IsState old → edited old.book gone [] ≡ left old.book
    → OnOk r (new.book ≡ edited old.book gone []) → IfErr r (IsRemovalCause gone old.book.entries (edited old.book gone []) c budget) → (HasNone gone old.book.entries → r ≡ Err NoEntry)
    → ((¬ HasNone gone old.book.entries) → AreUnused gone old.cache.rows → (r ≡ Ok tt) × IsSameBut (edited old.book gone []) budget old new)
    → OnOk r ((¬ AreUnused gone old.cache.rows) → IsTallyOf new.book (Some c) budget (counts_of new.tally)) → IsSeenRemoval r c gone left v (viewed budget new)
removal_seen r c gone left budget old new v is state same book refused none unused spends = subst (λ (x : SessionView). IsSeenRemoval r c gone left x (viewed budget new)) is by
  where
    by : IsSeenRemoval r c gone left (viewed budget old) (viewed budget new)
    by = record {
      sheet = subst (λ (s : Sheet). OnOk r (new.book ≡ s)) same book;
      refused = subst (λ (s : Sheet). IfErr r (IsRemovalCause gone old.book.entries s c budget)) same refused;
      none = none;
      unused = λ some free. let told = unused some free in (told.0, but_seen budget (left old.book) old new (subst (λ (s : Sheet). IsSameBut s budget old new) same told.1));
      spare = λ some free. (unused some (spare_unused old.book old.cache.rows gone state.places state.reasons free)).0;
      spends = spends;
    }
