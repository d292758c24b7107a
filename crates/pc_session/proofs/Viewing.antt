-- A session that stays as it was.
use Rattle.std.proofs.Common.{◌≡◌, ℕ, ◌+◌, ◌≤◌, inl, inr, Bool, Result, Ok, Err, OnOk, OnErr, List, refl, ap, sym, ◌∙◌, subst}
use Rattle.pc_lits.specs.declared.tally.Tally.{Tally}
use Rattle.pc_sheet.specs.Sheet.{Sheet}
use Rattle.pc_sheet.specs.declared.ids.CellId.{CellId}
use Rattle.pc_sheet.specs.declared.ids.Entry.{Entry}
use Rattle.pc_sheet.specs.declared.ids.Target.{Target}
use Rattle.pc_justify_laws.specs.Edits.{edited}
use Rattle.pc_cache.specs.Rows.{Cached, TargetRow, bytes_of_rows, row_of}
use Rattle.pc_theory.specs.Theories.{TheoryView}
use Rattle.pc_session.specs.Answers.{IsUnchanged, OthersStay, Stay, Steps}
use Rattle.pc_session.specs.Arena.{compacted, IsLeft}
use Rattle.pc_session.specs.inside.Chosen.{AreChosen}
use Rattle.pc_session.specs.inside.Sessions.{IsSession}
use Rattle.pc_session.specs.inside.States.{viewed, IsEdited, IsKept, IsLeftBy, IsState, IsSame, IsSameBut, IsSpentBy}
use Rattle.pc_session.specs.Views.{Counts, SessionView, counts_of, none_spent}
use Rattle.pc_session.specs.declared.state.State.{State}

-- a fact that holds after any error
pub on_err : {T E Q : Type 0} (r : Result T E) → Q → OnErr r Q
on_err (Ok x) q = tt
on_err (Err e) q = q

-- the same error, whatever the value would have been
pub same_err : {X Y E : Type 0} (e f : E) → ◌≡◌ {A = Result X E} (Err e) (Err f) → ◌≡◌ {A = Result Y E} (Err e) (Err f)
same_err e f is = let inner : e ≡ f = cc in ap (λ x. Err x) inner

-- a fact that holds after both
pub either : {T E A B Q : Type 0} (r : Result T E) → OnOk r A → OnErr r B → (A → Q) → (B → Q) → Q
either (Ok x) ok err from_ok from_err = from_ok ok
either (Err e) ok err from_ok from_err = from_err err

pub same_itself : (s : State) → IsSame s s
same_itself s = record { book = refl; theory = refl; worlds = refl; rows = refl; bytes = inl (refl, refl); tally = refl; chosen = refl }

-- a state whose derivations were to be compacted, and have or haven't been
pub same_compacted : (s : State) (cache : Cached) → cache.rows ≡ s.cache.rows → IsLeft s.cache.bytes s.cache.spare cache.bytes cache.spare → IsSame s (record s { cache = cache })
same_compacted s cache rows left = record { book = refl; theory = refl; worlds = refl; rows = rows; bytes = left; tally = refl; chosen = refl }

pub same_failed : (s : State) (cache : Cached) → cache ≡ s.cache → IsSame s (record s { cache = cache })
same_failed s cache is =
    let rows_of : Cached → List TargetRow = λ x. x.rows in
    let bytes_of : Cached → ℕ = λ x. x.bytes in
    let spare_of : Cached → ℕ = λ x. x.spare in
    record { book = refl; theory = refl; worlds = refl; rows = ap rows_of is; bytes = inl (ap bytes_of is, ap spare_of is); tally = refl; chosen = refl }

-- the same state is as right as it was
pub still_right : (old new : State) → IsSame old new → IsState old → IsState new
still_right old new same is =
    subst (λ rows. IsSession new.book new.theory new.worlds.items rows) (sym same.rows)
    (subst (λ ws. IsSession new.book new.theory ws old.cache.rows) (sym same.worlds)
    (subst (λ th. IsSession new.book th old.worlds.items old.cache.rows) (sym same.theory) (subst (λ b. IsSession b old.theory old.worlds.items old.cache.rows) (sym same.book) is)))

pub still_kept : (old new : State) → IsSame old new → IsKept old → IsKept new
still_kept old new same is = record {
  state = still_right old new same is.state;
  chosen = subst (λ ms. AreChosen new.book ms) (sym same.chosen) (subst (λ b. AreChosen b old.chosen) (sym same.book) is.chosen);
}

-- what holds after an answer, whichever it is
pub kept_after : {T E A : Type 0} (r : Result T E) (old new : State) → OnOk r A → (A → IsState new) → OnOk r (AreChosen new.book new.chosen) → OnErr r (IsSame old new) → IsKept old → IsKept new
kept_after (Ok x) old new ok right chosen err is = record { state = right ok; chosen = chosen }
kept_after (Err e) old new ok right chosen err is = still_kept old new err is

abbrev seen : ℕ → ℕ → ℕ → Sheet → Tally → TheoryView → List TargetRow → SessionView
seen budget bytes spare sheet tally theory rows = record { sheet = sheet; budget = budget; tally = counts_of tally; components = theory.components; rows = rows; bytes = bytes; spare = spare }

same_seen : (budget : ℕ) (old new : State) → IsSame old new → viewed budget new ≡ record (viewed budget old) { bytes = new.cache.bytes; spare = new.cache.spare }
same_seen budget old new same =
    let bytes = new.cache.bytes in
    let spare = new.cache.spare in
    ap (λ b. seen budget bytes spare b new.tally new.theory new.cache.rows) same.book
    ∙ (ap (λ t. seen budget bytes spare old.book t new.theory new.cache.rows) same.tally
    ∙ (ap (λ th. seen budget bytes spare old.book old.tally th new.cache.rows) same.theory ∙ ap (seen budget bytes spare old.book old.tally old.theory) same.rows))

-- and seen as the same
pub still_seen : (budget : ℕ) (old new : State) (v : SessionView) → viewed budget old ≡ v → IsSame old new → IsUnchanged v (viewed budget new)
still_seen budget old new v is same = subst (λ x. IsUnchanged x (viewed budget new)) is (same_seen budget old new same, same.bytes)

abbrev seen_with : ℕ → Sheet → Counts → TheoryView → Cached → SessionView
seen_with budget sheet counts theory cache = record { sheet = sheet; budget = budget; tally = counts; components = theory.components; rows = cache.rows; bytes = cache.bytes; spare = cache.spare }

-- a session of another sheet, where nothing was spent
pub but_seen : (budget : ℕ) (sheet : Sheet) (old new : State) → IsSameBut sheet budget old new → viewed budget new ≡ record (viewed budget old) { sheet = sheet; tally = none_spent budget }
but_seen budget sheet old new same =
    ap (λ b. seen_with budget b (counts_of new.tally) new.theory new.cache) same.book
    ∙ (ap (λ n. seen_with budget sheet n new.theory new.cache) same.tally
    ∙ (ap (λ th. seen_with budget sheet (none_spent budget) th new.cache) same.theory ∙ ap (seen_with budget sheet (none_spent budget) old.theory) same.cache))

-- ---- what an edit leaves

-- the derivations may have been compacted before it
pub edited_compacted : (s : State) (cache : Cached) (c : CellId) (gone : Entry → Bool) (added : List Entry) (limit : ℕ) (new : State) → cache.rows ≡ s.cache.rows → IsEdited (record s { cache = cache }) c gone added limit new → IsEdited s c gone added limit new
edited_compacted s cache c gone added limit new rows h = record {
  sheet_is = h.sheet_is;
  session = h.session;
  spends = h.spends;
  stays = subst (λ old. Stay gone old new.cache.rows) rows h.stays;
  others = subst (λ old. OthersStay c s.theory.components old new.cache.rows) rows h.others;
  steps = subst (λ old. Steps old new.cache.rows (counts_of new.tally)) rows h.steps;
}

pub left_edited : (c : CellId) (gone : Entry → Bool) (added : List Entry) (limit : ℕ) (old new : State) → new.theory ≡ old.theory → new.cache.bytes ≤ compacted old.cache.rows old.cache.bytes + bytes_of_rows new.cache.rows → IsSpentBy c old new → IsEdited old c gone added limit new → IsLeftBy c gone old new
left_edited c gone added limit old new theory bytes spent done = record {
  state = subst (λ th. IsSession new.book th new.worlds.items new.cache.rows) (sym theory) done.session;
  stays = done.stays;
  others = done.others;
  steps = done.steps;
  bytes = inr bytes;
  spent = spent;
}

pub left_same : (c : CellId) (gone : Entry → Bool) (old new : State) → IsState new → new.cache ≡ old.cache → IsLeftBy c gone old new
left_same c gone old new state cache =
    let rows : Cached → List TargetRow = λ x. x.rows in
    let bytes : Cached → ℕ = λ x. x.bytes in
    record {
      state = state;
      stays = λ t j row lacks. rows_are (ap rows cache) t ∙ row;
      others = λ cells t listed has off. rows_are (ap rows cache) t;
      steps = λ t j row. inl (sym (rows_are (ap rows cache) t) ∙ row);
      bytes = inl (ap bytes cache);
      spent = inl (ap bytes cache);
    }
  where
    rows_are : new.cache.rows ≡ old.cache.rows → (t : Target) → row_of new.cache.rows t ≡ row_of old.cache.rows t
    rows_are is t = ap (λ rs. row_of rs t) is

pub left_ok : {T E : Type 0} (r : Result T E) (c : CellId) (gone : Entry → Bool) (added : List Entry) (limit : ℕ) (old new : State) → new.theory ≡ old.theory → OnOk r (new.cache.bytes ≤ compacted old.cache.rows old.cache.bytes + bytes_of_rows new.cache.rows) → OnOk r (IsSpentBy c old new) → OnOk r (IsEdited old c gone added limit new)
    → OnOk r (IsLeftBy c gone old new)
left_ok (Ok x) c gone added limit old new theory bytes spent done = left_edited c gone added limit old new theory bytes spent done
left_ok (Err e) c gone added limit old new theory bytes spent done = tt

-- the book of an edit, where it has been put in place
pub book_ok : {T E : Type 0} (r : Result T E) (c : CellId) (gone : Entry → Bool) (added : List Entry) (limit : ℕ) (old new : State) (made : Sheet) → made ≡ edited old.book gone added → OnOk r (IsEdited old c gone added limit new) → OnOk r (new.book ≡ made)
book_ok (Ok x) c gone added limit old new made is done = done.sheet_is ∙ sym is
book_ok (Err e) c gone added limit old new made is done = tt
