-- The edits that are asked for are edits of a cell that leave a well-formed sheet.
use Rattle.std.proofs.Common.{◌≡◌, ◌<◌, inl, inr, List, length, Contains, None, Some, refl, sym, ◌∙◌, ap, subst}
use Rattle.std.proofs.lemmas.Bool.{false≢true}
use Rattle.pc_sheet.specs.Sheet.{Sheet}
use Rattle.pc_sheet.specs.Entailment.{cell_sizes}
use Rattle.pc_sheet.specs.WellFormed.{IsEntryOf, IsWellFormed}
use Rattle.pc_sheet.specs.declared.ids.CellId.{CellId}
use Rattle.pc_sheet.specs.declared.ids.Entry.{Entry}
use Rattle.pc_justify_laws.specs.Edits.{IsTakenOf}
use Rattle.pc_justify_laws.specs.EditLaws.{EachEntering}
use Rattle.pc_books.proofs.EntryLemmas.{entries_pushed, entries_stay}
use Rattle.pc_theory.specs.Theories.{rules_alone}
use Rattle.pc_cache.specs.Rows.{Cached}
use Rattle.pc_session.specs.Answers.{HasPlaceFor}
use Rattle.pc_session.specs.Arena.{IsLeft}
use Rattle.pc_session.specs.inside.Changes.{IsChangeOf}
use Rattle.pc_session.specs.inside.States.{IsSame, IsSameBeside}
use Rattle.pc_session.specs.inside.Taken.{takes}
use Rattle.pc_session.specs.declared.state.State.{State}
use Rattle.pc_session.specs.declared.taken.Taken.{Taken}
use Rattle.pc_session.specs.declared.taken.Taken.TheVariants as taken
use Rattle.pc_theory.proofs.OwnParts.{cell_of}
use Rattle.pc_session.proofs.TakenEntries.{beside, formed_left}
use Rattle.pc_session.proofs.Viewing.{same_compacted}

pub entering_new : EachEntering → (sheet : Sheet) (e : Entry) → IsWellFormed sheet → IsEntryOf sheet.universe e → ¬ Contains sheet.entries e → IsChangeOf sheet (record { cell = e.cell; taken = taken.Rivals e; added = Some e })
entering_new law sheet e formed is lacks = record {
  cell = cell_of sheet.universe e is;
  is_edit = record { takes = (law sheet e).takes; adds = inr (e, refl, refl) };
  formed = subst IsWellFormed ((law sheet e).adds lacks) (record { universe = formed.universe; rules = formed.rules; entries = entries_stay sheet.universe sheet.entries e formed.entries is });
}

pub adding_new : (sheet : Sheet) (e : Entry) → IsWellFormed sheet → IsEntryOf sheet.universe e → ¬ Contains sheet.entries e → HasPlaceFor sheet.entries e → IsChangeOf sheet (record { cell = e.cell; taken = taken.Nothing; added = Some e })
adding_new sheet e formed is lacks place = record {
  cell = cell_of sheet.universe e is;
  is_edit = record { takes = λ f gone. absurd (false≢true gone); adds = inr (e, refl, refl) };
  formed = elim place [
    | inl has ↦ absurd (lacks has)
    | inr room ↦ subst IsWellFormed (beside sheet e) (record { universe = formed.universe; rules = formed.rules; entries = entries_pushed sheet.universe sheet.entries e formed.entries is lacks room })
  ];
}

pub taking_some : (sheet : Sheet) (c : CellId) (t : Taken) → IsWellFormed sheet → c.0 < length (cell_sizes sheet.universe) → IsTakenOf c (takes t) → IsChangeOf sheet (record { cell = c; taken = t; added = None })
taking_some sheet c t formed within of_cell = record { cell = within; is_edit = record { takes = of_cell; adds = inl refl }; formed = formed_left (takes t) sheet formed }

-- ---- the entries are put back

pub restored : (old new : Sheet) (es : List Entry) → rules_alone new ≡ rules_alone old → es ≡ old.entries → record new { entries = es } ≡ old
restored old new es rules are = let with_entries : Sheet → Sheet = λ s. record s { entries = es } in let over : List Entry → Sheet = λ xs. record old { entries = xs } in ap with_entries rules ∙ ap over are

pub restored_same : (s new : State) (cache : Cached) (book : Sheet) → cache.rows ≡ s.cache.rows → IsLeft s.cache.bytes s.cache.spare cache.bytes cache.spare → IsSameBeside (record s { cache = cache }) new → book ≡ s.book → IsSame s (record new { book = book })
restored_same s new cache book rows left same is =
    let with_book : Sheet → State = λ b. record new { book = b } in
    subst (IsSame s) (sym (ap with_book is ∙ same.rest)) (same_compacted s cache rows left)
