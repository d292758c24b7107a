-- The numbers of what is spent, and of what is told of it.
use Rattle.std.proofs.Common.{◌≡◌, ℕ, ◌+◌, ◌*◌, List, [], ◌∷◌, length, Option, Some, None, refl, sym, ◌∙◌, ap, subst}
use Rattle.std.specs.List.{AllZip}
use Rattle.pc_sheet.specs.Cells.{CellsAreNumberedInOrder}
use Rattle.pc_sheet.specs.Entailment.{cell_sizes}
use Rattle.pc_sheet.specs.Sheet.{Sheet, Statement}
use Rattle.pc_sheet.specs.WellFormed.{IsWellFormed}
use Rattle.pc_sheet.specs.declared.ids.CellId.{CellId}
use Rattle.pc_sortcheck.specs.Laws.{SheetsAreWellFormed}
use Rattle.pc_parts.specs.Parts.{Part}
use Rattle.pc_parts.specs.Components.{parts_of}
use Rattle.pc_parts.specs.PartSheets.{sheet_of}
use Rattle.pc_theory.specs.Spendings.{IsSpendingOf}
use Rattle.pc_theory.specs.Targets.{target_count}
use Rattle.pc_theory.specs.Theories.{rules_alone}
use Rattle.pc_theory.specs.declared.spending.Spending.{Spending}
use Rattle.pc_accept.specs.Asked.{asked}
use Rattle.pc_enough_laws.specs.Enough.{IsMostCalls}
use Rattle.pc_enough_laws.proofs.Sets.{sets_few}
use Rattle.pc_enough_laws.proofs.Told.{counts_bounded, on_one_part}
use Rattle.pc_enough_laws.proofs.OfWhole.{whole_learns_few}
use Rattle.pc_session.specs.Views as session
use Rattle.pc_refusals.specs.declared.refusal.Counts.{Counts}
use Rattle.pc_refusals.specs.declared.refusal.SheetRefusal.{SheetRefusal}
use Rattle.pc_refusals.specs.declared.refusal.Refusal.TheVariants.{TooLarge, Inconsistent, Spent}
use Rattle.pc_spreadsheet.specs.Judgement.{of_whole}
use Rattle.pc_spreadsheet.specs.Tasks.{State}
use Rattle.pc_spreadsheet.specs.Allowed.{Notes, IsLawfullySpent, IsWholeSpent, IsAskSpent, LineSpends, LineProofSpends, LineAskSpends, RefusesText, for_fault, for_weight, for_rules, for_search}
use Rattle.pc_run_laws.specs.Counts.{AreFew, IsCounted, IsCountedOnPart, TalliesAreCounted, IsToldSpent, IsToldSpentWhole, IsToldSpentAsking, TellsOfEdit, TellsOfProof, TellsOfAsking, TellsOfLoad, ToldCountsAreBounded}
use Rattle.pc_run_laws.proofs.Spending.{too_little, search_formed, one_log_learns_few}

-- each part has a greatest number of calls
most_of : (sheet : Sheet) → IsWellFormed sheet → (parts : List Part) → (most_calls : List ℕ) × AllZip (IsMostCalls sheet) parts most_calls
most_of sheet formed [] = ([], tt)
most_of sheet formed (part ∷ parts) =
    let rest = most_of sheet formed parts in
    let few = sets_few sheet formed part in
    ((length few.0 * (target_count (cell_sizes sheet.universe) part.cells + 1) * (length (sheet_of sheet part).entries + 2) + 2) ∷ rest.0, ((few.0, few.1, refl), rest.1))

few_of : (sheet : Sheet) → IsWellFormed sheet → (touched : Option CellId) (s : Spending) → IsSpendingOf sheet touched s → AreFew sheet touched s.tally.placed s.tally.learned s.tally.calls
few_of sheet formed touched s of =
    let some = most_of sheet formed (parts_of (rules_alone sheet)) in
    let bounded = counts_bounded sheet formed touched s of some.0 some.1 in
    record {
      kept = of.kept;
      are = of.are;
      few_placed = bounded.placed;
      few_learned = bounded.learned;
      few_calls = λ most_calls are. (counts_bounded sheet formed touched s of most_calls are).calls;
    }

-- ---- tallies

counted : (sheet : Sheet) (touched : Option CellId) (budget : ℕ) (counts : session.Counts) → IsWellFormed sheet → session.IsTallyOf sheet touched budget counts → IsCounted sheet touched counts
counted sheet touched budget counts formed (s, of, limited, within, same) = subst (λ (n : session.Counts). IsCounted sheet touched n) same (record { few = few_of sheet formed touched s of; within = within })

counted_on_part : (sheet : Sheet) (c : CellId) (budget : ℕ) (counts : session.Counts) → IsWellFormed sheet → session.IsTallyOf sheet (Some c) budget counts → IsCountedOnPart sheet c counts
counted_on_part sheet c budget counts formed (s, of, limited, within, same) =
    subst (λ (n : session.Counts). IsCountedOnPart sheet c n) same (record { kept = of.kept; are = of.are; on_part = λ i part own numbered has at. on_one_part sheet formed c s of i part own numbered has at })

pub tallies_counted : TalliesAreCounted
tallies_counted = record { whole = counted; on_part = counted_on_part }

-- ---- told numbers

told_spent : (budget : ℕ) (sheet : Sheet) (touched : Option CellId) (counts : Counts) (old new : Notes) → IsWellFormed sheet → IsLawfullySpent budget sheet touched counts old new → IsToldSpent budget sheet touched counts
told_spent budget sheet touched counts old new formed s =
    subst (λ (n : Counts). IsToldSpent budget sheet touched n) (sym s.counts_are) (record {
      all = s.lawful.all_placed;
      few = few_of sheet formed touched s.spending s.lawful.of_sheet;
      too_little = λ some. too_little sheet formed touched budget some s.spending s.lawful;
    })

told_whole : (budget : ℕ) (sheet : Sheet) (counts : Counts) (old new : Notes) → IsWholeSpent budget sheet counts old new → IsToldSpentWhole budget sheet counts
told_whole budget sheet counts old new s =
    subst (λ (n : Counts). IsToldSpentWhole budget sheet n) (sym s.counts_are) (record {
      all = s.spent.all_placed ∙ s.limited;
      few_placed = s.spent.spending.placed;
      few_learned = whole_learns_few sheet s.logs s.tally s.spent.spending;
      few_calls = s.few_calls;
    })

told_asking : (budget : ℕ) (sheet : Sheet) (f : Statement) (counts : Counts) (old new : Notes) → IsAskSpent budget sheet f counts old new → IsToldSpentAsking budget sheet f counts
told_asking budget sheet f counts old new s =
    subst (λ (n : Counts). IsToldSpentAsking budget sheet f n) (sym s.counts_are) (record {
      all = s.spent.all_placed ∙ s.limited;
      few_placed = s.spent.spending.placed;
      few_learned = one_log_learns_few (asked sheet f) s.log s.tally s.spent;
      few_calls = s.few_calls;
    })

of_edit : CellsAreNumberedInOrder → (state : State) (line : List ℕ) (counts : Counts) (old new : Notes) → IsWellFormed state.sheet → LineSpends state line counts old new → TellsOfEdit state line counts
of_edit ordered state line counts old new formed (command, reading, s) = record {
  command = command;
  cell = s.cell;
  made = s.made;
  reading = reading;
  needs = s.needs;
  told = told_spent state.budget s.made s.cell counts old new (search_formed ordered state.sheet command s.cell s.made formed s.needs) s.spent;
}

of_proof : (state : State) (line : List ℕ) (counts : Counts) (old new : Notes) → LineProofSpends state line counts old new → TellsOfProof state line counts
of_proof state line counts old new (command, reading, s) = record { command = command; reading = reading; needs = s.0; told = told_whole state.budget state.sheet counts old new s.1 }

of_asking : (state : State) (line : List ℕ) (counts : Counts) (old new : Notes) → LineAskSpends state line counts old new → TellsOfAsking state line counts
of_asking state line counts old new (command, reading, s) = record { command = command; formula = s.0; reading = reading; needs = s.1; told = told_asking state.budget state.sheet s.0 counts old new s.2 }

same_counts : (x y : Counts) → of_whole (Spent x) ≡ of_whole (Spent y) → y ≡ x
same_counts x y e =
    let told : Spent x ≡ Spent y = ap (λ (r : SheetRefusal). r.refusal) e in
    let same : x ≡ y = cc told in sym same

of_load : SheetsAreWellFormed → (budget : ℕ) (text : List ℕ) (counts : Counts) (more : List ℕ) (old new : Notes) → RefusesText budget text (of_whole (Spent counts)) more old new → TellsOfLoad budget text counts
of_load formed budget text counts more old new (for_fault h none same) = absurd h
of_load formed budget text counts more old new (for_weight h why_is none same) = let told : Spent counts ≡ TooLarge = ap (λ (r : SheetRefusal). r.refusal) why_is in absurd (cc told)
of_load formed budget text counts more old new (for_rules sheet h certificate why_is same) = let told : Spent counts ≡ Inconsistent = ap (λ (r : SheetRefusal). r.refusal) why_is in absurd (cc told)
of_load formed budget text counts more old new (for_search sheet found reads light spent why_is none) = record {
  sheet = sheet;
  reads = reads;
  told = subst (λ (n : Counts). IsToldSpent budget sheet None n) (same_counts counts found why_is) (told_spent budget sheet None found old new (formed text sheet reads) spent);
}

pub told_bounded : CellsAreNumberedInOrder → SheetsAreWellFormed → ToldCountsAreBounded
told_bounded ordered formed = record { of_edit = of_edit ordered; of_proof = of_proof; of_asking = of_asking; of_load = of_load formed }
