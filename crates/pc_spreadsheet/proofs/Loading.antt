-- What the book of a sheet's text shows of the spreadsheet that starts with it.
use Rattle.std.proofs.Common.{◌≡◌, ℕ, List, [], Option, None, Some, Result, Ok, Err, MatchResult, ◌<◌, ◌≤◌, ◌∷◌, ◌++◌, refl, sym, ap, ap₂, subst}
use Rattle.pc_sheet.specs.Sheet.{Sheet}
use Rattle.pc_sheet.specs.MaximalSets.{AreRulesConsistent}
use Rattle.pc_sheet.specs.Weight.{weight}
use Rattle.pc_session.specs.Views.{SessionView}
use Rattle.pc_session.specs.Views as session
use Rattle.pc_refusals.specs.declared.refusal.Counts.{Counts}
use Rattle.pc_refusals.specs.declared.refusal.Refusal.TheVariants.{TooLarge, Inconsistent, Spent}
use Rattle.pc_spreadsheet.specs.Commands.{state_of}
use Rattle.pc_theory.specs.Spendings.{IsLawful}
use Rattle.pc_theory.specs.declared.spending.Spending.{Spending}
use Rattle.pc_transcript.specs.declared.machine.LoadStop.{LoadStop}
use Rattle.pc_transcript.specs.declared.machine.LoadStop.TheVariants.{Refused, Memory}
use Rattle.pc_refusals.specs.declared.refusal.SheetRefusal.{SheetRefusal}
use Rattle.pc_transcript.specs.Answer.{IsToldBehind}
use Rattle.pc_load.specs.Outcome.{HasFault}
use Rattle.pc_sortcheck.specs.Declaring.{ReadsAs}
use Rattle.pc_spreadsheet.specs.Judgement.{of_whole}
use Rattle.pc_spreadsheet.specs.Tasks.{State, IsLight, Starts}
use Rattle.pc_spreadsheet.specs.Pages.{IsCertificateAgainst}
use Rattle.pc_spreadsheet.specs.Allowed.{Notes, told_counts_of, RefusesText, for_fault, for_weight, for_rules, for_search}
use Rattle.pc_spreadsheet.specs.inside.Loading.{IsNotLoaded, NotesLoad, noted, not_noted, IsRefusedBook, too_large, contradictory, spent, OpensAs}

-- the text has the fault
pub at_fault : (budget : ℕ) (text : List ℕ) (why : SheetRefusal) (notes : Notes) → HasFault text why → IsNotLoaded budget text notes notes (Refused why None)
at_fault budget text why notes fault = λ more. λ none. for_fault fault none refl

no_more : (proof : Option Sheet) (more : List ℕ) → proof ≡ None → IsToldBehind IsCertificateAgainst proof more → more ≡ []
no_more proof more none follows = subst (λ (p : Option Sheet). IsToldBehind IsCertificateAgainst p more) none follows

refused_text : (budget : ℕ) (text : List ℕ) (book : Sheet) (why : SheetRefusal) (proof : Option Sheet) (old new : Notes) (more : List ℕ) → ReadsAs text book → IsRefusedBook budget book why proof old new → IsToldBehind IsCertificateAgainst proof more → RefusesText budget text why more old new
refused_text budget text book why proof old new more reads (too_large heavy is none same) follows = for_weight record { sheet = book; reads = reads; heavy = heavy } is (no_more proof more none follows) same
refused_text budget text book why proof old new more reads (contradictory light never is shows same) follows =
    for_rules book record { reads = reads; light = light; contradict = never } (subst (λ (p : Option Sheet). IsToldBehind IsCertificateAgainst p more) shows follows) is same
refused_text budget text book why proof old new more reads (spent counts light spends is none) follows = for_search book counts reads light spends is (no_more proof more none follows)

pub opened : (budget : ℕ) (text : List ℕ) (book : Sheet) (old new : Notes) (result : Result State (LoadStop Sheet)) → ReadsAs text book → OpensAs budget book old new result
    → MatchResult result (λ state. Starts budget text state × (new ≡ old)) (IsNotLoaded budget text old new)
opened budget text book old new (Ok state) reads opens =
    (subst (Starts budget text) (sym opens.0) record { reads = reads; light = opens.1; consistent = opens.2; budget = refl }, opens.3)
opened budget text book old new (Err (Refused why proof)) reads opens = λ more. λ follows. refused_text budget text book why proof old new more reads opens follows
opened budget text book old new (Err Memory) reads opens = opens

-- the search of a book spends too much
pub load_spent : (budget : ℕ) (book : Sheet) (spending : Spending) (old new : Notes) (stop : LoadStop Sheet) → IsLight book → IsLawful book None budget spending → NotesLoad book spending old new stop → OpensAs budget book old new (Err stop)
load_spent budget book spending old new stop light lawful (noted why is now_noted) =
    spent (told_counts_of spending.tally) light record { spending = spending; lawful = lawful; counts_are = refl; noted = now_noted } is refl
load_spent budget book spending old new stop light lawful (not_noted none) = none

-- ---- opening

abbrev state_from : Sheet → ℕ → State
state_from sheet budget = record { sheet = sheet; budget = budget }

pub opened_so : (budget : ℕ) (book : Sheet) (s : SessionView) (notes : Notes) → s.sheet ≡ book → s.budget ≡ budget → IsLight book → AreRulesConsistent book → OpensAs budget book notes notes (Ok (state_of s))
opened_so budget book s notes sheet_is budget_is light consistent = (ap₂ state_from sheet_is budget_is, light, consistent, refl)

pub refused_large : (budget : ℕ) (book : Sheet) (notes : Notes) (stop : LoadStop Sheet) → stop ≡ Refused (of_whole TooLarge) None → 4000000 < weight book → OpensAs budget book notes notes (Err stop)
refused_large budget book notes stop is heavy = subst (λ (s : LoadStop Sheet). OpensAs budget book notes notes (Err s)) (sym is) (too_large heavy refl refl refl)

pub refused_contradictory : (budget : ℕ) (book refutation : Sheet) (notes : Notes) (stop : LoadStop Sheet) → stop ≡ Refused (of_whole Inconsistent) (Some refutation) → (weight book ≤ 4000000) × (refutation ≡ book) × (¬ AreRulesConsistent book) → OpensAs budget book notes notes (Err stop)
refused_contradictory budget book refutation notes stop is cause = subst (λ (s : LoadStop Sheet). OpensAs budget book notes notes (Err s)) (sym is) (contradictory cause.0 cause.2 refl (ap (λ (t : Sheet). Some t) cause.1) refl)

pub noted_so : (book : Sheet) (spending : Spending) (old new : Notes) (counts : Counts) (stop : LoadStop Sheet) → stop ≡ Refused (of_whole (Spent counts)) None → counts ≡ told_counts_of spending.tally
    → new ≡ old ++ record { sheet = book; cell = None; tally = session.counts_of spending.tally } ∷ [] → NotesLoad book spending old new stop
noted_so book spending old new counts stop is counts_is now_noted =
    subst (NotesLoad book spending old new) (sym is) (noted (of_whole (Spent counts)) (ap (λ (c : Counts). of_whole (Spent c)) counts_is) now_noted)
