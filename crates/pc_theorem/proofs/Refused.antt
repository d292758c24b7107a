-- The generated sheet is refused for a spent budget alone.
use Rattle.std.proofs.Common.{◌≡◌, ℕ, ◌<◌, ◌≤◌, List, [], ◌∙◌, ap, sym, subst, arith}
use Rattle.pc_sheet.specs.Sheet.{Sheet}
use Rattle.pc_sheet.specs.MaximalSets.{AreRulesConsistent}
use Rattle.pc_sheet.specs.Weight.{weight}
use Rattle.pc_gen.specs.Text.{generated_text}
use Rattle.pc_gen.specs.Sheet.{generated_sheet}
use Rattle.pc_gen.specs.Laws.{GeneratedTextsReadBack, GeneratedSheetsWeigh}
use Rattle.pc_enough_laws.specs.Enough.{enough_for_all}
use Rattle.pc_sortcheck.specs.Declaring.{ReadsAs}
use Rattle.pc_sortcheck.specs.Laws.{SheetsAreWellFormed}
use Rattle.pc_refusals.specs.declared.refusal.Counts.{Counts}
use Rattle.pc_refusals.specs.declared.refusal.SheetRefusal.{SheetRefusal}
use Rattle.pc_refusals.specs.declared.refusal.Refusal.TheVariants.{Spent}
use Rattle.pc_load.specs.Laws.{TextsHaveOneOutcome}
use Rattle.pc_load.specs.Outcome.{reads}
use Rattle.pc_load.proofs.Loading.{none_read}
use Rattle.pc_spreadsheet.specs.Judgement.{of_whole}
use Rattle.pc_spreadsheet.specs.Allowed.{Notes, RefusesText, for_fault, for_weight, for_rules, for_search}
use Rattle.pc_theorem.proofs.Pages.{search_placed}
use Rattle.pc_theorem.proofs.Answering.{load_is_short}
use Rattle.pc_theorem.proofs.Consistent.{consistent}

same_sheet : (x y : Sheet) → reads x ≡ reads y → x ≡ y
same_sheet x y e = cc

-- the counts of a search that placed as many literals as the budget allows, which is less than enough
pub record OnlySpent (blocks budget : ℕ) (why : SheetRefusal) (more : List ℕ) : Type 0 where
  pub counts : Counts
  pub short : budget < enough_for_all (generated_sheet blocks)
  pub placed_all : counts.placed ≡ budget
  pub why_is : why ≡ of_whole (Spent counts)
  pub nothing_more : more ≡ []

module _ (formed : SheetsAreWellFormed) (one : TextsHaveOneOutcome) (back : GeneratedTextsReadBack) (weigh : GeneratedSheetsWeigh) (blocks : ℕ) (some : 1 ≤ blocks) (few : blocks ≤ 256) where
  read : ReadsAs (generated_text blocks) (generated_sheet blocks)
  read = back blocks some few

  pub only_spent : (budget : ℕ) (why : SheetRefusal) (more : List ℕ) (old new : Notes) → 1 ≤ budget → RefusesText budget (generated_text blocks) why more old new → OnlySpent blocks budget why more
  only_spent budget why more old new enough (for_fault has none same) = absurd (none_read (generated_text blocks) why one has (generated_sheet blocks) read)
  only_spent budget why more old new enough (for_weight heavy why_is none same) =
      let sheet = same_sheet heavy.sheet (generated_sheet blocks) (one (generated_text blocks) (reads heavy.sheet) (reads (generated_sheet blocks)) heavy.reads read) in
      let weight_is = ap weight sheet ∙ weigh blocks some in
      absurd (omega (arith, heavy.heavy, weight_is, few))
  only_spent budget why more old new enough (for_rules sheet against_it certificate why_is same) =
      let sheet_is = same_sheet sheet (generated_sheet blocks) (one (generated_text blocks) (reads sheet) (reads (generated_sheet blocks)) against_it.reads read) in
      absurd (against_it.contradict (subst AreRulesConsistent (sym sheet_is) (consistent blocks some)))
  only_spent budget why more old new enough (for_search sheet counts reads_so light spent why_is none) =
      let sheet_is = same_sheet sheet (generated_sheet blocks) (one (generated_text blocks) (reads sheet) (reads (generated_sheet blocks)) reads_so read) in
      record {
        counts = counts;
        short = subst (λ (s : Sheet). budget < enough_for_all s) sheet_is (load_is_short formed sheet budget counts old new (formed (generated_text blocks) sheet reads_so) enough spent);
        placed_all = search_placed budget sheet _ counts old new spent;
        why_is = why_is;
        nothing_more = none;
      }
