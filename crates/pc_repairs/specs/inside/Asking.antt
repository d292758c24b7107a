-- A solver of a whole sheet, and what it is asked.
use Rattle.std.specs.Prelude.{◌≡◌, Bool, true, false, List, [], ◌∷◌, ◌++◌, All, Contains, map}
use Rattle.pc_lits.specs.declared.literal.Lit.{Lit}
use Rattle.pc_log.specs.Lines.{LogLine}
use Rattle.pc_sheet.specs.Sheet.{Sheet}
use Rattle.pc_sheet.specs.Entailment.{IsAssignment, Shows, HasTarget, Entails}
use Rattle.pc_sheet.specs.declared.ids.Entry.{Entry}
use Rattle.pc_sheet.specs.declared.ids.Target.{Target}
use Rattle.pc_sheet.specs.declared.ids.ValueId.{ValueId}
use Rattle.pc_solver.specs.Solver.{SolverView, HasLog}
use Rattle.pc_world_list.specs.Worlds.{WorldView, set_of}
use Rattle.pc_repairs.specs.Searches.{whole_problem}

-- it searches the whole sheet beside these blocks, and this is its log
pub record IsAsked (sheet : Sheet) (blocks : List (List Lit)) (s : SolverView) (log : List LogLine) : Type 0 where
  pub problem : s.problem ≡ whole_problem sheet
  pub blocks_are : s.blocks ≡ blocks
  pub has : HasLog s log

-- an assignment that fits, has the set and lacks the target; or there is none
abbrev pub AskSays : Sheet → List Entry → Target → List ValueId → Bool → Type 0
AskSays sheet set t shown true = Shows sheet set shown × (¬ HasTarget shown t)
AskSays sheet set t shown false = Entails sheet set t

-- the set with an assignment that fits, has it and lacks the target
pub record IsLackingWorld (sheet : Sheet) (t : Target) (w : WorldView) : Type 0 where
  pub shown : Shows sheet w.entries w.shown
  pub lacks : ¬ HasTarget w.shown t

-- the set is added with such an assignment, or there is none
abbrev pub AddsLacking : Sheet → List Entry → Target → List WorldView → List WorldView → Bool → Type 0
AddsLacking sheet set t before after true = (w : WorldView) × (w.entries ≡ set) × IsLackingWorld sheet t w × (after ≡ before ++ w ∷ [])
AddsLacking sheet set t before after false = Entails sheet set t

-- each of the sets is there with such an assignment, or for one there is none
abbrev pub AllSay : Sheet → List WorldView → Target → List WorldView → Bool → Type 0
AllSay sheet sets t found true = (map set_of found ≡ map set_of sets) × All (IsLackingWorld sheet t) found
AllSay sheet sets t found false = (w : WorldView) × Contains sets w × Entails sheet w.entries t
