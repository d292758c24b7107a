-- What the search of a target begins with.
use Rattle.std.specs.Prelude.{◌≡◌, ℕ, Bool, List, [], All, map}
use Rattle.pc_lits.specs.declared.literal.Lit.{Lit}
use Rattle.pc_sheet.specs.declared.ids.Entry.{Entry}
use Rattle.pc_sheet.specs.declared.ids.Target.{Target}
use Rattle.pc_components.specs.Pairs.{entry_literal, target_literal}
use Rattle.pc_world_list.specs.Worlds.{WorldView}
use Rattle.pc_support.specs.declared.asking.Inquiry.{Inquiry}
use Rattle.pc_support.specs.Seen.{SeenView, IsSeen}
use Rattle.pc_support.specs.inside.Counters.{AddsCounters}
use Rattle.pc_support.specs.inside.Sets.{AreModelsOf}

-- The question is the target's, and what is known of it are counter-models, of the worlds and of assignments that were seen.
pub record IsBegun (sizes : List ℕ) (entries : List Entry) (worlds : List WorldView) (target : Target) (seen : SeenView) (i : Inquiry) : Type 0 where
  pub literals : i.question.literals.now ≡ map (entry_literal sizes) entries
  pub goal : i.question.goal ≡ target_literal sizes target
  pub watched : i.question.watched.now ≡ seen.watched
  pub no_cores : i.known.cores.items ≡ []
  pub no_rows : i.known.rows ≡ []
  pub before : List (List Bool)
  pub of_worlds : AreModelsOf entries worlds target before
  pub adds : (clauses : List (List Lit)) → All (IsSeen clauses seen.watched) seen.rows → AddsCounters clauses i.question.literals.now i.question.goal before i.known.models
