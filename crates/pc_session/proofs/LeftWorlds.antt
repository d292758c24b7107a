-- The worlds of a part where entries are taken away.
use Rattle.std.proofs.Common.{◌≡◌, ℕ, ◌<◌, Bool, List, [], length, get_or, sym, subst}
use Rattle.pc_sheet.specs.Sheet.{Sheet}
use Rattle.pc_sheet.specs.WellFormed.{IsWellFormed}
use Rattle.pc_sheet.specs.declared.ids.Entry.{Entry}
use Rattle.pc_parts.specs.Parts.{Part}
use Rattle.pc_justify_laws.specs.Edits.{edited}
use Rattle.pc_cache.specs.Rows.{TargetRow}
use Rattle.pc_world_list.specs.Worlds.{WorldView}
use Rattle.pc_search.specs.Parts.{AreWorldsOf}
use Rattle.pc_theory.specs.Theories.{rules_alone, TheoryView, IsPartNumbered}
use Rattle.pc_session.specs.inside.Sessions.{IsSession}
use Rattle.pc_session.proofs.Placing.{world_at}

pub worlds_new : (sheet new : Sheet) (theory : TheoryView) (worlds : List (List WorldView)) (rows : List TargetRow) (session : IsSession sheet theory worlds rows) (formed : IsWellFormed sheet) (gone : Entry → Bool) → new ≡ edited sheet gone []
    → (i : ℕ) → i < length worlds → (ws left : List WorldView) → ws ≡ get_or worlds i ws → ((q : Part) → AreWorldsOf sheet q ws → AreWorldsOf new q left) → (q : Part) → IsPartNumbered (rules_alone new) i q → AreWorldsOf new q left
worlds_new sheet new theory worlds rows session formed gone is_new i below ws left is gives q at =
    let at_old : IsPartNumbered (rules_alone sheet) i q = subst (λ x. IsPartNumbered (rules_alone x) i q) is_new at in
    gives q (subst (AreWorldsOf sheet q) (sym is) (world_at sheet theory worlds rows session formed i q ws below at_old))

-- a copy of a part's worlds
pub worlds_copied : (sheet : Sheet) (theory : TheoryView) (worlds : List (List WorldView)) (rows : List TargetRow) (session : IsSession sheet theory worlds rows) (formed : IsWellFormed sheet)
    → (i : ℕ) → i < length worlds → (ws copied : List WorldView) → ws ≡ get_or worlds i ws → copied ≡ ws → (q : Part) → IsPartNumbered (rules_alone sheet) i q → AreWorldsOf sheet q copied
worlds_copied sheet theory worlds rows session formed i below ws copied is are q at = subst (AreWorldsOf sheet q) (sym are) (subst (AreWorldsOf sheet q) (sym is) (world_at sheet theory worlds rows session formed i q ws below at))
