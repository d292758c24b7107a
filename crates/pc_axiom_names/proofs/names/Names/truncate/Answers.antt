use Rattle.std.proofs.Common.{List, map, sym, subst, arith}
use Rattle.std.specs.List.{AllByRecursion}
use Rattle.std.proofs.lemmas.List.{take_all}
use Rattle.pc_axiom_names.specs.Keeping.{AreRising, IsStandsWithin, IsKeptWithin, paths_of, kept_paths, kept_rows}
use Rattle.pc_axiom_names.specs.declared.kept.Stands.{Stands}
use Rattle.pc_axiom_names.specs.declared.kept.KeptName.{KeptName}
use Rattle.pc_axiom_names.proofs.Fewer.{names_fewer, within_fewer}
use Rattle.pc_axiom_names.proofs.Rising.{rising_first, places_first}
use Rattle.pc_axiom_names.proofs.names.Names.truncate.Goals as goal

pub paths_for_all-own-requires : goal.paths_for_all-own-requires
paths_for_all-own-requires c =
    let P : List Stands → Type 0 = λ vs. AreRising 0 (map paths_of vs) in
    subst P (sym c.deref.ensures.value) (rising_first paths_of c.self.inside.variables.items c.truncate.new.self.items c.args.variables c.truncate.ensures.items c.self.invariant.1.0)

pub kept_for_all-paths-requires-clause-paths : goal.kept_for_all-paths-requires-clause-paths
kept_for_all-paths-requires-clause-paths c =
    let P : List KeptName → Type 0 = λ xs. AreRising 0 (map kept_paths xs) in
    subst P (sym c.deref-2.ensures.value) (rising_first kept_paths c.self.inside.axioms.items c.truncate-2.new.self.items c.args.axioms c.truncate-2.ensures.items c.self.invariant.1.1)

pub kept_for_all-paths-requires-clause-rows : goal.kept_for_all-paths-requires-clause-rows
kept_for_all-paths-requires-clause-rows c =
    let P : List KeptName → Type 0 = λ xs. AreRising 0 (map kept_rows xs) in
    subst P (sym c.deref-2.ensures.value) (rising_first kept_rows c.self.inside.axioms.items c.truncate-2.new.self.items c.args.axioms c.truncate-2.ensures.items c.self.invariant.1.2)

pub returns-then-rows-len : goal.returns-then-rows-len
returns-then-rows-len c =
    let own = c.self.inside in
    let r = c.kept_for_all-paths.result in
    let P : List Stands → Type 0 = AllByRecursion (IsStandsWithin c.paths_for_all-own.result) in
    let Q : List KeptName → Type 0 = AllByRecursion (IsKeptWithin r.0 r.1) in
    names_fewer own.paths.items own.reads r.0 r.1 c.truncate-3.new.self.items c.truncate-then-rows-len.new.self c.paths_for_all-own.result own.variables.items c.truncate.new.self.items own.axioms.items c.truncate-2.new.self.items
    c.args.variables c.args.axioms c.args.self.now c.kept_for_all-paths.ensures.paths c.truncate.ensures.items c.truncate-2.ensures.items (subst P c.deref.ensures.value c.paths_for_all-own.ensures)
    (subst Q c.deref-2.ensures.value c.kept_for_all-paths.ensures.within) c.truncate-3.ensures.items c.truncate-then-rows-len.ensures c.self.view_is

pub returns-else-rows-len : goal.returns-else-rows-len
returns-else-rows-len c =
    let own = c.self.inside in
    let r = c.kept_for_all-paths.result in
    let P : List Stands → Type 0 = AllByRecursion (IsStandsWithin c.paths_for_all-own.result) in
    let Q : List KeptName → Type 0 = AllByRecursion (IsKeptWithin r.0 r.1) in
    let few = c.len.ensures in
    let not_less = c.if-rows-len.false in
    names_fewer own.paths.items own.reads r.0 r.1 c.truncate-3.new.self.items own.reads c.paths_for_all-own.result own.variables.items c.truncate.new.self.items own.axioms.items c.truncate-2.new.self.items
    c.args.variables c.args.axioms c.args.self.now c.kept_for_all-paths.ensures.paths c.truncate.ensures.items c.truncate-2.ensures.items (subst P c.deref.ensures.value c.paths_for_all-own.ensures)
    (subst Q c.deref-2.ensures.value c.kept_for_all-paths.ensures.within) c.truncate-3.ensures.items (sym (take_all r.1 own.reads (omega (arith, few, not_less)))) c.self.view_is

pub invariant_of-self : goal.invariant_of-self
invariant_of-self c =
    let own = c.self.inside in
    let r = c.kept_for_all-paths.result in
    let P : List Stands → Type 0 = AllByRecursion (IsStandsWithin c.paths_for_all-own.result) in
    let Q : List KeptName → Type 0 = AllByRecursion (IsKeptWithin r.0 r.1) in (
      within_fewer own.paths.items own.reads r.0 r.1 c.truncate-3.new.self.items c.truncate-then-rows-len.new.self c.paths_for_all-own.result own.variables.items c.truncate.new.self.items own.axioms.items c.truncate-2.new.self.items
          c.args.variables c.args.axioms c.kept_for_all-paths.ensures.paths c.truncate.ensures.items c.truncate-2.ensures.items (subst P c.deref.ensures.value c.paths_for_all-own.ensures) (subst Q c.deref-2.ensures.value c.kept_for_all-paths.ensures.within)
          c.truncate-3.ensures.items c.truncate-then-rows-len.ensures c.self.invariant.0,
      places_first own.variables.items c.truncate.new.self.items own.axioms.items c.truncate-2.new.self.items c.args.variables c.args.axioms c.truncate.ensures.items c.truncate-2.ensures.items c.self.invariant.1,
    )

pub invariant_of-self-else-rows-len : goal.invariant_of-self-else-rows-len
invariant_of-self-else-rows-len c =
    let own = c.self.inside in
    let r = c.kept_for_all-paths.result in
    let P : List Stands → Type 0 = AllByRecursion (IsStandsWithin c.paths_for_all-own.result) in
    let Q : List KeptName → Type 0 = AllByRecursion (IsKeptWithin r.0 r.1) in
    let few = c.len.ensures in
    let not_less = c.if-rows-len.false in (
      within_fewer own.paths.items own.reads r.0 r.1 c.truncate-3.new.self.items own.reads c.paths_for_all-own.result own.variables.items c.truncate.new.self.items own.axioms.items c.truncate-2.new.self.items c.args.variables c.args.axioms
          c.kept_for_all-paths.ensures.paths c.truncate.ensures.items c.truncate-2.ensures.items (subst P c.deref.ensures.value c.paths_for_all-own.ensures) (subst Q c.deref-2.ensures.value c.kept_for_all-paths.ensures.within) c.truncate-3.ensures.items
          (sym (take_all r.1 own.reads (omega (arith, few, not_less)))) c.self.invariant.0,
      places_first own.variables.items c.truncate.new.self.items own.axioms.items c.truncate-2.new.self.items c.args.variables c.args.axioms c.truncate.ensures.items c.truncate-2.ensures.items c.self.invariant.1,
    )
