-- Where nothing is banned.
use Rattle.std.proofs.Common.{ℕ, ◌+◌, ◌≤◌, Bool, Option, List, [], ◌∷◌, inl, inr, arith}
use Rattle.pc_lits.specs.declared.literal.Lit.{Lit}
use Rattle.pc_lits.specs.Values.{MakesTrue}
use Rattle.pc_propagate.specs.declared.trail.TrailEntry.{TrailEntry}
use Rattle.pc_analyze.specs.FirstPoint.{IsWay, IsWayBy, IsBannedAt, GivesWay, IsOfFirstPoint, IsOfFirstFreePoint}
use Rattle.pc_analyze.specs.Laws.{FirstFreePointsAreFirst}

pub nothing_banned : (m : Lit) → ¬ MakesTrue [] m
nothing_banned m h = cc

module _ (axioms more : List (List Lit)) (banned : List (Option Bool)) (entries : List TrailEntry) (conflict : List Lit) (none : (m : Lit) → ¬ MakesTrue banned m) where
  pub none_at : (k : ℕ) → ¬ IsBannedAt banned entries k
  none_at k is = none is.0 is.2

  way_past : (place k : ℕ) (way : List ℕ) → IsWayBy axioms more entries conflict (GivesWay banned entries place) k way → IsWay axioms more entries conflict (place + 1) k way
  way_past place k [] h = h
  way_past place k (next ∷ rest) h =
      let later : place + 1 ≤ next = elim h.0 [ inl after ↦ omega (arith, after) | inr is ↦ absurd (none_at next is) ] in
      (later, h.1, way_past place next rest h.2)

  way_given : (place k : ℕ) (way : List ℕ) → IsWay axioms more entries conflict (place + 1) k way → IsWayBy axioms more entries conflict (GivesWay banned entries place) k way
  way_given place k [] h = h
  way_given place k (next ∷ rest) h = (inl (omega (arith, h.0)), h.1, way_given place next rest h.2)

  are_first : (level : ℕ) (clause : List Lit) → IsOfFirstFreePoint axioms more banned entries conflict level clause → IsOfFirstPoint axioms more entries conflict level clause
  are_first level clause h = record {
    place = h.place;
    first = record {
      of_level = h.first.of_level;
      leads = h.first.leads;
      all_pass = h.first.all_pass;
      none_later = λ k after within is. elim (h.first.none_later k after within is) [ inl banned_here ↦ absurd (none_at k banned_here) | inr passed ↦ passed ];
    };
    exactly = λ m. (
      λ has. let at = (h.exactly m).0 has in (at.0, at.1, at.3, (at.4.0, way_past h.place at.0 at.4.0 at.4.1)),
      λ at. (h.exactly m).1 (at.0, at.1, none_at at.0, at.2, (at.3.0, way_given h.place at.0 at.3.0 at.3.1)),
    );
  }

pub first_free_points_are_first : FirstFreePointsAreFirst
first_free_points_are_first axioms more banned entries conflict level clause none h = are_first axioms more banned entries conflict none level clause h
