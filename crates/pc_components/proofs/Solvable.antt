-- A part's axioms and variables are a problem for a solver.
use Rattle.std.proofs.Common.{◌≡◌, ◌≢◌, ℕ, ◌<◌, List, [], length, get_or, map, All, AllPairs, Contains, ap, arith, refl, subst}
use Rattle.std.proofs.lemmas.Option.{slice_get-get_or}
use Rattle.std.proofs.lemmas.List.{get_or-map, length-map}
use Rattle.pc_lits.specs.declared.literal.Lit.{Lit}
use Rattle.pc_lits.specs.declared.literal.Var.{Var}
use Rattle.pc_lemmas.proofs.Elements.{all_from, contains_map, contains_mapped}
use Rattle.pc_ground.specs.Ground.{clauses}
use Rattle.pc_ground.specs.Variables.{variable_count}
use Rattle.pc_components.specs.Laws.{PartsAreSolvable}
use Rattle.pc_components.specs.View.{variable_number}
use Rattle.pc_components.proofs.KeptRight.{parts_are_in_their_ground}

-- a variable is its number
has_variable : (own : List Var) (x : Var) → Contains (map variable_number own) x.0 → Contains own x
has_variable own x h =
    let found = contains_mapped variable_number own x.0 h in
    let same : found.0 ≡ x = ap (λ (n : ℕ). let v : Var = record { 0 = n } in v) found.2 in
    subst (Contains own) same found.1

-- in order no variable comes twice
differ : (own : List Var) → AllPairs (λ x y. x < y) (map variable_number own) → AllPairs (λ (v w : Var). v ≢ w) own
differ own order i j d before within same =
    let all : length (map variable_number own) ≡ length own = length-map own variable_number in
    let first = get_or-map variable_number own i d 0 (omega (arith, before, within)) in
    let second = get_or-map variable_number own j d 0 within in
    let less = order i j 0 before (omega (arith, within, all)) in
    let numbers = ap variable_number same in
    absurd (omega (arith, first, second, less, numbers))

pub parts_are_solvable : PartsAreSolvable
parts_are_solvable sheet part used own axs vars =
    let ground = parts_are_in_their_ground sheet part used (map variable_number own) axs vars in
    record {
      used_in = all_from (λ n. n < length (clauses sheet)) used (λ n c. ground.0 n c);
      own_in = all_from (λ (v : Var). v.0 < variable_count sheet) own (λ v c. ground.1 v.0 (contains_map variable_number own v c));
      own_differ = differ own vars.order;
      over_own = all_from (λ n. All (λ (l : Lit). Contains own l.variable) (get_or (clauses sheet) n [])) used (λ n c.
          all_from (λ (l : Lit). Contains own l.variable) (get_or (clauses sheet) n []) (λ l has.
          has_variable own l.variable ((vars.exact l.variable.0).1 (n, c, get_or (clauses sheet) n [], slice_get-get_or (clauses sheet) n [] (ground.0 n c), l, has, refl))));
    }
