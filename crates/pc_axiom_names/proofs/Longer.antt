-- Names stay what they are when more paths and reads are kept.
use Rattle.std.proofs.Common.{◌≡◌, ℕ, zero, suc, ◌<◌, ◌≤◌, List, [], ◌∷◌, ◌++◌, map, length, take, slice_get, slice_index_or, Result, Ok, Err, refl, arith}
use Rattle.std.specs.List.{AllByRecursion}
use Rattle.std.specs.Result.{OnErr}
use Rattle.std.proofs.lemmas.List.{map-append}
use Rattle.pc_sheet.specs.declared.nodes.NodePath.{NodePath}
use Rattle.pc_sheet.specs.declared.ids.CellId.{CellId}
use Rattle.pc_sheet.specs.declared.ids.Entry.{Entry}
use Rattle.pc_sheet.specs.declared.ids.ValueId.{ValueId}
use Rattle.pc_accept.specs.Literals.{node}
use Rattle.pc_accept.specs.Axioms.{Axiom}
use Rattle.pc_axiom_names.specs.declared.kept.Stands.{Stands}
use Rattle.pc_axiom_names.specs.declared.kept.Stands.TheVariants.{Pair, Node}
use Rattle.pc_axiom_names.specs.declared.kept.KeptName.{KeptName}
use Rattle.pc_axiom_names.specs.declared.kept.KeptName.TheVariants.{Any, One, Rule, Node as Part, Atom}
use Rattle.pc_axiom_names.specs.Listed.{NameLists, with_variable, with_axiom}
use Rattle.pc_axiom_names.specs.Keeping.{IsPathAt, symbol_in, axiom_in, IsStandsWithin, IsKeptWithin, AreNamesWithin, names_in}

-- ---- look-ups in a longer list

pub get_longer : {X : Type 0} (xs ys : List X) → take (length xs) ys ≡ xs → (k : ℕ) → k < length xs → slice_get ys k ≡ slice_get xs k
get_longer [] ys h k l = absurd (omega arith)
get_longer (x ∷ xs) [] h k l = absurd (cc)
get_longer (x ∷ xs) (y ∷ ys) h zero l = cc
get_longer (x ∷ xs) (y ∷ ys) h (suc k) l = get_longer xs ys (cc) k (omega arith)

pub index_longer : {X : Type 0} (xs ys : List X) (d : X) → take (length xs) ys ≡ xs → (k : ℕ) → k < length xs → slice_index_or ys k d ≡ slice_index_or xs k d
index_longer [] ys d h k l = absurd (omega arith)
index_longer (x ∷ xs) [] d h k l = absurd (cc)
index_longer (x ∷ xs) (y ∷ ys) d h zero l = cc
index_longer (x ∷ xs) (y ∷ ys) d h (suc k) l = index_longer xs ys d (cc) k (omega arith)

pub length_longer : {X : Type 0} (xs ys : List X) → take (length xs) ys ≡ xs → length xs ≤ length ys
length_longer [] ys h = omega arith
length_longer (x ∷ xs) [] h = absurd (cc)
length_longer (x ∷ xs) (y ∷ ys) h = let rest = length_longer xs ys (cc) in omega arith

-- ---- answers

pub on_err : {X E P : Type 0} (r : Result X E) → P → OnErr r P
on_err (Ok x) p = tt
on_err (Err e) p = p

-- ---- names

module _ (ps qs : List NodePath) (rs ss : List (List Entry)) (p : take (length ps) qs ≡ ps) (r : take (length rs) ss ≡ rs) where
  symbol_longer : (v : Stands) → IsStandsWithin (length ps) v → symbol_in qs v ≡ symbol_in ps v
  symbol_longer (Pair c v) h = refl
  symbol_longer (Node k) h = let e = get_longer ps qs p k h in cc

  axiom_longer : (a : KeptName) → IsKeptWithin (length ps) (length rs) a → axiom_in qs ss a ≡ axiom_in ps rs a
  axiom_longer (Any c) h = refl
  axiom_longer (One c v w) h = refl
  axiom_longer (Rule n) h = refl
  axiom_longer (Part k i) h = let e = get_longer ps qs p k h in cc
  axiom_longer (Atom k i) h = let e = get_longer ps qs p k h.0 in let f = index_longer rs ss [] r i h.1 in cc

  symbols_longer : (vs : List Stands) → AllByRecursion (IsStandsWithin (length ps)) vs → map (symbol_in qs) vs ≡ map (symbol_in ps) vs
  symbols_longer [] h = refl
  symbols_longer (v ∷ vs) h = let e = symbol_longer v h.0 in let f = symbols_longer vs h.1 in cc

  axioms_longer : (xs : List KeptName) → AllByRecursion (IsKeptWithin (length ps) (length rs)) xs → map (axiom_in qs ss) xs ≡ map (axiom_in ps rs) xs
  axioms_longer [] h = refl
  axioms_longer (x ∷ xs) h = let e = axiom_longer x h.0 in let f = axioms_longer xs h.1 in cc

  pub names_longer : (vs : List Stands) (xs : List KeptName) (m : NameLists) → AreNamesWithin ps rs vs xs → names_in ps rs vs xs ≡ m → names_in qs ss vs xs ≡ m
  names_longer vs xs m h e = let f = symbols_longer vs h.0 in let g = axioms_longer xs h.1 in cc

  stands_within : (v : Stands) → IsStandsWithin (length ps) v → IsStandsWithin (length qs) v
  stands_within (Pair c v) h = tt
  stands_within (Node k) h = let l = length_longer ps qs p in omega arith

  kept_within : (a : KeptName) → IsKeptWithin (length ps) (length rs) a → IsKeptWithin (length qs) (length ss) a
  kept_within (Any c) h = tt
  kept_within (One c v w) h = tt
  kept_within (Rule n) h = tt
  kept_within (Part k i) h = let l = length_longer ps qs p in omega arith
  kept_within (Atom k i) h = let l = length_longer ps qs p in let m = length_longer rs ss r in (omega arith, omega arith)

  all_stands_within : (vs : List Stands) → AllByRecursion (IsStandsWithin (length ps)) vs → AllByRecursion (IsStandsWithin (length qs)) vs
  all_stands_within [] h = tt
  all_stands_within (v ∷ vs) h = (stands_within v h.0, all_stands_within vs h.1)

  all_kept_within : (xs : List KeptName) → AllByRecursion (IsKeptWithin (length ps) (length rs)) xs → AllByRecursion (IsKeptWithin (length qs) (length ss)) xs
  all_kept_within [] h = tt
  all_kept_within (x ∷ xs) h = (kept_within x h.0, all_kept_within xs h.1)

  pub within_longer : (vs : List Stands) (xs : List KeptName) → AreNamesWithin ps rs vs xs → AreNamesWithin qs ss vs xs
  within_longer vs xs h = (all_stands_within vs h.0, all_kept_within xs h.1)

-- ---- one more name

all_push : {X : Type 0} (P : X → Type 0) (xs : List X) (x : X) → AllByRecursion P xs → P x → AllByRecursion P (xs ++ x ∷ [])
all_push P [] y h p = (p, tt)
all_push P (x ∷ xs) y h p = (h.0, all_push P xs y h.1 p)

module _ (ps : List NodePath) (rs : List (List Entry)) (vs : List Stands) (xs : List KeptName) where
  pub pair_within : (c : CellId) (v : ValueId) → AreNamesWithin ps rs vs xs → AreNamesWithin ps rs (vs ++ Pair c v ∷ []) xs
  pair_within c v h = (all_push (IsStandsWithin (length ps)) vs (Pair c v) h.0 tt, h.1)

  pub node_within : (k rule : ℕ) (steps : List ℕ) → AreNamesWithin ps rs vs xs → IsPathAt ps k rule steps → AreNamesWithin ps rs (vs ++ Node k ∷ []) xs
  node_within k rule steps h at = (all_push (IsStandsWithin (length ps)) vs (Node k) h.0 at.0, h.1)

  pub node_added : (k rule : ℕ) (steps : List ℕ) (m : NameLists) → names_in ps rs vs xs ≡ m → IsPathAt ps k rule steps → names_in ps rs (vs ++ Node k ∷ []) xs ≡ with_variable m (node rule steps)
  node_added k rule steps m e at =
      let f = map-append (symbol_in ps) vs (Node k ∷ []) in
      let g : symbol_in ps (Node k) ≡ node rule steps = (let a = at.1 in let b = at.2 in cc) in
      cc

  pub axiom_within : (x : KeptName) → AreNamesWithin ps rs vs xs → IsKeptWithin (length ps) (length rs) x → AreNamesWithin ps rs vs (xs ++ x ∷ [])
  axiom_within x h within = (h.0, all_push (IsKeptWithin (length ps) (length rs)) xs x h.1 within)

  pub axiom_added : (x : KeptName) (a : Axiom) (m : NameLists) → names_in ps rs vs xs ≡ m → axiom_in ps rs x ≡ a → names_in ps rs vs (xs ++ x ∷ []) ≡ with_axiom m a
  axiom_added x a m e g = let f = map-append (axiom_in ps rs) xs (x ∷ []) in cc
