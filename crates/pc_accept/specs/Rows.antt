-- The clauses of counting quantifiers and their counters, as rows of parts: where a part is known to be true there is no clause, and what is known to be false is left out.
use Rattle.std.specs.Prelude.{◌≡◌, ℕ, zero, suc, ◌-◌, ◌*◌, ◌/◌, ◌%◌, Bool, true, false, not, cond, nat_lt, List, [], ◌∷◌, Option, None, Some, slice_get, IsSomeAnd}
use Rattle.std.specs.Option.{option_map}
use Rattle.pc_sheet.specs.Nodes.{counter_number}
use Rattle.pc_sheet.specs.declared.nodes.NodeKind.{NodeKind}
use Rattle.pc_sheet.specs.declared.nodes.NodeKind.TheVariants.{Atom, Not, And, Or, Implies, Iff, ForAll, Exists, Count, Counter}

-- what is known to be true or false, or a literal
pub data Part (L : Type 0) : Type 0 where
  fixed : Bool → Part L
  literal : L → Part L

-- the literals of a row, where no part of it is known to be true
abbrev pub clause_of : {L : Type 0} → List (Part L) → Option (List L)
clause_of [] = Some []
clause_of (fixed true ∷ ps) = None
clause_of (fixed false ∷ ps) = clause_of ps
clause_of (literal l ∷ ps) = option_map (λ ls. l ∷ ls) (clause_of ps)

-- the row of that number, counted from 1, is the clause; a row that is none has its number all the same
abbrev pub IsAtRow : {L : Type 0} → List (List (Part L)) → ℕ → List L → Type 0
IsAtRow rows zero clause = ⊥
IsAtRow rows (suc i) clause = IsSomeAnd (slice_get rows i) (λ row. clause_of row ≡ Some clause)

-- ---- a counting quantifier of n values and the threshold m, by the literals of its node and of its children, each with its sign

module _ {L : Type 0} (here : Bool → L) (child : ℕ → Bool → L) (n m : ℕ) where
  -- that at least j of the first i values make the body true, or that they don't: j = 0 of them always do, and j > 0 of the first 0 never
  abbrev pub counter_part : ℕ → ℕ → Bool → Part L
  counter_part i zero sign = fixed sign
  counter_part zero (suc j) sign = fixed (not sign)
  counter_part (suc i) (suc j) sign = literal (child (counter_number n m (suc i) (suc j)) sign)

  -- the node is the counter of all n values and the threshold, or its negation
  abbrev pub count_rows : Bool → List (List (Part L))
  count_rows at_most =
      (literal (here false) ∷ counter_part n m (not at_most) ∷ []) ∷
      (literal (here true) ∷ counter_part n m at_most ∷ []) ∷ []

  -- at least j + 1 of the first i + 1 values are such exactly where as many of the first i are, or one less and the last as well
  abbrev pub counter_rows : ℕ → ℕ → List (List (Part L))
  counter_rows i j =
      (counter_part (suc i) (suc j) false ∷ counter_part i (suc j) true ∷ literal (child i true) ∷ []) ∷
      (counter_part (suc i) (suc j) false ∷ counter_part i (suc j) true ∷ counter_part i j true ∷ []) ∷
      (counter_part (suc i) (suc j) true ∷ counter_part i (suc j) false ∷ []) ∷
      (counter_part (suc i) (suc j) true ∷ counter_part i j false ∷ literal (child i false) ∷ []) ∷ []

  -- of the counter of number q, where there is one
  abbrev pub rows_of_counter : ℕ → List (List (Part L))
  rows_of_counter q = cond (nat_lt q (n * m)) (counter_rows (q / m) (q % m)) []

  -- of the child of number k, where it is a counter
  abbrev pub rows_of_child : ℕ → List (List (Part L))
  rows_of_child k = cond (nat_lt k n) [] (rows_of_counter (k - n))

-- ---- by the kind of a node

module _ {L : Type 0} (here : Bool → L) (child : ℕ → Bool → L) where
  -- the rows of the node, where it is a counting quantifier
  abbrev pub rows_of_kind : NodeKind → List (List (Part L))
  rows_of_kind Atom = []
  rows_of_kind Not = []
  rows_of_kind (And k) = []
  rows_of_kind (Or k) = []
  rows_of_kind Implies = []
  rows_of_kind Iff = []
  rows_of_kind (ForAll k) = []
  rows_of_kind (Exists k) = []
  rows_of_kind (Count at_most n m) = count_rows here child n m at_most
  rows_of_kind (Counter i j) = []

  -- the rows of its child of number k, where that is a counter
  abbrev pub rows_below_kind : NodeKind → ℕ → List (List (Part L))
  rows_below_kind Atom k = []
  rows_below_kind Not k = []
  rows_below_kind (And n) k = []
  rows_below_kind (Or n) k = []
  rows_below_kind Implies k = []
  rows_below_kind Iff k = []
  rows_below_kind (ForAll n) k = []
  rows_below_kind (Exists n) k = []
  rows_below_kind (Count at_most n m) k = rows_of_child here child n m k
  rows_below_kind (Counter i j) k = []

-- ---- paths

-- what leads to the node above, and the number of the child there
abbrev pub parent_of : List ℕ → List ℕ
parent_of [] = []
parent_of (k ∷ []) = []
parent_of (k ∷ l ∷ ls) = k ∷ parent_of (l ∷ ls)

abbrev pub last_of : List ℕ → ℕ
last_of [] = 0
last_of (k ∷ []) = k
last_of (k ∷ l ∷ ls) = last_of (l ∷ ls)
