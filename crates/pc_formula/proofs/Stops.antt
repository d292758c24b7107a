-- Where a form stops.
use Rattle.std.proofs.Common.{◌≡◌, ℕ, ◌+◌, ◌<◌, ◌≤◌, List, [], ◌∷◌, Option, Some, None, inl, inr, arith, refl, sym, ◌∙◌, ap, subst}
use Rattle.std.proofs.Math.Nat.{eq-or-lt_of_le}
use Rattle.pc_name.specs.declared.sign.Op.{Op}
use Rattle.pc_name.specs.declared.sign.Op.TheVariants as ops
use Rattle.pc_name.specs.declared.sign.Sign.{Sign}
use Rattle.pc_name.specs.declared.sign.Sign.TheVariants as signs
use Rattle.pc_token.specs.declared.token.Kind.{Kind}
use Rattle.pc_token.specs.declared.token.Kind.TheVariants.{Equal, NotEqual, Less, LessEqual, Greater, GreaterEqual, And, Or, Arrow, DoubleArrow, Open, Plus, Minus}
use Rattle.pc_formula.specs.Word.{Word, sign, NotFirst}
use Rattle.pc_formula.specs.Sign.{op_sign, added_sign}
use Rattle.pc_formula.specs.Front.{reach, StopsLevel}

pub weaken : (m n : ℕ) (ws : List Word) → m ≤ n → StopsLevel n ws → StopsLevel m ws
weaken m n [] le stops = tt
weaken m n (sign k ∷ ws) le stops = omega (arith, le, stops)
weaken m n (w ∷ ws) le stops = tt

reach_some : (k : Kind) → 0 < reach k
reach_some Open = omega arith
reach_some Plus = omega arith
reach_some Minus = omega arith
reach_some Equal = omega arith
reach_some NotEqual = omega arith
reach_some Less = omega arith
reach_some LessEqual = omega arith
reach_some Greater = omega arith
reach_some GreaterEqual = omega arith
reach_some And = omega arith
reach_some Or = omega arith
reach_some Arrow = omega arith
reach_some DoubleArrow = omega arith
reach_some k = omega arith

pub stops_at_zero : (ws : List Word) → StopsLevel 0 ws
stops_at_zero [] = tt
stops_at_zero (sign k ∷ ws) = reach_some k
stops_at_zero (w ∷ ws) = tt

-- a sign up to the level doesn't come first
pub not_first : (n : ℕ) (k : Kind) (ws : List Word) → StopsLevel n ws → reach k ≤ n → NotFirst k ws
not_first n k ws stops le = λ more is.
    let here : n < reach k = subst (StopsLevel n) is stops in
    absurd (omega (arith, here, le))

-- where no sign of the next level comes first
pub further : (n : ℕ) (ws : List Word) → StopsLevel n ws → ((k : Kind) → reach k ≡ n + 1 → NotFirst k ws) → StopsLevel (n + 1) ws
further n [] stops none = tt
further n (sign k ∷ ws) stops none = elim (eq-or-lt_of_le stops) as (λ x. n + 1 < reach k) [
  | inl e ↦ absurd (none k (omega (arith, e)) ws refl)
  | inr lt ↦ omega (arith, lt)
]
further n (w ∷ ws) stops none = tt

-- ---- the signs of each level

only_open : (k : Kind) → reach k ≡ 1 → k ≡ Open
only_open Open e = refl
only_open k e = absurd (omega arith)

only_added : (k : Kind) → reach k ≡ 2 → (s : Sign) × (k ≡ added_sign s)
only_added Plus e = (signs.Plus, refl)
only_added Minus e = (signs.Minus, refl)
only_added k e = absurd (omega arith)

only_op : (k : Kind) → reach k ≡ 3 → (op : Op) × (k ≡ op_sign op)
only_op Equal e = (ops.Eq, refl)
only_op NotEqual e = (ops.Ne, refl)
only_op Less e = (ops.Lt, refl)
only_op LessEqual e = (ops.Le, refl)
only_op Greater e = (ops.Gt, refl)
only_op GreaterEqual e = (ops.Ge, refl)
only_op k e = absurd (omega arith)

only_and : (k : Kind) → reach k ≡ 4 → k ≡ And
only_and And e = refl
only_and k e = absurd (omega arith)

only_or : (k : Kind) → reach k ≡ 5 → k ≡ Or
only_or Or e = refl
only_or k e = absurd (omega arith)

only_arrow : (k : Kind) → reach k ≡ 6 → k ≡ Arrow
only_arrow Arrow e = refl
only_arrow k e = absurd (omega arith)

only_double_arrow : (k : Kind) → reach k ≡ 7 → k ≡ DoubleArrow
only_double_arrow DoubleArrow e = refl
only_double_arrow k e = absurd (omega arith)

-- a level that one sign has
single : (n : ℕ) (j : Kind) → ((k : Kind) → reach k ≡ n + 1 → k ≡ j) → (ws : List Word) → StopsLevel n ws → NotFirst j ws → StopsLevel (n + 1) ws
single n j only ws stops absent = further n ws stops (λ k e. subst (λ i. NotFirst i ws) (sym (only k e)) absent)

pub stops_item : (ws : List Word) → NotFirst Open ws → StopsLevel 1 ws
stops_item ws absent = single 0 Open only_open ws (stops_at_zero ws) absent

pub stops_side : (ws : List Word) → StopsLevel 1 ws → ((s : Sign) → NotFirst (added_sign s) ws) → StopsLevel 2 ws
stops_side ws stops none = further 1 ws stops (λ k e. let is = only_added k e in subst (λ i. NotFirst i ws) (sym is.1) (none is.0))

pub stops_unary : (ws : List Word) → StopsLevel 2 ws → ((op : Op) → NotFirst (op_sign op) ws) → StopsLevel 3 ws
stops_unary ws stops none = further 2 ws stops (λ k e. let is = only_op k e in subst (λ i. NotFirst i ws) (sym is.1) (none is.0))

pub stops_and : (ws : List Word) → StopsLevel 3 ws → NotFirst And ws → StopsLevel 4 ws
stops_and ws stops absent = single 3 And only_and ws stops absent

pub stops_or : (ws : List Word) → StopsLevel 4 ws → NotFirst Or ws → StopsLevel 5 ws
stops_or ws stops absent = single 4 Or only_or ws stops absent

pub stops_imp : (ws : List Word) → StopsLevel 5 ws → NotFirst Arrow ws → StopsLevel 6 ws
stops_imp ws stops absent = single 5 Arrow only_arrow ws stops absent

pub stops_iff : (ws : List Word) → StopsLevel 6 ws → NotFirst DoubleArrow ws → StopsLevel 7 ws
stops_iff ws stops absent = single 6 DoubleArrow only_double_arrow ws stops absent

-- ---- at the signs

pub op_stops : (op : Op) (ws : List Word) → StopsLevel 2 (sign (op_sign op) ∷ ws)
op_stops ops.Eq ws = omega arith
op_stops ops.Ne ws = omega arith
op_stops ops.Lt ws = omega arith
op_stops ops.Le ws = omega arith
op_stops ops.Gt ws = omega arith
op_stops ops.Ge ws = omega arith

pub added_stops : (s : Sign) (ws : List Word) → StopsLevel 1 (sign (added_sign s) ∷ ws)
added_stops signs.Plus ws = omega arith
added_stops signs.Minus ws = omega arith

-- an operator, or an added item's sign, comes first or the level stops
pub op_first : (op : Op) (ws more : List Word) → StopsLevel 3 ws → ws ≡ sign (op_sign op) ∷ more → ⊥
op_first ops.Eq ws more stops is = not_first 3 Equal ws stops (omega arith) more is
op_first ops.Ne ws more stops is = not_first 3 NotEqual ws stops (omega arith) more is
op_first ops.Lt ws more stops is = not_first 3 Less ws stops (omega arith) more is
op_first ops.Le ws more stops is = not_first 3 LessEqual ws stops (omega arith) more is
op_first ops.Gt ws more stops is = not_first 3 Greater ws stops (omega arith) more is
op_first ops.Ge ws more stops is = not_first 3 GreaterEqual ws stops (omega arith) more is

pub added_first : (s : Sign) (ws more : List Word) → StopsLevel 2 ws → ws ≡ sign (added_sign s) ∷ more → ⊥
added_first signs.Plus ws more stops is = not_first 2 Plus ws stops (omega arith) more is
added_first signs.Minus ws more stops is = not_first 2 Minus ws stops (omega arith) more is

-- ---- a sign writes one operator

op_of : Kind → Option Op
op_of Equal = Some ops.Eq
op_of NotEqual = Some ops.Ne
op_of Less = Some ops.Lt
op_of LessEqual = Some ops.Le
op_of Greater = Some ops.Gt
op_of GreaterEqual = Some ops.Ge
op_of k = None

op_of_sign : (o : Op) → op_of (op_sign o) ≡ Some o
unfolding op_of
op_of_sign ops.Eq = refl
op_of_sign ops.Ne = refl
op_of_sign ops.Lt = refl
op_of_sign ops.Le = refl
op_of_sign ops.Gt = refl
op_of_sign ops.Ge = refl

pub same_op : (o p : Op) → op_sign o ≡ op_sign p → o ≡ p
same_op o p e =
    let both : Some o ≡ Some p = sym (op_of_sign o) ∙ ap op_of e ∙ op_of_sign p in
    cc

pub same_added : (s t : Sign) → added_sign s ≡ added_sign t → s ≡ t
same_added signs.Plus signs.Plus e = refl
same_added signs.Plus signs.Minus e = cc
same_added signs.Minus signs.Plus e = cc
same_added signs.Minus signs.Minus e = refl
