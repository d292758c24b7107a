-- What a unary form reads, by its first word.
use Rattle.std.proofs.Common.{◌≡◌, ℕ, ℤ, List, [], ◌∷◌, refl, sym, ◌∙◌, ap, subst, arith}
use Rattle.pc_name.specs.declared.sign.Op.{Op}
use Rattle.pc_token.specs.declared.token.Kind.TheVariants.{Not, Open, Close}
use Rattle.pc_formula.specs.Word.{Word, name, sign, NotFirst}
use Rattle.pc_formula.specs.Tree.{Item, named, items_of, Side, Formula, not, compare, in_table}
use Rattle.pc_formula.specs.Sign.{op_sign}
use Rattle.pc_formula.specs.Front.{StopsLevel, Reads, ReadsNone}
use Rattle.pc_formula.specs.Value.{DerivesNumber, a_number, DerivesInt, natural, negative}
use Rattle.pc_formula.specs.Side.{DerivesItem, integer_item, bare_item, applied_item, DerivesItems, last_item, next_item, Adds, nothing_added, DerivesSide, a_side}
use Rattle.pc_formula.specs.Grammar.{whole, unary, IsTableAtom, Derives, negation, group, comparison, table_atom}
use Rattle.pc_formula.proofs.Stops.{weaken, op_stops, op_first, same_op}

pub close_stops : (ws : List Word) → StopsLevel 7 (sign Close ∷ ws)
close_stops ws = omega arith

-- ---- the first word of a side

number_first : (ws : List Word) (n : ℕ) (rest : List Word) → DerivesNumber ws n rest → (NotFirst Not ws) × (NotFirst Open ws)
number_first ws n rest (a_number t) = ((λ more is. cc), (λ more is. cc))

int_first : (ws : List Word) (z : ℤ) (rest : List Word) → DerivesInt ws z rest → (NotFirst Not ws) × (NotFirst Open ws)
int_first ws z rest (natural {n = n} d) = number_first ws n rest d
int_first ws z rest (negative d) = ((λ more is. cc), (λ more is. cc))

item_first : (ws : List Word) (i : Item) (rest : List Word) → DerivesItem ws i rest → (NotFirst Not ws) × (NotFirst Open ws)
item_first ws i rest (integer_item {z = z} d) = int_first ws z rest d
item_first ws i rest (bare_item t) = ((λ more is. cc), (λ more is. cc))
item_first ws i rest (applied_item t d) = ((λ more is. cc), (λ more is. cc))

pub side_first : (ws : List Word) (s : Side) (rest : List Word) → DerivesSide ws s rest → (NotFirst Not ws) × (NotFirst Open ws)
side_first ws s rest (a_side {mid = mid} {i = i} d e) = item_first ws i mid d

-- ---- ! UNARY

from_not : (old ws : List Word) (g : Formula) (rest : List Word) → old ≡ sign Not ∷ ws → Derives unary old g rest → (f : Formula) × Derives unary ws f rest × (g ≡ not f)
from_not old ws g rest is (negation {ws = there} {f = f} d) =
    let same : there ≡ ws = cc in
    (f, subst (λ l. Derives unary l f rest) same d, refl)
from_not old ws g rest is (group d) = cc
from_not old ws g rest is (comparison {mid = mid} {left = left} op d e) = absurd ((side_first old left (sign (op_sign op) ∷ mid) d).0 ws is)
from_not old ws g rest is (table_atom text d) = cc

pub not_reads : (old ws : List Word) (f : Formula) (new : List Word) → old ≡ sign Not ∷ ws → Reads (Derives unary) 3 ws f new → Reads (Derives unary) 3 old (not f) new
not_reads old ws f new is r = record {
  derives = subst (λ l. Derives unary l (not f) new) (sym is) (negation r.derives);
  stops = r.stops;
  only = λ g rest d stops.
      let inner = from_not old ws g rest is d in
      let same = r.only inner.0 rest inner.1 stops in
      (inner.2 ∙ ap not same.0, same.1);
}

pub not_none : (old ws : List Word) → old ≡ sign Not ∷ ws → ReadsNone (Derives unary) 3 ws → ReadsNone (Derives unary) 3 old
not_none old ws is r = record {
  none = λ g rest d stops.
      let inner = from_not old ws g rest is d in
      r.none inner.0 rest inner.1 stops;
}

-- ---- ( FORMULA )

from_open : (old ws : List Word) (g : Formula) (rest : List Word) → old ≡ sign Open ∷ ws → Derives unary old g rest → Derives whole ws g (sign Close ∷ rest)
from_open old ws g rest is (negation d) = cc
from_open old ws g rest is (group {ws = there} d) =
    let same : there ≡ ws = cc in
    subst (λ l. Derives whole l g (sign Close ∷ rest)) same d
from_open old ws g rest is (comparison {mid = mid} {left = left} op d e) = absurd ((side_first old left (sign (op_sign op) ∷ mid) d).1 ws is)
from_open old ws g rest is (table_atom text d) = cc

module _ (old ws : List Word) (is : old ≡ sign Open ∷ ws) where
  pub group_none : ReadsNone (Derives whole) 7 ws → ReadsNone (Derives unary) 3 old
  group_none r = record { none = λ g rest d stops. r.none g (sign Close ∷ rest) (from_open old ws g rest is d) (close_stops rest) }

  module _ (f : Formula) (mid : List Word) (r : Reads (Derives whole) 7 ws f mid) where
    pub group_unclosed : NotFirst Close mid → ReadsNone (Derives unary) 3 old
    group_unclosed unclosed = record { none = λ g rest d stops. unclosed rest (sym (r.only g (sign Close ∷ rest) (from_open old ws g rest is d) (close_stops rest)).1) }

    module _ (new : List Word) (closed : mid ≡ sign Close ∷ new) where
      closes : (g : Formula) (rest : List Word) → Derives unary old g rest → (g ≡ f) × (rest ≡ new)
      closes g rest d =
          let same = r.only g (sign Close ∷ rest) (from_open old ws g rest is d) (close_stops rest) in
          let both : sign Close ∷ rest ≡ sign Close ∷ new = same.1 ∙ closed in
          (same.0, (cc))

      pub group_reads : StopsLevel 3 new → Reads (Derives unary) 3 old f new
      group_reads stop = record {
        derives = subst (λ l. Derives unary l f new) (sym is) (group (subst (λ l. Derives whole ws f l) closed r.derives));
        stops = stop;
        only = λ g rest d stops. closes g rest d;
      }

      pub group_goes_on : (StopsLevel 3 new → ⊥) → ReadsNone (Derives unary) 3 old
      group_goes_on goes_on = record { none = λ g rest d stops. goes_on (subst (StopsLevel 3) (closes g rest d).1 stops) }

-- ---- a side that is one name with its arguments

items_some : (ws : List Word) (args : List Item) (rest : List Word) → DerivesItems ws args rest → (first : Item) × (others : List Item) × (args ≡ first ∷ others)
items_some ws args rest (last_item {i = i} d) = (i, [], refl)
items_some ws args rest (next_item {i = i} {more = more} d tail) = (i, more, refl)

same_items : (xs ys : List Item) → items_of xs ≡ items_of ys → xs ≡ ys
same_items [] [] e = refl
same_items [] (y ∷ ys) e = cc
same_items (x ∷ xs) [] e = cc
same_items (x ∷ xs) (y ∷ ys) e =
    let rest : items_of xs ≡ items_of ys = cc in
    let more = same_items xs ys rest in
    cc

-- the side of a table's atom
pub table_side : (ws : List Word) (text : List ℕ) (args : List Item) (rest : List Word) → DerivesItems ws args rest → DerivesSide (name text ∷ sign Open ∷ ws) (record { first = named text (items_of args); rest = [] }) rest
table_side ws text args rest d = a_side (applied_item text d) nothing_added

pub is_table : (ws : List Word) (text : List ℕ) (args : List Item) (rest : List Word) → DerivesItems ws args rest → IsTableAtom (record { first = named text (items_of args); rest = [] }) (in_table text args)
is_table ws text args rest d =
    let some = items_some ws args rest d in
    record {
      table = text;
      first = some.0;
      others = some.1;
      side = ap (λ (l : List Item). record { first = named text (items_of l); rest = [] }) some.2;
      formula = ap (in_table text) some.2;
    }

applied : (ws : List Word) (i : Item) (rest : List Word) (text : List ℕ) (first : Item) (others : List Item) → DerivesItem ws i rest → i ≡ named text (items_of (first ∷ others)) → Derives unary ws (in_table text (first ∷ others)) rest
applied ws i rest text first others (integer_item d) is = cc
applied ws i rest text first others (bare_item t) is = cc
applied ws i rest text first others (applied_item {ws = inner} {args = args} t d) is =
    let texts : t ≡ text = cc in
    let lists : items_of args ≡ items_of (first ∷ others) = cc in
    let same = same_items args (first ∷ others) lists in
    subst (λ l. Derives unary (name t ∷ sign Open ∷ inner) l rest) (ap (λ n. in_table n args) texts ∙ ap (in_table text) same) (table_atom t d)

-- a side that is a table's atom derives it
to_table : (ws : List Word) (s : Side) (rest : List Word) (f : Formula) → DerivesSide ws s rest → IsTableAtom s f → Derives unary ws f rest
to_table ws s rest f (a_side {mid = mid} {i = i} {more = []} d e) t =
    let side = t.side in
    let item : i ≡ named t.table (items_of (t.first ∷ t.others)) = ap (λ (x : Side). x.first) side in
    let same : mid ≡ rest = nothing mid rest e in
    subst (λ g. Derives unary ws g rest) (sym t.formula) (subst (λ l. Derives unary ws (in_table t.table (t.first ∷ t.others)) l) same (applied ws i mid t.table t.first t.others d item))
  where
    nothing : (there end : List Word) → Adds there [] end → there ≡ end
    nothing there end nothing_added = refl
to_table ws s rest f (a_side {mid = mid} {i = i} {more = m ∷ more} d e) t =
    let clash = ap (λ (x : Side). x.rest) t.side in
    cc

pub one_table : (s : Side) (f g : Formula) → IsTableAtom s f → IsTableAtom s g → f ≡ g
one_table s f g a b =
    let both = sym a.side ∙ b.side in
    let item : named a.table (items_of (a.first ∷ a.others)) ≡ named b.table (items_of (b.first ∷ b.others)) = ap (λ (x : Side). x.first) both in
    let texts : a.table ≡ b.table = cc in
    let lists : items_of (a.first ∷ a.others) ≡ items_of (b.first ∷ b.others) = cc in
    let same = same_items (a.first ∷ a.others) (b.first ∷ b.others) lists in
    a.formula ∙ ap (λ n. in_table n (a.first ∷ a.others)) texts ∙ ap (in_table b.table) same ∙ sym b.formula

-- ---- ATOM = SIDE OP SIDE | NAME ( ITEM { , ITEM } )

-- what an atom is
data AtomOf (old : List Word) (g : Formula) (rest : List Word) : Type 0 where
  by_comparison : (mid : List Word) (left : Side) (op : Op) (right : Side) → DerivesSide old left (sign (op_sign op) ∷ mid) → DerivesSide mid right rest → g ≡ compare left op right → AtomOf old g rest
  by_table : (s : Side) → DerivesSide old s rest → IsTableAtom s g → AtomOf old g rest

from_atom : (old : List Word) (g : Formula) (rest : List Word) → NotFirst Not old → NotFirst Open old → Derives unary old g rest → AtomOf old g rest
from_atom old g rest no_not no_open (negation {ws = there} d) = absurd (no_not there refl)
from_atom old g rest no_not no_open (group {ws = there} d) = absurd (no_open there refl)
from_atom old g rest no_not no_open (comparison {mid = mid} {left = left} {right = right} op d e) = by_comparison mid left op right d e refl
from_atom old g rest no_not no_open (table_atom {ws = ws} {args = args} text d) = by_table (record { first = named text (items_of args); rest = [] }) (table_side ws text args rest d) (is_table ws text args rest d)

module _ (old : List Word) (no_not : NotFirst Not old) (no_open : NotFirst Open old) where
  pub atom_none_left : ReadsNone DerivesSide 2 old → ReadsNone (Derives unary) 3 old
  atom_none_left r = record { none = λ g rest d stops. step g rest (from_atom old g rest no_not no_open d) stops }
    where
      step : (g : Formula) (rest : List Word) → AtomOf old g rest → StopsLevel 3 rest → ⊥
      step g rest (by_comparison mid left op right d e is) stops = r.none left (sign (op_sign op) ∷ mid) d (op_stops op mid)
      step g rest (by_table s d t) stops = r.none s rest d (weaken 2 3 rest (omega arith) stops)

  module _ (left : Side) (mid : List Word) (r : Reads DerivesSide 2 old left mid) where
    -- where no comparison's sign follows
    module _ (none : (op : Op) → NotFirst (op_sign op) mid) where
      from_table : (g : Formula) (rest : List Word) → AtomOf old g rest → StopsLevel 3 rest → IsTableAtom left g × (rest ≡ mid)
      from_table g rest (by_comparison there s op t d e is) stops = absurd (none op there (sym (r.only s (sign (op_sign op) ∷ there) d (op_stops op there)).1))
      from_table g rest (by_table s d t) stops =
          let one = r.only s rest d (weaken 2 3 rest (omega arith) stops) in
          (subst (λ x. IsTableAtom x g) one.0 t, one.1)

      pub table_reads : (f : Formula) → IsTableAtom left f → StopsLevel 3 mid → Reads (Derives unary) 3 old f mid
      table_reads f t stop = record {
        derives = to_table old left mid f r.derives t;
        stops = stop;
        only = λ g rest d stops.
            let found = from_table g rest (from_atom old g rest no_not no_open d) stops in
            (one_table left g f found.0 t, found.1);
      }

      pub table_none : ((f : Formula) → IsTableAtom left f → ⊥) → ReadsNone (Derives unary) 3 old
      table_none refused = record {
        none = λ g rest d stops. refused g (from_table g rest (from_atom old g rest no_not no_open d) stops).0;
      }

    module _ (op : Op) (next : List Word) (signs : mid ≡ sign (op_sign op) ∷ next) where
      -- the right side of the comparison
      record Right (g : Formula) (rest : List Word) : Type 0 where
        right : Side
        derives : DerivesSide next right rest
        formula : g ≡ compare left op right

      from_comparison : (g : Formula) (rest : List Word) → AtomOf old g rest → StopsLevel 3 rest → Right g rest
      from_comparison g rest (by_comparison there s o t d e is) stops =
          let one = r.only s (sign (op_sign o) ∷ there) d (op_stops o there) in
          let both : sign (op_sign o) ∷ there ≡ sign (op_sign op) ∷ next = one.1 ∙ signs in
          let ops : o ≡ op = same_op o op (cc) in
          let same : there ≡ next = cc in
          record { right = t; derives = subst (λ l. DerivesSide l t rest) same e; formula = is ∙ ap (λ x. compare x o t) one.0 ∙ ap (λ p. compare left p t) ops }
      from_comparison g rest (by_table s d t) stops =
          let one = r.only s rest d (weaken 2 3 rest (omega arith) stops) in
          absurd (op_first op rest next stops (one.1 ∙ signs))

      pub comparison_none : ReadsNone DerivesSide 2 next → ReadsNone (Derives unary) 3 old
      comparison_none n = record {
        none = λ g rest d stops.
            let found = from_comparison g rest (from_atom old g rest no_not no_open d) stops in
            n.none found.right rest found.derives (weaken 2 3 rest (omega arith) stops);
      }

      module _ (right : Side) (new : List Word) (s : Reads DerivesSide 2 next right new) where
        pub comparison_reads : StopsLevel 3 new → Reads (Derives unary) 3 old (compare left op right) new
        comparison_reads stop = record {
          derives = comparison op (subst (DerivesSide old left) signs r.derives) s.derives;
          stops = stop;
          only = λ g rest d stops.
              let found = from_comparison g rest (from_atom old g rest no_not no_open d) stops in
              let one = s.only found.right rest found.derives (weaken 2 3 rest (omega arith) stops) in
              (found.formula ∙ ap (compare left op) one.0, one.1);
        }

        pub comparison_goes_on : (StopsLevel 3 new → ⊥) → ReadsNone (Derives unary) 3 old
        comparison_goes_on goes_on = record {
          none = λ g rest d stops.
              let found = from_comparison g rest (from_atom old g rest no_not no_open d) stops in
              goes_on (subst (StopsLevel 3) (s.only found.right rest found.derives (weaken 2 3 rest (omega arith) stops)).1 stops);
        }
