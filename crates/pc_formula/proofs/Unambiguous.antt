-- Words derive at most one formula.
use Rattle.std.proofs.Common.{◌≡◌, ℤ, List, [], ◌∷◌, ◌++◌, refl, sym, subst, arith}
use Rattle.std.proofs.lemmas.List.{append-nil, append_assoc}
use Rattle.pc_name.specs.declared.sign.Sign.{Sign}
use Rattle.pc_token.specs.declared.token.Kind.TheVariants.{Open, Close, Colon, Dot}
use Rattle.pc_formula.specs.Word.{Word, name, sign}
use Rattle.pc_formula.specs.Tree.{Item, named, items_of, Side, Formula, in_table}
use Rattle.pc_formula.specs.Front.{StopsLevel, Reads}
use Rattle.pc_formula.specs.Value.{DerivesInt, Listed}
use Rattle.pc_formula.specs.Side.{DerivesItem, integer_item, bare_item, applied_item, DerivesItems, last_item, next_item, Adds, nothing_added, added, DerivesSide, a_side}
use Rattle.pc_formula.specs.Grammar.{Joint, by_or, Form, whole, iffs, imps, joined, unary, level, part_form, IsFormula, Derives, quantifier, no_quantifier, iff_one, iff_two, imp_one, imp_two, join, negation, group, comparison, table_atom, Goes_on, no_more, one_more}
use Rattle.pc_formula.proofs.Stops.{weaken, stops_at_zero, not_first, op_stops, op_first, added_first}
use Rattle.pc_formula.proofs.ValueForms.{int_no_name, int_once}
use Rattle.pc_formula.proofs.Lists.{Lists, lists_start, lists_next, lists_end}
use Rattle.pc_formula.proofs.Sides.{items_read, item_integer, item_bare, item_applied, Sums, sums_start, sums_next, sums_end, adds_stop, side_reads}
use Rattle.pc_formula.proofs.Joining.{Joins, joins_first, joins_next, joins_end, mid_stops, no_sign}
use Rattle.pc_formula.proofs.Readings.{or_stops, imp_stops, imp_reads_one, imp_reads_two, iff_reads_one, iff_reads_two}
use Rattle.pc_formula.proofs.Unaries.{close_stops, side_first, table_side, is_table, not_reads, group_reads, comparison_reads, table_reads}
use Rattle.pc_formula.proofs.Quantifiers.{unreserved, plain_reads, quantified_reads}

-- ---- what is derived, where the form doesn't go on, is what is read

reads_int : (ws : List Word) (z : ℤ) (rest : List Word) → DerivesInt ws z rest → Reads DerivesInt 0 ws z rest
reads_int ws z rest d = record { derives = d; stops = stops_at_zero rest; only = λ y there e stops. int_once ws y z there rest e d }

mutual
  reads_item : (ws : List Word) (i : Item) (rest : List Word) → DerivesItem ws i rest → StopsLevel 1 rest → Reads DerivesItem 1 ws i rest
  reads_item ws i rest (integer_item {z = z} d) stops = item_integer ws z rest (int_no_name ws z rest d) (reads_int ws z rest d) stops
  reads_item ws i rest (bare_item text) stops = item_bare ws text rest refl (not_first 1 Open rest stops (omega arith))
  reads_item ws i rest (applied_item {ws = there} {args = args} text d) stops =
      item_applied ws text (sign Open ∷ there) refl there refl args rest (items_read there args rest (reads_items there [] there args rest (lists_start DerivesItem there) d)) stops

  reads_items : (old : List Word) (seen : List Item) (now : List Word) (args : List Item) (rest : List Word) → Lists DerivesItem old seen now → DerivesItems now args rest → Reads (Listed DerivesItem) 0 old (seen ++ args) rest
  reads_items old seen now args rest so_far (last_item {i = i} d) = lists_end DerivesItem 1 (omega arith) old seen now so_far i (sign Close ∷ rest) (reads_item now i (sign Close ∷ rest) d (omega arith)) rest refl
  reads_items old seen now args rest so_far (next_item {mid = mid} {i = i} {more = more} d tail) =
      subst (λ l. Reads (Listed DerivesItem) 0 old l rest) (append_assoc seen (i ∷ []) more)
      (reads_items old (seen ++ i ∷ []) mid more rest (lists_next DerivesItem 1 (omega arith) old seen now so_far i (sign _ ∷ mid) (reads_item now i (sign _ ∷ mid) d (omega arith)) mid refl) tail)

sums : (old : List Word) (seen : List (Sign × Item)) (now : List Word) (more : List (Sign × Item)) (rest : List Word) → Sums old seen now → Adds now more rest → StopsLevel 2 rest → Sums old (seen ++ more) rest
sums old seen now more rest so_far nothing_added stops = subst (λ l. Sums old l now) (sym (append-nil seen)) so_far
sums old seen now more rest so_far (added {ws = there} {mid = mid} {i = i} {more = others} s d tail) stops =
    subst (λ l. Sums old l rest) (append_assoc seen ((s, i) ∷ []) others)
    (sums old (seen ++ (s, i) ∷ []) mid others rest (sums_next old seen now so_far s there refl i mid (reads_item there i mid d (adds_stop mid others rest tail stops))) tail stops)

reads_side : (ws : List Word) (s : Side) (rest : List Word) → DerivesSide ws s rest → StopsLevel 2 rest → Reads DerivesSide 2 ws s rest
reads_side ws s rest (a_side {mid = mid} {i = i} {more = more} d e) stops =
    let stop = adds_stop mid more rest e stops in
    side_reads ws i mid more rest (reads_item ws i mid d stop) (sums_end mid more rest (sums mid [] mid more rest (sums_start mid stop) e stops) (λ t there is. added_first t rest there stops is))

mutual
  pub reads : (form : Form) (ws : List Word) (f : Formula) (rest : List Word) → Derives form ws f rest → StopsLevel (level form) rest → Reads (Derives form) (level form) ws f rest
  reads form ws h rest (quantifier {next = there} {q = q} {f = f} variable sort e d) stops =
      quantified_reads ws (name variable ∷ sign Colon ∷ name sort ∷ sign Dot ∷ there) q e variable sort there refl f rest (reads whole there f rest d stops)
  reads form ws f rest (no_quantifier d) stops = plain_reads ws (unreserved iffs ws f rest d (λ e. cc)) f rest (reads iffs ws f rest d stops)
  reads form ws f rest (iff_one d) stops = iff_reads_one ws f rest (reads imps ws f rest d (weaken 6 7 rest (omega arith) stops)) (not_first 7 _ rest stops (omega arith))
  reads form ws h rest (iff_two {mid = mid} {f = f} {g = g} d e) stops =
      iff_reads_two ws f g mid rest (reads imps ws f (sign _ ∷ mid) d (imp_stops mid)) (reads imps mid g rest e (weaken 6 7 rest (omega arith) stops)) (not_first 7 _ rest stops (omega arith))
  reads form ws f rest (imp_one d) stops = imp_reads_one ws f rest (reads (joined by_or) ws f rest d (weaken 5 6 rest (omega arith) stops)) (not_first 6 _ rest stops (omega arith))
  reads form ws h rest (imp_two {mid = mid} {f = f} {g = g} d e) stops = imp_reads_two ws f g mid rest (reads (joined by_or) ws f (sign _ ∷ mid) d (or_stops mid)) (reads imps mid g rest e stops)
  reads form ws h rest (join {j = j} {mid = mid} {f = f} {fs = fs} d more) stops =
      joins_end j ws (f ∷ fs) rest (joins j ws (f ∷ []) mid fs rest (joins_first j ws f mid (reads (part_form j) ws f mid d (mid_stops j mid fs rest more stops))) more stops) (no_sign j rest stops)
  reads form ws h rest (negation {ws = there} {f = f} d) stops = not_reads ws there f rest refl (reads unary there f rest d stops)
  reads form ws f rest (group {ws = there} d) stops = group_reads ws there refl f (sign _ ∷ rest) (reads whole there f (sign _ ∷ rest) d (close_stops rest)) rest refl stops
  reads form ws h rest (comparison {mid = mid} {left = left} {right = right} op d e) stops =
      let starts = side_first ws left (sign _ ∷ mid) d in
      comparison_reads ws starts.0 starts.1 left (sign _ ∷ mid) (reads_side ws left (sign _ ∷ mid) d (op_stops op mid)) op mid refl right rest (reads_side mid right rest e (weaken 2 3 rest (omega arith) stops)) stops
  reads form ws h rest (table_atom {ws = there} {args = args} text d) stops =
      table_reads ws (λ more is. cc) (λ more is. cc) (record { first = named text (items_of args); rest = [] }) rest (reads_side ws (record { first = named text (items_of args); rest = [] }) rest (table_side there text args rest d) (weaken 2 3 rest (omega arith) stops)) (λ op more is. op_first op rest more stops is) (in_table text args) (is_table there text args rest d) stops

  joins : (j : Joint) (old : List Word) (before : List Formula) (mid : List Word) (fs : List Formula) (rest : List Word) → Joins j old before mid → Goes_on j mid fs rest → StopsLevel (level (joined j)) rest → Joins j old (before ++ fs) rest
  joins j old before mid fs rest so_far no_more stops = subst (λ l. Joins j old l mid) (sym (append-nil before)) so_far
  joins j old before mid fs rest so_far (one_more {ws = ws} {mid = next} {f = g} {fs = others} d more) stops =
      subst (λ l. Joins j old l rest) (append_assoc before (g ∷ []) others)
      (joins j old (before ++ g ∷ []) next others rest (joins_next j old before mid ws next g so_far refl (reads (part_form j) ws g next d (mid_stops j next others rest more stops))) more stops)

pub one_tree : (ws : List Word) (f g : Formula) → IsFormula ws f → IsFormula ws g → f ≡ g
one_tree ws f g one other = sym ((reads whole ws f [] one tt).only g [] other tt).0
