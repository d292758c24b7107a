-- How items, sides and statements are written, under the names and sorts of the enclosing variables.
use Rattle.std.specs.Prelude.{ℕ, Bool, true, false, List, [], ◌∷◌, ◌++◌, codes, nat_lt, cond, slice_index_or, if◌then◌else◌}
use Rattle.std.specs.List.{flat_map}
use Rattle.std.specs.Fmt.{decimal, signed_decimal}
use Rattle.pc_name.specs.declared.sign.Op.{Op}
use Rattle.pc_name.specs.declared.sign.Op.TheVariants.{Eq, Ne, Lt, Le, Gt, Ge}
use Rattle.pc_name.specs.declared.sign.Sign.{Sign}
use Rattle.pc_name.specs.declared.sign.Sign.TheVariants.{Plus, Minus}
use Rattle.pc_sheet.specs.Sheet.{listed, Sort, Table, Family, Universe, Item, Items, no_items, item, variable, constant, number, cell, Sum, Counting, no_more_than, no_fewer_than, of_first, Statement, Statements, no_statements, statement, compare, in_table, negation, all_of, some_of, implies, iff, for_all, exists, counts}
use Rattle.pc_sheet.specs.WellSorted.{Variables}
use Rattle.pc_sheet.specs.Nesting.{tightness}
use Rattle.pc_sheet.specs.declared.ids.SortId.{SortId}
use Rattle.pc_sheet.specs.declared.ids.TableId.{TableId}
use Rattle.pc_sheet.specs.declared.ids.FamilyId.{FamilyId}
use Rattle.pc_writer.specs.Spelling.{joined, value_text}

-- ---- what stands at a number

abbrev pub sort_at : Universe → SortId → Sort
sort_at u s = slice_index_or u.sorts s.0 (record { name = []; values = listed [] })

abbrev pub table_at : Universe → TableId → Table
table_at u t = slice_index_or u.tables t.0 (record { name = []; sorts = []; rows = [] })

abbrev pub family_at : Universe → FamilyId → Family
family_at u f = slice_index_or u.families f.0 (record { name = []; sorts = []; result_sort = record { 0 = 0 } })

abbrev pub sort_name : Universe → SortId → List ℕ
sort_name u s = (sort_at u s).name

-- the name of an enclosing variable, the outermost having number 0
abbrev pub variable_at : Variables → ℕ → List ℕ
variable_at vs k = (slice_index_or vs k ([], record { 0 = 0 })).0

-- ---- items

-- texts in parentheses, with commas between them
abbrev pub parenthesized : List (List ℕ) → List ℕ
parenthesized texts = codes "(" ++ (joined (codes ", ") texts ++ codes ")")

-- nothing where there are none
abbrev pub in_parentheses : List (List ℕ) → List ℕ
in_parentheses [] = []
in_parentheses (text ∷ texts) = parenthesized (text ∷ texts)

-- a variable by its quantifier's name, an application by its family's name with its arguments in parentheses
abbrev mutual
  pub item_text : Universe → Variables → Item → List ℕ
  item_text u vs (variable k) = variable_at vs k
  item_text u vs (constant s v) = value_text u s v
  item_text u vs (number z) = signed_decimal z
  item_text u vs (cell f xs) = (family_at u f).name ++ in_parentheses (item_texts u vs xs)

  pub item_texts : Universe → Variables → Items → List (List ℕ)
  item_texts u vs no_items = []
  item_texts u vs (item x xs) = item_text u vs x ∷ item_texts u vs xs

abbrev pub sign_text : Sign → List ℕ
sign_text Plus = codes " + "
sign_text Minus = codes " - "

abbrev pub added_text : Universe → Variables → Sign × Item → List ℕ
added_text u vs x = sign_text x.0 ++ item_text u vs x.1

abbrev pub sum_text : Universe → Variables → Sum → List ℕ
sum_text u vs s = item_text u vs s.first ++ flat_map (added_text u vs) s.rest

abbrev pub op_text : Op → List ℕ
op_text Eq = codes " = "
op_text Ne = codes " != "
op_text Lt = codes " < "
op_text Le = codes " <= "
op_text Gt = codes " > "
op_text Ge = codes " >= "

-- ---- statements

-- in parentheses where the statement binds less tightly than its place asks
abbrev pub enclosed : ℕ → Statement → List ℕ → List ℕ
enclosed asked s text = cond (nat_lt (tightness s) asked) (codes "(" ++ (text ++ codes ")")) text

-- what stands before a quantifier's body
abbrev pub quantifier_text : Universe → List ℕ → List ℕ → SortId → List ℕ
quantifier_text u word name s = word ++ (name ++ (codes ":" ++ (sort_name u s ++ codes " . ")))

-- at most, or at least; no rule has a counter, so what is written for one is of no account
abbrev pub is_at_most : Counting → Bool
is_at_most (no_more_than k) = true
is_at_most (no_fewer_than k) = false
is_at_most (of_first m i j) = false

abbrev pub bound_of : Counting → ℕ
bound_of (no_more_than k) = k
bound_of (no_fewer_than k) = k
bound_of (of_first m i j) = j

abbrev pub count_word : Bool → List ℕ
count_word at_most = if at_most then codes "atmost " else codes "atleast "

-- where the quantifier counts
abbrev pub count_text : Universe → Counting → List ℕ → SortId → List ℕ
count_text u c name s = count_word (is_at_most c) ++ (decimal (bound_of c) ++ quantifier_text u (codes " ") name s)

abbrev mutual
  pub statement_text : Universe → Variables → Statement → List ℕ
  statement_text u vs (compare left op right) = sum_text u vs left ++ (op_text op ++ sum_text u vs right)
  statement_text u vs (in_table t xs) = (table_at u t).name ++ in_parentheses (item_texts u vs xs)
  statement_text u vs (negation s) = codes "!" ++ enclosed 5 s (statement_text u vs s)
  statement_text u vs (all_of ss) = joined (codes " & ") (part_texts u vs 5 ss)
  statement_text u vs (some_of ss) = joined (codes " | ") (part_texts u vs 4 ss)
  statement_text u vs (implies s t) = enclosed 3 s (statement_text u vs s) ++ (codes " -> " ++ enclosed 2 t (statement_text u vs t))
  statement_text u vs (iff s t) = enclosed 2 s (statement_text u vs s) ++ (codes " <-> " ++ enclosed 2 t (statement_text u vs t))
  statement_text u vs (for_all name s body) = quantifier_text u (codes "forall ") name s ++ statement_text u (vs ++ (name, s) ∷ []) body
  statement_text u vs (exists name s body) = quantifier_text u (codes "exists ") name s ++ statement_text u (vs ++ (name, s) ∷ []) body
  statement_text u vs (counts c name s body) = count_text u c name s ++ statement_text u (vs ++ (name, s) ∷ []) body

  pub part_texts : Universe → Variables → ℕ → Statements → List (List ℕ)
  part_texts u vs asked no_statements = []
  part_texts u vs asked (statement s ss) = enclosed asked s (statement_text u vs s) ∷ part_texts u vs asked ss

-- a part of a statement, at a place that asks for that tightness
abbrev pub part_text : Universe → Variables → ℕ → Statement → List ℕ
part_text u vs asked s = enclosed asked s (statement_text u vs s)
