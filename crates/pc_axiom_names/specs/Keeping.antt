-- What names stand for that are kept by the places of their paths and reads.
use Rattle.std.specs.Prelude.{◌≡◌, ℕ, zero, suc, ◌<◌, ◌≤◌, Option, Some, None, List, [], ◌∷◌, map, length, slice_get, slice_index_or}
use Rattle.std.specs.List.{AllByRecursion}
use Rattle.pc_sheet.specs.declared.nodes.NodePath.{NodePath}
use Rattle.pc_sheet.specs.declared.ids.Entry.{Entry}
use Rattle.pc_accept.specs.Literals.{Symbol, pair, node}
use Rattle.pc_accept.specs.Axioms.{Axiom, axiom_some, axiom_one, axiom_rule, axiom_node, axiom_atom}
use Rattle.pc_axiom_names.specs.Listed.{NameLists}
use Rattle.pc_axiom_names.specs.declared.kept.Stands.{Stands}
use Rattle.pc_axiom_names.specs.declared.kept.Stands.TheVariants.{Pair, Node}
use Rattle.pc_axiom_names.specs.declared.kept.KeptName.{KeptName}
use Rattle.pc_axiom_names.specs.declared.kept.KeptName.TheVariants.{Any, One, Rule, Node as Part, Atom}

-- the rule and the steps of a path, if there is one
abbrev pub rule_of : Option NodePath → ℕ
rule_of None = 0
rule_of (Some p) = p.rule

abbrev pub steps_of : Option NodePath → List ℕ
steps_of None = []
steps_of (Some p) = p.steps.items

-- the path of that rule and those steps stands at that place
abbrev pub IsPathAt : List NodePath → ℕ → ℕ → List ℕ → Type 0
IsPathAt paths k rule steps = (k < length paths) × (rule_of (slice_get paths k) ≡ rule) × (steps_of (slice_get paths k) ≡ steps)

-- the same rules and steps at each place
abbrev pub ArePaths : List NodePath → List NodePath → Type 0
ArePaths [] [] = Unit {0}
ArePaths [] (q ∷ qs) = ⊥
ArePaths (p ∷ ps) [] = ⊥
ArePaths (p ∷ ps) (q ∷ qs) = (q.rule ≡ p.rule) × (q.steps.items ≡ p.steps.items) × ArePaths ps qs

abbrev pub symbol_in : List NodePath → Stands → Symbol
symbol_in paths (Pair c v) = pair c v
symbol_in paths (Node k) = node (rule_of (slice_get paths k)) (steps_of (slice_get paths k))

abbrev pub axiom_in : List NodePath → List (List Entry) → KeptName → Axiom
axiom_in paths rows (Any c) = axiom_some c
axiom_in paths rows (One c v w) = axiom_one c v w
axiom_in paths rows (Rule r) = axiom_rule r
axiom_in paths rows (Part k i) = axiom_node (rule_of (slice_get paths k)) (steps_of (slice_get paths k)) i
axiom_in paths rows (Atom k r) = axiom_atom (rule_of (slice_get paths k)) (steps_of (slice_get paths k)) (slice_index_or rows r [])

-- each place that a name has is below the number of paths, or of rows
abbrev pub IsStandsWithin : ℕ → Stands → Type 0
IsStandsWithin n (Pair c v) = Unit {0}
IsStandsWithin n (Node k) = k < n

abbrev pub IsKeptWithin : ℕ → ℕ → KeptName → Type 0
IsKeptWithin n m (Any c) = Unit {0}
IsKeptWithin n m (One c v w) = Unit {0}
IsKeptWithin n m (Rule r) = Unit {0}
IsKeptWithin n m (Part k i) = k < n
IsKeptWithin n m (Atom k r) = (k < n) × (r < m)

-- of all names
abbrev pub AreNamesWithin : List NodePath → List (List Entry) → List Stands → List KeptName → Type 0
AreNamesWithin paths rows variables axioms = AllByRecursion (IsStandsWithin (length paths)) variables × AllByRecursion (IsKeptWithin (length paths) (length rows)) axioms

-- how many paths a name needs, up to its own, and how many rows
abbrev pub paths_of : Stands → ℕ
paths_of (Pair c v) = 0
paths_of (Node k) = suc k

abbrev pub kept_paths : KeptName → ℕ
kept_paths (Any c) = 0
kept_paths (One c v w) = 0
kept_paths (Rule r) = 0
kept_paths (Part k i) = suc k
kept_paths (Atom k r) = suc k

abbrev pub kept_rows : KeptName → ℕ
kept_rows (Any c) = 0
kept_rows (One c v w) = 0
kept_rows (Rule r) = 0
kept_rows (Part k i) = 0
kept_rows (Atom k r) = suc r

-- each number but 0 is at least m and at least each before it: 0, 2, 0, 2, 5 are
abbrev pub AreRising : ℕ → List ℕ → Type 0
AreRising m [] = Unit {0}
AreRising m (zero ∷ ns) = AreRising m ns
AreRising m (suc k ∷ ns) = (m ≤ suc k) × AreRising (suc k) ns

-- places rise with the numbers of variables and of axioms
abbrev pub ArePlacesRising : List Stands → List KeptName → Type 0
ArePlacesRising variables axioms = AreRising 0 (map paths_of variables) × AreRising 0 (map kept_paths axioms) × AreRising 0 (map kept_rows axioms)

-- each place that a name has is none of n paths or m rows, or the last of them
abbrev pub IsKeptLast : ℕ → ℕ → KeptName → Type 0
IsKeptLast n m (Any c) = Unit {0}
IsKeptLast n m (One c v w) = Unit {0}
IsKeptLast n m (Rule r) = Unit {0}
IsKeptLast n m (Part k i) = n ≤ suc k
IsKeptLast n m (Atom k r) = (n ≤ suc k) × (m ≤ suc r)

abbrev pub names_in : List NodePath → List (List Entry) → List Stands → List KeptName → NameLists
names_in paths rows variables axioms = record { variables = map (symbol_in paths) variables; axioms = map (axiom_in paths rows) axioms }
