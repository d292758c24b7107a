-- In a well-formed sheet a written line says one thing at most.
use Rattle.std.proofs.Common.{◌≡◌, ℕ, zero, suc, ◌+◌, ◌<◌, ◌≤◌, ◌⊎◌, Bool, true, List, [], ◌∷◌, length, map, slice_get, IsSomeAnd, refl, sym, ◌∙◌, ap, ap₂, subst, arith, inl, inr}
use Rattle.std.specs.Prelude.{get_or}
use Rattle.std.proofs.lemmas.Bool.{cases_lt}
use Rattle.pc_formula.specs.Tree.{Cell, Value}
use Rattle.pc_sheet.specs.Sheet.{NamedStatement, Sheet}
use Rattle.pc_sheet.specs.WellFormed.{AreDifferent, rule_name}
use Rattle.pc_sheet.specs.declared.ids.SortId.{SortId}
use Rattle.pc_sheet.specs.declared.ids.CellId.{CellId}
use Rattle.pc_sheet.specs.declared.ids.ValueId.{ValueId}
use Rattle.pc_sheet.specs.declared.ids.Entry.{Entry}
use Rattle.pc_sheet.specs.declared.ids.Target.{Target}
use Rattle.pc_accept.specs.Literals.{Symbol, pair, node, Literal}
use Rattle.pc_accept.specs.Accepts.{Claim, implied, inconsistent, repairs, unimplied, against}
use Rattle.pc_accept.specs.Axioms.{axiom_some, axiom_one, axiom_rule, axiom_node, axiom_atom}
use Rattle.pc_elaborate.specs.Elaboration.{IsCell, StandsForValue, IsCellNamed}
use Rattle.pc_elaborate.specs.Laws.{HaveOneOutcome}
use Rattle.pc_cert.specs.Written.{nothing, heading, claims, begins, uses, assigns, derives, ends, WrittenPath, WrittenSymbol, written_pair, written_node, WrittenLiteral, WrittenPart, written_some, written_one, written_rule, written_node_clause, written_atom, written_step, written_block, WrittenLine, CertificatePart, taken, derived, blocked, SaidLine}
use Rattle.pc_cert.specs.Claims.{WrittenPair, WrittenClaim, written_implied, written_inconsistent, written_repairs, written_unimplied, written_against, IsPairNamed, IsRuleNamed, IsTargetNamed, IsClaimNamed}
use Rattle.pc_cert.specs.Meaning.{AreValuesNamed, IsNodeNamed, IsSymbolNamed, IsLiteralNamed, AreNamedEach, IsPartNamed, IsSaidLine}

-- ---- lists

module _ {A B : Type 0} (Names : A → B → Type 0) (once : (x : A) (y z : B) → Names x y → Names x z → y ≡ z) where
  named_once : (xs : List A) (ys zs : List B) → AreNamedEach Names xs ys → AreNamedEach Names xs zs → ys ≡ zs
  named_once [] [] [] a b = refl
  named_once [] [] (z ∷ zs) a b = absurd b
  named_once [] (y ∷ ys) zs a b = absurd a
  named_once (x ∷ xs) [] zs a b = absurd a
  named_once (x ∷ xs) (y ∷ ys) [] a b = absurd b
  named_once (x ∷ xs) (y ∷ ys) (z ∷ zs) a b = ap₂ (λ v vs. v ∷ vs) (once x y z a.0 b.0) (named_once xs ys zs a.1 b.1)

-- ---- rules

rule_inside : (rules : List NamedStatement) (n : List ℕ) (r : ℕ) → IsSomeAnd (slice_get rules r) (λ x. x.name ≡ n) → r < length (map rule_name rules)
rule_inside [] n r is = absurd is
rule_inside (x ∷ xs) n zero is = omega arith
rule_inside (x ∷ xs) n (suc r) is = let rest = rule_inside xs n r is in omega (arith, rest)

rule_there : (rules : List NamedStatement) (n : List ℕ) (r : ℕ) → IsSomeAnd (slice_get rules r) (λ x. x.name ≡ n) → get_or (map rule_name rules) r [] ≡ n
rule_there [] n r is = absurd is
rule_there (x ∷ xs) n zero is = is
rule_there (x ∷ xs) n (suc r) is = rule_there xs n r is

-- ---- records

abbrev entry : CellId → ValueId → Entry
entry c v = record { cell = c; value = v }

abbrev target : Entry → Bool → Target
target e holds = record { cell = e.cell; value = e.value; holds = holds }

abbrev literal : Symbol → Bool → Literal
literal s b = record { what = s; sign = b }

module _ (sheet : Sheet) (outcomes : HaveOneOutcome sheet.universe) (different : AreDifferent (map rule_name sheet.rules)) where
  before_never : (n : List ℕ) (r s : ℕ) → r < s → IsRuleNamed sheet n r → IsRuleNamed sheet n s → ⊥
  before_never n r s low a b = different r s [] low (rule_inside sheet.rules n s b) (rule_there sheet.rules n r a ∙ sym (rule_there sheet.rules n s b))

  rule_once : (n : List ℕ) (r s : ℕ) → IsRuleNamed sheet n r → IsRuleNamed sheet n s → r ≡ s
  rule_once n r s a b = by (cases_lt r s) (cases_lt s r)
    where
      by : (r < s) ⊎ (s ≤ r) → (s < r) ⊎ (r ≤ s) → r ≡ s
      by (inl low) other = absurd (before_never n r s low a b)
      by (inr high) (inl low) = absurd (before_never n s r low b a)
      by (inr high) (inr low) = omega (arith, high, low)

  -- ---- cells and values

  cells_once : (c : Cell) (i j : CellId) (s t : SortId) → IsCell sheet.universe c i s → IsCell sheet.universe c j t → (i ≡ j) × (s ≡ t)
  cells_once c i j s t a b =
      let same = (outcomes.cells c).one (i, s) (j, t) a b in
      (ap (λ k. k.0) same, ap (λ k. k.1) same)

  value_once : (v : Value) (s t : SortId) (x y : ValueId) → s ≡ t → StandsForValue sheet.universe s v x → StandsForValue sheet.universe t v y → x ≡ y
  value_once v s t x y same a b = (outcomes.values t v).one x y (subst (λ r. StandsForValue sheet.universe r v x) same a) b

  cell_once : (c : Cell) (i j : CellId) → IsCellNamed sheet.universe c i → IsCellNamed sheet.universe c j → i ≡ j
  cell_once c i j a b = (cells_once c i j a.0 b.0 a.1 b.1).0

  entry_once : (p : WrittenPair) (d e : Entry) → IsPairNamed sheet.universe p d → IsPairNamed sheet.universe p e → d ≡ e
  entry_once p d e a b =
      let cells = cells_once p.cell d.cell e.cell a.sort b.sort a.cell b.cell in
      ap₂ entry cells.0 (value_once p.value a.sort b.sort d.value e.value cells.1 a.value b.value)

  values_once : (c : Cell) (v w : Value) (i j : CellId) (x y k l : ValueId) → AreValuesNamed sheet.universe c v w i x y → AreValuesNamed sheet.universe c v w j k l → taken (axiom_one i x y) ≡ taken (axiom_one j k l)
  values_once c v w i j x y k l a b =
      let cells = cells_once c i j a.sort b.sort a.cell b.cell in
      ap (λ o. taken (axiom_one o x y)) cells.0
      ∙ ap (λ z. taken (axiom_one j z y)) (value_once v a.sort b.sort x k cells.1 a.first_value b.first_value)
      ∙ ap (λ z. taken (axiom_one j k z)) (value_once w a.sort b.sort y l cells.1 a.second_value b.second_value)

  -- ---- nodes and literals

  node_once : (p : WrittenPath) (r s : ℕ) (is js : List ℕ) → IsNodeNamed sheet p r is → IsNodeNamed sheet p s js → (r ≡ s) × (is ≡ js)
  node_once p r s is js a b = (rule_once p.rule r s a.named b.named, a.same ∙ sym b.same)

  symbol_once : (w : WrittenSymbol) (s t : Symbol) → IsSymbolNamed sheet w s → IsSymbolNamed sheet w t → s ≡ t
  symbol_once (written_pair p) (pair c v) (pair d x) a b =
      let same = entry_once p (entry c v) (entry d x) a b in
      ap (λ e. pair e.cell e.value) same
  symbol_once (written_pair p) (pair c v) (node s js) a b = absurd b
  symbol_once (written_pair p) (node r is) t a b = absurd a
  symbol_once (written_node p) (pair c v) t a b = absurd a
  symbol_once (written_node p) (node r is) (pair d x) a b = absurd b
  symbol_once (written_node p) (node r is) (node s js) a b = let same = node_once p r s is js a b in ap₂ node same.0 same.1

  literal_once : (w : WrittenLiteral) (l m : Literal) → IsLiteralNamed sheet w l → IsLiteralNamed sheet w m → l ≡ m
  literal_once w l m a b = ap₂ literal (symbol_once w.what l.what m.what a.what b.what) (a.sign ∙ sym b.sign)

  -- ---- claims, by the form of what is written

  target_once : (p : WrittenPair) (holds : Bool) (s t : Target) → IsTargetNamed sheet.universe p holds s → IsTargetNamed sheet.universe p holds t → s ≡ t
  target_once p holds s t a b = ap₂ target (entry_once p (entry s.cell s.value) (entry t.cell t.value) a.0 b.0) (a.1 ∙ sym b.1)

  data NamedClaim : WrittenClaim → Claim → Type 0 where
    a_target : (p : WrittenPair) (holds : Bool) (t : Target) → IsTargetNamed sheet.universe p holds t → NamedClaim (written_implied p holds) (implied t)
    of_inconsistency : NamedClaim written_inconsistent inconsistent
    of_repairs : NamedClaim written_repairs repairs
    no_target : (p : WrittenPair) (t : Target) → IsTargetNamed sheet.universe p true t → NamedClaim (written_unimplied p) (unimplied t)
    against_rule : (n : List ℕ) (r : ℕ) → IsRuleNamed sheet n r → NamedClaim (written_against n) (against r)

  named_claim : (w : WrittenClaim) (c : Claim) → IsClaimNamed sheet w c → NamedClaim w c
  named_claim (written_implied p holds) (implied t) is = a_target p holds t is
  named_claim written_inconsistent inconsistent is = of_inconsistency
  named_claim written_repairs repairs is = of_repairs
  named_claim (written_unimplied p) (unimplied t) is = no_target p t is
  named_claim (written_against n) (against r) is = against_rule n r is
  named_claim w c is = absurd is

  same_claims : (w : WrittenClaim) (c d : Claim) → NamedClaim w c → NamedClaim w d → c ≡ d
  same_claims w c d (a_target p g s a) (a_target q h t b) = ap implied (target_once p g s t a b)
  same_claims w c d of_inconsistency of_inconsistency = refl
  same_claims w c d of_repairs of_repairs = refl
  same_claims w c d (no_target p s a) (no_target q t b) = ap unimplied (target_once p true s t a b)
  same_claims w c d (against_rule n r a) (against_rule m s b) = ap against (rule_once n r s a b)

  claim_once : (w : WrittenClaim) (c d : Claim) → IsClaimNamed sheet w c → IsClaimNamed sheet w d → c ≡ d
  claim_once w c d a b = same_claims w c d (named_claim w c a) (named_claim w d b)

  -- ---- parts, by the form of what is written

  data NamedPart (sets : ℕ) : WrittenPart → CertificatePart → Type 0 where
    a_cell : (c : Cell) (i : CellId) → IsCellNamed sheet.universe c i → NamedPart sets (written_some c) (taken (axiom_some i))
    a_cell_twice : (c : Cell) (v w : Value) (i : CellId) (x y : ValueId) → AreValuesNamed sheet.universe c v w i x y → NamedPart sets (written_one c v w) (taken (axiom_one i x y))
    a_rule : (n : List ℕ) (r : ℕ) → IsRuleNamed sheet n r → NamedPart sets (written_rule n) (taken (axiom_rule r))
    a_node : (p : WrittenPath) (i : ℕ) (r : ℕ) (steps : List ℕ) (j : ℕ) → IsNodeNamed sheet p r steps → j ≡ i → NamedPart sets (written_node_clause p i) (taken (axiom_node r steps j))
    an_atom : (p : WrittenPath) (reads : List WrittenPair) (r : ℕ) (steps : List ℕ) (es : List Entry) → IsNodeNamed sheet p r steps → AreNamedEach (IsPairNamed sheet.universe) reads es → NamedPart sets (written_atom p reads) (taken (axiom_atom r steps es))
    a_step : (ls : List WrittenLiteral) (hints : List ℕ) (clause : List Literal) (numbers : List ℕ) → AreNamedEach (IsLiteralNamed sheet) ls clause → numbers ≡ hints → NamedPart sets (written_step ls hints) (derived clause numbers)
    a_set_clause : (j k : ℕ) → j ≡ k + 1 → NamedPart sets (written_block j) (blocked k)

  named_part : (sets : ℕ) (w : WrittenPart) (p : CertificatePart) → IsPartNamed sheet sets w p → NamedPart sets w p
  named_part sets (written_some c) (taken (axiom_some i)) is = a_cell c i is
  named_part sets (written_one c v w) (taken (axiom_one i x y)) is = a_cell_twice c v w i x y is
  named_part sets (written_rule n) (taken (axiom_rule r)) is = a_rule n r is
  named_part sets (written_node_clause p i) (taken (axiom_node r steps j)) is = a_node p i r steps j is.0 is.1
  named_part sets (written_atom p reads) (taken (axiom_atom r steps es)) is = an_atom p reads r steps es is.0 is.1
  named_part sets (written_step ls hints) (derived clause numbers) is = a_step ls hints clause numbers is.0 is.1
  named_part sets (written_block j) (blocked k) is = a_set_clause j k is.0
  named_part sets w p is = absurd is

  same_parts : (sets : ℕ) (w : WrittenPart) (p q : CertificatePart) → NamedPart sets w p → NamedPart sets w q → p ≡ q
  same_parts sets w p q (a_cell c i a) (a_cell d j b) = ap (λ o. taken (axiom_some o)) (cell_once c i j a b)
  same_parts sets w p q (a_cell_twice c v z i x y a) (a_cell_twice d s t j k l b) = values_once c v z i j x y k l a b
  same_parts sets w p q (a_rule n r a) (a_rule m s b) = ap (λ o. taken (axiom_rule o)) (rule_once n r s a b)
  same_parts sets w p q (a_node x i r steps j a e) (a_node y k s others l b f) =
      let same = node_once x r s steps others a b in
      ap (λ o. taken (axiom_node o steps j)) same.0 ∙ ap (λ o. taken (axiom_node s o j)) same.1 ∙ ap (λ o. taken (axiom_node s others o)) (e ∙ sym f)
  same_parts sets w p q (an_atom x reads r steps es a all) (an_atom y again s others fs b both) =
      let same = node_once x r s steps others a b in
      ap (λ o. taken (axiom_atom o steps es)) same.0 ∙ ap (λ o. taken (axiom_atom s o es)) same.1 ∙ ap (λ o. taken (axiom_atom s others o)) (named_once (IsPairNamed sheet.universe) entry_once reads es fs all both)
  same_parts sets w p q (a_step ls hints clause numbers a e) (a_step ms again other ns b f) = ap₂ derived (named_once (IsLiteralNamed sheet) literal_once ls clause other a b) (e ∙ sym f)
  same_parts sets w p q (a_set_clause j k e) (a_set_clause i m f) = ap blocked (let same : k ≡ m = omega (arith, e, f) in same)

  part_once : (sets : ℕ) (w : WrittenPart) (p q : CertificatePart) → IsPartNamed sheet sets w p → IsPartNamed sheet sets w q → p ≡ q
  part_once sets w p q a b = same_parts sets w p q (named_part sets w p a) (named_part sets w q b)

  -- ---- lines

  data NamedLine (sets : ℕ) : WrittenLine → SaidLine → Type 0 where
    a_blank : NamedLine sets nothing nothing
    a_heading : NamedLine sets heading heading
    a_claim : (w : WrittenClaim) (c : Claim) → IsClaimNamed sheet w c → NamedLine sets (claims w) (claims c)
    a_set : NamedLine sets begins begins
    a_use : (p : WrittenPair) (e : Entry) → IsPairNamed sheet.universe p e → NamedLine sets (uses p) (uses e)
    a_value : (p : WrittenPair) (e : Entry) → IsPairNamed sheet.universe p e → NamedLine sets (assigns p) (assigns e)
    a_part : (n : ℕ) (w : WrittenPart) (m : ℕ) (p : CertificatePart) → m ≡ n → IsPartNamed sheet sets w p → NamedLine sets (derives n w) (derives m p)
    an_end : NamedLine sets ends ends

  named_line : (sets : ℕ) (f : WrittenLine) (l : SaidLine) → IsSaidLine sheet sets f l → NamedLine sets f l
  named_line sets nothing nothing is = a_blank
  named_line sets heading heading is = a_heading
  named_line sets (claims w) (claims c) is = a_claim w c is
  named_line sets begins begins is = a_set
  named_line sets (uses p) (uses e) is = a_use p e is
  named_line sets (assigns p) (assigns e) is = a_value p e is
  named_line sets (derives n w) (derives m p) is = a_part n w m p is.0 is.1
  named_line sets ends ends is = an_end
  named_line sets f l is = absurd is

  same_lines : (sets : ℕ) (f : WrittenLine) (l m : SaidLine) → NamedLine sets f l → NamedLine sets f m → l ≡ m
  same_lines sets w l m a_blank a_blank = refl
  same_lines sets w l m a_heading a_heading = refl
  same_lines sets w l m (a_claim v c a) (a_claim x d b) = ap (λ k. claims k) (claim_once v c d a b)
  same_lines sets w l m a_set a_set = refl
  same_lines sets w l m (a_use p d a) (a_use q e b) = ap (λ x. uses x) (entry_once p d e a b)
  same_lines sets w l m (a_value p d a) (a_value q e b) = ap (λ x. assigns x) (entry_once p d e a b)
  same_lines sets w l m (a_part n x k p e a) (a_part o y j q f b) = ap₂ (λ i r. derives i r) (e ∙ sym f) (part_once sets x p q a b)
  same_lines sets w l m an_end an_end = refl

  pub line_named_once : (sets : ℕ) (f : WrittenLine) (l m : SaidLine) → IsSaidLine sheet sets f l → IsSaidLine sheet sets f m → l ≡ m
  line_named_once sets f l m a b = same_lines sets f l m (named_line sets f l a) (named_line sets f m b)
