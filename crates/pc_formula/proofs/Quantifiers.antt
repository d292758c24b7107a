-- What a formula reads, with a quantifier or without.
use Rattle.std.proofs.Common.{◌≡◌, ℕ, ℤ, pos, Bool, true, false, ◌||◌, List, ◌∷◌, Option, None, Some, MatchOption, get_or, refl, sym, ◌∙◌, ap, ap₂, subst, arith}
use Rattle.std.proofs.lemmas.Slice.Eq.{bytes_eq-Decides}
use Rattle.std.specs.Prelude.{codes, bytes_eq}
use Rattle.pc_name.specs.Names.{is_reserved}
use Rattle.pc_token.specs.declared.token.Kind.TheVariants.{Colon, Dot}
use Rattle.pc_formula.specs.declared.quantifier.Quantifier.{Quantifier}
use Rattle.pc_formula.specs.declared.quantifier.Quantifier.TheVariants.{ForAll, Exists, Count}
use Rattle.pc_formula.specs.Word.{Word, name, reserved, sign, NotReserved, HasNotReserved}
use Rattle.pc_formula.specs.Tree.{Item, Side, Formula}
use Rattle.pc_formula.specs.Quantifier.{count_word, DerivesQuantifier, for_every, for_some, for_so_many}
use Rattle.pc_formula.specs.Front.{Reads, ReadsNone}
use Rattle.pc_formula.specs.Value.{DerivesNumber, a_number, DerivesInt, natural, negative}
use Rattle.pc_formula.proofs.Stops.{stops_at_zero}
use Rattle.pc_formula.proofs.ValueForms.{number_once}
use Rattle.pc_formula.specs.Side.{DerivesItem, integer_item, bare_item, applied_item, DerivesSide, a_side}
use Rattle.pc_formula.specs.Grammar.{Joint, by_or, by_and, Form, whole, iffs, imps, joined, part_form, quantified, Derives, quantifier, no_quantifier, iff_one, iff_two, imp_one, imp_two, join, negation, group, comparison, table_atom}

-- ---- only a formula with a quantifier starts with a reserved word

number_unreserved : (ws : List Word) (n : ℕ) (rest : List Word) → DerivesNumber ws n rest → (text : List ℕ) (more : List Word) → ws ≡ reserved text ∷ more → ⊥
number_unreserved ws n rest (a_number t) text more is = cc

int_unreserved : (ws : List Word) (z : ℤ) (rest : List Word) → DerivesInt ws z rest → (text : List ℕ) (more : List Word) → ws ≡ reserved text ∷ more → ⊥
int_unreserved ws z rest (natural {n = n} d) text more is = number_unreserved ws n rest d text more is
int_unreserved ws z rest (negative d) text more is = cc

item_unreserved : (ws : List Word) (i : Item) (rest : List Word) → DerivesItem ws i rest → (text : List ℕ) (more : List Word) → ws ≡ reserved text ∷ more → ⊥
item_unreserved ws i rest (integer_item {z = z} d) text more is = int_unreserved ws z rest d text more is
item_unreserved ws i rest (bare_item t) text more is = cc
item_unreserved ws i rest (applied_item t d) text more is = cc

side_unreserved : (ws : List Word) (s : Side) (rest : List Word) → DerivesSide ws s rest → (text : List ℕ) (more : List Word) → ws ≡ reserved text ∷ more → ⊥
side_unreserved ws s rest (a_side {mid = mid} {i = i} d e) text more is = item_unreserved ws i mid d text more is

part_not_whole : (j : Joint) → part_form j ≡ whole → ⊥
part_not_whole by_or e = cc
part_not_whole by_and e = cc

pub unreserved : (form : Form) (ws : List Word) (f : Formula) (rest : List Word) → Derives form ws f rest → (form ≡ whole → ⊥) → (text : List ℕ) (more : List Word) → ws ≡ reserved text ∷ more → ⊥
unreserved form ws f rest (quantifier variable sort q d) other text more is = other refl
unreserved form ws f rest (no_quantifier d) other text more is = other refl
unreserved form ws f rest (iff_one d) other text more is = unreserved imps ws f rest d (λ e. cc) text more is
unreserved form ws h rest (iff_two {f = f} d e) other text more is = unreserved imps ws f _ d (λ e. cc) text more is
unreserved form ws f rest (imp_one d) other text more is = unreserved (joined by_or) ws f rest d (λ e. cc) text more is
unreserved form ws h rest (imp_two {f = f} d e) other text more is = unreserved (joined by_or) ws f _ d (λ e. cc) text more is
unreserved form ws h rest (join {j = j} {mid = mid} {f = f} d tail) other text more is = unreserved (part_form j) ws f mid d (part_not_whole j) text more is
unreserved form ws f rest (negation d) other text more is = cc
unreserved form ws f rest (group d) other text more is = cc
unreserved form ws f rest (comparison {left = left} op d e) other text more is = side_unreserved ws left _ d text more is
unreserved form ws f rest (table_atom t d) other text more is = cc

-- ---- what starts a quantifier

starts : (ws : List Word) (q : Quantifier) (rest : List Word) → DerivesQuantifier ws q rest → (text : List ℕ) × (more : List Word) × (ws ≡ reserved text ∷ more)
starts ws q rest for_every = (codes "forall", rest, refl)
starts ws q rest for_some = (codes "exists", rest, refl)
starts ws q rest (for_so_many {ws = more} m d) = (count_word m, more, refl)

-- the words differ in a letter
count_first : (m : Bool) → get_or (count_word m) 0 0 ≡ 97
count_first true = refl
count_first false = refl

same_count : (m l : Bool) → count_word m ≡ count_word l → m ≡ l
same_count true true e = refl
same_count false false e = refl
same_count true false e =
    let third : 109 ≡ 108 = ap (λ l. get_or l 2 0) e in
    absurd (omega (arith, third))
same_count false true e =
    let third : 108 ≡ 109 = ap (λ l. get_or l 2 0) e in
    absurd (omega (arith, third))

every_not_some : codes "forall" ≡ codes "exists" → ⊥
every_not_some e =
    let first : 102 ≡ 101 = ap (λ l. get_or l 0 0) e in
    absurd (omega (arith, first))

every_not_count : (m : Bool) → codes "forall" ≡ count_word m → ⊥
every_not_count m e =
    let first : 102 ≡ 97 = ap (λ l. get_or l 0 0) e ∙ count_first m in
    absurd (omega (arith, first))

some_not_count : (m : Bool) → codes "exists" ≡ count_word m → ⊥
some_not_count m e =
    let first : 101 ≡ 97 = ap (λ l. get_or l 0 0) e ∙ count_first m in
    absurd (omega (arith, first))

same_quantifier : (a b : List Word) → a ≡ b → (p q : Quantifier) (r s : List Word) → DerivesQuantifier a p r → DerivesQuantifier b q s → (p ≡ q) × (r ≡ s)
same_quantifier a b is p q r s for_every for_every = (refl, cc)
same_quantifier a b is p q r s for_some for_some = (refl, cc)
same_quantifier a b is p q r s (for_so_many {ws = ws} {n = n} m d) (for_so_many {ws = vs} {n = k} l e) =
    let same : m ≡ l = same_count m l (cc) in
    let rest : ws ≡ vs = cc in
    let one = number_once vs n k r s (subst (λ l. DerivesNumber l n r) rest d) e in
    (ap₂ (λ b j. Count b (pos j)) same one.0, one.1)
same_quantifier a b is p q r s for_every for_some = absurd (every_not_some (cc))
same_quantifier a b is p q r s for_some for_every = absurd (every_not_some (cc))
same_quantifier a b is p q r s for_every (for_so_many m d) = absurd (every_not_count m (cc))
same_quantifier a b is p q r s (for_so_many m d) for_every = absurd (every_not_count m (cc))
same_quantifier a b is p q r s for_some (for_so_many m d) = absurd (some_not_count m (cc))
same_quantifier a b is p q r s (for_so_many m d) for_some = absurd (some_not_count m (cc))

-- ---- what was read where a quantifier may stand

abbrev pub IsQuantifierRead : List Word → List Word → Option Quantifier → Type 0
IsQuantifierRead old new found = MatchOption found (HasNotReserved old new) (λ q. DerivesQuantifier old q new)

pub none_read : (old new : List Word) (found : Option Quantifier) → IsQuantifierRead old new found → found ≡ None → HasNotReserved old new
none_read old new found read is = subst (IsQuantifierRead old new) is read

pub one_read : (old new : List Word) (found : Option Quantifier) (q : Quantifier) → IsQuantifierRead old new found → found ≡ Some q → DerivesQuantifier old q new
one_read old new found q read is = subst (IsQuantifierRead old new) is read

-- ---- behind a reserved word

none_but_last : (a b c d : Bool) → a ≡ false → b ≡ false → c ≡ false → (a || b || c || d) ≡ true → d ≡ true
none_but_last a b c d p q r some = cc

module _ (old mid : List Word) (word : List ℕ) (is : old ≡ reserved word ∷ mid) where
  named : (text : List ℕ) → word ≡ text → old ≡ reserved text ∷ mid
  named text same = is ∙ ap (λ w. reserved w ∷ mid) same

  pub is_every : (r : Bool) → r ≡ bytes_eq word (codes "forall") → r ≡ true → DerivesQuantifier old ForAll mid
  is_every r tells so = subst (λ l. DerivesQuantifier l ForAll mid) (sym (named (codes "forall") ((bytes_eq-Decides word (codes "forall")).0 (sym tells ∙ so)))) for_every

  pub is_some : (r : Bool) → r ≡ bytes_eq word (codes "exists") → r ≡ true → DerivesQuantifier old Exists mid
  is_some r tells so = subst (λ l. DerivesQuantifier l Exists mid) (sym (named (codes "exists") ((bytes_eq-Decides word (codes "exists")).0 (sym tells ∙ so)))) for_some

  module _ (p q r : Bool) (reserves : is_reserved word ≡ true) (every : p ≡ bytes_eq word (codes "forall")) (no_every : p ≡ false) (some : q ≡ bytes_eq word (codes "exists")) (no_some : q ≡ false) (most : r ≡ bytes_eq word (codes "atmost")) where
    counts : (b : Bool) → r ≡ b → word ≡ count_word b
    counts true is_most = (bytes_eq-Decides word (codes "atmost")).0 (sym most ∙ is_most)
    counts false is_least =
        (bytes_eq-Decides word (codes "atleast")).0
        (none_but_last (bytes_eq word (codes "forall")) (bytes_eq word (codes "exists")) (bytes_eq word (codes "atmost")) (bytes_eq word (codes "atleast")) (sym every ∙ no_every) (sym some ∙ no_some) (sym most ∙ is_least) reserves)

    counted : old ≡ reserved (count_word r) ∷ mid
    counted = named (count_word r) (counts r refl)

    pub is_count : (n : ℕ) (z : ℤ) (new : List Word) → z ≡ pos n → Reads DerivesNumber 0 mid n new → DerivesQuantifier old (Count r z) new
    is_count n z new value read = subst (λ y. DerivesQuantifier old (Count r y) new) (sym value) (subst (λ l. DerivesQuantifier l (Count r (pos n)) new) (sym counted) (for_so_many r read.derives))

    module _ (none : ReadsNone DerivesNumber 0 mid) where
      numberless : (there : List Word) (k : Quantifier) (rest : List Word) → there ≡ reserved (count_word r) ∷ mid → DerivesQuantifier there k rest → ⊥
      numberless there k rest is for_every = every_not_count r (cc)
      numberless there k rest is for_some = some_not_count r (cc)
      numberless there k rest is (for_so_many {ws = ws} {n = n} m d) =
          let same : ws ≡ mid = cc in
          none.none n rest (subst (λ l. DerivesNumber l n rest) same d) (stops_at_zero rest)

      pub count_none : ReadsNone (Derives whole) 7 old
      count_none = record { none = λ g rest d stops. step old g rest counted d }
        where
          step : (there : List Word) (g : Formula) (rest : List Word) → there ≡ reserved (count_word r) ∷ mid → Derives whole there g rest → ⊥
          step there g rest is (quantifier {q = k} variable sort e d) = numberless there k _ is e
          step there g rest is (no_quantifier d) = unreserved iffs there g rest d (λ e. cc) (count_word r) mid is

-- ---- without a quantifier

module _ (old : List Word) (plain : NotReserved old) where
  from_plain : (g : Formula) (rest : List Word) → Derives whole old g rest → Derives iffs old g rest
  from_plain g rest d = step old g rest plain d
    where
      step : (ws : List Word) (g : Formula) (rest : List Word) → NotReserved ws → Derives whole ws g rest → Derives iffs ws g rest
      step ws g rest plain (quantifier {q = q} variable sort e d) = let start = starts ws q _ e in absurd (plain start.0 start.1 start.2)
      step ws g rest plain (no_quantifier d) = d

  pub plain_reads : (f : Formula) (new : List Word) → Reads (Derives iffs) 7 old f new → Reads (Derives whole) 7 old f new
  plain_reads f new r = record { derives = no_quantifier r.derives; stops = r.stops; only = λ g rest d stops. r.only g rest (from_plain g rest d) stops }

  pub plain_none : ReadsNone (Derives iffs) 7 old → ReadsNone (Derives whole) 7 old
  plain_none r = record { none = λ g rest d stops. r.none g rest (from_plain g rest d) stops }

-- ---- behind what starts a quantifier

module _ (old ws : List Word) (q : Quantifier) (is : DerivesQuantifier old q ws) where
  -- what follows it
  record Bound (g : Formula) (rest : List Word) : Type 0 where
    variable : List ℕ
    sort : List ℕ
    next : List Word
    body : Formula
    words : ws ≡ name variable ∷ sign Colon ∷ name sort ∷ sign Dot ∷ next
    derives : Derives whole next body rest
    formula : g ≡ quantified q variable sort body

  bound : (g : Formula) (rest : List Word) → Derives whole old g rest → Bound g rest
  bound g rest d = step old g rest is d
    where
      step : (there : List Word) (g : Formula) (rest : List Word) → DerivesQuantifier there q ws → Derives whole there g rest → Bound g rest
      step there g rest is (quantifier {next = next} {q = p} {f = f} variable sort e d) =
          let same = same_quantifier there there refl p q _ ws e is in
          record { variable = variable; sort = sort; next = next; body = f; words = sym same.1; derives = d; formula = ap (λ r. quantified r variable sort f) same.0 }
      step there g rest is (no_quantifier d) = let start = starts there q ws is in absurd (unreserved iffs there g rest d (λ e. cc) start.0 start.1 start.2)

  pub unbound_none : ((variable sort : List ℕ) (more : List Word) → ws ≡ name variable ∷ sign Colon ∷ name sort ∷ sign Dot ∷ more → ⊥) → ReadsNone (Derives whole) 7 old
  unbound_none none = record {
    none = λ g rest d stops.
        let found = bound g rest d in
        none found.variable found.sort found.next found.words;
  }

  module _ (variable sort : List ℕ) (next : List Word) (words : ws ≡ name variable ∷ sign Colon ∷ name sort ∷ sign Dot ∷ next) where
    pub quantified_none : ReadsNone (Derives whole) 7 next → ReadsNone (Derives whole) 7 old
    quantified_none r = record {
      none = λ g rest d stops.
          let found = bound g rest d in
          let both = sym found.words ∙ words in
          let same : found.next ≡ next = cc in
          r.none found.body rest (subst (λ l. Derives whole l found.body rest) same found.derives) stops;
    }

    pub quantified_reads : (f : Formula) (new : List Word) → Reads (Derives whole) 7 next f new → Reads (Derives whole) 7 old (quantified q variable sort f) new
    quantified_reads f new r = record {
      derives = quantifier variable sort (subst (DerivesQuantifier old q) words is) r.derives;
      stops = r.stops;
      only = λ g rest d stops.
          let found = bound g rest d in
          let both = sym found.words ∙ words in
          let same : found.next ≡ next = cc in
          let variables : found.variable ≡ variable = cc in
          let sorts : found.sort ≡ sort = cc in
          let one = r.only found.body rest (subst (λ l. Derives whole l found.body rest) same found.derives) stops in (
            found.formula ∙ ap (λ v. quantified q v found.sort found.body) variables ∙ ap (λ s. quantified q variable s found.body) sorts ∙ ap (quantified q variable sort) one.0,
            one.1,
          );
    }

    pub quantified_reads_as : (f g : Formula) (new : List Word) → Reads (Derives whole) 7 next f new → g ≡ quantified q variable sort f → Reads (Derives whole) 7 old g new
    quantified_reads_as f g new r is = subst (λ h. Reads (Derives whole) 7 old h new) (sym is) (quantified_reads f new r)
