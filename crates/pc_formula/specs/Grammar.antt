-- The grammar of formulas, as derivations over words.
use Rattle.std.specs.Prelude.{◌≡◌, ℕ, List, [], ◌∷◌}
use Rattle.pc_name.specs.declared.sign.Op.{Op}
use Rattle.pc_token.specs.declared.token.Kind.{Kind}
use Rattle.pc_token.specs.declared.token.Kind.TheVariants.{Not, And, Or, Arrow, DoubleArrow, Open, Close, Colon, Dot}
use Rattle.pc_formula.specs.declared.quantifier.Quantifier.{Quantifier}
use Rattle.pc_formula.specs.declared.quantifier.Quantifier.TheVariants.{ForAll, Exists, Count}
use Rattle.pc_formula.specs.Word.{Word, name, sign}
use Rattle.pc_formula.specs.Tree.{Item, Side, Formula, for_all, exists, counting, iff, implies, or, and, not, compare, in_table, named, items_of, parts_of}
use Rattle.pc_formula.specs.Sign.{op_sign}
use Rattle.pc_formula.specs.Quantifier.{DerivesQuantifier}
use Rattle.pc_formula.specs.Side.{DerivesItems, DerivesSide}

-- the two forms that join parts by a sign
pub data Joint : Type 0 where
  by_or : Joint
  by_and : Joint

-- the forms of the grammar: FORMULA, IFF, IMP, OR or AND, UNARY
pub data Form : Type 0 where
  whole : Form
  iffs : Form
  imps : Form
  joined : Joint → Form
  unary : Form

-- how loosely the signs bind by which a form goes on
abbrev pub level : Form → ℕ
level whole = 7
level iffs = 7
level imps = 6
level (joined by_or) = 5
level (joined by_and) = 4
level unary = 3

-- the form of the parts
abbrev pub part_form : Joint → Form
part_form by_or = joined by_and
part_form by_and = unary

-- the sign between the parts
abbrev pub joint_sign : Joint → Kind
joint_sign by_or = Or
joint_sign by_and = And

-- the node of two or more parts
abbrev pub joint : Joint → List Formula → Formula
joint by_or fs = or (parts_of fs)
joint by_and fs = and (parts_of fs)

-- one part is itself, and two or more are one node
abbrev pub of_parts : Joint → List Formula → Formula
of_parts j (f ∷ []) = f
of_parts j fs = joint j fs

-- the node of a quantifier with its variable, sort and body
abbrev pub quantified : Quantifier → List ℕ → List ℕ → Formula → Formula
quantified ForAll variable sort f = for_all variable sort f
quantified Exists variable sort f = exists variable sort f
quantified (Count at_most bound) variable sort f = counting at_most bound variable sort f

mutual
  -- the form derives the front of the words as the formula, and leaves the rest
  pub data Derives : Form → List Word → Formula → List Word → Type 0 where
    -- FORMULA = QUANTIFIER NAME : NAME . FORMULA | IFF
    quantifier : {ws next rest : List Word} {q : Quantifier} {f : Formula} (variable sort : List ℕ) → DerivesQuantifier ws q (name variable ∷ sign Colon ∷ name sort ∷ sign Dot ∷ next) → Derives whole next f rest → Derives whole ws (quantified q variable sort f) rest
    no_quantifier : {ws rest : List Word} {f : Formula} → Derives iffs ws f rest → Derives whole ws f rest
    -- IFF = IMP [ <-> IMP ]
    iff_one : {ws rest : List Word} {f : Formula} → Derives imps ws f rest → Derives iffs ws f rest
    iff_two : {ws mid rest : List Word} {f g : Formula} → Derives imps ws f (sign DoubleArrow ∷ mid) → Derives imps mid g rest → Derives iffs ws (iff f g) rest
    -- IMP = OR [ -> IMP ]
    imp_one : {ws rest : List Word} {f : Formula} → Derives (joined by_or) ws f rest → Derives imps ws f rest
    imp_two : {ws mid rest : List Word} {f g : Formula} → Derives (joined by_or) ws f (sign Arrow ∷ mid) → Derives imps mid g rest → Derives imps ws (implies f g) rest
    -- OR = AND { | AND } and AND = UNARY { & UNARY }
    join : {j : Joint} {ws mid rest : List Word} {f : Formula} {fs : List Formula} → Derives (part_form j) ws f mid → Goes_on j mid fs rest → Derives (joined j) ws (of_parts j (f ∷ fs)) rest
    -- UNARY = ! UNARY | ( FORMULA ) | ATOM: parentheses leave no node
    negation : {ws rest : List Word} {f : Formula} → Derives unary ws f rest → Derives unary (sign Not ∷ ws) (not f) rest
    group : {ws rest : List Word} {f : Formula} → Derives whole ws f (sign Close ∷ rest) → Derives unary (sign Open ∷ ws) f rest
    -- ATOM = SIDE OP SIDE | NAME ( ITEM { , ITEM } )
    comparison : {ws mid rest : List Word} {left right : Side} (op : Op) → DerivesSide ws left (sign (op_sign op) ∷ mid) → DerivesSide mid right rest → Derives unary ws (compare left op right) rest
    table_atom : {ws rest : List Word} {args : List Item} (text : List ℕ) → DerivesItems ws args rest → Derives unary (name text ∷ sign Open ∷ ws) (in_table text args) rest

  -- further parts, each behind the joint's sign
  pub data Goes_on : Joint → List Word → List Formula → List Word → Type 0 where
    no_more : {j : Joint} {ws : List Word} → Goes_on j ws [] ws
    one_more : {j : Joint} {ws mid rest : List Word} {f : Formula} {fs : List Formula} → Derives (part_form j) ws f mid → Goes_on j mid fs rest → Goes_on j (sign (joint_sign j) ∷ ws) (f ∷ fs) rest

-- the words are a formula, all of them
abbrev pub IsFormula : List Word → Formula → Type 0
IsFormula ws f = Derives whole ws f []

-- the side is one name with its arguments, and the formula is the table's atom that is written so
pub record IsTableAtom (s : Side) (f : Formula) : Type 0 where
  pub table : List ℕ
  pub first : Item
  pub others : List Item
  pub side : s ≡ record { first = named table (items_of (first ∷ others)); rest = [] }
  pub formula : f ≡ in_table table (first ∷ others)
