-- Items and the sides of comparisons, as derivations over words.
use Rattle.std.specs.Prelude.{ℕ, ℤ, List, [], ◌∷◌}
use Rattle.pc_name.specs.declared.sign.Sign.{Sign}
use Rattle.pc_token.specs.declared.token.Kind.TheVariants.{Open, Close, Comma}
use Rattle.pc_formula.specs.Word.{Word, name, sign}
use Rattle.pc_formula.specs.Tree.{Item, integer, named, no_item, items_of, Side}
use Rattle.pc_formula.specs.Sign.{added_sign}
use Rattle.pc_formula.specs.Value.{DerivesInt}

mutual
  -- ITEM = INT | NAME [ ( ITEM { , ITEM } ) ]
  pub data DerivesItem : List Word → Item → List Word → Type 0 where
    integer_item : {ws rest : List Word} {z : ℤ} → DerivesInt ws z rest → DerivesItem ws (integer z) rest
    bare_item : {rest : List Word} (text : List ℕ) → DerivesItem (name text ∷ rest) (named text no_item) rest
    applied_item : {ws rest : List Word} {args : List Item} (text : List ℕ) → DerivesItems ws args rest → DerivesItem (name text ∷ sign Open ∷ ws) (named text (items_of args)) rest

  -- ITEM { , ITEM } )
  pub data DerivesItems : List Word → List Item → List Word → Type 0 where
    last_item : {ws rest : List Word} {i : Item} → DerivesItem ws i (sign Close ∷ rest) → DerivesItems ws (i ∷ []) rest
    next_item : {ws mid rest : List Word} {i : Item} {more : List Item} → DerivesItem ws i (sign Comma ∷ mid) → DerivesItems mid more rest → DerivesItems ws (i ∷ more) rest

-- { + ITEM | - ITEM }
pub data Adds : List Word → List (Sign × Item) → List Word → Type 0 where
  nothing_added : {ws : List Word} → Adds ws [] ws
  added : {ws mid rest : List Word} {i : Item} {more : List (Sign × Item)} (s : Sign) → DerivesItem ws i mid → Adds mid more rest → Adds (sign (added_sign s) ∷ ws) ((s, i) ∷ more) rest

-- SIDE = ITEM { + ITEM | - ITEM }
pub data DerivesSide : List Word → Side → List Word → Type 0 where
  a_side : {ws mid rest : List Word} {i : Item} {more : List (Sign × Item)} → DerivesItem ws i mid → Adds mid more rest → DerivesSide ws (record { first = i; rest = more }) rest
