-- Declarations without their numbers, one after another.
use Rattle.std.proofs.Common.{◌≡◌, ℕ, List, [], ◌∷◌, ◌++◌, map, sym, subst, ap, ◌∙◌, append-nil}
use Rattle.std.specs.List.{flat_map}
use Rattle.pc_sheet.specs.Sheet.{Sheet}
use Rattle.pc_syntax.specs.Tree.{Declared}
use Rattle.pc_sortcheck.specs.Declaring.{Declares, DeclareAll}
use Rattle.pc_writer.specs.SheetText.{each_behind}
use Rattle.pc_canonical_laws.specs.Declared.{declared_in}
use Rattle.pc_canonical_laws.proofs.Sublists.{one_more}

abbrev pub DeclareEach : Sheet → List Declared → Sheet → Type 0
DeclareEach old [] new = new ≡ old
DeclareEach old (d ∷ ds) new = (mid : Sheet) × Declares old d mid × DeclareEach mid ds new

each_numbered : (old new : Sheet) (ds : List (ℕ × Declared)) → DeclareEach old (map declared_in ds) new → DeclareAll old ds new
each_numbered old new [] is = is
each_numbered old new (d ∷ ds) (mid, first, rest) = (mid, first, each_numbered mid new ds rest)

pub numbered_alike : (old new : Sheet) (xs : List Declared) (ds : List (ℕ × Declared)) → map declared_in ds ≡ xs → DeclareEach old xs new → DeclareAll old ds new
numbered_alike old new xs ds are each = each_numbered old new ds (subst (λ es. DeclareEach old es new) (sym are) each)

pub one_after_another : (old mid new : Sheet) (xs ys : List Declared) → DeclareEach old xs mid → DeclareEach mid ys new → DeclareEach old (xs ++ ys) new
one_after_another old mid new [] ys is rest = subst (λ s. DeclareEach s ys new) is rest
one_after_another old mid new (x ∷ xs) ys (next, first, more) rest = (next, first, one_after_another next mid new xs ys more rest)

module _ {A : Type 0} (all : List A) where
  -- each element gives some declarations, which lead from what stood before it to what stands after it
  module _ (state : List A → List A → Sheet) (block : A → List Declared)
      (step : (before : List A) (x : A) (after : List A) → all ≡ before ++ x ∷ after → DeclareEach (state before (x ∷ after)) (block x) (state (before ++ x ∷ []) after)) where
    pub blocks_declared : (after before : List A) → all ≡ before ++ after → DeclareEach (state before after) (flat_map block after) (state all [])
    blocks_declared [] before is = ap (λ xs. state xs []) (is ∙ append-nil before)
    blocks_declared (x ∷ after) before is =
        one_after_another (state before (x ∷ after)) (state (before ++ x ∷ []) after) (state all []) (block x) (flat_map block after) (step before x after is)
        (blocks_declared after (before ++ x ∷ []) (one_more all before x after is))

  -- each element gives one declaration
  module _ (state : List A → List A → Sheet) (declare : A → Declared)
      (step : (before : List A) (x : A) (after : List A) → all ≡ before ++ x ∷ after → Declares (state before (x ∷ after)) (declare x) (state (before ++ x ∷ []) after)) where
    pub each_declared : (after before : List A) → all ≡ before ++ after → DeclareEach (state before after) (map declare after) (state all [])
    each_declared [] before is = ap (λ xs. state xs []) (is ∙ append-nil before)
    each_declared (x ∷ after) before is = (state (before ++ x ∷ []) after, step before x after is, each_declared after (before ++ x ∷ []) (one_more all before x after is))

  -- one that goes by what stands before it
  module _ (state : List A → List A → Sheet) (declare : List A → A → Declared)
      (step : (before : List A) (x : A) (after : List A) → all ≡ before ++ x ∷ after → Declares (state before (x ∷ after)) (declare before x) (state (before ++ x ∷ []) after)) where
    pub behind_declared : (after before : List A) → all ≡ before ++ after → DeclareEach (state before after) (each_behind declare before after) (state all [])
    behind_declared [] before is = ap (λ xs. state xs []) (is ∙ append-nil before)
    behind_declared (x ∷ after) before is = (state (before ++ x ∷ []) after, step before x after is, behind_declared after (before ++ x ∷ []) (one_more all before x after is))
