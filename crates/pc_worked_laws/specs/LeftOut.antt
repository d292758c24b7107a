-- Which axioms of small sheets a search may leave out, and which it has to take.
use Rattle.std.specs.Prelude.{ℕ, List, [], ◌∷◌}
use Rattle.pc_name.specs.declared.sign.Op.TheVariants.{Eq}
use Rattle.pc_sheet.specs.Sheet.{Sheet, Statement, compare}
use Rattle.pc_laws.specs.Examples.{red, green, color_side}
use Rattle.pc_laws.specs.Weights.{a_is_red, either, of_one_rule}
use Rattle.pc_ground.specs.Worked.{twice}
use Rattle.pc_kept.specs.Kept.{AreKept}

-- ---- a = red | a = red

-- 0 and 1 say that a has one color, 2 that the rule is true; 3 and 4 that it is where a part is, 5 that a part is where it is; 6 and 7 what
-- the first part means, 8 and 9 the second one
abbrev pub all_of_twice : List ℕ
all_of_twice = 0 ∷ 1 ∷ 2 ∷ 3 ∷ 4 ∷ 5 ∷ 6 ∷ 7 ∷ 8 ∷ 9 ∷ []

pub record WorkedTwice : Type 0 where
  -- nothing has to be left out
  pub all : AreKept twice all_of_twice all_of_twice
  -- the rule is true, so nothing need say when it is
  pub true_from_start : AreKept twice all_of_twice (0 ∷ 1 ∷ 2 ∷ 5 ∷ 6 ∷ 7 ∷ 8 ∷ 9 ∷ [])
  -- what it is true by has to stay, though no kept axiom names its parts: the rule's node is named
  pub rule_alone : ¬ AreKept twice all_of_twice (0 ∷ 1 ∷ 2 ∷ [])
  -- nor may a part be true where it pleases
  pub half_a_part : ¬ AreKept twice all_of_twice (0 ∷ 1 ∷ 2 ∷ 5 ∷ 6 ∷ 7 ∷ 8 ∷ [])
  -- axioms of rules and cells are always kept
  pub without_rule : ¬ AreKept twice all_of_twice (0 ∷ 1 ∷ 3 ∷ 4 ∷ 5 ∷ 6 ∷ 7 ∷ 8 ∷ 9 ∷ [])
  pub without_cell : ¬ AreKept twice all_of_twice (1 ∷ 2 ∷ 3 ∷ 4 ∷ 5 ∷ 6 ∷ 7 ∷ 8 ∷ 9 ∷ [])
  -- of axioms that name a part which no kept one names none is needed, and of two that do both are
  pub unneeded : AreKept twice (0 ∷ 1 ∷ 2 ∷ 6 ∷ 7 ∷ []) (0 ∷ 1 ∷ 2 ∷ [])
  pub needed : ¬ AreKept twice (0 ∷ 1 ∷ 2 ∷ 6 ∷ 7 ∷ []) (0 ∷ 1 ∷ 2 ∷ 6 ∷ [])
  -- some of the used ones, in order
  pub not_used : ¬ AreKept twice (0 ∷ 1 ∷ 2 ∷ []) (0 ∷ 1 ∷ 2 ∷ 3 ∷ [])
  pub turned : ¬ AreKept twice (0 ∷ 1 ∷ 2 ∷ []) (0 ∷ 2 ∷ 1 ∷ [])

-- ---- what is true or false whatever values cells have

-- red = red
abbrev pub always : Statement
always = compare (color_side red) Eq (color_side red)

-- red = green
abbrev pub never : Statement
never = compare (color_side red) Eq (color_side green)

-- a = red | red = red: as above, but 8 says that the second part is true
abbrev pub true_by_part : Sheet
true_by_part = of_one_rule (either a_is_red always)

pub record WorkedConstants : Type 0 where
  -- such a rule asks nothing, be it an atom or not
  pub true_part : AreKept true_by_part (0 ∷ 1 ∷ 2 ∷ 3 ∷ 4 ∷ 5 ∷ 6 ∷ 7 ∷ 8 ∷ []) (0 ∷ 1 ∷ 2 ∷ [])
  pub true_rule : AreKept (of_one_rule always) (0 ∷ 1 ∷ 2 ∷ 3 ∷ []) (0 ∷ 1 ∷ 2 ∷ [])
  -- but where a kept axiom names what is constant, that has to be said: without 3 the rule would seem consistent
  pub false_rule : ¬ AreKept (of_one_rule never) (0 ∷ 1 ∷ 2 ∷ 3 ∷ []) (0 ∷ 1 ∷ 2 ∷ [])
