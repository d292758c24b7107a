use Rattle.std.proofs.Common.{refl}
use Rattle.pc_words.proofs.Fitting.{sound, nothing}
use Rattle.pc_words.proofs.law.words_are_worked.Goals as goal

pub returns : goal.returns
returns c = (
  record {
    replay = sound _ _ refl;
    edit = sound _ _ refl;
    check = sound _ _ refl;
    merge = sound _ _ refl;
    posts_on = sound _ _ refl;
    budget_of_posts = sound _ _ refl;
    demo = sound _ _ refl;
    zeros = sound _ _ refl;
    most_blocks = sound _ _ refl;
    budget_behind = sound _ _ refl;
    budget_before = sound _ _ refl;
    budget_between = sound _ _ refl;
    most_budget = sound _ _ refl;
    named_as_a_mode = sound _ _ refl;
  },
  record {
    none = nothing _ refl;
    other = nothing _ refl;
    too_many = nothing _ refl;
    no_file = nothing _ refl;
    empty_file = nothing _ refl;
    dashed_file = nothing _ refl;
    no_number = nothing _ refl;
    too_large = nothing _ refl;
    zero = nothing _ refl;
    four_digits = nothing _ refl;
    budget_of_check = nothing _ refl;
    budget_of_merge = nothing _ refl;
    merge_of_none = nothing _ refl;
    posts_of_dashed = nothing _ refl;
    budget_twice = nothing _ refl;
    no_budget = nothing _ refl;
    empty_budget = nothing _ refl;
    zero_budget = nothing _ refl;
    signed_budget = nothing _ refl;
    larger_budget = nothing _ refl;
    long_budget = nothing _ refl;
    dashes = nothing _ refl;
    help = nothing _ refl;
  },
)
