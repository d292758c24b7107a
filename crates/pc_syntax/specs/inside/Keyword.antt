-- The words that start commands of several words.
use Rattle.std.specs.Prelude.{ℕ, List, codes}
use Rattle.pc_syntax.specs.declared.command.Keyword.{Keyword}
use Rattle.pc_syntax.specs.declared.command.Keyword.TheVariants.{Enter, Also, Clear, Rule, Remove, Budget, Why, Prove, WhyNot, Ask}

-- the word that starts the command
abbrev pub keyword_text : Keyword → List ℕ
keyword_text Enter = codes "enter"
keyword_text Also = codes "also"
keyword_text Clear = codes "clear"
keyword_text Rule = codes "rule"
keyword_text Remove = codes "drop"
keyword_text Budget = codes "budget"
keyword_text Why = codes "why"
keyword_text Prove = codes "prove"
keyword_text WhyNot = codes "whynot"
keyword_text Ask = codes "ask"
