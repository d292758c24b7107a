-- The command as clap has it, and what it finds in words.
use Rattle.std.specs.Prelude.{◌≡◌, true, Some, codes}
use Rattle.clap.specs.declared.parser.matches.ArgMatches.{ArgMatches}
use Rattle.clap.specs.Simple.{on_top}
use Rattle.clap.specs.Words.{App, Rule, new_app, new_rule, with_rule, first_value, found_of}
use Rattle.pc_words.specs.inside.Parts.{Parts}

abbrev pub mode_rule : Rule
mode_rule = record (new_rule (codes "mode")) { required = true }

abbrev pub word_rule : Rule
word_rule = new_rule (codes "word")

abbrev pub budget_rule : Rule
budget_rule = record (new_rule (codes "budget")) { long = Some (codes "budget") }

abbrev pub plain_app : App
plain_app = on_top (λ s. record s { no_binary_name = true; disable_help_flag = true }) (new_app (codes "predicalc"))

-- a required word, an optional word and the option
abbrev pub app : App
app = with_rule (with_rule (with_rule plain_app mode_rule) word_rule) budget_rule

-- the matches have these parts
pub record HasParts (m : ArgMatches) (p : Parts) : Type 0 where
  pub mode : first_value (found_of m) (codes "mode") ≡ Some p.mode
  pub word : first_value (found_of m) (codes "word") ≡ p.word
  pub budget : first_value (found_of m) (codes "budget") ≡ p.budget
