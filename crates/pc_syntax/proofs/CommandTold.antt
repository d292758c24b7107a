-- What is told of a command line.
use Rattle.std.proofs.Common.{◌≡◌, ℕ, ◌≤◌, ◌⊎◌, inl, inr, Result, Ok, Err, Option, Some, None, List, [], ◌∷◌, length, ⊎_elim, refl, sym, ap, subst, arith}
use Rattle.std.specs.Prelude.{codes}
use Rattle.std.proofs.lemmas.Bool.{cases_lt}
use Rattle.std.specs.Str.{IsUtf8}
use Rattle.pc_token.specs.declared.token.Kind.TheVariants.{Name}
use Rattle.pc_token.specs.Line.{IsOneName}
use Rattle.pc_formula.specs.Nesting.{nesting_of}
use Rattle.pc_formula.specs.declared.refusal.Refusal.{Refusal}
use Rattle.pc_formula.specs.declared.refusal.Refusal.TheVariants as refusal
use Rattle.pc_formula.specs.Word.{Word, name, word, nesting}
use Rattle.pc_formula.proofs.Nests.{nested}
use Rattle.pc_formula.proofs.Sizes.{words_within}
use Rattle.pc_syntax.specs.declared.fault.LineFault.{LineFault}
use Rattle.pc_syntax.specs.declared.fault.LineFault.TheVariants as line_fault
use Rattle.pc_syntax.specs.declared.tree.Command.{Command}
use Rattle.pc_syntax.specs.declared.tree.CommandFault.{CommandFault}
use Rattle.pc_syntax.specs.declared.tree.CommandFault.TheVariants as command_fault
use Rattle.pc_syntax.specs.Fault.{too_deep}
use Rattle.pc_syntax.specs.Spelling.{IsNothing, IsSpelled}
use Rattle.pc_syntax.specs.Tree.{Formula, Asked, asked_of, asks_enter, asks_also, asks_clear, asks_clear_one, asks_rule, asks_drop, asks_budget, asks_show, asks_grid, asks_json, asks_why, asks_dump, asks_repairs, asks_prove_repairs, asks_whynot, asks_ask}
use Rattle.pc_syntax.specs.Command.{command_keyword, FollowsCommand, IsCommand, most_asked_nesting, IsDeepAsk, HasCommand, no_words, some_words, deep_words, CommandReading, no_command, asks, at_fault, IsCommandReading, empty_command, spelled_command, deep_command, faulty_command, TakesNoMemory}
use Rattle.pc_syntax.specs.Told.{Spells, SpellsTooDeep, SpellsNone, IsHeard, IsAskedTold, IsLone, line_fault_of, command_fault_of, IsCommandTold, TellsCommand}
use Rattle.pc_syntax.specs.Sized.{too_many, IsSized, IsSizedReading, IsNestedReading}
use Rattle.pc_syntax.proofs.Families.{sized_formula, nesting_of_one}
use Rattle.pc_syntax.proofs.ReadLine.{spelled, faulty, one_name_has, spells_none_more}
use Rattle.pc_syntax.proofs.OneCommand.{one_command_reading}
use Rattle.pc_syntax.proofs.Limits.{limited_rule}

pub tells : (line : List ℕ) (r : Result (Option Command) CommandFault) → IsCommandTold line r → (q : CommandReading) → IsCommandReading line q → TellsCommand r q
tells line (Ok None) told q is = one_command_reading line q no_command is told
tells line (Ok (Some c)) told q is = one_command_reading line q (asks (asked_of c)) is told
tells line (Err command_fault.NotUtf8) told q is = one_command_reading line q _ is told
tells line (Err command_fault.TooDeep) told q is = one_command_reading line q _ is told
tells line (Err command_fault.Syntax) told q is = one_command_reading line q _ is told
tells line (Err command_fault.Memory) told q is = tt

-- the word that starts a command is a name
is_a_name : (a : Asked) → word Name (command_keyword a) ≡ name (command_keyword a)
is_a_name (asks_enter c v) = refl
is_a_name (asks_also c v) = refl
is_a_name (asks_clear c) = refl
is_a_name (asks_clear_one c v) = refl
is_a_name (asks_rule n f) = refl
is_a_name (asks_drop n) = refl
is_a_name (asks_budget n) = refl
is_a_name asks_show = refl
is_a_name asks_grid = refl
is_a_name asks_json = refl
is_a_name (asks_why c v h) = refl
is_a_name asks_dump = refl
is_a_name asks_repairs = refl
is_a_name asks_prove_repairs = refl
is_a_name (asks_whynot c v) = refl
is_a_name (asks_ask f) = refl

spells_one : (text : List ℕ) (a : Asked) → IsOneName text (command_keyword a) → Spells text (λ ws. ws ≡ name (command_keyword a) ∷ [])
spells_one text a one = record {
  words = name (command_keyword a) ∷ [];
  has = one_name_has text (command_keyword a) (is_a_name a) one;
  within = omega (arith, nesting_of_one (command_keyword a));
  is = refl;
}

-- ---- what the words of a text are told as

-- where the text has no tokens that don't go too deep
pub tokens_told : (text : List ℕ) (f : LineFault) → SpellsNone text f (λ ws. Unit {0}) → IsAskedTold text (Err f)
tokens_told text line_fault.NotUtf8 none = none
tokens_told text line_fault.TooDeep none = inl none
tokens_told text line_fault.Syntax none = spells_none_more text line_fault.Syntax (λ ws. Unit {0}) IsHeard (λ ws q. tt) none
tokens_told text line_fault.Memory none = tt

-- where a reader of the words refuses them
pub refused_asked : (text : List ℕ) (r : Refusal) → SpellsNone text (line_fault_of r) IsHeard → IsAskedTold text (Err (line_fault_of r))
refused_asked text refusal.Syntax none = none
refused_asked text refusal.Memory none = tt

-- one name doesn't go deep
one_is_shallow : (n : List ℕ) (ws : List Word) → ws ≡ name n ∷ [] → ¬ IsDeepAsk ws
one_is_shallow n ws is d = absurd (omega (arith, d.deep, ap nesting is, nesting_of_one n))

module _ (text line : List ℕ) (same : text ≡ line) (utf8 : IsUtf8 line) (some : IsNothing line → ⊥) where
  -- a line of one word that is a command
  pub lone_told : (a : Asked) → IsOneName text (command_keyword a) → FollowsCommand a [] → IsCommandReading line (asks a)
  lone_told a one follows =
      let s = spells_one text a one in
      spelled_command s.words (spelled text line same utf8 some _ s) (record { rest = []; words = s.is; follows = follows }) (λ d. one_is_shallow (command_keyword a) s.words s.is d)

  pub command_told : (a : Asked) → Spells text (λ ws. IsCommand ws a × (¬ IsDeepAsk ws)) → IsCommandReading line (asks a)
  command_told a s = spelled_command s.words (spelled text line same utf8 some _ s) s.is.0 s.is.1

  words_back : HasCommand line → (ws : List Word) × IsSpelled line ws × IsHeard ws
  words_back (no_words n) = absurd (some n)
  words_back (some_words ws a s is) = (ws, s, inl (a, is))
  words_back (deep_words ws s is) = (ws, s, inr is)

  too_deep_told : SpellsTooDeep text ⊎ Spells text IsDeepAsk → IsCommandReading line (at_fault too_deep)
  too_deep_told (inl none) = faulty_command (faulty text line same utf8 some line_fault.TooDeep IsHeard (HasCommand line) words_back none)
  too_deep_told (inr s) = deep_command s.words (spelled text line same utf8 some _ s) s.is

  pub refused_told : (f : LineFault) → IsAskedTold text (Err f) → (r : CommandFault) → r ≡ command_fault_of f → IsCommandTold line (Err r)
  refused_told line_fault.NotUtf8 none r is = absurd none
  refused_told line_fault.TooDeep none r is = subst (λ e. IsCommandTold line (Err e)) (sym is) (too_deep_told none)
  refused_told line_fault.Syntax none r is = subst (λ e. IsCommandTold line (Err e)) (sym is) (faulty_command (faulty text line same utf8 some line_fault.Syntax IsHeard (HasCommand line) words_back none))
  refused_told line_fault.Memory none r is = subst (λ e. IsCommandTold line (Err e)) (sym is) tt

  pub memory_taken : (IsLone text → ⊥) → TakesNoMemory line → ⊥
  memory_taken more takes = ⊎_elim (λ n. some n) (λ lone. more (subst IsLone (sym same) lone)) takes

-- ---- the rule of a command

-- the formula that is asked
asked_limited : (line : List ℕ) (ws : List Word) (f : Formula) → length line ≤ too_many → IsSpelled line ws → (is : IsCommand ws (asks_ask f)) → (¬ IsDeepAsk ws) → IsSized f × (nesting_of f ≤ most_asked_nesting)
asked_limited line ws f few s is shallow =
    let count = ap length is.words in
    let depth = ap nesting is.words in
    let same : nesting (name (codes "ask") ∷ is.rest) ≡ nesting is.rest = refl in
    let within : nesting ws ≤ most_asked_nesting = elim (cases_lt most_asked_nesting (nesting ws)) [
      | inl deep ↦ absurd (shallow (record { rest = is.rest; words = is.words; deep = deep }))
      | inr le ↦ le
    ] in
    (sized_formula is.rest f is.follows (omega (arith, words_within line ws s.split.has, count, few)), omega (arith, nested is.rest f is.follows, depth, same, within))

sized_asked : (a : Asked) (line : List ℕ) (ws : List Word) → length line ≤ too_many → IsSpelled line ws → IsCommand ws a → (¬ IsDeepAsk ws) → IsSizedReading (asks a)
sized_asked (asks_rule n f) line ws few s is shallow = (limited_rule line ws is.rest (codes "rule") n f few s is.words is.follows).sized
sized_asked (asks_ask f) line ws few s is shallow = (asked_limited line ws f few s is shallow).0
sized_asked a line ws few s is shallow = tt

nested_asked : (a : Asked) (line : List ℕ) (ws : List Word) → length line ≤ too_many → IsSpelled line ws → IsCommand ws a → (¬ IsDeepAsk ws) → IsNestedReading (asks a)
nested_asked (asks_rule n f) line ws few s is shallow = (limited_rule line ws is.rest (codes "rule") n f few s is.words is.follows).nested
nested_asked (asks_ask f) line ws few s is shallow = (asked_limited line ws f few s is shallow).1
nested_asked a line ws few s is shallow = tt

pub sized_command : (line : List ℕ) (r : CommandReading) → length line ≤ too_many → IsCommandReading line r → IsSizedReading r
sized_command line r few (empty_command n) = tt
sized_command line r few (spelled_command {a = a} ws s is shallow) = sized_asked a line ws few s is shallow
sized_command line r few (deep_command ws s d) = tt
sized_command line r few (faulty_command e) = tt

pub nested_command : (line : List ℕ) (r : CommandReading) → length line ≤ too_many → IsCommandReading line r → IsNestedReading r
nested_command line r few (empty_command n) = tt
nested_command line r few (spelled_command {a = a} ws s is shallow) = nested_asked a line ws few s is shallow
nested_command line r few (deep_command ws s d) = tt
nested_command line r few (faulty_command e) = tt
