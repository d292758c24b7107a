use Rattle.std.proofs.Common.{◌∙◌, sym, subst}
use Rattle.pc_name.specs.Names.{AllContinue}
use Rattle.pc_name.proofs.Characters.{empty_has_none, has_characters, first_starts, false_is_true, empty_of_length}
use Rattle.pc_name.proofs.name.has_name_characters.Goals as goal

pub returns-then-starts_name : goal.returns-then-starts_name
returns-then-starts_name c =
    let first = sym c.chars-rest.ensures.rest ∙ c.in-Some.ensures.steps.0 in
    let starts = sym c.starts_name.ensures ∙ c.if-starts_name.true in (
      λ yes. has_characters _ _ _ first starts (subst AllContinue c.as_str.ensures (c.all_continue.ensures.0 yes)),
      λ has. c.all_continue.ensures.1 (subst AllContinue (sym c.as_str.ensures) (first_starts _ _ _ first has).1),
    )

pub returns-else-starts_name : goal.returns-else-starts_name
returns-else-starts_name c =
    let first = sym c.chars-rest.ensures.rest ∙ c.in-Some.ensures.steps.0 in
    let no = sym c.if-starts_name.false ∙ c.starts_name.ensures in
    (λ yes. absurd (false_is_true (sym c.if-starts_name.false ∙ yes)), λ has. absurd (false_is_true (no ∙ (first_starts _ _ _ first has).0)))

pub returns-in-None : goal.returns-in-None
returns-in-None c =
    let empty = empty_of_length _ (c.in-None.ensures.steps.0.0) in
    (λ z. absurd (false_is_true z), λ has. absurd (empty_has_none has.0 _ (sym empty ∙ c.chars-rest.ensures.rest ∙ has.2)))
