use Rattle.std.proofs.Common.{◌≡◌, length, sym, ◌∙◌, rules}
use Rattle.pc_name.specs.Names.{starts_name, continues_name}
use Rattle.pc_token.proofs.Names.{first_char, next_char, no_char_at_end, only_char}
use Rattle.pc_token.proofs.name.name_end.Goals as goal
use Rattle.pc_token.proofs.name.name_end.Goals.{in_default-via-in-None-1, in_default-via-in-Some+else-starts_name}

pub loop-c-init : goal.loop-c-init
loop-c-init c = first_char _ _ c.in-Some.c _ (record { utf8 = c.utf8.line; here = c.requires; more = c.in-Some.ensures; size = c.len_utf8-end.ensures.value }) (sym c.starts_name.ensures ∙ c.if-starts_name.true)

pub loop-c-preserved : goal.loop-c-preserved
loop-c-preserved c = next_char _ _ _ c.in-Some-char_at.c _ c.loop-c.invariant (record { utf8 = c.utf8.line; here = c.loop-c.invariant.boundary; more = c.in-Some-char_at.ensures; size = c.len_utf8-end-in-loop-c.ensures.value }) (sym c.continues_name.ensures ∙ c.if-continues_name.true)

pub returns-in-loop-c-clause-name : goal.returns-in-loop-c-clause-name
returns-in-loop-c-clause-name c = λ after.
    let at_end : c.loop-c.end ≡ length c.args.line.now = search rules in
    record { name = c.loop-c.invariant.name; longest = λ d more is. absurd (no_char_at_end _ _ d more at_end is) }

pub returns-else-continues_name-clause-name : goal.returns-else-continues_name-clause-name
returns-else-continues_name-clause-name c = λ after.
    record { name = c.loop-c.invariant.name; longest = only_char continues_name _ c.in-Some-char_at.c c.in-Some-char_at.ensures (sym c.continues_name.ensures ∙ c.if-continues_name.false) }

pub returns-in_default-clause-start : goal.returns-in_default-clause-start
returns-in_default-clause-start c = λ same d more is.
    elim c.in_default.branch [
      | in_default-via-in-None-1 w ↦
          let at_end : c.args.start ≡ length c.args.line.now = search rules in
          absurd (no_char_at_end _ _ d more at_end is)
      | in_default-via-in-Some+else-starts_name w ↦ only_char starts_name _ w.in-Some.c w.in-Some.ensures (sym w.starts_name.ensures ∙ w.if-starts_name.false) d more is
    ]
