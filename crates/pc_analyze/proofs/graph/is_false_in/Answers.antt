use Rattle.std.proofs.Common.{◌≡◌, ℕ, ◌≤◌, Bool, false, List, length, Option, None, Some, sym, ◌∙◌, subst, arith}
use Rattle.std.proofs.lemmas.Bool.{false≢true}
use Rattle.std.proofs.lemmas.List.{get_or_past}
use Rattle.pc_lits.specs.declared.literal.Lit.{Lit}
use Rattle.pc_lits.specs.Values.{MakesTrue}
use Rattle.pc_propagate.proofs.PlaceLemmas.{false_at_literal, false_at_same}
use Rattle.pc_analyze.proofs.graph.is_false_in.Goals as goal

-- past the values nothing is true
past : (values : List (Option Bool)) (l : Lit) → length values ≤ l.variable.0 → MakesTrue values l → ⊥
past values l out makes = never l.sign (sym (get_or_past values l.variable.0 None out) ∙ makes)
  where
    never : (b : Bool) → ◌≡◌ {A = Option Bool} None (Some b) → ⊥
    never b e = cc

pub returns : goal.returns
returns c =
    let here = false_at_literal _ c.args.place c.at.result c.negated-lit.result c.at.ensures.literal c.negated-lit.ensures in (
      λ t. (c.negated-lit.result, here, c.is_true.ensures.0 t),
      λ h. c.is_true.ensures.1 (subst (MakesTrue c.args.values.now) (false_at_same _ c.args.place h.0 c.negated-lit.result h.1 here) h.2),
    )

pub returns-then-lit-len : goal.returns-then-lit-len
returns-then-lit-len c =
    let here = false_at_literal _ c.args.place c.at.result c.negated-lit.result c.at.ensures.literal c.negated-lit.ensures in (
      λ t. absurd (false≢true t),
      λ h. absurd (past c.args.values.now c.negated-lit.result (omega (arith, c.if-lit-len.true, c.len.ensures)) (subst (MakesTrue c.args.values.now) (false_at_same _ c.args.place h.0 c.negated-lit.result h.1 here) h.2)),
    )
