use Rattle.std.proofs.Common.{List, All, length, map, sym, subst, ap, ◌∙◌}
use Rattle.std.proofs.lemmas.List.{length-replicate}
use Rattle.pc_lits.specs.declared.literal.Lit.{Lit}
use Rattle.pc_cert.specs.Views.{symbol_of, literal_of}
use Rattle.pc_checker.specs.Made.{blocks_said}
use Rattle.pc_checker.specs.inside.Prepared.{ArePrepared}
use Rattle.pc_cert.specs.declared.cert.SaidSet.{SaidSet}
use Rattle.pc_cert.specs.ReadFor.{IsNamedIn}
use Rattle.pc_checker.proofs.Made.{derivation_prepared}
use Rattle.pc_checker.proofs.room.room_for_derivation.Goals as goal

pub returns : goal.returns
returns c =
    let names = c.write_allowed.new.draft.symbols in
    derivation_prepared c.args.book.now c.args.cert.now _ _ _ _ c.deref-3.result.now c.begin.new.self c.prepare_lines.new.draft c.write_allowed.new.draft c.new-draft.result.symbols c.deref-3.ensures.value
    (c.new-draft.ensures.symbols ∙ c.in_ok-names.ensures ∙ ap (map symbol_of) c.deref.ensures.value)
    (subst (λ (sets : List SaidSet). ArePrepared c.args.book.now (blocks_said c.args.book.now sets) c.deref-3.result.now (length c.deref-3.result.now) c.new-draft.result.symbols c.prepare_lines.new.draft.symbols c.prepare_lines.new.clauses c.prepare_lines.new.axioms.items)
    c.deref-2.ensures.value c.in_ok-prepare_lines.ensures) c.begin.ensures.symbols c.begin.ensures.clause c.in_ok-write_allowed.ensures
    (ap (map (literal_of names)) c.in_ok-allowed.ensures.items ∙ c.literals.ensures.clause)
    (subst (λ (ls : List Lit). All (IsNamedIn names) ls) (sym c.in_ok-allowed.ensures.items) c.literals.ensures.within)
    (ap length c.in_ok-values.ensures ∙ length-replicate _ _ ∙ c.symbols.ensures.count)
    c.symbols.ensures.distinct
