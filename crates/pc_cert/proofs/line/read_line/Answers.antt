use Rattle.std.proofs.Common.{codes, sym, ◌∙◌, ap, subst}
use Rattle.pc_cert.specs.Line.{IsCertificateForm}
use Rattle.pc_cert.specs.Trees.{seen}
use Rattle.pc_cert.proofs.Forms.{told_at, texts_are}
use Rattle.pc_cert.proofs.line.read_line.Goals as goal

pub returns-then-is_word-clause-told : goal.returns-then-is_word-clause-told
returns-then-is_word-clause-told c =
    let texts = texts_are c.args.line.now c.in_ok-found.found.items c.deref.result.now c.in-Some.first.now c.in-Some.rest.now (codes "certificate") c.in_ok-found.ensures c.deref.ensures.value c.in-Some.ensures.cases.0 (c.is_word.ensures.0 c.if-is_word.true) in
    told_at c.args.line.now _ c.heading_line.result texts c.heading_line.ensures.told

pub returns-then-is_word-clause-none : goal.returns-then-is_word-clause-none
returns-then-is_word-clause-none c = λ e f is.
    let texts = texts_are c.args.line.now c.in_ok-found.found.items c.deref.result.now c.in-Some.first.now c.in-Some.rest.now (codes "certificate") c.in_ok-found.ensures c.deref.ensures.value c.in-Some.ensures.cases.0 (c.is_word.ensures.0 c.if-is_word.true) in
    c.heading_line.ensures.none e c.args.line.now f (subst (λ ts. IsCertificateForm c.args.line.now ts f) texts is)

pub returns-then-is_word-6-clause-told : goal.returns-then-is_word-6-clause-told
returns-then-is_word-6-clause-told c =
    let texts = texts_are c.args.line.now c.in_ok-found.found.items c.deref.result.now c.in-Some.first.now c.in-Some.rest.now (codes "end") c.in_ok-found.ensures c.deref.ensures.value c.in-Some.ensures.cases.0 (c.is_word-6.ensures.0 c.if-is_word-6.true) in
    told_at c.args.line.now _ c.end_line.result texts c.end_line.ensures.told

pub returns-then-is_word-3-clause-told : goal.returns-then-is_word-3-clause-told
returns-then-is_word-3-clause-told c =
    let texts = texts_are c.args.line.now c.in_ok-found.found.items c.deref.result.now c.in-Some.first.now c.in-Some.rest.now (codes "set") c.in_ok-found.ensures c.deref.ensures.value c.in-Some.ensures.cases.0 (c.is_word-3.ensures.0 c.if-is_word-3.true) in
    told_at c.args.line.now _ c.set_line.result texts c.set_line.ensures.told

pub returns-clause-told : goal.returns-clause-told
returns-clause-told c =
    told_at c.args.line.now _ c.derivation_line.result (sym c.in_ok-found.ensures ∙ ap seen (sym c.as_slice.ensures.value)) c.derivation_line.ensures.told
