use Rattle.std.proofs.Common.{◌≡◌, true, refl, sym, ◌∙◌, map}
use Rattle.pc_cert.specs.Order.{kind_of, kind_of_written, may_stand}
use Rattle.pc_cert.specs.Trees.{line_of}
use Rattle.pc_cert.proofs.Taken.{misplaced, unnamed, taken_line}
use Rattle.pc_cert.proofs.read.take_form.Goals as goal

pub returns-then-not-stands : goal.returns-then-not-stands
returns-then-not-stands c = λ ls line is g o at.
    (refl, misplaced c.args.book.now ls line (line_of c.args.tree.now) is c.stands.result (c.stands.ensures (map kind_of ls) o) c.if-not-stands.true)

pub returns-then-not-said : goal.returns-then-not-said
returns-then-not-said c = λ ls line is g o at.
    let may : may_stand (map kind_of ls) (kind_of_written (line_of c.args.tree.now)) ≡ true = sym (c.stands.ensures (map kind_of ls) o) ∙ c.if-not-stands.false in
    (refl, unnamed c.args.book.now ls line (line_of c.args.tree.now) is _ c.in_ok-said.said may c.if-not-said.true (c.in_ok-said.ensures ls g at))

pub returns : goal.returns
returns c = λ ls line is g o at.
    let may : may_stand (map kind_of ls) (kind_of_written (line_of c.args.tree.now)) ≡ true = sym (c.stands.ensures (map kind_of ls) o) ∙ c.if-not-stands.false in
    taken_line c.args.book.now ls line (line_of c.args.tree.now) is _ c.behind.result _ c.in_ok-said.said may c.if-not-said.false (c.in_ok-said.ensures ls g at) (c.behind.ensures (map kind_of ls) o may)
