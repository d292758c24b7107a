use Rattle.std.proofs.Common.{◌≡◌, ◌≤◌, Some, arith, sym, ◌∙◌, ap}
use Rattle.std.proofs.lemmas.Result.{IfOk-weaker}
use Rattle.serde_json.specs.Data.{depth}
use Rattle.serde_json.specs.View.{view}
use Rattle.serde_json.specs.Written.{compact_text, has_float}
use Rattle.pc_display.specs.Json.{sheet_data}
use Rattle.pc_display.proofs.PlainData.{sheet_plain}
use Rattle.pc_display.proofs.objects.json.Goals as goal

pub returns-clause-text : goal.returns-clause-text
returns-clause-text g c = λ text shown.
    let sheet = g.V.Supports.sheet c.args.view.now in
    let built : view c.in_ok-cells_json.field-0 ≡ sheet_data sheet shown.0 = c.in_ok-cells_json.ensures shown.0 shown.1 in
    IfOk-weaker c.to_string.result _ _ (λ s h. h (ap has_float built ∙ (sheet_plain sheet shown.0).float) ∙ ap compact_text built ∙ sym shown.2) c.to_string.ensures.text

pub returns-clause-reads_back : goal.returns-clause-reads_back
returns-clause-reads_back g c = λ whole is.
    let sheet = g.V.Supports.sheet c.args.view.now in
    let built : view c.in_ok-cells_json.field-0 ≡ sheet_data sheet is.0 = c.in_ok-cells_json.ensures is.0 is.1 in
    let shallow : depth (view c.in_ok-cells_json.field-0) ≤ 127 = omega (arith, ap depth built, (sheet_plain sheet is.0).deep) in
    IfOk-weaker c.to_string.result _ _ (λ s h. h shallow ∙ ap Some (built ∙ sym is.2)) c.to_string.ensures.reads_back
