-- The code of a session's view, by which a proof tells views apart.
use Rattle.std.specs.Prelude.{◌≡◌, ◌⊎◌, ℕ, Bool, List, Option, refl}
use Rattle.std.proofs.Common.{inl, inr}
use Rattle.std.specs.Coded.{Coded, code_by, coded×, coded⊎, coded_ℕ, coded_bool, coded_list, coded_option}
use Rattle.pc_sheet.specs.Sheet.{Sheet}
use Rattle.pc_sheet.specs.Codes.{coded_sheet, coded_entry, coded_value_id}
use Rattle.pc_sheet.specs.declared.ids.ValueId.{ValueId}
use Rattle.pc_sheet.specs.declared.ids.Entry.{Entry}
use Rattle.pc_sheet.specs.declared.ids.Target.{Target}
use Rattle.pc_lits.specs.declared.literal.Lit.{Lit}
use Rattle.pc_log.specs.declared.log.StepId.{StepId}
use Rattle.pc_log.specs.Lines.{LogLine, AxiomLine, BlockLine, StepLine}
use Rattle.pc_lits.specs.declared.literal.Var.{Var}
use Rattle.pc_sheet.specs.declared.ids.CellId.{CellId}
use Rattle.pc_components.specs.View.{Kept}
use Rattle.pc_reason.specs.Reasons.{Justification}
use Rattle.pc_cache.specs.Rows.{TargetRow}
use Rattle.pc_session.specs.Views.{Counts, SessionView}

abbrev coded_lit : Coded Lit
coded_lit = code_by (ℕ × Bool) (coded× coded_ℕ coded_bool) (λ l. (l.variable.0, l.sign)) (λ p. record { variable = record { 0 = p.0 }; sign = p.1 }) (λ _. refl)

abbrev coded_step : Coded StepId
coded_step = code_by ℕ coded_ℕ (λ s. s.0) (λ n. record { 0 = n }) (λ _. refl)

abbrev LineParts : Type 0
LineParts = ℕ ⊎ ((ℕ × List Lit) ⊎ (List Lit × (List StepId × Bool)))

abbrev parts_of : LogLine → LineParts
parts_of (AxiomLine number) = inl number
parts_of (BlockLine number clause) = inr (inl (number, clause))
parts_of (StepLine clause hints learned) = inr (inr (clause, (hints, learned)))

abbrev line_of : LineParts → LogLine
line_of (inl number) = AxiomLine number
line_of (inr (inl block)) = BlockLine block.0 block.1
line_of (inr (inr step)) = StepLine step.0 step.1.0 step.1.1

pub line_back : (line : LogLine) → line_of (parts_of line) ≡ line
line_back (AxiomLine number) = refl
line_back (BlockLine number clause) = refl
line_back (StepLine clause hints learned) = refl

abbrev coded_line : Coded LogLine
coded_line =
    code_by LineParts (coded⊎ coded_ℕ (coded⊎ (coded× coded_ℕ (coded_list coded_lit)) (coded× (coded_list coded_lit) (coded× (coded_list coded_step) coded_bool)))) parts_of line_of line_back

abbrev coded_target : Coded Target
coded_target =
    code_by (ℕ × (ℕ × Bool)) (coded× coded_ℕ (coded× coded_ℕ coded_bool)) (λ t. (t.cell.0, (t.value.0, t.holds)))
    (λ p. record { cell = record { 0 = p.0 }; value = record { 0 = p.1.0 }; holds = p.1.1 }) (λ _. refl)

abbrev coded_justification : Coded Justification
coded_justification =
    code_by (List Entry × (List ValueId × List LogLine)) (coded× (coded_list coded_entry) (coded× (coded_list coded_value_id) (coded_list coded_line)))
    (λ j. (j.support, (j.shown, j.lines))) (λ p. record { support = p.0; shown = p.1.0; lines = p.1.1 }) (λ _. refl)

abbrev coded_row : Coded TargetRow
coded_row = code_by (Target × Option Justification) (coded× coded_target (coded_option coded_justification)) (λ r. (r.target, r.row)) (λ p. record { target = p.0; row = p.1 }) (λ _. refl)

abbrev coded_cell : Coded CellId
coded_cell = code_by ℕ coded_ℕ (λ c. c.0) (λ n. record { 0 = n }) (λ _. refl)

abbrev coded_var : Coded Var
coded_var = code_by ℕ coded_ℕ (λ v. v.0) (λ n. record { 0 = n }) (λ _. refl)

abbrev coded_components : Coded Kept
coded_components =
    code_by (List (List CellId) × (List (List ℕ) × (List (List Var) × (List ℕ × List (Option Bool)))))
    (coded× (coded_list (coded_list coded_cell)) (coded× (coded_list (coded_list coded_ℕ)) (coded× (coded_list (coded_list coded_var)) (coded× (coded_list coded_ℕ) (coded_list (coded_option coded_bool))))))
    (λ k. (k.cells, (k.axioms, (k.variables, (k.numbers, k.banned)))))
    (λ p. record { cells = p.0; axioms = p.1.0; variables = p.1.1.0; numbers = p.1.1.1.0; banned = p.1.1.1.1 }) (λ _. refl)

abbrev pub coded_counts : Coded Counts
coded_counts =
    code_by (ℕ × (ℕ × (ℕ × ℕ))) (coded× coded_ℕ (coded× coded_ℕ (coded× coded_ℕ coded_ℕ))) (λ c. (c.placed, (c.learned, (c.calls, c.limit))))
    (λ p. record { placed = p.0; learned = p.1.0; calls = p.1.1.0; limit = p.1.1.1 }) (λ _. refl)

abbrev pub coded_session : Coded SessionView
coded_session =
    code_by (Sheet × (ℕ × (Counts × (Kept × (List TargetRow × (ℕ × ℕ))))))
    (coded× coded_sheet (coded× coded_ℕ (coded× coded_counts (coded× coded_components (coded× (coded_list coded_row) (coded× coded_ℕ coded_ℕ))))))
    (λ s. (s.sheet, (s.budget, (s.tally, (s.components, (s.rows, (s.bytes, s.spare)))))))
    (λ p. record { sheet = p.0; budget = p.1.0; tally = p.1.1.0; components = p.1.1.1.0; rows = p.1.1.1.1.0; bytes = p.1.1.1.1.1.0; spare = p.1.1.1.1.1.1 }) (λ _. refl)
