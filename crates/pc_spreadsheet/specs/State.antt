-- The state's code, by which a proof tells states apart.
use Rattle.std.specs.Prelude.{ℕ, refl}
use Rattle.std.specs.Coded.{Coded, code_by, coded×, coded_ℕ}
use Rattle.pc_sheet.specs.Sheet.{Sheet}
use Rattle.pc_sheet.specs.Codes.{coded_sheet}
use Rattle.pc_spreadsheet.specs.Tasks.{State}

abbrev pub coded_state : Coded State
coded_state = code_by (Sheet × ℕ) (coded× coded_sheet coded_ℕ) (λ s. (s.sheet, s.budget)) (λ p. record { sheet = p.0; budget = p.1 }) (λ _. refl)
