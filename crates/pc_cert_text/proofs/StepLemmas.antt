-- The text of a kept step.
use Rattle.std.proofs.Common.{◌≡◌, ℕ, Bool, ◌+◌, List, [], ◌∷◌, ◌++◌, map, codes, refl, ap, ◌∙◌}
use Rattle.std.specs.List.{flat_map}
use Rattle.pc_accept.specs.Literals.{Literal}
use Rattle.pc_log.specs.declared.log.StepId.{StepId}
use Rattle.pc_reason.specs.Derivation.{literal_named, number_of}
use Rattle.pc_cert_text.specs.CertificateText.{behind_blank, literal_text, number_text}
use Rattle.pc_sheet.specs.Sheet.{Sheet}
use Rattle.pc_lits.specs.declared.literal.Lit.{Lit}
use Rattle.pc_log.specs.Lines.{StepLine}
use Rattle.pc_axiom_names.specs.Listed.{NameLists}
use Rattle.pc_cert_text.specs.declared.lines.Lines.{Lines}
use Rattle.pc_cert_text.specs.inside.Steps.{hint_text, logged_text, number_in, step_text}
use Rattle.pc_cert_text.proofs.TextLemmas.{flat_mapped}

hints_agree : (lines : Lines) (hints : List StepId)
    → flat_map (hint_text lines) hints ≡ flat_map (λ (h : ℕ). behind_blank (number_text (h + 1))) (map number_of (map {B = StepId} (λ (h : StepId). record { 0 = number_in lines h.0 }) hints))
hints_agree lines [] = refl
hints_agree lines (h ∷ hs) = ap (λ rest. hint_text lines h ++ rest) (hints_agree lines hs)

-- the text of a kept step is that of its line in a certificate
pub step_texts_agree : (sheet : Sheet) (names : NameLists) (lines : Lines) (clause : List Lit) (hints : List StepId) (learned : Bool) → step_text sheet names lines clause hints ≡ logged_text sheet names lines (StepLine clause hints learned)
step_texts_agree sheet names lines clause hints learned =
    ap (λ text. codes "step" ++ (text ++ (codes " :" ++ flat_map (hint_text lines) hints))) (flat_mapped (λ (l : Literal). behind_blank (literal_text sheet l)) (literal_named names) clause)
    ∙ ap (λ text. codes "step" ++ (flat_map (λ (l : Literal). behind_blank (literal_text sheet l)) (map (literal_named names) clause) ++ (codes " :" ++ text))) (hints_agree lines hints)
