-- The name of a rule stands for it.
use Rattle.std.proofs.Common.{◌≡◌, ℕ, ◌<◌, length, Option, None, Some, slice_get, IsSomeAnd, refl}
use Rattle.pc_sheet.specs.Sheet.{NamedStatement, Sheet}
use Rattle.pc_cert.specs.Claims.{IsRuleNamed}
use Rattle.pc_cert_text.specs.CertificateText.{name_of_found_rule, name_of_rule_at}
use Rattle.pc_lemmas.proofs.Elements.{element_at}

pub rule_stands : (sheet : Sheet) (r : ℕ) → r < length sheet.rules → IsRuleNamed sheet (name_of_rule_at sheet r) r
rule_stands sheet r below = let at = element_at sheet.rules r below in found (slice_get sheet.rules r) at.0 at.1
  where
    found : (at : Option NamedStatement) (rule : NamedStatement) → at ≡ Some rule → IsSomeAnd at (λ x. x.name ≡ name_of_found_rule at)
    found None rule is = absurd (cc)
    found (Some x) rule is = refl
