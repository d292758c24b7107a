use Rattle.std.proofs.Common.{refl}
use Rattle.serde_json.proofs.OnLiterals.{serde_json_on_literals}
use Rattle.pc_display.proofs.law.json_texts_are_these.Goals as goal

pub returns : goal.returns
unfolding serde_json_on_literals
returns c = record { always = refl; without_rules = refl; two_of_them = refl; clashing = refl; each_view = refl; one_view = refl; no_view = refl; nothing = refl }
