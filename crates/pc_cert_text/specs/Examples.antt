-- The texts of worked certificates.
use Rattle.std.specs.Prelude.{◌≡◌, ℕ, pos, negsuc, false, List, [], ◌∷◌, ◌++◌, codes}
use Rattle.std.specs.List.{flat_map}
use Rattle.pc_name.specs.declared.sign.Op.TheVariants.{Eq}
use Rattle.pc_sheet.specs.Sheet.{listed, range, compare, implies, Sheet}
use Rattle.pc_sheet.specs.declared.ids.ValueId.{ValueId}
use Rattle.pc_laws.specs.Examples.{red, green, entry, target, equal_cells, colored, color, cell_side, color_side}
use Rattle.pc_accept.specs.Literals.{node, positive, negative}
use Rattle.pc_accept.specs.Axioms.{axiom_some, axiom_one, axiom_rule, axiom_node, axiom_atom, pair_of}
use Rattle.pc_accept.specs.Accepts.{implied, inconsistent, repairs, unimplied, against, taken, derived, blocked, Certificate}
use Rattle.pc_accept.specs.Examples.{claiming, both_red, steps_by}
use Rattle.pc_accept.specs.SetExamples.{two_ends, red_set, green_set, neither, of_sets}
use Rattle.pc_cert_text.specs.CertificateText.{certificate_text}
use Rattle.pc_writer.specs.SheetText.{ended}

abbrev pub text_of_lines : List (List ℕ) → List ℕ
text_of_lines lines = flat_map ended lines

-- ---- axioms of every kind

abbrev pub blue : ValueId
blue = record { 0 = 2 }

-- where a is red, b is red, and a is red
abbrev pub two_cells : Sheet
two_cells = record {
  universe = record { sorts = record { name = codes "color"; values = listed (codes "red" ∷ codes "green" ∷ codes "blue" ∷ []) } ∷ []; tables = []; families = colored (codes "a") ∷ colored (codes "b") ∷ [] };
  rules = record { name = codes "t"; states = implies (compare (cell_side 0) Eq (color_side red)) (compare (cell_side 1) Eq (color_side red)) } ∷ [];
  entries = entry 0 red ∷ [];
}

-- that b isn't green
abbrev pub by_nodes : Certificate
by_nodes = record {
  claim = implied (record { cell = record { 0 = 1 }; value = green; holds = false });
  sets = [];
  uses = entry 0 red ∷ [];
  values = both_red;
  lines =
      taken (axiom_rule 0) ∷ taken (axiom_node 0 [] 1) ∷ taken (axiom_atom 0 (0 ∷ []) (entry 0 red ∷ [])) ∷ taken (axiom_atom 0 (1 ∷ []) (entry 1 green ∷ [])) ∷ taken (axiom_atom 0 (1 ∷ []) (entry 1 blue ∷ []))
      ∷ taken (axiom_some (record { 0 = 1 })) ∷ derived (negative (pair_of (entry 0 red)) ∷ positive (node 0 (1 ∷ [])) ∷ []) (0 ∷ 2 ∷ 1 ∷ [])
      ∷ derived (negative (pair_of (entry 0 red)) ∷ positive (pair_of (entry 1 red)) ∷ []) (6 ∷ 3 ∷ 4 ∷ 5 ∷ []) ∷ taken (axiom_one (record { 0 = 1 }) red green)
      ∷ derived (negative (pair_of (entry 0 red)) ∷ negative (pair_of (entry 1 green)) ∷ []) (7 ∷ 8 ∷ []) ∷ [];
}

-- ---- cells with arguments

-- a color of each number from -1 to 1 and each color
abbrev pub with_arguments : Sheet
with_arguments = record {
  universe = record {
    sorts = color ∷ record { name = codes "n"; values = range (negsuc 0) (pos 1) } ∷ [];
    tables = [];
    families = record { name = codes "p"; sorts = record { 0 = 1 } ∷ record { 0 = 0 } ∷ []; result_sort = record { 0 = 0 } } ∷ [];
  };
  rules = [];
  entries = entry 0 red ∷ [];
}

abbrev pub not_both_of_a_cell : Certificate
not_both_of_a_cell = record {
  claim = implied (record { cell = record { 0 = 0 }; value = green; holds = false });
  sets = [];
  uses = entry 0 red ∷ [];
  values = entry 0 red ∷ entry 1 red ∷ entry 2 red ∷ entry 3 red ∷ entry 4 red ∷ entry 5 green ∷ [];
  lines = taken (axiom_one (record { 0 = 0 }) red green) ∷ derived (negative (pair_of (entry 0 red)) ∷ negative (pair_of (entry 0 green)) ∷ []) (0 ∷ []) ∷ [];
}

-- ---- sets

-- the lines of both sets
abbrev pub two_sets : List (List ℕ)
two_sets =
    codes "set" ∷ codes "use a = red" ∷ codes "value a = red" ∷ codes "value b = red" ∷ codes "value c = red"
    ∷ codes "set" ∷ codes "use c = green" ∷ codes "value a = green" ∷ codes "value b = green" ∷ codes "value c = green" ∷ []

pub record WorkedTexts : Type 0 where
  pub implied : certificate_text equal_cells (claiming (entry 0 red ∷ []) both_red (steps_by (2 ∷ 0 ∷ 1 ∷ [])))
      ≡ text_of_lines (
      codes "certificate 1" ∷ codes "claim b = red" ∷ codes "use a = red" ∷ codes "value a = red" ∷ codes "value b = red"
      ∷ codes "1 rule ab" ∷ codes "2 atom @ab a=red b=green" ∷ codes "3 some b" ∷ codes "4 step ~a=red b=red : 3 1 2" ∷ codes "end" ∷ []
      )
  pub every_axiom : certificate_text two_cells by_nodes
      ≡ text_of_lines (
      codes "certificate 1" ∷ codes "claim b != green" ∷ codes "use a = red" ∷ codes "value a = red" ∷ codes "value b = red"
      ∷ codes "1 rule t" ∷ codes "2 node @t 1" ∷ codes "3 atom @t/0 a=red" ∷ codes "4 atom @t/1 b=green" ∷ codes "5 atom @t/1 b=blue" ∷ codes "6 some b"
      ∷ codes "7 step ~a=red @t/1 : 1 3 2" ∷ codes "8 step ~a=red b=red : 7 4 5 6" ∷ codes "9 one b red green" ∷ codes "10 step ~a=red ~b=green : 8 9" ∷ codes "end" ∷ []
      )
  -- a blank stands behind each comma of a claim, a use and a value, and none within a line of the derivation
  pub arguments : certificate_text with_arguments not_both_of_a_cell
      ≡ text_of_lines (
      codes "certificate 1" ∷ codes "claim p(-1, red) != green" ∷ codes "use p(-1, red) = red"
      ∷ codes "value p(-1, red) = red" ∷ codes "value p(-1, green) = red" ∷ codes "value p(0, red) = red" ∷ codes "value p(0, green) = red" ∷ codes "value p(1, red) = red" ∷ codes "value p(1, green) = green"
      ∷ codes "1 one p(-1,red) red green" ∷ codes "2 step ~p(-1,red)=red ~p(-1,red)=green : 1" ∷ codes "end" ∷ []
      )
  pub refuted : certificate_text equal_cells (record { claim = inconsistent; sets = []; uses = []; values = []; lines = taken (axiom_rule 0) ∷ derived [] (0 ∷ []) ∷ [] })
      ≡ text_of_lines (codes "certificate 1" ∷ codes "claim inconsistent" ∷ codes "1 rule ab" ∷ codes "2 step : 1" ∷ codes "end" ∷ [])
  -- sets are counted from 1, each with its uses and values
  pub sets : certificate_text two_ends (of_sets repairs (red_set ∷ green_set ∷ []) neither)
      ≡ text_of_lines (
      codes "certificate 1" ∷ codes "claim repairs" ∷ (two_sets
      ++ codes "1 rule ab" ∷ codes "2 rule bc" ∷ codes "3 block 1" ∷ codes "4 block 2" ∷ codes "5 atom @ab a=red b=green" ∷ codes "6 atom @bc b=red c=green"
      ∷ codes "7 some b" ∷ codes "8 step : 3 4 1 5 7 2 6" ∷ codes "end" ∷ [])
      )
  pub denied : certificate_text two_ends (of_sets (unimplied (target 2 red)) (green_set ∷ []) (blocked 0 ∷ []))
      ≡ text_of_lines (
      codes "certificate 1" ∷ codes "claim not c = red" ∷ codes "set" ∷ codes "use c = green" ∷ codes "value a = green" ∷ codes "value b = green" ∷ codes "value c = green"
      ∷ codes "1 block 1" ∷ codes "end" ∷ []
      )
  pub against_rule : certificate_text two_ends (record { claim = against 1; sets = []; uses = entry 0 red ∷ []; values = entry 0 red ∷ []; lines = taken (axiom_rule 1) ∷ [] })
      ≡ text_of_lines (codes "certificate 1" ∷ codes "claim against bc" ∷ codes "use a = red" ∷ codes "value a = red" ∷ codes "1 rule bc" ∷ codes "end" ∷ [])
