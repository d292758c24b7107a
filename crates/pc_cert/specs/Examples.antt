-- Examples of the definitions.
use Rattle.std.specs.Prelude.{◌≡◌, Bool, true, false, List, [], ◌∷◌, ◌++◌, codes, ℕ, Err}
use Rattle.std.specs.Str.Lines.{lines}
use Rattle.pc_cert.specs.Texts.{pieces_of, is_negated, without_negation, is_path}
use Rattle.pc_cert.specs.Words.{texts_of}
use Rattle.pc_cert.specs.Order.{LineKind, empty_line, heading_line, target_line, inconsistent_line, sets_line, set_line, use_line, value_line, numbered_line, end_line, all_may_stand}
use Rattle.pc_cert.specs.Line.{IsCertificateLine}
use Rattle.pc_cert.specs.Written.{nothing, heading, claims, begins, uses, derives, ends, WrittenPart, written_step, written_block, blocked, SaidLine}
use Rattle.pc_cert.specs.Claims.{written_inconsistent, written_repairs}
use Rattle.pc_cert.specs.Meaning.{IsPartNamed}
use Rattle.pc_cert.specs.Text.{in_front, sets_from, place_meant}
use Rattle.pc_cert.specs.Views.{AppearInOrder, IsCertTold}
use Rattle.pc_cert.specs.declared.cert.CertFault.TheVariants.{Memory}
use Rattle.pc_sheet.specs.Sheet.{Sheet}
use Rattle.pc_sheet.specs.declared.ids.Entry.{Entry}

-- a claim on a target, what is used, an assignment, and a derivation of two lines
abbrev pub in_order : List LineKind
in_order = heading_line ∷ target_line ∷ use_line ∷ use_line ∷ value_line ∷ numbered_line 1 ∷ empty_line ∷ numbered_line 2 ∷ end_line ∷ empty_line ∷ []

-- a claim on sets, a set of two entries with a value, one without an entry, and a derivation
abbrev pub sets_in_order : List LineKind
sets_in_order = heading_line ∷ sets_line ∷ set_line ∷ use_line ∷ use_line ∷ value_line ∷ set_line ∷ empty_line ∷ value_line ∷ numbered_line 1 ∷ end_line ∷ []

abbrev pub stands : List LineKind → Bool
stands kinds = all_may_stand [] kinds

pub record OrderExamples : Type 0 where
  pub whole : stands in_order ≡ true
  pub blank_first : stands (empty_line ∷ in_order) ≡ true
  pub without_lines : stands (heading_line ∷ target_line ∷ end_line ∷ []) ≡ true
  pub inconsistent : stands (heading_line ∷ inconsistent_line ∷ numbered_line 1 ∷ end_line ∷ []) ≡ true
  pub with_sets : stands sets_in_order ≡ true
  pub without_sets : stands (heading_line ∷ sets_line ∷ end_line ∷ []) ≡ true
  pub use_before_set : stands (heading_line ∷ sets_line ∷ use_line ∷ []) ≡ false
  pub value_before_set : stands (heading_line ∷ sets_line ∷ value_line ∷ []) ≡ false
  pub set_of_target : stands (heading_line ∷ target_line ∷ set_line ∷ []) ≡ false
  pub set_before_claim : stands (heading_line ∷ set_line ∷ []) ≡ false
  pub late_set : stands (heading_line ∷ sets_line ∷ set_line ∷ numbered_line 1 ∷ set_line ∷ []) ≡ false
  pub late_use_of_set : stands (heading_line ∷ sets_line ∷ set_line ∷ value_line ∷ use_line ∷ []) ≡ false
  pub used_by_none : stands (heading_line ∷ inconsistent_line ∷ use_line ∷ []) ≡ false
  pub value_of_none : stands (heading_line ∷ inconsistent_line ∷ value_line ∷ []) ≡ false
  pub no_heading : stands (target_line ∷ []) ≡ false
  pub two_headings : stands (heading_line ∷ heading_line ∷ []) ≡ false
  pub two_claims : stands (heading_line ∷ target_line ∷ inconsistent_line ∷ []) ≡ false
  pub late_use : stands (heading_line ∷ target_line ∷ value_line ∷ use_line ∷ []) ≡ false
  pub late_value : stands (heading_line ∷ target_line ∷ numbered_line 1 ∷ value_line ∷ []) ≡ false
  pub from_two : stands (heading_line ∷ target_line ∷ numbered_line 2 ∷ []) ≡ false
  pub gap : stands (heading_line ∷ target_line ∷ numbered_line 1 ∷ numbered_line 3 ∷ []) ≡ false
  pub behind_end : stands (heading_line ∷ target_line ∷ end_line ∷ numbered_line 1 ∷ []) ≡ false

pub record TextExamples : Type 0 where
  pub parted : texts_of (codes " 4  step ~a=red :") ≡ codes "4" ∷ codes "step" ∷ codes "~a=red" ∷ codes ":" ∷ []
  pub blank : texts_of (codes "  ") ≡ []
  pub in_lines : lines (codes "end" ++ 13 ∷ 10 ∷ 10 ∷ codes "x") ≡ codes "end" ∷ [] ∷ codes "x" ∷ []
  pub last_line : lines (codes "end" ++ 10 ∷ []) ≡ codes "end" ∷ []
  pub pieces : pieces_of (codes "@ab/0/12") ≡ codes "@ab" ∷ codes "0" ∷ codes "12" ∷ []
  pub negated : is_negated (codes "~a=red") ≡ true
  pub behind : without_negation (codes "~a=red") ≡ codes "a=red"
  pub path : is_path (codes "@ab") ≡ true
  pub read : is_path (codes "a=red") ≡ false
  pub meant : place_meant 3 1 ≡ 0
  pub nothing_meant : place_meant 3 0 ≡ 3

pub record LineExamples : Type 0 where
  pub empty : IsCertificateLine (codes " ") nothing
  pub first : IsCertificateLine (codes "certificate 1") heading
  pub by_value : IsCertificateLine (codes "certificate 01") heading
  pub second_version : ¬ IsCertificateLine (codes "certificate 2") heading
  pub none_holds : IsCertificateLine (codes "claim inconsistent") (claims written_inconsistent)
  pub all_sets : IsCertificateLine (codes "claim  repairs") (claims written_repairs)
  pub set : IsCertificateLine (codes "set") begins
  pub no_set : ¬ IsCertificateLine (codes "set 1") begins
  pub of_set : IsCertificateLine (codes "1 block 02") (derives 1 (written_block 2))
  pub last : IsCertificateLine (codes "end ") ends
  pub not_last : ¬ IsCertificateLine (codes "end 1") ends
  -- an empty clause that is derived from the first line
  pub empty_step : IsCertificateLine (codes "2 step : 1") (derives 2 (written_step [] (1 ∷ [])))
  -- a hint 0 is written, though it means no line
  pub zero_hint : IsCertificateLine (codes "2 step : 0") (derives 2 (written_step [] (0 ∷ [])))
  pub no_hints : IsCertificateLine (codes "1 step :") (derives 1 (written_step [] []))
  pub no_colon : (ls : WrittenPart) → ¬ IsCertificateLine (codes "1 step") (derives 1 ls)
  pub no_word : (p : WrittenPart) → ¬ IsCertificateLine (codes "1") (derives 1 p)

-- a set without entries, and one behind it
abbrev pub two_sets : Entry → List SaidLine
two_sets e = heading ∷ begins ∷ uses e ∷ nothing ∷ begins ∷ ends ∷ []

pub record SetExamples (sheet : Sheet) (e : Entry) : Type 0 where
  -- a set goes up to the line of its last entry
  pub sets : sets_from 1 (two_sets e) ≡ record { line = 2; uses = (3, e) ∷ []; values = []; after = 4 } ∷ record { line = 5; uses = []; values = []; after = 6 } ∷ []
  pub own : in_front (two_sets e) ≡ heading ∷ []
  -- numbers of sets count from 1
  pub named : IsPartNamed sheet 2 (written_block 2) (blocked 1)
  pub not_nought : (k : ℕ) → ¬ IsPartNamed sheet 2 (written_block 0) (blocked k)
  pub not_third : (k : ℕ) → ¬ IsPartNamed sheet 2 (written_block 3) (blocked k)

pub record ViewExamples : Type 0 where
  -- three symbols, of which the first appears again
  pub numbered : AppearInOrder 0 (0 ∷ 1 ∷ 0 ∷ 2 ∷ []) 3
  -- the second symbol can't appear first
  pub skipped : ¬ AppearInOrder 0 (1 ∷ []) 2
  -- want of memory tells nothing
  pub memory : (sheet : Sheet) (text : List ℕ) → IsCertTold sheet text (Err Memory)
