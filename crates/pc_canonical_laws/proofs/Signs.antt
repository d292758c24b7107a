-- One sign more at the front of a text.
use Rattle.std.proofs.Common.{◌≡◌, ◌≢◌, ℕ, ◌≤◌, Bool, true, not, List, [], ◌∷◌, ◌++◌, length, get_or, arith, refl, codes}
use Rattle.std.proofs.lemmas.Bool.Decides.{nat_tests}
use Rattle.std.specs.Prelude.{◌==◌}
use Rattle.std.specs.List.{list_all}
use Rattle.pc_name.specs.declared.sign.Op.{Op}
use Rattle.pc_name.specs.declared.sign.Op.TheVariants as ops
use Rattle.pc_name.specs.declared.sign.Sign.{Sign}
use Rattle.pc_name.specs.declared.sign.Sign.TheVariants as signs
use Rattle.pc_token.specs.declared.token.Kind.{Kind}
use Rattle.pc_token.specs.declared.token.Kind.TheVariants.{Name, Number, Equal, NotEqual, Less, LessEqual, Greater, GreaterEqual, Not, And, Or, Arrow, DoubleArrow, Open, Close, Comma, Colon, Dot, Range, Plus, Minus}
use Rattle.pc_token.specs.Token.{sign_text, HasTextAt}
use Rattle.pc_formula.specs.Word.{Word, sign}
use Rattle.pc_formula.specs.Sign.{op_sign, added_sign}
use Rattle.pc_writer.specs.FormulaText.{op_text, sign_text as added_sign_text}
use Rattle.pc_canonical_laws.proofs.Cuts.{Cuts, blank, piece, is_ascii_text, ascii_utf8, text_ahead}

-- ---- what stands before a blank

has_no_blank : List ℕ → Bool
has_no_blank text = list_all (λ b. not (b == 32)) text

no_blank : (k : Kind) → has_no_blank (sign_text k) ≡ true
unfolding has_no_blank
no_blank Name = refl
no_blank Number = refl
no_blank Equal = refl
no_blank NotEqual = refl
no_blank Less = refl
no_blank LessEqual = refl
no_blank Greater = refl
no_blank GreaterEqual = refl
no_blank Not = refl
no_blank And = refl
no_blank Or = refl
no_blank Arrow = refl
no_blank DoubleArrow = refl
no_blank Open = refl
no_blank Close = refl
no_blank Comma = refl
no_blank Colon = refl
no_blank Dot = refl
no_blank Range = refl
no_blank Plus = refl
no_blank Minus = refl

-- a text without blanks that stands at the front ends before the first blank
short_before_blank : (text more other : List ℕ) → has_no_blank other ≡ true → HasTextAt (text ++ 32 ∷ more) 0 other → length other ≤ length text
unfolding has_no_blank
short_before_blank text more [] free stands = omega arith
short_before_blank [] more (c ∷ other) free stands = absurd (let same : 32 ≡ c = stands.0 in grind (arith, nat_tests))
short_before_blank (b ∷ text) more (c ∷ other) free stands =
    let rest = short_before_blank text more other (grind (arith, nat_tests)) (text_ahead (b ∷ []) (text ++ 32 ∷ more) 1 0 other (omega arith) stands.1) in
    omega (arith, rest)

before_blank : (k : Kind) (more : List ℕ) (j : Kind) → HasTextAt (sign_text k ++ 32 ∷ more) 0 (sign_text j) → length (sign_text j) ≤ length (sign_text k)
before_blank k more j stands = short_before_blank (sign_text k) more (sign_text j) (no_blank j) stands

module _ {more : List ℕ} {ws : List Word} (cuts : Cuts more ws) where
  -- ---- a sign with a blank before and behind it

  pub cut_op : (op : Op) → Cuts (op_text op ++ more) (sign (op_sign op) ∷ ws)
  unfolding is_ascii_text
  cut_op ops.Eq = blank (piece Equal (codes "=") (omega arith) (ascii_utf8 (codes "=") refl) (refl, before_blank Equal more) (blank cuts))
  cut_op ops.Ne = blank (piece NotEqual (codes "!=") (omega arith) (ascii_utf8 (codes "!=") refl) (refl, before_blank NotEqual more) (blank cuts))
  cut_op ops.Lt = blank (piece Less (codes "<") (omega arith) (ascii_utf8 (codes "<") refl) (refl, before_blank Less more) (blank cuts))
  cut_op ops.Le = blank (piece LessEqual (codes "<=") (omega arith) (ascii_utf8 (codes "<=") refl) (refl, before_blank LessEqual more) (blank cuts))
  cut_op ops.Gt = blank (piece Greater (codes ">") (omega arith) (ascii_utf8 (codes ">") refl) (refl, before_blank Greater more) (blank cuts))
  cut_op ops.Ge = blank (piece GreaterEqual (codes ">=") (omega arith) (ascii_utf8 (codes ">=") refl) (refl, before_blank GreaterEqual more) (blank cuts))

  pub cut_added : (s : Sign) → Cuts (added_sign_text s ++ more) (sign (added_sign s) ∷ ws)
  unfolding is_ascii_text
  cut_added signs.Plus = blank (piece Plus (codes "+") (omega arith) (ascii_utf8 (codes "+") refl) (refl, before_blank Plus more) (blank cuts))
  cut_added signs.Minus = blank (piece Minus (codes "-") (omega arith) (ascii_utf8 (codes "-") refl) (refl, before_blank Minus more) (blank cuts))

  pub cut_and : Cuts (codes " & " ++ more) (sign And ∷ ws)
  unfolding is_ascii_text
  cut_and = blank (piece And (codes "&") (omega arith) (ascii_utf8 (codes "&") refl) (refl, before_blank And more) (blank cuts))

  pub cut_or : Cuts (codes " | " ++ more) (sign Or ∷ ws)
  unfolding is_ascii_text
  cut_or = blank (piece Or (codes "|") (omega arith) (ascii_utf8 (codes "|") refl) (refl, before_blank Or more) (blank cuts))

  pub cut_arrow : Cuts (codes " -> " ++ more) (sign Arrow ∷ ws)
  unfolding is_ascii_text
  cut_arrow = blank (piece Arrow (codes "->") (omega arith) (ascii_utf8 (codes "->") refl) (refl, before_blank Arrow more) (blank cuts))

  pub cut_double : Cuts (codes " <-> " ++ more) (sign DoubleArrow ∷ ws)
  unfolding is_ascii_text
  cut_double = blank (piece DoubleArrow (codes "<->") (omega arith) (ascii_utf8 (codes "<->") refl) (refl, before_blank DoubleArrow more) (blank cuts))

  pub cut_dot : Cuts (codes " . " ++ more) (sign Dot ∷ ws)
  unfolding is_ascii_text
  cut_dot = blank (piece Dot (codes ".") (omega arith) (ascii_utf8 (codes ".") refl) (refl, before_blank Dot more) (blank cuts))

  pub cut_spaced_colon : Cuts (codes " : " ++ more) (sign Colon ∷ ws)
  unfolding is_ascii_text
  cut_spaced_colon = blank (piece Colon (codes ":") (omega arith) (ascii_utf8 (codes ":") refl) (refl, before_blank Colon more) (blank cuts))

  pub cut_range : Cuts (codes " .. " ++ more) (sign Range ∷ ws)
  unfolding is_ascii_text
  cut_range = blank (piece Range (codes "..") (omega arith) (ascii_utf8 (codes "..") refl) (refl, before_blank Range more) (blank cuts))

  pub cut_comma : Cuts (codes ", " ++ more) (sign Comma ∷ ws)
  unfolding is_ascii_text
  cut_comma = piece Comma (codes ",") (omega arith) (ascii_utf8 (codes ",") refl) (refl, before_blank Comma more) (blank cuts)

  -- ---- a sign that stands alone, whatever follows

  pub cut_open : Cuts (codes "(" ++ more) (sign Open ∷ ws)
  unfolding is_ascii_text
  cut_open = piece Open (codes "(") (omega arith) (ascii_utf8 (codes "(") refl) (refl, longest) cuts
    where
      longest : (j : Kind) → HasTextAt (sign_text Open ++ more) 0 (sign_text j) → length (sign_text j) ≤ length (sign_text Open)
      longest Name stands = omega arith
      longest j stands = omega arith

  pub cut_close : Cuts (codes ")" ++ more) (sign Close ∷ ws)
  unfolding is_ascii_text
  cut_close = piece Close (codes ")") (omega arith) (ascii_utf8 (codes ")") refl) (refl, longest) cuts
    where
      longest : (j : Kind) → HasTextAt (sign_text Close ++ more) 0 (sign_text j) → length (sign_text j) ≤ length (sign_text Close)
      longest Name stands = omega arith
      longest j stands = omega arith

  pub cut_colon : Cuts (codes ":" ++ more) (sign Colon ∷ ws)
  unfolding is_ascii_text
  cut_colon = piece Colon (codes ":") (omega arith) (ascii_utf8 (codes ":") refl) (refl, longest) cuts
    where
      longest : (j : Kind) → HasTextAt (sign_text Colon ++ more) 0 (sign_text j) → length (sign_text j) ≤ length (sign_text Colon)
      longest Name stands = omega arith
      longest j stands = omega arith

  pub cut_equal : Cuts (codes "=" ++ more) (sign Equal ∷ ws)
  unfolding is_ascii_text
  cut_equal = piece Equal (codes "=") (omega arith) (ascii_utf8 (codes "=") refl) (refl, longest) cuts
    where
      longest : (j : Kind) → HasTextAt (sign_text Equal ++ more) 0 (sign_text j) → length (sign_text j) ≤ length (sign_text Equal)
      longest Name stands = omega arith
      longest j stands = omega arith

  pub cut_tight_comma : Cuts (codes "," ++ more) (sign Comma ∷ ws)
  unfolding is_ascii_text
  cut_tight_comma = piece Comma (codes ",") (omega arith) (ascii_utf8 (codes ",") refl) (refl, longest) cuts
    where
      longest : (j : Kind) → HasTextAt (sign_text Comma ++ more) 0 (sign_text j) → length (sign_text j) ≤ length (sign_text Comma)
      longest Name stands = omega arith
      longest j stands = omega arith

  -- ---- a sign that must not go on

  pub cut_not : get_or more 0 0 ≢ 61 → Cuts (codes "!" ++ more) (sign Not ∷ ws)
  unfolding is_ascii_text
  cut_not differs = piece Not (codes "!") (omega arith) (ascii_utf8 (codes "!") refl) (refl, longest) cuts
    where
      longest : (j : Kind) → HasTextAt (sign_text Not ++ more) 0 (sign_text j) → length (sign_text j) ≤ length (sign_text Not)
      longest Name stands = omega arith
      longest NotEqual stands = absurd (differs stands.1.0)
      longest j stands = omega arith

  pub cut_minus : get_or more 0 0 ≢ 62 → Cuts (codes "-" ++ more) (sign Minus ∷ ws)
  unfolding is_ascii_text
  cut_minus differs = piece Minus (codes "-") (omega arith) (ascii_utf8 (codes "-") refl) (refl, longest) cuts
    where
      longest : (j : Kind) → HasTextAt (sign_text Minus ++ more) 0 (sign_text j) → length (sign_text j) ≤ length (sign_text Minus)
      longest Name stands = omega arith
      longest Arrow stands = absurd (differs stands.1.0)
      longest j stands = omega arith
