-- Rows that are put into a patch.
use Rattle.std.proofs.Common.{◌≡◌, ℕ, ◌+◌, ◌<◌, ◌≤◌, Bool, false, refl, List, [], ◌∷◌, ◌++◌, Option, None, length, map, sym, ap, ◌∙◌, subst, arith}
use Rattle.pc_log.specs.Lines.{LogLine}
use Rattle.pc_log.specs.Sizes.{bytes_of}
use Rattle.pc_log.specs.Sparse.{line_at, picked, AreRested, IsPicked, LinesStand}
use Rattle.pc_log.specs.Trimmed.{IsTrimmed}
use Rattle.pc_cache.specs.Patches.{PatchView, Shares, AreOfLog, patch_bytes}
use Rattle.pc_cache.specs.Rows.{TargetRow, bytes_of_rows, row_bytes}
use Rattle.pc_cache.specs.inside.Kept.{block_at, bytes_of_blocks, kept_or_none, rows_in, IsRowIn, KeepsBlocks}
use Rattle.pc_cache.specs.inside.Patched.{last_in, patch_in, settled_in, IsOfRows, ShareBlock}
use Rattle.pc_cache.specs.declared.row.Slot.{Slot}
use Rattle.pc_cache.proofs.BlockLemmas.{put_is, put_size, put_trimmed}
use Rattle.pc_cache.proofs.LastLemmas.{all_bytes}
use Rattle.pc_cache.proofs.SlotLemmas.{put_row, rows_in-stay, AreRowsIn-push, AreRowsIn-stay, bytes_of_rows-push}

-- a row whose lines were added
pub put_alone : (whole : Bool) (old new : List (List (Option LogLine))) (slots : List Slot) (s : Slot) → IsOfRows whole old slots → KeepsBlocks old new → IsRowIn new s.row
    → bytes_of_blocks new ≤ bytes_of_blocks old + row_bytes (kept_or_none new s.row) → IsOfRows whole new (slots ++ s ∷ [])
put_alone whole old new slots s of keeps is grown = record {
  are = (put_row old new slots s keeps of.are is).0;
  alone = λ yes. omega (arith, grown, of.alone yes, bytes_of_rows-push new slots s, ap bytes_of_rows (rows_in-stay old new slots keeps of.are));
}

-- the places of a row, of which the lines of the log were put
module _ (log : List LogLine) (last : ℕ) (list read places : List ℕ) (old new : List (List (Option LogLine))) (b : ℕ) (within : last < length log) (rested : AreRested log last list) (same : read ≡ list) (is : places ≡ list)
    (low : b < length new) (stand : LinesStand (line_at log) read (block_at new b)) (grown : bytes_of_blocks new ≤ bytes_of_blocks old + bytes_of (map (line_at log) read)) where
  here : LinesStand (line_at log) list (block_at new b)
  here = subst (λ (ps : List ℕ). LinesStand (line_at log) ps (block_at new b)) same stand

  pub row_is : (b < length new) × IsPicked (block_at new b) places
  row_is = subst (λ (ps : List ℕ). (b < length new) × IsPicked (block_at new b) ps) (sym is) (put_is log last list new b within rested low here)

  pub row_trimmed : IsTrimmed log last [] (picked (block_at new b) places)
  row_trimmed = subst (λ (ps : List ℕ). IsTrimmed log last [] (picked (block_at new b) ps)) (sym is) (put_trimmed log last list new b within rested low here)

  pub row_grown : bytes_of_blocks new ≤ bytes_of_blocks old + bytes_of (picked (block_at new b) places)
  row_grown =
      omega (
        arith,
        grown,
        ap (λ (ps : List ℕ). bytes_of (map (line_at log) ps)) same,
        put_size log last list new b within rested low here,
        ap (λ (ps : List ℕ). bytes_of (picked (block_at new b) ps)) is,
      )

-- lines of no row, where memory ran out
pub put_partly : (whole : Bool) (old new : List (List (Option LogLine))) (slots : List Slot) → IsOfRows whole old slots → KeepsBlocks old new → IsOfRows false new slots
put_partly whole old new slots of keeps = record {
  are = AreRowsIn-stay old new slots keeps of.are;
  alone = λ yes. absurd (cc);
}

pub same_rows : (whole : Bool) (old new : List (List (Option LogLine))) (slots : List Slot) (rows : List TargetRow) → IsOfRows whole old slots → KeepsBlocks old new → rows_in old slots ≡ rows → rows_in new slots ≡ rows
same_rows whole old new slots rows of keeps were = rows_in-stay old new slots keeps of.are ∙ were

pub put_nothing : (whole : Bool) (blocks : List (List (Option LogLine))) (slots : List Slot) (s : Slot) → s.row ≡ None → IsRowIn blocks s.row → IsOfRows whole blocks slots → IsOfRows whole blocks (slots ++ s ∷ [])
put_nothing whole blocks slots s none is of = record {
  are = AreRowsIn-push blocks slots s of.are is;
  alone = λ yes. omega (arith, of.alone yes, bytes_of_rows-push blocks slots s, ap (λ r. row_bytes (kept_or_none blocks r)) none);
}

-- ---- as they are seen

pub share_view : (old : PatchView) (before after : List (List (Option LogLine))) (slots more : List Slot) (log : List LogLine) → patch_in before slots ≡ old → ShareBlock log before after → Shares old (patch_in after more) log
share_view old before after slots more log is share of =
    let told = share (subst (λ (p : PatchView). AreOfLog p.last log) (sym is) of) in (told.0 ∙ ap (λ (p : PatchView). p.settled) is, told.1)

pub settle_alone : (whole : Bool) (old new : List (List (Option LogLine))) (slots : List Slot) → IsOfRows whole old slots → KeepsBlocks old new → bytes_of_blocks new ≡ bytes_of_blocks old → IsOfRows whole new slots
settle_alone whole old new slots of keeps same = record {
  are = AreRowsIn-stay old new slots keeps of.are;
  alone = λ yes. omega (arith, same, of.alone yes, ap bytes_of_rows (rows_in-stay old new slots keeps of.are));
}

pub settled_view : (old : PatchView) (whole : Bool) (before after : List (List (Option LogLine))) (slots : List Slot) → patch_in before slots ≡ old → IsOfRows whole before slots → KeepsBlocks before after
    → last_in after ≡ [] → settled_in after ≡ bytes_of_blocks before → patch_in after slots ≡ record { rows = old.rows; settled = patch_bytes old; last = [] }
settled_view old whole before after slots is of keeps none all =
    let settled : settled_in after ≡ patch_bytes old = all ∙ sym (all_bytes before) ∙ ap patch_bytes is in
    let rows : rows_in after slots ≡ old.rows = rows_in-stay before after slots keeps of.are ∙ ap (λ (p : PatchView). p.rows) is in
    rw (rows, settled, none) refl

pub same_view : (old : PatchView) (before after : List (List (Option LogLine))) (slots : List Slot) → patch_in before slots ≡ old → after ≡ before → patch_in after slots ≡ old
same_view old before after slots is same = ap (λ (bs : List (List (Option LogLine))). patch_in bs slots) same ∙ is
