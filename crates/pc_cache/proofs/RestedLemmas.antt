-- The lines on which rows rest, kept row by row.
use Rattle.std.proofs.Common.{◌≡◌, ◌≢◌, ℕ, zero, suc, ◌+◌, ◌<◌, ◌≤◌, inl, inr, List, [], ◌∷◌, ◌++◌, Option, Some, None, length, get_or, take, map, refl, sym, ap, ◌∙◌, subst, arith, All, Contains}
use Rattle.std.proofs.lemmas.Bool.{cases_eq}
use Rattle.std.proofs.lemmas.List.{take_all, take_more}
use Rattle.std.proofs.lemmas.List.Sums.{sum_by-cons}
use Rattle.pc_log.specs.Lines.{LogLine}
use Rattle.pc_log.specs.Sizes.{bytes_of}
use Rattle.pc_log.specs.Sparse.{bytes_there, line_in, line_there, AddsOnly, IsThere, Keeps, LinesStand}
use Rattle.pc_log.proofs.PickedLemmas.{picked_bytes, picked_part}
use Rattle.pc_reason.specs.Reasons.{Justification}
use Rattle.pc_cache.specs.Rows.{TargetRow, bytes_of_rows}
use Rattle.pc_cache.specs.inside.Kept.{block_at, bytes_of_blocks, kept_or_none, rows_in, AreRowsIn, IsRowIn, KeepsBlocks}
use Rattle.pc_cache.specs.inside.Cached.{IsKept}
use Rattle.pc_cache.specs.inside.Rested.{AreRowsKept, IsRowKept}
use Rattle.pc_cache.specs.declared.row.Row.{Row}
use Rattle.pc_cache.specs.declared.row.Slot.{Slot}
use Rattle.pc_cache.proofs.BlockLemmas.{keeps_all, no_line}
use Rattle.pc_cache.proofs.SpareLemmas.{rested_push, rests_there}
use Rattle.pc_cache.proofs.SlotLemmas.{bytes_of_rows-push, put_row, rows_in-push}

-- ---- one row

pub nothing_kept : (blocks kept : List (List (Option LogLine))) (row : Option Row) → row ≡ None → KeepsBlocks kept blocks → IsRowKept blocks kept kept row
nothing_kept blocks kept row none part = subst (IsRowKept blocks kept kept) (sym none) (record {
  is = tt;
  same = refl;
  keeps = keeps_all kept;
  part = part;
  only = λ b i line at. inl at;
  bytes = omega arith;
})

module _ (blocks kept new : List (List (Option LogLine))) (r : Row) (from : List (Option LogLine)) (places : List ℕ) (here : from ≡ block_at blocks r.block) (list : places ≡ r.places) (is : IsRowIn blocks (Some r)) where
  pub there : (i : ℕ) → Contains places i → IsThere from i
  there i has = subst (λ (ls : List (Option LogLine)). IsThere ls i) (sym here) (is.1.there i (subst (λ (ps : List ℕ). Contains ps i) list has))

  pub part_of : KeepsBlocks kept blocks → length kept ≡ length blocks → Keeps (block_at kept r.block) from
  part_of part count = subst (Keeps (block_at kept r.block)) (sym here) (part.1 r.block (omega (arith, is.0, count)))

  pub row_kept : KeepsBlocks kept blocks → length kept ≡ length blocks → length new ≡ length kept → LinesStand (line_in from) places (block_at new r.block) → Keeps (block_at new r.block) from
      → AddsOnly (line_in from) places (block_at kept r.block) (block_at new r.block) → ((b : ℕ) → b ≢ r.block → block_at new b ≡ block_at kept b) → KeepsBlocks kept new → bytes_of_blocks new ≤ bytes_of_blocks kept + bytes_of (map (line_in from) places) → IsRowKept blocks kept new (Some r)
  row_kept part count size stand inner adds others keeps grown =
      let stands : LinesStand (line_in (block_at blocks r.block)) r.places (block_at new r.block) =
      subst (λ (ls : List (Option LogLine)). LinesStand (line_in ls) r.places (block_at new r.block)) here (subst (λ (ps : List ℕ). LinesStand (line_in from) ps (block_at new r.block)) list stand) in
      let both = picked_part (block_at blocks r.block) (block_at new r.block) r.places stands is.1 in
      let bytes : bytes_of (map (line_in from) places) ≡ bytes_of (map (line_in (block_at blocks r.block)) r.places) =
      ap (λ (ls : List (Option LogLine)). bytes_of (map (line_in ls) places)) here ∙ ap (λ (ps : List ℕ). bytes_of (map (line_in (block_at blocks r.block)) ps)) list in
      record {
        is = (omega (arith, is.0, count, size), both.0);
        same = ap (λ (ls : List LogLine). Some (let j : Justification = record { support = r.support.items; shown = r.shown.value; lines = ls } in j)) both.1;
        keeps = keeps;
        part = (
          omega (arith, count, size),
          λ b low i line at. elim (cases_eq b r.block) [
            | inl same ↦
                ap (λ (n : ℕ). line_there (block_at blocks n) i) same ∙ ap (λ (ls : List (Option LogLine)). line_there ls i) (sym here) ∙ inner i line (ap (λ (n : ℕ). line_there (block_at new n) i) (sym same) ∙ at)
            | inr other ↦ part.1 b (omega (arith, low, size)) i line (ap (λ (ls : List (Option LogLine)). line_there ls i) (sym (others b other)) ∙ at)
          ],
        );
        only = λ b i line at.
            elim (cases_eq b r.block) [
              | inl same ↦
                  let at_block : line_there (block_at new r.block) i ≡ Some line = ap (λ (n : ℕ). line_there (block_at new n) i) (sym same) ∙ at in
                  elim (adds i line at_block) [
                    | inl before ↦ inl (ap (λ (n : ℕ). line_there (block_at kept n) i) same ∙ before)
                    | inr (has, line_is) ↦ inr (rests_there r b i same (subst (λ (ps : List ℕ). Contains ps i) list has))
                  ]
              | inr other ↦ inl (ap (λ (ls : List (Option LogLine)). line_there ls i) (sym (others b other)) ∙ at)
            ];
        bytes = omega (arith, grown, bytes, picked_bytes (line_in (block_at blocks r.block)) r.places);
      }

-- ---- all rows

no_bytes : (kept : List (List (Option LogLine))) → All (λ b. b ≡ []) kept → bytes_of_blocks kept ≤ 0
no_bytes [] empty = omega arith
no_bytes (x ∷ xs) empty =
    let first : x ≡ [] = empty 0 [] (omega arith) in
    omega (arith, sum_by-cons bytes_there x xs, ap bytes_there first, no_bytes xs (λ k d low. empty (suc k) d (omega (arith, low))))

nothing_there : (kept : List (List (Option LogLine))) → All (λ b. b ≡ []) kept → (b i : ℕ) → line_there (block_at kept b) i ≡ None
nothing_there [] empty b i = refl
nothing_there (x ∷ xs) empty zero i = ap (λ (ls : List (Option LogLine)). line_there ls i) (empty 0 [] (omega arith))
nothing_there (x ∷ xs) empty (suc b) i = nothing_there xs (λ k d low. empty (suc k) d (omega (arith, low))) b i

pub none_kept : (blocks kept : List (List (Option LogLine))) (slots : List Slot) → length kept ≡ length blocks → All (λ b. b ≡ []) kept → AreRowsKept blocks kept (take 0 slots)
none_kept blocks kept slots count empty = record {
  count = count;
  part = (omega (arith, count), λ b low i line at. absurd (no_line line (ap (λ (ls : List (Option LogLine)). line_there ls i) (sym (empty b [] low)) ∙ at)));
  are = tt;
  same = refl;
  only = λ b i line at. absurd (no_line line (sym (nothing_there kept empty b i) ∙ at));
  bytes = no_bytes kept empty;
}

pub one_kept : (blocks kept new : List (List (Option LogLine))) (slots : List Slot) (k : ℕ) (d : Slot) → AreRowsKept blocks kept (take k slots) → k < length slots → IsRowKept blocks kept new (get_or slots k d).row → AreRowsKept blocks new (take (k + 1) slots)
one_kept blocks kept new slots k d state low one = subst (AreRowsKept blocks new) (sym (take_more slots k d low)) (record {
  count = omega (arith, state.count, one.keeps.0, one.part.0);
  part = one.part;
  are = (put_row kept new (take k slots) (get_or slots k d) one.keeps state.are one.is).0;
  same = (put_row kept new (take k slots) (get_or slots k d) one.keeps state.are one.is).1
      ∙ ap (λ (rs : List TargetRow). rs ++ record { target = (get_or slots k d).target; row = kept_or_none new (get_or slots k d).row } ∷ []) state.same
      ∙ ap (λ (row : Option Justification). rows_in blocks (take k slots) ++ record { target = (get_or slots k d).target; row = row } ∷ []) one.same
      ∙ sym (rows_in-push blocks (take k slots) (get_or slots k d));
  only = λ b i line at.
      elim (one.only b i line at) [
        | inl before ↦ rested_push (take k slots) (get_or slots k d) b i (inl (state.only b i line before))
        | inr here ↦ rested_push (take k slots) (get_or slots k d) b i (inr here)
      ];
  bytes = omega (arith, one.bytes, state.bytes, bytes_of_rows-push blocks (take k slots) (get_or slots k d));
})

pub all_kept : (blocks kept : List (List (Option LogLine))) (slots : List Slot) (k : ℕ) → length slots ≤ k → AreRowsKept blocks kept (take k slots) → AreRowsKept blocks kept slots
all_kept blocks kept slots k all state = subst (AreRowsKept blocks kept) (take_all k slots all) state

-- ---- a cache with these blocks

pub rested_kept : (blocks kept : List (List (Option LogLine))) (starts : List ℕ) (slots read : List Slot) → IsKept blocks starts slots → read ≡ slots → AreRowsIn kept read → IsKept kept starts slots
rested_kept blocks kept starts slots read is same are = record { small = is.small; placed = is.placed; rows = subst (AreRowsIn kept) same are; few = is.few }

pub rested_rows : (blocks lent kept : List (List (Option LogLine))) (slots read : List Slot) (rows : List TargetRow) → lent ≡ blocks → read ≡ slots → rows_in kept read ≡ rows_in lent read → rows_in blocks slots ≡ rows
    → rows_in kept slots ≡ rows
rested_rows blocks lent kept slots read rows is same kept_same were =
    ap (rows_in kept) (sym same) ∙ kept_same ∙ ap (λ (bs : List (List (Option LogLine))). rows_in bs read) is ∙ ap (rows_in blocks) same ∙ were

pub rested_bytes : (blocks lent kept : List (List (Option LogLine))) (slots read : List Slot) (rows : List TargetRow) → lent ≡ blocks → read ≡ slots → bytes_of_blocks kept ≤ bytes_of_rows (rows_in lent read) → rows_in blocks slots ≡ rows
    → bytes_of_blocks kept ≤ bytes_of_rows rows
rested_bytes blocks lent kept slots read rows is same few were =
    omega (arith, few, ap bytes_of_rows (ap (λ (bs : List (List (Option LogLine))). rows_in bs read) is ∙ ap (rows_in blocks) same ∙ were))
