-- Blocks, to which lines are added.
use Rattle.std.proofs.Common.{◌≡◌, ◌≢◌, ℕ, zero, suc, ◌+◌, ◌*◌, ◌<◌, ◌≤◌, inl, inr, true, false, cond, List, [], ◌∷◌, ◌++◌, Option, Some, None, length, get_or, set, take, map, min, refl, sym, ap, ◌∙◌, subst, arith, All}
use Rattle.std.proofs.lemmas.Bool.{cases_eq}
use Rattle.std.proofs.lemmas.List.{get_or_append_left, get_or-append-add, get_or_default, get_or_push, get_or-set_same, get_or-set_other, length-append, length-set, take_all, take_more}
use Rattle.std.proofs.lemmas.List.Elements.{All-append, All-cons, All-nil, Contains-get_or}
use Rattle.std.proofs.lemmas.List.Sums.{sum_by-append, sum_by-cons}
use Rattle.pc_log.specs.Lines.{LogLine, AxiomLine, BlockLine, StepLine}
use Rattle.pc_log.specs.Sizes.{bytes_of, line_bytes}
use Rattle.pc_log.specs.Sparse.{bytes_there, line_at, line_in, line_there, picked, AreRested, IsPicked, Keeps, LinesStand, MayStand}
use Rattle.pc_log.specs.Trimmed.{IsTrimmed}
use Rattle.pc_log.proofs.PickedLemmas.{picked_are, picked_bytes, picked_length, picked_same, picked_trimmed, picked_within}
use Rattle.pc_log.proofs.SparseLemmas.{line_in_is}
use Rattle.pc_sheet.specs.declared.ids.Target.{Target}
use Rattle.pc_reason.specs.Reasons.{Justification}
use Rattle.pc_cache.specs.Rows.{Cached, TargetRow, bytes_alive, bytes_of_rows, is_same_target, lines_of_rows, row_bytes, row_lines, row_of}
use Rattle.pc_cache.specs.inside.Kept.{block_at, bytes_of_blocks, kept_or_none, rows_in, AreRowsIn, IsRowIn, KeepsBlocks}
use Rattle.pc_cache.specs.inside.Moved.{moved_row, moved_rows}
use Rattle.pc_cache.specs.declared.row.Row.{Row}
use Rattle.pc_cache.specs.declared.row.Slot.{Slot}

pub keeps_all : (blocks : List (List (Option LogLine))) → KeepsBlocks blocks blocks
keeps_all blocks = (omega arith, λ b low i line at. at)

pub keeps_trans : (a b c : List (List (Option LogLine))) → KeepsBlocks a b → KeepsBlocks b c → KeepsBlocks a c
keeps_trans a b c one two = (omega (arith, one.0, two.0), λ n low i line at. two.1 n (omega (arith, low, one.0)) i line (one.1 n low i line at))

pub keeps_behind : (blocks more : List (List (Option LogLine))) → KeepsBlocks blocks (blocks ++ more)
keeps_behind blocks more = (
  omega (arith, length-append blocks more),
  λ b low i line at. ap (λ (ls : List (Option LogLine)). line_there ls i) (get_or_append_left blocks more [] b low) ∙ at,
)

pub bytes_behind : (blocks more : List (List (Option LogLine))) → bytes_of_blocks (blocks ++ more) ≡ bytes_of_blocks blocks + bytes_of_blocks more
bytes_behind blocks more = sum_by-append bytes_there blocks more

-- an empty block more
pub bytes_one : (blocks : List (List (Option LogLine))) → bytes_of_blocks (blocks ++ [] ∷ []) ≡ bytes_of_blocks blocks
bytes_one blocks = omega (arith, bytes_behind blocks ([] ∷ []), sum_by-cons bytes_there [] [])

pub no_line : (line : LogLine) → None ≡ Some line → ⊥
no_line line same = cc

pub free_one : (source : ℕ → LogLine) (places : List ℕ) (blocks : List (List (Option LogLine))) (b : ℕ) → b ≡ length blocks → MayStand source places (block_at (blocks ++ [] ∷ []) b)
free_one source places blocks b last i has other at =
    let none : List (Option LogLine) = [] in
    let empty : block_at (blocks ++ none ∷ []) b ≡ none = get_or_push blocks none none b (sym last) in
    absurd (no_line other (ap (λ (ls : List (Option LogLine)). line_there ls i) (sym empty) ∙ at))

pub block_read : (blocks : List (List (Option LogLine))) (b : ℕ) (block : List (Option LogLine)) → b < length blocks → block ≡ get_or blocks b block → block ≡ block_at blocks b
block_read blocks b block low read = read ∙ get_or_default blocks b block [] low

-- the last block, as it is read
pub free_last : (source : ℕ → LogLine) (places : List ℕ) (blocks : List (List (Option LogLine))) (b : ℕ) (block : List (Option LogLine)) → b < length blocks → block ≡ get_or blocks b block
    → MayStand source places block → MayStand source places (block_at blocks b)
free_last source places blocks b block low read free = subst (MayStand source places) (block_read blocks b block low read) free

-- ---- a block in place of another

module _ (blocks : List (List (Option LogLine))) (b : ℕ) (block : List (Option LogLine)) (low : b < length blocks) where
  pub set_at : block_at (set blocks b block) b ≡ block
  set_at = get_or-set_same blocks b block [] low

  pub set_other : (c : ℕ) → c ≢ b → block_at (set blocks b block) c ≡ block_at blocks c
  set_other c other = get_or-set_other blocks b c block [] other

  pub set_keeps : Keeps (block_at blocks b) block → KeepsBlocks blocks (set blocks b block)
  set_keeps keeps = (
    omega (arith, length-set blocks b block),
    λ c within i line at. elim (cases_eq c b) [
      | inl same ↦ ap (λ (n : ℕ). line_there (block_at (set blocks b block) n) i) same ∙ ap (λ (ls : List (Option LogLine)). line_there ls i) set_at ∙ keeps i line (ap (λ (n : ℕ). line_there (block_at blocks n) i) (sym same) ∙ at)
      | inr other ↦ ap (λ (ls : List (Option LogLine)). line_there ls i) (set_other c other) ∙ at
    ],
  )

pub set_bytes : (blocks : List (List (Option LogLine))) (b : ℕ) (block : List (Option LogLine)) → b < length blocks → bytes_of_blocks (set blocks b block) + bytes_there (block_at blocks b) ≡ bytes_of_blocks blocks + bytes_there block
set_bytes [] b block low = absurd (omega (arith, low))
set_bytes (x ∷ xs) zero block low = omega (arith, sum_by-cons bytes_there block xs, sum_by-cons bytes_there x xs)
set_bytes (x ∷ xs) (suc b) block low = omega (arith, sum_by-cons bytes_there x (set xs b block), sum_by-cons bytes_there x xs, set_bytes xs b block (omega (arith, low)))

-- lines that were added to a block
pub put_bytes : (blocks : List (List (Option LogLine))) (b more : ℕ) (block : List (Option LogLine)) → b < length blocks → bytes_there block ≤ bytes_there (block_at blocks b) + more → bytes_of_blocks (set blocks b block) ≤ bytes_of_blocks blocks + more
put_bytes blocks b more block low grown = omega (arith, set_bytes blocks b block low, grown)

-- ---- a row that is put

pub rested_within : (log : List LogLine) (last : ℕ) (places : List ℕ) → last < length log → AreRested log last places → All (λ p. p < length log) places
rested_within log last places within rested k d low = omega (arith, rested.up_to (get_or places k d) (Contains-get_or places k d low), within)

module _ (log : List LogLine) (last : ℕ) (places : List ℕ) (blocks : List (List (Option LogLine))) (b : ℕ) (within : last < length log) (rested : AreRested log last places) (low : b < length blocks)
    (stand : LinesStand (line_at log) places (block_at blocks b)) where
  pub put_is : (b < length blocks) × IsPicked (block_at blocks b) places
  put_is = (low, picked_are log last places (block_at blocks b) within rested stand)

  pub put_trimmed : IsTrimmed log last [] (picked (block_at blocks b) places)
  put_trimmed = picked_trimmed log last places (block_at blocks b) within rested stand

  pub put_size : bytes_of (picked (block_at blocks b) places) ≡ bytes_of (map (line_at log) places)
  put_size =
      ap bytes_of (picked_same (line_in (block_at blocks b)) (line_at log) places (λ i has. line_in_is (block_at blocks b) i (line_at log i) (stand i has))) ∙ picked_bytes (line_at log) places

-- ---- blocks that stand elsewhere, and the rows with them

-- each of the first blocks stands so many places further on
abbrev pub StandFurther : ℕ → List (List (Option LogLine)) → List (List (Option LogLine)) → Type 0
StandFurther base from into = (b : ℕ) → b < length from → (base + b < length into) × (block_at into (base + b) ≡ block_at from b)

pub behind_stand : (before from into : List (List (Option LogLine))) (base : ℕ) → into ≡ before ++ from → base ≡ length before → StandFurther base from into
behind_stand before from into base behind is b low =
    let at : block_at (before ++ from) (length before + b) ≡ block_at from b = get_or-append-add before from b [] in (
      omega (arith, ap (λ (bs : List (List (Option LogLine))). length bs) behind, length-append before from, is, low),
      ap (λ (bs : List (List (Option LogLine))). block_at bs (base + b)) behind ∙ ap (λ (n : ℕ). block_at (before ++ from) (n + b)) is ∙ at,
    )

-- a block alone, in the place of another
pub alone_stands : (from into : List (List (Option LogLine))) (base : ℕ) (block : List (Option LogLine)) → length from ≡ 1 → block ≡ block_at from 0 → base < length into → StandFurther base from (set into base block)
alone_stands from into base block one is within b low =
    let first : b ≡ 0 = omega (arith, one, low) in
    let here : base + b ≡ base = omega (arith, first) in (
      omega (arith, here, within, length-set into base block),
      ap (λ (n : ℕ). block_at (set into base block) n) here ∙ set_at into base block within ∙ is ∙ ap (λ (n : ℕ). block_at from n) (sym first),
    )

moved_is : (from into : List (List (Option LogLine))) (base : ℕ) (row : Option Row) → StandFurther base from into → IsRowIn from row → IsRowIn into (moved_row base row)
moved_is from into base None stand is = tt
moved_is from into base (Some r) stand is = (
  (stand r.block is.0).0,
  subst (λ (block : List (Option LogLine)). IsPicked block r.places) (sym (stand r.block is.0).1) is.1,
)

moved_same : (from into : List (List (Option LogLine))) (base : ℕ) (row : Option Row) → StandFurther base from into → IsRowIn from row → kept_or_none into (moved_row base row) ≡ kept_or_none from row
moved_same from into base None stand is = refl
moved_same from into base (Some r) stand is =
    ap (λ (block : List (Option LogLine)). Some (let j : Justification = record { support = r.support.items; shown = r.shown.value; lines = picked block r.places } in j)) (stand r.block is.0).1

moved_are : (from into : List (List (Option LogLine))) (base : ℕ) (slots : List Slot) → StandFurther base from into → AreRowsIn from slots → AreRowsIn into (moved_rows base slots)
moved_are from into base [] stand each = tt
moved_are from into base (s ∷ ss) stand each = (moved_is from into base s.row stand each.0, moved_are from into base ss stand each.1)

moved_rows_same : (from into : List (List (Option LogLine))) (base : ℕ) (slots : List Slot) → StandFurther base from into → AreRowsIn from slots → rows_in into (moved_rows base slots) ≡ rows_in from slots
moved_rows_same from into base [] stand each = refl
moved_rows_same from into base (s ∷ ss) stand each =
    ap (λ (row : Option Justification). record { target = s.target; row = row } ∷ rows_in into (moved_rows base ss)) (moved_same from into base s.row stand each.0)
    ∙ ap (λ (rs : List TargetRow). record { target = s.target; row = kept_or_none from s.row } ∷ rs) (moved_rows_same from into base ss stand each.1)

pub further_are : (from into : List (List (Option LogLine))) (base : ℕ) (slots after : List Slot) → StandFurther base from into → after ≡ moved_rows base slots → AreRowsIn from slots → AreRowsIn into after
further_are from into base slots after stand moved each = subst (AreRowsIn into) (sym moved) (moved_are from into base slots stand each)

pub further_same : (from into : List (List (Option LogLine))) (base : ℕ) (slots after : List Slot) → StandFurther base from into → after ≡ moved_rows base slots → AreRowsIn from slots → rows_in into after ≡ rows_in from slots
further_same from into base slots after stand moved each = ap (rows_in into) moved ∙ moved_rows_same from into base slots stand each

-- what stands where nothing stood
pub set_empty : (into : List (List (Option LogLine))) (base : ℕ) (block : List (Option LogLine)) → base < length into → block_at into base ≡ [] → KeepsBlocks into (set into base block)
set_empty into base block within empty = set_keeps into base block within (λ i line at. absurd (no_line line (ap (λ (ls : List (Option LogLine)). line_there ls i) (sym empty) ∙ at)))

pub alone_bytes : (from into : List (List (Option LogLine))) (base : ℕ) (block : List (Option LogLine)) → length from ≡ 1 → block ≡ block_at from 0 → base < length into → block_at into base ≡ [] → bytes_of_blocks (set into base block) ≡ bytes_of_blocks into + bytes_of_blocks from
alone_bytes [] into base block one is within empty = absurd (omega (arith, one))
alone_bytes (x ∷ []) into base block one is within empty =
    let none : bytes_there (block_at into base) ≡ 0 = ap bytes_there empty in
    omega (arith, set_bytes into base block within, none, ap bytes_there is, sum_by-cons bytes_there x [])
alone_bytes (x ∷ y ∷ zs) into base block one is within empty = absurd (omega (arith, one))

-- ---- at least so many bytes

line_counts : (line : LogLine) → 16 ≤ line_bytes line
line_counts (AxiomLine number) = omega arith
line_counts (BlockLine number clause) = omega arith
line_counts (StepLine clause hints learned) = omega arith

lines_count : (lines : List LogLine) → 16 * length lines ≤ bytes_of lines
lines_count [] = omega arith
lines_count (line ∷ lines) = omega (arith, sum_by-cons line_bytes line lines, line_counts line, lines_count lines)

row_few : (row : Option Justification) → 16 * row_lines row ≤ row_bytes row
row_few None = omega arith
row_few (Some j) = lines_count j.lines

rows_few : (rows : List TargetRow) → 16 * lines_of_rows rows ≤ bytes_of_rows rows
rows_few [] = omega arith
rows_few (r ∷ rs) = omega (arith, row_few r.row, rows_few rs)

pub alive_few : (c : Cached) → bytes_alive c ≤ bytes_of_rows c.rows
alive_few c = omega (arith, rows_few c.rows)

pub alive_is : (blocks : List (List (Option LogLine))) (slots : List Slot) (live sum : ℕ) (c : Cached) → sum ≡ 16 * lines_of_rows (rows_in blocks slots) → rows_in blocks slots ≡ c.rows → live ≡ c.live → min live sum ≡ bytes_alive c
alive_is blocks slots live sum c is rows alive = ap (λ (n : ℕ). min n sum) alive ∙ ap (min c.live) (is ∙ ap (λ (rs : List TargetRow). 16 * lines_of_rows rs) rows)

-- a block counts for no more than all of them
one_of : (blocks : List (List (Option LogLine))) (b : ℕ) → bytes_there (block_at blocks b) ≤ bytes_of_blocks blocks
one_of [] b = omega arith
one_of (x ∷ xs) zero = omega (arith, sum_by-cons bytes_there x xs)
one_of (x ∷ xs) (suc b) = omega (arith, sum_by-cons bytes_there x xs, one_of xs b)

row_counts : (blocks : List (List (Option LogLine))) (row : Option Row) → IsRowIn blocks row → row_bytes (kept_or_none blocks row) ≤ bytes_of_blocks blocks
row_counts blocks None is = omega arith
row_counts blocks (Some r) is = omega (arith, picked_within (block_at blocks r.block) r.places is.1, one_of blocks r.block)

-- and so does the row of a target
pub rows_count : (blocks : List (List (Option LogLine))) (slots : List Slot) (t : Target) → AreRowsIn blocks slots → row_bytes (row_of (rows_in blocks slots) t) ≤ bytes_of_blocks blocks
rows_count blocks [] t are = omega arith
rows_count blocks (s ∷ ss) t are =
    elim (is_same_target s.target t) as (λ b. row_bytes (cond b (kept_or_none blocks s.row) (row_of (rows_in blocks ss) t)) ≤ bytes_of_blocks blocks) [
      | true ↦ row_counts blocks s.row are.0
      | false ↦ rows_count blocks ss t are.1
    ]

-- ---- the bytes of a patch's blocks, behind others

pub applied_bytes : (blocks from into : List (List (Option LogLine))) (slots : List Slot) (patch : List TargetRow) (bytes : ℕ) → bytes_of_blocks into ≡ bytes_of_blocks blocks + bytes_of_blocks from → bytes_of_blocks from ≤ bytes_of_rows (rows_in from slots) → rows_in from slots ≡ patch
    → bytes_of_blocks blocks ≡ bytes → bytes_of_blocks into ≤ bytes + bytes_of_rows patch
applied_bytes blocks from into slots patch bytes sum alone rows were = omega (arith, sum, alone, ap bytes_of_rows rows, were)

-- ---- bytes of blocks, one after another

pub blocks_more : (blocks : List (List (Option LogLine))) (k : ℕ) (d : List (Option LogLine)) (total more : ℕ) → k < length blocks → total ≡ bytes_of_blocks (take k blocks) → more ≡ bytes_there (get_or blocks k d)
    → total + more ≡ bytes_of_blocks (take (k + 1) blocks)
blocks_more blocks k d total more low was is =
    omega (arith, was, is, ap bytes_of_blocks (take_more blocks k d low), bytes_behind (take k blocks) (get_or blocks k d ∷ []), sum_by-cons bytes_there (get_or blocks k d) [])

pub empty_more : (blocks : List (List (Option LogLine))) (block : List (Option LogLine)) → block ≡ [] → All (λ b. b ≡ []) blocks → All (λ b. b ≡ []) (blocks ++ block ∷ [])
empty_more blocks block is empty = All-append (λ (b : List (Option LogLine)). b ≡ []) blocks (block ∷ []) empty (All-cons (λ (b : List (Option LogLine)). b ≡ []) block [] is (All-nil (λ (b : List (Option LogLine)). b ≡ [])))
