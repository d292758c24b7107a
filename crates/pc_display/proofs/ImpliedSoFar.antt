-- The implied values of a cell as they are written one after another.
use Rattle.std.proofs.Common.{◌≡◌, ℕ, suc, ◌+◌, ◌<◌, Bool, List, [], ◌++◌, codes, Option, Result, Ok, Err, IsErr, arith, refl, sym, ◌∙◌, ap, append-nil}
use Rattle.std.specs.List.{flat_map}
use Rattle.pc_sheet.specs.Sheet.{Universe}
use Rattle.pc_sheet.specs.Cells.{values_below}
use Rattle.pc_sheet.specs.declared.ids.CellId.{CellId}
use Rattle.pc_sheet.specs.declared.ids.ValueId.{ValueId}
use Rattle.pc_writer.specs.Spelling.{joined, sort_of}
use Rattle.pc_writer.specs.Writes.{Writes}
use Rattle.pc_writer.proofs.InTurn.{Writes-then, Writes-cut, Writes-same}
use Rattle.pc_display.specs.Supports.{Reasoning}
use Rattle.pc_display.specs.Show.{listed_texts, reason_of}
use Rattle.pc_display.specs.Grid.{implied_text}
use Rattle.pc_display.specs.inside.Columns.{next_text, some_more}
use Rattle.pc_display.proofs.Below.{one_more, rest_of}
use Rattle.pc_display.proofs.Joining.{is_any, any_next, joined_next, listed_front}

-- a text is written, whatever is answered for it
pub Writes-done : {S T U D E : Type 0} {given : S → Option (List ℕ)} {faults : S → ℕ} {before after : S} {text : List ℕ} {one : T} (other : U) → Writes {E = D} given faults before after (Ok one) text → Writes {E = E} given faults before after (Ok other) text
Writes-done other wrote = record { bytes = wrote.bytes; cause = record { later = wrote.cause.later; failed = tt; kept = wrote.cause.kept } }

pub Writes-failed : {S T U D E : Type 0} {given : S → Option (List ℕ)} {faults : S → ℕ} {before after : S} {text : List ℕ} {fault : E} (outcome : Result U D) → IsErr outcome → Writes {T = T} given faults before after (Err fault) text → Writes given faults before after outcome text
Writes-failed {text = text} outcome fails wrote = Writes-same (append-nil text) (Writes-cut outcome [] fails wrote)

module _ (u : Universe) (reason : Reasoning) (c : CellId) where
  abbrev pub text_of : ValueId → List (List ℕ)
  text_of v = implied_text u (sort_of u c) v (reason_of reason c v)

  -- those of the values below that number
  abbrev pub so_far : ℕ → List (List ℕ)
  so_far n = flat_map text_of (values_below n)

  so_far_more : (i : ℕ) → so_far (i + 1) ≡ so_far i ++ text_of (record { 0 = i })
  so_far_more i = let same : i + 1 ≡ suc i = omega arith in ap so_far same ∙ one_more values_below (λ n. record { 0 = n }) (λ n. refl) text_of i

  pub any_more : (i : ℕ) (some more : Bool) → some ≡ is_any (so_far i) → more ≡ some_more some (text_of (record { 0 = i })) → more ≡ is_any (so_far (i + 1))
  any_more i some more before is =
      let v : ValueId = record { 0 = i } in
      is ∙ ap (λ b. some_more b (text_of v)) before ∙ sym (ap is_any (so_far_more i) ∙ any_next u (sort_of u c) v (so_far i) (reason_of reason c v))

  module _ {S T F : Type 0} {given : S → Option (List ℕ)} {faults : S → ℕ} {first second third : S} {done : T} (i : ℕ) (some : Bool) (any : some ≡ is_any (so_far i)) (before : Writes {E = F} given faults first second (Ok done) (joined (codes ", ") (so_far i))) where
    pub value_cut : {W U D E : Type 0} {fault : E} (n : ℕ) (outcome : Result U D) → i < n → IsErr outcome → Writes {T = W} given faults second third (Err fault) (next_text some (text_of (record { 0 = i }))) → Writes given faults first third outcome (listed_texts (so_far n))
    value_cut n outcome lt fails cut =
        let v : ValueId = record { 0 = i } in
        let rest = rest_of values_below (λ k. record { 0 = k }) (λ k. refl) text_of i n lt in
        let front = listed_front u (sort_of u c) v (so_far i) (reason_of reason c v) rest.0 in
        Writes-same (sym (ap listed_texts rest.1 ∙ front.1)) (Writes-then before (Writes-cut outcome front.0 fails (Writes-same (ap (λ b. next_text b (text_of v)) any) cut)))

    pub value_written : {W : Type 0} {written : W} (other : T) → Writes {E = F} given faults second third (Ok written) (next_text some (text_of (record { 0 = i }))) → Writes {E = F} given faults first third (Ok other) (joined (codes ", ") (so_far (i + 1)))
    value_written other there =
        let v : ValueId = record { 0 = i } in
        let whole : joined (codes ", ") (so_far (i + 1)) ≡ joined (codes ", ") (so_far i) ++ next_text some (text_of v) =
        ap (joined (codes ", ")) (so_far_more i) ∙ joined_next u (sort_of u c) v (so_far i) (reason_of reason c v) ∙ ap (λ b. joined (codes ", ") (so_far i) ++ next_text b (text_of v)) (sym any) in
        Writes-same (sym whole) (Writes-then before (Writes-done other there))
