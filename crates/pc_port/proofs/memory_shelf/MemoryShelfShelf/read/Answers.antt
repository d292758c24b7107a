use Rattle.std.proofs.Common.{◌≡◌, ◌+◌, IsNone, Some, None, Contains, length, ap, sym, ◌∙◌, arith, length-take, inl, inr, rules, refl, ℕ, List, option_map, subst}
use Rattle.std.proofs.lemmas.Grind.{common_steps}
use Rattle.pc_port.specs.Shelf.{Files, file_named, readable}
use Rattle.pc_port.specs.Memory.{ShelfState}
use Rattle.pc_port.specs.Files.{plain_files}
use Rattle.pc_port.specs.declared.shelf.TheConstants.{READ_LIMIT}
use Rattle.pc_port.proofs.memory_shelf.MemoryShelfShelf.read.Goals as goal
use Rattle.pc_port.proofs.memory_shelf.MemoryShelfShelf.read.Goals.{in_default-via-in-Some+else-not-fails, in_default-via-in_default}

pub returns-in_ok-extend_from_slice-in-Some-clause-bytes :
    goal.returns-in_ok-extend_from_slice-in-Some-clause-bytes
returns-in_ok-extend_from_slice-in-Some-clause-bytes c =
    let files_are : plain_files c.self.inside.files.items ≡ c.args.self.now.files = ap (λ (s : ShelfState). s.files) c.self.view_is in
    let found : Some c.in-Some.bytes.now ≡ file_named c.args.name.now c.args.self.now.files =
    c.in-Some.ensures ∙ ap (λ fs. file_named c.args.name.now (plain_files fs)) c.deref-2.ensures.value ∙ ap (λ (fs : Files). file_named c.args.name.now fs) files_are in
    let written : c.extend_from_slice.new.self.items ≡ readable c.in-Some.bytes.now = grind (arith, common_steps) in
    (omega (arith, ap length written, length-take READ_LIMIT c.in-Some.bytes.now), ap (option_map readable) (sym found) ∙ ap (λ (l : List ℕ). Some l) (sym written))

pub returns-in_default-clause-fails : goal.returns-in_default-clause-fails
returns-in_default-clause-fails c =
    elim c.in_default.branch [
      | in_default-via-in-Some+else-not-fails w ↦
          let fails_are : c.self.inside.fails.items ≡ c.args.self.now.fails = ap (λ (s : ShelfState). s.fails) c.self.view_is in
          let calls_are : c.self.inside.calls ≡ c.args.self.now.calls = ap (λ (s : ShelfState). s.calls) c.self.view_is in
          let told : Contains c.deref.result.now (c.self.inside.calls + 1) = search rules in
          inr (subst (λ n. Contains c.args.self.now.fails (n + 1)) calls_are (subst (λ ns. Contains ns (c.self.inside.calls + 1)) (c.deref.ensures.value ∙ fails_are) told))
      | in_default-via-in_default w ↦
          let files_are : plain_files c.self.inside.files.items ≡ c.args.self.now.files = ap (λ (s : ShelfState). s.files) c.self.view_is in
          let none : None ≡ file_named c.args.name.now c.args.self.now.files =
          w.in_default.ensures ∙ ap (λ fs. file_named c.args.name.now (plain_files fs)) c.deref-2.ensures.value ∙ ap (λ (fs : Files). file_named c.args.name.now fs) files_are in
          inl (subst IsNone none refl)
    ]
