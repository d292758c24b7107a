-- A line has one first fault by itself, and none where it has a form.
use Rattle.std.proofs.Common.{◌≡◌, ℕ, ◌≤◌, List, refl, subst, arith}
use Rattle.std.specs.Str.{IsUtf8}
use Rattle.pc_formula.specs.Word.{Word, nesting, most_nesting}
use Rattle.pc_syntax.specs.Spelling.{IsSpelled, IsTooDeep}
use Rattle.pc_syntax.specs.Fault.{Fault, IsAtFault, no_text, deep, formless}
use Rattle.pc_syntax.proofs.ReadLine.{one_words}

pub fault_once : (line : List ℕ) (H : Type 0) (d e : Fault) → IsAtFault line H d → IsAtFault line H e → d ≡ e
fault_once line H d e (no_text a) (no_text b) = refl
fault_once line H d e (no_text a) (deep t) = absurd (a t.split.utf8)
fault_once line H d e (no_text a) (formless u s n) = absurd (a u)
fault_once line H d e (deep t) (no_text b) = absurd (b t.split.utf8)
fault_once line H d e (deep t) (deep u) = refl
fault_once line H d e (deep t) (formless u s n) = absurd (s t)
fault_once line H d e (formless u s n) (no_text b) = absurd (b u)
fault_once line H d e (formless u s n) (deep t) = absurd (s t)
fault_once line H d e (formless u s n) (formless v t m) = refl

-- words that don't go too deep are no words that do
pub deep_unspelled : (line : List ℕ) (ws : List Word) → IsTooDeep line → IsSpelled line ws → ⊥
deep_unspelled line ws t s =
    let within = subst (λ l. nesting l ≤ most_nesting) (one_words line ws t.words s.split.has t.split.has) s.within in
    absurd (omega (arith, within, t.deep))

-- a line that has a form has no fault
pub form_no_fault : (line : List ℕ) (H : Type 0) (e : Fault) → H → IsUtf8 line → (IsTooDeep line → ⊥) → IsAtFault line H e → ⊥
form_no_fault line H e h utf8 shallow (no_text a) = a utf8
form_no_fault line H e h utf8 shallow (deep t) = shallow t
form_no_fault line H e h utf8 shallow (formless u s n) = n h
