-- A text has one reading.
use Rattle.std.proofs.Common.{◌≡◌, ℕ, ◌+◌, true, false, List, [], ◌∷◌, ◌++◌, length, refl, sym, ◌∙◌, ap, ap₂, subst, arith}
use Rattle.std.specs.Str.{IsUtf8}
use Rattle.std.specs.List.{list_any}
use Rattle.std.specs.Str.Lines.{lines}
use Rattle.std.proofs.lemmas.List.{append_assoc, append-nil}
use Rattle.pc_syntax.specs.Spelling.{IsTooDeep}
use Rattle.pc_syntax.specs.Fault.{Fault, IsAtFault}
use Rattle.pc_syntax.specs.Line.{LineForm, IsLine, empty_line, begin_line, spelled_line, HasForm}
use Rattle.pc_syntax.specs.Sheet.{is_begin, may_stand, misplacement, AreStanding, IsAtFaultBehind, by_itself, by_place, declared_from, SheetReading, sheet, fault_at, IsSheetReading, whole, endless, faulty}
use Rattle.pc_syntax.proofs.ReadLine.{false_no_true}
use Rattle.pc_syntax.proofs.OneFault.{fault_once, deep_unspelled, form_no_fault}
use Rattle.pc_syntax.proofs.OneLine.{one_line, deep_no_begin}

-- ---- a line behind lines of these forms

line_utf8 : (line : List ℕ) (f : LineForm) → IsLine line f → IsUtf8 line
line_utf8 line f (empty_line n) = n.utf8
line_utf8 line f (begin_line b) = b.utf8
line_utf8 line f (spelled_line ws s is) = s.split.utf8

line_shallow : (line : List ℕ) (f : LineForm) → IsLine line f → IsTooDeep line → ⊥
line_shallow line f (empty_line n) t = t.split.something n
line_shallow line f (begin_line b) t = deep_no_begin line t b
line_shallow line f (spelled_line ws s is) t = deep_unspelled line ws t s

line_at_fault : (line : List ℕ) (e : Fault) (f : LineForm) → IsAtFault line (HasForm line) e → IsLine line f → ⊥
line_at_fault line e f fault is = form_no_fault line (HasForm line) e (f, is) (line_utf8 line f is) (line_shallow line f is) fault

stands_at_fault : (before : List LineForm) (line : List ℕ) (e : Fault) (f : LineForm) → IsAtFaultBehind before line e → IsLine line f → may_stand before f ≡ true → ⊥
stands_at_fault before line e f (by_itself fault) is may = line_at_fault line e f fault is
stands_at_fault before line e f (by_place g other stays) is may = false_no_true (sym stays ∙ ap (may_stand before) (one_line line g f other is) ∙ may)

one_fault : (before : List LineForm) (line : List ℕ) (d e : Fault) → IsAtFaultBehind before line d → IsAtFaultBehind before line e → d ≡ e
one_fault before line d e (by_itself a) (by_itself b) = fault_once line (HasForm line) d e a b
one_fault before line d e (by_itself a) (by_place g is stays) = absurd (line_at_fault line d g a is)
one_fault before line d e (by_place f is stays) (by_itself b) = absurd (line_at_fault line e f b is)
one_fault before line d e (by_place f is stays) (by_place g other there) = ap (misplacement before) (one_line line f g is other)

-- ---- lines that stand

standing_once : (before : List LineForm) (ls : List (List ℕ)) (fs gs : List LineForm) → AreStanding before ls fs → AreStanding before ls gs → fs ≡ gs
standing_once before [] [] [] a b = refl
standing_once before [] [] (g ∷ gs) a b = absurd b
standing_once before [] (f ∷ fs) gs a b = absurd a
standing_once before (l ∷ ls) [] gs a b = absurd a
standing_once before (l ∷ ls) (f ∷ fs) [] a b = absurd b
standing_once before (l ∷ ls) (f ∷ fs) (g ∷ gs) a b =
    let same = one_line l f g a.0 b.0 in
    let rest = standing_once (before ++ g ∷ []) ls fs gs (subst (λ h. AreStanding (before ++ h ∷ []) ls fs) same a.2) b.2 in
    ap₂ (λ h hs. h ∷ hs) same rest

-- no line at fault stands
no_fault_inside : (before : List LineForm) (ls : List (List ℕ)) (l : List ℕ) (more : List (List ℕ)) (fs gs : List LineForm) (e : Fault) → AreStanding before (ls ++ l ∷ more) fs → AreStanding before ls gs → IsAtFaultBehind (before ++ gs) l e → ⊥
no_fault_inside before [] l more [] gs e a b fault = a
no_fault_inside before [] l more (f ∷ fs) [] e a b fault = stands_at_fault before l e f (subst (λ h. IsAtFaultBehind h l e) (append-nil before) fault) a.0 a.1
no_fault_inside before [] l more (f ∷ fs) (g ∷ gs) e a b fault = b
no_fault_inside before (k ∷ ls) l more [] gs e a b fault = a
no_fault_inside before (k ∷ ls) l more (f ∷ fs) [] e a b fault = b
no_fault_inside before (k ∷ ls) l more (f ∷ fs) (g ∷ gs) e a b fault =
    let same = one_line k f g a.0 b.0 in
    no_fault_inside (before ++ g ∷ []) ls l more fs gs e (subst (λ h. AreStanding (before ++ h ∷ []) (ls ++ l ∷ more) fs) same a.2) b.2 (subst (λ h. IsAtFaultBehind h l e) (sym (append_assoc before (g ∷ []) gs)) fault)

record SameFault (ks ls : List (List ℕ)) (d e : Fault) : Type 0 where
  places : length ks ≡ length ls
  faults : d ≡ e

-- the first line at fault is one line, with one fault
first_fault : (before : List LineForm) (ks ls : List (List ℕ)) (k l : List ℕ) (rest more : List (List ℕ)) (fs gs : List LineForm) (d e : Fault) → ks ++ k ∷ rest ≡ ls ++ l ∷ more → AreStanding before ks fs → AreStanding before ls gs → IsAtFaultBehind (before ++ fs) k d → IsAtFaultBehind (before ++ gs) l e → SameFault ks ls d e
first_fault before [] [] k l rest more [] [] d e same a b one other =
    let line : k ≡ l = cc in
    record { places = refl; faults = one_fault (before ++ []) l d e (subst (λ h. IsAtFaultBehind (before ++ []) h d) line one) other }
first_fault before [] [] k l rest more (f ∷ fs) gs d e same a b one other = absurd a
first_fault before [] [] k l rest more [] (g ∷ gs) d e same a b one other = absurd b
first_fault before [] (m ∷ ls) k l rest more fs [] d e same a b one other = absurd b
first_fault before [] (m ∷ ls) k l rest more (f ∷ fs) (g ∷ gs) d e same a b one other = absurd a
first_fault before [] (m ∷ ls) k l rest more [] (g ∷ gs) d e same a b one other =
    let line : m ≡ k = cc in
    absurd (stands_at_fault before k d g (subst (λ h. IsAtFaultBehind h k d) (append-nil before) one) (subst (λ h. IsLine h g) line b.0) b.1)
first_fault before (m ∷ ks) [] k l rest more [] gs d e same a b one other = absurd a
first_fault before (m ∷ ks) [] k l rest more (f ∷ fs) (g ∷ gs) d e same a b one other = absurd b
first_fault before (m ∷ ks) [] k l rest more (f ∷ fs) [] d e same a b one other =
    let line : m ≡ l = cc in
    absurd (stands_at_fault before l e f (subst (λ h. IsAtFaultBehind h l e) (append-nil before) other) (subst (λ h. IsLine h f) line a.0) a.1)
first_fault before (m ∷ ks) (n ∷ ls) k l rest more [] gs d e same a b one other = absurd a
first_fault before (m ∷ ks) (n ∷ ls) k l rest more (f ∷ fs) [] d e same a b one other = absurd b
first_fault before (m ∷ ks) (n ∷ ls) k l rest more (f ∷ fs) (g ∷ gs) d e same a b one other =
    let line : m ≡ n = cc in
    let tails : ks ++ k ∷ rest ≡ ls ++ l ∷ more = cc in
    let form = one_line n f g (subst (λ h. IsLine h f) line a.0) b.0 in
    let behind = first_fault (before ++ g ∷ []) ks ls k l rest more fs gs d e tails (subst (λ h. AreStanding (before ++ h ∷ []) ks fs) form a.2) b.2
    (subst (λ h. IsAtFaultBehind h k d) (ap (λ h. before ++ h ∷ fs) form ∙ sym (append_assoc before (g ∷ []) fs)) one)
    (subst (λ h. IsAtFaultBehind h l e) (sym (append_assoc before (g ∷ []) gs)) other) in
    let count = behind.places in
    record { places = omega (arith, count); faults = behind.faults }

-- ---- texts

stands_whole : (text : List ℕ) (fs : List LineForm) → AreStanding [] (lines text) fs → (before : List (List ℕ)) (gs : List LineForm) (l : List ℕ) (after : List (List ℕ)) (e : Fault) → lines text ≡ before ++ l ∷ after → AreStanding [] before gs → IsAtFaultBehind gs l e → ⊥
stands_whole text fs a before gs l after e parts b fault = no_fault_inside [] before l after fs gs e (subst (λ ls. AreStanding [] ls fs) parts a) b fault

begins_once : (text : List ℕ) (fs gs : List LineForm) → AreStanding [] (lines text) fs → AreStanding [] (lines text) gs → list_any is_begin fs ≡ false → list_any is_begin gs ≡ true → ⊥
begins_once text fs gs a b none some = false_no_true (sym none ∙ ap (list_any is_begin) (standing_once [] (lines text) fs gs a b) ∙ some)

pub one_sheet_reading : (text : List ℕ) (q r : SheetReading) → IsSheetReading text q → IsSheetReading text r → q ≡ r
one_sheet_reading text q r (whole fs a s) (whole gs b t) = ap (λ hs. sheet (declared_from 1 hs)) (standing_once [] (lines text) fs gs a b)
one_sheet_reading text q r (whole fs a s) (endless gs b t) = absurd (begins_once text gs fs b a t s)
one_sheet_reading text q r (whole fs a s) (faulty before gs l after {e = e} parts b fault) = absurd (stands_whole text fs a before gs l after e parts b fault)
one_sheet_reading text q r (endless fs a s) (whole gs b t) = absurd (begins_once text fs gs a b s t)
one_sheet_reading text q r (endless fs a s) (endless gs b t) = refl
one_sheet_reading text q r (endless fs a s) (faulty before gs l after {e = e} parts b fault) = absurd (stands_whole text fs a before gs l after e parts b fault)
one_sheet_reading text q r (faulty before gs l after {e = e} parts b fault) (whole fs a s) = absurd (stands_whole text fs a before gs l after e parts b fault)
one_sheet_reading text q r (faulty before gs l after {e = e} parts b fault) (endless fs a s) = absurd (stands_whole text fs a before gs l after e parts b fault)
one_sheet_reading text q r (faulty before fs k after {e = d} parts a one) (faulty earlier gs l more {e = e} others b other) =
    let same = first_fault [] before earlier k l after more fs gs d e (sym parts ∙ others) a b one other in
    ap₂ (λ n x. fault_at (n + 1) x) same.places same.faults
