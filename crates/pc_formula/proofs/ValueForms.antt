-- Names, numbers, integers, values and cells, by their first words.
use Rattle.std.proofs.Common.{◌≡◌, ℕ, ℤ, pos, neg_ℤ, List, ◌∷◌, refl, sym, ◌∙◌, ap, subst}
use Rattle.std.specs.Str.Parse.{digits_value}
use Rattle.pc_token.specs.declared.token.Kind.TheVariants.{Minus}
use Rattle.pc_formula.specs.Word.{Word, name, number, sign, NotFirst, NoName, NoNumber}
use Rattle.pc_formula.specs.Tree.{Value, name_value, integer_value, Cell}
use Rattle.pc_formula.specs.Front.{StopsLevel, Reads, ReadsNone}
use Rattle.pc_formula.specs.Value.{DerivesName, a_name, DerivesNumber, a_number, DerivesInt, natural, negative, DerivesValue, by_name, by_integer, Arguments, DerivesCell, a_cell}
use Rattle.pc_formula.proofs.Stops.{stops_at_zero}
use Rattle.pc_formula.proofs.Lists.{arguments_once}

-- ---- each is derived at most once

from_name : (ws : List Word) (text other : List ℕ) (mid rest : List Word) → ws ≡ name text ∷ mid → DerivesName ws other rest → (other ≡ text) × (rest ≡ mid)
from_name ws text other mid rest is (a_name t) = ((cc), (cc))

from_number : (ws : List Word) (digits : List ℕ) (n : ℕ) (mid rest : List Word) → ws ≡ number digits ∷ mid → DerivesNumber ws n rest → (n ≡ digits_value 10 digits) × (rest ≡ mid)
from_number ws digits n mid rest is (a_number t) =
    let same : t ≡ digits = cc in
    (ap (digits_value 10) same, (cc))

pub name_once : (ws : List Word) (a b : List ℕ) (r s : List Word) → DerivesName ws a r → DerivesName ws b s → (a ≡ b) × (r ≡ s)
name_once ws a b r s (a_name t) e = let one = from_name ws t b r s refl e in (sym one.0, sym one.1)

pub number_once : (ws : List Word) (m n : ℕ) (r s : List Word) → DerivesNumber ws m r → DerivesNumber ws n s → (m ≡ n) × (r ≡ s)
number_once ws m n r s (a_number t) e = let one = from_number ws t n r s refl e in (sym one.0, sym one.1)

number_no_minus : (ws there : List Word) (n : ℕ) (rest : List Word) → DerivesNumber ws n rest → ws ≡ sign Minus ∷ there → ⊥
number_no_minus ws there n rest (a_number t) is = cc

number_no_name : (ws : List Word) (n : ℕ) (rest : List Word) → DerivesNumber ws n rest → NoName ws
number_no_name ws n rest (a_number t) = λ text more is. cc

pub int_no_name : (ws : List Word) (z : ℤ) (rest : List Word) → DerivesInt ws z rest → NoName ws
int_no_name ws z rest (natural {n = n} d) = number_no_name ws n rest d
int_no_name ws z rest (negative d) = λ text more is. cc

from_minus : (ws there : List Word) (z : ℤ) (rest : List Word) → ws ≡ sign Minus ∷ there → DerivesInt ws z rest → (n : ℕ) × (z ≡ neg_ℤ (pos n)) × DerivesNumber there n rest
from_minus ws there z rest is (natural {n = n} d) = absurd (number_no_minus ws there n rest d is)
from_minus ws there z rest is (negative {ws = inner} {n = n} d) =
    let same : inner ≡ there = cc in
    (n, refl, subst (λ l. DerivesNumber l n rest) same d)

from_natural : (ws : List Word) (z : ℤ) (rest : List Word) → NotFirst Minus ws → DerivesInt ws z rest → (n : ℕ) × (z ≡ pos n) × DerivesNumber ws n rest
from_natural ws z rest absent (natural {n = n} d) = (n, refl, d)
from_natural ws z rest absent (negative {ws = there} d) = absurd (absent there refl)

pub int_once : (ws : List Word) (y z : ℤ) (r s : List Word) → DerivesInt ws y r → DerivesInt ws z s → (y ≡ z) × (r ≡ s)
int_once ws y z r s (natural {n = m} d) e =
    let found = from_natural ws z s (λ more is. number_no_minus ws more m r d is) e in
    let one = number_once ws m found.0 r s d found.2 in
    (ap pos one.0 ∙ sym found.1, one.1)
int_once ws y z r s (negative {ws = there} {n = m} d) e =
    let found = from_minus ws there z s refl e in
    let one = number_once there m found.0 r s d found.2 in
    (ap (λ n. neg_ℤ (pos n)) one.0 ∙ sym found.1, one.1)

from_value_name : (ws : List Word) (text : List ℕ) (v : Value) (mid rest : List Word) → ws ≡ name text ∷ mid → DerivesValue ws v rest → (v ≡ name_value text) × (rest ≡ mid)
from_value_name ws text v mid rest is (by_name {text = other} d) = let one = from_name ws text other mid rest is d in (ap name_value one.0, one.1)
from_value_name ws text v mid rest is (by_integer {z = z} d) = absurd (int_no_name ws z rest d text mid is)

name_first : (ws : List Word) (text : List ℕ) (rest : List Word) → DerivesName ws text rest → NoName ws → ⊥
name_first ws text rest (a_name t) absent = absent t rest refl

from_value_int : (ws : List Word) (v : Value) (rest : List Word) → NoName ws → DerivesValue ws v rest → (z : ℤ) × (v ≡ integer_value z) × DerivesInt ws z rest
from_value_int ws v rest absent (by_name {text = t} d) = absurd (name_first ws t rest d absent)
from_value_int ws v rest absent (by_integer {z = z} d) = (z, refl, d)

pub value_once : (ws : List Word) (v w : Value) (r s : List Word) → DerivesValue ws v r → DerivesValue ws w s → (v ≡ w) × (r ≡ s)
value_once ws v w r s (by_name {text = t} (a_name u)) e = let one = from_value_name ws t w r s refl e in (sym one.0, sym one.1)
value_once ws v w r s (by_integer {z = z} d) e =
    let found = from_value_int ws w s (int_no_name ws z r d) e in
    let one = int_once ws z found.0 r s d found.2 in
    (ap integer_value one.0 ∙ sym found.1, one.1)

-- ---- what the readers read

pub name_reads : (old : List Word) (text : List ℕ) (new : List Word) → old ≡ name text ∷ new → Reads DerivesName 0 old text new
name_reads old text new is = record {
  derives = subst (λ l. DerivesName l text new) (sym is) (a_name text);
  stops = stops_at_zero new;
  only = λ other rest d stops. from_name old text other new rest is d;
}

pub name_none : (old : List Word) → NoName old → ReadsNone DerivesName 0 old
name_none old absent = record { none = λ text rest d stops. name_first old text rest d absent }

pub number_reads : (old : List Word) (digits : List ℕ) (n : ℕ) (new : List Word) → old ≡ number digits ∷ new → n ≡ digits_value 10 digits → Reads DerivesNumber 0 old n new
number_reads old digits n new is value = record {
  derives = subst (λ l. DerivesNumber l n new) (sym is) (subst (λ m. DerivesNumber (number digits ∷ new) m new) (sym value) (a_number digits));
  stops = stops_at_zero new;
  only = λ other rest d stops. let one = from_number old digits other new rest is d in (one.0 ∙ sym value, one.1);
}

pub number_none : (old : List Word) → NoNumber old → ReadsNone DerivesNumber 0 old
number_none old absent = record { none = λ n rest d stops. step old n rest d absent }
  where
    step : (ws : List Word) (n : ℕ) (rest : List Word) → DerivesNumber ws n rest → NoNumber ws → ⊥
    step ws n rest (a_number t) absent = absent t rest refl

pub int_natural : (old : List Word) (n : ℕ) (new : List Word) → NotFirst Minus old → Reads DerivesNumber 0 old n new → Reads DerivesInt 0 old (pos n) new
int_natural old n new absent r = record {
  derives = natural r.derives;
  stops = r.stops;
  only = λ z rest d stops.
      let found = from_natural old z rest absent d in
      let one = r.only found.0 rest found.2 stops in
      (found.1 ∙ ap pos one.0, one.1);
}

pub int_natural_none : (old : List Word) → NotFirst Minus old → ReadsNone DerivesNumber 0 old → ReadsNone DerivesInt 0 old
int_natural_none old absent r = record {
  none = λ z rest d stops.
      let found = from_natural old z rest absent d in
      r.none found.0 rest found.2 stops;
}

pub int_negative : (old ws : List Word) (n : ℕ) (new : List Word) → old ≡ sign Minus ∷ ws → Reads DerivesNumber 0 ws n new → Reads DerivesInt 0 old (neg_ℤ (pos n)) new
int_negative old ws n new is r = record {
  derives = subst (λ l. DerivesInt l (neg_ℤ (pos n)) new) (sym is) (negative r.derives);
  stops = r.stops;
  only = λ z rest d stops.
      let found = from_minus old ws z rest is d in
      let one = r.only found.0 rest found.2 stops in
      (found.1 ∙ ap (λ m. neg_ℤ (pos m)) one.0, one.1);
}

pub int_negative_none : (old ws : List Word) → old ≡ sign Minus ∷ ws → ReadsNone DerivesNumber 0 ws → ReadsNone DerivesInt 0 old
int_negative_none old ws is r = record {
  none = λ z rest d stops.
      let found = from_minus old ws z rest is d in
      r.none found.0 rest found.2 stops;
}

pub value_name_reads : (old : List Word) (text : List ℕ) (new : List Word) → old ≡ name text ∷ new → Reads DerivesValue 0 old (name_value text) new
value_name_reads old text new is = record {
  derives = by_name (subst (λ l. DerivesName l text new) (sym is) (a_name text));
  stops = stops_at_zero new;
  only = λ v rest d stops. from_value_name old text v new rest is d;
}

pub value_int_reads : (old : List Word) (z : ℤ) (new : List Word) → NoName old → Reads DerivesInt 0 old z new → Reads DerivesValue 0 old (integer_value z) new
value_int_reads old z new absent r = record {
  derives = by_integer r.derives;
  stops = r.stops;
  only = λ v rest d stops.
      let found = from_value_int old v rest absent d in
      let one = r.only found.0 rest found.2 stops in
      (found.1 ∙ ap integer_value one.0, one.1);
}

pub value_none : (old : List Word) → NoName old → ReadsNone DerivesInt 0 old → ReadsNone DerivesValue 0 old
value_none old absent r = record {
  none = λ v rest d stops.
      let found = from_value_int old v rest absent d in
      r.none found.0 rest found.2 stops;
}

-- ---- cells

from_cell : (old ws : List Word) (text : List ℕ) (c : Cell) (rest : List Word) → old ≡ name text ∷ ws → DerivesCell old c rest → (values : List Value) × (c ≡ record { name = text; args = values }) × Arguments DerivesValue ws values rest
from_cell old ws text c rest is (a_cell {ws = there} {values = values} t d) =
    let same : there ≡ ws = cc in
    let texts : t ≡ text = cc in
    (values, ap (λ (n : List ℕ). record { name = n; args = values }) texts, subst (λ l. Arguments DerivesValue l values rest) same d)

pub cell_reads : (old ws : List Word) (text : List ℕ) (values : List Value) (new : List Word) → old ≡ name text ∷ ws → Reads (Arguments DerivesValue) 1 ws values new → Reads DerivesCell 1 old (record { name = text; args = values }) new
cell_reads old ws text values new is r = record {
  derives = subst (λ l. DerivesCell l (record { name = text; args = values }) new) (sym is) (a_cell text r.derives);
  stops = r.stops;
  only = λ c rest d stops.
      let found = from_cell old ws text c rest is d in
      let one = r.only found.0 rest found.2 stops in
      (found.1 ∙ ap (λ (vs : List Value). record { name = text; args = vs }) one.0, one.1);
}

pub cell_none : (old ws : List Word) (text : List ℕ) → old ≡ name text ∷ ws → ReadsNone (Arguments DerivesValue) 1 ws → ReadsNone DerivesCell 1 old
cell_none old ws text is r = record {
  none = λ c rest d stops.
      let found = from_cell old ws text c rest is d in
      r.none found.0 rest found.2 stops;
}

pub cell_unnamed : (old : List Word) → NoName old → ReadsNone DerivesCell 1 old
cell_unnamed old absent = record { none = λ c rest d stops. step old c rest d absent }
  where
    step : (ws : List Word) (c : Cell) (rest : List Word) → DerivesCell ws c rest → NoName ws → ⊥
    step ws c rest (a_cell {ws = there} t d) absent = absent t there refl

pub cell_once : (ws : List Word) (c d : Cell) (r s : List Word) → DerivesCell ws c r → DerivesCell ws d s → StopsLevel 1 r → StopsLevel 1 s → (c ≡ d) × (r ≡ s)
cell_once ws c d r s (a_cell {ws = there} {values = values} text a) e stop stops =
    let found = from_cell ws there text d s refl e in
    let one = arguments_once DerivesValue value_once there values found.0 r s a found.2 stop stops in
    (ap (λ (vs : List Value). record { name = text; args = vs }) one.0 ∙ sym found.1, one.1)
