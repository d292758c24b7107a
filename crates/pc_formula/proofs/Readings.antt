-- What each form reads, from what its parts read.
use Rattle.std.proofs.Common.{◌≡◌, List, ◌∷◌, sym, ◌∙◌, subst, arith}
use Rattle.pc_token.specs.declared.token.Kind.TheVariants.{Arrow, DoubleArrow}
use Rattle.pc_formula.specs.Word.{Word, sign, NotFirst}
use Rattle.pc_formula.specs.Tree.{Formula, iff, implies}
use Rattle.pc_formula.specs.Grammar.{by_or, iffs, imps, joined, Derives, iff_one, iff_two, imp_one, imp_two}
use Rattle.pc_formula.specs.Front.{StopsLevel, Reads, ReadsNone}
use Rattle.pc_formula.proofs.Stops.{weaken, not_first, stops_imp, stops_iff}

-- ---- IMP = OR [ -> IMP ]

pub or_stops : (ws : List Word) → StopsLevel 5 (sign Arrow ∷ ws)
or_stops ws = omega arith

module _ (old : List Word) where
  pub imp_reads_one : (f : Formula) (new : List Word) → Reads (Derives (joined by_or)) 5 old f new → NotFirst Arrow new → Reads (Derives imps) 6 old f new
  imp_reads_one f new r ends = record { derives = imp_one r.derives; stops = stops_imp new r.stops ends; only = only old r }
    where
      only : (ws : List Word) → Reads (Derives (joined by_or)) 5 ws f new → (g : Formula) (rest : List Word) → Derives imps ws g rest → StopsLevel 6 rest → (g ≡ f) × (rest ≡ new)
      only ws r g rest (imp_one d) stops = r.only g rest d (weaken 5 6 rest (omega arith) stops)
      only ws r h rest (imp_two {mid = mid} {f = g} d e) stops = absurd (ends mid (sym (r.only g (sign Arrow ∷ mid) d (or_stops mid)).1))

  pub imp_reads_two : (f g : Formula) (mid new : List Word) → Reads (Derives (joined by_or)) 5 old f (sign Arrow ∷ mid) → Reads (Derives imps) 6 mid g new → Reads (Derives imps) 6 old (implies f g) new
  imp_reads_two f g mid new r s = record { derives = imp_two r.derives s.derives; stops = s.stops; only = only old r }
    where
      only : (ws : List Word) → Reads (Derives (joined by_or)) 5 ws f (sign Arrow ∷ mid) → (h : Formula) (rest : List Word) → Derives imps ws h rest → StopsLevel 6 rest → (h ≡ implies f g) × (rest ≡ new)
      only ws r h rest (imp_one d) stops = absurd (not_first 6 Arrow rest stops (omega arith) mid (r.only h rest d (weaken 5 6 rest (omega arith) stops)).1)
      only ws r h rest (imp_two {mid = there} {f = f'} {g = g'} d e) stops =
          let left = r.only f' (sign Arrow ∷ there) d (or_stops there) in
          let same : there ≡ mid = cc in
          let right = s.only g' rest (subst (λ m. Derives imps m g' rest) same e) stops in
          (cc, right.1)

  pub imp_none_left : ReadsNone (Derives (joined by_or)) 5 old → ReadsNone (Derives imps) 6 old
  imp_none_left r = record { none = none old r }
    where
      none : (ws : List Word) → ReadsNone (Derives (joined by_or)) 5 ws → (g : Formula) (rest : List Word) → Derives imps ws g rest → StopsLevel 6 rest → ⊥
      none ws r g rest (imp_one d) stops = r.none g rest d (weaken 5 6 rest (omega arith) stops)
      none ws r h rest (imp_two {mid = mid} {f = g} d e) stops = r.none g (sign Arrow ∷ mid) d (or_stops mid)

  pub imp_none_right : (f : Formula) (mid : List Word) → Reads (Derives (joined by_or)) 5 old f (sign Arrow ∷ mid) → ReadsNone (Derives imps) 6 mid → ReadsNone (Derives imps) 6 old
  imp_none_right f mid r s = record { none = none old r }
    where
      none : (ws : List Word) → Reads (Derives (joined by_or)) 5 ws f (sign Arrow ∷ mid) → (h : Formula) (rest : List Word) → Derives imps ws h rest → StopsLevel 6 rest → ⊥
      none ws r h rest (imp_one d) stops = not_first 6 Arrow rest stops (omega arith) mid (r.only h rest d (weaken 5 6 rest (omega arith) stops)).1
      none ws r h rest (imp_two {mid = there} {f = f'} {g = g'} d e) stops =
          let left = r.only f' (sign Arrow ∷ there) d (or_stops there) in
          let same : there ≡ mid = cc in
          s.none g' rest (subst (λ m. Derives imps m g' rest) same e) stops

-- ---- IFF = IMP [ <-> IMP ]

pub imp_stops : (ws : List Word) → StopsLevel 6 (sign DoubleArrow ∷ ws)
imp_stops ws = omega arith

module _ (old : List Word) where
  pub iff_reads_one : (f : Formula) (new : List Word) → Reads (Derives imps) 6 old f new → NotFirst DoubleArrow new → Reads (Derives iffs) 7 old f new
  iff_reads_one f new r ends = record { derives = iff_one r.derives; stops = stops_iff new r.stops ends; only = only old r }
    where
      only : (ws : List Word) → Reads (Derives imps) 6 ws f new → (g : Formula) (rest : List Word) → Derives iffs ws g rest → StopsLevel 7 rest → (g ≡ f) × (rest ≡ new)
      only ws r g rest (iff_one d) stops = r.only g rest d (weaken 6 7 rest (omega arith) stops)
      only ws r h rest (iff_two {mid = mid} {f = g} d e) stops = absurd (ends mid (sym (r.only g (sign DoubleArrow ∷ mid) d (imp_stops mid)).1))

  pub iff_reads_two : (f g : Formula) (mid new : List Word) → Reads (Derives imps) 6 old f (sign DoubleArrow ∷ mid) → Reads (Derives imps) 6 mid g new → NotFirst DoubleArrow new → Reads (Derives iffs) 7 old (iff f g) new
  iff_reads_two f g mid new r s ends = record { derives = iff_two r.derives s.derives; stops = stops_iff new s.stops ends; only = only old r }
    where
      only : (ws : List Word) → Reads (Derives imps) 6 ws f (sign DoubleArrow ∷ mid) → (h : Formula) (rest : List Word) → Derives iffs ws h rest → StopsLevel 7 rest → (h ≡ iff f g) × (rest ≡ new)
      only ws r h rest (iff_one d) stops = absurd (not_first 7 DoubleArrow rest stops (omega arith) mid (r.only h rest d (weaken 6 7 rest (omega arith) stops)).1)
      only ws r h rest (iff_two {mid = there} {f = f'} {g = g'} d e) stops =
          let left = r.only f' (sign DoubleArrow ∷ there) d (imp_stops there) in
          let same : there ≡ mid = cc in
          let right = s.only g' rest (subst (λ m. Derives imps m g' rest) same e) (weaken 6 7 rest (omega arith) stops) in
          (cc, right.1)

  pub iff_none_left : ReadsNone (Derives imps) 6 old → ReadsNone (Derives iffs) 7 old
  iff_none_left r = record { none = none old r }
    where
      none : (ws : List Word) → ReadsNone (Derives imps) 6 ws → (g : Formula) (rest : List Word) → Derives iffs ws g rest → StopsLevel 7 rest → ⊥
      none ws r g rest (iff_one d) stops = r.none g rest d (weaken 6 7 rest (omega arith) stops)
      none ws r h rest (iff_two {mid = mid} {f = g} d e) stops = r.none g (sign DoubleArrow ∷ mid) d (imp_stops mid)

  pub iff_none_right : (f : Formula) (mid : List Word) → Reads (Derives imps) 6 old f (sign DoubleArrow ∷ mid) → ReadsNone (Derives imps) 6 mid → ReadsNone (Derives iffs) 7 old
  iff_none_right f mid r s = record { none = none old r }
    where
      none : (ws : List Word) → Reads (Derives imps) 6 ws f (sign DoubleArrow ∷ mid) → (h : Formula) (rest : List Word) → Derives iffs ws h rest → StopsLevel 7 rest → ⊥
      none ws r h rest (iff_one d) stops = not_first 7 DoubleArrow rest stops (omega arith) mid (r.only h rest d (weaken 6 7 rest (omega arith) stops)).1
      none ws r h rest (iff_two {mid = there} {f = f'} {g = g'} d e) stops =
          let left = r.only f' (sign DoubleArrow ∷ there) d (imp_stops there) in
          let same : there ≡ mid = cc in
          s.none g' rest (subst (λ m. Derives imps m g' rest) same e) (weaken 6 7 rest (omega arith) stops)

  pub iff_none_third : (f g : Formula) (mid next more : List Word) → Reads (Derives imps) 6 old f (sign DoubleArrow ∷ mid) → Reads (Derives imps) 6 mid g next → next ≡ sign DoubleArrow ∷ more → ReadsNone (Derives iffs) 7 old
  iff_none_third f g mid next more r s is = record { none = none old r }
    where
      none : (ws : List Word) → Reads (Derives imps) 6 ws f (sign DoubleArrow ∷ mid) → (h : Formula) (rest : List Word) → Derives iffs ws h rest → StopsLevel 7 rest → ⊥
      none ws r h rest (iff_one d) stops = not_first 7 DoubleArrow rest stops (omega arith) mid (r.only h rest d (weaken 6 7 rest (omega arith) stops)).1
      none ws r h rest (iff_two {mid = there} {f = f'} {g = g'} d e) stops =
          let left = r.only f' (sign DoubleArrow ∷ there) d (imp_stops there) in
          let same : there ≡ mid = cc in
          let right = s.only g' rest (subst (λ m. Derives imps m g' rest) same e) (weaken 6 7 rest (omega arith) stops) in
          not_first 7 DoubleArrow rest stops (omega arith) more (right.1 ∙ is)
