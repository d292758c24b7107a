-- Parts that a sign joins, read from left to right.
use Rattle.std.proofs.Common.{◌≡◌, ◌≤◌, List, [], ◌∷◌, ◌++◌, length, refl, sym, ◌∙◌, ap, subst, arith}
use Rattle.std.proofs.lemmas.List.{append-nil, append_assoc}
use Rattle.pc_formula.specs.Word.{Word, sign, NotFirst}
use Rattle.pc_formula.specs.Tree.{Formula}
use Rattle.pc_formula.specs.Grammar.{Joint, by_or, by_and, joined, part_form, joint_sign, joint, of_parts, level, Derives, join, Goes_on, no_more, one_more}
use Rattle.pc_formula.specs.Front.{StopsLevel, Reads, ReadsNone}
use Rattle.pc_token.specs.declared.token.Kind.TheVariants.{And, Or}
use Rattle.pc_formula.proofs.Stops.{weaken, not_first, stops_and, stops_or}

part_stops : (j : Joint) (ws : List Word) → StopsLevel (level (joined j)) ws → StopsLevel (level (part_form j)) ws
part_stops by_or ws stops = weaken 4 5 ws (omega arith) stops
part_stops by_and ws stops = weaken 3 4 ws (omega arith) stops

sign_stops : (j : Joint) (ws : List Word) → StopsLevel (level (part_form j)) (sign (joint_sign j) ∷ ws)
sign_stops by_or ws = omega arith
sign_stops by_and ws = omega arith

pub no_sign : (j : Joint) (ws : List Word) → StopsLevel (level (joined j)) ws → NotFirst (joint_sign j) ws
no_sign by_or ws stops = not_first 5 Or ws stops (omega arith)
no_sign by_and ws stops = not_first 4 And ws stops (omega arith)

joined_stops : (j : Joint) (ws : List Word) → StopsLevel (level (part_form j)) ws → NotFirst (joint_sign j) ws → StopsLevel (level (joined j)) ws
joined_stops by_or ws stops ends = stops_or ws stops ends
joined_stops by_and ws stops ends = stops_and ws stops ends

-- a part ends where further parts or the end follow
pub mid_stops : (j : Joint) (mid : List Word) (fs : List Formula) (rest : List Word) → Goes_on j mid fs rest → StopsLevel (level (joined j)) rest → StopsLevel (level (part_form j)) mid
mid_stops j mid fs rest no_more stops = part_stops j mid stops
mid_stops j mid fs rest (one_more {ws = ws} d more) stops = sign_stops j ws

-- one more part at the end
goes_on_push : (j : Joint) (mid : List Word) (fs : List Formula) (now next new : List Word) (g : Formula) → Goes_on j mid fs now → now ≡ sign (joint_sign j) ∷ next → Derives (part_form j) next g new → Goes_on j mid (fs ++ g ∷ []) new
goes_on_push j mid fs now next new g no_more is d = subst (λ ws. Goes_on j ws (g ∷ []) new) (sym is) (one_more d no_more)
goes_on_push j mid fs now next new g (one_more {ws = ws} {mid = there} {fs = others} e more) is d = one_more e (goes_on_push j there others now next new g more is d)

-- what of a joined form has been read: these parts, and whatever is derived goes on from here
pub record Joins (j : Joint) (old : List Word) (fs : List Formula) (now : List Word) : Type 0 where
  pub parts : (f : Formula) × (others : List Formula) × (mid : List Word) × (fs ≡ f ∷ others) × Derives (part_form j) old f mid × Goes_on j mid others now
  pub stops : StopsLevel (level (part_form j)) now
  pub only : (g : Formula) (rest : List Word) → Derives (joined j) old g rest → StopsLevel (level (joined j)) rest → (gs : List Formula) × Goes_on j now gs rest × (g ≡ of_parts j (fs ++ gs))

module _ (j : Joint) (old : List Word) where
  pub joins_first : (f : Formula) (now : List Word) → Reads (Derives (part_form j)) (level (part_form j)) old f now → Joins j old (f ∷ []) now
  joins_first f now r = record { parts = (f, [], now, refl, r.derives, no_more); stops = r.stops; only = only old r }
    where
      only : (ws : List Word) → Reads (Derives (part_form j)) (level (part_form j)) ws f now → (g : Formula) (rest : List Word) → Derives (joined j) ws g rest → StopsLevel (level (joined j)) rest → (gs : List Formula) × Goes_on j now gs rest × (g ≡ of_parts j ((f ∷ []) ++ gs))
      only ws r g rest (join {mid = mid} {f = f'} {fs = fs} d more) stops =
          let first = r.only f' mid d (mid_stops j mid fs rest more stops) in
          (fs, subst (λ m. Goes_on j m fs rest) first.1 more, ap (λ h. of_parts j (h ∷ fs)) first.0)

  pub joins_next : (fs : List Formula) (now next new : List Word) (g : Formula) → Joins j old fs now → now ≡ sign (joint_sign j) ∷ next → Reads (Derives (part_form j)) (level (part_form j)) next g new → Joins j old (fs ++ g ∷ []) new
  joins_next fs now next new g so_far is r =
      let p = so_far.parts in
      record {
        parts = (p.0, p.1 ++ g ∷ [], p.2, ap (λ l. l ++ g ∷ []) p.3, p.4, goes_on_push j p.2 p.1 now next new g p.5 is r.derives);
        stops = r.stops;
        only = λ h rest d stops.
            let before = so_far.only h rest d stops in
            let after = step now rest before.0 before.1 is stops in
            (after.0, after.2, before.2 ∙ ap (λ l. of_parts j (fs ++ l)) after.1 ∙ ap (of_parts j) (sym (append_assoc fs (g ∷ []) after.0)));
      }
    where
      step : (ws rest : List Word) (gs : List Formula) → Goes_on j ws gs rest → ws ≡ sign (joint_sign j) ∷ next → StopsLevel (level (joined j)) rest → (hs : List Formula) × (gs ≡ g ∷ hs) × Goes_on j new hs rest
      step ws rest gs no_more is stops = absurd (no_sign j ws stops next is)
      step ws rest gs (one_more {ws = there} {mid = mid} {f = f'} {fs = hs} d more) is stops =
          let same : there ≡ next = cc in
          let first = r.only f' mid (subst (λ m. Derives (part_form j) m f' mid) same d) (mid_stops j mid hs rest more stops) in
          (hs, ap (λ h. h ∷ hs) first.0, subst (λ m. Goes_on j m hs rest) first.1 more)

  pub joins_end : (fs : List Formula) (now : List Word) → Joins j old fs now → NotFirst (joint_sign j) now → Reads (Derives (joined j)) (level (joined j)) old (of_parts j fs) now
  joins_end fs now so_far ends =
      let p = so_far.parts in
      record {
        derives = subst (λ l. Derives (joined j) old (of_parts j l) now) (sym p.3) (join p.4 p.5);
        stops = joined_stops j now so_far.stops ends;
        only = λ h rest d stops.
            let found = so_far.only h rest d stops in
            let after = done now rest found.0 found.1 ends in
            (found.2 ∙ ap (λ l. of_parts j (fs ++ l)) after.0 ∙ ap (of_parts j) (append-nil fs), after.1);
      }
    where
      done : (ws rest : List Word) (gs : List Formula) → Goes_on j ws gs rest → NotFirst (joint_sign j) ws → (gs ≡ []) × (rest ≡ ws)
      done ws rest gs no_more ends = (refl, refl)
      done ws rest gs (one_more {ws = there} d more) ends = absurd (ends there refl)

  pub joins_none : (fs : List Formula) (now next : List Word) → Joins j old fs now → now ≡ sign (joint_sign j) ∷ next → ReadsNone (Derives (part_form j)) (level (part_form j)) next → ReadsNone (Derives (joined j)) (level (joined j)) old
  joins_none fs now next so_far is r = record {
    none = λ h rest d stops.
        let found = so_far.only h rest d stops in
        step now rest found.0 found.1 is stops;
  }
    where
      step : (ws rest : List Word) (gs : List Formula) → Goes_on j ws gs rest → ws ≡ sign (joint_sign j) ∷ next → StopsLevel (level (joined j)) rest → ⊥
      step ws rest gs no_more is stops = no_sign j ws stops next is
      step ws rest gs (one_more {ws = there} {mid = mid} {f = f'} {fs = hs} d more) is stops =
          let same : there ≡ next = cc in
          r.none f' mid (subst (λ m. Derives (part_form j) m f' mid) same d) (mid_stops j mid hs rest more stops)

  pub join_none : ReadsNone (Derives (part_form j)) (level (part_form j)) old → ReadsNone (Derives (joined j)) (level (joined j)) old
  join_none r = record { none = none old r }
    where
      none : (ws : List Word) → ReadsNone (Derives (part_form j)) (level (part_form j)) ws → (g : Formula) (rest : List Word) → Derives (joined j) ws g rest → StopsLevel (level (joined j)) rest → ⊥
      none ws r g rest (join {mid = mid} {f = f} {fs = fs} d more) stops = r.none f mid d (mid_stops j mid fs rest more stops)

  -- ---- the same at one part and at two
  pub join_one : (f : Formula) (new : List Word) → Reads (Derives (part_form j)) (level (part_form j)) old f new → NotFirst (joint_sign j) new → Reads (Derives (joined j)) (level (joined j)) old f new
  join_one f new r ends = joins_end (f ∷ []) new (joins_first f new r) ends

  pub joins_two : (f g : Formula) (now next new : List Word) → Reads (Derives (part_form j)) (level (part_form j)) old f now → now ≡ sign (joint_sign j) ∷ next → Reads (Derives (part_form j)) (level (part_form j)) next g new → Joins j old (f ∷ g ∷ []) new
  joins_two f g now next new r is s = joins_next (f ∷ []) now next new g (joins_first f now r) is s

  pub join_none_right : (f : Formula) (now next : List Word) → Reads (Derives (part_form j)) (level (part_form j)) old f now → now ≡ sign (joint_sign j) ∷ next → ReadsNone (Derives (part_form j)) (level (part_form j)) next → ReadsNone (Derives (joined j)) (level (joined j)) old
  join_none_right f now next r is s = joins_none (f ∷ []) now next (joins_first f now r) is s

-- two or more parts are one node
pub of_many : (j : Joint) (fs : List Formula) → 2 ≤ length fs → of_parts j fs ≡ joint j fs
of_many j [] many = absurd (omega arith)
of_many j (f ∷ []) many = absurd (omega arith)
of_many j (f ∷ g ∷ fs) many = refl
