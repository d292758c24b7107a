-- What clap makes of words that fit.
use Rattle.std.proofs.Common.{◌≡◌, ◌∷◌, ◌++◌, ◌==◌, ◌∙◌, cond, ap, Bool, ℕ, List, [], codes, Some, None, Option, true, false, refl, sym, subst, inl, inr}
use Rattle.std.specs.Str.{bytes_eq}
use Rattle.clap.specs.Lexer.{strip_byte}
use Rattle.clap.specs.Words.{matches_of, takes, first_of}
use Rattle.clap.proofs.OnLiterals.{clap_on_literals}
use Rattle.pc_words.specs.Words.{Request, AreOption, FitWithBudget, FitsWords}
use Rattle.pc_words.specs.inside.Parse.{app}
use Rattle.pc_words.specs.inside.Parts.{is_option, Parts, plain_parts, parts_of}
use Rattle.pc_words.proofs.Fitting.{AllPlain, plain_front, plain_back, plain_words, plain_number, parts_plain, attached_parts, detached_parts}

-- what a parse of the words gives
pub record Gives (ws : List (List ℕ)) (m : List ℕ) (w b : Option (List ℕ)) : Type 0 where
  pub takes : takes app ws ≡ true
  pub mode : first_of (codes "mode") (matches_of app ws) ≡ Some m
  pub word : first_of (codes "word") (matches_of app ws) ≡ w
  pub budget : first_of (codes "budget") (matches_of app ws) ≡ b

pub record Reads (p : List ℕ) : Type 0 where
  pub first : strip_byte 45 p ≡ None
  pub dashes : bytes_eq p (45 ∷ 45 ∷ []) ≡ false

pub gives_p : (p : List ℕ) → Reads p → Gives (p ∷ []) p None None
unfolding clap_on_literals
gives_p p hp = record {
  takes = simp (hp.dashes, hp.first) refl;
  mode = simp (hp.dashes, hp.first) refl;
  word = simp (hp.dashes, hp.first) refl;
  budget = simp (hp.dashes, hp.first) refl;
}

pub gives_ap : (p : List ℕ) (k : List ℕ) → Reads p → Gives ((codes "--budget=" ++ k) ∷ p ∷ []) p None (Some k)
unfolding clap_on_literals
gives_ap p k hp = record {
  takes = simp (hp.dashes, hp.first) refl;
  mode = simp (hp.dashes, hp.first) refl;
  word = simp (hp.dashes, hp.first) refl;
  budget = simp (hp.dashes, hp.first) refl;
}

pub gives_pa : (p : List ℕ) (k : List ℕ) → Reads p → Gives (p ∷ (codes "--budget=" ++ k) ∷ []) p None (Some k)
unfolding clap_on_literals
gives_pa p k hp = record {
  takes = simp (hp.dashes, hp.first) refl;
  mode = simp (hp.dashes, hp.first) refl;
  word = simp (hp.dashes, hp.first) refl;
  budget = simp (hp.dashes, hp.first) refl;
}

pub gives_dp : (p : List ℕ) (k : List ℕ) → Reads p → Reads k → Gives (codes "--budget" ∷ k ∷ p ∷ []) p None (Some k)
unfolding clap_on_literals
gives_dp p k hp hk = record {
  takes = simp (hp.dashes, hp.first, hk.dashes, hk.first) refl;
  mode = simp (hp.dashes, hp.first, hk.dashes, hk.first) refl;
  word = simp (hp.dashes, hp.first, hk.dashes, hk.first) refl;
  budget = simp (hp.dashes, hp.first, hk.dashes, hk.first) refl;
}

pub gives_pd : (p : List ℕ) (k : List ℕ) → Reads p → Reads k → Gives (p ∷ codes "--budget" ∷ k ∷ []) p None (Some k)
unfolding clap_on_literals
gives_pd p k hp hk = record {
  takes = simp (hp.dashes, hp.first, hk.dashes, hk.first) refl;
  mode = simp (hp.dashes, hp.first, hk.dashes, hk.first) refl;
  word = simp (hp.dashes, hp.first, hk.dashes, hk.first) refl;
  budget = simp (hp.dashes, hp.first, hk.dashes, hk.first) refl;
}

pub gives_pq : (p : List ℕ) (q : List ℕ) → Reads p → Reads q → Gives (p ∷ q ∷ []) p (Some q) None
unfolding clap_on_literals
gives_pq p q hp hq = record {
  takes = simp (hp.dashes, hp.first, hq.dashes, hq.first) refl;
  mode = simp (hp.dashes, hp.first, hq.dashes, hq.first) refl;
  word = simp (hp.dashes, hp.first, hq.dashes, hq.first) refl;
  budget = simp (hp.dashes, hp.first, hq.dashes, hq.first) refl;
}

pub gives_apq : (p : List ℕ) (q : List ℕ) (k : List ℕ) → Reads p → Reads q → Gives ((codes "--budget=" ++ k) ∷ p ∷ q ∷ []) p (Some q) (Some k)
unfolding clap_on_literals
gives_apq p q k hp hq = record {
  takes = simp (hp.dashes, hp.first, hq.dashes, hq.first) refl;
  mode = simp (hp.dashes, hp.first, hq.dashes, hq.first) refl;
  word = simp (hp.dashes, hp.first, hq.dashes, hq.first) refl;
  budget = simp (hp.dashes, hp.first, hq.dashes, hq.first) refl;
}

pub gives_paq : (p : List ℕ) (q : List ℕ) (k : List ℕ) → Reads p → Reads q → Gives (p ∷ (codes "--budget=" ++ k) ∷ q ∷ []) p (Some q) (Some k)
unfolding clap_on_literals
gives_paq p q k hp hq = record {
  takes = simp (hp.dashes, hp.first, hq.dashes, hq.first) refl;
  mode = simp (hp.dashes, hp.first, hq.dashes, hq.first) refl;
  word = simp (hp.dashes, hp.first, hq.dashes, hq.first) refl;
  budget = simp (hp.dashes, hp.first, hq.dashes, hq.first) refl;
}

pub gives_pqa : (p : List ℕ) (q : List ℕ) (k : List ℕ) → Reads p → Reads q → Gives (p ∷ q ∷ (codes "--budget=" ++ k) ∷ []) p (Some q) (Some k)
unfolding clap_on_literals
gives_pqa p q k hp hq = record {
  takes = simp (hp.dashes, hp.first, hq.dashes, hq.first) refl;
  mode = simp (hp.dashes, hp.first, hq.dashes, hq.first) refl;
  word = simp (hp.dashes, hp.first, hq.dashes, hq.first) refl;
  budget = simp (hp.dashes, hp.first, hq.dashes, hq.first) refl;
}

pub gives_dpq : (p : List ℕ) (q : List ℕ) (k : List ℕ) → Reads p → Reads q → Reads k → Gives (codes "--budget" ∷ k ∷ p ∷ q ∷ []) p (Some q) (Some k)
unfolding clap_on_literals
gives_dpq p q k hp hq hk = record {
  takes = simp (hp.dashes, hp.first, hq.dashes, hq.first, hk.dashes, hk.first) refl;
  mode = simp (hp.dashes, hp.first, hq.dashes, hq.first, hk.dashes, hk.first) refl;
  word = simp (hp.dashes, hp.first, hq.dashes, hq.first, hk.dashes, hk.first) refl;
  budget = simp (hp.dashes, hp.first, hq.dashes, hq.first, hk.dashes, hk.first) refl;
}

pub gives_pdq : (p : List ℕ) (q : List ℕ) (k : List ℕ) → Reads p → Reads q → Reads k → Gives (p ∷ codes "--budget" ∷ k ∷ q ∷ []) p (Some q) (Some k)
unfolding clap_on_literals
gives_pdq p q k hp hq hk = record {
  takes = simp (hp.dashes, hp.first, hq.dashes, hq.first, hk.dashes, hk.first) refl;
  mode = simp (hp.dashes, hp.first, hq.dashes, hq.first, hk.dashes, hk.first) refl;
  word = simp (hp.dashes, hp.first, hq.dashes, hq.first, hk.dashes, hk.first) refl;
  budget = simp (hp.dashes, hp.first, hq.dashes, hq.first, hk.dashes, hk.first) refl;
}

pub gives_pqd : (p : List ℕ) (q : List ℕ) (k : List ℕ) → Reads p → Reads q → Reads k → Gives (p ∷ q ∷ codes "--budget" ∷ k ∷ []) p (Some q) (Some k)
unfolding clap_on_literals
gives_pqd p q k hp hq hk = record {
  takes = simp (hp.dashes, hp.first, hq.dashes, hq.first, hk.dashes, hk.first) refl;
  mode = simp (hp.dashes, hp.first, hq.dashes, hq.first, hk.dashes, hk.first) refl;
  word = simp (hp.dashes, hp.first, hq.dashes, hq.first, hk.dashes, hk.first) refl;
  budget = simp (hp.dashes, hp.first, hq.dashes, hq.first, hk.dashes, hk.first) refl;
}

-- ---- the words of a request

-- a parse of the words gives these parts
abbrev pub GivesParts : List (List ℕ) → Parts → Type 0
GivesParts ws p = Gives ws p.mode p.word p.budget

plain_reads : (w : List ℕ) → is_option w ≡ false → Reads w
plain_reads [] h = record { first = refl; dashes = refl }
plain_reads (x ∷ xs) h = by (x == 45) refl h
  where
    by : (b : Bool) → (x == 45) ≡ b → b ≡ false → Reads (x ∷ xs)
    by true e h = absurd (cc)
    by false e h = record { first = ap (λ b. cond b (Some xs) None) e; dashes = rw e refl }

gives_alone : (ws : List (List ℕ)) → AllPlain ws → (p : Parts) → plain_parts ws None ≡ Some p → GivesParts ws p
gives_alone [] all p h = absurd (cc)
gives_alone (w ∷ []) all p h =
    let q : Parts = record { mode = w; word = None; budget = None } in
    let is : q ≡ p = cc in
    subst (GivesParts (w ∷ [])) is (gives_p w (plain_reads w all.0))
gives_alone (w ∷ v ∷ []) all p h =
    let q : Parts = record { mode = w; word = Some v; budget = None } in
    let is : q ≡ p = cc in
    subst (GivesParts (w ∷ v ∷ [])) is (gives_pq w v (plain_reads w all.0) (plain_reads v all.1.0))
gives_alone (w ∷ v ∷ u ∷ rest) all p h = absurd (cc)

gives_attached : (before after : List (List ℕ)) (k : List ℕ) → AllPlain before → AllPlain after → (p : Parts) → plain_parts (before ++ after) (Some k) ≡ Some p → GivesParts (before ++ ((codes "--budget=" ++ k) ∷ after)) p
gives_attached [] [] k hb ha p h = absurd (cc)
gives_attached [] (w ∷ []) k hb ha p h =
    let q : Parts = record { mode = w; word = None; budget = Some k } in
    let is : q ≡ p = cc in
    subst (GivesParts ((codes "--budget=" ++ k) ∷ w ∷ [])) is (gives_ap w k (plain_reads w ha.0))
gives_attached [] (w ∷ v ∷ []) k hb ha p h =
    let q : Parts = record { mode = w; word = Some v; budget = Some k } in
    let is : q ≡ p = cc in
    subst (GivesParts ((codes "--budget=" ++ k) ∷ w ∷ v ∷ [])) is (gives_apq w v k (plain_reads w ha.0) (plain_reads v ha.1.0))
gives_attached [] (w ∷ v ∷ u ∷ rest) k hb ha p h = absurd (cc)
gives_attached (w ∷ []) [] k hb ha p h =
    let q : Parts = record { mode = w; word = None; budget = Some k } in
    let is : q ≡ p = cc in
    subst (GivesParts (w ∷ (codes "--budget=" ++ k) ∷ [])) is (gives_pa w k (plain_reads w hb.0))
gives_attached (w ∷ []) (v ∷ []) k hb ha p h =
    let q : Parts = record { mode = w; word = Some v; budget = Some k } in
    let is : q ≡ p = cc in
    subst (GivesParts (w ∷ (codes "--budget=" ++ k) ∷ v ∷ [])) is (gives_paq w v k (plain_reads w hb.0) (plain_reads v ha.0))
gives_attached (w ∷ []) (v ∷ u ∷ rest) k hb ha p h = absurd (cc)
gives_attached (w ∷ v ∷ []) [] k hb ha p h =
    let q : Parts = record { mode = w; word = Some v; budget = Some k } in
    let is : q ≡ p = cc in
    subst (GivesParts (w ∷ v ∷ (codes "--budget=" ++ k) ∷ [])) is (gives_pqa w v k (plain_reads w hb.0) (plain_reads v hb.1.0))
gives_attached (w ∷ v ∷ []) (u ∷ rest) k hb ha p h = absurd (cc)
gives_attached (w ∷ v ∷ u ∷ rest) after k hb ha p h = absurd (cc)

gives_detached : (before after : List (List ℕ)) (k : List ℕ) → AllPlain before → AllPlain after → Reads k → (p : Parts) → plain_parts (before ++ after) (Some k) ≡ Some p → GivesParts (before ++ (codes "--budget" ∷ k ∷ after)) p
gives_detached [] [] k hb ha hk p h = absurd (cc)
gives_detached [] (w ∷ []) k hb ha hk p h =
    let q : Parts = record { mode = w; word = None; budget = Some k } in
    let is : q ≡ p = cc in
    subst (GivesParts (codes "--budget" ∷ k ∷ w ∷ [])) is (gives_dp w k (plain_reads w ha.0) hk)
gives_detached [] (w ∷ v ∷ []) k hb ha hk p h =
    let q : Parts = record { mode = w; word = Some v; budget = Some k } in
    let is : q ≡ p = cc in
    subst (GivesParts (codes "--budget" ∷ k ∷ w ∷ v ∷ [])) is (gives_dpq w v k (plain_reads w ha.0) (plain_reads v ha.1.0) hk)
gives_detached [] (w ∷ v ∷ u ∷ rest) k hb ha hk p h = absurd (cc)
gives_detached (w ∷ []) [] k hb ha hk p h =
    let q : Parts = record { mode = w; word = None; budget = Some k } in
    let is : q ≡ p = cc in
    subst (GivesParts (w ∷ codes "--budget" ∷ k ∷ [])) is (gives_pd w k (plain_reads w hb.0) hk)
gives_detached (w ∷ []) (v ∷ []) k hb ha hk p h =
    let q : Parts = record { mode = w; word = Some v; budget = Some k } in
    let is : q ≡ p = cc in
    subst (GivesParts (w ∷ codes "--budget" ∷ k ∷ v ∷ [])) is (gives_pdq w v k (plain_reads w hb.0) (plain_reads v ha.0) hk)
gives_detached (w ∷ []) (v ∷ u ∷ rest) k hb ha hk p h = absurd (cc)
gives_detached (w ∷ v ∷ []) [] k hb ha hk p h =
    let q : Parts = record { mode = w; word = Some v; budget = Some k } in
    let is : q ≡ p = cc in
    subst (GivesParts (w ∷ v ∷ codes "--budget" ∷ k ∷ [])) is (gives_pqd w v k (plain_reads w hb.0) (plain_reads v hb.1.0) hk)
gives_detached (w ∷ v ∷ []) (u ∷ rest) k hb ha hk p h = absurd (cc)
gives_detached (w ∷ v ∷ u ∷ rest) after k hb ha hk p h = absurd (cc)

with_option : (words : List (List ℕ)) (r : Request) (told : FitWithBudget words r) (number : List ℕ) → AreOption told.option number → is_option number ≡ false → (p : Parts) → parts_of words ≡ Some p → GivesParts words p
with_option words r told number option plain p h =
    let all = plain_words (told.before ++ told.after) r.mode told.mode in
    let front = plain_front told.before told.after all in
    let back = plain_back told.before told.after all in
    elim option [
      | inl e ↦
          let is : words ≡ told.before ++ (codes "--budget" ∷ number ∷ told.after) = told.all ∙ ap (λ o. told.before ++ (o ++ told.after)) e in
          subst (λ ws. GivesParts ws p) (sym is) (gives_detached told.before told.after number front back (plain_reads number plain) p (sym (detached_parts told.before told.after number front) ∙ ap parts_of (sym is) ∙ h))
      | inr e ↦
          let is : words ≡ told.before ++ ((codes "--budget=" ++ number) ∷ told.after) = told.all ∙ ap (λ o. told.before ++ (o ++ told.after)) e in
          subst (λ ws. GivesParts ws p) (sym is) (gives_attached told.before told.after number front back p (sym (attached_parts told.before told.after number front) ∙ ap parts_of (sym is) ∙ h))
    ]

pub gives : (words : List (List ℕ)) (r : Request) → FitsWords words r → (p : Parts) → parts_of words ≡ Some p → GivesParts words p
gives words r (inl told) p h = let plain = plain_words words r.mode told.0 in gives_alone words plain p (sym (parts_plain words plain) ∙ h)
gives words r (inr told) p h = with_option words r told told.budget.0 told.budget.1 (plain_number 13 1000000000000 told.budget.0 r.budget told.budget.2) p h
