-- Literals that are added once each.
use Rattle.std.proofs.Common.{◌≡◌, ◌≢◌, ◌⊎◌, inl, inr, Bool, true, false, List, [], ◌∷◌, ◌++◌, set, Contains, Option, Some, refl, sym, ap, ◌∙◌, subst}
use Rattle.std.proofs.lemmas.List.Elements.{Contains-push, Contains-push_cases, Contains-append_left}
use Rattle.pc_lemmas.proofs.Elements.{contains_none}
use Rattle.pc_lits.specs.declared.literal.Lit.{Lit}
use Rattle.pc_lits.specs.Values.{IsInRange, MakesTrue}
use Rattle.pc_checker.specs.LineClauses.{HasSame}
use Rattle.pc_checker.specs.inside.Once.{AreAdded, AreGathered}
use Rattle.pc_checker.proofs.MarkLemmas.{marked_push, marked_skip}

module _ (sign : Bool) (before lits : List Lit) (x : Lit) (marks : List (Option Bool)) (once : List Lit) (g : AreGathered sign before lits marks once) where
  more : (m : Lit) → (Contains before m ⊎ ((m.sign ≡ sign) × Contains lits m)) → Contains before m ⊎ ((m.sign ≡ sign) × Contains (lits ++ x ∷ []) m)
  more m (inl old) = inl old
  more m (inr both) = inr (both.0, Contains-append_left lits (x ∷ []) m both.1)

  -- a literal of the other sign
  pub other_gathered : x.sign ≢ sign → AreGathered sign before (lits ++ x ∷ []) marks once
  other_gathered other = record {
    marked = marked_skip sign lits x marks other g.marked;
    added = λ m. (
      λ h. more m ((g.added m).0 h),
      λ h. elim h [
        | inl old ↦ (g.added m).1 (inl old)
        | inr both ↦ elim (Contains-push_cases lits x m both.1) [
          | inl has ↦ (g.added m).1 (inr (both.0, has))
          | inr same ↦ absurd (other (ap (λ (l : Lit). l.sign) same ∙ both.0))
        ]
      ],
    );
  }

  -- one that is marked
  pub again_gathered : IsInRange marks x → x.sign ≡ sign → MakesTrue marks x → AreGathered sign before (lits ++ x ∷ []) marks once
  again_gathered within of is =
      let has : Contains lits x = (g.marked x within of).0 is in
      let still : (m : Lit) → Contains (lits ++ x ∷ []) m → Contains lits m = λ m h. elim (Contains-push_cases lits x m h) [ inl old ↦ old | inr same ↦ subst (Contains lits) same has ] in
      record {
        marked = λ l there so. (λ true'. Contains-append_left lits (x ∷ []) l ((g.marked l there so).0 true'), λ h. (g.marked l there so).1 (still l h));
        added = λ m. (
          λ h. more m ((g.added m).0 h),
          λ h. elim h [ inl old ↦ (g.added m).1 (inl old) | inr both ↦ (g.added m).1 (inr (both.0, still m both.1)) ],
        );
      }

  -- a new one
  pub new_gathered : IsInRange marks x → x.sign ≡ sign → AreGathered sign before (lits ++ x ∷ []) (set marks x.variable.0 (Some x.sign)) (once ++ x ∷ [])
  new_gathered within of = record {
    marked = marked_push sign lits x marks within of g.marked;
    added = λ m. (
      λ h. elim (Contains-push_cases once x m h) [
        | inl old ↦ more m ((g.added m).0 old)
        | inr same ↦ inr (ap (λ (l : Lit). l.sign) (sym same) ∙ of, subst (Contains (lits ++ x ∷ [])) same (Contains-push lits x))
      ],
      λ h. elim h [
        | inl old ↦ Contains-append_left once (x ∷ []) m ((g.added m).1 (inl old))
        | inr both ↦ elim (Contains-push_cases lits x m both.1) [
          | inl has ↦ Contains-append_left once (x ∷ []) m ((g.added m).1 (inr (both.0, has)))
          | inr same ↦ subst (Contains (once ++ x ∷ [])) same (Contains-push once x)
        ]
      ],
    );
  }

by_sign : (clause mid once : List Lit) (m : Lit) (b : Bool) → AreAdded true clause [] mid → AreAdded false clause mid once → m.sign ≡ b → Contains clause m → Contains once m
by_sign clause mid once m true positives negatives is has = (negatives m).1 (inl ((positives m).1 (inr (is, has))))
by_sign clause mid once m false positives negatives is has = (negatives m).1 (inr (is, has))

pub both_signs : (clause mid once : List Lit) → AreAdded true clause [] mid → AreAdded false clause mid once → HasSame once clause
both_signs clause mid once positives negatives m = (
  λ h. elim ((negatives m).0 h) [
    | inl old ↦ elim ((positives m).0 old) [ inl none ↦ absurd (contains_none m none) | inr both ↦ both.1 ]
    | inr both ↦ both.1
  ],
  λ h. by_sign clause mid once m m.sign positives negatives refl h,
)
