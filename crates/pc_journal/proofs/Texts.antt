-- The texts of posts are command lines.
use Rattle.std.proofs.Common.{codes, ◌∙◌, append_assoc, arith, ◌≡◌, ◌≢◌, ℕ, zero, suc, ◌≤◌, List, [], ◌∷◌, ◌++◌, length, map, take, drop, slice_get, Some, option_map, refl, ap, subst, sym}
use Rattle.std.specs.List.{AllByRecursion}
use Rattle.std.proofs.lemmas.List.{length-map, take_all}
use Rattle.std.proofs.lemmas.List.Elements.{All-weaker, recursion_from_All}
use Rattle.pc_lines.specs.Lines.{HasNoEnd, line_text_of}
use Rattle.pc_lines.proofs.Ends.{text_of-open}
use Rattle.pc_collab.specs.declared.TheConstants.{TEXT_LIMIT}
use Rattle.pc_collab.specs.Journal.{Post, IsPost, IsJournal, IsOneLine}
use Rattle.pc_journal.specs.PostLines.{lines_of_posts}

no_end : (text : List ℕ) → IsOneLine text → HasNoEnd text
no_end text one = All-weaker (λ b. (b ≢ 10) × (b ≢ 13)) (λ b. b ≢ 10) (λ b is. is.0) text one

-- this text stands at that place among them, and is a command line
pub record Stands (posts : List Post) (i : ℕ) (text : List ℕ) : Type 0 where
  pub own : line_text_of text ≡ text
  pub short : length text ≤ TEXT_LIMIT
  pub next : take (suc i) (map (λ (p : Post). p.text) posts) ≡ take i (map (λ (p : Post). p.text) posts) ++ text ∷ []
  pub rest : map (λ (p : Post). p.text) posts ≡ take i (map (λ (p : Post). p.text) posts) ++ text ∷ drop (suc i) (map (λ (p : Post). p.text) posts)

some_same : (x y : List ℕ) → Some x ≡ Some y → x ≡ y
some_same x y same = cc same

stands : (posts : List Post) (i : ℕ) (text : List ℕ) → AllByRecursion IsPost posts → option_map (λ (p : Post). p.text) (slice_get posts i) ≡ Some text → Stands posts i text
stands [] i text all is = absurd (cc is)
stands (p ∷ posts) zero text all is =
    let same : p.text ≡ text = some_same p.text text is in
    record {
      own = subst (λ (t : List ℕ). line_text_of t ≡ t) same (text_of-open p.text (no_end p.text all.0.one_line));
      short = subst (λ (t : List ℕ). length t ≤ TEXT_LIMIT) same all.0.short;
      next = ap (λ (t : List ℕ). t ∷ []) same;
      rest = ap (λ (t : List ℕ). t ∷ map (λ (p : Post). p.text) posts) same;
    }
stands (p ∷ posts) (suc i) text all is =
    let t = stands posts i text all.1 is in
    record {
      own = t.own;
      short = t.short;
      next = ap (λ (ls : List (List ℕ)). p.text ∷ ls) t.next;
      rest = ap (λ (ls : List (List ℕ)). p.text ∷ ls) t.rest;
    }

pub stands_there : (posts : List Post) (i : ℕ) (text : List ℕ) → IsJournal posts → option_map (λ (p : Post). p.text) (slice_get posts i) ≡ Some text → Stands posts i text
stands_there posts i text journal is = stands posts i text (recursion_from_All IsPost posts journal.each) is

-- what stands before it, and what is to come
pub holds : (posts : List Post) (i : ℕ) (text : List ℕ) → Stands posts i text → lines_of_posts posts ≡ take i (map (λ (p : Post). p.text) posts) ++ text ∷ (drop (suc i) (map (λ (p : Post). p.text) posts) ++ codes "show" ∷ [])
holds posts i text t =
    ap (λ (ls : List (List ℕ)). ls ++ codes "show" ∷ []) t.rest ∙ append_assoc (take i (map (λ (p : Post). p.text) posts)) (text ∷ drop (suc i) (map (λ (p : Post). p.text) posts)) (codes "show" ∷ [])

-- behind the last of them `show` stands
pub holds_show : (posts : List Post) (i : ℕ) → length posts ≤ i → lines_of_posts posts ≡ take i (map (λ (p : Post). p.text) posts) ++ codes "show" ∷ []
holds_show posts i full =
    let all : take i (map (λ (p : Post). p.text) posts) ≡ map (λ (p : Post). p.text) posts = take_all i (map (λ (p : Post). p.text) posts) (omega (arith, full, length-map posts (λ (p : Post). p.text))) in
    ap (λ (ls : List (List ℕ)). ls ++ codes "show" ∷ []) (sym all)

pub own_show : line_text_of (codes "show") ≡ codes "show"
own_show = refl
