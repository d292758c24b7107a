-- Journals of two authors: their merges, and where two differ first.
use Rattle.std.specs.Prelude.{ℕ, List, [], ◌∷◌, codes, Ok, Err}
use Rattle.pc_collab.specs.Journal.{Post, IsPost, IsJournal}
use Rattle.pc_collab.specs.Merge.{NamesakesAgree, IsMerge, DifferFirstAt, MergeGives}
use Rattle.pc_collab.specs.declared.merging.MergeFault.TheVariants.{Differ}

-- the author, the number, the stamp
abbrev pub post : ℕ → ℕ → ℕ → List ℕ → Post
post author number stamp text = record { author = author; number = number; stamp = stamp; text = text }

-- ---- both journals have the first post; then the one author goes on, and before that the other one begins

abbrev pub shared : Post
shared = post 1 1 1 (codes "a")

abbrev pub begun : Post
begun = post 2 1 2 (codes "b")

abbrev pub went_on : Post
went_on = post 1 2 3 (codes "c")

abbrev pub ours : List Post
ours = shared ∷ went_on ∷ []

abbrev pub theirs : List Post
theirs = shared ∷ begun ∷ []

abbrev pub together : List Post
together = shared ∷ begun ∷ went_on ∷ []

pub record WorkedJournals : Type 0 where
  pub none : IsJournal []
  pub first : IsJournal ours
  pub second : IsJournal theirs
  pub both : IsJournal together
  -- each author counts from 1, and not the journal
  pub without_first : ¬ IsJournal (went_on ∷ [])
  -- the stamps rise, but the author's numbers fall
  pub numbers_fall : ¬ IsJournal (post 1 2 1 [] ∷ post 1 1 2 [] ∷ [])
  -- and here the stamps fall
  pub stamps_fall : ¬ IsJournal (begun ∷ shared ∷ [])
  -- at one stamp the lower author comes first, whichever number the posts have
  pub at_one_stamp : IsJournal (post 1 1 1 [] ∷ post 2 1 1 [] ∷ [])
  pub at_one_stamp_turned : ¬ IsJournal (post 2 1 1 [] ∷ post 1 1 1 [] ∷ [])
  -- nobody posts twice at one stamp
  pub twice_at_once : ¬ IsJournal (post 1 1 1 [] ∷ post 1 2 1 [] ∷ [])
  -- the highest post, and past each limit
  pub highest : IsPost (post 65535 1000000 1000000000000000 [])
  pub author_past : ¬ IsPost (post 65536 1 1 [])
  pub number_past : ¬ IsPost (post 1 1000001 1 [])
  pub stamp_past : ¬ IsPost (post 1 1 1000000000000001 [])
  pub no_author_zero : ¬ IsPost (post 0 1 1 [])

pub record WorkedMerges : Type 0 where
  pub agree : NamesakesAgree ours theirs
  -- the posts interleave, and the shared one stands once
  pub merge : IsMerge ours theirs together
  pub turned : IsMerge theirs ours together
  -- one journal behind the other
  pub in_turn : ¬ IsMerge ours theirs (shared ∷ went_on ∷ begun ∷ [])
  pub shared_twice : ¬ IsMerge ours theirs (shared ∷ together)
  -- a post is lost, or there is one that nobody wrote
  pub lost : ¬ IsMerge ours theirs ours
  pub gained : ¬ IsMerge ours ours together
  -- what one of the two alone says of an author is kept
  pub with_none : IsMerge [] ours ours
  pub of_itself : IsMerge ours ours ours

-- ---- two journals that differ in both their posts, of which the one of author 2 is the older one

abbrev pub older : List ℕ → Post
older text = post 2 1 1 text

abbrev pub newer : List ℕ → Post
newer text = post 1 1 2 text

abbrev pub both_of : List ℕ → List Post
both_of text = older text ∷ newer text ∷ []

pub record WorkedDifferences : Type 0 where
  pub another_text : ¬ NamesakesAgree (older (codes "a") ∷ []) (older (codes "b") ∷ [])
  -- or another stamp
  pub another_stamp : ¬ NamesakesAgree (post 1 1 1 [] ∷ []) (post 1 1 2 [] ∷ [])
  -- posts of one stamp and text by two authors, and two posts of one author, are no namesakes
  pub another_author : NamesakesAgree (post 1 1 1 [] ∷ []) (post 2 1 1 [] ∷ [])
  pub another_number : NamesakesAgree (post 1 1 1 [] ∷ []) (post 1 1 1 [] ∷ post 1 2 2 [] ∷ [])
  -- by the author, and not by the place
  pub first_author : DifferFirstAt (both_of (codes "a")) (both_of (codes "b")) 1 1
  pub first_place : ¬ DifferFirstAt (both_of (codes "a")) (both_of (codes "b")) 2 1
  -- that is told, no other fault, and no merge
  pub told : MergeGives (both_of (codes "a")) (both_of (codes "b")) (Err (Differ 1 1))
  pub not_told : ¬ MergeGives (both_of (codes "a")) (both_of (codes "b")) (Err (Differ 2 1))
  pub no_merge : (merged : List Post) → ¬ MergeGives (both_of (codes "a")) (both_of (codes "b")) (Ok merged)
  -- of what agrees no fault is told
  pub merged : MergeGives ours theirs (Ok together)
  pub no_fault : (author number : ℕ) → ¬ MergeGives ours theirs (Err (Differ author number))
