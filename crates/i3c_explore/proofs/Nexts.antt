-- The layer that follows the nodes of a layer, by lines that several jobs run.
use Rattle.std.proofs.Common.{◌≡◌, ℕ, List, [], arith, inl, inr, length, sym}
use Rattle.std.specs.Global.{Vec}
use Rattle.i3c_explore.specs.declared.node.Node.{Node}
use Rattle.i3c_explore.specs.Layers.{ArePut}
use Rattle.i3c_explore.specs.Nexts.{AreExpanded, IsNextOf}
use Rattle.i3c_explore.proofs.Joining.{all_has, all_keeps, successors_both}
use Rattle.i3c_explore.proofs.Owning.{AreSplit, line_as, no_line}
use Rattle.i3c_explore.proofs.Shares.{shares_alike, shares_first, shares_none, shares_split}

-- no node is in no range, and nothing follows it
pub next_none : {S L : Type 0} (steps : S → L → ℕ → S → Type 0) (tracks : List (Vec L)) (lines : ℕ → List L) (ran : ℕ → ℕ → List L) (layer : List (Node S)) (first : ℕ) (next : List (Node S))
    → length next ≡ 0 → IsNextOf steps tracks lines ran layer first first next
next_none steps tracks lines ran layer first next none = record {
  expanded = λ k lt le. absurd (omega arith);
  from = λ n (k, lt, is). absurd (omega arith);
  counted = shares_first steps tracks ran (length tracks) layer next first none;
}

-- where no line runs, nothing follows
pub next_idle : {S L : Type 0} (steps : S → L → ℕ → S → Type 0) (tracks : List (Vec L)) (lines : ℕ → List L) (ran : ℕ → ℕ → List L) (layer : List (Node S)) (first last : ℕ) (next : List (Node S))
    → length next ≡ 0 → ((k t : ℕ) → ran k t ≡ []) → IsNextOf steps tracks lines ran layer first last next
next_idle steps tracks lines ran layer first last next none idle = record {
  expanded = λ k lt le n is t below line at. absurd (no_line (ran k) n.places.items t line (idle k t) at);
  from = λ n (k, lt, is). absurd (omega arith);
  counted = shares_none steps tracks ran (length tracks) layer next first last none idle;
}

-- the same lines
pub next_alike : {S L : Type 0} (steps : S → L → ℕ → S → Type 0) (tracks : List (Vec L)) (lines : ℕ → List L) (one other : ℕ → ℕ → List L) (layer : List (Node S)) (first last : ℕ) (next : List (Node S))
    → ((k t : ℕ) → one k t ≡ other k t) → IsNextOf steps tracks lines one layer first last next → IsNextOf steps tracks lines other layer first last next
next_alike steps tracks lines one other layer first last next same is = record {
  expanded = λ k lt le n found t below line at. is.expanded k lt le n found t below line (line_as (other k) (one k) n.places.items t line (sym (same k t)) at);
  from = is.from;
  counted = shares_alike steps tracks one other (length tracks) layer first last next same is.counted;
}

expanded_split : {S L : Type 0} (steps : S → L → ℕ → S → Type 0) (mine theirs all : ℕ → ℕ → List L) (count : ℕ) (layer : List (Node S)) (first last : ℕ) (one other both : List (Node S))
    → AreSplit mine theirs all → ArePut one other both → AreExpanded steps mine count layer first last one → AreExpanded steps theirs count layer first last other → AreExpanded steps all count layer first last both
expanded_split steps mine theirs all count layer first last one other both split put front back k lt le n is t below line at way = elim (split k t) [
  | inl (same, _) ↦ (let (state, step, has) = front k lt le n is t below line (line_as (all k) (mine k) n.places.items t line (sym same) at) way in
      (state, step, all_keeps one both other put _ state has))
  | inr (_, same) ↦ (let (state, step, has) = back k lt le n is t below line (line_as (all k) (theirs k) n.places.items t line (sym same) at) way in
      (state, step, all_has one both other put _ state has))
]

-- the lines of two jobs, where the nodes that the second one finds are put behind
pub next_split : {S L : Type 0} (steps : S → L → ℕ → S → Type 0) (tracks : List (Vec L)) (lines : ℕ → List L) (mine theirs all : ℕ → ℕ → List L) (layer : List (Node S)) (first last : ℕ) (one other both : List (Node S))
    → AreSplit mine theirs all → ArePut one other both → IsNextOf steps tracks lines mine layer first last one → IsNextOf steps tracks lines theirs layer first last other → IsNextOf steps tracks lines all layer first last both
next_split steps tracks lines mine theirs all layer first last one other both split put front back = record {
  expanded = expanded_split steps mine theirs all (length tracks) layer first last one other both split put front.expanded back.expanded;
  from = successors_both steps lines layer one other both put front.from back.from;
  counted = shares_split steps tracks mine theirs all (length tracks) layer first last one other both split put front.counted back.counted;
}
