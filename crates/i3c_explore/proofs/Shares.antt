-- The orders of a layer are shared out to the next one.
use Rattle.std.proofs.Common.{◌≡◌, ◌∙◌, ◌<◌, ◌≤◌, ◌+◌, ℕ, List, [], Some, ap, arith, get_or, inl, inr, length, refl, subst, sym}
use Rattle.std.specs.Global.{Vec}
use Rattle.std.specs.List.{Contains, slice_get}
use Rattle.std.proofs.lemmas.Bool.Decides.{eqb_tells}
use Rattle.std.proofs.lemmas.Option.{same_Some, slice_get_read, slice_get_within}
use Rattle.i3c_explore.specs.declared.node.Node.{Node}
use Rattle.i3c_explore.specs.Counts.{IsShared}
use Rattle.i3c_explore.specs.Layers.{ArePut}
use Rattle.i3c_explore.specs.Nexts.{SharesIn}
use Rattle.i3c_explore.specs.Shares.{Gains, IsLed, IsMeant, IsSharedNext, by_tracks}
use Rattle.i3c_explore.proofs.Counting.{by_tracks_from, led_alike}
use Rattle.i3c_explore.proofs.Joining.{all_added, in_all, in_some}
use Rattle.i3c_explore.proofs.Owning.{AreSplit, apart_next, apart_split, no_line, tracks_as, tracks_split}

-- nothing is shared out among no nodes
none_shared : {S O : Type 0} (next : List (Node S)) → length next ≡ 0 → IsShared next (λ (k : ℕ). let none : List O = [] in none)
none_shared next none = record {
  number = λ k n found. absurd (let lt = slice_get_within next k n found in omega arith);
  distinct = λ k. tt;
  apart = λ i j o (k, lt, is). absurd (omega arith);
  within = λ i o (k, lt, is). absurd (omega arith);
}

pub shares_first : {S L : Type 0} (steps : S → L → ℕ → S → Type 0) (tracks : List (Vec L)) (ran : ℕ → ℕ → List L) (count : ℕ) (layer next : List (Node S)) (first : ℕ) → length next ≡ 0 → SharesIn steps tracks ran count layer first first next
shares_first {S} steps tracks ran count layer next first none starts past share was meant = record {
  now = λ k. [];
  shared = none_shared next none;
  meant = λ i o (k, lt, is). absurd (omega arith);
  each = λ k lt le. absurd (omega arith);
  from = λ j o (k, lt, is). absurd (omega arith);
}

pub shares_more : {S L : Type 0} (steps : S → L → ℕ → S → Type 0) (tracks : List (Vec L)) (ran : ℕ → ℕ → List L) (count : ℕ) (layer : List (Node S)) (first index : ℕ) (node : Node S) (old new : List (Node S))
    → first ≤ index → index < length layer → node ≡ get_or layer index node → SharesIn steps tracks ran count layer first index old → Gains steps tracks node old new (by_tracks (ran index) node.places.items count)
    → SharesIn steps tracks ran count layer first (index + 1) new
shares_more {S} {L} steps tracks ran count layer first index node old new begun lt is below gains starts past share was meant =
    let here : slice_get layer index ≡ Some node = slice_get_read layer (length layer) index node refl lt is in
    let Fits : Node S → List ℕ × List (List ℕ) → Type 0 = IsLed steps tracks starts past in
    let more = by_tracks (ran index) node.places.items count (share index) in
    let before = below starts past share was meant in
    let fits : (o : List ℕ × List (List ℕ)) → Contains (share index) o → IsLed steps tracks starts past node o = λ o c.
    let (n, found, fit) = meant index o c in subst (λ (m : Node S). IsLed steps tracks starts past m o) (same_Some n node (sym found ∙ here)) fit in
    let after = gains starts past (share index) (was.number index node here, was.distinct index, fits) before.now before.shared before.meant
    (λ k o c d.
    let (i, less, _, (n, _, e)) = before.from k o c in
    let same = apart_next (ran i) (ran index) n.places.items node.places.items share i index count o (λ x. was.apart i index x) e d in omega arith) in record {
      now = after.now;
      shared = after.shared;
      meant = after.meant;
      each = λ k lt le n o found c. elim (eqb_tells k index) [
        | inl (_, same) ↦ (
            let alike : n ≡ node = same_Some n node (sym found ∙ ap (λ (i : ℕ). slice_get layer i) same ∙ here) in
            after.added o (subst (λ (i : ℕ). Contains (by_tracks (ran i) node.places.items count (share i)) o) same
            (subst (λ (m : Node S). Contains (by_tracks (ran k) m.places.items count (share k)) o) alike c))
            )
        | inr (_, other) ↦ (let (j, d) = before.each k (omega arith) le n o found c in after.kept j o d)
      ];
      from = λ j o c. elim (after.from j o c) [
        | inl (k, d) ↦ (let (i, less, le, rest) = before.from k o d in (i, omega arith, le, rest))
        | inr d ↦ (index, omega arith, begun, (node, here, d))
      ];
    }

pub shares_all : {S L : Type 0} (steps : S → L → ℕ → S → Type 0) (tracks : List (Vec L)) (lines : ℕ → List L) (count : ℕ) (layer next : List (Node S)) → SharesIn steps tracks (λ _. lines) count layer 0 (length layer) next
    → (starts : List (Node S)) (past : ℕ → List (List (List ℕ))) (share : ℕ → List (List ℕ × List (List ℕ))) → IsShared layer share
    → IsMeant (IsLed steps tracks starts past) layer share → IsSharedNext (IsLed steps tracks starts past) lines count layer next share
shares_all {S} {L} steps tracks lines count layer next below starts past share was meant =
    let done = below starts past share was meant in record {
      now = done.now;
      shared = done.shared;
      meant = done.meant;
      each = λ k n o found c. done.each k (slice_get_within layer k n found) (omega arith) n o found c;
      from = λ j o c. let (k, _, _, rest) = done.from j o c in (k, rest);
    }

-- the orders that the lines of two jobs lead on, where the nodes that the second one finds are put behind
pub shares_split : {S L : Type 0} (steps : S → L → ℕ → S → Type 0) (tracks : List (Vec L)) (mine theirs all : ℕ → ℕ → List L) (count : ℕ) (layer : List (Node S)) (first last : ℕ) (one other both : List (Node S))
    → AreSplit mine theirs all → ArePut one other both → SharesIn steps tracks mine count layer first last one → SharesIn steps tracks theirs count layer first last other
    → SharesIn steps tracks all count layer first last both
shares_split {S} steps tracks mine theirs all count layer first last one other both split put front back starts past share was meant =
    let x = front starts past share was meant in let y = back starts past share was meant in
    let done = all_added (IsLed steps tracks starts past) (led_alike steps tracks starts past) one both other y.now put y.shared y.meant x.now x.shared x.meant
    (λ k o c d.
    let (j, e) = in_some y.now other o d in let (a, _, _, (n, _, p)) = x.from k o c in let (b, _, _, (m, _, q)) = y.from j o e in
    apart_split mine theirs all n.places.items m.places.items share a b count o split (λ z. was.apart a b z) p q) in record {
      now = done.now;
      shared = done.shared;
      meant = done.meant;
      each = λ k lt le n o found c. elim (tracks_split mine theirs all n.places.items k count (share k) o split c) [
        | inl p ↦ (let (j, d) = x.each k lt le n o found p in done.kept j o d)
        | inr q ↦ (let (j, d) = y.each k lt le n o found q in done.added o (in_all y.now other j o (y.shared.within j o d) d))
      ];
      from = λ j o c. elim (done.from j o c) [
        | inl (k, d) ↦ (let (i, lt, le, (n, found, p)) = x.from k o d in
            (i, lt, le, (n, found, tracks_as (mine i) (all i) n.places.items count (share i) o (λ t. elim (split i t) [ inl (same, _) ↦ inl same | inr (none, _) ↦ inr none ]) p)))
        | inr d ↦ (let (k, e) = in_some y.now other o d in let (i, lt, le, (n, found, q)) = y.from k o e in
            (i, lt, le, (n, found, tracks_as (theirs i) (all i) n.places.items count (share i) o (λ t. elim (split i t) [ inl (_, none) ↦ inr none | inr (_, same) ↦ inl same ]) q)))
      ];
    }

-- the same lines
pub shares_alike : {S L : Type 0} (steps : S → L → ℕ → S → Type 0) (tracks : List (Vec L)) (one other : ℕ → ℕ → List L) (count : ℕ) (layer : List (Node S)) (first last : ℕ) (next : List (Node S))
    → ((k t : ℕ) → one k t ≡ other k t) → SharesIn steps tracks one count layer first last next → SharesIn steps tracks other count layer first last next
shares_alike steps tracks one other count layer first last next same shares starts past share was meant =
    let x = shares starts past share was meant in record {
      now = x.now;
      shared = x.shared;
      meant = x.meant;
      each = λ k lt le n o found c. x.each k lt le n o found (tracks_as (other k) (one k) n.places.items count (share k) o (λ t. inl (sym (same k t))) c);
      from = λ j o c. let (i, lt, le, (n, found, p)) = x.from j o c in (i, lt, le, (n, found, tracks_as (one i) (other i) n.places.items count (share i) o (λ t. inl (same i t)) p));
    }

-- no line leads on nothing
pub shares_none : {S L : Type 0} (steps : S → L → ℕ → S → Type 0) (tracks : List (Vec L)) (ran : ℕ → ℕ → List L) (count : ℕ) (layer next : List (Node S)) (first last : ℕ)
    → length next ≡ 0 → ((k t : ℕ) → ran k t ≡ []) → SharesIn steps tracks ran count layer first last next
shares_none {S} steps tracks ran count layer next first last none idle starts past share was meant = record {
  now = λ k. [];
  shared = none_shared next none;
  meant = λ i o (k, lt, is). absurd (omega arith);
  each = λ k lt le n o found c. let (t, _, (line, at), _) = by_tracks_from (ran k) n.places.items count (share k) o c in absurd (no_line (ran k) n.places.items t line (idle k t) at);
  from = λ j o (k, lt, is). absurd (omega arith);
}
