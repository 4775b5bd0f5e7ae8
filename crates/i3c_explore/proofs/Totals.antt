-- The interleavings of blocks are shared out, and their number is told.
use Rattle.std.proofs.Common.{◌≡◌, ◌∙◌, ◌<◌, ◌+◌, ℕ, suc, zero, List, [], ◌∷◌, Option, Some, ap, arith, get_or, inl, inr, length, length-append, map, refl, subst, sym}
use Rattle.std.specs.Global.{Vec}
use Rattle.std.specs.List.{Contains, slice_get}
use Rattle.std.proofs.lemmas.Bool.Decides.{eqb_tells}
use Rattle.std.proofs.lemmas.List.{length-map}
use Rattle.std.proofs.lemmas.List.Elements.{Contains-append_cases, Contains-append_left, Contains-append_right}
use Rattle.std.proofs.lemmas.Option.{same_Some, slice_get_read}
use Rattle.i3c_explore.specs.declared.node.Node.{Node}
use Rattle.i3c_explore.specs.Blocks.{IsCourse, LeadsOn, PartIsCounted, block, plain_course}
use Rattle.i3c_explore.specs.Counts.{AllDistinct, IsShared, plain}
use Rattle.i3c_explore.specs.Shares.{AreShared, all_below}
use Rattle.i3c_explore.specs.Numbers.{IsNumber, IsSum}
use Rattle.i3c_explore.specs.Orders.{IsOrder, Leads}
use Rattle.i3c_explore.specs.Parts.{BeginsIn, Part, block_part, fork}
use Rattle.i3c_explore.proofs.Opening.{in_block, of_block}
use Rattle.i3c_explore.proofs.Sharing.{contains_here, contains_map, contains_map_from, distinct_append, distinct_map}

-- the sum of the numbers so far
pub total_more : {S : Type 0} (nodes : List (Node S)) (index : ℕ) (node : Node S) (orders more : Option ℕ) → index < length nodes → node ≡ get_or nodes index node → IsSum orders node.orders more
    → (share : ℕ → List (List (List ℕ))) → IsShared nodes share → IsNumber orders (length (all_below share index)) → IsNumber more (length (all_below share (index + 1)))
total_more nodes index node orders more lt is sum share shared told =
    let here : slice_get nodes index ≡ Some node = slice_get_read nodes (length nodes) index node refl lt is in
    let both = sum (length (all_below share index)) (length (share index)) told (shared.number index node here) in
    let count : length (all_below share index) + length (share index) ≡ length (all_below share (suc index)) = sym (length-append (all_below share index) (share index)) in
    let next : suc index ≡ index + 1 = omega arith in
    subst (λ (k : ℕ). IsNumber more (length (all_below share k))) next (subst (λ (n : ℕ). IsNumber more n) count both)

below_from : {O : Type 0} (share : ℕ → List O) (count : ℕ) (o : O) → Contains (all_below share count) o → (k : ℕ) × (k < count) × Contains (share k) o
below_from share zero o (k, lt, is) = absurd (omega arith)
below_from share (suc count) o c = elim (Contains-append_cases (all_below share count) (share count) o c) [
  | inl d ↦ (let (k, lt, e) = below_from share count o d in (k, omega arith, e))
  | inr d ↦ (count, omega arith, d)
]

in_below : {O : Type 0} (share : ℕ → List O) (count k : ℕ) (o : O) → k < count → Contains (share k) o → Contains (all_below share count) o
in_below share zero k o lt c = absurd (omega arith)
in_below {O} share (suc count) k o lt c = elim (eqb_tells k count) [
  | inl (_, same) ↦ Contains-append_right (all_below share count) (share count) o (subst (λ (j : ℕ). Contains (share j) o) same c)
  | inr (_, other) ↦ Contains-append_left (all_below share count) (share count) o (in_below share count k o (omega arith) c)
]

below_distinct : {S O : Type 0} (nodes : List (Node S)) (share : ℕ → List O) → IsShared nodes share → (count : ℕ) → AllDistinct (all_below share count)
below_distinct nodes share shared zero = tt
below_distinct nodes share shared (suc count) =
    distinct_append (all_below share count) (share count) (below_distinct nodes share shared count) (shared.distinct count)
    (λ o c d. let (k, lt, e) = below_from share count o c in let same = shared.apart k count o e d in omega arith)

-- the histories over `count` blocks are shared out among the nodes of a layer
pub record SharesCourses {S L : Type 0} (steps : S → L → ℕ → S → Type 0) (part : Part) (split : ℕ) (blocks : List (Vec (Vec L))) (start : S) (count : ℕ) (layer : List (Node S)) : Type 0 where
  pub share : ℕ → List (List (List ℕ))
  pub shared : IsShared layer share
  pub led : (k : ℕ) (history : List (List ℕ)) → Contains (share k) history
      → IsCourse blocks (plain_course history) × BeginsIn part split (plain_course history) × (length history ≡ count) × ((n : Node S) × (slice_get layer k ≡ Some n) × LeadsOn steps blocks start (plain_course history) n.state)
  pub each : (history : List (List ℕ)) → IsCourse blocks (plain_course history) → BeginsIn part split (plain_course history) → length history ≡ count → (k : ℕ) × Contains (share k) history

-- at the start there is one, of no block
first_share : ℕ → List (List (List ℕ))
first_share zero = [] ∷ []
first_share (suc k) = []

share_number : {S : Type 0} (n : Node S) → n.orders ≡ Some 1 → (k : ℕ) (m : Node S) → slice_get (n ∷ []) k ≡ Some m → IsNumber m.orders (length (first_share k))
unfolding first_share
share_number {S} n one zero m found =
    let told : IsNumber n.orders 1 = subst (λ (o : Option ℕ). IsNumber o 1) (sym one) refl in
    subst (λ (o : Node S). IsNumber o.orders 1) (same_Some n m found) told
share_number n one (suc k) m found = cc

share_distinct : (k : ℕ) → AllDistinct (first_share k)
unfolding first_share
share_distinct zero = ((λ (k, lt, is). absurd (omega arith)), tt)
share_distinct (suc k) = tt

share_first : (k : ℕ) (history : List (List ℕ)) → Contains (first_share k) history → (k ≡ 0) × ([] ≡ history)
unfolding first_share
share_first zero history (zero, lt, is) = (refl, is)
share_first zero history (suc j, lt, is) = absurd (omega arith)
share_first (suc k) history (j, lt, is) = absurd (omega arith)

share_each : (history : List (List ℕ)) → length history ≡ 0 → (k : ℕ) × Contains (first_share k) history
unfolding first_share
share_each [] len = (0, contains_here [] [])
share_each (xs ∷ history) len = absurd (omega arith)

pub share_start : {S L : Type 0} (steps : S → L → ℕ → S → Type 0) (part : Part) (split : ℕ) (blocks : List (Vec (Vec L))) (start : S) (n : Node S) (layer : List (Node S)) → layer ≡ n ∷ [] → n.state ≡ start → n.orders ≡ Some 1
    → SharesCourses steps part split blocks start 0 layer
share_start {S} {L} steps part split blocks start n layer is same one = record {
  share = first_share;
  shared = record {
    number = λ k m found. share_number n one k m (subst (λ (l : List (Node S)). slice_get l k ≡ Some m) is found);
    distinct = share_distinct;
    apart = λ i j o c d. (share_first i o c).0 ∙ sym (share_first j o d).0;
    within = λ k o c. let e = (share_first k o c).0 in let f = ap length is in omega arith;
  };
  led = λ k history c.
      let (zero_, none) = share_first k history c in
      let here : slice_get layer k ≡ Some n = ap (λ (l : List (Node S)). slice_get l k) is ∙ ap (λ (j : ℕ). slice_get (n ∷ []) j) zero_ in (
        subst (λ (h : List (List ℕ)). IsCourse blocks (plain_course h)) none tt,
        subst (λ (h : List (List ℕ)). BeginsIn part split (plain_course h)) none tt,
        ap length (sym none),
        (n, here, subst (λ (h : List (List ℕ)). LeadsOn steps blocks start (plain_course h) n.state) none same),
      );
  each = λ history course fits len. share_each history len;
}

-- an interleaving goes before the history
abbrev pub put_before : List ℕ × List (List ℕ) → List (List ℕ)
put_before order = order.0 ∷ order.1

before_once : (one other : List ℕ × List (List ℕ)) → put_before one ≡ put_before other → one ≡ other
before_once (xs, p) (ys, q) is =
    let same : xs ≡ ys = cc in
    let alike : p ≡ q = cc in
    ap (λ (zs : List ℕ). let pair : List ℕ × List (List ℕ) = (zs, p) in pair) same ∙ ap (λ (r : List (List ℕ)). let pair : List ℕ × List (List ℕ) = (ys, r) in pair) alike

course_before : {S L : Type 0} (steps : S → L → ℕ → S → Type 0) (blocks : List (Vec (Vec L))) (start : S) (count : ℕ) (tracks : List (Vec L)) (o : List ℕ × List (List ℕ)) (s n : S)
    → tracks ≡ block blocks count → count < length blocks → IsCourse blocks (plain_course o.1) → length o.1 ≡ count → LeadsOn steps blocks start (plain_course o.1) s
    → IsOrder tracks (plain o.0) → Leads steps tracks s (plain o.0) n
    → IsCourse blocks (plain_course (put_before o)) × LeadsOn steps blocks start (plain_course (put_before o)) n
course_before {S} {L} steps blocks start count tracks o s n is lt course len led whole leads =
    let long : length (plain_course o.1) ≡ count = length-map o.1 plain ∙ len in
    let e : tracks ≡ block blocks (length (plain_course o.1)) = is ∙ ap (λ (k : ℕ). block blocks k) (sym long) in (
      (course, omega arith, subst (λ (t : List (Vec L)). IsOrder t (plain o.0)) e whole),
      (s, led, subst (λ (t : List (Vec L)). Leads steps t s (plain o.0) n) e leads),
    )

each_next : {S L : Type 0} (steps : S → L → ℕ → S → Type 0) (part : Part) (split : ℕ) (blocks : List (Vec (Vec L))) (start : S) (count : ℕ) (layer ends : List (Node S)) (tracks : List (Vec L)) → tracks ≡ block blocks count
    → (was : SharesCourses steps part split blocks start count layer) → (now : AreShared steps (block_part part split count) tracks layer ends was.share)
    → (history : List (List ℕ)) → IsCourse blocks (plain_course history) → BeginsIn part split (plain_course history) → length history ≡ suc count → (k : ℕ) × Contains (map put_before (now.share k)) history
each_next steps part split blocks start count layer ends tracks is was now [] course fits len = absurd (omega arith)
each_next {S} {L} steps part split blocks start count layer ends tracks is was now (xs ∷ history) (course, lt, whole) (earlier, fits) len =
    let shorter : length history ≡ count = omega arith in
    let long : length (plain_course history) ≡ count = length-map history plain ∙ shorter in
    let e : tracks ≡ block blocks (length (plain_course history)) = is ∙ ap (λ (k : ℕ). block blocks k) (sym long) in
    let (i, c) = was.each history course earlier shorter in
    let (k, d) = now.each i history c xs (subst (λ (t : List (Vec L)). IsOrder t (plain xs)) (sym e) whole) (in_block part split count (plain xs) (λ at. fits (long ∙ at))) in
    (k, contains_map put_before (now.share k) (xs, history) d)

pub share_next : {S L : Type 0} (steps : S → L → ℕ → S → Type 0) (part : Part) (split : ℕ) (blocks : List (Vec (Vec L))) (start : S) (count : ℕ) (layer ends : List (Node S)) (tracks : List (Vec L)) → tracks ≡ block blocks count → count < length blocks
    → (was : SharesCourses steps part split blocks start count layer) → AreShared steps (block_part part split count) tracks layer ends was.share → SharesCourses steps part split blocks start (suc count) ends
share_next {S} {L} steps part split blocks start count layer ends tracks is lt was now = record {
  share = λ k. map put_before (now.share k);
  shared = record {
    number = λ k n found. subst (λ (j : ℕ). IsNumber n.orders j) (sym (length-map (now.share k) put_before)) (now.shared.number k n found);
    distinct = λ k. distinct_map put_before (now.share k) before_once (now.shared.distinct k);
    apart = λ i j h c d.
        let (a, at, one) = contains_map_from put_before (now.share i) h c in
        let (b, there, other) = contains_map_from put_before (now.share j) h d in
        let same : b ≡ a = before_once b a (sym other ∙ one) in
        now.shared.apart i j a at (subst (λ (x : List ℕ × List (List ℕ)). Contains (now.share j) x) same there);
    within = λ k h c. let (a, at, _) = contains_map_from put_before (now.share k) h c in now.shared.within k a at;
  };
  led = λ k h c.
      let (o, at, one) = contains_map_from put_before (now.share k) h c in
      let (whole, in_part, (n, found, (i, s, from, before, leads))) = now.led k o at in
      let (course, earlier, len, (s', from', led)) = was.led i o.1 before in
      let same : s' ≡ s = same_Some s' s (sym from' ∙ from) in
      let led' : LeadsOn steps blocks start (plain_course o.1) s.state = subst (λ (m : Node S). LeadsOn steps blocks start (plain_course o.1) m.state) same led in
      let (more, on) = course_before steps blocks start count tracks o s.state n.state is lt course len led' whole leads in (
        subst (λ (x : List (List ℕ)). IsCourse blocks (plain_course x)) (sym one) more,
        subst (λ (x : List (List ℕ)). BeginsIn part split (plain_course x)) (sym one) (earlier, λ here. of_block part split count (plain o.0) in_part (sym (length-map o.1 plain ∙ len) ∙ here)),
        ap length one ∙ ap suc len,
        (n, found, subst (λ (x : List (List ℕ)). LeadsOn steps blocks start (plain_course x) n.state) (sym one) on),
      );
  each = each_next steps part split blocks start count layer ends tracks is was now;
}

pub all_counted : {S L : Type 0} (steps : S → L → ℕ → S → Type 0) (part : Part) (blocks : List (Vec (Vec L))) (start : S) (count : ℕ) (ends : List (Node S)) (total : Option ℕ) → count ≡ length blocks → (fork blocks ≡ length blocks → part.index ≡ 0)
    → ((share : ℕ → List (List (List ℕ))) → IsShared ends share → IsNumber total (length (all_below share (length ends))))
    → SharesCourses steps part (fork blocks) blocks start count ends → PartIsCounted steps part blocks start ends total
all_counted {S} {L} steps part blocks start count ends total all one number now = record {
  share = now.share;
  shared = now.shared;
  led = λ k h c. let (course, fits, len, rest) = now.led k h c in ((course, length-map h plain ∙ len ∙ all), (fits, one), rest);
  all = all_below now.share (length ends);
  distinct = below_distinct ends now.share now.shared (length ends);
  each = λ h (course, len) (fits, _). let (k, c) = now.each h course fits (sym (length-map h plain) ∙ len ∙ sym all) in in_below now.share (length ends) k h (now.shared.within k h c) c;
  only = λ h c. let (k, _, d) = below_from now.share (length ends) h c in let (course, fits, len, _) = now.led k h d in ((course, length-map h plain ∙ len ∙ all), (fits, one));
  placed = λ h c. let (k, _, d) = below_from now.share (length ends) h c in (k, d);
  number = number now.share now.shared;
}
