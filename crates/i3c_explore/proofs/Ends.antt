-- The orders of a block are shared out among its ends.
use Rattle.std.proofs.Common.{◌≡◌, ◌⊎◌, ◌∙◌, ◌<◌, ℕ, suc, List, [], ◌∷◌, Some, ap, arith, get_or, length, map, refl, subst, sym}
use Rattle.std.specs.Global.{Vec}
use Rattle.std.specs.List.{Contains, slice_get}
use Rattle.std.proofs.lemmas.List.{length-map}
use Rattle.i3c_explore.specs.declared.node.Node.{Node}
use Rattle.i3c_explore.specs.declared.turn.Turn.{Turn}
use Rattle.i3c_explore.specs.Counts.{IsShared, plain}
use Rattle.i3c_explore.specs.Shares.{AreShared, IsLed, IsMeant, IsSharedNext, longer}
use Rattle.i3c_explore.specs.Layers.{AreRestarted, IsNextAt}
use Rattle.i3c_explore.specs.Numbers.{IsNumber}
use Rattle.i3c_explore.specs.Orders.{IsPrefix, track, turns_of}
use Rattle.i3c_explore.specs.Parts.{Part, opening, part_at, whole}
use Rattle.i3c_explore.proofs.Opening.{InPart, in_part_before, none_in_part, opened, opened_in_part, opening_has, opens}
use Rattle.i3c_explore.proofs.Lists.{get_below, get_contains}
use Rattle.i3c_explore.proofs.Turns.{leads_prefix, prefix_before, room_for}
use Rattle.i3c_explore.proofs.Covering.{is_track}
use Rattle.i3c_explore.proofs.Blocks.{AreHeld, AreReached, AreSome, no_more, order_prefix, prefix_whole, whole_longest}
use Rattle.i3c_explore.proofs.Sharing.{contains_map, contains_map_from, distinct_map}
use Rattle.i3c_explore.proofs.Counting.{by_tracks_from, in_by_tracks}

length_plain : (xs : List ℕ) → length (plain xs) ≡ length xs
length_plain [] = refl
length_plain (t ∷ xs) = ap suc (length_plain xs)

-- the orders of a part with `count` turns are shared out among the nodes of a layer
pub record IsCounted {S L : Type 0} (steps : S → L → ℕ → S → Type 0) (part : Part) (tracks : List (Vec L)) (starts : List (Node S)) (past : ℕ → List (List (List ℕ))) (count : ℕ) (layer : List (Node S)) : Type 0 where
  pub share : ℕ → List (List ℕ × List (List ℕ))
  pub shared : IsShared layer share
  pub meant : IsMeant (IsLed steps tracks starts past) layer share
  pub fits : (k : ℕ) (o : List ℕ × List (List ℕ)) → Contains (share k) o → (length (plain o.0) ≡ count) × InPart part (plain o.0)
  pub covers : (i : ℕ) (before : List (List ℕ)) → Contains (past i) before → (xs : List ℕ) → length xs ≡ count → IsPrefix tracks (plain xs) → InPart part (plain xs) → (k : ℕ) × Contains (share k) (xs, before)

-- no line of the block has run
abbrev pub begun : List (List ℕ) → List ℕ × List (List ℕ)
begun past = ([], past)

led_first : {S L : Type 0} (steps : S → L → ℕ → S → Type 0) (tracks : List (Vec L)) (starts : List (Node S)) (past : ℕ → List (List (List ℕ))) (s n : Node S) (k : ℕ) (before : List (List ℕ))
    → slice_get starts k ≡ Some s → Contains (past k) before → n.state ≡ s.state → ((t : ℕ) → get_or n.places.items t 0 ≡ 0) → IsLed steps tracks starts past n (begun before)
led_first steps tracks starts past s n k before at c state places = record { from = k; start = s; at = at; before = c; placed = λ t. sym (places t); led = state }

covers_first : {L : Type 0} (tracks : List (Vec L)) (past : ℕ → List (List (List ℕ))) (xs : List ℕ) (i : ℕ) (before : List (List ℕ)) → Contains (past i) before → length xs ≡ 0
    → (k : ℕ) × Contains (map begun (past k)) (xs, before)
covers_first tracks past [] i before c len = (i, contains_map begun (past i) before c)
covers_first tracks past (t ∷ xs) i before c len = absurd (omega arith)

pub counted_first : {S L : Type 0} (steps : S → L → ℕ → S → Type 0) (part : Part) (tracks : List (Vec L)) (starts layer : List (Node S)) → AreRestarted (length tracks) starts layer → length layer ≡ length starts
    → (past : ℕ → List (List (List ℕ))) → IsShared starts past → IsCounted steps part tracks starts past 0 layer
counted_first {S} steps part tracks starts layer restarted same past was = record {
  share = λ k. map begun (past k);
  shared = record {
    number = λ k n found.
        let (s, at, (_, _, orders, _, _)) = restarted n k found in
        let count : length (past k) ≡ length (map begun (past k)) = sym (length-map (past k) begun) in
        subst (λ (j : ℕ). IsNumber n.orders j) count (subst (λ o. IsNumber o (length (past k))) (sym orders) (was.number k s at));
    distinct = λ k. distinct_map begun (past k) (λ x y e. ap (λ (o : List ℕ × List (List ℕ)). o.1) e) (was.distinct k);
    apart = λ i j o c d.
        let (p, a, is) = contains_map_from begun (past i) o c in
        let (q, b, is') = contains_map_from begun (past j) o d in
        let alike : q ≡ p = ap (λ (o : List ℕ × List (List ℕ)). o.1) (sym is' ∙ is) in
        was.apart i j p a (subst (λ (r : List (List ℕ)). Contains (past j) r) alike b);
    within = λ k o c. let (p, a, _) = contains_map_from begun (past k) o c in let lt = was.within k p a in omega arith;
  };
  meant = λ k o c.
      let (p, a, is) = contains_map_from begun (past k) o c in
      let lt = was.within k p a in
      let (n, found) = get_below layer k (omega arith) in
      let (s, at, (state, _, _, places, _)) = restarted n k found in
      (n, found, subst (λ (x : List ℕ × List (List ℕ)). IsLed steps tracks starts past n x) (sym is) (led_first steps tracks starts past s n k p at a state places));
  fits = λ k o c.
      let (p, a, is) = contains_map_from begun (past k) o c in
      let none : [] ≡ o.0 = ap (λ (x : List ℕ × List (List ℕ)). x.0) (sym is) in
      (ap (λ (xs : List ℕ). length (plain xs)) (sym none), subst (λ (xs : List ℕ). InPart part (plain xs)) none (none_in_part part));
  covers = λ i before c xs len prefix fits. covers_first tracks past xs i before c len;
}

covers_next : {S L : Type 0} (steps : S → L → ℕ → S → Type 0) (part : Part) (tracks : List (Vec L)) (starts : List (Node S)) (past : ℕ → List (List (List ℕ))) (count : ℕ) (layer next : List (Node S)) (was : IsCounted steps part tracks starts past count layer)
    → (then_ : IsSharedNext (IsLed steps tracks starts past) (opening (part_at part count) tracks) (length tracks) layer next was.share)
    → (xs : List ℕ) (i : ℕ) (before : List (List ℕ)) → Contains (past i) before → length xs ≡ suc count → IsPrefix tracks (plain xs) → InPart part (plain xs) → (k : ℕ) × Contains (then_.now k) (xs, before)
covers_next steps part tracks starts past count layer next was then_ [] i before c len prefix fits = absurd (omega arith)
covers_next {S} {L} steps part tracks starts past count layer next was then_ (t ∷ xs) i before c len prefix fits =
    let turn : Turn = record { track = t; way = 0 } in
    let shorter : length xs ≡ count = omega arith in
    let (k, d) = was.covers i before c xs shorter (prefix_before tracks turn (plain xs) prefix) (in_part_before part turn (plain xs) fits) in
    let (n, found, led) = was.meant k (xs, before) d in
    let room = room_for tracks turn (plain xs) prefix in
    let within = is_track tracks t (turns_of t (plain xs)) room in
    let (line, is) = get_below (track tracks t) (turns_of t (plain xs)) room in
    let here : IsNextAt (track tracks) n.places.items t line = subst (λ (j : ℕ). slice_get (track tracks t) j ≡ Some line) (led.placed t) is in
    let same = opening_has (part_at part count) tracks t (opens part turn (plain xs) count (length_plain xs ∙ shorter) fits) in
    let next_ : IsNextAt (opening (part_at part count) tracks) n.places.items t line = subst (λ (l : List L). slice_get l (get_or n.places.items t 0) ≡ Some line) (sym same) here in
    then_.each k n (longer t (xs, before)) found (in_by_tracks (opening (part_at part count) tracks) n.places.items (length tracks) (was.share k) t line (xs, before) within next_ d)

fits_next : {S L : Type 0} (steps : S → L → ℕ → S → Type 0) (part : Part) (tracks : List (Vec L)) (starts : List (Node S)) (past : ℕ → List (List (List ℕ))) (count : ℕ) (layer next : List (Node S)) (was : IsCounted steps part tracks starts past count layer)
    → (then_ : IsSharedNext (IsLed steps tracks starts past) (opening (part_at part count) tracks) (length tracks) layer next was.share)
    → (j : ℕ) (o : List ℕ × List (List ℕ)) → Contains (then_.now j) o → (length (plain o.0) ≡ suc count) × InPart part (plain o.0)
fits_next {S} {L} steps part tracks starts past count layer next was then_ j o c =
    let lines = opening (part_at part count) tracks in
    let (k, (n, found, d)) = then_.from j o c in
    let (t, _, (line, next_), (before, e, is)) = by_tracks_from lines n.places.items (length tracks) (was.share k) o d in
    let (len, fits) = was.fits k before e in
    let turn : Turn = record { track = t; way = 0 } in
    let is_begun = (opened (part_at part count) tracks n.places.items t line next_).0 in
    let more : InPart part (turn ∷ plain before.0) = opened_in_part part turn (plain before.0) count len fits is_begun in
    let same : t ∷ before.0 ≡ o.0 = ap (λ (x : List ℕ × List (List ℕ)). x.0) (sym is) in
    (ap (λ (xs : List ℕ). length (plain xs)) (sym same) ∙ ap suc len, subst (λ (xs : List ℕ). InPart part (plain xs)) same more)

pub counted_next : {S L : Type 0} (steps : S → L → ℕ → S → Type 0) (part : Part) (tracks : List (Vec L)) (starts : List (Node S)) (past : ℕ → List (List (List ℕ))) (count : ℕ) (layer next : List (Node S)) (was : IsCounted steps part tracks starts past count layer)
    → IsSharedNext (IsLed steps tracks starts past) (opening (part_at part count) tracks) (length tracks) layer next was.share → IsCounted steps part tracks starts past (suc count) next
counted_next steps part tracks starts past count layer next was then_ = record {
  share = then_.now;
  shared = then_.shared;
  meant = then_.meant;
  fits = fits_next steps part tracks starts past count layer next was then_;
  covers = λ i before c xs len prefix fits. covers_next steps part tracks starts past count layer next was then_ xs i before c len prefix fits;
}

pub ends_shared : {S L : Type 0} (steps : S → L → ℕ → S → Type 0) (part : Part) (tracks : List (Vec L)) (starts layer next : List (Node S)) (past : ℕ → List (List (List ℕ))) (count : ℕ)
    → AreReached steps part tracks starts count layer → AreHeld steps part tracks starts (suc count) next → length next ≡ 0 → (0 < count) ⊎ (part ≡ whole) → AreSome part tracks starts layer
    → IsShared starts past → IsCounted steps part tracks starts past count layer → AreShared steps part tracks starts layer past
ends_shared {S} steps part tracks starts layer next past count reached held empty ended some was now = record {
  share = now.share;
  shared = now.shared;
  led = λ k o c.
      let (n, found, led) = now.meant k o c in
      let (len, fits) = now.fits k o c in
      let done = prefix_whole tracks part (plain o.0) count (leads_prefix steps tracks led.start.state (plain o.0) n.state led.led) fits len ended
      (no_more steps part tracks starts next count led.start (get_contains starts led.from led.start led.at) held empty) in
      (done, fits, (n, found, (led.from, led.start, led.at, led.before, led.led)));
  each = λ i before c xs whole fits.
      let within = was.within i before c in
      let (s, found) = get_below starts i within in
      let at_start = get_contains starts i s found in
      let prefix = order_prefix tracks (plain xs) whole in
      let most = no_more steps part tracks starts next count s at_start held empty (plain xs) prefix fits in
      let (m, at) = get_below layer 0 (some s at_start (plain xs) whole fits) in
      let (o, _, (r, len, _)) = reached m (get_contains layer 0 m at) in
      let least = whole_longest tracks (plain xs) r.turns whole (leads_prefix steps tracks o.state r.turns m.state r.led) in
      let long = length_plain xs in
      now.covers i before c xs (omega arith) prefix fits;
}
