-- The orders that turns lead on.
use Rattle.std.proofs.Common.{◌≡◌, ◌≢◌, ◌∙◌, ◌<◌, ◌+◌, ◌==◌, ℕ, Bool, suc, zero, List, [], ◌∷◌, Some, None, Option, ap, arith, eq-eqb, ne_eqb, get_or, if◌then◌else◌, inl, inr, length, map, refl, subst, sym}
use Rattle.std.specs.Global.{Vec}
use Rattle.std.specs.List.{Contains, slice_get}
use Rattle.std.proofs.lemmas.Bool.Decides.{eqb_tells}
use Rattle.std.proofs.lemmas.List.{append-nil, length-map}
use Rattle.std.proofs.lemmas.List.Elements.{Contains-append_cases, Contains-append_left, Contains-append_right}
use Rattle.i3c_explore.specs.declared.node.Node.{Node}
use Rattle.i3c_explore.specs.declared.turn.Turn.{Turn}
use Rattle.i3c_explore.specs.Counts.{plain}
use Rattle.i3c_explore.specs.Shares.{Gains, IsAdded, IsLed, IsOwn, by_line, by_track, by_tracks, by_turn, by_ways, longer}
use Rattle.i3c_explore.specs.Layers.{IsNextAt, IsPut, advanced}
use Rattle.i3c_explore.specs.Numbers.{IsNumber}
use Rattle.i3c_explore.specs.Orders.{IsNext, Leads, track}
use Rattle.i3c_explore.proofs.Turns.{placed_more}
use Rattle.i3c_explore.proofs.Sharing.{added_both, added_none, contains_map, contains_map_from, distinct_map, put_added}

pub longer_once : (t : ℕ) (a b : List ℕ × List (List ℕ)) → longer t a ≡ longer t b → a ≡ b
longer_once t (xs, p) (ys, q) is =
    let one : xs ≡ ys = (let e : t ∷ xs ≡ t ∷ ys = ap (λ (o : List ℕ × List (List ℕ)). o.0) is in cc) in
    let other : p ≡ q = ap (λ (o : List ℕ × List (List ℕ)). o.1) is in
    ap (λ (zs : List ℕ). let pair : List ℕ × List (List ℕ) = (zs, p) in pair) one ∙ ap (λ (r : List (List ℕ)). let pair : List ℕ × List (List ℕ) = (ys, r) in pair) other

pub longer_track : (t u : ℕ) (a b : List ℕ × List (List ℕ)) → longer t a ≡ longer u b → t ≡ u
longer_track t u a b is = let e : t ∷ a.0 ≡ u ∷ b.0 = ap (λ (o : List ℕ × List (List ℕ)). o.0) is in cc

-- what is led to a node is led to one that is alike
pub led_alike : {S L : Type 0} (steps : S → L → ℕ → S → Type 0) (tracks : List (Vec L)) (starts : List (Node S)) (past : ℕ → List (List (List ℕ))) (n m : Node S) (order : List ℕ × List (List ℕ))
    → n.state ≡ m.state → n.places.items ≡ m.places.items → IsLed steps tracks starts past m order → IsLed steps tracks starts past n order
led_alike {S} steps tracks starts past n m order state places led = record {
  from = led.from;
  start = led.start;
  at = led.at;
  before = led.before;
  placed = λ t. led.placed t ∙ ap (λ (l : List ℕ). get_or l t 0) (sym places);
  led = subst (λ (s : S). Leads steps tracks led.start.state (plain order.0) s) (sym state) led.led;
}

-- and one more turn leads on
led_longer : {S L : Type 0} (steps : S → L → ℕ → S → Type 0) (tracks : List (Vec L)) (starts : List (Node S)) (past : ℕ → List (List (List ℕ))) (node new : Node S) (t : ℕ) (line : L) (order : List ℕ × List (List ℕ))
    → t < length node.places.items → IsNextAt (track tracks) node.places.items t line → steps node.state line 0 new.state → new.places.items ≡ advanced t node.places.items
    → IsLed steps tracks starts past node order → IsLed steps tracks starts past new (longer t order)
led_longer {S} {L} steps tracks starts past node new t line order inside next step places led =
    let turn : Turn = record { track = t; way = 0 } in
    let here : IsNext tracks (plain order.0) t line = subst (λ (k : ℕ). slice_get (track tracks t) k ≡ Some line) (sym (led.placed t)) next in record {
      from = led.from;
      start = led.start;
      at = led.at;
      before = led.before;
      placed = λ s. placed_more turn node.places.items (plain order.0) inside led.placed s ∙ ap (λ (l : List ℕ). get_or l s 0) (sym places);
      led = (node.state, line, led.led, here, step);
    }

by_turn_plain : (turn : Turn) (own : List (List ℕ × List (List ℕ))) → turn.way ≡ 0 → by_turn turn own ≡ map (longer turn.track) own
by_turn_plain turn own is = ap (λ (b : Bool). if b then map (longer turn.track) own else []) (eq-eqb turn.way 0 is)

by_turn_other : (turn : Turn) (own : List (List ℕ × List (List ℕ))) → turn.way ≢ 0 → by_turn turn own ≡ []
by_turn_other turn own other = ap (λ (b : Bool). if b then map (longer turn.track) own else []) (ne_eqb turn.way 0 other)

-- a node that one more turn leads to brings the orders of that turn
pub turn_added : {S L : Type 0} (steps : S → L → ℕ → S → Type 0) (tracks : List (Vec L)) (old new : List (Node S)) (node made : Node S) (turn : Turn) (line : L)
    → turn.track < length node.places.items → IsNextAt (track tracks) node.places.items turn.track line → steps node.state line turn.way made.state → made.places.items ≡ advanced turn.track node.places.items
    → made.orders ≡ (if turn.way == 0 then node.orders else Some 0) → IsPut old made new
    → (starts : List (Node S)) (past : ℕ → List (List (List ℕ))) (own : List (List ℕ × List (List ℕ))) → IsOwn (IsLed steps tracks starts past) node own
    → IsAdded (IsLed steps tracks starts past) old new (by_turn turn own)
turn_added {S} {L} steps tracks old new node made turn line inside next step places orders put starts past own (told, all, fits) =
    let Fits : Node S → List ℕ × List (List ℕ) → Type 0 = IsLed steps tracks starts past in
    let alike = led_alike steps tracks starts past in
    elim (eqb_tells turn.way 0) [
      | inl (_, same) ↦ (
          let own' = map (longer turn.track) own in
          let orders' : node.orders ≡ made.orders = sym (orders ∙ ap (λ (b : Bool). if b then node.orders else Some 0) (eq-eqb turn.way 0 same)) in
          let count : length own ≡ length own' = sym (length-map own (longer turn.track)) in
          let number : IsNumber made.orders (length own') = subst (λ (k : ℕ). IsNumber made.orders k) count (subst (λ (o : Option ℕ). IsNumber o (length own)) orders' told) in
          let plainly : steps node.state line 0 made.state = subst (λ (w : ℕ). steps node.state line w made.state) same step in
          let led : (o : List ℕ × List (List ℕ)) → Contains own' o → IsLed steps tracks starts past made o = λ o c.
          let (before, d, is) = contains_map_from (longer turn.track) own o c in
          subst (λ (x : List ℕ × List (List ℕ)). IsLed steps tracks starts past made x) (sym is) (led_longer steps tracks starts past node made turn.track line before inside next plainly places (fits before d)) in
          subst (λ (more : List (List ℕ × List (List ℕ))). IsAdded Fits old new more) (sym (by_turn_plain turn own same))
          (put_added Fits alike old new made own' put (number, distinct_map (longer turn.track) own (longer_once turn.track) all, led))
          )
      | inr (_, other) ↦ (
          let none : Some 0 ≡ made.orders = sym (orders ∙ ap (λ (b : Bool). if b then node.orders else Some 0) (ne_eqb turn.way 0 other)) in
          let number : IsNumber made.orders 0 = subst (λ (o : Option ℕ). IsNumber o 0) none refl in
          subst (λ (more : List (List ℕ × List (List ℕ))). IsAdded Fits old new more) (sym (by_turn_other turn own other))
          (put_added Fits alike old new made [] put (number, tt, λ o (k, lt, is). absurd (omega arith)))
          )
    ]

-- one more way
pub ways_added : {S : Type 0} (Fits : Node S → List ℕ × List (List ℕ) → Type 0) (old mid new : List (Node S)) (t way : ℕ) (own : List (List ℕ × List (List ℕ)))
    → IsAdded Fits old mid (by_ways way t own) → IsAdded Fits mid new (by_turn (record { track = t; way = way }) own) → IsAdded Fits old new (by_ways (suc way) t own)
ways_added {S} Fits old mid new t zero own first second =
    let turn : Turn = record { track = t; way = 0 } in
    added_both Fits old mid new [] (map (longer t) own) first
    (subst (λ (more : List (List ℕ × List (List ℕ))). IsAdded Fits mid new more) (by_turn_plain turn own refl) second) (λ o (k, lt, is) d. omega arith)
ways_added {S} Fits old mid new t (suc way) own first second =
    let turn : Turn = record { track = t; way = suc way } in
    let none : by_turn turn own ≡ [] = by_turn_other turn own (λ e. omega arith) in
    let both = added_both Fits old mid new (map (longer t) own) [] first (subst (λ (more : List (List ℕ × List (List ℕ))). IsAdded Fits mid new more) none second) (λ o d (k, lt, is). omega arith) in
    subst (λ (more : List (List ℕ × List (List ℕ))). IsAdded Fits old new more) (append-nil (map (longer t) own)) both

-- what a track's line leads on
by_line_from : {L : Type 0} (next : Option L) (t : ℕ) (own : List (List ℕ × List (List ℕ))) (o : List ℕ × List (List ℕ)) → Contains (by_line next t own) o
    → (line : L) × (next ≡ Some line) × ((before : List ℕ × List (List ℕ)) × Contains own before × (o ≡ longer t before))
by_line_from None t own o (k, lt, is) = absurd (omega arith)
by_line_from (Some line) t own o c = (line, refl, contains_map_from (longer t) own o c)

pub by_tracks_from : {L : Type 0} (lines : ℕ → List L) (places : List ℕ) (count : ℕ) (own : List (List ℕ × List (List ℕ))) (o : List ℕ × List (List ℕ)) → Contains (by_tracks lines places count own) o
    → (t : ℕ) × (t < count) × ((line : L) × IsNextAt lines places t line) × ((before : List ℕ × List (List ℕ)) × Contains own before × (o ≡ longer t before))
by_tracks_from lines places zero own o (k, lt, is) = absurd (omega arith)
by_tracks_from lines places (suc t) own o c = elim (Contains-append_cases (by_tracks lines places t own) (by_track lines places t own) o c) [
  | inl old ↦ (let (u, lt, next, before) = by_tracks_from lines places t own o old in (u, omega arith, next, before))
  | inr new ↦ (let (line, next, before) = by_line_from (slice_get (lines t) (get_or places t 0)) t own o new in (t, omega arith, (line, next), before))
]

pub in_by_tracks : {L : Type 0} (lines : ℕ → List L) (places : List ℕ) (count : ℕ) (own : List (List ℕ × List (List ℕ))) (t : ℕ) (line : L) (before : List ℕ × List (List ℕ))
    → t < count → IsNextAt lines places t line → Contains own before → Contains (by_tracks lines places count own) (longer t before)
in_by_tracks lines places zero own t line before lt next c = absurd (omega arith)
in_by_tracks {L} lines places (suc count) own t line before lt next c = elim (eqb_tells t count) [
  | inl (_, same) ↦ Contains-append_right (by_tracks lines places count own) (by_line (slice_get (lines count) (get_or places count 0)) count own) (longer t before)
      (subst (λ (u : ℕ). Contains (by_line (slice_get (lines u) (get_or places u 0)) u own) (longer t before)) same
      (subst (λ (next_ : Option L). Contains (by_line next_ t own) (longer t before)) (sym next) (contains_map (longer t) own before c)))
  | inr (_, other) ↦ Contains-append_left (by_tracks lines places count own) (by_line (slice_get (lines count) (get_or places count 0)) count own) (longer t before)
      (in_by_tracks lines places count own t line before (omega arith) next c)
]

-- one more track
pub track_added : {S L : Type 0} (lines : ℕ → List L) (Fits : Node S → List ℕ × List (List ℕ) → Type 0) (old mid new : List (Node S)) (places : List ℕ) (t : ℕ) (own : List (List ℕ × List (List ℕ)))
    → IsAdded Fits old mid (by_tracks lines places t own) → IsAdded Fits mid new (by_track lines places t own) → IsAdded Fits old new (by_tracks lines places (suc t) own)
track_added lines Fits old mid new places t own first second =
    added_both Fits old mid new (by_tracks lines places t own) (by_track lines places t own) first second
    (λ o c d.
    let (u, lt, _, (a, _, one)) = by_tracks_from lines places t own o c in
    let (_, _, (b, _, other)) = by_line_from (slice_get (lines t) (get_or places t 0)) t own o d in
    let same = longer_track u t a b (sym one ∙ other) in omega arith)

-- a node's gains, one way or track on
pub gains_way : {S L : Type 0} (steps : S → L → ℕ → S → Type 0) (tracks : List (Vec L)) (node : Node S) (old mid new : List (Node S)) (t way : ℕ)
    → Gains steps tracks node old mid (by_ways way t) → Gains steps tracks node mid new (by_turn (record { track = t; way = way })) → Gains steps tracks node old new (by_ways (way + 1) t)
gains_way {S} steps tracks node old mid new t way first second starts past own mine =
    let Fits : Node S → List ℕ × List (List ℕ) → Type 0 = IsLed steps tracks starts past in
    let both = ways_added Fits old mid new t way own (first starts past own mine) (second starts past own mine) in
    let same : suc way ≡ way + 1 = omega arith in
    subst (λ (k : ℕ). IsAdded Fits old new (by_ways k t own)) same both

pub gains_line : {S L : Type 0} (steps : S → L → ℕ → S → Type 0) (tracks : List (Vec L)) (lines : ℕ → List L) (node : Node S) (old new : List (Node S)) (t ways : ℕ) (line : L)
    → IsNextAt lines node.places.items t line → 0 < ways → Gains steps tracks node old new (by_ways ways t) → Gains steps tracks node old new (by_track lines node.places.items t)
gains_line steps tracks lines node old new t zero line next some gains starts past own mine = absurd (omega arith)
gains_line {S} {L} steps tracks lines node old new t (suc ways) line next some gains starts past own mine =
    let Fits : Node S → List ℕ × List (List ℕ) → Type 0 = IsLed steps tracks starts past in
    subst (λ (o : Option L). IsAdded Fits old new (by_line o t own)) (sym next) (gains starts past own mine)

pub gains_no_line : {S L : Type 0} (steps : S → L → ℕ → S → Type 0) (tracks : List (Vec L)) (lines : ℕ → List L) (node : Node S) (layer : List (Node S)) (t : ℕ)
    → slice_get (lines t) (get_or node.places.items t 0) ≡ None → Gains steps tracks node layer layer (by_track lines node.places.items t)
gains_no_line {S} {L} steps tracks lines node layer t none starts past own mine =
    let Fits : Node S → List ℕ × List (List ℕ) → Type 0 = IsLed steps tracks starts past in
    subst (λ (o : Option L). IsAdded Fits layer layer (by_line o t own)) (sym none) (added_none Fits layer)

pub gains_track : {S L : Type 0} (steps : S → L → ℕ → S → Type 0) (tracks : List (Vec L)) (lines : ℕ → List L) (node : Node S) (old mid new : List (Node S)) (t : ℕ)
    → Gains steps tracks node old mid (by_tracks lines node.places.items t) → Gains steps tracks node mid new (by_track lines node.places.items t)
    → Gains steps tracks node old new (by_tracks lines node.places.items (t + 1))
gains_track {S} steps tracks lines node old mid new t first second starts past own mine =
    let Fits : Node S → List ℕ × List (List ℕ) → Type 0 = IsLed steps tracks starts past in
    let both = track_added lines Fits old mid new node.places.items t own (first starts past own mine) (second starts past own mine) in
    let same : suc t ≡ t + 1 = omega arith in
    subst (λ (k : ℕ). IsAdded Fits old new (by_tracks lines node.places.items k own)) same both
