-- A block, from its starts to its ends.
use Rattle.std.proofs.Common.{◌≡◌, ◌⊎◌, ◌∙◌, ◌<◌, ◌≤◌, ℕ, suc, List, [], ◌∷◌, ◌++◌, append-nil, Some, ap, arith, inl, inr, length, refl, reverse, subst, sym}
use Rattle.std.specs.Global.{Vec}
use Rattle.std.specs.List.{Contains, slice_get}
use Rattle.std.proofs.lemmas.Bool.Decides.{eqb_tells, leb_tells}
use Rattle.std.proofs.lemmas.Option.{slice_get_within}
use Rattle.i3c_explore.specs.declared.node.Node.{Node}
use Rattle.i3c_explore.specs.declared.turn.Turn.{Turn}
use Rattle.i3c_explore.specs.Layers.{AreRestarted, Holds, IsBreak, IsExpanded, IsFirstBreak, IsReached, IsRestarted, IsSuccessor}
use Rattle.i3c_explore.specs.Orders.{IsNext, IsOrder, IsPrefix, Leads, track, turns_of}
use Rattle.i3c_explore.specs.Parts.{HasLine, Part, opening, part_at, whole}
use Rattle.i3c_explore.proofs.Opening.{InPart, first_turn, grows_in_part, in_part_before, none_in_part, opened, opened_in_part, opening_has, opens, plain_successor}
use Rattle.i3c_explore.proofs.Lists.{contains_get, get_contains}
use Rattle.i3c_explore.proofs.Turns.{leads_prefix, no_longer, prefix_before, turns_here, turns_other}
use Rattle.i3c_explore.proofs.Covering.{held_more, none_longer, order_more, reached_more}

-- the nodes of a layer are reached from the starts, by orders of a part with `count` turns
abbrev pub AreReached : {S L : Type 0} → (S → L → ℕ → S → Type 0) → Part → List (Vec L) → List (Node S) → ℕ → List (Node S) → Type 0
AreReached {S} steps part tracks starts count layer = (n : Node S) → Contains layer n → (s : Node S) × Contains starts s × ((r : IsReached steps tracks s n) × (length r.turns ≡ count) × InPart part r.turns)

-- each order of a part with `count` turns leads from each start to a node of the layer
abbrev pub AreHeld : {S L : Type 0} → (S → L → ℕ → S → Type 0) → Part → List (Vec L) → List (Node S) → ℕ → List (Node S) → Type 0
AreHeld {S} steps part tracks starts count layer = (s : Node S) → Contains starts s → (order : List Turn) → length order ≡ count → IsPrefix tracks order → InPart part order → Holds steps tracks s.state layer order

-- each order of a part with at most `count` turns leads on
abbrev pub LeadOn : {S L : Type 0} → (S → L → ℕ → S → Type 0) → Part → List (Vec L) → List (Node S) → ℕ → Type 0
LeadOn {S} steps part tracks starts count = (s : Node S) → Contains starts s → (order : List Turn) → length order ≤ count → IsPrefix tracks order → InPart part order → (end : S) × Leads steps tracks s.state order end

-- where a part has an order there is a node
abbrev pub AreSome : {S L : Type 0} → Part → List (Vec L) → List (Node S) → List (Node S) → Type 0
AreSome {S} part tracks starts layer = (s : Node S) → Contains starts s → (order : List Turn) → IsOrder tracks order → InPart part order → 0 < length layer

pub lead_on_first : {S L : Type 0} (steps : S → L → ℕ → S → Type 0) (part : Part) (tracks : List (Vec L)) (starts : List (Node S)) → LeadOn steps part tracks starts 0
lead_on_first steps part tracks starts s c [] le prefix fits = (s.state, refl)
lead_on_first steps part tracks starts s c (turn ∷ before) le prefix fits = absurd (omega arith)

held_first_at : {S L : Type 0} (steps : S → L → ℕ → S → Type 0) (tracks : List (Vec L)) (s n : Node S) (layer : List (Node S))
    → Contains layer n → IsRestarted (length tracks) s n → (order : List Turn) → length order ≡ 0 → Holds steps tracks s.state layer order
held_first_at steps tracks s n layer c (state, order, orders, places, sized) [] len = (n, c, (λ t. sym (places t)), state)
held_first_at steps tracks s n layer c restarted (turn ∷ before) len = absurd (omega arith)

pub held_first : {S L : Type 0} (steps : S → L → ℕ → S → Type 0) (part : Part) (tracks : List (Vec L)) (starts layer : List (Node S))
    → ((k : ℕ) → k < length starts → (n : Node S) × (slice_get layer k ≡ Some n)) → AreRestarted (length tracks) starts layer → AreHeld steps part tracks starts 0 layer
held_first {S} steps part tracks starts layer there restarted s c order len prefix fits =
    let (k, found) = contains_get starts s c in
    let (n, at) = there k (slice_get_within starts k s found) in
    let (o, was, again) = restarted n k at in
    let same : o ≡ s = cc in
    held_first_at steps tracks s n layer (get_contains layer k n at) (subst (λ (m : Node S). IsRestarted (length tracks) m n) same again) order len

pub reached_first : {S L : Type 0} (steps : S → L → ℕ → S → Type 0) (part : Part) (tracks : List (Vec L)) (starts layer : List (Node S)) → AreRestarted (length tracks) starts layer → AreReached steps part tracks starts 0 layer
reached_first steps part tracks starts layer restarted n c =
    let (k, found) = contains_get layer n c in
    let (s, was, (state, order, orders, places, sized)) = restarted n k found in
    (s, get_contains starts k s was, (record { turns = []; sized = sized; placed = λ t. sym (places t); order = order ∙ sym (append-nil s.order.items); led = state }, refl, none_in_part part))

pub some_first : {S L : Type 0} (part : Part) (tracks : List (Vec L)) (starts layer : List (Node S)) → length layer ≡ length starts → AreSome part tracks starts layer
some_first part tracks starts layer same s (k, lt, is) order whole fits = omega arith

-- the next layer holds each order of the part that is one turn longer
pub held_next : {S L : Type 0} (steps : S → L → ℕ → S → Type 0) (part : Part) (tracks : List (Vec L)) (starts layer next : List (Node S)) (count : ℕ)
    → AreReached steps part tracks starts count layer → ((n : Node S) → Contains layer n → IsExpanded steps (opening (part_at part count) tracks) (length tracks) n next)
    → AreHeld steps part tracks starts count layer → AreHeld steps part tracks starts (suc count) next
held_next steps part tracks starts layer next count reached expanded held s c [] len prefix fits = absurd (omega arith)
held_next steps part tracks starts layer next count reached expanded held s c (turn ∷ before) len prefix fits =
    let shorter : length before ≡ count = omega arith in
    let same = opening_has (part_at part count) tracks turn.track (opens part turn before count shorter fits) in
    held_more steps tracks s.state (opening (part_at part count) tracks) layer next turn before (λ n at. (reached n at).2.0.sized) expanded same prefix
    (held s c before shorter (prefix_before tracks turn before prefix) (in_part_before part turn before fits))

pub reached_next : {S L : Type 0} (steps : S → L → ℕ → S → Type 0) (part : Part) (tracks : List (Vec L)) (starts layer next : List (Node S)) (count : ℕ)
    → AreReached steps part tracks starts count layer → ((n : Node S) → Contains next n → (old : Node S) × Contains layer old × IsSuccessor steps (opening (part_at part count) tracks) old n)
    → AreReached steps part tracks starts (suc count) next
reached_next steps part tracks starts layer next count reached from n c =
    let (old, at, made) = from n c in
    let (s, in_starts, (r, len, fits)) = reached old at in
    let is_begun = (opened (part_at part count) tracks old.places.items made.turn.track made.line made.next).0 in
    let (more, longer) = reached_more steps tracks s old n r (plain_successor steps (part_at part count) tracks old n made) in
    (s, in_starts, (more, ap length longer ∙ ap suc len, subst (λ (o : List Turn). InPart part o) (sym longer) (opened_in_part part made.turn r.turns count len fits is_begun)))

pub lead_on_next : {S L : Type 0} (steps : S → L → ℕ → S → Type 0) (part : Part) (tracks : List (Vec L)) (starts next : List (Node S)) (count : ℕ)
    → LeadOn steps part tracks starts count → AreHeld steps part tracks starts (suc count) next → LeadOn steps part tracks starts (suc count)
lead_on_next steps part tracks starts next count shorter held s c order le prefix fits = elim (eqb_tells (length order) (suc count)) [
  | inl (_, same) ↦ (let (n, _, _, led) = held s c order same prefix fits in (n.state, led))
  | inr (_, other) ↦ shorter s c order (omega arith) prefix fits
]

-- an empty layer holds no order
none_held : {S L : Type 0} (steps : S → L → ℕ → S → Type 0) (tracks : List (Vec L)) (start : S) (layer : List (Node S)) (order : List Turn) → length layer ≡ 0 → Holds steps tracks start layer order → ⊥
none_held steps tracks start layer order empty (n, (k, lt, is), _, _) = omega arith

-- where the next layer is empty, no order of the part has more turns
pub no_more : {S L : Type 0} (steps : S → L → ℕ → S → Type 0) (part : Part) (tracks : List (Vec L)) (starts next : List (Node S)) (count : ℕ) (s : Node S) → Contains starts s
    → AreHeld steps part tracks starts (suc count) next → length next ≡ 0 → (order : List Turn) → IsPrefix tracks order → InPart part order → length order ≤ count
no_more steps part tracks starts next count s c held empty = none_longer tracks part count (λ o len prefix fits. none_held steps tracks s.state next o empty (held s c o len prefix fits))

pub order_prefix : {L : Type 0} (tracks : List (Vec L)) (order : List Turn) → IsOrder tracks order → IsPrefix tracks order
order_prefix tracks order whole t = let e = whole t in omega arith

-- an order of the part that can have no more turns is whole
pub prefix_whole : {L : Type 0} (tracks : List (Vec L)) (part : Part) (order : List Turn) (count : ℕ) → IsPrefix tracks order → InPart part order → length order ≡ count → (0 < count) ⊎ (part ≡ whole)
    → ((other : List Turn) → IsPrefix tracks other → InPart part other → length other ≤ count) → IsOrder tracks order
prefix_whole tracks part order count prefix fits len ended most t = elim (leb_tells (length (track tracks t)) (turns_of t order)) [
  | inl (_, full) ↦ (let e = prefix t in omega arith)
  | inr (_, room) ↦ (
      let turn : Turn = record { track = t; way = 0 } in
      let longer : IsPrefix tracks (turn ∷ order) = λ u. elim (eqb_tells t u) [
        | inl (_, same) ↦ subst (λ (k : ℕ). turns_of k (turn ∷ order) ≤ length (track tracks k)) same (let e = turns_here turn order in omega arith)
        | inr (_, other) ↦ (let e = turns_other turn u order other in let f = prefix u in omega arith)
      ] in
      let e = most (turn ∷ order) longer (grows_in_part part turn order count len ended fits) in absurd (omega arith)
      )
]

-- a whole order is at least as long as each prefix
pub whole_longest : {L : Type 0} (tracks : List (Vec L)) (order other : List Turn) → IsOrder tracks order → IsPrefix tracks other → length other ≤ length order
whole_longest tracks order other whole prefix = no_longer order other (λ t. let a = prefix t in let b = whole t in omega arith)

-- a part's orders have a node behind the first line, in a block that has one
some_behind_first : {S L : Type 0} (steps : S → L → ℕ → S → Type 0) (part : Part) (tracks : List (Vec L)) (starts next : List (Node S)) → AreHeld steps part tracks starts 1 next → HasLine tracks → AreSome part tracks starts next
some_behind_first steps part tracks starts next held (t, lt) s c [] whole fits = absurd (let e = whole t in omega arith)
some_behind_first steps part tracks starts next held has s c (turn ∷ before) whole fits =
    let (first, prefix, begun) = first_turn tracks part turn before (order_prefix tracks (turn ∷ before) whole) fits in
    let (n, (k, lt, is), _, _) = held s c (first ∷ []) refl prefix begun in omega arith

-- and so has each layer before the last one
pub some_next : {S L : Type 0} (steps : S → L → ℕ → S → Type 0) (part : Part) (tracks : List (Vec L)) (starts next : List (Node S)) (count : ℕ) → AreHeld steps part tracks starts (suc count) next
    → (part ≡ whole) ⊎ HasLine tracks → ((length next ≡ 0) × ((0 < count) ⊎ (part ≡ whole)) → ⊥) → AreSome part tracks starts next
some_next {S} steps part tracks starts next count held has goes_on = elim (eqb_tells (length next) 0) [
  | inr (_, some) ↦ (λ s c order whole fits. omega arith)
  | inl (_, empty) ↦ elim has [
    | inl all ↦ absurd (goes_on (empty, inr all))
    | inr line ↦ elim (leb_tells 1 count) [
      | inl (_, later) ↦ absurd (goes_on (empty, inl later))
      | inr (_, first) ↦ (let zero_ : count ≡ 0 = omega arith in some_behind_first steps part tracks starts next (subst (λ (k : ℕ). AreHeld steps part tracks starts (suc k) next) zero_ held) line)
    ]
  ]
]

-- the ends: each whole order of the part leads to one of them
pub ends_held : {S L : Type 0} (steps : S → L → ℕ → S → Type 0) (part : Part) (tracks : List (Vec L)) (starts layer next : List (Node S)) (count : ℕ)
    → AreReached steps part tracks starts count layer → AreHeld steps part tracks starts count layer → AreHeld steps part tracks starts (suc count) next → length next ≡ 0 → AreSome part tracks starts layer
    → (s : Node S) → Contains starts s → (order : List Turn) → IsOrder tracks order → InPart part order → (n : Node S) × Contains layer n × Leads steps tracks s.state order n.state
ends_held steps part tracks starts [] next count reached held more empty some s c order whole fits = absurd (let e = some s c order whole fits in omega arith)
ends_held {S} steps part tracks starts (m ∷ layer) next count reached held more empty some s c order whole fits =
    let prefix = order_prefix tracks order whole in
    let most = no_more steps part tracks starts next count s c more empty order prefix fits in
    let (o, _, (r, len, _)) = reached m (0, omega arith, refl) in
    let least = whole_longest tracks order r.turns whole (leads_prefix steps tracks o.state r.turns m.state r.led) in
    let (n, at, _, led) = held s c order (omega arith) prefix fits in
    (n, at, led)

-- and each of them is reached by a whole order of the part
pub ends_reached : {S L : Type 0} (steps : S → L → ℕ → S → Type 0) (part : Part) (tracks : List (Vec L)) (starts layer next : List (Node S)) (count : ℕ)
    → AreReached steps part tracks starts count layer → AreHeld steps part tracks starts (suc count) next → length next ≡ 0 → (0 < count) ⊎ (part ≡ whole)
    → (n : Node S) → Contains layer n → (s : Node S) × Contains starts s × ((turns : List Turn) × IsOrder tracks turns × InPart part turns × (n.order.items ≡ s.order.items ++ reverse turns) × Leads steps tracks s.state turns n.state)
ends_reached steps part tracks starts layer next count reached more empty ended n c =
    let (s, at, (r, len, fits)) = reached n c in
    let done = prefix_whole tracks part r.turns count (leads_prefix steps tracks s.state r.turns n.state r.led) fits len ended (no_more steps part tracks starts next count s at more empty) in
    (s, at, (r.turns, done, fits, r.order, r.led))

-- a break is a first one
pub first_break : {S L : Type 0} (steps : S → L → ℕ → S → Type 0) (breaks : S → L → ℕ → Type 0) (part : Part) (tracks : List (Vec L)) (starts layer : List (Node S)) (count : ℕ) (old : Node S) (order : List Turn)
    → AreReached steps part tracks starts count layer → LeadOn steps part tracks starts count → Contains layer old → IsBreak breaks (opening (part_at part count) tracks) old order → IsFirstBreak steps breaks part tracks starts order
first_break {S} {L} steps breaks part tracks starts layer count old order reached lead c broken =
    let (s, at, (r, len, fits)) = reached old c in
    let t = broken.turn.track in
    let (is_begun, line) = opened (part_at part count) tracks old.places.items t broken.line broken.next in
    let next : IsNext tracks r.turns t broken.line = subst (λ (k : ℕ). slice_get (track tracks t) k ≡ Some broken.line) (sym (r.placed t)) line in record {
      start = s;
      at = at;
      turns = broken.turn ∷ r.turns;
      is = order_more s.order.items old.order.items order broken.turn r.turns r.order broken.is;
      in_part = opened_in_part part broken.turn r.turns count len fits is_begun;
      broken = (old.state, broken.line, r.led, next, broken.broken);
      shortest = λ from within other lt prefix in_part. lead from within other (omega arith) prefix in_part;
    }
