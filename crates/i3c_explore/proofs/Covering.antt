-- Layer by layer, every order is covered.
use Rattle.std.proofs.Common.{◌≡◌, ◌∙◌, ◌<◌, ◌≤◌, ℕ, suc, List, [], ◌∷◌, ◌++◌, Some, ap, arith, get_or, inl, inr, length, refl, reverse, append_assoc, subst, sym}
use Rattle.std.specs.Global.{Vec}
use Rattle.std.specs.List.{Contains, slice_get}
use Rattle.std.proofs.lemmas.Bool.Decides.{eqb_tells}
use Rattle.std.proofs.lemmas.List.{length-set, reverse-append}
use Rattle.std.proofs.lemmas.Option.{slice_get_cases, slice_get_within}
use Rattle.i3c_explore.specs.declared.node.Node.{Node}
use Rattle.i3c_explore.specs.declared.turn.Turn.{Turn}
use Rattle.i3c_explore.specs.Layers.{Holds, IsExpanded, IsNextAt, IsReached, IsSuccessor}
use Rattle.i3c_explore.specs.Orders.{IsDetermined, IsNext, IsPrefix, Leads, lines_in, track, turns_of}
use Rattle.i3c_explore.proofs.Lists.{get_below}
use Rattle.i3c_explore.specs.Parts.{Part}
use Rattle.i3c_explore.proofs.Opening.{InPart, in_part_before}
use Rattle.i3c_explore.proofs.Turns.{placed_more, prefix_before, room_for}

-- a track that has a line is one of the tracks
pub is_track : {L : Type 0} (tracks : List (Vec L)) (t k : ℕ) → k < length (track tracks t) → t < length tracks
is_track tracks t k lt = elim (slice_get_cases tracks t).1 [
  | inl (_, within, _, _) ↦ within
  | inr (_, none) ↦ (let e = ap (λ o. length (lines_in o)) none in absurd (omega arith))
]

-- an order with one more line leads to the next layer
pub held_more : {S L : Type 0} (steps : S → L → ℕ → S → Type 0) (tracks : List (Vec L)) (start : S) (lines : ℕ → List L) (layer next : List (Node S)) (turn : Turn) (before : List Turn)
    → ((n : Node S) → Contains layer n → length n.places.items ≡ length tracks)
    → ((n : Node S) → Contains layer n → IsExpanded steps lines (length tracks) n next) → lines turn.track ≡ track tracks turn.track
    → IsPrefix tracks (turn ∷ before) → Holds steps tracks start layer before → Holds steps tracks start next (turn ∷ before)
held_more {S} {L} steps tracks start lines layer next turn before sized expanded same_lines prefix (n, c, placed, led) =
    let t = turn.track in
    let room = room_for tracks turn before prefix in
    let within = is_track tracks t (turns_of t before) room in
    let (line, is) = get_below (track tracks t) (turns_of t before) room in
    let here : IsNextAt lines n.places.items t line = subst (λ (l : List L). slice_get l (get_or n.places.items t 0) ≡ Some line) (sym same_lines) (subst (λ (k : ℕ). slice_get (track tracks t) k ≡ Some line) (placed t) is) in
    let (state, step, (m, found, places, same)) = expanded n c t within line here turn.way in
    let inside : t < length n.places.items = (let e = sized n c in omega arith) in (
      m,
      found,
      (λ s. placed_more turn n.places.items before inside placed s ∙ ap (λ (l : List ℕ). get_or l s 0) (sym {A = List ℕ} places)),
      (n.state, line, led, is, subst (λ (s : S). steps n.state line turn.way s) (let back : state ≡ m.state = sym same in back) step),
    )

-- one more turn at the end of an order
pub order_more : (start old new : List Turn) (turn : Turn) (turns : List Turn) → old ≡ start ++ reverse turns → new ≡ old ++ turn ∷ [] → new ≡ start ++ reverse (turn ∷ turns)
order_more start old new turn turns is more =
    more ∙ ap (λ (o : List Turn). o ++ turn ∷ []) is ∙ append_assoc start (reverse turns) (turn ∷ []) ∙ ap (λ (o : List Turn). start ++ o) (sym (reverse-append (turn ∷ []) turns))

-- a successor is reached, by one more turn
pub reached_more : {S L : Type 0} (steps : S → L → ℕ → S → Type 0) (tracks : List (Vec L)) (start old new : Node S)
    → (reached : IsReached steps tracks start old) → (made : IsSuccessor steps (track tracks) old new) → (r : IsReached steps tracks start new) × (r.turns ≡ made.turn ∷ reached.turns)
reached_more {S} {L} steps tracks start old new reached made =
    let t = made.turn.track in
    let room = slice_get_within (track tracks t) (get_or old.places.items t 0) made.line made.next in
    let within = is_track tracks t (get_or old.places.items t 0) room in
    let here : t < length old.places.items = (let e = reached.sized in omega arith) in
    let next : IsNext tracks reached.turns t made.line = subst (λ (k : ℕ). slice_get (track tracks t) k ≡ Some made.line) (sym (reached.placed t)) made.next in (
      record {
        turns = made.turn ∷ reached.turns;
        sized = ap length made.places ∙ length-set old.places.items t (suc (get_or old.places.items t 0)) ∙ reached.sized;
        placed = λ s. placed_more made.turn old.places.items reached.turns here reached.placed s ∙ ap (λ (l : List ℕ). get_or l s 0) (sym made.places);
        order = order_more start.order.items old.order.items new.order.items made.turn reached.turns reached.order made.order;
        led = (old.state, made.line, reached.led, next, made.step);
      },
      refl,
    )

-- where no order of a part is one line longer, none is longer
pub none_longer : {L : Type 0} (tracks : List (Vec L)) (part : Part) (count : ℕ) → ((order : List Turn) → length order ≡ suc count → IsPrefix tracks order → InPart part order → ⊥)
    → (order : List Turn) → IsPrefix tracks order → InPart part order → length order ≤ count
none_longer tracks part count none [] prefix fits = omega arith
none_longer tracks part count none (turn ∷ before) prefix fits =
    let shorter = none_longer tracks part count none before (prefix_before tracks turn before prefix) (in_part_before part turn before fits) in
    elim (eqb_tells (length before) count) [
      | inl (_, same) ↦ absurd (none (turn ∷ before) (ap suc same) prefix fits)
      | inr (_, other) ↦ omega arith
    ]

-- where steps are determined, so is what an order leads to
pub leads_once : {S L : Type 0} (steps : S → L → ℕ → S → Type 0) (tracks : List (Vec L)) (start : S) → IsDetermined steps
    → (order : List Turn) (one other : S) → Leads steps tracks start order one → Leads steps tracks start order other → one ≡ other
leads_once steps tracks start determined [] one other a b = a ∙ sym b
leads_once {S} {L} steps tracks start determined (turn ∷ before) one other (mid, line, led, next, step) (mid', line', led', next', step') =
    let same = leads_once steps tracks start determined before mid' mid led' led in
    let alike : line' ≡ line = cc in
    determined mid one other line turn.way step
    (subst (λ (s : S). steps s line turn.way other) same (subst (λ (l : L). steps mid' l turn.way other) alike step'))
