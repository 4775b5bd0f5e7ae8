-- Which lines orders of a part begin with.
use Rattle.std.proofs.Common.{◌≡◌, ◌⊎◌, ◌∙◌, ◌<◌, ◌%◌, ℕ, Bool, true, false, List, [], ◌∷◌, ◌++◌, Some, ap, arith, if◌then◌else◌, inl, inr, length, refl, subst, sym, eq-eqb, ne_eqb, get_or}
use Rattle.std.specs.Global.{Vec}
use Rattle.std.specs.List.{slice_get}
use Rattle.std.proofs.Math.Nat.{mod-one}
use Rattle.std.proofs.lemmas.Bool.Decides.{eqb_tells}
use Rattle.std.proofs.lemmas.List.{same_from_push}
use Rattle.std.proofs.lemmas.Option.{slice_get_within}
use Rattle.i3c_explore.specs.declared.node.Node.{Node}
use Rattle.i3c_explore.specs.declared.turn.Turn.{Turn}
use Rattle.i3c_explore.specs.Layers.{IsNextAt, IsSuccessor}
use Rattle.i3c_explore.specs.Orders.{IsPrefix, track, turns_of}
use Rattle.i3c_explore.specs.Parts.{Part, begins, block_part, opening, part_at, whole}
use Rattle.i3c_explore.specs.Splits.{IsInPart}
use Rattle.i3c_explore.proofs.Splitting.{oldest_of, turns_first}

-- an order is in a part
abbrev pub InPart : Part → List Turn → Type 0
InPart part order = IsInPart part.index part.of order

pub opening_has : {L : Type 0} (part : Part) (tracks : List (Vec L)) (t : ℕ) → begins part t ≡ true → opening part tracks t ≡ track tracks t
opening_has {L} part tracks t is = ap (λ (b : Bool). let none : List L = [] in if b then track tracks t else none) is

pub opening_none : {L : Type 0} (part : Part) (tracks : List (Vec L)) (t : ℕ) → begins part t ≡ false → opening part tracks t ≡ []
opening_none {L} part tracks t is = ap (λ (b : Bool). let none : List L = [] in if b then track tracks t else none) is

-- a line by which orders of a part begin is one of the tracks
pub opened : {L : Type 0} (part : Part) (tracks : List (Vec L)) (places : List ℕ) (t : ℕ) (line : L) → IsNextAt (opening part tracks) places t line → (begins part t ≡ true) × IsNextAt (track tracks) places t line
opened {L} part tracks places t line next = elim (eqb_tells (t % part.of) part.index) [
  | inl (is, _) ↦ (is, subst (λ (lines : List L). slice_get lines (get_or places t 0) ≡ Some line) (opening_has part tracks t is) next)
  | inr (is, _) ↦ (
      let none : slice_get [] (get_or places t 0) ≡ Some line = subst (λ (lines : List L). slice_get lines (get_or places t 0) ≡ Some line) (opening_none part tracks t is) next in
      let lt = slice_get_within [] (get_or places t 0) line none in absurd (omega arith)
      )
]

-- and so is the line by which a node follows another one
abbrev pub plain_successor : {S L : Type 0} (steps : S → L → ℕ → S → Type 0) (part : Part) (tracks : List (Vec L)) (old new : Node S) → IsSuccessor steps (opening part tracks) old new → IsSuccessor steps (track tracks) old new
plain_successor steps part tracks old new made = record {
  turn = made.turn;
  line = made.line;
  next = (opened part tracks old.places.items made.turn.track made.line made.next).1;
  step = made.step;
  places = made.places;
  order = made.order;
}

pub part_later : (part : Part) (count : ℕ) → 0 < count → part_at part count ≡ whole
part_later part count some = ap (λ (b : Bool). if b then part else whole) (ne_eqb count 0 (λ e. omega arith))

-- the whole has each order
pub whole_begins : (t : ℕ) → begins whole t ≡ true
whole_begins t = eq-eqb (t % 1) 0 (mod-one t)

pub whole_has : (order : List Turn) → InPart whole order
whole_has order t way later is = mod-one t

-- an order without a turn is in each part
pub none_in_part : (part : Part) → InPart part []
none_in_part part t way [] is = cc
none_in_part part t way (turn ∷ later) is = cc

-- an order of one turn is in the part that begins with its track
pub first_in_part : (part : Part) (turn : Turn) → turn.track % part.of ≡ part.index → InPart part (turn ∷ [])
first_in_part part turn same t way later is =
    let alike = (same_from_push [] later turn (record { track = t; way = way }) is).1 in
    ap (λ (o : Turn). o.track % part.of) (sym alike) ∙ same

pub first_of_part : (part : Part) (turn : Turn) → InPart part (turn ∷ []) → turn.track % part.of ≡ part.index
first_of_part part turn fits = fits turn.track turn.way [] refl

-- the turns before the newest are in the part
pub in_part_before : (part : Part) (turn : Turn) (before : List Turn) → InPart part (turn ∷ before) → InPart part before
in_part_before part turn before fits t way later is = fits t way (turn ∷ later) (ap (λ (o : List Turn). turn ∷ o) is)

-- and one more turn stays in it
pub in_part_after : (part : Part) (turn : Turn) (before : List Turn) → 0 < length before → InPart part before → InPart part (turn ∷ before)
in_part_after part turn before some fits t way [] is = absurd (let e = ap (λ (o : List Turn). length o) is in omega arith)
in_part_after part turn before some fits t way (newest ∷ later) is = let rest : before ≡ later ++ record { track = t; way = way } ∷ [] = cc in fits t way later rest

-- an order of a part goes on by a line that begins so
pub opens : (part : Part) (turn : Turn) (before : List Turn) (count : ℕ) → length before ≡ count → InPart part (turn ∷ before) → begins (part_at part count) turn.track ≡ true
opens part turn [] count len fits =
    let here : begins part turn.track ≡ true = eq-eqb (turn.track % part.of) part.index (first_of_part part turn fits) in
    subst (λ (p : Part). begins p turn.track ≡ true) (ap (λ (k : ℕ). part_at part k) len) here
opens part turn (last ∷ before) count len fits =
    let some : 0 < count = omega arith in
    subst (λ (p : Part). begins p turn.track ≡ true) (sym (part_later part count some)) (whole_begins turn.track)

-- and a line that begins the part makes an order of it
pub opened_in_part : (part : Part) (turn : Turn) (before : List Turn) (count : ℕ) → length before ≡ count → InPart part before → begins (part_at part count) turn.track ≡ true → InPart part (turn ∷ before)
opened_in_part part turn [] count len fits is =
    let here : begins part turn.track ≡ true = subst (λ (k : ℕ). begins (part_at part k) turn.track ≡ true) (sym len) is in
    elim (eqb_tells (turn.track % part.of) part.index) [
      | inl (_, same) ↦ first_in_part part turn same
      | inr (other, _) ↦ absurd (cc)
    ]
opened_in_part part turn (last ∷ before) count len fits is = in_part_after part turn (last ∷ before) (omega arith) fits

-- behind the first turn, and in the whole, each turn stays in the part
pub grows_in_part : (part : Part) (turn : Turn) (order : List Turn) (count : ℕ) → length order ≡ count → (0 < count) ⊎ (part ≡ whole) → InPart part order → InPart part (turn ∷ order)
grows_in_part part turn order count len ended fits = elim ended [
  | inl some ↦ in_part_after part turn order (omega arith) fits
  | inr all ↦ subst (λ (p : Part). InPart p (turn ∷ order)) (sym all) (whole_has (turn ∷ order))
]

-- the first turn of an order of the part is an order's beginning, in the part
pub first_turn : {L : Type 0} (tracks : List (Vec L)) (part : Part) (turn : Turn) (before : List Turn) → IsPrefix tracks (turn ∷ before) → InPart part (turn ∷ before)
    → (first : Turn) × IsPrefix tracks (first ∷ []) × InPart part (first ∷ [])
first_turn tracks part turn before prefix fits =
    let (later, first, is) = oldest_of turn before in (
      first,
      (λ u. let a = prefix u in let b = turns_first u later first in let c = ap (λ (o : List Turn). turns_of u o) is in omega arith),
      first_in_part part first (fits first.track first.way later is),
    )

-- an order of a block is in the block's part, if those of block `split` are in the part
pub in_block : (part : Part) (split index : ℕ) (order : List Turn) → (index ≡ split → InPart part order) → InPart (block_part part split index) order
in_block part split index order fits = elim (eqb_tells index split) [
  | inl (is, same) ↦ subst (λ (p : Part). InPart p order) (sym (ap (λ (b : Bool). if b then part else whole) is)) (fits same)
  | inr (is, _) ↦ subst (λ (p : Part). InPart p order) (sym (ap (λ (b : Bool). if b then part else whole) is)) (whole_has order)
]

pub of_block : (part : Part) (split index : ℕ) (order : List Turn) → InPart (block_part part split index) order → index ≡ split → InPart part order
of_block part split index order fits same = subst (λ (p : Part). InPart p order) (ap (λ (b : Bool). if b then part else whole) (eq-eqb index split same)) fits
