-- An order is its first turn and what is left.
use Rattle.std.proofs.Common.{◌≡◌, ◌∙◌, ◌<◌, ◌+◌, ◌%◌, ℕ, suc, List, [], ◌∷◌, ◌++◌, ap, arith, inl, inr, length, refl, subst, sym, zero-add}
use Rattle.std.specs.Global.{Vec}
use Rattle.std.specs.List.{slice_get}
use Rattle.std.proofs.lemmas.Bool.Decides.{eqb_tells}
use Rattle.std.proofs.lemmas.List.{same_from_push}
use Rattle.std.proofs.lemmas.Option.{same_Some}
use Rattle.i3c_explore.specs.declared.turn.Turn.{Turn}
use Rattle.i3c_explore.specs.Orders.{Leads, track, turns_of}
use Rattle.i3c_explore.specs.Splits.{IsInOnePart, IsWithout, OrdersSplit, RunsSplit, after_first}
use Rattle.i3c_explore.proofs.Turns.{turns_here, turns_other}

turns_same : (u : ℕ) (turn : Turn) (before : List Turn) → turn.track ≡ u → turns_of u (turn ∷ before) ≡ suc (turns_of u before)
turns_same u turn before same = subst (λ (k : ℕ). turns_of k (turn ∷ before) ≡ suc (turns_of k before)) same (turns_here turn before)

-- one more turn at the beginning
pub turns_first : (u : ℕ) (order : List Turn) (turn : Turn) → turns_of u (order ++ turn ∷ []) ≡ turns_of u order + turns_of u (turn ∷ [])
turns_first u [] turn = sym (zero-add (turns_of u (turn ∷ [])))
turns_first u (o ∷ order) turn = elim (eqb_tells o.track u) [
  | inl (_, same) ↦ (let a = turns_same u o (order ++ turn ∷ []) same in let b = turns_same u o order same in let c = turns_first u order turn in omega arith)
  | inr (_, other) ↦ (let a = turns_other o u (order ++ turn ∷ []) other in let b = turns_other o u order other in let c = turns_first u order turn in omega arith)
]

lines_split : {L : Type 0} (tracks : List (Vec L)) (t : ℕ) (line : L) (rest : List (Vec L)) → IsWithout tracks t line rest → (turn : Turn) → turn.track ≡ t → (u : ℕ)
    → length (track tracks u) ≡ length (track rest u) + turns_of u (turn ∷ [])
lines_split tracks t line rest without turn is u = elim (eqb_tells t u) [
  | inl (_, same) ↦ subst (λ (k : ℕ). length (track tracks k) ≡ length (track rest k) + turns_of k (turn ∷ [])) same
      (let a = ap length without.first in let b = turns_same t turn [] is in omega arith)
  | inr (_, other) ↦ (let a = ap length (without.others u other) in let b = turns_other turn u [] (λ e. other (sym is ∙ e)) in omega arith)
]

pub orders_split : {L : Type 0} (tracks : List (Vec L)) → OrdersSplit tracks
orders_split tracks t line rest without way order =
    let turn : Turn = record { track = t; way = way } in (
      (λ whole u. let a = whole u in let b = turns_first u order turn in let c = lines_split tracks t line rest without turn refl u in omega arith),
      (λ whole u. let a = whole u in let b = turns_first u order turn in let c = lines_split tracks t line rest without turn refl u in omega arith),
    )

-- the line that runs next, after the first one
next_split : {L : Type 0} (tracks : List (Vec L)) (t : ℕ) (line : L) (rest : List (Vec L)) → IsWithout tracks t line rest → (turn : Turn) → turn.track ≡ t → (u : ℕ) (before : List Turn)
    → slice_get (track tracks u) (turns_of u (before ++ turn ∷ [])) ≡ slice_get (track rest u) (turns_of u before)
next_split {L} tracks t line rest without turn is u before = elim (eqb_tells t u) [
  | inl (_, same) ↦ subst (λ (k : ℕ). slice_get (track tracks k) (turns_of k (before ++ turn ∷ [])) ≡ slice_get (track rest k) (turns_of k before)) same
      (let b = turns_same t turn [] is in let c = turns_first t before turn in
      let count : turns_of t (before ++ turn ∷ []) ≡ suc (turns_of t before) = omega arith in
      ap (λ (k : ℕ). slice_get (track tracks t) k) count ∙ ap (λ (lines : List L). slice_get lines (suc (turns_of t before))) without.first)
  | inr (_, other) ↦ (let b = turns_other turn u [] (λ e. other (sym is ∙ e)) in let c = turns_first u before turn in
      let count : turns_of u (before ++ turn ∷ []) ≡ turns_of u before = omega arith in
      ap (λ (k : ℕ). slice_get (track tracks u) k) count ∙ ap (λ (lines : List L). slice_get lines (turns_of u before)) (without.others u other))
]

runs_to : {S L : Type 0} (steps : S → L → ℕ → S → Type 0) (tracks : List (Vec L)) (t : ℕ) (line : L) (rest : List (Vec L)) → IsWithout tracks t line rest → (way : ℕ) (order : List Turn) (start end : S)
    → Leads steps tracks start (after_first t way order) end → (mid : S) × steps start line way mid × Leads steps rest mid order end
runs_to {S} {L} steps tracks t line rest without way [] start end (mid, first, at, next, step) =
    let same : first ≡ line = same_Some first line (sym next ∙ ap (λ (lines : List L). slice_get lines 0) without.first) in
    (end, subst (λ (l : L). steps start l way end) same (subst (λ (s : S). steps s first way end) at step), refl)
runs_to {S} {L} steps tracks t line rest without way (turn ∷ order) start end (mid, last, led, next, step) =
    let oldest : Turn = record { track = t; way = way } in
    let (from, one, more) = runs_to steps tracks t line rest without way order start mid led in
    (from, one, (mid, last, more, sym (next_split tracks t line rest without oldest refl turn.track order) ∙ next, step))

runs_from : {S L : Type 0} (steps : S → L → ℕ → S → Type 0) (tracks : List (Vec L)) (t : ℕ) (line : L) (rest : List (Vec L)) → IsWithout tracks t line rest → (way : ℕ) (order : List Turn) (start end : S)
    → (mid : S) → steps start line way mid → Leads steps rest mid order end → Leads steps tracks start (after_first t way order) end
runs_from {S} {L} steps tracks t line rest without way [] start end mid step at =
    (start, line, refl, ap (λ (lines : List L). slice_get lines 0) without.first, subst (λ (s : S). steps start line way s) (sym {A = S} at) step)
runs_from {S} {L} steps tracks t line rest without way (turn ∷ order) start end from one (mid, last, more, next, step) =
    let oldest : Turn = record { track = t; way = way } in
    (mid, last, runs_from steps tracks t line rest without way order start mid from one more, next_split tracks t line rest without oldest refl turn.track order ∙ next, step)

pub runs_split : {S L : Type 0} (steps : S → L → ℕ → S → Type 0) (tracks : List (Vec L)) → RunsSplit steps tracks
runs_split steps tracks t line rest without way order start end = (
  (λ led. runs_to steps tracks t line rest without way order start end led),
  (λ (mid, step, led). runs_from steps tracks t line rest without way order start end mid step led),
)

-- the oldest turn of an order
pub oldest_of : (turn : Turn) (order : List Turn) → (later : List Turn) × (first : Turn) × (turn ∷ order ≡ later ++ first ∷ [])
oldest_of turn [] = ([], turn, refl)
oldest_of turn (next ∷ order) = let (later, first, is) = oldest_of next order in (turn ∷ later, first, ap (λ (o : List Turn). turn ∷ o) is)

pub one_part : (parts : ℕ) (order : List Turn) → 0 < parts → 0 < length order → IsInOnePart parts order
one_part parts [] some turns = absurd (omega arith)
one_part parts (turn ∷ order) some turns =
    let (later, first, is) = oldest_of turn order in (
      first.track % parts,
      omega arith,
      (λ t way rest same.
          let alike = (same_from_push rest later (record { track = t; way = way }) first (sym same ∙ is)).1 in
          ap (λ (o : Turn). o.track % parts) alike),
      (λ other in_other. sym (in_other first.track first.way later is)),
    )
