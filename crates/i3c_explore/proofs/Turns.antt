-- How many turns an order has of each track.
use Rattle.std.proofs.Common.{◌≡◌, ◌≢◌, ◌∙◌, ◌<◌, ◌≤◌, ◌==◌, ℕ, Bool, true, false, suc, List, [], ◌∷◌, ap, arith, get_or, if◌then◌else◌, inl, inr, length, refl, subst, sym}
use Rattle.std.specs.Global.{Vec}
use Rattle.std.proofs.Math.ListN.{set}
use Rattle.std.proofs.lemmas.Bool.{eq-eqb, ne_eqb}
use Rattle.std.proofs.lemmas.Bool.Decides.{eqb_tells}
use Rattle.std.proofs.lemmas.List.{get_or-set_other, get_or-set_same}
use Rattle.std.proofs.lemmas.Option.{slice_get_within}
use Rattle.i3c_explore.specs.declared.turn.Turn.{Turn}
use Rattle.i3c_explore.specs.Orders.{Breaks, IsPrefix, Leads, turns_of, track}

pub turns_here : (turn : Turn) (before : List Turn) → turns_of turn.track (turn ∷ before) ≡ suc (turns_of turn.track before)
turns_here turn before = ap (λ (b : Bool). if b then suc (turns_of turn.track before) else turns_of turn.track before) (eq-eqb turn.track turn.track refl)

pub turns_other : (turn : Turn) (s : ℕ) (before : List Turn) → turn.track ≢ s → turns_of s (turn ∷ before) ≡ turns_of s before
turns_other turn s before other = ap (λ (b : Bool). if b then suc (turns_of s before) else turns_of s before) (ne_eqb turn.track s other)

pub turns_le : (turn : Turn) (s : ℕ) (before : List Turn) → turns_of s before ≤ turns_of s (turn ∷ before)
turns_le turn s before = elim (eqb_tells turn.track s) [
  | inl (_, same) ↦ subst (λ (k : ℕ). turns_of k before ≤ turns_of k (turn ∷ before)) same (let e = turns_here turn before in omega arith)
  | inr (_, other) ↦ (let e = turns_other turn s before other in omega arith)
]

pub placed_more : (turn : Turn) (places : List ℕ) (before : List Turn) → turn.track < length places → ((s : ℕ) → turns_of s before ≡ get_or places s 0)
    → (s : ℕ) → turns_of s (turn ∷ before) ≡ get_or (set places turn.track (suc (get_or places turn.track 0))) s 0
placed_more turn places before lt placed s = let t = turn.track in elim (eqb_tells t s) [
  | inl (_, same) ↦ subst (λ (k : ℕ). turns_of k (turn ∷ before) ≡ get_or (set places t (suc (get_or places t 0))) k 0) same
      (turns_here turn before ∙ ap suc (placed t) ∙ sym (get_or-set_same places t (suc (get_or places t 0)) 0 lt))
  | inr (_, other) ↦ turns_other turn s before other ∙ placed s ∙ sym (get_or-set_other places t s (suc (get_or places t 0)) 0 (λ e. other (sym e)))
]

pub prefix_before : {L : Type 0} (tracks : List (Vec L)) (turn : Turn) (before : List Turn) → IsPrefix tracks (turn ∷ before) → IsPrefix tracks before
prefix_before tracks turn before begun s = let a = turns_le turn s before in let b = begun s in omega arith

pub room_for : {L : Type 0} (tracks : List (Vec L)) (turn : Turn) (before : List Turn) → IsPrefix tracks (turn ∷ before) → turns_of turn.track before < length (track tracks turn.track)
room_for tracks turn before begun = let a = turns_here turn before in let b = begun turn.track in omega arith

pub leads_prefix : {S L : Type 0} (steps : S → L → ℕ → S → Type 0) (tracks : List (Vec L)) (start : S) (order : List Turn) (end : S) → Leads steps tracks start order end → IsPrefix tracks order
leads_prefix steps tracks start [] end led t = omega arith
leads_prefix steps tracks start (turn ∷ before) end (mid, line, led, next, step) s = elim (eqb_tells turn.track s) [
  | inl (_, same) ↦ subst (λ (k : ℕ). turns_of k (turn ∷ before) ≤ length (track tracks k)) same
      (let a = turns_here turn before in let b = slice_get_within (track tracks turn.track) (turns_of turn.track before) line next in omega arith)
  | inr (_, other) ↦ (let a = turns_other turn s before other in let b = leads_prefix steps tracks start before mid led s in omega arith)
]

pub breaks_prefix : {S L : Type 0} (steps : S → L → ℕ → S → Type 0) (breaks : S → L → ℕ → Type 0) (tracks : List (Vec L)) (start : S) (order : List Turn) → Breaks steps breaks tracks start order → IsPrefix tracks order
breaks_prefix steps breaks tracks start [] broken s = absurd broken
breaks_prefix steps breaks tracks start (turn ∷ before) (mid, line, led, next, broken) s = elim (eqb_tells turn.track s) [
  | inl (_, same) ↦ subst (λ (k : ℕ). turns_of k (turn ∷ before) ≤ length (track tracks k)) same
      (let a = turns_here turn before in let b = slice_get_within (track tracks turn.track) (turns_of turn.track before) line next in omega arith)
  | inr (_, other) ↦ (let a = turns_other turn s before other in let b = leads_prefix steps tracks start before mid led s in omega arith)
]

-- one more turn keeps which count is larger
turns_cons : (u : ℕ) (turn : Turn) (a b : List Turn) → turns_of u a ≤ turns_of u b → turns_of u (turn ∷ a) ≤ turns_of u (turn ∷ b)
turns_cons u turn a b le = elim (eqb_tells turn.track u) [
  | inl (_, same) ↦ subst (λ (k : ℕ). turns_of k (turn ∷ a) ≤ turns_of k (turn ∷ b)) same
      (let e = turns_here turn a in let f = turns_here turn b in let h : turns_of turn.track a ≤ turns_of turn.track b = subst (λ (k : ℕ). turns_of k a ≤ turns_of k b) (sym same) le in omega arith)
  | inr (_, other) ↦ (let e = turns_other turn u a other in let f = turns_other turn u b other in omega arith)
]

-- an order without one turn of a track
remove : ℕ → List Turn → List Turn
remove t [] = []
remove t (turn ∷ order) = if turn.track == t then order else (turn ∷ remove t order)

remove_here : (t : ℕ) (turn : Turn) (order : List Turn) → (turn.track == t) ≡ true → remove t (turn ∷ order) ≡ order
unfolding remove
remove_here t turn order is = ap (λ (b : Bool). if b then order else (turn ∷ remove t order)) is

remove_other : (t : ℕ) (turn : Turn) (order : List Turn) → (turn.track == t) ≡ false → remove t (turn ∷ order) ≡ turn ∷ remove t order
unfolding remove
remove_other t turn order is = ap (λ (b : Bool). if b then order else (turn ∷ remove t order)) is

removed_length : (t : ℕ) (order : List Turn) → 0 < turns_of t order → suc (length (remove t order)) ≡ length order
removed_length t [] some = absurd (omega arith)
removed_length t (turn ∷ order) some = elim (eqb_tells turn.track t) [
  | inl (is, _) ↦ ap (λ (o : List Turn). suc (length o)) (remove_here t turn order is)
  | inr (is, other) ↦ ap (λ (o : List Turn). suc (length o)) (remove_other t turn order is)
      ∙ ap suc (removed_length t order (let e = turns_other turn t order other in omega arith))
]

removed_same : (t : ℕ) (order : List Turn) → turns_of t order ≤ suc (turns_of t (remove t order))
removed_same t [] = omega arith
removed_same t (turn ∷ order) = elim (eqb_tells turn.track t) [
  | inl (is, same) ↦ (let e = ap (λ (o : List Turn). turns_of t o) (remove_here t turn order is) in
      let f : turns_of t (turn ∷ order) ≡ suc (turns_of t order) = subst (λ (k : ℕ). turns_of k (turn ∷ order) ≡ suc (turns_of k order)) same (turns_here turn order) in omega arith)
  | inr (is, other) ↦ (let e = ap (λ (o : List Turn). turns_of t o) (remove_other t turn order is) in let f = turns_other turn t order other in
      let h = turns_other turn t (remove t order) other in let more = removed_same t order in omega arith)
]

removed_other : (t u : ℕ) (order : List Turn) → t ≢ u → turns_of u order ≤ turns_of u (remove t order)
removed_other t u [] apart = omega arith
removed_other t u (turn ∷ order) apart = elim (eqb_tells turn.track t) [
  | inl (is, same) ↦ (let e = ap (λ (o : List Turn). turns_of u o) (remove_here t turn order is) in
      let f = turns_other turn u order (λ h. apart (sym same ∙ h)) in omega arith)
  | inr (is, _) ↦ (let e = ap (λ (o : List Turn). turns_of u o) (remove_other t turn order is) in
      let h = turns_cons u turn order (remove t order) (removed_other t u order apart) in omega arith)
]

-- an order in which fewer lines of each track went is no longer than the other
pub no_longer : (more fewer : List Turn) → ((t : ℕ) → turns_of t fewer ≤ turns_of t more) → length fewer ≤ length more
no_longer more [] within = omega arith
no_longer more (turn ∷ fewer) within =
    let t = turn.track in
    let a = turns_here turn fewer in
    let b = within t in
    let has : 0 < turns_of t more = omega arith in
    let long = removed_length t more has in
    let rest : length fewer ≤ length (remove t more) = no_longer (remove t more) fewer (λ u. elim (eqb_tells t u) [
      | inl (_, same) ↦ subst (λ (k : ℕ). turns_of k fewer ≤ turns_of k (remove t more)) same (let r = removed_same t more in omega arith)
      | inr (_, other) ↦ (let e = turns_other turn u fewer other in let f = within u in let r = removed_other t u more other in omega arith)
    ]) in
    omega arith
