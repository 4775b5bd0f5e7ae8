-- What is read behind an accepted interrupt.
use Rattle.std.specs.Int.{bit_at}
use Rattle.std.proofs.lemmas.Bool.{and_parts, both_ways}
use Rattle.std.proofs.lemmas.Option.{none-some, same_Some}
use Rattle.std.proofs.Common.{◌≡◌, ℕ, ◌<◌, true, false, not, ◌&&◌, ◌==◌, List, [], ◌∷◌, slice_get, Option, Some, None, is_some, MatchOption, sym, refl, ap, ◌∙◌, subst}
use Rattle.i3c_base.specs.declared.requests.Request.TheVariants.{Interrupt}
use Rattle.i3c_base.specs.declared.device.Waiting.{Waiting}
use Rattle.i3c_base.specs.Cutting.{Lost}
use Rattle.i3c_base.specs.State.{Device, State, device_at, has_address, in_slot}
use Rattle.i3c_base.specs.Serve.{DrivesByte, IsAnd, IsFront, IsRead, asks, drives, is_empty}
use Rattle.i3c_step.proofs.Uniqueness.{and_unique}

-- one front in one slot
one_front : (st : State) (s : ℕ) (v w : Waiting) → IsFront st s v → IsFront st s w → v ≡ w
one_front st s v w f g =
    let same : f.0 ≡ g.0 = same_Some f.0 g.0 (sym f.2 ∙ g.2) in
    let lists : (v ∷ f.1) ≡ (w ∷ g.1) = sym f.3 ∙ (ap (λ (d : Device). d.waiting) same ∙ g.3) in
    cc

pub one_byte : (st : State) (at s u v : ℕ) → DrivesByte st (Interrupt at) s u → DrivesByte st (Interrupt at) s v → u ≡ v
one_byte st at s u v f g =
    let same : f.1.0 ≡ g.1.0 = one_front st s f.1.0 g.1.0 f.1.1 g.1.1 in
    same_Some u v (sym f.1.2 ∙ (ap (λ (w : Waiting). w.byte) same ∙ g.1.2))

-- what is read where no byte is driven, and where one is
pub read_none : (st : State) (at : ℕ) (lost : Lost) (s : ℕ) (front : Waiting) → ((v : ℕ) → DrivesByte st (Interrupt at) s v → ⊥) → drives st (Interrupt at) s ≡ true → IsFront st s front
    → IsRead st lost (Interrupt at) s front None
read_none st at lost s front none driven fronted = record { alone = λ k. sym is; together = λ l v k. absurd (none-some v k); present = ap is_some (sym is) }
  where
    go : (o : Option ℕ) → front.byte ≡ o → o ≡ None
    go None e = refl
    go (Some v) e = absurd (none v (driven, (front, fronted, e)))

    is : front.byte ≡ None
    is = go front.byte refl

own_and : (st : State) (at s own : ℕ) → own < 256 → DrivesByte st (Interrupt at) s own → ((t : ℕ) → drives st (Interrupt at) t ≡ true → t ≡ s) → IsAnd own (DrivesByte st (Interrupt at))
own_and st at s own low driven alone = (
  low,
  λ bit l. (
    λ b t v d. subst (λ x. bit_at x bit ≡ 1) (one_byte st at s own v driven (subst (λ k. DrivesByte st (Interrupt at) k v) (alone t d.0) d)) b,
    λ all. all s own driven,
  ),
)

pub read_some : (st : State) (at own both : ℕ) (lost : Lost) (s : ℕ) (front : Waiting) → own < 256 → DrivesByte st (Interrupt at) s own → IsAnd both (DrivesByte st (Interrupt at)) → IsFront st s front
    → IsRead st lost (Interrupt at) s front (Some both)
read_some st at own both lost s front low driven h fronted =
    let is : front.byte ≡ Some own = ap (λ (w : Waiting). w.byte) (one_front st s front driven.1.0 fronted driven.1.1) ∙ driven.1.2 in record {
      alone = λ k. ap Some (and_unique both own (DrivesByte st (Interrupt at)) h (own_and st at s own low driven k)) ∙ sym is;
      together = λ l v k. subst (λ x. IsAnd x (DrivesByte st (Interrupt at))) (same_Some both v k) h;
      present = ap is_some (sym is);
    }

-- the front of a slot that drives an interrupt
no_front : (d : Device) (at : ℕ) → d.waiting ≡ [] → asks d (Interrupt at) ≡ true → ⊥
no_front d at empty h =
    let rest = and_parts (has_address at d) (not d.role_wish && (not (is_empty d.waiting) && d.kinds.interrupt)) h in
    let waits = and_parts (not d.role_wish) (not (is_empty d.waiting) && d.kinds.interrupt) rest.1 in
    both_ways (not (is_empty d.waiting)) (ap (λ ws. not (is_empty ws)) empty) (and_parts (not (is_empty d.waiting)) d.kinds.interrupt waits.1).0

pub front_there : (st : State) (s at : ℕ) (d : Device) (o : Option Waiting) → drives st (Interrupt at) s ≡ true → device_at st s ≡ Some d → o ≡ slice_get d.waiting 0
    → MatchOption o (drives st (Interrupt at) s ≡ false) (λ w. (drives st (Interrupt at) s ≡ true) × IsFront st s w)
front_there st s at d o driven there is = go d.waiting refl o is
  where
    asked : asks d (Interrupt at) ≡ true
    asked = (and_parts (not (s == st.active)) (asks d (Interrupt at)) (ap (λ x. not (s == st.active) && in_slot (λ y. asks y (Interrupt at)) x) (sym there) ∙ driven)).1

    go : (ws : List Waiting) → d.waiting ≡ ws → (p : Option Waiting) → p ≡ slice_get ws 0 → MatchOption p (drives st (Interrupt at) s ≡ false) (λ w. (drives st (Interrupt at) s ≡ true) × IsFront st s w)
    go [] e p q = absurd (no_front d at e asked)
    go (w ∷ ws) e p q = subst (λ x. MatchOption x (drives st (Interrupt at) s ≡ false) (λ v. (drives st (Interrupt at) s ≡ true) × IsFront st s v)) (sym q) (driven, (d, ws, there, e))
