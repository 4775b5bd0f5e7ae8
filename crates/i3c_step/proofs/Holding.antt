-- The active controller has an address, and a device that has one hears no session.
use Rattle.std.proofs.lemmas.Bool.{both_ways}
use Rattle.std.proofs.lemmas.Option.{none-some}
use Rattle.std.proofs.Common.{◌≡◌, ℕ, true, Option, Some, None, is_some, inl, inr, sym, refl, ap, ◌∙◌, subst}
use Rattle.i3c_base.specs.declared.device.Setup.{Setup}
use Rattle.i3c_base.specs.State.{Board, Device, IsPresent, IsStart, State, device_at, in_slot}
use Rattle.i3c_step.specs.declared.events.Event.{Event}
use Rattle.i3c_step.specs.declared.replies.Reply.{Reply}
use Rattle.i3c_step.specs.Slots.{is_handed}
use Rattle.i3c_step.specs.Sound.{HasActive}
use Rattle.i3c_step.specs.Step.{Step}
use Rattle.i3c_step.proofs.Active.{Active-start, Active-step}
use Rattle.i3c_step.proofs.Addresses.{start_device}
use Rattle.i3c_step.proofs.Follows.{Came-step, Follows, IsDeaf}
use Rattle.i3c_step.proofs.SlotLaws.{Settles-step}
use Rattle.i3c_step.proofs.StayLaws.{attached_free}

address_from : (o : Option ℕ) → is_some o ≡ true → (a : ℕ) × (o ≡ Some a)
address_from None h = absurd (both_ways _ refl h)
address_from (Some a) h = (a, refl)

active_by : (st : State) (d : Device) → device_at st st.active ≡ Some d → is_some d.address ≡ true → HasActive st
active_by st d there some = let a = address_from d.address some in (d, a.0, there, a.1)

-- in an old state with an addressed active controller, the device in its slot has an address
had_address : (st : State) (s : ℕ) (x : Device) → HasActive st → s ≡ st.active → device_at st s ≡ Some x → is_some x.address ≡ true
had_address st s x h e there =
    let same : Some h.0 ≡ Some x = sym h.2 ∙ (ap (device_at st) (sym e) ∙ there) in
    ap (in_slot (λ d. is_some d.address)) (sym same) ∙ ap is_some h.3

pub active_follows : (old new : State) → Follows old new → IsPresent new new.active → HasActive old → HasActive new
active_follows old new follows present h =
    let x = follows.devices new.active present.0 present.1 in
    active_by new present.0 present.1 (x.2.addressed follows.active (had_address old new.active x.0 h follows.active x.1))

pub active_step : (old : State) (event : Event) (reply : Reply) (new : State) → Step old event reply new → HasActive old → HasActive new
active_step old event reply new step h =
    let present : IsPresent new new.active = Active-step old event reply new step (h.0, h.2) in
    active_by new present.0 present.1 (elim ((Came-step old event reply new step).0 new.active present.0 present.1) [
      | inl a ↦ elim (Settles-step old event reply new step).0 [
        | inl same ↦ absurd (none-some h.0 (sym (attached_free old event reply new new.active step a.0) ∙ (ap (device_at old) same.1 ∙ h.2)))
        | inr moved ↦ absurd (both_ways (is_handed reply) (ap is_handed a.0.2) moved.0)
      ]
      | inr x ↦ x.2.addressed refl (elim (Settles-step old event reply new step).0 [
        | inl same ↦ had_address old new.active x.0 h same.1 x.1
        | inr moved ↦ there x.0 moved.1.3.0 moved.1.0 (sym moved.1.3.1.0 ∙ x.1) moved.1.3.1.1
      ])
    ])
  where
    there : (x d : Device) (a : ℕ) → Some d ≡ Some x → d.address ≡ Some a → is_some x.address ≡ true
    there x d a same e = ap (in_slot (λ y. is_some y.address)) (sym same) ∙ ap is_some e

pub active_start : (main : Setup) (board : Board) (start : State) → IsStart main board start → HasActive start
active_start main board start h =
    let present = Active-start main board start h in
    let e = start_device main board h.0 start.active present.0 (subst (λ (st : State). device_at st start.active ≡ Some present.0) h.2 present.1) in
    (present.0, h.0, present.1, ap (λ (d : Device). d.address) e.1)

-- each device that has an address is deaf
abbrev pub AllDeaf : State → Type 0
AllDeaf st = (s : ℕ) (d : Device) → device_at st s ≡ Some d → IsDeaf d

pub deaf_step : (old : State) (event : Event) (reply : Reply) (new : State) → Step old event reply new → AllDeaf old → AllDeaf new
deaf_step old event reply new step all s d p = elim ((Came-step old event reply new step).0 s d p) [
  | inl a ↦ a.1
  | inr x ↦ x.2.deaf (all s x.0 x.1)
]

pub deaf_start : (main : Setup) (board : Board) (start : State) → IsStart main board start → AllDeaf start
deaf_start main board start h s d p =
    let e = start_device main board h.0 s d (subst (λ (st : State). device_at st s ≡ Some d) h.2 p) in subst IsDeaf (sym e.1) (λ a. refl)
