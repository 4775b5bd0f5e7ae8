-- Over a legal run at most one party answers to an address.
use Rattle.std.proofs.Common.{◌≡◌, ℕ, List, Some, None, inl, inr, ap, sym, ◌∙◌}
use Rattle.std.proofs.lemmas.Option.{none-some, same_Some}
use Rattle.i3c_base.specs.declared.device.Setup.{Setup}
use Rattle.i3c_base.specs.State.{Board, Device, HasDistinctIdentities, HasUniqueAnswers, IsReachedAt, State, declared_at, device_at, in_slot_of, legacy_at, legacy_target_at}
use Rattle.i3c_step.specs.declared.events.Event.{Event}
use Rattle.i3c_step.specs.declared.replies.Reply.{Reply}
use Rattle.i3c_step.specs.Runs.{IsLegalRun}
use Rattle.i3c_step.specs.Sound.{Addresses}
use Rattle.i3c_base.proofs.StaticLaws.{declared_at_fixed}
use Rattle.i3c_step.proofs.Addresses.{Addresses-start, Addresses-step}
use Rattle.i3c_step.proofs.Kept.{run_keeps}

-- at its device's static address the identity is declared
static_at : (st : State) (a s : ℕ) (d : Device) → Addresses st → device_at st s ≡ Some d → d.fixed ≡ Some a → declared_at st a ≡ Some d.identity
static_at st a s d inv p fixed = declared_at_fixed st.declared d.identity a (sym (inv.placed s d p) ∙ fixed)

-- no legacy target is at a device's address
no_legacy : (st : State) (a s : ℕ) (d : Device) → Addresses st → device_at st s ≡ Some d → IsReachedAt a d → legacy_target_at st a ≡ None
no_legacy st a s d inv p h = elim h [
  | inl x ↦ let u = inv.used s a d p x in inv.free a u.0 u.1
  | inr x ↦ inv.lone a d.identity (static_at st a s d inv p x.1)
]

-- no device has as its dynamic address what another has as its static one
not_both : (st : State) (a s t : ℕ) (d e : Device) → Addresses st → device_at st s ≡ Some d → device_at st t ≡ Some e → d.address ≡ Some a → e.fixed ≡ Some a → ⊥
not_both st a s t d e inv p q x y =
    let u = inv.used s a d p x in none-some e.identity (sym (inv.undeclared a u.0 u.1) ∙ static_at st a t e inv q y)

-- two devices that answer to one address have one identity
alike_at : (st : State) (a s t : ℕ) (d e : Device) → Addresses st → device_at st s ≡ Some d → device_at st t ≡ Some e → IsReachedAt a d → IsReachedAt a e → d.identity ≡ e.identity
alike_at st a s t d e inv p q h k = elim h [
  | inl x ↦ elim k [ inl y ↦ inv.alike s t a d e p q x y | inr y ↦ absurd (not_both st a s t d e inv p q x y.1) ]
  | inr x ↦ elim k [
    | inl y ↦ absurd (not_both st a t s e d inv q p y x.1)
    | inr y ↦ same_Some d.identity e.identity (sym (static_at st a s d inv p x.1) ∙ static_at st a t e inv q y.1)
  ]
]

-- the invariant and distinct identities leave one party for an address
unique_answers : (st : State) → Addresses st → HasDistinctIdentities st → HasUniqueAnswers st
unique_answers st inv distinct a (in_slot_of s) (in_slot_of t) h k = ap in_slot_of (distinct s t h.0 k.0 h.1 k.1 (alike_at st a s t h.0 k.0 inv h.1 k.1 h.2 k.2))
unique_answers st inv distinct a (in_slot_of s) (legacy_at c) h k = absurd (none-some k.1.0 (sym (no_legacy st a s h.0 inv h.1 h.2) ∙ k.1.1))
unique_answers st inv distinct a (legacy_at b) (in_slot_of t) h k = absurd (none-some h.1.0 (sym (no_legacy st a t k.0 inv k.1 k.2) ∙ h.1.1))
unique_answers st inv distinct a (legacy_at b) (legacy_at c) h k = ap legacy_at (h.0 ∙ sym k.0)

pub unique_along : (main : Setup) (board : Board) (events : List Event) (replies : List Reply) (new : State)
    → IsLegalRun main board events replies new → HasDistinctIdentities new → HasUniqueAnswers new
unique_along main board events replies new run distinct =
    unique_answers new (run_keeps Addresses Addresses-step run.0 events replies new run.2 (Addresses-start main board run.0 run.1)) distinct
