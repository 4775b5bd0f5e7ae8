-- The devices that drive a request.
use Rattle.std.proofs.lemmas.Bool.{and_parts, both_ways, eqb-true, not-true, false≢true}
use Rattle.std.proofs.Common.{◌≡◌, ℕ, true, false, not, Option, Some, None, ◌==◌, ◌⊎◌, inl, inr, sym, refl, ap, ◌∙◌, subst}
use Rattle.i3c_base.specs.declared.requests.Fixed.{Fixed}
use Rattle.i3c_base.specs.declared.requests.Request.TheVariants.{Join, Role, Interrupt}
use Rattle.i3c_base.specs.declared.requests.Served.{Served}
use Rattle.i3c_base.specs.declared.requests.Served.TheVariants.{Quiet, Recorded, Refused, Torn, Joining, WantsRole}
use Rattle.i3c_base.specs.declared.requests.Verdict.TheVariants.{Accept, Refuse}
use Rattle.i3c_base.specs.Cutting.{Lost}
use Rattle.i3c_base.specs.State.{Device, State, device_at, has_address, in_slot, is_the}
use Rattle.i3c_base.specs.Serve.{IsFirst, Serves, asks, drives, is_empty, verdict}
use Rattle.i3c_step.proofs.Uniqueness.{accept≢refuse, first_unique}

-- a device that drives an interrupt at a
pub record Drives (st : State) (a s : ℕ) : Type 0 where
  pub device : Device
  pub there : device_at st s ≡ Some device
  pub address : device.address ≡ Some a
  pub other : (s == st.active) ≡ false
  pub asks : is_empty device.waiting ≡ false

is_the-true : (a : ℕ) (o : Option ℕ) → is_the a o ≡ true → o ≡ Some a
is_the-true a None h = absurd (false≢true h)
is_the-true a (Some b) h = ap Some (eqb-true b a h)

pub Drives-from : (st : State) (a s : ℕ) → drives st (Interrupt a) s ≡ true → Drives st a s
Drives-from st a s h = let parts = and_parts (not (s == st.active)) (in_slot (λ d. asks d (Interrupt a)) (device_at st s)) h in
    go (device_at st s) refl (not-true _ parts.0) parts.1
  where
    go : (o : Option Device) → device_at st s ≡ o → (s == st.active) ≡ false → in_slot (λ d. asks d (Interrupt a)) o ≡ true → Drives st a s
    go None e n h = absurd (false≢true h)
    go (Some d) e n h =
        let p = and_parts (has_address a d) _ h in
        let q = and_parts (not d.role_wish) _ p.1 in
        let r = and_parts (not (is_empty d.waiting)) _ q.1 in
        record { device = d; there = e; address = is_the-true a d.address p.0; other = n; asks = not-true _ r.0 }

-- an accepted interrupt is recorded, or torn
pub accepted_served : (old : State) (policy : Fixed) (lost : Lost) (served : Served) (mid : State) (a : ℕ)
    → Serves old policy lost served mid → IsFirst old (Interrupt a) → verdict old policy (Interrupt a) ≡ Accept → ((place : ℕ) × (served ≡ Recorded place)) ⊎ (served ≡ Torn)
accepted_served old policy lost Quiet mid a h first accept = absurd (both_ways _ (h.0 first.driven.0 (Interrupt a)) first.driven.1)
accepted_served old policy lost Refused mid a h first accept =
    absurd (accept≢refuse (sym accept ∙ subst (λ r. verdict old policy r ≡ Refuse) (first_unique old h.0.0 (Interrupt a) h.0.1 first) h.0.2))
accepted_served old policy lost Joining mid a h first accept = let e : Join ≡ Interrupt a = first_unique old Join (Interrupt a) h.0 first in cc
accepted_served old policy lost (WantsRole b) mid a h first accept = let e : Role b ≡ Interrupt a = first_unique old (Role b) (Interrupt a) h.0 first in cc
accepted_served old policy lost (Recorded place) mid a h first accept = inl (place, refl)
accepted_served old policy lost Torn mid a h first accept = inr refl
