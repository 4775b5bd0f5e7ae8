-- Tests with the refusal that each stands for, and those of what a slot's device wishes.
use Rattle.std.specs.Prelude.{ℕ, ◌-◌, ◌^◌, Bool, ◌==◌, ◌||◌, nat_le, not, List, [], ◌∷◌, length, Option, Some, None, if◌then◌else◌, is_none, is_some}
use Rattle.i3c_base.specs.declared.device.TheConstants.{WAITING}
use Rattle.i3c_base.specs.declared.refusals.JoinRefusal.{JoinRefusal}
use Rattle.i3c_base.specs.declared.refusals.RaiseRefusal.{RaiseRefusal}
use Rattle.i3c_base.specs.declared.refusals.RoleRefusal.{RoleRefusal}
use Rattle.i3c_base.specs.Numbers.{can_interrupt, has_byte, is_capable, same_bool}
use Rattle.i3c_base.specs.State.{Device, in_slot}

-- tests with the refusal that each stands for, in order
abbrev pub Tests : Type 0 → Type 0
Tests R = List (Bool × R)

-- the refusal of the first test that holds
abbrev pub first_of : {R : Type 0} → Tests R → Option R
first_of [] = None
first_of (test ∷ rest) = if test.0 then Some test.1 else first_of rest

-- the refusals under other names
abbrev pub renamed : {R S : Type 0} → (R → S) → Tests R → Tests S
renamed name [] = []
renamed name (test ∷ rest) = (test.0, name test.1) ∷ renamed name rest

-- the refusals of a wish to join
abbrev pub join_tests : Option Device → Tests JoinRefusal
join_tests place =
    (is_none place, JoinRefusal.NoDevice) ∷ (in_slot (λ d. is_some d.address) place, JoinRefusal.HasAddress)
    ∷ (in_slot (λ d. not d.kinds.join) place, JoinRefusal.Masked) ∷ []

-- a wish for the controller role, of slot s
abbrev pub role_tests : ℕ → ℕ → Option Device → Tests RoleRefusal
role_tests active s place =
    (is_none place, RoleRefusal.NoDevice) ∷ (s == active, RoleRefusal.IsActive)
    ∷ (in_slot (λ d. is_none d.address) place, RoleRefusal.NoAddress)
    ∷ (in_slot (λ d. not (is_capable d.identity.bcr)) place, RoleRefusal.NotCapable)
    ∷ (in_slot (λ d. not d.kinds.role) place, RoleRefusal.Masked) ∷ []

-- a slot that has raised so often can count no further raise
abbrev pub is_uncounted : ℕ → Bool
is_uncounted raised = nat_le (2 ^ 64 - 1) raised

-- Why a slot's device may not raise, in order. It has no address. It can't interrupt by its BCR. The byte is missing, or
-- the BCR has none. Its interrupts are disabled. Eight wait already, or no more can be counted.
abbrev pub raise_faults : Option ℕ → Bool → Option Device → Tests RaiseRefusal
raise_faults byte uncounted place =
    (in_slot (λ d. is_none d.address) place, RaiseRefusal.NoAddress)
    ∷ (in_slot (λ d. not (can_interrupt d.identity.bcr)) place, RaiseRefusal.NotCapable)
    ∷ (in_slot (λ d. not (same_bool (has_byte d.identity.bcr) (is_some byte))) place, RaiseRefusal.ByteMismatch)
    ∷ (in_slot (λ d. not d.kinds.interrupt) place, RaiseRefusal.Masked)
    ∷ (in_slot (λ d. nat_le WAITING (length d.waiting) || uncounted) place, RaiseRefusal.Full) ∷ []

-- why a raise is refused, in order: by the slot, then by its device
abbrev pub raise_tests : ℕ → ℕ → Option ℕ → Bool → Option Device → Tests RaiseRefusal
raise_tests active s byte uncounted place = (is_none place, RaiseRefusal.NoDevice) ∷ (s == active, RaiseRefusal.IsActive) ∷ raise_faults byte uncounted place
