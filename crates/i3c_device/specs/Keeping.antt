-- Places that are kept in short.
use Rattle.std.specs.Prelude.{◌≡◌, ℕ, true, List, Option, None, is_some, slice_index_or}
use Rattle.i3c_base.specs.Places.{changed}
use Rattle.i3c_base.specs.State.{Device, no_devices}

-- each slot with the device that is kept for it, or empty
abbrev pub unpacked : List (Option Device) → List (Option Device)
unpacked kept = changed (λ slot empty. slice_index_or kept slot None) no_devices

-- both hold a device in a slot
abbrev pub IsHeld : List (Option Device) → List (Option Device) → ℕ → Type 0
IsHeld kept places s = (is_some (slice_index_or kept s None) ≡ true) × (is_some (slice_index_or places s None) ≡ true)
