-- The contenders of a round, and their numbers.
use Rattle.std.specs.Prelude.{ℕ, suc, ◌≡◌, true, List, [], ◌∷◌, ◌++◌, Option, None, Some, if◌then◌else◌, slice_index_or}
use Rattle.i3c_base.specs.Numbers.{IsInRange, number_of}
use Rattle.i3c_base.specs.State.{Device}

-- the contender of a slot, if its device hears
abbrev pub contender : ℕ → Option Device → List (ℕ × ℕ)
contender slot None = []
contender slot (Some d) = if d.hearing then (slot, number_of d.identity) ∷ [] else []

-- the hearers among the places from this slot on, each with its number
unfoldable pub contenders_from : ℕ → List (Option Device) → List (ℕ × ℕ)
contenders_from slot [] = []
contenders_from slot (place ∷ places) = contender slot place ++ contenders_from (suc slot) places

-- the device in the key's slot hears, and the key is its number
pub record IsContenderKey (devices : List (Option Device)) (key : ℕ × ℕ) : Type 0 where
  pub device : Device
  pub there : slice_index_or devices key.0 None ≡ Some device
  pub hearing : device.hearing ≡ true
  pub number : key.1 ≡ number_of device.identity
  pub in_range : IsInRange device.identity
