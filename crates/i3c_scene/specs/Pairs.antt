-- The ways of two devices in one frame, by a number.
use Rattle.std.specs.Prelude.{◌≡◌, ℕ, zero, suc, ◌+◌, ◌*◌, ◌==◌, nat_le, if◌then◌else◌}
use Rattle.i3c_scene.specs.declared.ways.Ways.{Ways}

abbrev pub two_ways : ℕ → ℕ → Ways
two_ways one other = record { one = one; other = other }

-- the next pair. Pairs come by their larger way. Of pairs with the same larger way, first come those in which only the first device has it, then those in which only the second has it, and last the pair in which both have it
abbrev pub next_pair : ℕ → ℕ → Ways
next_pair one other = if nat_le one other then two_ways (suc one) (if one == other then 0 else other) else if suc other == one then two_ways 0 one else two_ways one (suc other)

-- the pair with this number: in the pair with the number 0 nobody is cut
abbrev pub pair : ℕ → Ways
pair zero = two_ways 0 0
pair (suc number) = next_pair (pair number).one (pair number).other

-- the number of the last pair in which no way is over this one
abbrev pub last_pair : ℕ → ℕ
last_pair last = last * last + (last + last)

-- a way, or way 0 if it is over the last one
abbrev pub within : ℕ → ℕ → ℕ
within last way = if nat_le way last then way else 0

-- these ways, each of them 0 if it is over the last one
abbrev pub both_within : ℕ → Ways → Ways
both_within last ways = two_ways (within last ways.one) (within last ways.other)

-- each pair of ways has a number
abbrev pub EachIsAPair : Type 0
EachIsAPair = (one other : ℕ) → (number : ℕ) × (pair number ≡ two_ways one other)
