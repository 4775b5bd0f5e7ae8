-- The numbers of slots, transposed, and the contest on them. Nobody is cut.
use Rattle.std.specs.Prelude.{ℕ, ◌≡◌, ◌^◌, ◌<◌, ◌≤◌, ◌==◌, Bool, true, false, ◌&&◌, List, length, slice_index}
use Rattle.std.specs.Int.{bit_at}
use Rattle.i3c_base.specs.declared.range.TheConstants.{SLOTS}
use Rattle.i3c_wires.specs.declared.bit_columns.BitColumns.{BitColumns}
use Rattle.i3c_wires.specs.declared.bit_columns.Won.{Won}

-- the slot is in the set
abbrev pub is_among : ℕ → ℕ → Bool
is_among slots s = bit_at slots s == 1

-- for each bit the slots whose number has it, and of all bits at least those that some number has
pub record AreTurned (columns : BitColumns) : Type 0 where
  pub every : length columns.numbers ≡ SLOTS
  pub bits : length columns.ones ≡ 64
  pub fit : (s : ℕ) → s < SLOTS → slice_index columns.numbers s < 2 ^ 64
  pub turned : (b s : ℕ) → b < 64 → s < SLOTS → bit_at (slice_index columns.ones b) s ≡ bit_at (slice_index columns.numbers s) b
  pub known : (b s : ℕ) → b < 64 → s < SLOTS → bit_at columns.any b ≡ 0 → bit_at (slice_index columns.numbers s) b ≡ 0

-- no slot is in the set
abbrev pub IsNobody : ℕ → Type 0
IsNobody among = (s : ℕ) → s < SLOTS → is_among among s ≡ false

-- the winners are the slots, of these, with the number that was read: at least one, and none of these has a lower number
pub record IsWon (numbers : List ℕ) (among : ℕ) (won : Won) : Type 0 where
  pub winners : (s : ℕ) → s < SLOTS → is_among won.winners s ≡ (is_among among s && slice_index numbers s == won.bits)
  pub some : (s : ℕ) × (s < SLOTS) × (is_among won.winners s ≡ true)
  pub lowest : (s : ℕ) → s < SLOTS → is_among among s ≡ true → won.bits ≤ slice_index numbers s
