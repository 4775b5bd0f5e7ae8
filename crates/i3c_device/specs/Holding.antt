-- Properties of the device in a slot, if any.
use Rattle.std.specs.Prelude.{ℕ, length, Option, Some, None, slice_get}
use Rattle.i3c_base.specs.declared.datum.Direction.{Direction}
use Rattle.i3c_base.specs.declared.device.TheConstants.{REGISTERS}
use Rattle.i3c_base.specs.declared.device.Waiting.{Waiting}
use Rattle.i3c_base.specs.declared.identity.Identity.{Identity}
use Rattle.i3c_base.specs.Frames.{length_of}
use Rattle.i3c_base.specs.State.{Device}
use Rattle.i3c_device.specs.Raising.{front_byte}

-- the identity of the device in a slot
abbrev pub identity_in : Option Device → Option Identity
identity_in None = None
identity_in (Some d) = Some d.identity

-- the dynamic address of the device in a slot
abbrev pub address_in : Option Device → Option ℕ
address_in None = None
address_in (Some d) = d.address

-- the maximum length of writes or reads of the device in a slot; for an empty slot the number of registers
abbrev pub length_in : Direction → Option Device → ℕ
length_in way None = REGISTERS
length_in way (Some d) = length_of way d

-- how many of its interrupts wait
abbrev pub waiting_in : Option Device → ℕ
waiting_in None = 0
waiting_in (Some d) = length d.waiting

-- the interrupt that waits at its front
abbrev pub front_in : Option Device → Option Waiting
front_in None = None
front_in (Some d) = slice_get d.waiting 0

-- the byte of that interrupt
abbrev pub byte_in : Option Device → Option ℕ
byte_in None = None
byte_in (Some d) = front_byte d.waiting
