-- What a device does with a command that it hears.
use Rattle.std.specs.Prelude.{ℕ, ◌/◌, ◌==◌, ◌&&◌, nat_le, nat_lt, List, [], ◌∷◌, Option, Some, None, is_none, is_some, if◌then◌else◌}
use Rattle.i3c_base.specs.declared.datum.Direction.{Direction}
use Rattle.i3c_base.specs.declared.device.TheConstants.{REGISTERS}
use Rattle.i3c_base.specs.Numbers.{KindSet, kind_set}
use Rattle.i3c_base.specs.State.{Device}
use Rattle.i3c_base.specs.Round.{hears, winner}
use Rattle.i3c_base.specs.Frames.{limited, readdressed, unaddressed_device, with_kinds, without_kinds}
use Rattle.i3c_word.specs.declared.Word.{Word}
use Rattle.i3c_ccc.specs.declared.codes.Code.{Code}
use Rattle.i3c_ccc.specs.declared.codes.Code.TheVariants.{Enec, Disec, Rstdaa, Entdaa, Deftgts, SetLength, EnecDirect, DisecDirect, Setdasa, Setnewda, SetLengthDirect, Get, Getacccr, Other}

-- the kinds that a command's byte names: the first word's, none where there is no word
abbrev pub named_kinds : List Word → KindSet
named_kinds [] = kind_set (record { 0 = 0 })
named_kinds (word ∷ rest) = kind_set (record { 0 = word.byte })

-- a device with more kinds enabled
abbrev pub enabled : KindSet → Device → Device
enabled kinds d = record d { kinds = with_kinds d.kinds kinds }

-- a device with fewer kinds enabled
abbrev pub disabled : KindSet → Device → Device
disabled kinds d = record d { kinds = without_kinds d.kinds kinds }

-- the dynamic address in bits 7:1 of a byte; none below 08
abbrev pub dynamic_address : ℕ → Option ℕ
dynamic_address byte = if nat_le 0x08 (byte / 2) then Some (byte / 2) else None

-- the dynamic address that a command's first word names
abbrev pub named_address : List Word → Option ℕ
named_address [] = None
named_address (word ∷ rest) = dynamic_address word.byte

-- the length that a command's first two words name, the more significant byte first; none but 1 to 16
abbrev pub named_length : List Word → Option ℕ
named_length (upper ∷ lower ∷ rest) = if upper.byte == 0 && (nat_lt 0 lower.byte && nat_le lower.byte REGISTERS) then Some lower.byte else None
named_length _ = None

-- a device after SETDASA with this address: it takes it if it has a static address and no dynamic one
abbrev pub set_static : Option ℕ → Device → Device
set_static None d = d
set_static (Some a) d = if is_none d.address && is_some d.fixed then winner a d else d

-- a device after SETNEWDA with this address: it has it in place of the one that it had
abbrev pub set_new : Option ℕ → Device → Device
set_new None d = d
set_new (Some a) d = if is_some d.address then readdressed a d else d

-- a device after SETMWL or SETMRL with this length
abbrev pub set_length : Direction → Option ℕ → Device → Device
set_length way None d = d
set_length way (Some most) d = limited way most d

-- a device after a command: ENEC and DISEC enable and disable, ENTDAA opens a session, RSTDAA takes address and role wish,
-- SETDASA and SETNEWDA give an address, SETMWL and SETMRL a maximum length; the other codes change nothing
abbrev pub heard : Code → List Word → Device → Device
heard Enec words d = enabled (named_kinds words) d
heard EnecDirect words d = enabled (named_kinds words) d
heard Disec words d = disabled (named_kinds words) d
heard DisecDirect words d = disabled (named_kinds words) d
heard Entdaa words d = hears d
heard Rstdaa words d = unaddressed_device d
heard Deftgts words d = d
heard (SetLength way) words d = set_length way (named_length words) d
heard Setdasa words d = set_static (named_address words) d
heard Setnewda words d = set_new (named_address words) d
heard (SetLengthDirect way) words d = set_length way (named_length words) d
heard (Get what) words d = d
heard Getacccr words d = d
heard (Other byte) words d = d
