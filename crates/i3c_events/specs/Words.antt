-- ENEC, DISEC, SETDASA, SETNEWDA, SETMWL and SETMRL as words.
use Rattle.std.specs.Prelude.{ℕ, ◌+◌, ◌*◌, Option, Some, None}
use Rattle.i3c_base.specs.declared.datum.Direction.{Direction}
use Rattle.i3c_base.specs.Numbers.{KindSet}
use Rattle.i3c_word.specs.Parity.{bit_of}
use Rattle.i3c_ccc.specs.declared.codes.Code.{Code}
use Rattle.i3c_ccc.specs.declared.codes.Code.TheVariants.{Enec, Disec, EnecDirect, DisecDirect}
use Rattle.i3c_events.specs.declared.setting.Setting.{Setting}
use Rattle.i3c_base.specs.declared.kinds.Change.{Change}
use Rattle.i3c_base.specs.declared.kinds.Change.TheVariants.{Enable, Disable}

-- the command's code, broadcast or to one address
abbrev pub command : Change → Option ℕ → Code
command Enable None = Enec
command Disable None = Disec
command Enable (Some a) = EnecDirect
command Disable (Some a) = DisecDirect

-- the byte of the command's code, broadcast or to one address
abbrev pub code_byte : Change → Option ℕ → ℕ
code_byte Enable None = 0x00
code_byte Disable None = 0x01
code_byte Enable (Some a) = 0x80
code_byte Disable (Some a) = 0x81

-- the byte that names kinds: bit 0 interrupts, bit 1 role requests, bit 3 Hot-Join, and no other bit
abbrev pub kinds_byte : KindSet → ℕ
kinds_byte kinds = bit_of kinds.interrupt + 2 * bit_of kinds.role + 8 * bit_of kinds.join

-- the byte of the code that sets an address
abbrev pub setting_byte : Setting → ℕ
setting_byte Setting.Static = 0x87
setting_byte Setting.New = 0x88

-- the byte of the code that sets a maximum length, broadcast or to one address
abbrev pub length_code_byte : Direction → Option ℕ → ℕ
length_code_byte Direction.Write None = 0x09
length_code_byte Direction.Read None = 0x0A
length_code_byte Direction.Write (Some a) = 0x89
length_code_byte Direction.Read (Some a) = 0x8A
