-- The first state of a bus.
use Rattle.std.specs.Prelude.{ℕ}
use Rattle.i3c_base.specs.declared.device.Setup.{Setup}
use Rattle.i3c_base.specs.State.{Board, State, addressed, unaddressed}

-- the first state of a bus: its main controller in slot 0 at this address, and what has a static one
abbrev pub first_state : Setup → ℕ → Board → State
first_state main address board = addressed 0 address main.identity (unaddressed main board)
