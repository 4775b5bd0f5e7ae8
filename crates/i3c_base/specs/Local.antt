-- What a device does by itself: attaching, dropping off, raising and asking.
use Rattle.std.specs.Prelude.{ℕ, suc, true, [], ◌∷◌, ◌++◌, Option, Some, None, slice_set}
use Rattle.i3c_base.specs.declared.device.Setup.{Setup}
use Rattle.i3c_base.specs.State.{Device, State, attached, change, fixed_of, raised_at}

-- a device enters an empty slot; its static address is the one that is declared for its identity
abbrev pub attach : ℕ → Setup → State → State
attach s setup st = record st { devices = slice_set st.devices s (Some (attached (fixed_of st.declared setup.identity) setup)) }

-- a slot becomes empty; the rest is unchanged
abbrev pub drop_off : ℕ → State → State
drop_off s st = record st { devices = slice_set st.devices s None }

-- a device with one more interrupt that waits
abbrev pub with_raise : ℕ → Option ℕ → Device → Device
with_raise number byte d = record d { waiting = d.waiting ++ record { number = number; byte = byte } ∷ [] }

-- the slot's next raise goes to the end of its waiting list
abbrev pub raise : ℕ → Option ℕ → State → State
raise s byte st = record (change s (with_raise (suc (raised_at st s)) byte) st) {
  raised = slice_set st.raised s (suc (raised_at st s));
}

-- a device that wishes for the controller role
abbrev pub wishing_role : Device → Device
wishing_role d = record d { role_wish = true }

-- the slot's device wishes for the role
abbrev pub ask_role : ℕ → State → State
ask_role s st = change s wishing_role st

-- a device that wishes to join
abbrev pub wishing_join : Device → Device
wishing_join d = record d { join_wish = true }

-- the slot's device wishes to join
abbrev pub ask_join : ℕ → State → State
ask_join s st = change s wishing_join st
