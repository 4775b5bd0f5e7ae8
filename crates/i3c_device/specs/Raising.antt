-- When a device may raise an interrupt.
use Rattle.std.specs.Prelude.{ℕ, Bool, true, false, List, [], ◌∷◌, Option, Some, None, if◌then◌else◌}
use Rattle.i3c_base.specs.declared.device.Waiting.{Waiting}
use Rattle.i3c_base.specs.Refusing.{first_of, is_uncounted, raise_faults}
use Rattle.i3c_base.specs.State.{Device}
use Rattle.i3c_base.specs.declared.refusals.RaiseRefusal.{RaiseRefusal}
use Rattle.i3c_base.specs.declared.refusals.RaiseRefusal.TheVariants.{Full}

-- the first fault of a device's raise with this byte, as long as the slot's raises can be counted
abbrev pub raise_fault : Device → Option ℕ → Option RaiseRefusal
raise_fault d byte = first_of (raise_faults byte false (Some d))

-- the fault, or that the slot's raises can't be counted further
abbrev pub or_uncounted : Option RaiseRefusal → ℕ → Option RaiseRefusal
or_uncounted (Some fault) raised = Some fault
or_uncounted None raised = if is_uncounted raised then Some Full else None

-- the first fault of a device's next raise, where `raised` of its slot were accepted
abbrev pub next_fault : Device → Option ℕ → ℕ → Option RaiseRefusal
next_fault d byte raised = or_uncounted (raise_fault d byte) raised

-- a device whose interrupts are enabled, or aren't
abbrev pub interrupting_if : Bool → Device → Device
interrupting_if enabled d = record d { kinds = record { interrupt = enabled; role = true; join = true } }

-- the byte of the interrupt that waits at the front
abbrev pub front_byte : List Waiting → Option ℕ
front_byte [] = None
front_byte (w ∷ ws) = w.byte
