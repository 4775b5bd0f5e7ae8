-- A bus, of its parts.
use Rattle.std.specs.Prelude.{ℕ, Bool, List, Option}
use Rattle.i3c_base.specs.declared.device.LegacyTarget.{LegacyTarget}
use Rattle.i3c_base.specs.declared.requests.Record.{Record}
use Rattle.i3c_base.specs.Covered.{Table}
use Rattle.i3c_base.specs.State.{Device, State}

-- the state of a bus: its devices and their raises by slot, the active controller, its table and the legacy targets, and
-- the records
abbrev pub state_of : List (Option Device) → List ℕ → ℕ → Table → List (Option LegacyTarget) → Bool → List Record → State
state_of devices raised active table legacy in_session records = record {
  devices = devices;
  raised = raised;
  active = active;
  legacy = legacy;
  declared = table.declared;
  given = table.given;
  in_session = in_session;
  listed = table.listed;
  records = records;
}
