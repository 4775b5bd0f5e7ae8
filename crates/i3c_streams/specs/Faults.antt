-- How the run of a script may end early.
use Rattle.std.specs.Prelude.{◌≡◌, ◌⊎◌}
use Rattle.i3c_streams.specs.declared.faults.ScriptFault.{ScriptFault}

-- a fault that a line may end the run with
abbrev pub IsLineFault : ScriptFault → Type 0
IsLineFault fault = (fault ≡ ScriptFault.Memory) ⊎ (fault ≡ ScriptFault.Write)
