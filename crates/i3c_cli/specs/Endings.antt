-- Why the program gives up, and what lines came to.
use Rattle.std.specs.Prelude.{ℕ, ◌==◌, Bool, true, false, Option, Some, None, Result, Ok, Err, if◌then◌else◌}
use Rattle.i3c_frame.specs.declared.traces.TraceFault.{TraceFault}
use Rattle.i3c_streams.specs.declared.faults.ScriptFault.{ScriptFault}
use Rattle.i3c_streams.specs.declared.tally.Tally.{Tally}
use Rattle.i3c_stress.specs.declared.report.StressFault.{StressFault}
use Rattle.i3c_task.specs.declared.words_fault.WordsFault.{WordsFault}
use Rattle.i3c_wave.specs.declared.capture_fault.CaptureFault.{CaptureFault}
use Rattle.i3c_cli.specs.declared.fault.Fault.{Fault}

-- a script's fault, as standard error is told
abbrev pub told_as : ScriptFault → Fault
told_as ScriptFault.Memory = Fault.Memory
told_as ScriptFault.Read = Fault.Read
told_as ScriptFault.Write = Fault.Write
told_as ScriptFault.TooLarge = Fault.TooLarge

-- the program's fault for a fault of devices on threads
abbrev pub stress_told_as : StressFault → Fault
stress_told_as StressFault.Memory = Fault.Memory
stress_told_as StressFault.NotBalanced = Fault.NotBalanced

-- the program's fault for a fault of a capture
abbrev pub capture_told_as : CaptureFault → Fault
capture_told_as CaptureFault.Memory = Fault.Memory
capture_told_as CaptureFault.Read = Fault.Read
capture_told_as fault = Fault.Capture fault

-- the program's fault for a fault of the command line
abbrev pub words_told_as : WordsFault → Fault
words_told_as WordsFault.Memory = Fault.Memory
words_told_as fault = Fault.Words fault

-- a script's own fault comes first; output that isn't taken to its end is lost
abbrev pub ending : Result Tally ScriptFault → Bool → Result Tally Fault
ending (Err fault) flushed = Err (told_as fault)
ending (Ok tally) true = Ok tally
ending (Ok tally) false = Err Fault.Write

-- the same where the fault is the program's already
abbrev pub flushed_ending : Result Tally Fault → Bool → Result Tally Fault
flushed_ending (Err fault) flushed = Err fault
flushed_ending (Ok tally) true = Ok tally
flushed_ending (Ok tally) false = Err Fault.Write

-- a waveform's own fault comes first; a trace with a fault is a refused line
abbrev pub wave_ending : Result (Option TraceFault) ScriptFault → Bool → Result Tally Fault
wave_ending (Err fault) flushed = Err (told_as fault)
wave_ending (Ok fault) false = Err Fault.Write
wave_ending (Ok None) true = Ok (record { refused = 0; unmet = 0 })
wave_ending (Ok (Some fault)) true = Ok (record { refused = 1; unmet = 0 })

-- 0 if each line was done and each expectation met, 1 if a line was refused, 3 if an expectation wasn't met, refused lines or
-- not
abbrev pub tally_status : Tally → ℕ
tally_status tally = if tally.unmet == 0 then (if tally.refused == 0 then 0 else 1) else 3
