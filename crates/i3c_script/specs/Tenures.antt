-- The active controllers at the times when interrupts were recorded.
use Rattle.std.specs.Prelude.{ℕ, zero, suc, List, Option, Some, None, slice_get}
use Rattle.i3c_script.specs.declared.tenures.Tenure.{Tenure}

-- how many records there were when a time ended
abbrev pub records_at : Option Tenure → ℕ
records_at None = 0
records_at (Some tenure) = tenure.records

-- the number of records when the tenure with this number began
abbrev pub began_at : List Tenure → ℕ → ℕ
began_at ended zero = 0
began_at ended (suc k) = records_at (slice_get ended k)
