-- What a capture counts its times in.
use Rattle.std.specs.Prelude.{ℕ, ◌/◌, max, ◌++◌, List, [], codes, decimal, bytes_eq, Option, Some, None, if◌then◌else◌}
use Rattle.i3c_wave.specs.declared.timescale.Instant.{Instant}
use Rattle.i3c_wave.specs.declared.timescale.Magnitude.{Magnitude}
use Rattle.i3c_wave.specs.declared.timescale.Timescale.{Timescale}
use Rattle.i3c_wave.specs.declared.timescale.Unit.{Unit}

-- the number of a timescale's units
abbrev pub magnitude_of : List ℕ → Option Magnitude
magnitude_of digits = if bytes_eq digits (codes "1") then Some Magnitude.One
    else (if bytes_eq digits (codes "10") then Some Magnitude.Ten
    else (if bytes_eq digits (codes "100") then Some Magnitude.Hundred else None))

-- the unit of a word
abbrev pub unit_of : List ℕ → Option Unit
unit_of word = if bytes_eq word (codes "ns") then Some Unit.Nanoseconds
    else (if bytes_eq word (codes "ps") then Some Unit.Picoseconds
    else (if bytes_eq word (codes "fs") then Some Unit.Femtoseconds
    else (if bytes_eq word (codes "us") then Some Unit.Microseconds
    else (if bytes_eq word (codes "ms") then Some Unit.Milliseconds
    else (if bytes_eq word (codes "s") then Some Unit.Seconds else None)))))

-- 3 ns in a unit of time, rounded up
abbrev pub unit_setup : Unit → ℕ
unit_setup Unit.Femtoseconds = 3000000
unit_setup Unit.Picoseconds = 3000
unit_setup Unit.Nanoseconds = 3
unit_setup Unit.Microseconds = 1
unit_setup Unit.Milliseconds = 1
unit_setup Unit.Seconds = 1

-- the same in one, ten or a hundred of them: one at least
abbrev pub scaled : ℕ → Magnitude → ℕ
scaled setup Magnitude.One = setup
scaled setup Magnitude.Ten = max (setup / 10) 1
scaled setup Magnitude.Hundred = max (setup / 100) 1

abbrev pub setup_of : Timescale → ℕ
setup_of scale = scaled (unit_setup scale.unit) scale.magnitude

-- 1 ns, which is the timescale of a capture that doesn't tell its own
abbrev pub one_nanosecond : Timescale
one_nanosecond = record { magnitude = Magnitude.One; unit = Unit.Nanoseconds }

-- the zeros that a number of tens or hundreds has behind it
abbrev pub zeros : Magnitude → List ℕ
zeros Magnitude.One = []
zeros Magnitude.Ten = codes "0"
zeros Magnitude.Hundred = codes "00"

-- the name of a unit behind a number
abbrev pub unit_text : Unit → List ℕ
unit_text Unit.Seconds = codes " s"
unit_text Unit.Milliseconds = codes " ms"
unit_text Unit.Microseconds = codes " us"
unit_text Unit.Nanoseconds = codes " ns"
unit_text Unit.Picoseconds = codes " ps"
unit_text Unit.Femtoseconds = codes " fs"

-- a time in its timescale's unit
abbrev pub instant_text : Instant → List ℕ
instant_text instant = decimal instant.time ++ (zeros instant.scale.magnitude ++ unit_text instant.scale.unit)
