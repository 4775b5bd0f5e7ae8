-- What the words of a value change dump (IEEE 1364) say of its signals, two of which are SCL and SDA.
use Rattle.std.specs.Prelude.{◌≡◌, ⊤, ℕ, ◌==◌, Bool, true, false, ◌&&◌, List, [], ◌∷◌, length, take, drop, codes, bytes_eq, Option, Some, None, Result, Ok, Err, MatchResult, if◌then◌else◌}
use Rattle.i3c_wave.specs.declared.capture.Value.{Value}
use Rattle.i3c_wave.specs.declared.capture_fault.CaptureFault.{CaptureFault}
use Rattle.i3c_wave.specs.declared.dump.Dump.{Dump}
use Rattle.i3c_wave.specs.declared.dump.Item.{Item}
use Rattle.i3c_wave.specs.declared.dump.Declaration.{Declaration}
use Rattle.i3c_wave.specs.declared.dump.LineSearch.{LineSearch}
use Rattle.i3c_wave.specs.declared.signals.LineSource.{LineSource}
use Rattle.i3c_wave.specs.declared.dump.DumpPosition.{DumpPosition}
use Rattle.i3c_wave.specs.declared.dump.DumpStep.{DumpStep}
use Rattle.i3c_wave.specs.declared.dump_word.Code.{Code}
use Rattle.i3c_wave.specs.declared.dump_word.Command.{Command}
use Rattle.i3c_wave.specs.declared.dump_word.Lead.{Lead}
use Rattle.i3c_wave.specs.declared.timescale.Magnitude.{Magnitude}
use Rattle.i3c_wave.specs.declared.timescale.Unit.{Unit}
use Rattle.i3c_wave.specs.DumpWords.{bit_in, code_of, command_of, digits_in, is_same_code, lead_of, number_of}
use Rattle.i3c_wave.specs.Timescales.{magnitude_of, one_nanosecond, unit_of}

-- a call has the result of this step
abbrev pub Says : Result DumpStep CaptureFault → Dump → Result Item CaptureFault → Type 0
Says outcome dump result = MatchResult result (λ item. outcome ≡ Ok (record { dump = dump; item = item })) (λ fault. outcome ≡ Err fault)

-- a dump before the first word: without a timescale a unit is 1 ns
abbrev pub new_dump : Dump
new_dump = record { place = DumpPosition.Between; scl = LineSearch.Missing; sda = LineSearch.Missing; scale = one_nanosecond; is_defined = false }

-- the dump at another place
abbrev pub at_place : Dump → DumpPosition → Dump
at_place dump place = record dump { place = place }

-- nothing is said of the lines
abbrev pub nothing : Dump → DumpStep
nothing dump = record { dump = dump; item = Item.Nothing }

-- a declaration is said
abbrev pub declaring : Dump → Declaration → DumpStep
declaring dump declaration = record { dump = dump; item = Item.Declared declaration }

-- a text ends between commands, behind the end of its declarations
abbrev pub ended_at : DumpPosition → Bool → ℕ → Result ⊤ CaptureFault
ended_at DumpPosition.Between true at = Ok tt
ended_at place defined at = Err (CaptureFault.BadWord at)

abbrev pub is_ended : Dump → ℕ → Result ⊤ CaptureFault
is_ended dump at = ended_at dump.place dump.is_defined at

-- another source of a line that was found: one signal may have several names
abbrev pub joined_to : LineSource → LineSource → LineSearch
joined_to first source = if is_same_code first.code source.code && first.bit == source.bit then LineSearch.Found first else LineSearch.Several

-- a line, behind the declaration of a signal that may be its source
abbrev pub joined : LineSearch → Option LineSource → LineSearch
joined line None = line
joined LineSearch.Missing (Some source) = LineSearch.Found source
joined (LineSearch.Found first) (Some source) = joined_to first source
joined LineSearch.Several (Some source) = LineSearch.Several

-- a signal was declared that may be the source of a line
abbrev pub declared_in : Dump → Option LineSource → Option LineSource → Dump
declared_in dump scl sda = record dump { scl = joined dump.scl scl; sda = joined dump.sda sda }

-- the value of a line, if it has the code for which the value is given
abbrev pub value_of : LineSearch → Code → Value → Option Value
value_of (LineSearch.Found source) code value = if is_same_code source.code code then Some value else None
value_of line code value = None

-- the value of a line in a vector, if it is a bit of it
abbrev pub vector_value : LineSearch → List ℕ → Value
vector_value (LineSearch.Found source) digits = bit_in digits source.bit
vector_value line digits = Value.Unknown

-- the place behind a vector
abbrev pub vector_place : Dump → List ℕ → DumpPosition
vector_place dump digits = DumpPosition.Vector (vector_value dump.scl digits) (vector_value dump.sda digits)

-- what the value of a signal says: the lines have these values if they are in it
abbrev pub value_said : Dump → Value → Value → Option Code → DumpStep
value_said dump scl sda None = nothing dump
value_said dump scl sda (Some code) = record { dump = dump; item = Item.Values (value_of dump.scl code scl) (value_of dump.sda code sda) }

-- the code behind a vector
abbrev pub behind_vector : Dump → Value → Value → List ℕ → DumpStep
behind_vector dump scl sda code = value_said (at_place dump DumpPosition.Between) scl sda (code_of code)

-- the step at the first word of a command
abbrev pub command_said : Dump → Command → Result DumpStep CaptureFault
command_said dump Command.End = Ok (nothing dump)
command_said dump Command.Values = Ok (nothing dump)
command_said dump Command.Timescale = Ok (nothing (at_place dump (DumpPosition.Scale None)))
command_said dump Command.Var = Ok (nothing (at_place dump DumpPosition.Kind))
command_said dump Command.Other = Ok (nothing (at_place dump DumpPosition.Passed))
command_said dump Command.Scope = Ok (declaring (at_place dump DumpPosition.ScopeKind) Declaration.Scope)
command_said dump Command.UpScope = Ok (declaring (at_place dump DumpPosition.Passed) Declaration.ScopeEnd)
command_said dump Command.EndDefinitions = Ok (declaring (at_place dump DumpPosition.Passed) Declaration.End)

-- the step at a time
abbrev pub time_said : Dump → ℕ → Option ℕ → Result DumpStep CaptureFault
time_said dump at None = Err (CaptureFault.BadTime at)
time_said dump at (Some time) = Ok (record { dump = dump; item = Item.Time time })

-- the value of a signal, which has a code
abbrev pub coded : Dump → Value → ℕ → List ℕ → Result DumpStep CaptureFault
coded dump value at [] = Err (CaptureFault.BadWord at)
coded dump value at (first ∷ rest) = Ok (value_said dump value value (code_of (first ∷ rest)))

-- a word between commands, by what it begins with
abbrev pub led_word : Dump → ℕ → Lead → List ℕ → List ℕ → Result DumpStep CaptureFault
led_word dump at Lead.Command word rest = command_said dump (command_of word)
led_word dump at Lead.Time word rest = time_said dump at (number_of rest)
led_word dump at Lead.Low word rest = coded dump Value.Low at rest
led_word dump at Lead.High word rest = coded dump Value.High at rest
led_word dump at Lead.NoLevel word rest = coded dump Value.Unknown at rest
led_word dump at Lead.Vector word rest = Ok (nothing (at_place dump (vector_place dump rest)))
led_word dump at Lead.Number word rest = Ok (nothing (at_place dump (DumpPosition.Vector Value.Unknown Value.Unknown)))
led_word dump at Lead.Other word rest = Err (CaptureFault.BadWord at)

-- the step at a word between commands
abbrev pub begun_word : Dump → ℕ → List ℕ → Result DumpStep CaptureFault
begun_word dump at [] = Err (CaptureFault.BadWord at)
begun_word dump at (first ∷ rest) = led_word dump at (lead_of first) (first ∷ rest) rest

-- the end of a command: a timescale is whole before it, and a signal has a name
abbrev pub ended_from : DumpPosition → Dump → ℕ → Result DumpStep CaptureFault
ended_from DumpPosition.Passed dump at = Ok (nothing (at_place dump DumpPosition.Between))
ended_from DumpPosition.Scaled dump at = Ok (nothing (at_place dump DumpPosition.Between))
ended_from DumpPosition.ScopeKind dump at = Ok (nothing (at_place dump DumpPosition.Between))
ended_from DumpPosition.ScopeName dump at = Ok (nothing (at_place dump DumpPosition.Between))
ended_from (DumpPosition.Named code width) dump at = Ok (declaring (at_place dump DumpPosition.Between) (Declaration.Signal code width))
ended_from (DumpPosition.Scale magnitude) dump at = Err (CaptureFault.BadTimescale at)
ended_from place dump at = Err (CaptureFault.BadWord at)

abbrev pub ended : Dump → ℕ → Result DumpStep CaptureFault
ended dump at = ended_from dump.place dump at

-- the unit of a timescale
abbrev pub scaled_unit : Dump → Magnitude → ℕ → Option Unit → Result DumpStep CaptureFault
scaled_unit dump magnitude at None = Err (CaptureFault.BadTimescale at)
scaled_unit dump magnitude at (Some unit) = Ok (nothing (record dump { place = DumpPosition.Scaled; scale = record { magnitude = magnitude; unit = unit } }))

-- the unit behind a number, or in a word of its own
abbrev pub scaled_by : Dump → Option Magnitude → ℕ → List ℕ → Result DumpStep CaptureFault
scaled_by dump None at unit = Err (CaptureFault.BadTimescale at)
scaled_by dump (Some magnitude) at unit = if length unit == 0 then Ok (nothing (at_place dump (DumpPosition.Scale (Some magnitude)))) else scaled_unit dump magnitude at (unit_of unit)

-- a word of a timescale: its number, its unit, or both
abbrev pub scale_word : Dump → Option Magnitude → ℕ → List ℕ → Result DumpStep CaptureFault
scale_word dump None at word = scaled_by dump (magnitude_of (take (digits_in word) word)) at (drop (digits_in word) word)
scale_word dump (Some magnitude) at word = if digits_in word == 0 then scaled_unit dump magnitude at (unit_of word) else Err (CaptureFault.BadTimescale at)

-- a word of a declaration
abbrev pub declaring_from : DumpPosition → Dump → List ℕ → DumpStep
declaring_from DumpPosition.Kind dump word = nothing (at_place dump DumpPosition.Width)
declaring_from DumpPosition.Width dump word = nothing (at_place dump (DumpPosition.Code (number_of word)))
declaring_from (DumpPosition.Code width) dump word = nothing (at_place dump (DumpPosition.Name (code_of word) width))
declaring_from (DumpPosition.Name code width) dump word = declaring (at_place dump (DumpPosition.Named code width)) Declaration.SignalName
declaring_from (DumpPosition.Named code width) dump word = declaring (at_place dump (DumpPosition.Named code width)) Declaration.SignalName
declaring_from DumpPosition.ScopeKind dump word = nothing (at_place dump DumpPosition.ScopeName)
declaring_from DumpPosition.ScopeName dump word = declaring (at_place dump DumpPosition.Passed) Declaration.ScopeName
declaring_from place dump word = nothing dump

-- a word inside a command: none is behind the unit of a timescale
abbrev pub inside_from : DumpPosition → Dump → ℕ → List ℕ → Result DumpStep CaptureFault
inside_from (DumpPosition.Scale magnitude) dump at word = scale_word dump magnitude at word
inside_from DumpPosition.Scaled dump at word = Err (CaptureFault.BadTimescale at)
inside_from place dump at word = Ok (declaring_from place dump word)

abbrev pub inside : Dump → ℕ → List ℕ → Result DumpStep CaptureFault
inside dump at word = inside_from dump.place dump at word

-- the step at the next word
abbrev pub word_from : DumpPosition → Dump → ℕ → List ℕ → Result DumpStep CaptureFault
word_from DumpPosition.Between dump at word = begun_word dump at word
word_from (DumpPosition.Vector scl sda) dump at word = Ok (behind_vector dump scl sda word)
word_from place dump at word = if bytes_eq word (codes "$end") then ended dump at else inside dump at word

abbrev pub word_said : Dump → ℕ → List ℕ → Result DumpStep CaptureFault
word_said dump at word = word_from dump.place dump at word
