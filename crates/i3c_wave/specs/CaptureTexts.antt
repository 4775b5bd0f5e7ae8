-- The text of a capture: its words, the frames that are found in them, and its first fault.
use Rattle.std.specs.Prelude.{◌≡◌, ◌⊎◌, ℕ, ◌+◌, ◌==◌, min, nat_lt, Bool, true, not, ◌&&◌, List, [], ◌∷◌, ◌++◌, length, position, unwrap_or, ⊤, Option, Some, None, Result, Ok, Err, MatchResult, if◌then◌else◌}
use Rattle.i3c_base.specs.declared.addresses.Addresses.{Addresses}
use Rattle.i3c_wave.specs.declared.capture.Capture.{Capture}
use Rattle.i3c_wave.specs.declared.capture.CaptureEvent.{CaptureEvent}
use Rattle.i3c_wave.specs.declared.capture_fault.CaptureFault.{CaptureFault}
use Rattle.i3c_wave.specs.declared.capture_text.CaptureWords.{CaptureWords}
use Rattle.i3c_wave.specs.declared.dump.Declaration.{Declaration}
use Rattle.i3c_wave.specs.declared.dump.Item.{Item}
use Rattle.i3c_wave.specs.declared.dump.LineSearch.{LineSearch}
use Rattle.i3c_wave.specs.declared.dump.DumpStep.{DumpStep}
use Rattle.i3c_wave.specs.declared.captured.Captured.{Captured}
use Rattle.i3c_wave.specs.declared.dump_word.Code.{Code}
use Rattle.i3c_wave.specs.Captures.{Heard, at_time, changed, heard, new_capture, with_values}
use Rattle.i3c_wave.specs.Declarations.{Declarations}
use Rattle.i3c_wave.specs.Dumps.{declared_in, is_ended, new_dump, word_said}
use Rattle.i3c_wave.specs.Found.{Found, found_in, nothing_found, with_any}
use Rattle.i3c_wave.specs.Signals.{entered, left, listed, named_on, no_signals, scope_named, source_in}
use Rattle.i3c_wave.specs.Timescales.{setup_of}

-- what is read of a text: its whole words, the letters of a word that is open, and what is found in it
pub record Input : Type 0 where
  pub reached : CaptureWords
  pub word : List ℕ
  pub found : Found

-- what a text is read as so far
abbrev pub input : CaptureWords → List ℕ → Found → Input
input reached word found = record { reached = reached; word = word; found = found }

-- what is read of whole words, and the event that is whole by the last of them
pub record Taken : Type 0 where
  pub reached : CaptureWords
  pub event : Option CaptureEvent

-- the words of a capture before the first one
abbrev pub new_reached : Addresses → CaptureWords
new_reached legacies = record { dump = new_dump; signals = no_signals; capture = new_capture legacies; line = 1 }

-- a space, or a control byte like a tab or a line feed
abbrev pub is_space : ℕ → Bool
is_space byte = nat_lt byte 33

-- what is heard of the lines
abbrev pub taken_from : CaptureWords → Heard → Taken
taken_from reached heard = record { reached = record reached { capture = heard.capture }; event = heard.event }

-- the result of a time: the capture goes on to it, unless it is too early
abbrev pub time_taken : CaptureWords → Option Capture → Result Taken CaptureFault
time_taken reached None = Err (CaptureFault.BadTime reached.line)
time_taken reached (Some capture) = Ok (record { reached = record reached { capture = capture }; event = None })

-- a line has no signal, or several
abbrev pub scl_fault : LineSearch → List ℕ → Option CaptureFault
scl_fault LineSearch.Missing names = Some (CaptureFault.NoScl names)
scl_fault LineSearch.Several names = Some (CaptureFault.SeveralScl names)
scl_fault (LineSearch.Found source) names = None

abbrev pub sda_fault : LineSearch → List ℕ → Option CaptureFault
sda_fault LineSearch.Missing names = Some (CaptureFault.NoSda names)
sda_fault LineSearch.Several names = Some (CaptureFault.SeveralSda names)
sda_fault (LineSearch.Found source) names = None

-- the first line that hasn't one signal is a fault
abbrev pub lines_fault : LineSearch → LineSearch → List ℕ → Option CaptureFault
lines_fault (LineSearch.Found source) sda names = sda_fault sda names
lines_fault scl sda names = scl_fault scl names

abbrev pub fault_of_lines : CaptureWords → Option CaptureFault
fault_of_lines reached = lines_fault reached.dump.scl reached.dump.sda reached.signals.names

-- these are the signals from now on
abbrev pub with_signals : CaptureWords → Declarations → Taken
with_signals reached signals = record { reached = record reached { signals = signals }; event = None }

-- the declarations end, if both lines have one signal
abbrev pub defined : CaptureWords → Option CaptureFault → Result Taken CaptureFault
defined reached None = Ok (record { reached = record reached { dump = record reached.dump { is_defined = true } }; event = None })
defined reached (Some fault) = Err fault

-- a signal was declared, and may be a line
abbrev pub with_signal : List ℕ → List ℕ → CaptureWords → Option Code → Option ℕ → CaptureWords
with_signal scl sda reached code width = record reached { dump = declared_in reached.dump (source_in reached.signals scl code width) (source_in reached.signals sda code width) }

-- what a word declares
abbrev pub declared : List ℕ → List ℕ → CaptureWords → List ℕ → Declaration → Result Taken CaptureFault
declared scl sda reached word Declaration.Scope = Ok (with_signals reached (entered reached.signals))
declared scl sda reached word Declaration.ScopeName = Ok (with_signals reached (scope_named reached.signals word))
declared scl sda reached word Declaration.ScopeEnd = Ok (with_signals reached (left reached.signals))
declared scl sda reached word Declaration.SignalName = Ok (with_signals reached (named_on reached.signals word))
declared scl sda reached word (Declaration.Signal code width) = Ok (with_signals (with_signal scl sda reached code width) (listed reached.signals))
declared scl sda reached word Declaration.End = defined reached (fault_of_lines reached)

-- what a word says is heard
abbrev pub item_heard : List ℕ → List ℕ → CaptureWords → List ℕ → Item → Result Taken CaptureFault
item_heard scl sda reached word (Item.Declared declaration) = declared scl sda reached word declaration
item_heard scl sda reached word Item.Nothing = Ok (record { reached = reached; event = None })
item_heard scl sda reached word (Item.Time time) = time_taken reached (at_time reached.capture time)
item_heard scl sda reached word (Item.Values clock other) = Ok (taken_from reached (changed (setup_of reached.dump.scale) reached.capture (with_values reached.capture.lines clock other)))

-- what a word says, if it says something
abbrev pub said_taken : List ℕ → List ℕ → CaptureWords → List ℕ → Result DumpStep CaptureFault → Result Taken CaptureFault
said_taken scl sda reached word (Ok said) = item_heard scl sda (record reached { dump = said.dump }) word said.item
said_taken scl sda reached word (Err fault) = Err fault

-- the result of the next word
abbrev pub word_taken : List ℕ → List ℕ → CaptureWords → List ℕ → Result Taken CaptureFault
word_taken scl sda reached word = said_taken scl sda reached word (word_said reached.dump reached.line word)

-- a word is whole, and an event may be by it
abbrev pub kept : Found → Result Taken CaptureFault → Result Input CaptureFault
kept found (Ok taken) = Ok (record { reached = taken.reached; word = []; found = with_any taken.reached.dump.scale found taken.event })
kept found (Err fault) = Err fault

-- the end of a word, if it has letters
abbrev pub word_ended : List ℕ → List ℕ → Input → Result Input CaptureFault
word_ended scl sda input = if length input.word == 0 then Ok input else kept input.found (word_taken scl sda input.reached input.word)

-- the words behind a space: a line feed ends a line
abbrev pub behind : CaptureWords → ℕ → CaptureWords
behind reached byte = if byte == 10 then record reached { line = min (reached.line + 1) 18446744073709551615 } else reached

-- the state behind the space that ends a word
abbrev pub parted : ℕ → Result Input CaptureFault → Result Input CaptureFault
parted byte (Ok input) = Ok (record input { reached = behind input.reached byte })
parted byte (Err fault) = Err fault

-- the next byte: a space, or a letter of a word, which has 65,536 at most
abbrev pub byte_read : List ℕ → List ℕ → Input → ℕ → Result Input CaptureFault
byte_read scl sda input byte = if is_space byte then parted byte (word_ended scl sda input)
    else (if nat_lt (length input.word) 65536 then Ok (record input { word = input.word ++ byte ∷ [] }) else Err (CaptureFault.BadWord input.reached.line))

-- what follows, unless there is a fault
abbrev pub goes_on : Result Input CaptureFault → (Input → Result Input CaptureFault) → Result Input CaptureFault
goes_on (Ok input) next = next input
goes_on (Err fault) next = Err fault

-- letters of a word that is open
abbrev pub letters_kept : Input → List ℕ → Result Input CaptureFault
letters_kept input letters = if not (length letters == 0) && nat_lt 65536 (length input.word + length letters) then Err (CaptureFault.BadWord input.reached.line)
    else Ok (record input { word = input.word ++ letters })

-- letters that aren't spaces, and a space behind them
abbrev pub part_read : List ℕ → List ℕ → Input → List ℕ → ℕ → Result Input CaptureFault
part_read scl sda input letters space = parted space (goes_on (letters_kept input letters) (word_ended scl sda))

-- how many letters are before the first space, or before the end
abbrev pub letters_in : List ℕ → ℕ
letters_in bytes = unwrap_or (position is_space bytes) (length bytes)

-- the state after these bytes, one after another
abbrev pub bytes_read : List ℕ → List ℕ → Input → List ℕ → Result Input CaptureFault
bytes_read scl sda input [] = Ok input
bytes_read scl sda input (byte ∷ rest) = goes_on (byte_read scl sda input byte) (λ next. bytes_read scl sda next rest)

-- what is heard at the end, if the text is whole
abbrev pub closed_as : CaptureWords → Result ⊤ CaptureFault → Result Taken CaptureFault
closed_as reached (Ok _) = Ok (taken_from reached (heard reached.capture))
closed_as reached (Err fault) = Err fault

-- the fault of a line without its signal goes before that of the end
abbrev pub closed_with : CaptureWords → Option CaptureFault → Result Taken CaptureFault
closed_with reached None = closed_as reached (is_ended reached.dump reached.line)
closed_with reached (Some fault) = Err fault

abbrev pub closed : CaptureWords → Result Taken CaptureFault
closed reached = closed_with reached (fault_of_lines reached)

-- a text ends: its last word, and the level that lasts
abbrev pub text_ended : List ℕ → List ℕ → Input → Result Input CaptureFault
text_ended scl sda input = goes_on (word_ended scl sda input) (λ next. kept next.found (closed next.reached))

-- this is found in a text that ended
abbrev pub Ended : List ℕ → List ℕ → Input → Found → Type 0
Ended scl sda input found = (last : Input) × (text_ended scl sda input ≡ Ok last) × (last.found ≡ found)

-- what is found before the end, and after it
abbrev pub Closed : Result Taken CaptureFault → Found → Found → Type 0
Closed outcome old new = (taken : Taken) × (outcome ≡ Ok taken) × (new ≡ with_any taken.reached.dump.scale old taken.event)

-- the state before the first byte of a text
abbrev pub new_input : Addresses → Input
new_input legacies = record { reached = new_reached legacies; word = []; found = nothing_found }

-- the result of a whole text, by the names of SCL and SDA
abbrev pub text_read : Addresses → List ℕ → List ℕ → List ℕ → Result Input CaptureFault
text_read legacies scl sda text = goes_on (bytes_read scl sda (new_input legacies) text) (text_ended scl sda)

-- this is found in a whole text
abbrev pub IsFound : Addresses → List ℕ → List ℕ → List ℕ → Captured → Type 0
IsFound legacies scl sda text captured = (input : Input) × (text_read legacies scl sda text ≡ Ok input) × (input.found ≡ found_in captured)

-- a call reads so: with `Ok` it leads there, and otherwise it ends with the fault that is told, or memory was short
abbrev pub Reads : Result Input CaptureFault → CaptureWords → List ℕ → Found → Result ⊤ CaptureFault → Type 0
Reads outcome reached word found result = MatchResult result (λ _. outcome ≡ Ok (input reached word found)) (λ fault. (fault ≡ CaptureFault.Memory) ⊎ (outcome ≡ Err fault))

-- a call takes a word so
abbrev pub Takes : Result Taken CaptureFault → CaptureWords → Result (Option CaptureEvent) CaptureFault → Type 0
Takes outcome reached result = MatchResult result (λ event. outcome ≡ Ok (record { reached = reached; event = event })) (λ fault. (fault ≡ CaptureFault.Memory) ⊎ (outcome ≡ Err fault))

-- a call takes a declaration so, by which no event is whole
abbrev pub Declares : Result Taken CaptureFault → CaptureWords → Result ⊤ CaptureFault → Type 0
Declares outcome reached result = MatchResult result (λ _. outcome ≡ Ok (record { reached = reached; event = None })) (λ fault. (fault ≡ CaptureFault.Memory) ⊎ (outcome ≡ Err fault))

-- a fault of memory, or of the reader
abbrev pub IsOfReading : CaptureFault → Type 0
IsOfReading fault = (fault ≡ CaptureFault.Memory) ⊎ (fault ≡ CaptureFault.Read)

-- `Read` is told where a read failed, and anything else where none did: whether one had failed before, and after
abbrev pub TellsRead : {A : Type 0} → Bool → Bool → Result A CaptureFault → Type 0
TellsRead old new (Ok value) = new ≡ old
TellsRead old new (Err CaptureFault.Read) = new ≡ true
TellsRead old new (Err fault) = new ≡ old
