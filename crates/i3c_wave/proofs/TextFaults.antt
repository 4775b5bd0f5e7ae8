-- A text gives no fault of reading.
use Rattle.std.specs.Prelude.{⊤}
use Rattle.std.proofs.Common.{◌≡◌, ◌⊎◌, ◌∙◌, ℕ, ◌==◌, Bool, true, false, List, [], ◌∷◌, codes, drop, length, nat_lt, take, Option, Some, None, Ok, Err, Result, inl, inr, refl, subst, sym}
use Rattle.std.specs.Prelude.{bytes_eq, if◌then◌else◌}
use Rattle.i3c_wave.specs.declared.capture.Capture.{Capture}
use Rattle.i3c_wave.specs.declared.capture.Value.{Value}
use Rattle.i3c_wave.specs.declared.capture_fault.CaptureFault.{CaptureFault}
use Rattle.i3c_wave.specs.declared.capture_text.CaptureWords.{CaptureWords}
use Rattle.i3c_wave.specs.declared.dump.Dump.{Dump}
use Rattle.i3c_wave.specs.declared.dump.DumpStep.{DumpStep}
use Rattle.i3c_wave.specs.declared.dump.Declaration.{Declaration}
use Rattle.i3c_wave.specs.declared.dump.Item.{Item}
use Rattle.i3c_wave.specs.declared.dump.LineSearch.{LineSearch}
use Rattle.i3c_wave.specs.declared.dump.DumpPosition.{DumpPosition}
use Rattle.i3c_wave.specs.declared.dump_word.Command.{Command}
use Rattle.i3c_wave.specs.declared.dump_word.Lead.{Lead}
use Rattle.i3c_wave.specs.declared.timescale.Magnitude.{Magnitude}
use Rattle.i3c_wave.specs.declared.timescale.Unit.{Unit}
use Rattle.i3c_wave.specs.Captures.{at_time}
use Rattle.i3c_wave.specs.CaptureTexts.{Input, Taken, TellsRead, byte_read, bytes_read, closed_as, closed_with, declared, defined, goes_on, is_space, item_heard, kept, lines_fault, parted, said_taken, text_ended, time_taken, word_ended}
use Rattle.i3c_wave.specs.Dumps.{begun_word, coded, command_said, ended, ended_at, ended_from, inside, inside_from, led_word, scale_word, scaled_by, scaled_unit, time_said, word_from}
use Rattle.i3c_wave.specs.DumpWords.{command_of, digits_in, lead_of, number_of}
use Rattle.i3c_wave.specs.Found.{Found}
use Rattle.i3c_wave.specs.Timescales.{magnitude_of, unit_of}

-- a result without a fault of reading
abbrev IsOfText : {A : Type 0} → Result A CaptureFault → Type 0
IsOfText (Ok value) = ⊤
IsOfText (Err CaptureFault.Read) = ⊥
IsOfText (Err fault) = ⊤

of_both : {A : Type 0} (b : Bool) (x y : Result A CaptureFault) → IsOfText x → IsOfText y → IsOfText (if b then x else y)
of_both {A} true x y one two = one
of_both {A} false x y one two = two

-- the end of a text
of_ended_at : (place : DumpPosition) (is_defined : Bool) (at : ℕ) → IsOfText (ended_at place is_defined at)
of_ended_at DumpPosition.Between true at = tt
of_ended_at DumpPosition.Between false at = tt
of_ended_at DumpPosition.Passed is_defined at = tt
of_ended_at (DumpPosition.Scale magnitude) is_defined at = tt
of_ended_at DumpPosition.Scaled is_defined at = tt
of_ended_at DumpPosition.Kind is_defined at = tt
of_ended_at DumpPosition.Width is_defined at = tt
of_ended_at (DumpPosition.Code width) is_defined at = tt
of_ended_at (DumpPosition.Name code width) is_defined at = tt
of_ended_at (DumpPosition.Named code width) is_defined at = tt
of_ended_at DumpPosition.ScopeKind is_defined at = tt
of_ended_at DumpPosition.ScopeName is_defined at = tt
of_ended_at (DumpPosition.Vector scl sda) is_defined at = tt

-- a word
of_command : (dump : Dump) (command : Command) → IsOfText (command_said dump command)
of_command dump Command.End = tt
of_command dump Command.Values = tt
of_command dump Command.Timescale = tt
of_command dump Command.Var = tt
of_command dump Command.Scope = tt
of_command dump Command.UpScope = tt
of_command dump Command.Other = tt
of_command dump Command.EndDefinitions = tt

of_time : (dump : Dump) (at : ℕ) (time : Option ℕ) → IsOfText (time_said dump at time)
of_time dump at None = tt
of_time dump at (Some time) = tt

of_coded : (dump : Dump) (value : Value) (at : ℕ) (word : List ℕ) → IsOfText (coded dump value at word)
of_coded dump value at [] = tt
of_coded dump value at (first ∷ rest) = tt

of_led : (dump : Dump) (at : ℕ) (lead : Lead) (word rest : List ℕ) → IsOfText (led_word dump at lead word rest)
of_led dump at Lead.Command word rest = of_command dump (command_of word)
of_led dump at Lead.Time word rest = of_time dump at (number_of rest)
of_led dump at Lead.Low word rest = of_coded dump Value.Low at rest
of_led dump at Lead.High word rest = of_coded dump Value.High at rest
of_led dump at Lead.NoLevel word rest = of_coded dump Value.Unknown at rest
of_led dump at Lead.Vector word rest = tt
of_led dump at Lead.Number word rest = tt
of_led dump at Lead.Other word rest = tt

of_begun : (dump : Dump) (at : ℕ) (word : List ℕ) → IsOfText (begun_word dump at word)
of_begun dump at [] = tt
of_begun dump at (first ∷ rest) = of_led dump at (lead_of first) (first ∷ rest) rest

of_ended : (place : DumpPosition) (dump : Dump) (at : ℕ) → IsOfText (ended_from place dump at)
of_ended DumpPosition.Between dump at = tt
of_ended DumpPosition.Passed dump at = tt
of_ended (DumpPosition.Scale magnitude) dump at = tt
of_ended DumpPosition.Scaled dump at = tt
of_ended DumpPosition.Kind dump at = tt
of_ended DumpPosition.Width dump at = tt
of_ended (DumpPosition.Code width) dump at = tt
of_ended (DumpPosition.Name code width) dump at = tt
of_ended (DumpPosition.Named code width) dump at = tt
of_ended DumpPosition.ScopeKind dump at = tt
of_ended DumpPosition.ScopeName dump at = tt
of_ended (DumpPosition.Vector scl sda) dump at = tt

of_unit : (dump : Dump) (magnitude : Magnitude) (at : ℕ) (unit : Option Unit) → IsOfText (scaled_unit dump magnitude at unit)
of_unit dump magnitude at None = tt
of_unit dump magnitude at (Some unit) = tt

of_scaled : (dump : Dump) (magnitude : Option Magnitude) (at : ℕ) (unit : List ℕ) → IsOfText (scaled_by dump magnitude at unit)
of_scaled dump None at unit = tt
of_scaled dump (Some magnitude) at unit = of_both (length unit == 0) _ _ tt (of_unit dump magnitude at (unit_of unit))

of_scale : (dump : Dump) (magnitude : Option Magnitude) (at : ℕ) (word : List ℕ) → IsOfText (scale_word dump magnitude at word)
of_scale dump None at word = of_scaled dump (magnitude_of (take (digits_in word) word)) at (drop (digits_in word) word)
of_scale dump (Some magnitude) at word = of_both (digits_in word == 0) _ _ (of_unit dump magnitude at (unit_of word)) tt

of_inside : (place : DumpPosition) (dump : Dump) (at : ℕ) (word : List ℕ) → IsOfText (inside_from place dump at word)
of_inside DumpPosition.Between dump at word = tt
of_inside DumpPosition.Passed dump at word = tt
of_inside (DumpPosition.Scale magnitude) dump at word = of_scale dump magnitude at word
of_inside DumpPosition.Scaled dump at word = tt
of_inside DumpPosition.Kind dump at word = tt
of_inside DumpPosition.Width dump at word = tt
of_inside (DumpPosition.Code width) dump at word = tt
of_inside (DumpPosition.Name code width) dump at word = tt
of_inside (DumpPosition.Named code width) dump at word = tt
of_inside DumpPosition.ScopeKind dump at word = tt
of_inside DumpPosition.ScopeName dump at word = tt
of_inside (DumpPosition.Vector scl sda) dump at word = tt

of_last : (dump : Dump) (at : ℕ) (word : List ℕ) → IsOfText (if bytes_eq word (codes "$end") then ended dump at else inside dump at word)
of_last dump at word = of_both (bytes_eq word (codes "$end")) _ _ (of_ended dump.place dump at) (of_inside dump.place dump at word)

of_word : (place : DumpPosition) (dump : Dump) (at : ℕ) (word : List ℕ) → IsOfText (word_from place dump at word)
of_word DumpPosition.Between dump at word = of_begun dump at word
of_word DumpPosition.Passed dump at word = of_last dump at word
of_word (DumpPosition.Scale magnitude) dump at word = of_last dump at word
of_word DumpPosition.Scaled dump at word = of_last dump at word
of_word DumpPosition.Kind dump at word = of_last dump at word
of_word DumpPosition.Width dump at word = of_last dump at word
of_word (DumpPosition.Code width) dump at word = of_last dump at word
of_word (DumpPosition.Name code width) dump at word = of_last dump at word
of_word (DumpPosition.Named code width) dump at word = of_last dump at word
of_word DumpPosition.ScopeKind dump at word = of_last dump at word
of_word DumpPosition.ScopeName dump at word = of_last dump at word
of_word (DumpPosition.Vector scl sda) dump at word = tt

-- what is heard
of_time_taken : (reached : CaptureWords) (capture : Option Capture) → IsOfText (time_taken reached capture)
of_time_taken reached None = tt
of_time_taken reached (Some capture) = tt

-- what is declared
IsOfLines : Option CaptureFault → Type 0
IsOfLines None = ⊤
IsOfLines (Some fault) = IsOfText {A = ⊤} (Err fault)

of_lines : (scl sda : LineSearch) (names : List ℕ) → IsOfLines (lines_fault scl sda names)
unfolding IsOfLines
of_lines LineSearch.Missing sda names = tt
of_lines LineSearch.Several sda names = tt
of_lines (LineSearch.Found source) LineSearch.Missing names = tt
of_lines (LineSearch.Found source) LineSearch.Several names = tt
of_lines (LineSearch.Found source) (LineSearch.Found other) names = tt

of_defined : (reached : CaptureWords) (fault : Option CaptureFault) → IsOfLines fault → IsOfText (defined reached fault)
unfolding IsOfLines
of_defined reached None h = tt
of_defined reached (Some CaptureFault.Memory) h = tt
of_defined reached (Some CaptureFault.Read) h = h
of_defined reached (Some (CaptureFault.NoScl names)) h = tt
of_defined reached (Some (CaptureFault.NoSda names)) h = tt
of_defined reached (Some (CaptureFault.SeveralScl names)) h = tt
of_defined reached (Some (CaptureFault.SeveralSda names)) h = tt
of_defined reached (Some (CaptureFault.BadTimescale line)) h = tt
of_defined reached (Some (CaptureFault.BadTime line)) h = tt
of_defined reached (Some (CaptureFault.BadWord line)) h = tt

of_declared : (scl sda : List ℕ) (reached : CaptureWords) (word : List ℕ) (declaration : Declaration) → IsOfText (declared scl sda reached word declaration)
of_declared scl sda reached word Declaration.Scope = tt
of_declared scl sda reached word Declaration.ScopeName = tt
of_declared scl sda reached word Declaration.ScopeEnd = tt
of_declared scl sda reached word Declaration.SignalName = tt
of_declared scl sda reached word (Declaration.Signal code width) = tt
of_declared scl sda reached word Declaration.End = of_defined reached _ (of_lines reached.dump.scl reached.dump.sda reached.signals.names)

of_item : (scl sda : List ℕ) (reached : CaptureWords) (word : List ℕ) (item : Item) → IsOfText (item_heard scl sda reached word item)
of_item scl sda reached word Item.Nothing = tt
of_item scl sda reached word (Item.Time time) = of_time_taken reached (at_time reached.capture time)
of_item scl sda reached word (Item.Values clock other) = tt
of_item scl sda reached word (Item.Declared declaration) = of_declared scl sda reached word declaration

of_said : (scl sda : List ℕ) (reached : CaptureWords) (word : List ℕ) (r : Result DumpStep CaptureFault) → IsOfText r → IsOfText (said_taken scl sda reached word r)
of_said scl sda reached word (Ok said) h = of_item scl sda _ word said.item
of_said scl sda reached word (Err fault) h = h

-- a text
of_kept : (found : Found) (r : Result Taken CaptureFault) → IsOfText r → IsOfText (kept found r)
of_kept found (Ok taken) h = tt
of_kept found (Err fault) h = h

of_word_ended : (scl sda : List ℕ) (input : Input) → IsOfText (word_ended scl sda input)
of_word_ended scl sda input =
    of_both (length input.word == 0) _ _ tt (of_kept input.found _ (of_said scl sda input.reached input.word _ (of_word input.reached.dump.place input.reached.dump input.reached.line input.word)))

of_parted : (byte : ℕ) (r : Result Input CaptureFault) → IsOfText r → IsOfText (parted byte r)
of_parted byte (Ok input) h = tt
of_parted byte (Err fault) h = h

of_byte : (scl sda : List ℕ) (input : Input) (byte : ℕ) → IsOfText (byte_read scl sda input byte)
of_byte scl sda input byte = of_both (is_space byte) _ _ (of_parted byte _ (of_word_ended scl sda input)) (of_both (nat_lt (length input.word) 65536) _ _ tt tt)

of_next : (r : Result Input CaptureFault) (next : Input → Result Input CaptureFault) → IsOfText r → ((input : Input) → IsOfText (next input)) → IsOfText (goes_on r next)
of_next (Ok input) next h more = more input
of_next (Err fault) next h more = h

of_bytes : (scl sda : List ℕ) (input : Input) (bytes : List ℕ) → IsOfText (bytes_read scl sda input bytes)
of_bytes scl sda input [] = tt
of_bytes scl sda input (byte ∷ rest) = of_next _ _ (of_byte scl sda input byte) (λ (next : Input). of_bytes scl sda next rest)

of_closed : (reached : CaptureWords) (r : Result ⊤ CaptureFault) → IsOfText r → IsOfText (closed_as reached r)
of_closed reached (Ok value) h = tt
of_closed reached (Err fault) h = h

of_closed_with : (reached : CaptureWords) (fault : Option CaptureFault) → IsOfLines fault → IsOfText (closed_with reached fault)
unfolding IsOfLines
of_closed_with reached None h = of_closed reached _ (of_ended_at reached.dump.place reached.dump.is_defined reached.line)
of_closed_with reached (Some CaptureFault.Memory) h = tt
of_closed_with reached (Some CaptureFault.Read) h = h
of_closed_with reached (Some (CaptureFault.NoScl names)) h = tt
of_closed_with reached (Some (CaptureFault.NoSda names)) h = tt
of_closed_with reached (Some (CaptureFault.SeveralScl names)) h = tt
of_closed_with reached (Some (CaptureFault.SeveralSda names)) h = tt
of_closed_with reached (Some (CaptureFault.BadTimescale line)) h = tt
of_closed_with reached (Some (CaptureFault.BadTime line)) h = tt
of_closed_with reached (Some (CaptureFault.BadWord line)) h = tt

of_end : (scl sda : List ℕ) (input : Input) → IsOfText (text_ended scl sda input)
of_end scl sda input = of_next _ _ (of_word_ended scl sda input) (λ (next : Input). of_kept next.found _ (of_closed_with next.reached _ (of_lines next.reached.dump.scl next.reached.dump.sda next.reached.signals.names)))

-- a fault that is told of a text, or of memory, isn't one of reading
bytes_fault : (scl sda : List ℕ) (input : Input) (bytes : List ℕ) → bytes_read scl sda input bytes ≡ Err CaptureFault.Read → ⊥
bytes_fault scl sda input bytes is = subst (λ (r : Result Input CaptureFault). IsOfText r) is (of_bytes scl sda input bytes)

ending_fault : (scl sda : List ℕ) (input : Input) → text_ended scl sda input ≡ Err CaptureFault.Read → ⊥
ending_fault scl sda input is = subst (λ (r : Result Input CaptureFault). IsOfText r) is (of_end scl sda input)

-- other faults are told where no read failed
pub tells_other : (A : Type 0) (old new : Bool) (fault : CaptureFault) → new ≡ old → (fault ≡ CaptureFault.Read → ⊥) → TellsRead {A = A} old new (Err fault)
tells_other A old new CaptureFault.Memory same other = same
tells_other A old new CaptureFault.Read same other = absurd (other refl)
tells_other A old new (CaptureFault.NoScl names) same other = same
tells_other A old new (CaptureFault.NoSda names) same other = same
tells_other A old new (CaptureFault.SeveralScl names) same other = same
tells_other A old new (CaptureFault.SeveralSda names) same other = same
tells_other A old new (CaptureFault.BadTimescale line) same other = same
tells_other A old new (CaptureFault.BadTime line) same other = same
tells_other A old new (CaptureFault.BadWord line) same other = same

pub of_chunk : (scl sda : List ℕ) (input : Input) (bytes : List ℕ) (fault : CaptureFault) → (fault ≡ CaptureFault.Memory) ⊎ (bytes_read scl sda input bytes ≡ Err fault) → fault ≡ CaptureFault.Read → ⊥
of_chunk scl sda input bytes fault (inl memory) is = let e : CaptureFault.Memory ≡ CaptureFault.Read = sym memory ∙ is in cc
of_chunk scl sda input bytes fault (inr told) is = bytes_fault scl sda input bytes (subst (λ (why : CaptureFault). bytes_read scl sda input bytes ≡ Err why) is told)

pub of_ending : (scl sda : List ℕ) (input : Input) (fault : CaptureFault) → (fault ≡ CaptureFault.Memory) ⊎ (text_ended scl sda input ≡ Err fault) → fault ≡ CaptureFault.Read → ⊥
of_ending scl sda input fault (inl memory) is = let e : CaptureFault.Memory ≡ CaptureFault.Read = sym memory ∙ is in cc
of_ending scl sda input fault (inr told) is = ending_fault scl sda input (subst (λ (why : CaptureFault). text_ended scl sda input ≡ Err why) is told)
