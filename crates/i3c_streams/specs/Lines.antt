-- The lines of a script as they are read one after another.
use Rattle.std.specs.Prelude.{◌≡◌, ℕ, ◌-◌, ◌<◌, ◌≤◌, List, [], ◌∷◌, ◌++◌, drop, length, take, Option}
use Rattle.std.specs.Io.KnownBytes.{Consumes, IsAtEnd}
use Rattle.i3c_streams.specs.declared.script_lines.Reading.{Reading}
use Rattle.i3c_streams.specs.declared.script_lines.ScriptLines.{ScriptLines}
use Rattle.i3c_streams.specs.Outcomes.{HasNoFeed}

-- the line in hand, without its line feed
abbrev pub line_in_hand : ScriptLines → List ℕ
line_in_hand lines = take (lines.end - lines.start) (drop lines.start lines.bytes.items)

-- the bytes of the lines that were taken in hand, each with its line feed
abbrev pub given : ScriptLines → List ℕ
given lines = take lines.next lines.bytes.items

-- one more line was taken in hand
abbrev pub GivesLine : ScriptLines → ScriptLines → Type 0
GivesLine old new = HasNoFeed (line_in_hand new) × (given new ≡ given old ++ (line_in_hand new ++ 10 ∷ []))

-- the line in hand stays in hand
abbrev pub StaysAt : ScriptLines → ScriptLines → Type 0
StaysAt old new = (new.start ≡ old.start) × (new.end ≡ old.end) × (new.next ≡ old.next) × (given new ≡ given old)

-- the bytes that were read of a script, of which `left` remain; one more line feed is put behind the end of a script
abbrev pub IsReadAs : Reading → Option (List ℕ) → Option (List ℕ) → List ℕ → Type 0
IsReadAs Reading.Open known left bytes = Consumes known left bytes × (length bytes ≤ 1048576)
IsReadAs Reading.Ended known left bytes = (read : List ℕ) × Consumes known left read × IsAtEnd left × (length read ≤ 1048576) × (bytes ≡ read ++ 10 ∷ [])
IsReadAs Reading.TooLarge known left bytes = (more : List ℕ) × Consumes known left (bytes ++ more) × (1048576 < length (bytes ++ more))

-- the same of the lines that were read
abbrev pub IsReadFrom : Option (List ℕ) → Option (List ℕ) → ScriptLines → Type 0
IsReadFrom known left lines = IsReadAs lines.reading known left lines.bytes.items

-- the script was read to its end, and its bytes behind the line in hand have no line
abbrev pub IsGivenOut : ScriptLines → Type 0
IsGivenOut lines = (lines.reading ≡ Reading.Ended) × HasNoFeed (drop lines.next lines.bytes.items)
