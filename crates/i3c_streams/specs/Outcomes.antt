-- The results of a script's lines: their output, and the run's end.
use Rattle.std.specs.Prelude.{◌≡◌, ◌≢◌, ◌⊎◌, ℕ, ◌≤◌, List, [], ◌++◌, length, take, All, Option, Result, Ok, Err}
use Rattle.std.specs.Io.KnownBytes.{Appends}
use Rattle.i3c_streams.specs.declared.faults.ScriptFault.{ScriptFault}

-- no line ends in these bytes
abbrev pub HasNoFeed : List ℕ → Type 0
HasNoFeed bytes = All (λ byte. byte ≢ 10) bytes

-- known bytes grow by the beginning of a text
abbrev pub AppendsSome : Option (List ℕ) → Option (List ℕ) → List ℕ → Type 0
AppendsSome old new text = (count : ℕ) × (count ≤ length text) × Appends old new (take count text)

-- known bytes grow by the front of a text, and `left` is the rest of it
abbrev pub WritesFront : Option (List ℕ) → Option (List ℕ) → List ℕ → List ℕ → Type 0
WritesFront old new text left = (front : List ℕ) × Appends old new front × (text ≡ front ++ left)

-- what went out, and what is gathered behind it
pub record Output : Type 0 where
  pub out : Option (List ℕ)
  pub gathered : List ℕ

abbrev pub output : Option (List ℕ) → List ℕ → Output
output out gathered = record { out = out; gathered = gathered }

-- all of it went out
abbrev pub written : Option (List ℕ) → Output
written out = output out []

-- a text is put behind; some of the front may go out
abbrev pub Puts : Output → Output → List ℕ → Type 0
Puts old new text = WritesFront old.out new.out (old.gathered ++ text) new.gathered

-- a prefix of the gathered output and this text is written out
abbrev pub PutsSome : Output → Output → List ℕ → Type 0
PutsSome old new text = AppendsSome old.out new.out (old.gathered ++ text)

-- the result of putting a text behind an output: for want of memory nothing of it is put, and a writer that fails took a
-- prefix
abbrev pub PutsOrFails : Output → Output → List ℕ → Result (Unit {0}) ScriptFault → Type 0
PutsOrFails old new text (Ok done) = Puts old new text
PutsOrFails old new text (Err ScriptFault.Memory) = Puts old new []
PutsOrFails old new text (Err ScriptFault.Write) = PutsSome old new text
PutsOrFails old new text (Err ScriptFault.Read) = ⊥
PutsOrFails old new text (Err ScriptFault.TooLarge) = ⊥

-- the gathered output is written out at the end, whatever the result of the lines; but nothing goes to a writer that failed
abbrev pub GoesLast : Option (List ℕ) → Option (List ℕ) → List ℕ → Result (Unit {0}) ScriptFault → Result (Unit {0}) ScriptFault → Type 0
GoesLast old new gathered (Err ScriptFault.Write) result = (result ≡ Err ScriptFault.Write) × (new ≡ old)
GoesLast old new gathered outcome result = ((result ≡ outcome) × Appends old new gathered) ⊎ ((result ≡ Err ScriptFault.Write) × AppendsSome old new gathered)
