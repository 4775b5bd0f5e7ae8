-- What was read, where its bytes are known.
use Rattle.std.specs.Prelude.{◌≡◌, ℕ, ◌+◌, ◌<◌, ◌≤◌, List, [], length, take, ⊤, Bool, true, Option, Some, None, IfSome, Result, Ok, Err}
use Rattle.std.specs.Io.KnownBytes.{Consumes, IsAtEnd}
use Rattle.i3c_streams.specs.declared.faults.ScriptFault.{ScriptFault}
use Rattle.i3c_streams.specs.declared.reading.Piece.{Piece}

-- the bytes read between the two, and `left`, which remain of `most`
abbrev pub Leaves : ℕ → Option (List ℕ) → Option (List ℕ) → ℕ → Type 0
Leaves most None new left = ⊤
Leaves most (Some xs) None left = ⊥
Leaves most (Some xs) (Some ys) left = length xs + left ≡ most + length ys

-- a turn of reading gave this piece, where `left` bytes are still allowed: the end, some bytes, or too many
abbrev pub IsPiece : Option (List ℕ) → Option (List ℕ) → ℕ → List ℕ → Piece → Type 0
IsPiece old new left chunk Piece.End = IsAtEnd old × Consumes old new [] × IsAtEnd new
IsPiece old new left chunk (Piece.Within count) = (0 < count) × (count ≤ left) × (count ≤ length chunk) × Consumes old new (take count chunk)
IsPiece old new left chunk (Piece.Beyond count) =
    (count ≡ left) × (count < length chunk) × IfSome old (λ bytes. left < length bytes) × ((more : ℕ) × (left < more) × (more ≤ length chunk) × Consumes old new (take more chunk))

-- `Read` is told where a read failed, and anything else where none did: whether one had failed before, and after
abbrev pub TellsRead : {A : Type 0} → Bool → Bool → Result A ScriptFault → Type 0
TellsRead old new (Ok value) = new ≡ old
TellsRead old new (Err ScriptFault.Read) = new ≡ true
TellsRead old new (Err fault) = new ≡ old
