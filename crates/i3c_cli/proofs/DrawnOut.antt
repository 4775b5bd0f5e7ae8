-- A line that is drawn, and a picture that goes out.
use Rattle.std.proofs.Common.{◌≡◌, ℕ, Bool, false, nat_eq, length, List, [], ◌∷◌, ◌++◌, MatchResult, Option, Result, Ok, Err, inr}
use Rattle.std.specs.Io.KnownBytes.{Appends}
use Rattle.i3c_frame.specs.declared.symbols.Symbol.{Symbol}
use Rattle.i3c_draw.specs.declared.picture.Picture.{Picture}
use Rattle.i3c_cli.specs.Drawings.{DrawsLine, DrawsRow, IsWritten}
use Rattle.i3c_streams.specs.declared.faults.ScriptFault.{ScriptFault}
use Rattle.i3c_streams.specs.Outcomes.{AppendsSome}
use Rattle.i3c_runner.proofs.Gathered.{nothing_out, some_after}
use Rattle.i3c_streams.proofs.WrittenOn.{some_out}
use Rattle.i3c_streams.proofs.Written.{appends_both}

-- the bytes that three writes append; the last may fail
pub three_out : (a b c d : Option (List ℕ)) (first second last : List ℕ) (result : Result (Unit {0}) ScriptFault) → Appends a b first → Appends b c second
    → MatchResult result (λ _. Appends c d last) (λ fault. (fault ≡ ScriptFault.Write) × AppendsSome c d last) → IsWritten a d (first ++ (second ++ last)) result
three_out a b c d first second last (Ok done) one two three = appends_both a b d first (second ++ last) one (appends_both b c d second last two three)
three_out a b c d first second last (Err fault) one two (is, some) = inr (is, some_after a b d first (second ++ last) one (some_after b c d second last two some))

-- the first write fails
pub first_cut : (a b : Option (List ℕ)) (first rest : List ℕ) → AppendsSome a b first → AppendsSome a b (first ++ rest)
first_cut a b first rest some = some_out a a b [] first rest (nothing_out a) some

-- a line that isn't empty has a row
pub drawn_line : (old new : Picture) (line printed : List ℕ) (wire : List Symbol) (empty : Bool) → empty ≡ nat_eq (length line) 0 → empty ≡ false → DrawsRow old (record { line = line; printed = printed; wire = wire }) new
    → DrawsLine old line printed wire new
drawn_line old new [] printed wire empty is none row = cc
drawn_line old new (byte ∷ line) printed wire empty is none row = row
