-- The lines of an input as they come.
use Rattle.std.specs.Prelude.{◌≡◌, ◌≢◌, ◌-◌, ℕ, Bool, true, false, List, [], ◌∷◌, ◌++◌, drop, take, Option}
use Rattle.std.specs.Io.KnownBytes.{Consumes, IsAtEnd}
use Rattle.i3c_drive.specs.declared.input.Input.{Input}
use Rattle.i3c_drive.specs.declared.input.Next.{Next}
use Rattle.i3c_lines.specs.Gathering.{gathered}
use Rattle.i3c_streams.specs.Outcomes.{HasNoFeed}

-- the bytes that were read and belong to no line yet
abbrev pub pending : Input → List ℕ
pending input = take (input.end - input.next) (drop input.next input.piece.items)

-- the pending bytes and the next ones begin with a text that was taken; the rest is pending then
pub record Takes (left now : Option (List ℕ)) (old new : Input) (text : List ℕ) : Type 0 where
  pub read : List ℕ
  pub consumed : Consumes left now read
  pub same : pending old ++ read ≡ text ++ pending new

-- the line in hand is this one
abbrev pub IsInHand : Input → List ℕ → Type 0
IsInHand input line = HasNoFeed line × (gathered input.line ≡ take 257 line)

-- the next line came: with its line feed, or without one at the end of the input; or nothing was left
abbrev pub Gives : Option (List ℕ) → Option (List ℕ) → Input → Input → Next → Type 0
Gives left now old new Next.Line = (line : List ℕ) × IsInHand new line × Takes left now old new (line ++ 10 ∷ [])
Gives left now old new Next.Last = (line : List ℕ) × IsInHand new line × (line ≢ []) × Takes left now old new line × (pending new ≡ []) × IsAtEnd now
Gives left now old new Next.End = Takes left now old new [] × (pending new ≡ []) × IsAtEnd now

-- a part of a line came, and then the reader failed
abbrev pub HasFront : Option (List ℕ) → Option (List ℕ) → Input → Input → Type 0
HasFront left now old new = (front : List ℕ) × HasNoFeed front × Takes left now old new front

-- what was pending up to the first line feed, or all of it, is put behind the line in hand
abbrev pub EndsFront : Input → Input → Bool → Type 0
EndsFront old new true = (front : List ℕ) × HasNoFeed front × (pending old ≡ front ++ 10 ∷ pending new) × (gathered new.line ≡ take 257 (gathered old.line ++ front))
EndsFront old new false = HasNoFeed (pending old) × (pending new ≡ []) × (gathered new.line ≡ take 257 (gathered old.line ++ pending old))
