-- The picture of a script.
use Rattle.std.specs.Prelude.{◌≡◌, ◌⊎◌, ℕ, List, [], ◌∷◌, ◌++◌, Option, Result, Ok, MatchResult}
use Rattle.std.specs.Io.KnownBytes.{Appends}
use Rattle.i3c_frame.specs.declared.symbols.Symbol.{Symbol}
use Rattle.i3c_draw.specs.declared.picture.Picture.{Picture}
use Rattle.i3c_draw.specs.Pictures.{Drawn, after_row, picture_text, row_text}
use Rattle.i3c_draw.specs.Rows.{pen_at}
use Rattle.i3c_streams.specs.declared.faults.ScriptFault.{ScriptFault}
use Rattle.i3c_streams.specs.declared.tally.Tally.{Tally}
use Rattle.i3c_streams.specs.Outcomes.{AppendsSome}
use Rattle.i3c_runner.specs.Viewed.{ViewedGoes}
use Rattle.i3c_cli.specs.declared.drawing.Drawing.{Drawing}

-- a picture without rows: the first is below the legend
abbrev pub IsBlank : Picture → Type 0
IsBlank picture = (picture.rows ≡ []) × (picture.pen ≡ pen_at 36)

-- a row was added to the picture
abbrev pub DrawsRow : Picture → Drawn → Picture → Type 0
DrawsRow old drawn new = (new.rows ≡ old.rows ++ row_text old.pen drawn) × (new.pen ≡ after_row old.pen drawn)

-- a line has a row, unless it is empty
abbrev pub DrawsLine : Picture → List ℕ → List ℕ → List Symbol → Picture → Type 0
DrawsLine old [] printed wire new = new ≡ old
DrawsLine old (byte ∷ line) printed wire new = DrawsRow old (record { line = byte ∷ line; printed = printed; wire = wire }) new

-- the same of a picture that is being drawn
abbrev pub Draws : Drawing → List ℕ → List ℕ → List Symbol → Drawing → Type 0
Draws old line printed wire new = DrawsLine old.picture line printed wire new.picture

-- a line isn't drawn for want of memory, or since the picture is too large
abbrev pub DrawsNot : Drawing → List ℕ → List ℕ → List Symbol → ScriptFault → Drawing → Type 0
DrawsNot old line printed wire fault new = (fault ≡ ScriptFault.Memory) ⊎ (fault ≡ ScriptFault.TooLarge)

-- a picture goes out: all of it, or for want of memory nothing, or a prefix that a writer took before it failed
abbrev pub IsWritten : Option (List ℕ) → Option (List ℕ) → List ℕ → Result (Unit {0}) ScriptFault → Type 0
IsWritten old new text result =
    MatchResult result (λ _. Appends old new text) (λ fault. ((fault ≡ ScriptFault.Memory) × (new ≡ old)) ⊎ ((fault ≡ ScriptFault.Write) × AppendsSome old new text))

-- each line of a known script was run and drawn, from a picture without rows on
pub record DrawnWhole (known : Option (List ℕ)) (tally : Tally) (whole : Drawing) : Type 0 where
  pub blank : Drawing
  pub is_blank : IsBlank blank.picture
  pub drawn : ViewedGoes Draws DrawsNot known blank whole (Ok tally)

-- a prefix of the picture of all lines went out before the writer failed
pub record DrawnPart (known old new : Option (List ℕ)) : Type 0 where
  pub tally : Tally
  pub whole : Drawing
  pub all : DrawnWhole known tally whole
  pub out : AppendsSome old new (picture_text whole.picture)

-- what goes out of a script as a picture: that of all its lines; or nothing, unless the writer failed
abbrev pub IsDrawn : Option (List ℕ) → Option (List ℕ) → Option (List ℕ) → Result Tally ScriptFault → Type 0
IsDrawn known old new result =
    MatchResult result (λ tally. (whole : Drawing) × DrawnWhole known tally whole × Appends old new (picture_text whole.picture))
    (λ fault. (new ≡ old) ⊎ ((fault ≡ ScriptFault.Write) × DrawnPart known old new))
