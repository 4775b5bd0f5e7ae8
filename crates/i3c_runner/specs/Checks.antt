-- What is told of a script that is checked and not run.
use Rattle.std.specs.Prelude.{◌≡◌, ◌⊎◌, ℕ, ◌+◌, List, [], ◌∷◌, ◌++◌, codes, min, Bool, true, Option, Some, None, Result, IfSome, MatchOption, MatchResult, if◌then◌else◌, is_some}
use Rattle.std.specs.Fmt.{decimal}
use Rattle.std.specs.Io.KnownBytes.{Appends}
use Rattle.i3c_lines.specs.declared.command.Command.{Command}
use Rattle.i3c_lines.specs.declared.names.Name.{Name}
use Rattle.i3c_lines.specs.declared.names.Names.{Names}
use Rattle.i3c_lines.specs.Forms.{IsCommand, IsSkipped}
use Rattle.i3c_lines.specs.Faults.{IsReason, quoted}
use Rattle.i3c_lines.specs.Naming.{is_same, letters, place_named}
use Rattle.i3c_lines.specs.Namings.{name_given, names_meant}
use Rattle.i3c_streams.specs.declared.faults.ScriptFault.{ScriptFault}
use Rattle.i3c_streams.specs.declared.tally.Tally.{Tally}
use Rattle.i3c_runner.specs.Expecting.{IsBad, IsMarked}
use Rattle.i3c_streams.specs.Outcomes.{AppendsSome, HasNoFeed}

-- a name is known: a line gave it
abbrev pub is_given : Names → Name → Bool
is_given names name = is_some (place_named names name)

-- before the first line no name is known
abbrev pub IsStart : Names → Type 0
IsStart names = (name : Name) → place_named names name ≡ None

-- what a line tells: its number, and why
abbrev pub told_line : ℕ → List ℕ → List ℕ
told_line number reason = decimal number ++ (codes ": " ++ (reason ++ 10 ∷ []))

-- a line without a form is told, for the reason that it has
abbrev pub IsFaultTold : ℕ → List ℕ → List ℕ → Type 0
IsFaultTold number line told = (reason : List ℕ) × IsReason line reason × (told ≡ told_line number reason)

-- why a line with an unknown name is told
abbrev pub name_reason : Name → List ℕ
name_reason name = quoted (letters name) ++ codes ": no line before it gives this name"

-- a line is told for the first of the names by which it means devices that isn't known
abbrev pub NameTold : Names → ℕ → List Name → List ℕ → Type 0
NameTold names number [] told = told ≡ []
NameTold names number (name ∷ rest) told =
    MatchOption (place_named names name) (told ≡ told_line number (name_reason name)) (λ _. NameTold names number rest told)

-- a name is known from now on, if a line gives one
abbrev pub Gives : Names → Names → Option Name → Type 0
Gives old new None = new ≡ old
Gives old new (Some name) = (other : Name) → is_given new other ≡ (if is_same name other then true else is_given old other)

-- what is told of one line, and the names after it: a line is told that a script may not have, and so is one that means a device by an unknown name
abbrev pub LineChecked : Names → ℕ → List ℕ → List ℕ → Names → Type 0
LineChecked old number line told new = (IsBad line × IsFaultTold number line told × (new ≡ old))
    ⊎ (IsSkipped line × (told ≡ []) × (new ≡ old))
    ⊎ (IsMarked line × (told ≡ []) × (new ≡ old))
    ⊎ ((command : Command) × IsCommand line command × NameTold old number (names_meant command) told × Gives old new (name_given command))

-- a line that was checked: its bytes without the line feed, and what was told of it
pub record LineCheck : Type 0 where
  pub line : List ℕ
  pub told : List ℕ

-- lines were checked one after another, counted from this number on
abbrev pub Checked : Names → ℕ → List LineCheck → Names → Type 0
Checked old number [] new = new ≡ old
Checked old number (check ∷ rest) new = (mid : Names) × HasNoFeed check.line × LineChecked old number check.line check.told mid × Checked mid (number + 1) rest new

-- the bytes of lines, each with its line feed
abbrev pub checks_bytes : List LineCheck → List ℕ
checks_bytes [] = []
checks_bytes (check ∷ rest) = check.line ++ 10 ∷ checks_bytes rest

-- what was told of them
abbrev pub checks_out : List LineCheck → List ℕ
checks_out [] = []
checks_out (check ∷ rest) = check.told ++ checks_out rest

-- 1 for a line that was told
abbrev pub tells : List ℕ → ℕ
tells [] = 0
tells (byte ∷ rest) = 1

-- how many lines were told
abbrev pub checks_told : List LineCheck → ℕ
checks_told [] = 0
checks_told (check ∷ rest) = tells check.told + checks_told rest

-- each line of a script was checked, its last one too, which needs no line feed: what was told of them went out, and is counted
pub record ChecksWhole (known old new : Option (List ℕ)) (from to : Names) (before after : ℕ) : Type 0 where
  pub lines : List LineCheck
  pub checked : Checked from 1 lines to
  pub all : IfSome known (λ script. checks_bytes lines ≡ script ++ 10 ∷ [])
  pub out : Appends old new (checks_out lines)
  pub counted : min after 18446744073709551615 ≡ min (before + checks_told lines) 18446744073709551615

-- the first lines of a script were checked, and then a fault ended the check: a prefix of the output was written out
pub record ChecksPart (known old new : Option (List ℕ)) (from : Names) : Type 0 where
  pub lines : List LineCheck
  pub to : Names
  pub rest : List ℕ
  pub checked : Checked from 1 lines to
  pub first : IfSome known (λ script. checks_bytes lines ++ rest ≡ script ++ 10 ∷ [])
  pub out : AppendsSome old new (checks_out lines)

-- the result of the check of a script
abbrev pub ChecksAll : Option (List ℕ) → Option (List ℕ) → Option (List ℕ) → Names → Names → ℕ → ℕ → Result (Unit {0}) ScriptFault → Type 0
ChecksAll known old new from to before after result = MatchResult result (λ _. ChecksWhole known old new from to before after) (λ _. ChecksPart known old new from)

-- the same from no names on, where the tally counts the lines that were told
abbrev pub ChecksGoOut : Option (List ℕ) → Option (List ℕ) → Option (List ℕ) → Result Tally ScriptFault → Type 0
ChecksGoOut known old new result = (start : Names) × IsStart start
    × MatchResult result (λ tally. (end : Names) × ChecksWhole known old new start end 0 tally.refused) (λ _. ChecksPart known old new start)
