-- Why lines of a file are refused.
use Rattle.std.specs.Prelude.{ℕ, ◌==◌, ◌-◌, Bool, true, false, not, ◌&&◌, ◌||◌, List, [], ◌∷◌, Option, Some, None, is_none, is_some, option_map, if◌then◌else◌}
use Rattle.i3c_facts.specs.declared.facts.Claim.{Claim}
use Rattle.i3c_facts.specs.declared.fact.Fact.{Fact}
use Rattle.i3c_facts.specs.declared.marks.Mark.{Mark}
use Rattle.i3c_lines.specs.declared.command.Command.{Command}
use Rattle.i3c_lines.specs.declared.names.Name.{Name}
use Rattle.i3c_scene.specs.declared.risk.Risk.{Risk}
use Rattle.i3c_scene.specs.Frames.{sends_frame, sends_many}
use Rattle.i3c_tracks.specs.declared.refusal.Reason.{Reason}
use Rattle.i3c_tracks.specs.declared.refusal.Refusal.{Refusal}
use Rattle.i3c_tracks.specs.declared.file_line.FileLine.{FileLine}

-- whether a command has its place outside of blocks alone
abbrev pub is_outer : Command → Bool
is_outer (Command.Legacy name address lvr) = true
is_outer (Command.Declare address identity) = true
is_outer (Command.Main name setup) = true
is_outer Command.Show = true
is_outer Command.ShowAll = true
is_outer (Command.ShowFrom first) = true
is_outer Command.Symbols = true
is_outer (Command.Frames count) = true
is_outer _ = false

-- the devices that may lose power in a command's frame, in a block with such devices
abbrev pub risk_of : Risk → Command → Risk
risk_of risk command = if sends_frame command then risk else Risk.Nobody

-- whether a device is at risk
abbrev pub is_risky : Risk → Bool
is_risky Risk.Nobody = false
is_risky (Risk.One name) = true
is_risky (Risk.Two one other) = true

-- whether two devices are at risk already
abbrev pub is_full : Risk → Bool
is_full Risk.Nobody = false
is_full (Risk.One name) = false
is_full (Risk.Two one other) = true

-- why an open block refuses a command: by whether a track has begun, by whether a device is at risk in each frame, and by the
-- number of lines that its tracks may still get
abbrev pub refuses_command : Bool → Bool → ℕ → Command → Option Reason
refuses_command begun risky left command =
    if is_outer command then Some Reason.BlockOpen else if not begun then Some Reason.NoTrack else if risky && sends_many command then Some Reason.ManyFrames else if left == 0 then Some Reason.Most else None

-- why an open block refuses a mark: by whether a track has begun, whether two devices may lose power, and the number of tracks
-- that may still begin
abbrev pub refuses_mark : Bool → Bool → ℕ → Mark → Option Reason
refuses_mark begun full left Mark.Any = Some Reason.BlockOpen
refuses_mark begun full left (Mark.Anywhere name) = if begun then Some Reason.BlockOpen else if full then Some Reason.Most else None
refuses_mark begun full left (Mark.Always facts) = if begun then Some Reason.BlockOpen else None
refuses_mark begun full left Mark.Track = if left == 0 then Some Reason.Most else None
refuses_mark begun full left Mark.Close = None
refuses_mark begun full left (Mark.Expect facts) = if begun then None else Some Reason.NoTrack

-- why a mark is refused outside of blocks
abbrev pub refuses_outside : Mark → Option Reason
refuses_outside Mark.Any = None
refuses_outside (Mark.Anywhere name) = Some Reason.NoBlock
refuses_outside (Mark.Always facts) = Some Reason.NoBlock
refuses_outside Mark.Track = Some Reason.NoBlock
refuses_outside Mark.Close = Some Reason.NoBlock
refuses_outside (Mark.Expect facts) = None

-- whether a fact asks for the result of the previous line
abbrev pub is_of_before : Fact → Bool
is_of_before Fact.Done = true
is_of_before (Fact.Refused why) = true
is_of_before Fact.AnyRefused = true
is_of_before (Fact.Served way) = true
is_of_before (Fact.Bytes bytes) = true
is_of_before _ = false

-- whether one of these claims does
abbrev pub ask_before : List Claim → Bool
ask_before [] = false
ask_before (claim ∷ rest) = if is_of_before claim.fact then true else ask_before rest

-- an open block, as far as it was read: the devices at risk, whether a track has begun, how many tracks may still begin, and how many
-- lines these may still get
pub record Inside : Type 0 where
  pub risk : Risk
  pub begun : Bool
  pub tracks : ℕ
  pub lines : ℕ

-- a block that a line opens
abbrev pub opened_block : Inside
opened_block = record { risk = Risk.Nobody; begun = false; tracks = 8; lines = 64 }

-- where a line behind the bus stands: the block that is open, and whether the line before it, if that is known, has a command
pub record Here : Type 0 where
  pub block : Option Inside
  pub before : Option Bool

-- where the first line behind the bus stands
abbrev pub outside : Here
outside = record { block = None; before = None }

-- whether the line before is known, and has a command
abbrev pub has_command : Option Bool → Bool
has_command None = false
has_command (Some commanded) = commanded

-- whether a track has begun in the open block
abbrev pub is_in_track : Option Inside → Bool
is_in_track None = false
is_in_track (Some block) = block.begun

-- whether the next line begins a track
abbrev pub begins_track : Option Inside → Option Bool → Bool
begins_track block before = is_in_track block && is_none before

-- whether a mark has no line before it that it needs
abbrev pub misses_line : Option Inside → Option Bool → Mark → Bool
misses_line block before (Mark.Expect facts) = begins_track block before || ask_before facts && not (has_command before)
misses_line block before (Mark.Always facts) = ask_before facts && not (has_command before)
misses_line block before _ = false

-- why a command is refused, in the open block or outside of blocks
abbrev pub refuses_there : Option Inside → Command → Option Reason
refuses_there None command = None
refuses_there (Some block) command = refuses_command block.begun (is_risky block.risk) block.lines command

-- the same of a mark
abbrev pub refuses_mark_there : Option Inside → Mark → Option Reason
refuses_mark_there None mark = refuses_outside mark
refuses_mark_there (Some block) mark = refuses_mark block.begun (is_full block.risk) block.tracks mark

-- a reason that comes first, or that a line is missed
abbrev pub or_missed : Option Reason → Bool → Option Reason
or_missed (Some reason) missed = Some reason
or_missed None true = Some Reason.NoLine
or_missed None false = None

-- why a line behind the bus is refused, if it is
abbrev pub refuses_here : Here → FileLine → Option Reason
refuses_here here FileLine.Nothing = None
refuses_here here FileLine.Formless = Some Reason.BadLine
refuses_here here (FileLine.Does command) = refuses_there here.block command
refuses_here here (FileLine.Marks mark) = or_missed (refuses_mark_there here.block mark) (misses_line here.block here.before mark)

-- these devices at risk, and one more if there is room
abbrev pub with_more : Risk → Name → Risk
with_more Risk.Nobody name = Risk.One name
with_more (Risk.One first) name = Risk.Two first name
with_more (Risk.Two first second) name = Risk.Two first second

-- one more device is at risk in a block, one more track has begun there, or one more line has its place
abbrev pub one_risk : Name → Inside → Inside
one_risk name block = record block { risk = with_more block.risk name }

abbrev pub one_track : Inside → Inside
one_track block = record block { begun = true; tracks = block.tracks - 1 }

abbrev pub one_line : Inside → Inside
one_line block = record block { lines = block.lines - 1 }

-- something is expected: where no line is known, of a place, which has no command
abbrev pub expected_there : Option Bool → Option Bool
expected_there None = Some false
expected_there (Some commanded) = Some commanded

-- where the line behind a mark stands
abbrev pub behind_mark : Here → Mark → Here
behind_mark here Mark.Any = record here { block = Some opened_block }
behind_mark here (Mark.Anywhere name) = record here { block = option_map (one_risk name) here.block }
behind_mark here (Mark.Always facts) = record here { before = expected_there here.before }
behind_mark here Mark.Track = record { block = option_map one_track here.block; before = None }
behind_mark here Mark.Close = outside
behind_mark here (Mark.Expect facts) = record here { before = expected_there here.before }

-- where the line behind this one stands
abbrev pub behind : Here → FileLine → Here
behind here FileLine.Nothing = here
behind here FileLine.Formless = here
behind here (FileLine.Does command) = record { block = option_map one_line here.block; before = Some true }
behind here (FileLine.Marks mark) = behind_mark here mark

-- a refusal of the line with this number, or of the whole file
abbrev pub at_line : ℕ → Reason → Refusal
at_line number reason = record { reason = reason; line = Some number }

abbrev pub at_end : Reason → Refusal
at_end reason = record { reason = reason; line = None }

-- the refusal of a line, or that of a later one
abbrev pub or_later : ℕ → Option Reason → Option Refusal → Option Refusal
or_later number None later = later
or_later number (Some reason) later = Some (at_line number reason)

-- why lines behind the bus are refused: the first of them that is, or that a block isn't closed
abbrev pub first_refusal : Here → List (ℕ × FileLine) → Option Refusal
first_refusal here [] = if is_some here.block then Some (at_end Reason.NoClose) else None
first_refusal here ((number, said) ∷ rest) = or_later number (refuses_here here said) (first_refusal (behind here said) rest)

-- why a line before the bus is refused: each mark is
abbrev pub refuses_before : FileLine → Option Reason
refuses_before FileLine.Nothing = None
refuses_before FileLine.Formless = Some Reason.BadLine
refuses_before (FileLine.Does command) = None
refuses_before (FileLine.Marks mark) = Some Reason.NoBus
