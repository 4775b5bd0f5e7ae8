-- Which plan is that of a file.
use Rattle.std.specs.Prelude.{◌≡◌, ℕ, ◌+◌, Bool, true, false, List, [], ◌∷◌, ◌++◌, All, Option, Some, None, IfSome, Ok, Err, Result, is_some, if◌then◌else◌, map, slice_set, take}
use Rattle.std.specs.Global.{Vec}
use Rattle.i3c_base.specs.declared.device.Setup.{Setup}
use Rattle.i3c_base.specs.Cutting.{no_cuts}
use Rattle.i3c_base.specs.Numbers.{is_capable}
use Rattle.i3c_base.specs.State.{Board, IsStart, no_board}
use Rattle.i3c_legacy.specs.Declaring.{first_declare_fault, first_fault}
use Rattle.i3c_facts.specs.declared.facts.Claim.{Claim}
use Rattle.i3c_facts.specs.declared.marks.Mark.{Mark}
use Rattle.i3c_lines.specs.declared.command.Command.{Command}
use Rattle.i3c_lines.specs.declared.names.Name.{Name}
use Rattle.i3c_lines.specs.declared.names.Place.{Place}
use Rattle.i3c_script.specs.Accepting.{at_first}
use Rattle.i3c_streams.specs.Outcomes.{HasNoFeed}
use Rattle.i3c_scene.specs.declared.line.Expectation.{Expectation}
use Rattle.i3c_scene.specs.declared.line.Line.{Line}
use Rattle.i3c_scene.specs.declared.risk.Risk.{Risk}
use Rattle.i3c_scene.specs.declared.rules.Rules.{Rules}
use Rattle.i3c_scene.specs.declared.named.Named.{Named}
use Rattle.i3c_scene.specs.Scenes.{Seen, place_in}
use Rattle.i3c_tracks.specs.declared.file_line.FileLine.{FileLine}
use Rattle.i3c_tracks.specs.declared.plan.Plan.{Plan}
use Rattle.i3c_tracks.specs.declared.plan.PlanFault.{PlanFault}
use Rattle.i3c_tracks.specs.declared.refusal.Reason.{Reason}
use Rattle.i3c_tracks.specs.declared.refusal.Refusal.{Refusal}
use Rattle.i3c_tracks.specs.Refusing.{at_end, at_line, first_refusal, outside, risk_of}
use Rattle.i3c_tracks.specs.Saying.{IsFileLine}

-- the bytes of lines, each with its line feed
abbrev pub lines_bytes : List (Vec ℕ) → List ℕ
lines_bytes [] = []
lines_bytes (line ∷ rest) = line.items ++ 10 ∷ lines_bytes rest

-- the lines of a file: its last one needs no line feed
abbrev pub AreLines : Option (List ℕ) → List (Vec ℕ) → Type 0
AreLines file lines = All (λ (line : Vec ℕ). HasNoFeed line.items) lines × IfSome file (λ bytes. lines_bytes lines ≡ bytes ++ 10 ∷ [])

-- what the lines from this number on say, each with its number
abbrev pub AreSaid : ℕ → List (Vec ℕ) → List (ℕ × FileLine) → Type 0
AreSaid number [] [] = Unit {0}
AreSaid number [] (said ∷ rest) = ⊥
AreSaid number (line ∷ lines) [] = ⊥
AreSaid number (line ∷ lines) ((at, said) ∷ rest) = (at ≡ number) × IsFileLine line.items said × AreSaid (number + 1) lines rest

-- a line that runs: its number, its command, the devices at risk in its frame, and what is expected behind it. A line without a command is a place where something is expected
pub record Step : Type 0 where
  pub number : ℕ
  pub command : Option Command
  pub risk : Risk
  pub expected : List Expectation

-- of the line before, alone
abbrev pub expectation : ℕ → List Claim → Expectation
expectation number facts = record { number = number; lasts = false; facts = facts }

-- of each line of a block
abbrev pub lasting : ℕ → List Claim → Expectation
lasting number facts = record { number = number; lasts = true; facts = facts }

-- what is expected behind a line: by each `expect` that follows it, and by each `always` of a block that begins there
abbrev pub expected : List (ℕ × FileLine) → List Expectation
expected ((number, FileLine.Marks (Mark.Expect facts)) ∷ rest) = expectation number facts ∷ expected rest
expected ((number, FileLine.Marks (Mark.Always facts)) ∷ rest) = lasting number facts ∷ expected rest
expected ((number, FileLine.Marks Mark.Any) ∷ rest) = expected rest
expected ((number, FileLine.Marks (Mark.Anywhere name)) ∷ rest) = expected rest
expected ((number, FileLine.Nothing) ∷ rest) = expected rest
expected _ = []

-- a device at risk in front of others: the first two count
abbrev pub before_more : Name → Risk → Risk
before_more name Risk.Nobody = Risk.One name
before_more name (Risk.One other) = Risk.Two name other
before_more name (Risk.Two other third) = Risk.Two name other

-- the devices at risk in a block: the first two `anywhere` before its first track
abbrev pub risk_in : List (ℕ × FileLine) → Risk
risk_in [] = Risk.Nobody
risk_in ((number, FileLine.Marks (Mark.Anywhere name)) ∷ rest) = before_more name (risk_in rest)
risk_in ((number, FileLine.Marks Mark.Track) ∷ rest) = Risk.Nobody
risk_in ((number, FileLine.Marks Mark.Close) ∷ rest) = Risk.Nobody
risk_in (line ∷ rest) = risk_in rest

-- what has to hold after each line of a block: each `always` before its first track
abbrev pub always_in : List (ℕ × FileLine) → List Expectation
always_in [] = []
always_in ((number, FileLine.Marks (Mark.Always facts)) ∷ rest) = lasting number facts ∷ always_in rest
always_in ((number, FileLine.Marks Mark.Track) ∷ rest) = []
always_in ((number, FileLine.Marks Mark.Close) ∷ rest) = []
always_in (line ∷ rest) = always_in rest

-- the lines of a track: its commands, up to the next `track` or `close`
abbrev pub steps_in : Risk → List Expectation → List (ℕ × FileLine) → List Step
steps_in risk always [] = []
steps_in risk always ((number, FileLine.Does command) ∷ rest) = record { number = number; command = Some command; risk = risk_of risk command; expected = expected rest ++ always } ∷ steps_in risk always rest
steps_in risk always ((number, FileLine.Marks Mark.Track) ∷ rest) = []
steps_in risk always ((number, FileLine.Marks Mark.Close) ∷ rest) = []
steps_in risk always (line ∷ rest) = steps_in risk always rest

-- the tracks of a block: the lines behind each `track`, up to `close`
abbrev pub tracks_in : Risk → List Expectation → List (ℕ × FileLine) → List (List Step)
tracks_in risk always [] = []
tracks_in risk always ((number, FileLine.Marks Mark.Track) ∷ rest) = steps_in risk always rest ∷ tracks_in risk always rest
tracks_in risk always ((number, FileLine.Marks Mark.Close) ∷ rest) = []
tracks_in risk always (line ∷ rest) = tracks_in risk always rest

-- a line outside of blocks is a block of one track
abbrev pub alone : Step → List (List Step)
alone step = (step ∷ []) ∷ []

-- what is expected with no line before it is expected of each state that can be there: it has a place of its own
abbrev pub place : List Expectation → List (List (List Step))
place [] = []
place (first ∷ rest) = alone (record { number = first.number; command = None; risk = Risk.Nobody; expected = first ∷ rest }) ∷ []

-- the blocks of some lines, outside of a block (`false`) or in the midst of one (`true`)
abbrev pub blocks_in : Bool → List (ℕ × FileLine) → List (List (List Step))
blocks_in inside [] = []
blocks_in false ((number, FileLine.Does command) ∷ rest) = alone (record { number = number; command = Some command; risk = Risk.Nobody; expected = expected rest }) ∷ blocks_in false rest
blocks_in false ((number, FileLine.Marks Mark.Any) ∷ rest) = tracks_in (risk_in rest) (always_in rest) rest ∷ blocks_in true rest
blocks_in true ((number, FileLine.Marks Mark.Close) ∷ rest) = place (expected rest) ++ blocks_in false rest
blocks_in inside (line ∷ rest) = blocks_in inside rest

-- blocks that no line opened
abbrev pub unopened : List (List (List Step)) → List Bool
unopened blocks = map (λ (block : List (List Step)). false) blocks

-- whether a line opened each of these blocks: `any` opens one, and a line or a place outside is one by itself
abbrev pub opened_in : Bool → List (ℕ × FileLine) → List Bool
opened_in inside [] = []
opened_in false ((number, FileLine.Does command) ∷ rest) = false ∷ opened_in false rest
opened_in false ((number, FileLine.Marks Mark.Any) ∷ rest) = true ∷ opened_in true rest
opened_in true ((number, FileLine.Marks Mark.Close) ∷ rest) = unopened (place (expected rest)) ++ opened_in false rest
opened_in inside (line ∷ rest) = opened_in inside rest

-- what holds in a block: the devices at risk in each frame, and what has to hold after each line
pub record BlockRules : Type 0 where
  pub risk : Risk
  pub always : List Expectation

-- the same of each block that a line opens
abbrev pub rules_in : Bool → List (ℕ × FileLine) → List BlockRules
rules_in inside [] = []
rules_in false ((number, FileLine.Marks Mark.Any) ∷ rest) = record { risk = risk_in rest; always = always_in rest } ∷ rules_in true rest
rules_in true ((number, FileLine.Marks Mark.Close) ∷ rest) = rules_in false rest
rules_in inside (line ∷ rest) = rules_in inside rest

-- whether a device may lose power in one of the blocks: a line is `anywhere`
abbrev pub any_at_risk : List (ℕ × FileLine) → Bool
any_at_risk [] = false
any_at_risk ((number, FileLine.Marks (Mark.Anywhere name)) ∷ rest) = true
any_at_risk (line ∷ rest) = any_at_risk rest

-- what a file asks for. Up to `main`: the main controller, what has a static address, the names that are given, the numbers of
-- these commands, and of those that are refused. Behind it: the blocks, which of them a line opened, what holds in these, and whether a device may lose power in one
pub record Outline : Type 0 where
  pub main : Setup
  pub board : Board
  pub names : List Named
  pub before : List ℕ
  pub refused : List ℕ
  pub blocks : List (List (List Step))
  pub opened : List Bool
  pub rules : List BlockRules
  pub risky : Bool

abbrev pub named : Name → Place → Named
named name place = record { name = name; place = place }

-- an outline, unless a line is refused
abbrev pub unless : Option Refusal → Outline → Result Outline Refusal
unless None out = Ok out
unless (Some refusal) out = Err refusal

-- a bus was made, and these lines follow
abbrev pub made : Setup → Board → List Named → List ℕ → List ℕ → List (ℕ × FileLine) → Result Outline Refusal
made main board names before refused rest =
    unless (first_refusal outside rest) (record { main = main; board = board; names = names; before = before; refused = refused; blocks = place (expected rest) ++ blocks_in false rest; opened = unopened (place (expected rest)) ++ opened_in false rest; rules = rules_in false rest; risky = any_at_risk rest })

-- a command before the bus declares something, or makes the bus, and then the blocks follow; what a script would refuse does nothing. `before` has the numbers of the commands so far, and `refused` those of the refused ones.
-- Or the first line by which the file is refused, by its number, or why the file is refused at its end
abbrev pub outline : Board → List Named → List ℕ → List ℕ → List (ℕ × FileLine) → Result Outline Refusal
outline board names before refused [] = Err (at_end Reason.NoBus)
outline board names before refused ((number, FileLine.Does (Command.Legacy name address lvr)) ∷ rest) =
    if is_some (place_in names name) then outline board names (before ++ number ∷ []) (refused ++ number ∷ []) rest else
    (if is_some (first_fault board address) then outline board names (before ++ number ∷ []) (refused ++ number ∷ []) rest else
    outline (record board { legacy = slice_set board.legacy address (Some lvr) }) (names ++ named name (Place.Legacy address) ∷ []) (before ++ number ∷ []) refused rest)
outline board names before refused ((number, FileLine.Does (Command.Declare address identity)) ∷ rest) =
    if is_some (first_declare_fault board address identity) then outline board names (before ++ number ∷ []) (refused ++ number ∷ []) rest else
    outline (record board { declared = slice_set board.declared address (Some identity) }) names (before ++ number ∷ []) refused rest
outline board names before refused ((number, FileLine.Does (Command.Main name setup)) ∷ rest) =
    if is_some (place_in names name) then outline board names (before ++ number ∷ []) (refused ++ number ∷ []) rest else
    (if is_capable setup.identity.bcr then made setup board (names ++ named name (Place.Slot 0) ∷ []) (before ++ number ∷ []) refused rest else
    outline board names (before ++ number ∷ []) (refused ++ number ∷ []) rest)
outline board names before refused ((number, FileLine.Does command) ∷ rest) = outline board names (before ++ number ∷ []) (refused ++ number ∷ []) rest
outline board names before refused ((number, FileLine.Nothing) ∷ rest) = outline board names before refused rest
outline board names before refused ((number, FileLine.Formless) ∷ rest) = Err (at_line number Reason.BadLine)
outline board names before refused ((number, FileLine.Marks mark) ∷ rest) = Err (at_line number Reason.NoBus)

-- the start of an outline's bus: its frames accept each request, and no cut waits
pub record IsStartOf (outline : Outline) (start : Seen) : Type 0 where
  pub state : IsStart outline.main outline.board start.state
  pub settings : start.settings ≡ at_first
  pub cuts : start.cuts ≡ no_cuts
  pub names : start.names ≡ outline.names

-- a line of a plan by its parts
abbrev pub step_of : Line → Step
step_of line = record { number = line.number; command = line.command; risk = line.risk; expected = line.expectations.items }

abbrev pub steps_of : Vec Line → List Step
steps_of track = map step_of track.items

abbrev pub tracks_of : List (Vec Line) → List (List Step)
tracks_of tracks = map steps_of tracks

-- the blocks of a plan by their lines' parts
abbrev pub blocks_of : List (Vec (Vec Line)) → List (List (List Step))
blocks_of blocks = map (λ (block : Vec (Vec Line)). tracks_of block.items) blocks

-- the rules of a plan by their parts
abbrev pub rules_of : Rules → BlockRules
rules_of rules = record { risk = rules.risk; always = rules.lasting.items }

-- a plan is what an outline asks for
pub record IsPlanOf (outline : Outline) (plan : Plan) : Type 0 where
  pub start : IsStartOf outline plan.start
  pub before : plan.before.items ≡ outline.before
  pub refused : plan.refused.items ≡ outline.refused
  pub blocks : blocks_of plan.blocks.items ≡ outline.blocks
  pub opened : plan.opened.items ≡ outline.opened
  pub rules : map rules_of plan.rules.items ≡ outline.rules
  pub risky : plan.risky ≡ outline.risky

-- the plan of a file's lines: a bus at its start, the numbers of the lines before it, and the blocks of lines that run from there
pub record IsPlan (lines : List (Vec ℕ)) (plan : Plan) : Type 0 where
  pub said : List (ℕ × FileLine)
  pub are : AreSaid 1 lines said
  pub outlined : Outline
  pub is : outline no_board [] [] [] said ≡ Ok outlined
  pub of : IsPlanOf outlined plan

-- the lines of a file up to the one with this number, or all of them
abbrev pub lines_to : Option ℕ → List (Vec ℕ) → List (Vec ℕ)
lines_to None lines = lines
lines_to (Some number) lines = take number lines

-- a file is refused for what its lines say up to the one that is refused: that is the first
pub record IsRefusedFor (lines : List (Vec ℕ)) (refusal : Refusal) : Type 0 where
  pub said : List (ℕ × FileLine)
  pub are : AreSaid 1 (lines_to refusal.line lines) said
  pub is : outline no_board [] [] [] said ≡ Err refusal

-- why there is no plan of a file: there was no memory, or the file is refused
abbrev pub HasNoPlan : List (Vec ℕ) → PlanFault → Type 0
HasNoPlan lines PlanFault.Memory = Unit {0}
HasNoPlan lines (PlanFault.Refused refusal) = IsRefusedFor lines refusal
