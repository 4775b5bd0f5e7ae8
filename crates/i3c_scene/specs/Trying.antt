-- Lines that are tried in each way, and what is expected behind them.
use Rattle.std.specs.Prelude.{◌≡◌, ℕ, Bool, true, false, ◌&&◌, ◌||◌, not, if◌then◌else◌, List, [], ◌∷◌, Option, None, Some, Result, Ok, Err}
use Rattle.i3c_facts.specs.declared.before.Before.{Before}
use Rattle.i3c_facts.specs.declared.before.LineResult.{LineResult}
use Rattle.i3c_facts.specs.Hearing.{came_to, no_line}
use Rattle.i3c_facts.specs.Holding.{claims_hold}
use Rattle.i3c_lines.specs.declared.command.Command.{Command}
use Rattle.i3c_lines.specs.declared.names.Name.{Name}
use Rattle.i3c_lines.specs.declared.refusals.Refusal.{Refusal}
use Rattle.i3c_script.specs.declared.piece.Piece.{Piece}
use Rattle.i3c_text.specs.declared.line_error.LineError.{LineError}
use Rattle.i3c_explore.specs.declared.ran.Ran.{Ran}
use Rattle.i3c_scene.specs.declared.line.Expectation.{Expectation}
use Rattle.i3c_scene.specs.declared.line.Line.{Line}
use Rattle.i3c_scene.specs.declared.risk.Risk.{Risk}
use Rattle.i3c_scene.specs.declared.ways.Ways.{Ways}
use Rattle.i3c_scene.specs.Going.{Does, cut_in, risked, sends}
use Rattle.i3c_scene.specs.Pairs.{pair, two_ways}
use Rattle.i3c_scene.specs.Scenes.{Seen, place_in}

-- the slot of a name's device, if the line sends a frame in which that device may lose power
abbrev pub slot_at_risk : Seen → Bool → Name → Option ℕ
slot_at_risk old false name = None
slot_at_risk old true name = risked old.state (place_in old.names name)

-- the ways of the devices at risk, by the way of their line
abbrev pub ways_of : Risk → ℕ → Ways
ways_of Risk.Nobody way = two_ways way 0
ways_of (Risk.One name) way = two_ways way 0
ways_of (Risk.Two one other) way = pair way

-- the scene with the cuts of a line added, in these ways of the devices at risk
abbrev pub cut_as : Seen → Bool → Risk → Ways → Seen
cut_as old sent Risk.Nobody ways = old
cut_as old sent (Risk.One name) ways = cut_in old (slot_at_risk old sent name) ways.one
cut_as old sent (Risk.Two one other) ways = cut_in (cut_in old (slot_at_risk old sent one) ways.one) (slot_at_risk old sent other) ways.other

-- how a line with this outcome ends; one that is short of memory doesn't
abbrev pub IsEndOf : Result (Unit {0}) (LineError Refusal) → LineResult → Type 0
IsEndOf (Ok done) ended = ended ≡ LineResult.Done
IsEndOf (Err (LineError.Refused why)) ended = ended ≡ LineResult.Refused why
IsEndOf (Err LineError.Memory) ended = ⊥

-- a command runs in these ways of the devices at risk: what it comes to, and why it is refused, if it is
abbrev pub DoesIn : Seen → Command → Risk → Ways → List Piece → Option Refusal → Seen → Type 0
DoesIn old command risk ways pieces refused new = Does (cut_as old (sends old.state old.names command) risk ways) command pieces refused new

-- a line runs in these ways of the devices at risk, with this result
abbrev pub RunsIn : Seen → Option Command → Risk → Ways → Before → Seen → Type 0
RunsIn old None risk ways before new = (new ≡ old) × (before ≡ no_line)
RunsIn old (Some command) risk ways before new = (pieces : List Piece) × (refused : Option Refusal) × DoesIn old command risk ways pieces refused new × (before ≡ came_to pieces refused)

-- a line runs in a way, with this result
abbrev pub Runs : Seen → Option Command → Risk → ℕ → Before → Seen → Type 0
Runs old command risk way before new = RunsIn old command risk (ways_of risk way) before new

-- whether all that is expected holds
abbrev pub all_hold : Seen → Before → List Expectation → Bool
all_hold new before [] = true
all_hold new before (one ∷ rest) = claims_hold new.state (place_in new.names) before one.facts && all_hold new before rest

-- something is expected of one line alone, and not of each line of a block
abbrev pub is_expected_in : List Expectation → Bool
is_expected_in [] = false
is_expected_in (one ∷ rest) = not one.lasts || is_expected_in rest

abbrev pub is_expected : Line → Bool
is_expected line = is_expected_in line.expectations.items

-- the line before was refused
abbrev pub was_refused : LineResult → Bool
was_refused (LineResult.Refused why) = true
was_refused ended = false

-- what comes of a line that ended so: an expectation is broken, or a refusal is noted of which nothing was expected, or neither
abbrev pub outcome : Seen → Before → Line → Ran
outcome new before line =
    if all_hold new before line.expectations.items then (if was_refused before.result && not (is_expected line) then Ran.Noted else Ran.Held) else Ran.Broken

-- a line runs from a scene in a way, and this comes of it
abbrev pub LineComesTo : Ran → Seen → Line → ℕ → Type 0
LineComesTo ran old line way = (before : Before) × (new : Seen) × Runs old line.command line.risk way before new × (outcome new before line ≡ ran)

-- a line leads from one scene to another in a way: it runs, and what is expected holds
abbrev pub LineSteps : Seen → Line → ℕ → Seen → Type 0
LineSteps old line way new = (before : Before) × Runs old line.command line.risk way before new × (all_hold new before line.expectations.items ≡ true)

-- a line breaks an expectation in a way
abbrev pub LineBreaks : Seen → Line → ℕ → Type 0
LineBreaks old line way = (before : Before) × (new : Seen) × Runs old line.command line.risk way before new × (all_hold new before line.expectations.items ≡ false)
