-- A run of a program as a script.
use Rattle.std.specs.Prelude.{◌≡◌, ◌++◌, ◌∷◌, ℕ, List, [], drop, length, reverse, take, true}
use Rattle.std.specs.Global.{Vec}
use Rattle.std.specs.List.{flat_map}
use Rattle.i3c_every.specs.declared.met.Met.{Met}
use Rattle.i3c_every.specs.declared.sent.Sent.{Sent}
use Rattle.i3c_every.specs.declared.told.Told.{Told}
use Rattle.i3c_explore.specs.declared.turn.Turn.{Turn}
use Rattle.i3c_orders.specs.declared.choice.Choice.{Choice}
use Rattle.i3c_scene.specs.declared.risk.Risk.{Risk}
use Rattle.i3c_scene.specs.Replying.{Replied}
use Rattle.i3c_scene.specs.Scenes.{Seen}
use Rattle.i3c_scene.specs.Trying.{ways_of}
use Rattle.i3c_tracks.specs.declared.course.Run.{Run}
use Rattle.i3c_tracks.specs.Courses.{AreRuns, AreRunsOf, count_lines}
use Rattle.i3c_tracks.specs.Telling.{cuts_before, expectation_text, heading_text, line_at, lines_text, runs_text}
use Rattle.i3c_program.specs.declared.scenario.Scenario.{Scenario}
use Rattle.i3c_program.specs.declared.standing.Standing.{Standing}

-- the turns of the tracks in a run so far, the oldest first
abbrev pub turns_in : List (Choice (Sent (List ℕ)) (Met Seen) (Told Replied)) → List Turn
turns_in choices = flat_map (λ choice. choice.taken.state.turns.items) choices

-- the lines that these turns run: those of the tracks first, and where these are at their end those of the blocks behind
pub record AreRunsIn (scenario : Scenario) (order : List Turn) (tracks rest : List Run) : Type 0 where
  pub own : AreRuns scenario.tracks.lines.items true (reverse (take (count_lines scenario.tracks.lines.items) order)) tracks
  pub later : AreRunsOf scenario.rest.items [] (drop (count_lines scenario.tracks.lines.items) order) rest

-- a program's line as it runs in a script, behind the cuts of the way that it goes
abbrev pub sent_text : Risk → Sent (List ℕ) → ℕ → List ℕ
sent_text risk (Sent.Meets line) way = cuts_before risk (ways_of risk way) (10 ∷ []) ++ (line ++ 10 ∷ [])
sent_text risk (Sent.Alone line) way = cuts_before risk (ways_of risk way) (10 ∷ []) ++ (line ++ 10 ∷ [])
sent_text risk Sent.Waits way = []
sent_text risk (Sent.Marks mark) way = []

-- the lines of the tracks and those of the program, each behind the turns that ran before it
abbrev pub woven : List (Vec ℕ) → Risk → List Run → List (Choice (Sent (List ℕ)) (Met Seen) (Told Replied)) → List ℕ
woven lines risk runs [] = runs_text lines runs
woven lines risk runs (choice ∷ choices) =
    runs_text lines (take (length choice.taken.state.turns.items) runs)
    ++ (sent_text risk choice.line choice.taken.state.way ++ woven lines risk (drop (length choice.taken.state.turns.items) runs) choices)

-- the comments in front, and the expectation behind, where the order breaks one
abbrev pub head_of : List (Vec ℕ) → Standing → List ℕ
head_of lines (Standing.Broken broken) = heading_text broken.number (line_at lines broken.number) broken.there
head_of lines standing = []

abbrev pub foot_of : List (Vec ℕ) → Standing → List ℕ
foot_of lines (Standing.Broken broken) = expectation_text (line_at lines broken.number)
foot_of lines standing = []

-- the turns behind the program's last line
abbrev pub turns_behind : Standing → List Turn
turns_behind (Standing.Broken broken) = broken.behind.items
turns_behind standing = []

-- a run as a script: the lines in front of the bus and of the block, then those of the tracks and of the program, and what ran behind
abbrev pub IsScript : Scenario → List (Choice (Sent (List ℕ)) (Met Seen) (Told Replied)) → Standing → List ℕ → Type 0
IsScript scenario choices standing script =
    (front : List Run) × (tracks : List Run) × (rest : List Run) × AreRunsOf scenario.front.items [] scenario.course.items front
    × AreRunsIn scenario (turns_in choices ++ turns_behind standing) tracks rest
    × (script ≡ head_of scenario.lines.items standing ++ (lines_text scenario.lines.items scenario.before.items ++ (runs_text scenario.lines.items front
    ++ (woven scenario.lines.items scenario.tracks.rules.risk tracks choices ++ (runs_text scenario.lines.items rest ++ foot_of scenario.lines.items standing)))))
