-- The lines that an order runs, and what all orders lead to.
use Rattle.std.specs.Prelude.{◌≡◌, ◌<◌, ℕ, ◌+◌, Bool, false, List, [], ◌∷◌, ◌++◌, Contains, Option, Some, MatchOption, drop, length, min, reverse, slice_get, slice_index_or, suc, take, zero}
use Rattle.std.specs.Global.{Vec}
use Rattle.i3c_explore.specs.declared.node.Node.{Node}
use Rattle.i3c_explore.specs.declared.turn.Turn.{Turn}
use Rattle.i3c_explore.specs.Blocks.{IsWhole, LeadsOn, PartIsCounted, block, turns}
use Rattle.i3c_explore.specs.Orders.{track, turns_of}
use Rattle.i3c_explore.specs.Parts.{IsOfPart, Part}
use Rattle.i3c_scene.specs.declared.line.Line.{Line}
use Rattle.i3c_scene.specs.Scenes.{Seen}
use Rattle.i3c_scene.specs.Trying.{LineSteps}
use Rattle.i3c_scene.specs.Unmet.{LineTells}
use Rattle.i3c_tracks.specs.declared.course.Run.{Run}

-- the line of this run, its way, and whether its block was opened
abbrev pub IsRun : Run → Line → ℕ → Bool → Type 0
IsRun run line way opened = (run.line.now ≡ line) × (run.way ≡ way) × (run.opened ≡ opened)

-- what a turn runs behind others of its block: the next line of its track, or nothing where there is none
abbrev pub RunsOne : List (Vec Line) → Bool → List Turn → Turn → List Run → List Run → Type 0
RunsOne tracks opened before turn old new =
    MatchOption (slice_get (track tracks turn.track) (turns_of turn.track before)) (new ≡ old) (λ line. (run : Run) × IsRun run line turn.way opened × (new ≡ old ++ run ∷ []))

-- the lines that the turns of a block run, the newest turn first
abbrev pub AreRuns : List (Vec Line) → Bool → List Turn → List Run → Type 0
AreRuns tracks opened [] runs = runs ≡ []
AreRuns tracks opened (turn ∷ before) runs = (earlier : List Run) × AreRuns tracks opened before earlier × RunsOne tracks opened before turn earlier runs

-- how many lines of each track have run after some turns
abbrev pub ArePlaces : List (Vec Line) → List Turn → List ℕ → Type 0
ArePlaces tracks before places = (length places ≡ length tracks) × ((t : ℕ) → t < length tracks → slice_index_or places t 0 ≡ min (turns_of t before) (length (track tracks t)))

-- how many lines some tracks have
abbrev pub count_lines : List (Vec Line) → ℕ
count_lines [] = 0
count_lines (lines ∷ rest) = length lines.items + count_lines rest

-- the lines that an order runs in `count` blocks, one after another, and the rest of the order: a block takes a turn for each
-- of its lines
abbrev pub RunIn : List (Vec (Vec Line)) → List Bool → List Turn → ℕ → List Run → List Turn → Type 0
RunIn blocks opened order zero runs left = (runs ≡ []) × (left ≡ order)
RunIn blocks opened order (suc b) runs left =
    (earlier : List Run) × (own : List Run) × (rest : List Turn) × RunIn blocks opened order b earlier rest
    × AreRuns (block blocks b) (slice_index_or opened b false) (reverse (take (count_lines (block blocks b)) rest)) own
    × (runs ≡ earlier ++ own) × (left ≡ drop (count_lines (block blocks b)) rest)

-- the lines that an order of these blocks runs, the oldest turn first
abbrev pub AreRunsOf : List (Vec (Vec Line)) → List Bool → List Turn → List Run → Type 0
AreRunsOf blocks opened order runs = (left : List Turn) × RunIn blocks opened order (length blocks) runs left

-- lines that run one after another, each in its way, lead from one scene to another
abbrev pub RunsLead : Seen → List Run → Seen → Type 0
RunsLead start [] end = end ≡ start
RunsLead start (run ∷ rest) end = (next : Seen) × LineSteps start run.line.now run.way next × RunsLead next rest end

-- the lines before the last lead on, and the last one breaks an expectation: this is the number of the first that it breaks, and what is there in place of it
pub record LastBreaks (start : Seen) (runs : List Run) (number : ℕ) (there : List ℕ) : Type 0 where
  pub earlier : List Run
  pub last : Run
  pub are : runs ≡ earlier ++ last ∷ []
  pub scene : Seen
  pub led : RunsLead start earlier scene
  pub told : LineTells scene last.line.now last.way (Some number) there

-- what all orders of a part lead to: each to one of these ends, each end is reached by the order that it has, and the interleavings are counted, all together and at the ends
pub record LeadsTo (start : Seen) (blocks : List (Vec (Vec Line))) (part : Part) (ends : List (Node Seen)) (orders : Option ℕ) : Type 0 where
  pub led : (course : List (List Turn)) → IsWhole blocks course → IsOfPart part blocks course → (end : Node Seen) × Contains ends end × LeadsOn LineSteps blocks start course end.state
  pub reached : (end : Node Seen) → Contains ends end → (course : List (List Turn)) × IsWhole blocks course × IsOfPart part blocks course × (end.order.items ≡ reverse (turns course)) × LeadsOn LineSteps blocks start course end.state
  pub counted : PartIsCounted LineSteps part blocks start ends orders
