-- What a file says of a program that meets its orders.
use Rattle.std.specs.Prelude.{◌≡◌, ◌≤◌, ◌++◌, ◌∷◌, ℕ, Bool, true, List, [], length, Some, reverse, slice_get}
use Rattle.std.specs.Global.{Vec}
use Rattle.i3c_explore.specs.declared.limits.Limits.{Limits}
use Rattle.i3c_explore.specs.declared.turn.Turn.{Turn}
use Rattle.i3c_explore.specs.Blocks.{IsShortestInPart, IsWhole, LeadsOn, turns}
use Rattle.i3c_explore.specs.Parts.{whole}
use Rattle.i3c_explore.specs.Stops.{ExceedsLimits}
use Rattle.i3c_scene.specs.declared.line.Line.{Line}
use Rattle.i3c_scene.specs.Latest.{latest_of}
use Rattle.i3c_scene.specs.Scenes.{Seen}
use Rattle.i3c_scene.specs.Trying.{LineBreaks, LineSteps}
use Rattle.i3c_tracks.specs.declared.plan.Plan.{Plan}
use Rattle.i3c_tracks.specs.Planning.{IsPlan, IsRefusedFor}
use Rattle.i3c_program.specs.declared.scenario.NoScenario.{NoScenario}
use Rattle.i3c_program.specs.declared.scenario.Parted.{Parted}
use Rattle.i3c_program.specs.declared.scenario.Scenario.{Scenario}

-- no line opened a block from this place on
abbrev pub AreNone : List Bool → ℕ → Type 0
AreNone opened from = (k : ℕ) → from ≤ k → slice_get opened k ≡ Some true → ⊥

-- this is the first one that a line opened from a place on
abbrev pub IsFirst : List Bool → ℕ → ℕ → Type 0
IsFirst opened from at = (from ≤ at) × (slice_get opened at ≡ Some true) × ((k : ℕ) → from ≤ k → slice_get opened k ≡ Some true → at ≤ k)

-- a line opened this block, and no other one
abbrev pub IsOnly : List Bool → ℕ → Type 0
IsOnly opened at = (slice_get opened at ≡ Some true) × ((k : ℕ) → slice_get opened k ≡ Some true → k ≡ at)

-- none or several were opened
abbrev pub HasNotOne : List Bool → Type 0
HasNotOne opened = (at : ℕ) → IsOnly opened at → ⊥

-- blocks lead from one scene to another, in this order, the oldest turn first
abbrev pub IsBehind : List (Vec (Vec Line)) → Seen → List Turn → Seen → Type 0
IsBehind front start order end = (course : List (List Turn)) × IsWhole front course × (order ≡ reverse (turns course)) × LeadsOn LineSteps front start course end

-- why they don't
abbrev pub IsNotBehind : List (Vec (Vec Line)) → Seen → Limits → NoScenario → Type 0
IsNotBehind front start limits NoScenario.Memory = Unit {0}
IsNotBehind front start limits NoScenario.Breaks = (order : List Turn) × IsShortestInPart LineSteps LineBreaks whole front start order
IsNotBehind front start limits NoScenario.Most = ExceedsLimits LineSteps latest_of whole front start limits
IsNotBehind front start limits NoScenario.NotOneBlock = ⊥
IsNotBehind front start limits (NoScenario.Refused refusal) = ⊥

-- blocks parted at one: those in front of it, as many as its place says, the one, and those behind it
abbrev pub ArePartedAt : List (Vec (Vec Line)) → ℕ → Parted → Type 0
ArePartedAt blocks at parted = (blocks ≡ parted.front.items ++ parted.block ∷ parted.rest.items) × (length parted.front.items ≡ at)

-- the blocks of a plan: those in front of the one that a line opened, that one, and those behind it
pub record AreParted (plan : Plan) (front : List (Vec (Vec Line))) (block : Vec (Vec Line)) (rest : List (Vec (Vec Line))) : Type 0 where
  pub blocks : plan.blocks.items ≡ front ++ block ∷ rest
  pub only : IsOnly plan.opened.items (length front)

-- the scenario of a file's lines
pub record IsScenario (file : List (Vec ℕ)) (limits : Limits) (scenario : Scenario) : Type 0 where
  pub plan : Plan
  pub is : IsPlan file plan
  pub lines : scenario.lines.items ≡ file
  pub before : scenario.before.items ≡ plan.before.items
  pub parted : AreParted plan scenario.front.items scenario.tracks.lines scenario.rest.items
  pub led : IsBehind scenario.front.items plan.start scenario.course.items scenario.start
  pub rules : plan.rules.items ≡ scenario.tracks.rules ∷ []
  pub limits_are : scenario.tracks.limits ≡ limits

-- why a file is no scenario: it is refused, or not one line opens a block, or what is in front of the block doesn't lead on
abbrev pub HasNoScenario : List (Vec ℕ) → Limits → NoScenario → Type 0
HasNoScenario file limits NoScenario.Memory = Unit {0}
HasNoScenario file limits (NoScenario.Refused refusal) = IsRefusedFor file refusal
HasNoScenario file limits NoScenario.NotOneBlock = (plan : Plan) × IsPlan file plan × HasNotOne plan.opened.items
HasNoScenario file limits why = (plan : Plan) × (front : List (Vec (Vec Line))) × (block : Vec (Vec Line)) × (rest : List (Vec (Vec Line))) × IsPlan file plan × AreParted plan front block rest × IsNotBehind front plan.start limits why
