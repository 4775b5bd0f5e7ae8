-- What the exploration of a file answers.
use Rattle.std.specs.Prelude.{◌≡◌, ◌⊎◌, ℕ, List, ◌++◌, ⊤}
use Rattle.std.specs.Global.{Vec}
use Rattle.i3c_explore.specs.Blocks.{IsBegun, IsShortestInPart, LeadsOn}
use Rattle.i3c_explore.specs.Parts.{IsOfPart, Part}
use Rattle.i3c_explore.specs.declared.limits.Limits.{Limits}
use Rattle.i3c_explore.specs.declared.turn.Turn.{Turn}
use Rattle.i3c_scene.specs.Scenes.{Seen}
use Rattle.i3c_scene.specs.Trying.{LineBreaks, LineSteps}
use Rattle.i3c_scene.specs.declared.line.Line.{Line}
use Rattle.i3c_tracks.specs.declared.course.Run.{Run}
use Rattle.i3c_tracks.specs.declared.answer.Answer.{Answer}
use Rattle.i3c_tracks.specs.declared.plan.Plan.{Plan}
use Rattle.i3c_tracks.specs.declared.refusal.Reason.{Reason}
use Rattle.i3c_tracks.specs.declared.refusal.Refusal.{Refusal}
use Rattle.i3c_tracks.specs.declared.question.Question.{Question}
use Rattle.i3c_tracks.specs.declared.showing.Showing.{Showing}
use Rattle.i3c_tracks.specs.Courses.{AreRunsOf, LastBreaks}
use Rattle.i3c_tracks.specs.Reports.{TellsEnds}
use Rattle.i3c_tracks.specs.Planning.{IsPlan, IsRefusedFor}
use Rattle.i3c_tracks.specs.Refusing.{at_end}
use Rattle.i3c_tracks.specs.Telling.{refusal_line, script_text}

-- every order of a part of these blocks' orders, and every beginning of one, leads on from the start; or one breaks an expectation, and no shorter one of the part does. The whole has every order, by a law of `i3c_explore`
abbrev pub IsAnswer : Seen → List (Vec (Vec Line)) → Part → Answer → Type 0
IsAnswer start blocks part Answer.Holds = (course : List (List Turn)) → IsBegun blocks course → IsOfPart part blocks course → (end : Seen) × LeadsOn LineSteps blocks start course end
IsAnswer start blocks part Answer.Refused = ⊤
IsAnswer start blocks part Answer.Breaks = (order : List Turn) × IsShortestInPart LineSteps LineBreaks part blocks start order

-- the same of the blocks of a file's plan, from its start; of a file that isn't explored nothing is said
abbrev pub IsExplored : List (Vec ℕ) → Part → Answer → Type 0
IsExplored lines part Answer.Refused = ⊤
IsExplored lines part answer = (plan : Plan) × IsPlan lines plan × IsAnswer plan.start plan.blocks.items part answer

-- what is printed of a file in whose part of orders one breaks an expectation: the lines of the shortest such order, with their cuts,
-- behind those that make the bus, and the first expectation that the last of them breaks
pub record TellsBreak (lines : List (Vec ℕ)) (part : Part) (text : List ℕ) : Type 0 where
  pub plan : Plan
  pub is : IsPlan lines plan
  pub order : List Turn
  pub shortest : IsShortestInPart LineSteps LineBreaks part plan.blocks.items plan.start order
  pub runs : List Run
  pub are : AreRunsOf plan.blocks.items plan.opened.items order runs
  pub number : ℕ
  pub there : List ℕ
  pub broken : LastBreaks plan.start runs number there
  pub script : text ≡ script_text lines plan.before.items runs number there

-- a file has a plan, but a limit was reached
abbrev pub IsOverLimits : List (Vec ℕ) → Refusal → Type 0
IsOverLimits lines refusal = (plan : Plan) × IsPlan lines plan × (refusal ≡ at_end Reason.Most)

-- a file is refused for what it says, or a limit was reached
abbrev pub IsRefused : List (Vec ℕ) → Refusal → Type 0
IsRefused lines refusal = IsRefusedFor lines refusal ⊎ IsOverLimits lines refusal

-- what is printed with an answer: what all orders of the part lead to, the line of a refusal, or an order that breaks something
abbrev pub IsPrinted : List (Vec ℕ) → Limits → Part → Showing → List Question → Answer → List ℕ → List ℕ → Type 0
IsPrinted lines limits part showing questions Answer.Holds old new = (said : List ℕ) × TellsEnds lines limits part showing questions said × (new ≡ old ++ said)
IsPrinted lines limits part showing questions Answer.Refused old new = (refusal : Refusal) × IsRefused lines refusal × (new ≡ old ++ refusal_line refusal)
IsPrinted lines limits part showing questions Answer.Breaks old new = (said : List ℕ) × TellsBreak lines part said × (new ≡ old ++ said)
