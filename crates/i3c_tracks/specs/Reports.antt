-- The report of what all orders lead to.
use Rattle.std.specs.Prelude.{◌≡◌, ◌≤◌, ◌+◌, ℕ, Bool, List, [], ◌∷◌, ◌++◌, Option, length, not}
use Rattle.std.specs.Global.{Vec}
use Rattle.i3c_explore.specs.declared.limits.Limits.{Limits}
use Rattle.i3c_explore.specs.declared.node.Node.{Node}
use Rattle.i3c_explore.specs.declared.ran.Ran.{Ran}
use Rattle.i3c_explore.specs.Notes.{AreNoted}
use Rattle.i3c_explore.specs.Parts.{Part}
use Rattle.i3c_explore.specs.Runs.{IsByLayers}
use Rattle.i3c_scene.specs.Latest.{latest_of}
use Rattle.i3c_scene.specs.Scenes.{Seen}
use Rattle.i3c_scene.specs.Trying.{LineComesTo, LineSteps}
use Rattle.i3c_tracks.specs.declared.plan.Plan.{Plan}
use Rattle.i3c_tracks.specs.declared.question.Question.{Question}
use Rattle.i3c_tracks.specs.declared.showing.Showing.{Showing}
use Rattle.i3c_tracks.specs.Courses.{LeadsTo}
use Rattle.i3c_tracks.specs.Ends.{AreEndTexts, numbers_text}
use Rattle.i3c_tracks.specs.Groups.{AreGroups}
use Rattle.i3c_tracks.specs.Planning.{IsPlan}
use Rattle.i3c_tracks.specs.Questions.{AreKnown}
use Rattle.i3c_tracks.specs.Unexpected.{refused_lines, unexpected_text}

-- what is printed of the ends: their groups if something is asked, and otherwise each end, unless none is shown
abbrev pub AreShown : Showing → List Question → List (Vec ℕ) → Plan → List (Node Seen) → List ℕ → Type 0
AreShown showing (question ∷ questions) lines plan ends text = AreGroups showing lines plan (question ∷ questions) ends text
AreShown Showing.Ends [] lines plan ends text = AreEndTexts lines plan.blocks.items plan.opened.items (not plan.risky) ends (length ends) text
AreShown Showing.Numbers [] lines plan ends text = text ≡ []

-- the ends of a plan's orders, after so many steps, in which these lines were noted
abbrev pub IsReport : Showing → List Question → List (Vec ℕ) → Plan → List (Node Seen) → Option ℕ → ℕ → List (Vec (Vec Bool)) → List ℕ → Type 0
IsReport showing questions lines plan ends orders steps noted text =
    (told : List ℕ) × AreShown showing questions lines plan ends told × (text ≡ numbers_text orders steps (length ends) ++ (unexpected_text showing lines (refused_lines plan noted) ++ told))

-- what is printed of a file in whose part of orders all holds: what these lead to. The steps are the lines before the bus and those that are run from there, layer by layer, and are within the limits. A line that is noted is refused in some order, with nothing expected of it alone, and each other line can go without that in each order. A line gives each name that is asked about
pub record TellsEnds (lines : List (Vec ℕ)) (limits : Limits) (part : Part) (showing : Showing) (questions : List Question) (text : List ℕ) : Type 0 where
  pub plan : Plan
  pub is : IsPlan lines plan
  pub known : AreKnown lines questions
  pub ends : List (Node Seen)
  pub orders : Option ℕ
  pub ran : ℕ
  pub leads : LeadsTo plan.start plan.blocks.items part ends orders
  pub layers : IsByLayers LineSteps latest_of part plan.blocks.items plan.start limits.states ends ran
  pub within : ran + length plan.before.items ≤ limits.steps
  pub noted : List (Vec (Vec Bool))
  pub are : AreNoted LineSteps (LineComesTo Ran.Noted) (LineComesTo Ran.Held) part plan.blocks.items plan.start noted
  pub report : IsReport showing questions lines plan ends orders (ran + length plan.before.items) noted text
