-- A whole assignment: its opening, its rounds and its end.
use Rattle.std.specs.Prelude.{◌≡◌, ℕ, Bool, List, [], ◌∷◌, ◌++◌, if◌then◌else◌, map}
use Rattle.i3c_base.specs.declared.answers.RoundReply.{RoundReply}
use Rattle.i3c_base.specs.declared.identity.Identity.{Identity}
use Rattle.i3c_base.specs.declared.requests.Served.{Served}
use Rattle.i3c_base.specs.Cutting.{CutList, no_cuts}
use Rattle.i3c_base.specs.State.{State}
use Rattle.i3c_frame.specs.declared.symbols.Symbol.{Symbol}
use Rattle.i3c_step.specs.declared.events.Event.{Event}
use Rattle.i3c_step.specs.declared.replies.Reply.{Reply}
use Rattle.i3c_step.specs.Step.{Step}
use Rattle.i3c_bus.specs.Wire.{IsWire}

-- one step, and its wire
abbrev pub Sends : State → Event → Reply → List Symbol → State → Type 0
Sends old event reply wire new = Step old event reply new × IsWire old event reply new wire

-- rounds with these answers, in order, in which nobody is cut, and their wire
abbrev pub AreRounds : State → List RoundReply → List Symbol → State → Type 0
AreRounds old [] wire new = (wire ≡ []) × (new ≡ old)
AreRounds old (answer ∷ later) wire new =
    (mid : State) × (first : List Symbol) × (rest : List Symbol)
    × Sends old (Event.Round no_cuts) (Reply.Round answer) first mid × AreRounds mid later rest new × (wire ≡ first ++ rest)

-- the answer of a round that gives an address to an identity
abbrev pub given_reply : ℕ × Identity → RoundReply
given_reply pair = RoundReply.Assigned pair.0 pair.1

-- the answer of a session's last round: all have an address, or none is left
abbrev pub last_reply : Bool → RoundReply
last_reply complete = if complete then RoundReply.Done else RoundReply.NoAddress

-- A session that gives these identities these addresses, in order, and then its last answer; and its wire.
pub record IsAssignment (old : State) (cuts : CutList) (served : Served) (given : List (ℕ × Identity)) (complete : Bool) (new : State) (wire : List Symbol) : Type 0 where
  pub opened : State
  pub last : State
  pub opening : List Symbol
  pub rounds : List Symbol
  pub ending : List Symbol
  pub opens : Sends old (Event.OpenDaa cuts) (Reply.Opened served) opening opened
  pub gives : AreRounds opened (map given_reply given ++ last_reply complete ∷ []) rounds last
  pub ends : Sends last Event.EndDaa Reply.Ended ending new
  pub sent : wire ≡ opening ++ (rounds ++ ending)
