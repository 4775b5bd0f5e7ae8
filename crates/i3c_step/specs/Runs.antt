-- Whole runs.
use Rattle.std.specs.Prelude.{◌≡◌, List, [], ◌∷◌}
use Rattle.i3c_base.specs.declared.device.Setup.{Setup}
use Rattle.i3c_base.specs.State.{Board, IsStart, State}
use Rattle.i3c_step.specs.declared.events.Event.{Event}
use Rattle.i3c_step.specs.declared.replies.Reply.{Reply}
use Rattle.i3c_step.specs.Step.{Step}

-- these events with these replies, one for each, lead from the one state to the other
abbrev pub IsRun : State → List Event → List Reply → State → Type 0
IsRun old [] [] new = new ≡ old
IsRun old (event ∷ events) (reply ∷ replies) new = (mid : State) × Step old event reply mid × IsRun mid events replies new
IsRun old [] (reply ∷ replies) new = ⊥
IsRun old (event ∷ events) [] new = ⊥

-- a legal run: the same from a start
abbrev pub IsLegalRun : Setup → Board → List Event → List Reply → State → Type 0
IsLegalRun main board events replies new = (start : State) × IsStart main board start × IsRun start events replies new
