-- What happens in a session that nobody is cut in.
use Rattle.std.specs.Prelude.{◌≡◌, ◌⊎◌, ⊤, ℕ, ◌+◌, Bool, true, false, List, [], ◌∷◌, Option, if◌then◌else◌}
use Rattle.i3c_base.specs.declared.answers.RoundReply.{RoundReply}
use Rattle.i3c_base.specs.Cutting.{IsUncut}
use Rattle.i3c_base.specs.State.{Device, in_slot}
use Rattle.i3c_step.specs.declared.events.Event.{Event}
use Rattle.i3c_step.specs.declared.replies.Reply.{Reply}

-- a round without cuts, or any other event but the session's end
abbrev pub IsInSession : Event → Type 0
IsInSession (Event.Round cuts) = IsUncut cuts
IsInSession Event.EndDaa = ⊥
IsInSession _ = ⊤

-- the event is a round
abbrev pub is_round : Event → Bool
is_round (Event.Round cuts) = true
is_round _ = false

-- the last of a session's answers: nobody hears any more, or no address is left
abbrev pub IsLastRound : Reply → Type 0
IsLastRound answer = (answer ≡ Reply.Round RoundReply.Done) ⊎ (answer ≡ Reply.Round RoundReply.NoAddress)

-- how many of these devices hear the open session
unfoldable pub hearers : List (Option Device) → ℕ
hearers [] = 0
hearers (place ∷ places) = (if in_slot (λ d. d.hearing) place then 1 else 0) + hearers places
