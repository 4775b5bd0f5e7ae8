-- What an event and its reply say of the request that a frame served.
use Rattle.std.specs.Prelude.{ℕ, Option, Some, None, option_and_then}
use Rattle.i3c_base.specs.declared.requests.Fixed.{Fixed}
use Rattle.i3c_base.specs.declared.requests.Served.{Served}
use Rattle.i3c_base.specs.Serve.{refuse_all}
use Rattle.i3c_step.specs.declared.events.Event.{Event}
use Rattle.i3c_step.specs.declared.replies.Reply.{Reply}

-- what a frame served, by its reply
abbrev pub served_of : Reply → Option Served
served_of (Reply.Served served) = Some served
served_of (Reply.Framed framed) = Some framed.served
served_of (Reply.Opened served) = Some served
served_of (Reply.Handed served) = Some served
served_of _ = None

-- the place, from 1, of the record that serving appended
abbrev pub place_of : Served → Option ℕ
place_of (Served.Recorded place) = Some place
place_of _ = None

-- the place of the record that an event appended
abbrev pub recorded_at : Reply → Option ℕ
recorded_at reply = option_and_then place_of (served_of reply)

-- the policy that a frame has on its first request; an opening and a handover refuse each
abbrev pub policy_of : Event → Option Fixed
policy_of (Event.Serve policy cuts) = Some policy
policy_of (Event.Enec to kinds policy cuts) = Some policy
policy_of (Event.Disec to kinds policy cuts) = Some policy
policy_of (Event.Reset policy cuts) = Some policy
policy_of (Event.SendList policy cuts) = Some policy
policy_of (Event.ReadFrom a policy cuts) = Some policy
policy_of (Event.WriteTo a bytes policy cuts) = Some policy
policy_of (Event.SetStatic f new policy cuts) = Some policy
policy_of (Event.SetNew a new policy cuts) = Some policy
policy_of (Event.Get what a policy cuts) = Some policy
policy_of (Event.SetLength way most to policy cuts) = Some policy
policy_of (Event.OpenDaa cuts) = Some refuse_all
policy_of (Event.HandOver to cuts) = Some refuse_all
policy_of _ = None
