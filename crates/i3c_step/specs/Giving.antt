-- The policy that a reply gives.
use Rattle.std.specs.Option.{option_map_or}
use Rattle.i3c_base.specs.declared.requests.Fixed.{Fixed}
use Rattle.i3c_base.specs.Serve.{given_for, refuse_all}
use Rattle.i3c_step.specs.declared.events.Event.{Event}
use Rattle.i3c_step.specs.declared.replies.Reply.{Reply}
use Rattle.i3c_step.specs.Serving.{served_of}

-- the policy with the verdict that was given for what a frame served, and with refusals otherwise
abbrev pub given_by : Reply → Fixed
given_by reply = option_map_or given_for (served_of reply) refuse_all

-- the event under this policy, if it carries one
abbrev pub under : Fixed → Event → Event
under policy (Event.Serve other cuts) = Event.Serve policy cuts
under policy (Event.Enec to kinds other cuts) = Event.Enec to kinds policy cuts
under policy (Event.Disec to kinds other cuts) = Event.Disec to kinds policy cuts
under policy (Event.Reset other cuts) = Event.Reset policy cuts
under policy (Event.SendList other cuts) = Event.SendList policy cuts
under policy (Event.ReadFrom a other cuts) = Event.ReadFrom a policy cuts
under policy (Event.WriteTo a bytes other cuts) = Event.WriteTo a bytes policy cuts
under policy (Event.SetStatic f new other cuts) = Event.SetStatic f new policy cuts
under policy (Event.SetNew a new other cuts) = Event.SetNew a new policy cuts
under policy (Event.Get what a other cuts) = Event.Get what a policy cuts
under policy (Event.SetLength way most to other cuts) = Event.SetLength way most to policy cuts
under policy event = event
