-- The last way of a line that has to be tried: each later way does what some way up to this one does.
use Rattle.std.specs.Prelude.{ℕ, suc, ◌+◌, ◌*◌, length, max, Option, None, Some, is_some, if◌then◌else◌}
use Rattle.i3c_base.specs.State.{State}
use Rattle.i3c_base.specs.Frames.{list_bits}
use Rattle.i3c_step.specs.declared.events.Command.{Command as Frame}
use Rattle.i3c_lines.specs.declared.command.Command.{Command}
use Rattle.i3c_lines.specs.declared.names.Name.{Name}
use Rattle.i3c_lines.specs.declared.sent.Sent.{Sent}
use Rattle.i3c_scene.specs.declared.line.Line.{Line}
use Rattle.i3c_scene.specs.declared.risk.Risk.{Risk}
use Rattle.i3c_scene.specs.declared.ways.Ways.{Ways}
use Rattle.i3c_scene.specs.Going.{sends}
use Rattle.i3c_scene.specs.Pairs.{both_within, last_pair, pair, two_ways}
use Rattle.i3c_scene.specs.Scenes.{Seen}
use Rattle.i3c_scene.specs.Trying.{slot_at_risk}

-- the number of the last bit that a frame under the role can have: a request that is served on the way takes 18 bits
abbrev pub last_of_frame : State → Frame → ℕ
last_of_frame st Frame.Serve = 9
last_of_frame st (Frame.Enec None kinds) = 36
last_of_frame st (Frame.Enec (Some at) kinds) = 45
last_of_frame st (Frame.Disec None kinds) = 36
last_of_frame st (Frame.Disec (Some at) kinds) = 45
last_of_frame st Frame.Reset = 27
last_of_frame st Frame.SendList = 18 + list_bits st
last_of_frame st (Frame.ReadFrom at) = 171
last_of_frame st (Frame.WriteTo at bytes) = 27 + 9 * length bytes.items
last_of_frame st (Frame.SetStatic at to) = 45
last_of_frame st (Frame.SetNew at to) = 45
last_of_frame st (Frame.Get what at) = 90
last_of_frame st (Frame.SetLength way most None) = 45
last_of_frame st (Frame.SetLength way most (Some at)) = 54

-- the same of a line that a controller sends; 0 if it sends no frame
abbrev pub last_of_sent : State → Sent → ℕ
last_of_sent st (Sent.Frame frame) = last_of_frame st frame
last_of_sent st (Sent.HandOver to) = 36
last_of_sent st Sent.Open = 18
last_of_sent st Sent.Daa = 18
last_of_sent st Sent.Round = 73
last_of_sent st Sent.End = 0

-- the same of a command; 0 if it sends no frame
abbrev pub last_bit : State → Command → ℕ
last_bit st (Command.Frame frame) = last_of_sent st (Sent.Frame frame)
last_bit st (Command.HandOver to) = last_of_sent st (Sent.HandOver to)
last_bit st Command.Open = last_of_sent st Sent.Open
last_bit st Command.Daa = last_of_sent st Sent.Daa
last_bit st Command.Round = last_of_sent st Sent.Round
last_bit st (Command.As name sent) = last_of_sent st sent
last_bit st _ = 0

-- the last way in which a device is cut at a bit of the command's frame
abbrev pub last_cut : State → Command → ℕ
last_cut st command = suc (last_bit st command)

-- the last way of a name's device that has to be tried. A device that can't be cut in the frame has way 0 alone
abbrev pub last_of : Seen → Command → Name → ℕ
last_of old command name = if is_some (slot_at_risk old (sends old.state old.names command) name) then last_cut old.state command else 0

-- the last way of a line that has to be tried; a line without a command has way 0 alone
abbrev pub latest : Seen → Risk → Option Command → ℕ
latest old risk None = 0
latest old Risk.Nobody (Some command) = 0
latest old (Risk.One name) (Some command) = last_of old command name
latest old (Risk.Two one other) (Some command) = last_pair (max (last_of old command one) (last_of old command other))

-- the same by a line's parts
abbrev pub latest_of : Seen → Line → ℕ
latest_of old line = latest old line.risk line.command

-- the ways that are tried for a way of a line: a device that would be cut behind the frame's last bit isn't cut
abbrev pub tried_as : State → Risk → Option Command → ℕ → Ways
tried_as st risk None way = two_ways 0 0
tried_as st Risk.Nobody (Some command) way = two_ways 0 0
tried_as st (Risk.One name) (Some command) way = both_within (last_cut st command) (two_ways way 0)
tried_as st (Risk.Two one other) (Some command) way = both_within (last_cut st command) (pair way)
