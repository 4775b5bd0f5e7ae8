-- Whether a command sends frames.
use Rattle.std.specs.Prelude.{Bool, true, false}
use Rattle.i3c_lines.specs.declared.command.Command.{Command}
use Rattle.i3c_lines.specs.declared.sent.Sent.{Sent}
use Rattle.i3c_lines.specs.Sending.{has_frame}

-- whether a command sends a frame, in which a device may lose power
abbrev pub sends_frame : Command → Bool
sends_frame (Command.Frame frame) = true
sends_frame (Command.HandOver to) = true
sends_frame Command.Open = true
sends_frame Command.Round = true
sends_frame Command.Daa = true
sends_frame (Command.As name sent) = has_frame sent
sends_frame _ = false

-- whether a command sends several frames, between which no line of another track runs
abbrev pub sends_many : Command → Bool
sends_many Command.Daa = true
sends_many (Command.As name Sent.Daa) = true
sends_many _ = false

-- whether a command prints what a scene doesn't keep: symbols, frames, or who was active at which records
abbrev pub tells_past : Command → Bool
tells_past Command.ShowAll = true
tells_past Command.Symbols = true
tells_past (Command.Frames count) = true
tells_past _ = false
