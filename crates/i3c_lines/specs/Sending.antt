-- Lines that a controller sends.
use Rattle.std.specs.Prelude.{ℕ, Bool, true, false, ◌||◌, List, Option, Some, None, bytes_eq, codes}
use Rattle.i3c_lines.specs.declared.command.Command.{Command}
use Rattle.i3c_lines.specs.declared.sent.Sent.{Sent}

-- the command of a line that a controller sends, without `as NAME`
abbrev pub bare : Sent → Command
bare (Sent.Frame frame) = Command.Frame frame
bare (Sent.HandOver to) = Command.HandOver to
bare Sent.Open = Command.Open
bare Sent.Round = Command.Round
bare Sent.End = Command.End
bare Sent.Daa = Command.Daa

-- the line that a controller sends with a command, if it is such a line's
abbrev pub sent_of : Command → Option Sent
sent_of (Command.Frame frame) = Some (Sent.Frame frame)
sent_of (Command.HandOver to) = Some (Sent.HandOver to)
sent_of Command.Open = Some Sent.Open
sent_of Command.Round = Some Sent.Round
sent_of Command.End = Some Sent.End
sent_of Command.Daa = Some Sent.Daa
sent_of _ = None

-- whether it sends a frame, which takes the cuts that wait
abbrev pub has_frame : Sent → Bool
has_frame Sent.End = false
has_frame _ = true

-- whether a frame's line begins with this token, and sets and asks for nothing
abbrev pub is_frame_word : List ℕ → Bool
is_frame_word token =
    bytes_eq token (codes "serve") || (bytes_eq token (codes "enec") || (bytes_eq token (codes "disec") || (bytes_eq token (codes "reset")
    || (bytes_eq token (codes "list") || (bytes_eq token (codes "read") || bytes_eq token (codes "write"))))))

-- whether a line that sets an address or a length does
abbrev pub is_setting_word : List ℕ → Bool
is_setting_word token =
    bytes_eq token (codes "setdasa") || (bytes_eq token (codes "setnewda") || (bytes_eq token (codes "setmwl") || bytes_eq token (codes "setmrl")))

-- whether a question for a datum does
abbrev pub is_question_word : List ℕ → Bool
is_question_word token =
    bytes_eq token (codes "getpid") || (bytes_eq token (codes "getbcr") || (bytes_eq token (codes "getdcr") || (bytes_eq token (codes "getstatus")
    || (bytes_eq token (codes "getmwl") || (bytes_eq token (codes "getmrl") || (bytes_eq token (codes "getmxds") || bytes_eq token (codes "getcaps")))))))

-- whether a line of the role or of a session does
abbrev pub is_role_word : List ℕ → Bool
is_role_word token =
    bytes_eq token (codes "handover") || (bytes_eq token (codes "open") || (bytes_eq token (codes "round") || (bytes_eq token (codes "end") || bytes_eq token (codes "daa"))))

-- whether a line that a controller sends begins with this token
abbrev pub is_sent_word : List ℕ → Bool
is_sent_word token = is_frame_word token || (is_setting_word token || (is_question_word token || is_role_word token))
