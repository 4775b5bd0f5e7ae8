-- What facts know of the previous line, by its pieces and its refusal.
use Rattle.std.specs.Prelude.{List, Option, Some, None}
use Rattle.i3c_base.specs.declared.requests.Served.{Served}
use Rattle.i3c_lines.specs.declared.refusals.Refusal.{Refusal}
use Rattle.i3c_script.specs.declared.piece.Piece.{Piece}
use Rattle.i3c_script.specs.Hearing.{all_heard}
use Rattle.i3c_facts.specs.declared.before.Before.{Before}
use Rattle.i3c_facts.specs.declared.before.Heard.{Heard}
use Rattle.i3c_facts.specs.declared.before.LineResult.{LineResult}

-- no piece was heard
abbrev pub nothing_heard : Heard
nothing_heard = record { served = Served.Quiet; read = None }

-- one more piece: what the frame's first request came to, and which bytes were read
abbrev pub heard_with : Heard → Piece → Heard
heard_with heard (Piece.Served served) = record heard { served = served }
heard_with heard (Piece.Bytes bytes) = record heard { read = Some bytes }
heard_with heard (Piece.Told what bytes) = record heard { read = Some bytes }
heard_with heard _ = heard

-- there is no previous line
abbrev pub no_line : Before
no_line = record { result = LineResult.Nothing; heard = nothing_heard }

-- a line ended with this refusal, if it was refused
abbrev pub result_of : Option Refusal → LineResult
result_of None = LineResult.Done
result_of (Some why) = LineResult.Refused why

-- what facts know of a line that came to these pieces and this refusal
abbrev pub came_to : List Piece → Option Refusal → Before
came_to pieces refused = record { result = result_of refused; heard = all_heard heard_with nothing_heard pieces }
