-- Why a line is refused.
use Rattle.std.specs.Prelude.{ℕ, Option, Some, None, Result, Ok, Err, ⊤}
use Rattle.i3c_base.specs.declared.answers.Answer.{Answer}
use Rattle.i3c_base.specs.declared.answers.RoundReply.{RoundReply}
use Rattle.i3c_step.specs.declared.replies.Refusal.{Refusal as BusRefusal}
use Rattle.i3c_step.specs.declared.replies.Reply.{Reply}
use Rattle.i3c_lines.specs.declared.refusals.Refusal.{Refusal}
use Rattle.i3c_text.specs.declared.line_error.LineError.{LineError}

-- the answer to a frame's own part as a refusal
abbrev pub answer_refusal : Answer → Option Refusal
answer_refusal Answer.Done = None
answer_refusal (Answer.Bytes bytes) = None
answer_refusal (Answer.NoAnswer a) = Some (Refusal.Bus (BusRefusal.NoAnswer a))
answer_refusal Answer.NoEnd = Some Refusal.NoEnd

-- a round's answer as a refusal
abbrev pub round_refusal : RoundReply → Option Refusal
round_refusal (RoundReply.Assigned a identity) = None
round_refusal RoundReply.Nobody = None
round_refusal RoundReply.Done = None
round_refusal RoundReply.NoAddress = Some (Refusal.Bus BusRefusal.NoAddress)

-- the bus's reply as a refusal
abbrev pub reply_refusal : Reply → Option Refusal
reply_refusal (Reply.Refused why) = Some (Refusal.Bus why)
reply_refusal Reply.OutOfMemory = None
reply_refusal Reply.Attached = None
reply_refusal Reply.Dropped = None
reply_refusal (Reply.Raised number) = None
reply_refusal Reply.Asked = None
reply_refusal (Reply.Served served) = None
reply_refusal (Reply.Framed framed) = answer_refusal framed.answer
reply_refusal (Reply.Opened served) = None
reply_refusal (Reply.Handed served) = None
reply_refusal (Reply.Round answer) = round_refusal answer
reply_refusal Reply.Ended = None

-- what holds of a line's refusal, or of its having none; of a line that is short of memory nothing is said
abbrev pub Ends : (Option Refusal → Type 0) → Result (Unit {0}) (LineError Refusal) → Type 0
Ends Is (Ok done) = Is None
Ends Is (Err (LineError.Refused why)) = Is (Some why)
Ends Is (Err LineError.Memory) = ⊤

-- how many refusals a line came to
abbrev pub refusals : Result (Unit {0}) (LineError Refusal) → ℕ
refusals (Ok done) = 0
refusals (Err LineError.Memory) = 0
refusals (Err (LineError.Refused why)) = 1
