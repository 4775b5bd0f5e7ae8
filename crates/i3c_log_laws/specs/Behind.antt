-- A bus whose first records are gone from its log, and that it goes on as the whole bus does.
use Rattle.std.specs.Prelude.{◌≡◌, ℕ, ◌+◌, List, ◌++◌, length, map}
use Rattle.i3c_base.specs.declared.requests.Record.{Record}
use Rattle.i3c_base.specs.declared.requests.Served.{Served}
use Rattle.i3c_base.specs.State.{State}
use Rattle.i3c_step.specs.declared.events.Event.{Event}
use Rattle.i3c_step.specs.declared.replies.Reply.{Reply}
use Rattle.i3c_step.specs.Runs.{IsRun}
use Rattle.i3c_step.specs.Step.{Step}

-- a bus with these records in front of its own
abbrev pub behind : List Record → State → State
behind gone st = record st { records = gone ++ st.records }

-- the result of a request, with `count` more records counted
abbrev pub counted_from : ℕ → Served → Served
counted_from count (Served.Recorded place) = Served.Recorded (place + count)
counted_from count Served.Quiet = Served.Quiet
counted_from count Served.Refused = Served.Refused
counted_from count Served.Torn = Served.Torn
counted_from count Served.Joining = Served.Joining
counted_from count (Served.WantsRole a) = Served.WantsRole a

-- the result of an event, with `count` more records counted
abbrev pub reply_from : ℕ → Reply → Reply
reply_from count (Reply.Served served) = Reply.Served (counted_from count served)
reply_from count (Reply.Framed framed) = Reply.Framed (record framed { served = counted_from count framed.served })
reply_from count (Reply.Opened served) = Reply.Opened (counted_from count served)
reply_from count (Reply.Handed served) = Reply.Handed (counted_from count served)
reply_from count (Reply.Refused why) = Reply.Refused why
reply_from count Reply.OutOfMemory = Reply.OutOfMemory
reply_from count Reply.Attached = Reply.Attached
reply_from count Reply.Dropped = Reply.Dropped
reply_from count (Reply.Raised number) = Reply.Raised number
reply_from count Reply.Asked = Reply.Asked
reply_from count (Reply.Round answer) = Reply.Round answer
reply_from count Reply.Ended = Reply.Ended

-- the same of each reply
abbrev pub replies_from : ℕ → List Reply → List Reply
replies_from count replies = map (reply_from count) replies

-- A step is the same one behind records that are gone, which it counts but doesn't read.
abbrev pub StepsGoOnAlike : Type 0
StepsGoOnAlike = (gone : List Record) (old new : State) (event : Event) (reply : Reply)
    → Step old event reply new → Step (behind gone old) event (reply_from (length gone) reply) (behind gone new)

-- A run goes on alike too.
abbrev pub RunsGoOnAlike : Type 0
RunsGoOnAlike = (gone : List Record) (old new : State) (events : List Event) (replies : List Reply)
    → IsRun old events replies new → IsRun (behind gone old) events (replies_from (length gone) replies) (behind gone new)

-- With no record in front, a reply stays as it is. Records in front of others are in front together with them.
abbrev pub GoneRecordsAddUp : Type 0
GoneRecordsAddUp = ((reply : Reply) → reply_from 0 reply ≡ reply) × ((a b : List Record) (st : State) → behind a (behind b st) ≡ behind (a ++ b) st)
