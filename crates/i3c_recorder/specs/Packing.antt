-- Entries as a run keeps them.
use Rattle.std.specs.Prelude.{◌≡◌, ℕ, ◌<◌, List, map, slice_index_or, ⊤}
use Rattle.i3c_base.specs.declared.answers.Answer.{Answer}
use Rattle.i3c_base.specs.Cutting.{no_cuts}
use Rattle.i3c_step.specs.declared.events.Event.{Event}
use Rattle.i3c_step.specs.declared.replies.Reply.{Reply}
use Rattle.i3c_recorder.specs.declared.entry.Entry.{Entry}
use Rattle.i3c_recorder.specs.declared.packed.ShortEntry.{ShortEntry}
use Rattle.i3c_recorder.specs.declared.packed.ShortReply.{ShortReply}
use Rattle.i3c_recorder.specs.declared.packed.Packed.{Packed}

-- the event that is kept in short
abbrev pub event_in : ShortEntry → Event
event_in (ShortEntry.Attach s pid bcr dcr willing) = Event.Attach s (record { identity = record { pid = pid; bcr = bcr; dcr = dcr }; willing = willing })
event_in (ShortEntry.DropOff s) = Event.DropOff s
event_in (ShortEntry.Raise s byte) = Event.Raise s byte
event_in (ShortEntry.AskJoin s) = Event.AskJoin s
event_in (ShortEntry.AskRole s) = Event.AskRole s
event_in (ShortEntry.Serve policy) = Event.Serve policy no_cuts
event_in (ShortEntry.Enec to kinds policy) = Event.Enec to kinds policy no_cuts
event_in (ShortEntry.Disec to kinds policy) = Event.Disec to kinds policy no_cuts
event_in (ShortEntry.Reset policy) = Event.Reset policy no_cuts
event_in (ShortEntry.SendList policy) = Event.SendList policy no_cuts
event_in (ShortEntry.ReadFrom a policy) = Event.ReadFrom a policy no_cuts
event_in (ShortEntry.SetStatic f new policy) = Event.SetStatic f new policy no_cuts
event_in (ShortEntry.SetNew a new policy) = Event.SetNew a new policy no_cuts
event_in (ShortEntry.Get what a policy) = Event.Get what a policy no_cuts
event_in (ShortEntry.SetLength way most to policy) = Event.SetLength way most to policy no_cuts
event_in (ShortEntry.HandOver to) = Event.HandOver to no_cuts
event_in ShortEntry.OpenDaa = Event.OpenDaa no_cuts
event_in ShortEntry.Round = Event.Round no_cuts
event_in ShortEntry.EndDaa = Event.EndDaa

-- the reply that is kept in short
abbrev pub reply_in : ShortReply → Reply
reply_in (ShortReply.Refused why) = Reply.Refused why
reply_in ShortReply.OutOfMemory = Reply.OutOfMemory
reply_in ShortReply.Attached = Reply.Attached
reply_in ShortReply.Dropped = Reply.Dropped
reply_in (ShortReply.Raised number) = Reply.Raised number
reply_in ShortReply.Asked = Reply.Asked
reply_in (ShortReply.Served served) = Reply.Served served
reply_in (ShortReply.Done served) = Reply.Framed (record { served = served; answer = Answer.Done })
reply_in (ShortReply.NoAnswer served a) = Reply.Framed (record { served = served; answer = Answer.NoAnswer a })
reply_in (ShortReply.Opened served) = Reply.Opened served
reply_in (ShortReply.Handed served) = Reply.Handed served
reply_in (ShortReply.Round answer) = Reply.Round answer
reply_in ShortReply.Ended = Reply.Ended

-- an entry, for places that no run has
abbrev pub no_entry : Entry
no_entry = record { event = Event.EndDaa; reply = Reply.Ended }

-- the entry, among these wide ones
abbrev pub entry_in : List Entry → Packed → Entry
entry_in wide (Packed.Short short said) = record { event = event_in short; reply = reply_in said }
entry_in wide (Packed.Wide at) = slice_index_or wide at no_entry

abbrev pub entries_in : List Entry → List Packed → List Entry
entries_in wide packed = map (entry_in wide) packed

-- a wide entry's place is below `count`
abbrev pub IsWithin : ℕ → Packed → Type 0
IsWithin count (Packed.Short short said) = ⊤
IsWithin count (Packed.Wide at) = at < count

-- the entry is this one in short
abbrev pub IsShort : ShortEntry × ShortReply → Entry → Type 0
IsShort short entry = entry ≡ record { event = event_in short.0; reply = reply_in short.1 }
