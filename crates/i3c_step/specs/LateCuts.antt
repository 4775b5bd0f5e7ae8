-- Cuts behind the last bit of a frame.
use Rattle.std.specs.Prelude.{ℕ, ◌+◌, Some, slice_set}
use Rattle.i3c_base.specs.declared.answers.Answer.{Answer}
use Rattle.i3c_base.specs.declared.datum.Direction.{Direction}
use Rattle.i3c_base.specs.State.{State, entry_at}
use Rattle.i3c_base.specs.Cutting.{CutList, cut_of, earlier}
use Rattle.i3c_base.specs.Frames.{get_bits, kinds_bits, length_bits, list_bits, read_bits, transfer_length, write_bits}
use Rattle.i3c_step.specs.declared.events.Event.{Event}
use Rattle.i3c_step.specs.declared.events.Event.TheVariants.{Serve, Enec, Disec, Reset, SendList, ReadFrom, WriteTo, SetStatic, SetNew, Get, SetLength, OpenDaa, Round, HandOver}

-- the bits of a frame that refused a request: those of the header 7E/W, and its own
abbrev pub bits_after_refusal : ℕ → ℕ
bits_after_refusal own = 9 + own

-- the bits of a frame that accepted an interrupt: those of its byte too
abbrev pub bits_after_byte : ℕ → ℕ
bits_after_byte own = 18 + own

-- the number of the last bit that an event's frame can have, whatever it serves and whichever devices are cut; 0 without a
-- frame
abbrev pub most_bits : State → Event → ℕ
most_bits st (Serve policy cuts) = 9
most_bits st (Enec to kinds policy cuts) = bits_after_byte (kinds_bits to Answer.Done)
most_bits st (Disec to kinds policy cuts) = bits_after_byte (kinds_bits to Answer.Done)
most_bits st (Reset policy cuts) = bits_after_byte 9
most_bits st (SendList policy cuts) = bits_after_byte (list_bits st)
most_bits st (ReadFrom a policy cuts) = bits_after_byte (read_bits (transfer_length st Direction.Read a) Answer.NoEnd)
most_bits st (WriteTo a bytes policy cuts) = bits_after_byte (write_bits bytes.items Answer.Done)
most_bits st (SetStatic f new policy cuts) = bits_after_byte (kinds_bits (Some f) Answer.Done)
most_bits st (SetNew a new policy cuts) = bits_after_byte (kinds_bits (Some a) Answer.Done)
most_bits st (Get what a policy cuts) = bits_after_byte (get_bits what (entry_at st a) Answer.NoEnd)
most_bits st (SetLength way most to policy cuts) = bits_after_byte (length_bits to Answer.Done)
most_bits st (OpenDaa cuts) = bits_after_refusal 9
most_bits st (HandOver to cuts) = bits_after_refusal 27
most_bits st (Round cuts) = 73
most_bits st event = 0

-- the event with its cuts changed by f, if it carries any
abbrev pub recut : (CutList → CutList) → Event → Event
recut f (Serve policy cuts) = Serve policy (f cuts)
recut f (Enec to kinds policy cuts) = Enec to kinds policy (f cuts)
recut f (Disec to kinds policy cuts) = Disec to kinds policy (f cuts)
recut f (Reset policy cuts) = Reset policy (f cuts)
recut f (SendList policy cuts) = SendList policy (f cuts)
recut f (ReadFrom a policy cuts) = ReadFrom a policy (f cuts)
recut f (WriteTo a bytes policy cuts) = WriteTo a bytes policy (f cuts)
recut f (SetStatic a new policy cuts) = SetStatic a new policy (f cuts)
recut f (SetNew a new policy cuts) = SetNew a new policy (f cuts)
recut f (Get what a policy cuts) = Get what a policy (f cuts)
recut f (SetLength way most to policy cuts) = SetLength way most to policy (f cuts)
recut f (OpenDaa cuts) = OpenDaa (f cuts)
recut f (HandOver to cuts) = HandOver to (f cuts)
recut f (Round cuts) = Round (f cuts)
recut f event = event

-- the event with one cut more: of slot s, at this bit unless the event cuts it earlier
abbrev pub with_cut : Event → ℕ → ℕ → Event
with_cut event s bit = recut (λ cuts. slice_set cuts s (Some (earlier (cut_of cuts s) bit))) event
