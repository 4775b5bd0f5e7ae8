-- What lines come to, piece by piece.
use Rattle.std.specs.Prelude.{◌≡◌, Bool, ℕ, zero, suc, ◌+◌, if◌then◌else◌, List, [], ◌∷◌, ◌++◌, drop, length, nat_le, Option, Some, None, slice_get}
use Rattle.std.specs.List.{flat_map}
use Rattle.circular_buffer.specs.Buffer.{keep_last}
use Rattle.i3c_base.specs.declared.answers.Answer.{Answer}
use Rattle.i3c_base.specs.declared.answers.RoundReply.{RoundReply}
use Rattle.i3c_base.specs.declared.identity.Identity.{Identity}
use Rattle.i3c_base.specs.declared.range.TheConstants.{ADDRESSES, SLOTS}
use Rattle.i3c_base.specs.declared.requests.Record.{Record}
use Rattle.i3c_base.specs.declared.requests.Request.{Request}
use Rattle.i3c_base.specs.declared.requests.Served.{Served}
use Rattle.i3c_base.specs.Serve.{IsFirstRequest, drives}
use Rattle.i3c_base.specs.State.{Device, State, device_at}
use Rattle.i3c_bus.specs.Readings.{address_of}
use Rattle.i3c_device.specs.Wishing.{choice_of}
use Rattle.i3c_frame.specs.declared.symbols.Symbol.{Symbol}
use Rattle.i3c_lines.specs.declared.names.Name.{Name}
use Rattle.i3c_lines.specs.Keeping.{NamesKept}
use Rattle.i3c_step.specs.declared.events.Command.{Command as Frame}
use Rattle.i3c_step.specs.declared.events.Event.{Event}
use Rattle.i3c_step.specs.declared.replies.Reply.{Reply}
use Rattle.i3c_script.specs.declared.piece.Piece.{Piece}
use Rattle.i3c_script.specs.declared.replies.Subject.{Subject}
use Rattle.i3c_script.specs.declared.tenures.Tenure.{Tenure}
use Rattle.i3c_script.specs.Framing.{whole_frames}
use Rattle.i3c_script.specs.Tenures.{began_at}

-- what a frame served comes before its own part; where nobody asked there is nothing to tell
abbrev pub behind_request : Served → List Piece → List Piece
behind_request Served.Quiet rest = rest
behind_request (Served.Recorded place) rest = Piece.Served (Served.Recorded place) ∷ rest
behind_request Served.Refused rest = Piece.Served Served.Refused ∷ rest
behind_request Served.Torn rest = Piece.Served Served.Torn ∷ rest
behind_request Served.Joining rest = Piece.Served Served.Joining ∷ rest
behind_request (Served.WantsRole a) rest = Piece.Served (Served.WantsRole a) ∷ rest

-- bytes that were read: of the datum that was asked for, or of a private read
abbrev pub read_piece : Subject → List ℕ → Piece
read_piece (Subject.Told what) bytes = Piece.Told what bytes
read_piece (Subject.Attached name slot) bytes = Piece.Bytes bytes
read_piece (Subject.HandedTo to) bytes = Piece.Bytes bytes
read_piece Subject.Nothing bytes = Piece.Bytes bytes

-- the answer to a frame's own part
abbrev pub answer_pieces : Subject → Answer → List Piece
answer_pieces subject Answer.Done = Piece.Done ∷ []
answer_pieces subject (Answer.Bytes bytes) = read_piece subject bytes ∷ []
answer_pieces subject (Answer.NoAnswer a) = []
answer_pieces subject Answer.NoEnd = []

-- a round of a session
abbrev pub round_pieces : RoundReply → List Piece
round_pieces (RoundReply.Assigned a identity) = Piece.Assigned a identity ∷ []
round_pieces RoundReply.Nobody = Piece.Nobody ∷ []
round_pieces RoundReply.Done = Piece.Done ∷ []
round_pieces RoundReply.NoAddress = []

-- the addresses that a session gives
abbrev pub given_pieces : List (ℕ × Identity) → List Piece
given_pieces [] = []
given_pieces (pair ∷ rest) = Piece.Assigned pair.0 pair.1 ∷ given_pieces rest

-- a session behind its opening: the addresses that it gives, and that it is done, unless no address was left
abbrev pub session_pieces : List (ℕ × Identity) → Bool → List Piece
session_pieces given complete = given_pieces given ++ (if complete then Piece.Done ∷ [] else [])

-- the device that entered, where one did
abbrev pub entered_pieces : Subject → List Piece
entered_pieces (Subject.Attached name slot) = Piece.Entered name slot ∷ []
entered_pieces (Subject.HandedTo to) = []
entered_pieces (Subject.Told what) = []
entered_pieces Subject.Nothing = []

-- what a handover served, and the active controller's address then
abbrev pub handed_pieces : Subject → Served → List Piece
handed_pieces (Subject.HandedTo to) served = behind_request served (Piece.Active (Some to) ∷ [])
handed_pieces (Subject.Attached name slot) served = []
handed_pieces (Subject.Told what) served = []
handed_pieces Subject.Nothing served = []

-- the part of an event that its reply doesn't repeat
abbrev pub subject_of : Event → Subject
subject_of (Event.Attach slot setup) = Subject.Nothing
subject_of (Event.HandOver to cuts) = Subject.HandedTo to
subject_of (Event.DropOff slot) = Subject.Nothing
subject_of (Event.Raise slot byte) = Subject.Nothing
subject_of (Event.AskJoin slot) = Subject.Nothing
subject_of (Event.AskRole slot) = Subject.Nothing
subject_of (Event.Reset policy cuts) = Subject.Nothing
subject_of (Event.SendList policy cuts) = Subject.Nothing
subject_of (Event.ReadFrom a policy cuts) = Subject.Nothing
subject_of (Event.WriteTo a bytes policy cuts) = Subject.Nothing
subject_of (Event.SetStatic f new policy cuts) = Subject.Nothing
subject_of (Event.SetNew a new policy cuts) = Subject.Nothing
subject_of (Event.Get what a policy cuts) = Subject.Told what
subject_of (Event.SetLength way most to policy cuts) = Subject.Nothing
subject_of (Event.Serve policy cuts) = Subject.Nothing
subject_of (Event.Enec to kinds policy cuts) = Subject.Nothing
subject_of (Event.Disec to kinds policy cuts) = Subject.Nothing
subject_of (Event.OpenDaa cuts) = Subject.Nothing
subject_of (Event.Round cuts) = Subject.Nothing
subject_of Event.EndDaa = Subject.Nothing

-- the same of a frame under the role
abbrev pub frame_subject : Frame → Subject
frame_subject (Frame.Get what a) = Subject.Told what
frame_subject _ = Subject.Nothing

-- the bus's reply to an event; of the event it has the subject alone
abbrev pub reply_pieces : Subject → Reply → List Piece
reply_pieces subject (Reply.Refused why) = []
reply_pieces subject Reply.OutOfMemory = []
reply_pieces subject Reply.Attached = entered_pieces subject
reply_pieces subject Reply.Dropped = Piece.Dropped ∷ []
reply_pieces subject (Reply.Raised number) = Piece.Raised number ∷ []
reply_pieces subject Reply.Asked = Piece.Asked ∷ []
reply_pieces subject (Reply.Served served) = Piece.Served served ∷ []
reply_pieces subject (Reply.Framed framed) = behind_request framed.served (answer_pieces subject framed.answer)
reply_pieces subject (Reply.Opened served) = behind_request served (Piece.Opened ∷ [])
reply_pieces subject (Reply.Handed served) = handed_pieces subject served
reply_pieces subject (Reply.Round answer) = round_pieces answer
reply_pieces subject Reply.Ended = Piece.Ended ∷ []

-- a present device with its name
abbrev pub device_pieces : Option Name → Option Device → List Piece
device_pieces (Some name) (Some d) = Piece.Device name d.address (length d.waiting) ∷ []
device_pieces None device = []
device_pieces (Some name) None = []

-- the present devices of the slots below a number, the lowest slot first
unfoldable pub devices_pieces : {N : Type 0} → NamesKept N → State → N → ℕ → List Piece
devices_pieces kept st names zero = []
devices_pieces kept st names (suc slot) = devices_pieces kept st names slot ++ device_pieces (kept.in_slot names slot) (device_at st slot)

-- a legacy target, if it has a name
abbrev pub target_pieces : Option Name → ℕ → List Piece
target_pieces None a = []
target_pieces (Some name) a = Piece.Target name a ∷ []

-- the legacy targets of the static addresses below a number, the lowest address first
unfoldable pub targets_pieces : {N : Type 0} → NamesKept N → N → ℕ → List Piece
targets_pieces kept names zero = []
targets_pieces kept names (suc a) = targets_pieces kept names a ++ target_pieces (kept.at_address names a) a

-- records, counted from this number on
abbrev pub numbered_pieces : ℕ → List Record → List Piece
numbered_pieces number [] = []
numbered_pieces number (r ∷ rest) = Piece.Entry number r ∷ numbered_pieces (suc number) rest

-- the records behind the first `count`, the oldest first, each with its number, where `forgotten` ones have left the log
abbrev pub behind_pieces : ℕ → ℕ → List Record → List Piece
behind_pieces count forgotten records = numbered_pieces (suc (forgotten + count)) (drop count records)

-- the number of records in the log, and each behind the first `count`, where `forgotten` ones have left the log
abbrev pub records_pieces : ℕ → ℕ → List Record → List Piece
records_pieces count forgotten records = Piece.Records (length records) ∷ behind_pieces count forgotten records

-- the active controller's address, the present devices, the legacy targets, and the records of the log behind the first
-- `count`, where `forgotten` ones have left it
abbrev pub show_behind_pieces : {N : Type 0} → NamesKept N → ℕ → ℕ → State → N → List Piece
show_behind_pieces kept count forgotten st names =
    Piece.Active (address_of (device_at st st.active)) ∷ (devices_pieces kept st names SLOTS ++ (targets_pieces kept names ADDRESSES ++ records_pieces count forgotten st.records))

-- `show`: the same with all records of the log
abbrev pub show_pieces : {N : Type 0} → NamesKept N → ℕ → State → N → List Piece
show_pieces kept forgotten st names = show_behind_pieces kept 0 forgotten st names

-- what a present device is: its identity, the enabled kinds of its events, and its wish
abbrev pub description_pieces : Option Name → Option Device → List Piece
description_pieces (Some name) (Some d) =
    Piece.Description (record { name = name; identity = d.identity; interrupt = d.kinds.interrupt; role = d.kinds.role; join = d.kinds.join; wish = choice_of d.address d }) ∷ []
description_pieces None device = []
description_pieces (Some name) None = []

-- the present devices of the slots below a number, the lowest slot first
unfoldable pub descriptions_pieces : {N : Type 0} → NamesKept N → State → N → ℕ → List Piece
descriptions_pieces kept st names zero = []
descriptions_pieces kept st names (suc slot) = descriptions_pieces kept st names slot ++ description_pieces (kept.in_slot names slot) (device_at st slot)

-- the active controller of the records behind the first `from`, up to the one with number `to`, if there are any
abbrev pub tenure_pieces : ℕ → ℕ → ℕ → List Piece
tenure_pieces slot from to = if nat_le to from then [] else Piece.Tenure slot (suc from) to ∷ []

-- a tenure that ended, whose first record comes after the first `from`
abbrev pub past_pieces : ℕ → Option Tenure → List Piece
past_pieces from None = []
past_pieces from (Some tenure) = tenure_pieces tenure.slot from tenure.records

-- the first tenures that ended, the earliest first
unfoldable pub pasts_pieces : List Tenure → ℕ → List Piece
pasts_pieces ended zero = []
pasts_pieces ended (suc k) = pasts_pieces ended k ++ past_pieces (began_at ended k) (slice_get ended k)

-- the active controllers so far and the present one, with the number of records so far
abbrev pub tenures_pieces : List Tenure → ℕ → ℕ → List Piece
tenures_pieces ended active records = pasts_pieces ended (length ended) ++ tenure_pieces active (began_at ended (length ended)) records

-- `show all`: what `show` tells, then what the present devices are, the list, the session, and the active controllers with
-- their records
abbrev pub show_all_pieces : {N : Type 0} → NamesKept N → ℕ → State → N → List Tenure → List Piece
show_all_pieces kept forgotten st names ended =
    show_pieces kept forgotten st names
    ++ (descriptions_pieces kept st names SLOTS ++ (Piece.Listed st.listed ∷ Piece.Session st.in_session ∷ tenures_pieces ended st.active (forgotten + length st.records)))

-- symbols that follow others on a line, and its end
abbrev pub later_pieces : List Symbol → List Piece
later_pieces [] = Piece.SymbolsEnd ∷ []
later_pieces (symbol ∷ rest) = Piece.Symbol symbol ∷ later_pieces rest

-- `symbols`: a line of these
abbrev pub symbols_pieces : List Symbol → List Piece
symbols_pieces [] = Piece.SymbolsEnd ∷ []
symbols_pieces (symbol ∷ rest) = Piece.FirstSymbol symbol ∷ later_pieces rest

-- `frames`: a line for each of the last `count` whole frames, the oldest first
abbrev pub frames_pieces : ℕ → List Symbol → List Piece
frames_pieces count wire = flat_map symbols_pieces (keep_last count (whole_frames wire))

-- pieces behind which one more is heard
abbrev pub with_next : List Piece → Piece → List Piece
with_next pieces piece = pieces ++ piece ∷ []

-- the name of a slot, where it has one
abbrev pub asker_of : Option Name → List Name
asker_of None = []
asker_of (Some name) = name ∷ []

-- the names of the devices that drive this request, of the slots below a number, the lowest slot first
unfoldable pub askers_below : State → (ℕ → Option Name) → Request → ℕ → List Name
askers_below st name_of r zero = []
askers_below st name_of r (suc slot) = askers_below st name_of r slot ++ (if drives st r slot then asker_of (name_of slot) else [])

-- the names of the devices that drive the first request, if there is one
abbrev pub askers_of : State → (ℕ → Option Name) → Option Request → List Name
askers_of st name_of None = []
askers_of st name_of (Some r) = askers_below st name_of r SLOTS

-- these are the names of the devices whose requests the next frame would meet, by the names of their slots
abbrev pub AreAsking : State → (ℕ → Option Name) → List Name → Type 0
AreAsking st name_of found = (first : Option Request) × IsFirstRequest st first × (found ≡ askers_of st name_of first)
