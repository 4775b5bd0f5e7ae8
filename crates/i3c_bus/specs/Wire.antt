-- The symbols that an event puts on the wire, for a tap. An ACK depends on the devices left at its bit.
use Rattle.std.specs.Prelude.{◌≡◌, ◌↔◌, ℕ, ◌+◌, Bool, true, false, List, [], ◌∷◌, ◌++◌, map, Option, Some, None, is_some, IfSome, MatchOption, ⊤}
use Rattle.i3c_base.specs.declared.answers.Answer.{Answer}
use Rattle.i3c_base.specs.declared.answers.RoundReply.{RoundReply}
use Rattle.i3c_base.specs.declared.datum.Datum.{Datum}
use Rattle.i3c_base.specs.declared.datum.Direction.{Direction}
use Rattle.i3c_base.specs.declared.kinds.Change.{Change}
use Rattle.i3c_base.specs.declared.kinds.Kinds.{Kinds}
use Rattle.i3c_base.specs.declared.requests.Record.{Record}
use Rattle.i3c_base.specs.declared.requests.Request.{Request}
use Rattle.i3c_base.specs.declared.requests.Request.TheVariants.{Join, Role, Interrupt}
use Rattle.i3c_base.specs.declared.requests.Served.{Served}
use Rattle.i3c_base.specs.Cutting.{CutList, Lost, lost_by}
use Rattle.i3c_base.specs.State.{State, entry_at, population}
use Rattle.i3c_base.specs.Serve.{IsFirst, IsWordBits, Serves, byte_due, drives, emptied, given_for, header_bits, SomeDrives}
use Rattle.i3c_base.specs.Frames.{AnyLeft, SomeLeftAt, SomeUnaddressedLeftAt, active_has, get_bits, told_length}
use Rattle.i3c_word.specs.declared.Word.{Word}
use Rattle.i3c_deftgts.specs.declared.entries.Entry.{Entry}
use Rattle.i3c_deftgts.specs.Entries.{entries_of}
use Rattle.i3c_deftgts.specs.Layout.{Carry, list_bytes}
use Rattle.i3c_entdaa.specs.declared.outcome.Round.{Round}
use Rattle.i3c_entdaa.specs.Rounds.{IsAcknowledged, IsRead, reply_of}
use Rattle.i3c_entdaa.specs.Wire.{IsRoundWire}
use Rattle.i3c_events.specs.Wire.{IsKindsWire, IsLengthWire, IsSettingWire, IsWord}
use Rattle.i3c_handoff.specs.declared.outcome.Offer.{Offer}
use Rattle.i3c_handoff.specs.Offers.{IsReadAs, SomeTakes, is_acknowledged, offer_bits}
use Rattle.i3c_handoff.specs.Wire.{IsOfferWire}
use Rattle.i3c_ibi.specs.Driving.{IsByteRead}
use Rattle.i3c_ibi.specs.Wire.{byte_word, request_header}
use Rattle.i3c_xfer.specs.declared.answers.Get.{Get as Told}
use Rattle.i3c_xfer.specs.declared.answers.Read.{Read}
use Rattle.i3c_xfer.specs.declared.answers.Write.{Write}
use Rattle.i3c_xfer.specs.Getting.{IsToldAs, get_answer, is_get_acknowledged}
use Rattle.i3c_xfer.specs.Wire.{IsGetWire, IsReadWire, IsWriteWire}
use Rattle.i3c_xfer.specs.Transfers.{AnyAnswers, IsReadAs as IsDataAs, IsWrittenBy, is_read_acknowledged, is_write_acknowledged, read_answer, write_answer}
use Rattle.i3c_frame.specs.declared.symbols.Symbol.{Symbol}
use Rattle.i3c_frame.specs.declared.symbols.Symbol.TheVariants.{Start, Repeated, Stop, Header}
use Rattle.i3c_step.specs.declared.events.Event.{Event}
use Rattle.i3c_step.specs.declared.events.Event.TheVariants.{Enec, Disec, Reset, SendList, ReadFrom, WriteTo, SetStatic, SetNew, Get, SetLength, HandOver}
use Rattle.i3c_step.specs.declared.replies.Reply.{Reply}
use Rattle.i3c_step.specs.Step.{cuts_in}
use Rattle.i3c_bus.specs.Whole.{the_table}

-- whether some device other than the active controller, not lost by this bit, acknowledges a broadcast there
abbrev pub IsAck : State → CutList → ℕ → Bool → Type 0
IsAck st cuts bit ack = (ack ≡ true) ↔ AnyLeft st (lost_by cuts bit)

-- an accepted interrupt: its header, and the mandatory byte if it has one, as the new record says: the byte that its
-- drivers put on the lines, ended by a driver that isn't lost by its T
abbrev pub IsRecordedWire : State → CutList → State → List Symbol → Type 0
IsRecordedWire old cuts new wire =
    (r : Record) × (new.records ≡ old.records ++ r ∷ []) × (is_some r.byte ≡ byte_due (entry_at old r.at))
    × (is_some r.byte ≡ true → SomeDrives (population old) (Interrupt r.at) (lost_by cuts 9))
    × IfSome r.byte (IsByteRead old cuts r.at)
    × (wire ≡ Start ∷ request_header (Interrupt r.at) true ∷ byte_word r.byte)

-- an accepted interrupt whose byte nobody ended: each driver is lost by its T, which is read as 1, and the byte is what
-- they put on the lines until then
abbrev pub IsTornWire : State → CutList → List Symbol → Type 0
IsTornWire old cuts wire =
    (a : ℕ) × (byte : ℕ) × IsFirst old (Interrupt a) × ((s : ℕ) → drives old (Interrupt a) s ≡ true → lost_by cuts 9 s ≡ true)
    × IsByteRead old cuts a byte
    × (wire ≡ Start ∷ request_header (Interrupt a) true ∷ Symbol.Word (record { byte = byte; t = true }) ∷ [])

-- the beginning of a frame by what it served: START, the header of the broadcast or of the winner, and the byte that was
-- read
abbrev pub IsBegun : State → CutList → Served → State → List Symbol → Type 0
IsBegun old cuts Served.Quiet new wire = (ack : Bool) × IsAck old cuts 0 ack × (wire ≡ Start ∷ Header 0x7E false ack ∷ [])
IsBegun old cuts Served.Refused new wire = (r : Request) × IsFirst old r × (wire ≡ Start ∷ request_header r false ∷ [])
IsBegun old cuts Served.Joining new wire = wire ≡ Start ∷ request_header Join true ∷ []
IsBegun old cuts (Served.WantsRole a) new wire = wire ≡ Start ∷ request_header (Role a) true ∷ []
IsBegun old cuts (Served.Recorded place) new wire = IsRecordedWire old cuts new wire
IsBegun old cuts Served.Torn new wire = IsTornWire old cuts wire

-- how a frame goes on to its own part: at once without a request, and otherwise after a repeated START and the broadcast
-- header, whose ninth bit comes nine bits after the mandatory word
abbrev pub IsOn : State → CutList → Served → ℕ → List Symbol → Type 0
IsOn old cuts Served.Quiet word wire = wire ≡ []
IsOn old cuts _ word wire = (ack : Bool) × IsAck old cuts (word + 9) ack × (wire ≡ Repeated ∷ Header 0x7E false ack ∷ [])

-- a frame: its beginning, the way to its own part, and its own part, given the number of the bits before it
abbrev pub IsFrameWire : State → CutList → Served → State → (ℕ → List Symbol → Type 0) → List Symbol → Type 0
IsFrameWire old cuts served new IsOwn wire =
    (begun : List Symbol) × (word : ℕ) × (on : List Symbol) × (own : List Symbol)
    × IsBegun old cuts served new begun × IsWordBits old served word × IsOn old cuts served word on × IsOwn (word + header_bits served) own × (wire ≡ begun ++ on ++ own)

-- a command to an address is acknowledged there exactly where somebody isn't lost by the ninth bit of its header
abbrev pub IsAnswered : State → CutList → Option ℕ → ℕ → Answer → Type 0
IsAnswered st cuts None bits_before answer = ⊤
IsAnswered st cuts (Some a) bits_before answer = (answer ≡ Answer.Done) ↔ SomeLeftAt st a (lost_by cuts (bits_before + 18))

-- ENEC or DISEC, with `bits_before` bits of the frame before it
abbrev pub IsKindsPart : State → CutList → Change → Option ℕ → Kinds → Answer → ℕ → List Symbol → Type 0
IsKindsPart old cuts change to kinds answer bits_before wire = IsKindsWire change to kinds answer wire × IsAnswered old cuts to bits_before answer

-- SETDASA, the code 87, with `bits_before` bits of the frame before it: acknowledged exactly if a device without a
-- dynamic address is left at the static one by the ninth bit of its header
abbrev pub IsStaticPart : State → CutList → ℕ → ℕ → Answer → ℕ → List Symbol → Type 0
IsStaticPart old cuts f to answer bits_before wire = IsSettingWire 0x87 f to answer wire × ((answer ≡ Answer.Done) ↔ SomeUnaddressedLeftAt old f (lost_by cuts (bits_before + 18)))

-- SETNEWDA, the code 88, with `bits_before` bits of the frame before it
abbrev pub IsNewPart : State → CutList → ℕ → ℕ → Answer → ℕ → List Symbol → Type 0
IsNewPart old cuts a to answer bits_before wire = IsSettingWire 0x88 a to answer wire × IsAnswered old cuts (Some a) bits_before answer

-- SETMWL or SETMRL, with `bits_before` bits of the frame before it
abbrev pub IsLengthPart : State → CutList → Direction → Option ℕ → ℕ → Answer → ℕ → List Symbol → Type 0
IsLengthPart old cuts way to most answer bits_before wire = IsLengthWire way to most answer wire × IsAnswered old cuts to bits_before answer

-- RSTDAA: the code 06
abbrev pub IsResetWire : List Symbol → Type 0
IsResetWire wire = (code : Word) × IsWord 0x06 code × (wire ≡ Symbol.Word code ∷ Stop ∷ [])

-- DEFTGTS: the code 08 and the words of a list
abbrev pub IsListWire : List Word → List Symbol → Type 0
IsListWire words wire = (code : Word) × IsWord 0x08 code × (wire ≡ Symbol.Word code ∷ map Symbol.Word words ++ Stop ∷ [])

-- these symbols are words that carry bytes
abbrev pub AreWordsOf : List ℕ → List Symbol → Type 0
AreWordsOf bytes wire = (words : List Word) × Carry bytes words × (wire ≡ map Symbol.Word words)

-- DEFTGTS with the words of these entries
abbrev pub IsWireOfList : List Entry → List Symbol → Type 0
IsWireOfList entries wire = (words : List Word) × Carry (list_bytes entries) words × IsListWire words wire

-- these words carry the list of the active controller's table, its own entry first
abbrev pub IsListOf : State → List Word → Type 0
IsListOf st words =
    (own : ℕ) × (active_has st own ≡ true) × Carry (list_bytes (entries_of (the_table st) own)) words

-- a list of this bus
abbrev pub IsListPart : State → List Symbol → Type 0
IsListPart st wire = (words : List Word) × IsListOf st words × IsListWire words wire

-- a private read, with `bits_before` bits of the frame before it: acknowledged if a legacy target is there or a device is
-- left at its header's ninth bit, and its bytes as those there drive them
abbrev pub IsReadPart : State → CutList → ℕ → Answer → ℕ → List Symbol → Type 0
IsReadPart old cuts a answer bits_before wire =
    (read : Read) × (read_answer a read ≡ answer) × ((is_read_acknowledged read ≡ true) ↔ AnyAnswers old a (lost_by cuts (bits_before + 9))) × IsDataAs old a cuts (bits_before + 10) read × IsReadWire a read wire

-- a private write of these bytes, acknowledged likewise
abbrev pub IsWritePart : State → CutList → ℕ → List ℕ → Answer → ℕ → List Symbol → Type 0
IsWritePart old cuts a bytes answer bits_before wire =
    (write : Write) × (write_answer a write ≡ answer) × ((is_write_acknowledged write ≡ true) ↔ AnyAnswers old a (lost_by cuts (bits_before + 9))) × IsWrittenBy old a write × IsWriteWire a bytes write wire

-- the bus as a frame's own part finds it, if the frame loses these devices by its last bit and leaves the bus `new`: the
-- first request is served, and the lost devices are still there
abbrev pub IsFound : State → Lost → State → State → Type 0
IsFound old lost new mid = (served : Served) × Serves old (given_for served) lost served mid × (new ≡ emptied lost mid)

-- a read of a datum, with `bits_before` bits of the frame before it: acknowledged if a device is left at its header's
-- ninth bit, and its bytes as the devices there drive them
abbrev pub IsToldPart : State → CutList → Datum → ℕ → Answer → ℕ → List Symbol → Type 0
IsToldPart mid cuts what a answer bits_before wire =
    (get : Told) × (get_answer a get ≡ answer) × ((is_get_acknowledged get ≡ true) ↔ SomeLeftAt mid a (lost_by cuts (bits_before + 18)))
    × IsToldAs mid what (told_length what (entry_at mid a)) a cuts (bits_before + 19) get × IsGetWire what a get wire

-- the same of a frame: the bytes are told when its first request is served
abbrev pub IsGetPart : State → CutList → Datum → ℕ → Answer → State → ℕ → List Symbol → Type 0
IsGetPart old cuts what a answer new bits_before wire =
    (mid : State) × (get : Told) × IsFound old (lost_by cuts (bits_before + get_bits what (entry_at old a) answer)) new mid
    × (get_answer a get ≡ answer) × ((is_get_acknowledged get ≡ true) ↔ SomeLeftAt old a (lost_by cuts (bits_before + 18)))
    × IsToldAs mid what (told_length what (entry_at old a)) a cuts (bits_before + 19) get × IsGetWire what a get wire

-- nobody took the role
abbrev pub IsUntaken : Offer → Type 0
IsUntaken Offer.Nobody = ⊤
IsUntaken (Offer.Torn byte) = ⊤
IsUntaken (Offer.Taken s) = ⊥

-- an offer that nobody took, with `bits_before` bits of the frame before it: acknowledged if a willing device is left at
-- its header's ninth bit, and its byte as it is read then. The devices cut by its last bit are gone, and no others
abbrev pub IsDeclinedPart : State → CutList → ℕ → State → ℕ → List Symbol → Type 0
IsDeclinedPart old cuts to new bits_before wire =
    (offer : Offer) × IsUntaken offer × ((is_acknowledged offer ≡ true) ↔ SomeTakes old to (lost_by cuts (bits_before + 18))) × IsReadAs old to cuts (bits_before + 19) offer
    × (new ≡ emptied (lost_by cuts (bits_before + offer_bits offer)) old) × IsOfferWire to offer wire

-- the wire of an offer that the new active controller took
abbrev pub IsHandedWire : State → Event → List Symbol → Type 0
IsHandedWire new (HandOver to cuts) wire = IsOfferWire to (Offer.Taken new.active) wire
IsHandedWire new _ wire = ⊥

-- the own part of a frame that is answered, by its event
abbrev pub IsOwnWire : State → CutList → Event → Answer → State → ℕ → List Symbol → Type 0
IsOwnWire old cuts (Enec to kinds policy others) answer new bits_before wire = IsKindsPart old cuts Change.Enable to kinds answer bits_before wire
IsOwnWire old cuts (Disec to kinds policy others) answer new bits_before wire = IsKindsPart old cuts Change.Disable to kinds answer bits_before wire
IsOwnWire old cuts (Reset policy others) answer new bits_before wire = IsResetWire wire
IsOwnWire old cuts (SendList policy others) answer new bits_before wire = IsListPart old wire
IsOwnWire old cuts (ReadFrom a policy others) answer new bits_before wire = IsReadPart old cuts a answer bits_before wire
IsOwnWire old cuts (WriteTo a bytes policy others) answer new bits_before wire = IsWritePart old cuts a bytes.items answer bits_before wire
IsOwnWire old cuts (SetStatic f to policy others) answer new bits_before wire = IsStaticPart old cuts f to answer bits_before wire
IsOwnWire old cuts (SetNew a to policy others) answer new bits_before wire = IsNewPart old cuts a to answer bits_before wire
IsOwnWire old cuts (Get what a policy others) answer new bits_before wire = IsGetPart old cuts what a answer new bits_before wire
IsOwnWire old cuts (SetLength way most to policy others) answer new bits_before wire = IsLengthPart old cuts way to most answer bits_before wire
IsOwnWire old cuts (HandOver to others) answer new bits_before wire = IsDeclinedPart old cuts to new bits_before wire
IsOwnWire old cuts _ answer new bits_before wire = ⊥

-- ENTDAA: the code 07. The session goes on with its rounds
abbrev pub IsOpenWire : List Symbol → Type 0
IsOpenWire wire = (code : Word) × IsWord 0x07 code × (wire ≡ Symbol.Word code ∷ [])

-- a serve: its beginning, and STOP
abbrev pub IsServeWire : State → CutList → Served → State → List Symbol → Type 0
IsServeWire old cuts served new wire = (begun : List Symbol) × IsBegun old cuts served new begun × (wire ≡ begun ++ Stop ∷ [])

-- the wire of a round with this answer: its bits are those that the contest of the hearers' numbers reads, and its ACKs
-- are those of the hearers that are left
abbrev pub IsRoundWireOf : State → CutList → RoundReply → List Symbol → Type 0
IsRoundWireOf st cuts answer wire = (round : Round) × (reply_of round ≡ answer) × IsRead st cuts round × IsAcknowledged st cuts round × IsRoundWire round wire

-- a wire of the event's cuts
abbrev pub OfCuts : Event → (CutList → Type 0) → Type 0
OfCuts event Is = MatchOption (cuts_in event) ⊥ Is

-- the wire of an event that leads from one state to another, by its reply: one that is refused or short of memory
-- sends nothing, and so does what devices do by themselves
abbrev pub IsWire : State → Event → Reply → State → List Symbol → Type 0
IsWire old event (Reply.Refused why) new wire = wire ≡ []
IsWire old event Reply.OutOfMemory new wire = wire ≡ []
IsWire old event Reply.Attached new wire = wire ≡ []
IsWire old event Reply.Dropped new wire = wire ≡ []
IsWire old event (Reply.Raised number) new wire = wire ≡ []
IsWire old event Reply.Asked new wire = wire ≡ []
IsWire old event (Reply.Served served) new wire = OfCuts event (λ cuts. IsServeWire old cuts served new wire)
IsWire old event (Reply.Framed framed) new wire = OfCuts event (λ cuts. IsFrameWire old cuts framed.served new (IsOwnWire old cuts event framed.answer new) wire)
IsWire old event (Reply.Opened served) new wire = OfCuts event (λ cuts. IsFrameWire old cuts served new (λ bits_before. IsOpenWire) wire)
IsWire old event (Reply.Round answer) new wire = OfCuts event (λ cuts. IsRoundWireOf old cuts answer wire)
IsWire old event (Reply.Handed served) new wire = OfCuts event (λ cuts. IsFrameWire old cuts served new (λ bits_before. IsHandedWire new event) wire)
IsWire old event Reply.Ended new wire = wire ≡ Stop ∷ []
