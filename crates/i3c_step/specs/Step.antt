-- One step of the bus: what an event may answer and leave.
use Rattle.std.specs.Prelude.{◌≡◌, ℕ, suc, ◌+◌, Bool, true, false, not, ◌&&◌, ◌||◌, ◌==◌, ◌⊎◌, nat_lt, List, [], ◌∷◌, ◌++◌, length, Option, Some, None, is_none, is_some, MatchOption, ⊤}
use Rattle.i3c_base.specs.declared.answers.Answer.{Answer}
use Rattle.i3c_base.specs.declared.answers.RoundReply.{RoundReply}
use Rattle.i3c_base.specs.declared.datum.Direction.{Direction}
use Rattle.i3c_base.specs.declared.identity.Identity.{Identity}
use Rattle.i3c_base.specs.declared.requests.Fixed.{Fixed}
use Rattle.i3c_base.specs.declared.requests.Served.{Served}
use Rattle.i3c_base.specs.declared.kinds.Change.{Change}
use Rattle.i3c_base.specs.Numbers.{KindSet, is_capable}
use Rattle.i3c_base.specs.State.{Entry, State, declared_at, device_at, entry_at, is_the, is_usable, known_in, legacy_target_at, raised_at}
use Rattle.i3c_base.specs.Cutting.{CutList, IsUncut, Lost, cut_of}
use Rattle.i3c_base.specs.Local.{ask_join, ask_role, attach, drop_off, raise}
use Rattle.i3c_base.specs.Serve.{Frame, header_bits, refuse_all}
use Rattle.i3c_base.specs.Frames.{Gets, Hands, SetsLength, length_bits, transfer_length, IsRefusedBits, KeepsRole, Reads, Rekinds, SetsNew, SetsStatic, Writes, active_has, changed_kinds, get_bits, kinds_bits, list, list_bits, read_bits, reset, write_bits}
use Rattle.i3c_base.specs.Refusing.{Tests, first_of, join_tests, renamed, role_tests, is_uncounted, raise_tests}
use Rattle.i3c_base.specs.Round.{Rounds, ended, opened}
use Rattle.i3c_step.specs.declared.events.Event.{Event}
use Rattle.i3c_step.specs.declared.events.Event.TheVariants.{Attach, DropOff, Raise, AskJoin, AskRole, Serve, Enec, Disec, Reset, SendList, ReadFrom, WriteTo, SetStatic, SetNew, Get, SetLength, OpenDaa, Round, EndDaa, HandOver}
use Rattle.i3c_step.specs.declared.events.TheConstants.{TRANSFER}
use Rattle.i3c_step.specs.declared.replies.Framed.{Framed}
use Rattle.i3c_step.specs.declared.replies.Refusal.{Refusal}
use Rattle.i3c_step.specs.declared.replies.Refusal.TheVariants.{SessionOpen, NoSession, ActiveStays, SlotTaken, NoDevice, IsActive, NotCapable, ListStale, NoAnswer, TooLong, BadAddress}
use Rattle.i3c_step.specs.declared.replies.Reply.{Reply}
use Rattle.i3c_step.specs.Replies.{join_refusal, raise_refusal, role_refusal}

-- tests with the refusal that each stands for, in order
abbrev pub Checks : Type 0
Checks = Tests Refusal

-- the refusal of the first test that holds
abbrev pub first_refusal : Checks → Option Refusal
first_refusal checks = first_of checks

-- the cuts name the active controller's slot
abbrev pub cuts_active : State → CutList → Bool
cuts_active st cuts = is_some (cut_of cuts st.active)

-- the refusals of a frame under the role
abbrev pub frame_checks : State → CutList → Checks
frame_checks st cuts = (st.in_session, SessionOpen) ∷ (cuts_active st cuts, ActiveStays) ∷ []

-- the table has no entry at the address, or it is the active controller's own
abbrev pub is_no_target : State → ℕ → Bool
is_no_target st a = is_none (entry_at st a) || active_has st a

-- the refusals of a command to one address
abbrev pub target_checks : State → Option ℕ → Checks
target_checks st None = []
target_checks st (Some a) = (is_no_target st a, NoAnswer a) ∷ []

-- nobody for a transfer: no legacy target has the address, nor any device of the table but the active controller
abbrev pub is_no_partner : State → ℕ → Bool
is_no_partner st a = is_none (legacy_target_at st a) && is_no_target st a

-- the bytes are more than a transfer with the address may bring
abbrev pub is_too_long : State → ℕ → List ℕ → Bool
is_too_long st a bytes = nat_lt (transfer_length st Direction.Write a) (length bytes)

-- the refusals of a read, after those of each frame
abbrev pub read_checks : State → ℕ → Checks
read_checks st a = (is_no_partner st a, NoAnswer a) ∷ []

-- the refusals of a write, after those of each frame
abbrev pub write_checks : State → ℕ → List ℕ → Checks
write_checks st a bytes = (is_too_long st a bytes, TooLong) ∷ (is_no_partner st a, NoAnswer a) ∷ []

-- the address may be picked on this bus
abbrev pub is_pickable : State → ℕ → Bool
is_pickable st a = is_usable a && (is_none (entry_at st a) && (is_none (legacy_target_at st a) && is_none (declared_at st a)))

-- the address is the one that is kept for the identity, if there is one
abbrev pub is_kept_for : State → Option Identity → ℕ → Bool
is_kept_for st None a = false
is_kept_for st (Some i) a = is_the a (known_in st.given i)

-- the refusals of SETDASA: nobody is declared at the static address, or the new one may not be picked and isn't kept for the
-- declared identity
abbrev pub static_checks : State → ℕ → ℕ → Checks
static_checks st f new =
    (is_none (declared_at st f), NoAnswer f) ∷ (not (is_pickable st new || is_kept_for st (declared_at st f) new), BadAddress new) ∷ []

-- the refusals of SETNEWDA
abbrev pub new_checks : State → ℕ → ℕ → Checks
new_checks st a new = (is_no_target st a, NoAnswer a) ∷ (not (is_pickable st new), BadAddress new) ∷ []

-- no device that can be a controller got an address, as this entry has it
abbrev pub is_no_controller : Option Entry → Bool
is_no_controller None = true
is_no_controller (Some entry) = not (is_capable entry.bcr)

-- the refusals of a handover to an address: it is the active controller's own, no controller's, or the list isn't current
abbrev pub hand_checks : State → ℕ → Checks
hand_checks st a = (active_has st a, IsActive) ∷ (is_no_controller (entry_at st a), NotCapable) ∷ (not st.listed, ListStale) ∷ []

-- the refusals of each event, in order
abbrev pub checks : State → Event → Checks
checks st (Attach s setup) = (is_some (device_at st s), SlotTaken) ∷ []
checks st (DropOff s) = (is_none (device_at st s), NoDevice) ∷ (s == st.active, ActiveStays) ∷ []
checks st (Raise s byte) = renamed raise_refusal (raise_tests st.active s byte (is_uncounted (raised_at st s)) (device_at st s))
checks st (AskJoin s) = renamed join_refusal (join_tests (device_at st s))
checks st (AskRole s) = renamed role_refusal (role_tests st.active s (device_at st s))
checks st (Serve policy cuts) = frame_checks st cuts
checks st (Reset policy cuts) = frame_checks st cuts
checks st (SendList policy cuts) = frame_checks st cuts
checks st (Enec to kinds policy cuts) = frame_checks st cuts ++ target_checks st to
checks st (Disec to kinds policy cuts) = frame_checks st cuts ++ target_checks st to
checks st (ReadFrom a policy cuts) = frame_checks st cuts ++ read_checks st a
checks st (WriteTo a bytes policy cuts) = frame_checks st cuts ++ write_checks st a bytes.items
checks st (SetStatic f new policy cuts) = frame_checks st cuts ++ static_checks st f new
checks st (SetNew a new policy cuts) = frame_checks st cuts ++ new_checks st a new
checks st (Get what a policy cuts) = frame_checks st cuts ++ target_checks st (Some a)
checks st (SetLength way most to policy cuts) = frame_checks st cuts ++ target_checks st to
checks st (OpenDaa cuts) = frame_checks st cuts
checks st (HandOver to cuts) = frame_checks st cuts ++ hand_checks st to
checks st (Round cuts) = (not st.in_session, NoSession) ∷ (cuts_active st cuts, ActiveStays) ∷ []
checks st EndDaa = (not st.in_session, NoSession) ∷ []

-- the frames that may record, and so may want memory before their first bit
abbrev pub may_want_memory : Event → Bool
may_want_memory (Serve policy cuts) = true
may_want_memory (Enec to kinds policy cuts) = true
may_want_memory (Disec to kinds policy cuts) = true
may_want_memory (Reset policy cuts) = true
may_want_memory (SendList policy cuts) = true
may_want_memory (ReadFrom a policy cuts) = true
may_want_memory (WriteTo a bytes policy cuts) = true
may_want_memory (SetStatic f new policy cuts) = true
may_want_memory (SetNew a new policy cuts) = true
may_want_memory (Get what a policy cuts) = true
may_want_memory (SetLength way most to policy cuts) = true
may_want_memory (AskRole s) = false
may_want_memory (Attach s setup) = false
may_want_memory (DropOff s) = false
may_want_memory (Raise s byte) = false
may_want_memory (AskJoin s) = false
may_want_memory (OpenDaa cuts) = false
may_want_memory (HandOver to cuts) = false
may_want_memory (Round cuts) = false
may_want_memory EndDaa = false

-- an own part that is nothing
abbrev pub Nothing : Lost → State → State → Type 0
Nothing lost mid done = done ≡ mid

-- a frame's own part that is a function of the state
abbrev pub Becomes : (State → State) → Lost → State → State → Type 0
Becomes f lost mid done = done ≡ f mid

-- a frame of ENEC or DISEC, where f is what it makes of enabled kinds
abbrev pub RekindsBy : State → Option ℕ → (KindSet → KindSet) → Fixed → CutList → Reply → State → Type 0
RekindsBy old to f policy cuts reply new =
    (framed : Framed) × (reply ≡ Reply.Framed framed)
    × Frame old policy cuts framed.served (header_bits framed.served + kinds_bits to framed.answer) (Rekinds to f framed.answer) new

-- a frame to all that is done, whose effect is f; its own part has `bits` bits
abbrev pub Announces : State → ℕ → (State → State) → Fixed → CutList → Reply → State → Type 0
Announces old bits f policy cuts reply new =
    (served : Served) × (reply ≡ Reply.Framed (record { served = served; answer = Answer.Done })) × Frame old policy cuts served (header_bits served + bits) (Becomes f) new

-- a private transfer, or a frame that gives an address or reads a datum: its answer gives the number of bits of its own part,
-- and its effect
abbrev pub Transfers : State → (Answer → ℕ) → (Answer → Lost → State → State → Type 0) → Fixed → CutList → Reply → State → Type 0
Transfers old bits Own policy cuts reply new =
    (framed : Framed) × (reply ≡ Reply.Framed framed) × Frame old policy cuts framed.served (header_bits framed.served + bits framed.answer) (Own framed.answer) new

-- a handover that is granted: the target's header, and its byte read whole
abbrev pub IsGranted : State → ℕ → CutList → Reply → State → Type 0
IsGranted old to cuts reply new = (served : Served) × (reply ≡ Reply.Handed served) × Frame old refuse_all cuts served (header_bits served + 27) (Hands to) new

-- an offer that nobody takes
abbrev pub IsDeclined : State → ℕ → CutList → Reply → State → Type 0
IsDeclined old to cuts reply new =
    (served : Served) × (bits : ℕ) × (reply ≡ Reply.Framed (record { served = served; answer = Answer.NoAnswer to })) × IsRefusedBits old to bits
    × Frame old refuse_all cuts served (header_bits served + bits) (KeepsRole to) new

-- what an event that isn't refused answers and leaves
abbrev pub Acts : State → Event → Reply → State → Type 0
Acts old (Attach s setup) reply new = (reply ≡ Reply.Attached) × (new ≡ attach s setup old)
Acts old (DropOff s) reply new = (reply ≡ Reply.Dropped) × (new ≡ drop_off s old)
Acts old (Raise s byte) reply new = (reply ≡ Reply.Raised (suc (raised_at old s))) × (new ≡ raise s byte old)
Acts old (AskJoin s) reply new = (reply ≡ Reply.Asked) × (new ≡ ask_join s old)
Acts old (AskRole s) reply new = (reply ≡ Reply.Asked) × (new ≡ ask_role s old)
Acts old (Reset policy cuts) reply new = Announces old 9 reset policy cuts reply new
Acts old (SendList policy cuts) reply new = Announces old (list_bits old) list policy cuts reply new
Acts old (Serve policy cuts) reply new = (served : Served) × (reply ≡ Reply.Served served) × Frame old policy cuts served 0 Nothing new
Acts old (Enec to kinds policy cuts) reply new = RekindsBy old to (changed_kinds Change.Enable kinds) policy cuts reply new
Acts old (Disec to kinds policy cuts) reply new = RekindsBy old to (changed_kinds Change.Disable kinds) policy cuts reply new
Acts old (ReadFrom a policy cuts) reply new = Transfers old (read_bits (transfer_length old Direction.Read a)) (Reads a) policy cuts reply new
Acts old (WriteTo a bytes policy cuts) reply new = Transfers old (write_bits bytes.items) (Writes a bytes.items) policy cuts reply new
Acts old (SetStatic f to policy cuts) reply new = Transfers old (kinds_bits (Some f)) (SetsStatic f to) policy cuts reply new
Acts old (SetNew a to policy cuts) reply new = Transfers old (kinds_bits (Some a)) (SetsNew a to) policy cuts reply new
Acts old (Get what a policy cuts) reply new = Transfers old (get_bits what (entry_at old a)) (Gets what a) policy cuts reply new
Acts old (SetLength way most to policy cuts) reply new = Transfers old (length_bits to) (SetsLength to way most) policy cuts reply new
Acts old (OpenDaa cuts) reply new =
    (served : Served) × (reply ≡ Reply.Opened served) × Frame old refuse_all cuts served (header_bits served + 9) (Becomes opened) new
Acts old (HandOver to cuts) reply new = IsGranted old to cuts reply new ⊎ IsDeclined old to cuts reply new
Acts old (Round cuts) reply new = (answer : RoundReply) × (reply ≡ Reply.Round answer) × Rounds old cuts answer new
Acts old EndDaa reply new = (reply ≡ Reply.Ended) × (new ≡ ended old)

-- the event wants memory that it doesn't get
abbrev pub IsShort : State → Event → Reply → State → Type 0
IsShort old event reply new = (may_want_memory event ≡ true) × (reply ≡ Reply.OutOfMemory) × (new ≡ old)

-- one step: refused with the first refusal, or short of memory, which both change nothing, or done
abbrev pub Step : State → Event → Reply → State → Type 0
Step old event reply new = MatchOption (first_refusal (checks old event)) (IsShort old event reply new ⊎ Acts old event reply new) (λ why. (reply ≡ Reply.Refused why) × (new ≡ old))

-- the cuts that a frame carries
abbrev pub cuts_in : Event → Option CutList
cuts_in (Serve policy cuts) = Some cuts
cuts_in (Enec to kinds policy cuts) = Some cuts
cuts_in (Disec to kinds policy cuts) = Some cuts
cuts_in (Reset policy cuts) = Some cuts
cuts_in (SendList policy cuts) = Some cuts
cuts_in (ReadFrom a policy cuts) = Some cuts
cuts_in (WriteTo a bytes policy cuts) = Some cuts
cuts_in (SetStatic f new policy cuts) = Some cuts
cuts_in (SetNew a new policy cuts) = Some cuts
cuts_in (Get what a policy cuts) = Some cuts
cuts_in (SetLength way most to policy cuts) = Some cuts
cuts_in (AskRole s) = None
cuts_in (OpenDaa cuts) = Some cuts
cuts_in (HandOver to cuts) = Some cuts
cuts_in (Round cuts) = Some cuts
cuts_in (Attach s setup) = None
cuts_in (DropOff s) = None
cuts_in (Raise s byte) = None
cuts_in (AskJoin s) = None
cuts_in EndDaa = None

-- the event cuts nobody
abbrev pub IsUncutEvent : Event → Type 0
IsUncutEvent event = MatchOption (cuts_in event) ⊤ IsUncut
