-- What holds over every legal run.
use Rattle.std.specs.Prelude.{◌≡◌, ◌≢◌, ◌<◌, ◌≤◌, ◌↔◌, ◌+◌, ◌*◌, ℕ, true, List, ◌++◌, count_by, Option, Some, All, Contains, [], ◌∷◌, None, option_map}
use Rattle.i3c_base.specs.declared.range.TheConstants.{SLOTS}
use Rattle.i3c_base.specs.declared.answers.Answer.{Answer}
use Rattle.i3c_base.specs.declared.datum.Datum.{Datum}
use Rattle.i3c_base.specs.declared.device.Setup.{Setup}
use Rattle.i3c_base.specs.declared.identity.Identity.{Identity}
use Rattle.i3c_base.specs.declared.requests.Fixed.{Fixed}
use Rattle.i3c_base.specs.declared.requests.Request.{Request}
use Rattle.i3c_base.specs.declared.requests.Served.{Served}
use Rattle.i3c_base.specs.declared.requests.Verdict.{Verdict}
use Rattle.i3c_base.specs.Cutting.{CutList, IsUncut}
use Rattle.i3c_base.specs.Frames.{pid_bytes, told_bytes}
use Rattle.i3c_base.specs.Numbers.{IsInRange}
use Rattle.i3c_base.specs.Serve.{IsFirst, verdict}
use Rattle.i3c_base.specs.State.{Board, Device, HasDistinctIdentities, HasUniqueAnswers, IsPresent, IsStart, State, device_at, Entry, entry_at}
use Rattle.i3c_step.specs.declared.events.Event.{Event}
use Rattle.i3c_step.specs.declared.replies.Framed.{Framed}
use Rattle.i3c_step.specs.declared.replies.Reply.{Reply}
use Rattle.i3c_step.specs.Step.{IsUncutEvent, Step}
use Rattle.i3c_step.specs.Runs.{IsLegalRun, IsRun}
use Rattle.i3c_step.specs.History.{AllDistinct, History, IsLegal, events_of, reached, replies_of}
use Rattle.i3c_step.specs.Records.{HasFaithfulRecords, IsRecordedOrTorn}
use Rattle.i3c_step.specs.Giving.{given_by, under}
use Rattle.i3c_step.specs.LateCuts.{most_bits, with_cut}
use Rattle.i3c_step.specs.Sessions.{IsInSession, IsLastRound, is_round}
use Rattle.i3c_step.specs.Serving.{policy_of, served_of}
use Rattle.i3c_step.specs.Slots.{KeepsSlots}
use Rattle.i3c_step.specs.Stays.{accepted_in_stay, accepted_since_attachment, recorded_in_stay}

-- what an entry of a table says of a datum: of the PID, where the address is kept for an identity
abbrev pub said_bytes : Datum → Entry → Option (List ℕ)
said_bytes Datum.Pid e = option_map (λ (i : Identity). pid_bytes i.pid) e.kept
said_bytes Datum.Bcr e = Some (e.bcr.0 ∷ [])
said_bytes Datum.Dcr e = Some (e.dcr.0 ∷ [])
said_bytes _ e = None

-- No two devices answer to one address, legacy targets included, in a state that a legal run leads to
-- and in which devices present together have distinct identities.
abbrev pub AddressesAreUnique : Type 0
AddressesAreUnique = (main : Setup) (board : Board) (events : List Event) (replies : List Reply) (new : State)
    → IsLegalRun main board events replies new → HasDistinctIdentities new → HasUniqueAnswers new

-- In each state that a legal run leads to, a device is in the active slot. (The state names one slot, so no other is active.)
abbrev pub OneIsActive : Type 0
OneIsActive = (main : Setup) (board : Board) (events : List Event) (replies : List Reply) (new : State)
    → IsLegalRun main board events replies new → IsPresent new new.active

-- Each run is a legal history, with the states between, so what holds of histories holds of runs.
abbrev pub RunsAreHistories : Type 0
RunsAreHistories = (start : State) (events : List Event) (replies : List Reply) (new : State) → IsRun start events replies new
    → (h : History) × IsLegal start h × (reached start h ≡ new) × (events_of h ≡ events) × (replies_of h ≡ replies)

-- An interrupt that was accepted is in the log once, at the address of its device, which raised it while enabled. This holds
-- where devices present together always had distinct identities.
abbrev pub InterruptsAreRecordedOnce : Type 0
InterruptsAreRecordedOnce = (main : Setup) (board : Board) (start : State) (h : History)
    → IsStart main board start → IsLegal start h → AllDistinct start h → HasFaithfulRecords start h

-- A frame whose first request is an interrupt that it accepts records it at its address, for the lowest driver's slot, with
-- the number of its front. Or it was torn, if it has a mandatory byte and each driver was lost in the frame.
abbrev pub AcceptedInterruptsAreRecorded : Type 0
AcceptedInterruptsAreRecorded = (old : State) (event : Event) (reply : Reply) (new : State) (policy : Fixed) (served : Served) (a : ℕ)
    → Step old event reply new → policy_of event ≡ Some policy → served_of reply ≡ Some served
    → IsFirst old (Request.Interrupt a) → verdict old policy (Request.Interrupt a) ≡ Verdict.Accept → IsRecordedOrTorn old a reply new

-- The accepted raises of a present device's stay are the recorded ones and then those that wait, in order.
abbrev pub RaisesStayInOrder : Type 0
RaisesStayInOrder = (main : Setup) (board : Board) (start : State) (h : History)
    → IsStart main board start → IsLegal start h → AllDistinct start h
    → (s : ℕ) (d : Device) → device_at (reached start h) s ≡ Some d → accepted_in_stay start h s ≡ recorded_in_stay start h s ++ d.waiting

-- Without cuts, and where there is memory, the bus is a machine: the state and the event determine the reply and the next state.
abbrev pub UncutStepsAreDetermined : Type 0
UncutStepsAreDetermined = (old : State) (event : Event) (reply other : Reply) (new next : State)
    → IsUncutEvent event → Step old event reply new → Step old event other next → reply ≢ Reply.OutOfMemory → other ≢ Reply.OutOfMemory → (reply ≡ other) × (new ≡ next)

-- A cut behind the last bit of an event's frame, of any slot but the active controller's, does nothing: the same steps are
-- legal with it and without it.
abbrev pub LateCutsDoNothing : Type 0
LateCutsDoNothing = (old : State) (event : Event) (reply : Reply) (new : State) (s bit : ℕ)
    → s ≢ old.active → most_bits old event < bit → Step old event reply new ↔ Step old (with_cut event s bit) reply new

-- Two cuts of one slot behind that bit allow the same steps, also if the slot is the active controller's.
abbrev pub LateCutsAreAlike : Type 0
LateCutsAreAlike = (old : State) (event : Event) (reply : Reply) (new : State) (s bit other : ℕ)
    → most_bits old event < bit → most_bits old event < other → Step old (with_cut event s bit) reply new ↔ Step old (with_cut event s other) reply new

-- A step moves the active controller by a granted handover alone, to a willing device, opens and ends a session with those
-- answers alone, and puts a device only into the slot of an accepted attachment.
abbrev pub SlotsAreKept : Type 0
SlotsAreKept = (old : State) (event : Event) (reply : Reply) (new : State) → Step old event reply new → KeepsSlots old event reply new

-- A step is one under the policy that its reply gives, too.
abbrev pub StepsAreGiven : Type 0
StepsAreGiven = (old : State) (event : Event) (reply : Reply) (new : State) → Step old event reply new → Step old (under (given_by reply) event) reply new

-- A slot that is taken again is another stay: what was accepted in a present device's stay is what was accepted of its slot
-- since the last accepted attachment there.
abbrev pub StaysBeginByAttachments : Type 0
StaysBeginByAttachments = (start : State) (h : History) → IsLegal start h
    → (s : ℕ) (d : Device) → device_at (reached start h) s ≡ Some d → accepted_in_stay start h s ≡ accepted_since_attachment h s

-- Where nobody is cut, GETPID, GETBCR and GETDCR read at an address what the active controller's table has there: the PID of
-- the identity that the address is kept for, the BCR and the DCR. These numbers have to be bytes, as those of the calls are.
-- So a controller may trust its table.
abbrev pub DataAreOfTheTable : Type 0
DataAreOfTheTable = (main : Setup) (board : Board) (events : List Event) (replies : List Reply) (st : State) → IsLegalRun main board events replies st
    → (what : Datum) (a : ℕ) (policy : Fixed) (cuts : CutList) (framed : Framed) (new : State) (bytes said : List ℕ) (e : Entry)
    → IsUncut cuts → Step st (Event.Get what a policy cuts) (Reply.Framed framed) new → framed.answer ≡ Answer.Bytes bytes
    → entry_at st a ≡ Some e → said_bytes what e ≡ Some said → All (λ byte. byte < 256) said → bytes ≡ said

-- the number whose bytes these are, the most significant first, behind bytes of this number
abbrev pub number_behind : ℕ → List ℕ → ℕ
number_behind before [] = before
number_behind before (byte ∷ bytes) = number_behind (256 * before + byte) bytes

-- The bytes that GETPID asks for are bytes of one number, which is the PID.
abbrev pub PidsAreTold : Type 0
PidsAreTold = (d : Device) → IsInRange d.identity
    → (number_behind 0 (told_bytes Datum.Pid d) ≡ d.identity.pid) × All (λ byte. byte < 256) (told_bytes Datum.Pid d)

-- Of as many rounds as there are slots, in one session and without cuts, one answers that nobody hears any more, or that no
-- address is left, whatever events come between them.
abbrev pub SessionsEnd : Type 0
SessionsEnd = (main : Setup) (board : Board) (events : List Event) (replies : List Reply) (mid : State) → IsLegalRun main board events replies mid → mid.in_session ≡ true
    → (session : List Event) (answers : List Reply) (new : State) → All IsInSession session → SLOTS ≤ count_by is_round session → IsRun mid session answers new
    → (answer : Reply) × Contains answers answer × IsLastRound answer
