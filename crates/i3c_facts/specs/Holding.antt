-- When a fact holds: by the bus, the place of its name, and what the previous line came to.
use Rattle.std.specs.Prelude.{ℕ, zero, suc, ◌+◌, ◌==◌, Bool, true, false, not, ◌&&◌, ◌||◌, List, [], ◌∷◌, Option, Some, None, if◌then◌else◌, is_some, length, nat_eq, nat_lt, option_and_then, take}
use Rattle.std.specs.Cmp.Lexicographic.{pointwise}
use Rattle.i3c_base.specs.declared.range.TheConstants.{SLOTS}
use Rattle.i3c_base.specs.declared.requests.Record.{Record}
use Rattle.i3c_base.specs.declared.requests.Request.{Request}
use Rattle.i3c_base.specs.declared.requests.Served.{Served}
use Rattle.i3c_base.specs.Serve.{drives, rank}
use Rattle.i3c_base.specs.State.{Device, State, device_at, has_address, in_slot}
use Rattle.i3c_bus.specs.Readings.{waiting_of}
use Rattle.i3c_device.specs.Wishing.{choice_of}
use Rattle.i3c_step.specs.declared.replies.Refusal.{Refusal as BusRefusal}
use Rattle.i3c_facts.specs.declared.facts.Claim.{Claim}
use Rattle.i3c_facts.specs.declared.fact.Fact.{Fact}
use Rattle.i3c_facts.specs.declared.fact.ServedAs.{ServedAs}
use Rattle.i3c_facts.specs.declared.before.Before.{Before}
use Rattle.i3c_facts.specs.declared.before.LineResult.{LineResult}
use Rattle.i3c_facts.specs.Forms.{served_text}
use Rattle.i3c_lines.specs.declared.names.Name.{Name}
use Rattle.i3c_lines.specs.declared.names.Place.{Place}
use Rattle.i3c_lines.specs.declared.refusals.Refusal.{Refusal}
use Rattle.i3c_lines.specs.Refusing.{refusal_token}

-- the name of the device that a fact is about
abbrev pub name_of : Fact → Option Name
name_of (Fact.Active name) = Some name
name_of (Fact.At name address) = Some name
name_of (Fact.AtAny name) = Some name
name_of (Fact.AtNone name) = Some name
name_of (Fact.Gone name) = Some name
name_of (Fact.Waiting name count) = Some name
name_of (Fact.Recorded name byte count) = Some name
name_of (Fact.Asking name) = Some name
name_of _ = None

-- the slot that a name stands for: legacy targets have none, nor have names that were never given or whose slot another device took
abbrev pub slot_of : Option Place → Option ℕ
slot_of (Some (Place.Slot slot)) = Some slot
slot_of (Some (Place.Legacy address)) = None
slot_of (Some Place.Gone) = None
slot_of None = None

-- the device that a name stands for, if it is there
abbrev pub device_of : State → Option Place → Option Device
device_of st place = option_and_then (device_at st) (slot_of place)

-- a test of an optional number
abbrev pub same_number : Option ℕ → Option ℕ → Bool
same_number None None = true
same_number None (Some b) = false
same_number (Some a) None = false
same_number (Some a) (Some b) = a == b

-- how many interrupts wait in the slots below one
abbrev pub waiting_below : State → ℕ → ℕ
waiting_below st zero = 0
waiting_below st (suc slot) = waiting_below st slot + waiting_of (device_at st slot)

-- a device that is there has an address
abbrev pub is_assigned : Option Device → Bool
is_assigned None = true
is_assigned (Some d) = is_some d.address

-- each device in the slots below one has an address
abbrev pub assigned_below : State → ℕ → Bool
assigned_below st zero = true
assigned_below st (suc slot) = assigned_below st slot && is_assigned (device_at st slot)

-- a record of this slot with this mandatory byte, or with none
abbrev pub is_record_of : ℕ → Option ℕ → Record → Bool
is_record_of slot byte recorded = (recorded.slot == slot) && same_number recorded.byte byte

-- how many records are of this slot with this byte
abbrev pub records_of : ℕ → Option ℕ → List Record → ℕ
records_of slot byte [] = 0
records_of slot byte (first ∷ records) = (if is_record_of slot byte first then 1 else 0) + records_of slot byte records

-- the slot of a name has `count` records, with this mandatory byte or with none
abbrev pub are_recorded : List Record → Option ℕ → Option ℕ → ℕ → Bool
are_recorded records None byte count = false
are_recorded records (Some slot) byte count = records_of slot byte records == count

-- the address that a refusal is about
abbrev pub address_about : Refusal → Option ℕ
address_about (Refusal.Bus (BusRefusal.NoAnswer address)) = Some address
address_about (Refusal.Bus (BusRefusal.BadAddress address)) = Some address
address_about _ = None

-- two refusals are printed the same: by the same name, and with the same address
abbrev pub is_same_refusal : Refusal → Refusal → Bool
is_same_refusal why other = pointwise nat_eq (refusal_token why) (refusal_token other) && same_number (address_about why) (address_about other)

-- the line before was done
abbrev pub is_done : LineResult → Bool
is_done LineResult.Nothing = false
is_done LineResult.Done = true
is_done (LineResult.Refused why) = false

-- the line before was refused for this reason
abbrev pub is_refused : Refusal → LineResult → Bool
is_refused why LineResult.Nothing = false
is_refused why LineResult.Done = false
is_refused why (LineResult.Refused other) = is_same_refusal why other

-- the line before was refused
abbrev pub is_any_refused : LineResult → Bool
is_any_refused LineResult.Nothing = false
is_any_refused LineResult.Done = false
is_any_refused (LineResult.Refused why) = true

-- there is a line before
abbrev pub is_line : LineResult → Bool
is_line LineResult.Nothing = false
is_line LineResult.Done = true
is_line (LineResult.Refused why) = true

-- what a request came to, without its number or address
abbrev pub served_as : Served → ServedAs
served_as Served.Quiet = ServedAs.Quiet
served_as (Served.Recorded place) = ServedAs.Recorded
served_as Served.Refused = ServedAs.TurnedDown
served_as Served.Torn = ServedAs.Torn
served_as Served.Joining = ServedAs.Joining
served_as (Served.WantsRole a) = ServedAs.WantsRole

-- the first request of the line before came to this
abbrev pub is_served : ServedAs → Before → Bool
is_served way before = is_line before.result && pointwise nat_eq (served_text way) (served_text (served_as before.heard.served))

-- bytes that were read begin with these
abbrev pub begins_with : List ℕ → Option (List ℕ) → Bool
begins_with bytes None = false
begins_with bytes (Some read) = pointwise nat_eq bytes (take (length bytes) read)

-- the request that a slot's device chooses
abbrev pub choice_in : State → ℕ → Option Request
choice_in st slot = option_and_then (λ d. choice_of d.address d) (device_at st slot)

-- a slot drives its choice, which comes before this request
abbrev pub is_ahead : State → Request → ℕ → Option Request → Bool
is_ahead st r slot None = false
is_ahead st r slot (Some choice) = drives st choice slot && nat_lt (rank choice) (rank r)

-- one of the slots below a number drives a request that comes before this one
abbrev pub is_beaten : State → Request → ℕ → Bool
is_beaten st r zero = false
is_beaten st r (suc slot) = is_beaten st r slot || is_ahead st r slot (choice_in st slot)

-- a slot drives its choice, and no slot drives a request that comes before it
abbrev pub is_first : State → ℕ → Option Request → Bool
is_first st slot None = false
is_first st slot (Some choice) = drives st choice slot && not (is_beaten st choice (length st.devices))

-- the device of a name asks: it drives the first request of the next frame
abbrev pub is_asking : State → Option ℕ → Bool
is_asking st None = false
is_asking st (Some slot) = is_first st slot (choice_in st slot)

-- a fact holds, with this place of its name and this previous line
abbrev pub fact_holds : State → Option Place → Before → Fact → Bool
fact_holds st place before (Fact.Active name) = same_number (slot_of place) (Some st.active)
fact_holds st place before (Fact.At name address) = in_slot (has_address address) (device_of st place)
fact_holds st place before (Fact.AtAny name) = in_slot (λ d. is_some d.address) (device_of st place)
fact_holds st place before (Fact.AtNone name) = in_slot (λ d. not (is_some d.address)) (device_of st place)
fact_holds st place before (Fact.Gone name) = not (is_some (device_of st place))
fact_holds st place before (Fact.Waiting name count) = in_slot (λ d. length d.waiting == count) (device_of st place)
fact_holds st place before (Fact.AllWaiting count) = waiting_below st SLOTS == count
fact_holds st place before (Fact.Records count) = length st.records == count
fact_holds st place before (Fact.Recorded name byte count) = are_recorded st.records (slot_of place) byte count
fact_holds st place before Fact.Assigned = assigned_below st SLOTS
fact_holds st place before Fact.Listed = st.listed
fact_holds st place before Fact.Open = st.in_session
fact_holds st place before Fact.Done = is_done before.result
fact_holds st place before (Fact.Refused why) = is_refused why before.result
fact_holds st place before Fact.AnyRefused = is_any_refused before.result
fact_holds st place before (Fact.Served way) = is_served way before
fact_holds st place before (Fact.Bytes bytes) = begins_with bytes before.heard.read
fact_holds st place before (Fact.Asking name) = is_asking st (slot_of place)

-- a claim holds: its fact does, or, negated, doesn't
abbrev pub claim_holds : State → Option Place → Before → Claim → Bool
claim_holds st place before claim = if claim.negated then not (fact_holds st place before claim.fact) else fact_holds st place before claim.fact

-- the place of a fact's name, if it has one that was given
abbrev pub place_for : (Name → Option Place) → Fact → Option Place
place_for places fact = option_and_then places (name_of fact)

-- at least one of these claims holds of a bus
abbrev pub claims_hold : State → (Name → Option Place) → Before → List Claim → Bool
claims_hold st places before [] = false
claims_hold st places before (claim ∷ claims) = claim_holds st (place_for places claim.fact) before claim || claims_hold st places before claims
