-- The frames' own parts: enabling, reset, list, handover, private transfers, SETDASA, SETNEWDA and the codes GET.., with the
-- bits that each sends.
use Rattle.std.specs.Prelude.{◌≡◌, ◌≢◌, ℕ, ◌+◌, ◌*◌, ◌/◌, ◌%◌, ◌^◌, ◌<◌, Bool, true, false, not, ◌&&◌, ◌||◌, ◌==◌, ◌⊎◌, List, [], ◌∷◌, ◌++◌, All, length, drop, slice_index, slice_set, count_by, Option, Some, None, if◌then◌else◌, is_none, is_some, option_map, suc, min}
use Rattle.i3c_base.specs.declared.answers.Answer.{Answer}
use Rattle.i3c_base.specs.declared.datum.Datum.{Datum}
use Rattle.i3c_base.specs.declared.datum.Direction.{Direction}
use Rattle.i3c_base.specs.declared.device.LegacyTarget.{LegacyTarget}
use Rattle.i3c_base.specs.declared.device.TheConstants.{REGISTERS}
use Rattle.i3c_base.specs.State.{Device, Entry, Population, State, IsPresentIn, IsTargetAt, IsTargetIn, change, declared_at, device_at, device_in, each, entry_at, entry_in, has_address, in_slot, is_the, kept_entry_of, known_in, legacy_target_at, population, released, taken_over, unkept}
use Rattle.i3c_base.specs.Places.{changed}
use Rattle.i3c_base.specs.declared.identity.Identity.{Identity}
use Rattle.i3c_base.specs.declared.kinds.Change.{Change}
use Rattle.i3c_base.specs.declared.kinds.Change.TheVariants.{Enable, Disable}
use Rattle.i3c_base.specs.declared.kinds.Kinds.{Kinds}
use Rattle.i3c_base.specs.Numbers.{KindSet, kind_set}
use Rattle.i3c_base.specs.Cutting.{Lost}
use Rattle.i3c_base.specs.Round.{winner}
use Rattle.i3c_base.specs.Serve.{IsAnd, byte_due, is_empty, without_role}

-- some device other than the active controller has the address
abbrev pub AnyAt : State → ℕ → Type 0
AnyAt st a = (s : ℕ) × (d : Device) × IsTargetAt st a s d

-- each of them is lost (also where there is none)
abbrev pub AllLostAt : State → ℕ → Lost → Type 0
AllLostAt st a lost = (s : ℕ) (d : Device) → IsTargetAt st a s d → lost s ≡ true

-- some of these devices, a target with the address, isn't lost
abbrev pub SomeLeftIn : Population → ℕ → Lost → Type 0
SomeLeftIn all a lost = (s : ℕ) × (d : Device) × IsTargetIn all a s d × (lost s ≡ false)

-- some target at the address isn't lost
abbrev pub SomeLeftAt : State → ℕ → Lost → Type 0
SomeLeftAt st a lost = SomeLeftIn (population st) a lost

-- some of these devices, other than the active controller, isn't lost: it acknowledges a broadcast
abbrev pub AnyLeftIn : Population → Lost → Type 0
AnyLeftIn all lost = (s : ℕ) × IsPresentIn all s × (s ≢ all.active) × (lost s ≡ false)

-- some device of this bus, other than the active controller, isn't lost
abbrev pub AnyLeft : State → Lost → Type 0
AnyLeft st lost = AnyLeftIn (population st) lost

-- a header is acknowledged among these: a broadcast by anyone who isn't lost, one to an address by those there
abbrev pub IsHeardIn : Population → Option ℕ → Lost → Type 0
IsHeardIn all None lost = AnyLeftIn all lost
IsHeardIn all (Some a) lost = SomeLeftIn all a lost

-- a command reaches this device: all but the active controller, or those at one address
abbrev pub reaches_at : ℕ → Option ℕ → ℕ → Device → Bool
reaches_at active None s d = not (s == active)
reaches_at active (Some a) s d = not (s == active) && has_address a d

-- a command on this bus reaches the device
abbrev pub reaches : State → Option ℕ → ℕ → Device → Bool
reaches st to s d = reaches_at st.active to s d

-- the union of two sets of kinds
abbrev pub with_kinds : KindSet → KindSet → KindSet
with_kinds had more = record { interrupt = had.interrupt || more.interrupt; role = had.role || more.role; join = had.join || more.join }

-- the difference of two sets of kinds
abbrev pub without_kinds : KindSet → KindSet → KindSet
without_kinds had less = record { interrupt = had.interrupt && not less.interrupt; role = had.role && not less.role; join = had.join && not less.join }

-- the enabled kinds of a device after ENEC or DISEC with these kinds
abbrev pub changed_kinds : Change → Kinds → KindSet → KindSet
changed_kinds Enable kinds had = with_kinds had (kind_set kinds)
changed_kinds Disable kinds had = without_kinds had (kind_set kinds)

-- a device after ENEC or DISEC: its kinds are changed by f where the command reaches it
abbrev pub rekinded_at : ℕ → Option ℕ → (KindSet → KindSet) → ℕ → Device → Device
rekinded_at active to f s d = if reaches_at active to s d then record d { kinds = f d.kinds } else d

-- the kinds of each device that the command reaches, changed by f
abbrev pub rekinded : Option ℕ → (KindSet → KindSet) → State → State
rekinded to f st = each (rekinded_at st.active to f) st

-- the answers of ENEC and DISEC, and what each leaves
abbrev pub Rekinds : Option ℕ → (KindSet → KindSet) → Answer → Lost → State → State → Type 0
Rekinds None f answer lost mid done = (answer ≡ Answer.Done) × (done ≡ rekinded None f mid)
Rekinds (Some a) f answer lost mid done =
    ((answer ≡ Answer.Done) × AnyAt mid a × (done ≡ rekinded (Some a) f mid))
    ⊎ ((answer ≡ Answer.NoAnswer a) × AllLostAt mid a lost × (done ≡ mid))

-- the bits of ENEC and DISEC: two words, or a word, a header and after its ACK a word
abbrev pub kinds_bits : Option ℕ → Answer → ℕ
kinds_bits None answer = 18
kinds_bits (Some a) (Answer.NoAnswer b) = 18
kinds_bits (Some a) _ = 27

-- a device with this maximum length
abbrev pub limited : Direction → ℕ → Device → Device
limited Direction.Write most d = record d { most_written = most }
limited Direction.Read most d = record d { most_read = most }

-- a device after SETMWL or SETMRL: it has this maximum length where the command reaches it
abbrev pub with_length_at : ℕ → Option ℕ → Direction → ℕ → ℕ → Device → Device
with_length_at active to way most s d = if reaches_at active to s d then limited way most d else d

-- SETMWL and SETMRL: each device that the command reaches has this maximum length
abbrev pub with_length : Option ℕ → Direction → ℕ → State → State
with_length to way most st = each (with_length_at st.active to way most) st

-- the answers of SETMWL and SETMRL, and what each leaves
abbrev pub SetsLength : Option ℕ → Direction → ℕ → Answer → Lost → State → State → Type 0
SetsLength None way most answer lost mid done = (answer ≡ Answer.Done) × (done ≡ with_length None way most mid)
SetsLength (Some a) way most answer lost mid done =
    ((answer ≡ Answer.Done) × AnyAt mid a × (done ≡ with_length (Some a) way most mid))
    ⊎ ((answer ≡ Answer.NoAnswer a) × AllLostAt mid a lost × (done ≡ mid))

-- the bits of SETMWL and SETMRL: three words, or a word, a header and after its ACK two words
abbrev pub length_bits : Option ℕ → Answer → ℕ
length_bits None answer = 27
length_bits (Some a) (Answer.NoAnswer b) = 18
length_bits (Some a) _ = 36

-- slot s of these holds device d, which has the static address f and no dynamic one, and isn't the active controller
abbrev pub IsUnaddressedIn : Population → ℕ → ℕ → Device → Type 0
IsUnaddressedIn all f s d = (device_in all s ≡ Some d) × (d.address ≡ None) × (d.fixed ≡ Some f) × (s ≢ all.active)

-- slot s of this bus holds the device d, which has the static address f and no dynamic one
abbrev pub IsUnaddressedAt : State → ℕ → ℕ → Device → Type 0
IsUnaddressedAt st f s d = IsUnaddressedIn (population st) f s d

-- some device without a dynamic address has the static address
abbrev pub AnyUnaddressedAt : State → ℕ → Type 0
AnyUnaddressedAt st f = (s : ℕ) × (d : Device) × IsUnaddressedAt st f s d

-- each of them is lost (also where there is none)
abbrev pub AllUnaddressedLostAt : State → ℕ → Lost → Type 0
AllUnaddressedLostAt st f lost = (s : ℕ) (d : Device) → IsUnaddressedAt st f s d → lost s ≡ true

-- some device of these without a dynamic address has the static address, and isn't lost
abbrev pub SomeUnaddressedLeftIn : Population → ℕ → Lost → Type 0
SomeUnaddressedLeftIn all f lost = (s : ℕ) × (d : Device) × IsUnaddressedIn all f s d × (lost s ≡ false)

-- some device of this bus with the static address f and no dynamic one isn't lost
abbrev pub SomeUnaddressedLeftAt : State → ℕ → Lost → Type 0
SomeUnaddressedLeftAt st f lost = SomeUnaddressedLeftIn (population st) f lost

-- a device that takes SETDASA at the static address f
abbrev pub takes_static : ℕ → ℕ → ℕ → Device → Bool
takes_static active f s d = not (s == active) && (is_none d.address && is_the f d.fixed)

-- the address a, if there is one, is released
abbrev pub released_at : Option ℕ → List (Option Entry) → List (Option Entry)
released_at None given = given
released_at (Some a) given = slice_set given a (option_map released (entry_in given a))

-- a table after SETDASA: the address that was kept for the identity is released, and the new one is kept for it
abbrev pub settled : List (Option Identity) → Identity → ℕ → List (Option Entry) → List (Option Entry)
settled declared i new given = slice_set (released_at (known_in given i) given) new (Some (kept_entry_of declared i))

-- a device after SETDASA: it has the new address where it takes it at the static address f
abbrev pub with_static_at : ℕ → ℕ → ℕ → ℕ → Device → Device
with_static_at active f new s d = if takes_static active f s d then winner new d else d

-- SETDASA: the devices that take it, at the static address f of the identity i, have the new address, which enters the table
abbrev pub with_static : ℕ → Identity → ℕ → State → State
with_static f i new st = record (each (with_static_at st.active f new) st) {
  given = settled st.declared i new st.given;
  listed = false;
}

-- the answers of SETDASA, and what each leaves
abbrev pub SetsStatic : ℕ → ℕ → Answer → Lost → State → State → Type 0
SetsStatic f new answer lost mid done =
    ((answer ≡ Answer.Done) × AnyUnaddressedAt mid f × ((i : Identity) × (declared_at mid f ≡ Some i) × (done ≡ with_static f i new mid)))
    ⊎ ((answer ≡ Answer.NoAnswer f) × AllUnaddressedLostAt mid f lost × (done ≡ mid))

-- a device at a new address
abbrev pub readdressed : ℕ → Device → Device
readdressed new d = record d { address = Some new }

-- a table whose entry at `old` has moved to a new address
abbrev pub moved : ℕ → ℕ → List (Option Entry) → List (Option Entry)
moved old new given = slice_set (slice_set given old None) new (entry_in given old)

-- a device after SETNEWDA: it has the new address where it had the address `old`
abbrev pub with_new_at : ℕ → ℕ → ℕ → ℕ → Device → Device
with_new_at active old new s d = if reaches_at active (Some old) s d then readdressed new d else d

-- SETNEWDA: each device with the address `old` has the new one, with the entry of the table
abbrev pub with_new : ℕ → ℕ → State → State
with_new old new st = record (each (with_new_at st.active old new) st) {
  given = moved old new st.given;
  listed = false;
}

-- the answers of SETNEWDA, and what each leaves
abbrev pub SetsNew : ℕ → ℕ → Answer → Lost → State → State → Type 0
SetsNew old new answer lost mid done =
    ((answer ≡ Answer.Done) × AnyAt mid old × (done ≡ with_new old new mid))
    ⊎ ((answer ≡ Answer.NoAnswer old) × AllLostAt mid old lost × (done ≡ mid))

-- the active controller has the address
abbrev pub active_has : State → ℕ → Bool
active_has st a = in_slot (has_address a) (device_at st st.active)

-- a device that hears RSTDAA: without its address and its role wish
abbrev pub unaddressed_device : Device → Device
unaddressed_device d = record d { address = None; role_wish = false }

-- RSTDAA: the active controller alone keeps its address and its entry; role wishes go too
abbrev pub reset : State → State
reset st = record (each (λ s d. if s == st.active then without_role d else unaddressed_device d) st) {
  given = changed (λ a place. if active_has st a then option_map unkept place else None) st.given;
  listed = false;
}

-- DEFTGTS: the list is current
abbrev pub list : State → State
list st = record st { listed = true }

-- the bits of a list: the code, the count, and four words for each entry
abbrev pub list_bits : State → ℕ
list_bits st = 9 * (2 + 4 * (count_by is_some st.given + count_by is_some st.legacy))

-- a willing device of these at the address, other than the active controller
abbrev pub IsWillingIn : Population → ℕ → ℕ → Type 0
IsWillingIn all a s = (d : Device) × IsTargetIn all a s d × (d.willing ≡ true)

-- a willing device at the address, other than the active controller
abbrev pub IsWillingAt : State → ℕ → ℕ → Type 0
IsWillingAt st a s = IsWillingIn (population st) a s

-- each willing device of these at the address is lost
abbrev pub AreWillingLost : Population → ℕ → Lost → Type 0
AreWillingLost all a lost = (s : ℕ) → IsWillingIn all a s → lost s ≡ true

-- slot s is the lowest with a willing device of these at the address that isn't lost
abbrev pub IsLowestWilling : Population → ℕ → Lost → ℕ → Type 0
IsLowestWilling all a lost s = IsWillingIn all a s × (lost s ≡ false) × ((t : ℕ) → t < s → IsWillingIn all a t → lost t ≡ true)

-- the role passes to slot s, whose device has the address own
abbrev pub handed : ℕ → ℕ → State → State
handed s own st = record (change s without_role st) { active = s; given = taken_over st.declared own st.given; listed = false }

-- GETACCCR granted: the lowest slot with a willing device that isn't lost is active
abbrev pub Hands : ℕ → Lost → State → State → Type 0
Hands a lost mid done = (s : ℕ) × IsWillingAt mid a s × (lost s ≡ false) × ((t : ℕ) → t < s → IsWillingAt mid a t → lost t ≡ true) × (done ≡ handed s a mid)

-- GETACCCR not granted: each willing device at the address is lost
abbrev pub KeepsRole : ℕ → Lost → State → State → Type 0
KeepsRole a lost mid done = AreWillingLost (population mid) a lost × (done ≡ mid)

-- a handover that isn't granted ends with the target's header, or with its byte where somebody willing was there
abbrev pub IsRefusedBits : State → ℕ → ℕ → Type 0
IsRefusedBits st a bits = (bits ≡ 18) ⊎ ((bits ≡ 27) × ((s : ℕ) × IsWillingAt st a s))

-- the maximum length of a device's transfers
abbrev pub length_of : Direction → Device → ℕ
length_of Direction.Write d = d.most_written
length_of Direction.Read d = d.most_read

-- the least maximum length in these places, from slot s on, among the devices at an address except the active controller; at
-- most the number of registers
abbrev pub least_length_from : ℕ → Direction → ℕ → ℕ → List (Option Device) → ℕ
least_length_from active way a s [] = REGISTERS
least_length_from active way a s (None ∷ places) = least_length_from active way a (suc s) places
least_length_from active way a s (Some d ∷ places) =
    if not (s == active) && has_address a d then min (length_of way d) (least_length_from active way a (suc s) places) else least_length_from active way a (suc s) places

-- how many bytes a transfer with an address may have: a legacy target's registers, or the least maximum length of the devices there
abbrev pub transfer_length : State → Direction → ℕ → ℕ
transfer_length st way a = if is_some (legacy_target_at st a) then REGISTERS else least_length_from st.active way a 0 st.devices

-- slot s has the address, and v in register k
abbrev pub DrivesRegister : State → ℕ → ℕ → ℕ → ℕ → Type 0
DrivesRegister st a k s v = (d : Device) × IsTargetAt st a s d × (v ≡ slice_index d.registers k)

-- what a read of the address gives: a legacy target's registers; of devices the first ones, as many as each may give: of
-- several the AND, any bytes where some are lost
abbrev pub IsReadOf : State → ℕ → Lost → List ℕ → Type 0
IsReadOf st a lost bytes =
    ((target : LegacyTarget) × (legacy_target_at st a ≡ Some target) × (bytes ≡ target.registers))
    ⊎ ((legacy_target_at st a ≡ None) × SomeLeftAt st a lost × (length bytes ≡ transfer_length st Direction.Read a) × All (λ byte. byte < 256) bytes
    × (((s : ℕ) (d : Device) → IsTargetAt st a s d → lost s ≡ false)
    → (k : ℕ) → k < length bytes → IsAnd (slice_index bytes k) (DrivesRegister st a k)))

-- nobody answers, or the answer breaks off: no legacy target is there, and each device is lost
abbrev pub NobodyLeftAt : State → ℕ → Lost → Type 0
NobodyLeftAt st a lost = (legacy_target_at st a ≡ None) × AllLostAt st a lost

-- the answers of a read, which changes nothing
abbrev pub Reads : ℕ → Answer → Lost → State → State → Type 0
Reads a (Answer.Bytes bytes) lost mid done = IsReadOf mid a lost bytes × (done ≡ mid)
Reads a (Answer.NoAnswer b) lost mid done = (b ≡ a) × NobodyLeftAt mid a lost × (done ≡ mid)
Reads a Answer.NoEnd lost mid done = NobodyLeftAt mid a lost × AnyAt mid a × (done ≡ mid)
Reads a Answer.Done lost mid done = ⊥

-- the bits of a read of `count` bytes: a header, and after its ACK a word for each byte
abbrev pub read_bits : ℕ → Answer → ℕ
read_bits count (Answer.NoAnswer b) = 9
read_bits count _ = 9 + 9 * count

-- registers whose first ones are replaced
abbrev pub overwritten : List ℕ → List ℕ → List ℕ
overwritten bytes registers = bytes ++ drop (length bytes) registers

-- a legacy target after a write
abbrev pub legacy_written : List ℕ → Option LegacyTarget → Option LegacyTarget
legacy_written bytes None = None
legacy_written bytes (Some target) = Some (record target { registers = overwritten bytes target.registers })

-- a device after a write to the address: its registers are changed where it has the address
abbrev pub written_at : ℕ → ℕ → List ℕ → ℕ → Device → Device
written_at active a bytes s d = if reaches_at active (Some a) s d then record d { registers = overwritten bytes d.registers } else d

-- a write to the address: a legacy target there has its registers changed, and so has each device there
abbrev pub written : ℕ → List ℕ → State → State
written a bytes st = record (each (written_at st.active a bytes) st) {
  legacy = slice_set st.legacy a (legacy_written bytes (legacy_target_at st a));
}

-- the answers of a write
abbrev pub Writes : ℕ → List ℕ → Answer → Lost → State → State → Type 0
Writes a bytes Answer.Done lost mid done = (((target : LegacyTarget) × (legacy_target_at mid a ≡ Some target)) ⊎ AnyAt mid a) × (done ≡ written a bytes mid)
Writes a bytes (Answer.NoAnswer b) lost mid done = (b ≡ a) × NobodyLeftAt mid a lost × (done ≡ mid)
Writes a bytes Answer.NoEnd lost mid done = ⊥
Writes a bytes (Answer.Bytes read) lost mid done = ⊥

-- the bits of a write: a header, and after its ACK the words
abbrev pub write_bits : List ℕ → Answer → ℕ
write_bits bytes (Answer.NoAnswer b) = 9
write_bits bytes _ = 9 + 9 * length bytes

-- a provisioned ID in six bytes, the most significant first
abbrev pub pid_bytes : ℕ → List ℕ
pid_bytes pid = pid / 2 ^ 40 % 256 ∷ pid / 2 ^ 32 % 256 ∷ pid / 2 ^ 24 % 256 ∷ pid / 2 ^ 16 % 256 ∷ pid / 2 ^ 8 % 256 ∷ pid % 256 ∷ []

-- the second byte of a status: whether an interrupt waits, be its kind enabled or not
abbrev pub pending : Device → ℕ
pending d = if is_empty d.waiting then 0 else 1

-- what a device tells of a datum: of a status no protocol error and activity mode 0, of its speed no limit, and of its
-- capabilities I3C Basic 1.1 alone
abbrev pub told_bytes : Datum → Device → List ℕ
told_bytes Datum.Pid d = pid_bytes d.identity.pid
told_bytes Datum.Bcr d = d.identity.bcr.0 ∷ []
told_bytes Datum.Dcr d = d.identity.dcr.0 ∷ []
told_bytes Datum.Status d = 0 ∷ pending d ∷ []
told_bytes Datum.WriteLength d = 0 ∷ d.most_written ∷ []
told_bytes Datum.ReadLength d = 0 ∷ d.most_read ∷ 1 ∷ []
told_bytes Datum.Speed d = 0 ∷ 0 ∷ []
told_bytes Datum.Capabilities d = 0 ∷ 1 ∷ []

-- how many bytes a controller reads of a datum at an address with this table entry
abbrev pub told_length : Datum → Option Entry → ℕ
told_length Datum.Pid entry = 6
told_length Datum.Bcr entry = 1
told_length Datum.Dcr entry = 1
told_length Datum.ReadLength entry = if byte_due entry then 3 else 2
told_length _ entry = 2

-- slot s has the address, and v is byte k of what its device tells of a datum
abbrev pub DrivesTold : State → Datum → ℕ → ℕ → ℕ → ℕ → Type 0
DrivesTold st what a k s v = (d : Device) × IsTargetAt st a s d × (v ≡ slice_index (told_bytes what d) k)

-- what a controller reads of a datum at an address: of several devices the AND, any bytes where some are lost
abbrev pub IsToldAt : State → Datum → ℕ → Lost → List ℕ → Type 0
IsToldAt st what a lost bytes =
    SomeLeftAt st a lost × (length bytes ≡ told_length what (entry_at st a)) × All (λ byte. byte < 256) bytes
    × (((s : ℕ) (d : Device) → IsTargetAt st a s d → lost s ≡ false)
    → (k : ℕ) → k < length bytes → IsAnd (slice_index bytes k) (DrivesTold st what a k))

-- the answers of GETPID and its like, which change nothing
abbrev pub Gets : Datum → ℕ → Answer → Lost → State → State → Type 0
Gets what a (Answer.Bytes bytes) lost mid done = IsToldAt mid what a lost bytes × (done ≡ mid)
Gets what a (Answer.NoAnswer b) lost mid done = (b ≡ a) × AllLostAt mid a lost × (done ≡ mid)
Gets what a Answer.NoEnd lost mid done = AllLostAt mid a lost × AnyAt mid a × (done ≡ mid)
Gets what a Answer.Done lost mid done = ⊥

-- the bits of GETPID and its like: the code and a header, and after its ACK a word for each byte
abbrev pub get_bits : Datum → Option Entry → Answer → ℕ
get_bits what entry (Answer.NoAnswer b) = 18
get_bits what entry _ = 18 + 9 * told_length what entry
