-- What a trace shows of addresses: their owners, and the addresses that didn't answer.
use Rattle.std.specs.Prelude.{ℕ, ◌/◌, ◌==◌, ◌||◌, Bool, true, false, List, [], ◌∷◌, drop, Option, Some, None, replicate, slice_get, slice_set, if◌then◌else◌}
use Rattle.i3c_base.specs.declared.requests.Request.{Request}
use Rattle.i3c_deftgts.specs.declared.entries.Entry.{Entry}
use Rattle.i3c_deftgts.specs.declared.faults.ListFault.{ListFault}
use Rattle.i3c_deftgts.specs.Entries.{address_of}
use Rattle.i3c_deftgts.specs.Layout.{bytes}
use Rattle.i3c_deftgts.specs.Reading.{entries_in, first_fault}
use Rattle.i3c_frame.specs.declared.symbols.Symbol.{Symbol}
use Rattle.i3c_monitor.specs.declared.decoded.Decoded.{Decoded}
use Rattle.i3c_monitor.specs.declared.decoded.Direct.{Direct}
use Rattle.i3c_monitor.specs.declared.address_statuses.AddressStatuses.{AddressStatuses}
use Rattle.i3c_monitor.specs.declared.address_statuses.Owner.{Owner}
use Rattle.i3c_monitor.specs.declared.address_statuses.Status.{Status}
use Rattle.i3c_monitor.specs.Due.{words_in}

-- an address without anything known
abbrev pub nobodys : Status
nobodys = record { owner = Owner.Nobody; silent = None }

-- as many of them as there are addresses
unfoldable pub all_nobodys : List Status
all_nobodys = replicate 128 nobodys

-- the trace doesn't show the owners of addresses
abbrev pub forgotten : AddressStatuses
forgotten = record { shown = false; statuses = all_nobodys }

-- nothing is known any more, if a frame couldn't be read
abbrev pub unless_unread : Bool → AddressStatuses → AddressStatuses
unless_unread true known = forgotten
unless_unread false known = known

-- the trace shows that no address has an owner
abbrev pub cleared : AddressStatuses
cleared = record { shown = true; statuses = all_nobodys }

-- the status, where there is one
abbrev pub status_in : Option Status → Status
status_in None = nobodys
status_in (Some status) = status

-- what is known of an address
abbrev pub status_of : ℕ → AddressStatuses → Status
status_of a known = status_in (slice_get known.statuses a)

-- this is known of it from here on
abbrev pub with_status : ℕ → Status → AddressStatuses → AddressStatuses
with_status a status known = record { shown = known.shown; statuses = slice_set known.statuses a status }

-- a round gave the address to this identity
abbrev pub given : ℕ → ℕ → AddressStatuses → AddressStatuses
given a identity known = with_status a (record { owner = Owner.Given identity; silent = None }) known

-- the address didn't answer, by the header of this number
abbrev pub silenced : ℕ → ℕ → AddressStatuses → AddressStatuses
silenced a symbol known = with_status a (record { owner = (status_of a known).owner; silent = Some symbol }) known

-- the address answered, or asked
abbrev pub heard : ℕ → AddressStatuses → AddressStatuses
heard a known = with_status a (record { owner = (status_of a known).owner; silent = None }) known

-- the owner of an address that is shown to have one: the one that was given it, or somebody
abbrev pub some_owner : Owner → Owner
some_owner Owner.Nobody = Owner.Somebody
some_owner Owner.Somebody = Owner.Somebody
some_owner (Owner.Given identity) = Owner.Given identity

-- SETDASA gave the address: to which identity isn't shown
abbrev pub given_to_somebody : ℕ → AddressStatuses → AddressStatuses
given_to_somebody a known = with_status a (record { owner = Owner.Somebody; silent = None }) known

-- SETNEWDA gave the owner of the address `old` a new one
abbrev pub moved : ℕ → ℕ → AddressStatuses → AddressStatuses
moved old new known = with_status new (record { owner = some_owner (status_of old known).owner; silent = None }) (with_status old nobodys known)

-- a list names the address
abbrev pub listed : ℕ → AddressStatuses → AddressStatuses
listed a known = with_status a (record { owner = some_owner (status_of a known).owner; silent = (status_of a known).silent }) known

-- a list has these entries
abbrev pub all_listed : List (Option Entry) → AddressStatuses → AddressStatuses
all_listed [] known = known
all_listed (None ∷ rest) known = all_listed rest known
all_listed (Some entry ∷ rest) known = all_listed rest (listed (address_of entry) known)

-- a list without a fault names all that have an address
abbrev pub list_read : Option ListFault → List (Option Entry) → AddressStatuses → AddressStatuses
list_read None entries known = all_listed entries (record { shown = true; statuses = known.statuses })
list_read (Some fault) entries known = known

-- the words behind a code are a list
abbrev pub list_shown : List Symbol → AddressStatuses → AddressStatuses
list_shown symbols known =
    let words = words_in (drop 1 symbols) in
    list_read (first_fault words) (entries_in (bytes words)) known

-- the codes of SETAASA, RSTACT, RSTDAA to one target, SETBRGTGT and SETGRPA, after which addresses may be others'
abbrev pub moves_addresses : ℕ → Bool
moves_addresses byte =
    (byte == 0x29) || (byte == 0x2A) || (byte == 0x86) || (byte == 0x93) || (byte == 0x9A) || (byte == 0x9B)

-- the dynamic address in a header of a command to one target: SETDASA's is a static one
abbrev pub dynamic_in : Direct → ℕ → Option ℕ
dynamic_in Direct.Setdasa a = None
dynamic_in command a = Some a

-- the dynamic address of a target that answered, or asked
abbrev pub present : Decoded → Option ℕ
present (Decoded.Transfer a read (Some span)) = Some a
present (Decoded.Get what a (Some span)) = Some a
present (Decoded.SetLengthDirect way a (Some bytes)) = Some a
present (Decoded.Single command a (Some byte)) = dynamic_in command a
present (Decoded.Request (Request.Interrupt a) accepted byte) = Some a
present (Decoded.Request (Request.Role a) accepted byte) = Some a
present _ = None

-- the address of a target that had to answer and didn't: a target may decline the role
abbrev pub absent : Decoded → Option ℕ
absent (Decoded.Transfer a read None) = Some a
absent (Decoded.Get what a None) = Some a
absent (Decoded.SetLengthDirect way a None) = Some a
absent (Decoded.Single Direct.Enec a None) = Some a
absent (Decoded.Single Direct.Disec a None) = Some a
absent (Decoded.Single Direct.Setnewda a None) = Some a
absent _ = None

-- what is known after an address answered
abbrev pub after_present : Option ℕ → AddressStatuses → AddressStatuses
after_present None known = known
after_present (Some a) known = heard a known

-- what is known after an address didn't answer, if one didn't
abbrev pub after_absent : ℕ → Option ℕ → AddressStatuses → AddressStatuses
after_absent symbol None known = known
after_absent symbol (Some a) known = silenced a symbol known

-- what is known after a header, of this number, with these symbols behind it. What a refused frame did isn't known
abbrev pub learned : ℕ → List Symbol → Decoded → AddressStatuses → AddressStatuses
learned symbol behind Decoded.Rstdaa known = cleared
learned symbol behind (Decoded.Deftgts count) known = list_shown behind known
learned symbol behind (Decoded.Other byte) known = if moves_addresses byte then forgotten else known
learned symbol behind (Decoded.Refused fault) known = forgotten
learned symbol behind (Decoded.Round identity byte true) known = given (byte / 2) identity known
learned symbol behind (Decoded.Single Direct.Setdasa a (Some byte)) known = given_to_somebody (byte / 2) known
learned symbol behind (Decoded.Single Direct.Setnewda a (Some byte)) known = moved a (byte / 2) known
learned symbol behind decoded known = after_absent symbol (absent decoded) (after_present (present decoded) known)

-- the same without a decoded part
abbrev pub learned_of : ℕ → List Symbol → Option Decoded → AddressStatuses → AddressStatuses
learned_of symbol behind None known = known
learned_of symbol behind (Some decoded) known = learned symbol behind decoded known
