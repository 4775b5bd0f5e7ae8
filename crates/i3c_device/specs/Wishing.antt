-- What a device wishes for, whether or not that kind is enabled.
use Rattle.std.specs.Prelude.{ℕ, ◌+◌, ◌*◌, ◌/◌, ◌%◌, ◌==◌, if◌then◌else◌, Bool, true, false, not, ◌&&◌, ◌||◌, is_none, is_some, Option, Some, None}
use Rattle.i3c_base.specs.declared.requests.Request.{Request}
use Rattle.i3c_base.specs.declared.requests.Request.TheVariants.{Interrupt, Join, Role}
use Rattle.i3c_base.specs.Numbers.{KindSet}
use Rattle.i3c_base.specs.Serve.{is_empty}
use Rattle.i3c_base.specs.State.{Device}

-- the device wishes to join, and has no address
abbrev pub wishes_join : Device → Bool
wishes_join d = is_none d.address && d.join_wish

-- the device wishes for the role, and has an address
abbrev pub wishes_role : Device → Bool
wishes_role d = is_some d.address && d.role_wish

-- the device wishes to interrupt, has an address, and doesn't wish for the role
abbrev pub wishes_interrupt : Device → Bool
wishes_interrupt d = is_some d.address && (not d.role_wish && not (is_empty d.waiting))

-- the device drives a request: it wishes for something, and that kind is enabled
abbrev pub asks_some : Device → Bool
asks_some d = (wishes_join d && d.kinds.join) || ((wishes_role d && d.kinds.role) || (wishes_interrupt d && d.kinds.interrupt))

-- the key of the request that a device drives when it drives one, by its address and whether it wishes for the role
abbrev pub key_of : Option ℕ → Bool → ℕ
key_of None role = 4
key_of (Some a) true = 2 * a
key_of (Some a) false = 2 * a + 1

-- the request with a key: 04 is a join's, and of the others the even ones are role requests
abbrev pub request_of : ℕ → Request
request_of key = if key == 4 then Join else (if key % 2 == 0 then Role (key / 2) else Interrupt (key / 2))

-- the request that a device with this address chooses, if it wishes for anything: a join without an address, otherwise the
-- role request before the interrupt
abbrev pub choice_of : Option ℕ → Device → Option Request
choice_of None d = if d.join_wish then Some Join else None
choice_of (Some a) d = if d.role_wish then Some (Role a) else (if is_empty d.waiting then None else Some (Interrupt a))

-- the kind of a request is one of these
abbrev pub has_kind : KindSet → Request → Bool
has_kind kinds Join = kinds.join
has_kind kinds (Role a) = kinds.role
has_kind kinds (Interrupt a) = kinds.interrupt
