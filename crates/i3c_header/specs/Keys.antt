-- What requests drive into an arbitrable header, and which of them is first.
use Rattle.std.specs.Prelude.{ℕ, ◌≤◌, Bool, true, false, List, All, Contains}
use Rattle.i3c_base.specs.declared.requests.Request.{Request}
use Rattle.i3c_base.specs.declared.requests.Request.TheVariants.{Join, Role, Interrupt}
use Rattle.i3c_base.specs.Serve.{rank}

-- the address that a request drives: 02 for a join, and its own otherwise
abbrev pub address_of : Request → ℕ
address_of Join = 0x02
address_of (Role a) = a
address_of (Interrupt a) = a

-- the RnW bit of a request: an interrupt drives a read, a join and a role request a write
abbrev pub rnw_of : Request → ℕ
rnw_of Join = 0
rnw_of (Role a) = 0
rnw_of (Interrupt a) = 1

-- the request is driven as a read
abbrev pub is_read : Request → Bool
is_read Join = false
is_read (Role a) = false
is_read (Interrupt a) = true

-- a request that a device may drive: a join, or one at an address from 08
abbrev pub IsLawful : Request → Type 0
IsLawful Join = Unit {0}
IsLawful (Role a) = 0x08 ≤ a
IsLawful (Interrupt a) = 0x08 ≤ a

-- r is one of the requests, and none of them comes before it
abbrev pub IsFirstOf : List Request → Request → Type 0
IsFirstOf requests r = Contains requests r × All (λ q. rank r ≤ rank q) requests
