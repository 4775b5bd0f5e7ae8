-- The values of fields, as JSON data.
use Rattle.std.specs.Prelude.{ℕ, nat_lt, List, ◌++◌, codes, map, Option, Some, None, if◌then◌else◌}
use Rattle.std.specs.Fmt.{decimal}
use Rattle.serde_json.specs.Data.{Data, Members, boolean, null, number, object, string, unsigned, no_members, put}
use Rattle.i3c_base.specs.declared.identity.Identity.{Identity}
use Rattle.i3c_base.specs.declared.requests.Record.{Record}
use Rattle.i3c_base.specs.declared.requests.Request.{Request}
use Rattle.i3c_base.specs.declared.requests.Request.TheVariants.{Interrupt, Join, Role}
use Rattle.i3c_base.specs.declared.requests.Served.{Served}
use Rattle.i3c_lines.specs.declared.names.Name.{Name}
use Rattle.i3c_lines.specs.Naming.{letters}
use Rattle.i3c_script.specs.declared.piece.Description.{Description}
use Rattle.i3c_text.specs.Hex.{byte_text, hex_text}

-- a byte of a string: one that isn't ASCII is a question mark
abbrev pub ascii : ℕ → ℕ
ascii byte = if nat_lt byte 128 then byte else 63

abbrev pub text_data : List ℕ → Data
text_data text = string (map ascii text)

abbrev pub name_data : Name → Data
name_data name = text_data (letters name)

-- a byte or an address in hex digits, if there is one
abbrev pub byte_data : Option ℕ → Data
byte_data None = null
byte_data (Some byte) = text_data (byte_text byte)

-- the address of the active controller
abbrev pub active_data : Option ℕ → Data
active_data None = text_data (codes "--")
active_data (Some a) = text_data (byte_text a)

-- the words for the result of a frame's first request
abbrev pub served_words : Served → List ℕ
served_words Served.Quiet = codes "quiet"
served_words (Served.Recorded place) = codes "recorded " ++ decimal place
served_words Served.Refused = codes "turned down"
served_words Served.Torn = codes "torn"
served_words Served.Joining = codes "joining"
served_words (Served.WantsRole a) = codes "wants role " ++ byte_text a

-- a wish for the role or to join, if there is one
abbrev pub wish_data : Option Request → Data
wish_data None = null
wish_data (Some Join) = text_data (codes "join")
wish_data (Some (Role a)) = text_data (codes "role")
wish_data (Some (Interrupt a)) = null

-- a record with its number in the log
abbrev pub record_data : ℕ → Record → Data
record_data count recorded = object (put (codes "address") (text_data (byte_text recorded.at)) (put (codes "byte") (byte_data recorded.byte) (put (codes "number") (number (unsigned count)) (put (codes "raise") (number (unsigned recorded.number)) (put (codes "slot") (number (unsigned recorded.slot)) no_members)))))

-- an identity, over other members
abbrev pub put_identity : Identity → Members → Members
put_identity identity members =
    put (codes "bcr") (text_data (byte_text identity.bcr.0)) (put (codes "dcr") (text_data (byte_text identity.dcr.0)) (put (codes "pid") (text_data (hex_text 12 identity.pid)) members))

-- an address, and the identity that got it
abbrev pub assigned_data : ℕ → Identity → Data
assigned_data a identity = object (put (codes "address") (text_data (byte_text a)) (put_identity identity no_members))

-- a legacy target, and its static address
abbrev pub target_data : Name → ℕ → Data
target_data name a = object (put (codes "address") (text_data (byte_text a)) (put (codes "name") (name_data name) no_members))

-- a device that entered a slot, and its address, if it has one
abbrev pub entered_data : Name → ℕ → Option ℕ → Data
entered_data name slot address = object (put (codes "address") (byte_data address) (put (codes "name") (name_data name) (put (codes "slot") (number (unsigned slot)) no_members)))

-- a present device, its address, if it has one, and how many of its interrupts wait
abbrev pub device_data : Name → Option ℕ → ℕ → Data
device_data name address waiting = object (put (codes "address") (byte_data address) (put (codes "name") (name_data name) (put (codes "waiting") (number (unsigned waiting)) no_members)))

-- what a present device is: its identity, whether it may interrupt, join and ask for the role, and its wish
abbrev pub description_data : Description → Data
description_data device = object (put_identity device.identity (put (codes "interrupt") (boolean device.interrupt) (put (codes "join") (boolean device.join) (put (codes "name") (name_data device.name) (put (codes "role") (boolean device.role) (put (codes "wish") (wish_data device.wish) no_members))))))

-- the slot that was active while the records with these numbers were made
abbrev pub tenure_data : ℕ → ℕ → ℕ → Data
tenure_data slot from to = object (put (codes "from") (number (unsigned from)) (put (codes "slot") (number (unsigned slot)) (put (codes "to") (number (unsigned to)) no_members)))

-- the line whose expectation doesn't hold, and what is there instead
abbrev pub unmet_data : ℕ → List ℕ → Data
unmet_data line there = object (put (codes "line") (number (unsigned line)) (put (codes "there") (text_data there) no_members))
