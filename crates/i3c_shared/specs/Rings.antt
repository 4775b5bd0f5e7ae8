-- The rings of the ports that are out: looking into them, and taking what was seen.
use Rattle.std.specs.Prelude.{◌≡◌, ℕ, zero, suc, ◌≤◌, List, [], ◌++◌, length, map, slice_index_or, slice_set, Bool, Option, Some, None, is_some}
use mathlib.Core.List.{IsPrefix}
use Rattle.rtrb.specs.Ring.{ConsumerLooked, IsPair, SameConsumer, consumer_capacity, known_items, received, sent}
use Rattle.i3c_step.specs.declared.events.Event.{Event}
use Rattle.i3c_recorder.specs.declared.entry.Entry.{Entry}
use Rattle.i3c_shared.specs.declared.port.TheConstants.{POSTS}
use Rattle.i3c_shared.specs.Raises.{raises_of}
use Rattle.i3c_shared.specs.Values.{PortValue, Reading, Rings}

-- the ring of a slot's port
abbrev pub ring_at : Rings → ℕ → Option Reading
ring_at rings s = slice_index_or rings s None

-- the slot's port is out
abbrev pub is_out : Rings → ℕ → Bool
is_out rings s = is_some (ring_at rings s)

-- the slot's port goes out, with this ring
abbrev pub put_out : ℕ → Reading → Rings → Rings
put_out s ring rings = slice_set rings s (Some ring)

-- the slot's port has come back
abbrev pub taken_in : ℕ → Rings → Rings
taken_in s rings = slice_set rings s None

-- nothing was taken, and more may be known to be there
abbrev pub HasLooked : Option Reading → Option Reading → Type 0
HasLooked None new = new ≡ None
HasLooked (Some c) None = ⊥
HasLooked (Some c) (Some d) = ConsumerLooked c d

abbrev pub AllLooked : Rings → Rings → Type 0
AllLooked old new = (length new ≡ length old) × ((s : ℕ) → HasLooked (ring_at old s) (ring_at new s))

-- all that was known to be there is taken
abbrev pub HasDrained : Option Reading → Option Reading → Type 0
HasDrained None new = new ≡ None
HasDrained (Some c) None = ⊥
HasDrained (Some c) (Some d) = SameConsumer c d × (received d ≡ received c ++ known_items c) × (known_items d ≡ [])

abbrev pub AllDrained : Rings → Rings → Type 0
AllDrained old new = (length new ≡ length old) × ((s : ℕ) → HasDrained (ring_at old s) (ring_at new s))

-- the posts that are known to be in a ring
abbrev pub known_of : Option Reading → List (Option ℕ)
known_of None = []
known_of (Some c) = known_items c

-- no ring has more than a port may have untaken
abbrev pub AllFew : Rings → Type 0
AllFew rings = (s : ℕ) → length (known_of (ring_at rings s)) ≤ POSTS

-- the raises that the posts of one slot become
abbrev pub raises_at : ℕ → List (Option ℕ) → List Event
raises_at s posts = map (λ byte. Event.Raise s byte) posts

-- the raises that the posts of the first n slots become, in the order of the slots
abbrev pub raises_below : ℕ → Rings → List Event
raises_below zero rings = []
raises_below (suc n) rings = raises_below n rings ++ raises_at n (known_of (ring_at rings n))

-- the raises of the posts known in all slots' rings
abbrev pub raises_in : Rings → List Event
raises_in rings = raises_below (length rings) rings

-- what was received from the ring of a port that is out are the bytes of its raises
abbrev pub Fits : Rings → List Entry → Type 0
Fits rings run = (s : ℕ) (c : Reading) → ring_at rings s ≡ Some c → (received c ≡ raises_of s run) × (consumer_capacity c ≡ POSTS)

-- the ring is the other end of the port's
abbrev pub IsEndOf : PortValue → Option Reading → Type 0
IsEndOf p None = ⊥
IsEndOf p (Some c) = IsPair p.producer c

-- the ring is the port's own, and the items taken and known are all posts
abbrev pub IsWhole : PortValue → Option Reading → Type 0
IsWhole p None = ⊥
IsWhole p (Some c) = received c ++ known_items c ≡ sent p.producer

-- what was taken and what is known was posted first
abbrev pub IsBegun : PortValue → Option Reading → Type 0
IsBegun p None = ⊥
IsBegun p (Some c) = IsPrefix (received c ++ known_items c) (sent p.producer)
