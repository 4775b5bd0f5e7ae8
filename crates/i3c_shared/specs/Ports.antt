-- Ports that are out, and those that are handed in.
use Rattle.std.specs.Prelude.{◌≡◌, ℕ, ◌<◌, true, List, length, slice_get, Some}
use mathlib.Core.List.{IsPrefix}
use Rattle.rtrb.specs.Ring.{ProducerLooked, sent}
use Rattle.i3c_shared.specs.Raises.{raises_of}
use Rattle.i3c_recorder.specs.declared.entry.Entry.{Entry}
use Rattle.i3c_shared.specs.Rings.{IsBegun, IsEndOf, IsWhole, is_out, ring_at}
use Rattle.i3c_shared.specs.Values.{PortValue, Rings}

-- a port that comes back: of the same slot and ring, with the same posts
pub record SamePort (old new : PortValue) : Type 0 where
  pub slot : new.slot ≡ old.slot
  pub looked : ProducerLooked old.producer new.producer

-- this port is at place k of these
abbrev pub IsAt : List PortValue → ℕ → PortValue → Type 0
IsAt ports k p = slice_get ports k ≡ Some p

-- a port of the slot is among these
abbrev pub HasPort : List PortValue → ℕ → Type 0
HasPort ports s = (k : ℕ) × (p : PortValue) × IsAt ports k p × (p.slot ≡ s)

-- the slot's port is out, and not among these
abbrev pub IsMissing : Rings → List PortValue → ℕ → Type 0
IsMissing rings ports s = (is_out rings s ≡ true) × ¬ HasPort ports s

abbrev pub NoneMissing : Rings → List PortValue → Type 0
NoneMissing rings ports = (s : ℕ) → ¬ IsMissing rings ports s

-- the lowest missing slot
abbrev pub IsFirstMissing : Rings → List PortValue → ℕ → Type 0
IsFirstMissing rings ports s = IsMissing rings ports s × ((t : ℕ) → t < s → ¬ IsMissing rings ports t)

-- ports that come back, in their order
pub record SamePorts (old new : List PortValue) : Type 0 where
  pub count : length new ≡ length old
  pub each : (k : ℕ) (p q : PortValue) → IsAt old k p → IsAt new k q → SamePort p q

-- all that was posted is known of the ring of each of these ports, if this ring is its own
abbrev pub AllCovered : Rings → List PortValue → Type 0
AllCovered rings ports = (k : ℕ) (p : PortValue) → IsAt ports k p → IsEndOf p (ring_at rings p.slot) → IsWhole p (ring_at rings p.slot)

-- the same, after a look into the rings
abbrev pub AllWhole : Rings → Rings → List PortValue → Type 0
AllWhole old new ports = (k : ℕ) (p : PortValue) → IsAt ports k p → IsEndOf p (ring_at old p.slot) → IsWhole p (ring_at new p.slot)

-- the raises of each of these ports, if its ring was here, are all that it posted
abbrev pub AllPosted : Rings → List PortValue → List Entry → Type 0
AllPosted rings ports run = (k : ℕ) (p : PortValue) → IsAt ports k p → IsEndOf p (ring_at rings p.slot) → raises_of p.slot run ≡ sent p.producer

-- the items taken from and known in the ring of each of these ports, if this ring is its own, were posted first
abbrev pub AllBegun : Rings → List PortValue → Type 0
AllBegun rings ports = (k : ℕ) (p : PortValue) → IsAt ports k p → IsEndOf p (ring_at rings p.slot) → IsBegun p (ring_at rings p.slot)

-- the raises of each of these ports, if its ring was here, are the first of its posts, in order
abbrev pub AllPostedFirst : Rings → List PortValue → List Entry → Type 0
AllPostedFirst rings ports run = (k : ℕ) (p : PortValue) → IsAt ports k p → IsEndOf p (ring_at rings p.slot) → IsPrefix (raises_of p.slot run) (sent p.producer)
