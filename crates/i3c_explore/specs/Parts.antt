-- Parts of all orders, by the first turns in one block.
use Rattle.std.specs.Prelude.{◌≡◌, ◌<◌, ◌+◌, ◌%◌, ◌==◌, ℕ, Bool, suc, List, [], ◌∷◌, length, min, nat_le, if◌then◌else◌}
use Rattle.std.specs.Global.{Vec}
use Rattle.i3c_explore.specs.declared.turn.Turn.{Turn}
use Rattle.i3c_explore.specs.Orders.{track}
use Rattle.i3c_explore.specs.Splits.{IsInPart}

-- one of several parts, counted from 0
pub record Part : Type 0 where
  pub index : ℕ
  pub of : ℕ

-- the one part that has every order
abbrev pub whole : Part
whole = record { index = 0; of = 1 }

-- whether orders of a part begin with a track's line
abbrev pub begins : Part → ℕ → Bool
begins part t = t % part.of == part.index

-- the lines of each track by which orders of a part begin
abbrev pub opening : {L : Type 0} → Part → List (Vec L) → ℕ → List L
opening part tracks t = if begins part t then track tracks t else []

-- the part by which the lines after `count` turns are chosen: behind the first turn each line goes
abbrev pub part_at : Part → ℕ → Part
part_at part count = if count == 0 then part else whole

-- the part of a block's orders: only those of block `split` are parted
abbrev pub block_part : Part → ℕ → ℕ → Part
block_part part split index = if index == split then part else whole

-- a track of a block has a line
abbrev pub HasLine : {L : Type 0} → List (Vec L) → Type 0
HasLine tracks = (t : ℕ) × (0 < length (track tracks t))

-- how many tracks of a block have a line
abbrev pub busy : {L : Type 0} → List (Vec L) → ℕ
busy [] = 0
busy (track ∷ rest) = min (length track.items) 1 + busy rest

-- the number of blocks before the first in which two tracks have a line: by this one orders are parted
abbrev pub fork : {L : Type 0} → List (Vec (Vec L)) → ℕ
fork [] = 0
fork (tracks ∷ rest) = if nat_le 2 (busy tracks.items) then 0 else suc (fork rest)

-- a part has an order: where no block is parted, the first part has the one order
abbrev pub HasOrder : {L : Type 0} → Part → List (Vec (Vec L)) → Type 0
HasOrder part blocks = fork blocks ≡ length blocks → part.index ≡ 0

-- a course begins in a part: its order of block `split` does, if it has one
abbrev pub BeginsIn : Part → ℕ → List (List Turn) → Type 0
BeginsIn part split [] = Unit {0}
BeginsIn part split (order ∷ before) = BeginsIn part split before × (length before ≡ split → IsInPart part.index part.of order)

-- a course is of a part: it begins there in the first block in which two tracks have a line. Where there is none, it is of the first part
abbrev pub IsOfPart : {L : Type 0} → Part → List (Vec (Vec L)) → List (List Turn) → Type 0
IsOfPart part blocks course = BeginsIn part (fork blocks) course × HasOrder part blocks
