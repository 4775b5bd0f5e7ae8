-- A bus that was just made.
use Rattle.std.specs.Prelude.{◌≡◌, [], replicate, None}
use Rattle.rtrb.specs.Ring.{IsPair, sent}
use Rattle.i3c_base.specs.declared.range.TheConstants.{SLOTS}
use Rattle.i3c_base.specs.declared.device.Setup.{Setup}
use Rattle.i3c_base.specs.State.{Board, IsStart}
use Rattle.i3c_shared.specs.Rings.{put_out}
use Rattle.i3c_shared.specs.Values.{HeldValue, KeptValue, PortValue, Reading, Rings}

-- no port is out
unfoldable pub no_rings : Rings
no_rings = replicate SLOTS None

-- the main controller's port is out, with the other end of the ring and nothing posted, its role is held, and the run is empty
pub record IsMade (main : Setup) (board : Board) (kept : KeptValue) (role : HeldValue) (port : PortValue) : Type 0 where
  pub start : IsStart main board kept.log.start
  pub state : kept.log.state ≡ kept.log.start
  pub run : kept.log.run ≡ []
  pub ring : Reading
  pub rings : kept.log.rings ≡ put_out 0 ring no_rings
  pub pair : IsPair port.producer ring
  pub slot : port.slot ≡ 0
  pub fresh : sent port.producer ≡ []
  pub held : role ≡ record { holder = 0; frames = 0 }
  pub parked : kept.parked ≡ None
