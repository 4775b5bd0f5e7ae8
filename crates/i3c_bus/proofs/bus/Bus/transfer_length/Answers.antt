-- How many bytes a transfer may have is so of the bus.
use Rattle.std.proofs.Common.{ap, sym}
use Rattle.i3c_base.specs.State.{Held}
use Rattle.i3c_bus.proofs.Seen.{has_devices}
use Rattle.i3c_bus.proofs.bus.Bus.transfer_length.Goals as goal

pub returns : goal.returns
returns c = c.transfer_length.ensures c.args.self.now.state (has_devices _ _ _ c.self.view_is c.active.ensures) (ap (λ (h : Held). h.state.legacy) (sym c.self.view_is))
