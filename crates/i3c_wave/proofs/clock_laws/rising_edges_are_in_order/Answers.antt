use Rattle.i3c_wave.proofs.ClockLaws.{wire_risen}
use Rattle.i3c_wave.proofs.clock_laws.rising_edges_are_in_order.Goals as goal

pub returns : goal.returns
returns c sda symbols = wire_risen sda symbols
