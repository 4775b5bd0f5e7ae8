use Rattle.i3c_wave.proofs.ClockLaws.{frames_clocked}
use Rattle.i3c_wave.proofs.clock_laws.frames_have_the_bits_in_order.Goals as goal

pub returns : goal.returns
returns c inside sda symbols framed = frames_clocked inside sda symbols framed
