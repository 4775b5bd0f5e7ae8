use Rattle.i3c_wave.proofs.ClockLaws.{answer_first, numbered_on}
use Rattle.i3c_wave.proofs.clock_laws.bits_have_their_numbers.Goals as goal

pub returns : goal.returns
returns c inside sda first address read ack rest none framed =
    (answer_first inside sda first address read ack rest none framed, numbered_on inside sda first address read ack rest none framed)
