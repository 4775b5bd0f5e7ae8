use Rattle.std.proofs.Common.{vec_len}
use Rattle.i3c_shared.proofs.port.spend_ports.Given as goal

abbrev pub decreases-loop-port : goal.decreases-loop-port
decreases-loop-port l = vec_len l.ports
