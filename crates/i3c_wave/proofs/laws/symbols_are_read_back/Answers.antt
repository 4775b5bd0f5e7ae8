use Rattle.i3c_wave.proofs.ReadBack.{read_back}
use Rattle.i3c_wave.proofs.laws.symbols_are_read_back.Goals as goal

pub returns : goal.returns
returns c legacies symbols wire = read_back legacies symbols wire
