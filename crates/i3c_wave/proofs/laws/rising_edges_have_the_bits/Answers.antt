use Rattle.i3c_wave.proofs.LevelLaws.{symbol_edges}
use Rattle.i3c_wave.proofs.laws.rising_edges_have_the_bits.Goals as goal

pub returns : goal.returns
returns c before symbol has = symbol_edges before symbol has
