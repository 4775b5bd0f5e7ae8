use Rattle.i3c_scene.proofs.Pairs.{each_pair}
use Rattle.i3c_scene.proofs.ways.each_is_a_pair.Goals as goal

pub returns : goal.returns
returns c = each_pair
