use Rattle.i3c_json.proofs.Found.{asides_told}
use Rattle.i3c_json.proofs.laws.told_objects_tell_asides.Goals as goal

pub returns : goal.returns
returns c = asides_told
