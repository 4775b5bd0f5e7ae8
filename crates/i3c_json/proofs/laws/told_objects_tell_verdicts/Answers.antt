use Rattle.i3c_json.proofs.Found.{verdicts_told}
use Rattle.i3c_json.proofs.laws.told_objects_tell_verdicts.Goals as goal

pub returns : goal.returns
returns c = verdicts_told
