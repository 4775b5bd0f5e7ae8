use Rattle.i3c_json.proofs.Found.{outcomes_told}
use Rattle.i3c_json.proofs.laws.objects_tell_outcomes.Goals as goal

pub returns : goal.returns
returns c = outcomes_told
