use Rattle.i3c_tracks.proofs.OnePlan.{one_plan}
use Rattle.i3c_tracks.proofs.laws.files_have_one_plan.Goals as goal

pub returns : goal.returns
returns c = one_plan
