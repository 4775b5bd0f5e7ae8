-- Neither of two late cuts loses anybody.
use Rattle.i3c_step.specs.LateCuts.{most_bits}
use Rattle.i3c_step.proofs.LateCuts.{and_cut, both_alike}
use Rattle.i3c_step.proofs.LateSteps.{each_alike, step_alike}
use Rattle.i3c_step.proofs.laws.late_cuts_are_alike.Goals as goal

pub returns : goal.returns
returns c old event reply new s bit other late later = (
  λ h. step_alike old event (and_cut s bit) (and_cut s other) reply new
      (each_alike old event (and_cut s bit) (and_cut s other) (λ cuts. both_alike old cuts s bit other (most_bits old event) late later)) h,
  λ h. step_alike old event (and_cut s other) (and_cut s bit) reply new
      (each_alike old event (and_cut s other) (and_cut s bit) (λ cuts. both_alike old cuts s other bit (most_bits old event) later late)) h,
)
