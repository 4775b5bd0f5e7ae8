-- A late cut loses nobody, so it is as none.
use Rattle.std.proofs.Common.{subst, sym}
use Rattle.i3c_base.specs.Cutting.{CutList}
use Rattle.i3c_step.specs.declared.events.Event.{Event}
use Rattle.i3c_step.specs.Step.{Step}
use Rattle.i3c_step.specs.LateCuts.{most_bits}
use Rattle.i3c_step.proofs.LateCuts.{alike_back, and_cut, late_alike}
use Rattle.i3c_step.proofs.LateSteps.{each_alike, recut_same, step_alike}
use Rattle.i3c_step.proofs.laws.late_cuts_do_nothing.Goals as goal

pub returns : goal.returns
returns c old event reply new s bit other late =
    let same : CutList → CutList = λ cuts. cuts in
    let alike = λ (cuts : CutList). late_alike old cuts s bit (most_bits old event) other late in (
      λ h. step_alike old event same (and_cut s bit) reply new (each_alike old event same (and_cut s bit) alike) (subst (λ (e : Event). Step old e reply new) (sym (recut_same event)) h),
      λ h. subst (λ (e : Event). Step old e reply new) (recut_same event)
          (step_alike old event (and_cut s bit) same reply new (each_alike old event (and_cut s bit) same (λ cuts. alike_back old (most_bits old event) cuts (and_cut s bit cuts) (alike cuts))) h),
    )
