-- If none of these slots is a driver, there is no driver; otherwise the lowest has a front.
use Rattle.std.proofs.Common.{sym, ◌∙◌}
use Rattle.std.proofs.lemmas.Bool.{both_ways}
use Rattle.i3c_base.specs.declared.requests.Request.TheVariants.{Interrupt}
use Rattle.i3c_base.specs.State.{with_active}
use Rattle.i3c_device.proofs.FirstLaws.{driven_below}
use Rattle.i3c_ibi.proofs.ReadingLaws.{front_held}
use Rattle.i3c_ibi.proofs.readings.lowest_front.Goals as goal

pub returns-in_err-slot : goal.returns-in_err-slot
returns-in_err-slot c = rw c.from_residual.ensures (λ at d.
    let low = driven_below (with_active c.args.devices.now d.active) d.driven.0 (Interrupt at) d.long d.driven.1 in
    both_ways _ (c.in_err-slot.ensures d.driven.0 low) (d.are d.driven.0 low ∙ d.driven.1))

pub returns : goal.returns
returns c = (c.in_ok-slot.ensures, front_held _ c.in_ok-front.front (sym c.in_ok-front.ensures))
