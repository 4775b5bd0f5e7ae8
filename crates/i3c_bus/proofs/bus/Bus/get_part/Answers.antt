-- What was told is told.
use Rattle.std.proofs.Common.{◌+◌, subst, sym}
use Rattle.i3c_base.specs.State.{HasDevices}
use Rattle.i3c_xfer.specs.Getting.{IsToldAs}
use Rattle.i3c_bus.proofs.Seen.{has_devices}
use Rattle.i3c_bus.proofs.bus.Bus.get_part.Goals as goal

pub returns-clause-told : goal.returns-clause-told
returns-clause-told g c =
    let st = c.args.self.now.state in
    let same : HasDevices st c.self.inside.devices c.active-active.result = has_devices _ _ _ c.self.view_is c.active-active.ensures in (
      c.tell_get.ensures.0,
      c.tell_get.ensures.1,
      (
        c.get-told.result,
        sym c.answer-answer.ensures,
        c.get-told.ensures.acknowledged st same,
        subst (λ count. IsToldAs st c.args.what count c.args.from c.args.cuts.now (c.args.bits_before + 19) c.get-told.result) c.datum_length-count.ensures.same (c.get-told.ensures.told st same),
        c.tell_get.ensures.2,
      ),
    )
