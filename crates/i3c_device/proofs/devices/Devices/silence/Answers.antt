use Rattle.std.proofs.Common.{option_map, refl}
use Rattle.i3c_base.specs.Round.{unhearing}
use Rattle.i3c_device.proofs.Blindness.{blind_end}
use Rattle.i3c_device.proofs.EachLaws.{end_spares}
use Rattle.i3c_device.proofs.SeenLaws.{spared_seen}
use Rattle.i3c_device.proofs.devices.Devices.silence.Goals as goal

pub returns : goal.returns
returns c =
    spared_seen c.self.inside.enabled (λ s place. option_map unhearing place) (λ d. d.hearing) c.marks.result.now.hearing c.self.inside.occupants c.each.new.self c.args.self.now c.marks.ensures.slots (λ kinds d. refl) blind_end
    c.marks.ensures.marks.hearing end_spares c.self.view_is c.each.ensures.changed
