use Rattle.std.proofs.Common.{is_none, option_map, refl}
use Rattle.i3c_base.specs.Round.{hears}
use Rattle.i3c_device.proofs.Blindness.{blind_opening}
use Rattle.i3c_device.proofs.EachLaws.{open_spares}
use Rattle.i3c_device.proofs.SeenLaws.{spared_seen}
use Rattle.i3c_device.proofs.devices.Devices.open.Goals as goal

pub returns : goal.returns
returns c =
    spared_seen c.self.inside.enabled (λ s place. option_map hears place) (λ d. is_none d.address) c.marks.result.now.unaddressed c.self.inside.occupants c.each.new.self c.args.self.now c.marks.ensures.slots (λ kinds d. refl)
    blind_opening c.marks.ensures.marks.unaddressed open_spares c.self.view_is c.each.ensures.changed
