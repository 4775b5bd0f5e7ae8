use Rattle.std.proofs.Common.{option_map, refl, true}
use Rattle.i3c_base.specs.Frames.{written_at}
use Rattle.i3c_device.proofs.Blindness.{blind_write}
use Rattle.i3c_device.proofs.ReadLaws.{write_spares}
use Rattle.i3c_device.proofs.SeenLaws.{spared_seen}
use Rattle.i3c_device.proofs.devices.Devices.write.Goals as goal

pub returns : goal.returns
returns c =
    spared_seen c.self.inside.enabled (λ s place. option_map (written_at c.args.active c.args.address c.args.bytes.now s) place) (λ d. true) c.marks.result.now.present c.self.inside.occupants c.each.new.self c.args.self.now c.marks.ensures.slots
    (λ kinds d. refl) (blind_write c.args.active c.args.address c.args.bytes.now) c.marks.ensures.marks.present (write_spares c.args.active c.args.address c.args.bytes.now) c.self.view_is c.each.ensures.changed
