-- The slot holds what rests there, with its kinds.
use Rattle.std.specs.Option.{option_copied}
use Rattle.i3c_device.specs.Enabling.{kinds_of}
use Rattle.i3c_device.proofs.SeenLaws.{woken_seen}
use Rattle.i3c_device.proofs.devices.Devices.wake_at.Goals as goal

pub returns : goal.returns
returns c =
    woken_seen c.self.inside.enabled c.renewed-self-inside.result c.resting.inside.enabled c.self.inside.occupants c.wake_at.new.self c.args.self.now c.resting.inside.kept c.args.resting.now c.args.slot c.index-index.result
    (kinds_of c.at-kinds.result) (option_copied c.at.result) c.wake_at.ensures.slots c.index-index.ensures.in_range c.index-index.ensures.same c.renewed-self-inside.ensures c.self.view_is c.resting.view_is
    c.at-kinds.ensures c.at.ensures.place c.wake_at.ensures.put
