use Rattle.std.proofs.Common.{◌∙◌, ap, refl}
use Rattle.i3c_device.specs.Sets.{has}
use Rattle.i3c_device.proofs.SeenWalks.{kind_there}
use Rattle.i3c_device.proofs.devices.Devices.may_ask_role.Goals as goal

pub returns : goal.returns
returns c =
    c.has.ensures
    ∙ (ap (has c.and.result) c.index.ensures.same
    ∙ kind_there c.self.inside.enabled c.self.inside.occupants c.args.self.now (λ kinds. kinds.role) c.marks.result.now.present c.self.inside.enabled.roles c.and.result c.args.slot c.self.view_is c.marks.ensures.marks.present
    refl (c.and.ensures c.args.slot c.index.ensures.in_range) c.index.ensures.in_range)
