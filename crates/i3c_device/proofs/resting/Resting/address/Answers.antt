use Rattle.std.proofs.Common.{◌∙◌, ap, sym}
use Rattle.std.specs.Option.{option_copied}
use Rattle.i3c_device.specs.Holding.{address_in}
use Rattle.i3c_device.proofs.SeenWalks.{asked_seen, address_alike}
use Rattle.i3c_device.proofs.resting.Resting.address.Goals as goal

pub returns-in-Some : goal.returns-in-Some
returns-in-Some c =
    c.address.ensures
    ∙ (ap address_in (sym (ap option_copied c.in-Some.is) ∙ c.at.ensures.place) ∙ sym (asked_seen address_in c.self.inside.enabled c.self.inside.kept c.args.self.now c.args.slot c.self.view_is address_alike))

pub returns-in-None : goal.returns-in-None
returns-in-None c =
    ap address_in (sym (ap option_copied c.in-None.is) ∙ c.at.ensures.place) ∙ sym (asked_seen address_in c.self.inside.enabled c.self.inside.kept c.args.self.now c.args.slot c.self.view_is address_alike)
