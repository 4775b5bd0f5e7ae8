use Rattle.std.proofs.Common.{◌≡◌, ◌∙◌, ap, suc, get_or, set, None, Some, MatchResult, option_map}
use Rattle.i3c_device.specs.Enabling.{seen}
use Rattle.i3c_device.specs.Sets.{has}
use Rattle.i3c_device.proofs.Blindness.{blind_raise}
use Rattle.i3c_device.proofs.SeenLaws.{updated_seen}
use Rattle.i3c_device.proofs.SeenWalks.{fault_seen, on_ok, there_seen}
use Rattle.i3c_device.proofs.devices.Devices.raise.Goals as goal
use Rattle.i3c_base.specs.Local.{with_raise}

pub raise-requires : goal.raise-requires
raise-requires c = there_seen c.self.inside.enabled c.self.inside.occupants c.args.self.now c.args.slot c.self.view_is c.requires

pub returns-clause-fault : goal.returns-clause-fault
returns-clause-fault c =
    fault_seen c.self.inside.enabled c.self.inside.occupants c.args.self.now c.args.slot c.has-enabled.result c.args.byte c.args.raised
    (λ o. MatchResult c.raise.result (λ number. (number ≡ suc c.args.raised) × (o ≡ None)) (λ fault. o ≡ Some fault)) c.self.view_is
    (c.has-enabled.ensures ∙ ap (has c.self.inside.enabled.interrupts) c.index.ensures.same) c.raise.ensures.fault

pub returns-clause-raised : goal.returns-clause-raised
returns-clause-raised c =
    let f = with_raise (suc c.args.raised) c.args.byte in
    on_ok c.raise.result (c.raise.new.self ≡ set c.self.inside.occupants c.args.slot (option_map f (get_or c.self.inside.occupants c.args.slot None)))
    (seen c.self.inside.enabled c.raise.new.self ≡ set c.args.self.now c.args.slot (option_map f (get_or c.args.self.now c.args.slot None)))
    (updated_seen c.self.inside.enabled (λ s place. option_map f place) c.self.inside.occupants c.raise.new.self c.args.self.now c.args.slot (blind_raise (suc c.args.raised) c.args.byte) c.self.view_is) c.raise.ensures.raised
