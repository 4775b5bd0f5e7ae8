use Rattle.std.proofs.Common.{◌≡◌, ℕ, ◌∙◌, if◌then◌else◌, ap, get_or, List, Option, None, option_map, sym}
use Rattle.i3c_base.specs.declared.requests.Request.{Request}
use Rattle.i3c_base.specs.declared.requests.Request.TheVariants.{Interrupt}
use Rattle.i3c_base.specs.Places.{changed}
use Rattle.i3c_base.specs.Serve.{drives_in, each_driver_in, without, without_front}
use Rattle.i3c_base.specs.State.{Device, Population}
use Rattle.i3c_device.specs.Finding.{within}
use Rattle.i3c_device.specs.Walks.{taken_from}
use Rattle.i3c_device.proofs.Blindness.{blind_accept}
use Rattle.i3c_device.proofs.EachLaws.{accepted_alike}
use Rattle.i3c_device.proofs.SeenLaws.{narrowed_seen}
use Rattle.i3c_device.proofs.devices.Devices.accept.Goals as goal

-- the effect on the device in a slot
abbrev of_driver : Population → Request → ℕ → Option Device → Option Device
of_driver all r s place = option_map (λ d. if drives_in all r s then without r d else d) place

of_all : (all : Population) (r : Request) (old new : List (Option Device)) → all.devices ≡ old → new ≡ changed (of_driver all r) old → new ≡ each_driver_in all r (without r)
of_all all r old new same e = e ∙ ap (changed (of_driver all r)) (sym same)

pub returns-in-Interrupt : goal.returns-in-Interrupt
returns-in-Interrupt c all same drive =
    of_all all c.args.request.now c.args.self.now _ same
    (narrowed_seen c.self.inside.enabled (λ s place. option_map without_front place) (of_driver all c.args.request.now) c.args.drivers c.self.inside.occupants c.each.new.self c.args.self.now c.each.ensures.slots
    (blind_accept (Interrupt 0)) c.self.view_is c.each.ensures.changed (λ s l.
    ap (λ r. within c.args.drivers (λ k place. taken_from r place) s (get_or c.args.self.now s None)) (sym c.in-Interrupt.is)
    ∙ accepted_alike all c.args.request.now s (get_or c.args.self.now s None) c.args.drivers (drive s l)))

pub returns-in_default : goal.returns-in_default
returns-in_default c all same drive =
    of_all all c.args.request.now c.args.self.now _ same
    (narrowed_seen c.self.inside.enabled (λ s place. taken_from c.args.request.now place) (of_driver all c.args.request.now) c.args.drivers c.self.inside.occupants c.each-in_default.new.self c.args.self.now c.each-in_default.ensures.slots
    (blind_accept c.args.request.now) c.self.view_is c.each-in_default.ensures.changed (λ s l. accepted_alike all c.args.request.now s (get_or c.args.self.now s None) c.args.drivers (drive s l)))
