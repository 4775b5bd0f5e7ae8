use Rattle.std.proofs.Common.{refl, ap, ◌∙◌}
use Rattle.i3c_base.specs.State.{attached}
use Rattle.i3c_model.proofs.States.{after_error, devices_there, placed_there, same_devices, within_put}
use Rattle.i3c_model.proofs.plain.Plain.attach.Goals as goal

pub returns-in_err-insert-clause-unchanged : goal.returns-in_err-insert-clause-unchanged
returns-in_err-insert-clause-unchanged c = after_error _ (same_devices c.self.inside c.args.self.now c.self.view_is c.self.invariant c.insert.new.self c.in_err-insert.ensures.err)

pub invariant_of-self-2 : goal.invariant_of-self-2
invariant_of-self-2 c = within_put c.self.inside _ c.args.slot _ (refl, refl) refl c.index.ensures.in_range c.in_ok-insert.ensures.updates c.self.invariant

pub returns-clause-attached : goal.returns-clause-attached
returns-clause-attached c =
    let made = c.new-device.ensures ∙ ap (λ fixed. attached fixed c.args.setup.now) c.fixed_of-fixed.ensures in
    devices_there c.self.inside c.args.self.now c.self.view_is c.self.invariant c.insert.new.self _ (rw made at (placed_there c.self.inside c.args.self.now c.self.view_is c.self.invariant c.insert.new.self c.args.slot _ c.index.ensures.in_range c.in_ok-insert.ensures.updates))
