use Rattle.std.proofs.Common.{None}
use Rattle.i3c_model.proofs.PlaceLaws.{below_gone}
use Rattle.i3c_base.specs.declared.range.TheConstants.{SLOTS}
use Rattle.i3c_model.proofs.States.{devices_there, placed_there}
use Rattle.i3c_model.proofs.plain.Plain.drop_off.Goals as goal

pub invariant_of-self : goal.invariant_of-self
invariant_of-self c = record {
  slots = below_gone SLOTS c.self.inside.devices c.remove.new.self c.args.slot c.self.invariant.slots c.remove.ensures.updates;
  statics = c.self.invariant.statics;
  declarations = c.self.invariant.declarations;
  addresses = c.self.invariant.addresses;
}

pub returns : goal.returns
returns c = devices_there c.self.inside c.args.self.now c.self.view_is c.self.invariant c.remove.new.self _ (placed_there c.self.inside c.args.self.now c.self.view_is c.self.invariant c.remove.new.self c.args.slot None c.index.ensures.in_range c.remove.ensures.updates)
