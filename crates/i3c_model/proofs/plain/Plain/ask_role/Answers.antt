use Rattle.std.proofs.Common.{drop, refl, sym, true, ◌∙◌}
use Rattle.i3c_step.specs.declared.events.Event.TheVariants.{AskRole}
use Rattle.i3c_step.specs.Step.{checks}
use Rattle.i3c_model.proofs.Stepping.{present_there}
use Rattle.i3c_model.proofs.States.{changed_there, device_there, within_written}
use Rattle.i3c_model.proofs.plain.Plain.ask_role.Goals as goal

pub unreachable-requires : goal.unreachable-requires
unreachable-requires c = present_there c.args.self.now c.args.slot (drop 1 (checks c.args.self.now (AskRole c.args.slot))) c.requires.allowed (device_there c.self.inside c.args.self.now c.self.view_is c.self.invariant c.args.slot ∙ sym c.in_default.ensures.value)

pub invariant_of-self : goal.invariant_of-self
invariant_of-self c = within_written c.self.inside _ c.args.slot c.in-Some.device.now c.wish_role.new.self (refl, refl) refl c.index.ensures.in_range (c.get_mut.follows.holds c.wish_role.new.self) c.in-Some.ensures.value c.self.invariant

pub returns : goal.returns
returns c = changed_there c.self.inside c.args.self.now c.self.view_is c.self.invariant (c.get_mut.follows.lender c.wish_role.new.self) c.args.slot c.in-Some.device.now c.wish_role.new.self (λ d. record d { role_wish = true }) c.index.ensures.in_range (c.get_mut.follows.holds c.wish_role.new.self) c.in-Some.ensures.value c.wish_role.ensures
