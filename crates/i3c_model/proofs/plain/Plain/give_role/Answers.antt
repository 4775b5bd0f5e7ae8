use Rattle.std.proofs.Common.{refl, sym, ◌∙◌}
use Rattle.std.proofs.lemmas.Option.{none-some}
use Rattle.i3c_model.proofs.Clearing.{handed_there}
use Rattle.i3c_model.proofs.States.{device_there, within_written}
use Rattle.i3c_model.proofs.plain.Plain.give_role.Goals as goal

pub unreachable-requires : goal.unreachable-requires
unreachable-requires c = none-some c.requires.present.0 (sym (device_there c.self.inside c.args.self.now c.self.view_is c.self.invariant c.args.slot ∙ sym c.in_default.ensures.value) ∙ c.requires.present.1)

pub invariant_of-self : goal.invariant_of-self
invariant_of-self c = within_written c.self.inside _ c.args.slot c.in-Some.device.now c.lose_role_wish.new.self (refl, refl) refl c.index.ensures.in_range (c.get_mut.follows.holds c.lose_role_wish.new.self) c.in-Some.ensures.value c.self.invariant

pub returns : goal.returns
returns c = c.take_over.ensures ∙ handed_there c.self.inside c.args.self.now c.self.view_is c.self.invariant (c.get_mut.follows.lender c.lose_role_wish.new.self) c.args.slot c.in-Some.device.now c.lose_role_wish.new.self c.index.ensures.in_range (c.get_mut.follows.holds c.lose_role_wish.new.self) c.in-Some.ensures.value c.lose_role_wish.ensures c.args.own
