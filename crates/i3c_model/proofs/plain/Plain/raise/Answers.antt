use Rattle.std.proofs.Common.{drop, ◌+◌, ℕ, suc, Some, arith, get_or, refl, set, subst, sym, ◌∙◌, ◌≡◌}
use Rattle.std.specs.BTreeMap.{Updates}
use Rattle.std.specs.Ordering.{nat_cmp}
use Rattle.i3c_base.specs.Local.{raise}
use Rattle.i3c_base.specs.State.{Device}
use Rattle.i3c_model.specs.Views.{state_of}
use Rattle.i3c_model.proofs.PlaceLaws.{written_puts, written_same}
use Rattle.i3c_model.proofs.States.{after_error, device_there, raised_there, same_devices, within_written}
use Rattle.i3c_step.specs.declared.events.Event.TheVariants.{Raise}
use Rattle.i3c_step.specs.Step.{checks}
use Rattle.i3c_model.proofs.Stepping.{present_there}
use Rattle.i3c_model.proofs.plain.Plain.raise.Goals as goal

one_more : (n : ℕ) → n + 1 ≡ suc n
one_more n = omega arith

pub unreachable-requires : goal.unreachable-requires
unreachable-requires c = present_there c.args.self.now c.args.slot (drop 1 (checks c.args.self.now (Raise c.args.slot c.args.byte))) c.requires.allowed (device_there c.self.inside c.args.self.now c.self.view_is c.self.invariant c.args.slot ∙ sym c.in_default.ensures.value)

pub invariant_of-self : goal.invariant_of-self
invariant_of-self c = within_written c.self.inside _ c.args.slot c.in-Some.device.now c.raise.new.self (refl, refl) refl c.index-index.ensures.in_range (c.get_mut.follows.holds c.raise.new.self) c.in-Some.ensures.value c.self.invariant

pub returns-in_err-raise-clause-unchanged : goal.returns-in_err-raise-clause-unchanged
returns-in_err-raise-clause-unchanged c =
    after_error _ (same_devices c.self.inside c.args.self.now c.self.view_is c.self.invariant (c.get_mut.follows.lender c.raise.new.self)
    (written_same c.self.inside.devices (c.get_mut.follows.lender c.raise.new.self) c.args.slot c.in-Some.device.now c.raise.new.self (c.get_mut.follows.holds c.raise.new.self) c.in-Some.ensures.value c.in_err-raise.ensures.unchanged))

pub invariant_of-self-2 : goal.invariant_of-self-2
invariant_of-self-2 c = within_written c.self.inside _ c.args.slot c.in-Some.device.now c.raise.new.self (refl, refl) refl c.index-index.ensures.in_range (c.get_mut.follows.holds c.raise.new.self) c.in-Some.ensures.value c.self.invariant

pub returns-clause-raised : goal.returns-clause-raised
returns-clause-raised c =
    let put = written_puts c.self.inside.devices (c.get_mut.follows.lender c.raise.new.self) c.args.slot c.in-Some.device.now c.raise.new.self (c.get_mut.follows.holds c.raise.new.self) c.in-Some.ensures.value in
    let more = subst (λ (x : Device). Updates nat_cmp c.self.inside.devices (c.get_mut.follows.lender c.raise.new.self) c.args.slot (Some x)) c.in_ok-raise.ensures.raised put in
    subst
    (λ k. state_of (record c.self.inside { devices = c.get_mut.follows.lender c.raise.new.self; raised = set c.self.inside.raised k (get_or c.self.inside.raised k 0 + 1) }) ≡ raise c.args.slot c.args.byte c.args.self.now)
    (sym c.index-index.ensures.same)
    (raised_there c.self.inside c.args.self.now c.self.view_is c.self.invariant (c.get_mut.follows.lender c.raise.new.self) c.args.slot c.in-Some.device.now c.args.byte (get_or c.self.inside.raised c.args.slot 0 + 1) c.index-index.ensures.in_range c.in-Some.ensures.value
    (one_more (get_or c.self.inside.raised c.args.slot 0)) (rw c.index-index.ensures.same at more))
