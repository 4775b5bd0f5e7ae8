-- A raise that isn't refused leaves a whole bus.
use Rattle.std.proofs.Common.{◌∙◌, ◌==◌, ℕ, ap, sym}
use Rattle.i3c_base.specs.State.{Held}
use Rattle.i3c_bus.specs.Parts.{state_of}
use Rattle.i3c_bus.proofs.RaiseSteps.{given_there, whole_raise}
use Rattle.i3c_bus.proofs.bus.Bus.raise.Goals as goal

pub invariant_of-self-2 : goal.invariant_of-self-2
invariant_of-self-2 c =
    let there = given_there _ (sym c.holds.ensures ∙ c.if-not-holds.false) in
    whole_raise (state_of c.self.inside.devices c.self.inside.raised c.self.inside.active c.self.inside.table c.self.inside.legacy c.self.inside.in_session c.self.inside.records.items) c.self.inside.table c.self.inside.list
    c.raise.new.self c.set.new.self c.args.slot c.at.result c.in_ok-number.number c.args.byte there.0 c.self.invariant c.at.ensures there.1
    (ap (λ (k : ℕ). c.args.slot == k) (ap (λ (h : Held). h.state.active) c.self.view_is ∙ sym c.active.ensures) ∙ (sym c.eq.ensures ∙ c.if-eq.false))
    (c.in_ok-number.ensures.fault there.0 there.1) c.in_ok-number.ensures.raised c.set.ensures
