use Rattle.std.proofs.Common.{◌≡◌, ◌∙◌, Some, ap, refl, rules, subst, sym}
use Rattle.i3c_base.specs.State.{device_at}
use Rattle.i3c_bus.specs.Readings.{address_of}
use Rattle.i3c_bus.specs.declared.hand.Hand.{Hand}
use Rattle.i3c_recorder.specs.Beginning.{first_state}
use Rattle.i3c_recorder.specs.KeptRuns.{Leads}
use Rattle.i3c_recorder.proofs.Starting.{starts_there}
use Rattle.i3c_recorder.proofs.recorder.Recorder.new.Goals as goal

pub invariant_of-result : goal.invariant_of-result
invariant_of-result c =
    let st = c.in_ok-bus.bus.state in
    let at : Some c.in-Some.address ≡ address_of (device_at st st.active) = sym c.in-Some.is ∙ c.address.ensures ∙ ap (λ s. address_of (device_at st s)) c.active.ensures in
    let begun = starts_there c.args.main c.new-beginning.result.main c.args.legacies c.new-beginning.result.legacies st c.in-Some.address c.new-beginning.ensures.main c.new-beginning.ensures.legacies c.in_ok-bus.ensures.start at in
    record {
      hand = (Hand.Role c.in_ok-bus.role, refl, c.in_ok-bus.ensures.fits);
      begun = (c.args.main, c.args.legacies, begun.0);
      legal = subst (λ run. Leads (first_state c.new-beginning.result.main c.in-Some.address c.new-beginning.result.legacies) run st) (sym c.new-2.ensures) (search rules);
    }

pub returns-clause-start : goal.returns-clause-start
returns-clause-start c =
    let st = c.in_ok-bus.bus.state in
    let at : Some c.in-Some.address ≡ address_of (device_at st st.active) = sym c.in-Some.is ∙ c.address.ensures ∙ ap (λ s. address_of (device_at st s)) c.active.ensures in
    starts_there c.args.main c.new-beginning.result.main c.args.legacies c.new-beginning.result.legacies st c.in-Some.address c.new-beginning.ensures.main c.new-beginning.ensures.legacies c.in_ok-bus.ensures.start at
