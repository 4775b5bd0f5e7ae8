-- What doesn't fit is too many in all slots.
use Rattle.std.proofs.Common.{◌≡◌, ◌∙◌, ◌+◌, ◌^◌, ◌<◌, ◌≤◌, MatchOption, ap, arith, rules, subst, sym}
use Rattle.i3c_base.specs.declared.range.TheConstants.{SLOTS}
use Rattle.i3c_base.specs.State.{device_at}
use Rattle.i3c_bus.specs.Readings.{waiting_of}
use Rattle.i3c_facts.specs.Holding.{waiting_below}
use Rattle.i3c_facts.proofs.CountLaws.{too_many}
use Rattle.i3c_facts.proofs.counting.waiting.Goals as goal

pub returns-in_err-count : goal.returns-in_err-count
returns-in_err-count c =
    let st = c.args.bus.now.state in
    let slot : c.unwrap-slot.result ≡ c.loop-number.number = search rules in
    let own : c.waiting.result ≡ waiting_of (device_at st c.loop-number.number) = c.waiting.ensures ∙ ap (λ s. waiting_of (device_at st s)) slot in
    subst (λ r. MatchOption r (2 ^ 64 ≤ waiting_below st SLOTS) (λ count. count ≡ waiting_below st SLOTS)) (sym c.from_residual.ensures)
    (too_many st c.loop-number.number SLOTS c.loop-number.count (omega (arith, c.loop-number-test.true, c.loop-number.auto.number-end)) c.loop-number.invariant
    (λ fits. c.in_err-count.ensures (subst (λ n. c.loop-number.count + n < 2 ^ 64) (sym own) fits)))
