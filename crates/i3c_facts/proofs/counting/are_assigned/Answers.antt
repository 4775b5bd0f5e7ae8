use Rattle.std.proofs.Common.{◌≡◌, arith, subst}
use Rattle.i3c_base.specs.declared.range.TheConstants.{SLOTS}
use Rattle.i3c_facts.specs.Holding.{assigned_below}
use Rattle.i3c_facts.proofs.counting.are_assigned.Goals as goal

pub returns : goal.returns
returns c =
    let all : c.loop-number.number ≡ SLOTS = omega (arith, c.loop-number.auto.number-end, c.loop-number-test.false) in
    subst (λ n. c.loop-number.are ≡ assigned_below c.args.bus.now.state n) all c.loop-number.invariant
